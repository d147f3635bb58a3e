-- The header of a loop as the grammar has it.
use Rattle.species_ast.specs.Spelling.{Spelling}
use Rattle.species_ast.specs.Grammar.Statements as grammar
use Rattle.species_ast.specs.declared.tree.Test.{Test}
use Rattle.species_ast.specs.declared.raw.RawExpr.{RawExpr}
use Rattle.species_ast.specs.declared.raw.RawStep.{RawStep}
use Rattle.species_parser.specs.declared.headers.LoopHeader.{LoopHeader}
use Rattle.species_parser.specs.declared.headers.LoopTest.{LoopTest}

-- what follows the start of a header
pub record Tested : Type 0 where
  pub tested : Spelling
  pub test : Test
  pub limit : RawExpr
  pub step : RawStep

-- the same of what the function keeps
abbrev pub seen_test : LoopTest → Tested
seen_test t = record { tested = t.tested; test = t.test; limit = t.limit; step = t.step }

-- the header of what the function keeps
abbrev pub seen_header : LoopHeader → grammar.Header
seen_header h = record { typed = h.typed; iter = h.iter; start = h.start; tested = h.test.tested; test = h.test.test; limit = h.test.limit; step = h.test.step }
