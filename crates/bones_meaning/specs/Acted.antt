-- What an action does to the arrays, and the answer to a read (OpenMP 4.5, 2.13.6).
use Rattle.std.specs.Prelude.{Option, Some, None}
use Rattle.species_ast.specs.declared.action.Action.{Action}
use Rattle.species_ast.specs.declared.action.Action.TheVariants as action
use Rattle.species_ast.specs.declared.tree.Value.{Value}
use Rattle.species_ast.specs.Accesses.{Joins, Cells, Element, cell, changed}
use Rattle.bones_meaning.specs.Plays.{element}

-- the arrays after an action; the end and a fault change nothing
abbrev pub acted : Joins → Action → Cells → Cells
acted join (action.Read a i) m = m
acted join (action.Write a i v) m = changed m (element a i) (λ c. v)
acted join (action.Add a i v) m = changed m (element a i) (λ c. join a c v)
acted join action.Done m = m
acted join action.Fault m = m

-- a read is answered by the element's value
abbrev pub answer : Action → Cells → Option Value
answer (action.Read a i) m = Some (cell m (element a i))
answer (action.Write a i v) m = None
answer (action.Add a i v) m = None
answer action.Done m = None
answer action.Fault m = None
