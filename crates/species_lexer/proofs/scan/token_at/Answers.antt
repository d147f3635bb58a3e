-- The goals of `token_at` that need an answer.
use Rattle.std.proofs.Common.{sym, ◌∙◌}
use Rattle.species_lexer.proofs.Answered.{lexeme, define}
use Rattle.species_lexer.proofs.scan.token_at.Goals as goal

pub returns-in-Lexeme : goal.returns-in-Lexeme
returns-in-Lexeme c =
    lexeme c.args.text.now c.args.at c.in-Lexeme.n c.args.defined c.args.piece c.in-Lexeme.word c.in-Lexeme.kind c.kind_before.result
    c.requires.reached c.requires.within c.requires.piece c.requires.fits c.requires.definitions c.in-Lexeme.is c.kind_before.ensures

pub returns-in-Ok : goal.returns-in-Ok
returns-in-Ok c =
    define c.args.text.now c.args.at c.in-Define.n c.args.defined c.args.piece c.in-Define.name c.in-Define.value c.in-Ok.literal c.literal_before.result
    c.requires.reached c.requires.within c.requires.piece c.requires.fits c.requires.definitions c.in-Define.is c.in-Ok.is c.literal_before.ensures (sym c.is_some.ensures ∙ c.if-is_some.false)
