-- The goals of `add` that need an answer.
use Rattle.std.proofs.Common.{rules, ◌≡◌, ◌∙◌, ap, sym, subst, ◌+◌, ◌++◌, ◌∷◌, [], false, None}
use Rattle.species_ast.specs.declared.token.TokenKind.TheVariants as kind
use Rattle.species_ast.specs.Text.Stream.{look_up}
use Rattle.species_lexer.specs.declared.piece.Piece.TheVariants as piece
use Rattle.species_lexer.specs.Pieces.{seen_piece, Fits}
use Rattle.species_lexer.specs.Fed.{CutPart}
use Rattle.species_lexer.specs.SeenCut.{seen_cut}
use Rattle.species_lexer.proofs.Feeding.{adds_lexeme, adds_define, none_is}
use Rattle.species_lexer.proofs.cut.Cut.add.Goals as goal

pub returns-in_ok-push-in-Lexeme : goal.returns-in_ok-push-in-Lexeme
returns-in_ok-push-in-Lexeme c =
    let old = c.args.self.now in
    let l = c.in-Lexeme in
    let fits = subst (λ q. Fits q c.args.rest.now) l.is c.requires.fits in
    let after : CutPart = record { tokens = old.table.tokens ++ (record { place = old.table.length; text = l.text.now; kind = c.kind_of-kind.result } ∷ []); definitions = old.names; place = old.table.length + l.n; is_head = false } in
    let new : seen_cut c.behind_token.new.self ≡ after = search rules in
    adds_lexeme (seen_cut old) (seen_cut c.behind_token.new.self) c.args.rest.now (seen_piece c.args.piece) l.n l.text.now l.kind c.kind_of-kind.result
    c.requires.piece (ap seen_piece l.is) fits.0 fits.1 c.kind_of-kind.ensures new

pub returns-in_ok-define-in-Ok : goal.returns-in_ok-define-in-Ok
returns-in_ok-define-in-Ok c =
    let old = c.args.self.now in
    let d = c.in-Define in
    let name = d.name.now in
    let is = d.is ∙ ap (λ v. piece.Define d.n d.name v) c.in-Ok.is in
    let fits = subst (λ q. Fits q c.args.rest.now) is c.requires.fits in
    let after : CutPart =
    record {
      tokens = old.table.tokens ++ (record { place = old.table.length; text = name; kind = kind.Define c.in-Ok.literal } ∷ []);
      definitions = old.names ++ (record { name = name; literal = c.in-Ok.literal } ∷ []);
      place = old.table.length + d.n;
      is_head = false;
    } in
    let new : seen_cut c.behind_token-in-Ok.new.self ≡ after = search rules in
    let first : look_up old.names name ≡ None = none_is c.literal.result _ c.literal.ensures (sym c.is_some.ensures ∙ c.if-is_some.false) in
    adds_define (seen_cut old) (seen_cut c.behind_token-in-Ok.new.self) c.args.rest.now (seen_piece c.args.piece) d.n name c.in-Ok.literal (ap seen_piece is) first fits.0 fits.1 new
