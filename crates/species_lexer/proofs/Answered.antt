-- What the scan answers where a token stands.
use Rattle.std.proofs.Common.{◌≡◌, ◌∙◌, ap, sym, refl, subst, ℕ, ◌≤◌, ◌+◌, false, true, List, length, drop, Option, Some, None, Result, Ok, arith, length-drop}
use Rattle.std.specs.Prelude.{is_some}
use denote.Ref.{Bor}
use Rattle.species_ast.specs.declared.tree.Value.{Value}
use Rattle.species_ast.specs.declared.token.TokenKind.{TokenKind}
use Rattle.species_ast.specs.declared.token.TokenKind.TheVariants as kind
use Rattle.species_ast.specs.Text.Stream.{look_up, put}
use Rattle.species_lexer.specs.declared.fault.Fault.{Fault}
use Rattle.species_lexer.specs.declared.piece.Piece.{Piece}
use Rattle.species_lexer.specs.declared.piece.Piece.TheVariants as piece
use Rattle.species_lexer.specs.Pieces.{seen_piece, piece_at, Fits}
use Rattle.species_lexer.specs.Cursor.{over, before_at, stream_at, IsAt, DefinedBefore}
use Rattle.species_lexer.specs.Found.{kind_of, AnswersAt}
use Rattle.species_lexer.proofs.Streams.{defined_still, defined_here, after_lexeme, after_define}

here : (text : List ℕ) (at : ℕ) → over text 0 at true ≡ Some (before_at text at) → IsAt text at (before_at text at).is_head
here text at reached = record { ends = reached; head = refl }

pub lexeme : (text : List ℕ) (at n defined : ℕ) (o : Piece) (word : Bor (List ℕ)) (k found : TokenKind)
    → over text 0 at true ≡ Some (before_at text at) → at ≤ length text
    → Some (seen_piece o) ≡ piece_at (before_at text at).is_head (drop at text) → Fits o (drop at text) → DefinedBefore text defined at
    → o ≡ piece.Lexeme n word k → found ≡ kind_of (look_up (before_at text defined).definitions word.now) k
    → AnswersAt text at (Ok (Some (record { token = record { place = at; text = word; kind = found }; at = at + n; defined = defined })))
lexeme text at n defined o word k found reached within is fits before oe ke =
    let f = subst (λ q. Fits q (drop at text)) oe fits in
    let a = after_lexeme text at n (before_at text at).is_head word.now k (here text at reached) (sym is ∙ ap (λ q. Some (seen_piece q)) oe) f in
    let same = ke ∙ ap (λ ds. kind_of (look_up ds word.now) k) before.same in (
      omega (arith, within, f.1, length-drop at text),
      a.0,
      defined_still text defined at (at + n) before (omega arith) a.1,
      a.2 ∙ ap (λ q. put (record { place = at; text = word.now; kind = q }) (stream_at text (at + n))) (sym same),
    )

none_is : (found o : Option Value) → found ≡ o → is_some found ≡ false → o ≡ None
none_is found None e h = refl
none_is None (Some v) e h = cc
none_is (Some w) (Some v) e h = cc

pub define : (text : List ℕ) (at n defined : ℕ) (o : Piece) (name : Bor (List ℕ)) (value : Result Value Fault) (v : Value) (found : Option Value)
    → over text 0 at true ≡ Some (before_at text at) → at ≤ length text
    → Some (seen_piece o) ≡ piece_at (before_at text at).is_head (drop at text) → Fits o (drop at text) → DefinedBefore text defined at
    → o ≡ piece.Define n name value → value ≡ Ok v → found ≡ look_up (before_at text defined).definitions name.now → is_some found ≡ false
    → AnswersAt text at (Ok (Some (record { token = record { place = at; text = name; kind = kind.Define v }; at = at + n; defined = at + n })))
define text at n defined o name value v found reached within is fits before oe ve fe none =
    let e = oe ∙ ap (λ q. piece.Define n name q) ve in
    let f = subst (λ q. Fits q (drop at text)) e fits in
    let a = after_define text at n (before_at text at).is_head name.now v (here text at reached) (sym is ∙ ap (λ q. Some (seen_piece q)) e) f (none_is found (look_up (before_at text at).definitions name.now) (fe ∙ ap (λ ds. look_up ds name.now) before.same) none) in
    (omega (arith, within, f.1, length-drop at text), a.0, defined_here text (at + n) false a.0, a.1)
