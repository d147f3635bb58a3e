-- Lemmas on the loop over blanks and comments.
use Rattle.std.proofs.Common.{◌≡◌, ◌∙◌, ap, sym, subst, ℕ, ◌<◌, ◌≤◌, ◌+◌, Bool, List, length, drop, take, Option, Some, None, arith, length-drop}
use Rattle.std.specs.Prelude.{option_map, IfSome}
use Rattle.species_ast.specs.Text.Pieces as text
use Rattle.species_ast.specs.Text.Stream.{head_behind}
use Rattle.species_lexer.specs.declared.piece.Piece.{Piece}
use Rattle.species_lexer.specs.declared.piece.Piece.TheVariants as piece
use Rattle.species_lexer.specs.Pieces.{seen_piece, piece_at, Fits}
use Rattle.species_lexer.specs.Cursor.{IsAt}
use Rattle.species_lexer.specs.Found.{space_in, IsSolid, Passes}
use Rattle.species_lexer.proofs.Streams.{after_space}

pub solid : (o : Option Piece) (bytes : List ℕ) → IfSome o (λ p. Fits p bytes) → space_in o ≡ 0 → IsSolid o
solid None bytes fits none = tt
solid (Some (piece.Space n)) bytes fits none = omega (arith, fits.0, none)
solid (Some (piece.Lexeme n text kind)) bytes fits none = tt
solid (Some (piece.Define n name value)) bytes fits none = tt
solid (Some (piece.Refused fault)) bytes fits none = tt

space_is : (o : Option Piece) (n : ℕ) (bytes : List ℕ) → n ≡ space_in o → 0 < n → IfSome o (λ p. Fits p bytes) → (option_map seen_piece o ≡ Some (text.Space n)) × (n ≤ length bytes)
space_is None n bytes is some fits = let x : ⊥ = omega (arith, is, some) in absurd x
space_is (Some (piece.Space m)) n bytes is some fits = (ap (λ i. Some (text.Space i)) (sym is), omega (arith, is, fits.1))
space_is (Some (piece.Lexeme m text kind)) n bytes is some fits = let x : ⊥ = omega (arith, is, some) in absurd x
space_is (Some (piece.Define m name value)) n bytes is some fits = let x : ⊥ = omega (arith, is, some) in absurd x
space_is (Some (piece.Refused fault)) n bytes is some fits = let x : ⊥ = omega (arith, is, some) in absurd x

-- one turn of the loop
pub past_one : (text rest front : List ℕ) (at n start : ℕ) (is_head head : Bool) (o : Option Piece)
    → Passes text start at is_head → rest ≡ drop at text → front ≡ take n rest → head ≡ head_behind is_head front
    → option_map seen_piece o ≡ piece_at is_head rest → IfSome o (λ p. Fits p rest) → n ≡ space_in o → 0 < n
    → Passes text start (at + n) head
past_one text rest front at n start is_head head o p re fe he is fits ne some =
    let s = space_is o n rest ne some fits in
    let a = after_space text at n is_head p.reached (sym (ap (piece_at is_head) re) ∙ sym is ∙ s.0) (some, subst (λ z. n ≤ length z) re s.1) in
    record {
      forward = omega (arith, p.forward);
      within = omega (arith, p.within, s.1, ap length re, length-drop at text);
      reached = subst (IsAt text (at + n)) (sym (he ∙ ap (head_behind is_head) (fe ∙ ap (take n) re))) a.0;
      definitions = a.1 ∙ p.definitions;
      same = a.2 ∙ p.same;
    }
