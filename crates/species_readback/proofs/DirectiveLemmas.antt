-- A directive on a line of its own is one token.
use Rattle.std.proofs.Common.{◌≡◌, ◌∙◌, ap, sym, refl, ℕ, suc, Bool, true, false, List, [], ◌∷◌, ◌++◌, length, take, Option, None, nat_lt}
use Rattle.std.proofs.Math.Seq.{take-append_seam}
use Rattle.std.specs.Prelude.{if◌then◌else◌}
use Rattle.std.specs.List.{list_all}
use Rattle.species_ast.specs.declared.token.TokenKind.{TokenKind}
use Rattle.species_ast.specs.Text.Characters.{line_len}
use Rattle.species_ast.specs.Text.Comments.{splice_at, last_backslash}
use Rattle.species_ast.specs.Text.Directives.{Read, form_of}
use Rattle.species_ast.specs.Text.Pieces as byte
use Rattle.species_ast.specs.Text.Stream.{in_scope}
use Rattle.species_print.specs.Printed.{spelling}
use Rattle.species_readback.proofs.TokenLemmas.{front_piece, Stands}
use Rattle.species_readback.proofs.WordLemmas.{run_word}
use Rattle.species_readback.specs.Spelt.{is_no_line_feed}

-- The line is one, is not spliced, and has the form of this token.
pub record IsDirective (t : List ℕ) (k : TokenKind) : Type 0 where
  pub more : List ℕ
  pub begins : spelling t k ≡ 35 ∷ more
  pub one_line : list_all is_no_line_feed more ≡ true
  pub whole : last_backslash (spelling t k) ≡ None
  pub is_form : form_of (spelling t k) ≡ Read t k
  pub is_kind : (n : ℕ) → in_scope [] (byte.Lexeme n t k) ≡ byte.Lexeme n t k

either_none : (c : Bool) (x : Option ℕ) → x ≡ None → (if c then x else None) ≡ None
either_none true x h = h
either_none false x h = refl

line_is : (t : List ℕ) (k : TokenKind) (bs rest : List ℕ) → list_all is_no_line_feed bs ≡ true → last_backslash (35 ∷ bs) ≡ None → form_of (35 ∷ bs) ≡ Read t k → ((n : ℕ) → in_scope [] (byte.Lexeme n t k) ≡ byte.Lexeme n t k)
    → front_piece true (35 ∷ (bs ++ (10 ∷ rest))) ≡ byte.Lexeme (suc (length bs)) t k
unfolding byte.piece_of
line_is t k bs rest one whole form same =
    let bytes = bs ++ (10 ∷ rest) in
    let len = run_word is_no_line_feed bs (10 ∷ rest) one refl in
    let all = run_word is_no_line_feed (35 ∷ bs) (10 ∷ rest) one refl in
    let splice : splice_at (35 ∷ bytes) ≡ None =
    either_none (nat_lt (line_len (35 ∷ bytes)) (length (35 ∷ bytes))) (last_backslash (take (line_len (35 ∷ bytes)) (35 ∷ bytes)))
    (ap (λ n. last_backslash (take n (35 ∷ bytes))) all ∙ ap (λ z. last_backslash (35 ∷ z)) (take-append_seam bs (10 ∷ rest)) ∙ whole) in
    ap (λ n. in_scope [] (byte.directive (suc n) (splice_at (35 ∷ bytes)) (form_of (take (suc n) (35 ∷ bytes))))) len
    ∙ ap (λ o. in_scope [] (byte.directive (suc (length bs)) o (form_of (take (suc (length bs)) (35 ∷ bytes))))) splice
    ∙ ap (λ z. in_scope [] (byte.directive (suc (length bs)) None (form_of (35 ∷ z)))) (take-append_seam bs (10 ∷ rest))
    ∙ ap (λ f. in_scope [] (byte.directive (suc (length bs)) None f)) form
    ∙ same (suc (length bs))

pub stands_directive : (t : List ℕ) (k : TokenKind) (rest : List ℕ) → IsDirective t k → Stands true t k (10 ∷ rest)
stands_directive t k rest d =
    ap (λ w. front_piece true (w ++ (10 ∷ rest))) d.begins
    ∙ line_is t k d.more rest d.one_line (sym (ap last_backslash d.begins) ∙ d.whole) (sym (ap form_of d.begins) ∙ d.is_form) d.is_kind
    ∙ ap (λ w. byte.Lexeme (length w) t k) (sym d.begins)
