-- The stream from a place on, behind each piece.
use Rattle.std.proofs.Common.{◌≡◌, ◌∙◌, ap, sym, refl, subst, ℕ, ◌+◌, ◌<◌, ◌≤◌, Bool, true, false, List, [], ◌∷◌, ◌++◌, length, drop, take, Option, Some, None, Ok, arith, append-nil, length-drop}
use Rattle.std.proofs.lemmas.List.{drop-drop}
use Rattle.std.specs.Prelude.{unwrap_or}
use Rattle.species_ast.specs.Token.{Token}
use Rattle.species_ast.specs.declared.tree.Value.{Value}
use Rattle.species_ast.specs.declared.token.TokenKind.{TokenKind}
use Rattle.species_ast.specs.declared.token.TokenKind.TheVariants as kind
use Rattle.species_ast.specs.Text.Pieces.{Piece, Space, Lexeme, Define, piece_of}
use Rattle.species_ast.specs.Text.Stream.{Definition, look_up, define_once, in_scope, defined_by, head_behind, is_definition, put, cut_piece, cut_at}
use Rattle.species_ast.proofs.Cutting.{any_bound}
use Rattle.species_lexer.specs.Pieces.{piece_at}
use Rattle.species_lexer.specs.Found.{kind_of}
use Rattle.species_lexer.specs.Cursor.{Before, over, before_at, stream_at, IsAt, DefinedBefore}
use Rattle.species_lexer.proofs.Walk.{join, at_first, over_more, one_space, one_lexeme, one_define}
use Rattle.species_lexer.proofs.Plain.{plain_piece}

-- a piece of this length, and what lies behind it
abbrev Fits : ℕ → List ℕ → Type 0
Fits n bytes = (0 < n) × (n ≤ length bytes)

pub scope_lexeme : (ds : List Definition) (n : ℕ) (text : List ℕ) (k : TokenKind) → in_scope ds (Lexeme n text k) ≡ Lexeme n text (kind_of (look_up ds text) k)
scope_lexeme ds n text kind.Name = refl
scope_lexeme ds n text _ = refl

pub plain_kind : (literal : Option Value) (k : TokenKind) (text : List ℕ) (ds : List Definition) → is_definition k ≡ false → defined_by text (kind_of literal k) ds ≡ ds
plain_kind None kind.Name text ds h = refl
plain_kind (Some v) kind.Name text ds h = refl
plain_kind literal (kind.Define v) text ds h = cc
plain_kind literal _ text ds h = refl

-- a place that the pieces before it reach
at_is : (text : List ℕ) (at : ℕ) (b : Before) → over text 0 at true ≡ Some b → before_at text at ≡ b
at_is text at b e = ap (λ o. unwrap_or o (record { is_head = false; definitions = [] })) e

keeps : (text : List ℕ) (at : ℕ) (b : Before) → over text 0 at true ≡ Some b → (before_at text at).definitions ≡ b.definitions
keeps text at b e = ap (λ x. x.definitions) (at_is text at b e)

reaches : (text : List ℕ) (at : ℕ) (b : Before) → over text 0 at true ≡ Some b → IsAt text at b.is_head
reaches text at b e = record { ends = e ∙ ap Some (sym (at_is text at b e)); head = ap (λ x. x.is_head) (at_is text at b e) }

pub first : (text : List ℕ) → IsAt text 0 true
first text = reaches text 0 (at_first true) (go text)
  where
    go : (bytes : List ℕ) → over bytes 0 0 true ≡ Some (at_first true)
    go [] = refl
    go (x ∷ bytes) = refl

-- the definitions stand before the same place, also behind a piece that defines no name
pub defined_still : (text : List ℕ) (defined at more : ℕ) → DefinedBefore text defined at → at ≤ more → (before_at text more).definitions ≡ (before_at text at).definitions → DefinedBefore text defined more
defined_still text defined at more d le same = record { within = omega (arith, d.within, le); ends = d.ends; same = d.same ∙ sym same }

pub defined_here : (text : List ℕ) (at : ℕ) (is_head : Bool) → IsAt text at is_head → DefinedBefore text at at
defined_here text at is_head here = record { within = omega arith; ends = here.ends; same = refl }

-- behind some bytes more
further : (text rest : List ℕ) (at n : ℕ) (b c : Before) → over text 0 at true ≡ Some b → drop at text ≡ rest → over rest 0 n b.is_head ≡ Some c
    → over text 0 (at + n) true ≡ Some (record { is_head = c.is_head; definitions = b.definitions ++ c.definitions })
further text rest at n b c e r is = over_more text 0 at n (at + n) true b refl e ∙ ap (λ z. join b (over z 0 n b.is_head)) r ∙ ap (join b) is

-- the stream at a place, by what stands there
step : (text rest : List ℕ) (at x : ℕ) (b : Before) → over text 0 at true ≡ Some b → drop at text ≡ x ∷ rest
    → stream_at text at ≡ cut_piece (cut_at (length rest)) at b.is_head b.definitions (x ∷ rest) (in_scope b.definitions (piece_of b.is_head x rest))
step text rest at x b e r =
    ap (λ c. cut_at (length (drop at text)) at c.is_head c.definitions (drop at text)) (at_is text at b e)
    ∙ ap (λ z. cut_at (length z) at b.is_head b.definitions z) r

-- the stream behind some bytes more
behind : (text rest : List ℕ) (at n x : ℕ) (c : Before) → over text 0 (at + n) true ≡ Some c → drop at text ≡ x ∷ rest → Fits n (x ∷ rest)
    → cut_at (length rest) (at + n) c.is_head c.definitions (drop n (x ∷ rest)) ≡ stream_at text (at + n)
behind text rest at n x c e r fits =
    any_bound (length rest) (length (drop n (x ∷ rest))) (at + n) c.is_head c.definitions (drop n (x ∷ rest)) (omega (arith, fits.0, fits.1, length-drop n (x ∷ rest))) (omega arith)
    ∙ ap (λ z. cut_at (length z) (at + n) c.is_head c.definitions z) (ap (drop n) (sym r) ∙ drop-drop n at text)
    ∙ sym (ap (λ d. cut_at (length (drop (at + n) text)) (at + n) d.is_head d.definitions (drop (at + n) text)) (at_is text (at + n) c e))

-- ---- by the kinds of pieces

-- the bytes at a place, where a piece stands there
record Stands (text : List ℕ) (at : ℕ) (is_head : Bool) (p : Piece) : Type 0 where
  x : ℕ
  rest : List ℕ
  is : drop at text ≡ x ∷ rest
  piece : piece_of (before_at text at).is_head x rest ≡ p

stands : (text : List ℕ) (at : ℕ) (is_head : Bool) (p : Piece) → IsAt text at is_head → piece_at is_head (drop at text) ≡ Some p → Stands text at is_head p
stands text at is_head p here e = go (drop at text) refl (ap (λ h. piece_at h (drop at text)) here.head ∙ e)
  where
    piece_is : (a b : Piece) → Some a ≡ Some b → a ≡ b
    piece_is a b f = cc

    go : (z : List ℕ) → drop at text ≡ z → piece_at (before_at text at).is_head (drop at text) ≡ Some p → Stands text at is_head p
    go [] r f = let y : None ≡ Some p = sym (ap (piece_at (before_at text at).is_head) r) ∙ f in cc
    go (x ∷ rest) r f = record { x = x; rest = rest; is = r; piece = piece_is _ p (sym (ap (piece_at (before_at text at).is_head) r) ∙ f) }

pub after_space : (text : List ℕ) (at n : ℕ) (is_head : Bool) → IsAt text at is_head → piece_at is_head (drop at text) ≡ Some (Space n) → Fits n (drop at text)
    → IsAt text (at + n) (head_behind is_head (take n (drop at text))) × ((before_at text (at + n)).definitions ≡ (before_at text at).definitions) × (stream_at text (at + n) ≡ stream_at text at)
after_space text at n is_head here e fits =
    let s = stands text at is_head (Space n) here e in
    let b = before_at text at in
    let c : Before = record { is_head = head_behind b.is_head (take n (s.x ∷ s.rest)); definitions = b.definitions } in
    let f : Fits n (s.x ∷ s.rest) = subst (Fits n) s.is fits in
    let o : over text 0 (at + n) true ≡ Some c =
    further text (s.x ∷ s.rest) at n b (at_first (head_behind b.is_head (take n (s.x ∷ s.rest)))) here.ends s.is (one_space s.x s.rest n b.is_head s.piece f.0 f.1)
    ∙ ap (λ ds. Some (record { is_head = head_behind b.is_head (take n (s.x ∷ s.rest)); definitions = ds })) (append-nil b.definitions) in (
      subst (IsAt text (at + n)) (ap (λ z. head_behind b.is_head (take n z)) (sym s.is) ∙ ap (λ h. head_behind h (take n (drop at text))) here.head) (reaches text (at + n) c o),
      keeps text (at + n) c o,
      sym (step text s.rest at s.x b here.ends s.is
          ∙ ap (λ p. cut_piece (cut_at (length s.rest)) at b.is_head b.definitions (s.x ∷ s.rest) (in_scope b.definitions p)) s.piece
          ∙ behind text s.rest at n s.x c o s.is f),
    )

pub after_lexeme : (text : List ℕ) (at n : ℕ) (is_head : Bool) (word : List ℕ) (k : TokenKind) → IsAt text at is_head → piece_at is_head (drop at text) ≡ Some (Lexeme n word k) → Fits n (drop at text)
    → IsAt text (at + n) false × ((before_at text (at + n)).definitions ≡ (before_at text at).definitions) × (stream_at text at ≡ put (record { place = at; text = word; kind = kind_of (look_up (before_at text at).definitions word) k }) (stream_at text (at + n)))
after_lexeme text at n is_head word k here e fits =
    let s = stands text at is_head (Lexeme n word k) here e in
    let b = before_at text at in
    let c : Before = record { is_head = false; definitions = b.definitions } in
    let f : Fits n (s.x ∷ s.rest) = subst (Fits n) s.is fits in
    let o : over text 0 (at + n) true ≡ Some c =
    further text (s.x ∷ s.rest) at n b (at_first false) here.ends s.is (one_lexeme s.x s.rest n b.is_head word k s.piece f.0 f.1)
    ∙ ap (λ ds. Some (record { is_head = false; definitions = ds })) (append-nil b.definitions) in
    let literal = look_up b.definitions word in
    let t : Token = record { place = at; text = word; kind = kind_of literal k } in (
      reaches text (at + n) c o,
      keeps text (at + n) c o,
      step text s.rest at s.x b here.ends s.is
          ∙ ap (λ p. cut_piece (cut_at (length s.rest)) at b.is_head b.definitions (s.x ∷ s.rest) p) (ap (in_scope b.definitions) s.piece ∙ scope_lexeme b.definitions n word k)
          ∙ ap (λ ds. put t (cut_at (length s.rest) (at + n) false ds (drop n (s.x ∷ s.rest)))) (plain_kind literal k word b.definitions (plain_piece b.is_head s.x s.rest n word k s.piece))
          ∙ ap (put t) (behind text s.rest at n s.x c o s.is f),
    )

pub after_define : (text : List ℕ) (at n : ℕ) (is_head : Bool) (name : List ℕ) (v : Value) → IsAt text at is_head → piece_at is_head (drop at text) ≡ Some (Define n name (Ok v)) → Fits n (drop at text)
    → look_up (before_at text at).definitions name ≡ None
    → IsAt text (at + n) false × (stream_at text at ≡ put (record { place = at; text = name; kind = kind.Define v }) (stream_at text (at + n)))
after_define text at n is_head name v here e fits new =
    let s = stands text at is_head (Define n name (Ok v)) here e in
    let b = before_at text at in
    let d : Definition = record { name = name; literal = v } in
    let c : Before = record { is_head = false; definitions = b.definitions ++ d ∷ [] } in
    let f : Fits n (s.x ∷ s.rest) = subst (Fits n) s.is fits in
    let o : over text 0 (at + n) true ≡ Some c =
    further text (s.x ∷ s.rest) at n b (record { is_head = false; definitions = d ∷ [] }) here.ends s.is (one_define s.x s.rest n b.is_head d s.piece f.0 f.1) in (
      reaches text (at + n) c o,
      step text s.rest at s.x b here.ends s.is
          ∙ ap (λ p. cut_piece (cut_at (length s.rest)) at b.is_head b.definitions (s.x ∷ s.rest) p) (ap (in_scope b.definitions) s.piece ∙ ap (λ q. define_once q n name (Ok v)) new)
          ∙ ap (put (record { place = at; text = name; kind = kind.Define v })) (behind text s.rest at n s.x c o s.is f),
    )
