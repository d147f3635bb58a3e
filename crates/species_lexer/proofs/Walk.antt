-- Walking over the pieces of a text.
use Rattle.std.proofs.Common.{◌≡◌, ◌∙◌, ap, refl, ℕ, zero, suc, ◌+◌, ◌-◌, ◌<◌, ◌≤◌, Bool, false, List, [], ◌∷◌, ◌++◌, length, drop, take, Option, Some, None, Ok, Err, arith}
use Rattle.species_ast.specs.declared.token.TokenKind.{TokenKind}
use Rattle.species_ast.specs.Text.Pieces.{Piece, Space, Lexeme, Define, Refused, piece_of}
use Rattle.species_ast.specs.Text.Stream.{Definition, head_behind}
use Rattle.species_lexer.specs.Cursor.{Before, with_definition, over_piece, over}

-- what lies before a place, where this lies before it and that between
abbrev pub join : Before → Option Before → Option Before
join b None = None
join b (Some c) = Some (record { is_head = c.is_head; definitions = b.definitions ++ c.definitions })

abbrev pub at_first : Bool → Before
at_first is_head = record { is_head = is_head; definitions = [] }

join_first : (is_head : Bool) (o : Option Before) → o ≡ join (at_first is_head) o
join_first is_head None = refl
join_first is_head (Some c) = refl

some_is : (x y : Before) → Some x ≡ Some y → x ≡ y
some_is x y e = cc

join_definition : (d : Definition) (c : Before) (o : Option Before) → with_definition d (join c o) ≡ join (record c { definitions = d ∷ c.definitions }) o
join_definition d c None = refl
join_definition d c (Some x) = refl

over_join : (bytes all : List ℕ) (k m n : ℕ) (is_head : Bool) (b : Before) (p : Piece)
    → ((skip : ℕ) (head : Bool) (c : Before) → over bytes skip k head ≡ Some c → over bytes skip m head ≡ join c (over (drop k bytes) 0 n c.is_head))
    → over_piece (λ skip head. over bytes skip k head) is_head all p ≡ Some b
    → over_piece (λ skip head. over bytes skip m head) is_head all p ≡ join b (over (drop k bytes) 0 n b.is_head)
over_join bytes all k m n is_head b (Space i) next e = next (i - 1) (head_behind is_head (take i all)) b e
over_join bytes all k m n is_head b (Lexeme i text kind) next e = next (i - 1) false b e
over_join bytes all k m n is_head b (Define i name (Ok v)) next e = go (over bytes (i - 1) k false) refl e
  where
    d : Definition
    d = record { name = name; literal = v }

    go : (o : Option Before) → over bytes (i - 1) k false ≡ o → with_definition d o ≡ Some b → with_definition d (over bytes (i - 1) m false) ≡ join b (over (drop k bytes) 0 n b.is_head)
    go None is f = cc
    go (Some c) is f =
        ap (with_definition d) (next (i - 1) false c is) ∙ join_definition d c (over (drop k bytes) 0 n c.is_head)
        ∙ ap (λ x. join x (over (drop k bytes) 0 n x.is_head)) (some_is (record c { definitions = d ∷ c.definitions }) b f)
over_join bytes all k m n is_head b (Define i name (Err r)) next e = cc
over_join bytes all k m n is_head b (Refused r) next e = cc

first_joined : (bytes : List ℕ) (m n : ℕ) (is_head : Bool) (b : Before) → m ≡ n → Some (at_first is_head) ≡ Some b → over bytes 0 m is_head ≡ join b (over bytes 0 n b.is_head)
first_joined bytes m n is_head b me e =
    ap (λ i. over bytes 0 i is_head) me ∙ join_first is_head (over bytes 0 n is_head) ∙ ap (λ x. join x (over bytes 0 n x.is_head)) (some_is (at_first is_head) b e)

-- what lies before a place behind another
pub over_more : (bytes : List ℕ) (skip k n m : ℕ) (is_head : Bool) (b : Before) → m ≡ k + n → over bytes skip k is_head ≡ Some b
    → over bytes skip m is_head ≡ join b (over (drop k bytes) 0 n b.is_head)
over_more [] zero zero n m is_head b me e = first_joined [] m n is_head b (omega (arith, me)) e
over_more [] (suc skip) zero n m is_head b me e = cc
over_more [] zero (suc k) n m is_head b me e = cc
over_more [] (suc skip) (suc k) n m is_head b me e = cc
over_more (x ∷ bytes) zero zero n m is_head b me e = first_joined (x ∷ bytes) m n is_head b (omega (arith, me)) e
over_more (x ∷ bytes) (suc skip) zero n m is_head b me e = cc
over_more (x ∷ bytes) skip (suc k) n zero is_head b me e = let y : ⊥ = omega (arith, me) in absurd y
over_more (x ∷ bytes) (suc skip) (suc k) n (suc m) is_head b me e = over_more bytes skip k n m is_head b (omega (arith, me)) e
over_more (x ∷ bytes) zero (suc k) n (suc m) is_head b me e =
    over_join bytes (x ∷ bytes) k m n is_head b (piece_of is_head x bytes) (λ skip head c is. over_more bytes skip k n m head c (omega (arith, me)) is) e

-- the rest of a piece
over_rest : (bytes : List ℕ) (n : ℕ) (is_head : Bool) → n ≤ length bytes → over bytes n n is_head ≡ Some (at_first is_head)
over_rest [] zero is_head fits = refl
over_rest [] (suc n) is_head fits = let y : ⊥ = omega (arith, fits) in absurd y
over_rest (x ∷ bytes) zero is_head fits = refl
over_rest (x ∷ bytes) (suc n) is_head fits = over_rest bytes n is_head (omega (arith, fits))

-- the end of what is left of a piece
pub over_behind : (bytes : List ℕ) (skip n : ℕ) (is_head : Bool) (b : Before) → over bytes skip n is_head ≡ Some b → (skip ≤ n) × (over (drop skip bytes) 0 (n - skip) is_head ≡ Some b)
over_behind bytes zero n is_head b e = let k : n - 0 ≡ n = omega arith in (omega arith, ap (λ i. over bytes 0 i is_head) k ∙ e)
over_behind [] (suc skip) zero is_head b e = cc
over_behind [] (suc skip) (suc n) is_head b e = cc
over_behind (x ∷ bytes) (suc skip) zero is_head b e = cc
over_behind (x ∷ bytes) (suc skip) (suc n) is_head b e =
    let ih = over_behind bytes skip n is_head b e in
    let k : suc n - suc skip ≡ n - skip = omega arith in
    (omega (arith, ih.0), ap (λ i. over (drop skip bytes) 0 i is_head) k ∙ ih.1)

-- one piece
one_rest : (bytes : List ℕ) (m : ℕ) (is_head : Bool) → m ≤ length bytes → over bytes (suc m - 1) m is_head ≡ Some (at_first is_head)
one_rest bytes m is_head fits = let k : suc m - 1 ≡ m = omega arith in ap (λ i. over bytes i m is_head) k ∙ over_rest bytes m is_head fits

pub one_space : (x : ℕ) (bytes : List ℕ) (n : ℕ) (is_head : Bool) → piece_of is_head x bytes ≡ Space n → 0 < n → n ≤ length (x ∷ bytes)
    → over (x ∷ bytes) 0 n is_head ≡ Some (at_first (head_behind is_head (take n (x ∷ bytes))))
one_space x bytes zero is_head is some fits = let y : ⊥ = omega (arith, some) in absurd y
one_space x bytes (suc m) is_head is some fits =
    ap (over_piece (λ skip head. over bytes skip m head) is_head (x ∷ bytes)) is ∙ one_rest bytes m (head_behind is_head (take (suc m) (x ∷ bytes))) (omega (arith, fits))

pub one_lexeme : (x : ℕ) (bytes : List ℕ) (n : ℕ) (is_head : Bool) (text : List ℕ) (kind : TokenKind) → piece_of is_head x bytes ≡ Lexeme n text kind → 0 < n → n ≤ length (x ∷ bytes)
    → over (x ∷ bytes) 0 n is_head ≡ Some (at_first false)
one_lexeme x bytes zero is_head text kind is some fits = let y : ⊥ = omega (arith, some) in absurd y
one_lexeme x bytes (suc m) is_head text kind is some fits =
    ap (over_piece (λ skip head. over bytes skip m head) is_head (x ∷ bytes)) is ∙ one_rest bytes m false (omega (arith, fits))

pub one_define : (x : ℕ) (bytes : List ℕ) (n : ℕ) (is_head : Bool) (d : Definition) → piece_of is_head x bytes ≡ Define n d.name (Ok d.literal) → 0 < n → n ≤ length (x ∷ bytes)
    → over (x ∷ bytes) 0 n is_head ≡ Some (record { is_head = false; definitions = d ∷ [] })
one_define x bytes zero is_head d is some fits = let y : ⊥ = omega (arith, some) in absurd y
one_define x bytes (suc m) is_head d is some fits =
    ap (over_piece (λ skip head. over bytes skip m head) is_head (x ∷ bytes)) is ∙ ap (with_definition d) (one_rest bytes m false (omega (arith, fits)))
