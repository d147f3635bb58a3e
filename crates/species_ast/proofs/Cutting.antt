-- Each text is cut in one way.
use Rattle.std.proofs.Common.{◌≡◌, ◌∙◌, ap, sym, refl, subst, ℕ, zero, suc, ◌+◌, ◌<◌, ◌≤◌, Bool, true, false, List, [], ◌∷◌, length, take, drop, Option, Some, None, Result, Ok, Err, arith, length-drop}
use Rattle.std.specs.Prelude.{option_map}
use Rattle.species_ast.specs.declared.tree.Value.{Value}
use Rattle.species_ast.specs.declared.token.TokenKind.TheVariants as kind
use Rattle.species_ast.specs.declared.token.LexRefusal.{LexRefusal}
use Rattle.species_ast.specs.Text.Characters.{line_len}
use Rattle.species_ast.specs.Text.Comments.{closing_len, comment_len, splice_at}
use Rattle.species_ast.specs.Text.Numbers.{run_more, literal_of}
use Rattle.species_ast.specs.Text.Words.{punctuator_len}
use Rattle.species_ast.specs.Text.Directives.{Form, Skipped, Read, Macro, Wrong, form_of}
use Rattle.species_ast.specs.Text.Pieces.{Piece, Space, Lexeme, Define, Refused, line_comment, block_comment, number, punctuator, unless_spliced, directive, Start, Blank, LineComment, BlockComment, Letter, Digit, Hash, Other, start_of, piece_in, piece_of}
use Rattle.species_ast.specs.Text.Stream.{TokenStream, Definition, look_up, define_once, in_scope, defined_by, head_behind, put, finished, Cut, cut_piece, cut_at}
use Rattle.species_ast.specs.Text.Law.{CutsOneWay}

-- how many bytes a piece has, and 1 for a refusal
abbrev size_of : Piece → ℕ
size_of (Space n) = n
size_of (Lexeme n text k) = n
size_of (Define n name value) = n
size_of (Refused r) = 1

abbrev IsFull : Piece → Type 0
IsFull p = 0 < size_of p

full_line_comment : (n : ℕ) (splice : Option ℕ) → IsFull (line_comment (suc n) splice)
full_line_comment n None = omega arith
full_line_comment n (Some at) = omega arith

full_block_comment : (bytes : List ℕ) → IsFull (block_comment (comment_len bytes))
full_block_comment bytes = go (closing_len (drop 2 bytes))
  where
    go : (o : Option ℕ) → IsFull (block_comment (option_map (λ n. n + 2) o))
    go None = omega arith
    go (Some n) = omega arith

full_number : (n : ℕ) (bytes : List ℕ) (value : Option Value) → IsFull (number (suc n) bytes value)
full_number n bytes None = omega arith
full_number n bytes (Some v) = omega arith

full_punctuator : (n : ℕ) (bytes : List ℕ) → IsFull (punctuator n bytes)
full_punctuator zero bytes = omega arith
full_punctuator (suc n) bytes = omega arith

full_spliced : (splice : Option ℕ) (p : Piece) → IsFull p → IsFull (unless_spliced splice p)
full_spliced None p h = h
full_spliced (Some at) p h = omega arith

full_directive : (n : ℕ) (splice : Option ℕ) (form : Form) → IsFull (directive (suc n) splice form)
full_directive n splice Skipped = full_spliced splice (Space (suc n)) (omega arith)
full_directive n splice (Read text k) = full_spliced splice (Lexeme (suc n) text k) (omega arith)
full_directive n splice (Macro name run) = omega arith
full_directive n splice (Wrong r) = omega arith

full_in : (start : Start) (is_head : Bool) (b : ℕ) (bytes : List ℕ) → IsFull (piece_in start is_head b bytes)
full_in Blank is_head b bytes = omega arith
full_in LineComment is_head b bytes = full_line_comment (line_len bytes) (splice_at (b ∷ bytes))
full_in BlockComment is_head b bytes = full_block_comment (b ∷ bytes)
full_in Letter is_head b bytes = omega arith
full_in Digit is_head b bytes = full_number (run_more b bytes) (b ∷ bytes) (literal_of (take (suc (run_more b bytes)) (b ∷ bytes)))
full_in Hash true b bytes = full_directive (line_len bytes) (splice_at (b ∷ bytes)) (form_of (take (suc (line_len bytes)) (b ∷ bytes)))
full_in Hash false b bytes = omega arith
full_in Other is_head b bytes = full_punctuator (punctuator_len (b ∷ bytes)) (b ∷ bytes)

-- a piece takes a byte at least
full : (is_head : Bool) (b : ℕ) (bytes : List ℕ) → IsFull (piece_of is_head b bytes)
unfolding piece_of
full is_head b bytes = full_in (start_of b bytes) is_head b bytes

full_once : (old : Option Value) (n : ℕ) (name : List ℕ) (value : Result Value LexRefusal) → 0 < n → IsFull (define_once old n name value)
full_once (Some v) n name value h = omega arith
full_once None n name (Ok v) h = h
full_once None n name (Err r) h = omega arith

full_scope : (ds : List Definition) (p : Piece) → IsFull p → IsFull (in_scope ds p)
full_scope ds (Space n) h = h
full_scope ds (Lexeme n text kind.Name) h = h
full_scope ds (Lexeme n text _) h = h
full_scope ds (Define n name value) h = full_once (look_up ds name) n name value h
full_scope ds (Refused r) h = h

-- behind a piece there are fewer bytes
behind : (n m b : ℕ) (bytes : List ℕ) → 0 < n → length (b ∷ bytes) ≤ suc m → length (drop n (b ∷ bytes)) ≤ m
behind n m b bytes some short = omega (arith, some, short, length-drop n (b ∷ bytes))

fewer : (ds : List Definition) (is_head : Bool) (b : ℕ) (bytes : List ℕ) (p : Piece) (m : ℕ) → in_scope ds (piece_of is_head b bytes) ≡ p
    → length (b ∷ bytes) ≤ suc m → length (drop (size_of p) (b ∷ bytes)) ≤ m
fewer ds is_head b bytes p m e short =
    behind (size_of p) m b bytes (subst IsFull e (full_scope ds (piece_of is_head b bytes) (full is_head b bytes))) short

cut_nothing : (m place : ℕ) (is_head : Bool) (ds : List Definition) → cut_at m place is_head ds [] ≡ finished
cut_nothing zero place is_head ds = refl
cut_nothing (suc m) place is_head ds = refl

-- what a text is cut into is what the function gives
same : (m place : ℕ) (is_head : Bool) (ds : List Definition) (bytes : List ℕ) (s : TokenStream)
    → Cut place is_head ds bytes s → length bytes ≤ m → s ≡ cut_at m place is_head ds bytes
same m p h d t v (Cut.ends place is_head ds) short = sym (cut_nothing m place is_head ds)
same zero p h d t v (Cut.space place is_head ds b more n s e c) short = let x : ⊥ = omega (arith, short) in absurd x
same (suc m) p h d t v (Cut.space place is_head ds b more n s e c) short =
    same m (place + n) (head_behind is_head (take n (b ∷ more))) ds (drop n (b ∷ more)) s c (fewer ds is_head b more (Space n) m e short)
    ∙ sym (ap (cut_piece (cut_at m) place is_head ds (b ∷ more)) e)
same zero p h d t v (Cut.token place is_head ds b more n text k u e c) short = let x : ⊥ = omega (arith, short) in absurd x
same (suc m) p h d t v (Cut.token place is_head ds b more n text k u e c) short =
    ap (put (record { place = place; text = text; kind = k })) (same m (place + n) false (defined_by text k ds) (drop n (b ∷ more)) u c (fewer ds is_head b more (Lexeme n text k) m e short))
    ∙ sym (ap (cut_piece (cut_at m) place is_head ds (b ∷ more)) e)
same zero p h d t v (Cut.stops place is_head ds b more r e) short = let x : ⊥ = omega (arith, short) in absurd x
same (suc m) p h d t v (Cut.stops place is_head ds b more r e) short =
    sym (ap (cut_piece (cut_at m) place is_head ds (b ∷ more)) e)

-- no definition is left once the names are looked up
defines_not : (old : Option Value) (n : ℕ) (name : List ℕ) (value : Result Value LexRefusal) (i : ℕ) (x : List ℕ) (y : Result Value LexRefusal) → define_once old n name value ≡ Define i x y → ⊥
defines_not (Some v) n name value i x y e = cc
defines_not None n name (Ok v) i x y e = cc
defines_not None n name (Err r) i x y e = cc

scope_not : (ds : List Definition) (p : Piece) (i : ℕ) (x : List ℕ) (y : Result Value LexRefusal) → in_scope ds p ≡ Define i x y → ⊥
scope_not ds (Space n) i x y e = cc
scope_not ds (Lexeme n text kind.Name) i x y e = cc
scope_not ds (Lexeme n text _) i x y e = cc
scope_not ds (Define n name value) i x y e = defines_not (look_up ds name) n name value i x y e
scope_not ds (Refused r) i x y e = cc

-- the function gives what a text is cut into
gives : (m place : ℕ) (is_head : Bool) (ds : List Definition) (bytes : List ℕ) → length bytes ≤ m → Cut place is_head ds bytes (cut_at m place is_head ds bytes)
gives m place is_head ds [] short = subst (Cut place is_head ds []) (sym (cut_nothing m place is_head ds)) (Cut.ends place is_head ds)
gives zero place is_head ds (b ∷ more) short = let x : ⊥ = omega (arith, short) in absurd x
gives (suc m) place is_head ds (b ∷ more) short = go (gives m) (in_scope ds (piece_of is_head b more)) refl
  where
    go : ((place : ℕ) (is_head : Bool) (ds : List Definition) (bytes : List ℕ) → length bytes ≤ m → Cut place is_head ds bytes (cut_at m place is_head ds bytes))
        → (p : Piece) → in_scope ds (piece_of is_head b more) ≡ p → Cut place is_head ds (b ∷ more) (cut_piece (cut_at m) place is_head ds (b ∷ more) p)
    go next (Space n) e = Cut.space place is_head ds b more n _ e (next (place + n) (head_behind is_head (take n (b ∷ more))) ds (drop n (b ∷ more)) (fewer ds is_head b more (Space n) m e short))
    go next (Lexeme n text k) e = Cut.token place is_head ds b more n text k _ e (next (place + n) false (defined_by text k ds) (drop n (b ∷ more)) (fewer ds is_head b more (Lexeme n text k) m e short))
    go next (Refused r) e = Cut.stops place is_head ds b more r e
    go next (Define i x y) e = absurd (scope_not ds (piece_of is_head b more) i x y e)

pub cuts_one_way : CutsOneWay
cuts_one_way = record {
  at_least_one = λ text. gives (length text) 0 true [] text (omega arith);
  at_most_one = λ text s u d e. same (length text) 0 true [] text s d (omega arith) ∙ sym (same (length text) 0 true [] text u e (omega arith));
}

-- the bound does not matter where it is large enough
pub any_bound : (m k place : ℕ) (is_head : Bool) (ds : List Definition) (bytes : List ℕ) → length bytes ≤ m → length bytes ≤ k → cut_at m place is_head ds bytes ≡ cut_at k place is_head ds bytes
any_bound m k place is_head ds bytes a b = same k place is_head ds bytes (cut_at m place is_head ds bytes) (gives m place is_head ds bytes a) b
