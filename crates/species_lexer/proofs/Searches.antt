-- Lemmas on the search for the literal of a name.
use Rattle.std.proofs.Common.{◌≡◌, ◌∙◌, ap, sym, refl, subst, ℕ, zero, suc, ◌<◌, ◌≤◌, ◌+◌, ◌-◌, Bool, true, false, List, [], ◌∷◌, drop, take, Option, Some, None, Ok, Err, arith}
use Rattle.std.proofs.lemmas.List.{drop-drop}
use Rattle.std.specs.Prelude.{is_some, option_map, IfSome, bytes_eq, if◌then◌else◌}
use Rattle.species_ast.specs.declared.tree.Value.{Value}
use Rattle.species_ast.specs.Text.Pieces as text
use Rattle.species_ast.specs.Text.Stream.{Definition, look_up, head_behind}
use Rattle.species_lexer.specs.declared.piece.Piece.{Piece}
use Rattle.species_lexer.specs.declared.piece.Piece.TheVariants as piece
use Rattle.species_lexer.specs.Pieces.{seen_piece, piece_at, Fits}
use Rattle.species_lexer.specs.Cursor.{Before, with_definition, over_piece, over}
use Rattle.species_lexer.specs.Found.{length_in, definition_in, head_after}
use Rattle.species_lexer.proofs.Walk.{at_first, over_behind}

-- what a turn of the search finds: the literal, or nothing, and then it goes on behind the piece
pub record Turns (bytes : List ℕ) (size : ℕ) (is_head : Bool) (o : Option Piece) (name : List ℕ) (b : Before) : Type 0 where
  pub found : (v : Value) → definition_in o name ≡ Some v → look_up b.definitions name ≡ Some v
  pub some : 0 < length_in o
  pub within : length_in o ≤ size
  pub after : Before
  pub goes_on : over (drop (length_in o) bytes) 0 (size - length_in o) (head_after o is_head (take (length_in o) bytes)) ≡ Some after
  pub others : definition_in o name ≡ None → look_up b.definitions name ≡ look_up after.definitions name

-- what lies behind a piece
behind_piece : (x : ℕ) (rest : List ℕ) (n k : ℕ) (head : Bool) (b : Before) → 0 < n → over rest (n - 1) k head ≡ Some b
    → (n ≤ suc k) × (over (drop n (x ∷ rest)) 0 (suc k - n) head ≡ Some b)
behind_piece x rest zero k head b some e = let y : ⊥ = omega (arith, some) in absurd y
behind_piece x rest (suc m) k head b some e =
    let i : suc m - 1 ≡ m = omega arith in
    let s = over_behind rest m k head b (sym (ap (λ j. over rest j k head) i) ∙ e) in
    let j : suc k - suc m ≡ k - m = omega arith in
    (omega (arith, s.0), ap (λ z. over (drop m rest) 0 z head) j ∙ s.1)

piece_is : (a b : text.Piece) → Some a ≡ Some b → a ≡ b
piece_is a b e = cc

defined_first : (d : Definition) (c b : Before) → Some (record c { definitions = d ∷ c.definitions }) ≡ Some b → (name : List ℕ)
    → look_up b.definitions name ≡ (if bytes_eq d.name name then Some d.literal else look_up c.definitions name)
defined_first d c b e name = ap (λ z. look_up z.definitions name) (same _ b (sym e))
  where
    same : (y z : Before) → Some z ≡ Some y → z ≡ y
    same y z f = cc

turn_define : (x : ℕ) (rest : List ℕ) (k : ℕ) (is_head : Bool) (o : Option Piece) (n : ℕ) (d : Definition) (name : List ℕ) (b : Before)
    → length_in o ≡ n → definition_in o name ≡ (if bytes_eq d.name name then Some d.literal else None) → head_after o is_head (take n (x ∷ rest)) ≡ false
    → 0 < n → with_definition d (over rest (n - 1) k false) ≡ Some b → Turns (x ∷ rest) (suc k) is_head o name b
turn_define x rest k is_head o n d name b le de he some e = go (over rest (n - 1) k false) refl e
  where
    hit : (c : Before) → Some (record c { definitions = d ∷ c.definitions }) ≡ Some b → (v : Value) → (t : Bool) → bytes_eq d.name name ≡ t → (if t then Some d.literal else None) ≡ Some v → look_up b.definitions name ≡ Some v
    hit c f v true t h = defined_first d c b f name ∙ ap (λ z. if z then Some d.literal else look_up c.definitions name) t ∙ h
    hit c f v false t h = cc

    miss : (c : Before) → Some (record c { definitions = d ∷ c.definitions }) ≡ Some b → (t : Bool) → bytes_eq d.name name ≡ t → (if t then Some d.literal else None) ≡ None → look_up b.definitions name ≡ look_up c.definitions name
    miss c f true t h = cc
    miss c f false t h = defined_first d c b f name ∙ ap (λ z. if z then Some d.literal else look_up c.definitions name) t

    go : (r : Option Before) → over rest (n - 1) k false ≡ r → with_definition d r ≡ Some b → Turns (x ∷ rest) (suc k) is_head o name b
    go None is f = cc
    go (Some c) is f =
        let s = behind_piece x rest n k false c some is in
        record {
          found = λ v h. hit c f v (bytes_eq d.name name) refl (sym de ∙ h);
          some = subst (λ z. 0 < z) (sym le) some;
          within = subst (λ z. z ≤ suc k) (sym le) s.0;
          after = c;
          goes_on = ap (λ z. over (drop z (x ∷ rest)) 0 (suc k - z) (head_after o is_head (take z (x ∷ rest)))) le ∙ ap (over (drop n (x ∷ rest)) 0 (suc k - n)) he ∙ s.1;
          others = λ h. miss c f (bytes_eq d.name name) refl (sym de ∙ h);
        }

turn : (x : ℕ) (rest : List ℕ) (k : ℕ) (is_head : Bool) (o : Option Piece) (p : text.Piece) (name : List ℕ) (b : Before)
    → option_map seen_piece o ≡ Some p → IfSome o (λ q. Fits q (x ∷ rest)) → over_piece (λ skip head. over rest skip k head) is_head (x ∷ rest) p ≡ Some b
    → Turns (x ∷ rest) (suc k) is_head o name b
turn x rest k is_head None p name b is fits e = cc
turn x rest k is_head (Some (piece.Space n)) p name b is fits e =
    let q = ap (over_piece (λ skip head. over rest skip k head) is_head (x ∷ rest)) (piece_is (text.Space n) p is) ∙ e in
    let s = behind_piece x rest n k (head_behind is_head (take n (x ∷ rest))) b fits.0 q in
    record { found = λ v h. cc; some = fits.0; within = s.0; after = b; goes_on = s.1; others = λ h. refl }
turn x rest k is_head (Some (piece.Lexeme n word kind)) p name b is fits e =
    let q = ap (over_piece (λ skip head. over rest skip k head) is_head (x ∷ rest)) (piece_is (text.Lexeme n word.now kind) p is) ∙ e in
    let s = behind_piece x rest n k false b fits.0 q in
    record { found = λ v h. cc; some = fits.0; within = s.0; after = b; goes_on = s.1; others = λ h. refl }
turn x rest k is_head (Some (piece.Define n word (Ok v))) p name b is fits e =
    let q = ap (over_piece (λ skip head. over rest skip k head) is_head (x ∷ rest)) (piece_is (text.Define n word.now (Ok v)) p is) ∙ e in
    turn_define x rest k is_head (Some (piece.Define n word (Ok v))) n (record { name = word.now; literal = v }) name b refl refl refl fits.0 q
turn x rest k is_head (Some (piece.Define n word (Err fault))) p name b is fits e =
    let q : None ≡ Some b = ap (over_piece (λ skip head. over rest skip k head) is_head (x ∷ rest)) (piece_is (text.Define n word.now (Err fault.refusal)) p is) ∙ e in cc
turn x rest k is_head (Some (piece.Refused fault)) p name b is fits e =
    let q : None ≡ Some b = ap (over_piece (λ skip head. over rest skip k head) is_head (x ∷ rest)) (piece_is (text.Refused fault.refusal) p is) ∙ e in cc

-- a turn of the loop
turns : (bytes : List ℕ) (size : ℕ) (is_head : Bool) (o : Option Piece) (name : List ℕ) (b : Before) → 0 < size → over bytes 0 size is_head ≡ Some b
    → option_map seen_piece o ≡ piece_at is_head bytes → IfSome o (λ q. Fits q bytes) → Turns bytes size is_head o name b
turns bytes zero is_head o name b some e is fits = let y : ⊥ = omega (arith, some) in absurd y
turns [] (suc k) is_head o name b some e is fits = cc
turns (x ∷ rest) (suc k) is_head o name b some e is fits = turn x rest k is_head o (text.piece_of is_head x rest) name b is fits e

-- the same at a place of a text
pub record Searches (bytes : List ℕ) (from at : ℕ) (is_head : Bool) (o : Option Piece) (name : List ℕ) (b : Before) : Type 0 where
  pub found : (v : Value) → definition_in o name ≡ Some v → look_up b.definitions name ≡ Some v
  pub some : 0 < length_in o
  pub within : from + length_in o ≤ at
  pub after : Before
  pub goes_on : over (drop (from + length_in o) bytes) 0 (at - (from + length_in o)) (head_after o is_head (take (length_in o) (drop from bytes))) ≡ Some after
  pub others : definition_in o name ≡ None → look_up b.definitions name ≡ look_up after.definitions name

pub searches : (bytes rest : List ℕ) (from at : ℕ) (is_head : Bool) (o : Option Piece) (name : List ℕ) (b : Before) → from < at → over (drop from bytes) 0 (at - from) is_head ≡ Some b
    → rest ≡ drop from bytes → option_map seen_piece o ≡ piece_at is_head rest → IfSome o (λ q. Fits q rest) → Searches bytes from at is_head o name b
searches bytes rest from at is_head o name b lt e re is fits =
    let t = turns (drop from bytes) (at - from) is_head o name b (omega (arith, lt)) e (is ∙ ap (piece_at is_head) re) (subst (λ z. IfSome o (λ q. Fits q z)) re fits) in
    let k : at - (from + length_in o) ≡ at - from - length_in o = omega arith in
    record {
      found = t.found;
      some = t.some;
      within = omega (arith, t.within, lt);
      after = t.after;
      goes_on = ap (λ z. over z 0 (at - (from + length_in o)) (head_after o is_head (take (length_in o) (drop from bytes)))) (sym (drop-drop (length_in o) from bytes))
          ∙ ap (λ i. over (drop (length_in o) (drop from bytes)) 0 i (head_after o is_head (take (length_in o) (drop from bytes)))) k ∙ t.goes_on;
      others = t.others;
    }

-- at the end nothing is left
pub nothing_left : (bytes : List ℕ) (size : ℕ) (is_head : Bool) (b : Before) (name : List ℕ) → size ≡ 0 → over bytes 0 size is_head ≡ Some b → look_up b.definitions name ≡ None
nothing_left [] size is_head b name z e = let f : Some (at_first is_head) ≡ Some b = sym (ap (λ i. over [] 0 i is_head) z) ∙ e in ap (λ c. look_up c.definitions name) (sym (same (at_first is_head) b f))
  where
    same : (x y : Before) → Some x ≡ Some y → x ≡ y
    same x y f = cc
nothing_left (w ∷ bytes) size is_head b name z e = let f : Some (at_first is_head) ≡ Some b = sym (ap (λ i. over (w ∷ bytes) 0 i is_head) z) ∙ e in ap (λ c. look_up c.definitions name) (sym (same (at_first is_head) b f))
  where
    same : (x y : Before) → Some x ≡ Some y → x ≡ y
    same x y f = cc

none_is : (found o : Option Value) → found ≡ o → is_some found ≡ false → o ≡ None
none_is found None e h = refl
none_is None (Some v) e h = cc
none_is (Some w) (Some v) e h = cc

pub next : (bytes rest front : List ℕ) (from at n : ℕ) (is_head head : Bool) (o : Option Piece) (name : List ℕ) (b : Before) (ds : List Definition) (found : Option Value)
    → Searches bytes from at is_head o name b → n ≡ length_in o → rest ≡ drop from bytes → front ≡ take n rest → head ≡ head_after o is_head front
    → look_up ds name ≡ look_up b.definitions name → found ≡ definition_in o name → is_some found ≡ false
    → (x : Before) × (from + n ≤ at) × (over (drop (from + n) bytes) 0 (at - (from + n)) head ≡ Some x) × (look_up ds name ≡ look_up x.definitions name)
next bytes rest front from at n is_head head o name b ds found s ne re fe he same fo none =
    let h : head ≡ head_after o is_head (take (length_in o) (drop from bytes)) = he ∙ ap (head_after o is_head) (fe ∙ ap (take n) re ∙ ap (λ i. take i (drop from bytes)) ne) in (
      s.after,
      subst (λ i. from + i ≤ at) (sym ne) s.within,
      ap (λ i. over (drop (from + i) bytes) 0 (at - (from + i)) head) ne ∙ ap (over (drop (from + length_in o) bytes) 0 (at - (from + length_in o))) h ∙ s.goes_on,
      same ∙ s.others (none_is found (definition_in o name) fo none),
    )

-- what a hit answers
pub hit : (bytes : List ℕ) (from at : ℕ) (is_head : Bool) (o : Option Piece) (name : List ℕ) (b : Before) (ds : List Definition) (found : Option Value)
    → Searches bytes from at is_head o name b → look_up ds name ≡ look_up b.definitions name → found ≡ definition_in o name → is_some found ≡ true → found ≡ look_up ds name
hit bytes from at is_head o name b ds None s same fo has = cc
hit bytes from at is_head o name b ds (Some v) s same fo has = sym (same ∙ s.found v (sym fo))
