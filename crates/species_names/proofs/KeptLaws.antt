-- What is kept of findings that come one after another.
use Rattle.std.proofs.Common.{◌≡◌, ◌∙◌, ap, sym, refl, ℕ, List, [], ◌∷◌, ◌++◌, Option, Bool, append-nil}
use Rattle.std.specs.List.{flat_map}
use Rattle.std.proofs.lemmas.Grind.{flat_map-append}
use Rattle.species_ast.specs.Scope.Refusals.{Refusal, Finding}
use Rattle.species_ast.specs.Scope.Conditions.{is_unknown, is_duplicate, is_miscounted, is_assigned_iterator, is_outside}
use Rattle.species_ast.specs.Scope.Meanings.{Occurrence}
use Rattle.species_names.specs.Kept.{sooner, kept, refused_if}
use Rattle.species_names.specs.Noted.{found_at, noted}

pub kept-append : (first : Option Finding) (xs ys : List Finding) → kept first (xs ++ ys) ≡ kept (kept first xs) ys
kept-append first [] ys = refl
kept-append first (x ∷ xs) ys = kept-append (sooner first x) xs ys

pub noted-append : (its : List ℕ) (first : Option Finding) (xs ys : List Occurrence) → noted its first (xs ++ ys) ≡ noted its (noted its first xs) ys
noted-append its first xs ys = ap (kept first) (flat_map-append (found_at its) xs ys) ∙ kept-append first (flat_map (found_at its) xs) (flat_map (found_at its) ys)

-- one more list
pub more : (old mid new : Option Finding) (xs ys : List Finding) → new ≡ kept mid ys → mid ≡ kept old xs → new ≡ kept old (xs ++ ys)
more old mid new xs ys h k = h ∙ ap (λ m. kept m ys) k ∙ sym (kept-append old xs ys)

refused : (old new : Option Finding) (b c : Bool) (r : Refusal) (p q : ℕ) → new ≡ kept old (refused_if b r p) → b ≡ c → p ≡ q → new ≡ kept old (refused_if c r q)
refused old new b c r p q h e k = h ∙ ap (λ t. kept old (refused_if t r p)) e ∙ ap (λ t. kept old (refused_if c r t)) k

-- the five refusals of a name
pub at_name : (its : List ℕ) (o : Occurrence) (p : ℕ) (old a b c d new : Option Finding) (u v w x y : Bool)
    → p ≡ o.name.place
    → u ≡ is_unknown o → v ≡ is_duplicate o → w ≡ is_miscounted o → x ≡ is_assigned_iterator o → y ≡ is_outside its o
    → a ≡ kept old (refused_if u Refusal.Unknown p)
    → b ≡ kept a (refused_if v Refusal.Duplicate p)
    → c ≡ kept b (refused_if w Refusal.DimensionCount p)
    → d ≡ kept c (refused_if x Refusal.IteratorAssigned p)
    → new ≡ kept d (refused_if y Refusal.IteratorOutside p)
    → new ≡ noted its old (o ∷ [])
at_name its o p old a b c d new u v w x y place hu hv hw hx hy ha hb hc hd hn =
    let q = o.name.place in
    let la = refused_if (is_unknown o) Refusal.Unknown q in
    let lb = refused_if (is_duplicate o) Refusal.Duplicate q in
    let lc = refused_if (is_miscounted o) Refusal.DimensionCount q in
    let ld = refused_if (is_assigned_iterator o) Refusal.IteratorAssigned q in
    let le = refused_if (is_outside its o) Refusal.IteratorOutside q in
    let fa : a ≡ kept old la = refused old a u (is_unknown o) Refusal.Unknown p q ha hu place in
    let fb : b ≡ kept a lb = refused a b v (is_duplicate o) Refusal.Duplicate p q hb hv place in
    let fc : c ≡ kept b lc = refused b c w (is_miscounted o) Refusal.DimensionCount p q hc hw place in
    let fd : d ≡ kept c ld = refused c d x (is_assigned_iterator o) Refusal.IteratorAssigned p q hd hx place in
    let fn : new ≡ kept d le = refused d new y (is_outside its o) Refusal.IteratorOutside p q hn hy place in
    let first : new ≡ kept old (la ++ (lb ++ (lc ++ (ld ++ le)))) =
    last_first old a new la (lb ++ (lc ++ (ld ++ le))) fa (last_first a b new lb (lc ++ (ld ++ le)) fb (last_first b c new lc (ld ++ le) fc (last_first c d new ld le fd fn))) in
    first ∙ ap (kept old) (sym (append-nil (found_at its o)))
  where
    last_first : (old mid new : Option Finding) (xs ys : List Finding) → mid ≡ kept old xs → new ≡ kept mid ys → new ≡ kept old (xs ++ ys)
    last_first old mid new xs ys h k = more old mid new xs ys k h
