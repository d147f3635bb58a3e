-- The arrays of a program: what their names mean fits the unit that has them.
use Rattle.std.proofs.Common.{◌≡◌, ◌∙◌, refl, sym, ap, subst, ℕ, zero, suc, ◌+◌, ◌≤◌, Bool, true, false, ◌&&◌, nat_eq, List, [], ◌∷◌, ◌++◌, map, length, Option, Some, None, arith, option_map, slice_get, append_assoc, length-append}
use Rattle.std.specs.Prelude.{unwrap_or}
use Rattle.std.specs.List.{list_all}
use Rattle.std.proofs.lemmas.Bool.{and_parts, and_from}
use Rattle.std.proofs.lemmas.List.{length-map}
use Rattle.species_ast.specs.Spelling.{Spelling}
use Rattle.species_ast.specs.declared.tree.Array.{Array}
use Rattle.species_ast.specs.Scope.Meanings.{Meaning, Scope, scope_with, Declared, Occurrence, occurrence}
use Rattle.species_ast.specs.Scope.Expressions.{names_of}
use Rattle.species_ast.specs.Scope.Programs.{ArraySite, ArrayParts, Globals, globals_from, size_in, extent}
use Rattle.species_ast.specs.Scope.WellMade.{Around, is_array}
use Rattle.species_lawful.proofs.FitLemmas.{fits, Fits, fits_with}

abbrev arrays_in : Globals → List Array
arrays_in g = map (λ a. a.array) g.arrays

-- behind others stands the first of the rest
get_behind : (xs ys : List Array) (x : Array) → slice_get (xs ++ x ∷ ys) (length xs) ≡ Some x
get_behind [] ys x = refl
get_behind (y ∷ xs) ys x = get_behind xs ys x

same : (n : ℕ) → nat_eq n n ≡ true
same n = grind arith

is_there : (w : Around) (a d : ℕ) (x : Array) → slice_get w.arrays a ≡ Some x → length x.dims ≡ d → is_array w a d ≡ true
is_there w a d x h k =
    ap (λ o. unwrap_or (option_map (λ y. nat_eq (length y.dims) d) o) false) h ∙ ap (λ n. nat_eq n d) k ∙ same d

-- the arrays before these, and these, are those of the unit
pub globals_fit : (its : List ℕ) (before : List Array) (n : ℕ) (parts : List ArrayParts) (s : Scope) (w : Around) → n ≡ length before
    → w.arrays ≡ before ++ arrays_in (globals_from n parts s) → Fits its s w → Fits its (globals_from n parts s).next w
globals_fit its before n [] s w hn all h = h
globals_fit its before n (a ∷ parts) s w hn all h =
    let sizes = map (size_in s) a.sizes in
    let array : Array = record { name = a.name.text; kind = a.kind; dims = map (λ x. extent x.number) sizes } in
    let m = Meaning.Array n (length a.sizes) in
    let later = globals_from (suc n) parts (scope_with a.name m s) in
    let there : slice_get w.arrays n ≡ Some array =
    ap (λ xs. slice_get xs n) all ∙ ap (slice_get (before ++ array ∷ arrays_in later)) hn ∙ get_behind before (arrays_in later) array in
    let long : length array.dims ≡ length a.sizes = length-map sizes (λ x. extent x.number) ∙ length-map a.sizes (size_in s) in
    globals_fit its (before ++ array ∷ []) (suc n) parts (scope_with a.name m s) w
    (one_more n (length before) (length (before ++ array ∷ [])) hn (length-append before (array ∷ [])))
    (all ∙ sym (append_assoc before (array ∷ []) (arrays_in later)))
    (fits_with its a.name m s w (is_there w n (length a.sizes) array there long) h)
  where
    one_more : (n b c : ℕ) → n ≡ b → c ≡ b + 1 → suc n ≡ c
    one_more n b c h k = omega (arith, h, k)

few_more : (a x b c : ℕ) → a ≤ b → suc a ≤ suc (x + b)
few_more a x b c h = omega (arith, h)

-- each array has a name
pub few_globals : (n : ℕ) (parts : List ArrayParts) (s : Scope) → length (globals_from n parts s).arrays ≤ length (globals_from n parts s).names
few_globals n [] s = omega arith
few_globals n (a ∷ parts) s =
    let names = names_of (map (λ x. x.reads s) a.sizes) in
    let later = globals_from (suc n) parts (scope_with a.name (Meaning.Array n (length a.sizes)) s) in
    subst (λ z. suc (length later.arrays) ≤ suc z) (sym (length-append names later.names))
    (few_more (length later.arrays) (length names) (length later.names) 0 (few_globals (suc n) parts (scope_with a.name (Meaning.Array n (length a.sizes)) s)))
