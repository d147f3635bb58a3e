-- The table of names while it is made.
use Rattle.std.proofs.Common.{◌≡◌, ◌∙◌, ap, sym, ℕ, suc, ◌+◌, ◌<◌, cond, List, ◌∷◌, length, drop, get_or, Some, None, add-one, drop-cons, arith}
use Rattle.std.specs.Prelude.{bytes_eq}
use Rattle.std.specs.List.{position_from}
use Rattle.std.proofs.lemmas.List.{drop_all}
use Rattle.std.proofs.lemmas.Map.Text.{hash_map_updates_str}
use Rattle.indexmap.specs.IndexMap.{get_by, UpdatesBy}
use Rattle.species_ast.specs.declared.tree.Array.{Array}
use Rattle.species_data.specs.Table.{Table, Numbers}

-- the table has the number of the first array of each name, of the arrays from one on
abbrev pub NumbersFrom : ℕ → List Array → Table → Type 0
NumbersFrom n arrays table = (name : List ℕ) → get_by (λ k. bytes_eq name k.now) table ≡ position_from (λ a. bytes_eq a.name name) n (drop n arrays)

abbrev pub Sets : Table → Table → List ℕ → ℕ → Type 0
Sets old new name n = UpdatesBy (λ x y. bytes_eq x.now y.now) (λ k. bytes_eq name k.now) old new (Some n)

pub numbers_none : (arrays : List Array) (table : Table) → ((name : List ℕ) → get_by (λ k. bytes_eq name k.now) table ≡ None)
    → NumbersFrom (length arrays) arrays table
numbers_none arrays table none name = none name ∙ ap (position_from (λ a. bytes_eq a.name name) (length arrays)) (sym (drop_all (length arrays) arrays (omega arith)))

pub numbers_next : (arrays : List Array) (old new : Table) (m n : ℕ) (x : Array) (name : List ℕ) → n < length arrays → x ≡ get_or arrays n x → m ≡ n + 1
    → name ≡ x.name → NumbersFrom m arrays old → Sets old new name n → NumbersFrom n arrays new
numbers_next arrays old new m n x name less is after name_is h sets q =
    let here : drop n arrays ≡ x ∷ drop (n + 1) arrays = rw (add-one, drop-cons arrays n x less) (ap (λ y. y ∷ drop (suc n) arrays) (sym is)) in
    hash_map_updates_str name old new (Some n) sets q
    ∙ ap (cond (bytes_eq name q) (Some n)) (h q ∙ ap (λ k. position_from (λ a. bytes_eq a.name q) k (drop k arrays)) after)
    ∙ ap (λ w. cond (bytes_eq w q) (Some n) (position_from (λ a. bytes_eq a.name q) (n + 1) (drop (n + 1) arrays))) name_is
    ∙ ap (position_from (λ a. bytes_eq a.name q) n) (sym here)

pub numbers_all : (arrays : List Array) (table : Table) → NumbersFrom 0 arrays table → Numbers arrays table
numbers_all arrays table h name = h name
