-- The table of names, as the definitions of a text have it.
use Rattle.std.proofs.Common.{◌≡◌, ◌∙◌, ap, sym, refl, ℕ, Bool, true, false, List, [], ◌∷◌, ◌++◌, Some, None}
use Rattle.std.specs.Prelude.{map, bytes_eq, if◌then◌else◌}
use Rattle.std.specs.Global.{Vec}
use Rattle.std.specs.Map.{lookup}
use Rattle.std.proofs.lemmas.List.{map-append}
use Rattle.std.proofs.lemmas.Slice.Eq.{bytes_eq-Decides}
use Rattle.indexmap.specs.IndexMap.{IndexMap, insert_entry}
use Rattle.indexmap.proofs.CallerLemmas.{insert_entry-new}
use Rattle.species_ast.specs.declared.tree.Value.{Value}
use Rattle.species_ast.specs.Text.Stream.{look_up}
use Rattle.species_lexer.specs.Cut.{definition_of}

same_either_way : (a b : List ℕ) → bytes_eq a b ≡ bytes_eq b a
same_either_way a b = go (bytes_eq a b) (bytes_eq b a) refl refl
  where
    go : (r s : Bool) → bytes_eq a b ≡ r → bytes_eq b a ≡ s → r ≡ s
    go true true p q = refl
    go false false p q = refl
    go true false p q = let e : bytes_eq b a ≡ true = (bytes_eq-Decides b a).1 (sym ((bytes_eq-Decides a b).0 p)) in cc
    go false true p q = let e : bytes_eq a b ≡ true = (bytes_eq-Decides a b).1 (sym ((bytes_eq-Decides b a).0 q)) in cc

-- the test of a key
abbrev pub is_key : List ℕ → Vec ℕ → Bool
is_key name k = bytes_eq name k.items

pub looks_up : (es : List (Vec ℕ × Value)) (name : List ℕ) → lookup (is_key name) es ≡ look_up (map definition_of es) name
looks_up [] name = refl
looks_up (e ∷ es) name =
    ap (λ b. if b then Some e.1 else lookup (is_key name) es) (same_either_way name e.0.items)
    ∙ ap (λ o. if bytes_eq e.0.items name then Some e.1 else o) (looks_up es name)

-- a new name goes last
pub one_more : {S : Type 0} (m : IndexMap (Vec ℕ) Value S) (k : Vec ℕ) (name : List ℕ) (v : Value) → k.items ≡ name → look_up (map definition_of m.entries) name ≡ None
    → map definition_of (insert_entry (λ x y. bytes_eq x.items y.items) m.entries k v) ≡ map definition_of m.entries ++ (record { name = name; literal = v } ∷ [])
one_more m k name v is new =
    ap (map definition_of) (insert_entry-new (λ x y. bytes_eq x.items y.items) m k v (ap (λ n. lookup (is_key n) m.entries) is ∙ looks_up m.entries name ∙ new))
    ∙ map-append definition_of m.entries ((k, v) ∷ [])
    ∙ ap (λ n. map definition_of m.entries ++ (record { name = n; literal = v } ∷ [])) is
