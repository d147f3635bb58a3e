-- The table of names after a declaration and after one is taken back.
use Rattle.std.proofs.Common.{◌≡◌, ◌∙◌, ap, sym, refl, subst, ℕ, ◌<◌, ◌≤◌, List, [], ◌∷◌, ◌++◌, length, drop, reverse, Option, Some, None, Bool, true, false, cond, arith}
use Rattle.std.specs.Prelude.{bytes_eq, option_map, option_and_then}
use Rattle.std.proofs.lemmas.List.{reverse-append, length-append}
use Rattle.std.proofs.lemmas.Slice.Eq.{bytes_eq-Decides}
use Rattle.std.proofs.lemmas.Map.Text.{hash_map_updates_str}
use Rattle.indexmap.specs.IndexMap.{get_by, UpdatesBy}
use Rattle.species_ast.specs.Scope.Meanings.{Meaning, meaning_in}
use Rattle.species_names.specs.declared.meaning.Meaning as code
use Rattle.species_names.specs.declared.table.Declared.{Declared}
use Rattle.species_names.specs.Seen.{seen}
use Rattle.species_names.specs.Table.{Lookups, looked_up, names_in, Undoes, Holds}

abbrev pub Sets : Lookups → Lookups → List ℕ → Option code.Meaning → Type 0
Sets old new name m = UpdatesBy (λ x y. bytes_eq x.now y.now) (λ k. bytes_eq name k.now) old new (Some m)

-- what is looked up after a name is set
set : (old new : Lookups) (name : List ℕ) (m : Option code.Meaning) → Sets old new name m
    → (q : List ℕ) → looked_up new q ≡ cond (bytes_eq name q) m (looked_up old q)
set old new name m h q = ap (option_and_then (λ o. o)) (hash_map_updates_str name old new (Some m) h q) ∙ go (bytes_eq name q)
  where
    go : (b : Bool) → option_and_then (λ o. o) (cond b (Some m) (get_by (λ k. bytes_eq q k.now) old)) ≡ cond b m (looked_up old q)
    go true = refl
    go false = refl

abbrev pub Names : Type 0
Names = List (List ℕ × Meaning)

abbrev Agrees : Lookups → Names → Type 0
Agrees table names = (q : List ℕ) → option_map seen (looked_up table q) ≡ meaning_in names q

agrees_after : (old new : Lookups) (names : Names) (name : List ℕ) (m : code.Meaning) → Agrees old names → Sets old new name (Some m)
    → Agrees new ((name, seen m) ∷ names)
agrees_after old new names name m h sets q = ap (option_map seen) (set old new name (Some m) sets q) ∙ go (bytes_eq name q)
  where
    go : (b : Bool) → option_map seen (cond b (Some m) (looked_up old q)) ≡ cond b (Some (seen m)) (meaning_in names q)
    go true = refl
    go false = h q

-- ---- a declaration

holds : (table : Lookups) (ds rs : List Declared) → reverse ds ≡ rs → Agrees table (names_in rs) → Undoes rs → Holds table ds
holds table ds rs h a u = record { agrees = subst (λ r. Agrees table (names_in r)) (sym h) a; undoes = subst Undoes (sym h) u }

pub declared : (old new : Lookups) (ds es : List Declared) (d : Declared) → Holds old ds → Sets old new d.name.now (Some d.means)
    → option_map seen d.before ≡ meaning_in (names_in (reverse ds)) d.name.now → es ≡ ds ++ d ∷ []
    → Holds new es
declared old new ds es d h sets before e =
    holds new es (d ∷ reverse ds) (ap reverse e ∙ reverse-append ds (d ∷ [])) (agrees_after old new (names_in (reverse ds)) d.name.now d.means h.agrees sets) (before, h.undoes)

-- ---- a declaration that is taken back

back : (names : Names) (name : List ℕ) (m : Meaning) (before : Option code.Meaning) (old new : Lookups)
    → option_map seen before ≡ meaning_in names name → Agrees old ((name, m) ∷ names) → Sets old new name before
    → Agrees new names
back names name m before old new b h sets q = ap (option_map seen) (set old new name before sets q) ∙ go (bytes_eq name q) refl
  where
    go : (t : Bool) → bytes_eq name q ≡ t → option_map seen (cond t before (looked_up old q)) ≡ meaning_in names q
    go true e = b ∙ ap (meaning_in names) ((bytes_eq-Decides name q).0 e)
    go false e = h q ∙ ap (λ t. cond t (Some m) (meaning_in names q)) e

last_first : (ds es : List Declared) (d : Declared) → ds ≡ es ++ d ∷ [] → reverse ds ≡ d ∷ reverse es
last_first ds es d e = ap reverse e ∙ reverse-append es (d ∷ [])

pub undone : (old new : Lookups) (ds es : List Declared) (d : Declared) → Holds old ds → ds ≡ es ++ d ∷ [] → Sets old new d.name.now d.before
    → Holds new es
undone old new ds es d h e sets =
    let r = last_first ds es d e in
    let u = subst Undoes r h.undoes in
    record {
      agrees = back (names_in (reverse es)) d.name.now (seen d.means) d.before old new u.0 (subst (λ l. Agrees old (names_in l)) r h.agrees) sets;
      undoes = u.1;
    }

-- the name of the last declaration is in the table
pub is_there : (table : Lookups) (ds es : List Declared) (d : Declared) → Holds table ds → ds ≡ es ++ d ∷ []
    → get_by (λ k. bytes_eq d.name.now k.now) table ≡ None → ⊥
is_there table ds es d h e none =
    let a = subst (λ l. Agrees table (names_in l)) (last_first ds es d e) h.agrees d.name.now in
    let here : bytes_eq d.name.now d.name.now ≡ true = (bytes_eq-Decides d.name.now d.name.now).1 refl in
    let both : option_map seen (looked_up table d.name.now) ≡ Some (seen d.means) =
    a ∙ ap (λ t. cond t (Some (seen d.means)) (meaning_in (names_in (reverse es)) d.name.now)) here in
    let nothing : None ≡ Some (seen d.means) = sym (ap (λ o. option_map seen (option_and_then (λ m. m) o)) none) ∙ both in
    never (seen d.means) nothing
  where
    never : (m : Meaning) → None ≡ Some m → ⊥
    never m h = cc

pub names_undone : (ds es : List Declared) (d : Declared) → ds ≡ es ++ d ∷ [] → names_in (reverse es) ≡ drop 1 (names_in (reverse ds))
names_undone ds es d e = sym (ap (λ l. drop 1 (names_in l)) (last_first ds es d e))

-- ---- a scope that ends

abbrev pub Keeps : Names → Names → ℕ → Type 0
Keeps first now depth = (more rest : Names) → first ≡ more ++ rest → length rest ≡ depth → (left : Names) × (now ≡ left ++ rest)

pub kept_first : (first : Names) (depth : ℕ) → Keeps first first depth
kept_first first depth more rest e n = (more, e)

pub kept_next : (first now next : Names) (depth : ℕ) → Keeps first now depth → depth < length now → next ≡ drop 1 now → Keeps first next depth
kept_next first now next depth h small e more rest split n = go (h more rest split n).0 (h more rest split n).1
  where
    go : (left : Names) → now ≡ left ++ rest → (l : Names) × (next ≡ l ++ rest)
    go [] k = let wrong : ⊥ = omega (arith, small, n, ap length k) in absurd wrong
    go (x ∷ left) k = (left, e ∙ ap (drop 1) k)

pub kept_last : (first now : Names) (depth : ℕ) → Keeps first now depth → length now ≤ depth
    → (more rest : Names) → first ≡ more ++ rest → length rest ≡ depth → now ≡ rest
kept_last first now depth h small more rest split n = go (h more rest split n).0 (h more rest split n).1
  where
    go : (left : Names) → now ≡ left ++ rest → now ≡ rest
    go [] k = k
    go (x ∷ left) k =
        let wrong : ⊥ = omega (arith, small, n, ap length k, length-append left rest) in absurd wrong
