-- Both walks over a program see the same names, and none of those before the body is the iterator of a loop.
use Rattle.std.proofs.Common.{◌≡◌, ◌∙◌, refl, sym, ap, subst, ℕ, suc, List, [], ◌∷◌, ◌++◌, map, length, None}
use Rattle.std.specs.List.{flat_map}
use Rattle.species_ast.specs.declared.tree.Kind.{Kind}
use Rattle.species_ast.specs.declared.raw.RawExpr.{RawExpr}
use Rattle.species_ast.specs.declared.raw.RawArray.{RawArray}
use Rattle.species_ast.specs.declared.raw.RawItem.{RawItem}
use Rattle.species_ast.specs.declared.raw.RawItem.TheVariants as item
use Rattle.species_ast.specs.declared.raw.RawUnit.{RawUnit}
use Rattle.species_ast.specs.Spelling.{Spelling}
use Rattle.species_ast.specs.Scope.Meanings.{Meaning, Scope, meaning_in, scope_with, Declared, Occurrence, occurrence}
use Rattle.species_ast.specs.Scope.Expressions.{reading, names_of}
use Rattle.species_ast.specs.Scope.Statements.{stmt_fragment, in_order}
use Rattle.species_ast.specs.Scope.Programs.{SizeParts, ArrayParts, Globals, globals_from, size_parts, parts_of, arrays_of, first_scope, iterators_of}
use Rattle.species_lawful.specs.Walks.{walk_of}
use Rattle.species_lawful.proofs.RawLaws.{Plain, joined, expr_plain, iterators-append}
use Rattle.species_lawful.proofs.TwoWalks.{Alike, stmts_same}

-- the names in sizes are the same in scopes of the same names
abbrev PlainSizes : List SizeParts → Type 0
PlainSizes [] = Unit {0}
PlainSizes (x ∷ xs) = ((s t : Scope) → s.names ≡ t.names → Plain (x.reads s).names (x.reads t).names) × PlainSizes xs

abbrev PlainArrays : List ArrayParts → Type 0
PlainArrays [] = Unit {0}
PlainArrays (a ∷ rest) = PlainSizes a.sizes × PlainArrays rest

sizes_plain : (es : List RawExpr) → PlainSizes (map size_parts es)
sizes_plain [] = tt
sizes_plain (e ∷ es) = (expr_plain e, sizes_plain es)

arrays_plain : (k : Kind) (arrays : List RawArray) → PlainArrays (map (parts_of k) arrays)
arrays_plain k [] = tt
arrays_plain k (a ∷ arrays) = (sizes_plain a.sizes, arrays_plain k arrays)

both_plain : (xs ys : List ArrayParts) → PlainArrays xs → PlainArrays ys → PlainArrays (xs ++ ys)
both_plain [] ys h k = k
both_plain (x ∷ xs) ys h k = (h.0, both_plain xs ys h.1 k)

item_plain : (x : RawItem) → PlainArrays (arrays_of x)
item_plain (item.Include header) = tt
item_plain (item.Global k arrays) = arrays_plain k arrays

items_plain : (xs : List RawItem) → PlainArrays (flat_map arrays_of xs)
items_plain [] = tt
items_plain (x ∷ xs) = both_plain (arrays_of x) (flat_map arrays_of xs) (item_plain x) (items_plain xs)

names_plain : (xs : List SizeParts) → PlainSizes xs → (s t : Scope) → s.names ≡ t.names →
    Plain (names_of (map (λ x. x.reads s) xs)) (names_of (map (λ x. x.reads t) xs))
names_plain [] h s t n = record { alike = refl; no_iterators = refl }
names_plain (x ∷ xs) h s t n =
    joined (x.reads s).names (names_of (map (λ y. y.reads s) xs)) (x.reads t).names (names_of (map (λ y. y.reads t) xs)) (h.0 s t n) (names_plain xs h.1 s t n)

-- a declaration is no iterator
declared_plain : (name : Spelling) (s t : Scope) → s.names ≡ t.names → (xs ys : List Occurrence) → Plain xs ys →
    Plain (occurrence Declared s name ∷ xs) (occurrence Declared t name ∷ ys)
declared_plain name s t n xs ys h = record {
  alike = (λ i. record { name = name; role = Declared; means = meaning_in (n i) name.text } ∷ h.alike i);
  no_iterators = h.no_iterators;
}

record SameGlobals (g h : Globals) : Type 0 where
  names : Plain g.names h.names
  next : Alike g.next h.next

globals_same : (n : ℕ) (parts : List ArrayParts) → PlainArrays parts → (s t : Scope) → Alike s t → SameGlobals (globals_from n parts s) (globals_from n parts t)
globals_same n [] h s t k = record { names = record { alike = refl; no_iterators = refl }; next = k }
globals_same n (a ∷ parts) h s t k =
    let inner = names_plain a.sizes h.0 s t k.names in
    let named : Plain (occurrence Declared s a.name ∷ names_of (map (λ x. x.reads s) a.sizes)) (occurrence Declared t a.name ∷ names_of (map (λ x. x.reads t) a.sizes)) = declared_plain a.name s t k.names _ _ inner in
    let m = Meaning.Array n (length a.sizes) in
    let later = globals_same (suc n) parts h.1 (scope_with a.name m s) (scope_with a.name m t)
    (record { names = (λ i. (a.name.text, m) ∷ k.names i); level = k.level; serials = k.serials }) in
    record { names = joined _ _ _ _ named later.names; next = later.next }

-- ---- the whole program

abbrev pub globals_in : RawUnit → List ℕ → Globals
globals_in u its = globals_from 0 (flat_map arrays_of u.items) (first_scope its)

abbrev pub body_scope : RawUnit → List ℕ → Scope
body_scope u its = scope_with u.function Meaning.Function (globals_in u its).next

globals_walked : (u : RawUnit) (its js : List ℕ) → SameGlobals (globals_in u its) (globals_in u js)
globals_walked u its js = globals_same 0 (flat_map arrays_of u.items) (items_plain u.items) (first_scope its) (first_scope js) (record { names = refl; level = refl; serials = refl })

-- what a walk sees does not depend on the locals that are iterators
pub same_names : (u : RawUnit) (its js : List ℕ) → (walk_of u its).names ≡ (walk_of u js).names
same_names u its js =
    let g = globals_walked u its js in
    let name = declared_plain u.function (globals_in u its).next (globals_in u js).next g.next.names [] [] (record { alike = refl; no_iterators = refl }) in
    let inner : Alike (body_scope u its) (body_scope u js) = record { names = (λ i. (u.function.text, Meaning.Function) ∷ g.next.names i); level = g.next.level; serials = g.next.serials } in
    let body = stmts_same u.body (body_scope u its) (body_scope u js) inner in
    λ i. g.names.alike i ++ (name.alike i ++ body.names i)

-- the names before the body are no iterators
pub taken_in_body : (u : RawUnit) (its : List ℕ) → iterators_of (walk_of u its).names ≡ iterators_of (in_order (map stmt_fragment u.body) (body_scope u its)).notes.names
taken_in_body u its =
    let g = globals_walked u its its in
    let rest = occurrence Declared (globals_in u its).next u.function ∷ (in_order (map stmt_fragment u.body) (body_scope u its)).notes.names in
    iterators-append (globals_in u its).names rest ∙ ap (λ l. l ++ iterators_of rest) g.names.no_iterators
