-- What a whole program becomes.
use Rattle.std.specs.Prelude.{ℕ, suc, List, [], ◌∷◌, ◌++◌, map, flat_map, length, ℤ, pos, negsuc, Option, Some, None}
use Rattle.std.specs.List.{filter_map}
use Rattle.species_ast.specs.Spelling.{Spelling}
use Rattle.species_ast.specs.declared.tree.Kind.{Kind}
use Rattle.species_ast.specs.declared.tree.Array.{Array}
use Rattle.species_ast.specs.declared.tree.Unit.{Unit}
use Rattle.species_ast.specs.declared.raw.RawExpr.{RawExpr}
use Rattle.species_ast.specs.declared.raw.RawArray.{RawArray}
use Rattle.species_ast.specs.declared.raw.RawItem.{RawItem}
use Rattle.species_ast.specs.declared.raw.RawItem.TheVariants as item
use Rattle.species_ast.specs.declared.raw.RawUnit.{RawUnit}
use Rattle.species_ast.specs.Grammar.Expressions.{place_of}
use Rattle.species_ast.specs.Scope.Forms.{constant_of}
use Rattle.species_ast.specs.Scope.Meanings.{Meaning, Scope, scope_with, Role, Declared, Iterates, Occurrence, occurrence}
use Rattle.species_ast.specs.Scope.Expressions.{ExprReading, reading, names_of}
use Rattle.species_ast.specs.Scope.Statements.{LoopSite, Walk, in_order, stmt_fragment}

-- ---- arrays

-- a size of an array: its place, and its number, if it is constant
pub record Size : Type 0 where
  pub place : ℕ
  pub number : Option ℤ

-- An array where it is declared.
pub record ArraySite : Type 0 where
  pub name : Spelling
  pub array : Array
  pub sizes : List Size

pub record Globals : Type 0 where
  pub arrays : List ArraySite
  pub names : List Occurrence
  pub next : Scope

-- the header of an `#include`
abbrev pub header_of : RawItem → Option (List ℕ)
header_of (item.Include header) = Some header.text
header_of (item.Global k arrays) = None

-- a size that is constant and not below 0; no lawful program has another
abbrev pub extent : Option ℤ → ℕ
extent (Some (pos n)) = n
extent (Some (negsuc n)) = 0
extent None = 0

-- the expression of a size: its place, and what it becomes
pub record SizeParts : Type 0 where
  pub place : ℕ
  pub reads : Scope → ExprReading

-- an array: its kind, its name and its sizes
pub record ArrayParts : Type 0 where
  pub kind : Kind
  pub name : Spelling
  pub sizes : List SizeParts

abbrev pub size_parts : RawExpr → SizeParts
size_parts e = record { place = place_of e; reads = reading e }

abbrev pub parts_of : Kind → RawArray → ArrayParts
parts_of k a = record { kind = k; name = a.name; sizes = map size_parts a.sizes }

abbrev pub size_in : Scope → SizeParts → Size
size_in s x = record { place = x.place; number = constant_of (x.reads s).expr }

-- the arrays, of which the first has the number n; each is in scope from the end of its declarator
abbrev pub globals_from : ℕ → List ArrayParts → Scope → Globals
globals_from n [] s = record { arrays = []; names = []; next = s }
globals_from n (a ∷ rest) s =
    let sizes = map (size_in s) a.sizes in
    let array : Array = record { name = a.name.text; kind = a.kind; dims = map (λ x. extent x.number) sizes } in
    let names = occurrence Declared s a.name ∷ names_of (map (λ x. x.reads s) a.sizes) in
    let later = globals_from (suc n) rest (scope_with a.name (Meaning.Array n (length a.sizes)) s) in
    record { arrays = record { name = a.name; array = array; sizes = sizes } ∷ later.arrays; names = names ++ later.names; next = later.next }

-- ---- the program

-- A program: the unit that it becomes, and its arrays, names and loops where they stand.
pub record Program : Type 0 where
  pub unit : Unit
  pub arrays : List ArraySite
  pub names : List Occurrence
  pub loops : List LoopSite

-- what is declared before anything is
abbrev pub first_scope : List ℕ → Scope
first_scope iterators = record { names = []; level = 0; serials = 0; iterators = iterators }

abbrev pub arrays_of : RawItem → List ArrayParts
arrays_of (item.Include header) = []
arrays_of (item.Global k arrays) = map (parts_of k) arrays

-- a program from its headers, its arrays, its function's name and body, where these locals are the iterators of loops
abbrev pub program_with : List (List ℕ) → List ArrayParts → Spelling → List Walk → List ℕ → Program
program_with headers arrays name body iterators =
    let globals = globals_from 0 arrays (first_scope iterators) in
    let inner = in_order body (scope_with name Meaning.Function globals.next) in
    record {
      unit = record {
        includes = headers;
        arrays = map (λ a. a.array) globals.arrays;
        locals = inner.notes.locals;
        function = name.text;
        body = inner.statements;
      };
      arrays = globals.arrays;
      names = globals.names ++ (occurrence Declared globals.next name ∷ inner.notes.names);
      loops = inner.notes.loops;
    }

-- the local that a loop without `int` has as its iterator
abbrev pub local_in : Role → Option Meaning → Option ℕ
local_in Iterates (Some (Meaning.Variable x)) = Some x.serial
local_in role means = None

abbrev pub iterators_of : List Occurrence → List ℕ
iterators_of names = filter_map (λ o. local_in o.role o.means) names

-- A first walk tells what the names mean, and so which locals are the iterators of loops; a second, which knows these, tells
-- what becomes of the program. Names mean the same in both; those of the first are kept, as that is where they are looked at.
abbrev pub in_two_walks : (List ℕ → Program) → Program
in_two_walks walk =
    let names = (walk []).names in
    let second = walk (iterators_of names) in
    record second { names = names }

-- What a program becomes.
abbrev pub program_of : RawUnit → Program
program_of u = in_two_walks (program_with (filter_map header_of u.items) (flat_map arrays_of u.items) u.function (map stmt_fragment u.body))
