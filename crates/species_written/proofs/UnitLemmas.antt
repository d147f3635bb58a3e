-- The names that are noted in a program, and the statements in it, are together no more than its tokens.
use Rattle.std.proofs.Common.{◌≡◌, ap, refl, ℕ, suc, ◌+◌, ◌≤◌, List, [], ◌∷◌, ◌++◌, map, length, arith, length-append}
use Rattle.std.specs.Prelude.{sum}
use Rattle.std.specs.List.{flat_map}
use Rattle.species_ast.specs.Token.{Token}
use Rattle.species_ast.specs.declared.tree.Kind.{Kind}
use Rattle.species_ast.specs.declared.raw.RawExpr.{RawExpr}
use Rattle.species_ast.specs.declared.raw.RawArray.{RawArray}
use Rattle.species_ast.specs.declared.raw.RawItem.{RawItem}
use Rattle.species_ast.specs.declared.raw.RawUnit.{RawUnit}
use Rattle.species_ast.specs.Grammar.Words.{punctuator, keyword, name}
use Rattle.species_ast.specs.Grammar.Declarations.{ArrayDeclarator, MoreArrays, GlobalDeclaration}
use Rattle.species_ast.specs.Grammar.Units.{TranslationUnit}
use Rattle.species_ast.specs.Scope.Meanings.{Meaning, Scope, scope_with, occurrence, Declared}
use Rattle.species_ast.specs.Scope.Expressions.{ExprReading, reading, names_of}
use Rattle.species_ast.specs.Scope.Statements.{in_order, stmt_fragment}
use Rattle.species_ast.specs.Scope.Programs.{ArrayParts, SizeParts, size_parts, parts_of, globals_from, first_scope, arrays_of, program_of}
use Rattle.species_ast.specs.Scope.Written.{statements_in}
use Rattle.species_ast.proofs.ScopeLaws.{readings}
use Rattle.species_written.proofs.NameLemmas.{subs_fit}
use Rattle.species_written.proofs.StatementLemmas.{noted, items_fit}

-- ---- arrays

abbrev pub declared_names : ℕ → List ArrayParts → Scope → ℕ
declared_names n ps s = length (globals_from n ps s).names

sizes_read : (xs : List RawExpr) (s : Scope) → map (λ (x : SizeParts). x.reads s) (map size_parts xs) ≡ readings xs s
sizes_read [] s = refl
sizes_read (x ∷ xs) s = ap (λ (rs : List ExprReading). reading x s ∷ rs) (sizes_read xs s)

-- the names of these arrays and of what is declared behind them, with so many more
abbrev BehindFits : List ArrayParts → ℕ → ℕ → Type 0
BehindFits ps more m = (n : ℕ) (s : Scope) → declared_names n ps s + more ≤ m

array_fits : (k : Kind) (a : RawArray) (xs : List Token) → ArrayDeclarator a xs → (ps : List ArrayParts) (more m : ℕ) → BehindFits ps more m → BehindFits (parts_of k a ∷ ps) more (length xs + m)
array_fits k a xs (ArrayDeclarator.array i size sizes us d) ps more m h = λ n s.
    let subs = size ∷ sizes in
    let own = names_of (map (λ (x : SizeParts). x.reads s) (map size_parts subs)) in
    let e : length own ≡ length (names_of (readings subs s)) = ap (λ (rs : List ExprReading). length (names_of rs)) (sizes_read subs s) in
    let inner = scope_with i (Meaning.Array n (length (map size_parts subs))) s in
    omega (arith, e, subs_fit s subs us d, h (suc n) inner, length-append own (globals_from (suc n) ps inner).names)

arrays_fit : (k : Kind) (zs : List RawArray) (ts : List Token) → MoreArrays zs ts → (ps : List ArrayParts) (more m : ℕ) → BehindFits ps more m → BehindFits (map (parts_of k) zs ++ ps) more (length ts + m)
arrays_fit k zs ts MoreArrays.none ps more m h = λ n s. omega (arith, h n s)
arrays_fit k zs ts (MoreArrays.more p a rest xs us d e) ps more m h = λ n s.
    omega (arith, array_fits k a xs d (map (parts_of k) rest ++ ps) more (length us + m) (arrays_fit k rest us e ps more m h) n s, length-append xs us)

global_fits : (g : RawItem) (ts : List Token) → GlobalDeclaration g ts → (ps : List ArrayParts) (more m : ℕ) → BehindFits ps more m → BehindFits (arrays_of g ++ ps) more (length ts + m)
global_fits g ts (GlobalDeclaration.global p q k a rest ks xs us t d e) ps more m h = λ n s.
    omega (
      arith,
      array_fits k a xs d (map (parts_of k) rest ++ ps) more (length us + m) (arrays_fit k rest us e ps more m h) n s,
      length-append ks ((xs ++ us) ++ punctuator q ";" ∷ []),
      length-append (xs ++ us) (punctuator q ";" ∷ []),
      length-append xs us,
    )

-- ---- programs

-- the function's name, and what stands in its body
abbrev body_size : RawUnit → Scope → ℕ
body_size u t = suc (noted (in_order (map stmt_fragment u.body) t) + sum (map statements_in u.body))

unit_fits : (u : RawUnit) (ts : List Token) → TranslationUnit u ts → (t : Scope) → BehindFits (flat_map arrays_of u.items) (body_size u t) (length ts)
unit_fits u ts (TranslationUnit.directive i w us d) t = λ n s. omega (arith, unit_fits w us d t n s)
unit_fits u ts (TranslationUnit.global b g w bs gs us o d e) t = λ n s.
    omega (arith, global_fits g gs d (flat_map arrays_of w.items) (body_size w t) (length us) (unit_fits w us e t) n s, length-append bs (gs ++ us), length-append gs us)
unit_fits u ts (TranslationUnit.function b c p q r o f body bs cs us ob oc d) t = λ n s.
    let behind = cs ++ (punctuator r ")" ∷ punctuator o "{" ∷ us) in
    omega (arith, items_fit body us d t, length-append bs (keyword p "void" ∷ name f ∷ punctuator q "(" ∷ behind), length-append cs (punctuator r ")" ∷ punctuator o "{" ∷ us))

-- the names of a program and its statements
pub program_fits : (u : RawUnit) (ts : List Token) → TranslationUnit u ts → length (program_of u).names + sum (map statements_in u.body) ≤ length ts
program_fits u ts d =
    let globals = globals_from 0 (flat_map arrays_of u.items) (first_scope []) in
    let inner = scope_with u.function Meaning.Function globals.next in
    let own = occurrence Declared globals.next u.function ∷ (in_order (map stmt_fragment u.body) inner).notes.names in
    omega (arith, unit_fits u ts d inner 0 (first_scope []), length-append globals.names own)
