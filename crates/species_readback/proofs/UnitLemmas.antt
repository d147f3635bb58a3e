-- The tokens of a printed unit derive a tree that becomes the unit, up to places.
use Rattle.std.proofs.Common.{◌≡◌, ◌∙◌, ap, sym, refl, subst, ℕ, suc, ◌+◌, true, false, List, [], ◌∷◌, ◌++◌, map, length, Option, Some, None, arith, pos, ℤ, append_assoc, append-nil}
use Rattle.std.proofs.lemmas.Bool.{and_parts}
use Rattle.std.specs.Prelude.{codes, decimal, is_none}
use Rattle.std.specs.List.{list_all, flat_map}
use Rattle.species_ast.specs.Token.{Token}
use Rattle.species_ast.specs.Spelling.{Spelling}
use Rattle.species_ast.specs.declared.tree.Value.TheVariants as value
use Rattle.species_ast.specs.declared.tree.Unit.{Unit}
use Rattle.species_ast.specs.declared.tree.Expr.TheVariants as expr
use Rattle.species_ast.specs.declared.tree.Stmt.{Stmt}
use Rattle.species_ast.specs.declared.token.TokenKind.TheVariants as kind
use Rattle.species_ast.specs.declared.raw.RawExpr.{RawExpr}
use Rattle.species_ast.specs.Grammar.Expressions.{Subscripts}
use Rattle.species_ast.specs.Grammar.Words.{Optional}
use Rattle.species_ast.specs.Scope.Meanings.{Meaning, Scope, Occurrence, occurrence, Declared}
use Rattle.species_ast.specs.Scope.Forms.{constant_of}
use Rattle.species_ast.specs.Scope.Expressions.{reading, names_of}
use Rattle.species_ast.specs.Scope.Statements as walk
use Rattle.species_ast.proofs.Induction.{each_all}
use Rattle.species_print.specs.Printed.{Printed, tokens_from, space, punctuator, name, number}
use Rattle.species_print.specs.Expressions.{kind_words}
use Rattle.species_print.specs.Statements.{all_of, close}
use Rattle.std.specs.List.{filter_map, cons_option}
use Rattle.species_ast.specs.declared.tree.Array.{Array}
use Rattle.species_ast.specs.declared.raw.RawArray.{RawArray}
use Rattle.species_ast.specs.declared.raw.RawItem.TheVariants as item
use Rattle.species_ast.specs.declared.raw.RawUnit.{RawUnit}
use Rattle.species_ast.specs.Grammar.Declarations.{ArrayDeclarator, MoreArrays, GlobalDeclaration}
use Rattle.species_ast.specs.Grammar.Units.{TranslationUnit, after, Derives}
use Rattle.species_ast.specs.Scope.Meanings.{scope_with}
use Rattle.species_ast.specs.Scope.Programs.{Globals, header_of, extent, size_parts, size_in, globals_from, first_scope, arrays_of, program_with, local_in, iterators_of, program_of}
use Rattle.species_print.specs.Units.{include_line, size, array_line, function_line, unit_printed}
use Rattle.species_print.specs.Statements.{indentation}
use Rattle.species_readback.proofs.ExpressionLemmas.{is_quiet, Quiet, quiet_append, lowered, number_reads}
use Rattle.species_readback.proofs.GivesLemmas.{Gives, token, gives_map, gives_lexeme, gives_blank, gives_append, gives_line}
use Rattle.species_readback.proofs.StatementLemmas.{Becomes, BodyDerivation, StmtClaim, body_gives, layouts}
use Rattle.species_readback.proofs.DeclarationLemmas.{kind_gives}
use Rattle.species_readback.proofs.LoopLemmas.{constant_is, statement_reads}
use Rattle.species_readback.specs.Meant.{Meant, list_next, list_locals, list_holds, spell, meant, IsMeant, arrays_scope, has_sizes, is_some_size, body_scope}
use Rattle.species_readback.specs.Unplaced.{unplaced, unplaced_unit}
use Rattle.species_readback.specs.Spelt.{is_int_number}

-- ---- sizes

record SizesDerivation (s : Scope) (dims : List ℕ) (ts : List Token) : Type 0 where
  pub raws : List RawExpr
  pub derives : Subscripts raws ts
  pub is_dims : map (λ x. extent x.number) (map (size_in s) (map size_parts raws)) ≡ dims
  pub is_length : length (map size_parts raws) ≡ length dims
  pub quiet : Quiet (names_of (map (λ x. x.reads s) (map size_parts raws)))

sizes_reads : (s : Scope) (dims : List ℕ) → list_all is_int_number dims ≡ true → (place : ℕ) → SizesDerivation s dims (tokens_from place (flat_map size dims))
sizes_reads s [] h place = record { raws = []; derives = Subscripts.none; is_dims = refl; is_length = refl; quiet = refl }
sizes_reads s (n ∷ dims) h place =
    let k = and_parts (is_int_number n) (list_all is_int_number dims) h in
    let d = lowered s 12 0 (expr.Literal (value.Int (pos n))) (number n ∷ []) (omega arith) (number_reads s (decimal n) (value.Int (pos n))) (place + 1) in
    let more = sizes_reads s dims k.1 _ in
    record {
      raws = d.raw ∷ more.raws;
      derives = Subscripts.more place _ d.raw more.raws _ _ d.derives more.derives;
      is_dims = (λ t. number_at (ap constant_of d.becomes ∙ constant_is n k.0) t ∷ more.is_dims t);
      is_length = ap suc more.is_length;
      quiet = quiet_append (reading d.raw s).names (names_of (map (λ x. x.reads s) (map size_parts more.raws))) d.quiet more.quiet;
    }
  where
    number_at : {o : Option ℤ} → o ≡ Some (pos n) → extent o ≡ n
    number_at e = ap extent e

-- ---- arrays

-- what the globals of a program are
pub record GlobalsAre (g : Globals) (arrays : List Array) (nx : Scope) : Type 0 where
  pub is_arrays : map (λ a. a.array) g.arrays ≡ arrays
  pub is_next : g.next ≡ nx
  pub quiet : Quiet g.names

record ArrayDerivation (s : Scope) (a : Array) (ts : List Token) : Type 0 where
  pub place : ℕ
  pub sizes : List RawExpr
  pub derives : GlobalDeclaration (item.Global a.kind (record { name = record { text = a.name; place = place }; sizes = sizes } ∷ [])) ts
  pub is_dims : map (λ x. extent x.number) (map (size_in s) (map size_parts sizes)) ≡ a.dims
  pub is_length : length (map size_parts sizes) ≡ length a.dims
  pub quiet : Quiet (names_of (map (λ x. x.reads s) (map size_parts sizes)))

-- a list of subscripts that is not empty
declarator_of : (n : Spelling) (raws : List RawExpr) (dims : List ℕ) (ts : List Token) → length (map size_parts raws) ≡ length dims → is_some_size dims ≡ true → Subscripts raws ts
    → ArrayDeclarator (record { name = n; sizes = raws }) (token n.place n.text kind.Name ∷ ts)
declarator_of n [] [] ts e h d = cc
declarator_of n [] (k ∷ dims) ts e h d = let x : ⊥ = omega (arith, e) in absurd x
declarator_of n (r ∷ raws) dims ts e h d = ArrayDeclarator.array n r raws ts d

array_gives : (s : Scope) (a : Array) → has_sizes a ≡ true → Gives (array_line a) (ArrayDerivation s a)
array_gives s a h =
    let k = and_parts (is_some_size a.dims) (list_all is_int_number a.dims) h in
    gives_line {F = ArrayDerivation s a} [] (kind_words a.kind ++ (space ∷ name a.name ∷ (flat_map size a.dims ++ punctuator ";" ∷ [])))
    (kind_gives {F = λ ts. (p q : ℕ) × (us : List Token) × SizesDerivation s a.dims us × (ts ≡ token p a.name kind.Name ∷ (us ++ token q (codes ";") kind.Punct ∷ []))} a.kind _
    (λ p ks ts t d. let x = d.3 in let n : Spelling = record { text = a.name; place = d.0 } in let array : RawArray = record { name = n; sizes = x.raws } in record {
      place = d.0;
      sizes = x.raws;
      derives = subst (GlobalDeclaration (item.Global a.kind (array ∷ []))) (ap (λ z. ks ++ z) (ap (λ z. token d.0 a.name kind.Name ∷ (z ++ token d.1 (codes ";") kind.Punct ∷ [])) (append-nil d.2) ∙ sym d.4))
          (GlobalDeclaration.global p d.1 a.kind array [] ks (token d.0 a.name kind.Name ∷ d.2) [] t (declarator_of n x.raws a.dims d.2 x.is_length k.0 x.derives) MoreArrays.none);
      is_dims = x.is_dims;
      is_length = x.is_length;
      quiet = x.quiet;
    })
    (gives_blank (codes " ") _ (gives_lexeme {F = λ ts. (q : ℕ) × (us : List Token) × SizesDerivation s a.dims us × (ts ≡ us ++ token q (codes ";") kind.Punct ∷ [])} a.name kind.Name _
    (λ p ts d. (p, d.0, d.1, d.2, ap (λ z. token p a.name kind.Name ∷ z) d.3))
    (gives_append {F = SizesDerivation s a.dims} {G = λ ts. (q : ℕ) × (ts ≡ token q (codes ";") kind.Punct ∷ [])} (flat_map size a.dims) (punctuator ";" ∷ [])
    (λ xs ys x y. (y.0, xs, x, ap (λ z. xs ++ z) y.1)) (record { at = sizes_reads s a.dims k.1 }) (record { at = λ place. (place, refl) })))))

-- ---- what is claimed of a unit, from some array on

record UnitDerivation (n : ℕ) (s : Scope) (headers : List (List ℕ)) (arrays : List Array) (f : List ℕ) (xs : List Stmt) (ms : List Meant) (ts : List Token) : Type 0 where
  pub raw : RawUnit
  pub derives : TranslationUnit raw ts
  pub is_headers : filter_map header_of raw.items ≡ headers
  pub globals : GlobalsAre (globals_from n (flat_map arrays_of raw.items) s) arrays (arrays_scope n arrays s)
  pub is_function : raw.function.text ≡ f
  pub body : Becomes (walk.in_order (map walk.stmt_fragment raw.body) (scope_with (spell f) Meaning.Function (arrays_scope n arrays s))) xs (list_next ms (scope_with (spell f) Meaning.Function (arrays_scope n arrays s))) (list_locals ms)

abbrev body_printed : Unit → List Stmt → List Printed
body_printed u body = all_of (layouts u body) [] (indentation 1) ++ close []

function_gives : (u : Unit) (n : ℕ) (s : Scope) (f : List ℕ) (body : List Stmt) → list_holds (map (meant u) body) [] (scope_with (spell f) Meaning.Function s) ≡ true
    → Gives (function_line f ++ body_printed u body) (UnitDerivation n s [] [] f (map unplaced body) (map (meant u) body))
function_gives u n s f body h =
    let t = scope_with (spell f) Meaning.Function s in
    gives_append {F = λ ts. (p i q v r o : ℕ) × (ts ≡ token p (codes "void") kind.Keyword ∷ token i f kind.Name ∷ token q (codes "(") kind.Punct ∷ token v (codes "void") kind.Keyword ∷ token r (codes ")") kind.Punct ∷ token o (codes "{") kind.Punct ∷ [])}
    {G = BodyDerivation t (map unplaced body) (map (meant u) body)} (function_line f) (body_printed u body)
    (λ hs us a b. let name : Spelling = record { text = f; place = a.1 } in let raw : RawUnit = record { items = []; function = name; body = b.raws } in record {
      raw = raw;
      derives = subst (TranslationUnit raw) (sym (ap (λ z. z ++ us) a.6)) (TranslationUnit.function false true a.0 a.2 a.4 a.5 name b.raws [] _ us Optional.absent (Optional.present a.3) b.derives);
      is_headers = refl;
      globals = record { is_arrays = refl; is_next = refl; quiet = refl };
      is_function = refl;
      body = b.becomes;
    })
    (record { at = λ place. (_, _, _, _, _, _, refl) })
    (body_gives u [] (indentation 1) [] body (each_all (StmtClaim u) (statement_reads u) body) t h)

arrays_gives : (u : Unit) (n : ℕ) (s : Scope) (arrays : List Array) (f : List ℕ) (body : List Stmt) → list_all has_sizes arrays ≡ true
    → list_holds (map (meant u) body) [] (scope_with (spell f) Meaning.Function (arrays_scope n arrays s)) ≡ true
    → Gives (flat_map array_line arrays ++ (function_line f ++ body_printed u body)) (UnitDerivation n s [] arrays f (map unplaced body) (map (meant u) body))
arrays_gives u n s [] f body w h = function_gives u n s f body h
arrays_gives u n s (a ∷ arrays) f body w h =
    let k = and_parts (has_sizes a) (list_all has_sizes arrays) w in
    let t = scope_with (spell a.name) (Meaning.Array n (length a.dims)) s in
    let rest = function_line f ++ body_printed u body in
    subst (λ ps. Gives ps (UnitDerivation n s [] (a ∷ arrays) f (map unplaced body) (map (meant u) body))) (sym (append_assoc (array_line a) (flat_map array_line arrays) rest))
    (gives_append {F = ArrayDerivation s a} {G = UnitDerivation (suc n) t [] arrays f (map unplaced body) (map (meant u) body)} (array_line a) (flat_map array_line arrays ++ rest)
    (λ xs ys x y.
    let array : RawArray = record { name = record { text = a.name; place = x.place }; sizes = x.sizes } in
    let g = item.Global a.kind (array ∷ []) in
    let raw = after g y.raw in
    let more = flat_map arrays_of y.raw.items in
    let later = subst (λ k. GlobalsAre (globals_from (suc n) more (scope_with (spell a.name) (Meaning.Array n k) s)) arrays (arrays_scope (suc n) arrays t)) (sym x.is_length) y.globals in
    record {
      raw = raw;
      derives = TranslationUnit.global false g y.raw [] xs ys Optional.absent x.derives y.derives;
      is_headers = y.is_headers;
      globals = record {
        is_arrays = (λ i. record { name = a.name; kind = a.kind; dims = x.is_dims i } ∷ later.is_arrays i);
        is_next = later.is_next;
        quiet = quiet_append (occurrence Declared s array.name ∷ names_of (map (λ z. z.reads s) (map size_parts x.sizes))) _ x.quiet later.quiet;
      };
      is_function = y.is_function;
      body = y.body;
    })
    (array_gives s a k.0) (arrays_gives u (suc n) t arrays f body k.1 h))

includes_gives : (u : Unit) (s : Scope) (headers : List (List ℕ)) (arrays : List Array) (f : List ℕ) (body : List Stmt) → list_all has_sizes arrays ≡ true
    → list_holds (map (meant u) body) [] (scope_with (spell f) Meaning.Function (arrays_scope 0 arrays s)) ≡ true
    → Gives (flat_map include_line headers ++ (flat_map array_line arrays ++ (function_line f ++ body_printed u body))) (UnitDerivation 0 s headers arrays f (map unplaced body) (map (meant u) body))
includes_gives u s [] arrays f body w h = arrays_gives u 0 s arrays f body w h
includes_gives u s (header ∷ headers) arrays f body w h =
    let rest = flat_map array_line arrays ++ (function_line f ++ body_printed u body) in
    subst (λ ps. Gives ps (UnitDerivation 0 s (header ∷ headers) arrays f (map unplaced body) (map (meant u) body))) (sym (append_assoc (include_line header) (flat_map include_line headers) rest))
    (gives_append {F = λ ts. (p : ℕ) × (ts ≡ token p header kind.Include ∷ [])} {G = UnitDerivation 0 s headers arrays f (map unplaced body) (map (meant u) body)} (include_line header) (flat_map include_line headers ++ rest)
    (λ xs ys x y. let n : Spelling = record { text = header; place = x.0 } in record {
      raw = after (item.Include n) y.raw;
      derives = subst (TranslationUnit (after (item.Include n) y.raw)) (sym (ap (λ z. z ++ ys) x.1)) (TranslationUnit.directive n y.raw ys y.derives);
      is_headers = ap (λ z. header ∷ z) y.is_headers;
      globals = y.globals;
      is_function = y.is_function;
      body = y.body;
    })
    (record { at = λ place. (_, refl) }) (includes_gives u s headers arrays f body w h))

-- ---- whole units

printed_are : (u : Unit) → unit_printed true u ≡ flat_map include_line u.includes ++ (flat_map array_line u.arrays ++ (function_line u.function ++ body_printed u u.body))
printed_are u =
    append_assoc (flat_map include_line u.includes) (flat_map array_line u.arrays ++ function_line u.function) (body_printed u u.body)
    ∙ ap (λ z. flat_map include_line u.includes ++ z) (append_assoc (flat_map array_line u.arrays) (function_line u.function) (body_printed u u.body))

no_iterators : (names : List Occurrence) → Quiet names → iterators_of names ≡ []
no_iterators [] q = refl
no_iterators (o ∷ names) q =
    let k = and_parts (is_quiet o) (list_all is_quiet names) q in
    go (local_in o.role o.means) k.0 ∙ no_iterators names k.1
  where
    go : (x : Option ℕ) → is_none x ≡ true → cons_option x (iterators_of names) ≡ iterators_of names
    go None h = refl
    go (Some n) h = cc

pub record UnitReads (u : Unit) (ts : List Token) : Type 0 where
  pub raw : RawUnit
  pub derives : Derives ts raw
  pub becomes : unplaced_unit (program_of raw).unit ≡ unplaced_unit u

-- each unit whose names mean what they should
pub unit_reads : (u : Unit) → IsMeant u → Gives (unit_printed true u) (UnitReads u)
unit_reads u m =
    subst (λ ps. Gives ps (UnitReads u)) (sym (printed_are u))
    (gives_map {F = UnitDerivation 0 (first_scope []) u.includes u.arrays u.function (map unplaced u.body) (map (meant u) u.body)} {G = UnitReads u} (flat_map include_line u.includes ++ (flat_map array_line u.arrays ++ (function_line u.function ++ body_printed u u.body)))
    (λ ts d.
    let raw = d.raw in
    let first = program_with (filter_map header_of raw.items) (flat_map arrays_of raw.items) raw.function (map walk.stmt_fragment raw.body) in
    let globals = globals_from 0 (flat_map arrays_of raw.items) (first_scope []) in
    let scope = scope_with raw.function Meaning.Function globals.next in
    let b = subst (λ s. Becomes (walk.in_order (map walk.stmt_fragment raw.body) s) (map unplaced u.body) (list_next (map (meant u) u.body) (body_scope u)) (list_locals (map (meant u) u.body)))
    (λ i. scope_with (spell (sym d.is_function i)) Meaning.Function (sym d.globals.is_next i)) d.body in
    let inner = walk.in_order (map walk.stmt_fragment raw.body) scope in
    let quiet : Quiet (first []).names = quiet_append globals.names (occurrence Declared globals.next raw.function ∷ inner.notes.names) d.globals.quiet b.quiet in
    record {
      raw = raw;
      derives = d.derives;
      becomes = ap (λ is. unplaced_unit (first is).unit) (no_iterators (first []).names quiet)
          ∙ (λ i. record { includes = d.is_headers i; arrays = d.globals.is_arrays i; locals = (b.is_locals ∙ m.locals) i; function = d.is_function i; body = b.is_statements i });
    })
    (includes_gives u (first_scope []) u.includes u.arrays u.function u.body m.arrays m.body))
