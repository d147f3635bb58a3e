-- What a lawful program becomes can be written, and its names mean what they should.
use Rattle.std.proofs.Common.{◌≡◌, ◌∙◌, ap, sym, refl, subst, ℕ, suc, Bool, true, false, List, [], ◌∷◌, ◌++◌, map, length, Some, None, arith, append_assoc, length-append}
use Rattle.std.proofs.lemmas.Bool.{and_parts, and_from, eq-eqb}
use Rattle.std.specs.Prelude.{◌&&◌, slice_get, option_map, unwrap_or}
use Rattle.std.specs.List.{list_all, flat_map, filter_map, cons_option}
use Rattle.species_ast.specs.Names.{is_name}
use Rattle.species_ast.specs.Token.{Token}
use Rattle.species_ast.specs.declared.tree.Kind.{Kind}
use Rattle.species_ast.specs.declared.tree.Kind.TheVariants as of_kind
use Rattle.species_ast.specs.declared.tree.Array.{Array}
use Rattle.species_ast.specs.declared.tree.LocalInfo.{LocalInfo}
use Rattle.species_ast.specs.declared.tree.Unit.{Unit}
use Rattle.species_ast.specs.declared.raw.RawArray.{RawArray}
use Rattle.species_ast.specs.declared.raw.RawItem.{RawItem}
use Rattle.species_ast.specs.declared.raw.RawUnit.{RawUnit}
use Rattle.species_ast.specs.Grammar.Declarations.{ArrayDeclarator, MoreArrays, GlobalDeclaration}
use Rattle.species_ast.specs.Grammar.Statements.{BlockItems}
use Rattle.species_ast.specs.Grammar.Words as word
use Rattle.species_ast.specs.Grammar.Units.{TranslationUnit}
use Rattle.species_ast.specs.Scope.Meanings.{Meaning, Scope, scope_with, count_before}
use Rattle.species_ast.specs.Scope.Statements as walk
use Rattle.species_ast.specs.Scope.Programs.{Globals, ArrayParts, Program, header_of, extent, size_parts, parts_of, size_in, globals_from, first_scope, arrays_of, program_with}
use Rattle.species_print.specs.Expressions.{array_name}
use Rattle.species_readback.proofs.LawfulLemmas.{Matches, is_good, is_fine}
use Rattle.species_readback.proofs.ScopeLemmas.{matches_with}
use Rattle.species_readback.proofs.KeptLemmas.{Place}
use Rattle.species_readback.proofs.LawfulStatementLemmas.{Named, is_stepped, items_kept}
use Rattle.species_readback.specs.Spelt.{is_header, IsSpelt, array_spelt}
use Rattle.species_readback.specs.Meant.{spell, arrays_scope, body_scope, has_sizes, is_some_size, IsMeant}
use Rattle.species_readback.specs.Spelt.{is_int_number}
use Rattle.species_readback.proofs.ListLemmas.{all_append, all_split}

-- ---- by number

at_end : {X : Type 0} (ys : List X) (x : X) (xs : List X) → slice_get (ys ++ x ∷ xs) (length ys) ≡ Some x
at_end [] x xs = refl
at_end (y ∷ ys) x xs = at_end ys x xs

named_from : (u : Unit) (ys xs : List LocalInfo) → u.locals ≡ ys ++ xs → Named u (length ys) xs
named_from u ys [] is = tt
named_from u ys (x ∷ xs) is =
    let get : slice_get u.locals (length ys) ≡ Some x = ap (λ z. slice_get z (length ys)) is ∙ at_end ys x xs in
    let next = named_from u (ys ++ x ∷ []) xs (is ∙ sym (append_assoc ys (x ∷ []) xs)) in
    let long : length (ys ++ x ∷ []) ≡ suc (length ys) = omega (arith, length-append ys (x ∷ [])) in
    (ap (λ o. unwrap_or (option_map (λ l. l.name) o) []) get, ap (λ o. unwrap_or (option_map (λ l. l.kind) o) of_kind.Int) get, subst (λ n. Named u n xs) long next)

array_named : (u : Unit) (ys xs : List Array) (x : Array) → u.arrays ≡ ys ++ x ∷ xs → array_name u (length ys) ≡ x.name
array_named u ys xs x is = ap (λ o. unwrap_or (option_map (λ a. a.name) o) []) (ap (λ z. slice_get z (length ys)) is ∙ at_end ys x xs)

-- ---- arrays: the scopes match behind each

abbrev arrays_in : Globals → List Array
arrays_in g = map (λ a. a.array) g.arrays

globals_match : (u : Unit) (ps : List ArrayParts) (ys : List Array) (n : ℕ) (s t : Scope) → n ≡ length ys → u.arrays ≡ ys ++ arrays_in (globals_from n ps s) → Matches u [] s t
    → Matches u [] (globals_from n ps s).next (arrays_scope n (arrays_in (globals_from n ps s)) t)
globals_match u [] ys n s t e is h = h
globals_match u (a ∷ ps) ys n s t e is h =
    let s' = scope_with a.name (Meaning.Array n (length a.sizes)) s in
    let later = arrays_in (globals_from (suc n) ps s') in
    let x : Array = record { name = a.name.text; kind = a.kind; dims = map (λ x. extent x.number) (map (size_in s) a.sizes) } in
    let t' = scope_with (spell a.name.text) (Meaning.Array n (length x.dims)) t in
    let long : suc n ≡ length (ys ++ x ∷ []) = omega (arith, e, length-append ys (x ∷ [])) in
    globals_match u ps (ys ++ x ∷ []) (suc n) s' t' long (is ∙ sym (append_assoc ys (x ∷ []) later))
    (matches_with u [] s t a.name (Meaning.Array n (length a.sizes)) (Meaning.Array n (length x.dims)) h (ap (array_name u) e ∙ array_named u ys later x is, eq-eqb n n refl))

globals_level : (n : ℕ) (ps : List ArrayParts) (s : Scope) → ((globals_from n ps s).next.level ≡ s.level) × ((globals_from n ps s).next.serials ≡ s.serials) × ((globals_from n ps s).next.iterators ≡ s.iterators)
globals_level n [] s = (refl, refl, refl)
globals_level n (a ∷ ps) s = globals_level (suc n) ps (scope_with a.name (Meaning.Array n (length a.sizes)) s)

scope_level : (n : ℕ) (xs : List Array) (s : Scope) → ((arrays_scope n xs s).level ≡ s.level) × ((arrays_scope n xs s).serials ≡ s.serials) × ((arrays_scope n xs s).iterators ≡ s.iterators)
scope_level n [] s = (refl, refl, refl)
scope_level n (a ∷ xs) s = scope_level (suc n) xs (scope_with (spell a.name) (Meaning.Array n (length a.dims)) s)

-- ---- units by their derivation

abbrev is_sized : {X : Type 0} → List X → Bool
is_sized [] = false
is_sized (x ∷ xs) = true

-- what is known of the parts of a unit whose tokens are good
pub record UnitKnown (raw : RawUnit) : Type 0 where
  pub headers : list_all is_header (filter_map header_of raw.items) ≡ true
  pub arrays : list_all (λ (a : ArrayParts). is_name a.name.text && is_sized a.sizes) (flat_map arrays_of raw.items) ≡ true
  pub function : is_name raw.function.text ≡ true
  pub ts : List Token
  pub body : BlockItems raw.body ts
  pub good : list_all is_good ts ≡ true

array_known : (k : Kind) (a : RawArray) (ts : List Token) → ArrayDeclarator a ts → list_all is_good ts ≡ true → (is_name a.name.text && is_sized (map size_parts a.sizes)) ≡ true
array_known k a ts (ArrayDeclarator.array n size sizes us d) g = and_from _ true (and_parts (is_name n.text) (list_all is_good us) g).0 refl

more_known : (k : Kind) (zs : List RawArray) (ts : List Token) → MoreArrays zs ts → list_all is_good ts ≡ true → list_all (λ (a : ArrayParts). is_name a.name.text && is_sized a.sizes) (map (parts_of k) zs) ≡ true
more_known k zs ts MoreArrays.none g = refl
more_known k zs ts (MoreArrays.more p a rest xs us d e) g = let b = all_split is_good xs us g in and_from _ _ (array_known k a xs d b.0) (more_known k rest us e b.1)

global_known : (g : RawItem) (ts : List Token) → GlobalDeclaration g ts → list_all is_good ts ≡ true
    → (filter_map header_of (g ∷ []) ≡ []) × (list_all (λ (a : ArrayParts). is_name a.name.text && is_sized a.sizes) (arrays_of g) ≡ true)
global_known g ts (GlobalDeclaration.global p q k a rest ks xs us t d e) w =
    let b = all_split is_good ks ((xs ++ us) ++ _ ∷ []) w in
    let c = all_split is_good (xs ++ us) (_ ∷ []) b.1 in
    let f = all_split is_good xs us c.0 in
    (refl, and_from _ _ (array_known k a xs d f.0) (more_known k rest us e f.1))

no_header : (g : RawItem) (ts : List Token) → GlobalDeclaration g ts → header_of g ≡ None
no_header g ts (GlobalDeclaration.global p q k a rest ks xs us t d e) = refl

unit_known : (raw : RawUnit) (ts : List Token) → TranslationUnit raw ts → list_all is_good ts ≡ true → UnitKnown raw
unit_known raw ts (TranslationUnit.directive n u us d) g =
    let a = and_parts (is_header n.text) (list_all is_good us) g in
    let k = unit_known u us d a.1 in
    record { headers = and_from _ _ a.0 k.headers; arrays = k.arrays; function = k.function; ts = k.ts; body = k.body; good = k.good }
unit_known raw ts (TranslationUnit.global b g u bs gs us o d e) w =
    let a = all_split is_good bs (gs ++ us) w in
    let c = all_split is_good gs us a.1 in
    let k = unit_known u us e c.1 in
    let f = global_known g gs d c.0 in
    record {
      headers = ap (λ z. list_all is_header (cons_option z (filter_map header_of u.items))) (no_header g gs d) ∙ k.headers;
      arrays = all_append _ (arrays_of g) (flat_map arrays_of u.items) f.1 k.arrays;
      function = k.function;
      ts = k.ts;
      body = k.body;
      good = k.good;
    }
unit_known raw ts (TranslationUnit.function b c p q r o f body bs cs us ob oc d) g =
    let a = all_split is_good bs (_ ∷ word.name f ∷ _ ∷ (cs ++ (_ ∷ _ ∷ us))) g in
    let e = and_parts (is_name f.text) (list_all is_good (cs ++ (_ ∷ _ ∷ us))) a.1 in
    let h = all_split is_good cs (_ ∷ _ ∷ us) e.1 in
    record { headers = refl; arrays = refl; function = e.0; ts = us; body = d; good = h.1 }

-- ---- arrays that can be written

abbrev pub sizes_fit : Array → Bool
sizes_fit a = list_all is_int_number a.dims

abbrev known_array : ArrayParts → Bool
known_array a = is_name a.name.text && is_sized a.sizes

some_dim : {X Y : Type 0} (f : Y → ℕ) (g : X → Y) (xs : List X) → is_sized xs ≡ true → is_some_size (map f (map g xs)) ≡ true
some_dim f g [] h = cc
some_dim f g (x ∷ xs) h = refl

arrays_written : (ps : List ArrayParts) (n : ℕ) (s : Scope) → list_all known_array ps ≡ true → list_all sizes_fit (arrays_in (globals_from n ps s)) ≡ true
    → (list_all has_sizes (arrays_in (globals_from n ps s)) ≡ true) × (list_all array_spelt (arrays_in (globals_from n ps s)) ≡ true)
arrays_written [] n s h k = (refl, refl)
arrays_written (a ∷ ps) n s h k =
    let s' = scope_with a.name (Meaning.Array n (length a.sizes)) s in
    let x : Array = record { name = a.name.text; kind = a.kind; dims = map (λ x. extent x.number) (map (size_in s) a.sizes) } in
    let b = and_parts (known_array a) (list_all known_array ps) h in
    let c = and_parts (is_name a.name.text) (is_sized a.sizes) b.0 in
    let d = and_parts (sizes_fit x) (list_all sizes_fit (arrays_in (globals_from (suc n) ps s'))) k in
    let more = arrays_written ps (suc n) s' b.1 d.1 in
    (and_from _ _ (and_from _ _ (some_dim (λ x. extent x.number) (size_in s) a.sizes c.1) d.0) more.0, and_from _ _ (and_from _ _ c.0 d.0) more.1)

-- ---- the unit that a lawful program becomes

abbrev pub program_by : RawUnit → List ℕ → Program
program_by raw its = program_with (filter_map header_of raw.items) (flat_map arrays_of raw.items) raw.function (map walk.stmt_fragment raw.body) its

abbrev pub inner_of : RawUnit → List ℕ → walk.Fragment
inner_of raw its = walk.in_order (map walk.stmt_fragment raw.body) (scope_with raw.function Meaning.Function (globals_from 0 (flat_map arrays_of raw.items) (first_scope its)).next)

-- what the conditions of lawful programs say, as far as it is needed here
pub record NothingRefused (raw : RawUnit) (its : List ℕ) : Type 0 where
  pub names : list_all (is_fine its) (inner_of raw its).notes.names ≡ true
  pub steps : list_all is_stepped (inner_of raw its).statements ≡ true
  pub sizes : list_all sizes_fit (program_by raw its).unit.arrays ≡ true

unit_place : (raw : RawUnit) (its : List ℕ) → Place
unit_place raw its =
    let u = (program_by raw its).unit in
    let parts = flat_map arrays_of raw.items in
    let globals = globals_from 0 parts (first_scope its) in
    let g = globals_level 0 parts (first_scope its) in
    let a = scope_level 0 u.arrays (first_scope []) in
    record {
      u = u;
      it = [];
      s = scope_with raw.function Meaning.Function globals.next;
      t = body_scope u;
      matches = matches_with u [] globals.next (arrays_scope 0 u.arrays (first_scope [])) raw.function Meaning.Function Meaning.Function (globals_match u parts [] 0 (first_scope its) (first_scope []) refl refl (λ v. tt)) tt;
      no_iterators = a.2;
      serials = a.1 ∙ sym (ap (count_before globals.next.iterators) g.1);
      level = g.0;
      same_level = a.0 ∙ sym g.0;
    }

pub lawful_unit : (raw : RawUnit) (ts : List Token) (its : List ℕ) → TranslationUnit raw ts → list_all is_good ts ≡ true → NothingRefused raw its
    → IsSpelt (program_by raw its).unit × IsMeant (program_by raw its).unit
unfolding unit_place
lawful_unit raw ts its d g n =
    let u = (program_by raw its).unit in
    let parts = flat_map arrays_of raw.items in
    let k = unit_known raw ts d g in
    let c = unit_place raw its in
    let same = (globals_level 0 parts (first_scope its)).2 in
    let a = scope_level 0 u.arrays (first_scope []) in
    let w = arrays_written parts 0 (first_scope its) k.arrays n.sizes in
    let b = items_kept c raw.body k.ts k.body k.good (record {
      names = subst (λ z. list_all (is_fine z) (inner_of raw its).notes.names ≡ true) (sym same) n.names;
      named = subst (λ z. Named u z u.locals) (sym a.1) (named_from u [] u.locals refl);
      steps = n.steps;
    }) in
    (record { includes = k.headers; arrays = w.1; function = k.function; body = b.written }, record { arrays = w.0; body = b.holds; locals = b.is_locals })
