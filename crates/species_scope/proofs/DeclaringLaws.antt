-- What is built behind sizes, arrays and headers, one after another.
use Rattle.std.proofs.Common.{◌≡◌, ◌∙◌, refl, sym, ap, arith, ℕ, suc, ◌+◌, ◌<◌, List, [], ◌∷◌, ◌++◌, map, take, length, get_or, Bool, ℤ, Option, append-nil, append_assoc, length-append}
use Rattle.std.specs.Prelude.{is_none}
use Rattle.std.specs.List.{flat_map, filter_map}
use Rattle.species_ast.specs.Scope.Forms.{constant_of}
use Rattle.std.proofs.lemmas.List.{length-map, map-append, take_more}
use Rattle.std.proofs.lemmas.List.Elements.{filter_map-append}
use Rattle.std.proofs.lemmas.Grind.{flat_map-append}
use Rattle.species_ast.specs.Spelling.{Spelling}
use Rattle.species_ast.specs.declared.tree.Kind.{Kind}
use Rattle.species_ast.specs.declared.raw.RawExpr.{RawExpr}
use Rattle.species_ast.specs.declared.raw.RawArray.{RawArray}
use Rattle.species_ast.specs.declared.raw.RawItem.{RawItem}
use Rattle.species_ast.specs.declared.raw.RawItem.TheVariants as item
use Rattle.species_ast.specs.Grammar.Expressions.{place_of}
use Rattle.species_ast.specs.Scope.Meanings.{Meaning, Scope, Declared, occurrence, scope_with}
use Rattle.species_ast.specs.Scope.Expressions.{ExprReading, reading, names_of}
use Rattle.species_ast.specs.Scope.Refusals.{Refusal, Finding}
use Rattle.species_ast.specs.Scope.Programs.{Size, SizeParts, ArrayParts, ArraySite, Globals, size_parts, size_in, extent, parts_of, globals_from, arrays_of, header_of}
use Rattle.species_names.specs.Kept.{kept, refused_if}
use Rattle.species_names.specs.Noted.{noted}
use Rattle.species_names.proofs.KeptLaws.{kept-append, noted-append}
use Rattle.species_scope.specs.declared.builder.Builder.{Builder}
use Rattle.species_scope.specs.declared.globals.Heads.{Heads}
use Rattle.species_scope.specs.Readings.{names_in}
use Rattle.species_scope.specs.Formed.{size_found, sizes_at}
use Rattle.species_scope.specs.Declaring.{sizes_in, sizes_of, after_sizes, after_globals, after_arrays, after_items}

-- what is found at some, and then at others
found_at-append : {X : Type 0} (f : X → List Finding) (first : Option Finding) (xs ys : List X)
    → kept (kept first (flat_map f xs)) (flat_map f ys) ≡ kept first (flat_map f (xs ++ ys))
found_at-append f first xs ys = sym (ap (kept first) (flat_map-append f xs ys) ∙ kept-append first (flat_map f xs) (flat_map f ys))

-- a list, up to one place further
further : {X : Type 0} (xs : List X) (i : ℕ) (x : X) → x ≡ get_or xs i x → i < length xs → take (i + 1) xs ≡ take i xs ++ x ∷ []
further xs i x at within = take_more xs i x within ∙ ap (λ y. take i xs ++ y ∷ []) (sym at)

-- ---- sizes

names_in-append : (xs ys : List RawExpr) (s : Scope) → names_in (xs ++ ys) s ≡ names_in xs s ++ names_in ys s
names_in-append xs ys s =
    ap names_of (map-append (λ (e : RawExpr). reading e s) xs ys) ∙ flat_map-append (λ (r : ExprReading). r.names) (map (λ (e : RawExpr). reading e s) xs) (map (λ (e : RawExpr). reading e s) ys)

sizes_of-append : (xs ys : List RawExpr) (s : Scope) → sizes_of (xs ++ ys) s ≡ sizes_of xs s ++ sizes_of ys s
sizes_of-append xs ys s =
    ap (map (λ (x : Size). extent x.number)) (map-append (λ (e : RawExpr). size_in s (size_parts e)) xs ys) ∙ map-append (λ (x : Size). extent x.number) (sizes_in xs s) (sizes_in ys s)

sizes-append : (b : Builder) (xs ys : List RawExpr) → after_sizes (after_sizes b xs) ys ≡ after_sizes b (xs ++ ys)
sizes-append b xs ys =
    let s = b.place in
    let found : noted s.iterators (noted s.iterators b.found (names_in xs s)) (names_in ys s) ≡ noted s.iterators b.found (names_in (xs ++ ys) s) =
    sym (noted-append s.iterators b.found (names_in xs s) (names_in ys s)) ∙ ap (noted s.iterators b.found) (sym (names_in-append xs ys s)) in
    let forms : kept (kept b.forms (flat_map size_found (sizes_in xs s))) (flat_map size_found (sizes_in ys s)) ≡ kept b.forms (flat_map size_found (sizes_in (xs ++ ys) s)) =
    found_at-append size_found b.forms (sizes_in xs s) (sizes_in ys s)
    ∙ ap (λ l. kept b.forms (flat_map size_found l)) (sym (map-append (λ (e : RawExpr). size_in s (size_parts e)) xs ys)) in
    λ i. record b { found = found i; forms = forms i }

-- one size
pub one_size : (b : Builder) (e : RawExpr) (found forms : Option Finding) (number : Option ℤ) (none : Bool) (place : ℕ)
    → found ≡ noted b.place.iterators b.found (reading e b.place).names → number ≡ constant_of (reading e b.place).expr → none ≡ is_none number
    → place ≡ place_of e → forms ≡ kept b.forms (refused_if none Refusal.NotStatic place)
    → record b { found = found; forms = forms } ≡ after_sizes b (e ∷ [])
one_size b e found forms number none place hf hn hb hp hk =
    let s = b.place in
    let found_is : found ≡ noted s.iterators b.found (names_in (e ∷ []) s) = hf ∙ ap (noted s.iterators b.found) (sym (append-nil (reading e s).names)) in
    let forms_is : forms ≡ kept b.forms (flat_map size_found (sizes_in (e ∷ []) s)) =
    hk ∙ (λ i. kept b.forms (refused_if ((hb ∙ ap is_none hn) i) Refusal.NotStatic (hp i)))
    ∙ ap (kept b.forms) (sym (append-nil (size_found (size_in s (size_parts e))))) in
    λ i. record b { found = found_is i; forms = forms_is i }

-- what is read before place i of some sizes
pub record Sized (es : List RawExpr) (b now : Builder) (values : List ℕ) (i : ℕ) : Type 0 where
  pub state : now ≡ after_sizes b (take i es)
  pub sizes : values ≡ sizes_of (take i es) b.place

pub sized_next : (es : List RawExpr) (b now next : Builder) (values more : List ℕ) (n i : ℕ) (e : RawExpr)
    → Sized es b now values i → e ≡ get_or es i e → i < length es
    → n ∷ [] ≡ sizes_of (e ∷ []) now.place → next ≡ after_sizes now (e ∷ []) → more ≡ values ++ n ∷ [] → Sized es b next more (i + 1)
sized_next es b now next values more n i e h at within hn hb hm = record {
  state =
      hb ∙ ap (λ (z : Builder). after_sizes z (e ∷ [])) h.state ∙ sizes-append b (take i es) (e ∷ [])
      ∙ ap (after_sizes b) (sym (further es i e at within));
  sizes =
      hm ∙ ap (λ l. l ++ n ∷ []) h.sizes ∙ ap (λ l. sizes_of (take i es) b.place ++ l) (hn ∙ ap (λ (z : Builder). sizes_of (e ∷ []) z.place) h.state)
      ∙ sym (sizes_of-append (take i es) (e ∷ []) b.place) ∙ ap (λ l. sizes_of l b.place) (sym (further es i e at within));
}

-- ---- arrays

abbrev then_globals : Globals → Globals → Globals
then_globals g k = record { arrays = g.arrays ++ k.arrays; names = g.names ++ k.names; next = k.next }

globals-count : (n : ℕ) (parts : List ArrayParts) (s : Scope) → length (globals_from n parts s).arrays ≡ length parts
globals-count n [] s = refl
globals-count n (a ∷ parts) s = ap suc (globals-count (suc n) parts (scope_with a.name (Meaning.Array n (length a.sizes)) s))

pub globals-iterators : (n : ℕ) (parts : List ArrayParts) (s : Scope) → (globals_from n parts s).next.iterators ≡ s.iterators
globals-iterators n [] s = refl
globals-iterators n (a ∷ parts) s = globals-iterators (suc n) parts (scope_with a.name (Meaning.Array n (length a.sizes)) s)

globals-append : (n : ℕ) (xs ys : List ArrayParts) (s : Scope)
    → globals_from n (xs ++ ys) s ≡ then_globals (globals_from n xs s) (globals_from (n + length xs) ys (globals_from n xs s).next)
globals-append n [] ys s = let here : n ≡ n + 0 = omega arith in ap (λ k. globals_from k ys s) here
globals-append n (a ∷ xs) ys s =
    let inner = scope_with a.name (Meaning.Array n (length a.sizes)) s in
    let sizes = map (size_in s) a.sizes in
    let site : ArraySite = record { name = a.name; array = record { name = a.name.text; kind = a.kind; dims = map (λ (x : Size). extent x.number) sizes }; sizes = sizes } in
    let names = occurrence Declared s a.name ∷ names_of (map (λ (x : SizeParts). x.reads s) a.sizes) in
    let first = globals_from (suc n) xs inner in
    let here : suc n + length xs ≡ n + suc (length xs) = omega arith in
    let rest = globals_from (n + suc (length xs)) ys first.next in
    let whole = globals-append (suc n) xs ys inner ∙ ap (λ k. then_globals first (globals_from k ys first.next)) here in
    ap (λ (g : Globals). record { arrays = site ∷ g.arrays; names = names ++ g.names; next = g.next }) whole
    ∙ ap (λ l. record { arrays = site ∷ (first.arrays ++ rest.arrays); names = l; next = rest.next }) (sym (append_assoc names first.names rest.names))

pub arrays-append : (h : Heads) (xs ys : List ArrayParts) → after_arrays (after_arrays h xs) ys ≡ after_arrays h (xs ++ ys)
arrays-append h xs ys =
    let b = h.builder in
    let n = length h.arrays in
    let g = globals_from n xs b.place in
    let k = globals_from (n + length xs) ys g.next in
    let count : length (h.arrays ++ map (λ (a : ArraySite). a.array) g.arrays) ≡ n + length xs =
    length-append h.arrays (map (λ (a : ArraySite). a.array) g.arrays) ∙ ap (λ m. n + m) (length-map g.arrays (λ (a : ArraySite). a.array) ∙ globals-count n xs b.place) in
    let its : noted g.next.iterators (noted b.place.iterators b.found g.names) k.names ≡ noted b.place.iterators b.found (g.names ++ k.names) =
    ap (λ its. noted its (noted b.place.iterators b.found g.names) k.names) (globals-iterators n xs b.place) ∙ sym (noted-append b.place.iterators b.found g.names k.names) in
    let forms = found_at-append sizes_at b.forms g.arrays k.arrays in
    let arrays : (h.arrays ++ map (λ (a : ArraySite). a.array) g.arrays) ++ map (λ (a : ArraySite). a.array) k.arrays ≡ h.arrays ++ map (λ (a : ArraySite). a.array) (g.arrays ++ k.arrays) =
    append_assoc h.arrays (map (λ (a : ArraySite). a.array) g.arrays) (map (λ (a : ArraySite). a.array) k.arrays) ∙ ap (λ l. h.arrays ++ l) (sym (map-append (λ (a : ArraySite). a.array) g.arrays k.arrays)) in
    let places : (h.places ++ map (λ (a : ArraySite). a.name.place) g.arrays) ++ map (λ (a : ArraySite). a.name.place) k.arrays ≡ h.places ++ map (λ (a : ArraySite). a.name.place) (g.arrays ++ k.arrays) =
    append_assoc h.places (map (λ (a : ArraySite). a.name.place) g.arrays) (map (λ (a : ArraySite). a.name.place) k.arrays) ∙ ap (λ l. h.places ++ l) (sym (map-append (λ (a : ArraySite). a.name.place) g.arrays k.arrays)) in
    ap (λ m. let l = globals_from m ys g.next in record h {
      builder = after_globals (after_globals b g) l;
      arrays = (h.arrays ++ map (λ (a : ArraySite). a.array) g.arrays) ++ map (λ (a : ArraySite). a.array) l.arrays;
      places = (h.places ++ map (λ (a : ArraySite). a.name.place) g.arrays) ++ map (λ (a : ArraySite). a.name.place) l.arrays;
    }) count
    ∙ (λ i. record h { builder = record b { place = k.next; found = its i; forms = forms i }; arrays = arrays i; places = places i })
    ∙ ap (λ (m : Globals). record h {
      builder = after_globals b m;
      arrays = h.arrays ++ map (λ (a : ArraySite). a.array) m.arrays;
      places = h.places ++ map (λ (a : ArraySite). a.name.place) m.arrays;
    }) (sym (globals-append n xs ys b.place))

pub arrays-none : (h : Heads) → h ≡ after_arrays h []
arrays-none h =
    let arrays = sym (append-nil h.arrays) in
    let places = sym (append-nil h.places) in
    λ i. record h { arrays = arrays i; places = places i }

-- an array behind others of a list
pub arrays_next : (k : Kind) (all : List RawArray) (h now next : Heads) (i : ℕ) (a : RawArray)
    → now ≡ after_arrays h (map (parts_of k) (take i all)) → a ≡ get_or all i a → i < length all
    → next ≡ after_arrays now (parts_of k a ∷ []) → next ≡ after_arrays h (map (parts_of k) (take (i + 1) all))
arrays_next k all h now next i a hb at within hn =
    hn ∙ ap (λ (z : Heads). after_arrays z (parts_of k a ∷ [])) hb ∙ arrays-append h (map (parts_of k) (take i all)) (parts_of k a ∷ [])
    ∙ ap (after_arrays h) (sym (map-append (parts_of k) (take i all) (a ∷ []))) ∙ ap (λ l. after_arrays h (map (parts_of k) l)) (sym (further all i a at within))

-- ---- headers and arrays

pub items-append : (h : Heads) (xs ys : List RawItem) → after_items (after_items h xs) ys ≡ after_items h (xs ++ ys)
items-append h xs ys =
    let headers : (h.includes ++ filter_map header_of xs) ++ filter_map header_of ys ≡ h.includes ++ filter_map header_of (xs ++ ys) =
    append_assoc h.includes (filter_map header_of xs) (filter_map header_of ys) ∙ ap (λ l. h.includes ++ l) (sym (filter_map-append header_of xs ys)) in
    let arrays = arrays-append h (flat_map arrays_of xs) (flat_map arrays_of ys) ∙ ap (after_arrays h) (sym (flat_map-append arrays_of xs ys)) in
    λ i. record (arrays i) { includes = headers i }

pub items-none : (h : Heads) → h ≡ after_items h []
items-none h =
    let headers = sym (append-nil h.includes) in
    let arrays = arrays-none h in
    λ i. record (arrays i) { includes = headers i }

-- one header, and the arrays of one declaration
pub item_include : (h : Heads) (x : RawItem) (header : Spelling) → x ≡ item.Include header → record h { includes = h.includes ++ header.text ∷ [] } ≡ after_items h (x ∷ [])
item_include h x header is =
    ap (λ (z : Heads). record z { includes = h.includes ++ header.text ∷ [] }) (arrays-none h) ∙ ap (λ z. after_items h (z ∷ [])) (sym is)

pub item_global : (h : Heads) (x : RawItem) (k : Kind) (arrays : List RawArray) → x ≡ item.Global k arrays → after_arrays h (map (parts_of k) arrays) ≡ after_items h (x ∷ [])
item_global h x k arrays is =
    let parts = map (parts_of k) arrays in
    let same = sym (append-nil parts) in
    let headers = sym (append-nil h.includes) in
    (λ i. record (after_arrays h (same i)) { includes = headers i }) ∙ ap (λ z. after_items h (z ∷ [])) (sym is)

pub items_next : (all : List RawItem) (h now next : Heads) (i : ℕ) (x : RawItem)
    → now ≡ after_items h (take i all) → x ≡ get_or all i x → i < length all → next ≡ after_items now (x ∷ []) → next ≡ after_items h (take (i + 1) all)
items_next all h now next i x hb at within hn =
    hn ∙ ap (λ (z : Heads). after_items z (x ∷ [])) hb ∙ items-append h (take i all) (x ∷ []) ∙ ap (after_items h) (sym (further all i x at within))

-- ---- one array

sizes_are : (s : Scope) (es : List RawExpr) → map (size_in s) (map size_parts es) ≡ sizes_in es s
sizes_are s [] = refl
sizes_are s (e ∷ es) = ap (λ l. size_in s (size_parts e) ∷ l) (sizes_are s es)

names_are : (s : Scope) (es : List RawExpr) → map (λ (x : SizeParts). x.reads s) (map size_parts es) ≡ map (λ (e : RawExpr). reading e s) es
names_are s [] = refl
names_are s (e ∷ es) = ap (λ l. reading e s ∷ l) (names_are s es)

-- what is built behind an array of its parts
pub one_array : (h : Heads) (k : Kind) (a : RawArray) (called : Spelling) (es : List RawExpr) (b c : Builder) (place : Scope) (dims : List ℕ) (number count : ℕ)
    → called ≡ a.name → es ≡ a.sizes
    → b ≡ record h.builder { found = noted h.builder.place.iterators h.builder.found (occurrence Declared h.builder.place called ∷ []) }
    → dims ≡ sizes_of es b.place → c ≡ after_sizes b es
    → number ≡ length h.arrays → count ≡ length es
    → place ≡ scope_with called (Meaning.Array number count) c.place
    → record h {
      builder = record c { place = place };
      arrays = h.arrays ++ record { name = called.text; kind = k; dims = dims } ∷ [];
      places = h.places ++ called.place ∷ [];
    } ≡ after_arrays h (parts_of k a ∷ [])
one_array h k a called es b c place dims number count hc he hb hd hs hn hl hp =
    let s = h.builder.place in
    let o = occurrence Declared s called in
    let counted : count ≡ length (map size_parts es) = hl ∙ sym (length-map es size_parts) in
    let b_place : b.place ≡ s = ap (λ (z : Builder). z.place) hb in
    let state : c ≡ after_sizes (record h.builder { found = noted s.iterators h.builder.found (o ∷ []) }) es = hs ∙ ap (λ (z : Builder). after_sizes z es) hb in
    let next : place ≡ scope_with called (Meaning.Array (length h.arrays) (length (map size_parts es))) s =
    hp ∙ ap (λ (z : Builder). scope_with called (Meaning.Array number count) z.place) state
    ∙ (λ i. scope_with called (Meaning.Array (hn i) (counted i)) s) in
    let shown : dims ≡ map (λ (x : Size). extent x.number) (map (size_in s) (map size_parts es)) =
    hd ∙ ap (sizes_of es) b_place ∙ ap (map (λ (x : Size). extent x.number)) (sym (sizes_are s es)) in
    let found : c.found ≡ noted s.iterators h.builder.found ((o ∷ names_of (map (λ (x : SizeParts). x.reads s) (map size_parts es))) ++ []) =
    ap (λ (z : Builder). z.found) state ∙ sym (noted-append s.iterators h.builder.found (o ∷ []) (names_in es s))
    ∙ ap (λ l. noted s.iterators h.builder.found (o ∷ names_of l)) (sym (names_are s es))
    ∙ ap (noted s.iterators h.builder.found) (sym (append-nil (o ∷ names_of (map (λ (x : SizeParts). x.reads s) (map size_parts es))))) in
    let forms : c.forms ≡ kept h.builder.forms (flat_map size_found (map (size_in s) (map size_parts es)) ++ []) =
    ap (λ (z : Builder). z.forms) state ∙ ap (λ l. kept h.builder.forms (flat_map size_found l)) (sym (sizes_are s es))
    ∙ ap (kept h.builder.forms) (sym (append-nil (flat_map size_found (map (size_in s) (map size_parts es))))) in
    let locals : c.locals ≡ h.builder.locals = ap (λ (z : Builder). z.locals) state in
    (λ i. record h {
      builder = record { place = next i; found = found i; forms = forms i; locals = locals i };
      arrays = h.arrays ++ record { name = called.text; kind = k; dims = shown i } ∷ [];
      places = h.places ++ called.place ∷ [];
    })
    ∙ (λ i. after_arrays h (record { kind = k; name = hc i; sizes = map size_parts (he i) } ∷ []))
