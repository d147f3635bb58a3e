-- What is built of a whole program, and what is reported of it.
use Rattle.std.proofs.Common.{◌≡◌, ◌∙◌, refl, sym, ap, subst, Ok, Err, ℕ, List, [], ◌∷◌, ◌++◌, map, Option, Some, None, Bool, true, not, ◌&&◌}
use Rattle.std.specs.Prelude.{is_none}
use Rattle.std.specs.List.{flat_map}
use Rattle.std.proofs.lemmas.List.{map-append}
use Rattle.species_ast.specs.declared.tree.Loop.{out-Loop}
use Rattle.species_ast.specs.declared.tree.Stmt.{Stmt}
use Rattle.species_ast.specs.declared.raw.RawUnit.{RawUnit}
use Rattle.species_ast.specs.Scope.Loops.{no_loops}
use Rattle.species_ast.specs.Scope.Meanings.{Declared, occurrence}
use Rattle.species_ast.specs.Scope.Refusals.{Refusal, Finding, first_in, or_later, first_of_groups, refused_at, places_where}
use Rattle.species_ast.specs.Scope.Statements.{LoopSite, Fragment, in_order, stmt_fragment}
use Rattle.species_ast.specs.Scope.Programs.{Size, ArraySite, Program, program_of, iterators_of, first_scope, arrays_of, globals_from}
use Rattle.species_ast.specs.Scope.Conditions.{is_static, is_good_step, refused_names, refused_forms, refused_limits, refused_references, refused_arrays, refused_loops, refusal_of, unless_refused, resolved, bad_step}
use Rattle.species_ast.specs.Scope.References.{HasReadSize}
use Rattle.species_ast.specs.Scope.WellMade.{made, list_keeps, IsWellMade}
use Rattle.species_ast.specs.Scope.Written.{IsWritten}
use Rattle.species_lawful.proofs.LawfulLaws.{lawful_units_are_made}
use Rattle.species_ast.proofs.FirstRefusal.{reports_the_first}
use Rattle.species_ast.proofs.LimitLaws.{not_refused-keeps}
use Rattle.species_lawful.specs.Walks.{taken_in}
use Rattle.species_lawful.proofs.WalkLaws.{same_names, taken_in_body, body_scope}
use Rattle.species_names.specs.Kept.{kept, refused_if}
use Rattle.species_names.specs.Noted.{noted}
use Rattle.species_names.proofs.KeptLaws.{kept-append, noted-append}
use Rattle.species_names.proofs.JoinLaws.{kept-swap, kept_first, refused_where, apart, names_found}
use Rattle.species_limits.specs.Built.{IsBuilt}
use Rattle.species_scope.specs.declared.builder.Builder.{Builder}
use Rattle.species_scope.specs.declared.globals.Heads.{Heads}
use Rattle.species_scope.specs.declared.units.Built.{Built}
use Rattle.species_scope.specs.Formed.{forms_at, sizes_at}
use Rattle.species_scope.specs.Built.{after_fragment}
use Rattle.species_scope.specs.Whole.{heads_of, forms_of, whole_of, unit_groups, form_groups}
use Rattle.species_scope.proofs.DeclaringLaws.{globals-iterators}

-- ---- what is built

abbrev body_of : RawUnit → List ℕ → Fragment
body_of u its = in_order (map stmt_fragment u.body) (body_scope u its)

-- from what stands before the body, and the body
pub whole_built : (u : RawUnit) (its : List ℕ) (h : Heads) (b : Builder) (body : List Stmt)
    → h ≡ heads_of u its → b ≡ after_fragment h.builder (in_order (map stmt_fragment u.body) h.builder.place)
    → body ≡ [] ++ (in_order (map stmt_fragment u.body) h.builder.place).statements
    → record {
      unit = record { includes = h.includes; arrays = h.arrays; locals = b.locals; function = u.function.text; body = body };
      places = h.places;
      found = b.found;
      forms = b.forms;
    } ≡ whole_of u its
whole_built u its h b body hh hb hs =
    let g = globals_from 0 (flat_map arrays_of u.items) (first_scope its) in
    let f = body_of u its in
    let o = occurrence Declared g.next u.function in
    let state : b ≡ after_fragment (heads_of u its).builder f = hb ∙ ap (λ (z : Heads). after_fragment z.builder (in_order (map stmt_fragment u.body) z.builder.place)) hh in
    let statements : body ≡ f.statements = hs ∙ ap (λ (z : Heads). (in_order (map stmt_fragment u.body) z.builder.place).statements) hh in
    let here : g.next.iterators ≡ its = globals-iterators 0 (flat_map arrays_of u.items) (first_scope its) in
    let found : b.found ≡ noted its None (g.names ++ (o ∷ f.notes.names)) =
    ap (λ (z : Builder). z.found) state
    ∙ ap (λ is. noted is (noted is (noted its None g.names) (o ∷ [])) f.notes.names) here
    ∙ sym (noted-append its (noted its None g.names) (o ∷ []) f.notes.names)
    ∙ sym (noted-append its None g.names (o ∷ f.notes.names)) in
    let forms : b.forms ≡ kept None (flat_map sizes_at g.arrays ++ flat_map forms_at f.notes.loops) =
    ap (λ (z : Builder). z.forms) state ∙ sym (kept-append None (flat_map sizes_at g.arrays) (flat_map forms_at f.notes.loops)) in
    let locals : b.locals ≡ f.notes.locals = ap (λ (z : Builder). z.locals) state in
    ap (λ (z : Heads). record {
      unit = record { includes = z.includes; arrays = z.arrays; locals = b.locals; function = u.function.text; body = body };
      places = z.places;
      found = b.found;
      forms = b.forms;
    }) hh
    ∙ (λ i. record {
      unit = record { includes = (heads_of u its).includes; arrays = (heads_of u its).arrays; locals = locals i; function = u.function.text; body = statements i };
      places = (heads_of u its).places;
      found = found i;
      forms = forms i;
    })

-- the locals that the first walk finds
pub all_taken : (u : RawUnit) (h : Heads) (found : List ℕ) → h ≡ heads_of u []
    → found ≡ [] ++ iterators_of (in_order (map stmt_fragment u.body) h.builder.place).notes.names → found ≡ taken_in u
all_taken u h found hh hf =
    hf ∙ ap (λ (z : Heads). iterators_of (in_order (map stmt_fragment u.body) z.builder.place).notes.names) hh ∙ sym (taken_in_body u [])

-- ---- what is reported

pub of_names : (u : RawUnit) → (whole_of u (taken_in u)).found ≡ first_in (refused_names (program_of u))
of_names u = ap (noted (taken_in u) None) (same_names u (taken_in u) []) ∙ sym (names_found (program_of u))

refused-append : (r : Refusal) (xs ys : List ℕ) → refused_at r (xs ++ ys) ≡ refused_at r xs ++ refused_at r ys
refused-append r xs ys = map-append (λ (p : ℕ). record { refusal = r; place = p }) xs ys

sizes_refused : (arrays : List ArraySite)
    → flat_map sizes_at arrays ≡ refused_at Refusal.NotStatic (flat_map (λ (a : ArraySite). places_where (λ (x : Size). is_none x.number) (λ (x : Size). x.place) a.sizes) arrays)
sizes_refused [] = refl
sizes_refused (a ∷ arrays) =
    let first = refused_where Refusal.NotStatic (λ (x : Size). is_none x.number) (λ (x : Size). x.place) a.sizes in
    let rest = sizes_refused arrays in
    (λ i. first i ++ rest i)
    ∙ sym (refused-append Refusal.NotStatic (places_where (λ (x : Size). is_none x.number) (λ (x : Size). x.place) a.sizes) (flat_map (λ (b : ArraySite). places_where (λ (x : Size). is_none x.number) (λ (x : Size). x.place) b.sizes) arrays))

abbrev not_start : LoopSite → Bool
not_start x = not (is_static x.level (out-Loop x.loop).start)

abbrev not_limit : LoopSite → Bool
not_limit x = not (is_static x.level (out-Loop x.loop).limit)

abbrev not_stepping : LoopSite → Bool
not_stepping x = not (x.one_variable && is_good_step (out-Loop x.loop).test x.step)

forms_found : (p : Program) → kept None (forms_of p) ≡ first_in (refused_forms p)
forms_found p =
    let starts = places_where not_start (λ (x : LoopSite). x.start) p.loops in
    let limits = places_where not_limit (λ (x : LoopSite). x.limit) p.loops in
    let sizes = flat_map (λ (a : ArraySite). places_where (λ (x : Size). is_none x.number) (λ (x : Size). x.place) a.sizes) p.arrays in
    let ns = refused_at Refusal.NotStatic starts in
    let nl = refused_at Refusal.NotStatic limits in
    let nz = refused_at Refusal.NotStatic sizes in
    let bs = refused_at Refusal.BadStep (bad_step p) in
    let at_step : LoopSite → List Finding = λ x. refused_if (not_stepping x) Refusal.BadStep x.place in
    let at_limit : LoopSite → List Finding = λ x. refused_if (not_limit x) Refusal.NotStatic x.limit ++ at_step x in
    let a : (m : Option Finding) → kept m (flat_map at_step p.loops) ≡ kept m bs = λ m. ap (kept m) (refused_where Refusal.BadStep not_stepping (λ (x : LoopSite). x.place) p.loops) in
    let b : (m : Option Finding) → kept m (flat_map at_limit p.loops) ≡ kept m (nl ++ bs) = λ m. apart m Refusal.NotStatic not_limit (λ (x : LoopSite). x.limit) at_step bs p.loops a in
    let c : (m : Option Finding) → kept m (flat_map forms_at p.loops) ≡ kept m (ns ++ (nl ++ bs)) = λ m. apart m Refusal.NotStatic not_start (λ (x : LoopSite). x.start) at_limit (nl ++ bs) p.loops b in
    let whole : refused_forms p ≡ (ns ++ (nl ++ nz)) ++ bs =
    ap (λ l. l ++ bs) (refused-append Refusal.NotStatic starts (limits ++ sizes) ∙ ap (λ l. ns ++ l) (refused-append Refusal.NotStatic limits sizes)) in
    kept-append None (flat_map sizes_at p.arrays) (flat_map forms_at p.loops)
    ∙ c (kept None (flat_map sizes_at p.arrays))
    ∙ ap (λ l. kept (kept None l) (ns ++ (nl ++ bs))) (sizes_refused p.arrays)
    ∙ kept-append (kept None nz) ns (nl ++ bs)
    ∙ kept-append (kept (kept None nz) ns) nl bs
    ∙ ap (λ m. kept m bs) (sym (kept-append (kept None nz) ns nl) ∙ kept-swap None nz (ns ++ nl) ∙ kept_nz ns nl nz)
    ∙ sym (kept-append None (ns ++ (nl ++ nz)) bs)
    ∙ ap (kept None) (sym whole)
    ∙ kept_first (refused_forms p)
  where
    kept_nz : (ns nl nz : List Finding) → kept (kept None (ns ++ nl)) nz ≡ kept None (ns ++ (nl ++ nz))
    kept_nz ns nl nz = ap (λ m. kept m nz) (kept-append None ns nl) ∙ sym (kept-append (kept None ns) nl nz) ∙ sym (kept-append None ns (nl ++ nz))

pub of_forms : (u : RawUnit) → (whole_of u (taken_in u)).forms ≡ first_in (refused_forms (program_of u))
of_forms u = forms_found (program_of u)

pub is_built : (u : RawUnit) → IsBuilt (program_of u) (whole_of u (taken_in u)).unit (whole_of u (taken_in u)).places
is_built u = record { unit = refl; arrays = refl; places = refl }

-- where no limit is passed, the loops of the unit keep them
first_empty : (xs ys : List Finding) → xs ++ ys ≡ [] → ys ≡ []
first_empty [] ys h = h
first_empty (x ∷ xs) ys h = let wrong : ⊥ = not_nil x (xs ++ ys) h in absurd wrong
  where
    not_nil : (x : Finding) (xs : List Finding) → x ∷ xs ≡ [] → ⊥
    not_nil x xs h = cc

pub keeps_limits : (u : RawUnit) → first_in (refused_limits (program_of u)) ≡ None → list_keeps (map made (program_of u).unit.body) no_loops ≡ true
keeps_limits u h =
    let p = program_of u in
    not_refused-keeps p.unit (first_empty (refused_arrays p) (refused_loops p.unit) (reports_the_first.is_empty (refused_limits p) h))

-- the refusal that is reported, by the first group that has one
pub by_limits : (p : Program) (f : Finding) → first_in (refused_limits p) ≡ Some f → Some f ≡ first_of_groups (unit_groups p)
by_limits p f h = sym (ap (λ o. or_later o (or_later (first_in (refused_references p.unit)) None)) h)

or_none : (o : Option Finding) → or_later o None ≡ o
or_none None = refl
or_none (Some f) = refl

pub by_references : (p : Program) (o : Option Finding) → first_in (refused_limits p) ≡ None → o ≡ first_in (refused_references p.unit) → o ≡ first_of_groups (unit_groups p)
by_references p o l h = h ∙ sym (ap (λ z. or_later z (or_later (first_in (refused_references p.unit)) None)) l ∙ or_none (first_in (refused_references p.unit)))

pub by_forms : (p : Program) (f : Finding) → first_in (refused_forms p) ≡ Some f → Some f ≡ first_of_groups (form_groups p)
by_forms p f h = sym (ap (λ o. or_later o (first_of_groups (unit_groups p))) h)

pub behind_forms : (p : Program) (o : Option Finding) → first_in (refused_forms p) ≡ None → o ≡ first_of_groups (unit_groups p) → o ≡ first_of_groups (form_groups p)
behind_forms p o n h = h ∙ sym (ap (λ z. or_later z (first_of_groups (unit_groups p))) n)

pub by_names : (p : Program) (f : Finding) → first_in (refused_names p) ≡ Some f → Some f ≡ refusal_of p
by_names p f h = sym (ap (λ o. or_later o (first_of_groups (form_groups p))) h)

pub behind_names : (p : Program) (o : Option Finding) → first_in (refused_names p) ≡ None → o ≡ first_of_groups (form_groups p) → o ≡ refusal_of p
behind_names p o n h = h ∙ sym (ap (λ z. or_later z (first_of_groups (form_groups p))) n)

-- what is built is the program's
pub built_of : (u : RawUnit) (b : Built) (places : List ℕ) → b ≡ whole_of u (taken_in u) → places ≡ b.places → IsBuilt (program_of u) b.unit places
built_of u b places h e =
    subst (IsBuilt (program_of u) b.unit) (sym e) (subst (λ (z : Built). IsBuilt (program_of u) z.unit z.places) (sym h) (is_built u))

pub built_keeps : (u : RawUnit) (b : Built) → b ≡ whole_of u (taken_in u) → first_in (refused_limits (program_of u)) ≡ None → list_keeps (map made b.unit.body) no_loops ≡ true
built_keeps u b h n = subst (λ (z : Built). list_keeps (map made z.unit.body) no_loops ≡ true) (sym h) (keeps_limits u n)

-- ---- what is answered

pub answers_refused : (u : RawUnit) (f : Finding) → Some f ≡ refusal_of (program_of u) → resolved u ≡ Err f
answers_refused u f h = ap (λ o. unless_refused o (program_of u).unit) (sym h)

pub answers_lawful : (u : RawUnit) (b : Built) → b ≡ whole_of u (taken_in u) → None ≡ refusal_of (program_of u) → resolved u ≡ Ok b.unit
answers_lawful u b hb h = ap (λ o. unless_refused o (program_of u).unit) (sym h) ∙ ap (λ (z : Built). Ok z.unit) (sym hb)

pub made_well : (u : RawUnit) (b : Built) → IsWritten u → b ≡ whole_of u (taken_in u) → None ≡ refusal_of (program_of u) → IsWellMade b.unit
made_well u b w hb h = subst (λ (z : Built). IsWellMade z.unit) (sym hb) (lawful_units_are_made.well_made u w (sym h))

pub made_small : (u : RawUnit) (b : Built) → b ≡ whole_of u (taken_in u) → None ≡ refusal_of (program_of u) → HasReadSize b.unit
made_small u b hb h = subst (λ (z : Built). HasReadSize z.unit) (sym hb) (lawful_units_are_made.read_size u (sym h))
