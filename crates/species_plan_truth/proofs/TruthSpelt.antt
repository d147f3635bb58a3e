-- The unit of a text that is read can be written, so its loops and arrays have names of the language.
use Rattle.std.proofs.Common.{◌≡◌, ◌∙◌, ap, sym, refl, subst, arith, ℕ, ◌<◌, true, ◌&&◌, List, [], ◌∷◌, ◌++◌, map, length}
use Rattle.std.specs.List.{list_all}
use Rattle.std.proofs.lemmas.Bool.{and_parts, and_from}
use Rattle.species_ast.specs.Marks.{all_true}
use Rattle.species_ast.specs.Names.{is_name}
use Rattle.species_ast.specs.Scope.Conditions.{refusal_of}
use Rattle.species_ast.specs.Scope.Programs.{program_of}
use Rattle.species_ast.specs.declared.tree.Array.{Array}
use Rattle.species_ast.specs.declared.tree.Loop.{roll-Loop}
use Rattle.species_ast.specs.declared.tree.Stmt.{Stmt}
use Rattle.species_ast.specs.declared.tree.Stmt.TheOpen.{Stmt-F}
use Rattle.species_ast.specs.declared.tree.Unit.{Unit as Program}
use Rattle.species_ast.proofs.Folds.{fold_stmt-Assign, fold_stmt-AddTo, fold_stmt-Declare, fold_stmt-SetLocal, fold_stmt-If, fold_stmt-For, fold_stmt-Block, fold_loop, folded_layer}
use Rattle.species_ast.proofs.Induction.{Each, each_all, stmt_ind}
use Rattle.species_plan_truth.proofs.LineNames.{UnitsAreNamed}
use Rattle.species_plan_truth.proofs.TruthLawful.{read_lawful}
use Rattle.species_plan_truth.proofs.TruthNames.{named_at, named_within, named}
use Rattle.species_readback.specs.Meant.{is_some_size, has_sizes}
use Rattle.species_readback.specs.Spelt.{line_spelt, mark_spelt, is_spelt, is_int_step, is_int_number, stmt_spelt, loop_spelt, spelt}
use Rattle.species_readback.proofs.LawfulLaws.{lawful_meets}
use Rattle.species_truth.proofs.NameLaws.{read_named}

-- ---- loops

abbrev IsNamedIfSpelt : Program → Stmt → Type 0
IsNamedIfSpelt u x = (iters : List (List ℕ)) → spelt u x iters ≡ true → named x ≡ true

all_named : (u : Program) (xs : List Stmt) → Each (IsNamedIfSpelt u) xs → (iters : List (List ℕ)) → list_all (λ s. s iters) (map (spelt u) xs) ≡ true → all_true (map named xs) ≡ true
all_named u [] h iters k = refl
all_named u (x ∷ xs) h iters k =
    let parts = and_parts (spelt u x iters) (list_all (λ s. s iters) (map (spelt u) xs)) k in
    and_from (named x) (all_true (map named xs)) (h.0 iters parts.0) (all_named u xs h.1 iters parts.1)

spelt_named : (u : Program) (x : Stmt) → IsNamedIfSpelt u x
spelt_named u = stmt_ind (IsNamedIfSpelt u) (record {
  assign = λ place a subs value iters h. fold_stmt-Assign named_at named_within place a subs value;
  add_to = λ place a subs value atomic iters h. fold_stmt-AddTo named_at named_within place a subs value atomic;
  declare = λ place n init iters h. fold_stmt-Declare named_at named_within place n init;
  set_local = λ place n value iters h. fold_stmt-SetLocal named_at named_within place n value;
  choice = λ place test body otherwise p q iters h.
      let all : (is_spelt u iters test && (list_all (λ s. s iters) (map (spelt u) body) && list_all (λ s. s iters) (map (spelt u) otherwise))) ≡ true =
      ap (λ f. f iters) (sym (fold_stmt-If (stmt_spelt u) (loop_spelt u) place test body otherwise)) ∙ h in
      let lists = and_parts (list_all (λ s. s iters) (map (spelt u) body)) (list_all (λ s. s iters) (map (spelt u) otherwise)) (and_parts (is_spelt u iters test) _ all).1 in
      fold_stmt-If named_at named_within place test body otherwise
      ∙ and_from (all_true (map named body)) (all_true (map named otherwise)) (all_named u body p iters lists.0) (all_named u otherwise q iters lists.1);
  loop = λ l p iters h.
      let inner = iters ++ l.iter ∷ [] in
      let whole : loop_spelt u (folded_layer (stmt_spelt u) (loop_spelt u) l) iters ≡ true =
      ap (λ f. f iters) (sym (fold_stmt-For (stmt_spelt u) (loop_spelt u) (roll-Loop l) ∙ ap (λ z. stmt_spelt u (Stmt-F.For z)) (fold_loop (stmt_spelt u) (loop_spelt u) l))) ∙ h in
      let rest = and_parts (line_spelt l.line && mark_spelt l.mark) _ whole in
      let heads = and_parts (is_name l.iter && is_int_step l.step) _ rest.1 in
      let body = and_parts (is_spelt u iters l.start && is_spelt u inner l.limit) (list_all (λ s. s inner) (map (spelt u) l.body)) heads.1 in
      fold_stmt-For named_at named_within (roll-Loop l) ∙ ap (λ z. named_at (Stmt-F.For z)) (fold_loop named_at named_within l)
      ∙ and_from (is_name l.iter) (all_true (map named l.body)) (and_parts (is_name l.iter) (is_int_step l.step) heads.0).0 (all_named u l.body p inner body.1);
  block = λ body p iters h.
      let all : list_all (λ s. s iters) (map (spelt u) body) ≡ true = ap (λ f. f iters) (sym (fold_stmt-Block (stmt_spelt u) (loop_spelt u) body)) ∙ h in
      fold_stmt-Block named_at named_within body ∙ all_named u body p iters all;
})

-- ---- arrays

have_dimensions : (arrays : List Array) → list_all has_sizes arrays ≡ true → Each (λ (a : Array). 0 < length a.dims) arrays
have_dimensions [] h = tt
have_dimensions (x ∷ xs) h =
    let parts = and_parts (has_sizes x) (list_all has_sizes xs) h in
    (some x.dims (and_parts (is_some_size x.dims) (list_all is_int_number x.dims) parts.0).0, have_dimensions xs parts.1)
  where
    some : (ns : List ℕ) → is_some_size ns ≡ true → 0 < length ns
    some [] e = absurd cc
    some (n ∷ ns) e = omega arith

-- ---- the law

pub units_are_named : UnitsAreNamed
units_are_named bytes raw u accepted is =
    let parts = read_lawful (refusal_of (program_of raw)) (program_of raw).unit u is in
    let v = (program_of raw).unit in
    let meets = lawful_meets bytes raw accepted.1 parts.0 in
    let loops : all_true (map named v.body) ≡ true = all_named v v.body (each_all (IsNamedIfSpelt v) (spelt_named v) v.body) [] meets.0.body in
    let names = read_named bytes raw u accepted is in
    record {
      arrays = names.arrays;
      different = names.different;
      dimensions = have_dimensions u.arrays names.dimensions;
      loops = subst (λ (w : Program). all_true (map named w.body) ≡ true) parts.1 loops;
    }
