-- Loops and declarations of a lawful program.
use Rattle.std.proofs.Common.{◌≡◌, ◌∙◌, ap, sym, refl, subst, ℕ, suc, Bool, true, false, List, [], ◌∷◌, ◌++◌, map, Option, arith, append-nil, length-append}
use Rattle.std.proofs.lemmas.Bool.{and_from}
use Rattle.std.specs.Prelude.{not}
use Rattle.species_ast.specs.Names.{is_name}
use Rattle.species_ast.specs.Spelling.{Spelling}
use Rattle.species_ast.specs.declared.tree.Unit.{Unit}
use Rattle.species_ast.specs.declared.tree.LocalInfo.{LocalInfo}
use Rattle.species_ast.specs.declared.tree.Expr.{Expr}
use Rattle.species_ast.specs.declared.tree.Stmt.{Stmt}
use Rattle.species_ast.specs.declared.tree.Stmt.TheOpen.{Stmt-F}
use Rattle.species_ast.specs.declared.tree.Stmt.TheVariants as stmt
use Rattle.species_ast.specs.Scope.Meanings.{Scope, local_number, count_before, behind, is_among}
use Rattle.species_print.specs.Expressions.{local_name}
use Rattle.species_readback.proofs.LawfulLemmas.{Matches, Sound}
use Rattle.std.specs.Prelude.{if◌then◌else◌, is_some, ℤ}
use Rattle.std.proofs.lemmas.Bool.{eq-eqb}
use Rattle.species_ast.specs.Line.{Line}
use Rattle.species_ast.specs.declared.tree.Mark.{Mark}
use Rattle.species_ast.specs.declared.tree.Test.{Test}
use Rattle.species_ast.specs.declared.tree.Loop.{Loop, roll-Loop}
use Rattle.species_ast.specs.declared.tree.Stmt.TheOpen.{Loop-F}
use Rattle.species_ast.specs.Scope.Meanings.{Local, scope_with_local, in_loop}
use Rattle.species_ast.proofs.Folds.{fold_stmt-For, fold_stmt-Declare, fold_loop, folded_layer}
use Rattle.species_print.specs.Statements.{local_kind}
use Rattle.species_readback.proofs.ScopeLemmas.{count_all, matches_local, matches_dropped, matches_loop}
use Rattle.species_readback.proofs.KeptLemmas.{Place, Kept, BodyKept, kept_inner}
use Rattle.species_readback.specs.Meant.{list_next, stmt_meant, loop_meant, meant, spell, declared, init_meant}
use Rattle.species_readback.specs.Spelt.{stmt_spelt, loop_spelt, is_int_step, line_spelt, init_spelt, mark_spelt}

-- ---- loops

-- inside a loop
abbrev pub loop_place : Place → Spelling → Place
loop_place c i = record {
  u = c.u;
  it = c.it ++ i.text ∷ [];
  s = in_loop i c.s;
  t = in_loop (spell i.text) c.t;
  matches = matches_loop c.u c.it c.s c.t i c.matches c.level c.same_level;
  no_iterators = c.no_iterators;
  serials = c.serials;
  level = omega (arith, c.level, length-append c.it (i.text ∷ []));
  same_level = ap suc c.same_level;
}

pub loop_kept : (c : Place) (i : Spelling) (place : ℕ) (start limit : Expr) (test : Test) (step : ℤ) (body : List Stmt) (line : Option Line) (mk : Mark) (nx : Scope) (ls : List LocalInfo)
    → is_name i.text ≡ true → Sound c.u c.it c.t start → Sound c.u (c.it ++ i.text ∷ []) (in_loop (spell i.text) c.t) limit → is_int_step step ≡ true → line_spelt line ≡ true → mark_spelt mk ≡ true
    → BodyKept (loop_place c i) body nx ls
    → Kept c (stmt.For (roll-Loop (record { place = place; iter = i.text; start = start; test = test; limit = limit; step = step; body = body; line = line; mark = mk })) ∷ []) (behind c.s nx) ls
loop_kept c i place start limit test step body line mk nx ls n a b z l k h =
    let f : Loop-F Stmt Loop = record { place = place; iter = i.text; start = start; test = test; limit = limit; step = step; body = body; line = line; mark = mk } in
    let inner = in_loop (spell i.text) c.t in
    kept_inner c (stmt.For (roll-Loop f)) nx (list_next (map (meant c.u) body) inner) ls
    (stmt_meant c.u (Stmt-F.For (loop_meant c.u (folded_layer (stmt_meant c.u) (loop_meant c.u) f)))) (stmt_spelt c.u (Stmt-F.For (loop_spelt c.u (folded_layer (stmt_spelt c.u) (loop_spelt c.u) f))))
    (fold_stmt-For (stmt_meant c.u) (loop_meant c.u) (roll-Loop f) ∙ ap (λ q. stmt_meant c.u (Stmt-F.For q)) (fold_loop (stmt_meant c.u) (loop_meant c.u) f))
    (fold_stmt-For (stmt_spelt c.u) (loop_spelt c.u) (roll-Loop f) ∙ ap (λ q. stmt_spelt c.u (Stmt-F.For q)) (fold_loop (stmt_spelt c.u) (loop_spelt c.u) f))
    (and_from _ _ a.0 (and_from _ _ b.0 (and_from _ _ z h.holds)))
    (and_from _ _ (and_from _ _ l k) (and_from _ _ (and_from _ _ n z) (and_from _ _ (and_from _ _ a.1 b.1) h.written)))
    h.is_locals refl h.serials h.count

-- ---- declarations

-- behind the declarator of a local that keeps it
abbrev pub declared_place : (c : Place) (n : Spelling) (x : Local) (number : ℕ) (initialised : Bool) → x.serial ≡ c.s.serials → is_among c.s.iterators c.s.serials ≡ false → number ≡ local_number c.s c.s.serials → local_name c.u number ≡ n.text → Place
declared_place c n x number initialised serial kept num is = record {
  u = c.u;
  it = c.it;
  s = scope_with_local n x c.s;
  t = declared c.u number initialised c.t;
  matches = matches_local c.u c.it c.s c.t n x number initialised c.matches serial c.no_iterators c.serials num is;
  no_iterators = c.no_iterators;
  serials = ap suc c.serials ∙ sym (ap (λ z. if z then count_before c.s.iterators c.s.serials else suc (count_before c.s.iterators c.s.serials)) kept);
  level = c.level;
  same_level = c.same_level;
}

abbrev pub InitSound : Unit → List (List ℕ) → Scope → Option Expr → Type 0
InitSound u it t init = (init_meant u it t init ≡ true) × (init_spelt u it init ≡ true)

pub declare_kept : (c : Place) (p : ℕ) (n : Spelling) (x : Local) (init : Option Expr) (number : ℕ) → x.serial ≡ c.s.serials → is_among c.s.iterators c.s.serials ≡ false → number ≡ local_number c.s c.s.serials → local_name c.u number ≡ n.text → is_name n.text ≡ true
    → InitSound c.u c.it (declared c.u number (is_some init) c.t) init
    → Kept c (stmt.Declare p number init ∷ []) (scope_with_local n x c.s) (record { name = local_name c.u number; kind = local_kind c.u number } ∷ [])
declare_kept c p n x init number serial kept num is name h =
    let d = declared_place c n x number (is_some init) serial kept num is in
    let i = fold_stmt-Declare (stmt_meant c.u) (loop_meant c.u) p number init in
    let w = fold_stmt-Declare (stmt_spelt c.u) (loop_spelt c.u) p number init in
    let next : (meant c.u (stmt.Declare p number init)).next c.t ≡ d.t = ap (λ z. z.next c.t) i in
    let no : is_among c.t.iterators c.t.serials ≡ false = ap (λ z. is_among z c.t.serials) c.no_iterators in
    let same : local_number c.t c.t.serials ≡ number = ap (λ z. count_before z c.t.serials) c.no_iterators ∙ count_all c.t.serials ∙ c.serials ∙ sym num in
    record {
      holds = and_from _ true (ap (λ z. z.holds c.it c.t) i ∙ and_from _ _ (ap not no) (and_from _ _ (eq-eqb (local_number c.t c.t.serials) number same) h.0)) refl;
      written = and_from _ true (ap (λ z. z c.it) w ∙ and_from _ _ (ap is_name is ∙ name) h.1) refl;
      is_locals = append-nil (meant c.u (stmt.Declare p number init)).locals ∙ ap (λ z. z.locals) i;
      matches = subst (Matches c.u c.it d.s) (sym next) d.matches;
      no_iterators = ap (λ z. z.iterators) next ∙ d.no_iterators;
      same_iterators = refl;
      serials = ap (λ z. z.serials) next ∙ d.serials;
      count = omega (arith, ap (λ z. z.serials) next);
      level = c.level;
      same_level = ap (λ z. z.level) next ∙ c.same_level;
    }

pub dropped_kept : (c : Place) (n : Spelling) (x : Local) → x.serial ≡ c.s.serials → is_among c.s.iterators c.s.serials ≡ true → Kept c [] (scope_with_local n x c.s) []
dropped_kept c n x serial among = record {
  holds = refl;
  written = refl;
  is_locals = refl;
  matches = matches_dropped c.u c.it c.s c.t n x c.matches (ap (is_among c.s.iterators) serial ∙ among);
  no_iterators = c.no_iterators;
  same_iterators = refl;
  serials = c.serials ∙ sym (ap (λ z. if z then count_before c.s.iterators c.s.serials else suc (count_before c.s.iterators c.s.serials)) among);
  count = omega arith;
  level = c.level;
  same_level = c.same_level;
}
