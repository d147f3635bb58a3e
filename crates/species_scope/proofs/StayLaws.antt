-- A statement leaves the scope in which it stands, but for the names that it declares.
use Rattle.std.proofs.Common.{◌≡◌, ◌∙◌, refl, sym, ap, subst, ℕ, List, [], ◌∷◌, map, Some, None, Bool, true, false}
use Rattle.std.specs.Prelude.{is_some, option_map, if◌then◌else◌}
use Rattle.species_ast.specs.declared.tree.Kind.{Kind}
use Rattle.species_ast.specs.declared.raw.RawLocal.{RawLocal}
use Rattle.species_ast.specs.declared.raw.RawStmt.{RawStmt, out-RawStmt, fold_out-RawStmt}
use Rattle.species_ast.specs.declared.raw.RawWhat.{RawWhat, out-RawWhat, map-RawWhat, fold-RawWhat, fold-roll-RawWhat, fold_out-RawWhat}
use Rattle.species_ast.specs.declared.raw.RawLoop.{RawLoop, fold-RawLoop, fold_out-RawLoop}
use Rattle.species_ast.specs.declared.raw.RawWhat.TheOpen.{RawWhat-F}
use Rattle.species_ast.specs.declared.raw.RawChange.{RawChange}
use Rattle.species_ast.specs.declared.raw.RawChange.TheVariants as change
use Rattle.species_ast.specs.declared.raw.RawWhat.TheVariants as what
use Rattle.species_ast.specs.Scope.Meanings.{Local, Scope, scope_with_local, is_among}
use Rattle.species_ast.specs.Scope.Expressions.{reading}
use Rattle.species_ast.specs.Scope.Statements.{Fragment, Walk, PlacedWalk, in_order, declarator, change_fragment, what_at, loop_at, stmt_at, stmt_fragment}
use Rattle.species_names.specs.Inside.{IsInside}
use Rattle.species_scope.proofs.BuildLaws.{Stays, inside_itself, same_names, in_order_stays, map_stays}

either : (s : Scope) (p q : Fragment) (t : Bool) → IsInside s p.next → IsInside s q.next → IsInside s (if t then p else q).next
either s p q true h k = h
either s p q false h k = k

pub declarator_stays : (k : Kind) (l : RawLocal) → Stays (declarator k l)
declarator_stays k l s =
    let x : Local = record { serial = s.serials; kind = k; initialised = is_some (option_map reading l.init) } in
    let inner : IsInside s (scope_with_local l.name x s) = record { more = (l.name.text, _) ∷ []; names = refl; iterators = refl } in
    either s _ _ (is_among s.iterators s.serials) inner inner

change_stays : (p : ℕ) (c : RawChange) → Stays (change_fragment p c)
change_stays p (change.Set t o e) s = inside_itself s
change_stays p (change.Up t) s = inside_itself s
change_stays p (change.UpBefore t) s = inside_itself s
change_stays p (change.Down t) s = inside_itself s
change_stays p (change.DownBefore t) s = inside_itself s

abbrev loop_walk : RawLoop → PlacedWalk
loop_walk = fold-RawLoop PlacedWalk PlacedWalk Walk what_at loop_at stmt_at

loop_stays : (l : RawLoop) (p : ℕ) → Stays (loop_walk l p)
loop_stays l p s =
    subst (λ (w : PlacedWalk). IsInside s (w p s).next) (sym (fold_out-RawLoop PlacedWalk PlacedWalk Walk what_at loop_at stmt_at l)) (same_names s _ refl refl)

abbrev what_walk : RawWhat → PlacedWalk
what_walk = fold-RawWhat PlacedWalk PlacedWalk Walk what_at loop_at stmt_at

layer_stays : (f : RawWhat-F RawWhat RawLoop RawStmt) (p : ℕ)
    → Stays (what_at (map-RawWhat RawWhat RawLoop RawStmt PlacedWalk PlacedWalk Walk what_walk loop_walk stmt_fragment f) p)
layer_stays (RawWhat-F.Declare k locals) p s = in_order_stays (map (declarator k) locals) (map_stays (declarator k) (declarator_stays k) locals) s
layer_stays (RawWhat-F.Block ss) p s = same_names s _ refl refl
layer_stays RawWhat-F.Empty p s = inside_itself s
layer_stays (RawWhat-F.If test body None) p s = same_names s _ refl refl
layer_stays (RawWhat-F.If test body (Some otherwise)) p s = same_names s _ refl refl
layer_stays (RawWhat-F.Loop l) p s = loop_stays l p s
layer_stays (RawWhat-F.Change c) p s = change_stays p c s
layer_stays (RawWhat-F.Atomic t e) p s = inside_itself s

pub stmt_stays : (raw : RawStmt) → Stays (stmt_fragment raw)
stmt_stays raw s =
    subst (λ (w : Walk). IsInside s (w s).next)
    (sym (fold_out-RawStmt PlacedWalk PlacedWalk Walk what_at loop_at stmt_at raw
    ∙ ap (λ (w : PlacedWalk). w (out-RawStmt raw).place) (fold_out-RawWhat PlacedWalk PlacedWalk Walk what_at loop_at stmt_at (out-RawStmt raw).what)))
    (layer_stays (out-RawWhat (out-RawStmt raw).what) (out-RawStmt raw).place s)

pub in_order_body : (ps : List Walk) (s : Scope) → (in_order ps s).body ≡ (in_order ps s).statements
in_order_body [] s = refl
in_order_body (p ∷ ps) s = refl

pub declares : (raw : RawStmt) (k : Kind) (locals : List RawLocal) → (out-RawStmt raw).what ≡ what.Declare k locals → stmt_fragment raw ≡ in_order (map (declarator k) locals)
declares raw k locals h =
    fold_out-RawStmt PlacedWalk PlacedWalk Walk what_at loop_at stmt_at raw
    ∙ ap (λ w. what_walk w (out-RawStmt raw).place) (h ∙ sym (what.rolls-Declare k locals))
    ∙ ap (λ (w : PlacedWalk). w (out-RawStmt raw).place) (fold-roll-RawWhat PlacedWalk PlacedWalk Walk what_at loop_at stmt_at (RawWhat-F.Declare k locals))

pub declares_body : (raw : RawStmt) (k : Kind) (locals : List RawLocal) → (out-RawStmt raw).what ≡ what.Declare k locals
    → (s : Scope) → (stmt_fragment raw s).statements ≡ (stmt_fragment raw s).body
declares_body raw k locals h s =
    ap (λ (w : Walk). (w s).statements) (declares raw k locals h) ∙ sym (in_order_body (map (declarator k) locals) s) ∙ sym (ap (λ (w : Walk). (w s).body) (declares raw k locals h))
