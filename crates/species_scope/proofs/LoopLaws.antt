-- What is built behind a loop.
use Rattle.std.proofs.Common.{◌≡◌, ◌∙◌, refl, sym, ap, subst, ℕ, List, [], ◌∷◌, ◌++◌, map, Option, Bool, ℤ}
use Rattle.std.specs.List.{flat_map}
use Rattle.species_ast.specs.declared.tree.Expr.{Expr}
use Rattle.species_ast.specs.declared.tree.Stmt.{Stmt}
use Rattle.species_ast.specs.declared.tree.Loop.{Loop}
use Rattle.species_ast.specs.declared.raw.RawStmt.{RawStmt}
use Rattle.species_ast.specs.declared.raw.RawLoop.{RawLoop, out-RawLoop, map-RawLoop, fold_out-RawLoop}
use Rattle.species_ast.specs.declared.raw.RawWhat.{RawWhat, fold-RawWhat}
use Rattle.species_ast.specs.declared.raw.RawWhat.TheOpen.{RawLoop-F}
use Rattle.species_ast.specs.Scope.Refusals.{Finding}
use Rattle.species_ast.specs.Scope.Meanings.{Scope, behind, InHeader, occurrence}
use Rattle.species_ast.specs.Scope.Expressions.{reading}
use Rattle.species_ast.specs.Scope.Statements.{LoopSite, Walk, PlacedWalk, step_reading, iterator_role, is_one, branch, what_at, loop_at, stmt_at, stmt_fragment}
use Rattle.species_scope.specs.declared.builder.Builder.{Builder}
use Rattle.species_names.specs.declared.place.ScopeMark.{ScopeMark}
use Rattle.species_names.specs.Kept.{kept}
use Rattle.species_names.specs.Noted.{noted}
use Rattle.species_scope.specs.Formed.{forms_at}
use Rattle.species_scope.specs.Built.{after_fragment}
use Rattle.species_names.specs.Inside.{IsInside, Marks, Within}
use Rattle.species_scope.specs.Loops.{Layer, loop_walk, inner_of, header_names, made_of, site_of}
use Rattle.species_names.proofs.KeptLaws.{kept-append, noted-append}
use Rattle.species_names.proofs.JoinLaws.{kept-swap}

-- ---- headers

pub header_noted : (l : Layer) (s t : Scope) (a b c d e f : Option Finding) → t ≡ inner_of l s
    → b ≡ noted s.iterators a (occurrence (iterator_role l.typed) s l.iter ∷ [])
    → c ≡ noted s.iterators b (reading l.start s).names
    → d ≡ noted t.iterators c (reading l.limit t).names
    → e ≡ noted t.iterators d (occurrence InHeader t l.tested ∷ [])
    → f ≡ noted t.iterators e (map (occurrence InHeader t) (step_reading l.step t).variables ++ (step_reading l.step t).names)
    → f ≡ noted s.iterators a (header_names l s)
header_noted l s t a b c d e f h hb hc hd he hf =
    let its = s.iterators in
    let u = inner_of l s in
    let first = occurrence (iterator_role l.typed) s l.iter ∷ [] in
    let start = (reading l.start s).names in
    let limit = (reading l.limit u).names in
    let tested = occurrence InHeader u l.tested ∷ [] in
    let last = map (occurrence InHeader u) (step_reading l.step u).variables ++ (step_reading l.step u).names in
    let kd : d ≡ noted its c limit = hd ∙ ap (λ (z : Scope). noted z.iterators c (reading l.limit z).names) h in
    let ke : e ≡ noted its d tested = he ∙ ap (λ (z : Scope). noted z.iterators d (occurrence InHeader z l.tested ∷ [])) h in
    let kf : f ≡ noted its e last = hf ∙ ap (λ (z : Scope). noted z.iterators e (map (occurrence InHeader z) (step_reading l.step z).variables ++ (step_reading l.step z).names)) h in
    let four : f ≡ noted its d (tested ++ last) = kf ∙ ap (λ x. noted its x last) ke ∙ sym (noted-append its d tested last) in
    let three : f ≡ noted its c (limit ++ (tested ++ last)) = four ∙ ap (λ x. noted its x (tested ++ last)) kd ∙ sym (noted-append its c limit (tested ++ last)) in
    let two : f ≡ noted its b (start ++ (limit ++ (tested ++ last))) =
    three ∙ ap (λ x. noted its x (limit ++ (tested ++ last))) hc ∙ sym (noted-append its b start (limit ++ (tested ++ last))) in
    two ∙ ap (λ x. noted its x (start ++ (limit ++ (tested ++ last)))) hb ∙ sym (noted-append its a first (start ++ (limit ++ (tested ++ last))))

abbrev what_walk : RawWhat → PlacedWalk
what_walk = fold-RawWhat PlacedWalk PlacedWalk Walk what_at loop_at stmt_at

abbrev layer_of : RawLoop → RawLoop-F PlacedWalk PlacedWalk Walk
layer_of raw = map-RawLoop RawWhat RawLoop RawStmt PlacedWalk PlacedWalk Walk what_walk loop_walk stmt_fragment (out-RawLoop raw)

-- ---- a loop

-- what is found at the loop, which is looked at behind its body
before_body : (f : LoopSite → List Finding) (first mid new : Option Finding) (loops : List LoopSite) (x y : LoopSite)
    → mid ≡ kept first (flat_map f loops) → new ≡ kept mid (f x) → x ≡ y → new ≡ kept first (f y ++ flat_map f loops)
before_body f first mid new loops x y hm hn e =
    hn ∙ ap (λ z. kept mid (f z)) e ∙ ap (λ m. kept m (f y)) hm ∙ kept-swap first (flat_map f loops) (f y) ∙ sym (kept-append first (f y) (flat_map f loops))

pub whole_loop : (raw : RawLoop) (at : ℕ) (b now : Builder) (m : ScopeMark) (p t : Scope) (found forms : Option Finding)
    (body : RawStmt) (made made2 : Loop) (start limit : Expr) (one : Bool) (number : Option ℤ) (statements : List Stmt)
    → Marks m b.place
    → p ≡ inner_of (out-RawLoop raw) b.place
    → start ≡ (reading (out-RawLoop raw).start b.place).expr
    → limit ≡ (reading (out-RawLoop raw).limit (inner_of (out-RawLoop raw) b.place)).expr
    → one ≡ is_one (out-RawLoop raw).iter ((out-RawLoop raw).tested ∷ (step_reading (out-RawLoop raw).step (inner_of (out-RawLoop raw) b.place)).variables)
    → number ≡ (step_reading (out-RawLoop raw).step (inner_of (out-RawLoop raw) b.place)).number
    → found ≡ noted b.place.iterators b.found (header_names (out-RawLoop raw) b.place)
    → body ≡ (out-RawLoop raw).body
    → now ≡ after_fragment (record b { place = p; found = found }) (branch (stmt_fragment body) p)
    → statements ≡ (branch (stmt_fragment body) p).body
    → Within m now.place t
    → made ≡ made_of (out-RawLoop raw) at start limit number statements
    → made2 ≡ made
    → forms ≡ kept now.forms (forms_at (site_of (out-RawLoop raw) at m.level made2 one number))
    → record { place = t; found = now.found; forms = forms; locals = now.locals } ≡ after_fragment b (loop_walk raw at b.place)
whole_loop raw at b now m p t found forms body made made2 start limit one number statements
    marks hp hstart hlimit hone hnumber hfound hbody hnow hstatements ends hmade hmade2 hforms =
    let l = out-RawLoop raw in
    let s = b.place in
    let u = inner_of l s in
    let q = stmt_fragment l.body u in
    let names = header_names l s in
    let same_walk : stmt_fragment body ≡ stmt_fragment l.body = ap stmt_fragment hbody in
    let made_here : made ≡ made_of l at (reading l.start s).expr (reading l.limit u).expr (step_reading l.step u).number q.body =
    hmade ∙ ap (λ x. made_of l at x limit number statements) hstart ∙ ap (λ x. made_of l at (reading l.start s).expr x number statements) hlimit
    ∙ ap (λ x. made_of l at (reading l.start s).expr (reading l.limit u).expr x statements) hnumber
    ∙ ap (λ x. made_of l at (reading l.start s).expr (reading l.limit u).expr (step_reading l.step u).number x)
    (hstatements ∙ ap (λ (w : Walk). (branch w p).body) same_walk ∙ ap (λ z. (branch (stmt_fragment l.body) z).body) hp) in
    let site = site_of l at s.level (made_of l at (reading l.start s).expr (reading l.limit u).expr (step_reading l.step u).number q.body)
    (is_one l.iter (l.tested ∷ (step_reading l.step u).variables)) (step_reading l.step u).number in
    let site2 : site_of l at m.level made2 one number ≡ site =
    let whole = hmade2 ∙ made_here in λ i. site_of l at (marks.level i) (whole i) (hone i) (hnumber i) in
    let begun : Builder = record b { place = u; found = noted s.iterators b.found names } in
    let then : now ≡ after_fragment begun (branch (stmt_fragment l.body) u) =
    hnow ∙ ap (λ (w : Walk). after_fragment (record b { place = p; found = found }) (branch w p)) same_walk
    ∙ ap (λ (z : Scope). after_fragment (record b { place = z; found = found }) (branch (stmt_fragment l.body) z)) hp
    ∙ ap (λ (x : Option Finding). after_fragment (record b { place = u; found = x }) (branch (stmt_fragment l.body) u)) hfound in
    let place_is : now.place ≡ behind u q.next = ap (λ (z : Builder). z.place) then in
    let inside : IsInside s (behind u q.next) = record { more = (l.iter.text, _) ∷ []; names = refl; iterators = refl } in
    let place : t ≡ behind s q.next = ends s marks (subst (IsInside s) (sym place_is) inside) ∙ ap (behind s) place_is in
    let found_is : now.found ≡ noted s.iterators b.found (names ++ q.notes.names) = ap (λ (z : Builder). z.found) then ∙ sym (noted-append s.iterators b.found names q.notes.names) in
    let forms_is : forms ≡ kept b.forms (forms_at site ++ flat_map forms_at q.notes.loops) =
    before_body forms_at b.forms now.forms forms q.notes.loops _ site (ap (λ (z : Builder). z.forms) then) hforms site2 in
    let locals_is : now.locals ≡ b.locals ++ q.notes.locals = ap (λ (z : Builder). z.locals) then in
    let whole : record { place = t; found = now.found; forms = forms; locals = now.locals } ≡ after_fragment b (loop_at (layer_of raw) at s) =
    λ i. record { place = place i; found = found_is i; forms = forms_is i; locals = locals_is i } in
    whole ∙ ap (λ (w : PlacedWalk). after_fragment b (w at s)) (sym (fold_out-RawLoop PlacedWalk PlacedWalk Walk what_at loop_at stmt_at raw))
