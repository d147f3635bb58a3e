-- What is built behind fragments of program, one after another.
use Rattle.std.proofs.Common.{◌≡◌, ◌∙◌, refl, sym, ap, subst, ℕ, List, [], ◌∷◌, ◌++◌, map, take, length, get_or, ◌<◌, ◌+◌, ◌≤◌, take_all, Option, append-nil, append_assoc}
use Rattle.std.specs.List.{flat_map}
use Rattle.std.proofs.lemmas.List.{map-append, take_more}
use Rattle.std.proofs.lemmas.Grind.{flat_map-append}
use Rattle.species_ast.specs.declared.tree.Stmt.{Stmt}
use Rattle.species_ast.specs.Scope.Refusals.{Finding}
use Rattle.species_ast.specs.Scope.Meanings.{Scope, behind}
use Rattle.species_ast.specs.Scope.Statements.{LoopSite, Notes, Fragment, Walk, no_notes, both, fragment, in_order}
use Rattle.species_scope.specs.declared.builder.Builder.{Builder}
use Rattle.species_names.specs.Kept.{kept}
use Rattle.species_names.specs.Noted.{noted}
use Rattle.species_scope.specs.Formed.{forms_at}
use Rattle.species_scope.specs.Built.{after, after_fragment}
use Rattle.species_names.specs.Inside.{IsInside}
use Rattle.species_names.proofs.KeptLaws.{kept-append, noted-append}

sites-append : (f : LoopSite → List Finding) (first : Option Finding) (xs ys : List LoopSite)
    → kept first (flat_map f (xs ++ ys)) ≡ kept (kept first (flat_map f xs)) (flat_map f ys)
sites-append f first xs ys = ap (kept first) (flat_map-append f xs ys) ∙ kept-append first (flat_map f xs) (flat_map f ys)

-- one after another
pub after-both : (b : Builder) (s t : Scope) (m n : Notes) → s.iterators ≡ b.place.iterators → after (after b s m) t n ≡ after b t (both m n)
after-both b s t m n h =
    let names : noted s.iterators (noted b.place.iterators b.found m.names) n.names ≡ noted b.place.iterators b.found (m.names ++ n.names) =
    ap (λ its. noted its (noted b.place.iterators b.found m.names) n.names) h ∙ sym (noted-append b.place.iterators b.found m.names n.names) in
    let forms = sym (sites-append forms_at b.forms m.loops n.loops) in
    let locals = append_assoc b.locals m.locals n.locals in
    λ i. record { place = t; found = names i; forms = forms i; locals = locals i }

pub after-none : (b : Builder) → b ≡ after b b.place no_notes
after-none b = ap (λ l. record b { locals = l }) (sym (append-nil b.locals))

-- ---- lists

abbrev then_fragment : Fragment → Fragment → Fragment
then_fragment p q = fragment (p.statements ++ q.statements) (both p.notes q.notes) q.next

both_assoc : (l m n : Notes) → both l (both m n) ≡ both (both l m) n
both_assoc l m n =
    let locals = sym (append_assoc l.locals m.locals n.locals) in
    let names = sym (append_assoc l.names m.names n.names) in
    let loops = sym (append_assoc l.loops m.loops n.loops) in
    λ i. record { locals = locals i; names = names i; loops = loops i }

both_none : (m : Notes) → both m no_notes ≡ m
both_none m =
    let locals = append-nil m.locals in
    let names = append-nil m.names in
    let loops = append-nil m.loops in
    λ i. record { locals = locals i; names = names i; loops = loops i }

-- a fragment behind others
pub in_order-snoc : (ps : List Walk) (q : Walk) (s : Scope)
    → in_order (ps ++ q ∷ []) s
    ≡ fragment ((in_order ps s).statements ++ (q (in_order ps s).next).statements) (both (in_order ps s).notes (q (in_order ps s).next).notes) (q (in_order ps s).next).next
in_order-snoc [] q s =
    let p = q s in
    let statements = append-nil p.statements in
    let notes = both_none p.notes in
    λ i. fragment (statements i) (notes i) p.next
in_order-snoc (p ∷ ps) q s =
    let first = p s in
    let rest = in_order ps first.next in
    let last = q rest.next in
    ap (λ (r : Fragment). fragment (first.statements ++ r.statements) (both first.notes r.notes) r.next) (in_order-snoc ps q first.next)
    ∙ (let statements = sym (append_assoc first.statements rest.statements last.statements) in
    let notes = both_assoc first.notes rest.notes last.notes in
    λ i. fragment (statements i) (notes i) last.next)

-- ---- scopes inside scopes

pub inside_itself : (s : Scope) → IsInside s s
inside_itself s = record { more = []; names = refl; iterators = refl }

pub inside_then : (s t u : Scope) → IsInside s t → IsInside t u → IsInside s u
inside_then s t u h k = record {
  more = k.more ++ h.more;
  names = k.names ∙ ap (λ l. k.more ++ l) h.names ∙ sym (append_assoc k.more h.more s.names);
  iterators = k.iterators ∙ h.iterators;
}

pub inside_behind : (s t : Scope) → IsInside s (behind s t)
inside_behind s t = record { more = []; names = refl; iterators = refl }

pub same_names : (s t : Scope) → t.names ≡ s.names → t.iterators ≡ s.iterators → IsInside s t
same_names s t h k = record { more = []; names = h; iterators = k }

-- each of these leaves a scope inside the one that it takes
abbrev pub Stays : Walk → Type 0
Stays p = (s : Scope) → IsInside s (p s).next

abbrev pub AllStay : List Walk → Type 0
AllStay [] = Unit {0}
AllStay (p ∷ ps) = Stays p × AllStay ps

pub in_order_stays : (ps : List Walk) → AllStay ps → Stays (in_order ps)
in_order_stays [] h s = inside_itself s
in_order_stays (p ∷ ps) h s = inside_then s (p s).next (in_order ps (p s).next).next (h.0 s) (in_order_stays ps h.1 (p s).next)

pub map_stays : {X : Type 0} (f : X → Walk) → ((x : X) → Stays (f x)) → (xs : List X) → AllStay (map f xs)
map_stays f h [] = tt
map_stays f h (x ∷ xs) = (h x, map_stays f h xs)

-- ---- a loop over a list

-- what is built before place i of a list
pub record Reached {X : Type 0} (f : X → Walk) (xs : List X) (b now : Builder) (out made : List Stmt) (i : ℕ) : Type 0 where
  pub state : now ≡ after_fragment b (in_order (map f (take i xs)) b.place)
  pub written : made ≡ out ++ (in_order (map f (take i xs)) b.place).statements

pub reached_first : {X : Type 0} (f : X → Walk) (xs : List X) (b : Builder) (out : List Stmt) → Reached f xs b b out out 0
reached_first f xs b out = record { state = after-none b; written = sym (append-nil out) }

pub reached_next : {X : Type 0} (f : X → Walk) (xs : List X) (stays : (x : X) → Stays (f x)) (b now next : Builder) (out made more : List Stmt) (i : ℕ) (x : X)
    → Reached f xs b now out made i → x ≡ get_or xs i x → i < length xs
    → next ≡ after_fragment now (f x now.place) → more ≡ made ++ (f x now.place).statements
    → Reached f xs b next out more (i + 1)
reached_next f xs stays b now next out made more i x h at within hn hm =
    let s = b.place in
    let front = in_order (map f (take i xs)) s in
    let last = f x front.next in
    let items : map f (take (i + 1) xs) ≡ map f (take i xs) ++ f x ∷ [] =
    ap (map f) (take_more xs i x within ∙ ap (λ y. take i xs ++ y ∷ []) (sym at)) ∙ map-append f (take i xs) (x ∷ []) in
    let whole : in_order (map f (take (i + 1) xs)) s ≡ then_fragment front last =
    ap (λ ps. in_order ps s) items ∙ in_order-snoc (map f (take i xs)) (f x) s in
    let here : now.place ≡ front.next = ap (λ (z : Builder). z.place) h.state in
    let inside = in_order_stays (map f (take i xs)) (map_stays f stays (take i xs)) s in
    record {
      state =
          hn ∙ ap (λ (z : Builder). after_fragment z (f x z.place)) h.state
          ∙ after-both b front.next last.next front.notes last.notes inside.iterators
          ∙ ap (after_fragment b) (sym whole);
      written =
          hm ∙ ap (λ t. made ++ (f x t).statements) here ∙ ap (λ l. l ++ last.statements) h.written ∙ append_assoc out front.statements last.statements
          ∙ ap (λ (r : Fragment). out ++ r.statements) (sym whole);
    }

pub reached_last : {X : Type 0} (f : X → Walk) (xs : List X) (b now : Builder) (out made : List Stmt) (i : ℕ)
    → Reached f xs b now out made i → length xs ≤ i
    → (now ≡ after_fragment b (in_order (map f xs) b.place)) × (made ≡ out ++ (in_order (map f xs) b.place).statements)
reached_last f xs b now out made i h past =
    let all : take i xs ≡ xs = take_all i xs past in
    (h.state ∙ ap (λ ys. after_fragment b (in_order (map f ys) b.place)) all, h.written ∙ ap (λ ys. out ++ (in_order (map f ys) b.place).statements) all)

-- a scope ends behind a fragment
pub left : (b now : Builder) (p : Fragment) (t : Scope) → now ≡ after_fragment b p → IsInside b.place p.next
    → (IsInside b.place now.place → t ≡ behind b.place now.place)
    → record now { place = t } ≡ after b (behind b.place p.next) p.notes
left b now p t h inside ends =
    let here : now.place ≡ p.next = ap (λ (z : Builder). z.place) h in
    let e : t ≡ behind b.place p.next = ends (subst (IsInside b.place) (sym here) inside) ∙ ap (behind b.place) here in
    ap (λ (z : Builder). record z { place = t }) h ∙ ap (λ u. after b u p.notes) e
