-- Dimensions and references that are collected one after another.
use Rattle.std.proofs.Common.{◌≡◌, refl, ap, sym, ◌∙◌, subst, arith, ℕ, zero, suc, ◌+◌, ◌<◌, ◌≤◌, append-nil, false, List, [], ◌∷◌, ◌++◌, map, length, take, take_all, length-append, get_or, All}
use Rattle.std.specs.Prelude.{slice_index_or, Option}
use Rattle.std.proofs.lemmas.List.{take_more, length-map}
use Rattle.species_arcs.specs.Pairwise.{Pairwise}
use Rattle.species_arcs.specs.declared.spans.Span.{Span}
use Rattle.species_ast.specs.declared.tree.Expr.{Expr}
use Rattle.species_ast.specs.declared.tree.Loop.{Loop}
use Rattle.species_ast.specs.Scope.Forms.{Form, form_of}
use Rattle.species_ast.specs.Scope.Hulls.{Range}
use Rattle.species_ast.specs.Scope.References as text
use Rattle.species_affine.specs.declared.subscript.Subscript.{Subscript}
use Rattle.species_affine.specs.Subscript.{IsSubscript, HasFormNumbers}
use Rattle.species_occurrences.specs.Anywhere.{unplaced}
use Rattle.species_references.specs.declared.nest.Reference.{Reference}
use Rattle.species_references.specs.declared.occurrences.Occurrence.{Occurrence}
use Rattle.species_references.specs.Boxes.{IsBoxIn, AreBoxes}
use Rattle.species_references.specs.References.{IsReference, AreNumberedFrom}
use Rattle.species_references.specs.Ranges.{ranges_in_loop}
use Rattle.species_references.specs.Occurrences.{seen, all_seen, seen_in_loop, Collected}
use Rattle.species_references.proofs.SeenLemmas.{map_append, nest_anywhere}

pair_more : {X Y : Type 0} (R : X → Y → Type 0) (xs : List X) (ys : List Y) (x : X) (y : Y) → Pairwise R xs ys → R x y → Pairwise R (xs ++ x ∷ []) (ys ++ y ∷ [])
pair_more R [] [] x y h r = (r, tt)
pair_more R [] (v ∷ ys) x y h r = absurd h
pair_more R (u ∷ xs) [] x y h r = absurd h
pair_more R (u ∷ xs) (v ∷ ys) x y h r = (h.0, pair_more R xs ys x y h.1 r)

all_more : {X : Type 0} (P : X → Type 0) (xs : List X) (x : X) → All P xs → P x → All P (xs ++ x ∷ [])
all_more P [] x h p zero d below = p
all_more P [] x h p (suc k) d below = absurd (omega (arith, below))
all_more P (y ∷ ys) x h p zero d below = h 0 d (omega arith)
all_more P (y ∷ ys) x h p (suc k) d below = all_more P ys x (λ j e l. h (suc j) e (omega (arith, l))) p k d (omega (arith, below))

boxes_more : (inner : ℕ) (path : List Range) (sizes : List ℕ) (os : List (Option Form)) (xs : List Span) (o : Option Form) (x : Span) → AreBoxes inner path sizes os xs
    → IsBoxIn inner path (slice_index_or sizes (length os) 0) o x → AreBoxes inner path sizes (os ++ o ∷ []) (xs ++ x ∷ [])
boxes_more inner path [] [] [] o x h b = (b, tt)
boxes_more inner path (n ∷ sizes) [] [] o x h b = (b, tt)
boxes_more inner path sizes [] (y ∷ xs) o x h b = absurd h
boxes_more inner path sizes (p ∷ os) [] o x h b = absurd h
boxes_more inner path [] (p ∷ os) (y ∷ xs) o x h b = (h.0, boxes_more inner path [] os xs o x h.1 b)
boxes_more inner path (n ∷ sizes) (p ∷ os) (y ∷ xs) o x h b = (h.0, boxes_more inner path sizes os xs o x h.1 b)

-- the forms of the first expressions and of one more
forms_more : (exprs : List Expr) (i : ℕ) (d : Expr) → i < length exprs → map form_of (take (i + 1) exprs) ≡ map form_of (take i exprs) ++ form_of (get_or exprs i d) ∷ []
forms_more exprs i d below = ap (map form_of) (take_more exprs i d below) ∙ map_append form_of (take i exprs) (get_or exprs i d ∷ [])

taken_length : {X : Type 0} (xs : List X) (i : ℕ) → i ≤ length xs → length (take i xs) ≡ i
taken_length [] zero h = refl
taken_length [] (suc i) h = absurd (omega (arith, h))
taken_length (x ∷ xs) zero h = refl
taken_length (x ∷ xs) (suc i) h = ap suc (taken_length xs i (omega (arith, h)))

-- The subscripts and boxes of the first i dimensions of an element.
pub record AreDimensions (exprs : List Expr) (inner : ℕ) (path : List Range) (sizes : List ℕ) (i : ℕ) (subs : List Subscript) (boxes : List Span) : Type 0 where
  pub subs_are : Pairwise IsSubscript subs (map form_of (take i exprs))
  pub numbers_are : All HasFormNumbers subs
  pub boxes_are : AreBoxes inner path sizes (map form_of (take i exprs)) boxes

pub no_dimensions : (exprs : List Expr) (inner : ℕ) (path : List Range) (sizes : List ℕ) (subs : List Subscript) (boxes : List Span) → subs ≡ [] → boxes ≡ [] → AreDimensions exprs inner path sizes 0 subs boxes
no_dimensions exprs inner path sizes subs boxes p q = record {
  subs_are = subst (λ us. Pairwise IsSubscript us []) (sym p) tt;
  numbers_are = subst (λ us. All HasFormNumbers us) (sym p) (λ k d below. absurd (omega (arith, below)));
  boxes_are = subst (λ xs. AreBoxes inner path sizes [] xs) (sym q) tt;
}

pub next_dimension : (exprs : List Expr) (inner : ℕ) (path : List Range) (sizes : List ℕ) (i : ℕ) (d : Expr) (subs more_subs : List Subscript) (boxes more_boxes : List Span) (s : Subscript) (x : Span) → i < length exprs
    → more_subs ≡ subs ++ s ∷ [] → more_boxes ≡ boxes ++ x ∷ [] → IsSubscript s (form_of (get_or exprs i d)) → HasFormNumbers s → IsBoxIn inner path (slice_index_or sizes i 0) (form_of (get_or exprs i d)) x
    → AreDimensions exprs inner path sizes i subs boxes → AreDimensions exprs inner path sizes (i + 1) more_subs more_boxes
next_dimension exprs inner path sizes i d subs more_subs boxes more_boxes s x below p q form numbers box so =
    let forms = map form_of (take i exprs) in
    let many : length forms ≡ i = length-map (take i exprs) form_of ∙ taken_length exprs i (omega (arith, below)) in
    let more : map form_of (take (i + 1) exprs) ≡ forms ++ form_of (get_or exprs i d) ∷ [] = forms_more exprs i d below in
    record {
      subs_are = subst (λ us. Pairwise IsSubscript us (map form_of (take (i + 1) exprs))) (sym p)
          (subst (λ os. Pairwise IsSubscript (subs ++ s ∷ []) os) (sym more) (pair_more IsSubscript subs forms s (form_of (get_or exprs i d)) so.subs_are form));
      numbers_are = subst (λ us. All HasFormNumbers us) (sym p) (all_more HasFormNumbers subs s so.numbers_are numbers);
      boxes_are = subst (λ xs. AreBoxes inner path sizes (map form_of (take (i + 1) exprs)) xs) (sym q)
          (subst (λ os. AreBoxes inner path sizes os (boxes ++ x ∷ [])) (sym more)
          (boxes_more inner path sizes forms boxes (form_of (get_or exprs i d)) x so.boxes_are (subst (λ n. IsBoxIn inner path (slice_index_or sizes n 0) (form_of (get_or exprs i d)) x) (sym many) box)));
    }

-- one dimension more, of the expression at its place
pub dimension_more : (exprs : List Expr) (inner : ℕ) (path : List Range) (sizes : List ℕ) (i : ℕ) (e : Expr) (subs more_subs : List Subscript) (boxes more_boxes : List Span) (s : Subscript) (x : Span) (size : ℕ) → i < length exprs
    → e ≡ get_or exprs i e → more_subs ≡ subs ++ s ∷ [] → more_boxes ≡ boxes ++ x ∷ [] → IsSubscript s (form_of e) → HasFormNumbers s → size ≡ slice_index_or sizes i 0 → ((o : Option Form) → IsSubscript s o → IsBoxIn inner path size o x)
    → AreDimensions exprs inner path sizes i subs boxes → AreDimensions exprs inner path sizes (i + 1) more_subs more_boxes
dimension_more exprs inner path sizes i e subs more_subs boxes more_boxes s x size below at p q form numbers n box so =
    next_dimension exprs inner path sizes i e subs more_subs boxes more_boxes s x below p q (subst (λ y. IsSubscript s (form_of y)) at form) numbers
    (subst (λ m. IsBoxIn inner path m (form_of (get_or exprs i e)) x) n (box (form_of (get_or exprs i e)) (subst (λ y. IsSubscript s (form_of y)) at form))) so

pub all_dimensions : (exprs : List Expr) (inner : ℕ) (path : List Range) (sizes : List ℕ) (i : ℕ) (subs : List Subscript) (boxes : List Span) → length exprs ≤ i → AreDimensions exprs inner path sizes i subs boxes
    → Pairwise IsSubscript subs (map form_of exprs) × All HasFormNumbers subs × AreBoxes inner path sizes (map form_of exprs) boxes
all_dimensions exprs inner path sizes i subs boxes past so =
    let whole : take i exprs ≡ exprs = take_all i exprs past in (
      subst (λ es. Pairwise IsSubscript subs (map form_of es)) whole so.subs_are,
      so.numbers_are,
      subst (λ es. AreBoxes inner path sizes (map form_of es) boxes) whole so.boxes_are,
    )

-- ---- references

numbered_more : (n : ℕ) (rs : List Reference) (r : Reference) → AreNumberedFrom n rs → r.number ≡ n + length rs → AreNumberedFrom n (rs ++ r ∷ [])
numbered_more n [] r h e = (omega (arith, e), tt)
numbered_more n (q ∷ rs) r h e = (h.0, numbered_more (n + 1) rs r h.1 (omega (arith, e)))

-- The references of the first i occurrences.
pub record AreResolved (sizes : ℕ → List ℕ) (inner : ℕ) (os : List Occurrence) (i : ℕ) (rs : List Reference) : Type 0 where
  pub listed : Pairwise (IsReference sizes inner) rs (all_seen (take i os))
  pub numbered : AreNumberedFrom 0 rs
  pub many : length rs ≡ i

pub none_resolved : (sizes : ℕ → List ℕ) (inner : ℕ) (os : List Occurrence) (rs : List Reference) → rs ≡ [] → AreResolved sizes inner os 0 rs
none_resolved sizes inner os rs h = record {
  listed = subst (λ qs. Pairwise (IsReference sizes inner) qs []) (sym h) tt;
  numbered = subst (λ qs. AreNumberedFrom 0 qs) (sym h) tt;
  many = ap length h;
}

pub next_resolved : (sizes : ℕ → List ℕ) (inner : ℕ) (os : List Occurrence) (i : ℕ) (o : Occurrence) (rs more : List Reference) (r : Reference) → o ≡ get_or os i o → i < length os
    → more ≡ rs ++ r ∷ [] → IsReference sizes inner r (seen o) → r.number ≡ i → AreResolved sizes inner os i rs → AreResolved sizes inner os (i + 1) more
next_resolved sizes inner os i o rs more r at below is shown number so =
    let items : all_seen (take (i + 1) os) ≡ all_seen (take i os) ++ seen o ∷ [] =
    ap all_seen (take_more os i o below) ∙ map_append seen (take i os) (get_or os i o ∷ []) ∙ ap (λ p. all_seen (take i os) ++ seen p ∷ []) (sym at) in
    record {
      listed = subst (λ qs. Pairwise (IsReference sizes inner) qs (all_seen (take (i + 1) os))) (sym is)
          (subst (λ qs. Pairwise (IsReference sizes inner) (rs ++ r ∷ []) qs) (sym items) (pair_more (IsReference sizes inner) rs (all_seen (take i os)) r (seen o) so.listed shown));
      numbered = subst (λ qs. AreNumberedFrom 0 qs) (sym is) (numbered_more 0 rs r so.numbered (omega (arith, number, so.many)));
      many = ap length is ∙ longer rs so.many;
    }
  where
    longer : (qs : List Reference) → length qs ≡ i → length (qs ++ r ∷ []) ≡ i + 1
    longer qs h = omega (arith, length-append qs (r ∷ []), h)

pub all_resolved : (sizes : ℕ → List ℕ) (inner : ℕ) (os : List Occurrence) (i : ℕ) (rs : List Reference) → length os ≤ i → AreResolved sizes inner os i rs
    → Pairwise (IsReference sizes inner) rs (all_seen os) × AreNumberedFrom 0 rs
all_resolved sizes inner os i rs past so = (subst (λ ps. Pairwise (IsReference sizes inner) rs (all_seen ps)) (take_all i os past) so.listed, so.numbered)

-- ---- the place in the text

placed_again : (sizes : ℕ → List ℕ) (inner : ℕ) (r : Reference) (q : text.Reference) → IsReference sizes inner r (unplaced q) → IsReference sizes inner r q
placed_again sizes inner r q h =
    record { array = h.array; direction = h.direction; subs = h.subs; numbers = h.numbers; conditional = h.conditional; path = h.path; boxes = h.boxes }

pub all_placed : (sizes : ℕ → List ℕ) (inner : ℕ) (rs : List Reference) (qs : List text.Reference) → Pairwise (IsReference sizes inner) rs (map unplaced qs) → Pairwise (IsReference sizes inner) rs qs
all_placed sizes inner [] [] h = tt
all_placed sizes inner [] (q ∷ qs) h = absurd h
all_placed sizes inner (r ∷ rs) [] h = absurd h
all_placed sizes inner (r ∷ rs) (q ∷ qs) h = (placed_again sizes inner r q h.0, all_placed sizes inner rs qs h.1)

-- ---- the references of a nest

pub nest_seen : (adds : text.Adding) (head : Loop) (at : List ℕ) (path ranges rest : List Range) (depth : ℕ) (old new : List text.Reference) → ranges ≡ ranges_in_loop head path → old ≡ []
    → Collected ranges (ranges_in_loop head path) rest old (seen_in_loop adds head path false depth) new → new ≡ map unplaced (text.references_of adds head at path depth)
nest_seen adds head at path ranges rest depth old new e none h =
    (h [] (e ∙ sym (append-nil (ranges_in_loop head path)))).1 ∙ ap (λ l. l ++ seen_in_loop adds head path false depth) none ∙ sym (nest_anywhere adds head at path depth)

pub seen_length : (os : List Occurrence) (qs : List text.Reference) → all_seen os ≡ map unplaced qs → length os ≡ length qs
seen_length os qs h = sym (length-map os seen) ∙ ap length h ∙ length-map qs unplaced

pub resolved_placed : (sizes : ℕ → List ℕ) (inner : ℕ) (rs : List Reference) (os : List Occurrence) (qs : List text.Reference) → all_seen os ≡ map unplaced qs → Pairwise (IsReference sizes inner) rs (all_seen os)
    → Pairwise (IsReference sizes inner) rs qs
resolved_placed sizes inner rs os qs e h = all_placed sizes inner rs qs (subst (λ l. Pairwise (IsReference sizes inner) rs l) e h)
