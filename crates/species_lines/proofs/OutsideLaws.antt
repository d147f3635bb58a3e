-- Domains name no iterator of a band whose bounds name none.
use Rattle.std.proofs.Common.{◌≡◌, refl, ap, sym, ◌∙◌, arith, ℕ, zero, suc, ◌+◌, ◌-◌, Bool, true, false, nat_lt, if◌then◌else◌, List, [], ◌∷◌, length, slice_index_or, ℤ, pos, ◌+ℤ◌, All}
use Rattle.std.specs.Int.RustNames.{int_lt}
use Rattle.std.proofs.lemmas.Int.{ints}
use Rattle.std.proofs.lemmas.Bool.Decides.{nat_tests}
use Rattle.species_affine.specs.declared.subscript.Subscript.{Subscript}
use Rattle.species_arcs.specs.Pairwise.{Pairwise}
use Rattle.species_arcs.specs.Sets.{IsInDimDomain, IsInDomain}
use Rattle.species_arcs.specs.declared.places.Arc.{Arc}
use Rattle.species_arcs.specs.declared.places.ArcDim.{ArcDim}
use Rattle.species_ast.proofs.Induction.{Each}
use Rattle.species_linear.specs.Point.{Point}
use Rattle.species_linear.specs.Value.{form_at, coefficient_at, NamesOnly}
use Rattle.species_linear.specs.declared.forms.Form.{Form}
use Rattle.species_linear.specs.declared.forms.Term.{Term}
use Rattle.species_linear.proofs.Agree.{form_at-agree, form_at-agree_below}
use Rattle.species_merge.specs.Arcs.{AreDimsFrom, IsArcOf}
use Rattle.species_merge.specs.Bands.{no_bound, bound_at, end_form, ends_at, IsEndOf}
use Rattle.species_merge.specs.Classes.{Class, members, classes_of}
use Rattle.species_merge.specs.declared.bands.BandBound.{BandBound}
use Rattle.species_merge.proofs.Folding.{all_of}
use Rattle.species_references.specs.declared.nest.Reference.{Reference as Held}
use Rattle.species_lines.specs.Lines.{AgreeOutside, NamesOutside, DomainsAreOutside}

no_names : (outer : ℕ) → NamesOutside outer no_bound
no_names outer = ((λ k d l. absurd (omega (arith, l))), (λ k d l. absurd (omega (arith, l))))

bound_names : (outer : ℕ) (bands : List BandBound) (k : ℕ) → All (NamesOutside outer) bands → NamesOutside outer (bound_at bands k)
bound_names outer [] k h = no_names outer
bound_names outer (b ∷ bands) zero h = h 0 b (omega arith)
bound_names outer (b ∷ bands) (suc k) h = bound_names outer bands k (λ j d l. h (suc j) d (omega (arith, l)))

end_names : (lower : Bool) (c : ℤ) (outer : ℕ) (b : BandBound) → NamesOutside outer b → NamesOnly (end_form lower c b) outer
end_names true c outer b h = go (int_lt c (pos 0))
  where
    go : (t : Bool) → NamesOnly (if t then b.greatest else b.least) outer
    go true = h.1
    go false = h.0
end_names false c outer b h = go (int_lt c (pos 0))
  where
    go : (t : Bool) → NamesOnly (if t then b.least else b.greatest) outer
    go true = h.0
    go false = h.1

ends_agree : (lower : Bool) (outer : ℕ) (bands : List BandBound) (ts : List Term) (p q : Point) → All (NamesOutside outer) bands → AgreeOutside outer p q → (level : ℕ)
    → ends_at lower outer bands ts p level ≡ ends_at lower outer bands ts q level
ends_agree lower outer bands ts p q names agree level = go (nat_lt level outer) refl
  where
    f : Form
    f = end_form lower (coefficient_at ts level) (bound_at bands (level - outer))

    go : (t : Bool) → nat_lt level outer ≡ t → (if t then p level else form_at f p) ≡ (if t then q level else form_at f q)
    go true is = agree level (grind (arith, nat_tests, is))
    go false is = form_at-agree_below f outer p q (end_names lower (coefficient_at ts level) outer (bound_at bands (level - outer)) (bound_names outer bands (level - outer) names)) agree

end_agrees : (lower : Bool) (outer : ℕ) (bands : List BandBound) (at : Form) (offset : ℤ) (f : Form) (p q : Point) → IsEndOf lower outer bands at offset f → All (NamesOutside outer) bands → AgreeOutside outer p q
    → form_at f p ≡ form_at f q
end_agrees lower outer bands at offset f p q h names agree =
    let ends : form_at at (ends_at lower outer bands at.terms p) ≡ form_at at (ends_at lower outer bands at.terms q) =
    form_at-agree at (ends_at lower outer bands at.terms p) (ends_at lower outer bands at.terms q) (λ k d l. ends_agree lower outer bands at.terms p q names agree (slice_index_or at.terms k d).level) in
    h.value p ∙ ap (λ (z : ℤ). z +ℤ offset) ends ∙ sym (h.value q)

dims_outside : (outer : ℕ) (bands : List BandBound) (rs : List Held) (p q : Point) (k : ℕ) (ss : List Subscript) (ds : List ArcDim) (vs : List ℤ) → AreDimsFrom outer bands rs k ss ds → All (NamesOutside outer) bands
    → AgreeOutside outer p q → Pairwise (λ d v. IsInDimDomain d p v) ds vs → Pairwise (λ d v. IsInDimDomain d q v) ds vs
dims_outside outer bands rs p q k ss [] [] dims names agree h = tt
dims_outside outer bands rs p q k ss [] (v ∷ vs) dims names agree h = absurd h
dims_outside outer bands rs p q k ss (d ∷ ds) [] dims names agree h = absurd h
dims_outside outer bands rs p q k [] (d ∷ ds) (v ∷ vs) dims names agree h = absurd dims
dims_outside outer bands rs p q k (s ∷ ss) (d ∷ ds) (v ∷ vs) dims names agree h =
    let low = end_agrees true outer bands d.at d.a d.low p q dims.0.low names agree in
    let high = end_agrees false outer bands d.at d.b d.high p q dims.0.high names agree in (
      (omega (arith, ints, low, h.0.0), omega (arith, ints, high, h.0.1)),
      dims_outside outer bands rs p q (suc k) ss ds vs dims.1 names agree h.1,
    )

arcs_outside : (outer : ℕ) (bands : List BandBound) (cs : List Class) (arcs : List Arc) (p q : Point) (place : List ℤ) → Pairwise (IsArcOf outer bands) cs arcs → All (NamesOutside outer) bands → AgreeOutside outer p q
    → Each (λ a. IsInDomain a p place → IsInDomain a q place) arcs
arcs_outside outer bands [] [] p q place h names agree = tt
arcs_outside outer bands [] (a ∷ arcs) p q place h names agree = absurd h
arcs_outside outer bands (c ∷ cs) [] p q place h names agree = absurd h
arcs_outside outer bands (c ∷ cs) (a ∷ arcs) p q place h names agree =
    ((λ inside. dims_outside outer bands (members c) p q 0 c.first.subs a.dims place h.0.dims names agree inside), arcs_outside outer bands cs arcs p q place h.1 names agree)

-- the law
pub domains_are_outside : DomainsAreOutside
domains_are_outside outer bands rs arcs p q place h names agree =
    all_of (λ a. IsInDomain a p place → IsInDomain a q place) arcs (arcs_outside outer bands (classes_of (outer + length bands) rs) arcs p q place h names agree)
