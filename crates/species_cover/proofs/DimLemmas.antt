-- Whether a given dimension covers a derived one, by its spans.
use Rattle.std.proofs.Common.{◌≡◌, ◌∙◌, ap, refl, sym, subst, arith, ℕ, ℤ, nat_eq, Bool, true, false, IsTrue}
use Rattle.std.specs.Prelude.{◌&&◌}
use Rattle.std.specs.Bool.{Decides}
use Rattle.std.specs.Ordering.{int_eq}
use Rattle.std.proofs.lemmas.Bool.{eqb-true, eq-eqb}
use Rattle.species_linear.specs.declared.forms.Term.{Term}
use Rattle.species_arcs.specs.declared.places.ArcDim.{ArcDim}
use Rattle.species_arcs.specs.declared.spans.Span.{Span}
use Rattle.species_notation.specs.declared.given.GivenDim.{GivenDim}
use Rattle.species_cover.specs.Within.{IsWithin}
use Rattle.species_cover.specs.Cover.{CoversDim, derived_span, given_span}

both : (x y v w : Span) → x ≡ v → y ≡ w → IsWithin x y → IsWithin v w
both x y v w e f h = subst (λ s. IsWithin s w) e (subst (λ s. IsWithin x s) f h)

pub not_within : (exact : Bool) (g : GivenDim) (d : ArcDim) (x y : Span) → x ≡ derived_span d → y ≡ given_span g → (IsWithin x y → ⊥) → CoversDim exact g d → ⊥
not_within exact g d x y e f out c = out (both (derived_span d) (given_span g) x y (sym e) (sym f) c.indices)

pub covers_plain : (exact : Bool) (g : GivenDim) (d : ArcDim) (x y : Span) → x ≡ derived_span d → y ≡ given_span g → g.at.terms ≡ d.at.terms → IsWithin x y
    → exact ≡ false → CoversDim exact g d
covers_plain exact g d x y e f terms h plain = record {
  terms = terms;
  indices = both x y (derived_span d) (given_span g) e f h;
  no_wider = λ t. absurd (cc (t, plain));
}

pub covers_exact : (exact : Bool) (g : GivenDim) (d : ArcDim) (x y : Span) → x ≡ derived_span d → y ≡ given_span g → g.at.terms ≡ d.at.terms → IsWithin x y
    → IsWithin y x → CoversDim exact g d
covers_exact exact g d x y e f terms h k = record {
  terms = terms;
  indices = both x y (derived_span d) (given_span g) e f h;
  no_wider = λ t. both y x (given_span g) (derived_span d) f e k;
}

pub is_no_wider : (exact : Bool) (g : GivenDim) (d : ArcDim) (x y : Span) → x ≡ derived_span d → y ≡ given_span g → IsTrue exact → CoversDim exact g d → IsWithin y x
is_no_wider exact g d x y e f is c = both (given_span g) (derived_span d) y x (sym f) (sym e) (c.no_wider is)

-- ---- terms

abbrev term : ℕ → ℤ → Term
term level coefficient = record { level = level; coefficient = coefficient }

same_nat : (a b : ℕ) → Decides (nat_eq a b) (a ≡ b)
same_nat a b = (λ h. eqb-true a b h, λ e. eq-eqb a b e)

same_int : (a b : ℤ) → Decides (int_eq a b) (a ≡ b)
same_int a b = (λ h. grind arith, λ e. grind arith)

whole : (l m : ℕ) (p q : ℤ) → l ≡ m → p ≡ q → term l p ≡ term m q
whole l m p q e f = ap (λ x. term x p) e ∙ ap (term m) f

pub same_term : (a b : Term) → Decides (nat_eq a.level b.level && int_eq a.coefficient b.coefficient) (a ≡ b)
same_term a b = (there (nat_eq a.level b.level) (int_eq a.coefficient b.coefficient) refl refl, back)
  where
    there : (s t : Bool) → nat_eq a.level b.level ≡ s → int_eq a.coefficient b.coefficient ≡ t → (s && t) ≡ true → a ≡ b
    there true true e f h =
        let levels : a.level ≡ b.level = (same_nat a.level b.level).0 e in
        let coefficients : a.coefficient ≡ b.coefficient = (same_int a.coefficient b.coefficient).0 f in
        whole (a.level) (b.level) a.coefficient b.coefficient levels coefficients
    there true false e f h = absurd (cc)
    there false t e f h = absurd (cc)

    back : a ≡ b → (nat_eq a.level b.level && int_eq a.coefficient b.coefficient) ≡ true
    back e =
        ap (λ s. s && int_eq a.coefficient b.coefficient) ((same_nat a.level b.level).1 (ap (λ t. t.level) e))
        ∙ (same_int a.coefficient b.coefficient).1 (ap (λ t. t.coefficient) e)
