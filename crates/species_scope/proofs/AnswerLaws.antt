-- A finding is of one refusal.
use Rattle.std.proofs.Common.{◌≡◌, ◌∙◌, ap, sym, refl, ℕ, Option, Some, None}
use Rattle.species_ast.specs.Scope.Refusals.{Limit, Refusal, Finding}
use Rattle.species_names.specs.declared.finding.Limit as code_limit
use Rattle.species_names.specs.declared.finding.Limit.TheVariants as limit
use Rattle.species_scope.specs.declared.refusal.ScopeRefusal.{ScopeRefusal}
use Rattle.species_scope.specs.declared.refusal.ScopeRefusal.TheVariants as code
use Rattle.species_scope.specs.Answers.{finding_of}

abbrev limit_back : Limit → code_limit.Limit
limit_back Limit.Loops = limit.Loops
limit_back Limit.Dims = limit.Dims
limit_back Limit.Elements = limit.Elements
limit_back Limit.References = limit.References
limit_back Limit.Hull = limit.Hull
limit_back Limit.Step = limit.Step
limit_back Limit.Bound = limit.Bound

abbrev refusal_back : Refusal → ℕ → ScopeRefusal
refusal_back Refusal.Unknown p = code.Unknown p
refusal_back Refusal.Duplicate p = code.Duplicate p
refusal_back Refusal.DimensionCount p = code.DimensionCount p
refusal_back Refusal.IteratorAssigned p = code.IteratorAssigned p
refusal_back Refusal.IteratorOutside p = code.IteratorOutside p
refusal_back Refusal.NotStatic p = code.NotStatic p
refusal_back Refusal.BadStep p = code.BadStep p
refusal_back Refusal.BadMark p = code.BadMark p
refusal_back (Refusal.LimitPassed l) p = code.Limit (limit_back l) p

abbrev back : Option Finding → ScopeRefusal
back (Some f) = refusal_back f.refusal f.place
back None = code.Memory

comes_back : (r : ScopeRefusal) → back (finding_of r) ≡ r
comes_back (code.Unknown p) = refl
comes_back (code.Duplicate p) = refl
comes_back (code.DimensionCount p) = refl
comes_back (code.IteratorAssigned p) = refl
comes_back (code.IteratorOutside p) = refl
comes_back (code.NotStatic p) = refl
comes_back (code.BadStep p) = refl
comes_back (code.BadMark p) = refl
comes_back (code.Limit limit.Loops p) = refl
comes_back (code.Limit limit.Dims p) = refl
comes_back (code.Limit limit.Elements p) = refl
comes_back (code.Limit limit.References p) = refl
comes_back (code.Limit limit.Hull p) = refl
comes_back (code.Limit limit.Step p) = refl
comes_back (code.Limit limit.Bound p) = refl
comes_back code.Memory = refl

pub one_refusal : (r q : ScopeRefusal) → finding_of r ≡ finding_of q → r ≡ q
one_refusal r q h = sym (comes_back r) ∙ ap back h ∙ comes_back q
