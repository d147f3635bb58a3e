use Rattle.std.proofs.Common.{ℕ, ◌<◌}
use Rattle.std.specs.Prelude.{slice_index_or}
use Rattle.species_affine.specs.declared.subscript.Subscript.TheVariants.{Other}
use Rattle.species_depend.specs.Refuted.{RulesOut}
use Rattle.species_depend.proofs.refutation.some_rules_out.Given as goal

abbrev pub invariant-loop-dimension : goal.invariant-loop-dimension
invariant-loop-dimension l = (k : ℕ) → k < l.dimension → ¬ RulesOut l.at l.p.path l.q.path (slice_index_or l.p.subs k Other) (slice_index_or l.q.subs k Other)
