use Rattle.species_references.proofs.ExtentLemmas.{IsExtent}
use Rattle.species_references.proofs.boxes.inner_box.Given as goal

abbrev pub invariant-loop-term : goal.invariant-loop-term
invariant-loop-term l = IsExtent l.term-items l.form.constant l.inner l.path l.term-index l.extent
