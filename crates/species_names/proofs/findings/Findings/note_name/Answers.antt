use Rattle.std.proofs.Common.{ap}
use Rattle.species_names.specs.Noted.{name_seen}
use Rattle.species_names.proofs.KeptLaws.{at_name}
use Rattle.species_names.proofs.findings.Findings.note_name.Goals as goal

pub returns : goal.returns
returns c =
    let o = name_seen c.args.name.now c.args.role c.args.means.now in
    at_name c.args.iterators.now o _ c.args.self.now _ _ _ _ _ _ _ _ _ _
    (ap (λ n. n.place) c.name.view_is)
    (c.is_unknown.ensures c.args.name.now) (c.is_duplicate.ensures c.args.name.now) (c.is_miscounted.ensures c.args.name.now) (c.is_assigned.ensures c.args.name.now) (c.is_outside.ensures c.args.name.now)
    c.note_if.ensures c.note_if-2.ensures c.note_if-3.ensures c.note_if-4.ensures c.note_if-5.ensures
