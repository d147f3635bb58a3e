use Rattle.species_lines.proofs.AdditionLaws.{additions_are_marked}
use Rattle.species_lines.proofs.LineLaws.{lines_hold}
use Rattle.species_lines.proofs.OutsideLaws.{domains_are_outside}
use Rattle.species_lines.proofs.law.law_lines.Goals as goal

pub returns-clause-lines : goal.returns-clause-lines
returns-clause-lines c = lines_hold

pub returns-clause-domains : goal.returns-clause-domains
returns-clause-domains c = domains_are_outside

pub returns-clause-additions : goal.returns-clause-additions
returns-clause-additions c = additions_are_marked
