-- What the code's findings stand for.
use Rattle.species_names.specs.declared.finding.Limit as code_limit
use Rattle.species_names.specs.declared.finding.Limit.TheVariants as limit
use Rattle.species_names.specs.declared.finding.Refusal as code_refusal
use Rattle.species_names.specs.declared.finding.Refusal.TheVariants as refusal
use Rattle.species_names.specs.declared.finding.Finding as code
use Rattle.species_ast.specs.Scope.Refusals.{Limit, Refusal, Finding}

abbrev pub limit_seen : code_limit.Limit → Limit
limit_seen limit.Loops = Limit.Loops
limit_seen limit.Dims = Limit.Dims
limit_seen limit.Elements = Limit.Elements
limit_seen limit.References = Limit.References
limit_seen limit.Hull = Limit.Hull
limit_seen limit.Step = Limit.Step
limit_seen limit.Bound = Limit.Bound

abbrev pub refusal_seen : code_refusal.Refusal → Refusal
refusal_seen refusal.Unknown = Refusal.Unknown
refusal_seen refusal.Duplicate = Refusal.Duplicate
refusal_seen refusal.DimensionCount = Refusal.DimensionCount
refusal_seen refusal.IteratorAssigned = Refusal.IteratorAssigned
refusal_seen refusal.IteratorOutside = Refusal.IteratorOutside
refusal_seen refusal.NotStatic = Refusal.NotStatic
refusal_seen refusal.BadStep = Refusal.BadStep
refusal_seen (refusal.LimitPassed l) = Refusal.LimitPassed (limit_seen l)
refusal_seen refusal.BadMark = Refusal.BadMark

abbrev pub finding_seen : code.Finding → Finding
finding_seen f = record { refusal = refusal_seen f.refusal; place = f.place }
