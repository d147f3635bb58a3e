-- What `resolve` answers.
use Rattle.std.specs.Prelude.{◌≡◌, Option, Some, None, Result, Ok, Err}
use Rattle.species_ast.specs.declared.tree.Unit.{Unit as Program}
use Rattle.species_ast.specs.Scope.Refusals.{Refusal, Finding}
use Rattle.species_names.specs.Refused.{limit_seen}
use Rattle.species_scope.specs.declared.refusal.ScopeRefusal.{ScopeRefusal}
use Rattle.species_scope.specs.declared.refusal.ScopeRefusal.TheVariants as code

-- what is refused, and where; of want of memory nothing
abbrev pub finding_of : ScopeRefusal → Option Finding
finding_of (code.Unknown p) = Some (record { refusal = Refusal.Unknown; place = p })
finding_of (code.Duplicate p) = Some (record { refusal = Refusal.Duplicate; place = p })
finding_of (code.DimensionCount p) = Some (record { refusal = Refusal.DimensionCount; place = p })
finding_of (code.IteratorAssigned p) = Some (record { refusal = Refusal.IteratorAssigned; place = p })
finding_of (code.IteratorOutside p) = Some (record { refusal = Refusal.IteratorOutside; place = p })
finding_of (code.NotStatic p) = Some (record { refusal = Refusal.NotStatic; place = p })
finding_of (code.BadStep p) = Some (record { refusal = Refusal.BadStep; place = p })
finding_of (code.BadMark p) = Some (record { refusal = Refusal.BadMark; place = p })
finding_of (code.Limit l p) = Some (record { refusal = Refusal.LimitPassed (limit_seen l); place = p })
finding_of code.Memory = None

-- a refusal is the answer, unless memory ran out
abbrev pub IsRefused : Option Finding → Result Program Finding → Type 0
IsRefused (Some f) answer = answer ≡ Err f
IsRefused None answer = Unit {0}

-- the definition's answer, unless memory ran out
abbrev pub Answers : Result Program ScopeRefusal → Result Program Finding → Type 0
Answers (Ok unit) answer = answer ≡ Ok unit
Answers (Err r) answer = IsRefused (finding_of r) answer
