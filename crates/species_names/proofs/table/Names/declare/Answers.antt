use Rattle.std.proofs.Common.{◌∙◌, sym, ap}
use Rattle.species_ast.specs.Scope.Meanings.{meaning_in}
use Rattle.species_names.proofs.TableLaws.{declared}
use Rattle.species_names.proofs.table.Names.declare.Goals as goal

pub invariant_of-self-in-Ok : goal.invariant_of-self-in-Ok
invariant_of-self-in-Ok c = declared _ _ _ _ _ c.self.invariant c.in-Ok.ensures.updates (c.meaning-before.ensures ∙ ap (λ l. meaning_in l c.args.name.now) (sym c.self.view_is)) c.in_ok-push.ensures.items
