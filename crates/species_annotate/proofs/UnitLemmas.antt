-- The annotated unit, from its body.
use Rattle.std.proofs.Common.{◌≡◌, ◌∙◌, refl, sym, ap, subst, List, [], ◌++◌, append-nil, false}
use Rattle.species_ast.specs.declared.tree.Stmt.{Stmt}
use Rattle.species_ast.specs.declared.tree.Unit.{Unit as Program}
use Rattle.species_ast.specs.Marks.{IsUnmarked}
use Rattle.species_ast.specs.Scope.Loops.{outside_loops}
use Rattle.species_ast.specs.Scope.References.{HasReadSize}
use Rattle.species_ast.specs.Scope.WellMade.{IsWellMade}
use Rattle.species_ast.specs.Strip.{source_of}
use Rattle.species_ast.proofs.StripKeeps.{strip-IsWellMade, strip-HasReadSize}
use Rattle.species_notation.specs.declared.given.Names.{Names}
use Rattle.species_annotate.specs.Annotated.{outside, names_in, BecomeAll, IsAnnotated}
use Rattle.species_annotate.specs.Loops.{heads_in_list, heads_of, LoopsLeft}
use Rattle.species_annotate.proofs.MadeLemmas.{well_made, read_size}
use Rattle.species_annotate.proofs.SourceLemmas.{same_source, unmarked as no_marks}
use Rattle.species_annotate.proofs.WalkLemmas.{AllBecome}

pub body_becomes : (u : Program) (l : LoopsLeft) (names : Names) (p new : List Stmt) → l ≡ record { unit = u; left = heads_of u } → names ≡ names_in u [] → p ≡ u.body → AllBecome l.unit names l.left p new
    → BecomeAll u outside u.body new
body_becomes u l names p new is named b f =
    let all : AllBecome u names (heads_of u) p new = subst (λ (z : LoopsLeft). AllBecome z.unit names z.left p new) is f in
    let left : heads_of u ≡ heads_in_list p outside_loops 0 ++ [] = ap (λ xs. heads_in_list xs outside_loops 0) (sym b) ∙ sym (append-nil (heads_in_list p outside_loops 0)) in
    subst (λ xs. BecomeAll u outside xs new) b (all outside outside_loops 0 [] refl named left)

-- what is known of an annotated unit
pub record IsLined (u v : Program) : Type 0 where
  pub plan : IsAnnotated u v
  pub source : source_of v ≡ source_of u
  pub unmarked : IsUnmarked v
  pub well_made : IsWellMade v
  pub size : HasReadSize u → HasReadSize v

is_lined : (u v : Program) → IsWellMade u → IsAnnotated u v → IsLined u v
is_lined u v well h =
    let same : source_of v ≡ source_of u = same_source u v h in
    record {
      plan = h;
      source = same;
      unmarked = no_marks u v h;
      well_made = well_made v (no_marks u v h) (subst IsWellMade (sym same) (strip-IsWellMade false u well));
      size = λ small. read_size v (subst HasReadSize (sym same) (strip-HasReadSize false u small));
    }

pub annotated : (u s : Program) (body : List Stmt) → IsWellMade u → s ≡ source_of u → BecomeAll s outside s.body body → IsLined u (record s { body = body })
annotated u s body well e h =
    let all : BecomeAll (source_of u) outside (source_of u).body body = subst (λ (z : Program). BecomeAll z outside z.body body) e h in
    is_lined u (record s { body = body }) well (subst (λ (z : Program). IsAnnotated u (record z { body = body })) (sym e) (record { body = all; rest = refl }))
