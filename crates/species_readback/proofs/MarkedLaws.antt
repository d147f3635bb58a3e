-- Units that have the source of one that is read back are read back, whatever their lines, marks and atomic additions are.
use Rattle.std.proofs.Common.{◌≡◌, ◌∙◌, ap, sym, [], map}
use Rattle.std.specs.List.{list_all}
use Rattle.species_ast.specs.Names.{is_name}
use Rattle.species_ast.specs.Strip.{source_of}
use Rattle.species_ast.specs.declared.tree.Unit.{Unit}
use Rattle.species_ast.specs.Scope.Meanings.{Meaning, scope_with}
use Rattle.species_ast.specs.Scope.Programs.{first_scope, program_of}
use Rattle.species_readback.specs.Spelt.{is_header, array_spelt, spelt, IsSpelt, HasSpeltMarks}
use Rattle.species_readback.specs.Meant.{meant, spell, list_locals, list_holds, has_sizes, arrays_scope, body_scope, IsMeant}
use Rattle.species_readback.specs.ReadBack.{MarkedReadsBack}
use Rattle.species_readback.proofs.StrippedLemmas.{strip, meant_stripped, spelt_stripped, spelt_marked}
use Rattle.species_readback.proofs.AlikeLemmas.{SameNames, written_alike, meant_alike}
use Rattle.species_readback.proofs.LawfulLaws.{lawful_meets}
use Rattle.species_readback.proofs.ReadBackLaws.{reads_back}

abbrev SameSource : Unit → Unit → Type 0
SameSource w u = source_of w ≡ source_of u

same_names : (u w : Unit) → SameSource w u → SameNames u w
same_names u w e = record { arrays = sym (ap (λ z. z.arrays) e); locals = sym (ap (λ z. z.locals) e) }

same_body : (u w : Unit) → SameSource w u → map strip w.body ≡ map strip u.body
same_body u w e = ap (λ z. z.body) e

same_scope : (u w : Unit) → SameSource w u → body_scope w ≡ body_scope u
same_scope u w e = (λ i. scope_with (spell (e i).function) Meaning.Function (arrays_scope 0 (e i).arrays (first_scope [])))

marked_spelt : (u w : Unit) → SameSource w u → IsSpelt u → HasSpeltMarks w → IsSpelt w
marked_spelt u w e s m = record {
  includes = ap (λ z. list_all is_header z.includes) e ∙ s.includes;
  arrays = ap (λ z. list_all array_spelt z.arrays) e ∙ s.arrays;
  function = ap (λ z. is_name z.function) e ∙ s.function;
  body = spelt_marked w [] w.body
      (ap (λ xs. list_all (λ s. s []) (map (spelt w) xs)) (same_body u w e)
      ∙ sym (written_alike u w (same_names u w e) [] (map strip u.body))
      ∙ spelt_stripped u [] u.body s.body) m;
}

marked_meant : (u w : Unit) → SameSource w u → IsMeant u → IsMeant w
marked_meant u w e m =
    let ms = map (meant w) (map strip u.body) in
    let same : map (meant w) w.body ≡ ms = sym (meant_stripped w w.body) ∙ ap (map (meant w)) (same_body u w e) in
    let alike = meant_alike u w (same_names u w e) (map strip u.body) in
    record {
      arrays = ap (λ z. list_all has_sizes z.arrays) e ∙ m.arrays;
      body =
          (λ i. list_holds (same i) [] (same_scope u w e i))
          ∙ sym (alike.holds [] (body_scope u))
          ∙ ap (λ z. list_holds z [] (body_scope u)) (meant_stripped u u.body)
          ∙ m.body;
      locals = ap list_locals same ∙ sym alike.locals ∙ ap list_locals (meant_stripped u u.body) ∙ m.locals ∙ sym (ap (λ z. z.locals) e);
    }

pub marked_reads_back : MarkedReadsBack
marked_reads_back text raw r lawful w e m =
    let u = (program_of raw).unit in
    let h = lawful_meets text raw r lawful in
    reads_back w (marked_spelt u w e h.0 m) (marked_meant u w e h.1)
