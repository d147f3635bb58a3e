-- The pragma of an addition, species lines and `#include` lines are one token each.
use Rattle.std.proofs.Common.{◌≡◌, ap, refl, ℕ, true, List, ◌++◌, Option, Some, None}
use Rattle.std.proofs.lemmas.Bool.{and_parts}
use Rattle.std.proofs.lemmas.Slice.Eq.{bytes_eq-Decides}
use Rattle.std.specs.Prelude.{bytes_eq, codes, is_none}
use Rattle.std.specs.List.{list_all}
use Rattle.species_ast.specs.declared.token.TokenKind.TheVariants as kind
use Rattle.species_ast.specs.Text.Comments.{last_backslash}
use Rattle.species_ast.specs.Text.Directives.{Form, Skipped, Read, Macro, Wrong, form_of}
use Rattle.species_ast.specs.Text.Numbers.{literal_of}
use Rattle.species_ast.specs.Text.Pragmas.{openmp_of}
use Rattle.species_readback.proofs.DirectiveLemmas.{IsDirective}
use Rattle.species_readback.specs.Law.{species_line}
use Rattle.species_readback.specs.Spelt.{is_no_line_feed, is_one_line, include_line, is_include_form, is_species_text, is_header, is_species_form}

-- ---- the pragma of an addition

pub atomic_directive : IsDirective (codes "#pragma omp atomic update") kind.Atomic
unfolding form_of openmp_of literal_of
atomic_directive = record { more = codes "pragma omp atomic update"; begins = refl; one_line = refl; whole = refl; is_form = refl; is_kind = λ n. refl }

-- ---- lines of text that are read as they are

same_is : (a b : List ℕ) → bytes_eq a b ≡ true → a ≡ b
same_is a b h = (bytes_eq-Decides a b).0 h

none_is : (x : Option ℕ) → is_none x ≡ true → x ≡ None
none_is None h = refl
none_is (Some n) h = cc

species_form : (t : List ℕ) (f : Form) → is_species_form t f ≡ true → f ≡ Read t kind.Species
species_form t Skipped h = cc
species_form t (Read w kind.Species) h = ap (λ z. Read z kind.Species) (same_is w t h)
species_form t (Read w _) h = cc
species_form t (Macro n r) h = cc
species_form t (Wrong r) h = cc

include_form : (t : List ℕ) (f : Form) → is_include_form t f ≡ true → f ≡ Read t kind.Include
include_form t Skipped h = cc
include_form t (Read w kind.Include) h = ap (λ z. Read z kind.Include) (same_is w t h)
include_form t (Read w _) h = cc
include_form t (Macro n r) h = cc
include_form t (Wrong r) h = cc

pub line_directive : (t : List ℕ) → is_species_text t ≡ true → IsDirective t kind.Species
line_directive t h =
    let k = and_parts (is_one_line (species_line t)) (is_species_form t (form_of (species_line t))) h in
    let l = and_parts (list_all is_no_line_feed (species_line t)) (is_none (last_backslash (species_line t))) k.0 in
    record { more = codes "pragma species " ++ t; begins = refl; one_line = l.0; whole = none_is _ l.1; is_form = species_form t _ k.1; is_kind = λ n. refl }

pub header_directive : (t : List ℕ) → is_header t ≡ true → IsDirective t kind.Include
header_directive t h =
    let k = and_parts (is_one_line (include_line t)) (is_include_form t (form_of (include_line t))) h in
    let l = and_parts (list_all is_no_line_feed (include_line t)) (is_none (last_backslash (include_line t))) k.0 in
    record { more = codes "include " ++ t; begins = refl; one_line = l.0; whole = none_is _ l.1; is_form = include_form t _ k.1; is_kind = λ n. refl }
