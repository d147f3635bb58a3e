-- What is read is what is asked for.
use Rattle.std.proofs.Common.{◌≡◌, ◌∙◌, ap, sym, subst, refl, ℕ, zero, suc, Bool, true, false, ◌&&◌, if◌then◌else◌, List, [], ◌∷◌, decimal, bytes_eq, Option, Some, None, Result, Ok, Err, IsErr, String, Global, ◌↔◌, arith}
use Rattle.std.specs.Prelude.{codes}
use Rattle.std.proofs.lemmas.Slice.Eq.{bytes_eq-Decides}
use Rattle.species_decimal.specs.Number.{number_of}
use Rattle.species_decimal.proofs.NumberLaws.{number_written, number_read}
use Rattle.std.specs.Option.{ok_or}
use Rattle.species_words.specs.declared.Usage.{Usage}
use Rattle.species_words.specs.CommandLines.{IsCommandLine, texts, Asks, IsNests, IsStart, arcs, annotate, compile, check, run as run_line, traced_run, drill as drill_line, drill_from}
use Rattle.species_words.specs.Reading.{last, run, counted, numbered, settings, drill, command_of}
use Rattle.species_words.specs.declared.Command.{Command}
use Rattle.species_words.specs.declared.Command.TheVariants as command

-- ---- what is asked for is read

numbered_written : (nests from : ℕ) → IsNests nests → IsStart from
    → numbered (decimal nests) (decimal from) ≡ Some (command.Drill nests from)
numbered_written zero from n f = absurd (omega arith)
numbered_written (suc nests) from n f =
    ap (λ o. counted o (number_of 4294967295 (decimal from))) (number_written 10000 (suc nests) n.1 (omega arith))
    ∙ ap (λ o. counted (Some (suc nests)) o) (number_written 4294967295 from (omega arith) (omega arith))

pub asked : (words : List (List ℕ)) (c : Command) → Asks words c → command_of words ≡ Some c
asked _ _ arcs = refl
asked _ _ annotate = refl
asked _ _ compile = refl
asked _ _ check = refl
asked _ _ run_line = refl
asked _ _ traced_run = refl
asked _ _ (drill_line nests from n f) = numbered_written nests from n f
asked _ _ (drill_from nests from n f) = numbered_written nests from n f

-- ---- what is read is asked for

by_test : {P : Type 0} (t : Bool) (a b : Option Command) (c : Command)
    → (t ≡ true → a ≡ Some c → P) → (b ≡ Some c → P) → (if t then a else b) ≡ Some c → P
by_test true a b c found other is = found refl is
by_test false a b c found other is = other is

by_word : (word name : List ℕ) (words : List (List ℕ)) (a b : Option Command) (c : Command)
    → (a ≡ Some c → Asks (name ∷ words) c) → (b ≡ Some c → Asks (word ∷ words) c)
    → (if bytes_eq word name then a else b) ≡ Some c → Asks (word ∷ words) c
by_word word name words a b c found other is =
    by_test (bytes_eq word name) a b c
    (λ same e. subst (λ w. Asks (w ∷ words) c) (sym ((bytes_eq-Decides word name).0 same)) (found e)) other is

last_asks : (name : List ℕ) (d : Command) (words : List (List ℕ)) (c : Command)
    → Asks (name ∷ []) d → last d words ≡ Some c → Asks (name ∷ words) c
last_asks name d [] c line is = let e : d ≡ c = cc in subst (Asks (name ∷ [])) e line
last_asks name d (w ∷ words) c line is = absurd (cc)

trace_asks : (words : List (List ℕ)) (c : Command)
    → last (command.Run true) words ≡ Some c → Asks (codes "run" ∷ codes "--trace" ∷ words) c
trace_asks [] c is = let e : command.Run true ≡ c = cc in subst (Asks (codes "run" ∷ codes "--trace" ∷ [])) e traced_run
trace_asks (w ∷ words) c is = absurd (cc)

run_asks : (words : List (List ℕ)) (c : Command) → run words ≡ Some c → Asks (codes "run" ∷ words) c
run_asks [] c is = let e : command.Run false ≡ c = cc in subst (Asks (codes "run" ∷ [])) e run_line
run_asks (word ∷ words) c is =
    by_test (bytes_eq word (codes "--trace")) (last (command.Run true) words) None c
    (λ same e. subst (λ w. Asks (codes "run" ∷ w ∷ words) c) (sym ((bytes_eq-Decides word (codes "--trace")).0 same)) (trace_asks words c e))
    (λ e. absurd (cc)) is

record Numbers (a b : List ℕ) (c : Command) : Type 0 where
  nests : ℕ
  from : ℕ
  is_nests : IsNests nests
  is_start : IsStart from
  first : a ≡ decimal nests
  second : b ≡ decimal from
  command : command.Drill nests from ≡ c

numbers_read : (a b : List ℕ) (c : Command) → numbered a b ≡ Some c → Numbers a b c
numbers_read a b c is = go (number_of 10000 a) (number_of 4294967295 b) refl refl is
  where
    go : (n f : Option ℕ) → number_of 10000 a ≡ n → number_of 4294967295 b ≡ f → counted n f ≡ Some c → Numbers a b c
    go (Some (suc n)) (Some f) is_n is_f e =
        let written_n = number_read 10000 a (suc n) is_n in
        let written_f = number_read 4294967295 b f is_f in
        record {
          nests = suc n;
          from = f;
          is_nests = (omega arith, written_n.1);
          is_start = omega (arith, written_f.1);
          first = written_n.0;
          second = written_f.0;
          command = cc;
        }
    go (Some (suc n)) None is_n is_f e = absurd (cc)
    go (Some zero) f is_n is_f e = absurd (cc)
    go None f is_n is_f e = absurd (cc)

nests_first : (a b : List ℕ) (c : Command) → Numbers a b c
    → Asks (codes "drill" ∷ codes "--nests" ∷ a ∷ codes "--from" ∷ b ∷ []) c
nests_first a b c n =
    let line = drill_line n.nests n.from n.is_nests n.is_start in
    let texts : (codes "--nests" ∷ a ∷ codes "--from" ∷ b ∷ []) ≡ (codes "--nests" ∷ decimal n.nests ∷ codes "--from" ∷ decimal n.from ∷ []) =
    ap (λ w. codes "--nests" ∷ w ∷ codes "--from" ∷ b ∷ []) n.first
    ∙ ap (λ w. codes "--nests" ∷ decimal n.nests ∷ codes "--from" ∷ w ∷ []) n.second in
    subst (λ ws. Asks (codes "drill" ∷ ws) c) (sym texts) (subst (Asks _) n.command line)

from_first : (a b : List ℕ) (c : Command) → Numbers b a c
    → Asks (codes "drill" ∷ codes "--from" ∷ a ∷ codes "--nests" ∷ b ∷ []) c
from_first a b c n =
    let line = drill_from n.nests n.from n.is_nests n.is_start in
    let texts : (codes "--from" ∷ a ∷ codes "--nests" ∷ b ∷ []) ≡ (codes "--from" ∷ decimal n.from ∷ codes "--nests" ∷ decimal n.nests ∷ []) =
    ap (λ w. codes "--from" ∷ w ∷ codes "--nests" ∷ b ∷ []) n.second
    ∙ ap (λ w. codes "--from" ∷ decimal n.from ∷ codes "--nests" ∷ w ∷ []) n.first in
    subst (λ ws. Asks (codes "drill" ∷ ws) c) (sym texts) (subst (Asks _) n.command line)

named : (first a second b x y : List ℕ) (c : Command) → bytes_eq first x && bytes_eq second y ≡ true
    → Asks (codes "drill" ∷ x ∷ a ∷ y ∷ b ∷ []) c → Asks (codes "drill" ∷ first ∷ a ∷ second ∷ b ∷ []) c
named first a second b x y c same line = go (bytes_eq first x) (bytes_eq second y) refl refl same
  where
    go : (s t : Bool) → bytes_eq first x ≡ s → bytes_eq second y ≡ t → s && t ≡ true
        → Asks (codes "drill" ∷ first ∷ a ∷ second ∷ b ∷ []) c
    go true true same_x same_y both =
        subst (λ w. Asks (codes "drill" ∷ w ∷ a ∷ second ∷ b ∷ []) c) (sym ((bytes_eq-Decides first x).0 same_x))
        (subst (λ w. Asks (codes "drill" ∷ x ∷ a ∷ w ∷ b ∷ []) c) (sym ((bytes_eq-Decides second y).0 same_y)) line)
    go true false same_x same_y both = absurd (cc)
    go false t same_x same_y both = absurd (cc)

settings_ask : (first a second b : List ℕ) (c : Command) → settings first a second b ≡ Some c
    → Asks (codes "drill" ∷ first ∷ a ∷ second ∷ b ∷ []) c
settings_ask first a second b c is =
    by_test (bytes_eq first (codes "--nests") && bytes_eq second (codes "--from")) (numbered a b) _ c
    (λ same e. named first a second b (codes "--nests") (codes "--from") c same (nests_first a b c (numbers_read a b c e)))
    (λ e. by_test (bytes_eq first (codes "--from") && bytes_eq second (codes "--nests")) (numbered b a) None c
    (λ same f. named first a second b (codes "--from") (codes "--nests") c same (from_first a b c (numbers_read b a c f)))
    (λ f. absurd (cc)) e)
    is

drill_asks : (words : List (List ℕ)) (c : Command) → drill words ≡ Some c → Asks (codes "drill" ∷ words) c
drill_asks [] c is = absurd (cc)
drill_asks (first ∷ []) c is = absurd (cc)
drill_asks (first ∷ a ∷ []) c is = absurd (cc)
drill_asks (first ∷ a ∷ second ∷ []) c is = absurd (cc)
drill_asks (first ∷ a ∷ second ∷ b ∷ []) c is = settings_ask first a second b c is
drill_asks (first ∷ a ∷ second ∷ b ∷ w ∷ words) c is = absurd (cc)

pub asks : (words : List (List ℕ)) (c : Command) → command_of words ≡ Some c → Asks words c
asks [] c is = absurd (cc)
asks (word ∷ words) c is =
    by_word word (codes "arcs") words _ _ c (last_asks _ _ words c arcs)
    (by_word word (codes "annotate") words _ _ c (last_asks _ _ words c annotate)
    (by_word word (codes "compile") words _ _ c (last_asks _ _ words c compile)
    (by_word word (codes "check") words _ _ c (last_asks _ _ words c check)
    (by_word word (codes "run") words _ _ c (run_asks words c)
    (by_word word (codes "drill") words _ None c (drill_asks words c)
    (λ e. absurd (cc))))))) is

-- ---- with the program's name

pub answer : (all words : List (String Global)) (program : String Global) (r : Result Command Usage) (o : Option Command) (u : Usage)
    → all ≡ program ∷ words → r ≡ ok_or o u → o ≡ command_of (texts words)
    → (c : Command) → (r ≡ Ok c) ↔ IsCommandLine all c
answer all words program r o u split is read c =
    subst (λ ws. (r ≡ Ok c) ↔ IsCommandLine ws c) (sym split)
    (λ e. asks (texts words) c (some o refl e), λ asked_for. is ∙ ap (λ o. ok_or o u) (read ∙ asked (texts words) c asked_for))
  where
    some : (o' : Option Command) → o ≡ o' → r ≡ Ok c → command_of (texts words) ≡ Some c
    some (Some d) same e =
        let given : r ≡ Ok d = is ∙ ap (λ o. ok_or o u) same in
        let d_is : d ≡ c = cc in
        sym read ∙ same ∙ ap Some d_is
    some None same e =
        let given : r ≡ Err u = is ∙ ap (λ o. ok_or o u) same in
        absurd (cc)

pub no_answer : (P : Command → Type 0) (r : Result Command Usage) → ((c : Command) → (r ≡ Ok c) ↔ P c)
    → IsErr r ↔ ((c : Command) → P c → ⊥)
no_answer P (Ok d) exact = (λ err c asked_for. absurd (cc), λ none. absurd (none d ((exact d).0 refl)))
no_answer P (Err u) exact = (λ err c asked_for. err_is_ok c ((exact c).1 asked_for), λ none. refl)
  where
    err_is_ok : (c : Command) → Err u ≡ Ok c → ⊥
    err_is_ok c e = cc
