-- What is answered of a source that tells its bytes.
use Rattle.std.proofs.Common.{◌≡◌, ◌∙◌, ap, sym, refl, subst, arith, ℕ, ◌≤◌, ◌<◌, List, [], ◌++◌, length, Option, Some, None, Result, Ok, Err, ◌⊎◌, inl, inr, append-nil}
use Rattle.std.specs.Prelude.{IfOk}
use Rattle.species_ast.specs.Limits.{most_bytes}
use Rattle.species_ast.specs.declared.tree.Unit.{Unit as Program}
use Rattle.species_io.specs.Piecewise.{HandedOn}
use Rattle.species_io.specs.Told.{before, AtEnd, IsLonger}
use Rattle.species_lexer.specs.Fed.{Fed, IsFed}
use Rattle.species_reading.specs.declared.refusal.ProgramRefusal.{ProgramRefusal}
use Rattle.species_reading.specs.declared.refusal.ProgramRefusal.TheVariants.{Read, Scope, Memory}
use Rattle.species_reading.specs.declared.refusal.InputRefusal.{InputRefusal}
use Rattle.species_reading.specs.declared.refusal.InputRefusal.TheVariants as input
use Rattle.species_reading.specs.Answers.{Answers, IsUnlessMemory}
use Rattle.species_reading.specs.Input.{in_input, IsFedText, WasRead, InputAnswers, IsUnlessStopped}
use Rattle.species_reading.proofs.AnswerLemmas.{one_answer}

same_bytes : (had left : Option (List ℕ)) (front bytes : List ℕ) → had ≡ before front left → AtEnd left → had ≡ Some bytes → front ≡ bytes
same_bytes had None front bytes g e h = let wrong : Path (Option (List ℕ)) None (Some bytes) = sym g ∙ h in absurd cc
same_bytes had (Some rest) front bytes g e h =
    let same : Path (Option (List ℕ)) (Some (front ++ rest)) (Some bytes) = sym g ∙ h in
    sym (append-nil front) ∙ ap (λ r. front ++ r) (sym e) ∙ ap (λ (o : Option (List ℕ)). elim o [ Some x ↦ x | None ↦ bytes ]) same

pub answers_told : (had left : Option (List ℕ)) (result : Result Program InputRefusal) → WasRead had left result → (bytes : List ℕ) → had ≡ Some bytes → InputAnswers bytes result
answers_told had left result w bytes h =
    let same = same_bytes had left w.bytes bytes w.given w.whole h in
    subst (InputAnswers bytes) (sym w.said) (go w.answer (subst (λ b. length b ≤ most_bytes) same w.short) (subst (λ b. Answers b w.answer) same w.holds))
  where
    go : (a : Result Program ProgramRefusal) → length bytes ≤ most_bytes → Answers bytes a → InputAnswers bytes (in_input a)
    go (Ok unit) s a = (s, a)
    go (Err (Read r)) s a = (s, a)
    go (Err (Scope r)) s a = (s, a)
    go (Err Memory) s a = tt

pub exact_told : (had left : Option (List ℕ)) (result : Result Program InputRefusal) → WasRead had left result
    → (bytes : List ℕ) (answer : Result Program ProgramRefusal) → had ≡ Some bytes → Answers bytes answer → IsUnlessStopped result answer
exact_told had left result w bytes answer h k =
    let same = same_bytes had left w.bytes bytes w.given w.whole h in
    go w.answer answer w.said (one_answer bytes w.answer answer (subst (λ b. Answers b w.answer) same w.holds) k)
  where
    go : (a b : Result Program ProgramRefusal) → result ≡ in_input a → IsUnlessMemory a b → IsUnlessStopped result b
    go a (Ok unit) e (inl f) = inl (e ∙ ap in_input f)
    go a (Ok unit) e (inr f) = inr (inr (e ∙ ap in_input f))
    go a (Err (Read r)) e (inl f) = inl (e ∙ ap in_input f)
    go a (Err (Read r)) e (inr f) = inr (inr (e ∙ ap in_input f))
    go a (Err (Scope r)) e (inl f) = inl (e ∙ ap in_input f)
    go a (Err (Scope r)) e (inr f) = inr (inr (e ∙ ap in_input f))
    go a (Err Memory) e f = tt

-- what was handed on to a cutter of which nothing had come
pub fed_text : (fed : Fed) (room after : ℕ) (had left : Option (List ℕ)) → HandedOn (IsFed fed) most_bytes room after [] had left → IsFedText fed
fed_text fed room after had left (front, g, s, m, r) = (front, m, s)

pub was_read : (fed : Fed) (room after : ℕ) (had left : Option (List ℕ)) (answer : Result Program ProgramRefusal) (result : Result Program InputRefusal)
    → HandedOn (IsFed fed) most_bytes room after [] had left → AtEnd left → ((bytes : List ℕ) → IsFed fed bytes → Answers bytes answer) → result ≡ in_input answer
    → WasRead had left result
was_read fed room after had left answer result (front, g, s, m, r) end holds said = record {
  bytes = front;
  given = g;
  whole = end;
  short = s;
  answer = answer;
  holds = holds front m;
  said = said;
}
