-- What the top call leaves with each status.
use Rattle.std.proofs.Common.{◌≡◌, ◌≢◌, ◌⊎◌, inl, inr, ◌∙◌, ap, sym, refl, subst, arith, append-nil, ℕ, ◌+◌, ◌≤◌, List, [], length, Option, Some, None, Result, Ok, Err, String, Global}
use Rattle.species_ast.specs.Limits.{most_bytes}
use Rattle.species_ast.specs.declared.tree.Unit.{Unit as Program}
use Rattle.species_io.specs.Told.{then_bytes, TookPart, AtEnd, GaveAtMost, GaveCount}
use Rattle.species_reading.specs.Answers.{Answers, IsResolved, IsUnread, IsOutOfScope}
use Rattle.species_reading.specs.Input.{in_input, IsOfProgram, WasRead, InputAnswers, IsUnlessStopped}
use Rattle.species_reading.specs.declared.refusal.ProgramRefusal.{ProgramRefusal}
use Rattle.species_reading.specs.declared.refusal.ProgramRefusal.TheVariants as program
use Rattle.species_reading.specs.declared.refusal.InputRefusal.{InputRefusal}
use Rattle.species_reading.specs.declared.refusal.InputRefusal.TheVariants as input
use Rattle.species_scope.specs.Answers.{finding_of}
use Rattle.species_cli.specs.declared.command.ProgramCommand.{ProgramCommand}
use Rattle.species_cli.specs.Commands.{IsLineOf, IsLawful}
use Rattle.species_cli.specs.Refusals.{refusal_line, too_long_line}
use Rattle.species_cli.specs.Texts.{IsProgram, IsTextOf}
use Rattle.species_cli.specs.Answer.{IsRefused, IsAnswer, Gave, sunk, IsAnswered, IsCutText, IsCutLine, IsSaid, usage_line}

-- ---- sources and sinks

gave_nothing : (told : Option (List ℕ)) → Gave [] told told
gave_nothing None = refl
gave_nothing (Some bytes) = refl

nothing_more : (told : Option (List ℕ)) → told ≡ then_bytes told []
nothing_more None = refl
nothing_more (Some bytes) = ap (λ (x : List ℕ). Some x) (sym (append-nil bytes))

abbrev pub err : InputRefusal → Result Program InputRefusal
err r = Err r

-- ---- words that are not lawful

pub gave_usage : (words : List (String Global)) (rose : Type 0) (told out old new : Option (List ℕ)) (result : ℕ) → (IsLawful words → ⊥)
    → (result ≡ 2) ⊎ (result ≡ 5) → (result ≢ 5 → new ≡ then_bytes old usage_line) → result ≢ 5
    → (bytes : List ℕ) × Gave bytes told told × IsAnswered words rose bytes result (sunk out old) (sunk out new)
gave_usage words rose told out old new result none (inl same) whole p =
    ([], gave_nothing told, record { text = []; line = usage_line; answer = subst (λ s. IsAnswer words rose [] s [] usage_line) (sym same) (IsAnswer.usage none); output = nothing_more out; notes = whole p })
gave_usage words rose told out old new result none (inr cut) whole p = absurd (p cut)

pub cut_usage : (words : List (String Global)) (rose : Type 0) (told old new : Option (List ℕ)) (P : List ℕ → Type 0) (fault same : Type 0) → (IsLawful words → ⊥) → TookPart old new usage_line → fault → same
    → (bytes : List ℕ) × Gave bytes told told × (P bytes ⊎ (IsCutLine words rose bytes old new × fault × same))
cut_usage words rose told old new P fault same none part rises kept =
    ([], gave_nothing told, inr (record { status = 2; text = []; line = usage_line; answer = IsAnswer.usage none; part = part }, rises, kept))

-- ---- what is said of an input that is not read

pub said : (refusal kind : InputRefusal) (status result : ℕ) (line : List ℕ) (old new : Option (List ℕ)) → refusal ≡ kind → IsSaid kind status line
    → (result ≡ status) ⊎ (result ≡ 5) → (result ≢ 5 → new ≡ then_bytes old line) → result ≢ 5
    → (x : List ℕ) × IsSaid refusal result x × (new ≡ then_bytes old x)
said refusal kind status result line old new is h (inl same) whole p =
    (line, subst (λ s. IsSaid refusal s line) (sym same) (subst (λ r. IsSaid r status line) (sym is) h), whole p)
said refusal kind status result line old new is h (inr cut) whole p = absurd (p cut)

pub partly_said : (refusal kind : InputRefusal) (status result : ℕ) (line : List ℕ) (old new : Option (List ℕ)) → refusal ≡ kind → IsSaid kind status line
    → (result ≡ 5 → TookPart old new line) → result ≡ 5 → (s : ℕ) × (x : List ℕ) × IsSaid refusal s x × TookPart old new x
partly_said refusal kind status result line old new is h part cut = (status, line, subst (λ r. IsSaid r status line) (sym is) h, part cut)

-- the bytes that came, where the input is not read
pub record Came (refusal : InputRefusal) (had left : Option (List ℕ)) : Type 0 where
  pub bytes : List ℕ
  pub gave : Gave bytes had left
  pub holds : InputAnswers bytes (Err refusal)

-- what is answered of a program that is not one
program_holds : (bytes : List ℕ) (r : ProgramRefusal) (answer : Result Program ProgramRefusal) → length bytes ≤ most_bytes → Answers bytes answer → err (input.Program r) ≡ in_input answer
    → InputAnswers bytes (Err (input.Program r))
program_holds bytes (program.Read r) (Ok u) short holds same = cc
program_holds bytes (program.Read r) (Err (program.Read s)) short holds same = let is : s ≡ r = cc in (short, subst (IsUnread bytes) is holds)
program_holds bytes (program.Read r) (Err (program.Scope s)) short holds same = cc
program_holds bytes (program.Read r) (Err program.Memory) short holds same = cc
program_holds bytes (program.Scope r) (Ok u) short holds same = cc
program_holds bytes (program.Scope r) (Err (program.Read s)) short holds same = cc
program_holds bytes (program.Scope r) (Err (program.Scope s)) short holds same = let is : s ≡ r = cc in (short, subst (λ x. IsOutOfScope bytes (finding_of x)) is holds)
program_holds bytes (program.Scope r) (Err program.Memory) short holds same = cc
program_holds bytes program.Memory (Ok u) short holds same = cc
program_holds bytes program.Memory (Err (program.Read s)) short holds same = cc
program_holds bytes program.Memory (Err (program.Scope s)) short holds same = cc
program_holds bytes program.Memory (Err program.Memory) short holds same = cc

pub came : (refusal : InputRefusal) (had left : Option (List ℕ)) → (IsOfProgram (err refusal) → WasRead had left (err refusal))
    → (err refusal ≡ err input.TooLong → GaveCount (most_bytes + 1) had left) → GaveAtMost (most_bytes + 1) had left → Came refusal had left
came (input.Program r) had left read long some =
    let w = read tt in record { bytes = w.bytes; gave = w.given; holds = program_holds w.bytes r w.answer w.short w.holds w.said }
came input.TooLong had left read long some =
    let more = long refl in record { bytes = more.0; gave = more.2; holds = omega (arith, more.1) }
came input.ReadFault had left read long some = record { bytes = some.0; gave = some.2; holds = tt }
came input.Memory had left read long some = record { bytes = some.0; gave = some.2; holds = tt }

refused_program : (bytes : List ℕ) (r : ProgramRefusal) (line : List ℕ) → InputAnswers bytes (Err (input.Program r)) → refusal_line r ≡ Some line → IsRefused bytes line
refused_program bytes (program.Read r) line h said = record { short = h.0; refusal = program.Read r; holds = h.1; said = said }
refused_program bytes (program.Scope r) line h said = record { short = h.0; refusal = program.Scope r; holds = h.1; said = said }
refused_program bytes program.Memory line h said = absurd h

-- what is said of these bytes is an answer to them
has_line : (words : List (String Global)) (rose : Type 0) (bytes : List ℕ) (refusal : InputRefusal) (status : ℕ) (line : List ℕ) → IsLawful words
    → (refusal ≡ input.ReadFault → rose) → InputAnswers bytes (Err refusal) → IsSaid refusal status line → IsAnswer words rose bytes status [] line
has_line words rose bytes refusal status line lawful fault h IsSaid.too_long = IsAnswer.too_long lawful h
has_line words rose bytes refusal status line lawful fault h IsSaid.read_fault = IsAnswer.read_fault lawful (fault refl)
has_line words rose bytes refusal status line lawful fault h (IsSaid.program r l said) = IsAnswer.refused lawful l (refused_program bytes r l h said)

pub gave_said : (words : List (String Global)) (rose : Type 0) (refusal : InputRefusal) (had left out old new : Option (List ℕ)) (status : ℕ) → IsLawful words
    → (refusal ≡ input.ReadFault → rose) → Came refusal had left → (line : List ℕ) × IsSaid refusal status line × (new ≡ then_bytes old line)
    → (bytes : List ℕ) × Gave bytes had left × IsAnswered words rose bytes status (sunk out old) (sunk out new)
gave_said words rose refusal had left out old new status lawful fault of (line, is, took) = (
  of.bytes,
  of.gave,
  record {
    text = [];
    line = line;
    answer = has_line words rose of.bytes refusal status line lawful fault of.holds is;
    output = nothing_more out;
    notes = took;
  },
)

pub cut_said : (words : List (String Global)) (rose : Type 0) (refusal : InputRefusal) (had left old new : Option (List ℕ)) (P : List ℕ → Type 0) (fall same : Type 0) → IsLawful words
    → (refusal ≡ input.ReadFault → rose) → Came refusal had left → (s : ℕ) × (x : List ℕ) × IsSaid refusal s x × TookPart old new x → fall → same
    → (bytes : List ℕ) × Gave bytes had left × (P bytes ⊎ (IsCutLine words rose bytes old new × fall × same))
cut_said words rose refusal had left old new P fall same lawful fault of (status, line, is, part) falls kept = (
  of.bytes,
  of.gave,
  inr (
    record {
      status = status;
      text = [];
      line = line;
      answer = has_line words rose of.bytes refusal status line lawful fault of.holds is;
      part = part;
    },
    falls,
    kept,
  ),
)

pub is_read_fault : (refusal : InputRefusal) (status : ℕ) (line : List ℕ) → status ≡ 4 → IsSaid refusal status line → refusal ≡ input.ReadFault
is_read_fault refusal status line h IsSaid.too_long = absurd (omega (arith, h))
is_read_fault refusal status line h IsSaid.read_fault = refl
is_read_fault refusal status line h (IsSaid.program r l said) = absurd (omega (arith, h))

-- with status 1 an input that is not too long was read to its end
pub read_to_end : (refusal : InputRefusal) (status : ℕ) (line : List ℕ) (had left old new : Option (List ℕ)) → status ≡ 1
    → (err refusal ≡ err input.TooLong → GaveCount (most_bytes + 1) had left) → (IsOfProgram (err refusal) → WasRead had left (err refusal))
    → IsSaid refusal status line → new ≡ then_bytes old line → AtEnd left ⊎ (GaveCount (most_bytes + 1) had left × (new ≡ then_bytes old too_long_line))
read_to_end refusal status line had left old new h long read IsSaid.too_long took = inr (long refl, took)
read_to_end refusal status line had left old new h long read IsSaid.read_fault took = absurd (omega (arith, h))
read_to_end refusal status line had left old new h long read (IsSaid.program r l said) took = inl (read tt).whole

-- with status 5 an input that is not too long was read to its end, unless a read failed
pub cut_at_end : (refusal : InputRefusal) (result : ℕ) (had left : Option (List ℕ)) (rose : Type 0) → result ≡ 5
    → (err refusal ≡ err input.TooLong → GaveCount (most_bytes + 1) had left) → (IsOfProgram (err refusal) → WasRead had left (err refusal))
    → (refusal ≡ input.ReadFault → rose) → (refusal ≡ input.Memory → result ≡ 6) → AtEnd left ⊎ (GaveCount (most_bytes + 1) had left ⊎ rose)
cut_at_end (input.Program r) result had left rose h long read fault memory = inl (read tt).whole
cut_at_end input.TooLong result had left rose h long read fault memory = inr (inl (long refl))
cut_at_end input.ReadFault result had left rose h long read fault memory = inr (inr (fault refl))
cut_at_end input.Memory result had left rose h long read fault memory = let none = memory refl in absurd (omega (arith, h, none))

-- ---- a program that is read

-- its bytes, and what they become
pub record CameAs (u : Program) (had left : Option (List ℕ)) : Type 0 where
  pub bytes : List ℕ
  pub gave : Gave bytes had left
  pub is : IsProgram bytes u

pub came_as : (u : Program) (had left : Option (List ℕ)) → WasRead had left (Ok u) → CameAs u had left
came_as u had left w = record { bytes = w.bytes; gave = w.given; is = record { short = w.short; is_read = of w.answer w.holds w.said } }
  where
    of : (answer : Result Program ProgramRefusal) → Answers w.bytes answer → Ok u ≡ in_input answer → IsResolved w.bytes (Ok u)
    of (Ok v) holds same = let is : v ≡ u = cc in subst (λ x. IsResolved w.bytes (Ok x)) is holds
    of (Err (program.Read r)) holds same = cc
    of (Err (program.Scope r)) holds same = cc
    of (Err program.Memory) holds same = cc

-- what the command writes of a program, whatever its bytes are
abbrev pub IsTextFor : ProgramCommand → Program → List ℕ → Type 0
IsTextFor c u text = (bytes : List ℕ) → IsProgram bytes u → IsTextOf c u text

pub gave_text : (words : List (String Global)) (rose : Type 0) (c : ProgramCommand) (u : Program) (text written : List ℕ) (had left old new notes : Option (List ℕ)) → IsLineOf words c
    → IsTextFor c u text → written ≡ text → CameAs u had left → new ≡ then_bytes old written
    → (bytes : List ℕ) × Gave bytes had left × IsAnswered words rose bytes 0 (sunk old notes) (sunk new notes)
gave_text words rose c u text written had left old new notes line is same of took = (
  of.bytes,
  of.gave,
  record {
    text = text;
    line = [];
    answer = IsAnswer.answered c line u text of.is (is of.bytes of.is);
    output = took ∙ ap (λ t. then_bytes old t) same;
    notes = nothing_more notes;
  },
)

pub cut_text : (words : List (String Global)) (rose : Type 0) (c : ProgramCommand) (u : Program) (text written : List ℕ) (had left old new : Option (List ℕ)) (P : List ℕ → Type 0) (fall same : Type 0) → IsLineOf words c
    → IsTextFor c u text → written ≡ text → CameAs u had left → TookPart old new written → fall → same
    → (bytes : List ℕ) × Gave bytes had left × ((IsCutText words rose bytes old new × fall × same) ⊎ P bytes)
cut_text words rose c u text written had left old new P fall same line is equal of part falls kept = (
  of.bytes,
  of.gave,
  inl (
    record {
      status = 0;
      text = text;
      line = [];
      answer = IsAnswer.answered c line u text of.is (is of.bytes of.is);
      part = subst (TookPart old new) equal part;
    },
    falls,
    kept,
  ),
)

-- ---- the answer is the defined one

-- words that are not lawful have no other
pub unlawful_status : (words : List (String Global)) (bytes : List ℕ) (status result : ℕ) (text line : List ℕ) (fell : Type 0) → (IsLawful words → ⊥) → IsAnswer words ⊥ bytes status text line
    → (result ≡ 2) ⊎ (result ≡ 5) → (result ≡ 5 → fell) → (fell → ⊥) → (result ≡ status) ⊎ (result ≡ 6)
unlawful_status words bytes status result text line fell none (IsAnswer.usage unlawful) (inl same) cut p = inl same
unlawful_status words bytes status result text line fell none (IsAnswer.usage unlawful) (inr five) cut p = absurd (p (cut five))
unlawful_status words bytes status result text line fell none (IsAnswer.read_fault lawful rose) h cut p = absurd rose
unlawful_status words bytes status result text line fell none (IsAnswer.too_long lawful long) h cut p = absurd (none lawful)
unlawful_status words bytes status result text line fell none (IsAnswer.refused lawful l is) h cut p = absurd (none lawful)
unlawful_status words bytes status result text line fell none (IsAnswer.answered c lawful u t is holds) h cut p = absurd (none (c, lawful))

same_unit : (u v : Program) → IsUnlessStopped (Ok u) (Ok v) → u ≡ v
same_unit u v (inl same) = cc
same_unit u v (inr (inl fault)) = cc
same_unit u v (inr (inr memory)) = cc

not_refused : (u : Program) (r : ProgramRefusal) (line : List ℕ) → refusal_line r ≡ Some line → IsUnlessStopped (Ok u) (Err r) → ⊥
not_refused u (program.Read r) line said (inl same) = cc
not_refused u (program.Read r) line said (inr (inl fault)) = cc
not_refused u (program.Read r) line said (inr (inr memory)) = cc
not_refused u (program.Scope r) line said (inl same) = cc
not_refused u (program.Scope r) line said (inr (inl fault)) = cc
not_refused u (program.Scope r) line said (inr (inr memory)) = cc
not_refused u program.Memory line said h = cc

-- that a result is what is read of these bytes
abbrev pub IsReadAs : Result Program InputRefusal → List ℕ → Type 0
IsReadAs result bytes = (answer : Result Program ProgramRefusal) → length bytes ≤ most_bytes → Answers bytes answer → IsUnlessStopped result answer

-- a program that is read has the answer of its text
pub program_status : (words : List (String Global)) (bytes : List ℕ) (status : ℕ) (text line : List ℕ) (u : Program) → IsLawful words → IsAnswer words ⊥ bytes status text line
    → InputAnswers bytes (Ok u) → IsReadAs (Ok u) bytes → 0 ≡ status
program_status words bytes status text line u lawful (IsAnswer.usage unlawful) h exact = absurd (unlawful lawful)
program_status words bytes status text line u lawful (IsAnswer.read_fault l rose) h exact = absurd rose
program_status words bytes status text line u lawful (IsAnswer.too_long l long) h exact = absurd (omega (arith, long, h.0))
program_status words bytes status text line u lawful (IsAnswer.refused l x is) h exact = absurd (not_refused u is.refusal x is.said (exact (Err is.refusal) is.short is.holds))
program_status words bytes status text line u lawful (IsAnswer.answered c l v t is holds) h exact = refl

-- an input that is a program is refused for want of memory alone
pub wanting : (bytes : List ℕ) (refusal : InputRefusal) (v : Program) (rose : Type 0) → IsReadAs (Err refusal) bytes → IsProgram bytes v
    → (refusal ≡ input.ReadFault → rose) → (rose → ⊥) → refusal ≡ input.Memory
wanting bytes refusal v rose exact is fault none = of (exact (Ok v) is.short is.is_read)
  where
    of : IsUnlessStopped (Err refusal) (Ok v) → refusal ≡ input.Memory
    of (inl same) = cc
    of (inr (inl read)) = let failed : refusal ≡ input.ReadFault = cc in absurd (none (fault failed))
    of (inr (inr memory)) = cc

-- of the statuses of an input that is not read, where no count of faults rose
refused_status : (result : ℕ) (refusal : InputRefusal) (rose fell : Type 0) (old new : Option (List ℕ))
    → (result ≡ 1) ⊎ ((result ≡ 4) ⊎ ((result ≡ 5) ⊎ (result ≡ 6)))
    → (result ≢ 5 → result ≢ 6 → (line : List ℕ) × IsSaid refusal result line × (new ≡ then_bytes old line))
    → (refusal ≡ input.ReadFault → rose) → (result ≡ 5 → fell) → (rose → ⊥) → (fell → ⊥) → (result ≡ 1) ⊎ (result ≡ 6)
refused_status result refusal rose fell old new (inl one) said fault cut p q = inl one
refused_status result refusal rose fell old new (inr (inl four)) said fault cut p q =
    let apart : result ≢ 5 = λ h. absurd (omega (arith, four, h)) in
    let other : result ≢ 6 = λ h. absurd (omega (arith, four, h)) in
    let line = said apart other in
    absurd (p (fault (is_read_fault refusal result line.0 four line.1)))
refused_status result refusal rose fell old new (inr (inr (inl five))) said fault cut p q = absurd (q (cut five))
refused_status result refusal rose fell old new (inr (inr (inr six))) said fault cut p q = inr six

pub unread_status : (words : List (String Global)) (bytes : List ℕ) (status result : ℕ) (text line : List ℕ) (refusal : InputRefusal) (rose fell : Type 0) (old new : Option (List ℕ)) → IsLawful words
    → IsAnswer words ⊥ bytes status text line → IsReadAs (Err refusal) bytes
    → (result ≡ 1) ⊎ ((result ≡ 4) ⊎ ((result ≡ 5) ⊎ (result ≡ 6)))
    → (result ≢ 5 → result ≢ 6 → (line : List ℕ) × IsSaid refusal result line × (new ≡ then_bytes old line))
    → (refusal ≡ input.Memory → result ≡ 6) → (refusal ≡ input.ReadFault → rose) → (result ≡ 5 → fell) → (rose → ⊥) → (fell → ⊥) → (result ≡ status) ⊎ (result ≡ 6)
unread_status words bytes status result text line refusal rose fell old new lawful (IsAnswer.usage unlawful) exact h said memory fault cut p q = absurd (unlawful lawful)
unread_status words bytes status result text line refusal rose fell old new lawful (IsAnswer.read_fault l came) exact h said memory fault cut p q = absurd came
unread_status words bytes status result text line refusal rose fell old new lawful (IsAnswer.too_long l long) exact h said memory fault cut p q =
    refused_status result refusal rose fell old new h said fault cut p q
unread_status words bytes status result text line refusal rose fell old new lawful (IsAnswer.refused l x is) exact h said memory fault cut p q =
    refused_status result refusal rose fell old new h said fault cut p q
unread_status words bytes status result text line refusal rose fell old new lawful (IsAnswer.answered c l v t is holds) exact h said memory fault cut p q =
    inr (memory (wanting bytes refusal v rose exact is fault p))
