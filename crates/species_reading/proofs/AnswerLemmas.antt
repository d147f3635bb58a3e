-- A text has one answer.
use Rattle.std.proofs.Common.{◌≡◌, ◌∙◌, ap, sym, refl, ℕ, List, Option, Some, None, Result, Ok, Err, ◌⊎◌, inl, inr}
use Rattle.species_ast.specs.Reading.{IsAccepted, Verdict, IsVerdict}
use Rattle.species_ast.specs.declared.raw.RawUnit.{RawUnit}
use Rattle.species_ast.specs.declared.tree.Unit.{Unit as Program}
use Rattle.species_ast.specs.Scope.Refusals.{Finding}
use Rattle.species_ast.specs.Scope.Conditions.{resolved}
use Rattle.species_parser.specs.declared.refusal.ReadRefusal.{ReadRefusal}
use Rattle.species_parser.specs.declared.refusal.ReadRefusal.TheVariants as read
use Rattle.species_parser.proofs.Reading.{reads_one_way}
use Rattle.species_scope.specs.declared.refusal.ScopeRefusal.{ScopeRefusal}
use Rattle.species_scope.specs.Answers.{finding_of}
use Rattle.species_scope.proofs.AnswerLaws.{one_refusal}
use Rattle.species_reading.specs.declared.refusal.ProgramRefusal.{ProgramRefusal}
use Rattle.species_reading.specs.declared.refusal.ProgramRefusal.TheVariants.{Read, Scope, Memory}
use Rattle.species_reading.specs.Answers.{IsUnread, IsResolved, IsOutOfScope, Answers, IsUnlessMemory}

-- ---- a text is refused in one way

-- what is said of a text that is refused
abbrev said : ReadRefusal → Verdict
said (read.Lex r) = Verdict.refused_text r
said (read.Load place) = Verdict.refused_load place
said (read.Syntax place) = Verdict.refused_syntax place
said read.Memory = Verdict.refused_load 0

said_of : (text : List ℕ) (r : ReadRefusal) → IsUnread text r → IsVerdict text (said r)
said_of text (read.Lex r) h = h
said_of text (read.Load place) h = h
said_of text (read.Syntax place) h = h
said_of text read.Memory h = absurd h

abbrev refusal_of_verdict : Verdict → ReadRefusal
refusal_of_verdict (Verdict.refused_text r) = read.Lex r
refusal_of_verdict (Verdict.refused_load place) = read.Load place
refusal_of_verdict (Verdict.refused_syntax place) = read.Syntax place
refusal_of_verdict (Verdict.accepted u) = read.Memory

unsaid : (text : List ℕ) (r : ReadRefusal) → IsUnread text r → refusal_of_verdict (said r) ≡ r
unsaid text (read.Lex r) h = refl
unsaid text (read.Load place) h = refl
unsaid text (read.Syntax place) h = refl
unsaid text read.Memory h = absurd h

-- a text that is refused has no tree
no_tree : (text : List ℕ) (r : ReadRefusal) (u : RawUnit) → IsUnread text r → IsAccepted text u → ⊥
no_tree text (read.Lex r) u h a = let wrong = reads_one_way.at_most_one text (Verdict.refused_text r) (Verdict.accepted u) h a in cc
no_tree text (read.Load place) u h a = let wrong = reads_one_way.at_most_one text (Verdict.refused_load place) (Verdict.accepted u) h a in cc
no_tree text (read.Syntax place) u h a = let wrong = reads_one_way.at_most_one text (Verdict.refused_syntax place) (Verdict.accepted u) h a in cc
no_tree text read.Memory u h a = absurd h

one_read_refusal : (text : List ℕ) (r q : ReadRefusal) → IsUnread text r → IsUnread text q → r ≡ q
one_read_refusal text r q h k =
    sym (unsaid text r h) ∙ ap refusal_of_verdict (reads_one_way.at_most_one text (said r) (said q) (said_of text r h) (said_of text q k)) ∙ unsaid text q k

-- ---- a tree has one answer

one_resolution : (text : List ℕ) (p q : Result Program Finding) → IsResolved text p → IsResolved text q → p ≡ q
one_resolution text p q (u, a, h) (w, b, k) = sym h ∙ ap resolved (reads_one_way.one_tree text u w a.1 b.1) ∙ k

no_resolution : (text : List ℕ) (r : ReadRefusal) (p : Result Program Finding) → IsUnread text r → IsResolved text p → ⊥
no_resolution text r p h (u, a, k) = no_tree text r u h a

-- the finding of a refusal of names, forms or limits
abbrev Found : List ℕ → ScopeRefusal → Type 0
Found text r = (f : Finding) × (finding_of r ≡ Some f) × IsResolved text (Err f)

found : (text : List ℕ) (r : ScopeRefusal) → IsOutOfScope text (finding_of r) → Found text r
found text r h = go (finding_of r) refl h
  where
    go : (o : Option Finding) → finding_of r ≡ o → IsOutOfScope text o → Found text r
    go (Some f) e k = (f, e, k)
    go None e k = absurd k

not_both : (u : Program) (f : Finding) → Path (Result Program Finding) (Ok u) (Err f) → ⊥
not_both u f h = cc

same_unit : (u v : Program) → Path (Result Program Finding) (Ok u) (Ok v) → u ≡ v
same_unit u v h = ap (λ (r : Result Program Finding). elim r [ Ok x ↦ x | Err y ↦ u ]) h

same_finding : (f g : Finding) → Path (Result Program Finding) (Err f) (Err g) → f ≡ g
same_finding f g h = ap (λ (r : Result Program Finding). elim r [ Ok x ↦ f | Err y ↦ y ]) h

-- ---- the answer

pub one_answer : (text : List ℕ) (a b : Result Program ProgramRefusal) → Answers text a → Answers text b → IsUnlessMemory a b
one_answer text (Ok v) (Ok w) h k = inl (ap Ok (same_unit v w (one_resolution text (Ok v) (Ok w) h k)))
one_answer text (Ok v) (Err (Read q)) h k = absurd (no_resolution text q (Ok v) k h)
one_answer text (Ok v) (Err (Scope q)) h k = let (f, e, m) = found text q k in absurd (not_both v f (one_resolution text (Ok v) (Err f) h m))
one_answer text (Ok v) (Err Memory) h k = tt
one_answer text (Err (Read r)) (Ok w) h k = absurd (no_resolution text r (Ok w) h k)
one_answer text (Err (Read r)) (Err (Read q)) h k = inl (ap (λ z. Err (Read z)) (one_read_refusal text r q h k))
one_answer text (Err (Read r)) (Err (Scope q)) h k = let (f, e, m) = found text q k in absurd (no_resolution text r (Err f) h m)
one_answer text (Err (Read r)) (Err Memory) h k = tt
one_answer text (Err (Scope r)) (Ok w) h k = let (f, e, m) = found text r h in absurd (not_both w f (one_resolution text (Ok w) (Err f) k m))
one_answer text (Err (Scope r)) (Err (Read q)) h k = let (f, e, m) = found text r h in absurd (no_resolution text q (Err f) k m)
one_answer text (Err (Scope r)) (Err (Scope q)) h k =
    let (f, e, m) = found text r h in
    let (g, d, n) = found text q k in
    inl (ap (λ z. Err (Scope z)) (one_refusal r q (e ∙ ap Some (same_finding f g (one_resolution text (Err f) (Err g) m n)) ∙ sym d)))
one_answer text (Err (Scope r)) (Err Memory) h k = tt
one_answer text (Err Memory) (Ok w) h k = inr refl
one_answer text (Err Memory) (Err (Read q)) h k = inr refl
one_answer text (Err Memory) (Err (Scope q)) h k = inr refl
one_answer text (Err Memory) (Err Memory) h k = tt
