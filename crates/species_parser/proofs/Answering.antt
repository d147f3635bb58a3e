-- What is answered of a text.
use Rattle.std.proofs.Common.{◌≡◌, ◌∙◌, ap, sym, refl, subst, ℕ, suc, List, length, Option, Some, None, Result, Ok, Err, ◌⊎◌, inl, inr, arith}
use Rattle.species_grammar.specs.Reader.{Answer}
use Rattle.species_grammar.specs.Whole.{whole}
use Rattle.species_ast.specs.Token.{Token}
use Rattle.species_ast.specs.Text.Stream.{stream_of, grammar_tokens}
use Rattle.species_ast.specs.Text.Load.{load_refusal}
use Rattle.species_ast.specs.Reading.{HasTokens, IsAccepted, IsRefusedByText, IsRefusedByLoad, IsRefusedByGrammar, Verdict, IsVerdict}
use Rattle.species_ast.specs.declared.raw.RawUnit.{RawUnit}
use Rattle.species_ast.specs.declared.token.LexRefusal.{LexRefusal}
use Rattle.species_ast.proofs.Cutting.{cuts_one_way}
use Rattle.species_parser.specs.Reading.{unit_at}
use Rattle.species_parser.specs.Listed.{GivesTokens}
use Rattle.species_parser.specs.Parsing.{unit}
use Rattle.species_parser.specs.Parsed.{Answers}
use Rattle.species_parser.specs.Finished.{GivesWhole, answer_of}
use Rattle.species_parser.specs.Tabled.{as_parsed}
use Rattle.species_lexer.specs.Entries.{Table}
use Rattle.species_lexer.specs.Cut.{IsTableOf}
use Rattle.species_parser.specs.declared.refusal.TableRefusal.{TableRefusal}
use Rattle.species_parser.specs.declared.refusal.TableRefusal.TheVariants as table
use Rattle.species_parser.specs.declared.refusal.ReadRefusal.{ReadRefusal}
use Rattle.species_parser.specs.declared.refusal.ReadRefusal.TheVariants.{Lex, Load, Syntax, Memory}
use Rattle.species_parser.proofs.Forms.{unit_whole}
use Rattle.species_parser.proofs.Whole.{unit_decides, stuck_errs}
use Rattle.species_parser.proofs.Reading.{reads_one_way}

-- what is found of the tokens of a text, and of their load
pub record Listed (text : List ℕ) (ts : List Token) : Type 0 where
  pub refusal : (stream_of text).refusal ≡ None
  pub tokens : ts ≡ grammar_tokens (stream_of text).tokens

has_tokens : (text : List ℕ) (ts : List Token) → Listed text ts → HasTokens text ts
has_tokens text ts l = (stream_of text, cuts_one_way.at_least_one text, l.refusal, l.tokens)

pub answers_err : (text : List ℕ) (r : ReadRefusal) → GivesTokens (Err r) (stream_of text) → Answers text (Err r)
answers_err text (Lex refusal) h = (stream_of text, cuts_one_way.at_least_one text, h)
answers_err text (Load place) h = absurd h
answers_err text (Syntax place) h = absurd h
answers_err text Memory h = tt

pub answers_load : (text : List ℕ) (ts : List Token) (o : Option ℕ) (place : ℕ) → Listed text ts → o ≡ load_refusal ts → o ≡ Some place → IsRefusedByLoad text place
answers_load text ts o place l e f = (ts, has_tokens text ts l, sym e ∙ f)

answers_reader : (text : List ℕ) (ts : List Token) → HasTokens text ts → load_refusal ts ≡ None → (a : Answer Token RawUnit) → whole (unit_at (suc (length ts))) ts ≡ a
    → Answers text (as_parsed (answer_of (length text) a))
answers_reader text ts t l (Answer.read u rest) e = ((ts, t, l), (ts, t, unit_decides.sound (suc (length ts)) ts u rest e))
answers_reader text ts t l (Answer.stuck back) e = ((ts, t, l), ts, back, t, stuck_errs (suc (length ts)) ts back (omega arith) e, refl)
answers_reader text ts t l Answer.shallow e = tt

-- an answer that was given is so, if what the reader says is
answers_given : (text : List ℕ) (a : Answer Token RawUnit) → Answers text (as_parsed (answer_of (length text) a)) → (r : Result RawUnit TableRefusal) → GivesWhole (length text) r a
    → Answers text (as_parsed r)
answers_given text a k (Ok u) h = subst (λ z. Answers text (as_parsed z)) h k
answers_given text a k (Err (table.Load place)) h = subst (λ z. Answers text (as_parsed z)) h k
answers_given text a k (Err (table.Syntax place)) h = subst (λ z. Answers text (as_parsed z)) h k
answers_given text a k (Err table.Memory) h = tt

pub answers_whole : (text : List ℕ) (ts : List Token) (o : Option ℕ) → Listed text ts → o ≡ load_refusal ts → o ≡ None
    → (r : Result RawUnit TableRefusal) → GivesWhole (length text) r (whole unit ts) → Answers text (as_parsed r)
answers_whole text ts o l e f r h =
    answers_given text (whole unit ts) (answers_reader text ts (has_tokens text ts l) (sym e ∙ f) (whole unit ts) (sym (unit_whole ts))) r h

-- the tokens of a table are those of its text
listed : (t : Table) (text : List ℕ) (ts : List Token) → IsTableOf t text → ts ≡ grammar_tokens t.tokens → Listed text ts
listed t text ts is e = record { refusal = ap (λ s. s.refusal) is.0; tokens = e ∙ ap (λ s. grammar_tokens s.tokens) (sym is.0) }

pub table_load : (t : Table) (o : Option ℕ) (place : ℕ) → o ≡ load_refusal (grammar_tokens t.tokens) → o ≡ Some place
    → (text : List ℕ) → IsTableOf t text → IsRefusedByLoad text place
table_load t o place e f text is = answers_load text (grammar_tokens t.tokens) o place (listed t text (grammar_tokens t.tokens) is refl) e f

pub table_whole : (t : Table) (o : Option ℕ) → o ≡ load_refusal (grammar_tokens t.tokens) → o ≡ None
    → (r : Result RawUnit TableRefusal) → GivesWhole t.length r (whole unit (grammar_tokens t.tokens)) → (text : List ℕ) → IsTableOf t text → Answers text (as_parsed r)
table_whole t o e f r h text is =
    answers_whole text (grammar_tokens t.tokens) o (listed t text (grammar_tokens t.tokens) is refl) e f r
    (subst (λ n. GivesWhole n r (whole unit (grammar_tokens t.tokens))) is.1 h)

told : Verdict → Result RawUnit ReadRefusal
told (Verdict.accepted u) = Ok u
told (Verdict.refused_text r) = Err (Lex r)
told (Verdict.refused_load place) = Err (Load place)
told (Verdict.refused_syntax place) = Err (Syntax place)

one_answer : (text : List ℕ) (r : Result RawUnit ReadRefusal) → Answers text r → (v : Verdict) → IsVerdict text v → (r ≡ told v) ⊎ (r ≡ Err Memory)
unfolding told
one_answer text (Ok u) a v h = inl (ap told (reads_one_way.at_most_one text (Verdict.accepted u) v a h))
one_answer text (Err (Lex q)) a v h = inl (ap told (reads_one_way.at_most_one text (Verdict.refused_text q) v a h))
one_answer text (Err (Load place)) a v h = inl (ap told (reads_one_way.at_most_one text (Verdict.refused_load place) v a h))
one_answer text (Err (Syntax place)) a v h = inl (ap told (reads_one_way.at_most_one text (Verdict.refused_syntax place) v a h))
one_answer text (Err Memory) a v h = inr refl

pub accepted_answer : (text : List ℕ) (r : Result RawUnit ReadRefusal) → Answers text r → (u : RawUnit) → IsAccepted text u → (r ≡ Ok u) ⊎ (r ≡ Err Memory)
unfolding told
accepted_answer text r a u h = one_answer text r a (Verdict.accepted u) h

pub text_answer : (text : List ℕ) (r : Result RawUnit ReadRefusal) → Answers text r → (q : LexRefusal) → IsRefusedByText text q → (r ≡ Err (Lex q)) ⊎ (r ≡ Err Memory)
unfolding told
text_answer text r a q h = one_answer text r a (Verdict.refused_text q) h

pub load_answer : (text : List ℕ) (r : Result RawUnit ReadRefusal) → Answers text r → (place : ℕ) → IsRefusedByLoad text place → (r ≡ Err (Load place)) ⊎ (r ≡ Err Memory)
unfolding told
load_answer text r a place h = one_answer text r a (Verdict.refused_load place) h

pub syntax_answer : (text : List ℕ) (r : Result RawUnit ReadRefusal) → Answers text r → (place : ℕ) → IsRefusedByGrammar text place → (r ≡ Err (Syntax place)) ⊎ (r ≡ Err Memory)
unfolding told
syntax_answer text r a place h = one_answer text r a (Verdict.refused_syntax place) h
