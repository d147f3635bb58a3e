-- Reading a whole list of tokens.
use Rattle.std.specs.Prelude.{◌≡◌, ℕ, ◌<◌, List, [], ◌∷◌, ◌++◌, length}
use Rattle.species_grammar.specs.Reader.{Answer, Reader, ◌>>=◌}
use Rattle.species_grammar.specs.Lawful.{Spelled}

abbrev pub ended : {Tok A : Type 0} → A → Reader Tok A
ended x [] = Answer.read x []
ended x (t ∷ ts) = Answer.stuck (t ∷ ts)

-- what r reads, and no token after it
abbrev pub whole : {Tok A : Type 0} → Reader Tok A → Reader Tok A
whole r ts = r ts >>= ended

-- Some list that spells a value begins with these tokens.
abbrev pub Viable : {Tok A : Type 0} → Spelled Tok A → List Tok → Type 0
Viable {Tok} {A} v ts = (more : List Tok) × (x : A) × v x (ts ++ more)

-- The tokens from `back` on are those before which reading has to stop: the tokens before them are viable, and with the
-- first of them they are not.
pub record StopsBefore {Tok A : Type 0} (v : Spelled Tok A) (ts back : List Tok) : Type 0 where
  pub front : List Tok
  pub is : ts ≡ front ++ back
  pub viable : Viable v front
  pub dead : (t : Tok) (rest : List Tok) → back ≡ t ∷ rest → Viable v (front ++ t ∷ []) → ⊥

-- What the readers of every depth promise of whole lists: they decide the grammar v.
pub record DecidesGrammar {Tok A : Type 0} (at : ℕ → Reader Tok A) (v : Spelled Tok A) : Type 0 where
  pub sound : (n : ℕ) (ts : List Tok) (x : A) (rest : List Tok) → whole (at n) ts ≡ Answer.read x rest → v x ts
  pub complete : (n : ℕ) (ts : List Tok) (x : A) → v x ts → length ts < n → whole (at n) ts ≡ Answer.read x []
  pub unique : (ts : List Tok) (x y : A) → v x ts → v y ts → x ≡ y
  pub place : (n : ℕ) (ts back : List Tok) → whole (at n) ts ≡ Answer.stuck back → StopsBefore v ts back
