-- What holds of a reader for a grammar.
use Rattle.std.specs.Prelude.{◌≡◌, List, [], ◌∷◌, ◌++◌, length, ℕ, ◌<◌, ◌≤◌, ◌+◌, Option, Some, None, Bool, true, false, ◌⊎◌}
use Rattle.species_grammar.specs.Reader.{Answer, Reader, Word, is_of, starts}

-- that these tokens spell the value
abbrev pub Spelled : Type 0 → Type 0 → Type 1
Spelled Tok A = A → List Tok → Type 0

-- that these tokens spell the value before those
abbrev pub Before : Type 0 → Type 0 → Type 1
Before Tok A = A → List Tok → List Tok → Type 0

-- both lists are empty, or begin with one token
abbrev pub SameFirst : {Tok : Type 0} → List Tok → List Tok → Type 0
SameFirst [] [] = Unit {0}
SameFirst [] (u ∷ us) = ⊥
SameFirst (t ∷ ts) [] = ⊥
SameFirst (t ∷ ts) (u ∷ us) = t ≡ u

-- A class holds the tokens that it makes, and no others.
pub record IsWord {Tok A : Type 0} (w : Word Tok A) : Type 0 where
  pub is : (t : Tok) (x : A) → w.says t ≡ Some x → t ≡ w.token x
  pub own : (x : A) → w.says (w.token x) ≡ Some x
  pub some : A

-- What is known of a value that was read: `front` is what it was read from, and any list that begins as `rest` does
-- would have left it the same.
pub record Took {Tok A : Type 0} (r : Reader Tok A) (s : Before Tok A) (ts : List Tok) (x : A) (rest : List Tok) : Type 0 where
  pub front : List Tok
  pub is : ts ≡ front ++ rest
  pub spelled : s x front rest
  pub steady : (b : List Tok) → SameFirst rest b → r (front ++ b) ≡ Answer.read x b

-- What is known where a reader stopped before `back`: the tokens before can be completed to a value, and any list that
-- begins as `back` does would have stopped it there.
pub record Failed {Tok A : Type 0} (r : Reader Tok A) (v : Spelled Tok A) (ts back : List Tok) : Type 0 where
  pub front : List Tok
  pub is : ts ≡ front ++ back
  pub steady : (b : List Tok) → SameFirst back b → r (front ++ b) ≡ Answer.stuck b
  pub value : A
  pub more : List Tok
  pub viable : v value (front ++ more)

-- A reader for the grammar v. What it reads meets s, which implies v, and may speak of the tokens that follow. What meets f is read.
pub record Lawful {Tok A : Type 0} (r : Reader Tok A) (s f : Before Tok A) (v : Spelled Tok A) : Type 0 where
  pub took : (ts : List Tok) (x : A) (rest : List Tok) → r ts ≡ Answer.read x rest → Took r s ts x rest
  pub failed : (ts back : List Tok) → r ts ≡ Answer.stuck back → Failed r v ts back
  pub full : (x : A) (front rest : List Tok) → f x front rest → r (front ++ rest) ≡ Answer.read x rest
  pub weak : (x : A) (front rest : List Tok) → s x front rest → v x front
  pub some : A
  pub some_text : List Tok
  pub some_spelled : v some some_text

-- With less depth: the first answer is that it was too shallow, or the second one.
abbrev pub Less : {Tok A : Type 0} → Answer Tok A → Answer Tok A → Type 0
Less a b = (a ≡ Answer.shallow) ⊎ (a ≡ b)

-- More depth changes no answer but that.
abbrev pub Under : {Tok A : Type 0} → Reader Tok A → Reader Tok A → Type 0
Under {Tok} r q = (ts : List Tok) → Less (r ts) (q ts)

-- On fewer than n tokens the depth is enough.
abbrev pub Enough : {Tok A : Type 0} → Reader Tok A → ℕ → Type 0
Enough {Tok} r n = (ts : List Tok) → length ts < n → r ts ≡ Answer.shallow → ⊥

-- What is read is read from at least k tokens.
abbrev pub Takes : {Tok A : Type 0} → Reader Tok A → ℕ → Type 0
Takes {Tok} {A} r k = (ts : List Tok) (x : A) (rest : List Tok) → r ts ≡ Answer.read x rest → k + length rest ≤ length ts

-- A reader that no depth bounds, of things of at least one token.
pub record Advances {Tok A : Type 0} (r : Reader Tok A) : Type 0 where
  pub takes : Takes r 1
  pub never : (ts : List Tok) → r ts ≡ Answer.shallow → ⊥

-- ---- what the combinators read, in these words

abbrev pub plain : {Tok A : Type 0} → Spelled Tok A → Before Tok A
plain v x front rest = v x front

abbrev pub nothing_spelled : {Tok A : Type 0} → A → Spelled Tok A
nothing_spelled x y front = (x ≡ y) × (front ≡ [])

abbrev pub one_spelled : {Tok A : Type 0} → (Tok → Option A) → Spelled Tok A
one_spelled {Tok} says x front = (t : Tok) × (front ≡ t ∷ []) × (says t ≡ Some x)

abbrev pub word_spelled : {Tok A : Type 0} → Word Tok A → Spelled Tok A
word_spelled w x front = front ≡ w.token x ∷ []

abbrev pub both_before : {Tok A B : Type 0} → Before Tok A → Before Tok B → Before Tok (A × B)
both_before {Tok} s q p front rest = (a b : List Tok) × (front ≡ a ++ b) × s p.0 a (b ++ rest) × q p.1 b rest

abbrev pub both_spelled : {Tok A B : Type 0} → Spelled Tok A → Spelled Tok B → Spelled Tok (A × B)
both_spelled {Tok} v w p front = (a b : List Tok) × (front ≡ a ++ b) × v p.0 a × w p.1 b

abbrev pub mapped_before : {Tok A B : Type 0} → (A → B) → Before Tok A → Before Tok B
mapped_before {Tok} {A} g s y front rest = (x : A) × (g x ≡ y) × s x front rest

abbrev pub mapped_spelled : {Tok A B : Type 0} → (A → B) → Spelled Tok A → Spelled Tok B
mapped_spelled {Tok} {A} g v y front = (x : A) × (g x ≡ y) × v x front

abbrev pub choose_before : {Tok A : Type 0} → (Tok → Bool) → Before Tok A → Before Tok A → Before Tok A
choose_before c s q x front rest = ((starts c (front ++ rest) ≡ true) × s x front rest) ⊎ ((starts c (front ++ rest) ≡ false) × q x front rest)

abbrev pub choose_spelled : {Tok A : Type 0} → Spelled Tok A → Spelled Tok A → Spelled Tok A
choose_spelled v w x front = v x front ⊎ w x front

abbrev pub skip_before : {Tok A B : Type 0} → Word Tok A → Before Tok B → Before Tok B
skip_before {Tok} {A} w s y front rest = (x : A) × (b : List Tok) × (front ≡ w.token x ∷ b) × s y b rest

abbrev pub skip_spelled : {Tok A B : Type 0} → Word Tok A → Spelled Tok B → Spelled Tok B
skip_spelled {Tok} {A} w v y front = (x : A) × (b : List Tok) × (front ≡ w.token x ∷ b) × v y b

abbrev pub ends_before : {Tok A B : Type 0} → Before Tok B → Word Tok A → Before Tok B
ends_before {Tok} {A} s w y front rest = (x : A) × (a : List Tok) × (front ≡ a ++ w.token x ∷ []) × s y a (w.token x ∷ rest)

abbrev pub ends_spelled : {Tok A B : Type 0} → Spelled Tok B → Word Tok A → Spelled Tok B
ends_spelled {Tok} {A} v w y front = (x : A) × (a : List Tok) × (front ≡ a ++ w.token x ∷ []) × v y a

abbrev pub maybe_before : {Tok A B : Type 0} → Word Tok A → Before Tok B → Before Tok (Option B)
maybe_before w s None front rest = (front ≡ []) × (starts (is_of w) rest ≡ false)
maybe_before w s (Some y) front rest = skip_before w s y front rest

abbrev pub maybe_spelled : {Tok A B : Type 0} → Word Tok A → Spelled Tok B → Spelled Tok (Option B)
maybe_spelled w v None front = front ≡ []
maybe_spelled w v (Some y) front = skip_spelled w v y front

abbrev pub maybe_word_before : {Tok A : Type 0} → Word Tok A → Before Tok (Option A)
maybe_word_before w None front rest = (front ≡ []) × (starts (is_of w) rest ≡ false)
maybe_word_before w (Some x) front rest = front ≡ w.token x ∷ []

abbrev pub maybe_word_spelled : {Tok A : Type 0} → Word Tok A → Spelled Tok (Option A)
maybe_word_spelled w None front = front ≡ []
maybe_word_spelled w (Some x) front = front ≡ w.token x ∷ []

-- a list of fewer than m
abbrev pub Short : {Tok A : Type 0} → ℕ → Before Tok (List A) → Before Tok (List A)
Short m s xs front rest = (length xs < m) × s xs front rest

abbrev pub many_before : {Tok A : Type 0} → (Tok → Bool) → Before Tok A → Before Tok (List A)
many_before c s [] front rest = (front ≡ []) × (starts c rest ≡ false)
many_before {Tok} c s (x ∷ xs) front rest = (a b : List Tok) × (front ≡ a ++ b) × s x a (b ++ rest) × many_before c s xs b rest

abbrev pub many_spelled : {Tok A : Type 0} → Spelled Tok A → Spelled Tok (List A)
many_spelled v [] front = front ≡ []
many_spelled {Tok} v (x ∷ xs) front = (a b : List Tok) × (front ≡ a ++ b) × v x a × many_spelled v xs b

abbrev pub until_before : {Tok A B : Type 0} → Word Tok A → Before Tok B → Before Tok (List B)
until_before {Tok} {A} w s [] front rest = (x : A) × (front ≡ w.token x ∷ [])
until_before {Tok} w s (y ∷ ys) front rest = (a b : List Tok) × (front ≡ a ++ b) × s y a (b ++ rest) × until_before w s ys b rest

abbrev pub until_spelled : {Tok A B : Type 0} → Word Tok A → Spelled Tok B → Spelled Tok (List B)
until_spelled {Tok} {A} w v [] front = (x : A) × (front ≡ w.token x ∷ [])
until_spelled {Tok} w v (y ∷ ys) front = (a b : List Tok) × (front ≡ a ++ b) × v y a × until_spelled w v ys b

-- One level of binary operators: an operand, or the same level, an operator and an operand.
pub data LeftSpelled {Tok A O : Type 0} (g : A → O → A → A) (v : A → List Tok → Type 0) (ov : O → List Tok → Type 0) : A → List Tok → Type 0 where
  one : (x : A) (ts : List Tok) → v x ts → LeftSpelled g v ov x ts
  more : (x y : A) (o : O) (ts os us : List Tok) → LeftSpelled g v ov x ts → ov o os → v y us → LeftSpelled g v ov (g x o y) (ts ++ (os ++ us))
