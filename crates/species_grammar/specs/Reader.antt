-- Readers of lists of tokens, and how they are put together.
use Rattle.std.specs.Prelude.{ℕ, zero, suc, List, [], ◌∷◌, ◌++◌, length, Option, Some, None, Bool, false, is_some, if◌then◌else◌}

-- What a reader answers: a value and the tokens after those that it is read from; or the tokens at which it
-- stopped, since no value goes on with the first of them; or that it was given too little depth to tell.
pub data Answer (Tok A : Type 0) : Type 0 where
  read : A → List Tok → Answer Tok A
  stuck : List Tok → Answer Tok A
  shallow : Answer Tok A

abbrev pub Reader : Type 0 → Type 0 → Type 0
Reader Tok A = List Tok → Answer Tok A

infixl 10 ◌>>=◌
abbrev pub ◌>>=◌ : {Tok A B : Type 0} → Answer Tok A → (A → Reader Tok B) → Answer Tok B
(Answer.read x rest) >>= f = f x rest
(Answer.stuck ts) >>= f = Answer.stuck ts
Answer.shallow >>= f = Answer.shallow

-- A class of tokens: what a token of it says, and the token that says it.
pub record Word (Tok A : Type 0) : Type 0 where
  pub says : Tok → Option A
  pub token : A → Tok

-- whether a token is of the class
abbrev pub is_of : {Tok A : Type 0} → Word Tok A → Tok → Bool
is_of w t = is_some (w.says t)

-- whether the next token passes a test
abbrev pub starts : {Tok : Type 0} → (Tok → Bool) → List Tok → Bool
starts c [] = false
starts c (t ∷ ts) = c t

abbrev pub said : {Tok A : Type 0} → Option A → List Tok → List Tok → Answer Tok A
said (Some x) ts all = Answer.read x ts
said None ts all = Answer.stuck all

-- one token that says something
abbrev pub one : {Tok A : Type 0} → (Tok → Option A) → Reader Tok A
one says [] = Answer.stuck []
one says (t ∷ ts) = said (says t) ts (t ∷ ts)

-- one token of a class
abbrev pub word : {Tok A : Type 0} → Word Tok A → Reader Tok A
word w = one w.says

-- nothing, read from no token
abbrev pub nothing : {Tok A : Type 0} → A → Reader Tok A
nothing x ts = Answer.read x ts

-- what r reads, and after it what q reads
abbrev pub both : {Tok A B : Type 0} → Reader Tok A → Reader Tok B → Reader Tok (A × B)
both r q ts = r ts >>= (λ x us. q us >>= (λ y rest. Answer.read (x, y) rest))

-- what r reads, and after it what its value says
abbrev pub bound : {Tok A B : Type 0} → Reader Tok A → (A → Reader Tok B) → Reader Tok B
bound r f ts = r ts >>= f

-- what r reads, made into another value
abbrev pub mapped : {Tok A B : Type 0} → (A → B) → Reader Tok A → Reader Tok B
mapped f r ts = r ts >>= (λ x rest. Answer.read (f x) rest)

-- r where the next token passes the test, else q
abbrev pub choose : {Tok A : Type 0} → (Tok → Bool) → Reader Tok A → Reader Tok A → Reader Tok A
choose c r q ts = if starts c ts then r ts else q ts

-- a token of a class, and then what r reads, which alone is kept
abbrev pub skip : {Tok A B : Type 0} → Word Tok A → Reader Tok B → Reader Tok B
skip w r = mapped (λ p. p.1) (both (word w) r)

-- what r reads, which alone is kept, and then a token of a class
abbrev pub ends : {Tok A B : Type 0} → Reader Tok B → Word Tok A → Reader Tok B
ends r w = mapped (λ p. p.0) (both r (word w))

-- a token of a class and what r reads, or nothing
abbrev pub maybe : {Tok A B : Type 0} → Word Tok A → Reader Tok B → Reader Tok (Option B)
maybe w r = choose (is_of w) (mapped Some (skip w r)) (nothing None)

-- a token of a class, or nothing
abbrev pub maybe_word : {Tok A : Type 0} → Word Tok A → Reader Tok (Option A)
maybe_word w = choose (is_of w) (mapped Some (word w)) (nothing None)

abbrev pub cons_of : {A : Type 0} → A × List A → List A
cons_of p = p.0 ∷ p.1

-- no depth is left
abbrev pub too_shallow : {Tok A : Type 0} → Reader Tok A
too_shallow ts = Answer.shallow

-- as long as the next token passes the test: what r reads
abbrev pub many : {Tok A : Type 0} → ℕ → (Tok → Bool) → Reader Tok A → Reader Tok (List A)
many zero c r = too_shallow
many (suc m) c r = choose c (mapped cons_of (both r (many m c r))) (nothing [])

-- what r reads, up to a token of a class
abbrev pub until : {Tok A B : Type 0} → ℕ → Word Tok A → Reader Tok B → Reader Tok (List B)
until zero w r = too_shallow
until (suc m) w r = choose (is_of w) (skip w (nothing [])) (mapped cons_of (both r (until m w r)))

-- x and pairs of an operator and an operand, joined from left to right
abbrev pub joined : {A O : Type 0} → (A → O → A → A) → A → List (O × A) → A
joined g x [] = x
joined g x (p ∷ ps) = joined g (g x p.0 p.1) ps

-- one level of binary operators, from left to right: o reads an operator, r an operand
abbrev pub level : {Tok A O : Type 0} → (A → O → A → A) → ℕ → (Tok → Bool) → Reader Tok O → Reader Tok A → Reader Tok A
level g m c o r = mapped (λ p. joined g p.0 p.1) (both r (many m c (both o r)))

-- ---- readers that no depth bounds

-- a reader of each depth, at one above the number of tokens
abbrev pub deep : {Tok A : Type 0} → (ℕ → Reader Tok A) → Reader Tok A
deep at ts = at (suc (length ts)) ts

-- `many`, as often as it goes
unfoldable pub repeated : {Tok A : Type 0} → (Tok → Bool) → Reader Tok A → Reader Tok (List A)
repeated c r = deep (λ m. many m c r)

-- `until`, however many there are
unfoldable pub closed : {Tok A B : Type 0} → Word Tok A → Reader Tok B → Reader Tok (List B)
closed w r = deep (λ m. until m w r)

-- the pairs of an operator and an operand that follow an operand, joined to it from left to right
unfoldable pub level_tail : {Tok A O : Type 0} → (A → O → A → A) → (Tok → Bool) → Reader Tok O → Reader Tok A → A → Reader Tok A
level_tail g c o r x = mapped (joined g x) (repeated c (both o r))

-- what was read before a list, and the list
abbrev pub prepended : {Tok A : Type 0} → List A → Answer Tok (List A) → Answer Tok (List A)
prepended xs a = a >>= (λ ys rest. Answer.read (xs ++ ys) rest)
