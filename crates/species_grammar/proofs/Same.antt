-- Readers that answer the same on every list.
use Rattle.std.proofs.Common.{◌≡◌, ◌∙◌, ap, sym, refl, subst, List, Bool, true, false}
use Rattle.std.specs.Prelude.{if◌then◌else◌}
use Rattle.species_grammar.specs.Reader.{Answer, Reader, ◌>>=◌, Word, starts, word, both, bound, mapped, choose, skip, ends}
use Rattle.species_grammar.specs.Lawful.{Less, Under}

abbrev pub Same : {Tok A : Type 0} → Reader Tok A → Reader Tok A → Type 0
Same {Tok} r q = (ts : List Tok) → r ts ≡ q ts

pub under_same_as : {Tok A : Type 0} (r q q' : Reader Tok A) → Under r q → Same q q' → Under r q'
under_same_as r q q' h e ts = subst (λ a. Less (r ts) a) (e ts) (h ts)

-- ---- answers

same_bind : {Tok A B : Type 0} (a : Answer Tok A) (f g : A → Reader Tok B) → ((x : A) → Same (f x) (g x)) → (a >>= f) ≡ (a >>= g)
same_bind (Answer.read x us) f g h = h x us
same_bind (Answer.stuck us) f g h = refl
same_bind Answer.shallow f g h = refl

bind_bind : {Tok A B C : Type 0} (a : Answer Tok A) (f : A → Reader Tok B) (g : B → Reader Tok C) → (a >>= f >>= g) ≡ (a >>= (λ x us. f x us >>= g))
bind_bind (Answer.read x us) f g = refl
bind_bind (Answer.stuck us) f g = refl
bind_bind Answer.shallow f g = refl

-- ---- of the same parts

pub same_mapped : {Tok A B : Type 0} (f : A → B) (r r' : Reader Tok A) → Same r r' → Same (mapped f r) (mapped f r')
same_mapped f r r' h ts = ap (λ a. a >>= (λ x rest. Answer.read (f x) rest)) (h ts)

pub same_both : {Tok A B : Type 0} (r r' : Reader Tok A) (q q' : Reader Tok B) → Same r r' → Same q q' → Same (both r q) (both r' q')
same_both r r' q q' h k ts = ap (λ a. a >>= (λ x us. q us >>= (λ y rest. Answer.read (x, y) rest))) (h ts) ∙ same_bind (r' ts) _ _ (λ x us. ap (λ a. a >>= (λ y rest. Answer.read (x, y) rest)) (k us))

pub same_choose : {Tok A : Type 0} (c : Tok → Bool) (r r' q q' : Reader Tok A) → Same r r' → Same q q' → Same (choose c r q) (choose c r' q')
same_choose c r r' q q' h k ts = go (starts c ts)
  where
    go : (d : Bool) → (if d then r ts else q ts) ≡ (if d then r' ts else q' ts)
    go true = h ts
    go false = k ts

pub same_skip : {Tok A B : Type 0} (w : Word Tok A) (r r' : Reader Tok B) → Same r r' → Same (skip w r) (skip w r')
same_skip w r r' h = same_mapped (λ p. p.1) _ _ (same_both (word w) (word w) r r' (λ ts. refl) h)

-- ---- where a value is made into another

pub mapped_mapped : {Tok A B C : Type 0} (f : B → C) (g : A → B) (r : Reader Tok A) → Same (mapped f (mapped g r)) (mapped (λ x. f (g x)) r)
mapped_mapped f g r ts = bind_bind (r ts) (λ x rest. Answer.read (g x) rest) (λ y rest. Answer.read (f y) rest)

pub mapped_choose : {Tok A B : Type 0} (f : A → B) (c : Tok → Bool) (r q : Reader Tok A) → Same (mapped f (choose c r q)) (choose c (mapped f r) (mapped f q))
mapped_choose f c r q ts = go (starts c ts)
  where
    go : (d : Bool) → ((if d then r ts else q ts) >>= (λ x rest. Answer.read (f x) rest)) ≡ (if d then mapped f r ts else mapped f q ts)
    go true = refl
    go false = refl

pub mapped_choose_as : {Tok A B : Type 0} (f : A → B) (c : Tok → Bool) (r q : Reader Tok A) (r' q' : Reader Tok B) → Same (mapped f r) r' → Same (mapped f q) q' → Same (mapped f (choose c r q)) (choose c r' q')
mapped_choose_as f c r q r' q' h k ts = mapped_choose f c r q ts ∙ same_choose c (mapped f r) r' (mapped f q) q' h k ts

-- the second part of a pair made into another value
abbrev pub within : {A B C : Type 0} → (B → C) → A × B → A × C
within f p = (p.0, f p.1)

pub both_mapped : {Tok A B C : Type 0} (f : B → C) (r : Reader Tok A) (q : Reader Tok B) → Same (both r (mapped f q)) (mapped (within f) (both r q))
both_mapped {Tok} {A} {B} {C} f r q ts = same_bind (r ts) _ _ (λ x us. bind_bind (q us) made (paired x) ∙ sym (bind_bind (q us) (before x) after)) ∙ sym (bind_bind (r ts) (λ x us. q us >>= before x) after)
  where
    made : B → Reader Tok C
    made y rest = Answer.read (f y) rest

    paired : A → C → Reader Tok (A × C)
    paired x z rest = Answer.read (x, z) rest

    before : A → B → Reader Tok (A × B)
    before x y rest = Answer.read (x, y) rest

    after : A × B → Reader Tok (A × C)
    after p rest = Answer.read (within f p) rest

pub both_mapped_as : {Tok A B C : Type 0} (f : B → C) (r : Reader Tok A) (q : Reader Tok C) (q' : Reader Tok B) → Same q (mapped f q') → Same (both r q) (mapped (within f) (both r q'))
both_mapped_as f r q q' h ts = same_both r r q (mapped f q') (λ us. refl) h ts ∙ both_mapped f r q' ts

pub skip_mapped : {Tok A B C : Type 0} (f : B → C) (w : Word Tok A) (r : Reader Tok B) → Same (skip w (mapped f r)) (mapped f (skip w r))
skip_mapped {Tok} {A} {B} {C} f w r ts =
    same_mapped second (both (word w) (mapped f r)) (mapped (within f) (both (word w) r)) (both_mapped f (word w) r) ts ∙ mapped_mapped second (within f) (both (word w) r) ts
    ∙ sym (mapped_mapped f (λ p. p.1) (both (word w) r) ts)
  where
    second : A × C → C
    second p = p.1

pub skip_mapped_as : {Tok A B C : Type 0} (f : B → C) (w : Word Tok A) (r : Reader Tok C) (r' : Reader Tok B) → Same r (mapped f r') → Same (skip w r) (mapped f (skip w r'))
skip_mapped_as f w r r' h ts = same_skip w r (mapped f r') h ts ∙ skip_mapped f w r' ts

pub mapped_skip : {Tok A B C : Type 0} (f : B → C) (w : Word Tok A) (r : Reader Tok B) → Same (mapped f (skip w r)) (skip w (mapped f r))
mapped_skip f w r ts = sym (skip_mapped f w r ts)

pub mapped_skip_as : {Tok A B C : Type 0} (f : B → C) (w : Word Tok A) (r : Reader Tok B) (r' : Reader Tok C) → Same (mapped f r) r' → Same (mapped f (skip w r)) (skip w r')
mapped_skip_as f w r r' h ts = mapped_skip f w r ts ∙ same_skip w (mapped f r) r' h ts

-- the first value passed on, in place of a pair
pub bound_both : {Tok A B C : Type 0} (g : A × B → C) (r : Reader Tok A) (q : Reader Tok B) (f : A → Reader Tok C) → ((x : A) → Same (mapped (λ y. g (x, y)) q) (f x)) → Same (mapped g (both r q)) (bound r f)
bound_both {Tok} {A} {B} {C} g r q f h ts = bind_bind (r ts) (λ x us. q us >>= paired x) made ∙ same_bind (r ts) _ f (λ x us. bind_bind (q us) (paired x) made ∙ h x us)
  where
    paired : A → B → Reader Tok (A × B)
    paired x y rest = Answer.read (x, y) rest

    made : A × B → Reader Tok C
    made p rest = Answer.read (g p) rest
