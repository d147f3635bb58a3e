-- A turn of each loop of the parser, as an equation.
use Rattle.std.proofs.Common.{◌≡◌, ◌∙◌, ap, sym, refl, List, [], ◌∷◌, ◌++◌, Bool, true, false}
use Rattle.species_grammar.specs.Reader.{Answer, Reader, ◌>>=◌, Word, is_of, starts, both, mapped, cons_of, repeated, closed, level_tail, prepended}
use Rattle.species_grammar.specs.Lawful.{Advances}
use Rattle.species_grammar.proofs.Free.{repeated_more, repeated_stuck, closed_more, closed_stuck, tail_more, tail_stuck, tail_stuck_first}

pub repeated_turn : {Tok A : Type 0} (c : Tok → Bool) (r : Reader Tok A) → Advances r → (xs : List A) (ts : List Tok) → starts c ts ≡ true
    → prepended xs (repeated c r ts) ≡ (r ts >>= (λ x us. prepended (xs ++ x ∷ []) (repeated c r us)))
repeated_turn {Tok} {A} c r adv xs ts h = go (r ts) refl
  where
    next : A → Reader Tok (List A)
    next x us = prepended (xs ++ x ∷ []) (repeated c r us)

    go : (o : Answer Tok A) → r ts ≡ o → prepended xs (repeated c r ts) ≡ (r ts >>= next)
    go (Answer.read x us) e = repeated_more c r adv (prepended xs (repeated c r ts)) xs ts x us refl h e ∙ ap (λ z. z >>= next) (sym e)
    go (Answer.stuck us) e = repeated_stuck c r adv (prepended xs (repeated c r ts)) xs ts us refl h e ∙ ap (λ z. z >>= next) (sym e)
    go Answer.shallow e = absurd (adv.never ts e)

pub closed_turn : {Tok A B : Type 0} (w : Word Tok A) (r : Reader Tok B) → Advances r → (xs : List B) (ts : List Tok) → starts (is_of w) ts ≡ false
    → prepended xs (closed w r ts) ≡ (r ts >>= (λ x us. prepended (xs ++ x ∷ []) (closed w r us)))
closed_turn {Tok} {A} {B} w r adv xs ts h = go (r ts) refl
  where
    next : B → Reader Tok (List B)
    next x us = prepended (xs ++ x ∷ []) (closed w r us)

    go : (o : Answer Tok B) → r ts ≡ o → prepended xs (closed w r ts) ≡ (r ts >>= next)
    go (Answer.read x us) e = closed_more w r adv (prepended xs (closed w r ts)) xs ts x us refl h e ∙ ap (λ z. z >>= next) (sym e)
    go (Answer.stuck us) e = closed_stuck w r adv (prepended xs (closed w r ts)) xs ts us refl h e ∙ ap (λ z. z >>= next) (sym e)
    go Answer.shallow e = absurd (adv.never ts e)

pub tail_turn : {Tok A O : Type 0} (g : A → O → A → A) (c : Tok → Bool) (o : Reader Tok O) (r : Reader Tok A) → Advances (both o r) → (x : A) (ts : List Tok) → starts c ts ≡ true
    → level_tail g c o r x ts ≡ (o ts >>= (λ y us. r us >>= (λ z vs. level_tail g c o r (g x y z) vs)))
tail_turn {Tok} {A} {O} g c o r adv x ts h = first (o ts) refl
  where
    joined : O → A → Reader Tok A
    joined y z vs = level_tail g c o r (g x y z) vs

    next : O → Reader Tok A
    next y us = r us >>= joined y

    paired : O → A → Reader Tok (O × A)
    paired y z vs = Answer.read (y, z) vs

    operand : O → Reader Tok (O × A)
    operand y us = r us >>= paired y

    second : (y : O) (us : List Tok) → o ts ≡ Answer.read y us → (a : Answer Tok A) → r us ≡ a → level_tail g c o r x ts ≡ (o ts >>= next)
    second y us e (Answer.read z vs) d = tail_more g c o r adv x ts y us z vs h e d ∙ sym (ap (λ q. q >>= next) e ∙ ap (λ q. q >>= joined y) d)
    second y us e (Answer.stuck vs) d = tail_stuck g c o r adv x ts y us vs h e d ∙ sym (ap (λ q. q >>= next) e ∙ ap (λ q. q >>= joined y) d)
    second y us e Answer.shallow d = absurd (adv.never ts (ap (λ q. q >>= operand) e ∙ ap (λ q. q >>= paired y) d))

    first : (a : Answer Tok O) → o ts ≡ a → level_tail g c o r x ts ≡ (o ts >>= next)
    first (Answer.read y us) e = second y us e (r us) refl
    first (Answer.stuck us) e = tail_stuck_first g c o r adv x ts us h e ∙ sym (ap (λ q. q >>= next) e)
    first Answer.shallow e = absurd (adv.never ts (ap (λ q. q >>= operand) e))

-- a first thing, and a list of more
pub list_begins : {Tok A : Type 0} (r : Reader Tok A) (q : Reader Tok (List A)) (ts : List Tok) (x : A) (us : List Tok) → r ts ≡ Answer.read x us
    → mapped cons_of (both r q) ts ≡ prepended (x ∷ []) (q us)
list_begins {Tok} {A} r q ts x us e = ap (λ a. a >>= next >>= consed) e ∙ go (q us)
  where
    paired : A → List A → Reader Tok (A × List A)
    paired y ys rest = Answer.read (y, ys) rest

    next : A → Reader Tok (A × List A)
    next y vs = q vs >>= paired y

    consed : A × List A → Reader Tok (List A)
    consed p rest = Answer.read (cons_of p) rest

    go : (a : Answer Tok (List A)) → ((a >>= paired x) >>= consed) ≡ prepended (x ∷ []) a
    go (Answer.read ys rest) = refl
    go (Answer.stuck vs) = refl
    go Answer.shallow = refl
