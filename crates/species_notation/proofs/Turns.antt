-- A turn of each loop that reads, as an equation.
use Rattle.std.proofs.Common.{◌≡◌, ◌∙◌, ap, sym, refl, List, [], ◌∷◌, ◌++◌, Bool, true}
use Rattle.species_grammar.specs.Reader.{Answer, Reader, ◌>>=◌, starts, both, mapped, cons_of, repeated, prepended}
use Rattle.species_grammar.specs.Lawful.{Advances}
use Rattle.species_grammar.proofs.Free.{repeated_more, repeated_stuck}

pub repeated_turn : {Tok A : Type 0} (c : Tok → Bool) (r : Reader Tok A) → Advances r → (xs : List A) (ts : List Tok) → starts c ts ≡ true
    → prepended xs (repeated c r ts) ≡ (r ts >>= (λ x us. prepended (xs ++ x ∷ []) (repeated c r us)))
repeated_turn {Tok} {A} c r adv xs ts h = go (r ts) refl
  where
    next : A → Reader Tok (List A)
    next x us = prepended (xs ++ x ∷ []) (repeated c r us)

    go : (o : Answer Tok A) → r ts ≡ o → prepended xs (repeated c r ts) ≡ (r ts >>= next)
    go (Answer.read x us) e = repeated_more c r adv (prepended xs (repeated c r ts)) xs ts x us refl h e ∙ ap (λ z. z >>= next) (sym e)
    go (Answer.stuck us) e = repeated_stuck c r adv (prepended xs (repeated c r ts)) xs ts us refl h e ∙ ap (λ z. z >>= next) (sym e)
    go Answer.shallow e = absurd (adv.never ts e)

-- a first thing, and a list of more
pub list_begins : {Tok A : Type 0} (r : Reader Tok A) (q : Reader Tok (List A)) (ts : List Tok) (x : A) (us : List Tok) → r ts ≡ Answer.read x us
    → mapped cons_of (both r q) ts ≡ prepended (x ∷ []) (q us)
list_begins {Tok} {A} r q ts x us e = ap (λ a. a >>= next >>= consed) e ∙ go (q us)
  where
    paired : A → List A → Reader Tok (A × List A)
    paired y ys rest = Answer.read (y, ys) rest

    next : A → Reader Tok (A × List A)
    next y vs = q vs >>= paired y

    consed : A × List A → Reader Tok (List A)
    consed p rest = Answer.read (cons_of p) rest

    go : (a : Answer Tok (List A)) → ((a >>= paired x) >>= consed) ≡ prepended (x ∷ []) a
    go (Answer.read ys rest) = refl
    go (Answer.stuck vs) = refl
    go Answer.shallow = refl

-- nothing before it
pub nothing_before : {Tok A : Type 0} (a : Answer Tok (List A)) → a ≡ prepended [] a
nothing_before (Answer.read ys rest) = refl
nothing_before (Answer.stuck vs) = refl
nothing_before Answer.shallow = refl
