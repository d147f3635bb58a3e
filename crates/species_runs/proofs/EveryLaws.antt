-- Laws of what holds of every access and of all that is computed, and how a run that ended is taken apart.
use Rattle.std.proofs.Common.{◌≡◌, refl, ap, sym, ◌∙◌, subst, List, [], ◌++◌, Bool, true, false, if◌then◌else◌}
use Rattle.std.proofs.lemmas.List.{append-nil, append_assoc}
use Rattle.species_ast.specs.Accesses.{Joins, Cells, cell, Tree, Ret, Stop, Read, Write, Add, then_do, Outcome, Ended, Stopped, run, Access, access, Reads, Writes, Adds, accesses}
use Rattle.species_ast.proofs.AccessLaws.{go_on, accesses_on, run-then_do, accesses-then_do}
use Rattle.species_ast.proofs.Induction.{Each}
use Rattle.species_runs.specs.Every.{Every, Gives}

-- ---- parts of a piece of program

pub every-then_do : {X Y : Type 0} (P : Access → Type 0) (Q : X → Type 0) (R : Y → Type 0) (t : Tree X) (next : X → Tree Y)
    → Every P Q t → ((x : X) → Q x → Every P R (next x)) → Every P R (then_do t next)
every-then_do P Q R (Ret x) next h after = after x h
every-then_do P Q R (Stop s why) next h after = tt
every-then_do P Q R (Read s e more) next h after = λ v. ((h v).0, every-then_do P Q R (more v) next (h v).1 after)
every-then_do P Q R (Write s e v more) next h after = (h.0, every-then_do P Q R more next h.1 after)
every-then_do P Q R (Add s e v more) next h after = (h.0, every-then_do P Q R more next h.1 after)

pub every_weaker : {X : Type 0} (P R : Access → Type 0) (Q S : X → Type 0) (t : Tree X) → ((a : Access) → P a → R a) → ((x : X) → Q x → S x)
    → Every P Q t → Every R S t
every_weaker P R Q S (Ret x) p q h = q x h
every_weaker P R Q S (Stop s why) p q h = tt
every_weaker P R Q S (Read s e more) p q h = λ v. (p (access s Reads e v) (h v).0, every_weaker P R Q S (more v) p q (h v).1)
every_weaker P R Q S (Write s e v more) p q h = (p (access s Writes e v) h.0, every_weaker P R Q S more p q h.1)
every_weaker P R Q S (Add s e v more) p q h = (p (access s Adds e v) h.0, every_weaker P R Q S more p q h.1)

-- one of two, by a test
pub every_one : {X : Type 0} (P : Access → Type 0) (Q : X → Type 0) (b : Bool) (t u : Tree X) → (b ≡ true → Every P Q t) → (b ≡ false → Every P Q u)
    → Every P Q (if b then t else u)
every_one P Q true t u h k = h refl
every_one P Q false t u h k = k refl

pub every_both : {X : Type 0} (P R : Access → Type 0) (Q S : X → Type 0) (t : Tree X) → Every P Q t → Every R S t → Every (λ a. P a × R a) (λ x. Q x × S x) t
every_both P R Q S (Ret x) h k = (h, k)
every_both P R Q S (Stop s why) h k = tt
every_both P R Q S (Read s e more) h k = λ v. (((h v).0, (k v).0), every_both P R Q S (more v) (h v).1 (k v).1)
every_both P R Q S (Write s e v more) h k = ((h.0, k.0), every_both P R Q S more h.1 k.1)
every_both P R Q S (Add s e v more) h k = ((h.0, k.0), every_both P R Q S more h.1 k.1)

-- whatever the first part computes
pub gives_behind : {X Y : Type 0} (Q : Y → Type 0) (t : Tree X) (next : X → Tree Y) → ((x : X) → Gives Q (next x)) → Gives Q (then_do t next)
gives_behind Q (Ret x) next after = after x
gives_behind Q (Stop s why) next after = tt
gives_behind Q (Read s e more) next after = λ v. (tt, gives_behind Q (more v) next after)
gives_behind Q (Write s e v more) next after = (tt, gives_behind Q more next after)
gives_behind Q (Add s e v more) next after = (tt, gives_behind Q more next after)

pub gives_all : {X : Type 0} (Q : X → Type 0) (t : Tree X) → ((x : X) → Q x) → Gives Q t
gives_all Q (Ret x) h = h x
gives_all Q (Stop s why) h = tt
gives_all Q (Read s e more) h = λ v. (tt, gives_all Q (more v) h)
gives_all Q (Write s e v more) h = (tt, gives_all Q more h)
gives_all Q (Add s e v more) h = (tt, gives_all Q more h)

-- ---- runs

-- the law: what holds of every access holds of each access of a run
pub every_access : {X : Type 0} (join : Joins) (P : Access → Type 0) (Q : X → Type 0) (t : Tree X) (m : Cells) → Every P Q t → Each P (accesses join t m)
every_access join P Q (Ret x) m h = tt
every_access join P Q (Stop s why) m h = tt
every_access join P Q (Read s e more) m h = let here = h (cell m e) in (here.0, every_access join P Q (more (cell m e)) m here.1)
every_access join P Q (Write s e v more) m h = (h.0, every_access join P Q more _ h.1)
every_access join P Q (Add s e v more) m h = (h.0, every_access join P Q more _ h.1)

-- what a run ended with, and where
ended_as : {X : Type 0} (Q : X → Type 0) (x y : X) (m n : Cells) → Q x → Ended x m ≡ Ended y n → Q y
ended_as {X} Q x y m n h same = subst Q (ap (value x) same) h
  where
    value : X → Outcome X → X
    value d (Ended z m) = z
    value d (Stopped why place) = d

-- and of what is computed
pub every_ended : {X : Type 0} (join : Joins) (P : Access → Type 0) (Q : X → Type 0) (t : Tree X) (m : Cells) (x : X) (n : Cells)
    → Every P Q t → run join t m ≡ Ended x n → Q x
every_ended join P Q (Ret y) m x n h is = ended_as Q y x m n h is
every_ended join P Q (Stop s why) m x n h is = absurd cc
every_ended join P Q (Read s e more) m x n h is = every_ended join P Q (more (cell m e)) m x n (h (cell m e)).1 is
every_ended join P Q (Write s e v more) m x n h is = every_ended join P Q more _ x n h.1 is
every_ended join P Q (Add s e v more) m x n h is = every_ended join P Q more _ x n h.1 is

-- ---- a run that ended

go_on_ended : {X Y : Type 0} (o : Outcome X) (next : X → Cells → Outcome Y) (y : Y) (n : Cells) → go_on o next ≡ Ended y n
    → (x : X) × (m : Cells) × (o ≡ Ended x m) × (next x m ≡ Ended y n)
go_on_ended (Ended x m) next y n h = (x, m, refl, h)
go_on_ended (Stopped why place) next y n h = absurd cc

-- one after another ended: the one ended, and then the other
pub ended_parts : {X Y : Type 0} (join : Joins) (t : Tree X) (next : X → Tree Y) (m : Cells) (y : Y) (n : Cells) → run join (then_do t next) m ≡ Ended y n
    → (x : X) × (mid : Cells) × (run join t m ≡ Ended x mid) × (run join (next x) mid ≡ Ended y n)
ended_parts join t next m y n h = go_on_ended (run join t m) (λ x k. run join (next x) k) y n (sym (run-then_do join t next m) ∙ h)

pub ended_then : {X Y : Type 0} (join : Joins) (t : Tree X) (next : X → Tree Y) (m : Cells) (x : X) (mid : Cells) → run join t m ≡ Ended x mid
    → run join (then_do t next) m ≡ run join (next x) mid
ended_then join t next m x mid h = run-then_do join t next m ∙ ap (λ o. go_on o (λ x k. run join (next x) k)) h

pub accesses_then : {X Y : Type 0} (join : Joins) (t : Tree X) (next : X → Tree Y) (m : Cells) (x : X) (mid : Cells) → run join t m ≡ Ended x mid
    → accesses join (then_do t next) m ≡ accesses join t m ++ accesses join (next x) mid
accesses_then join t next m x mid h =
    accesses-then_do join t next m ∙ ap (λ o. accesses join t m ++ accesses_on o (λ x k. accesses join (next x) k)) h

-- a run ends in one way
pub same_end : {X : Type 0} (o : Outcome X) (x y : X) (m n : Cells) → o ≡ Ended x m → o ≡ Ended y n → (x ≡ y) × (m ≡ n)
same_end o x y m n h k =
    let e : Ended x m ≡ Ended y n = sym h ∙ k in
    (cc, cc)

-- ---- a run that is part of another

-- where the whole ends, so does the part, and the part's accesses stand in a row among those of the whole
abbrev pub IsPart : {X Y : Type 0} → Joins → Tree X → Cells → Tree Y → Cells → Type 0
IsPart {X} {Y} join p k t m = (y : Y) (n : Cells) → run join t m ≡ Ended y n
    → ((x : X) × (o : Cells) × (run join p k ≡ Ended x o)) × ((before : List Access) × (behind : List Access) × (accesses join t m ≡ before ++ accesses join p k ++ behind))

pub part_itself : {X : Type 0} (join : Joins) (t : Tree X) (m : Cells) → IsPart join t m t m
part_itself join t m y n h = ((y, n, h), ([], [], sym (append-nil _)))

pub part_first : {X Y Z : Type 0} (join : Joins) (p : Tree X) (k : Cells) (t : Tree Y) (next : Y → Tree Z) (m : Cells) → IsPart join p k t m
    → IsPart join p k (then_do t next) m
part_first join p k t next m part z n h =
    let ended = ended_parts join t next m z n h in
    let of = part ended.0 ended.1 ended.2 in
    let rest = accesses join (next ended.0) ended.1 in (
      of.0,
      (
        of.1.0,
        of.1.1 ++ rest,
        accesses_then join t next m ended.0 ended.1 ended.2 ∙ ap (λ l. l ++ rest) of.1.2 ∙ append_assoc (of.1.0 ++ accesses join p k) of.1.1 rest,
      ),
    )

pub part_later : {X Y Z : Type 0} (join : Joins) (p : Tree X) (k : Cells) (t : Tree Y) (next : Y → Tree Z) (m : Cells) (y : Y) (mid : Cells) → run join t m ≡ Ended y mid
    → IsPart join p k (next y) mid → IsPart join p k (then_do t next) m
part_later join p k t next m y mid first part z n h =
    let of = part z n (sym (ended_then join t next m y mid first) ∙ h) in
    let before = accesses join t m in (
      of.0,
      (
        before ++ of.1.0,
        of.1.1,
        accesses_then join t next m y mid first ∙ ap (λ l. before ++ l) of.1.2 ∙ sym (append_assoc before (of.1.0 ++ accesses join p k) of.1.1)
            ∙ ap (λ l. l ++ of.1.1) (sym (append_assoc before of.1.0 (accesses join p k))),
      ),
    )
