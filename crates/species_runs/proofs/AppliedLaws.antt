-- Laws of runs over the arrays: a run's accesses, applied in order, give the arrays in which it ends.
use Rattle.std.proofs.Common.{◌≡◌, refl, sym, subst, List, [], ◌∷◌, ◌++◌}
use Rattle.species_ast.specs.Accesses.{Joins, Cells, cell, Tree, Ret, Stop, Read, Write, Add, Ended, run, Access, access, Reads, Writes, Adds, accesses}
use Rattle.species_runs.specs.Applied.{applied, all_applied}
use Rattle.species_runs.specs.Every.{OnlyReads}

-- the law
pub run_applied : {X : Type 0} (join : Joins) (t : Tree X) (m : Cells) (x : X) (n : Cells) → run join t m ≡ Ended x n
    → n ≡ all_applied join (accesses join t m) m
run_applied join (Ret y) m x n h = let same : m ≡ n = cc in sym same
run_applied join (Stop s why) m x n h = absurd cc
run_applied join (Read s e more) m x n h = run_applied join (more (cell m e)) m x n h
run_applied join (Write s e v more) m x n h = run_applied join more _ x n h
run_applied join (Add s e v more) m x n h = run_applied join more _ x n h

-- of a list of accesses, the first of which reads right and the others too
read_among : (join : Joins) (m : Cells) (first : Access) (rest before behind : List Access) (a : Access) → first ∷ rest ≡ before ++ a ∷ behind
    → (first.direction ≡ Reads → first.value ≡ cell m first.element)
    → ((bs : List Access) → rest ≡ bs ++ a ∷ behind → a.value ≡ cell (all_applied join bs (applied join first m)) a.element)
    → a.direction ≡ Reads → a.value ≡ cell (all_applied join before m) a.element
read_among join m first rest [] behind a h here later reads =
    let same : first ≡ a = cc in
    subst (λ b. b.direction ≡ Reads → b.value ≡ cell m b.element) same here reads
read_among join m first rest (b ∷ bs) behind a h here later reads =
    let same : first ≡ b = cc in
    let tail : rest ≡ bs ++ a ∷ behind = cc in
    subst (λ c. a.value ≡ cell (all_applied join bs (applied join c m)) a.element) same (later bs tail)

nothing_read : (before behind : List Access) (a : Access) → [] ≡ before ++ a ∷ behind → ⊥
nothing_read [] behind a h = absurd cc
nothing_read (b ∷ bs) behind a h = absurd cc

-- and each read gives the value that the accesses before it left
pub read_is : {X : Type 0} (join : Joins) (t : Tree X) (m : Cells) (before behind : List Access) (a : Access) → accesses join t m ≡ before ++ a ∷ behind
    → a.direction ≡ Reads → a.value ≡ cell (all_applied join before m) a.element
read_is join (Ret y) m before behind a h reads = absurd (nothing_read before behind a h)
read_is join (Stop s why) m before behind a h reads = absurd (nothing_read before behind a h)
read_is join (Read s e more) m before behind a h reads =
    read_among join m (access s Reads e (cell m e)) (accesses join (more (cell m e)) m) before behind a h (λ r. refl)
    (λ bs same. read_is join (more (cell m e)) m bs behind a same reads) reads
read_is join (Write s e v more) m before behind a h reads =
    read_among join m (access s Writes e v) (accesses join more _) before behind a h (λ r. absurd cc) (λ bs same. read_is join more _ bs behind a same reads) reads
read_is join (Add s e v more) m before behind a h reads =
    read_among join m (access s Adds e v) (accesses join more _) before behind a h (λ r. absurd cc) (λ bs same. read_is join more _ bs behind a same reads) reads

-- what only reads leaves the arrays as they are, and is the same for all joins
pub only_reads_end : {X : Type 0} (join : Joins) (t : Tree X) (m : Cells) (x : X) (n : Cells) → OnlyReads t → run join t m ≡ Ended x n → n ≡ m
only_reads_end join (Ret y) m x n h is = let same : m ≡ n = cc in sym same
only_reads_end join (Stop s why) m x n h is = absurd cc
only_reads_end join (Read s e more) m x n h is = only_reads_end join (more (cell m e)) m x n (h (cell m e)).1 is
only_reads_end join (Write s e v more) m x n h is = let never = h.0 in absurd cc
only_reads_end join (Add s e v more) m x n h is = let never = h.0 in absurd cc

pub only_reads_join : {X : Type 0} (join other : Joins) (t : Tree X) (m : Cells) → OnlyReads t → run join t m ≡ run other t m
only_reads_join join other (Ret y) m h = refl
only_reads_join join other (Stop s why) m h = refl
only_reads_join join other (Read s e more) m h = only_reads_join join other (more (cell m e)) m (h (cell m e)).1
only_reads_join join other (Write s e v more) m h = let never = h.0 in absurd cc
only_reads_join join other (Add s e v more) m h = let never = h.0 in absurd cc
