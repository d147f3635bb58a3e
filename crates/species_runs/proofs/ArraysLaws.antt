-- Arrays of a unit stay arrays of it: rows keep their lengths, and values their kinds.
use Rattle.std.proofs.Common.{◌≡◌, arith, refl, ap, sym, ◌∙◌, subst, ℕ, zero, suc, List, [], ◌∷◌, length, replicate, ℤ, pos}
use Rattle.std.specs.Prelude.{slice_get, unwrap_or, option_map, All}
use Rattle.species_ast.specs.declared.tree.Array.{Array}
use Rattle.species_ast.specs.declared.tree.Kind.{Kind}
use Rattle.species_ast.specs.declared.tree.Kind.TheVariants as kind
use Rattle.species_ast.specs.declared.tree.Stmt.{Stmt}
use Rattle.species_ast.specs.declared.tree.Unit.{Unit as Program}
use Rattle.species_ast.specs.declared.tree.Value.{Value}
use Rattle.species_ast.specs.Operators.{in_kind}
use Rattle.species_ast.specs.Accesses.{Joins, Cells, Direction, Reads, Writes, Adds, Element, change, Access, accesses, Ended, run}
use Rattle.species_ast.specs.Evaluation.{Frame, Context, product, array_kind}
use Rattle.species_ast.specs.Run.{AreArraysOf, zeros_of, does_list, source_context, source_run, first_frame}
use Rattle.species_ast.proofs.Induction.{Each}
use Rattle.species_runs.specs.Applied.{applied_as, applied, all_applied}
use Rattle.species_runs.specs.Sites.{IsMadeAt, IsFitting}
use Rattle.species_runs.specs.Values.{IsOf, KeepsValues}
use Rattle.species_runs.proofs.AppliedLaws.{run_applied}
use Rattle.species_runs.proofs.SiteLaws.{accesses_sit}
use Rattle.species_runs.proofs.ValueLaws.{value_in}

-- ---- one element is changed

row_length : {A : Type 0} (row : List A) (i : ℕ) (by : A → A) → length (change row i by) ≡ length row
row_length [] i by = refl
row_length (x ∷ row) zero by = refl
row_length (x ∷ row) (suc i) by = ap suc (row_length row i by)

all_first : {A : Type 0} (Q : A → Type 0) (x : A) (row : List A) → Q x → All Q row → All Q (x ∷ row)
all_first Q x row here rest zero d less = here
all_first Q x row here rest (suc k) d less = rest k d (omega arith)

all_rest : {A : Type 0} (Q : A → Type 0) (x : A) (row : List A) → All Q (x ∷ row) → All Q row
all_rest Q x row h k d less = h (suc k) d (omega arith)

row_stays : {A : Type 0} (Q : A → Type 0) (row : List A) (i : ℕ) (by : A → A) → ((x : A) → Q x → Q (by x)) → All Q row → All Q (change row i by)
row_stays Q [] i by keep h = h
row_stays Q (x ∷ row) zero by keep h = all_first Q (by x) row (keep x (h 0 x (omega arith))) (all_rest Q x row h)
row_stays Q (x ∷ row) (suc i) by keep h = all_first Q x (change row i by) (h 0 x (omega arith)) (row_stays Q row i by keep (all_rest Q x row h))

abbrev kind_at : List Array → ℕ → Kind
kind_at arrays a = unwrap_or (option_map (λ x. x.kind) (slice_get arrays a)) kind.Int

rows_stay : (arrays : List Array) (rows : Cells) (a i : ℕ) (by : Value → Value) → ((v : Value) → IsOf (kind_at arrays a) v → IsOf (kind_at arrays a) (by v))
    → AreArraysOf arrays rows → AreArraysOf arrays (change rows a (λ row. change row i by))
rows_stay [] [] a i by keep h = h
rows_stay [] (row ∷ rows) a i by keep h = absurd h
rows_stay (x ∷ arrays) [] a i by keep h = absurd h
rows_stay (x ∷ arrays) (row ∷ rows) zero i by keep h = (row_length row i by ∙ h.0, row_stays (IsOf x.kind) row i by keep h.1, h.2)
rows_stay (x ∷ arrays) (row ∷ rows) (suc a) i by keep h = (h.0, h.1, rows_stay arrays rows a i by keep h.2)

-- ---- accesses

applied_stays : (join : Joins) → KeepsValues join → (w : Context) (d : Direction) (e : Element) (v : Value) (m : Cells) → IsFitting w d e v → AreArraysOf w.arrays m
    → AreArraysOf w.arrays (applied_as join d e v m)
applied_stays join keeps w Reads e v m fit h = h
applied_stays join keeps w Writes e v m fit h = rows_stay w.arrays m e.array e.at (λ c. v) (λ c _. fit) h
applied_stays join keeps w Adds e v m fit h =
    rows_stay w.arrays m e.array e.at (λ c. join e.array c v) (λ c of_c. keeps e.array (array_kind w e.array) c v of_c fit) h

pub all_applied_stay : (join : Joins) → KeepsValues join → (w : Context) (at : List ℕ) (iters : List ℤ) (xs : List Access) (m : Cells) → Each (IsMadeAt w at iters) xs
    → AreArraysOf w.arrays m → AreArraysOf w.arrays (all_applied join xs m)
all_applied_stay join keeps w at iters [] m made h = h
all_applied_stay join keeps w at iters (a ∷ xs) m made h =
    all_applied_stay join keeps w at iters xs (applied join a m) made.1 (applied_stays join keeps w a.direction a.element a.value m made.0.fitting h)

-- the law
pub list_stays : (join : Joins) → KeepsValues join → (w : Context) (ss : List Stmt) (at : List ℕ) (k : ℕ) (f g : Frame) (m n : Cells)
    → AreArraysOf w.arrays m → run join (does_list w ss at k f) m ≡ Ended g n → AreArraysOf w.arrays n
list_stays join keeps w ss at k f g m n h ended =
    subst (AreArraysOf w.arrays) (sym (run_applied join (does_list w ss at k f) m g n ended))
    (all_applied_stay join keeps w at f.iters (accesses join (does_list w ss at k f) m) m (accesses_sit join w ss at k f m) h)

pub source_stays : (join : Joins) → KeepsValues join → (u : Program) (g : Frame) (m n : Cells) → AreArraysOf u.arrays m → source_run join u m ≡ Ended g n → AreArraysOf u.arrays n
source_stays join keeps u g m n h ended = list_stays join keeps (source_context u) u.body [] 0 (first_frame u) g m n h ended

-- ---- zeros

all_same : {A : Type 0} (Q : A → Type 0) (n : ℕ) (x : A) → Q x → All Q (replicate n x)
all_same Q zero x h = λ k d less. absurd (omega arith)
all_same Q (suc n) x h = all_first Q x (replicate n x) h (all_same Q n x h)

length_same : {A : Type 0} (n : ℕ) (x : A) → length (replicate n x) ≡ n
length_same zero x = refl
length_same (suc n) x = ap suc (length_same n x)

zero_in : (k : Kind) → IsOf k (in_kind k (pos 0))
zero_in kind.Int = value_in kind.Int (pos 0)
zero_in kind.Unsigned = value_in kind.Unsigned (pos 0)
zero_in kind.Long = value_in kind.Long (pos 0)
zero_in kind.UnsignedLong = value_in kind.UnsignedLong (pos 0)

pub zeros_are : (arrays : List Array) → AreArraysOf arrays (zeros_of arrays)
zeros_are [] = tt
zeros_are (a ∷ arrays) = (length_same (product a.dims) _, all_same (IsOf a.kind) (product a.dims) _ (zero_in a.kind), zeros_are arrays)
