-- Elements of statements that are collected one part after another, and the ranges that are left.
use Rattle.std.proofs.Common.{◌≡◌, refl, ap, sym, ◌∙◌, subst, arith, ℕ, zero, suc, ◌+◌, ◌-◌, ◌<◌, ◌≤◌, Bool, true, false, ◌&&◌, nat_eq, if◌then◌else◌, Option, List, [], ◌∷◌, ◌++◌, map, length, append_assoc, append-nil, take, drop, take_all, get_or}
use Rattle.std.proofs.lemmas.List.{take_more}
use Rattle.std.proofs.lemmas.Bool.Decides.{nat_tests}
use Rattle.species_ast.specs.declared.tree.Expr.{Expr}
use Rattle.species_ast.specs.declared.tree.Stmt.{Stmt}
use Rattle.species_ast.specs.declared.tree.Stmt.TheVariants as stmt
use Rattle.species_ast.specs.declared.tree.Loop.{Loop, out-Loop}
use Rattle.species_ast.specs.Accesses.{Writes}
use Rattle.species_ast.specs.Scope.Hulls.{Range, has_empty, range_of}
use Rattle.species_ast.specs.Scope.References.{Reference, Adding}
use Rattle.species_ast.proofs.Folds.{fold_stmt-Assign, fold_stmt-AddTo, fold_stmt-Declare, fold_stmt-SetLocal, fold_stmt-If, fold_stmt-For, fold_stmt-Block, fold_loop-out}
use Rattle.species_references.specs.Ranges.{ranges_at, ranges_within, ranges_in, ranges_in_list, ranges_in_loop}
use Rattle.species_references.specs.Occurrences.{one_seen, seen_in, seen_in_all, seen_in_stmt, seen_in_list, seen_in_loop, seen_addition, is_left_out, Collected}
use Rattle.species_references.proofs.SeenLemmas.{seen-Assign, seen-AddTo, seen-Declare, seen-SetLocal, seen-If, seen-For, seen-Block, seen-Loop, seen_init, unless_left_out}
use Rattle.species_references.proofs.ReadLemmas.{two_lists}

pub collected_then : (ranges own mid next rest : List Range) (old more new late last : List Reference) → Collected ranges own mid old more new → Collected mid next rest new late last
    → Collected ranges (own ++ next) rest old (more ++ late) last
collected_then ranges own mid next rest old more new late last h k left e =
    let first = h (next ++ left) (e ∙ append_assoc own next left) in
    let second = k left first.0 in
    (second.0, two_lists old new last more late first.1 second.1)

pub collected_as : (ranges own front rest : List Range) (old more late new : List Reference) → own ≡ front → more ≡ late → Collected ranges front rest old late new → Collected ranges own rest old more new
collected_as ranges own front rest old more late new p q h = subst (λ z. Collected ranges z rest old more new) (sym p) (subst (λ z. Collected ranges front rest old z new) (sym q) h)

pub collected_here : (ranges own : List Range) (old more late new : List Reference) → own ≡ [] → more ≡ late → new ≡ old ++ late → Collected ranges own ranges old more new
collected_here ranges own old more late new p q h = collected_as ranges own [] ranges old more late new p q (λ left e. (e, h))

pub assign_more : (adds : Adding) (x : Stmt) (place a : ℕ) (subs p q : List Expr) (value : Expr) (path ranges : List Range) (c : Bool) (band : ℕ) (old one two new : List Reference)
    → x ≡ stmt.Assign place a subs value → p ≡ subs → q ≡ subs → one ≡ old ++ seen_in_all p path c → two ≡ one ++ seen_in value path c → new ≡ two ++ one_seen Writes a q path c ∷ []
    → Collected ranges (ranges_in x path) ranges old (seen_in_stmt adds x path c band) new
assign_more adds x place a subs p q value path ranges c band old one two new is s t h k l =
    collected_here ranges (ranges_in x path) old _ _ new (ap (λ z. ranges_in z path) is ∙ ap (λ k. k path) (fold_stmt-Assign ranges_at ranges_within place a subs value))
    (ap (λ z. seen_in_stmt adds z path c band) is ∙ seen-Assign adds place a subs value path c band)
    (two_lists old one new (seen_in_all subs path c) (seen_in value path c ++ one_seen Writes a subs path c ∷ []) (h ∙ ap (λ z. old ++ seen_in_all z path c) s)
    (two_lists one two new (seen_in value path c) (one_seen Writes a subs path c ∷ []) k (l ∙ ap (λ z. two ++ one_seen Writes a z path c ∷ []) t)))

pub add_more : (adds : Adding) (x : Stmt) (place a : ℕ) (subs p q : List Expr) (value : Expr) (atomic shared : Bool) (path ranges : List Range) (c : Bool) (band : ℕ) (old one new : List Reference)
    → x ≡ stmt.AddTo place a subs value atomic → p ≡ subs → q ≡ subs → shared ≡ adds a atomic → one ≡ old ++ seen_in_all p path c → new ≡ one ++ seen_addition shared a q value path c
    → Collected ranges (ranges_in x path) ranges old (seen_in_stmt adds x path c band) new
add_more adds x place a subs p q value atomic shared path ranges c band old one new is s t b h k =
    collected_here ranges (ranges_in x path) old _ _ new (ap (λ z. ranges_in z path) is ∙ ap (λ k. k path) (fold_stmt-AddTo ranges_at ranges_within place a subs value atomic))
    (ap (λ z. seen_in_stmt adds z path c band) is ∙ seen-AddTo adds place a subs value atomic path c band)
    (two_lists old one new (seen_in_all subs path c) (seen_addition (adds a atomic) a subs value path c) (h ∙ ap (λ z. old ++ seen_in_all z path c) s) (k ∙ (λ i. one ++ seen_addition (b i) a (t i) value path c)))

pub declare_more : (adds : Adding) (x : Stmt) (place n : ℕ) (init : Option Expr) (path ranges : List Range) (c : Bool) (band : ℕ) (old new : List Reference)
    → x ≡ stmt.Declare place n init → new ≡ old ++ seen_init init path c → Collected ranges (ranges_in x path) ranges old (seen_in_stmt adds x path c band) new
declare_more adds x place n init path ranges c band old new is h =
    collected_here ranges (ranges_in x path) old _ _ new (ap (λ z. ranges_in z path) is ∙ ap (λ k. k path) (fold_stmt-Declare ranges_at ranges_within place n init))
    (ap (λ z. seen_in_stmt adds z path c band) is ∙ seen-Declare adds place n init path c band) h

pub set_more : (adds : Adding) (x : Stmt) (place n : ℕ) (value : Expr) (path ranges : List Range) (c : Bool) (band : ℕ) (old new : List Reference)
    → x ≡ stmt.SetLocal place n value → new ≡ old ++ seen_in value path c → Collected ranges (ranges_in x path) ranges old (seen_in_stmt adds x path c band) new
set_more adds x place n value path ranges c band old new is h =
    collected_here ranges (ranges_in x path) old _ _ new (ap (λ z. ranges_in z path) is ∙ ap (λ k. k path) (fold_stmt-SetLocal ranges_at ranges_within place n value))
    (ap (λ z. seen_in_stmt adds z path c band) is ∙ seen-SetLocal adds place n value path c band) h

pub if_more : (adds : Adding) (x : Stmt) (place : ℕ) (test : Expr) (body otherwise p q : List Stmt) (path ranges mid rest : List Range) (c : Bool) (band : ℕ) (old one two new : List Reference)
    → x ≡ stmt.If place test body otherwise → p ≡ body → q ≡ otherwise → one ≡ old ++ seen_in test path c
    → Collected ranges (ranges_in_list p path) mid one (seen_in_list adds p path true band) two → Collected mid (ranges_in_list q path) rest two (seen_in_list adds q path true band) new
    → Collected ranges (ranges_in x path) rest old (seen_in_stmt adds x path c band) new
if_more adds x place test body otherwise p q path ranges mid rest c band old one two new is s t h k l =
    collected_as ranges (ranges_in x path) (ranges_in_list body path ++ ranges_in_list otherwise path) rest old _ (seen_in test path c ++ (seen_in_list adds body path true band ++ seen_in_list adds otherwise path true band)) new
    (ap (λ z. ranges_in z path) is ∙ ap (λ k. k path) (fold_stmt-If ranges_at ranges_within place test body otherwise)) (ap (λ z. seen_in_stmt adds z path c band) is ∙ seen-If adds place test body otherwise path c band)
    (λ left e.
    let both = collected_then ranges (ranges_in_list body path) mid (ranges_in_list otherwise path) rest one (seen_in_list adds body path true band) two (seen_in_list adds otherwise path true band) new
    (subst (λ z. Collected ranges (ranges_in_list z path) mid one (seen_in_list adds z path true band) two) s k) (subst (λ z. Collected mid (ranges_in_list z path) rest two (seen_in_list adds z path true band) new) t l) left e in
    (both.0, two_lists old one new (seen_in test path c) _ h both.1))

pub block_more : (adds : Adding) (x : Stmt) (body p : List Stmt) (path ranges rest : List Range) (c : Bool) (band : ℕ) (old new : List Reference)
    → x ≡ stmt.Block body → p ≡ body → Collected ranges (ranges_in_list p path) rest old (seen_in_list adds p path c band) new → Collected ranges (ranges_in x path) rest old (seen_in_stmt adds x path c band) new
block_more adds x body p path ranges rest c band old new is s h =
    collected_as ranges (ranges_in x path) (ranges_in_list body path) rest old _ (seen_in_list adds body path c band) new
    (ap (λ z. ranges_in z path) is ∙ ap (λ k. k path) (fold_stmt-Block ranges_at ranges_within body)) (ap (λ z. seen_in_stmt adds z path c band) is ∙ seen-Block adds body path c band)
    (subst (λ z. Collected ranges (ranges_in_list z path) rest old (seen_in_list adds z path c band) new) s h)

pub for_more : (adds : Adding) (x : Stmt) (l : Loop) (path ranges rest : List Range) (c : Bool) (band : ℕ) (old new : List Reference)
    → x ≡ stmt.For l → Collected ranges (ranges_in_loop l path) rest old (seen_in_loop adds l path c band) new → Collected ranges (ranges_in x path) rest old (seen_in_stmt adds x path c band) new
for_more adds x l path ranges rest c band old new is h =
    collected_as ranges (ranges_in x path) (ranges_in_loop l path) rest old _ (seen_in_loop adds l path c band) new
    (ap (λ z. ranges_in z path) is ∙ ap (λ k. k path) (fold_stmt-For ranges_at ranges_within l))
    (ap (λ z. seen_in_stmt adds z path c band) is ∙ seen-For adds l path c band) h

list-append : (adds : Adding) (xs ys : List Stmt) (path : List Range) (c : Bool) (band : ℕ) → seen_in_list adds (xs ++ ys) path c band ≡ seen_in_list adds xs path c band ++ seen_in_list adds ys path c band
list-append adds [] ys path c band = refl
list-append adds (x ∷ xs) ys path c band = ap (λ l. seen_in_stmt adds x path c band ++ l) (list-append adds xs ys path c band) ∙ sym (append_assoc (seen_in_stmt adds x path c band) (seen_in_list adds xs path c band) (seen_in_list adds ys path c band))

ranges-append : (xs ys : List Stmt) (path : List Range) → ranges_in_list (xs ++ ys) path ≡ ranges_in_list xs path ++ ranges_in_list ys path
ranges-append [] ys path = refl
ranges-append (x ∷ xs) ys path = ap (λ l. ranges_in x path ++ l) (ranges-append xs ys path) ∙ sym (append_assoc (ranges_in x path) (ranges_in_list xs path) (ranges_in_list ys path))

pub next_stmt : (adds : Adding) (all : List Stmt) (i : ℕ) (x : Stmt) (path ranges mid rest : List Range) (c : Bool) (band : ℕ) (first old new : List Reference) → x ≡ get_or all i x → i < length all
    → Collected mid (ranges_in x path) rest old (seen_in_stmt adds x path c band) new → Collected ranges (ranges_in_list (take i all) path) mid first (seen_in_list adds (take i all) path c band) old
    → Collected ranges (ranges_in_list (take (i + 1) all) path) rest first (seen_in_list adds (take (i + 1) all) path c band) new
next_stmt adds all i x path ranges mid rest c band first old new at within h k =
    let items : take (i + 1) all ≡ take i all ++ x ∷ [] = take_more all i x within ∙ ap (λ y. take i all ++ y ∷ []) (sym at) in
    collected_as ranges _ (ranges_in_list (take i all) path ++ ranges_in x path) rest first _ (seen_in_list adds (take i all) path c band ++ seen_in_stmt adds x path c band) new
    (ap (λ l. ranges_in_list l path) items ∙ ranges-append (take i all) (x ∷ []) path ∙ ap (λ l. ranges_in_list (take i all) path ++ l) (append-nil (ranges_in x path)))
    (ap (λ l. seen_in_list adds l path c band) items ∙ list-append adds (take i all) (x ∷ []) path c band ∙ ap (λ l. seen_in_list adds (take i all) path c band ++ l) (append-nil (seen_in_stmt adds x path c band)))
    (collected_then ranges _ mid _ rest first _ old _ new k h)

pub all_stmts : (adds : Adding) (all : List Stmt) (i : ℕ) (path ranges rest : List Range) (c : Bool) (band : ℕ) (first new : List Reference) → length all ≤ i
    → Collected ranges (ranges_in_list (take i all) path) rest first (seen_in_list adds (take i all) path c band) new → Collected ranges (ranges_in_list all path) rest first (seen_in_list adds all path c band) new
all_stmts adds all i path ranges rest c band first new past h = subst (λ z. Collected ranges (ranges_in_list z path) rest first (seen_in_list adds z path c band) new) (take_all i all past) h

-- ---- loops

abbrev head_of : Range → List Range → Range
head_of r [] = r
head_of r (x ∷ xs) = x

abbrev tail_of : List Range → List Range
tail_of [] = []
tail_of (x ∷ xs) = xs

both_false : (a b : Bool) → a ≡ false → (a && b) ≡ true → ⊥
both_false true b p h = absurd cc
both_false false b p h = absurd cc

unless_is : (band : ℕ) (empty t : Bool) (l : List Reference) → is_left_out band empty ≡ t → unless_left_out band empty l ≡ (if t then [] else l)
unless_is zero true true l h = refl
unless_is zero true false l h = absurd cc
unless_is zero false true l h = absurd cc
unless_is zero false false l h = refl
unless_is (suc band) empty true l h = let no_band : nat_eq (suc band) 0 ≡ false = grind (arith, nat_tests) in absurd (both_false (nat_eq (suc band) 0) empty no_band h)
unless_is (suc band) empty false l h = refl

kept_or_not : (t : Bool) (old l new last : List Reference) → new ≡ old ++ l → last ≡ (if t then old else new) → last ≡ old ++ (if t then [] else l)
kept_or_not true old l new last h k = k ∙ sym (append-nil old)
kept_or_not false old l new last h k = k ∙ h

pub loop_more : (adds : Adding) (l : Loop) (path ranges after inner rest : List Range) (range : Range) (p : List Stmt) (c : Bool) (band below : ℕ) (dropped : Bool) (old new last : List Reference)
    → ranges ≡ range ∷ after → inner ≡ path ++ range ∷ [] → p ≡ (out-Loop l).body → below ≡ band - 1
    → Collected after (ranges_in_list p inner) rest old (seen_in_list adds p inner c below) new
    → is_left_out band (has_empty inner) ≡ dropped → ((more : List Reference) → new ≡ old ++ more → last ≡ (if dropped then old else new))
    → Collected ranges (ranges_in_loop l path) rest old (seen_in_loop adds l path c band) last
loop_more adds l path ranges after inner rest range p c band below dropped old new last is within body less h drop end left e =
    let r = range_of path (out-Loop l) in
    let deep = path ++ r ∷ [] in
    let own = ranges_in_list (out-Loop l).body deep in
    let split : range ∷ after ≡ r ∷ (own ++ left) = sym is ∙ e ∙ ap (λ z. z path ++ left) (fold_loop-out ranges_at ranges_within l) in
    let same : range ≡ r = ap (head_of range) split in
    let path_is : inner ≡ deep = within ∙ ap (λ z. path ++ z ∷ []) same in
    let moved : Collected after own rest old (seen_in_list adds (out-Loop l).body deep c (band - 1)) new =
    subst (λ z. Collected after (ranges_in_list z deep) rest old (seen_in_list adds z deep c (band - 1)) new) body
    (subst (λ z. Collected after (ranges_in_list p z) rest old (seen_in_list adds p z c (band - 1)) new) path_is
    (subst (λ z. Collected after (ranges_in_list p inner) rest old (seen_in_list adds p inner c z) new) less h))
    in
    let done = moved left (ap tail_of split) in
    let shown : seen_in_loop adds l path c band ≡ (if dropped then [] else seen_in_list adds (out-Loop l).body deep c (band - 1)) =
    seen-Loop adds l path c band ∙ unless_is band (has_empty deep) dropped _ (sym (ap (λ z. is_left_out band (has_empty z)) path_is) ∙ drop)
    in
    (done.0, kept_or_not dropped old _ new last done.1 (end _ done.1) ∙ ap (λ z. old ++ z) (sym shown))

-- a list of at least one, taken apart
pub first_is : {X : Type 0} (xs : List X) (d : X) → 1 ≤ length xs → xs ≡ get_or xs 0 d ∷ take (length xs - 1) (drop 1 xs)
first_is [] d h = absurd (omega (arith, h))
first_is (x ∷ xs) d h =
    let less : suc (length xs) - 1 ≡ length xs = omega arith in
    let whole : take (suc (length xs) - 1) xs ≡ xs = ap (λ n. take n xs) less ∙ take_all (length xs) xs (omega arith) in
    ap (λ l. x ∷ l) (sym whole)

abbrev first_seen : {Y : Type 0} → Y → List Y → Y
first_seen d [] = d
first_seen d (z ∷ zs) = z

abbrev rest_seen : {Y : Type 0} → List Y → List Y
rest_seen [] = []
rest_seen (z ∷ zs) = zs

-- what stood before more was put behind it
pub take_front : {X Y : Type 0} (f : X → Y) (old new : List X) (more : List Y) (n : ℕ) → n ≡ length old → map f new ≡ map f old ++ more → map f (take n new) ≡ map f old
take_front f [] new more n same h = ap (λ k. map f (take k new)) same
take_front f (x ∷ old) [] more n same h = absurd cc
take_front f (x ∷ old) (y ∷ new) more zero same h = absurd (omega (arith, same))
take_front f (x ∷ old) (y ∷ new) more (suc n) same h =
    (λ i. first_seen (f x) (h i) ∷ take_front f old new more n (omega (arith, same)) (ap rest_seen h) i)
