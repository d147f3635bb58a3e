-- The readers of statements are lawful.
use Rattle.std.proofs.Common.{◌≡◌, ◌∙◌, ap, sym, refl, subst, ℕ, zero, suc, ◌<◌, ◌≤◌, List, [], ◌∷◌, ◌++◌, length, Option, Some, None, Bool, true, false, arith, length-append, append_assoc, append-nil, inl, inr}
use Rattle.species_grammar.specs.Reader.{is_of, starts, word, both, mapped, choose, skip, ends, maybe, maybe_word}
use Rattle.species_grammar.specs.Lawful.{Spelled, Before, Lawful, plain, word_spelled, both_before, both_spelled, mapped_before, mapped_spelled, choose_before, choose_spelled, skip_before, skip_spelled, ends_before, ends_spelled, maybe_before, maybe_spelled, maybe_word_before, Short, until_before, until_spelled}
use Rattle.species_grammar.proofs.Laws.{recast, recast_plain, both_with, both_lawful, mapped_lawful, word_lawful, choose_lawful, skip_lawful, ends_lawful, maybe_lawful, until_lawful, shallow_lawful}
use Rattle.species_ast.specs.Token.{Token}
use Rattle.species_ast.specs.Spelling.{Spelling}
use Rattle.species_ast.specs.Grammar.Words.{punctuator, keyword, name, species, parallel, atomic}
use Rattle.species_ast.specs.Grammar.Expressions.{Expression, Target}
use Rattle.species_ast.specs.Grammar.Declarations.{LocalDeclaration, statement}
use Rattle.species_ast.specs.Grammar.Statements.{Change, Header, ForHeader, SpeciesLine, ParallelLine, loop, Statement, BlockItems}
use Rattle.species_ast.specs.declared.tree.Schedule.{Schedule}
use Rattle.species_ast.specs.declared.raw.RawExpr.{RawExpr}
use Rattle.species_ast.specs.declared.raw.RawChange.{RawChange}
use Rattle.species_ast.specs.declared.raw.RawStmt.{RawStmt}
use Rattle.species_ast.specs.declared.raw.RawWhat.TheVariants as what
use Rattle.species_parser.specs.Words.{the_punctuator, the_keyword, species_lines, parallel_lines, atomic_lines, is_the_punctuator, is_the_keyword, is_type, is_loop}
use Rattle.species_parser.specs.Reading.{expression_at, target_at, declaration_at, change_at, assignment_of, assignment_at, atomic_of, atomic_at, header_at, parallel_of, parallel_reader, loop_of, loop_at, condition_at, if_of, if_at, items_at, block_of, block_at, empty_of, statement_at}
use Rattle.species_parser.proofs.Words.{punctuator_is_word, keyword_is_word, atomic_is_word, clash}
use Rattle.species_parser.proofs.ExpressionLaws.{ExprBefore}
use Rattle.species_parser.proofs.Operands.{TargetBefore, target_lawful, expression_lawful}
use Rattle.species_parser.proofs.DeclarationLaws.{DeclarationBefore, declaration_lawful, declaration_starts}
use Rattle.species_parser.proofs.HeaderLaws.{ChangeBefore, change_lawful, after_target, header_lawful, species_lawful, species_full, parallel_lawful, parallel_full}

-- ---- the words

abbrev pub NoElse : List Token → Type 0
NoElse rest = starts (is_the_keyword "else") rest ≡ false

abbrev pub StmtV : Spelled Token RawStmt
StmtV x front = (b : Bool) × Statement b x front

-- before what follows, as the nearest if takes an else
abbrev pub StmtS : Before Token RawStmt
StmtS x front rest = (b : Bool) × Statement b x front × (b ≡ true → NoElse rest)

abbrev pub StmtF : ℕ → Before Token RawStmt
StmtF n x front rest = (b : Bool) × Statement b x front × (b ≡ true → NoElse rest) × (length front < n)

abbrev pub StmtLaw : ℕ → Type 0
StmtLaw n = Lawful (statement_at n) StmtS (StmtF n) StmtV

closed_s : (x : RawStmt) (front rest : List Token) → Statement false x front → StmtS x front rest
closed_s x front rest d = (false, d, λ e. absurd (clash (sym e)))

-- ---- how a statement begins

-- what a test says of each token that begins a statement
record Begins (c : Token → Bool) (b : Bool) : Type 0 where
  semicolon : (p : ℕ) → c (punctuator p ";") ≡ b
  brace : (p : ℕ) → c (punctuator p "{") ≡ b
  up : (p : ℕ) → c (punctuator p "++") ≡ b
  down : (p : ℕ) → c (punctuator p "--") ≡ b
  named : (n : Spelling) → c (name n) ≡ b
  if_word : (p : ℕ) → c (keyword p "if") ≡ b
  for_word : (p : ℕ) → c (keyword p "for") ≡ b
  line : (n : Spelling) → c (species n) ≡ b
  parallel_line : (n : Spelling) (d : ℕ) (s : Schedule) → c (parallel n d s) ≡ b
  atomic_line : (n : Spelling) → c (atomic n) ≡ b

change_starts : (c : Token → Bool) (b : Bool) → ((p : ℕ) → c (punctuator p "++") ≡ b) → ((p : ℕ) → c (punctuator p "--") ≡ b) → ((n : Spelling) → c (name n) ≡ b)
    → (p : ℕ) (x : RawChange) (cs rest : List Token) → Change p x cs → starts c (cs ++ rest) ≡ b
change_starts c b u d m p x cs rest (Change.set q o t e ts xs td xd) = after_target c b m t ts _ rest td
change_starts c b u d m p x cs rest (Change.up q t ts td) = after_target c b m t ts _ rest td
change_starts c b u d m p x cs rest (Change.down q t ts td) = after_target c b m t ts _ rest td
change_starts c b u d m p x cs rest (Change.up_before q t ts td) = u q
change_starts c b u d m p x cs rest (Change.down_before q t ts td) = d q

statement_starts : (c : Token → Bool) (b : Bool) → Begins c b → (o : Bool) (x : RawStmt) (ts rest : List Token) → Statement o x ts → starts c (ts ++ rest) ≡ b
statement_starts c b h o x ts rest (Statement.empty p) = h.semicolon p
statement_starts c b h o x ts rest (Statement.block p xs us d) = h.brace p
statement_starts c b h o x ts rest (Statement.assignment p q k cs d) = ap (starts c) (append_assoc cs (punctuator q ";" ∷ []) rest) ∙ change_starts c b h.up h.down h.named p k cs (punctuator q ";" ∷ rest) d
statement_starts c b h o x ts rest (Statement.atomic_assignment p q n t e us xs td xd) = h.atomic_line n
statement_starts c b h o x ts rest (Statement.if_only o' p q r e s xs ss xd sd) = h.if_word p
statement_starts c b h o x ts rest (Statement.if_else o' p q r u e s t xs ss us xd sd td) = h.if_word p
statement_starts c b h o x ts rest (Statement.for o' p l m hd s ls ms hs ss (SpeciesLine.present k) md hh sd) = h.line k
statement_starts c b h o x ts rest (Statement.for o' p l m hd s ls ms hs ss SpeciesLine.absent (ParallelLine.present k d e) hh sd) = h.parallel_line k d e
statement_starts c b h o x ts rest (Statement.for o' p l m hd s ls ms hs ss SpeciesLine.absent ParallelLine.absent hh sd) = h.for_word p

any_token : Begins (λ t. true) true
any_token = record {
  semicolon = λ p. refl;
  brace = λ p. refl;
  up = λ p. refl;
  down = λ p. refl;
  named = λ n. refl;
  if_word = λ p. refl;
  for_word = λ p. refl;
  line = λ n. refl;
  parallel_line = λ n d s. refl;
  atomic_line = λ n. refl;
}

not_else : Begins (is_the_keyword "else") false
not_else = record {
  semicolon = λ p. refl;
  brace = λ p. refl;
  up = λ p. refl;
  down = λ p. refl;
  named = λ n. refl;
  if_word = λ p. refl;
  for_word = λ p. refl;
  line = λ n. refl;
  parallel_line = λ n d s. refl;
  atomic_line = λ n. refl;
}

not_end : Begins (is_the_punctuator "}") false
not_end = record {
  semicolon = λ p. refl;
  brace = λ p. refl;
  up = λ p. refl;
  down = λ p. refl;
  named = λ n. refl;
  if_word = λ p. refl;
  for_word = λ p. refl;
  line = λ n. refl;
  parallel_line = λ n d s. refl;
  atomic_line = λ n. refl;
}

not_type : Begins is_type false
not_type = record {
  semicolon = λ p. refl;
  brace = λ p. refl;
  up = λ p. refl;
  down = λ p. refl;
  named = λ n. refl;
  if_word = λ p. refl;
  for_word = λ p. refl;
  line = λ n. refl;
  parallel_line = λ n d s. refl;
  atomic_line = λ n. refl;
}

long : (ts : List Token) → starts (λ t. true) (ts ++ []) ≡ true → 1 ≤ length ts
long [] h = absurd (clash (sym h))
long (t ∷ ts) h = omega arith

pub statement_long : (o : Bool) (x : RawStmt) (ts : List Token) → Statement o x ts → 1 ≤ length ts
statement_long o x ts d = long ts (statement_starts (λ t. true) true any_token o x ts [] d)

pub declaration_long : (x : RawStmt) (ts : List Token) → LocalDeclaration x ts → 1 ≤ length ts
declaration_long x ts d = long ts (declaration_starts (λ t. true) true (λ p. refl) (λ p. refl) (λ p. refl) x ts [] d)

-- ---- blocks

items_no_else : (xs : List RawStmt) (us rest : List Token) → BlockItems xs us → NoElse (us ++ rest)
items_no_else xs us rest (BlockItems.end p) = refl
items_no_else xs us rest (BlockItems.item o x ys ts vs d ds) = ap (starts (is_the_keyword "else")) (append_assoc ts vs rest) ∙ statement_starts (is_the_keyword "else") false not_else o x ts (vs ++ rest) d
items_no_else xs us rest (BlockItems.declaration x ys ts vs d ds) = ap (starts (is_the_keyword "else")) (append_assoc ts vs rest) ∙ declaration_starts (is_the_keyword "else") false (λ p. refl) (λ p. refl) (λ p. refl) x ts (vs ++ rest) d

items_short : (ys : List RawStmt) (us : List Token) → BlockItems ys us → length ys < length us
items_short ys us (BlockItems.end p) = omega arith
items_short ys us (BlockItems.item o x zs ts vs d ds) = let ih = items_short zs vs ds in let l = length-append ts vs in let one = statement_long o x ts d in omega (arith, ih, l, one)
items_short ys us (BlockItems.declaration x zs ts vs d ds) = let ih = items_short zs vs ds in let l = length-append ts vs in let one = declaration_long x ts d in omega (arith, ih, l, one)

abbrev pub ItemsBefore : ℕ → Before Token (List RawStmt)
ItemsBefore n xs front rest = BlockItems xs front × (length front < n)

abbrev ItemV : Spelled Token RawStmt
ItemV = choose_spelled LocalDeclaration StmtV

abbrev ItemF : ℕ → Before Token RawStmt
ItemF n = choose_before is_type (DeclarationBefore n) (StmtF n)

items_viable : (xs : List RawStmt) (front : List Token) → until_spelled (the_punctuator "}") ItemV xs front → BlockItems xs front
items_viable [] front (p, h) = subst (BlockItems []) (sym h) (BlockItems.end p)
items_viable (x ∷ xs) front (a, b, i, inr (o, d), m) = subst (BlockItems (x ∷ xs)) (sym i) (BlockItems.item o x xs a b d (items_viable xs b m))
items_viable (x ∷ xs) front (a, b, i, inl d, m) = subst (BlockItems (x ∷ xs)) (sym i) (BlockItems.declaration x xs a b d (items_viable xs b m))

items_full : (n : ℕ) (xs : List RawStmt) (front rest : List Token) → BlockItems xs front → length front < n → Short n (until_before (the_punctuator "}") (ItemF n)) xs front rest
items_full n xs front rest (BlockItems.end p) lt = let z : 0 < n = omega (arith, lt) in (z, (p, refl))
items_full n xs front rest (BlockItems.item o x ys ts us d ds) lt =
    let l0 = length-append ts us in
    let one = statement_long o x ts d in
    let few = items_short ys us ds in
    let l1 : length ts < n = omega (arith, lt, l0, few) in
    let l2 : length us < n = omega (arith, lt, l0) in
    let m = items_full n ys us rest ds l2 in
    let short : length (x ∷ ys) < n = omega (arith, lt, l0, one, few) in
    (short, (ts, us, refl, inr (statement_starts is_type false not_type o x ts (us ++ rest) d, (o, d, (λ e. items_no_else ys us rest ds), l1)), m.1))
items_full n xs front rest (BlockItems.declaration x ys ts us d ds) lt =
    let l0 = length-append ts us in
    let one = declaration_long x ts d in
    let few = items_short ys us ds in
    let l1 : length ts < n = omega (arith, lt, l0, few) in
    let l2 : length us < n = omega (arith, lt, l0) in
    let m = items_full n ys us rest ds l2 in
    let short : length (x ∷ ys) < n = omega (arith, lt, l0, one, few) in
    (short, (ts, us, refl, inl (declaration_starts is_type true (λ p. refl) (λ p. refl) (λ p. refl) x ts (us ++ rest) d, (d, l1)), m.1))

item_not_end : (n : ℕ) (x : RawStmt) (a rest : List Token) → ItemF n x a rest → starts (is_the_punctuator "}") (a ++ rest) ≡ false
item_not_end n x a rest (inl (h, (d, lt))) = declaration_starts (is_the_punctuator "}") false (λ p. refl) (λ p. refl) (λ p. refl) x a rest d
item_not_end n x a rest (inr (h, (o, d, k, lt))) = statement_starts (is_the_punctuator "}") false not_end o x a rest d

-- ---- the alternatives

abbrev CondV : Spelled Token RawExpr
CondV = skip_spelled (the_punctuator "(") (ends_spelled (Expression 0) (the_punctuator ")"))

abbrev CondS : Before Token RawExpr
CondS = skip_before (the_punctuator "(") (ends_before (plain (Expression 0)) (the_punctuator ")"))

abbrev CondF : ℕ → Before Token RawExpr
CondF n = skip_before (the_punctuator "(") (ends_before (ExprBefore n 0) (the_punctuator ")"))

condition_lawful : (n : ℕ) → Lawful (condition_at n) CondS (CondF n) CondV
condition_lawful n = skip_lawful (the_punctuator "(") (punctuator_is_word "(") (ends (expression_at n) (the_punctuator ")")) _ _ _ (ends_lawful (expression_at n) (the_punctuator ")") (punctuator_is_word ")") _ _ _ (expression_lawful n))

abbrev Closed : Spelled Token RawStmt
Closed = Statement false

abbrev EmptyF : Before Token RawStmt
EmptyF = mapped_before empty_of (plain (word_spelled (the_punctuator ";")))

empty_lawful : Lawful (mapped empty_of (word (the_punctuator ";"))) (plain Closed) EmptyF Closed
empty_lawful =
    recast_plain (mapped empty_of (word (the_punctuator ";"))) _ _ _ _ Closed (mapped_lawful empty_of (word (the_punctuator ";")) _ _ _ (word_lawful (the_punctuator ";") (punctuator_is_word ";")))
    (λ x front rest h. h)
    (λ x front (p, y, h). subst (λ z. Closed z front) y (subst (Closed (empty_of p)) (sym h) (Statement.empty p)))

abbrev AssignF : ℕ → Before Token RawStmt
AssignF n = mapped_before assignment_of (ends_before (ChangeBefore n) (the_punctuator ";"))

assignment_lawful : (n : ℕ) → Lawful (assignment_at n) (plain Closed) (AssignF n) Closed
assignment_lawful n =
    recast_plain (assignment_at n) _ _ _ _ Closed
    (mapped_lawful assignment_of (ends (change_at n) (the_punctuator ";")) _ _ _ (ends_lawful (change_at n) (the_punctuator ";") (punctuator_is_word ";") _ _ _ (change_lawful n)))
    (λ x front rest h. h)
    (λ x front (p, y, (q, cs, i, d)). subst (λ z. Closed z front) y (subst (Closed (assignment_of p)) (sym i) (Statement.assignment p.0 q p.1 cs d)))

abbrev AtomicF : ℕ → Before Token RawStmt
AtomicF n = skip_before atomic_lines (mapped_before atomic_of (both_before (TargetBefore n) (skip_before (the_punctuator "+=") (ends_before (ExprBefore n 0) (the_punctuator ";")))))

atomic_viable : (x : RawStmt) (front : List Token) → skip_spelled atomic_lines (mapped_spelled atomic_of (both_spelled Target (skip_spelled (the_punctuator "+=") (ends_spelled (Expression 0) (the_punctuator ";"))))) x front → Closed x front
atomic_viable x front (n, b, i, (p, y, (ts, c, j, td, (q, d, k, (r, xs, m, xd))))) =
    subst (λ z. Closed z front) y
    (subst (Closed (atomic_of p)) (sym (i ∙ ap (λ z. atomic n ∷ z) (j ∙ ap (λ z. ts ++ z) (k ∙ ap (λ z. punctuator q "+=" ∷ z) m)))) (Statement.atomic_assignment q r n p.0 p.1 ts xs td xd))

atomic_lawful : (n : ℕ) → Lawful (atomic_at n) (plain Closed) (AtomicF n) Closed
atomic_lawful n =
    recast_plain (atomic_at n) _ _ _ _ Closed
    (skip_lawful atomic_lines atomic_is_word (mapped atomic_of (both (target_at n) (skip (the_punctuator "+=") (ends (expression_at n) (the_punctuator ";"))))) _ _ _
    (mapped_lawful atomic_of (both (target_at n) (skip (the_punctuator "+=") (ends (expression_at n) (the_punctuator ";")))) _ _ _
    (both_lawful (target_at n) (skip (the_punctuator "+=") (ends (expression_at n) (the_punctuator ";"))) _ _ _ _ _ _ (target_lawful n)
    (skip_lawful (the_punctuator "+=") (punctuator_is_word "+=") (ends (expression_at n) (the_punctuator ";")) _ _ _ (ends_lawful (expression_at n) (the_punctuator ";") (punctuator_is_word ";") _ _ _ (expression_lawful n))))))
    (λ x front rest h. h)
    atomic_viable

-- ---- if

only_is : (b : Bool) (x : RawExpr) (s : RawStmt) (r t : ℕ) (front a c d e : List Token) → front ≡ a ++ c → a ≡ punctuator r "(" ∷ d → d ≡ e ++ punctuator t ")" ∷ [] → Expression 0 x e → Statement b s c
    → (q : ℕ) → Statement true (if_of (q, ((x, s), None))) (keyword q "if" ∷ front)
only_is b x s r t front a c d e i j k xd sd q =
    subst (λ z. Statement true (if_of (q, ((x, s), None))) (keyword q "if" ∷ z)) (sym (i ∙ ap (λ z. z ++ c) (j ∙ ap (λ z. punctuator r "(" ∷ z) k))) (Statement.if_only b q r t x s e c xd sd)

else_is : (b : Bool) (x : RawExpr) (s y : RawStmt) (r t v : ℕ) (front f a c d e g g' : List Token) → front ≡ f ++ g → g ≡ keyword v "else" ∷ g' → f ≡ a ++ c → a ≡ punctuator r "(" ∷ d → d ≡ e ++ punctuator t ")" ∷ [] → Expression 0 x e → Statement false s c → Statement b y g'
    → (q : ℕ) → Statement b (if_of (q, ((x, s), Some y))) (keyword q "if" ∷ front)
else_is b x s y r t v front f a c d e g g' m u i j k xd sd yd q =
    subst (λ z. Statement b (if_of (q, ((x, s), Some y))) (keyword q "if" ∷ z)) (sym (m ∙ ap (λ z. f ++ z) u ∙ ap (λ z. z ++ keyword v "else" ∷ g') (i ∙ ap (λ z. z ++ c) (j ∙ ap (λ z. punctuator r "(" ∷ z) k))))
    (Statement.if_else b q r t v x s y e c g' xd sd yd)

-- the body before an else is closed
shut : (o : Bool) (s : RawStmt) (b rest : List Token) (v : ℕ) → Statement o s b → (o ≡ true → NoElse (keyword v "else" ∷ rest)) → Statement false s b
shut false s b rest v d h = d
shut true s b rest v d h = absurd (clash (h refl))

abbrev IfV : Spelled Token ((RawExpr × RawStmt) × Option RawStmt)
IfV p front = (b : Bool) × ((q : ℕ) → Statement b (if_of (q, p)) (keyword q "if" ∷ front))

abbrev IfS : Before Token ((RawExpr × RawStmt) × Option RawStmt)
IfS p front rest = (b : Bool) × ((q : ℕ) → Statement b (if_of (q, p)) (keyword q "if" ∷ front)) × (b ≡ true → NoElse rest)

abbrev PartsS : Before Token ((RawExpr × RawStmt) × Option RawStmt)
PartsS = both_before (both_before CondS StmtS) (maybe_before (the_keyword "else") StmtS)

abbrev PartsF : ℕ → Before Token ((RawExpr × RawStmt) × Option RawStmt)
PartsF n = both_before (both_before (CondF n) (StmtF n)) (maybe_before (the_keyword "else") (StmtF n))

if_said : (p : (RawExpr × RawStmt) × Option RawStmt) (front rest : List Token) → PartsS p front rest → IfS p front rest
if_said (p, None) front rest (f, g, i, (a, b, j, (r, c, k, (t, d, m, e)), (o, s, h)), (u, w)) =
    (true, only_is o p.0 p.1 r t front a b c d (i ∙ ap (λ z. f ++ z) u ∙ append-nil f ∙ j) k m e s, λ e. w)
if_said (p, Some y) front rest (f, g, i, (a, b, j, (r, c, k, (t, d, m, e)), (o, s, h)), (v, g', u, (o', s', h'))) =
    (o', else_is o' p.0 p.1 y r t v front f a b c d g g' i u j k m e (shut o p.1 b (g' ++ rest) v s (subst (λ z. o ≡ true → NoElse (z ++ rest)) u h)) s', h')

if_early : (p : RawExpr × RawStmt) (f : List Token) → both_spelled CondV StmtV p f → (w : (RawExpr × RawStmt) × Option RawStmt) × (m : List Token) × IfV w (f ++ m)
if_early p f (a, b, j, (r, c, k, (t, d, m, e)), (o, s)) = ((p, None), [], (true, only_is o p.0 p.1 r t (f ++ []) a b c d (append-nil f ∙ j) k m e s))

if_later : (p : RawExpr × RawStmt) (f next : List Token) → both_before CondS StmtS p f next → (y : Option RawStmt) (g back more : List Token) → next ≡ g ++ back → maybe_spelled (the_keyword "else") StmtV y (g ++ more)
    → (w : (RawExpr × RawStmt) × Option RawStmt) × (m : List Token) × IfV w (f ++ (g ++ m))
if_later p f next (a, b, j, (r, c, k, (t, d, m, e)), (o, s, h)) y [] back more n v = if_early p f (a, b, j, (r, c, k, (t, d, m, e)), (o, s))
if_later p f next (a, b, j, (r, c, k, (t, d, m, e)), (o, s, h)) None (w ∷ g) back more n v = cc
if_later p f next (a, b, j, (r, c, k, (t, d, m, e)), (o, s, h)) (Some y) (w ∷ g) back more n (q, g', u, (o', s')) =
    let first : w ≡ keyword q "else" = cc in
    let here : next ≡ keyword q "else" ∷ (g ++ back) = n ∙ ap (λ z. z ∷ (g ++ back)) first in
    ((p, Some y), more, (o', else_is o' p.0 p.1 y r t q (f ++ ((w ∷ g) ++ more)) f a b c d ((w ∷ g) ++ more) g' refl u j k m e (shut o p.1 b (g ++ back) q s (subst (λ z. o ≡ true → NoElse z) here h)) s'))

module _ (n : ℕ) (l : StmtLaw n) where
  parts_lawful : Lawful (both (both (condition_at n) (statement_at n)) (maybe (the_keyword "else") (statement_at n))) IfS (PartsF n) IfV
  parts_lawful =
      recast (both (both (condition_at n) (statement_at n)) (maybe (the_keyword "else") (statement_at n))) PartsS _ IfS (PartsF n) IfV IfV
      (both_with (both (condition_at n) (statement_at n)) (maybe (the_keyword "else") (statement_at n)) _ _ _ _ _ _
      (both_lawful (condition_at n) (statement_at n) _ _ _ _ _ _ (condition_lawful n) l)
      (maybe_lawful (the_keyword "else") (keyword_is_word "else") (statement_at n) _ _ _ l)
      IfV if_early if_later
      (λ p front rest h. let s = if_said p front rest h in (s.0, s.1)))
      if_said
      (λ p front rest h. h)
      (λ p front h. h)
      (λ p front rest h. (h.0, h.1))

  abbrev IfF : Before Token RawStmt
  IfF = mapped_before if_of (both_before (plain (word_spelled (the_keyword "if"))) (PartsF n))

  if_lawful : Lawful (if_at n (statement_at n)) StmtS IfF StmtV
  if_lawful =
      recast (if_at n (statement_at n)) _ _ StmtS IfF _ StmtV
      (mapped_lawful if_of (both (word (the_keyword "if")) (both (both (condition_at n) (statement_at n)) (maybe (the_keyword "else") (statement_at n)))) _ _ _
      (both_lawful (word (the_keyword "if")) (both (both (condition_at n) (statement_at n)) (maybe (the_keyword "else") (statement_at n))) _ _ _ _ _ _ (word_lawful (the_keyword "if") (keyword_is_word "if")) parts_lawful))
      (λ x front rest (p, y, (a, b, i, j, (o, d, h))). (o, subst (λ z. Statement o z front) y (subst (Statement o (if_of p)) (sym (i ∙ ap (λ z. z ++ b) j)) (d p.0)), h))
      (λ x front rest h. h)
      (λ x front (p, y, (a, b, i, j, (o, d))). (o, subst (λ z. Statement o z front) y (subst (Statement o (if_of p)) (sym (i ∙ ap (λ z. z ++ b) j)) (d p.0))))
      (λ x front rest h. (h.0, h.1))

  -- ---- loops

  abbrev LoopF : Before Token RawStmt
  LoopF = mapped_before loop_of (both_before (maybe_word_before species_lines) (both_before (mapped_before parallel_of (maybe_word_before parallel_lines))
      (both_before (plain (word_spelled (the_keyword "for"))) (both_before (λ x front rest. ForHeader x front × (length front < n)) (StmtF n)))))

  loop_is : (o : Bool) (p : ℕ) (k : Option Spelling) (m : Option (ℕ × Schedule)) (h : Header) (s : RawStmt) (front ls f1 ms f2 w f3 hs ss : List Token)
      → front ≡ ls ++ f1 → f1 ≡ ms ++ f2 → f2 ≡ w ++ f3 → w ≡ keyword p "for" ∷ [] → f3 ≡ hs ++ ss → SpeciesLine k ls → ParallelLine m ms → ForHeader h hs → Statement o s ss → Statement o (statement p (what.Loop (loop k m h s))) front
  loop_is o p k m h s front ls f1 ms f2 w f3 hs ss i0 i1 i2 j2 i3 ld md hd sd =
      subst (Statement o (statement p (what.Loop (loop k m h s)))) (sym (i0 ∙ ap (λ z. ls ++ z) (i1 ∙ ap (λ z. ms ++ z) (i2 ∙ ap (λ z. z ++ f3) j2 ∙ ap (λ z. keyword p "for" ∷ z) i3)))) (Statement.for o p k m h s ls ms hs ss ld md hd sd)

  loop_lawful : Lawful (loop_at n (statement_at n)) StmtS LoopF StmtV
  loop_lawful =
      recast (loop_at n (statement_at n)) _ _ StmtS LoopF _ StmtV
      (mapped_lawful loop_of (both (maybe_word species_lines) (both parallel_reader (both (word (the_keyword "for")) (both (header_at n) (statement_at n))))) _ _ _
      (both_lawful (maybe_word species_lines) (both parallel_reader (both (word (the_keyword "for")) (both (header_at n) (statement_at n)))) _ _ _ _ _ _ species_lawful
      (both_lawful parallel_reader (both (word (the_keyword "for")) (both (header_at n) (statement_at n))) _ _ _ _ _ _ parallel_lawful
      (both_lawful (word (the_keyword "for")) (both (header_at n) (statement_at n)) _ _ _ _ _ _ (word_lawful (the_keyword "for") (keyword_is_word "for"))
      (both_lawful (header_at n) (statement_at n) _ _ _ _ _ _ (header_lawful n) l)))))
      (λ x front rest (p, y, (ls, f1, i0, ld, (ms, f2, i1, md, (w, f3, i2, j2, (hs, ss, i3, hd, (o, sd, h)))))).
      (o, subst (λ z. Statement o z front) y (loop_is o p.1.1.0 p.0 p.1.0 p.1.1.1.0 p.1.1.1.1 front ls f1 ms f2 w f3 hs ss i0 i1 i2 j2 i3 ld md hd sd), h))
      (λ x front rest h. h)
      (λ x front (p, y, (ls, f1, i0, ld, (ms, f2, i1, md, (w, f3, i2, j2, (hs, ss, i3, hd, (o, sd)))))).
      (o, subst (λ z. Statement o z front) y (loop_is o p.1.1.0 p.0 p.1.0 p.1.1.1.0 p.1.1.1.1 front ls f1 ms f2 w f3 hs ss i0 i1 i2 j2 i3 ld md hd sd)))
      (λ x front rest h. (h.0, h.1))

  -- ---- blocks

  pub items_lawful : Lawful (items_at n (statement_at n)) (plain BlockItems) (ItemsBefore n) BlockItems
  items_lawful =
      recast_plain (items_at n (statement_at n)) _ _ (ItemsBefore n) _ BlockItems
      (until_lawful (choose is_type (declaration_at n) (statement_at n)) (the_punctuator "}") (punctuator_is_word "}") _ _ _
      (choose_lawful is_type (declaration_at n) (statement_at n) _ _ _ _ _ _ (declaration_lawful n) l) (item_not_end n) n)
      (λ xs front rest h. items_full n xs front rest h.0 h.1)
      items_viable

  abbrev BlockF : Before Token RawStmt
  BlockF = mapped_before block_of (both_before (plain (word_spelled (the_punctuator "{"))) (ItemsBefore n))

  block_lawful : Lawful (block_at n (statement_at n)) (plain Closed) BlockF Closed
  block_lawful =
      recast_plain (block_at n (statement_at n)) _ _ _ _ Closed
      (mapped_lawful block_of (both (word (the_punctuator "{")) (items_at n (statement_at n))) _ _ _ (both_lawful (word (the_punctuator "{")) (items_at n (statement_at n)) _ _ _ _ _ _ (word_lawful (the_punctuator "{") (punctuator_is_word "{")) items_lawful))
      (λ x front rest h. h)
      (λ x front (p, y, (a, b, i, j, d)). subst (λ z. Closed z front) y (subst (Closed (block_of p)) (sym (i ∙ ap (λ z. z ++ b) j)) (Statement.block p.0 p.1 b d)))

  -- ---- all

  abbrev NodeF : Before Token RawStmt
  NodeF = choose_before (is_the_punctuator ";") EmptyF (choose_before (is_the_punctuator "{") BlockF (choose_before (is_the_keyword "if") IfF (choose_before is_loop LoopF (choose_before (is_of atomic_lines) (AtomicF n) (AssignF n)))))

  abbrev NodeS : Before Token RawStmt
  NodeS = choose_before (is_the_punctuator ";") (plain Closed) (choose_before (is_the_punctuator "{") (plain Closed) (choose_before (is_the_keyword "if") StmtS (choose_before is_loop StmtS (choose_before (is_of atomic_lines) (plain Closed) (plain Closed)))))

  abbrev NodeV : Spelled Token RawStmt
  NodeV = choose_spelled Closed (choose_spelled Closed (choose_spelled StmtV (choose_spelled StmtV (choose_spelled Closed Closed))))

  node_said : (x : RawStmt) (front rest : List Token) → NodeS x front rest → StmtS x front rest
  node_said x front rest (inl (q, d)) = closed_s x front rest d
  node_said x front rest (inr (q, inl (q1, d))) = closed_s x front rest d
  node_said x front rest (inr (q, inr (q1, inl (q2, d)))) = d
  node_said x front rest (inr (q, inr (q1, inr (q2, inl (q3, d))))) = d
  node_said x front rest (inr (q, inr (q1, inr (q2, inr (q3, inl (q4, d)))))) = closed_s x front rest d
  node_said x front rest (inr (q, inr (q1, inr (q2, inr (q3, inr (q4, d)))))) = closed_s x front rest d

  node_viable : (x : RawStmt) (front : List Token) → NodeV x front → StmtV x front
  node_viable x front (inl d) = (false, d)
  node_viable x front (inr (inl d)) = (false, d)
  node_viable x front (inr (inr (inl d))) = d
  node_viable x front (inr (inr (inr (inl d)))) = d
  node_viable x front (inr (inr (inr (inr (inl d))))) = (false, d)
  node_viable x front (inr (inr (inr (inr (inr d))))) = (false, d)

  -- where a change stands first
  change_first : (c : Token → Bool) → ((p : ℕ) → c (punctuator p "++") ≡ false) → ((p : ℕ) → c (punctuator p "--") ≡ false) → ((m : Spelling) → c (name m) ≡ false)
      → (p q : ℕ) (k : RawChange) (cs rest : List Token) → Change p k cs → starts c ((cs ++ punctuator q ";" ∷ []) ++ rest) ≡ false
  change_first c u w m p q k cs rest d = ap (starts c) (append_assoc cs (punctuator q ";" ∷ []) rest) ∙ change_starts c false u w m p k cs (punctuator q ";" ∷ rest) d

  -- where a loop stands first
  loop_first : (c : Token → Bool) (b : Bool) → ((m : Spelling) → c (species m) ≡ b) → ((m : Spelling) (d : ℕ) (s : Schedule) → c (parallel m d s) ≡ b) → ((p : ℕ) → c (keyword p "for") ≡ b)
      → (k : Option Spelling) (m : Option (ℕ × Schedule)) (p : ℕ) (ls ms us rest : List Token) → SpeciesLine k ls → ParallelLine m ms → starts c ((ls ++ (ms ++ (keyword p "for" ∷ us))) ++ rest) ≡ b
  loop_first c b f g h k m p ls ms us rest (SpeciesLine.present i) md = f i
  loop_first c b f g h k m p ls ms us rest SpeciesLine.absent (ParallelLine.present i d s) = g i d s
  loop_first c b f g h k m p ls ms us rest SpeciesLine.absent ParallelLine.absent = h p

  parallel_first : (c : Token → Bool) (b : Bool) → ((m : Spelling) (d : ℕ) (s : Schedule) → c (parallel m d s) ≡ b) → ((p : ℕ) → c (keyword p "for") ≡ b)
      → (m : Option (ℕ × Schedule)) (p : ℕ) (ms us rest : List Token) → ParallelLine m ms → starts c ((ms ++ (keyword p "for" ∷ us)) ++ rest) ≡ b
  parallel_first c b g h m p ms us rest (ParallelLine.present i d s) = g i d s
  parallel_first c b g h m p ms us rest ParallelLine.absent = h p

  node_full : (o : Bool) (x : RawStmt) (front rest : List Token) → Statement o x front → (o ≡ true → NoElse rest) → length front < suc n → NodeF x front rest
  node_full o x front rest (Statement.empty p) h lt = inl (refl, (p, refl, refl))
  node_full o x front rest (Statement.block p xs ts d) h lt =
      let len : length ts < n = omega (arith, lt) in
      inr (refl, inl (refl, ((p, xs), refl, (punctuator p "{" ∷ [], ts, refl, refl, (d, len)))))
  node_full o x front rest (Statement.if_only o' p q r e s xs ss xd sd) h lt =
      let l0 = length-append (punctuator q "(" ∷ (xs ++ punctuator r ")" ∷ [])) ss in
      let l1 = length-append xs (punctuator r ")" ∷ []) in
      let lx : length xs < n = omega (arith, lt, l0, l1) in
      let ls : length ss < n = omega (arith, lt, l0) in
      let here : List Token = (punctuator q "(" ∷ (xs ++ punctuator r ")" ∷ [])) ++ ss in
      inr (
        refl,
        inr (
          refl,
          inl (
            refl,
            (
              (p, ((e, s), None)),
              refl,
              (
                keyword p "if" ∷ [],
                here,
                refl,
                refl,
                (
                  here,
                  [],
                  sym (append-nil here),
                  (punctuator q "(" ∷ (xs ++ punctuator r ")" ∷ []), ss, refl, (q, xs ++ punctuator r ")" ∷ [], refl, (r, xs, refl, (xd, lx, refl))), (o', sd, (λ k. h refl), ls)),
                  (refl, h refl),
                ),
              ),
            ),
          ),
        ),
      )
  node_full o x front rest (Statement.if_else o' p q r v e s t xs ss ts xd sd td) h lt =
      let l0 = length-append (punctuator q "(" ∷ (xs ++ punctuator r ")" ∷ [])) ss in
      let l1 = length-append xs (punctuator r ")" ∷ []) in
      let l2 = length-append ((punctuator q "(" ∷ (xs ++ punctuator r ")" ∷ [])) ++ ss) (keyword v "else" ∷ ts) in
      let lx : length xs < n = omega (arith, lt, l0, l1, l2) in
      let ls : length ss < n = omega (arith, lt, l0, l2) in
      let lu : length ts < n = omega (arith, lt, l0, l2) in
      let here : List Token = (punctuator q "(" ∷ (xs ++ punctuator r ")" ∷ [])) ++ ss in
      inr (
        refl,
        inr (
          refl,
          inl (
            refl,
            (
              (p, ((e, s), Some t)),
              refl,
              (
                keyword p "if" ∷ [],
                here ++ (keyword v "else" ∷ ts),
                refl,
                refl,
                (
                  here,
                  keyword v "else" ∷ ts,
                  refl,
                  (punctuator q "(" ∷ (xs ++ punctuator r ")" ∷ []), ss, refl, (q, xs ++ punctuator r ")" ∷ [], refl, (r, xs, refl, (xd, lx, refl))), (false, sd, (λ k. absurd (clash (sym k))), ls)),
                  (v, ts, refl, (o', td, h, lu)),
                ),
              ),
            ),
          ),
        ),
      )
  node_full o x front rest (Statement.for o' p k m hd s ls ms hs ss ld md hh sd) h lt =
      let l0 = length-append ls (ms ++ (keyword p "for" ∷ (hs ++ ss))) in
      let l1 = length-append ms (keyword p "for" ∷ (hs ++ ss)) in
      let l2 = length-append hs ss in
      let lh : length hs < n = omega (arith, lt, l0, l1, l2) in
      let lz : length ss < n = omega (arith, lt, l0, l1, l2) in
      let us : List Token = hs ++ ss in
      let off = λ (c : Token → Bool) (f : (i : Spelling) → c (species i) ≡ false) (g : (i : Spelling) (d : ℕ) (z : Schedule) → c (parallel i d z) ≡ false) (w : (r : ℕ) → c (keyword r "for") ≡ false). loop_first c false f g w k m p ls ms us rest ld md in
      inr (
        off (is_the_punctuator ";") (λ i. refl) (λ i d z. refl) (λ r. refl),
        inr (
          off (is_the_punctuator "{") (λ i. refl) (λ i d z. refl) (λ r. refl),
          inr (
            off (is_the_keyword "if") (λ i. refl) (λ i d z. refl) (λ r. refl),
            inl (
              loop_first is_loop true (λ i. refl) (λ i d z. refl) (λ r. refl) k m p ls ms us rest ld md,
              (
                (k, (m, (p, (hd, s)))),
                refl,
                (
                  ls,
                  ms ++ (keyword p "for" ∷ us),
                  refl,
                  species_full k ls _ ld (parallel_first (is_of species_lines) false (λ i d z. refl) (λ r. refl) m p ms us rest md),
                  (ms, keyword p "for" ∷ us, refl, parallel_full m ms _ md refl, (keyword p "for" ∷ [], us, refl, refl, (hs, ss, refl, (hh, lh), (o', sd, h, lz)))),
                ),
              ),
            ),
          ),
        ),
      )
  node_full o x front rest (Statement.atomic_assignment p q i t e ts xs td xd) h lt =
      let l0 = length-append ts (punctuator p "+=" ∷ (xs ++ punctuator q ";" ∷ [])) in
      let l1 = length-append xs (punctuator q ";" ∷ []) in
      let lu : length ts < suc n = omega (arith, lt, l0) in
      let lx : length xs < n = omega (arith, lt, l0, l1) in
      inr (
        refl,
        inr (
          refl,
          inr (
            refl,
            inr (
              refl,
              inl (
                refl,
                (
                  i,
                  ts ++ (punctuator p "+=" ∷ (xs ++ punctuator q ";" ∷ [])),
                  refl,
                  (
                    (t, e),
                    refl,
                    (ts, punctuator p "+=" ∷ (xs ++ punctuator q ";" ∷ []), refl, (td, lu, refl), (p, xs ++ punctuator q ";" ∷ [], refl, (q, xs, refl, (xd, lx, refl)))),
                  ),
                ),
              ),
            ),
          ),
        ),
      )
  node_full o x front rest (Statement.assignment p q k cs d) h lt =
      let l0 = length-append cs (punctuator q ";" ∷ []) in
      let lc : length cs < n = omega (arith, lt, l0) in
      inr (
        change_first (is_the_punctuator ";") (λ r. refl) (λ r. refl) (λ m. refl) p q k cs rest d,
        inr (
          change_first (is_the_punctuator "{") (λ r. refl) (λ r. refl) (λ m. refl) p q k cs rest d,
          inr (
            change_first (is_the_keyword "if") (λ r. refl) (λ r. refl) (λ m. refl) p q k cs rest d,
            inr (
              change_first is_loop (λ r. refl) (λ r. refl) (λ m. refl) p q k cs rest d,
              inr (change_first (is_of atomic_lines) (λ r. refl) (λ r. refl) (λ m. refl) p q k cs rest d, ((p, k), refl, (q, cs, refl, (d, lc, refl)))),
            ),
          ),
        ),
      )

  node_lawful : StmtLaw (suc n)
  node_lawful =
      recast (statement_at (suc n)) _ _ StmtS (StmtF (suc n)) _ StmtV
      (choose_lawful (is_the_punctuator ";") (mapped empty_of (word (the_punctuator ";"))) _ _ _ _ _ _ _ empty_lawful
      (choose_lawful (is_the_punctuator "{") (block_at n (statement_at n)) _ _ _ _ _ _ _ block_lawful
      (choose_lawful (is_the_keyword "if") (if_at n (statement_at n)) _ _ _ _ _ _ _ if_lawful
      (choose_lawful is_loop (loop_at n (statement_at n)) _ _ _ _ _ _ _ loop_lawful
      (choose_lawful (is_of atomic_lines) (atomic_at n) (assignment_at n) _ _ _ _ _ _ (atomic_lawful n) (assignment_lawful n))))))
      node_said
      (λ x front rest h. node_full h.0 x front rest h.1 h.2 h.3)
      node_viable
      (λ x front rest h. (h.0, h.1))

pub statement_lawful : (n : ℕ) → StmtLaw n
statement_lawful zero =
    shallow_lawful StmtS (StmtF 0) StmtV (statement 0 what.Empty) (punctuator 0 ";" ∷ []) (false, Statement.empty 0) (λ x front rest h. (h.0, h.1)) (λ x front rest h. let l = h.3 in omega (arith, l))
statement_lawful (suc n) = node_lawful n (statement_lawful n)

pub body_lawful : (n : ℕ) → Lawful (items_at n (statement_at n)) (plain BlockItems) (ItemsBefore n) BlockItems
body_lawful n = items_lawful n (statement_lawful n)
