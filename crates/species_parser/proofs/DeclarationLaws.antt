-- The readers of declarations are lawful.
use Rattle.std.proofs.Common.{◌≡◌, ◌∙◌, ap, sym, refl, subst, ℕ, suc, ◌<◌, ◌≤◌, List, [], ◌∷◌, ◌++◌, length, Some, None, Bool, false, arith, length-append, append_assoc}
use Rattle.species_grammar.specs.Reader.{starts, word, both, mapped, skip, ends, maybe, cons_of}
use Rattle.species_grammar.specs.Lawful.{Spelled, Before, Lawful, plain, word_spelled, both_before, both_spelled, mapped_before, mapped_spelled, skip_before, skip_spelled, ends_before, ends_spelled, maybe_before, maybe_spelled, Short, many_before, many_spelled}
use Rattle.species_grammar.proofs.Laws.{recast_plain, both_lawful, mapped_lawful, word_lawful, skip_lawful, ends_lawful, maybe_lawful, many_lawful}
use Rattle.species_ast.specs.Token.{Token}
use Rattle.species_ast.specs.Spelling.{Spelling}
use Rattle.species_ast.specs.Grammar.Words.{punctuator, keyword, name}
use Rattle.species_ast.specs.Grammar.Expressions.{TypeSpecifier, Expression, Subscripts}
use Rattle.species_ast.specs.Grammar.Declarations.{ArrayDeclarator, MoreArrays, GlobalDeclaration, InitDeclarator, MoreDeclarators, LocalDeclaration, statement}
use Rattle.species_ast.specs.declared.tree.Kind.{Kind}
use Rattle.species_ast.specs.declared.raw.RawExpr.{RawExpr}
use Rattle.species_ast.specs.declared.raw.RawArray.{RawArray}
use Rattle.species_ast.specs.declared.raw.RawLocal.{RawLocal}
use Rattle.species_ast.specs.declared.raw.RawItem.{RawItem}
use Rattle.species_ast.specs.declared.raw.RawItem.TheVariants as item
use Rattle.species_ast.specs.declared.raw.RawStmt.{RawStmt}
use Rattle.species_ast.specs.declared.raw.RawWhat.TheVariants as what
use Rattle.species_parser.specs.Words.{the_punctuator, names, is_the_punctuator, is_type, goes_on}
use Rattle.species_parser.specs.Reading.{type_reader, subscript_reader, expression_at, subscripts_at, array_of, array_at, more_arrays_at, global_of, global_at, local_of, local_at, more_locals_at, declaration_of, declaration_at}
use Rattle.species_parser.proofs.Words.{punctuator_is_word, name_is_word}
use Rattle.species_parser.proofs.ExpressionLaws.{TypeSpelled, TypeBefore, type_lawful, ExprBefore}
use Rattle.species_parser.proofs.Operands.{SubsBefore, SubscriptSpelled, SubscriptBefore, subscript_law, subscripts_lawful, expression_lawful}

-- ---- arrays

abbrev ArrayBefore : ℕ → Before Token RawArray
ArrayBefore n a front rest = ArrayDeclarator a front × (length front < suc n) × (starts (is_the_punctuator "[") rest ≡ false)

abbrev SizesV : Spelled Token (List RawExpr)
SizesV = mapped_spelled cons_of (both_spelled SubscriptSpelled Subscripts)

abbrev SizesF : ℕ → Before Token (List RawExpr)
SizesF n = mapped_before cons_of (both_before (SubscriptBefore n) (SubsBefore n))

array_viable : (x : RawArray) (front : List Token) → mapped_spelled array_of (both_spelled (word_spelled names) SizesV) x front → ArrayDeclarator x front
array_viable x front (p, y, (a, b, i, j, (s, e, (c, d, k, (q, f, m, (r, xs, o, xd)), sd)))) =
    subst (λ z. ArrayDeclarator z front) (ap (λ z. array_of (p.0, z)) e ∙ y)
    (subst (ArrayDeclarator (array_of (p.0, s.0 ∷ s.1))) (sym (i ∙ ap (λ z. z ++ b) j ∙ ap (λ z. name p.0 ∷ z) (k ∙ ap (λ z. z ++ d) (m ∙ ap (λ z. punctuator q "[" ∷ z) o))))
    (ArrayDeclarator.array p.0 s.0 s.1 _ (Subscripts.more q r s.0 s.1 xs d xd sd)))

-- the first of several subscripts
abbrev First : List RawExpr → List Token → Type 0
First [] ts = Unit {0}
First (x ∷ xs) ts = (p q : ℕ) × (us ws : List Token) × (ts ≡ punctuator p "[" ∷ ((us ++ punctuator q "]" ∷ []) ++ ws)) × Expression 0 x us × Subscripts xs ws

first_of_subs : (xs : List RawExpr) (ts : List Token) → Subscripts xs ts → First xs ts
first_of_subs xs ts Subscripts.none = tt
first_of_subs xs ts (Subscripts.more p q x ys us ws d s) = (p, q, us, ws, refl, d, s)

sizes_full : (n : ℕ) (x : RawExpr) (xs : List RawExpr) (ts rest : List Token) → First (x ∷ xs) ts → length ts < n → starts (is_the_punctuator "[") rest ≡ false → SizesF n (x ∷ xs) ts rest
sizes_full n x xs ts rest (p, q, us, ws, i, d, s) lt h =
    let e = ap length i in
    let l0 = length-append (us ++ punctuator q "]" ∷ []) ws in
    let l1 = length-append us (punctuator q "]" ∷ []) in
    let lu : length us < n = omega (arith, lt, e, l0, l1) in
    let lw : length ws < n = omega (arith, lt, e, l0) in
    ((x, xs), refl, (punctuator p "[" ∷ (us ++ punctuator q "]" ∷ []), ws, i, (p, us ++ punctuator q "]" ∷ [], refl, (q, us, refl, (d, lu, refl))), (s, lw, h)))

array_full : (n : ℕ) (x : RawArray) (front rest : List Token) → ArrayDeclarator x front → length front < suc n → starts (is_the_punctuator "[") rest ≡ false → mapped_before array_of (both_before (plain (word_spelled names)) (SizesF n)) x front rest
array_full n x front rest (ArrayDeclarator.array m y ys ts s) lt h =
    let len : length ts < n = omega (arith, lt) in
    ((m, y ∷ ys), refl, (name m ∷ [], ts, refl, refl, sizes_full n y ys ts rest (first_of_subs (y ∷ ys) ts s) len h))

array_lawful : (n : ℕ) → Lawful (array_at n) (plain ArrayDeclarator) (ArrayBefore n) ArrayDeclarator
array_lawful n =
    recast_plain (array_at n) _ _ (ArrayBefore n) _ ArrayDeclarator
    (mapped_lawful array_of (both (word names) (mapped cons_of (both (subscript_reader (expression_at n)) (subscripts_at n)))) _ _ _
    (both_lawful (word names) (mapped cons_of (both (subscript_reader (expression_at n)) (subscripts_at n))) _ _ _ _ _ _ (word_lawful names name_is_word)
    (mapped_lawful cons_of (both (subscript_reader (expression_at n)) (subscripts_at n)) _ _ _
    (both_lawful (subscript_reader (expression_at n)) (subscripts_at n) _ _ _ _ _ _ (subscript_law n (expression_at n) (expression_lawful n)) (subscripts_lawful n)))))
    (λ x front rest h. array_full n x front rest h.0 h.1 h.2)
    array_viable

abbrev MoreArraysBefore : ℕ → Before Token (List RawArray)
MoreArraysBefore n xs front rest = MoreArrays xs front × (length front < n) × (starts (is_the_punctuator "[") rest ≡ false) × (starts (is_the_punctuator ",") rest ≡ false)

after_array : (xs : List RawArray) (us rest : List Token) → MoreArrays xs us → starts (is_the_punctuator "[") rest ≡ false → starts (is_the_punctuator "[") (us ++ rest) ≡ false
after_array xs us rest MoreArrays.none h = h
after_array xs us rest (MoreArrays.more p a ys vs ws d ds) h = refl

arrays_short : (xs : List RawArray) (us : List Token) → MoreArrays xs us → length xs ≤ length us
arrays_short xs us MoreArrays.none = omega arith
arrays_short xs us (MoreArrays.more p a ys vs ws d ds) = let ih = arrays_short ys ws ds in let l = length-append vs ws in omega (arith, ih, l)

arrays_full : (n : ℕ) (xs : List RawArray) (front rest : List Token) → MoreArrays xs front → length front < n → starts (is_the_punctuator "[") rest ≡ false → starts (is_the_punctuator ",") rest ≡ false
    → Short n (many_before (is_the_punctuator ",") (skip_before (the_punctuator ",") (ArrayBefore n))) xs front rest
arrays_full n xs front rest MoreArrays.none lt h k = (lt, (refl, k))
arrays_full n xs front rest (MoreArrays.more p a ys us ws d ds) lt h k =
    let l0 = length-append us ws in
    let lw : length ws < n = omega (arith, lt, l0) in
    let lu : length us < suc n = omega (arith, lt, l0) in
    let more = arrays_full n ys ws rest ds lw h k in
    let few = arrays_short ys ws ds in
    let short : length (a ∷ ys) < n = omega (arith, lt, l0, few) in
    (short, (punctuator p "," ∷ us, ws, refl, (p, us, refl, (d, lu, after_array ys ws rest ds h)), more.1))

arrays_viable : (xs : List RawArray) (front : List Token) → many_spelled (skip_spelled (the_punctuator ",") ArrayDeclarator) xs front → MoreArrays xs front
arrays_viable [] front h = subst (MoreArrays []) (sym h) MoreArrays.none
arrays_viable (x ∷ xs) front (a, b, i, (p, c, j, d), m) =
    subst (MoreArrays (x ∷ xs)) (sym (i ∙ ap (λ z. z ++ b) j)) (MoreArrays.more p x xs c b d (arrays_viable xs b m))

pub arrays_lawful : (n : ℕ) → Lawful (more_arrays_at n) (plain MoreArrays) (MoreArraysBefore n) MoreArrays
arrays_lawful n =
    recast_plain (more_arrays_at n) _ _ (MoreArraysBefore n) _ MoreArrays
    (many_lawful (skip (the_punctuator ",") (array_at n)) (is_the_punctuator ",") _ _ _ (skip_lawful (the_punctuator ",") (punctuator_is_word ",") (array_at n) _ _ _ (array_lawful n)) (λ x a rest h. ap (λ z. starts (is_the_punctuator ",") (z ++ rest)) h.2) n)
    (λ xs front rest h. arrays_full n xs front rest h.0 h.1 h.2 h.3)
    arrays_viable

abbrev pub GlobalBefore : ℕ → Before Token RawItem
GlobalBefore n x front rest = GlobalDeclaration x front × (length front < n)

array_starts : (c : Token → Bool) (b : Bool) → ((m : Spelling) → c (name m) ≡ b) → (a : RawArray) (us rest : List Token) → ArrayDeclarator a us → starts c (us ++ rest) ≡ b
array_starts c b h a us rest (ArrayDeclarator.array m y ys ts s) = h m

global_viable : (x : RawItem) (front : List Token) → mapped_spelled global_of (both_spelled TypeSpelled (ends_spelled (mapped_spelled cons_of (both_spelled ArrayDeclarator MoreArrays)) (the_punctuator ";"))) x front → GlobalDeclaration x front
global_viable x front (p, y, (ks, b, i, kd, (q, a, j, (s, e, (us, ws, k, d, ds))))) =
    subst (λ z. GlobalDeclaration z front) (ap (item.Global p.0.1) e ∙ y)
    (subst (GlobalDeclaration (item.Global p.0.1 (s.0 ∷ s.1))) (sym (i ∙ ap (λ z. ks ++ z) (j ∙ ap (λ z. z ++ punctuator q ";" ∷ []) k))) (GlobalDeclaration.global p.0.0 q p.0.1 s.0 s.1 ks us ws kd d ds))

global_full : (n : ℕ) (x : RawItem) (front rest : List Token) → GlobalDeclaration x front → length front < n
    → mapped_before global_of (both_before TypeBefore (ends_before (mapped_before cons_of (both_before (ArrayBefore n) (MoreArraysBefore n))) (the_punctuator ";"))) x front rest
global_full n x front rest (GlobalDeclaration.global p q k a more ks us ws kd d ds) lt =
    let l0 = length-append ks ((us ++ ws) ++ punctuator q ";" ∷ []) in
    let l1 = length-append (us ++ ws) (punctuator q ";" ∷ []) in
    let l2 = length-append us ws in
    let lu : length us < suc n = omega (arith, lt, l0, l1, l2) in
    let lw : length ws < n = omega (arith, lt, l0, l1, l2) in
    let next : starts is_type (((us ++ ws) ++ punctuator q ";" ∷ []) ++ rest) ≡ false =
    ap (starts is_type) (append_assoc (us ++ ws) (punctuator q ";" ∷ []) rest ∙ append_assoc us ws (punctuator q ";" ∷ rest)) ∙ array_starts is_type false (λ m. refl) a us (ws ++ (punctuator q ";" ∷ rest)) d in (
      ((p, k), a ∷ more),
      refl,
      (
        ks,
        (us ++ ws) ++ punctuator q ";" ∷ [],
        refl,
        (kd, next),
        (q, us ++ ws, refl, ((a, more), refl, (us, ws, refl, (d, lu, after_array more ws (punctuator q ";" ∷ rest) ds refl), (ds, lw, refl, refl)))),
      ),
    )

pub global_lawful : (n : ℕ) → Lawful (global_at n) (plain GlobalDeclaration) (GlobalBefore n) GlobalDeclaration
global_lawful n =
    recast_plain (global_at n) _ _ (GlobalBefore n) _ GlobalDeclaration
    (mapped_lawful global_of (both type_reader (ends (mapped cons_of (both (array_at n) (more_arrays_at n))) (the_punctuator ";"))) _ _ _
    (both_lawful type_reader (ends (mapped cons_of (both (array_at n) (more_arrays_at n))) (the_punctuator ";")) _ _ _ _ _ _ type_lawful
    (ends_lawful (mapped cons_of (both (array_at n) (more_arrays_at n))) (the_punctuator ";") (punctuator_is_word ";") _ _ _
    (mapped_lawful cons_of (both (array_at n) (more_arrays_at n)) _ _ _ (both_lawful (array_at n) (more_arrays_at n) _ _ _ _ _ _ (array_lawful n) (arrays_lawful n))))))
    (λ x front rest h. global_full n x front rest h.0 h.1)
    global_viable

-- ---- locals

-- what may follow a declarator
abbrev Ends : List Token → Type 0
Ends rest = (starts (goes_on 0) rest ≡ false) × (starts (is_the_punctuator "=") rest ≡ false)

abbrev LocalBefore : ℕ → Before Token RawLocal
LocalBefore n l front rest = InitDeclarator l front × (length front < suc n) × Ends rest

local_viable : (x : RawLocal) (front : List Token) → mapped_spelled local_of (both_spelled (word_spelled names) (maybe_spelled (the_punctuator "=") (Expression 0))) x front → InitDeclarator x front
local_viable x front ((m, None), y, (a, b, i, j, k)) =
    subst (λ z. InitDeclarator z front) y (subst (InitDeclarator (local_of (m, None))) (sym (i ∙ ap (λ z. z ++ b) j ∙ ap (λ z. name m ∷ z) k)) (InitDeclarator.plain m))
local_viable x front ((m, Some e), y, (a, b, i, j, (p, es, k, d))) =
    subst (λ z. InitDeclarator z front) y (subst (InitDeclarator (local_of (m, Some e))) (sym (i ∙ ap (λ z. z ++ b) j ∙ ap (λ z. name m ∷ z) k)) (InitDeclarator.initialised p m e es d))

local_full : (n : ℕ) (x : RawLocal) (front rest : List Token) → InitDeclarator x front → length front < suc n → Ends rest → mapped_before local_of (both_before (plain (word_spelled names)) (maybe_before (the_punctuator "=") (ExprBefore n 0))) x front rest
local_full n x front rest (InitDeclarator.plain m) lt h = ((m, None), refl, (name m ∷ [], [], refl, refl, (refl, h.1)))
local_full n x front rest (InitDeclarator.initialised p m e es d) lt h =
    let len : length es < n = omega (arith, lt) in
    ((m, Some e), refl, (name m ∷ [], punctuator p "=" ∷ es, refl, refl, (p, es, refl, (d, len, h.0))))

pub local_lawful : (n : ℕ) → Lawful (local_at n) (plain InitDeclarator) (LocalBefore n) InitDeclarator
local_lawful n =
    recast_plain (local_at n) _ _ (LocalBefore n) _ InitDeclarator
    (mapped_lawful local_of (both (word names) (maybe (the_punctuator "=") (expression_at n))) _ _ _
    (both_lawful (word names) (maybe (the_punctuator "=") (expression_at n)) _ _ _ _ _ _ (word_lawful names name_is_word) (maybe_lawful (the_punctuator "=") (punctuator_is_word "=") (expression_at n) _ _ _ (expression_lawful n))))
    (λ x front rest h. local_full n x front rest h.0 h.1 h.2)
    local_viable

abbrev MoreLocalsBefore : ℕ → Before Token (List RawLocal)
MoreLocalsBefore n xs front rest = MoreDeclarators xs front × (length front < n) × Ends rest × (starts (is_the_punctuator ",") rest ≡ false)

after_local : (xs : List RawLocal) (us rest : List Token) → MoreDeclarators xs us → Ends rest → Ends (us ++ rest)
after_local xs us rest MoreDeclarators.none h = h
after_local xs us rest (MoreDeclarators.more p a ys vs ws d ds) h = (refl, refl)

locals_short : (xs : List RawLocal) (us : List Token) → MoreDeclarators xs us → length xs ≤ length us
locals_short xs us MoreDeclarators.none = omega arith
locals_short xs us (MoreDeclarators.more p a ys vs ws d ds) = let ih = locals_short ys ws ds in let l = length-append vs ws in omega (arith, ih, l)

locals_full : (n : ℕ) (xs : List RawLocal) (front rest : List Token) → MoreDeclarators xs front → length front < n → Ends rest → starts (is_the_punctuator ",") rest ≡ false
    → Short n (many_before (is_the_punctuator ",") (skip_before (the_punctuator ",") (LocalBefore n))) xs front rest
locals_full n xs front rest MoreDeclarators.none lt h k = (lt, (refl, k))
locals_full n xs front rest (MoreDeclarators.more p a ys us ws d ds) lt h k =
    let l0 = length-append us ws in
    let lw : length ws < n = omega (arith, lt, l0) in
    let lu : length us < suc n = omega (arith, lt, l0) in
    let more = locals_full n ys ws rest ds lw h k in
    let few = locals_short ys ws ds in
    let short : length (a ∷ ys) < n = omega (arith, lt, l0, few) in
    (short, (punctuator p "," ∷ us, ws, refl, (p, us, refl, (d, lu, after_local ys ws rest ds h)), more.1))

locals_viable : (xs : List RawLocal) (front : List Token) → many_spelled (skip_spelled (the_punctuator ",") InitDeclarator) xs front → MoreDeclarators xs front
locals_viable [] front h = subst (MoreDeclarators []) (sym h) MoreDeclarators.none
locals_viable (x ∷ xs) front (a, b, i, (p, c, j, d), m) =
    subst (MoreDeclarators (x ∷ xs)) (sym (i ∙ ap (λ z. z ++ b) j)) (MoreDeclarators.more p x xs c b d (locals_viable xs b m))

pub locals_lawful : (n : ℕ) → Lawful (more_locals_at n) (plain MoreDeclarators) (MoreLocalsBefore n) MoreDeclarators
locals_lawful n =
    recast_plain (more_locals_at n) _ _ (MoreLocalsBefore n) _ MoreDeclarators
    (many_lawful (skip (the_punctuator ",") (local_at n)) (is_the_punctuator ",") _ _ _ (skip_lawful (the_punctuator ",") (punctuator_is_word ",") (local_at n) _ _ _ (local_lawful n)) (λ x a rest h. ap (λ z. starts (is_the_punctuator ",") (z ++ rest)) h.2) n)
    (λ xs front rest h. locals_full n xs front rest h.0 h.1 h.2 h.3)
    locals_viable

abbrev pub DeclarationBefore : ℕ → Before Token RawStmt
DeclarationBefore n x front rest = LocalDeclaration x front × (length front < n)

local_starts : (c : Token → Bool) (b : Bool) → ((m : Spelling) → c (name m) ≡ b) → (a : RawLocal) (us rest : List Token) → InitDeclarator a us → starts c (us ++ rest) ≡ b
local_starts c b h a us rest (InitDeclarator.plain m) = h m
local_starts c b h a us rest (InitDeclarator.initialised p m e es d) = h m

declaration_viable : (x : RawStmt) (front : List Token) → mapped_spelled declaration_of (both_spelled TypeSpelled (ends_spelled (mapped_spelled cons_of (both_spelled InitDeclarator MoreDeclarators)) (the_punctuator ";"))) x front → LocalDeclaration x front
declaration_viable x front (p, y, (ks, b, i, kd, (q, a, j, (s, e, (us, ws, k, d, ds))))) =
    subst (λ z. LocalDeclaration z front) (ap (λ z. statement p.0.0 (what.Declare p.0.1 z)) e ∙ y)
    (subst (LocalDeclaration (statement p.0.0 (what.Declare p.0.1 (s.0 ∷ s.1)))) (sym (i ∙ ap (λ z. ks ++ z) (j ∙ ap (λ z. z ++ punctuator q ";" ∷ []) k))) (LocalDeclaration.declaration p.0.0 q p.0.1 s.0 s.1 ks us ws kd d ds))

declaration_full : (n : ℕ) (x : RawStmt) (front rest : List Token) → LocalDeclaration x front → length front < n
    → mapped_before declaration_of (both_before TypeBefore (ends_before (mapped_before cons_of (both_before (LocalBefore n) (MoreLocalsBefore n))) (the_punctuator ";"))) x front rest
declaration_full n x front rest (LocalDeclaration.declaration p q k a more ks us ws kd d ds) lt =
    let l0 = length-append ks ((us ++ ws) ++ punctuator q ";" ∷ []) in
    let l1 = length-append (us ++ ws) (punctuator q ";" ∷ []) in
    let l2 = length-append us ws in
    let lu : length us < suc n = omega (arith, lt, l0, l1, l2) in
    let lw : length ws < n = omega (arith, lt, l0, l1, l2) in
    let next : starts is_type (((us ++ ws) ++ punctuator q ";" ∷ []) ++ rest) ≡ false =
    ap (starts is_type) (append_assoc (us ++ ws) (punctuator q ";" ∷ []) rest ∙ append_assoc us ws (punctuator q ";" ∷ rest)) ∙ local_starts is_type false (λ m. refl) a us (ws ++ (punctuator q ";" ∷ rest)) d in (
      ((p, k), a ∷ more),
      refl,
      (
        ks,
        (us ++ ws) ++ punctuator q ";" ∷ [],
        refl,
        (kd, next),
        (q, us ++ ws, refl, ((a, more), refl, (us, ws, refl, (d, lu, after_local more ws (punctuator q ";" ∷ rest) ds (refl, refl)), (ds, lw, (refl, refl), refl)))),
      ),
    )

pub declaration_lawful : (n : ℕ) → Lawful (declaration_at n) (plain LocalDeclaration) (DeclarationBefore n) LocalDeclaration
declaration_lawful n =
    recast_plain (declaration_at n) _ _ (DeclarationBefore n) _ LocalDeclaration
    (mapped_lawful declaration_of (both type_reader (ends (mapped cons_of (both (local_at n) (more_locals_at n))) (the_punctuator ";"))) _ _ _
    (both_lawful type_reader (ends (mapped cons_of (both (local_at n) (more_locals_at n))) (the_punctuator ";")) _ _ _ _ _ _ type_lawful
    (ends_lawful (mapped cons_of (both (local_at n) (more_locals_at n))) (the_punctuator ";") (punctuator_is_word ";") _ _ _
    (mapped_lawful cons_of (both (local_at n) (more_locals_at n)) _ _ _ (both_lawful (local_at n) (more_locals_at n) _ _ _ _ _ _ (local_lawful n) (locals_lawful n))))))
    (λ x front rest h. declaration_full n x front rest h.0 h.1)
    declaration_viable

-- a declaration begins with a type
pub declaration_starts : (c : Token → Bool) (b : Bool) → ((p : ℕ) → c (keyword p "int") ≡ b) → ((p : ℕ) → c (keyword p "unsigned") ≡ b) → ((p : ℕ) → c (keyword p "long") ≡ b) → (x : RawStmt) (ts rest : List Token) → LocalDeclaration x ts → starts c (ts ++ rest) ≡ b
declaration_starts c b i u l x ts rest (LocalDeclaration.declaration p q k a more ks us ws kd d ds) =
    ap (starts c) (append_assoc ks ((us ++ ws) ++ punctuator q ";" ∷ []) rest) ∙ type_starts c b i u l p k ks (((us ++ ws) ++ punctuator q ";" ∷ []) ++ rest) kd
  where
    type_starts : (c : Token → Bool) (b : Bool) → ((p : ℕ) → c (keyword p "int") ≡ b) → ((p : ℕ) → c (keyword p "unsigned") ≡ b) → ((p : ℕ) → c (keyword p "long") ≡ b) → (p : ℕ) (k : Kind) (ks rest : List Token) → TypeSpecifier p k ks → starts c (ks ++ rest) ≡ b
    type_starts c b i u l p k ks rest (TypeSpecifier.int o) = i o
    type_starts c b i u l p k ks rest (TypeSpecifier.unsigned o) = u o
    type_starts c b i u l p k ks rest (TypeSpecifier.unsigned_int o r) = u o
    type_starts c b i u l p k ks rest (TypeSpecifier.long o r s ts m) = l o
    type_starts c b i u l p k ks rest (TypeSpecifier.unsigned_long o r s j ts m) = u o
