-- The reader of units is lawful.
use Rattle.std.proofs.Common.{◌≡◌, ◌∙◌, ap, sym, refl, subst, ℕ, zero, suc, ◌<◌, ◌≤◌, List, [], ◌∷◌, ◌++◌, length, Bool, true, false, arith, length-append, append_assoc, inl, inr}
use Rattle.std.specs.Prelude.{is_some}
use Prim.Native.String.{String}
use Rattle.species_grammar.specs.Reader.{is_of, starts, word, both, mapped, skip, maybe_word}
use Rattle.species_grammar.specs.Lawful.{Spelled, Before, Lawful, plain, word_spelled, both_before, both_spelled, mapped_before, mapped_spelled, choose_before, choose_spelled, skip_before, skip_spelled, maybe_word_before, maybe_word_spelled}
use Rattle.species_grammar.proofs.Laws.{recast_plain, both_lawful, mapped_lawful, word_lawful, choose_lawful, skip_lawful, maybe_word_lawful, shallow_lawful}
use Rattle.species_ast.specs.Token.{Token}
use Rattle.species_ast.specs.Spelling.{Spelling}
use Rattle.species_ast.specs.Grammar.Words.{punctuator, keyword, name, include, Optional}
use Rattle.species_ast.specs.Grammar.Expressions.{TypeSpecifier}
use Rattle.species_ast.specs.Grammar.Declarations.{GlobalDeclaration}
use Rattle.species_ast.specs.Grammar.Statements.{BlockItems}
use Rattle.species_ast.specs.Grammar.Units.{after, TranslationUnit}
use Rattle.species_ast.specs.declared.tree.Kind.{Kind}
use Rattle.species_ast.specs.declared.raw.RawItem.{RawItem}
use Rattle.species_ast.specs.declared.raw.RawStmt.{RawStmt}
use Rattle.species_ast.specs.declared.raw.RawUnit.{RawUnit}
use Rattle.species_parser.specs.Words.{the_punctuator, the_keyword, names, includes, is_the_keyword}
use Rattle.species_parser.specs.Reading.{global_at, body_at, function_of, function_at, after_of, include_of, external_at, unstatic, unit_at}
use Rattle.species_parser.proofs.Words.{punctuator_is_word, keyword_is_word, name_is_word, include_is_word, clash}
use Rattle.species_parser.proofs.DeclarationLaws.{GlobalBefore, global_lawful}
use Rattle.species_parser.proofs.HeaderLaws.{optional_viable, optional_full}
use Rattle.species_parser.proofs.StatementLaws.{ItemsBefore, body_lawful}

-- ---- functions

abbrev FunctionV : Spelled Token RawUnit
FunctionV = skip_spelled (the_keyword "void") (mapped_spelled function_of (both_spelled (word_spelled names)
    (skip_spelled (the_punctuator "(") (both_spelled (maybe_word_spelled (the_keyword "void")) (skip_spelled (the_punctuator ")") (skip_spelled (the_punctuator "{") BlockItems))))))

abbrev FunctionS : Before Token RawUnit
FunctionS = skip_before (the_keyword "void") (mapped_before function_of (both_before (plain (word_spelled names))
    (skip_before (the_punctuator "(") (both_before (maybe_word_before (the_keyword "void")) (skip_before (the_punctuator ")") (skip_before (the_punctuator "{") (plain BlockItems)))))))

abbrev FunctionF : ℕ → Before Token RawUnit
FunctionF n = skip_before (the_keyword "void") (mapped_before function_of (both_before (plain (word_spelled names))
    (skip_before (the_punctuator "(") (both_before (maybe_word_before (the_keyword "void")) (skip_before (the_punctuator ")") (skip_before (the_punctuator "{") (ItemsBefore n)))))))

function_lawful : (n : ℕ) → Lawful (function_at n) FunctionS (FunctionF n) FunctionV
function_lawful n =
    skip_lawful (the_keyword "void") (keyword_is_word "void") _ _ _ _
    (mapped_lawful function_of (both (word names) (skip (the_punctuator "(") (both (maybe_word (the_keyword "void")) (skip (the_punctuator ")") (skip (the_punctuator "{") (body_at n)))))) _ _ _
    (both_lawful (word names) (skip (the_punctuator "(") (both (maybe_word (the_keyword "void")) (skip (the_punctuator ")") (skip (the_punctuator "{") (body_at n))))) _ _ _ _ _ _ (word_lawful names name_is_word)
    (skip_lawful (the_punctuator "(") (punctuator_is_word "(") (both (maybe_word (the_keyword "void")) (skip (the_punctuator ")") (skip (the_punctuator "{") (body_at n)))) _ _ _
    (both_lawful (maybe_word (the_keyword "void")) (skip (the_punctuator ")") (skip (the_punctuator "{") (body_at n))) _ _ _ _ _ _ (maybe_word_lawful (the_keyword "void") (keyword_is_word "void"))
    (skip_lawful (the_punctuator ")") (punctuator_is_word ")") (skip (the_punctuator "{") (body_at n)) _ _ _ (skip_lawful (the_punctuator "{") (punctuator_is_word "{") (body_at n) _ _ _ (body_lawful n)))))))

-- ---- what a unit is read as

abbrev ExternalV : Spelled Token RawUnit
ExternalV = choose_spelled FunctionV (mapped_spelled after_of (both_spelled GlobalDeclaration TranslationUnit))

abbrev UnitV : Spelled Token RawUnit
UnitV = choose_spelled (mapped_spelled include_of (both_spelled (word_spelled includes) TranslationUnit)) (mapped_spelled unstatic (both_spelled (maybe_word_spelled (the_keyword "static")) ExternalV))

abbrev pub UnitBefore : ℕ → Before Token RawUnit
UnitBefore n x front rest = TranslationUnit x front × (length front < n)

abbrev ExternalF : ℕ → Before Token RawUnit
ExternalF n = choose_before (is_the_keyword "void") (FunctionF n) (mapped_before after_of (both_before (GlobalBefore n) (UnitBefore n)))

abbrev UnitF : ℕ → Before Token RawUnit
UnitF n = choose_before (is_of includes) (mapped_before include_of (both_before (plain (word_spelled includes)) (UnitBefore n))) (mapped_before unstatic (both_before (maybe_word_before (the_keyword "static")) (ExternalF n)))

function_is : (b : Bool) (f : Spelling) (body : List RawStmt) (c : Bool) (p q r s : ℕ) (front bs f0 f1 a f2 f3 cs f4 f5 ts : List Token)
    → front ≡ bs ++ f0 → f0 ≡ keyword p "void" ∷ f1 → f1 ≡ a ++ f2 → a ≡ name f ∷ [] → f2 ≡ punctuator q "(" ∷ f3 → f3 ≡ cs ++ f4 → f4 ≡ punctuator r ")" ∷ f5 → f5 ≡ punctuator s "{" ∷ ts
    → Optional "static" b bs → Optional "void" c cs → BlockItems body ts → TranslationUnit (record { items = []; function = f; body = body }) front
function_is b f body c p q r s front bs f0 f1 a f2 f3 cs f4 f5 ts i0 i1 i2 j2 i3 i4 i5 i6 bd cd d =
    subst (TranslationUnit (record { items = []; function = f; body = body }))
    (sym (i0 ∙ ap (λ z. bs ++ z) (i1 ∙ ap (λ z. keyword p "void" ∷ z) (i2 ∙ ap (λ z. z ++ f2) j2 ∙ ap (λ z. name f ∷ z) (i3 ∙ ap (λ z. punctuator q "(" ∷ z) (i4 ∙ ap (λ z. cs ++ z) (i5 ∙ ap (λ z. punctuator r ")" ∷ z) i6)))))))
    (TranslationUnit.function b c p q r s f body bs cs ts bd cd d)

unit_viable : (x : RawUnit) (front : List Token) → UnitV x front → TranslationUnit x front
unit_viable x front (inl (p, y, (a, b, i, j, d))) =
    subst (λ z. TranslationUnit z front) y (subst (TranslationUnit (include_of p)) (sym (i ∙ ap (λ z. z ++ b) j)) (TranslationUnit.directive p.0 p.1 b d))
unit_viable x front (inr (p, y, (bs, f0, i0, bd, inl (v, f1, i1, (h, e, (a, f2, i2, j2, (q, f3, i3, (cs, f4, i4, cd, (r, f5, i5, (s, ts, i6, d)))))))))) =
    subst (λ z. TranslationUnit z front) (e ∙ y)
    (function_is (is_some p.0) h.0 h.1.1 (is_some h.1.0) v q r s front bs f0 f1 a f2 f3 cs f4 f5 ts i0 i1 i2 j2 i3 i4 i5 i6 (optional_viable "static" p.0 bs bd) (optional_viable "void" h.1.0 cs cd) d)
unit_viable x front (inr (p, y, (bs, f0, i0, bd, inr (h, e, (gs, ts, i1, gd, ud))))) =
    subst (λ z. TranslationUnit z front) (e ∙ y)
    (subst (TranslationUnit (after_of h)) (sym (i0 ∙ ap (λ z. bs ++ z) i1)) (TranslationUnit.global (is_some p.0) h.0 h.1 bs gs ts (optional_viable "static" p.0 bs bd) gd ud))

-- ---- how a unit begins

type_starts : (c : Token → Bool) (b : Bool) → ((p : ℕ) → c (keyword p "int") ≡ b) → ((p : ℕ) → c (keyword p "unsigned") ≡ b) → ((p : ℕ) → c (keyword p "long") ≡ b) → (p : ℕ) (k : Kind) (ks rest : List Token) → TypeSpecifier p k ks → starts c (ks ++ rest) ≡ b
type_starts c b i u l p k ks rest (TypeSpecifier.int o) = i o
type_starts c b i u l p k ks rest (TypeSpecifier.unsigned o) = u o
type_starts c b i u l p k ks rest (TypeSpecifier.unsigned_int o r) = u o
type_starts c b i u l p k ks rest (TypeSpecifier.long o r s ts m) = l o
type_starts c b i u l p k ks rest (TypeSpecifier.unsigned_long o r s j ts m) = u o

global_starts : (c : Token → Bool) (b : Bool) → ((p : ℕ) → c (keyword p "int") ≡ b) → ((p : ℕ) → c (keyword p "unsigned") ≡ b) → ((p : ℕ) → c (keyword p "long") ≡ b) → (x : RawItem) (ts rest : List Token) → GlobalDeclaration x ts → starts c (ts ++ rest) ≡ b
global_starts c b i u l x ts rest (GlobalDeclaration.global p q k a more ks us ws kd d ds) =
    ap (starts c) (append_assoc ks ((us ++ ws) ++ punctuator q ";" ∷ []) rest) ∙ type_starts c b i u l p k ks (((us ++ ws) ++ punctuator q ";" ∷ []) ++ rest) kd

optional_starts : (c : Token → Bool) (b : Bool) (s : String) (o : Bool) (bs us : List Token) → Optional s o bs → ((p : ℕ) → c (keyword p s) ≡ b) → starts c us ≡ b → starts c (bs ++ us) ≡ b
optional_starts c b s o bs us Optional.absent h k = k
optional_starts c b s o bs us (Optional.present p) h k = h p

long : (ts : List Token) → starts (λ t. true) (ts ++ []) ≡ true → 1 ≤ length ts
long [] h = absurd (clash (sym h))
long (t ∷ ts) h = omega arith

pub global_long : (x : RawItem) (ts : List Token) → GlobalDeclaration x ts → 1 ≤ length ts
global_long x ts d = long ts (global_starts (λ t. true) true (λ p. refl) (λ p. refl) (λ p. refl) x ts [] d)

pub unit_long : (x : RawUnit) (ts : List Token) → TranslationUnit x ts → 1 ≤ length ts
unit_long x ts (TranslationUnit.directive n u us d) = omega arith
unit_long x ts (TranslationUnit.global b g u bs gs us bd gd ud) = let l0 = length-append bs (gs ++ us) in let l1 = length-append gs us in let l2 = global_long g gs gd in omega (arith, l0, l1, l2)
unit_long x ts (TranslationUnit.function b c p q r o f body bs cs us bd cd d) = let l0 = length-append bs (keyword p "void" ∷ name f ∷ punctuator q "(" ∷ (cs ++ (punctuator r ")" ∷ punctuator o "{" ∷ us))) in omega (arith, l0)

unit_full : (n : ℕ) (x : RawUnit) (front rest : List Token) → TranslationUnit x front → length front < suc n → UnitF n x front rest
unit_full n x front rest (TranslationUnit.directive m u ts d) lt =
    let len : length ts < n = omega (arith, lt) in
    inl (refl, ((m, u), refl, (include m ∷ [], ts, refl, refl, (d, len))))
unit_full n x front rest (TranslationUnit.global b g u bs gs ts bd gd ud) lt =
    let l0 = length-append bs (gs ++ ts) in
    let l1 = length-append gs ts in
    let lg = global_long g gs gd in
    let lu = unit_long u ts ud in
    let mg : length gs < n = omega (arith, lt, l0, l1, lu) in
    let mu : length ts < n = omega (arith, lt, l0, l1, lg) in
    let begins = λ (c : Token → Bool) (i : (p : ℕ) → c (keyword p "int") ≡ false) (w : (p : ℕ) → c (keyword p "unsigned") ≡ false) (l : (p : ℕ) → c (keyword p "long") ≡ false). ap (starts c) (append_assoc gs ts rest) ∙ global_starts c false i w l g gs (ts ++ rest) gd in
    let o = optional_full "static" b bs ((gs ++ ts) ++ rest) bd (begins (is_the_keyword "static") (λ p. refl) (λ p. refl) (λ p. refl)) in
    inr (
      ap (starts (is_of includes)) (append_assoc bs (gs ++ ts) rest) ∙ optional_starts (is_of includes) false "static" b bs ((gs ++ ts) ++ rest) bd (λ p. refl) (begins (is_of includes) (λ p. refl) (λ p. refl) (λ p. refl)),
      ((o.0, after g u), refl, (bs, gs ++ ts, refl, o.2, inr (begins (is_the_keyword "void") (λ p. refl) (λ p. refl) (λ p. refl), ((g, u), refl, (gs, ts, refl, (gd, mg), (ud, mu)))))),
    )
unit_full n x front rest (TranslationUnit.function b c p q r s f body bs cs ts bd cd d) lt =
    let f4 : List Token = punctuator r ")" ∷ punctuator s "{" ∷ ts in
    let f3 : List Token = cs ++ f4 in
    let f0 : List Token = keyword p "void" ∷ name f ∷ punctuator q "(" ∷ f3 in
    let l0 = length-append bs f0 in
    let l1 = length-append cs f4 in
    let len : length ts < n = omega (arith, lt, l0, l1) in
    let o = optional_full "static" b bs (f0 ++ rest) bd refl in
    let v = optional_full "void" c cs (f4 ++ rest) cd refl in
    inr (
      ap (starts (is_of includes)) (append_assoc bs f0 rest) ∙ optional_starts (is_of includes) false "static" b bs (f0 ++ rest) bd (λ p. refl) refl,
      (
        (o.0, record { items = []; function = f; body = body }),
        refl,
        (
          bs,
          f0,
          refl,
          o.2,
          inl (
            refl,
            (
              p,
              name f ∷ punctuator q "(" ∷ f3,
              refl,
              (
                (f, (v.0, body)),
                refl,
                (
                  name f ∷ [],
                  punctuator q "(" ∷ f3,
                  refl,
                  refl,
                  (q, f3, refl, (cs, f4, refl, v.2, (r, punctuator s "{" ∷ ts, refl, (s, ts, refl, (d, len))))),
                ),
              ),
            ),
          ),
        ),
      ),
    )

-- ---- units of every depth

abbrev pub UnitLaw : ℕ → Type 0
UnitLaw n = Lawful (unit_at n) (plain TranslationUnit) (UnitBefore n) TranslationUnit

some_spelling : Spelling
some_spelling = record { text = []; place = 0 }

unit_step : (n : ℕ) → UnitLaw n → UnitLaw (suc n)
unit_step n l =
    recast_plain (unit_at (suc n)) _ _ (UnitBefore (suc n)) _ TranslationUnit
    (choose_lawful (is_of includes) (mapped include_of (both (word includes) (unit_at n))) (mapped unstatic (both (maybe_word (the_keyword "static")) (external_at n (unit_at n)))) _ _ _ _ _ _
    (mapped_lawful include_of (both (word includes) (unit_at n)) _ _ _ (both_lawful (word includes) (unit_at n) _ _ _ _ _ _ (word_lawful includes include_is_word) l))
    (mapped_lawful unstatic (both (maybe_word (the_keyword "static")) (external_at n (unit_at n))) _ _ _
    (both_lawful (maybe_word (the_keyword "static")) (external_at n (unit_at n)) _ _ _ _ _ _ (maybe_word_lawful (the_keyword "static") (keyword_is_word "static"))
    (choose_lawful (is_the_keyword "void") (function_at n) (mapped after_of (both (global_at n) (unit_at n))) _ _ _ _ _ _ (function_lawful n)
    (mapped_lawful after_of (both (global_at n) (unit_at n)) _ _ _ (both_lawful (global_at n) (unit_at n) _ _ _ _ _ _ (global_lawful n) l))))))
    (λ x front rest h. unit_full n x front rest h.0 h.1)
    unit_viable

pub unit_lawful : (n : ℕ) → UnitLaw n
unit_lawful zero =
    shallow_lawful (plain TranslationUnit) (UnitBefore 0) TranslationUnit _ _ (TranslationUnit.function false false 0 0 0 0 some_spelling [] [] [] _ Optional.absent Optional.absent (BlockItems.end 0))
    (λ x front rest h. h) (λ x front rest h. let l = h.1 in omega (arith, l))
unit_lawful (suc n) = unit_step n (unit_lawful n)
