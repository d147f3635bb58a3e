-- Printed loops derive what they are, and so all statements.
use Rattle.std.proofs.Common.{◌≡◌, ◌∙◌, ap, sym, refl, subst, ℕ, zero, suc, true, false, List, [], ◌∷◌, ◌++◌, map, Option, Some, None, arith, pos, negsuc, ℤ, append_assoc}
use Rattle.std.proofs.lemmas.Bool.{le-leb, and_parts}
use Rattle.std.specs.Prelude.{◌&&◌, codes, decimal, option_map, neg_ℤ, option_and_then, if◌then◌else◌, unwrap_or}
use Rattle.species_ast.specs.Token.{Token}
use Rattle.species_ast.specs.Spelling.{Spelling}
use Rattle.species_ast.specs.Line.{Line}
use Rattle.species_ast.specs.declared.tree.Value.TheVariants as value
use Rattle.species_ast.specs.declared.tree.Test.{Test}
use Rattle.species_ast.specs.declared.tree.Mark.{Mark}
use Rattle.species_ast.specs.declared.tree.Mark.TheVariants as mark
use Rattle.species_ast.specs.declared.tree.Schedule.{Schedule}
use Rattle.species_ast.specs.declared.tree.LocalInfo.{LocalInfo}
use Rattle.species_ast.specs.declared.tree.Unit.{Unit}
use Rattle.species_ast.specs.declared.tree.Expr.{Expr}
use Rattle.species_ast.specs.declared.tree.Expr.TheVariants as expr
use Rattle.species_ast.specs.declared.tree.Loop.{Loop, roll-Loop}
use Rattle.species_ast.specs.declared.tree.Stmt.{Stmt, roll-Stmt}
use Rattle.species_ast.specs.declared.tree.Stmt.TheOpen.{Stmt-F, Loop-F}
use Rattle.species_ast.specs.declared.tree.Stmt.TheVariants as stmt
use Rattle.species_ast.specs.declared.token.TokenKind.TheVariants as kind
use Rattle.species_ast.specs.declared.raw.RawExpr.{RawExpr}
use Rattle.species_ast.specs.declared.raw.RawStmt.{RawStmt}
use Rattle.species_ast.specs.declared.raw.RawStep.{RawStep}
use Rattle.species_ast.specs.declared.raw.RawStep.TheVariants as raw_step
use Rattle.species_ast.specs.declared.raw.RawWhat.TheVariants as what
use Rattle.species_ast.specs.declared.raw.RawLoop.{RawLoop}
use Rattle.species_ast.specs.declared.raw.RawWhat.{RawWhat}
use Rattle.species_ast.specs.declared.raw.RawWhat.TheOpen.{RawLoop-F}
use Rattle.species_ast.specs.Grammar.Expressions.{Expression}
use Rattle.species_ast.specs.Grammar.Declarations.{statement}
use Rattle.species_ast.specs.Grammar.Statements.{Step, Header, ForHeader, SpeciesLine, ParallelLine, Statement, BlockItems, loop}
use Rattle.species_ast.specs.Grammar.Words.{Optional}
use Rattle.species_ast.specs.Scope.Meanings.{Scope, behind, in_loop, Occurrence, occurrence, InHeader}
use Rattle.species_ast.specs.Scope.Forms.{constant_of, constant_form, form_step, is_constant}
use Rattle.species_ast.specs.Scope.Expressions.{reading}
use Rattle.species_ast.specs.Scope.Statements as walk
use Rattle.species_ast.proofs.Folds.{fold_expr-Literal, fold_stmt-For, fold_loop}
use Rattle.species_ast.proofs.ScopeLaws.{stmt_fragment-Block, stmt_fragment-Loop, parts_in}
use Rattle.species_ast.proofs.Induction.{Each, StmtCases, stmt_ind}
use Rattle.species_print.specs.Printed.{spaced, space, punctuator, name, number, line}
use Rattle.species_print.specs.Expressions.{expr_printed}
use Rattle.species_print.specs.Statements.{Layout, all_of, deeper, species_line, parallel_line, parallel_text, for_head, step_printed, close, stmt_step, loop_layer}
use Rattle.species_readback.proofs.ExpressionLemmas.{Quiet, quiet_append, Derivation, lowered, number_reads}
use Rattle.species_readback.proofs.GivesLemmas.{Gives, token, gives_map, gives_lexeme, gives_blank, gives_append, gives_line}
use Rattle.species_ast.proofs.Folds.{folded_layer}
use Rattle.species_readback.proofs.StatementLemmas.{Expr0, expr_gives, Becomes, StmtDerivation, BodyDerivation, StmtClaim, body_gives, layouts, stated, assign_claim, add_claim, local_claim}
use Rattle.species_readback.proofs.DeclarationLemmas.{declare_claim, block_claim}
use Rattle.species_readback.proofs.BranchLemmas.{if_claim}
use Rattle.species_readback.specs.Unplaced.{unplaced, unplaced_at, unplaced_loop, unplaced_line}
use Rattle.species_readback.specs.Spelt.{is_int_number, is_int_step}
use Rattle.species_readback.proofs.NumberLemmas.{within_int}
use Rattle.species_readback.specs.Meant.{is_meant, list_next, list_locals, list_holds, stmt_meant, loop_meant, meant, inner_scope}
use Rattle.species_ast.specs.Signs.{test_sign}

-- a name in a header
abbrev walk_occurrence : Scope → Spelling → Occurrence
walk_occurrence s n = occurrence InHeader s n

-- ---- steps

pub constant_is : (n : ℕ) → is_int_number n ≡ true → constant_of (expr.Literal (value.Int (pos n))) ≡ Some (pos n)
constant_is n h =
    ap (option_and_then (λ f. if is_constant f then Some f.constant else None))
    (fold_expr-Literal form_step (value.Int (pos n)) ∙ ap (λ c. if c && true then Some (constant_form (pos n)) else None) (le-leb n 2147483647 (within_int n h)))

record StepParts (s : Scope) (text : List ℕ) (n : ℤ) (ts : List Token) : Type 0 where
  pub raw : RawStep
  pub derives : Step raw ts
  pub place : ℕ
  pub is_variables : (walk.step_reading raw s).variables ≡ record { text = text; place = place } ∷ []
  pub is_number : (walk.step_reading raw s).number ≡ Some n
  pub quiet : Quiet (walk.step_reading raw s).names

by_gives : (s : Scope) (text : List ℕ) (sign : List ℕ) (n : ℕ) (z : ℤ) (make : Spelling → RawExpr → RawStep) (f : ℤ → ℤ) → is_int_number n ≡ true → f (pos n) ≡ z
    → ((p : ℕ) (i : Spelling) (x : RawExpr) (xs : List Token) → Expression 0 x xs → Step (make i x) (token i.place i.text kind.Name ∷ token p sign kind.Punct ∷ xs))
    → ((i : Spelling) (x : RawExpr) → walk.step_reading (make i x) s ≡ walk.step_by (i ∷ []) f (reading x s))
    → Gives (name text ∷ (spaced sign ++ number n ∷ [])) (StepParts s text z)
by_gives s text sign n z make f h j derive reads = record {
  at = λ place.
      let i : Spelling = record { text = text; place = place } in
      let d = lowered s 12 0 (expr.Literal (value.Int (pos n))) (number n ∷ []) (omega arith) (number_reads s (decimal n) (value.Int (pos n))) _ in
      record {
        raw = make i d.raw;
        derives = derive _ i d.raw _ d.derives;
        place = place;
        is_variables = ap (λ r. r.variables) (reads i d.raw);
        is_number = ap (λ r. r.number) (reads i d.raw) ∙ ap (λ e. option_map f (constant_of e)) d.becomes ∙ ap (option_map f) (constant_is n h) ∙ ap Some j;
        quiet = subst (λ r. Quiet r.names) (sym (reads i d.raw)) d.quiet;
      };
}

step_gives : (s : Scope) (text : List ℕ) (z : ℤ) → is_int_step z ≡ true → Gives (step_printed text z) (StepParts s text z)
step_gives s text (pos (suc zero)) h = record { at = λ place. record { raw = raw_step.Up (record { text = text; place = place }); derives = Step.up _ (record { text = text; place = place }); place = place; is_variables = refl; is_number = refl; quiet = refl } }
step_gives s text (pos n) h = by_gives s text (codes "+=") n (pos n) raw_step.AddBy (λ k. k) h refl Step.add_by (λ i x. refl)
step_gives s text (negsuc zero) h = record { at = λ place. record { raw = raw_step.Down (record { text = text; place = place }); derives = Step.down _ (record { text = text; place = place }); place = place; is_variables = refl; is_number = refl; quiet = refl } }
step_gives s text (negsuc n) h = by_gives s text (codes "-=") (suc n) (negsuc n) raw_step.SubBy neg_ℤ h refl Step.sub_by (λ i x. refl)

-- ---- the header

-- from the limit on
record HeadTail (s : Scope) (text : List ℕ) (limit : Expr) (z : ℤ) (ts : List Token) : Type 0 where
  pub u : ℕ
  pub w : ℕ
  pub x : ℕ
  pub ys : List Token
  pub ss : List Token
  pub limit_of : Derivation s 0 limit ys
  pub step_of : StepParts s text z ss
  pub is : ts ≡ ys ++ (token u (codes ";") kind.Punct ∷ (ss ++ (token w (codes ")") kind.Punct ∷ token x (codes "{") kind.Punct ∷ [])))

-- from the start on
record HeadMiddle (s inner : Scope) (text : List ℕ) (start limit : Expr) (c : Test) (z : ℤ) (ts : List Token) : Type 0 where
  pub r : ℕ
  pub j : ℕ
  pub o : ℕ
  pub xs : List Token
  pub back : List Token
  pub start_of : Derivation s 0 start xs
  pub tail : HeadTail inner text limit z back
  pub is : ts ≡ xs ++ (token r (codes ";") kind.Punct ∷ token j text kind.Name ∷ token o (test_sign c) kind.Punct ∷ back)

record HeadParts (s inner : Scope) (text : List ℕ) (start limit : Expr) (c : Test) (z : ℤ) (ts : List Token) : Type 0 where
  pub f : ℕ
  pub p : ℕ
  pub b : ℕ
  pub i : ℕ
  pub q : ℕ
  pub back : List Token
  pub middle : HeadMiddle s inner text start limit c z back
  pub is : ts ≡ token f (codes "for") kind.Keyword ∷ token p (codes "(") kind.Punct ∷ token b (codes "int") kind.Keyword ∷ token i text kind.Name ∷ token q (codes "=") kind.Punct ∷ back

tail_gives : (u : Unit) (it : List (List ℕ)) (s : Scope) (text : List ℕ) (limit : Expr) (z : ℤ) → is_meant u it s limit ≡ true → is_int_step z ≡ true
    → Gives (expr_printed u it limit ++ (punctuator ";" ∷ space ∷ (step_printed text z ++ (punctuator ")" ∷ space ∷ punctuator "{" ∷ [])))) (HeadTail s text limit z)
tail_gives u it s text limit z h k =
    gives_append {F = Expr0 s limit} {G = λ ts. (v w x : ℕ) × (ss : List Token) × StepParts s text z ss × (ts ≡ token v (codes ";") kind.Punct ∷ (ss ++ (token w (codes ")") kind.Punct ∷ token x (codes "{") kind.Punct ∷ [])))}
    (expr_printed u it limit) _ (λ xs ys a b. record { u = b.0; w = b.1; x = b.2; ys = xs; ss = b.3; limit_of = a; step_of = b.4; is = ap (λ z. xs ++ z) b.5 })
    (expr_gives u it s limit h)
    (gives_lexeme {F = λ ts. (w x : ℕ) × (ss : List Token) × StepParts s text z ss × (ts ≡ ss ++ (token w (codes ")") kind.Punct ∷ token x (codes "{") kind.Punct ∷ []))} (codes ";") kind.Punct _
    (λ p ts d. (p, d.0, d.1, d.2, d.3, ap (λ z. token p (codes ";") kind.Punct ∷ z) d.4))
    (gives_blank (codes " ") _ (gives_append {F = StepParts s text z} {G = λ ts. (w x : ℕ) × (ts ≡ token w (codes ")") kind.Punct ∷ token x (codes "{") kind.Punct ∷ [])} (step_printed text z) _
    (λ xs ys a b. (b.0, b.1, xs, a, ap (λ z. xs ++ z) b.2)) (step_gives s text z k) (record { at = λ place. (_, _, refl) }))))

middle_gives : (u : Unit) (it jt : List (List ℕ)) (s inner : Scope) (text : List ℕ) (start limit : Expr) (c : Test) (z : ℤ) → is_meant u it s start ≡ true → is_meant u jt inner limit ≡ true → is_int_step z ≡ true
    → Gives (expr_printed u it start ++ (punctuator ";" ∷ space ∷ name text ∷ (spaced (test_sign c) ++ (expr_printed u jt limit ++ (punctuator ";" ∷ space ∷ (step_printed text z ++ (punctuator ")" ∷ space ∷ punctuator "{" ∷ [])))))))
    (HeadMiddle s inner text start limit c z)
middle_gives u it jt s inner text start limit c z h k l =
    gives_append {F = Expr0 s start} {G = λ ts. (r j o : ℕ) × (back : List Token) × HeadTail inner text limit z back × (ts ≡ token r (codes ";") kind.Punct ∷ token j text kind.Name ∷ token o (test_sign c) kind.Punct ∷ back)}
    (expr_printed u it start) _ (λ xs ys a b. record { r = b.0; j = b.1; o = b.2; xs = xs; back = b.3; start_of = a; tail = b.4; is = ap (λ z. xs ++ z) b.5 })
    (expr_gives u it s start h)
    (record { at = λ place. (_, _, _, _, (tail_gives u jt inner text limit z k l).at _, refl) })

head_gives : (u : Unit) (it jt : List (List ℕ)) (s inner : Scope) (l : Loop-F Layout Layout) → is_meant u it s l.start ≡ true → is_meant u (it ++ l.iter ∷ []) inner l.limit ≡ true → is_int_step l.step ≡ true
    → Gives (for_head u it l) (HeadParts s inner l.iter l.start l.limit l.test l.step)
head_gives u it jt s inner l h k w = record {
  at = λ place. record {
    f = _;
    p = _;
    b = _;
    i = _;
    q = _;
    back = _;
    middle = (middle_gives u it (it ++ l.iter ∷ []) s inner l.iter l.start l.limit l.test l.step h k w).at _;
    is = refl;
  };
}

-- ---- pragmas

line_gives : (l : Option Line) (ind : List ℕ) → Gives (species_line l ind) (λ ts. (n : Option Spelling) × SpeciesLine n ts × (option_map unplaced_line (option_map walk.line_of n) ≡ option_map unplaced_line l))
line_gives None ind = record { at = λ place. (None, SpeciesLine.absent, refl) }
line_gives (Some l) ind = record { at = λ place. (Some (record { text = l.text; place = _ }), SpeciesLine.present (record { text = l.text; place = _ }), refl) }

mark_gives : (m : Mark) (ind : List ℕ) → Gives (parallel_line m ind) (λ ts. (n : Option (ℕ × Schedule)) × ParallelLine n ts × (walk.mark_of n ≡ m))
mark_gives mark.Plain ind = record { at = λ place. (None, ParallelLine.absent, refl) }
mark_gives (mark.Parallel depth sch) ind = record { at = λ place. (Some (depth, sch), ParallelLine.present (record { text = parallel_text depth sch; place = _ }) depth sch, refl) }

-- ---- loops

for_regroup : (xs ys ss us : List Token) (r j o v w x : Token) →
    (xs ++ (r ∷ j ∷ o ∷ (ys ++ (v ∷ (ss ++ (w ∷ [])))))) ++ (x ∷ us) ≡ (xs ++ (r ∷ j ∷ o ∷ (ys ++ (v ∷ (ss ++ (w ∷ x ∷ [])))))) ++ us
for_regroup xs ys ss us r j o v w x = flat (w ∷ []) (x ∷ us) ∙ sym (flat (w ∷ x ∷ []) us)
  where
    flat : (a b : List Token) → (xs ++ (r ∷ j ∷ o ∷ (ys ++ (v ∷ (ss ++ a))))) ++ b ≡ xs ++ (r ∷ j ∷ o ∷ (ys ++ (v ∷ (ss ++ (a ++ b)))))
    flat a b =
        append_assoc xs (r ∷ j ∷ o ∷ (ys ++ (v ∷ (ss ++ a)))) b
        ∙ ap (λ z. xs ++ (r ∷ j ∷ o ∷ z)) (append_assoc ys (v ∷ (ss ++ a)) b ∙ ap (λ z. ys ++ (v ∷ z)) (append_assoc ss a b))

header_derives : (c : Test) (p b i q r j o v w : ℕ) (text : List ℕ) (x y : RawExpr) (st : RawStep) (xs ys ss : List Token) → Expression 0 x xs → Expression 0 y ys → Step st ss
    → ForHeader (record { typed = true; iter = record { text = text; place = i }; start = x; tested = record { text = text; place = j }; test = c; limit = y; step = st })
    (token p (codes "(") kind.Punct ∷ token b (codes "int") kind.Keyword ∷ token i text kind.Name ∷ token q (codes "=") kind.Punct ∷
    (xs ++ (token r (codes ";") kind.Punct ∷ token j text kind.Name ∷ token o (test_sign c) kind.Punct ∷ (ys ++ (token v (codes ";") kind.Punct ∷ (ss ++ (token w (codes ")") kind.Punct ∷ [])))))))
header_derives c p b i q r j o v w text x y st xs ys ss dx dy ds = ForHeader.header p q r o v w true _ _ c x y st _ xs ys ss (Optional.present b) dx dy ds

quiet_header : (s : Scope) (ns : List Spelling) → Quiet (map (walk_occurrence s) ns)
quiet_header s [] = refl
quiet_header s (n ∷ ns) = quiet_header s ns

-- what is read inside a loop
abbrev InnerFacts : RawExpr → RawStep → List RawStmt → Expr → ℤ → List Stmt → Scope → List LocalInfo → Scope → Type 0
InnerFacts y st raws limit z xs nx ls s =
    ((reading y s).expr ≡ limit) × Quiet (reading y s).names × ((walk.step_reading st s).number ≡ Some z) × Quiet (walk.step_reading st s).names × Becomes (walk.in_order (map walk.stmt_fragment raws) s) xs nx ls

-- the tokens of a loop in four parts
record ForParts (u : Unit) (s : Scope) (l : Loop-F Stmt Loop) (ts : List Token) : Type 0 where
  pub ls : List Token
  pub ms : List Token
  pub hs : List Token
  pub us : List Token
  pub line_name : Option Spelling
  pub line_derives : SpeciesLine line_name ls
  pub line_is : option_map unplaced_line (option_map walk.line_of line_name) ≡ option_map unplaced_line l.line
  pub raw_mark : Option (ℕ × Schedule)
  pub mark_derives : ParallelLine raw_mark ms
  pub mark_is : walk.mark_of raw_mark ≡ l.mark
  pub head : HeadParts s (inner_scope l s) l.iter l.start l.limit l.test l.step hs
  pub body : BodyDerivation (inner_scope l s) (map unplaced l.body) (map (meant u) l.body) us
  pub is : ts ≡ ls ++ (ms ++ (hs ++ us))

parts_gives : (u : Unit) (l : Loop-F Stmt Loop) → Each (StmtClaim u) l.body → (it : List (List ℕ)) (ind : List ℕ) (s : Scope)
    → (loop_meant u (folded_layer (stmt_meant u) (loop_meant u) l)).holds it s ≡ true
    → Gives (loop_layer true u (folded_layer (stmt_step u) (loop_layer true u) l) it ind) (ForParts u s l)
parts_gives u l h it ind s w =
    let jt = it ++ l.iter ∷ [] in
    let inner = inner_scope l s in
    let a = and_parts (is_meant u it s l.start) (is_meant u jt inner l.limit && (is_int_step l.step && list_holds (map (meant u) l.body) jt inner)) w in
    let b = and_parts (is_meant u jt inner l.limit) (is_int_step l.step && list_holds (map (meant u) l.body) jt inner) a.1 in
    let c = and_parts (is_int_step l.step) (list_holds (map (meant u) l.body) jt inner) b.1 in
    let fl = folded_layer (stmt_step u) (loop_layer true u) l in
    let head = for_head u it fl in
    let rest = all_of (layouts u l.body) jt (deeper ind) ++ close ind in
    gives_append {F = λ ts. (n : Option Spelling) × SpeciesLine n ts × (option_map unplaced_line (option_map walk.line_of n) ≡ option_map unplaced_line l.line)}
    {G = λ ts. (ms hs us : List Token) × (n : Option (ℕ × Schedule)) × ParallelLine n ms × (walk.mark_of n ≡ l.mark) × HeadParts s inner l.iter l.start l.limit l.test l.step hs × BodyDerivation inner (map unplaced l.body) (map (meant u) l.body) us × (ts ≡ ms ++ (hs ++ us))}
    (species_line l.line ind) (parallel_line l.mark ind ++ (line ind head ++ rest))
    (λ xs ys m n. record { ls = xs; ms = n.0; hs = n.1; us = n.2; line_name = m.0; line_derives = m.1; line_is = m.2; raw_mark = n.3; mark_derives = n.4; mark_is = n.5; head = n.6; body = n.7; is = ap (λ z. xs ++ z) n.8 })
    (line_gives l.line ind)
    (gives_append {F = λ ts. (n : Option (ℕ × Schedule)) × ParallelLine n ts × (walk.mark_of n ≡ l.mark)}
    {G = λ ts. (hs us : List Token) × HeadParts s inner l.iter l.start l.limit l.test l.step hs × BodyDerivation inner (map unplaced l.body) (map (meant u) l.body) us × (ts ≡ hs ++ us)}
    (parallel_line l.mark ind) (line ind head ++ rest)
    (λ xs ys m n. (xs, n.0, n.1, m.0, m.1, m.2, n.2, n.3, ap (λ z. xs ++ z) n.4))
    (mark_gives l.mark ind)
    (gives_append {F = HeadParts s inner l.iter l.start l.limit l.test l.step} {G = BodyDerivation inner (map unplaced l.body) (map (meant u) l.body)} (line ind head) rest
    (λ xs ys m n. (xs, ys, m, n, refl))
    (gives_line {F = HeadParts s inner l.iter l.start l.limit l.test l.step} ind head (head_gives u it jt s inner fl a.0 b.0 c.0))
    (body_gives u jt (deeper ind) ind l.body h inner c.1)))

for_becomes : (s : Scope) (l : Loop-F Stmt Loop) (f i j x : ℕ) (n : Option Spelling) (m : Option (ℕ × Schedule)) (start limit : RawExpr) (st : RawStep) (raws : List RawStmt) (nx : Scope) (ls : List LocalInfo)
    → option_map unplaced_line (option_map walk.line_of n) ≡ option_map unplaced_line l.line → walk.mark_of m ≡ l.mark → (reading start s).expr ≡ l.start → Quiet (reading start s).names
    → InnerFacts limit st raws l.limit l.step (map unplaced l.body) nx ls (inner_scope l s)
    → Becomes (walk.stmt_fragment (statement f (what.Loop (loop n m (record { typed = true; iter = record { text = l.iter; place = i }; start = start; tested = record { text = l.iter; place = j }; test = l.test; limit = limit; step = st }) (statement x (what.Block raws))))) s)
    (roll-Stmt (Stmt-F.For (unplaced_loop (folded_layer unplaced_at unplaced_loop l))) ∷ []) (behind s nx) ls
for_becomes s l f i j x n m start limit st raws nx ls pline pm ps qs facts =
    let name : Spelling = record { text = l.iter; place = i } in
    let other : Spelling = record { text = l.iter; place = j } in
    let inner = in_loop name s in
    let raw : RawLoop-F RawWhat RawLoop RawStmt = record { line = n; parallel = m; typed = true; iter = name; start = start; tested = other; test = l.test; limit = limit; step = st; body = statement x (what.Block raws) } in
    let y = roll-Stmt (Stmt-F.For (unplaced_loop (folded_layer unplaced_at unplaced_loop l))) in
    let body = walk.in_order (map walk.stmt_fragment raws) inner in
    let b = facts.4 in
    let made : Loop-F Stmt Loop = record { place = f; iter = l.iter; start = (reading start s).expr; test = l.test; limit = (reading limit inner).expr; step = unwrap_or (walk.step_reading st inner).number (pos 0); body = body.statements; line = option_map walk.line_of n; mark = walk.mark_of m } in
    subst (λ g. Becomes (g s) (y ∷ []) (behind s nx) ls) (sym (stmt_fragment-Loop f raw))
    (subst (λ w. Becomes (walk.loop_fragment (record (parts_in raw) { body = w }) f s) (y ∷ []) (behind s nx) ls) (sym (stmt_fragment-Block x raws)) (record {
      is_statements = ap (λ z. z ∷ []) (fold_stmt-For unplaced_at unplaced_loop (roll-Loop made) ∙ ap (λ z. roll-Stmt (Stmt-F.For z)) (fold_loop unplaced_at unplaced_loop made)
          ∙ (λ t. roll-Stmt (Stmt-F.For (roll-Loop (record { place = 0; iter = l.iter; start = ps t; test = l.test; limit = facts.0 t; step = unwrap_or (facts.2 t) (pos 0); body = b.is_statements t; line = pline t; mark = pm t })))));
      is_next = ap (behind s) b.is_next;
      is_locals = b.is_locals;
      quiet = quiet_append ((reading start s).names ++ ((reading limit inner).names ++ (map (walk_occurrence inner) (other ∷ (walk.step_reading st inner).variables) ++ (walk.step_reading st inner).names))) body.notes.names
          (quiet_append (reading start s).names ((reading limit inner).names ++ (map (walk_occurrence inner) (other ∷ (walk.step_reading st inner).variables) ++ (walk.step_reading st inner).names)) qs
          (quiet_append (reading limit inner).names (map (walk_occurrence inner) (other ∷ (walk.step_reading st inner).variables) ++ (walk.step_reading st inner).names) facts.1
          (quiet_append (map (walk_occurrence inner) (other ∷ (walk.step_reading st inner).variables)) (walk.step_reading st inner).names (quiet_header inner (other ∷ (walk.step_reading st inner).variables)) facts.3)))
          b.quiet;
    }))

for_claim : (u : Unit) (l : Loop-F Stmt Loop) → Each (StmtClaim u) l.body → StmtClaim u (stmt.For (roll-Loop l))
for_claim u l h =
    let y = roll-Stmt (Stmt-F.For (unplaced_loop (folded_layer unplaced_at unplaced_loop l))) in
    let m = stmt_meant u (Stmt-F.For (loop_meant u (folded_layer (stmt_meant u) (loop_meant u) l))) in
    stated u (stmt.For (roll-Loop l)) (stmt_step u (Stmt-F.For (loop_layer true u (folded_layer (stmt_step u) (loop_layer true u) l)))) m y
    (fold_stmt-For (stmt_step u) (loop_layer true u) (roll-Loop l) ∙ ap (λ z. stmt_step u (Stmt-F.For z)) (fold_loop (stmt_step u) (loop_layer true u) l))
    (fold_stmt-For (stmt_meant u) (loop_meant u) (roll-Loop l) ∙ ap (λ z. stmt_meant u (Stmt-F.For z)) (fold_loop (stmt_meant u) (loop_meant u) l))
    (fold_stmt-For unplaced_at unplaced_loop (roll-Loop l) ∙ ap (λ z. roll-Stmt (Stmt-F.For z)) (fold_loop unplaced_at unplaced_loop l))
    (λ it ind s w.
    gives_map {F = ForParts u s l} {G = StmtDerivation s y m} (loop_layer true u (folded_layer (stmt_step u) (loop_layer true u) l) it ind)
    (λ ts d.
    let a = d.head in let b = a.middle in let t = b.tail in let c = d.body in
    let block = statement t.x (what.Block c.raws) in
    let header : Header = record { typed = true; iter = record { text = l.iter; place = a.i }; start = b.start_of.raw; tested = record { text = l.iter; place = b.j }; test = l.test; limit = t.limit_of.raw; step = t.step_of.raw } in
    let raw = statement a.f (what.Loop (loop d.line_name d.raw_mark header block)) in
    let open_block = token t.x (codes "{") kind.Punct in
    let front = λ (z : List Token). token a.f (codes "for") kind.Keyword ∷ token a.p (codes "(") kind.Punct ∷ token a.b (codes "int") kind.Keyword ∷ token a.i l.iter kind.Name ∷ token a.q (codes "=") kind.Punct ∷ z in
    let semi = token b.r (codes ";") kind.Punct in let tested = token b.j l.iter kind.Name in let sign = token b.o (test_sign l.test) kind.Punct in
    let semi2 = token t.u (codes ";") kind.Punct in let close_bracket = token t.w (codes ")") kind.Punct in
    record {
      raw = raw;
      item = λ rest more e. BlockItems.item false raw rest ts more
          (subst (Statement false raw)
          (ap (λ z. d.ls ++ (d.ms ++ front z)) (for_regroup b.xs t.ys t.ss d.us semi tested sign semi2 close_bracket open_block)
          ∙ ap (λ z. d.ls ++ (d.ms ++ (front (b.xs ++ (semi ∷ tested ∷ sign ∷ z)) ++ d.us))) (sym t.is)
          ∙ ap (λ z. d.ls ++ (d.ms ++ (front z ++ d.us))) (sym b.is)
          ∙ ap (λ z. d.ls ++ (d.ms ++ (z ++ d.us))) (sym a.is)
          ∙ sym d.is)
          (Statement.for false a.f d.line_name d.raw_mark header block d.ls d.ms _ (open_block ∷ d.us) d.line_derives d.mark_derives
          (header_derives l.test a.p a.b a.i a.q b.r b.j b.o t.u t.w l.iter b.start_of.raw t.limit_of.raw t.step_of.raw b.xs t.ys t.ss b.start_of.derives t.limit_of.derives t.step_of.derives)
          (Statement.block t.x c.raws d.us c.derives))) e;
      becomes = for_becomes s l a.f a.i b.j t.x d.line_name d.raw_mark b.start_of.raw t.limit_of.raw t.step_of.raw c.raws (list_next (map (meant u) l.body) (inner_scope l s)) (list_locals (map (meant u) l.body))
          d.line_is d.mark_is b.start_of.becomes b.start_of.quiet (t.limit_of.becomes, t.limit_of.quiet, t.step_of.is_number, t.step_of.quiet, c.becomes);
    })
    (parts_gives u l h it ind s w))

-- ---- all statements

reads_cases : (u : Unit) → StmtCases (StmtClaim u)
reads_cases u = record {
  assign = assign_claim u;
  add_to = add_claim u;
  declare = declare_claim u;
  set_local = local_claim u;
  choice = if_claim u;
  loop = for_claim u;
  block = block_claim u;
}

-- each statement whose names mean what they should
pub statement_reads : (u : Unit) (x : Stmt) → StmtClaim u x
statement_reads u = stmt_ind (StmtClaim u) (reads_cases u)
