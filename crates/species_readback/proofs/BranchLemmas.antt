-- Printed branches derive what they are.
use Rattle.std.proofs.Common.{◌≡◌, ◌∙◌, ap, sym, refl, subst, ℕ, true, false, List, [], ◌∷◌, ◌++◌, map, Some, None, append_assoc}
use Rattle.std.proofs.lemmas.Bool.{and_parts}
use Rattle.std.specs.Prelude.{◌&&◌, codes}
use Rattle.species_ast.specs.Token.{Token}
use Rattle.species_ast.specs.declared.tree.LocalInfo.{LocalInfo}
use Rattle.species_ast.specs.declared.tree.Unit.{Unit}
use Rattle.species_ast.specs.declared.tree.Expr.{Expr}
use Rattle.species_ast.specs.declared.tree.Stmt.{Stmt, roll-Stmt}
use Rattle.species_ast.specs.declared.tree.Stmt.TheOpen.{Stmt-F}
use Rattle.species_ast.specs.declared.tree.Stmt.TheVariants as stmt
use Rattle.species_ast.specs.declared.token.TokenKind.TheVariants as kind
use Rattle.species_ast.specs.declared.raw.RawExpr.{RawExpr}
use Rattle.species_ast.specs.declared.raw.RawStmt.{RawStmt}
use Rattle.species_ast.specs.declared.raw.RawWhat.TheVariants as what
use Rattle.species_ast.specs.Grammar.Declarations.{statement}
use Rattle.species_ast.specs.Grammar.Statements.{Statement, BlockItems}
use Rattle.species_ast.specs.Scope.Meanings.{Scope, behind}
use Rattle.species_ast.specs.Scope.Expressions.{reading}
use Rattle.species_ast.specs.Scope.Statements as walk
use Rattle.species_ast.proofs.Folds.{fold_stmt-If}
use Rattle.species_ast.proofs.ScopeLaws.{stmt_fragment-Block, stmt_fragment-If, stmt_fragment-IfElse}
use Rattle.species_ast.proofs.Induction.{Each}
use Rattle.species_print.specs.Printed.{space, punctuator, keyword, line}
use Rattle.species_print.specs.Expressions.{expr_printed}
use Rattle.species_print.specs.Statements.{all_of, deeper, if_head, else_part, close, stmt_step, loop_layer}
use Rattle.species_readback.proofs.ExpressionLemmas.{Quiet, quiet_append, Derivation}
use Rattle.species_readback.proofs.GivesLemmas.{Gives, token, gives_lexeme, gives_blank, gives_append, gives_line}
use Rattle.species_readback.proofs.StatementLemmas.{Expr0, expr_gives, Becomes, StmtDerivation, ListDerivation, BodyDerivation, StmtClaim, list_gives, close_gives, body_gives, layouts, stated}
use Rattle.species_readback.specs.Unplaced.{unplaced, unplaced_at, unplaced_loop}
use Rattle.species_readback.specs.Meant.{is_meant, Meant, list_next, list_locals, list_holds, stmt_meant, loop_meant, meant}

-- ---- branches

-- a path in the middle of a list, behind a front
regroup : (xs a b more : List Token) → (xs ++ a) ++ more ≡ xs ++ (a ++ more)
regroup xs a b more = append_assoc xs a more

record IfHead (s : Scope) (e : Expr) (ts : List Token) : Type 0 where
  pub p : ℕ
  pub q : ℕ
  pub r : ℕ
  pub x : ℕ
  pub xs : List Token
  pub test : Derivation s 0 e xs
  pub is : ts ≡ token p (codes "if") kind.Keyword ∷ token q (codes "(") kind.Punct ∷ (xs ++ (token r (codes ")") kind.Punct ∷ token x (codes "{") kind.Punct ∷ []))

if_head_gives : (u : Unit) (it : List (List ℕ)) (s : Scope) (e : Expr) → is_meant u it s e ≡ true → Gives (if_head u it e) (IfHead s e)
if_head_gives u it s e h =
    gives_lexeme {F = λ ts. (q r x : ℕ) × (xs : List Token) × Derivation s 0 e xs × (ts ≡ token q (codes "(") kind.Punct ∷ (xs ++ (token r (codes ")") kind.Punct ∷ token x (codes "{") kind.Punct ∷ [])))} (codes "if") kind.Keyword _
    (λ p ts d. record { p = p; q = d.0; r = d.1; x = d.2; xs = d.3; test = d.4; is = ap (λ z. token p (codes "if") kind.Keyword ∷ z) d.5 })
    (gives_blank (codes " ") _ (gives_lexeme {F = λ ts. (r x : ℕ) × (xs : List Token) × Derivation s 0 e xs × (ts ≡ xs ++ (token r (codes ")") kind.Punct ∷ token x (codes "{") kind.Punct ∷ []))} (codes "(") kind.Punct _
    (λ q ts d. (q, d.0, d.1, d.2, d.3, ap (λ z. token q (codes "(") kind.Punct ∷ z) d.4))
    (gives_append {F = Expr0 s e} {G = λ ts. (r x : ℕ) × (ts ≡ token r (codes ")") kind.Punct ∷ token x (codes "{") kind.Punct ∷ [])} (expr_printed u it e) _
    (λ xs ys a b. (b.0, b.1, xs, a, ap (λ z. xs ++ z) b.2)) (expr_gives u it s e h) (record { at = λ place. (_, _, refl) }))))

-- the body of a branch that is a block
branch_block : (s : Scope) (p : ℕ) (raws : List RawStmt) → walk.branch (walk.stmt_fragment (statement p (what.Block raws))) s ≡ walk.branch (walk.block_fragment (map walk.stmt_fragment raws)) s
branch_block s p raws = ap (λ f. walk.branch f s) (stmt_fragment-Block p raws)

if_only_becomes : (s : Scope) (p x : ℕ) (c : RawExpr) (e : Expr) (raws : List RawStmt) (xs : List Stmt) (nx : Scope) (ls : List LocalInfo) → (reading c s).expr ≡ e → Quiet (reading c s).names
    → Becomes (walk.in_order (map walk.stmt_fragment raws) s) xs nx ls
    → Becomes (walk.stmt_fragment (statement p (what.If c (statement x (what.Block raws)) None)) s) (roll-Stmt (Stmt-F.If 0 e xs []) ∷ []) (behind s nx) (ls ++ [])
if_only_becomes s p x c e raws xs nx ls i q b =
    let inner = walk.in_order (map walk.stmt_fragment raws) s in
    subst (λ f. Becomes (f s) (roll-Stmt (Stmt-F.If 0 e xs []) ∷ []) (behind s nx) (ls ++ [])) (sym (stmt_fragment-If p c (statement x (what.Block raws))))
    (subst (λ f. Becomes (walk.if_fragment p (reading c) f None s) (roll-Stmt (Stmt-F.If 0 e xs []) ∷ []) (behind s nx) (ls ++ [])) (sym (stmt_fragment-Block x raws)) (record {
      is_statements = ap (λ z. z ∷ []) (fold_stmt-If unplaced_at unplaced_loop p (reading c s).expr inner.statements [] ∙ (λ t. roll-Stmt (Stmt-F.If 0 (i t) (b.is_statements t) [])));
      is_next = ap (behind s) b.is_next;
      is_locals = ap (λ z. z ++ []) b.is_locals;
      quiet = quiet_append (reading c s).names (inner.notes.names ++ []) q (quiet_append inner.notes.names [] b.quiet refl);
    }))

if_else_becomes : (s : Scope) (p x y : ℕ) (c : RawExpr) (e : Expr) (raws others : List RawStmt) (xs ys : List Stmt) (nx ny : Scope) (ks ls : List LocalInfo) → (reading c s).expr ≡ e → Quiet (reading c s).names
    → Becomes (walk.in_order (map walk.stmt_fragment raws) s) xs nx ks → Becomes (walk.in_order (map walk.stmt_fragment others) (behind s nx)) ys ny ls
    → Becomes (walk.stmt_fragment (statement p (what.If c (statement x (what.Block raws)) (Some (statement y (what.Block others))))) s) (roll-Stmt (Stmt-F.If 0 e xs ys) ∷ []) (behind (behind s nx) ny) (ks ++ ls)
if_else_becomes s p x y c e raws others xs ys nx ny ks ls i q b d =
    let inner = walk.in_order (map walk.stmt_fragment raws) s in
    let t = behind s inner.next in
    let same = ap (behind s) b.is_next in
    let f = subst (λ z. Becomes (walk.in_order (map walk.stmt_fragment others) z) ys ny ls) (sym same) d in
    let second = walk.in_order (map walk.stmt_fragment others) t in
    subst (λ f. Becomes (f s) (roll-Stmt (Stmt-F.If 0 e xs ys) ∷ []) (behind (behind s nx) ny) (ks ++ ls)) (sym (stmt_fragment-IfElse p c (statement x (what.Block raws)) (statement y (what.Block others))))
    (subst (λ f. Becomes (walk.if_fragment p (reading c) f (Some (walk.stmt_fragment (statement y (what.Block others)))) s) (roll-Stmt (Stmt-F.If 0 e xs ys) ∷ []) (behind (behind s nx) ny) (ks ++ ls)) (sym (stmt_fragment-Block x raws))
    (subst (λ f. Becomes (walk.if_fragment p (reading c) (walk.block_fragment (map walk.stmt_fragment raws)) (Some f) s) (roll-Stmt (Stmt-F.If 0 e xs ys) ∷ []) (behind (behind s nx) ny) (ks ++ ls)) (sym (stmt_fragment-Block y others)) (record {
      is_statements = ap (λ z. z ∷ []) (fold_stmt-If unplaced_at unplaced_loop p (reading c s).expr inner.statements second.statements ∙ (λ t. roll-Stmt (Stmt-F.If 0 (i t) (b.is_statements t) (f.is_statements t))));
      is_next = (λ t. behind (same t) (f.is_next t));
      is_locals = (λ t. b.is_locals t ++ f.is_locals t);
      quiet = quiet_append (reading c s).names (inner.notes.names ++ second.notes.names) q (quiet_append inner.notes.names second.notes.names b.quiet f.quiet);
    })))

-- what stands behind a branch that has an `else`
record ElseParts (s : Scope) (xs : List Stmt) (ms : List Meant) (ts : List Token) : Type 0 where
  pub p : ℕ
  pub o : ℕ
  pub y : ℕ
  pub back : List Token
  pub others : BodyDerivation s xs ms back
  pub is : ts ≡ token p (codes "}") kind.Punct ∷ token o (codes "else") kind.Keyword ∷ token y (codes "{") kind.Punct ∷ back

else_gives : (u : Unit) (it : List (List ℕ)) (ind : List ℕ) (y : Stmt) (ys : List Stmt) → Each (StmtClaim u) (y ∷ ys) → (s : Scope) → list_holds (map (meant u) (y ∷ ys)) it s ≡ true
    → Gives (else_part (layouts u (y ∷ ys)) it ind ++ close ind) (ElseParts s (map unplaced (y ∷ ys)) (map (meant u) (y ∷ ys)))
else_gives u it ind y ys h s w =
    let xs = y ∷ ys in
    let ms = map (meant u) xs in
    gives_append {F = λ ts. (p o x : ℕ) × (us : List Token) × ListDerivation s (map unplaced xs) ms us × (ts ≡ token p (codes "}") kind.Punct ∷ token o (codes "else") kind.Keyword ∷ token x (codes "{") kind.Punct ∷ us)} {G = λ ts. BlockItems [] ts}
    (else_part (layouts u xs) it ind) (close ind)
    (λ ts us a b. let l = a.4 in record { p = a.0; o = a.1; y = a.2; back = a.3 ++ us; others = record { raws = l.raws; derives = l.items us b; becomes = l.becomes }; is = ap (λ z. z ++ us) a.5 })
    (gives_append {F = λ ts. (p o x : ℕ) × (ts ≡ token p (codes "}") kind.Punct ∷ token o (codes "else") kind.Keyword ∷ token x (codes "{") kind.Punct ∷ [])} {G = ListDerivation s (map unplaced xs) ms}
    (line ind (punctuator "}" ∷ space ∷ keyword "else" ∷ space ∷ punctuator "{" ∷ [])) (all_of (layouts u xs) it (deeper ind))
    (λ ts us a b. (a.0, a.1, a.2, us, b, ap (λ z. z ++ us) a.3)) (record { at = λ place. (_, _, _, refl) }) (list_gives u it (deeper ind) xs h s w))
    (close_gives ind)

if_gives : (u : Unit) (place : ℕ) (e : Expr) (body otherwise : List Stmt) → Each (StmtClaim u) body → Each (StmtClaim u) otherwise → (it : List (List ℕ)) (ind : List ℕ) (s : Scope)
    → (stmt_meant u (Stmt-F.If place e (map (meant u) body) (map (meant u) otherwise))).holds it s ≡ true
    → Gives (stmt_step u (Stmt-F.If place e (layouts u body) (layouts u otherwise)) it ind) (StmtDerivation s (roll-Stmt (Stmt-F.If 0 e (map unplaced body) (map unplaced otherwise))) (stmt_meant u (Stmt-F.If place e (map (meant u) body) (map (meant u) otherwise))))
if_gives u place e body [] h k it ind s w =
    let ms = map (meant u) body in
    let l = and_parts (is_meant u it s e) (list_holds ms it s && true) w in
    let m = and_parts (list_holds ms it s) true l.1 in
    gives_append {F = IfHead s e} {G = BodyDerivation s (map unplaced body) ms} (line ind (if_head u it e)) (all_of (layouts u body) it (deeper ind) ++ close ind)
    (λ hs us a b.
    let open_block = token a.x (codes "{") kind.Punct in let close_bracket = token a.r (codes ")") kind.Punct in
    let block = statement a.x (what.Block b.raws) in let raw = statement a.p (what.If a.test.raw block None) in record {
      raw = raw;
      item = λ rest more c. BlockItems.item true raw rest (hs ++ us) more
          (subst (Statement true raw) (ap (λ z. token a.p (codes "if") kind.Keyword ∷ token a.q (codes "(") kind.Punct ∷ z) (append_assoc a.xs (close_bracket ∷ []) (open_block ∷ us) ∙ sym (append_assoc a.xs (close_bracket ∷ open_block ∷ []) us)) ∙ sym (ap (λ z. z ++ us) a.is))
          (Statement.if_only false a.p a.q a.r a.test.raw block a.xs (open_block ∷ us) a.test.derives (Statement.block a.x b.raws us b.derives))) c;
      becomes = if_only_becomes s a.p a.x a.test.raw e b.raws (map unplaced body) (list_next ms s) (list_locals ms) a.test.becomes a.test.quiet b.becomes;
    })
    (gives_line {F = IfHead s e} ind (if_head u it e) (if_head_gives u it s e l.0)) (body_gives u it (deeper ind) ind body h s m.0)
if_gives u place e body (o ∷ os) h k it ind s w =
    let ms = map (meant u) body in
    let ns = map (meant u) (o ∷ os) in
    let t = behind s (list_next ms s) in
    let l = and_parts (is_meant u it s e) (list_holds ms it s && list_holds ns it t) w in
    let m = and_parts (list_holds ms it s) (list_holds ns it t) l.1 in
    gives_append {F = IfHead s e} {G = λ ts. (bs es : List Token) × ListDerivation s (map unplaced body) ms bs × ElseParts t (map unplaced (o ∷ os)) ns es × (ts ≡ bs ++ es)}
    (line ind (if_head u it e)) (all_of (layouts u body) it (deeper ind) ++ (else_part (layouts u (o ∷ os)) it ind ++ close ind))
    (λ hs us a g.
    let bs = g.0 in let b = g.2 in let f = g.3 in
    let open_block = token a.x (codes "{") kind.Punct in let close_bracket = token a.r (codes ")") kind.Punct in let close_block = token f.p (codes "}") kind.Punct in
    let open_other = token f.y (codes "{") kind.Punct in let else_word = token f.o (codes "else") kind.Keyword in
    let block = statement a.x (what.Block b.raws) in let other = statement f.y (what.Block f.others.raws) in let raw = statement a.p (what.If a.test.raw block (Some other)) in record {
      raw = raw;
      item = λ rest more c. BlockItems.item false raw rest (hs ++ us) more
          (subst (Statement false raw)
          (ap (λ z. token a.p (codes "if") kind.Keyword ∷ token a.q (codes "(") kind.Punct ∷ z)
          (append_assoc (a.xs ++ (close_bracket ∷ [])) (open_block ∷ (bs ++ close_block ∷ [])) (else_word ∷ open_other ∷ f.back)
          ∙ append_assoc a.xs (close_bracket ∷ []) ((open_block ∷ (bs ++ close_block ∷ [])) ++ (else_word ∷ open_other ∷ f.back))
          ∙ ap (λ z. a.xs ++ (close_bracket ∷ open_block ∷ z)) (append_assoc bs (close_block ∷ []) (else_word ∷ open_other ∷ f.back) ∙ ap (λ z. bs ++ z) (sym f.is) ∙ sym g.4)
          ∙ sym (append_assoc a.xs (close_bracket ∷ open_block ∷ []) us))
          ∙ sym (ap (λ z. z ++ us) a.is))
          (Statement.if_else false a.p a.q a.r f.o a.test.raw block other a.xs (open_block ∷ (bs ++ close_block ∷ [])) (open_other ∷ f.back) a.test.derives
          (Statement.block a.x b.raws (bs ++ close_block ∷ []) (b.items (close_block ∷ []) (BlockItems.end f.p))) (Statement.block f.y f.others.raws f.back f.others.derives))) c;
      becomes = if_else_becomes s a.p a.x f.y a.test.raw e b.raws f.others.raws (map unplaced body) (map unplaced (o ∷ os)) (list_next ms s) (list_next ns t) (list_locals ms) (list_locals ns) a.test.becomes a.test.quiet b.becomes f.others.becomes;
    })
    (gives_line {F = IfHead s e} ind (if_head u it e) (if_head_gives u it s e l.0))
    (gives_append {F = ListDerivation s (map unplaced body) ms} {G = ElseParts t (map unplaced (o ∷ os)) ns} (all_of (layouts u body) it (deeper ind)) (else_part (layouts u (o ∷ os)) it ind ++ close ind)
    (λ xs ys a b. (xs, ys, a, b, refl)) (list_gives u it (deeper ind) body h s m.0) (else_gives u it ind o os k t m.1))

pub if_claim : (u : Unit) (place : ℕ) (e : Expr) (body otherwise : List Stmt) → Each (StmtClaim u) body → Each (StmtClaim u) otherwise → StmtClaim u (stmt.If place e body otherwise)
if_claim u place e body otherwise h k =
    stated u (stmt.If place e body otherwise) (stmt_step u (Stmt-F.If place e (layouts u body) (layouts u otherwise))) (stmt_meant u (Stmt-F.If place e (map (meant u) body) (map (meant u) otherwise))) (roll-Stmt (Stmt-F.If 0 e (map unplaced body) (map unplaced otherwise)))
    (fold_stmt-If (stmt_step u) (loop_layer true u) place e body otherwise) (fold_stmt-If (stmt_meant u) (loop_meant u) place e body otherwise) (fold_stmt-If unplaced_at unplaced_loop place e body otherwise)
    (if_gives u place e body otherwise h k)
