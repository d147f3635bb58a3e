-- The tokens of printed statements derive raw statements that become them, up to places: what is claimed, and assignments.
use Rattle.std.proofs.Common.{◌≡◌, ◌∙◌, ap, sym, refl, subst, ℕ, Bool, true, false, List, [], ◌∷◌, ◌++◌, map, Option, Some, None, arith, append_assoc}
use Rattle.std.proofs.lemmas.Bool.{and_parts, eqb-true}
use Rattle.std.specs.Prelude.{◌&&◌, codes}
use Rattle.std.specs.List.{list_all, flat_map}
use Rattle.species_ast.specs.Token.{Token}
use Rattle.species_ast.specs.Spelling.{Spelling}
use Rattle.species_ast.specs.declared.tree.LocalInfo.{LocalInfo}
use Rattle.species_ast.specs.declared.tree.Unit.{Unit}
use Rattle.species_ast.specs.declared.tree.Expr.{Expr}
use Rattle.species_ast.specs.declared.tree.Stmt.{Stmt, roll-Stmt}
use Rattle.species_ast.specs.declared.tree.Stmt.TheOpen.{Stmt-F}
use Rattle.species_ast.specs.declared.tree.Stmt.TheVariants as stmt
use Rattle.species_ast.specs.declared.token.TokenKind.TheVariants as kind
use Rattle.species_ast.specs.declared.raw.RawTarget.{RawTarget}
use Rattle.species_ast.specs.declared.raw.RawStmt.{RawStmt}
use Rattle.species_ast.specs.declared.raw.RawOp.{RawOp}
use Rattle.species_ast.specs.declared.raw.RawOp.TheVariants as op
use Rattle.species_ast.specs.declared.raw.RawChange.TheVariants as change
use Rattle.species_ast.specs.declared.raw.RawWhat.TheVariants as what
use Rattle.species_ast.specs.Grammar.Expressions.{Target, target}
use Rattle.species_ast.specs.Grammar.Declarations.{statement}
use Rattle.species_ast.specs.Grammar.Statements.{Change, Statement, BlockItems, target_place}
use Rattle.species_ast.specs.Scope.Meanings.{Meaning, Scope, meaning_in, local_number, Occurrence}
use Rattle.species_ast.specs.Scope.Expressions.{ResolvedTarget, reading, target_in}
use Rattle.species_ast.specs.Scope.Statements as walk
use Rattle.species_ast.proofs.Folds.{fold_stmt-Assign, fold_stmt-AddTo, fold_stmt-SetLocal}
use Rattle.species_ast.proofs.ScopeLaws.{target_in-target, stmt_fragment-Change, stmt_fragment-Atomic}
use Rattle.species_ast.proofs.Induction.{Each}
use Rattle.species_print.specs.Printed.{spaced, punctuator, name, line}
use Rattle.species_print.specs.Expressions.{expr_printed, array_name, local_name, subscript, level_of}
use Rattle.species_print.specs.Statements.{Layout, all_of, element, assignment, atomic_line, close, stmt_step, loop_layer, stmt_layout}
use Rattle.species_readback.proofs.ExpressionLemmas.{Quiet, quiet_append, Derivation, Reads, expr_reads, lowered, SubsDerivation, subs_reads}
use Rattle.species_readback.proofs.GivesLemmas.{Gives, token, gives_map, gives_nil, gives_lexeme, gives_blank, gives_append, gives_line}
use Rattle.species_readback.specs.Unplaced.{unplaced, unplaced_at, unplaced_loop}
use Rattle.species_readback.specs.Meant.{is_meant, means_array, means_local, Meant, list_next, list_locals, list_holds, element_meant, stmt_meant, loop_meant, meant}
use Rattle.species_ast.specs.Signs.{assignment_sign}
use Rattle.species_readback.proofs.ListLemmas.{map_append}

-- ---- expressions and targets

abbrev pub Expr0 : Scope → Expr → List Token → Type 0
Expr0 s e ts = Derivation s 0 e ts

pub expr_gives : (u : Unit) (it : List (List ℕ)) (s : Scope) (e : Expr) → is_meant u it s e ≡ true → Gives (expr_printed u it e) (Expr0 s e)
expr_gives u it s e h = record { at = lowered s (level_of e) 0 e (expr_printed u it e) (omega arith) (expr_reads u it s e h) }

pub record TargetDerivation (s : Scope) (text : List ℕ) (es : List Expr) (ts : List Token) : Type 0 where
  pub raw : RawTarget
  pub derives : Target raw ts
  pub is_means : (target_in raw s).means ≡ meaning_in s.names text
  pub is_subs : (target_in raw s).subs ≡ es
  pub quiet : Quiet (target_in raw s).names

each_expr : (u : Unit) (it : List (List ℕ)) (s : Scope) (es : List Expr) → list_all (is_meant u it s) es ≡ true → Each (λ e. Reads s 0 e (expr_printed u it e)) es
each_expr u it s [] h = tt
each_expr u it s (e ∷ es) h = let k = and_parts (is_meant u it s e) (list_all (is_meant u it s) es) h in ((expr_gives u it s e k.0).at, each_expr u it s es k.1)

target_gives : (u : Unit) (it : List (List ℕ)) (s : Scope) (text : List ℕ) (es : List Expr) → list_all (is_meant u it s) es ≡ true
    → Gives (name text ∷ flat_map subscript (map (expr_printed u it) es)) (TargetDerivation s text es)
target_gives u it s text es h =
    gives_lexeme {F = SubsDerivation s es} text kind.Name (flat_map subscript (map (expr_printed u it) es))
    (λ p ts d. let n : Spelling = record { text = text; place = p } in record {
      raw = target n d.raws;
      derives = Target.element n d.raws ts d.derives;
      is_means = ap (λ t. t.means) (target_in-target n d.raws s);
      is_subs = ap (λ t. t.subs) (target_in-target n d.raws s) ∙ d.becomes;
      quiet = subst (λ t. Quiet t.names) (sym (target_in-target n d.raws s)) d.quiet;
    })
    (record { at = subs_reads s (expr_printed u it) es (each_expr u it s es h) })

-- ---- what is claimed of a statement and of a list

-- what a fragment of program becomes
pub record Becomes (p : walk.Fragment) (us : List Stmt) (nx : Scope) (ls : List LocalInfo) : Type 0 where
  pub is_statements : map unplaced p.statements ≡ us
  pub is_next : p.next ≡ nx
  pub is_locals : p.notes.locals ≡ ls
  pub quiet : Quiet p.notes.names

pub record StmtDerivation (s : Scope) (x : Stmt) (m : Meant) (ts : List Token) : Type 0 where
  pub raw : RawStmt
  pub item : (rest : List RawStmt) (more : List Token) → BlockItems rest more → BlockItems (raw ∷ rest) (ts ++ more)
  pub becomes : Becomes (walk.stmt_fragment raw s) (x ∷ []) (m.next s) m.locals

-- a list, before the bracket that ends it
pub record ListDerivation (s : Scope) (xs : List Stmt) (ms : List Meant) (ts : List Token) : Type 0 where
  pub raws : List RawStmt
  pub items : (more : List Token) → BlockItems [] more → BlockItems raws (ts ++ more)
  pub becomes : Becomes (walk.in_order (map walk.stmt_fragment raws) s) xs (list_next ms s) (list_locals ms)

-- a list, and the bracket that ends it
pub record BodyDerivation (s : Scope) (xs : List Stmt) (ms : List Meant) (ts : List Token) : Type 0 where
  pub raws : List RawStmt
  pub derives : BlockItems raws ts
  pub becomes : Becomes (walk.in_order (map walk.stmt_fragment raws) s) xs (list_next ms s) (list_locals ms)

abbrev pub StmtClaim : Unit → Stmt → Type 0
StmtClaim u x = (it : List (List ℕ)) (ind : List ℕ) (s : Scope) → (meant u x).holds it s ≡ true → Gives (stmt_layout true u x it ind) (StmtDerivation s (unplaced x) (meant u x))

-- ---- lists

-- one fragment behind another
then_becomes : (p : walk.Walk) (ps : List walk.Walk) (s t : Scope) (x : Stmt) (xs : List Stmt) (nx : Scope) (k ls : List LocalInfo)
    → Becomes (p s) (x ∷ []) t k → Becomes (walk.in_order ps t) xs nx ls → Becomes (walk.in_order (p ∷ ps) s) (x ∷ xs) nx (k ++ ls)
then_becomes p ps s t x xs nx k ls a b =
    let c = subst (λ z. Becomes (walk.in_order ps z) xs nx ls) (sym a.is_next) b in
    record {
      is_statements = map_append unplaced (p s).statements (walk.in_order ps (p s).next).statements ∙ ap (λ z. z ++ map unplaced (walk.in_order ps (p s).next).statements) a.is_statements ∙ ap (λ z. x ∷ z) c.is_statements;
      is_next = c.is_next;
      is_locals = ap (λ z. z ++ (walk.in_order ps (p s).next).notes.locals) a.is_locals ∙ ap (λ z. k ++ z) c.is_locals;
      quiet = quiet_append (p s).notes.names (walk.in_order ps (p s).next).notes.names a.quiet c.quiet;
    }

abbrev pub layouts : Unit → List Stmt → List Layout
layouts u xs = map (stmt_layout true u) xs

pub list_gives : (u : Unit) (it : List (List ℕ)) (ind : List ℕ) (xs : List Stmt) → Each (StmtClaim u) xs → (s : Scope) → list_holds (map (meant u) xs) it s ≡ true
    → Gives (all_of (layouts u xs) it ind) (ListDerivation s (map unplaced xs) (map (meant u) xs))
list_gives u it ind [] h s w = gives_nil (record { raws = []; items = λ more b. b; becomes = record { is_statements = refl; is_next = refl; is_locals = refl; quiet = refl } })
list_gives u it ind (x ∷ xs) h s w =
    let k = and_parts ((meant u x).holds it s) (list_holds (map (meant u) xs) it ((meant u x).next s)) w in
    gives_append {F = StmtDerivation s (unplaced x) (meant u x)} {G = ListDerivation ((meant u x).next s) (map unplaced xs) (map (meant u) xs)} (stmt_layout true u x it ind) (all_of (layouts u xs) it ind)
    (λ ts us a b. record {
      raws = a.raw ∷ b.raws;
      items = λ more c. subst (BlockItems (a.raw ∷ b.raws)) (sym (append_assoc ts us more)) (a.item b.raws (us ++ more) (b.items more c));
      becomes = then_becomes (walk.stmt_fragment a.raw) (map walk.stmt_fragment b.raws) s ((meant u x).next s) (unplaced x) (map unplaced xs) _ _ _ a.becomes b.becomes;
    })
    (h.0 it ind s k.0) (list_gives u it ind xs h.1 ((meant u x).next s) k.1)

pub close_gives : (ind : List ℕ) → Gives (close ind) (λ ts. BlockItems [] ts)
close_gives ind = gives_line {F = λ ts. BlockItems [] ts} ind (punctuator "}" ∷ []) (gives_lexeme {F = λ ts. ts ≡ []} (codes "}") kind.Punct [] (λ p ts e. subst (λ z. BlockItems [] (token p (codes "}") kind.Punct ∷ z)) (sym e) (BlockItems.end p)) (gives_nil refl))

pub body_gives : (u : Unit) (it : List (List ℕ)) (ind jnd : List ℕ) (xs : List Stmt) → Each (StmtClaim u) xs → (s : Scope) → list_holds (map (meant u) xs) it s ≡ true
    → Gives (all_of (layouts u xs) it ind ++ close jnd) (BodyDerivation s (map unplaced xs) (map (meant u) xs))
body_gives u it ind jnd xs h s w =
    gives_append {F = ListDerivation s (map unplaced xs) (map (meant u) xs)} {G = λ ts. BlockItems [] ts} (all_of (layouts u xs) it ind) (close jnd)
    (λ ts us a b. record { raws = a.raws; derives = a.items us b; becomes = a.becomes })
    (list_gives u it ind xs h s w) (close_gives jnd)

-- ---- one statement by its layer

-- the claim from what the folds give at a variant
pub stated : (u : Unit) (x : Stmt) (l : Layout) (m : Meant) (y : Stmt) → stmt_layout true u x ≡ l → meant u x ≡ m → unplaced x ≡ y
    → ((it : List (List ℕ)) (ind : List ℕ) (s : Scope) → m.holds it s ≡ true → Gives (l it ind) (StmtDerivation s y m)) → StmtClaim u x
stated u x l m y a b c h it ind s w =
    subst (λ ps. Gives ps (StmtDerivation s (unplaced x) (meant u x))) (sym (ap (λ f. f it ind) a))
    (subst (λ z. Gives (l it ind) (StmtDerivation s z (meant u x))) (sym c)
    (subst (λ z. Gives (l it ind) (StmtDerivation s y z)) (sym b) (h it ind s (sym (ap (λ z. z.holds it s) b) ∙ w))))

-- ---- assignments

-- a target, a sign and a value
pub record ChangeParts (s : Scope) (text : List ℕ) (es : List Expr) (e : Expr) (sign : List ℕ) (ts : List Token) : Type 0 where
  pub front : List Token
  pub back : List Token
  pub p : ℕ
  pub q : ℕ
  pub target_of : TargetDerivation s text es front
  pub value_of : Derivation s 0 e back
  pub is : ts ≡ front ++ (token p sign kind.Punct ∷ (back ++ token q (codes ";") kind.Punct ∷ []))

assignment_gives : (u : Unit) (it : List (List ℕ)) (s : Scope) (text : List ℕ) (es : List Expr) (e : Expr) (sign : List ℕ)
    → list_all (is_meant u it s) es ≡ true → is_meant u it s e ≡ true
    → Gives (assignment u it (name text ∷ flat_map subscript (map (expr_printed u it) es)) sign e) (ChangeParts s text es e sign)
assignment_gives u it s text es e sign h w =
    gives_append {F = TargetDerivation s text es} {G = λ ts. (p : ℕ) × (q : ℕ) × (back : List Token) × Derivation s 0 e back × (ts ≡ token p sign kind.Punct ∷ (back ++ token q (codes ";") kind.Punct ∷ []))}
    (name text ∷ flat_map subscript (map (expr_printed u it) es)) (spaced sign ++ (expr_printed u it e ++ punctuator ";" ∷ []))
    (λ xs ys a b. record { front = xs; back = b.2; p = b.0; q = b.1; target_of = a; value_of = b.3; is = ap (λ z. xs ++ z) b.4 })
    (target_gives u it s text es h)
    (gives_blank (codes " ") _ (gives_lexeme {F = λ ts. (q : ℕ) × (back : List Token) × Derivation s 0 e back × (ts ≡ back ++ token q (codes ";") kind.Punct ∷ [])} sign kind.Punct _
    (λ p ts d. (p, d.0, d.1, d.2, ap (λ z. token p sign kind.Punct ∷ z) d.3))
    (gives_blank (codes " ") _ (gives_append {F = Expr0 s e} {G = λ ts. (q : ℕ) × (ts ≡ token q (codes ";") kind.Punct ∷ [])} (expr_printed u it e) (punctuator ";" ∷ [])
    (λ xs ys a b. (b.0, xs, a, ap (λ z. xs ++ z) b.1))
    (expr_gives u it s e w)
    (record { at = λ place. (place, refl) })))))

-- a change whose parts are known is a statement
change_derives : (s : Scope) (text : List ℕ) (es : List Expr) (e : Expr) (o : RawOp) (ts : List Token) (d : ChangeParts s text es e (assignment_sign o) ts)
    → Statement false (statement (target_place d.target_of.raw) (what.Change (change.Set d.target_of.raw o d.value_of.raw))) ts
change_derives s text es e o ts d =
    let t = d.target_of in
    let v = d.value_of in
    let sign = token d.p (assignment_sign o) kind.Punct in
    let semi = token d.q (codes ";") kind.Punct in
    subst (Statement false (statement (target_place t.raw) (what.Change (change.Set t.raw o v.raw)))) (append_assoc d.front (sign ∷ d.back) (semi ∷ []) ∙ sym d.is)
    (Statement.assignment (target_place t.raw) d.q (change.Set t.raw o v.raw) (d.front ++ (sign ∷ d.back)) (Change.set d.p o t.raw v.raw d.front d.back t.derives v.derives))

-- what a change becomes, where the statements are known
change_becomes : (s : Scope) (text : List ℕ) (es : List Expr) (e : Expr) (sign : List ℕ) (ts : List Token) (d : ChangeParts s text es e sign ts) (f : Scope → ResolvedTarget → Expr → List Stmt) (y : Stmt)
    → map unplaced (f s (target_in d.target_of.raw s) (reading d.value_of.raw s).expr) ≡ y ∷ []
    → Becomes (walk.change_by f (target_in d.target_of.raw) (reading d.value_of.raw) s) (y ∷ []) s []
change_becomes s text es e sign ts d f y h = record {
  is_statements = h;
  is_next = refl;
  is_locals = refl;
  quiet = quiet_append (walk.assigned_names s (target_in d.target_of.raw s)) (reading d.value_of.raw s).names d.target_of.quiet d.value_of.quiet;
}

-- ---- what is set

set_array : (s : Scope) (p a : ℕ) (n : Spelling) (m : Option Meaning) (subs : List Expr) (names : List Occurrence) (v : Expr) → means_array a m ≡ true
    → walk.assigned s p (record { name = n; means = m; subs = subs; names = names }) v ≡ stmt.Assign p a subs v ∷ []
set_array s p a n None subs names v h = cc
set_array s p a n (Some (Meaning.Array b k)) subs names v h = ap (λ z. stmt.Assign p z subs v ∷ []) (eqb-true b a h)
set_array s p a n (Some (Meaning.Variable x)) subs names v h = cc
set_array s p a n (Some (Meaning.Iterator k)) subs names v h = cc
set_array s p a n (Some Meaning.Function) subs names v h = cc

add_array : (s : Scope) (p a : ℕ) (atomic : Bool) (n : Spelling) (m : Option Meaning) (subs : List Expr) (names : List Occurrence) (v : Expr) → means_array a m ≡ true
    → walk.increased s p atomic (record { name = n; means = m; subs = subs; names = names }) v ≡ stmt.AddTo p a subs v atomic ∷ []
add_array s p a atomic n None subs names v h = cc
add_array s p a atomic n (Some (Meaning.Array b k)) subs names v h = ap (λ z. stmt.AddTo p z subs v atomic ∷ []) (eqb-true b a h)
add_array s p a atomic n (Some (Meaning.Variable x)) subs names v h = cc
add_array s p a atomic n (Some (Meaning.Iterator k)) subs names v h = cc
add_array s p a atomic n (Some Meaning.Function) subs names v h = cc

set_local : (s : Scope) (p x : ℕ) (n : Spelling) (m : Option Meaning) (subs : List Expr) (names : List Occurrence) (v : Expr) → means_local s x m ≡ true
    → walk.assigned s p (record { name = n; means = m; subs = subs; names = names }) v ≡ stmt.SetLocal p x v ∷ []
set_local s p x n None subs names v h = cc
set_local s p x n (Some (Meaning.Array b k)) subs names v h = cc
set_local s p x n (Some (Meaning.Variable l)) subs names v h = ap (λ z. stmt.SetLocal p z v ∷ []) (eqb-true (local_number s l.serial) x h)
set_local s p x n (Some (Meaning.Iterator k)) subs names v h = cc
set_local s p x n (Some Meaning.Function) subs names v h = cc

-- ---- assignments to arrays and locals

pub assign_claim : (u : Unit) (place a : ℕ) (es : List Expr) (e : Expr) → StmtClaim u (stmt.Assign place a es e)
assign_claim u place a es e =
    stated u (stmt.Assign place a es e) (stmt_step u (Stmt-F.Assign place a es e)) (stmt_meant u (Stmt-F.Assign place a es e)) (roll-Stmt (Stmt-F.Assign 0 a es e))
    (fold_stmt-Assign (stmt_step u) (loop_layer true u) place a es e) (fold_stmt-Assign (stmt_meant u) (loop_meant u) place a es e) (fold_stmt-Assign unplaced_at unplaced_loop place a es e)
    (λ it ind s w.
    let k = and_parts (means_array a (meaning_in s.names (array_name u a))) (list_all (is_meant u it s) es && is_meant u it s e) w in
    let l = and_parts (list_all (is_meant u it s) es) (is_meant u it s e) k.1 in
    gives_line {F = StmtDerivation s (roll-Stmt (Stmt-F.Assign 0 a es e)) (stmt_meant u (Stmt-F.Assign place a es e))} ind (assignment u it (element u it a es) (codes "=") e)
    (gives_map {F = ChangeParts s (array_name u a) es e (codes "=")} (assignment u it (element u it a es) (codes "=") e)
    (λ ts d. let t = d.target_of in let v = d.value_of in let p = target_place t.raw in let r = target_in t.raw s in record {
      raw = statement p (what.Change (change.Set t.raw op.Plain v.raw));
      item = λ rest more c. BlockItems.item false _ rest ts more (change_derives s (array_name u a) es e op.Plain ts d) c;
      becomes = subst (λ f. Becomes (f s) (roll-Stmt (Stmt-F.Assign 0 a es e) ∷ []) s []) (sym (stmt_fragment-Change p (change.Set t.raw op.Plain v.raw)))
          (change_becomes s (array_name u a) es e (codes "=") ts d (λ s. walk.operated s p op.Plain) (roll-Stmt (Stmt-F.Assign 0 a es e))
          (ap (map unplaced) (set_array s p a r.name r.means r.subs r.names (reading v.raw s).expr (ap (means_array a) t.is_means ∙ k.0))
          ∙ ap (λ z. z ∷ []) (fold_stmt-Assign unplaced_at unplaced_loop p a r.subs (reading v.raw s).expr)
          ∙ (λ i. roll-Stmt (Stmt-F.Assign 0 a (t.is_subs i) (v.becomes i)) ∷ [])));
    })
    (assignment_gives u it s (array_name u a) es e (codes "=") l.0 l.1)))

pub local_claim : (u : Unit) (place n : ℕ) (e : Expr) → StmtClaim u (stmt.SetLocal place n e)
local_claim u place n e =
    stated u (stmt.SetLocal place n e) (stmt_step u (Stmt-F.SetLocal place n e)) (stmt_meant u (Stmt-F.SetLocal place n e)) (roll-Stmt (Stmt-F.SetLocal 0 n e))
    (fold_stmt-SetLocal (stmt_step u) (loop_layer true u) place n e) (fold_stmt-SetLocal (stmt_meant u) (loop_meant u) place n e) (fold_stmt-SetLocal unplaced_at unplaced_loop place n e)
    (λ it ind s w.
    let k = and_parts (means_local s n (meaning_in s.names (local_name u n))) (is_meant u it s e) w in
    gives_line {F = StmtDerivation s (roll-Stmt (Stmt-F.SetLocal 0 n e)) (stmt_meant u (Stmt-F.SetLocal place n e))} ind (assignment u it (name (local_name u n) ∷ []) (codes "=") e)
    (gives_map {F = ChangeParts s (local_name u n) [] e (codes "=")} (assignment u it (name (local_name u n) ∷ []) (codes "=") e)
    (λ ts d. let t = d.target_of in let v = d.value_of in let p = target_place t.raw in let r = target_in t.raw s in record {
      raw = statement p (what.Change (change.Set t.raw op.Plain v.raw));
      item = λ rest more c. BlockItems.item false _ rest ts more (change_derives s (local_name u n) [] e op.Plain ts d) c;
      becomes = subst (λ f. Becomes (f s) (roll-Stmt (Stmt-F.SetLocal 0 n e) ∷ []) s []) (sym (stmt_fragment-Change p (change.Set t.raw op.Plain v.raw)))
          (change_becomes s (local_name u n) [] e (codes "=") ts d (λ s. walk.operated s p op.Plain) (roll-Stmt (Stmt-F.SetLocal 0 n e))
          (ap (map unplaced) (set_local s p n r.name r.means r.subs r.names (reading v.raw s).expr (ap (means_local s n) t.is_means ∙ k.0))
          ∙ ap (λ z. z ∷ []) (fold_stmt-SetLocal unplaced_at unplaced_loop p n (reading v.raw s).expr)
          ∙ (λ i. roll-Stmt (Stmt-F.SetLocal 0 n (v.becomes i)) ∷ [])));
    })
    (assignment_gives u it s (local_name u n) [] e (codes "=") refl k.1)))

-- an addition, with or without its pragma
add_piece : (u : Unit) (s : Scope) (a : ℕ) (es : List Expr) (e : Expr) (atomic : Bool) (ts : List Token) (d : ChangeParts s (array_name u a) es e (codes "+=") ts) (p : ℕ)
    → means_array a (meaning_in s.names (array_name u a)) ≡ true
    → map unplaced (walk.increased s p atomic (target_in d.target_of.raw s) (reading d.value_of.raw s).expr) ≡ roll-Stmt (Stmt-F.AddTo 0 a es e atomic) ∷ []
add_piece u s a es e atomic ts d p h =
    let t = d.target_of in let v = d.value_of in let r = target_in t.raw s in
    ap (map unplaced) (add_array s p a atomic r.name r.means r.subs r.names (reading v.raw s).expr (ap (means_array a) t.is_means ∙ h))
    ∙ ap (λ z. z ∷ []) (fold_stmt-AddTo unplaced_at unplaced_loop p a r.subs (reading v.raw s).expr atomic)
    ∙ (λ i. roll-Stmt (Stmt-F.AddTo 0 a (t.is_subs i) (v.becomes i) atomic) ∷ [])

add_gives : (u : Unit) (place a : ℕ) (es : List Expr) (e : Expr) (atomic : Bool) (it : List (List ℕ)) (ind : List ℕ) (s : Scope) → element_meant u a es e it s ≡ true
    → Gives (stmt_step u (Stmt-F.AddTo place a es e atomic) it ind) (StmtDerivation s (roll-Stmt (Stmt-F.AddTo 0 a es e atomic)) (stmt_meant u (Stmt-F.AddTo place a es e atomic)))
add_gives u place a es e false it ind s w =
    let k = and_parts (means_array a (meaning_in s.names (array_name u a))) (list_all (is_meant u it s) es && is_meant u it s e) w in
    let l = and_parts (list_all (is_meant u it s) es) (is_meant u it s e) k.1 in
    gives_line {F = StmtDerivation s (roll-Stmt (Stmt-F.AddTo 0 a es e false)) (stmt_meant u (Stmt-F.AddTo place a es e false))} ind (assignment u it (element u it a es) (codes "+=") e)
    (gives_map {F = ChangeParts s (array_name u a) es e (codes "+=")} (assignment u it (element u it a es) (codes "+=") e)
    (λ ts d. let t = d.target_of in let v = d.value_of in let p = target_place t.raw in record {
      raw = statement p (what.Change (change.Set t.raw op.Add v.raw));
      item = λ rest more c. BlockItems.item false _ rest ts more (change_derives s (array_name u a) es e op.Add ts d) c;
      becomes = subst (λ f. Becomes (f s) (roll-Stmt (Stmt-F.AddTo 0 a es e false) ∷ []) s []) (sym (stmt_fragment-Change p (change.Set t.raw op.Add v.raw)))
          (change_becomes s (array_name u a) es e (codes "+=") ts d (λ s. walk.operated s p op.Add) (roll-Stmt (Stmt-F.AddTo 0 a es e false)) (add_piece u s a es e false ts d p k.0));
    })
    (assignment_gives u it s (array_name u a) es e (codes "+=") l.0 l.1))
add_gives u place a es e true it ind s w =
    let k = and_parts (means_array a (meaning_in s.names (array_name u a))) (list_all (is_meant u it s) es && is_meant u it s e) w in
    let l = and_parts (list_all (is_meant u it s) es) (is_meant u it s e) k.1 in
    let pragma = codes "#pragma omp atomic update" in
    gives_append {F = λ ts. (p : ℕ) × (ts ≡ token p pragma kind.Atomic ∷ [])} {G = ChangeParts s (array_name u a) es e (codes "+=")} (atomic_line true ind) (line ind (assignment u it (element u it a es) (codes "+=") e))
    (λ xs ts o d. let t = d.target_of in let v = d.value_of in let p = target_place t.raw in let n : Spelling = record { text = pragma; place = o.0 } in record {
      raw = statement p (what.Atomic t.raw v.raw);
      item = λ rest more c. BlockItems.item false (statement p (what.Atomic t.raw v.raw)) rest (xs ++ ts) more
          (subst (Statement false (statement p (what.Atomic t.raw v.raw))) (sym (ap (λ z. z ++ ts) o.1 ∙ ap (λ z. token o.0 pragma kind.Atomic ∷ z) d.is)) (Statement.atomic_assignment d.p d.q n t.raw v.raw d.front d.back t.derives v.derives)) c;
      becomes = subst (λ f. Becomes (f s) (roll-Stmt (Stmt-F.AddTo 0 a es e true) ∷ []) s []) (sym (stmt_fragment-Atomic p t.raw v.raw))
          (change_becomes s (array_name u a) es e (codes "+=") ts d (λ s. walk.increased s p true) (roll-Stmt (Stmt-F.AddTo 0 a es e true)) (add_piece u s a es e true ts d p k.0));
    })
    (record { at = λ place. (_, refl) })
    (gives_line ind (assignment u it (element u it a es) (codes "+=") e) (assignment_gives u it s (array_name u a) es e (codes "+=") l.0 l.1))

pub add_claim : (u : Unit) (place a : ℕ) (es : List Expr) (e : Expr) (atomic : Bool) → StmtClaim u (stmt.AddTo place a es e atomic)
add_claim u place a es e atomic =
    stated u (stmt.AddTo place a es e atomic) (stmt_step u (Stmt-F.AddTo place a es e atomic)) (stmt_meant u (Stmt-F.AddTo place a es e atomic)) (roll-Stmt (Stmt-F.AddTo 0 a es e atomic))
    (fold_stmt-AddTo (stmt_step u) (loop_layer true u) place a es e atomic) (fold_stmt-AddTo (stmt_meant u) (loop_meant u) place a es e atomic) (fold_stmt-AddTo unplaced_at unplaced_loop place a es e atomic)
    (add_gives u place a es e atomic)
