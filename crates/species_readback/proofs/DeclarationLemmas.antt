-- Printed declarations and blocks derive what they are.
use Rattle.std.proofs.Common.{◌≡◌, ◌∙◌, ap, sym, refl, subst, ℕ, true, false, List, [], ◌∷◌, ◌++◌, map, Option, Some, None, nat_eq, append-nil}
use Rattle.std.proofs.lemmas.Bool.{and_parts, eqb-true, not-true}
use Rattle.std.specs.Prelude.{◌&&◌, not, codes, option_map, is_some, if◌then◌else◌, unwrap_or}
use Rattle.species_ast.specs.Token.{Token}
use Rattle.species_ast.specs.Spelling.{Spelling}
use Rattle.species_ast.specs.declared.tree.Kind.{Kind}
use Rattle.species_ast.specs.declared.tree.LocalInfo.{LocalInfo}
use Rattle.species_ast.specs.declared.tree.Unit.{Unit}
use Rattle.species_ast.specs.declared.tree.Expr.{Expr}
use Rattle.species_ast.specs.declared.tree.Stmt.{Stmt, roll-Stmt}
use Rattle.species_ast.specs.declared.tree.Stmt.TheOpen.{Stmt-F}
use Rattle.species_ast.specs.declared.tree.Stmt.TheVariants as stmt
use Rattle.species_ast.specs.declared.token.TokenKind.TheVariants as kind
use Rattle.species_ast.specs.declared.raw.RawExpr.{RawExpr}
use Rattle.species_ast.specs.declared.raw.RawLocal.{RawLocal}
use Rattle.species_ast.specs.declared.raw.RawStmt.{RawStmt}
use Rattle.species_ast.specs.declared.raw.RawWhat.TheVariants as what
use Rattle.species_ast.specs.Grammar.Expressions.{TypeSpecifier}
use Rattle.species_ast.specs.Grammar.Declarations.{statement, InitDeclarator, MoreDeclarators, LocalDeclaration}
use Rattle.species_ast.specs.Grammar.Statements.{Statement, BlockItems}
use Rattle.species_ast.specs.Scope.Meanings.{Scope, local_number, behind, is_among, Occurrence, occurrence, Declared}
use Rattle.species_ast.specs.Scope.Expressions.{ExprReading, reading}
use Rattle.species_ast.specs.Scope.Statements as walk
use Rattle.species_ast.proofs.Folds.{fold_stmt-Declare, fold_stmt-Block}
use Rattle.species_ast.proofs.ScopeLaws.{stmt_fragment-Declare, stmt_fragment-Block}
use Rattle.species_ast.proofs.Induction.{Each}
use Rattle.species_print.specs.Printed.{Printed, spaced, space, punctuator, name, line}
use Rattle.species_print.specs.Expressions.{expr_printed, local_name, kind_words}
use Rattle.species_print.specs.Statements.{all_of, deeper, local_kind, initialiser, declaration, close, stmt_step, loop_layer}
use Rattle.species_readback.proofs.ExpressionLemmas.{Quiet, quiet_append, Derivation, kind_derives}
use Rattle.species_readback.proofs.GivesLemmas.{Gives, token, gives_lexeme, gives_blank, gives_append, gives_line}
use Rattle.species_readback.proofs.StatementLemmas.{Expr0, expr_gives, Becomes, StmtDerivation, BodyDerivation, StmtClaim, body_gives, layouts, stated}
use Rattle.species_readback.specs.Unplaced.{unplaced, unplaced_at, unplaced_loop}
use Rattle.species_readback.specs.Meant.{list_next, list_locals, declared, init_meant, stmt_meant, loop_meant, meant}

-- ---- declarations

-- the words of a kind, and what stands behind them
pub kind_gives : {F G : List Token → Type 0} (k : Kind) (ps : List Printed) → ((p : ℕ) (ks ts : List Token) → TypeSpecifier p k ks → F ts → G (ks ++ ts)) → Gives ps F → Gives (kind_words k ++ ps) G
kind_gives {F} {G} k ps f h =
    gives_append {F = λ ts. (p : ℕ) × TypeSpecifier p k ts} {G = F} {H = G} (kind_words k) ps (λ xs ys a b. f a.0 xs ys a.1 b) (record { at = λ place. (place, kind_derives k place) }) h

-- a declarator and its semicolon
record LocalParts (s : Scope) (text : List ℕ) (init : Option Expr) (ts : List Token) : Type 0 where
  pub place : ℕ
  pub raw : Option RawExpr
  pub front : List Token
  pub q : ℕ
  pub derives : InitDeclarator (record { name = record { text = text; place = place }; init = raw }) front
  pub is_init : option_map (λ r. (reading r s).expr) raw ≡ init
  pub quiet : Quiet (unwrap_or (option_map (λ r. (reading r s).names) raw) [])
  pub is : ts ≡ front ++ (token q (codes ";") kind.Punct ∷ [])

init_gives : (u : Unit) (it : List (List ℕ)) (s : Scope) (text : List ℕ) (init : Option Expr) → init_meant u it s init ≡ true
    → Gives (name text ∷ (initialiser u it init ++ punctuator ";" ∷ [])) (LocalParts s text init)
init_gives u it s text None h = record {
  at = λ place. let n : Spelling = record { text = text; place = place } in record {
    place = place;
    raw = None;
    front = token place text kind.Name ∷ [];
    q = _;
    derives = InitDeclarator.plain n;
    is_init = refl;
    quiet = refl;
    is = refl;
  };
}
init_gives u it s text (Some e) h =
    gives_lexeme {F = λ ts. (p : ℕ) × (q : ℕ) × (es : List Token) × Derivation s 0 e es × (ts ≡ token p (codes "=") kind.Punct ∷ (es ++ token q (codes ";") kind.Punct ∷ []))} text kind.Name ((spaced (codes "=") ++ expr_printed u it e) ++ punctuator ";" ∷ [])
    (λ p ts d. let n : Spelling = record { text = text; place = p } in let x = d.3 in record {
      place = p;
      raw = Some x.raw;
      front = token p text kind.Name ∷ token d.0 (codes "=") kind.Punct ∷ d.2;
      q = d.1;
      derives = InitDeclarator.initialised d.0 n x.raw d.2 x.derives;
      is_init = ap Some x.becomes;
      quiet = x.quiet;
      is = ap (λ z. token p text kind.Name ∷ z) d.4;
    })
    (gives_blank (codes " ") _ (gives_lexeme {F = λ ts. (q : ℕ) × (es : List Token) × Derivation s 0 e es × (ts ≡ es ++ token q (codes ";") kind.Punct ∷ [])} (codes "=") kind.Punct _
    (λ p ts d. (p, d.0, d.1, d.2, ap (λ z. token p (codes "=") kind.Punct ∷ z) d.3))
    (gives_blank (codes " ") _ (gives_append {F = Expr0 s e} {G = λ ts. (q : ℕ) × (ts ≡ token q (codes ";") kind.Punct ∷ [])} (expr_printed u it e) (punctuator ";" ∷ [])
    (λ xs ys a b. (b.0, xs, a, ap (λ z. xs ++ z) b.1)) (expr_gives u it s e h) (record { at = λ place. (place, refl) })))))

-- what a declarator becomes
abbrev local_names : Scope → Spelling → Option ExprReading → List Occurrence
local_names s n v = occurrence Declared s n ∷ unwrap_or (option_map (λ r. r.names) v) []

abbrev dropped : Scope → Scope → Spelling → Option ExprReading → walk.Fragment
dropped s inner n v = walk.fragment [] (walk.names_only (local_names s n v)) inner

abbrev kept : Kind → Scope → Scope → Spelling → Option ExprReading → walk.Fragment
kept k s inner n v = walk.fragment (walk.kept_local k n v s) (record { locals = record { name = n.text; kind = k } ∷ []; names = local_names s n v; loops = [] }) inner

-- one fragment as a list
abbrev alone : walk.Fragment → walk.Fragment
alone f = walk.fragment (f.statements ++ []) (walk.both f.notes walk.no_notes) f.next

kept_becomes : (k : Kind) (s inner : Scope) (n : Spelling) (v : Option ExprReading) (x : ℕ) (init : Option Expr) → is_among s.iterators s.serials ≡ false → local_number s s.serials ≡ x
    → option_map (λ r. r.expr) v ≡ init → Quiet (unwrap_or (option_map (λ r. r.names) v) [])
    → Becomes (alone (if is_among s.iterators s.serials then dropped s inner n v else kept k s inner n v)) (roll-Stmt (Stmt-F.Declare 0 x init) ∷ []) inner (record { name = n.text; kind = k } ∷ [])
kept_becomes k s inner n v x init h i j q =
    subst (λ c. Becomes (alone (if c then dropped s inner n v else kept k s inner n v)) (roll-Stmt (Stmt-F.Declare 0 x init) ∷ []) inner (record { name = n.text; kind = k } ∷ [])) (sym h) (record {
      is_statements = ap (λ z. z ∷ []) (fold_stmt-Declare unplaced_at unplaced_loop n.place (local_number s s.serials) (option_map (λ r. r.expr) v) ∙ (λ t. roll-Stmt (Stmt-F.Declare 0 (i t) (j t))));
      is_next = refl;
      is_locals = refl;
      quiet = quiet_append (local_names s n v) [] q refl;
    })

local_becomes : (u : Unit) (x : ℕ) (init : Option Expr) (s : Scope) (p : ℕ) (raw : Option RawExpr) → is_among s.iterators s.serials ≡ false → local_number s s.serials ≡ x
    → option_map (λ r. (reading r (declared u x (is_some init) s)).expr) raw ≡ init → Quiet (unwrap_or (option_map (λ r. (reading r (declared u x (is_some init) s)).names) raw) [])
    → Becomes (walk.in_order (map (walk.declarator (local_kind u x)) (record { name = record { text = local_name u x; place = p }; init = raw } ∷ [])) s) (roll-Stmt (Stmt-F.Declare 0 x init) ∷ []) (declared u x (is_some init) s) (record { name = local_name u x; kind = local_kind u x } ∷ [])
local_becomes u x None s p None h i j q = kept_becomes (local_kind u x) s (declared u x false s) (record { text = local_name u x; place = p }) None x None h i j q
local_becomes u x None s p (Some r) h i j q = cc
local_becomes u x (Some e) s p None h i j q = cc
local_becomes u x (Some e) s p (Some r) h i j q = kept_becomes (local_kind u x) s (declared u x true s) (record { text = local_name u x; place = p }) (Some (reading r (declared u x true s))) x (Some e) h i j q

pub declare_claim : (u : Unit) (place n : ℕ) (init : Option Expr) → StmtClaim u (stmt.Declare place n init)
declare_claim u place n init =
    stated u (stmt.Declare place n init) (stmt_step u (Stmt-F.Declare place n init)) (stmt_meant u (Stmt-F.Declare place n init)) (roll-Stmt (Stmt-F.Declare 0 n init))
    (fold_stmt-Declare (stmt_step u) (loop_layer true u) place n init) (fold_stmt-Declare (stmt_meant u) (loop_meant u) place n init) (fold_stmt-Declare unplaced_at unplaced_loop place n init)
    (λ it ind s w.
    let inner = declared u n (is_some init) s in
    let k = and_parts (not (is_among s.iterators s.serials)) (nat_eq (local_number s s.serials) n && init_meant u it inner init) w in
    let l = and_parts (nat_eq (local_number s s.serials) n) (init_meant u it inner init) k.1 in
    gives_line {F = StmtDerivation s (roll-Stmt (Stmt-F.Declare 0 n init)) (stmt_meant u (Stmt-F.Declare place n init))} ind (declaration u it n init)
    (kind_gives {F = LocalParts inner (local_name u n) init} (local_kind u n) (space ∷ name (local_name u n) ∷ (initialiser u it init ++ punctuator ";" ∷ []))
    (λ p ks ts t d. let x : RawLocal = record { name = record { text = local_name u n; place = d.place }; init = d.raw } in let semi = token d.q (codes ";") kind.Punct in record {
      raw = statement p (what.Declare (local_kind u n) (x ∷ []));
      item = λ rest more c. BlockItems.declaration (statement p (what.Declare (local_kind u n) (x ∷ []))) rest (ks ++ ts) more
          (subst (LocalDeclaration (statement p (what.Declare (local_kind u n) (x ∷ [])))) (ap (λ z. ks ++ z) (ap (λ z. z ++ (semi ∷ [])) (append-nil d.front) ∙ sym d.is))
          (LocalDeclaration.declaration p d.q (local_kind u n) x [] ks d.front [] t d.derives MoreDeclarators.none)) c;
      becomes = subst (λ f. Becomes (f s) (roll-Stmt (Stmt-F.Declare 0 n init) ∷ []) inner (record { name = local_name u n; kind = local_kind u n } ∷ [])) (sym (stmt_fragment-Declare p (local_kind u n) (x ∷ [])))
          (local_becomes u n init s d.place d.raw (not-true (is_among s.iterators s.serials) k.0) (eqb-true (local_number s s.serials) n l.0) d.is_init d.quiet);
    })
    (gives_blank (codes " ") _ (init_gives u it inner (local_name u n) init l.1))))

-- ---- blocks

pub block_becomes : (s : Scope) (p : ℕ) (raws : List RawStmt) (xs : List Stmt) (nx : Scope) (ls : List LocalInfo) → Becomes (walk.in_order (map walk.stmt_fragment raws) s) xs nx ls
    → Becomes (walk.stmt_fragment (statement p (what.Block raws)) s) (roll-Stmt (Stmt-F.Block xs) ∷ []) (behind s nx) ls
block_becomes s p raws xs nx ls b =
    subst (λ f. Becomes (f s) (roll-Stmt (Stmt-F.Block xs) ∷ []) (behind s nx) ls) (sym (stmt_fragment-Block p raws)) (record {
      is_statements = ap (λ z. z ∷ []) (fold_stmt-Block unplaced_at unplaced_loop (walk.in_order (map walk.stmt_fragment raws) s).statements ∙ ap (λ z. roll-Stmt (Stmt-F.Block z)) b.is_statements);
      is_next = ap (behind s) b.is_next;
      is_locals = b.is_locals;
      quiet = b.quiet;
    })

pub block_claim : (u : Unit) (body : List Stmt) → Each (StmtClaim u) body → StmtClaim u (stmt.Block body)
block_claim u body h =
    stated u (stmt.Block body) (stmt_step u (Stmt-F.Block (layouts u body))) (stmt_meant u (Stmt-F.Block (map (meant u) body))) (roll-Stmt (Stmt-F.Block (map unplaced body)))
    (fold_stmt-Block (stmt_step u) (loop_layer true u) body) (fold_stmt-Block (stmt_meant u) (loop_meant u) body) (fold_stmt-Block unplaced_at unplaced_loop body)
    (λ it ind s w.
    gives_append {F = λ ts. (p : ℕ) × (ts ≡ token p (codes "{") kind.Punct ∷ [])} {G = BodyDerivation s (map unplaced body) (map (meant u) body)} (line ind (punctuator "{" ∷ [])) (all_of (layouts u body) it (deeper ind) ++ close ind)
    (λ xs ts o b. record {
      raw = statement o.0 (what.Block b.raws);
      item = λ rest more c. BlockItems.item false (statement o.0 (what.Block b.raws)) rest (xs ++ ts) more
          (subst (Statement false (statement o.0 (what.Block b.raws))) (sym (ap (λ z. z ++ ts) o.1)) (Statement.block o.0 b.raws ts b.derives)) c;
      becomes = block_becomes s o.0 b.raws (map unplaced body) (list_next (map (meant u) body) s) (list_locals (map (meant u) body)) b.becomes;
    })
    (record { at = λ place. (_, refl) })
    (body_gives u it (deeper ind) ind body h s w))
