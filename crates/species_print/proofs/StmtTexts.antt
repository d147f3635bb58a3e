-- The text of each variant of a statement, as it is appended.
use Rattle.std.proofs.Common.{◌≡◌, ◌∙◌, ap, sym, refl, append_assoc, ℕ, List, [], ◌∷◌, ◌++◌, map, codes, Bool, true, false, Option, Some, None}
use Rattle.std.proofs.lemmas.Grind.{flat_map-append}
use Rattle.std.proofs.lemmas.List.{append-nil}
use Rattle.species_ast.specs.Line.{Line}
use Rattle.species_ast.specs.declared.tree.Expr.{Expr}
use Rattle.species_ast.specs.declared.tree.Loop.{Loop, out-Loop}
use Rattle.species_ast.specs.declared.tree.Stmt.{Stmt}
use Rattle.species_ast.specs.declared.tree.Stmt.TheVariants as stmt
use Rattle.species_ast.specs.declared.tree.Unit.{Unit}
use Rattle.species_ast.proofs.Folds.{fold_stmt-Assign, fold_stmt-AddTo, fold_stmt-Declare, fold_stmt-SetLocal, fold_stmt-If, fold_stmt-For, fold_stmt-Block, fold_loop, fold_loop-out}
use Rattle.species_print.specs.Printed.{Printed, text_of, line, spaced, name, punctuator}
use Rattle.species_print.specs.Expressions.{expr_printed, array_name, local_name, kind_words}
use Rattle.species_print.specs.Statements.{Layout, all_of, deeper, element, assignment, declaration, initialiser, local_kind, if_head, for_head, else_part, atomic_line, close, species_line, stmt_step, loop_layer, stmt_layout, stmt_text, loop_text, without_line, head_at, head_text}
use Rattle.species_print.specs.Texts.{expr_text, element_text, assignment_text, declaration_text, if_head_text, for_head_text, stmts_text, else_text, species_text, pragma_text}
use Rattle.species_print.proofs.ExprTexts.{text_of-append, text-subscripts}

-- ---- lines

pub text-line : (ind : List ℕ) (ps : List Printed) → text_of (line ind ps) ≡ ind ++ (text_of ps ++ codes "\n")
text-line ind ps = ap (λ t. ind ++ t) (text_of-append ps _)

text-element : (u : Unit) (iters : List (List ℕ)) (array : ℕ) (subs : List Expr) →
    text_of (element u iters array subs) ≡ element_text u iters array subs
text-element u iters array subs = ap (λ t. array_name u array ++ t) (text-subscripts u iters subs)

-- the end of an assignment's line
ending : (a b c : List ℕ) → (a ++ (b ++ (c ++ codes ";"))) ++ codes "\n" ≡ a ++ (b ++ (c ++ codes ";\n"))
ending a b c = simp append_assoc refl

text-assignment : (u : Unit) (iters : List (List ℕ)) (ind : List ℕ) (target : List Printed) (sign : List ℕ) (value : Expr) →
    text_of (line ind (assignment u iters target sign value)) ≡ ind ++ (text_of target ++ assignment_text u iters (text_of (spaced sign)) value)
text-assignment u iters ind target sign value =
    let semicolon : List Printed = punctuator ";" ∷ [] in
    text-line ind (assignment u iters target sign value) ∙
    ap (λ t. ind ++ (t ++ codes "\n")) (
    text_of-append target (spaced sign ++ (expr_printed u iters value ++ semicolon)) ∙
    ap (λ t. text_of target ++ t) (text_of-append (spaced sign) (expr_printed u iters value ++ semicolon) ∙
    ap (λ t. text_of (spaced sign) ++ t) (text_of-append (expr_printed u iters value) semicolon))) ∙
    ap (λ t. ind ++ t) (ending (text_of target) (text_of (spaced sign)) (expr_text u iters value))

text-declaration : (u : Unit) (iters : List (List ℕ)) (ind : List ℕ) (n : ℕ) (init : Option Expr) →
    text_of (line ind (declaration u iters n init)) ≡ ind ++ declaration_text u iters n init
text-declaration u iters ind n init =
    text-line ind (declaration u iters n init) ∙
    ap (λ t. ind ++ (t ++ codes "\n")) (text_of-append (kind_words (local_kind u n)) _) ∙
    ap (λ t. ind ++ ((text_of (kind_words (local_kind u n)) ++ (codes " " ++ (local_name u n ++ t))) ++ codes "\n"))
    (text_of-append (initialiser u iters init) _) ∙
    simp append_assoc refl

pub text-initialiser : (u : Unit) (iters : List (List ℕ)) (e : Expr) →
    text_of (initialiser u iters (Some e)) ≡ codes " = " ++ expr_text u iters e
text-initialiser u iters e = text_of-append (spaced (codes "=")) (expr_printed u iters e)

pub text-if_head : (u : Unit) (iters : List (List ℕ)) (ind : List ℕ) (test : Expr) →
    text_of (line ind (if_head u iters test)) ≡ if_head_text u iters ind test
text-if_head u iters ind test =
    text-line ind (if_head u iters test) ∙
    ap (λ t. ind ++ ((codes "if (" ++ t) ++ codes "\n")) (text_of-append (expr_printed u iters test) _) ∙
    simp append_assoc refl

pub text-for_head : (u : Unit) (iters : List (List ℕ)) (ind : List ℕ) (l : Loop) →
    text_of (line ind (for_head u iters (out-Loop l))) ≡ for_head_text u iters ind l
text-for_head u iters ind l = simp (flat_map-append, append_assoc) refl

pub text-atomic_line : (ind : List ℕ) → text_of (atomic_line true ind) ≡ ind ++ codes "#pragma omp atomic update\n"
text-atomic_line ind = refl

pub text-species_line : (ind : List ℕ) (l : Line) → species_text ind (Some l) ≡ ind ++ pragma_text l.text
text-species_line ind l = ap (λ t. ind ++ t) (simp append_assoc refl)

-- ---- lists of statements

pub text-all : (u : Unit) (iters : List (List ℕ)) (ind : List ℕ) (ss : List Stmt) →
    text_of (all_of (map (stmt_layout false u) ss) iters ind) ≡ stmts_text u iters ind ss
text-all u iters ind [] = refl
text-all u iters ind (s ∷ ss) =
    text_of-append (stmt_layout false u s iters ind) _ ∙ ap (λ t. stmt_text u iters ind s ++ t) (text-all u iters ind ss)

text-else : (u : Unit) (iters : List (List ℕ)) (ind : List ℕ) (ss : List Stmt) →
    text_of (else_part (map (stmt_layout false u) ss) iters ind) ≡ else_text u iters ind ss
text-else u iters ind [] = refl
text-else u iters ind (s ∷ ss) =
    ap (λ t. ind ++ (codes "} else {\n" ++ t)) (text-all u iters (deeper ind) (s ∷ ss))

-- ---- first lines

pub head-If : (u : Unit) (iters : List (List ℕ)) (ind : List ℕ) (place : ℕ) (test : Expr) (body otherwise : List Stmt) →
    head_text u iters ind (stmt.If place test body otherwise) ≡ if_head_text u iters ind test
head-If u iters ind place test body otherwise =
    ap (λ f. text_of (head_at u iters ind f)) (stmt.outs-If place test body otherwise) ∙ text-if_head u iters ind test

pub head-For : (u : Unit) (iters : List (List ℕ)) (ind : List ℕ) (l : Loop) → head_text u iters ind (stmt.For l) ≡ for_head_text u iters ind l
head-For u iters ind l = ap (λ f. text_of (head_at u iters ind f)) (stmt.outs-For l) ∙ text-for_head u iters ind l

-- ---- variants

-- the text of what a statement's layout becomes
placed : (iters : List (List ℕ)) (ind : List ℕ) {a b : Layout} → a ≡ b → text_of (a iters ind) ≡ text_of (b iters ind)
placed iters ind h = ap (λ layout. text_of (layout iters ind)) h

pub text-Assign : (u : Unit) (iters : List (List ℕ)) (ind : List ℕ) (place array : ℕ) (subs : List Expr) (value : Expr) →
    stmt_text u iters ind (stmt.Assign place array subs value) ≡
    ind ++ (element_text u iters array subs ++ assignment_text u iters (codes " = ") value)
text-Assign u iters ind place array subs value =
    placed iters ind (fold_stmt-Assign (stmt_step u) (loop_layer false u) place array subs value) ∙
    text-assignment u iters ind (element u iters array subs) (codes "=") value ∙
    ap (λ t. ind ++ (t ++ assignment_text u iters (codes " = ") value)) (text-element u iters array subs)

pub text-AddTo : (u : Unit) (iters : List (List ℕ)) (ind : List ℕ) (place array : ℕ) (subs : List Expr) (value : Expr) (atomic : Bool) →
    stmt_text u iters ind (stmt.AddTo place array subs value atomic) ≡
    text_of (atomic_line atomic ind) ++ (ind ++ (element_text u iters array subs ++ assignment_text u iters (codes " += ") value))
text-AddTo u iters ind place array subs value atomic =
    placed iters ind (fold_stmt-AddTo (stmt_step u) (loop_layer false u) place array subs value atomic) ∙
    text_of-append (atomic_line atomic ind) _ ∙
    ap (λ t. text_of (atomic_line atomic ind) ++ t) (
    text-assignment u iters ind (element u iters array subs) (codes "+=") value ∙
    ap (λ t. ind ++ (t ++ assignment_text u iters (codes " += ") value)) (text-element u iters array subs))

pub text-Declare : (u : Unit) (iters : List (List ℕ)) (ind : List ℕ) (place n : ℕ) (init : Option Expr) →
    stmt_text u iters ind (stmt.Declare place n init) ≡ ind ++ declaration_text u iters n init
text-Declare u iters ind place n init =
    placed iters ind (fold_stmt-Declare (stmt_step u) (loop_layer false u) place n init) ∙ text-declaration u iters ind n init

pub text-SetLocal : (u : Unit) (iters : List (List ℕ)) (ind : List ℕ) (place n : ℕ) (value : Expr) →
    stmt_text u iters ind (stmt.SetLocal place n value) ≡ ind ++ (local_name u n ++ assignment_text u iters (codes " = ") value)
text-SetLocal u iters ind place n value =
    placed iters ind (fold_stmt-SetLocal (stmt_step u) (loop_layer false u) place n value) ∙
    text-assignment u iters ind (name (local_name u n) ∷ []) (codes "=") value ∙
    ap (λ t. ind ++ (t ++ assignment_text u iters (codes " = ") value)) (append-nil (local_name u n))

pub text-If : (u : Unit) (iters : List (List ℕ)) (ind : List ℕ) (place : ℕ) (test : Expr) (body otherwise : List Stmt) →
    stmt_text u iters ind (stmt.If place test body otherwise) ≡
    if_head_text u iters ind test ++ (stmts_text u iters (deeper ind) body ++ (else_text u iters ind otherwise ++ (ind ++ codes "}\n")))
text-If u iters ind place test body otherwise =
    placed iters ind (fold_stmt-If (stmt_step u) (loop_layer false u) place test body otherwise) ∙
    text_of-append (line ind (if_head u iters test)) _ ∙
    ap (λ t. t ++ text_of (all_of (map (stmt_layout false u) body) iters (deeper ind) ++ (else_part (map (stmt_layout false u) otherwise) iters ind ++ close ind))) (text-if_head u iters ind test) ∙
    ap (λ t. if_head_text u iters ind test ++ t) (
    text_of-append (all_of (map (stmt_layout false u) body) iters (deeper ind)) _ ∙
    ap (λ t. t ++ text_of (else_part (map (stmt_layout false u) otherwise) iters ind ++ close ind)) (text-all u iters (deeper ind) body) ∙
    ap (λ t. stmts_text u iters (deeper ind) body ++ t) (
    text_of-append (else_part (map (stmt_layout false u) otherwise) iters ind) _ ∙
    ap (λ t. t ++ text_of (close ind)) (text-else u iters ind otherwise)))

pub text-bare : (u : Unit) (iters : List (List ℕ)) (ind : List ℕ) (l : Loop) →
    loop_text u iters ind (without_line l) ≡
    for_head_text u iters ind l ++ (stmts_text u (iters ++ (out-Loop l).iter ∷ []) (deeper ind) (out-Loop l).body ++ (ind ++ codes "}\n"))
text-bare u iters ind l =
    placed iters ind (fold_loop (stmt_step u) (loop_layer false u) (record (out-Loop l) { line = None })) ∙
    text_of-append (line ind (for_head u iters (out-Loop l))) _ ∙
    ap (λ t. t ++ text_of (all_of (map (stmt_layout false u) (out-Loop l).body) (iters ++ (out-Loop l).iter ∷ []) (deeper ind) ++ close ind))
    (text-for_head u iters ind l) ∙
    ap (λ t. for_head_text u iters ind l ++ t) (
    text_of-append (all_of (map (stmt_layout false u) (out-Loop l).body) (iters ++ (out-Loop l).iter ∷ []) (deeper ind)) _ ∙
    ap (λ t. t ++ text_of (close ind)) (text-all u (iters ++ (out-Loop l).iter ∷ []) (deeper ind) (out-Loop l).body))

pub text-For : (u : Unit) (iters : List (List ℕ)) (ind : List ℕ) (l : Loop) →
    stmt_text u iters ind (stmt.For l) ≡ text_of (species_line (out-Loop l).line ind) ++ loop_text u iters ind (without_line l)
text-For u iters ind l =
    placed iters ind (fold_stmt-For (stmt_step u) (loop_layer false u) l) ∙
    placed iters ind (fold_loop-out (stmt_step u) (loop_layer false u) l) ∙
    text_of-append (species_line (out-Loop l).line ind) _ ∙
    ap (λ t. text_of (species_line (out-Loop l).line ind) ++ t)
    (sym (placed iters ind (fold_loop (stmt_step u) (loop_layer false u) (record (out-Loop l) { line = None }))))

pub text-Block : (u : Unit) (iters : List (List ℕ)) (ind : List ℕ) (body : List Stmt) →
    stmt_text u iters ind (stmt.Block body) ≡ ind ++ (codes "{\n" ++ (stmts_text u iters (deeper ind) body ++ (ind ++ codes "}\n")))
text-Block u iters ind body =
    placed iters ind (fold_stmt-Block (stmt_step u) (loop_layer false u) body) ∙
    ap (λ t. ind ++ (codes "{\n" ++ t)) (
    text_of-append (all_of (map (stmt_layout false u) body) iters (deeper ind)) _ ∙
    ap (λ t. t ++ text_of (close ind)) (text-all u iters (deeper ind) body))
