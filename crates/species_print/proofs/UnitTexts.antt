-- The text of a unit, as it is appended, and that a unit without marks has no parallel lines.
use Rattle.std.proofs.Common.{◌≡◌, ◌∙◌, ap, sym, refl, append_assoc, ℕ, List, [], ◌∷◌, ◌++◌, map, codes, Bool, true, false, not, ◌&&◌}
use Rattle.std.specs.List.{flat_map, list_all}
use Rattle.species_ast.specs.Marks.{all_true, test_step, test_layer, is_plain, unmarked_stmt, IsUnmarked}
use Rattle.species_ast.specs.declared.tree.Array.{Array}
use Rattle.species_ast.specs.declared.tree.Loop.{roll-Loop}
use Rattle.species_ast.specs.declared.tree.Mark.{Mark}
use Rattle.species_ast.specs.declared.tree.Mark.TheVariants as mark
use Rattle.species_ast.specs.declared.tree.Stmt.{Stmt}
use Rattle.species_ast.specs.declared.tree.Stmt.TheOpen.{Stmt-F, Loop-F}
use Rattle.species_ast.specs.declared.tree.Unit.{Unit}
use Rattle.species_ast.proofs.Folds.{fold_stmt-Assign, fold_stmt-AddTo, fold_stmt-Declare, fold_stmt-SetLocal, fold_stmt-If, fold_stmt-For, fold_stmt-Block, fold_loop}
use Rattle.species_ast.proofs.Induction.{Each, each_all, StmtCases, stmt_ind}
use Rattle.species_print.specs.Printed.{Printed, text_of, line, punctuator, keyword, name, space}
use Rattle.species_print.specs.Expressions.{kind_words}
use Rattle.species_print.specs.Statements.{Layout, all_of, deeper, if_head, for_head, else_part, close, species_line, parallel_line, stmt_step, loop_layer, stmt_layout}
use Rattle.species_print.specs.Units.{include_line, size, array_line, function_line, front, canonical_text}
use Rattle.species_print.specs.Texts.{include_text, size_text, array_text, front_text, stmts_text}
use Rattle.species_print.proofs.ExprTexts.{text_of-append}
use Rattle.species_print.proofs.StmtTexts.{text-line, text-all}

-- ---- the front

-- what is printed of each element, as texts
text-each : {X : Type 0} (printed : X → List Printed) (text : X → List ℕ) → ((x : X) → text_of (printed x) ≡ text x) → (xs : List X) →
    text_of (flat_map printed xs) ≡ flat_map text xs
text-each printed text h [] = refl
text-each printed text h (x ∷ xs) =
    text_of-append (printed x) (flat_map printed xs) ∙
    ap (λ t. t ++ text_of (flat_map printed xs)) (h x) ∙
    ap (λ t. text x ++ t) (text-each printed text h xs)

text-include : (header : List ℕ) → text_of (include_line header) ≡ include_text header
text-include header = simp append_assoc refl

text-size : (n : ℕ) → text_of (size n) ≡ size_text n
text-size n = refl

text-array : (a : Array) → text_of (array_line a) ≡ array_text a
text-array a =
    text-line [] (kind_words a.kind ++ (space ∷ name a.name ∷ (flat_map size a.dims ++ punctuator ";" ∷ []))) ∙
    ap (λ t. t ++ codes "\n") (text_of-append (kind_words a.kind) (space ∷ name a.name ∷ (flat_map size a.dims ++ punctuator ";" ∷ []))) ∙
    ap (λ t. (text_of (kind_words a.kind) ++ (codes " " ++ (a.name ++ t))) ++ codes "\n")
    (text_of-append (flat_map size a.dims) (punctuator ";" ∷ []) ∙ ap (λ t. t ++ codes ";") (text-each size size_text text-size a.dims)) ∙
    simp append_assoc refl

text-function : (function : List ℕ) → text_of (function_line function) ≡ codes "void " ++ (function ++ codes "(void) {\n")
text-function function = refl

pub text-front : (u : Unit) → text_of (front u) ≡ front_text u
text-front u =
    text_of-append (flat_map include_line u.includes) (flat_map array_line u.arrays ++ function_line u.function) ∙
    ap (λ t. t ++ text_of (flat_map array_line u.arrays ++ function_line u.function)) (text-each include_line include_text text-include u.includes) ∙
    ap (λ t. flat_map include_text u.includes ++ t) (
    text_of-append (flat_map array_line u.arrays) (function_line u.function) ∙
    ap (λ t. t ++ text_of (function_line u.function)) (text-each array_line array_text text-array u.arrays) ∙
    ap (λ t. flat_map array_text u.arrays ++ t) (text-function u.function))

-- ---- parallel lines

both_true : (a b : Bool) → (a && b) ≡ true → (a ≡ true) × (b ≡ true)
both_true true b h = (refl, h)
both_true false b h = (h, cc)

-- with parallel lines or without, the statement becomes the same
abbrev Same : Unit → Stmt → Type 0
Same u s = (iters : List (List ℕ)) (ind : List ℕ) → stmt_layout true u s iters ind ≡ stmt_layout false u s iters ind

abbrev SameIfUnmarked : Unit → Stmt → Type 0
SameIfUnmarked u s = unmarked_stmt s ≡ true → Same u s

same_all : (u : Unit) (ss : List Stmt) → Each (SameIfUnmarked u) ss → all_true (map unmarked_stmt ss) ≡ true →
    (iters : List (List ℕ)) (ind : List ℕ) → all_of (map (stmt_layout true u) ss) iters ind ≡ all_of (map (stmt_layout false u) ss) iters ind
same_all u [] same plain iters ind = refl
same_all u (s ∷ ss) same plain iters ind =
    let both = both_true (unmarked_stmt s) (all_true (map unmarked_stmt ss)) plain in
    rw (same.0 both.0 iters ind, same_all u ss same.1 both.1 iters ind) refl

same_else : (u : Unit) (ss : List Stmt) → Each (SameIfUnmarked u) ss → all_true (map unmarked_stmt ss) ≡ true →
    (iters : List (List ℕ)) (ind : List ℕ) → else_part (map (stmt_layout true u) ss) iters ind ≡ else_part (map (stmt_layout false u) ss) iters ind
same_else u [] same plain iters ind = refl
same_else u (s ∷ ss) same plain iters ind =
    ap (λ ps. line ind (punctuator "}" ∷ space ∷ keyword "else" ∷ space ∷ punctuator "{" ∷ []) ++ ps) (same_all u (s ∷ ss) same plain iters (deeper ind))

plain_line : (m : Mark) (ind : List ℕ) → is_plain m ≡ true → parallel_line m ind ≡ []
plain_line mark.Plain ind h = refl
plain_line (mark.Parallel depth s) ind h = cc

at : (iters : List (List ℕ)) (ind : List ℕ) {a b : Layout} → a ≡ b → a iters ind ≡ b iters ind
at iters ind h = ap (λ layout. layout iters ind) h

same_cases : (u : Unit) → StmtCases (SameIfUnmarked u)
same_cases u =
    let with : Loop-F Layout Layout → Layout = loop_layer true u in
    let without : Loop-F Layout Layout → Layout = loop_layer false u in
    let test : Stmt-F Bool Bool → Bool = test_step not in
    let head : Loop-F Bool Bool → Bool = test_layer (λ l. is_plain l.mark) in
    record {
      assign = λ place array subs value plain iters ind.
          at iters ind (fold_stmt-Assign (stmt_step u) with place array subs value ∙ sym (fold_stmt-Assign (stmt_step u) without place array subs value));
      add_to = λ place array subs value atomic plain iters ind.
          at iters ind (fold_stmt-AddTo (stmt_step u) with place array subs value atomic ∙ sym (fold_stmt-AddTo (stmt_step u) without place array subs value atomic));
      declare = λ place n init plain iters ind.
          at iters ind (fold_stmt-Declare (stmt_step u) with place n init ∙ sym (fold_stmt-Declare (stmt_step u) without place n init));
      set_local = λ place n value plain iters ind.
          at iters ind (fold_stmt-SetLocal (stmt_step u) with place n value ∙ sym (fold_stmt-SetLocal (stmt_step u) without place n value));
      choice = λ place c body otherwise same_body same_otherwise plain iters ind.
          let both = both_true (all_true (map unmarked_stmt body)) (all_true (map unmarked_stmt otherwise))
          (sym (fold_stmt-If test head place c body otherwise) ∙ plain) in
          at iters ind (fold_stmt-If (stmt_step u) with place c body otherwise) ∙
          ap (λ ps. line ind (if_head u iters c) ++ (ps ++ (else_part (map (stmt_layout true u) otherwise) iters ind ++ close ind)))
          (same_all u body same_body both.0 iters (deeper ind)) ∙
          ap (λ ps. line ind (if_head u iters c) ++ (all_of (map (stmt_layout false u) body) iters (deeper ind) ++ (ps ++ close ind)))
          (same_else u otherwise same_otherwise both.1 iters ind) ∙
          sym (at iters ind (fold_stmt-If (stmt_step u) without place c body otherwise));
      loop = λ l same plain iters ind.
          let both = both_true (is_plain l.mark) (all_true (map unmarked_stmt l.body))
          (sym (fold_loop test head l) ∙ (sym (fold_stmt-For test head (roll-Loop l)) ∙ plain)) in
          at iters ind (fold_stmt-For (stmt_step u) with (roll-Loop l) ∙ fold_loop (stmt_step u) with l) ∙
          ap (λ ps. species_line l.line ind ++ (ps ++ (line ind (for_head u iters l) ++
          (all_of (map (stmt_layout true u) l.body) (iters ++ l.iter ∷ []) (deeper ind) ++ close ind)))) (plain_line l.mark ind both.0) ∙
          ap (λ ps. species_line l.line ind ++ (line ind (for_head u iters l) ++ (ps ++ close ind)))
          (same_all u l.body same both.1 (iters ++ l.iter ∷ []) (deeper ind)) ∙
          sym (at iters ind (fold_stmt-For (stmt_step u) without (roll-Loop l) ∙ fold_loop (stmt_step u) without l));
      block = λ body same plain iters ind.
          at iters ind (fold_stmt-Block (stmt_step u) with body) ∙
          ap (λ ps. line ind (punctuator "{" ∷ []) ++ (ps ++ close ind))
          (same_all u body same (sym (fold_stmt-Block test head body) ∙ plain) iters (deeper ind)) ∙
          sym (at iters ind (fold_stmt-Block (stmt_step u) without body));
    }

list_true : (u : Unit) (ss : List Stmt) → list_all unmarked_stmt ss ≡ true → all_true (map unmarked_stmt ss) ≡ true
list_true u [] h = refl
list_true u (s ∷ ss) h =
    let both = both_true (unmarked_stmt s) (list_all unmarked_stmt ss) h in rw (both.0, list_true u ss both.1) refl

-- the canonical text of a unit without marks, in its three parts
pub text-unit : (u : Unit) → IsUnmarked u → canonical_text u ≡ front_text u ++ (stmts_text u [] (codes "    ") u.body ++ codes "}\n")
text-unit u plain =
    let same = same_all u u.body (each_all (SameIfUnmarked u) (stmt_ind (SameIfUnmarked u) (same_cases u)) u.body) (list_true u u.body plain) [] (codes "    ") in
    text_of-append (front u) (all_of (map (stmt_layout true u) u.body) [] (codes "    ") ++ close []) ∙
    ap (λ t. t ++ text_of (all_of (map (stmt_layout true u) u.body) [] (codes "    ") ++ close [])) (text-front u) ∙
    ap (λ t. front_text u ++ t) (
    text_of-append (all_of (map (stmt_layout true u) u.body) [] (codes "    ")) (close []) ∙
    ap (λ ps. text_of ps ++ codes "}\n") same ∙
    ap (λ t. t ++ codes "}\n") (text-all u [] (codes "    ") u.body))
