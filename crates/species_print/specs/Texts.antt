-- The texts of parts of statements, as they are appended.
use Rattle.std.specs.Prelude.{ℕ, List, [], ◌∷◌, ◌++◌, codes, decimal, Option}
use Rattle.std.specs.List.{flat_map}
use Rattle.species_ast.specs.Signs.{test_sign}
use Rattle.species_ast.specs.Line.{Line}
use Rattle.species_ast.specs.declared.tree.Expr.{Expr}
use Rattle.species_ast.specs.declared.tree.Loop.{Loop, out-Loop}
use Rattle.species_ast.specs.declared.tree.Stmt.{Stmt}
use Rattle.species_ast.specs.declared.tree.Array.{Array}
use Rattle.species_ast.specs.declared.tree.Test.{Test}
use Rattle.species_ast.specs.declared.tree.Unit.{Unit}
use Rattle.species_print.specs.Printed.{text_of, spaced}
use Rattle.species_print.specs.Expressions.{array_name, local_name, kind_words, expr_printed}
use Rattle.species_print.specs.Statements.{deeper, local_kind, initialiser, species_line, step_printed, stmt_text}

abbrev pub expr_text : Unit → List (List ℕ) → Expr → List ℕ
expr_text u iters e = text_of (expr_printed u iters e)

abbrev pub subscript_text : Unit → List (List ℕ) → Expr → List ℕ
subscript_text u iters e = codes "[" ++ (expr_text u iters e ++ codes "]")

abbrev pub element_text : Unit → List (List ℕ) → ℕ → List Expr → List ℕ
element_text u iters array subs = array_name u array ++ flat_map (subscript_text u iters) subs

-- what follows a target
abbrev pub assignment_text : Unit → List (List ℕ) → List ℕ → Expr → List ℕ
assignment_text u iters sign value = sign ++ (expr_text u iters value ++ codes ";\n")

abbrev pub declaration_text : Unit → List (List ℕ) → ℕ → Option Expr → List ℕ
declaration_text u iters n init =
    text_of (kind_words (local_kind u n)) ++ (codes " " ++ (local_name u n ++ (text_of (initialiser u iters init) ++ codes ";\n")))

abbrev pub if_head_text : Unit → List (List ℕ) → List ℕ → Expr → List ℕ
if_head_text u iters ind test = ind ++ (codes "if (" ++ (expr_text u iters test ++ codes ") {\n"))

-- a loop's header in three parts
abbrev pub for_start_text : Unit → List (List ℕ) → List ℕ → List ℕ → Expr → List ℕ
for_start_text u iters ind iter start =
    ind ++ (codes "for (int " ++ (iter ++ (codes " = " ++ (expr_text u iters start ++ codes "; "))))

abbrev pub for_test_text : Unit → List (List ℕ) → List ℕ → Test → Expr → List ℕ
for_test_text u iters iter test limit =
    iter ++ (text_of (spaced (test_sign test)) ++ (expr_text u iters limit ++ codes "; "))

abbrev pub for_end_text : List ℕ → Loop → List ℕ
for_end_text iter l = text_of (step_printed iter (out-Loop l).step) ++ codes ") {\n"

abbrev pub for_head_text : Unit → List (List ℕ) → List ℕ → Loop → List ℕ
for_head_text u iters ind l =
    for_start_text u iters ind (out-Loop l).iter (out-Loop l).start ++
    (for_test_text u (iters ++ (out-Loop l).iter ∷ []) (out-Loop l).iter (out-Loop l).test (out-Loop l).limit ++
    for_end_text (out-Loop l).iter l)

abbrev pub pragma_text : List ℕ → List ℕ
pragma_text text = codes "#pragma species " ++ (text ++ codes "\n")

abbrev pub species_text : List ℕ → Option Line → List ℕ
species_text ind l = text_of (species_line l ind)

-- the statements, each at this indentation
abbrev pub stmts_text : Unit → List (List ℕ) → List ℕ → List Stmt → List ℕ
stmts_text u iters ind stmts = flat_map (stmt_text u iters ind) stmts

abbrev pub else_text : Unit → List (List ℕ) → List ℕ → List Stmt → List ℕ
else_text u iters ind [] = []
else_text u iters ind (s ∷ ss) = ind ++ (codes "} else {\n" ++ stmts_text u iters (deeper ind) (s ∷ ss))

-- ---- the front of a unit

abbrev pub include_text : List ℕ → List ℕ
include_text header = codes "#include " ++ (header ++ codes "\n")

abbrev pub size_text : ℕ → List ℕ
size_text n = codes "[" ++ (decimal n ++ codes "]")

abbrev pub array_text : Array → List ℕ
array_text a = text_of (kind_words a.kind) ++ (codes " " ++ (a.name ++ (flat_map size_text a.dims ++ codes ";\n")))

abbrev pub front_text : Unit → List ℕ
front_text u =
    flat_map include_text u.includes ++ (flat_map array_text u.arrays ++ (codes "void " ++ (u.function ++ codes "(void) {\n")))
