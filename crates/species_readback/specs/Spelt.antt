-- Units that can be written in the language: their names are names, their numbers are those of literals, and their headers and
-- pragmas are such as the lines give that are printed with them.
use Rattle.std.specs.Prelude.{◌≡◌, ℕ, suc, ℤ, pos, negsuc, Bool, true, false, not, ◌&&◌, nat_le, nat_lt, bytes_eq, is_none, List, [], ◌∷◌, ◌++◌, map, codes, Option, Some, None}
use Rattle.std.specs.List.{list_all}
use Rattle.species_ast.specs.Line.{Line}
use Rattle.species_ast.specs.Marks.{all_true, test_step, test_layer}
use Rattle.species_ast.specs.Names.{is_name}
use Rattle.species_ast.specs.Operators.{kind_of, number_of}
use Rattle.species_ast.specs.declared.tree.Array.{Array}
use Rattle.species_ast.specs.declared.tree.Kind.{Kind}
use Rattle.species_ast.specs.declared.tree.Kind.TheVariants as of_kind
use Rattle.species_ast.specs.declared.tree.Value.{Value}
use Rattle.species_ast.specs.declared.tree.Mark.{Mark}
use Rattle.species_ast.specs.declared.tree.Mark.TheVariants as mark
use Rattle.species_ast.specs.declared.tree.Schedule.{Schedule}
use Rattle.species_ast.specs.declared.tree.Schedule.TheVariants as schedule
use Rattle.species_ast.specs.declared.tree.Expr.{Expr, fold-Expr}
use Rattle.species_ast.specs.declared.tree.Expr.TheOpen.{Expr-F}
use Rattle.species_ast.specs.declared.tree.Stmt.{Stmt, fold-Stmt}
use Rattle.species_ast.specs.declared.tree.Stmt.TheOpen.{Stmt-F, Loop-F}
use Rattle.species_ast.specs.declared.tree.Unit.{Unit}
use Rattle.species_ast.specs.declared.token.TokenKind.TheVariants as kind
use Rattle.species_ast.specs.Text.Characters.{is_line_feed}
use Rattle.species_ast.specs.Text.Comments.{last_backslash}
use Rattle.species_ast.specs.Text.Numbers.{numbers_from_0}
use Rattle.species_ast.specs.Text.Directives.{Form, Read, form_of}
use Rattle.species_print.specs.Expressions.{array_name, local_name, iter_name}
use Rattle.species_readback.specs.Law.{species_line}

-- ---- numbers (C17 6.4.4.1)

-- a literal of this kind has the number: there are no negative literals
abbrev pub is_literal_number : Kind → ℤ → Bool
is_literal_number k (pos n) = nat_lt n (numbers_from_0 k)
is_literal_number k (negsuc n) = false

abbrev pub is_literal : Value → Bool
is_literal v = is_literal_number (kind_of v) (number_of v)

-- a literal of kind `int` has the number, as a size, a chunk and the size of a step are written
abbrev pub is_int_number : ℕ → Bool
is_int_number n = is_literal_number of_kind.Int (pos n)

-- the size of a step is that of an `int`
abbrev pub is_int_step : ℤ → Bool
is_int_step (pos n) = is_int_number n
is_int_step (negsuc n) = is_int_number (suc n)

-- ---- expressions

abbrev pub expr_spelt : Unit → List (List ℕ) → Expr-F Bool → Bool
expr_spelt u iters (Expr-F.Literal v) = is_literal v
expr_spelt u iters (Expr-F.Iter level) = is_name (iter_name iters level)
expr_spelt u iters (Expr-F.Local n) = is_name (local_name u n)
expr_spelt u iters (Expr-F.Elem array subs) = is_name (array_name u array) && all_true subs
expr_spelt u iters (Expr-F.Unary op a) = a
expr_spelt u iters (Expr-F.Binary op a b) = a && b
expr_spelt u iters (Expr-F.And a b) = a && b
expr_spelt u iters (Expr-F.Or a b) = a && b
expr_spelt u iters (Expr-F.Cond c a b) = c && (a && b)
expr_spelt u iters (Expr-F.Cast k a) = a

-- names and literals of the expression can be written; `iters` has the names of the loops around it
abbrev pub is_spelt : Unit → List (List ℕ) → Expr → Bool
is_spelt u iters = fold-Expr Bool (expr_spelt u iters)

-- ---- headers and pragmas

abbrev pub is_no_line_feed : ℕ → Bool
is_no_line_feed b = not (is_line_feed b)

-- a line of its own: it has no line feed, and no backslash at its end (C17 5.1.1.2)
abbrev pub is_one_line : List ℕ → Bool
is_one_line line = list_all is_no_line_feed line && is_none (last_backslash line)

abbrev pub is_species_form : List ℕ → Form → Bool
is_species_form text (Read other kind.Species) = bytes_eq other text
is_species_form text _ = false

-- the line that is printed with a species text gives the text
abbrev pub is_species_text : List ℕ → Bool
is_species_text text = is_one_line (species_line text) && is_species_form text (form_of (species_line text))

abbrev pub include_line : List ℕ → List ℕ
include_line header = codes "#include " ++ header

abbrev pub is_include_form : List ℕ → Form → Bool
is_include_form header (Read other kind.Include) = bytes_eq other header
is_include_form header _ = false

-- the line that is printed with a header gives the header
abbrev pub is_header : List ℕ → Bool
is_header header = is_one_line (include_line header) && is_include_form header (form_of (include_line header))

abbrev pub line_spelt : Option Line → Bool
line_spelt None = true
line_spelt (Some l) = is_species_text l.text

-- a chunk is at least 1 (OpenMP 4.5, 2.7.1)
abbrev pub is_chunk : ℕ → Bool
is_chunk n = nat_le 1 n && is_int_number n

abbrev pub schedule_spelt : Schedule → Bool
schedule_spelt schedule.Static = true
schedule_spelt (schedule.StaticBy n) = is_chunk n
schedule_spelt (schedule.DynamicBy n) = is_chunk n
schedule_spelt schedule.Guided = true

-- a depth is from 1 to 8
abbrev pub mark_spelt : Mark → Bool
mark_spelt mark.Plain = true
mark_spelt (mark.Parallel depth s) = nat_le 1 depth && (nat_le depth 8 && schedule_spelt s)

-- ---- statements

abbrev pub init_spelt : Unit → List (List ℕ) → Option Expr → Bool
init_spelt u iters None = true
init_spelt u iters (Some e) = is_spelt u iters e

abbrev pub element_spelt : Unit → List (List ℕ) → ℕ → List Expr → Expr → Bool
element_spelt u iters array subs value = is_name (array_name u array) && (list_all (is_spelt u iters) subs && is_spelt u iters value)

abbrev pub stmt_spelt : Unit → Stmt-F (List (List ℕ) → Bool) (List (List ℕ) → Bool) → List (List ℕ) → Bool
stmt_spelt u (Stmt-F.Assign place array subs value) iters = element_spelt u iters array subs value
stmt_spelt u (Stmt-F.AddTo place array subs value atomic) iters = element_spelt u iters array subs value
stmt_spelt u (Stmt-F.Declare place n init) iters = is_name (local_name u n) && init_spelt u iters init
stmt_spelt u (Stmt-F.SetLocal place n value) iters = is_name (local_name u n) && is_spelt u iters value
stmt_spelt u (Stmt-F.If place test body otherwise) iters =
    is_spelt u iters test && (list_all (λ s. s iters) body && list_all (λ s. s iters) otherwise)
stmt_spelt u (Stmt-F.For l) iters = l iters
stmt_spelt u (Stmt-F.Block body) iters = list_all (λ s. s iters) body

abbrev pub loop_spelt : Unit → Loop-F (List (List ℕ) → Bool) (List (List ℕ) → Bool) → List (List ℕ) → Bool
loop_spelt u l iters =
    let inner = iters ++ l.iter ∷ [] in
    (line_spelt l.line && mark_spelt l.mark)
    && ((is_name l.iter && is_int_step l.step)
    && ((is_spelt u iters l.start && is_spelt u inner l.limit) && list_all (λ s. s inner) l.body))

-- names, literals and pragmas of the statement can be written
abbrev pub spelt : Unit → Stmt → List (List ℕ) → Bool
spelt u = fold-Stmt (List (List ℕ) → Bool) (List (List ℕ) → Bool) (stmt_spelt u) (loop_spelt u)

-- ---- units

abbrev pub array_spelt : Array → Bool
array_spelt a = is_name a.name && list_all is_int_number a.dims

-- The unit can be written.
pub record IsSpelt (u : Unit) : Type 0 where
  pub includes : list_all is_header u.includes ≡ true
  pub arrays : list_all array_spelt u.arrays ≡ true
  pub function : is_name u.function ≡ true
  pub body : list_all (λ s. s []) (map (spelt u) u.body) ≡ true

-- ---- lines and marks alone

-- the species lines and parallel marks of the statement can be written
abbrev pub marks_spelt : Stmt → Bool
marks_spelt = fold-Stmt Bool Bool (test_step (λ atomic. true)) (test_layer (λ l. line_spelt l.line && mark_spelt l.mark))

-- those of the unit
abbrev pub HasSpeltMarks : Unit → Type 0
HasSpeltMarks u = list_all marks_spelt u.body ≡ true
