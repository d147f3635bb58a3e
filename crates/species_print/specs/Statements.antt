-- The canonical text of statements.
use Rattle.std.specs.Prelude.{ℕ, zero, suc, ℤ, pos, negsuc, Bool, true, false, nat_lt, if◌then◌else◌, List, [], ◌∷◌, ◌++◌, map, codes, decimal, Option, Some, None, option_map, unwrap_or, slice_get}
use Rattle.std.specs.List.{flat_map}
use Rattle.species_ast.specs.Signs.{test_sign}
use Rattle.species_ast.specs.Line.{Line}
use Rattle.species_ast.specs.declared.tree.Expr.{Expr}
use Rattle.species_ast.specs.declared.tree.Kind.{Kind}
use Rattle.species_ast.specs.declared.tree.Kind.TheVariants as of_kind
use Rattle.species_ast.specs.declared.tree.Loop.{Loop, roll-Loop, out-Loop, fold-Loop}
use Rattle.species_ast.specs.declared.tree.Mark.{Mark}
use Rattle.species_ast.specs.declared.tree.Mark.TheVariants as mark
use Rattle.species_ast.specs.declared.tree.Schedule.{Schedule}
use Rattle.species_ast.specs.declared.tree.Schedule.TheVariants as schedule
use Rattle.species_ast.specs.declared.tree.Stmt.{Stmt, out-Stmt, fold-Stmt}
use Rattle.species_ast.specs.declared.tree.Stmt.TheOpen.{Stmt-F, Loop-F}
use Rattle.species_ast.specs.declared.tree.Unit.{Unit}
use Rattle.species_ast.specs.declared.token.TokenKind.TheVariants as kind
use Rattle.species_print.specs.Printed.{Printed, Lexeme, punctuator, keyword, name, number, space, spaced, line, text_of}
use Rattle.species_print.specs.Expressions.{array_name, local_name, kind_words, subscript, expr_printed}

-- ---- indentation

-- one level more
abbrev pub deeper : List ℕ → List ℕ
deeper indentation = indentation ++ codes "    "

-- four spaces for each level
abbrev pub indentation : ℕ → List ℕ
indentation zero = []
indentation (suc depth) = deeper (indentation depth)

-- What a statement becomes, by the names of the loops around it and by its indentation.
abbrev pub Layout : Type 0
Layout = List (List ℕ) → List ℕ → List Printed

abbrev pub all_of : List Layout → Layout
all_of list iters ind = flat_map (λ layout. layout iters ind) list

-- ---- assignments and declarations

abbrev pub element : Unit → List (List ℕ) → ℕ → List Expr → List Printed
element u iters array subs = name (array_name u array) ∷ flat_map subscript (map (expr_printed u iters) subs)

-- a target, an assignment's sign and a value
abbrev pub assignment : Unit → List (List ℕ) → List Printed → List ℕ → Expr → List Printed
assignment u iters target sign value = target ++ (spaced sign ++ (expr_printed u iters value ++ punctuator ";" ∷ []))

abbrev pub local_kind : Unit → ℕ → Kind
local_kind u n = unwrap_or (option_map (λ l. l.kind) (slice_get u.locals n)) of_kind.Int

abbrev pub initialiser : Unit → List (List ℕ) → Option Expr → List Printed
initialiser u iters None = []
initialiser u iters (Some e) = spaced (codes "=") ++ expr_printed u iters e

abbrev pub declaration : Unit → List (List ℕ) → ℕ → Option Expr → List Printed
declaration u iters n init =
    kind_words (local_kind u n) ++ (space ∷ name (local_name u n) ∷ (initialiser u iters init ++ punctuator ";" ∷ []))

-- ---- pragmas (OpenMP 4.5, 2.13.6 and 2.7.1)

abbrev pub atomic_line : Bool → List ℕ → List Printed
atomic_line false ind = []
atomic_line true ind = line ind (Lexeme (codes "#pragma omp atomic update") kind.Atomic ∷ [])

abbrev pub species_line : Option Line → List ℕ → List Printed
species_line None ind = []
species_line (Some l) ind = line ind (Lexeme l.text kind.Species ∷ [])

abbrev pub collapse_text : ℕ → List ℕ
collapse_text depth = if nat_lt 1 depth then codes " collapse(" ++ (decimal depth ++ codes ")") else []

abbrev pub schedule_text : Schedule → List ℕ
schedule_text schedule.Static = codes " schedule(static)"
schedule_text (schedule.StaticBy n) = codes " schedule(static, " ++ (decimal n ++ codes ")")
schedule_text (schedule.DynamicBy n) = codes " schedule(dynamic, " ++ (decimal n ++ codes ")")
schedule_text schedule.Guided = codes " schedule(guided)"

abbrev pub parallel_text : ℕ → Schedule → List ℕ
parallel_text depth s = codes "#pragma omp parallel for" ++ (collapse_text depth ++ schedule_text s)

abbrev pub parallel_line : Mark → List ℕ → List Printed
parallel_line mark.Plain ind = []
parallel_line (mark.Parallel depth s) ind = line ind (Lexeme (parallel_text depth s) (kind.Parallel depth s) ∷ [])

-- ---- heads

abbrev pub if_head : Unit → List (List ℕ) → Expr → List Printed
if_head u iters test = keyword "if" ∷ space ∷ punctuator "(" ∷ (expr_printed u iters test ++ (punctuator ")" ∷ space ∷ punctuator "{" ∷ []))

-- `i++`, `i--`, `i += n` or `i -= n`
abbrev pub step_printed : List ℕ → ℤ → List Printed
step_printed i (pos (suc zero)) = name i ∷ punctuator "++" ∷ []
step_printed i (pos n) = name i ∷ (spaced (codes "+=") ++ number n ∷ [])
step_printed i (negsuc zero) = name i ∷ punctuator "--" ∷ []
step_printed i (negsuc n) = name i ∷ (spaced (codes "-=") ++ number (suc n) ∷ [])

-- the iterator has its name from the limit on
abbrev pub for_head : {X Y : Type 0} → Unit → List (List ℕ) → Loop-F X Y → List Printed
for_head u iters l =
    keyword "for" ∷ space ∷ punctuator "(" ∷ keyword "int" ∷ space ∷ name l.iter ∷
    (spaced (codes "=") ++ (expr_printed u iters l.start ++ (punctuator ";" ∷ space ∷ name l.iter ∷
    (spaced (test_sign l.test) ++ (expr_printed u (iters ++ l.iter ∷ []) l.limit ++ (punctuator ";" ∷ space ∷
    (step_printed l.iter l.step ++ (punctuator ")" ∷ space ∷ punctuator "{" ∷ []))))))))

-- ---- statements

abbrev pub else_part : List Layout → Layout
else_part [] iters ind = []
else_part (s ∷ ss) iters ind =
    line ind (punctuator "}" ∷ space ∷ keyword "else" ∷ space ∷ punctuator "{" ∷ []) ++ all_of (s ∷ ss) iters (deeper ind)

abbrev pub close : List ℕ → List Printed
close ind = line ind (punctuator "}" ∷ [])

abbrev pub stmt_step : Unit → Stmt-F Layout Layout → Layout
stmt_step u (Stmt-F.Assign place array subs value) iters ind =
    line ind (assignment u iters (element u iters array subs) (codes "=") value)
stmt_step u (Stmt-F.AddTo place array subs value atomic) iters ind =
    atomic_line atomic ind ++ line ind (assignment u iters (element u iters array subs) (codes "+=") value)
stmt_step u (Stmt-F.Declare place n init) iters ind = line ind (declaration u iters n init)
stmt_step u (Stmt-F.SetLocal place n value) iters ind = line ind (assignment u iters (name (local_name u n) ∷ []) (codes "=") value)
stmt_step u (Stmt-F.If place test body otherwise) iters ind =
    line ind (if_head u iters test) ++ (all_of body iters (deeper ind) ++ (else_part otherwise iters ind ++ close ind))
stmt_step u (Stmt-F.For layout) iters ind = layout iters ind
stmt_step u (Stmt-F.Block body) iters ind = line ind (punctuator "{" ∷ []) ++ (all_of body iters (deeper ind) ++ close ind)

-- `parallel` says whether parallel lines are written
abbrev pub loop_layer : Bool → Unit → Loop-F Layout Layout → Layout
loop_layer parallel u l iters ind =
    species_line l.line ind ++ ((if parallel then parallel_line l.mark ind else []) ++
    (line ind (for_head u iters l) ++ (all_of l.body (iters ++ l.iter ∷ []) (deeper ind) ++ close ind)))

abbrev pub stmt_layout : Bool → Unit → Stmt → Layout
stmt_layout parallel u = fold-Stmt Layout Layout (stmt_step u) (loop_layer parallel u)

abbrev pub loop_layout : Bool → Unit → Loop → Layout
loop_layout parallel u = fold-Loop Layout Layout (stmt_step u) (loop_layer parallel u)

-- ---- their texts, without parallel lines

abbrev pub stmt_text : Unit → List (List ℕ) → List ℕ → Stmt → List ℕ
stmt_text u iters ind s = text_of (stmt_layout false u s iters ind)

-- the loop without its own species line
abbrev pub without_line : Loop → Loop
without_line l = roll-Loop (record (out-Loop l) { line = None })

abbrev pub loop_text : Unit → List (List ℕ) → List ℕ → Loop → List ℕ
loop_text u iters ind l = text_of (loop_layout false u l iters ind)

-- the first line of an `if` or a loop, which is no pragma
abbrev pub head_at : Unit → List (List ℕ) → List ℕ → Stmt-F Stmt Loop → List Printed
head_at u iters ind (Stmt-F.If place test body otherwise) = line ind (if_head u iters test)
head_at u iters ind (Stmt-F.For l) = line ind (for_head u iters (out-Loop l))
head_at u iters ind _ = []

abbrev pub head_text : Unit → List (List ℕ) → List ℕ → Stmt → List ℕ
head_text u iters ind s = text_of (head_at u iters ind (out-Stmt s))
