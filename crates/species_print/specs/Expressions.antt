-- The canonical text of expressions: brackets stand only where C17 6.5 needs them.
use Rattle.std.specs.Prelude.{ℕ, suc, ◌+◌, ℤ, pos, negsuc, Bool, true, false, ◌&&◌, ◌||◌, nat_lt, int_lt, if◌then◌else◌, List, [], ◌∷◌, ◌++◌, map, codes, decimal, option_map, unwrap_or, slice_get}
use Rattle.std.specs.List.{flat_map}
use Rattle.species_ast.specs.Signs.{conditional_level, or_level, and_level, cast_level, primary_level, binary_level, binary_sign, and_sign, or_sign, unary_sign}
use Rattle.species_ast.specs.declared.tree.Expr.{Expr, out-Expr, para-Expr}
use Rattle.species_ast.specs.declared.tree.Expr.TheOpen.{Expr-F}
use Rattle.species_ast.specs.declared.tree.Kind.{Kind}
use Rattle.species_ast.specs.declared.tree.Kind.TheVariants as of_kind
use Rattle.species_ast.specs.declared.tree.Unary.{Unary}
use Rattle.species_ast.specs.declared.tree.Unary.TheVariants as unary
use Rattle.species_ast.specs.declared.tree.Unit.{Unit}
use Rattle.species_ast.specs.declared.tree.Value.{Value}
use Rattle.species_ast.specs.declared.tree.Value.TheVariants as value
use Rattle.species_ast.specs.declared.token.TokenKind.TheVariants as kind
use Rattle.species_print.specs.Printed.{Printed, Lexeme, punctuator, keyword, name, number, space, spaced}

-- ---- names: what has no name is written as nothing

abbrev pub array_name : Unit → ℕ → List ℕ
array_name u n = unwrap_or (option_map (λ a. a.name) (slice_get u.arrays n)) []

abbrev pub local_name : Unit → ℕ → List ℕ
local_name u n = unwrap_or (option_map (λ l. l.name) (slice_get u.locals n)) []

-- the name of the loop at this level
abbrev pub iter_name : List (List ℕ) → ℕ → List ℕ
iter_name iters level = unwrap_or (slice_get iters level) []

abbrev pub kind_words : Kind → List Printed
kind_words of_kind.Int = keyword "int" ∷ []
kind_words of_kind.Unsigned = keyword "unsigned" ∷ []
kind_words of_kind.Long = keyword "long" ∷ space ∷ keyword "long" ∷ []
kind_words of_kind.UnsignedLong = keyword "unsigned" ∷ space ∷ keyword "long" ∷ space ∷ keyword "long" ∷ []

-- ---- operators

abbrev pub is_minus : Unary → Bool
is_minus unary.Neg = true
is_minus _ = false

-- ---- levels of expressions

-- no number token is negative: such a literal is written as the negation of its size
abbrev pub is_negative : Value → Bool
is_negative (value.Int z) = int_lt z (pos 0)
is_negative (value.Unsigned n) = false
is_negative (value.Long z) = int_lt z (pos 0)
is_negative (value.UnsignedLong n) = false

abbrev pub level_at : {X : Type 0} → Expr-F X → ℕ
level_at (Expr-F.Literal v) = if is_negative v then cast_level else primary_level
level_at (Expr-F.Unary op a) = cast_level
level_at (Expr-F.Cast k a) = cast_level
level_at (Expr-F.Binary op a b) = binary_level op
level_at (Expr-F.And a b) = and_level
level_at (Expr-F.Or a b) = or_level
level_at (Expr-F.Cond c a b) = conditional_level
level_at _ = primary_level

-- how tight an expression binds, from 0 for `? :` to 12 for a name
abbrev pub level_of : Expr → ℕ
level_of e = level_at (out-Expr e)

abbrev pub negation_at : {X : Type 0} → Expr-F X → Bool
negation_at (Expr-F.Literal v) = is_negative v
negation_at (Expr-F.Unary op a) = is_minus op
negation_at _ = false

-- whether an expression begins with a unary minus of its own
abbrev pub is_negation : Expr → Bool
is_negation e = negation_at (out-Expr e)

-- ---- what is printed of an expression

-- an operand, with what is printed of it
abbrev pub Operand : Type 0
Operand = Expr × List Printed

abbrev pub bracketed : Bool → List Printed → List Printed
bracketed true ps = punctuator "(" ∷ (ps ++ punctuator ")" ∷ [])
bracketed false ps = ps

-- in brackets where its level is below this one
abbrev pub at_least : ℕ → Operand → List Printed
at_least level a = bracketed (nat_lt (level_of a.0) level) a.1

-- behind a unary operator: `--` would be another operator, so a minus behind a minus stands in brackets too
abbrev pub behind_unary : Unary → Operand → List Printed
behind_unary op a = bracketed (nat_lt (level_of a.0) cast_level || (is_minus op && is_negation a.0)) a.1

abbrev pub subscript : List Printed → List Printed
subscript ps = punctuator "[" ∷ (ps ++ punctuator "]" ∷ [])

-- a number of a signed kind, from the token of its size
abbrev pub signed_printed : (ℕ → Printed) → ℤ → List Printed
signed_printed token (pos n) = token n ∷ []
signed_printed token (negsuc n) = punctuator "-" ∷ token (suc n) ∷ []

abbrev pub literal_printed : Value → List Printed
literal_printed (value.Int z) = signed_printed number z
literal_printed (value.Unsigned n) = Lexeme (decimal n ++ codes "u") (kind.Number (value.Unsigned n)) ∷ []
literal_printed (value.Long z) = signed_printed (λ n. Lexeme (decimal n ++ codes "ll") (kind.Number (value.Long (pos n)))) z
literal_printed (value.UnsignedLong n) = Lexeme (decimal n ++ codes "ull") (kind.Number (value.UnsignedLong n)) ∷ []

abbrev pub expr_step : Unit → List (List ℕ) → Expr-F Operand → List Printed
expr_step u iters (Expr-F.Literal v) = literal_printed v
expr_step u iters (Expr-F.Iter level) = name (iter_name iters level) ∷ []
expr_step u iters (Expr-F.Local n) = name (local_name u n) ∷ []
expr_step u iters (Expr-F.Elem array subs) = name (array_name u array) ∷ flat_map subscript (map (λ a. a.1) subs)
expr_step u iters (Expr-F.Unary op a) = Lexeme (unary_sign op) kind.Punct ∷ behind_unary op a
expr_step u iters (Expr-F.Binary op a b) =
    at_least (binary_level op) a ++ (spaced (binary_sign op) ++ at_least (binary_level op + 1) b)
expr_step u iters (Expr-F.And a b) = at_least and_level a ++ (spaced and_sign ++ at_least (and_level + 1) b)
expr_step u iters (Expr-F.Or a b) = at_least or_level a ++ (spaced or_sign ++ at_least (or_level + 1) b)
expr_step u iters (Expr-F.Cond c a b) = at_least (conditional_level + 1) c ++ (spaced (codes "?") ++ (a.1 ++ (spaced (codes ":") ++ b.1)))
expr_step u iters (Expr-F.Cast k a) = punctuator "(" ∷ (kind_words k ++ punctuator ")" ∷ at_least cast_level a)

-- `iters` are the names of the iterators in scope, by level
abbrev pub expr_printed : Unit → List (List ℕ) → Expr → List Printed
expr_printed u iters = para-Expr (List Printed) (expr_step u iters)
