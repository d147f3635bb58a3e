-- The classes of tokens that the readers tell apart.
use Rattle.std.specs.Prelude.{ℕ, List, [], ◌∷◌, ◌++◌, map, Bool, true, false, ◌&&◌, ◌||◌, Option, Some, None, if◌then◌else◌, codes, bytes_eq, nat_eq, nat_le}
use Prim.Native.String.{String}
use Rattle.species_grammar.specs.Reader.{Word, is_of}
use Rattle.species_ast.specs.Token.{Token}
use Rattle.species_ast.specs.Spelling.{Spelling}
use Rattle.species_ast.specs.Signs.{find_sign, raw_unary_sign, all_raw_unary, all_binary, assignment_sign, all_assignments, test_sign, all_tests}
use Rattle.species_ast.specs.Grammar.Words.{sign, name, number, include, species, parallel, atomic}
use Rattle.species_ast.specs.Grammar.Expressions.{Operation, operation_sign, level_of}
use Rattle.species_ast.specs.declared.token.TokenKind.{TokenKind}
use Rattle.species_ast.specs.declared.token.TokenKind.TheVariants as token
use Rattle.species_ast.specs.declared.tree.Value.{Value}
use Rattle.species_ast.specs.declared.tree.Schedule.{Schedule}
use Rattle.species_ast.specs.declared.tree.Test.{Test}
use Rattle.species_ast.specs.declared.raw.RawUnary.{RawUnary}
use Rattle.species_ast.specs.declared.raw.RawOp.{RawOp}

-- kinds of tokens
abbrev pub is_punctuator : TokenKind → Bool
is_punctuator token.Punct = true
is_punctuator _ = false

abbrev pub is_keyword : TokenKind → Bool
is_keyword token.Keyword = true
is_keyword _ = false

-- the value, where a test holds
abbrev pub when : {A : Type 0} → Bool → A → Option A
when b x = if b then Some x else None

-- the bytes of a token where they stand
abbrev pub spelling_of : Token → Spelling
spelling_of t = record { text = t.text; place = t.place }

-- ---- one punctuator or keyword, of which the place is kept

-- the punctuator of these bytes
abbrev pub punctuator_of : List ℕ → Word Token ℕ
punctuator_of text = record { says = λ t. when (is_punctuator t.kind && bytes_eq t.text text) t.place; token = λ p. record { place = p; text = text; kind = token.Punct } }

-- the keyword of these bytes
abbrev pub keyword_of : List ℕ → Word Token ℕ
keyword_of text = record { says = λ t. when (is_keyword t.kind && bytes_eq t.text text) t.place; token = λ p. record { place = p; text = text; kind = token.Keyword } }

-- the same of a spelling in the definitions
abbrev pub the_punctuator : String → Word Token ℕ
the_punctuator s = punctuator_of (codes s)

abbrev pub the_keyword : String → Word Token ℕ
the_keyword s = keyword_of (codes s)

-- ---- one of a table of punctuators

-- what a punctuator stands for, with its place
abbrev pub placed : {O : Type 0} → ℕ → Bool → Option O → Option (ℕ × O)
placed p true (Some o) = Some (p, o)
placed p true None = None
placed p false o = None

-- one of these punctuators, each by its spelling
abbrev pub one_of : {O : Type 0} → (O → List ℕ) → List O → Word Token (ℕ × O)
one_of spell all = record { says = λ t. placed t.place (is_punctuator t.kind) (find_sign spell all t.text); token = λ p. sign p.0 (spell p.1) }

-- a unary operator with its place
abbrev pub unary_operators : Word Token (ℕ × RawUnary)
unary_operators = one_of raw_unary_sign all_raw_unary

-- the binary operators of C17 6.5.5 to 6.5.14
abbrev pub all_operations : List Operation
all_operations = map Operation.strict all_binary ++ (Operation.logical_and ∷ Operation.logical_or ∷ [])

-- a binary operator of any level with its place
abbrev pub binary_operators : Word Token (ℕ × Operation)
binary_operators = one_of operation_sign all_operations

-- only what has the level
abbrev pub of_level : ℕ → Option (ℕ × Operation) → Option (ℕ × Operation)
of_level n (Some p) = when (nat_eq (level_of p.1) n) p
of_level n None = None

-- the binary operators of one level
abbrev pub operators_at : ℕ → Token → Option (ℕ × Operation)
operators_at n t = of_level n (binary_operators.says t)

-- an assignment operator with its place
abbrev pub assignment_operators : Word Token (ℕ × RawOp)
assignment_operators = one_of assignment_sign all_assignments

-- a comparison that may stand in the header of a loop, with its place
abbrev pub tests : Word Token (ℕ × Test)
tests = one_of test_sign all_tests

-- ---- other tokens

-- the name that a token is
abbrev pub name_in : TokenKind → Token → Option Spelling
name_in token.Name t = Some (spelling_of t)
name_in _ t = None

-- a name
abbrev pub names : Word Token Spelling
names = record { says = λ t. name_in t.kind t; token = name }

-- the number that a token is
abbrev pub number_in : TokenKind → Token → Option (Spelling × Value)
number_in (token.Number v) t = Some (spelling_of t, v)
number_in _ t = None

-- a number with its value
abbrev pub numbers : Word Token (Spelling × Value)
numbers = record { says = λ t. number_in t.kind t; token = λ p. number p.0 p.1 }

-- the `#include` that a token is
abbrev pub include_in : TokenKind → Token → Option Spelling
include_in token.Include t = Some (spelling_of t)
include_in _ t = None

-- an `#include`
abbrev pub includes : Word Token Spelling
includes = record { says = λ t. include_in t.kind t; token = include }

-- the species line that a token is
abbrev pub species_in : TokenKind → Token → Option Spelling
species_in token.Species t = Some (spelling_of t)
species_in _ t = None

-- a species line
abbrev pub species_lines : Word Token Spelling
species_lines = record { says = λ t. species_in t.kind t; token = species }

-- the parallel line that a token is
abbrev pub parallel_in : TokenKind → Token → Option (Spelling × (ℕ × Schedule))
parallel_in (token.Parallel d s) t = Some (spelling_of t, (d, s))
parallel_in _ t = None

-- a parallel line with its depth and schedule
abbrev pub parallel_lines : Word Token (Spelling × (ℕ × Schedule))
parallel_lines = record { says = λ t. parallel_in t.kind t; token = λ p. parallel p.0 p.1.0 p.1.1 }

-- the atomic line that a token is
abbrev pub atomic_in : TokenKind → Token → Option Spelling
atomic_in token.Atomic t = Some (spelling_of t)
atomic_in _ t = None

-- an atomic line
abbrev pub atomic_lines : Word Token Spelling
atomic_lines = record { says = λ t. atomic_in t.kind t; token = atomic }

-- ---- tests of the next token

-- this punctuator is the token
abbrev pub is_the_punctuator : String → Token → Bool
is_the_punctuator s = is_of (the_punctuator s)

-- this keyword is the token
abbrev pub is_the_keyword : String → Token → Bool
is_the_keyword s = is_of (the_keyword s)

-- a type begins there
abbrev pub is_type : Token → Bool
is_type t = is_the_keyword "int" t || (is_the_keyword "unsigned" t || is_the_keyword "long" t)

-- a loop begins there
abbrev pub is_loop : Token → Bool
is_loop t = is_of species_lines t || is_of parallel_lines t || is_the_keyword "for" t

-- an operator of the level or a higher one
abbrev pub of_least_level : ℕ → Option (ℕ × Operation) → Bool
of_least_level n (Some p) = nat_le n (level_of p.1)
of_least_level n None = false

-- An expression of the level goes on there: a subscript, an operator of the level or a higher one, and at the lowest level a `?`.
abbrev pub goes_on : ℕ → Token → Bool
goes_on n t = is_the_punctuator "[" t || (of_least_level n (binary_operators.says t) || (nat_eq n 0 && is_the_punctuator "?" t))
