-- Small texts that derive nothing, and where they go wrong. Places are those of the text that stands above each.
use Rattle.std.proofs.Common.{◌≡◌, ℕ, ◌<◌, List, [], ◌∷◌, length, arith, refl}
use Rattle.std.specs.Prelude.{codes, pos}
use Prim.Native.String.{String}
use Rattle.species_grammar.specs.Reader.{Answer}
use Rattle.species_grammar.specs.Whole.{whole}
use Rattle.species_ast.specs.Token.{Token}
use Rattle.species_ast.specs.Spelling.{Spelling}
use Rattle.species_ast.specs.Grammar.Words.{punctuator, keyword, name, number, include, species, parallel, atomic}
use Rattle.species_ast.specs.Grammar.Units.{SyntaxErrorBefore, place_before}
use Rattle.species_ast.specs.declared.tree.Value.TheVariants as value
use Rattle.species_ast.specs.declared.tree.Schedule.TheVariants as schedule
use Rattle.species_parser.specs.Reading.{long_words, unsigned_tail, type_reader, unit_at}
use Rattle.species_parser.proofs.Whole.{stuck_errs}

abbrev at : ℕ → String → Spelling
at p s = record { text = codes s; place = p }

abbrev digits : ℕ → String → ℕ → Token
digits p s v = number (at p s) (value.Int (pos v))

-- in a text of so many bytes the tokens go wrong there
abbrev WrongAt : ℕ → List Token → ℕ → Type 0
WrongAt size ts place = (back : List Token) × SyntaxErrorBefore ts back × (place_before size back ≡ place)

wrong : (n size : ℕ) (ts back : List Token) → length ts < n → whole (unit_at n) ts ≡ Answer.stuck back → WrongAt size ts (place_before size back)
wrong n size ts back lt h = (back, stuck_errs n ts back lt h, refl)

--
abbrev nothing_at_all_tokens : List Token
nothing_at_all_tokens =
    []

pub nothing_at_all : WrongAt 0 nothing_at_all_tokens 0
unfolding type_reader unsigned_tail long_words
nothing_at_all = wrong 1 0 nothing_at_all_tokens ([]) (omega arith) refl

-- int A[4]; ⏎ void k(void) { ⏎     for (int i = 0; i <
abbrev cut_short_tokens : List Token
cut_short_tokens =
    keyword 0 "int" ∷ name (at 4 "A") ∷ punctuator 5 "[" ∷ digits 6 "4" 4 ∷ punctuator 7 "]" ∷ punctuator 8 ";" ∷ keyword 10 "void" ∷ name (at 15 "k") ∷ punctuator 16 "(" ∷
    keyword 17 "void" ∷ punctuator 21 ")" ∷ punctuator 23 "{" ∷ keyword 29 "for" ∷ punctuator 33 "(" ∷ keyword 34 "int" ∷ name (at 38 "i") ∷ punctuator 40 "=" ∷ digits 42 "0" 0 ∷
    punctuator 43 ";" ∷ name (at 45 "i") ∷ punctuator 47 "<" ∷ []

pub cut_short : WrongAt 48 cut_short_tokens 48
unfolding type_reader unsigned_tail long_words
cut_short = wrong 22 48 cut_short_tokens ([]) (omega arith) refl

-- int A[4];
abbrev no_function_tokens : List Token
no_function_tokens =
    keyword 0 "int" ∷ name (at 4 "A") ∷ punctuator 5 "[" ∷ digits 6 "4" 4 ∷ punctuator 7 "]" ∷ punctuator 8 ";" ∷ []

pub no_function : WrongAt 9 no_function_tokens 9
unfolding type_reader unsigned_tail long_words
no_function = wrong 7 9 no_function_tokens ([]) (omega arith) refl

-- int A; void f() { }
abbrev no_size_tokens : List Token
no_size_tokens =
    keyword 0 "int" ∷ name (at 4 "A") ∷ punctuator 5 ";" ∷ keyword 7 "void" ∷ name (at 12 "f") ∷ punctuator 13 "(" ∷ punctuator 14 ")" ∷ punctuator 16 "{" ∷ punctuator 18 "}" ∷ []

pub no_size : WrongAt 19 no_size_tokens 5
unfolding type_reader unsigned_tail long_words
no_size = wrong 10 19 no_size_tokens (punctuator 5 ";" ∷ keyword 7 "void" ∷ name (at 12 "f") ∷ punctuator 13 "(" ∷ punctuator 14 ")" ∷ punctuator 16 "{" ∷ punctuator 18 "}" ∷ []) (omega arith) refl

-- int A[]; void f() { }
abbrev empty_size_tokens : List Token
empty_size_tokens =
    keyword 0 "int" ∷ name (at 4 "A") ∷ punctuator 5 "[" ∷ punctuator 6 "]" ∷ punctuator 7 ";" ∷ keyword 9 "void" ∷ name (at 14 "f") ∷ punctuator 15 "(" ∷ punctuator 16 ")" ∷
    punctuator 18 "{" ∷ punctuator 20 "}" ∷ []

pub empty_size : WrongAt 21 empty_size_tokens 6
unfolding type_reader unsigned_tail long_words
empty_size = wrong 12 21 empty_size_tokens (punctuator 6 "]" ∷ punctuator 7 ";" ∷ keyword 9 "void" ∷ name (at 14 "f") ∷ punctuator 15 "(" ∷ punctuator 16 ")" ∷ punctuator 18 "{" ∷ punctuator 20 "}" ∷ []) (omega arith) refl

-- int A[4] = 0; void f() { }
abbrev initialised_array_tokens : List Token
initialised_array_tokens =
    keyword 0 "int" ∷ name (at 4 "A") ∷ punctuator 5 "[" ∷ digits 6 "4" 4 ∷ punctuator 7 "]" ∷ punctuator 9 "=" ∷ digits 11 "0" 0 ∷ punctuator 12 ";" ∷ keyword 14 "void" ∷
    name (at 19 "f") ∷ punctuator 20 "(" ∷ punctuator 21 ")" ∷ punctuator 23 "{" ∷ punctuator 25 "}" ∷ []

pub initialised_array : WrongAt 26 initialised_array_tokens 9
unfolding type_reader unsigned_tail long_words
initialised_array = wrong 15 26 initialised_array_tokens (punctuator 9 "=" ∷ digits 11 "0" 0 ∷ punctuator 12 ";" ∷ keyword 14 "void" ∷ name (at 19 "f") ∷ punctuator 20 "(" ∷ punctuator 21 ")" ∷ punctuator 23 "{" ∷ punctuator 25 "}" ∷ []) (omega arith) refl

-- void f() { int long x; }
abbrev int_long_tokens : List Token
int_long_tokens =
    keyword 0 "void" ∷ name (at 5 "f") ∷ punctuator 6 "(" ∷ punctuator 7 ")" ∷ punctuator 9 "{" ∷ keyword 11 "int" ∷ keyword 15 "long" ∷ name (at 20 "x") ∷ punctuator 21 ";" ∷
    punctuator 23 "}" ∷ []

pub int_long : WrongAt 24 int_long_tokens 15
unfolding type_reader unsigned_tail long_words
int_long = wrong 11 24 int_long_tokens (keyword 15 "long" ∷ name (at 20 "x") ∷ punctuator 21 ";" ∷ punctuator 23 "}" ∷ []) (omega arith) refl

-- void f() { unsigned long x; }
abbrev unsigned_long_tokens : List Token
unsigned_long_tokens =
    keyword 0 "void" ∷ name (at 5 "f") ∷ punctuator 6 "(" ∷ punctuator 7 ")" ∷ punctuator 9 "{" ∷ keyword 11 "unsigned" ∷ keyword 20 "long" ∷ name (at 25 "x") ∷ punctuator 26 ";" ∷
    punctuator 28 "}" ∷ []

pub unsigned_long : WrongAt 29 unsigned_long_tokens 25
unfolding type_reader unsigned_tail long_words
unsigned_long = wrong 11 29 unsigned_long_tokens (name (at 25 "x") ∷ punctuator 26 ";" ∷ punctuator 28 "}" ∷ []) (omega arith) refl

-- void f() { long x; }
abbrev long_first_tokens : List Token
long_first_tokens =
    keyword 0 "void" ∷ name (at 5 "f") ∷ punctuator 6 "(" ∷ punctuator 7 ")" ∷ punctuator 9 "{" ∷ keyword 11 "long" ∷ name (at 16 "x") ∷ punctuator 17 ";" ∷ punctuator 19 "}" ∷ []

pub long_first : WrongAt 20 long_first_tokens 16
unfolding type_reader unsigned_tail long_words
long_first = wrong 10 20 long_first_tokens (name (at 16 "x") ∷ punctuator 17 ";" ∷ punctuator 19 "}" ∷ []) (omega arith) refl

-- static static int A[4]; void f() { }
abbrev static_twice_tokens : List Token
static_twice_tokens =
    keyword 0 "static" ∷ keyword 7 "static" ∷ keyword 14 "int" ∷ name (at 18 "A") ∷ punctuator 19 "[" ∷ digits 20 "4" 4 ∷ punctuator 21 "]" ∷ punctuator 22 ";" ∷ keyword 24 "void" ∷
    name (at 29 "f") ∷ punctuator 30 "(" ∷ punctuator 31 ")" ∷ punctuator 33 "{" ∷ punctuator 35 "}" ∷ []

pub static_twice : WrongAt 36 static_twice_tokens 7
unfolding type_reader unsigned_tail long_words
static_twice = wrong 15 36 static_twice_tokens (keyword 7 "static" ∷ keyword 14 "int" ∷ name (at 18 "A") ∷ punctuator 19 "[" ∷ digits 20 "4" 4 ∷ punctuator 21 "]" ∷ punctuator 22 ";" ∷ keyword 24 "void" ∷ name (at 29 "f") ∷
    punctuator 30 "(" ∷ punctuator 31 ")" ∷ punctuator 33 "{" ∷ punctuator 35 "}" ∷ []) (omega arith) refl

-- void f() { static int x; }
abbrev static_in_a_block_tokens : List Token
static_in_a_block_tokens =
    keyword 0 "void" ∷ name (at 5 "f") ∷ punctuator 6 "(" ∷ punctuator 7 ")" ∷ punctuator 9 "{" ∷ keyword 11 "static" ∷ keyword 18 "int" ∷ name (at 22 "x") ∷ punctuator 23 ";" ∷
    punctuator 25 "}" ∷ []

pub static_in_a_block : WrongAt 26 static_in_a_block_tokens 11
unfolding type_reader unsigned_tail long_words
static_in_a_block = wrong 11 26 static_in_a_block_tokens (keyword 11 "static" ∷ keyword 18 "int" ∷ name (at 22 "x") ∷ punctuator 23 ";" ∷ punctuator 25 "}" ∷ []) (omega arith) refl

-- int f() { }
abbrev a_function_of_int_tokens : List Token
a_function_of_int_tokens =
    keyword 0 "int" ∷ name (at 4 "f") ∷ punctuator 5 "(" ∷ punctuator 6 ")" ∷ punctuator 8 "{" ∷ punctuator 10 "}" ∷ []

pub a_function_of_int : WrongAt 11 a_function_of_int_tokens 5
unfolding type_reader unsigned_tail long_words
a_function_of_int = wrong 7 11 a_function_of_int_tokens (punctuator 5 "(" ∷ punctuator 6 ")" ∷ punctuator 8 "{" ∷ punctuator 10 "}" ∷ []) (omega arith) refl

-- void f(int x) { }
abbrev a_parameter_tokens : List Token
a_parameter_tokens =
    keyword 0 "void" ∷ name (at 5 "f") ∷ punctuator 6 "(" ∷ keyword 7 "int" ∷ name (at 11 "x") ∷ punctuator 12 ")" ∷ punctuator 14 "{" ∷ punctuator 16 "}" ∷ []

pub a_parameter : WrongAt 17 a_parameter_tokens 7
unfolding type_reader unsigned_tail long_words
a_parameter = wrong 9 17 a_parameter_tokens (keyword 7 "int" ∷ name (at 11 "x") ∷ punctuator 12 ")" ∷ punctuator 14 "{" ∷ punctuator 16 "}" ∷ []) (omega arith) refl

-- void f() { } ;
abbrev tokens_after_the_function_tokens : List Token
tokens_after_the_function_tokens =
    keyword 0 "void" ∷ name (at 5 "f") ∷ punctuator 6 "(" ∷ punctuator 7 ")" ∷ punctuator 9 "{" ∷ punctuator 11 "}" ∷ punctuator 13 ";" ∷ []

pub tokens_after_the_function : WrongAt 14 tokens_after_the_function_tokens 13
unfolding type_reader unsigned_tail long_words
tokens_after_the_function = wrong 8 14 tokens_after_the_function_tokens (punctuator 13 ";" ∷ []) (omega arith) refl

-- void f() { } int A[2];
abbrev a_global_after_the_function_tokens : List Token
a_global_after_the_function_tokens =
    keyword 0 "void" ∷ name (at 5 "f") ∷ punctuator 6 "(" ∷ punctuator 7 ")" ∷ punctuator 9 "{" ∷ punctuator 11 "}" ∷ keyword 13 "int" ∷ name (at 17 "A") ∷ punctuator 18 "[" ∷
    digits 19 "2" 2 ∷ punctuator 20 "]" ∷ punctuator 21 ";" ∷ []

pub a_global_after_the_function : WrongAt 22 a_global_after_the_function_tokens 13
unfolding type_reader unsigned_tail long_words
a_global_after_the_function = wrong 13 22 a_global_after_the_function_tokens (keyword 13 "int" ∷ name (at 17 "A") ∷ punctuator 18 "[" ∷ digits 19 "2" 2 ∷ punctuator 20 "]" ∷ punctuator 21 ";" ∷ []) (omega arith) refl

-- void f() { } void g() { }
abbrev two_functions_tokens : List Token
two_functions_tokens =
    keyword 0 "void" ∷ name (at 5 "f") ∷ punctuator 6 "(" ∷ punctuator 7 ")" ∷ punctuator 9 "{" ∷ punctuator 11 "}" ∷ keyword 13 "void" ∷ name (at 18 "g") ∷ punctuator 19 "(" ∷
    punctuator 20 ")" ∷ punctuator 22 "{" ∷ punctuator 24 "}" ∷ []

pub two_functions : WrongAt 25 two_functions_tokens 13
unfolding type_reader unsigned_tail long_words
two_functions = wrong 13 25 two_functions_tokens (keyword 13 "void" ∷ name (at 18 "g") ∷ punctuator 19 "(" ∷ punctuator 20 ")" ∷ punctuator 22 "{" ∷ punctuator 24 "}" ∷ []) (omega arith) refl

-- void f() { { }
abbrev unclosed_block_tokens : List Token
unclosed_block_tokens =
    keyword 0 "void" ∷ name (at 5 "f") ∷ punctuator 6 "(" ∷ punctuator 7 ")" ∷ punctuator 9 "{" ∷ punctuator 11 "{" ∷ punctuator 13 "}" ∷ []

pub unclosed_block : WrongAt 14 unclosed_block_tokens 14
unfolding type_reader unsigned_tail long_words
unclosed_block = wrong 8 14 unclosed_block_tokens ([]) (omega arith) refl

-- void f() { else ; }
abbrev lonely_else_tokens : List Token
lonely_else_tokens =
    keyword 0 "void" ∷ name (at 5 "f") ∷ punctuator 6 "(" ∷ punctuator 7 ")" ∷ punctuator 9 "{" ∷ keyword 11 "else" ∷ punctuator 16 ";" ∷ punctuator 18 "}" ∷ []

pub lonely_else : WrongAt 19 lonely_else_tokens 11
unfolding type_reader unsigned_tail long_words
lonely_else = wrong 9 19 lonely_else_tokens (keyword 11 "else" ∷ punctuator 16 ";" ∷ punctuator 18 "}" ∷ []) (omega arith) refl

-- void f() { if (a) ; else ; else ; }
abbrev two_elses_tokens : List Token
two_elses_tokens =
    keyword 0 "void" ∷ name (at 5 "f") ∷ punctuator 6 "(" ∷ punctuator 7 ")" ∷ punctuator 9 "{" ∷ keyword 11 "if" ∷ punctuator 14 "(" ∷ name (at 15 "a") ∷ punctuator 16 ")" ∷
    punctuator 18 ";" ∷ keyword 20 "else" ∷ punctuator 25 ";" ∷ keyword 27 "else" ∷ punctuator 32 ";" ∷ punctuator 34 "}" ∷ []

pub two_elses : WrongAt 35 two_elses_tokens 27
unfolding type_reader unsigned_tail long_words
two_elses = wrong 16 35 two_elses_tokens (keyword 27 "else" ∷ punctuator 32 ";" ∷ punctuator 34 "}" ∷ []) (omega arith) refl

-- void f() { if a ; }
abbrev if_without_brackets_tokens : List Token
if_without_brackets_tokens =
    keyword 0 "void" ∷ name (at 5 "f") ∷ punctuator 6 "(" ∷ punctuator 7 ")" ∷ punctuator 9 "{" ∷ keyword 11 "if" ∷ name (at 14 "a") ∷ punctuator 16 ";" ∷ punctuator 18 "}" ∷ []

pub if_without_brackets : WrongAt 19 if_without_brackets_tokens 14
unfolding type_reader unsigned_tail long_words
if_without_brackets = wrong 10 19 if_without_brackets_tokens (name (at 14 "a") ∷ punctuator 16 ";" ∷ punctuator 18 "}" ∷ []) (omega arith) refl

-- void f() { if (a) }
abbrev if_without_a_statement_tokens : List Token
if_without_a_statement_tokens =
    keyword 0 "void" ∷ name (at 5 "f") ∷ punctuator 6 "(" ∷ punctuator 7 ")" ∷ punctuator 9 "{" ∷ keyword 11 "if" ∷ punctuator 14 "(" ∷ name (at 15 "a") ∷ punctuator 16 ")" ∷
    punctuator 18 "}" ∷ []

pub if_without_a_statement : WrongAt 19 if_without_a_statement_tokens 18
unfolding type_reader unsigned_tail long_words
if_without_a_statement = wrong 11 19 if_without_a_statement_tokens (punctuator 18 "}" ∷ []) (omega arith) refl

-- void f() { if (a) int x; }
abbrev a_declaration_as_a_body_tokens : List Token
a_declaration_as_a_body_tokens =
    keyword 0 "void" ∷ name (at 5 "f") ∷ punctuator 6 "(" ∷ punctuator 7 ")" ∷ punctuator 9 "{" ∷ keyword 11 "if" ∷ punctuator 14 "(" ∷ name (at 15 "a") ∷ punctuator 16 ")" ∷
    keyword 18 "int" ∷ name (at 22 "x") ∷ punctuator 23 ";" ∷ punctuator 25 "}" ∷ []

pub a_declaration_as_a_body : WrongAt 26 a_declaration_as_a_body_tokens 18
unfolding type_reader unsigned_tail long_words
a_declaration_as_a_body = wrong 14 26 a_declaration_as_a_body_tokens (keyword 18 "int" ∷ name (at 22 "x") ∷ punctuator 23 ";" ∷ punctuator 25 "}" ∷ []) (omega arith) refl

-- void f() { x = 1 + ; }
abbrev no_right_operand_tokens : List Token
no_right_operand_tokens =
    keyword 0 "void" ∷ name (at 5 "f") ∷ punctuator 6 "(" ∷ punctuator 7 ")" ∷ punctuator 9 "{" ∷ name (at 11 "x") ∷ punctuator 13 "=" ∷ digits 15 "1" 1 ∷ punctuator 17 "+" ∷
    punctuator 19 ";" ∷ punctuator 21 "}" ∷ []

pub no_right_operand : WrongAt 22 no_right_operand_tokens 19
unfolding type_reader unsigned_tail long_words
no_right_operand = wrong 12 22 no_right_operand_tokens (punctuator 19 ";" ∷ punctuator 21 "}" ∷ []) (omega arith) refl

-- void f() { x = * 1; }
abbrev no_left_operand_tokens : List Token
no_left_operand_tokens =
    keyword 0 "void" ∷ name (at 5 "f") ∷ punctuator 6 "(" ∷ punctuator 7 ")" ∷ punctuator 9 "{" ∷ name (at 11 "x") ∷ punctuator 13 "=" ∷ punctuator 15 "*" ∷ digits 17 "1" 1 ∷
    punctuator 18 ";" ∷ punctuator 20 "}" ∷ []

pub no_left_operand : WrongAt 21 no_left_operand_tokens 15
unfolding type_reader unsigned_tail long_words
no_left_operand = wrong 12 21 no_left_operand_tokens (punctuator 15 "*" ∷ digits 17 "1" 1 ∷ punctuator 18 ";" ∷ punctuator 20 "}" ∷ []) (omega arith) refl

-- void f() { x + 1; }
abbrev an_expression_alone_tokens : List Token
an_expression_alone_tokens =
    keyword 0 "void" ∷ name (at 5 "f") ∷ punctuator 6 "(" ∷ punctuator 7 ")" ∷ punctuator 9 "{" ∷ name (at 11 "x") ∷ punctuator 13 "+" ∷ digits 15 "1" 1 ∷ punctuator 16 ";" ∷
    punctuator 18 "}" ∷ []

pub an_expression_alone : WrongAt 19 an_expression_alone_tokens 13
unfolding type_reader unsigned_tail long_words
an_expression_alone = wrong 11 19 an_expression_alone_tokens (punctuator 13 "+" ∷ digits 15 "1" 1 ∷ punctuator 16 ";" ∷ punctuator 18 "}" ∷ []) (omega arith) refl

-- void f() { 1 = x; }
abbrev a_number_is_set_tokens : List Token
a_number_is_set_tokens =
    keyword 0 "void" ∷ name (at 5 "f") ∷ punctuator 6 "(" ∷ punctuator 7 ")" ∷ punctuator 9 "{" ∷ digits 11 "1" 1 ∷ punctuator 13 "=" ∷ name (at 15 "x") ∷ punctuator 16 ";" ∷
    punctuator 18 "}" ∷ []

pub a_number_is_set : WrongAt 19 a_number_is_set_tokens 11
unfolding type_reader unsigned_tail long_words
a_number_is_set = wrong 11 19 a_number_is_set_tokens (digits 11 "1" 1 ∷ punctuator 13 "=" ∷ name (at 15 "x") ∷ punctuator 16 ";" ∷ punctuator 18 "}" ∷ []) (omega arith) refl

-- void f() { g(); }
abbrev a_call_tokens : List Token
a_call_tokens =
    keyword 0 "void" ∷ name (at 5 "f") ∷ punctuator 6 "(" ∷ punctuator 7 ")" ∷ punctuator 9 "{" ∷ name (at 11 "g") ∷ punctuator 12 "(" ∷ punctuator 13 ")" ∷ punctuator 14 ";" ∷
    punctuator 16 "}" ∷ []

pub a_call : WrongAt 17 a_call_tokens 12
unfolding type_reader unsigned_tail long_words
a_call = wrong 11 17 a_call_tokens (punctuator 12 "(" ∷ punctuator 13 ")" ∷ punctuator 14 ";" ∷ punctuator 16 "}" ∷ []) (omega arith) refl

-- void f() { x = g(1); }
abbrev a_call_in_an_expression_tokens : List Token
a_call_in_an_expression_tokens =
    keyword 0 "void" ∷ name (at 5 "f") ∷ punctuator 6 "(" ∷ punctuator 7 ")" ∷ punctuator 9 "{" ∷ name (at 11 "x") ∷ punctuator 13 "=" ∷ name (at 15 "g") ∷ punctuator 16 "(" ∷
    digits 17 "1" 1 ∷ punctuator 18 ")" ∷ punctuator 19 ";" ∷ punctuator 21 "}" ∷ []

pub a_call_in_an_expression : WrongAt 22 a_call_in_an_expression_tokens 16
unfolding type_reader unsigned_tail long_words
a_call_in_an_expression = wrong 14 22 a_call_in_an_expression_tokens (punctuator 16 "(" ∷ digits 17 "1" 1 ∷ punctuator 18 ")" ∷ punctuator 19 ";" ∷ punctuator 21 "}" ∷ []) (omega arith) refl

-- void f() { a = b = c; }
abbrev two_assignments_tokens : List Token
two_assignments_tokens =
    keyword 0 "void" ∷ name (at 5 "f") ∷ punctuator 6 "(" ∷ punctuator 7 ")" ∷ punctuator 9 "{" ∷ name (at 11 "a") ∷ punctuator 13 "=" ∷ name (at 15 "b") ∷ punctuator 17 "=" ∷
    name (at 19 "c") ∷ punctuator 20 ";" ∷ punctuator 22 "}" ∷ []

pub two_assignments : WrongAt 23 two_assignments_tokens 17
unfolding type_reader unsigned_tail long_words
two_assignments = wrong 13 23 two_assignments_tokens (punctuator 17 "=" ∷ name (at 19 "c") ∷ punctuator 20 ";" ∷ punctuator 22 "}" ∷ []) (omega arith) refl

-- void f() { x = (y = 1); }
abbrev an_assignment_in_brackets_tokens : List Token
an_assignment_in_brackets_tokens =
    keyword 0 "void" ∷ name (at 5 "f") ∷ punctuator 6 "(" ∷ punctuator 7 ")" ∷ punctuator 9 "{" ∷ name (at 11 "x") ∷ punctuator 13 "=" ∷ punctuator 15 "(" ∷ name (at 16 "y") ∷
    punctuator 18 "=" ∷ digits 20 "1" 1 ∷ punctuator 21 ")" ∷ punctuator 22 ";" ∷ punctuator 24 "}" ∷ []

pub an_assignment_in_brackets : WrongAt 25 an_assignment_in_brackets_tokens 18
unfolding type_reader unsigned_tail long_words
an_assignment_in_brackets = wrong 15 25 an_assignment_in_brackets_tokens (punctuator 18 "=" ∷ digits 20 "1" 1 ∷ punctuator 21 ")" ∷ punctuator 22 ";" ∷ punctuator 24 "}" ∷ []) (omega arith) refl

-- void f() { x = 1, y = 2; }
abbrev a_comma_tokens : List Token
a_comma_tokens =
    keyword 0 "void" ∷ name (at 5 "f") ∷ punctuator 6 "(" ∷ punctuator 7 ")" ∷ punctuator 9 "{" ∷ name (at 11 "x") ∷ punctuator 13 "=" ∷ digits 15 "1" 1 ∷ punctuator 16 "," ∷
    name (at 18 "y") ∷ punctuator 20 "=" ∷ digits 22 "2" 2 ∷ punctuator 23 ";" ∷ punctuator 25 "}" ∷ []

pub a_comma : WrongAt 26 a_comma_tokens 16
unfolding type_reader unsigned_tail long_words
a_comma = wrong 15 26 a_comma_tokens (punctuator 16 "," ∷ name (at 18 "y") ∷ punctuator 20 "=" ∷ digits 22 "2" 2 ∷ punctuator 23 ";" ∷ punctuator 25 "}" ∷ []) (omega arith) refl

-- void f() { x = (a; }
abbrev an_open_bracket_tokens : List Token
an_open_bracket_tokens =
    keyword 0 "void" ∷ name (at 5 "f") ∷ punctuator 6 "(" ∷ punctuator 7 ")" ∷ punctuator 9 "{" ∷ name (at 11 "x") ∷ punctuator 13 "=" ∷ punctuator 15 "(" ∷ name (at 16 "a") ∷
    punctuator 17 ";" ∷ punctuator 19 "}" ∷ []

pub an_open_bracket : WrongAt 20 an_open_bracket_tokens 17
unfolding type_reader unsigned_tail long_words
an_open_bracket = wrong 12 20 an_open_bracket_tokens (punctuator 17 ";" ∷ punctuator 19 "}" ∷ []) (omega arith) refl

-- void f() { A[1 = 2; }
abbrev an_open_subscript_tokens : List Token
an_open_subscript_tokens =
    keyword 0 "void" ∷ name (at 5 "f") ∷ punctuator 6 "(" ∷ punctuator 7 ")" ∷ punctuator 9 "{" ∷ name (at 11 "A") ∷ punctuator 12 "[" ∷ digits 13 "1" 1 ∷ punctuator 15 "=" ∷
    digits 17 "2" 2 ∷ punctuator 18 ";" ∷ punctuator 20 "}" ∷ []

pub an_open_subscript : WrongAt 21 an_open_subscript_tokens 15
unfolding type_reader unsigned_tail long_words
an_open_subscript = wrong 13 21 an_open_subscript_tokens (punctuator 15 "=" ∷ digits 17 "2" 2 ∷ punctuator 18 ";" ∷ punctuator 20 "}" ∷ []) (omega arith) refl

-- void f() { x = a ? b; }
abbrev half_a_choice_tokens : List Token
half_a_choice_tokens =
    keyword 0 "void" ∷ name (at 5 "f") ∷ punctuator 6 "(" ∷ punctuator 7 ")" ∷ punctuator 9 "{" ∷ name (at 11 "x") ∷ punctuator 13 "=" ∷ name (at 15 "a") ∷ punctuator 17 "?" ∷
    name (at 19 "b") ∷ punctuator 20 ";" ∷ punctuator 22 "}" ∷ []

pub half_a_choice : WrongAt 23 half_a_choice_tokens 20
unfolding type_reader unsigned_tail long_words
half_a_choice = wrong 13 23 half_a_choice_tokens (punctuator 20 ";" ∷ punctuator 22 "}" ∷ []) (omega arith) refl

-- void f() { x = a++; }
abbrev up_in_an_expression_tokens : List Token
up_in_an_expression_tokens =
    keyword 0 "void" ∷ name (at 5 "f") ∷ punctuator 6 "(" ∷ punctuator 7 ")" ∷ punctuator 9 "{" ∷ name (at 11 "x") ∷ punctuator 13 "=" ∷ name (at 15 "a") ∷ punctuator 16 "++" ∷
    punctuator 18 ";" ∷ punctuator 20 "}" ∷ []

pub up_in_an_expression : WrongAt 21 up_in_an_expression_tokens 16
unfolding type_reader unsigned_tail long_words
up_in_an_expression = wrong 12 21 up_in_an_expression_tokens (punctuator 16 "++" ∷ punctuator 18 ";" ∷ punctuator 20 "}" ∷ []) (omega arith) refl

-- void f() { ++x++; }
abbrev up_on_both_sides_tokens : List Token
up_on_both_sides_tokens =
    keyword 0 "void" ∷ name (at 5 "f") ∷ punctuator 6 "(" ∷ punctuator 7 ")" ∷ punctuator 9 "{" ∷ punctuator 11 "++" ∷ name (at 13 "x") ∷ punctuator 14 "++" ∷ punctuator 16 ";" ∷
    punctuator 18 "}" ∷ []

pub up_on_both_sides : WrongAt 19 up_on_both_sides_tokens 14
unfolding type_reader unsigned_tail long_words
up_on_both_sides = wrong 11 19 up_on_both_sides_tokens (punctuator 14 "++" ∷ punctuator 16 ";" ∷ punctuator 18 "}" ∷ []) (omega arith) refl

-- void f() { x = (long) a; }
abbrev a_cast_to_long_tokens : List Token
a_cast_to_long_tokens =
    keyword 0 "void" ∷ name (at 5 "f") ∷ punctuator 6 "(" ∷ punctuator 7 ")" ∷ punctuator 9 "{" ∷ name (at 11 "x") ∷ punctuator 13 "=" ∷ punctuator 15 "(" ∷ keyword 16 "long" ∷
    punctuator 20 ")" ∷ name (at 22 "a") ∷ punctuator 23 ";" ∷ punctuator 25 "}" ∷ []

pub a_cast_to_long : WrongAt 26 a_cast_to_long_tokens 20
unfolding type_reader unsigned_tail long_words
a_cast_to_long = wrong 14 26 a_cast_to_long_tokens (punctuator 20 ")" ∷ name (at 22 "a") ∷ punctuator 23 ";" ∷ punctuator 25 "}" ∷ []) (omega arith) refl

-- void f() { x = 1 }
abbrev no_semicolon_tokens : List Token
no_semicolon_tokens =
    keyword 0 "void" ∷ name (at 5 "f") ∷ punctuator 6 "(" ∷ punctuator 7 ")" ∷ punctuator 9 "{" ∷ name (at 11 "x") ∷ punctuator 13 "=" ∷ digits 15 "1" 1 ∷ punctuator 17 "}" ∷ []

pub no_semicolon : WrongAt 18 no_semicolon_tokens 17
unfolding type_reader unsigned_tail long_words
no_semicolon = wrong 10 18 no_semicolon_tokens (punctuator 17 "}" ∷ []) (omega arith) refl

-- void f() { while (1) ; }
abbrev a_while_tokens : List Token
a_while_tokens =
    keyword 0 "void" ∷ name (at 5 "f") ∷ punctuator 6 "(" ∷ punctuator 7 ")" ∷ punctuator 9 "{" ∷ keyword 11 "while" ∷ punctuator 17 "(" ∷ digits 18 "1" 1 ∷ punctuator 19 ")" ∷
    punctuator 21 ";" ∷ punctuator 23 "}" ∷ []

pub a_while : WrongAt 24 a_while_tokens 11
unfolding type_reader unsigned_tail long_words
a_while = wrong 12 24 a_while_tokens (keyword 11 "while" ∷ punctuator 17 "(" ∷ digits 18 "1" 1 ∷ punctuator 19 ")" ∷ punctuator 21 ";" ∷ punctuator 23 "}" ∷ []) (omega arith) refl

-- void f() { return; }
abbrev a_return_tokens : List Token
a_return_tokens =
    keyword 0 "void" ∷ name (at 5 "f") ∷ punctuator 6 "(" ∷ punctuator 7 ")" ∷ punctuator 9 "{" ∷ keyword 11 "return" ∷ punctuator 17 ";" ∷ punctuator 19 "}" ∷ []

pub a_return : WrongAt 20 a_return_tokens 11
unfolding type_reader unsigned_tail long_words
a_return = wrong 9 20 a_return_tokens (keyword 11 "return" ∷ punctuator 17 ";" ∷ punctuator 19 "}" ∷ []) (omega arith) refl

-- void f() { for (i = 0; i != n; i++) ; }
abbrev an_unequal_test_tokens : List Token
an_unequal_test_tokens =
    keyword 0 "void" ∷ name (at 5 "f") ∷ punctuator 6 "(" ∷ punctuator 7 ")" ∷ punctuator 9 "{" ∷ keyword 11 "for" ∷ punctuator 15 "(" ∷ name (at 16 "i") ∷ punctuator 18 "=" ∷
    digits 20 "0" 0 ∷ punctuator 21 ";" ∷ name (at 23 "i") ∷ punctuator 25 "!=" ∷ name (at 28 "n") ∷ punctuator 29 ";" ∷ name (at 31 "i") ∷ punctuator 32 "++" ∷ punctuator 34 ")" ∷
    punctuator 36 ";" ∷ punctuator 38 "}" ∷ []

pub an_unequal_test : WrongAt 39 an_unequal_test_tokens 25
unfolding type_reader unsigned_tail long_words
an_unequal_test = wrong 21 39 an_unequal_test_tokens (punctuator 25 "!=" ∷ name (at 28 "n") ∷ punctuator 29 ";" ∷ name (at 31 "i") ∷ punctuator 32 "++" ∷ punctuator 34 ")" ∷ punctuator 36 ";" ∷ punctuator 38 "}" ∷ []) (omega arith) refl

-- void f() { for (int i = 0, j = 0; i < n; i++) ; }
abbrev two_iterators_tokens : List Token
two_iterators_tokens =
    keyword 0 "void" ∷ name (at 5 "f") ∷ punctuator 6 "(" ∷ punctuator 7 ")" ∷ punctuator 9 "{" ∷ keyword 11 "for" ∷ punctuator 15 "(" ∷ keyword 16 "int" ∷ name (at 20 "i") ∷
    punctuator 22 "=" ∷ digits 24 "0" 0 ∷ punctuator 25 "," ∷ name (at 27 "j") ∷ punctuator 29 "=" ∷ digits 31 "0" 0 ∷ punctuator 32 ";" ∷ name (at 34 "i") ∷ punctuator 36 "<" ∷
    name (at 38 "n") ∷ punctuator 39 ";" ∷ name (at 41 "i") ∷ punctuator 42 "++" ∷ punctuator 44 ")" ∷ punctuator 46 ";" ∷ punctuator 48 "}" ∷ []

pub two_iterators : WrongAt 49 two_iterators_tokens 25
unfolding type_reader unsigned_tail long_words
two_iterators = wrong 26 49 two_iterators_tokens (punctuator 25 "," ∷ name (at 27 "j") ∷ punctuator 29 "=" ∷ digits 31 "0" 0 ∷ punctuator 32 ";" ∷ name (at 34 "i") ∷ punctuator 36 "<" ∷ name (at 38 "n") ∷ punctuator 39 ";" ∷
    name (at 41 "i") ∷ punctuator 42 "++" ∷ punctuator 44 ")" ∷ punctuator 46 ";" ∷ punctuator 48 "}" ∷ []) (omega arith) refl

-- void f() { for (unsigned i = 0; i < n; i++) ; }
abbrev an_unsigned_iterator_tokens : List Token
an_unsigned_iterator_tokens =
    keyword 0 "void" ∷ name (at 5 "f") ∷ punctuator 6 "(" ∷ punctuator 7 ")" ∷ punctuator 9 "{" ∷ keyword 11 "for" ∷ punctuator 15 "(" ∷ keyword 16 "unsigned" ∷ name (at 25 "i") ∷
    punctuator 27 "=" ∷ digits 29 "0" 0 ∷ punctuator 30 ";" ∷ name (at 32 "i") ∷ punctuator 34 "<" ∷ name (at 36 "n") ∷ punctuator 37 ";" ∷ name (at 39 "i") ∷ punctuator 40 "++" ∷
    punctuator 42 ")" ∷ punctuator 44 ";" ∷ punctuator 46 "}" ∷ []

pub an_unsigned_iterator : WrongAt 47 an_unsigned_iterator_tokens 16
unfolding type_reader unsigned_tail long_words
an_unsigned_iterator = wrong 22 47 an_unsigned_iterator_tokens (keyword 16 "unsigned" ∷ name (at 25 "i") ∷ punctuator 27 "=" ∷ digits 29 "0" 0 ∷ punctuator 30 ";" ∷ name (at 32 "i") ∷ punctuator 34 "<" ∷ name (at 36 "n") ∷ punctuator 37 ";" ∷
    name (at 39 "i") ∷ punctuator 40 "++" ∷ punctuator 42 ")" ∷ punctuator 44 ";" ∷ punctuator 46 "}" ∷ []) (omega arith) refl

-- void f() { for (i = 0; i < n; ) ; }
abbrev no_step_tokens : List Token
no_step_tokens =
    keyword 0 "void" ∷ name (at 5 "f") ∷ punctuator 6 "(" ∷ punctuator 7 ")" ∷ punctuator 9 "{" ∷ keyword 11 "for" ∷ punctuator 15 "(" ∷ name (at 16 "i") ∷ punctuator 18 "=" ∷
    digits 20 "0" 0 ∷ punctuator 21 ";" ∷ name (at 23 "i") ∷ punctuator 25 "<" ∷ name (at 27 "n") ∷ punctuator 28 ";" ∷ punctuator 30 ")" ∷ punctuator 32 ";" ∷ punctuator 34 "}" ∷ []

pub no_step : WrongAt 35 no_step_tokens 30
unfolding type_reader unsigned_tail long_words
no_step = wrong 19 35 no_step_tokens (punctuator 30 ")" ∷ punctuator 32 ";" ∷ punctuator 34 "}" ∷ []) (omega arith) refl

-- void f() { for (i = 0; i < n; i = i * 2) ; }
abbrev a_product_step_tokens : List Token
a_product_step_tokens =
    keyword 0 "void" ∷ name (at 5 "f") ∷ punctuator 6 "(" ∷ punctuator 7 ")" ∷ punctuator 9 "{" ∷ keyword 11 "for" ∷ punctuator 15 "(" ∷ name (at 16 "i") ∷ punctuator 18 "=" ∷
    digits 20 "0" 0 ∷ punctuator 21 ";" ∷ name (at 23 "i") ∷ punctuator 25 "<" ∷ name (at 27 "n") ∷ punctuator 28 ";" ∷ name (at 30 "i") ∷ punctuator 32 "=" ∷ name (at 34 "i") ∷
    punctuator 36 "*" ∷ digits 38 "2" 2 ∷ punctuator 39 ")" ∷ punctuator 41 ";" ∷ punctuator 43 "}" ∷ []

pub a_product_step : WrongAt 44 a_product_step_tokens 36
unfolding type_reader unsigned_tail long_words
a_product_step = wrong 24 44 a_product_step_tokens (punctuator 36 "*" ∷ digits 38 "2" 2 ∷ punctuator 39 ")" ∷ punctuator 41 ";" ∷ punctuator 43 "}" ∷ []) (omega arith) refl

-- void f() { for (i = 0; i < n; i = i + 2 + 3) ; }
abbrev a_sum_in_a_step_tokens : List Token
a_sum_in_a_step_tokens =
    keyword 0 "void" ∷ name (at 5 "f") ∷ punctuator 6 "(" ∷ punctuator 7 ")" ∷ punctuator 9 "{" ∷ keyword 11 "for" ∷ punctuator 15 "(" ∷ name (at 16 "i") ∷ punctuator 18 "=" ∷
    digits 20 "0" 0 ∷ punctuator 21 ";" ∷ name (at 23 "i") ∷ punctuator 25 "<" ∷ name (at 27 "n") ∷ punctuator 28 ";" ∷ name (at 30 "i") ∷ punctuator 32 "=" ∷ name (at 34 "i") ∷
    punctuator 36 "+" ∷ digits 38 "2" 2 ∷ punctuator 40 "+" ∷ digits 42 "3" 3 ∷ punctuator 43 ")" ∷ punctuator 45 ";" ∷ punctuator 47 "}" ∷ []

pub a_sum_in_a_step : WrongAt 48 a_sum_in_a_step_tokens 40
unfolding type_reader unsigned_tail long_words
a_sum_in_a_step = wrong 26 48 a_sum_in_a_step_tokens (punctuator 40 "+" ∷ digits 42 "3" 3 ∷ punctuator 43 ")" ∷ punctuator 45 ";" ∷ punctuator 47 "}" ∷ []) (omega arith) refl

-- void f() { for (i = 0; i < n; i = 2 + i) ; }
abbrev a_turned_step_tokens : List Token
a_turned_step_tokens =
    keyword 0 "void" ∷ name (at 5 "f") ∷ punctuator 6 "(" ∷ punctuator 7 ")" ∷ punctuator 9 "{" ∷ keyword 11 "for" ∷ punctuator 15 "(" ∷ name (at 16 "i") ∷ punctuator 18 "=" ∷
    digits 20 "0" 0 ∷ punctuator 21 ";" ∷ name (at 23 "i") ∷ punctuator 25 "<" ∷ name (at 27 "n") ∷ punctuator 28 ";" ∷ name (at 30 "i") ∷ punctuator 32 "=" ∷ digits 34 "2" 2 ∷
    punctuator 36 "+" ∷ name (at 38 "i") ∷ punctuator 39 ")" ∷ punctuator 41 ";" ∷ punctuator 43 "}" ∷ []

pub a_turned_step : WrongAt 44 a_turned_step_tokens 34
unfolding type_reader unsigned_tail long_words
a_turned_step = wrong 24 44 a_turned_step_tokens (digits 34 "2" 2 ∷ punctuator 36 "+" ∷ name (at 38 "i") ∷ punctuator 39 ")" ∷ punctuator 41 ";" ∷ punctuator 43 "}" ∷ []) (omega arith) refl

-- void f() { for (A[0] = 0; i < n; i++) ; }
abbrev a_subscript_as_iterator_tokens : List Token
a_subscript_as_iterator_tokens =
    keyword 0 "void" ∷ name (at 5 "f") ∷ punctuator 6 "(" ∷ punctuator 7 ")" ∷ punctuator 9 "{" ∷ keyword 11 "for" ∷ punctuator 15 "(" ∷ name (at 16 "A") ∷ punctuator 17 "[" ∷
    digits 18 "0" 0 ∷ punctuator 19 "]" ∷ punctuator 21 "=" ∷ digits 23 "0" 0 ∷ punctuator 24 ";" ∷ name (at 26 "i") ∷ punctuator 28 "<" ∷ name (at 30 "n") ∷ punctuator 31 ";" ∷
    name (at 33 "i") ∷ punctuator 34 "++" ∷ punctuator 36 ")" ∷ punctuator 38 ";" ∷ punctuator 40 "}" ∷ []

pub a_subscript_as_iterator : WrongAt 41 a_subscript_as_iterator_tokens 17
unfolding type_reader unsigned_tail long_words
a_subscript_as_iterator = wrong 24 41 a_subscript_as_iterator_tokens (punctuator 17 "[" ∷ digits 18 "0" 0 ∷ punctuator 19 "]" ∷ punctuator 21 "=" ∷ digits 23 "0" 0 ∷ punctuator 24 ";" ∷ name (at 26 "i") ∷ punctuator 28 "<" ∷ name (at 30 "n") ∷
    punctuator 31 ";" ∷ name (at 33 "i") ∷ punctuator 34 "++" ∷ punctuator 36 ")" ∷ punctuator 38 ";" ∷ punctuator 40 "}" ∷ []) (omega arith) refl

-- void f() { for (i = 0; 1 < n; i++) ; }
abbrev a_test_of_a_number_tokens : List Token
a_test_of_a_number_tokens =
    keyword 0 "void" ∷ name (at 5 "f") ∷ punctuator 6 "(" ∷ punctuator 7 ")" ∷ punctuator 9 "{" ∷ keyword 11 "for" ∷ punctuator 15 "(" ∷ name (at 16 "i") ∷ punctuator 18 "=" ∷
    digits 20 "0" 0 ∷ punctuator 21 ";" ∷ digits 23 "1" 1 ∷ punctuator 25 "<" ∷ name (at 27 "n") ∷ punctuator 28 ";" ∷ name (at 30 "i") ∷ punctuator 31 "++" ∷ punctuator 33 ")" ∷
    punctuator 35 ";" ∷ punctuator 37 "}" ∷ []

pub a_test_of_a_number : WrongAt 38 a_test_of_a_number_tokens 23
unfolding type_reader unsigned_tail long_words
a_test_of_a_number = wrong 21 38 a_test_of_a_number_tokens (digits 23 "1" 1 ∷ punctuator 25 "<" ∷ name (at 27 "n") ∷ punctuator 28 ";" ∷ name (at 30 "i") ∷ punctuator 31 "++" ∷ punctuator 33 ")" ∷ punctuator 35 ";" ∷ punctuator 37 "}" ∷ []) (omega arith) refl

-- void f() { ⏎ #pragma species t ⏎ x = 1; }
abbrev a_line_before_an_assignment_tokens : List Token
a_line_before_an_assignment_tokens =
    keyword 0 "void" ∷ name (at 5 "f") ∷ punctuator 6 "(" ∷ punctuator 7 ")" ∷ punctuator 9 "{" ∷ species (at 11 "t") ∷ name (at 29 "x") ∷ punctuator 31 "=" ∷ digits 33 "1" 1 ∷
    punctuator 34 ";" ∷ punctuator 36 "}" ∷ []

pub a_line_before_an_assignment : WrongAt 37 a_line_before_an_assignment_tokens 29
unfolding type_reader unsigned_tail long_words
a_line_before_an_assignment = wrong 12 37 a_line_before_an_assignment_tokens (name (at 29 "x") ∷ punctuator 31 "=" ∷ digits 33 "1" 1 ∷ punctuator 34 ";" ∷ punctuator 36 "}" ∷ []) (omega arith) refl

-- void f() { ⏎ #pragma species t ⏎ }
abbrev a_line_at_the_end_of_a_block_tokens : List Token
a_line_at_the_end_of_a_block_tokens =
    keyword 0 "void" ∷ name (at 5 "f") ∷ punctuator 6 "(" ∷ punctuator 7 ")" ∷ punctuator 9 "{" ∷ species (at 11 "t") ∷ punctuator 29 "}" ∷ []

pub a_line_at_the_end_of_a_block : WrongAt 30 a_line_at_the_end_of_a_block_tokens 29
unfolding type_reader unsigned_tail long_words
a_line_at_the_end_of_a_block = wrong 8 30 a_line_at_the_end_of_a_block_tokens (punctuator 29 "}" ∷ []) (omega arith) refl

-- void f() { ⏎ #pragma species t ⏎ #pragma species t ⏎ for (i = 0; i < n; i++) ; }
abbrev two_lines_tokens : List Token
two_lines_tokens =
    keyword 0 "void" ∷ name (at 5 "f") ∷ punctuator 6 "(" ∷ punctuator 7 ")" ∷ punctuator 9 "{" ∷ species (at 11 "t") ∷ species (at 29 "t") ∷ keyword 47 "for" ∷ punctuator 51 "(" ∷
    name (at 52 "i") ∷ punctuator 54 "=" ∷ digits 56 "0" 0 ∷ punctuator 57 ";" ∷ name (at 59 "i") ∷ punctuator 61 "<" ∷ name (at 63 "n") ∷ punctuator 64 ";" ∷ name (at 66 "i") ∷
    punctuator 67 "++" ∷ punctuator 69 ")" ∷ punctuator 71 ";" ∷ punctuator 73 "}" ∷ []

pub two_lines : WrongAt 74 two_lines_tokens 29
unfolding type_reader unsigned_tail long_words
two_lines = wrong 23 74 two_lines_tokens (species (at 29 "t") ∷ keyword 47 "for" ∷ punctuator 51 "(" ∷ name (at 52 "i") ∷ punctuator 54 "=" ∷ digits 56 "0" 0 ∷ punctuator 57 ";" ∷ name (at 59 "i") ∷ punctuator 61 "<" ∷
    name (at 63 "n") ∷ punctuator 64 ";" ∷ name (at 66 "i") ∷ punctuator 67 "++" ∷ punctuator 69 ")" ∷ punctuator 71 ";" ∷ punctuator 73 "}" ∷ []) (omega arith) refl

-- void f() { ⏎ #pragma omp parallel for ⏎ #pragma species t ⏎ for (i = 0; i < n; i++) ; }
abbrev parallel_before_species_tokens : List Token
parallel_before_species_tokens =
    keyword 0 "void" ∷ name (at 5 "f") ∷ punctuator 6 "(" ∷ punctuator 7 ")" ∷ punctuator 9 "{" ∷ parallel (at 11 "") 1 schedule.Static ∷ species (at 36 "t") ∷ keyword 54 "for" ∷
    punctuator 58 "(" ∷ name (at 59 "i") ∷ punctuator 61 "=" ∷ digits 63 "0" 0 ∷ punctuator 64 ";" ∷ name (at 66 "i") ∷ punctuator 68 "<" ∷ name (at 70 "n") ∷ punctuator 71 ";" ∷
    name (at 73 "i") ∷ punctuator 74 "++" ∷ punctuator 76 ")" ∷ punctuator 78 ";" ∷ punctuator 80 "}" ∷ []

pub parallel_before_species : WrongAt 81 parallel_before_species_tokens 36
unfolding type_reader unsigned_tail long_words
parallel_before_species = wrong 23 81 parallel_before_species_tokens (species (at 36 "t") ∷ keyword 54 "for" ∷ punctuator 58 "(" ∷ name (at 59 "i") ∷ punctuator 61 "=" ∷ digits 63 "0" 0 ∷ punctuator 64 ";" ∷ name (at 66 "i") ∷ punctuator 68 "<" ∷
    name (at 70 "n") ∷ punctuator 71 ";" ∷ name (at 73 "i") ∷ punctuator 74 "++" ∷ punctuator 76 ")" ∷ punctuator 78 ";" ∷ punctuator 80 "}" ∷ []) (omega arith) refl

-- void f() { ⏎ #pragma species t ⏎ { } }
abbrev a_line_before_a_block_tokens : List Token
a_line_before_a_block_tokens =
    keyword 0 "void" ∷ name (at 5 "f") ∷ punctuator 6 "(" ∷ punctuator 7 ")" ∷ punctuator 9 "{" ∷ species (at 11 "t") ∷ punctuator 29 "{" ∷ punctuator 31 "}" ∷ punctuator 33 "}" ∷ []

pub a_line_before_a_block : WrongAt 34 a_line_before_a_block_tokens 29
unfolding type_reader unsigned_tail long_words
a_line_before_a_block = wrong 10 34 a_line_before_a_block_tokens (punctuator 29 "{" ∷ punctuator 31 "}" ∷ punctuator 33 "}" ∷ []) (omega arith) refl

-- #pragma species t ⏎ void f() { }
abbrev a_line_before_the_function_tokens : List Token
a_line_before_the_function_tokens =
    species (at 0 "t") ∷ keyword 18 "void" ∷ name (at 23 "f") ∷ punctuator 24 "(" ∷ punctuator 25 ")" ∷ punctuator 27 "{" ∷ punctuator 29 "}" ∷ []

pub a_line_before_the_function : WrongAt 30 a_line_before_the_function_tokens 0
unfolding type_reader unsigned_tail long_words
a_line_before_the_function = wrong 8 30 a_line_before_the_function_tokens (species (at 0 "t") ∷ keyword 18 "void" ∷ name (at 23 "f") ∷ punctuator 24 "(" ∷ punctuator 25 ")" ∷ punctuator 27 "{" ∷ punctuator 29 "}" ∷ []) (omega arith) refl

-- void f() { x = 1 + ⏎ #pragma species t ⏎ 2; }
abbrev a_line_in_an_expression_tokens : List Token
a_line_in_an_expression_tokens =
    keyword 0 "void" ∷ name (at 5 "f") ∷ punctuator 6 "(" ∷ punctuator 7 ")" ∷ punctuator 9 "{" ∷ name (at 11 "x") ∷ punctuator 13 "=" ∷ digits 15 "1" 1 ∷ punctuator 17 "+" ∷
    species (at 19 "t") ∷ digits 37 "2" 2 ∷ punctuator 38 ";" ∷ punctuator 40 "}" ∷ []

pub a_line_in_an_expression : WrongAt 41 a_line_in_an_expression_tokens 19
unfolding type_reader unsigned_tail long_words
a_line_in_an_expression = wrong 14 41 a_line_in_an_expression_tokens (species (at 19 "t") ∷ digits 37 "2" 2 ∷ punctuator 38 ";" ∷ punctuator 40 "}" ∷ []) (omega arith) refl

-- void f() { ⏎ #pragma omp atomic update ⏎ x = 1; }
abbrev atomic_before_a_plain_set_tokens : List Token
atomic_before_a_plain_set_tokens =
    keyword 0 "void" ∷ name (at 5 "f") ∷ punctuator 6 "(" ∷ punctuator 7 ")" ∷ punctuator 9 "{" ∷ atomic (at 11 "") ∷ name (at 37 "x") ∷ punctuator 39 "=" ∷ digits 41 "1" 1 ∷
    punctuator 42 ";" ∷ punctuator 44 "}" ∷ []

pub atomic_before_a_plain_set : WrongAt 45 atomic_before_a_plain_set_tokens 39
unfolding type_reader unsigned_tail long_words
atomic_before_a_plain_set = wrong 12 45 atomic_before_a_plain_set_tokens (punctuator 39 "=" ∷ digits 41 "1" 1 ∷ punctuator 42 ";" ∷ punctuator 44 "}" ∷ []) (omega arith) refl

-- void f() { ⏎ #pragma omp atomic update ⏎ x++; }
abbrev atomic_before_up_tokens : List Token
atomic_before_up_tokens =
    keyword 0 "void" ∷ name (at 5 "f") ∷ punctuator 6 "(" ∷ punctuator 7 ")" ∷ punctuator 9 "{" ∷ atomic (at 11 "") ∷ name (at 37 "x") ∷ punctuator 38 "++" ∷ punctuator 40 ";" ∷
    punctuator 42 "}" ∷ []

pub atomic_before_up : WrongAt 43 atomic_before_up_tokens 38
unfolding type_reader unsigned_tail long_words
atomic_before_up = wrong 11 43 atomic_before_up_tokens (punctuator 38 "++" ∷ punctuator 40 ";" ∷ punctuator 42 "}" ∷ []) (omega arith) refl

-- void f() { ⏎ #pragma omp atomic update ⏎ for (i = 0; i < n; i++) ; }
abbrev atomic_before_a_loop_tokens : List Token
atomic_before_a_loop_tokens =
    keyword 0 "void" ∷ name (at 5 "f") ∷ punctuator 6 "(" ∷ punctuator 7 ")" ∷ punctuator 9 "{" ∷ atomic (at 11 "") ∷ keyword 37 "for" ∷ punctuator 41 "(" ∷ name (at 42 "i") ∷
    punctuator 44 "=" ∷ digits 46 "0" 0 ∷ punctuator 47 ";" ∷ name (at 49 "i") ∷ punctuator 51 "<" ∷ name (at 53 "n") ∷ punctuator 54 ";" ∷ name (at 56 "i") ∷ punctuator 57 "++" ∷
    punctuator 59 ")" ∷ punctuator 61 ";" ∷ punctuator 63 "}" ∷ []

pub atomic_before_a_loop : WrongAt 64 atomic_before_a_loop_tokens 37
unfolding type_reader unsigned_tail long_words
atomic_before_a_loop = wrong 22 64 atomic_before_a_loop_tokens (keyword 37 "for" ∷ punctuator 41 "(" ∷ name (at 42 "i") ∷ punctuator 44 "=" ∷ digits 46 "0" 0 ∷ punctuator 47 ";" ∷ name (at 49 "i") ∷ punctuator 51 "<" ∷ name (at 53 "n") ∷
    punctuator 54 ";" ∷ name (at 56 "i") ∷ punctuator 57 "++" ∷ punctuator 59 ")" ∷ punctuator 61 ";" ∷ punctuator 63 "}" ∷ []) (omega arith) refl

-- void f() { ⏎ #pragma omp atomic update ⏎ int x; }
abbrev atomic_before_a_declaration_tokens : List Token
atomic_before_a_declaration_tokens =
    keyword 0 "void" ∷ name (at 5 "f") ∷ punctuator 6 "(" ∷ punctuator 7 ")" ∷ punctuator 9 "{" ∷ atomic (at 11 "") ∷ keyword 37 "int" ∷ name (at 41 "x") ∷ punctuator 42 ";" ∷
    punctuator 44 "}" ∷ []

pub atomic_before_a_declaration : WrongAt 45 atomic_before_a_declaration_tokens 37
unfolding type_reader unsigned_tail long_words
atomic_before_a_declaration = wrong 11 45 atomic_before_a_declaration_tokens (keyword 37 "int" ∷ name (at 41 "x") ∷ punctuator 42 ";" ∷ punctuator 44 "}" ∷ []) (omega arith) refl

-- void f() { ⏎ #include <a> ⏎ }
abbrev an_include_in_a_block_tokens : List Token
an_include_in_a_block_tokens =
    keyword 0 "void" ∷ name (at 5 "f") ∷ punctuator 6 "(" ∷ punctuator 7 ")" ∷ punctuator 9 "{" ∷ include (at 11 "<a>") ∷ punctuator 24 "}" ∷ []

pub an_include_in_a_block : WrongAt 25 an_include_in_a_block_tokens 11
unfolding type_reader unsigned_tail long_words
an_include_in_a_block = wrong 8 25 an_include_in_a_block_tokens (include (at 11 "<a>") ∷ punctuator 24 "}" ∷ []) (omega arith) refl
