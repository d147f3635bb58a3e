-- Units whose names mean what they should: at each place where a name is printed, the scopes of the language (C17 6.2.1) give it
-- the array, the local or the iterator for which it is printed. Of numbers it is asked what reading needs: that literals, steps and
-- sizes are numbers of literals.
use Rattle.std.specs.Prelude.{◌≡◌, ℕ, suc, Bool, true, false, not, ◌&&◌, nat_eq, List, [], ◌∷◌, ◌++◌, map, length, Option, Some, None, is_some}
use Rattle.std.specs.List.{list_all, flat_map}
use Rattle.species_ast.specs.Spelling.{Spelling}
use Rattle.species_ast.specs.Marks.{all_true}
use Rattle.species_ast.specs.declared.tree.Array.{Array}
use Rattle.species_ast.specs.declared.tree.LocalInfo.{LocalInfo}
use Rattle.species_ast.specs.declared.tree.Expr.{Expr, fold-Expr}
use Rattle.species_ast.specs.declared.tree.Expr.TheOpen.{Expr-F}
use Rattle.species_ast.specs.declared.tree.Stmt.{Stmt, fold-Stmt}
use Rattle.species_ast.specs.declared.tree.Stmt.TheOpen.{Stmt-F, Loop-F}
use Rattle.species_ast.specs.declared.tree.Unit.{Unit}
use Rattle.species_ast.specs.Scope.Meanings.{Meaning, Scope, scope_with, scope_with_local, in_loop, behind, is_among, local_number, meaning_in}
use Rattle.species_ast.specs.Scope.Programs.{first_scope}
use Rattle.species_print.specs.Expressions.{array_name, local_name, iter_name}
use Rattle.species_print.specs.Statements.{local_kind}
use Rattle.species_readback.specs.Spelt.{is_literal, is_int_number, is_int_step}

-- ---- what a name means

abbrev pub means_array : ℕ → Option Meaning → Bool
means_array array (Some (Meaning.Array n dimensions)) = nat_eq n array
means_array array _ = false

abbrev pub means_local : Scope → ℕ → Option Meaning → Bool
means_local s n (Some (Meaning.Variable x)) = nat_eq (local_number s x.serial) n
means_local s n _ = false

abbrev pub means_iterator : ℕ → Option Meaning → Bool
means_iterator level (Some (Meaning.Iterator n)) = nat_eq n level
means_iterator level _ = false

-- ---- expressions

abbrev pub expr_meant : Unit → List (List ℕ) → Scope → Expr-F Bool → Bool
expr_meant u iters s (Expr-F.Literal v) = is_literal v
expr_meant u iters s (Expr-F.Iter level) = means_iterator level (meaning_in s.names (iter_name iters level))
expr_meant u iters s (Expr-F.Local n) = means_local s n (meaning_in s.names (local_name u n))
expr_meant u iters s (Expr-F.Elem array subs) = means_array array (meaning_in s.names (array_name u array)) && all_true subs
expr_meant u iters s (Expr-F.Unary op a) = a
expr_meant u iters s (Expr-F.Binary op a b) = a && b
expr_meant u iters s (Expr-F.And a b) = a && b
expr_meant u iters s (Expr-F.Or a b) = a && b
expr_meant u iters s (Expr-F.Cond c a b) = c && (a && b)
expr_meant u iters s (Expr-F.Cast k a) = a

-- each name of the expression means in the scope what stands in the expression; `iters` has the names of the loops around it
abbrev pub is_meant : Unit → List (List ℕ) → Scope → Expr → Bool
is_meant u iters s = fold-Expr Bool (expr_meant u iters s)

-- ---- statements

-- Of a statement: the scope behind it, the locals that it declares, and whether its names mean what they should.
pub record Meant : Type 0 where
  pub next : Scope → Scope
  pub locals : List LocalInfo
  pub holds : List (List ℕ) → Scope → Bool

abbrev pub list_next : List Meant → Scope → Scope
list_next [] s = s
list_next (m ∷ ms) s = list_next ms (m.next s)

abbrev pub list_locals : List Meant → List LocalInfo
list_locals ms = flat_map (λ m. m.locals) ms

abbrev pub list_holds : List Meant → List (List ℕ) → Scope → Bool
list_holds [] iters s = true
list_holds (m ∷ ms) iters s = m.holds iters s && list_holds ms iters (m.next s)

-- a name at no place
abbrev pub spell : List ℕ → Spelling
spell text = record { text = text; place = 0 }

-- behind the declarator of a local
abbrev pub declared : Unit → ℕ → Bool → Scope → Scope
declared u n initialised s =
    scope_with_local (spell (local_name u n)) (record { serial = s.serials; kind = local_kind u n; initialised = initialised }) s

abbrev pub init_meant : Unit → List (List ℕ) → Scope → Option Expr → Bool
init_meant u iters s None = true
init_meant u iters s (Some e) = is_meant u iters s e

-- a statement that declares nothing
abbrev pub simple : (List (List ℕ) → Scope → Bool) → Meant
simple holds = record { next = λ s. s; locals = []; holds = holds }

abbrev pub element_meant : Unit → ℕ → List Expr → Expr → List (List ℕ) → Scope → Bool
element_meant u array subs value iters s =
    means_array array (meaning_in s.names (array_name u array)) && (list_all (is_meant u iters s) subs && is_meant u iters s value)

-- locals have their numbers in the order of their declarations
abbrev pub stmt_meant : Unit → Stmt-F Meant Meant → Meant
stmt_meant u (Stmt-F.Assign place array subs value) = simple (element_meant u array subs value)
stmt_meant u (Stmt-F.AddTo place array subs value atomic) = simple (element_meant u array subs value)
stmt_meant u (Stmt-F.Declare place n init) = record {
  next = declared u n (is_some init);
  locals = record { name = local_name u n; kind = local_kind u n } ∷ [];
  holds = λ iters s.
      not (is_among s.iterators s.serials)
      && (nat_eq (local_number s s.serials) n && init_meant u iters (declared u n (is_some init) s) init);
}
stmt_meant u (Stmt-F.SetLocal place n value) =
    simple (λ iters s. means_local s n (meaning_in s.names (local_name u n)) && is_meant u iters s value)
stmt_meant u (Stmt-F.If place test body otherwise) = record {
  next = λ s. let between = behind s (list_next body s) in behind between (list_next otherwise between);
  locals = list_locals body ++ list_locals otherwise;
  holds = λ iters s.
      is_meant u iters s test && (list_holds body iters s && list_holds otherwise iters (behind s (list_next body s)));
}
stmt_meant u (Stmt-F.For l) = l
stmt_meant u (Stmt-F.Block body) = record {
  next = λ s. behind s (list_next body s);
  locals = list_locals body;
  holds = list_holds body;
}

abbrev pub inner_scope : {X Y : Type 0} → Loop-F X Y → Scope → Scope
inner_scope l s = in_loop (spell l.iter) s

abbrev pub loop_meant : Unit → Loop-F Meant Meant → Meant
loop_meant u l = record {
  next = λ s. behind s (list_next l.body (inner_scope l s));
  locals = list_locals l.body;
  holds = λ iters s.
      let inner = iters ++ l.iter ∷ [] in
      is_meant u iters s l.start
      && (is_meant u inner (inner_scope l s) l.limit && (is_int_step l.step && list_holds l.body inner (inner_scope l s)));
}

abbrev pub meant : Unit → Stmt → Meant
meant u = fold-Stmt Meant Meant (stmt_meant u) (loop_meant u)

-- ---- units

-- the scope behind the arrays, of which the first has the number n
abbrev pub arrays_scope : ℕ → List Array → Scope → Scope
arrays_scope n [] s = s
arrays_scope n (a ∷ rest) s = arrays_scope (suc n) rest (scope_with (spell a.name) (Meaning.Array n (length a.dims)) s)

abbrev pub is_some_size : List ℕ → Bool
is_some_size [] = false
is_some_size (n ∷ ns) = true

-- an array has at least one size, and each is that of a literal
abbrev pub has_sizes : Array → Bool
has_sizes a = is_some_size a.dims && list_all is_int_number a.dims

-- the scope of the function's body
abbrev pub body_scope : Unit → Scope
body_scope u = scope_with (spell u.function) Meaning.Function (arrays_scope 0 u.arrays (first_scope []))

-- Each name in the unit means what it should, and the locals that it declares are its locals, in this order.
pub record IsMeant (u : Unit) : Type 0 where
  pub arrays : list_all has_sizes u.arrays ≡ true
  pub body : list_holds (map (meant u) u.body) [] (body_scope u) ≡ true
  pub locals : list_locals (map (meant u) u.body) ≡ u.locals
