-- The tokens of a printed expression derive a raw expression that becomes it.
use Rattle.std.proofs.Common.{◌≡◌, ◌∙◌, ap, sym, refl, subst, ℕ, zero, suc, ◌+◌, ◌<◌, ◌≤◌, Bool, true, false, List, [], ◌∷◌, ◌++◌, map, length, Option, Some, None, arith, append_assoc, length-append, ◌⊎◌, inl, inr, pos, negsuc}
use Rattle.std.proofs.lemmas.Bool.{le-ltb, ltb-false, eqb-true, and_parts, and_from, cases_lt}
use Rattle.std.specs.Prelude.{◌||◌, ◌&&◌, nat_lt, if◌then◌else◌, codes, decimal, is_none}
use Rattle.std.specs.List.{flat_map, list_all}
use Rattle.species_ast.specs.Token.{Token}
use Rattle.species_ast.specs.Spelling.{Spelling}
use Rattle.species_ast.specs.Marks.{all_true}
use Rattle.species_ast.specs.declared.tree.Binary.{Binary}
use Rattle.species_ast.specs.declared.tree.Binary.TheVariants as binary
use Rattle.species_ast.specs.declared.tree.Unary.{Unary}
use Rattle.species_ast.specs.declared.tree.Unary.TheVariants as unary
use Rattle.species_ast.specs.declared.tree.Kind.{Kind}
use Rattle.species_ast.specs.declared.tree.Kind.TheVariants as of_kind
use Rattle.species_ast.specs.declared.tree.Value.{Value}
use Rattle.species_ast.specs.declared.tree.Value.TheVariants as value
use Rattle.species_ast.specs.declared.tree.Unit.{Unit}
use Rattle.species_ast.specs.declared.tree.Expr.{Expr}
use Rattle.species_ast.specs.declared.tree.Expr.TheOpen.{Expr-F}
use Rattle.species_ast.specs.declared.tree.Expr.TheVariants as expr
use Rattle.species_ast.specs.declared.token.TokenKind.TheVariants as kind
use Rattle.species_ast.specs.declared.raw.RawUnary.TheVariants as raw_unary
use Rattle.species_ast.specs.declared.raw.RawExpr.{RawExpr}
use Rattle.species_ast.specs.declared.raw.RawTerm.TheVariants as term
use Rattle.species_ast.specs.Grammar.Expressions.{Expression, Subscripts, TypeSpecifier, Operation, expression, place_of, target}
use Rattle.species_ast.specs.Scope.Meanings.{Meaning, Scope, meaning_in, local_number, Occurrence}
use Rattle.species_ast.specs.Scope.Programs.{local_in}
use Rattle.species_ast.specs.Scope.Expressions.{reading, exprs_of, names_of, taken, two_parts, value_of}
use Rattle.species_ast.proofs.ScopeLaws.{reading-Number, reading-Target, reading-Paren, reading-Unary, reading-Cast, reading-Binary, reading-And, reading-Or, reading-Cond, readings, target_with, target_in-target}
use Rattle.species_ast.proofs.Folds.{fold_expr-Literal, fold_expr-Iter, fold_expr-Local, fold_expr-Elem, fold_expr-Unary, fold_expr-Binary, fold_expr-And, fold_expr-Or, fold_expr-Cond, fold_expr-Cast}
use Rattle.species_ast.proofs.Induction.{Each, ExprCases, expr_ind}
use Rattle.species_print.specs.Printed.{Printed, Lexeme, Blank, spelling, text_of, tokens_from, spaced, punctuator, name}
use Rattle.species_print.specs.Expressions.{expr_printed, kind_words, is_minus, at_least, behind_unary, bracketed, subscript, level_at, level_of, is_negation, literal_printed, array_name, local_name, iter_name}
use Rattle.species_readback.proofs.ApartLemmas.{printed-Literal, printed-Iter, printed-Local, printed-Elem, printed-Unary, printed-Binary, printed-And, printed-Or, printed-Cond, printed-Cast}
use Rattle.species_readback.specs.Meant.{is_meant, expr_meant, means_local, means_array, means_iterator}
use Rattle.species_readback.specs.Spelt.{is_literal}
use Rattle.species_ast.specs.Signs.{unary_sign, binary_sign, binary_level}
use Rattle.species_ast.specs.Grammar.Words.{Optional}
use Rattle.species_readback.proofs.ListLemmas.{or_false}

-- ---- tokens of lexemes one behind the other

pub tokens_append : (place : ℕ) (a b : List Printed) → tokens_from place (a ++ b) ≡ tokens_from place a ++ tokens_from (place + length (text_of a)) b
tokens_append place [] b = ap (λ p. tokens_from p b) at
  where
    at : place ≡ place + 0
    at = omega arith
tokens_append place (Lexeme t k ∷ a) b =
    let at : (place + length (spelling t k)) + length (text_of a) ≡ place + length (spelling t k ++ text_of a) = omega (arith, length-append (spelling t k) (text_of a)) in
    let first : Token = record { place = place; text = t; kind = k } in
    ap (λ ts. first ∷ ts) (tokens_append (place + length (spelling t k)) a b ∙ ap (λ p. tokens_from (place + length (spelling t k)) a ++ tokens_from p b) at)
tokens_append place (Blank bs ∷ a) b =
    let at : (place + length bs) + length (text_of a) ≡ place + length (bs ++ text_of a) = omega (arith, length-append bs (text_of a)) in
    tokens_append (place + length bs) a b ∙ ap (λ p. tokens_from (place + length bs) a ++ tokens_from p b) at

abbrev sign_at : ℕ → List ℕ → Token
sign_at p sign = record { place = p; text = sign; kind = kind.Punct }

-- ---- names of which none is a loop's iterator that the loop does not declare

abbrev pub is_quiet : Occurrence → Bool
is_quiet o = is_none (local_in o.role o.means)

abbrev pub Quiet : List Occurrence → Type 0
Quiet names = list_all is_quiet names ≡ true

pub quiet_append : (a b : List Occurrence) → Quiet a → Quiet b → Quiet (a ++ b)
quiet_append [] b x y = y
quiet_append (o ∷ a) b x y = let k = and_parts (is_quiet o) (list_all is_quiet a) x in and_from (is_quiet o) (list_all is_quiet (a ++ b)) k.0 (quiet_append a b k.1 y)

-- ---- what is claimed of an expression and what is printed of it, at a level of the grammar

pub record Derivation (s : Scope) (n : ℕ) (e : Expr) (ts : List Token) : Type 0 where
  pub raw : RawExpr
  pub derives : Expression n raw ts
  pub becomes : (reading raw s).expr ≡ e
  pub quiet : Quiet (reading raw s).names

abbrev pub Reads : Scope → ℕ → Expr → List Printed → Type 0
Reads s n e ps = (place : ℕ) → Derivation s n e (tokens_from place ps)

lower : (m n : ℕ) (x : RawExpr) (ts : List Token) → n ≤ m → Expression m x ts → Expression n x ts
lower zero n x ts le d = subst (λ k. Expression k x ts) at d
  where
    at : 0 ≡ n
    at = omega (arith, le)
lower (suc m) n x ts le d = go (cases_lt m n) (λ more. lower m n x ts more (Expression.higher m x ts d))
  where
    go : (m < n) ⊎ (n ≤ m) → (n ≤ m → Expression n x ts) → Expression n x ts
    go (inl lt) next = let at : suc m ≡ n = omega (arith, lt, le) in subst (λ k. Expression k x ts) at d
    go (inr more) next = next more

pub lowered : (s : Scope) (m n : ℕ) (e : Expr) (ps : List Printed) → n ≤ m → Reads s m e ps → Reads s n e ps
lowered s m n e ps le h place = let d = h place in record { raw = d.raw; derives = lower m n d.raw _ le d.derives; becomes = d.becomes; quiet = d.quiet }

bracket_reads : (s : Scope) (e : Expr) (ps : List Printed) → Reads s 0 e ps → Reads s 12 e (bracketed true ps)
bracket_reads s e ps h place =
    let d = h (place + 1) in
    let q = (place + 1) + length (text_of ps) in
    let first : Token = sign_at place (codes "(") in
    record {
      raw = expression place (term.Paren d.raw);
      derives = subst (Expression 12 (expression place (term.Paren d.raw))) (ap (λ ts. first ∷ ts) (sym (tokens_append (place + 1) ps (punctuator ")" ∷ [])))) (Expression.paren place q d.raw (tokens_from (place + 1) ps) d.derives);
      becomes = ap (λ r. r.expr) (reading-Paren place d.raw s) ∙ d.becomes;
      quiet = subst (λ r. Quiet r.names) (sym (reading-Paren place d.raw s)) d.quiet;
    }

within : (s : Scope) (c : Bool) (l : ℕ) (e : Expr) (ps : List Printed) → l ≤ 12 → (c ≡ false → l ≤ level_of e) → Reads s (level_of e) e ps → Reads s l e (bracketed c ps)
within s true l e ps top le h = lowered s 12 l e (bracketed true ps) top (bracket_reads s e ps (lowered s (level_of e) 0 e ps (omega arith) h))
within s false l e ps top le h = lowered s (level_of e) l e ps (le refl) h

pub at_least_reads : (s : Scope) (l : ℕ) (e : Expr) (ps : List Printed) → l ≤ 12 → Reads s (level_of e) e ps → Reads s l e (at_least l (e, ps))
at_least_reads s l e ps top h = within s (nat_lt (level_of e) l) l e ps top (ltb-false (level_of e) l) h

behind_unary_reads : (s : Scope) (op : Unary) (e : Expr) (ps : List Printed) → Reads s (level_of e) e ps → Reads s 11 e (behind_unary op (e, ps))
behind_unary_reads s op e ps h =
    within s (nat_lt (level_of e) 11 || (is_minus op && is_negation e)) 11 e ps (omega arith)
    (λ k. ltb-false (level_of e) 11 (or_false (nat_lt (level_of e) 11) (is_minus op && is_negation e) k).0) h

-- ---- operators

strict_derives : (op : Binary) (p : ℕ) (x y : RawExpr) (xs ys : List Token) → Expression (binary_level op) x xs → Expression (binary_level op + 1) y ys
    → Expression (binary_level op) (expression (place_of x) (term.Binary op x y)) (xs ++ (sign_at p (binary_sign op) ∷ ys))
strict_derives binary.Mul p x y xs ys d e = Expression.binary_operation p (Operation.strict binary.Mul) x y xs ys d e
strict_derives o p x y xs ys d e = Expression.binary_operation p (Operation.strict o) x y xs ys d e

-- an operator between two operands, whatever it makes
between_reads : (s : Scope) (n l r : ℕ) (a b : Expr) (ps qs : List Printed) (sign : List ℕ) (make : Expr → Expr → Expr) (raw : RawExpr → RawExpr → RawExpr)
    → ((p : ℕ) (x y : RawExpr) (xs ys : List Token) → Expression l x xs → Expression r y ys → Expression n (raw x y) (xs ++ (sign_at p sign ∷ ys)))
    → ((x y : RawExpr) → reading (raw x y) s ≡ two_parts make (reading x s) (reading y s))
    → Reads s l a ps → Reads s r b qs → Reads s n (make a b) (ps ++ (spaced sign ++ qs))
between_reads s n l r a b ps qs sign make raw derive becomes h k place =
    let d = h place in
    let q = place + length (text_of ps) in
    let e = k (((q + 1) + length sign) + 1) in
    record {
      raw = raw d.raw e.raw;
      derives = subst (Expression n (raw d.raw e.raw)) (sym (tokens_append place ps (spaced sign ++ qs))) (derive (q + 1) d.raw e.raw _ _ d.derives e.derives);
      becomes = ap (λ r. r.expr) (becomes d.raw e.raw) ∙ ap (λ z. make z (reading e.raw s).expr) d.becomes ∙ ap (make a) e.becomes;
      quiet = subst (λ r. Quiet r.names) (sym (becomes d.raw e.raw)) (quiet_append (reading d.raw s).names (reading e.raw s).names d.quiet e.quiet);
    }

pub binary_reads : (s : Scope) (op : Binary) (a b : Expr) (ps qs : List Printed) → Reads s (binary_level op) a ps → Reads s (binary_level op + 1) b qs
    → Reads s (binary_level op) (expr.Binary op a b) (ps ++ (spaced (binary_sign op) ++ qs))
binary_reads s op a b ps qs =
    between_reads s (binary_level op) (binary_level op) (binary_level op + 1) a b ps qs (binary_sign op) (expr.Binary op) (λ x y. expression (place_of x) (term.Binary op x y))
    (strict_derives op) (λ x y. reading-Binary (place_of x) op x y s)

pub and_reads : (s : Scope) (a b : Expr) (ps qs : List Printed) → Reads s 2 a ps → Reads s 3 b qs → Reads s 2 (expr.And a b) (ps ++ (spaced (codes "&&") ++ qs))
and_reads s a b ps qs =
    between_reads s 2 2 3 a b ps qs (codes "&&") expr.And (λ x y. expression (place_of x) (term.And x y))
    (λ p x y xs ys d e. Expression.binary_operation p Operation.logical_and x y xs ys d e) (λ x y. reading-And (place_of x) x y s)

pub or_reads : (s : Scope) (a b : Expr) (ps qs : List Printed) → Reads s 1 a ps → Reads s 2 b qs → Reads s 1 (expr.Or a b) (ps ++ (spaced (codes "||") ++ qs))
or_reads s a b ps qs =
    between_reads s 1 1 2 a b ps qs (codes "||") expr.Or (λ x y. expression (place_of x) (term.Or x y))
    (λ p x y xs ys d e. Expression.binary_operation p Operation.logical_or x y xs ys d e) (λ x y. reading-Or (place_of x) x y s)

unary_reads : (s : Scope) (op : Unary) (a : Expr) (ps : List Printed) → Reads s 11 a ps → Reads s 11 (expr.Unary op a) (Lexeme (unary_sign op) kind.Punct ∷ ps)
unary_reads s unary.Neg a ps h place =
    let d = h (place + 1) in
    record {
      raw = expression place (term.Unary raw_unary.Neg d.raw);
      derives = Expression.unary_operation place raw_unary.Neg d.raw _ d.derives;
      becomes = ap (λ r. r.expr) (reading-Unary place raw_unary.Neg d.raw s) ∙ ap (expr.Unary unary.Neg) d.becomes;
      quiet = subst (λ r. Quiet r.names) (sym (reading-Unary place raw_unary.Neg d.raw s)) d.quiet;
    }
unary_reads s unary.Not a ps h place =
    let d = h (place + 1) in
    record {
      raw = expression place (term.Unary raw_unary.Not d.raw);
      derives = Expression.unary_operation place raw_unary.Not d.raw _ d.derives;
      becomes = ap (λ r. r.expr) (reading-Unary place raw_unary.Not d.raw s) ∙ ap (expr.Unary unary.Not) d.becomes;
      quiet = subst (λ r. Quiet r.names) (sym (reading-Unary place raw_unary.Not d.raw s)) d.quiet;
    }
unary_reads s unary.LogNot a ps h place =
    let d = h (place + 1) in
    record {
      raw = expression place (term.Unary raw_unary.LogNot d.raw);
      derives = Expression.unary_operation place raw_unary.LogNot d.raw _ d.derives;
      becomes = ap (λ r. r.expr) (reading-Unary place raw_unary.LogNot d.raw s) ∙ ap (expr.Unary unary.LogNot) d.becomes;
      quiet = subst (λ r. Quiet r.names) (sym (reading-Unary place raw_unary.LogNot d.raw s)) d.quiet;
    }

-- ---- casts

pub kind_derives : (k : Kind) (place : ℕ) → TypeSpecifier place k (tokens_from place (kind_words k))
kind_derives of_kind.Int place = TypeSpecifier.int place
kind_derives of_kind.Unsigned place = TypeSpecifier.unsigned place
kind_derives of_kind.Long place = TypeSpecifier.long place _ false [] Optional.absent
kind_derives of_kind.UnsignedLong place = TypeSpecifier.unsigned_long place _ _ false [] Optional.absent

cast_reads : (s : Scope) (k : Kind) (a : Expr) (ps : List Printed) → Reads s 11 a ps → Reads s 11 (expr.Cast k a) (punctuator "(" ∷ (kind_words k ++ punctuator ")" ∷ ps))
cast_reads s k a ps h place =
    let r = (place + 1) + length (text_of (kind_words k)) in
    let d = h (r + 1) in
    let raw = expression place (term.Cast k d.raw) in
    let first = sign_at place (codes "(") in
    let ks = tokens_from (place + 1) (kind_words k) in
    record {
      raw = raw;
      derives = subst (Expression 11 raw)
          (ap (λ ts. first ∷ ts) (append_assoc ks (sign_at r (codes ")") ∷ []) (tokens_from (r + 1) ps) ∙ sym (tokens_append (place + 1) (kind_words k) (punctuator ")" ∷ ps))))
          (Expression.cast place (place + 1) r k d.raw ks (tokens_from (r + 1) ps) (kind_derives k (place + 1)) d.derives);
      becomes = ap (λ r. r.expr) (reading-Cast place k d.raw s) ∙ ap (expr.Cast k) d.becomes;
      quiet = subst (λ r. Quiet r.names) (sym (reading-Cast place k d.raw s)) d.quiet;
    }

cond_reads : (s : Scope) (c a b : Expr) (ps qs rs : List Printed) → Reads s 1 c ps → Reads s 0 a qs → Reads s 0 b rs
    → Reads s 0 (expr.Cond c a b) (ps ++ (spaced (codes "?") ++ (qs ++ (spaced (codes ":") ++ rs))))
cond_reads s c a b ps qs rs h k l place =
    let d = h place in
    let p = place + length (text_of ps) in
    let at = ((p + 1) + 1) + 1 in
    let e = k at in
    let q = at + length (text_of qs) in
    let f = l (((q + 1) + 1) + 1) in
    let raw = expression (place_of d.raw) (term.Cond d.raw e.raw f.raw) in
    record {
      raw = raw;
      derives = subst (Expression 0 raw)
          (sym (tokens_append place ps (spaced (codes "?") ++ (qs ++ (spaced (codes ":") ++ rs)))
          ∙ ap (λ ts. tokens_from place ps ++ (sign_at (p + 1) (codes "?") ∷ ts)) (tokens_append at qs (spaced (codes ":") ++ rs))))
          (Expression.conditional (p + 1) (q + 1) d.raw e.raw f.raw _ _ _ d.derives e.derives f.derives);
      becomes = ap (λ r. r.expr) (reading-Cond (place_of d.raw) d.raw e.raw f.raw s) ∙ parts (reading d.raw s).expr (reading e.raw s).expr (reading f.raw s).expr d.becomes e.becomes f.becomes;
      quiet = subst (λ r. Quiet r.names) (sym (reading-Cond (place_of d.raw) d.raw e.raw f.raw s)) (quiet_append (reading d.raw s).names _ d.quiet (quiet_append (reading e.raw s).names (reading f.raw s).names e.quiet f.quiet));
    }
  where
    parts : (x y z : Expr) → x ≡ c → y ≡ a → z ≡ b → expr.Cond x y z ≡ expr.Cond c a b
    parts x y z i j n = ap (λ v. expr.Cond v y z) i ∙ ap (λ v. expr.Cond c v z) j ∙ ap (expr.Cond c a) n

-- ---- names

pub record SubsDerivation (s : Scope) (es : List Expr) (ts : List Token) : Type 0 where
  pub raws : List RawExpr
  pub derives : Subscripts raws ts
  pub becomes : exprs_of (readings raws s) ≡ es
  pub quiet : Quiet (names_of (readings raws s))

pub subs_reads : (s : Scope) (printed : Expr → List Printed) (es : List Expr) → Each (λ e. Reads s 0 e (printed e)) es
    → (place : ℕ) → SubsDerivation s es (tokens_from place (flat_map subscript (map printed es)))
subs_reads s printed [] h place = record { raws = []; derives = Subscripts.none; becomes = refl; quiet = refl }
subs_reads s printed (e ∷ es) h place =
    let d = h.0 (place + 1) in
    let ps = printed e in
    let rest = flat_map subscript (map printed es) in
    let q = (place + 1) + length (text_of ps) in
    let r = (place + 1) + length (text_of (ps ++ punctuator "]" ∷ [])) in
    let more = subs_reads s printed es h.1 r in
    let first : Token = sign_at place (codes "[") in
    record {
      raws = d.raw ∷ more.raws;
      derives = subst (Subscripts (d.raw ∷ more.raws))
          (sym (ap (λ ts. first ∷ ts) (tokens_append (place + 1) (ps ++ punctuator "]" ∷ []) rest ∙ ap (λ ts. ts ++ tokens_from r rest) (tokens_append (place + 1) ps (punctuator "]" ∷ [])))))
          (Subscripts.more place q d.raw more.raws _ _ d.derives more.derives);
      becomes = ap (λ z. z ∷ exprs_of (readings more.raws s)) d.becomes ∙ ap (λ zs. e ∷ zs) more.becomes;
      quiet = quiet_append (reading d.raw s).names (names_of (readings more.raws s)) d.quiet more.quiet;
    }

target_reads : (s : Scope) (text : List ℕ) (e : Expr) (es : List Expr) (ps : List Printed)
    → ((n : Spelling) (subs : List RawExpr) → n.text ≡ text → exprs_of (readings subs s) ≡ es → value_of s (target_with n (readings subs s) s) ≡ e)
    → ((place : ℕ) → SubsDerivation s es (tokens_from place ps)) → Reads s 12 e (name text ∷ ps)
target_reads s text e es ps means h place =
    let d = h (place + length text) in
    let n : Spelling = record { text = text; place = place } in
    record {
      raw = expression place (term.Target (target n d.raws));
      derives = Expression.element n d.raws _ d.derives;
      becomes = ap (λ r. r.expr) (reading-Target place (target n d.raws) s) ∙ ap (λ t. value_of s t) (target_in-target n d.raws s) ∙ means n d.raws refl d.becomes;
      quiet = subst (λ r. Quiet r.names) (sym (reading-Target place (target n d.raws) s ∙ ap (taken s) (target_in-target n d.raws s))) d.quiet;
    }

-- ---- what the names mean

-- ---- all expressions

abbrev pub value_by : Scope → Option Meaning → List Expr → Expr
value_by s means subs = value_of s (record { name = record { text = []; place = 0 }; means = means; subs = subs; names = [] })

value_array : (s : Scope) (a : ℕ) (m : Option Meaning) (subs : List Expr) → means_array a m ≡ true → value_by s m subs ≡ expr.Elem a subs
value_array s a None subs h = cc
value_array s a (Some (Meaning.Array b n)) subs h = ap (λ k. expr.Elem k subs) (eqb-true b a h)
value_array s a (Some (Meaning.Variable x)) subs h = cc
value_array s a (Some (Meaning.Iterator k)) subs h = cc
value_array s a (Some Meaning.Function) subs h = cc

value_local : (s : Scope) (n : ℕ) (m : Option Meaning) (subs : List Expr) → means_local s n m ≡ true → value_by s m subs ≡ expr.Local n
value_local s n None subs h = cc
value_local s n (Some (Meaning.Array b k)) subs h = cc
value_local s n (Some (Meaning.Variable x)) subs h = ap expr.Local (eqb-true (local_number s x.serial) n h)
value_local s n (Some (Meaning.Iterator k)) subs h = cc
value_local s n (Some Meaning.Function) subs h = cc

value_iterator : (s : Scope) (l : ℕ) (m : Option Meaning) (subs : List Expr) → means_iterator l m ≡ true → value_by s m subs ≡ expr.Iter l
value_iterator s l None subs h = cc
value_iterator s l (Some (Meaning.Array b n)) subs h = cc
value_iterator s l (Some (Meaning.Variable x)) subs h = cc
value_iterator s l (Some (Meaning.Iterator k)) subs h = ap expr.Iter (eqb-true k l h)
value_iterator s l (Some Meaning.Function) subs h = cc

-- a name alone
name_reads : (s : Scope) (text : List ℕ) (e : Expr) → value_by s (meaning_in s.names text) [] ≡ e → Reads s 12 e (name text ∷ [])
name_reads s text e h =
    target_reads s text e [] []
    (λ n subs t b. ap (λ x. value_by s (meaning_in s.names x) (exprs_of (readings subs s))) t ∙ ap (value_by s (meaning_in s.names text)) b ∙ h)
    (λ place. record { raws = []; derives = Subscripts.none; becomes = refl; quiet = refl })

pub number_reads : (s : Scope) (text : List ℕ) (v : Value) → Reads s 12 (expr.Literal v) (Lexeme text (kind.Number v) ∷ [])
number_reads s text v place = record {
  raw = expression place (term.Number v);
  derives = Expression.constant (record { text = text; place = place }) v;
  becomes = ap (λ r. r.expr) (reading-Number place v s);
  quiet = subst (λ r. Quiet r.names) (sym (reading-Number place v s)) refl;
}

pub literal_reads : (s : Scope) (v : Value) → is_literal v ≡ true → Reads s 12 (expr.Literal v) (literal_printed v)
literal_reads s (value.Int (pos n)) w = number_reads s (decimal n) (value.Int (pos n))
literal_reads s (value.Int (negsuc n)) w = cc
literal_reads s (value.Unsigned n) w = number_reads s (decimal n ++ codes "u") (value.Unsigned n)
literal_reads s (value.Long (pos n)) w = number_reads s (decimal n ++ codes "ll") (value.Long (pos n))
literal_reads s (value.Long (negsuc n)) w = cc
literal_reads s (value.UnsignedLong n) w = number_reads s (decimal n ++ codes "ull") (value.UnsignedLong n)

-- what is claimed of an expression
abbrev pub ReadsBack : Unit → List (List ℕ) → Scope → Expr → Type 0
ReadsBack u iters s e = is_meant u iters s e ≡ true → Reads s (level_of e) e (expr_printed u iters e)

stated : (u : Unit) (iters : List (List ℕ)) (s : Scope) (l : ℕ) (e : Expr) (ps : List Printed) → expr_printed u iters e ≡ ps → level_of e ≡ l → Reads s l e ps → Reads s (level_of e) e (expr_printed u iters e)
stated u iters s l e ps i j h = subst (λ z. Reads s (level_of e) e z) (sym i) (subst (λ k. Reads s k e ps) (sym j) h)

literal_level : (v : Value) → is_literal v ≡ true → level_at {X = Expr} (Expr-F.Literal v) ≡ 12
literal_level (value.Int (pos n)) w = ap (λ c. if c then 11 else 12) (le-ltb n 0 (omega arith))
literal_level (value.Int (negsuc n)) w = cc
literal_level (value.Unsigned n) w = refl
literal_level (value.Long (pos n)) w = ap (λ c. if c then 11 else 12) (le-ltb n 0 (omega arith))
literal_level (value.Long (negsuc n)) w = cc
literal_level (value.UnsignedLong n) w = refl

each_reads : (u : Unit) (iters : List (List ℕ)) (s : Scope) (es : List Expr) → Each (ReadsBack u iters s) es → all_true (map (is_meant u iters s) es) ≡ true → Each (λ e. Reads s 0 e (expr_printed u iters e)) es
each_reads u iters s [] h w = tt
each_reads u iters s (e ∷ es) h w =
    let k = and_parts (is_meant u iters s e) (all_true (map (is_meant u iters s) es)) w in
    (lowered s (level_of e) 0 e (expr_printed u iters e) (omega arith) (h.0 k.0), each_reads u iters s es h.1 k.1)

binary_within : (op : Binary) → binary_level op + 1 ≤ 12
binary_within binary.Mul = omega arith
binary_within o = omega arith

reads_cases : (u : Unit) (iters : List (List ℕ)) (s : Scope) → ExprCases (ReadsBack u iters s)
reads_cases u iters s = record {
  literal = λ v w. let x = sym (fold_expr-Literal (expr_meant u iters s) v) ∙ w in stated u iters s 12 _ _ (printed-Literal u iters v) (ap level_at (expr.outs-Literal v) ∙ literal_level v x) (literal_reads s v x);
  iter = λ n w. stated u iters s 12 _ _ (printed-Iter u iters n) (ap level_at (expr.outs-Iter n)) (name_reads s (iter_name iters n) (expr.Iter n) (value_iterator s n _ [] (sym (fold_expr-Iter (expr_meant u iters s) n) ∙ w)));
  local = λ n w. stated u iters s 12 _ _ (printed-Local u iters n) (ap level_at (expr.outs-Local n)) (name_reads s (local_name u n) (expr.Local n) (value_local s n _ [] (sym (fold_expr-Local (expr_meant u iters s) n) ∙ w)));
  elem = λ n subs k w.
      let v = and_parts (means_array n (meaning_in s.names (array_name u n))) (all_true (map (is_meant u iters s) subs)) (sym (fold_expr-Elem (expr_meant u iters s) n subs) ∙ w) in
      stated u iters s 12 _ _ (printed-Elem u iters n subs) (ap level_at (expr.outs-Elem n subs))
      (target_reads s (array_name u n) (expr.Elem n subs) subs (flat_map subscript (map (expr_printed u iters) subs))
      (λ m raws t b. ap (λ x. value_by s (meaning_in s.names x) (exprs_of (readings raws s))) t ∙ ap (value_by s (meaning_in s.names (array_name u n))) b ∙ value_array s n _ subs v.0)
      (subs_reads s (expr_printed u iters) subs (each_reads u iters s subs k v.1)));
  unary = λ op a k w.
      stated u iters s 11 _ _ (printed-Unary u iters op a) (ap level_at (expr.outs-Unary op a))
      (unary_reads s op a (behind_unary op (a, expr_printed u iters a)) (behind_unary_reads s op a (expr_printed u iters a) (k (sym (fold_expr-Unary (expr_meant u iters s) op a) ∙ w))));
  binary = λ op a b k l w.
      let v = and_parts (is_meant u iters s a) (is_meant u iters s b) (sym (fold_expr-Binary (expr_meant u iters s) op a b) ∙ w) in
      stated u iters s (binary_level op) _ _ (printed-Binary u iters op a b) (ap level_at (expr.outs-Binary op a b))
      (binary_reads s op a b (at_least (binary_level op) (a, expr_printed u iters a)) (at_least (binary_level op + 1) (b, expr_printed u iters b)) (at_least_reads s (binary_level op) a (expr_printed u iters a) (omega (arith, binary_within op)) (k v.0)) (at_least_reads s (binary_level op + 1) b (expr_printed u iters b) (binary_within op) (l v.1)));
  both = λ a b k l w.
      let v = and_parts (is_meant u iters s a) (is_meant u iters s b) (sym (fold_expr-And (expr_meant u iters s) a b) ∙ w) in
      stated u iters s 2 _ _ (printed-And u iters a b) (ap level_at (expr.outs-And a b)) (and_reads s a b (at_least 2 (a, expr_printed u iters a)) (at_least 3 (b, expr_printed u iters b)) (at_least_reads s 2 a (expr_printed u iters a) (omega arith) (k v.0)) (at_least_reads s 3 b (expr_printed u iters b) (omega arith) (l v.1)));
  either = λ a b k l w.
      let v = and_parts (is_meant u iters s a) (is_meant u iters s b) (sym (fold_expr-Or (expr_meant u iters s) a b) ∙ w) in
      stated u iters s 1 _ _ (printed-Or u iters a b) (ap level_at (expr.outs-Or a b)) (or_reads s a b (at_least 1 (a, expr_printed u iters a)) (at_least 2 (b, expr_printed u iters b)) (at_least_reads s 1 a (expr_printed u iters a) (omega arith) (k v.0)) (at_least_reads s 2 b (expr_printed u iters b) (omega arith) (l v.1)));
  cond = λ c a b j k l w.
      let v = and_parts (is_meant u iters s c) (is_meant u iters s a && is_meant u iters s b) (sym (fold_expr-Cond (expr_meant u iters s) c a b) ∙ w) in
      let x = and_parts (is_meant u iters s a) (is_meant u iters s b) v.1 in
      stated u iters s 0 _ _ (printed-Cond u iters c a b) (ap level_at (expr.outs-Cond c a b))
      (cond_reads s c a b (at_least 1 (c, expr_printed u iters c)) (expr_printed u iters a) (expr_printed u iters b) (at_least_reads s 1 c (expr_printed u iters c) (omega arith) (j v.0)) (lowered s (level_of a) 0 a (expr_printed u iters a) (omega arith) (k x.0)) (lowered s (level_of b) 0 b (expr_printed u iters b) (omega arith) (l x.1)));
  cast = λ t a k w.
      stated u iters s 11 _ _ (printed-Cast u iters t a) (ap level_at (expr.outs-Cast t a))
      (cast_reads s t a (at_least 11 (a, expr_printed u iters a)) (at_least_reads s 11 a (expr_printed u iters a) (omega arith) (k (sym (fold_expr-Cast (expr_meant u iters s) t a) ∙ w))));
}

-- each expression whose names mean what they should
pub expr_reads : (u : Unit) (iters : List (List ℕ)) (s : Scope) (e : Expr) → is_meant u iters s e ≡ true → Reads s (level_of e) e (expr_printed u iters e)
expr_reads u iters s = expr_ind (ReadsBack u iters s) (reads_cases u iters s)
