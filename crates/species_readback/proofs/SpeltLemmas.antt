-- What is printed of statements and units is lines, and no token runs into what stands behind it.
use Rattle.std.proofs.Common.{◌≡◌, ◌∙◌, ap, sym, refl, subst, ℕ, zero, suc, Bool, true, false, List, [], ◌∷◌, ◌++◌, map, Option, Some, None, pos, negsuc, ℤ}
use Rattle.std.proofs.lemmas.Bool.{and_parts}
use Rattle.std.specs.Prelude.{◌&&◌, codes}
use Rattle.std.specs.List.{list_all, flat_map}
use Rattle.species_ast.specs.Line.{Line}
use Rattle.species_ast.specs.Names.{is_name}
use Rattle.species_ast.specs.declared.tree.Array.{Array}
use Rattle.species_ast.specs.declared.tree.Test.{Test}
use Rattle.species_ast.specs.declared.tree.Test.TheVariants as test
use Rattle.species_ast.specs.declared.tree.Mark.{Mark}
use Rattle.species_ast.specs.declared.tree.Mark.TheVariants as mark
use Rattle.species_ast.specs.declared.tree.Unit.{Unit}
use Rattle.species_ast.specs.declared.tree.Expr.{Expr}
use Rattle.species_ast.specs.declared.tree.Loop.{Loop, roll-Loop}
use Rattle.species_ast.specs.declared.tree.Stmt.{Stmt}
use Rattle.species_ast.specs.declared.tree.Stmt.TheOpen.{Stmt-F, Loop-F}
use Rattle.species_ast.specs.declared.tree.Stmt.TheVariants as stmt
use Rattle.species_ast.specs.declared.token.TokenKind.{TokenKind}
use Rattle.species_ast.specs.declared.token.TokenKind.TheVariants as kind
use Rattle.species_ast.specs.Text.Characters.{is_blank}
use Rattle.species_ast.specs.Text.Pieces as byte
use Rattle.species_ast.specs.Text.Words.{punctuators}
use Rattle.species_ast.specs.Text.Stream.{head_behind, is_definition}
use Rattle.species_ast.proofs.Folds.{fold_stmt-Assign, fold_stmt-AddTo, fold_stmt-Declare, fold_stmt-SetLocal, fold_stmt-If, fold_stmt-For, fold_stmt-Block, fold_loop, folded_layer}
use Rattle.species_ast.proofs.Induction.{Each, each_all, StmtCases, stmt_ind}
use Rattle.species_print.specs.Printed.{Printed, Lexeme, Blank, text_of, spaced, space, punctuator, keyword, name, line}
use Rattle.species_print.specs.Expressions.{expr_printed, array_name, local_name, kind_words, subscript}
use Rattle.species_print.specs.Statements.{Layout, all_of, deeper, indentation, element, assignment, local_kind, declaration, atomic_line, species_line, parallel_line, parallel_text, if_head, for_head, step_printed, else_part, close, stmt_step, loop_layer, stmt_layout}
use Rattle.species_readback.proofs.TokenLemmas.{Stands, Apart, head_after, apart_append}
use Rattle.species_readback.proofs.WordLemmas.{Ends, continues, stands_word, stands_name, stands_keyword}
use Rattle.species_readback.proofs.NumberLemmas.{stands_int}
use Rattle.species_readback.proofs.MarkLemmas.{atomic_directive, line_directive, header_directive}
use Rattle.species_readback.proofs.ApartLemmas.{Spaced, kind_apart, spaced_expr, spaced_subs, spaced_name, ends_subs, stands_open, stands_close, stands_left, stands_right}
use Rattle.species_print.specs.Units.{include_line, size, array_line, function_line, front, unit_printed}
use Rattle.species_readback.proofs.DirectiveLemmas.{IsDirective, stands_directive}
use Rattle.species_readback.proofs.StatementLemmas.{layouts}
use Rattle.species_readback.specs.Spelt.{mark_spelt, is_header, is_spelt, is_int_step, stmt_spelt, init_spelt, spelt, line_spelt, IsSpelt, loop_spelt, array_spelt}
use Rattle.species_ast.specs.Signs.{test_sign}
use Rattle.species_readback.proofs.ParallelLemmas.{parallel_directive}
use Rattle.species_readback.specs.Spelt.{is_int_number}
use Rattle.species_readback.proofs.ListLemmas.{or_true_right, all_append}

-- ---- lines

-- lexemes that begin and end a line
pub record Lines (ps : List Printed) : Type 0 where
  pub apart : (rest : List ℕ) → Apart true ps rest
  pub is_head : head_after true ps ≡ true

head_append : (h : Bool) (a b : List Printed) → head_after h (a ++ b) ≡ head_after (head_after h a) b
head_append h [] b = refl
head_append h (Lexeme t k ∷ a) b = head_append false a b
head_append h (Blank bs ∷ a) b = head_append (head_behind h bs) a b

pub lines_nil : Lines []
lines_nil = record { apart = λ rest. tt; is_head = refl }

pub lines_append : (a b : List Printed) → Lines a → Lines b → Lines (a ++ b)
lines_append a b x y = record {
  apart = λ rest. apart_append true a b rest (x.apart (text_of b ++ rest)) (subst (λ h. Apart h b rest) (sym x.is_head) (y.apart rest));
  is_head = head_append true a b ∙ ap (λ h. head_after h b) x.is_head ∙ y.is_head;
}

-- what may stand on a line, before its end
abbrev pub Ready : List Printed → Type 0
Ready ps = (rest : List ℕ) → Apart true ps (10 ∷ rest)

pub line_lines : (ind : List ℕ) (ps : List Printed) → list_all is_blank ind ≡ true → Ready ps → Lines (line ind ps)
line_lines ind ps b h = record {
  apart = λ rest. (b, apart_append true ps (Blank (codes "\n") ∷ []) rest (h rest) (refl, tt));
  is_head = head_append true ps (Blank (codes "\n") ∷ []) ∙ or_true_right (head_after true ps);
}

-- lexemes that what follows does not run into, and more
apart_then : (h : Bool) (ps qs : List Printed) (rest : List ℕ) → Spaced ps → Ends continues (text_of qs ++ rest) → Apart (head_after h ps) qs rest → Apart h (ps ++ qs) rest
apart_then h ps qs rest s e a = apart_append h ps qs rest (s h (text_of qs ++ rest) e) a

-- ---- single tokens

stands_semi : (h : Bool) (rest : List ℕ) → Stands h (codes ";") kind.Punct rest
unfolding byte.piece_of punctuators
stands_semi h rest = refl

stands_left_brace : (h : Bool) (rest : List ℕ) → Stands h (codes "{") kind.Punct rest
unfolding byte.piece_of punctuators
stands_left_brace h rest = refl

stands_right_brace : (h : Bool) (rest : List ℕ) → Stands h (codes "}") kind.Punct rest
unfolding byte.piece_of punctuators
stands_right_brace h rest = refl

stands_set : (h : Bool) (rest : List ℕ) → Stands h (codes "=") kind.Punct (32 ∷ rest)
unfolding byte.piece_of punctuators
stands_set h rest = refl

stands_add : (h : Bool) (rest : List ℕ) → Stands h (codes "+=") kind.Punct (32 ∷ rest)
unfolding byte.piece_of punctuators
stands_add h rest = refl

stands_sub : (h : Bool) (rest : List ℕ) → Stands h (codes "-=") kind.Punct (32 ∷ rest)
unfolding byte.piece_of punctuators
stands_sub h rest = refl

stands_up : (h : Bool) (rest : List ℕ) → Stands h (codes "++") kind.Punct rest
unfolding byte.piece_of punctuators
stands_up h rest = refl

stands_down : (h : Bool) (rest : List ℕ) → Stands h (codes "--") kind.Punct rest
unfolding byte.piece_of punctuators
stands_down h rest = refl

stands_test : (h : Bool) (c : Test) (rest : List ℕ) → Stands h (test_sign c) kind.Punct (32 ∷ rest)
unfolding byte.piece_of punctuators
stands_test h test.Lt rest = refl
stands_test h _ rest = refl

-- ---- the condition on statements

abbrev pub SpeltClaim : Unit → Stmt → Type 0
SpeltClaim u x = (it : List (List ℕ)) (ind : List ℕ) → spelt u x it ≡ true → list_all is_blank ind ≡ true → Lines (stmt_layout true u x it ind)

stated : (u : Unit) (x : Stmt) (l : Layout) (c : List (List ℕ) → Bool) → stmt_layout true u x ≡ l → spelt u x ≡ c
    → ((it : List (List ℕ)) (ind : List ℕ) → c it ≡ true → list_all is_blank ind ≡ true → Lines (l it ind)) → SpeltClaim u x
stated u x l c a b h it ind w k = subst Lines (sym (ap (λ f. f it ind) a)) (h it ind (sym (ap (λ f. f it) b) ∙ w) k)

-- ---- lists

deeper_blank : (ind : List ℕ) → list_all is_blank ind ≡ true → list_all is_blank (deeper ind) ≡ true
deeper_blank ind h = all_append is_blank ind (codes "    ") h refl

all_lines : (u : Unit) (it : List (List ℕ)) (ind : List ℕ) (xs : List Stmt) → Each (SpeltClaim u) xs → list_all (λ s. s it) (map (spelt u) xs) ≡ true → list_all is_blank ind ≡ true → Lines (all_of (layouts u xs) it ind)
all_lines u it ind [] h w b = lines_nil
all_lines u it ind (x ∷ xs) h w b =
    let k = and_parts (spelt u x it) (list_all (λ s. s it) (map (spelt u) xs)) w in
    lines_append (stmt_layout true u x it ind) (all_of (layouts u xs) it ind) (h.0 it ind k.0 b) (all_lines u it ind xs h.1 k.1 b)

close_lines : (ind : List ℕ) → list_all is_blank ind ≡ true → Lines (close ind)
close_lines ind b = line_lines ind (punctuator "}" ∷ []) b (λ rest. (stands_right_brace true (10 ∷ rest), refl, tt))

-- ---- simple statements

expr_spaced : (u : Unit) (it : List (List ℕ)) (es : List Expr) → list_all (is_spelt u it) es ≡ true → Each (λ e. Spaced (expr_printed u it e)) es
expr_spaced u it [] h = tt
expr_spaced u it (e ∷ es) h = let k = and_parts (is_spelt u it e) (list_all (is_spelt u it) es) h in (spaced_expr u it e k.0, expr_spaced u it es k.1)

target_spaced : (u : Unit) (it : List (List ℕ)) (w : List ℕ) (es : List Expr) → is_name w ≡ true → list_all (is_spelt u it) es ≡ true → Spaced (name w ∷ flat_map subscript (map (expr_printed u it) es))
target_spaced u it w es n h = spaced_name w (flat_map subscript (map (expr_printed u it) es)) n (spaced_subs (expr_printed u it) es (expr_spaced u it es h)) (ends_subs (expr_printed u it) es)

assignment_ready : (u : Unit) (it : List (List ℕ)) (w : List ℕ) (es : List Expr) (e : Expr) (sign : List ℕ) → ((h : Bool) (rest : List ℕ) → Stands h sign kind.Punct (32 ∷ rest))
    → is_name w ≡ true → list_all (is_spelt u it) es ≡ true → is_spelt u it e ≡ true → Ready (assignment u it (name w ∷ flat_map subscript (map (expr_printed u it) es)) sign e)
assignment_ready u it w es e sign s n h k = λ rest.
    apart_then true (name w ∷ flat_map subscript (map (expr_printed u it) es)) (spaced sign ++ (expr_printed u it e ++ punctuator ";" ∷ [])) (10 ∷ rest) (target_spaced u it w es n h) refl
    (refl, (s _ _, refl, (refl, apart_then false (expr_printed u it e) (punctuator ";" ∷ []) (10 ∷ rest) (spaced_expr u it e k) refl (stands_semi _ (10 ∷ rest), refl, tt))))

declaration_ready : (u : Unit) (it : List (List ℕ)) (n : ℕ) (init : Option Expr) → is_name (local_name u n) ≡ true → init_spelt u it init ≡ true → Ready (declaration u it n init)
declaration_ready u it n None h k = λ rest.
    kind_apart true (local_kind u n) (space ∷ name (local_name u n) ∷ punctuator ";" ∷ []) (10 ∷ rest) refl (refl, (stands_name _ (local_name u n) _ h refl, refl, (stands_semi false (10 ∷ rest), refl, tt)))
declaration_ready u it n (Some e) h k = λ rest.
    kind_apart true (local_kind u n) (space ∷ name (local_name u n) ∷ ((spaced (codes "=") ++ expr_printed u it e) ++ punctuator ";" ∷ [])) (10 ∷ rest) refl
    (refl, (stands_name _ (local_name u n) _ h refl, refl, (refl, (stands_set _ _, refl, (refl, apart_then false (expr_printed u it e) (punctuator ";" ∷ []) (10 ∷ rest) (spaced_expr u it e k) refl (stands_semi _ (10 ∷ rest), refl, tt))))))

directive_lines : (ind t : List ℕ) (k : TokenKind) → list_all is_blank ind ≡ true → is_definition k ≡ false → IsDirective t k → Lines (line ind (Lexeme t k ∷ []))
directive_lines ind t k b d h = line_lines ind (Lexeme t k ∷ []) b (λ rest. (stands_directive t k rest h, d, tt))

atomic_lines : (atomic : Bool) (ind : List ℕ) → list_all is_blank ind ≡ true → Lines (atomic_line atomic ind)
atomic_lines false ind b = lines_nil
atomic_lines true ind b = directive_lines ind (codes "#pragma omp atomic update") kind.Atomic b refl atomic_directive

species_lines : (l : Option Line) (ind : List ℕ) → list_all is_blank ind ≡ true → line_spelt l ≡ true → Lines (species_line l ind)
species_lines None ind b h = lines_nil
species_lines (Some l) ind b h = directive_lines ind l.text kind.Species b refl (line_directive l.text h)

parallel_lines : (m : Mark) (ind : List ℕ) → list_all is_blank ind ≡ true → mark_spelt m ≡ true → Lines (parallel_line m ind)
parallel_lines mark.Plain ind b h = lines_nil
parallel_lines (mark.Parallel depth s) ind b h = directive_lines ind (parallel_text depth s) (kind.Parallel depth s) b refl (parallel_directive depth s h)

-- ---- heads

if_ready : (u : Unit) (it : List (List ℕ)) (e : Expr) → is_spelt u it e ≡ true → Ready (if_head u it e)
if_ready u it e k = λ rest. (
  stands_keyword true (codes "if") _ refl refl,
  refl,
  (
    refl,
    (
      stands_open _ _,
      refl,
      apart_then false (expr_printed u it e) (punctuator ")" ∷ space ∷ punctuator "{" ∷ []) (10 ∷ rest) (spaced_expr u it e k) refl (stands_close _ _, refl, (refl, (stands_left_brace _ (10 ∷ rest), refl, tt))),
    ),
  ),
)

step_apart : (i : List ℕ) (z : ℤ) (rest : List ℕ) → is_name i ≡ true → is_int_step z ≡ true → Apart false (step_printed i z ++ (punctuator ")" ∷ space ∷ punctuator "{" ∷ [])) (10 ∷ rest)
step_apart i (pos (suc zero)) rest n h = (stands_word false i _ n refl, refl, (stands_up false _, refl, (stands_close false _, refl, (refl, (stands_left_brace _ (10 ∷ rest), refl, tt)))))
step_apart i (pos m) rest n h = (stands_word false i _ n refl, refl, (refl, (stands_add _ _, refl, (refl, (stands_int _ m _ h refl, refl, (stands_close false _, refl, (refl, (stands_left_brace _ (10 ∷ rest), refl, tt))))))))
step_apart i (negsuc zero) rest n h = (stands_word false i _ n refl, refl, (stands_down false _, refl, (stands_close false _, refl, (refl, (stands_left_brace _ (10 ∷ rest), refl, tt)))))
step_apart i (negsuc m) rest n h = (stands_word false i _ n refl, refl, (refl, (stands_sub _ _, refl, (refl, (stands_int _ (suc m) _ h refl, refl, (stands_close false _, refl, (refl, (stands_left_brace _ (10 ∷ rest), refl, tt))))))))

for_ready : (u : Unit) (it : List (List ℕ)) (l : Loop-F Layout Layout) → is_name l.iter ≡ true → is_int_step l.step ≡ true → is_spelt u it l.start ≡ true → is_spelt u (it ++ l.iter ∷ []) l.limit ≡ true → Ready (for_head u it l)
for_ready u it l n z a b = λ rest. (
  stands_keyword true (codes "for") _ refl refl,
  refl,
  (
    refl,
    (
      stands_open _ _,
      refl,
      (
        stands_keyword _ (codes "int") _ refl refl,
        refl,
        (
          refl,
          (
            stands_name _ l.iter _ n refl,
            refl,
            (
              refl,
              (
                stands_set _ _,
                refl,
                (
                  refl,
                  apart_then false (expr_printed u it l.start) _ (10 ∷ rest) (spaced_expr u it l.start a) refl (
                    stands_semi _ _,
                    refl,
                    (
                      refl,
                      (
                        stands_name _ l.iter _ n refl,
                        refl,
                        (
                          refl,
                          (
                            stands_test _ l.test _,
                            refl,
                            (
                              refl,
                              apart_then false (expr_printed u (it ++ l.iter ∷ []) l.limit) _ (10 ∷ rest) (spaced_expr u (it ++ l.iter ∷ []) l.limit b) refl (stands_semi _ _, refl, (refl, step_apart l.iter l.step rest n z)),
                            ),
                          ),
                        ),
                      ),
                    ),
                  ),
                ),
              ),
            ),
          ),
        ),
      ),
    ),
  ),
)

-- ---- all statements

else_lines : (u : Unit) (it : List (List ℕ)) (ind : List ℕ) (xs : List Stmt) → Each (SpeltClaim u) xs → list_all (λ s. s it) (map (spelt u) xs) ≡ true → list_all is_blank ind ≡ true → Lines (else_part (layouts u xs) it ind)
else_lines u it ind [] h w b = lines_nil
else_lines u it ind (x ∷ xs) h w b =
    lines_append (line ind (punctuator "}" ∷ space ∷ keyword "else" ∷ space ∷ punctuator "{" ∷ [])) (all_of (layouts u (x ∷ xs)) it (deeper ind))
    (line_lines ind (punctuator "}" ∷ space ∷ keyword "else" ∷ space ∷ punctuator "{" ∷ []) b
    (λ rest. (stands_right_brace _ _, refl, (refl, (stands_keyword _ (codes "else") _ refl refl, refl, (refl, (stands_left_brace _ (10 ∷ rest), refl, tt)))))))
    (all_lines u it (deeper ind) (x ∷ xs) h w (deeper_blank ind b))

body_lines : (u : Unit) (it : List (List ℕ)) (ind : List ℕ) (xs : List Stmt) → Each (SpeltClaim u) xs → list_all (λ s. s it) (map (spelt u) xs) ≡ true → list_all is_blank ind ≡ true
    → Lines (all_of (layouts u xs) it (deeper ind) ++ close ind)
body_lines u it ind xs h w b = lines_append (all_of (layouts u xs) it (deeper ind)) (close ind) (all_lines u it (deeper ind) xs h w (deeper_blank ind b)) (close_lines ind b)

for_spelt : (u : Unit) (l : Loop-F Stmt Loop) → Each (SpeltClaim u) l.body → SpeltClaim u (stmt.For (roll-Loop l))
for_spelt u l h =
    let fl = folded_layer (stmt_step u) (loop_layer true u) l in
    stated u (stmt.For (roll-Loop l)) (stmt_step u (Stmt-F.For (loop_layer true u fl))) (stmt_spelt u (Stmt-F.For (loop_spelt u (folded_layer (stmt_spelt u) (loop_spelt u) l))))
    (fold_stmt-For (stmt_step u) (loop_layer true u) (roll-Loop l) ∙ ap (λ z. stmt_step u (Stmt-F.For z)) (fold_loop (stmt_step u) (loop_layer true u) l))
    (fold_stmt-For (stmt_spelt u) (loop_spelt u) (roll-Loop l) ∙ ap (λ z. stmt_spelt u (Stmt-F.For z)) (fold_loop (stmt_spelt u) (loop_spelt u) l))
    (λ it ind w b.
    let jt = it ++ l.iter ∷ [] in
    let k = and_parts (line_spelt l.line && mark_spelt l.mark) ((is_name l.iter && is_int_step l.step) && ((is_spelt u it l.start && is_spelt u jt l.limit) && list_all (λ s. s jt) (map (spelt u) l.body))) w in
    let m = and_parts (line_spelt l.line) (mark_spelt l.mark) k.0 in
    let n = and_parts (is_name l.iter && is_int_step l.step) ((is_spelt u it l.start && is_spelt u jt l.limit) && list_all (λ s. s jt) (map (spelt u) l.body)) k.1 in
    let o = and_parts (is_name l.iter) (is_int_step l.step) n.0 in
    let p = and_parts (is_spelt u it l.start && is_spelt u jt l.limit) (list_all (λ s. s jt) (map (spelt u) l.body)) n.1 in
    let q = and_parts (is_spelt u it l.start) (is_spelt u jt l.limit) p.0 in
    let rest = all_of (layouts u l.body) jt (deeper ind) ++ close ind in
    lines_append (species_line l.line ind) (parallel_line l.mark ind ++ (line ind (for_head u it fl) ++ rest)) (species_lines l.line ind b m.0)
    (lines_append (parallel_line l.mark ind) (line ind (for_head u it fl) ++ rest) (parallel_lines l.mark ind b m.1)
    (lines_append (line ind (for_head u it fl)) rest (line_lines ind (for_head u it fl) b (for_ready u it fl o.0 o.1 q.0 q.1)) (body_lines u jt ind l.body h p.1 b))))

spelt_cases : (u : Unit) → StmtCases (SpeltClaim u)
spelt_cases u = record {
  assign = λ place a es e. stated u (stmt.Assign place a es e) (stmt_step u (Stmt-F.Assign place a es e)) (stmt_spelt u (Stmt-F.Assign place a es e))
      (fold_stmt-Assign (stmt_step u) (loop_layer true u) place a es e) (fold_stmt-Assign (stmt_spelt u) (loop_spelt u) place a es e)
      (λ it ind w b.
      let k = and_parts (is_name (array_name u a)) (list_all (is_spelt u it) es && is_spelt u it e) w in
      let l = and_parts (list_all (is_spelt u it) es) (is_spelt u it e) k.1 in
      line_lines ind (assignment u it (element u it a es) (codes "=") e) b (assignment_ready u it (array_name u a) es e (codes "=") stands_set k.0 l.0 l.1));
  add_to = λ place a es e atomic. stated u (stmt.AddTo place a es e atomic) (stmt_step u (Stmt-F.AddTo place a es e atomic)) (stmt_spelt u (Stmt-F.AddTo place a es e atomic))
      (fold_stmt-AddTo (stmt_step u) (loop_layer true u) place a es e atomic) (fold_stmt-AddTo (stmt_spelt u) (loop_spelt u) place a es e atomic)
      (λ it ind w b.
      let k = and_parts (is_name (array_name u a)) (list_all (is_spelt u it) es && is_spelt u it e) w in
      let l = and_parts (list_all (is_spelt u it) es) (is_spelt u it e) k.1 in
      lines_append (atomic_line atomic ind) (line ind (assignment u it (element u it a es) (codes "+=") e)) (atomic_lines atomic ind b)
      (line_lines ind (assignment u it (element u it a es) (codes "+=") e) b (assignment_ready u it (array_name u a) es e (codes "+=") stands_add k.0 l.0 l.1)));
  declare = λ place n init. stated u (stmt.Declare place n init) (stmt_step u (Stmt-F.Declare place n init)) (stmt_spelt u (Stmt-F.Declare place n init))
      (fold_stmt-Declare (stmt_step u) (loop_layer true u) place n init) (fold_stmt-Declare (stmt_spelt u) (loop_spelt u) place n init)
      (λ it ind w b. let k = and_parts (is_name (local_name u n)) (init_spelt u it init) w in line_lines ind (declaration u it n init) b (declaration_ready u it n init k.0 k.1));
  set_local = λ place n e. stated u (stmt.SetLocal place n e) (stmt_step u (Stmt-F.SetLocal place n e)) (stmt_spelt u (Stmt-F.SetLocal place n e))
      (fold_stmt-SetLocal (stmt_step u) (loop_layer true u) place n e) (fold_stmt-SetLocal (stmt_spelt u) (loop_spelt u) place n e)
      (λ it ind w b. let k = and_parts (is_name (local_name u n)) (is_spelt u it e) w in
      line_lines ind (assignment u it (name (local_name u n) ∷ []) (codes "=") e) b (assignment_ready u it (local_name u n) [] e (codes "=") stands_set k.0 refl k.1));
  choice = λ place e body otherwise h j. stated u (stmt.If place e body otherwise) (stmt_step u (Stmt-F.If place e (layouts u body) (layouts u otherwise))) (stmt_spelt u (Stmt-F.If place e (map (spelt u) body) (map (spelt u) otherwise)))
      (fold_stmt-If (stmt_step u) (loop_layer true u) place e body otherwise) (fold_stmt-If (stmt_spelt u) (loop_spelt u) place e body otherwise)
      (λ it ind w b.
      let k = and_parts (is_spelt u it e) (list_all (λ s. s it) (map (spelt u) body) && list_all (λ s. s it) (map (spelt u) otherwise)) w in
      let l = and_parts (list_all (λ s. s it) (map (spelt u) body)) (list_all (λ s. s it) (map (spelt u) otherwise)) k.1 in
      lines_append (line ind (if_head u it e)) (all_of (layouts u body) it (deeper ind) ++ (else_part (layouts u otherwise) it ind ++ close ind)) (line_lines ind (if_head u it e) b (if_ready u it e k.0))
      (lines_append (all_of (layouts u body) it (deeper ind)) (else_part (layouts u otherwise) it ind ++ close ind) (all_lines u it (deeper ind) body h l.0 (deeper_blank ind b))
      (lines_append (else_part (layouts u otherwise) it ind) (close ind) (else_lines u it ind otherwise j l.1 b) (close_lines ind b))));
  loop = for_spelt u;
  block = λ body h. stated u (stmt.Block body) (stmt_step u (Stmt-F.Block (layouts u body))) (stmt_spelt u (Stmt-F.Block (map (spelt u) body)))
      (fold_stmt-Block (stmt_step u) (loop_layer true u) body) (fold_stmt-Block (stmt_spelt u) (loop_spelt u) body)
      (λ it ind w b. lines_append (line ind (punctuator "{" ∷ [])) (all_of (layouts u body) it (deeper ind) ++ close ind) (line_lines ind (punctuator "{" ∷ []) b (λ rest. (stands_left_brace true (10 ∷ rest), refl, tt))) (body_lines u it ind body h w b));
}

-- each statement that can be written
pub statement_spelt : (u : Unit) (x : Stmt) → SpeltClaim u x
statement_spelt u = stmt_ind (SpeltClaim u) (spelt_cases u)

-- ---- units

include_lines : (headers : List (List ℕ)) → list_all is_header headers ≡ true → Lines (flat_map include_line headers)
include_lines [] h = lines_nil
include_lines (t ∷ headers) h =
    let k = and_parts (is_header t) (list_all is_header headers) h in
    lines_append (include_line t) (flat_map include_line headers) (directive_lines [] t kind.Include refl refl (header_directive t k.0)) (include_lines headers k.1)

sizes_apart : (dims : List ℕ) → list_all is_int_number dims ≡ true → Spaced (flat_map size dims)
sizes_apart [] h = λ k rest e. tt
sizes_apart (n ∷ dims) h = λ k rest e.
    let c = and_parts (is_int_number n) (list_all is_int_number dims) h in
    (stands_left k _, refl, (stands_int false n _ c.0 refl, refl, (stands_right false _, refl, sizes_apart dims c.1 false rest e)))

ends_sizes : (dims : List ℕ) (rest : List ℕ) → Ends continues rest → Ends continues (text_of (flat_map size dims) ++ rest)
ends_sizes [] rest e = e
ends_sizes (n ∷ dims) rest e = refl

array_lines : (arrays : List Array) → list_all array_spelt arrays ≡ true → Lines (flat_map array_line arrays)
array_lines [] h = lines_nil
array_lines (a ∷ arrays) h =
    let k = and_parts (array_spelt a) (list_all array_spelt arrays) h in
    let l = and_parts (is_name a.name) (list_all is_int_number a.dims) k.0 in
    lines_append (array_line a) (flat_map array_line arrays)
    (line_lines [] (kind_words a.kind ++ (space ∷ name a.name ∷ (flat_map size a.dims ++ punctuator ";" ∷ []))) refl (λ rest.
    kind_apart true a.kind (space ∷ name a.name ∷ (flat_map size a.dims ++ punctuator ";" ∷ [])) (10 ∷ rest) refl
    (refl, apart_then false (name a.name ∷ flat_map size a.dims) (punctuator ";" ∷ []) (10 ∷ rest) (spaced_name a.name (flat_map size a.dims) l.0 (sizes_apart a.dims l.1) (ends_sizes a.dims)) refl (stands_semi _ (10 ∷ rest), refl, tt))))
    (array_lines arrays k.1)

function_lines : (f : List ℕ) → is_name f ≡ true → Lines (function_line f)
function_lines f n =
    line_lines [] (keyword "void" ∷ space ∷ name f ∷ punctuator "(" ∷ keyword "void" ∷ punctuator ")" ∷ space ∷ punctuator "{" ∷ []) refl
    (λ rest. (stands_keyword _ (codes "void") _ refl refl, refl, (refl, (stands_name _ f _ n refl, refl, (stands_open _ _, refl, (stands_keyword _ (codes "void") _ refl refl, refl, (stands_close _ _, refl, (refl, (stands_left_brace _ (10 ∷ rest), refl, tt)))))))))

-- each unit that can be written
pub unit_lines : (u : Unit) → IsSpelt u → Lines (unit_printed true u)
unit_lines u s =
    lines_append (front u) (all_of (layouts u u.body) [] (indentation 1) ++ close [])
    (lines_append (flat_map include_line u.includes) (flat_map array_line u.arrays ++ function_line u.function) (include_lines u.includes s.includes)
    (lines_append (flat_map array_line u.arrays) (function_line u.function) (array_lines u.arrays s.arrays) (function_lines u.function s.function)))
    (lines_append (all_of (layouts u u.body) [] (indentation 1)) (close []) (all_lines u [] (indentation 1) u.body (each_all (SpeltClaim u) (statement_spelt u) u.body) s.body refl) (close_lines [] refl))
