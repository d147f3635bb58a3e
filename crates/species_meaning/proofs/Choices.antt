-- What an expression gives with its kind, from what its parts give with theirs.
use Rattle.std.proofs.Common.{◌≡◌, ap, sym, ◌∙◌, Bool, true, false, if◌then◌else◌, Result, Ok, Err, pos}
use Rattle.species_ast.specs.declared.tree.Kind.{Kind}
use Rattle.species_ast.specs.declared.tree.Kind.TheVariants as kind
use Rattle.species_ast.specs.declared.tree.Value.{Value}
use Rattle.species_ast.specs.declared.tree.Value.TheVariants.{Int}
use Rattle.species_ast.specs.declared.tree.Binary.{Binary}
use Rattle.species_ast.specs.declared.tree.Expr.{Expr}
use Rattle.species_ast.specs.declared.tree.Expr.TheVariants as expr
use Rattle.species_ast.specs.declared.trap.Trap.{Trap}
use Rattle.species_ast.specs.Operators.{joint, converted, is_true, binary_of, binary_kind}
use Rattle.species_ast.specs.Accesses.{Cells}
use Rattle.species_ast.specs.Evaluation.{Frame, Context}
use Rattle.species_meaning.specs.declared.expressions.Typed.{Typed}
use Rattle.species_meaning.specs.Answers.{typed}
use Rattle.species_meaning.specs.Effects.{and_then, Reads, reads, value, answer_in}
use Rattle.species_meaning.proofs.Law.{reads-Binary, reads-Cond}

abbrev value_in : Result Typed Trap → Value
value_in (Ok t) = t.value
value_in (Err why) = Int (pos 0)

abbrev kind_in : Result Typed Trap → Kind
kind_in (Ok t) = t.kind
kind_in (Err why) = kind.Int

typed_gives : (e : Reads) (f : Frame) (m : Cells) (t : Typed) → typed e f m ≡ Ok t → e.gives f m ≡ Ok t.value
typed_gives e f m t h = go (e.gives f m) h
  where
    go : (r : Result Value Trap) → and_then r (λ v. Ok (record { value = v; kind = e.kind })) ≡ Ok t → r ≡ Ok t.value
    go (Ok v) h = ap (λ r. Ok (value_in r)) h
    go (Err why) h = cc

typed_kind : (e : Reads) (f : Frame) (m : Cells) (t : Typed) → typed e f m ≡ Ok t → e.kind ≡ t.kind
typed_kind e f m t h = go (e.gives f m) h
  where
    go : (r : Result Value Trap) → and_then r (λ v. Ok (record { value = v; kind = e.kind })) ≡ Ok t → e.kind ≡ t.kind
    go (Ok v) h = ap kind_in h
    go (Err why) h = cc

typed_from : (e : Reads) (f : Frame) (m : Cells) (t : Typed) → e.gives f m ≡ Ok t.value → e.kind ≡ t.kind → typed e f m ≡ Ok t
typed_from e f m t p q =
    ap (λ r. and_then r (λ v. Ok (record { value = v; kind = e.kind }))) p ∙ ap (λ k. Ok (record { value = t.value; kind = k })) q

pub typed_binary : (w : Context) (op : Binary) (a b : Expr) (f : Frame) (m : Cells) (x y : Typed) → typed (reads w a) f m ≡ Ok x → typed (reads w b) f m ≡ Ok y
    → typed (reads w (expr.Binary op a b)) f m ≡ and_then (answer_in (binary_of op x.value y.value)) (λ v. Ok (record { value = v; kind = binary_kind op x.kind y.kind }))
typed_binary w op a b f m x y p q =
    let e = reads w a in
    let d = reads w b in
    ap (λ r. typed r f m) (reads-Binary w op a b)
    ∙ ap (λ g. and_then (and_then g (λ x. and_then (d.gives f m) (λ y. answer_in (binary_of op x y)))) (λ v. Ok (record { value = v; kind = binary_kind op e.kind d.kind }))) (typed_gives e f m x p)
    ∙ ap (λ g. and_then (and_then g (λ y. answer_in (binary_of op x.value y))) (λ v. Ok (record { value = v; kind = binary_kind op e.kind d.kind }))) (typed_gives d f m y q)
    ∙ (λ i. and_then (answer_in (binary_of op x.value y.value)) (λ v. Ok (record { value = v; kind = binary_kind op (typed_kind e f m x p i) (typed_kind d f m y q i) })))

-- a choice whose test gave this truth
chosen : (w : Context) (c a b : Expr) (f : Frame) (m : Cells) (x : Value) (passed : Bool) → value w c f m ≡ Ok x → is_true x ≡ passed
    → value w (expr.Cond c a b) f m ≡ and_then (if passed then value w a f m else value w b f m) (λ v. Ok (converted (joint (reads w a).kind (reads w b).kind) v))
chosen w c a b f m x passed p q =
    let e = reads w a in
    let d = reads w b in
    ap (λ r. r.gives f m) (reads-Cond w c a b)
    ∙ ap (λ g. and_then g (λ x. and_then (if is_true x then e.gives f m else d.gives f m) (λ v. Ok (converted (joint e.kind d.kind) v)))) p
    ∙ ap (λ t. and_then (if t then e.gives f m else d.gives f m) (λ v. Ok (converted (joint e.kind d.kind) v))) q

pub first_chosen : (w : Context) (c a b : Expr) (f : Frame) (m : Cells) (x : Value) (t : Typed) (k : Kind) → value w c f m ≡ Ok x → is_true x ≡ true
    → typed (reads w a) f m ≡ Ok t → k ≡ (reads w b).kind → value w (expr.Cond c a b) f m ≡ Ok (converted (joint t.kind k) t.value)
first_chosen w c a b f m x t k p q r s =
    chosen w c a b f m x true p q
    ∙ ap (λ g. and_then g (λ v. Ok (converted (joint (reads w a).kind (reads w b).kind) v))) (typed_gives (reads w a) f m t r)
    ∙ (λ i. Ok (converted (joint (typed_kind (reads w a) f m t r i) (sym s i)) t.value))

pub second_chosen : (w : Context) (c a b : Expr) (f : Frame) (m : Cells) (x : Value) (t : Typed) (k : Kind) → value w c f m ≡ Ok x → is_true x ≡ false
    → typed (reads w b) f m ≡ Ok t → k ≡ (reads w a).kind → value w (expr.Cond c a b) f m ≡ Ok (converted (joint k t.kind) t.value)
second_chosen w c a b f m x t k p q r s =
    chosen w c a b f m x false p q
    ∙ ap (λ g. and_then g (λ v. Ok (converted (joint (reads w a).kind (reads w b).kind) v))) (typed_gives (reads w b) f m t r)
    ∙ (λ i. Ok (converted (joint (sym s i) (typed_kind (reads w b) f m t r i)) t.value))

pub first_typed : (w : Context) (c a b : Expr) (f : Frame) (m : Cells) (x : Value) (t : Typed) (k : Kind) → value w c f m ≡ Ok x → is_true x ≡ true
    → typed (reads w a) f m ≡ Ok t → k ≡ (reads w b).kind
    → typed (reads w (expr.Cond c a b)) f m ≡ Ok (record { value = converted (joint t.kind k) t.value; kind = joint t.kind k })
first_typed w c a b f m x t k p q r s =
    typed_from (reads w (expr.Cond c a b)) f m _ (first_chosen w c a b f m x t k p q r s)
    (ap (λ e. e.kind) (reads-Cond w c a b) ∙ (λ i. joint (typed_kind (reads w a) f m t r i) (sym s i)))

pub second_typed : (w : Context) (c a b : Expr) (f : Frame) (m : Cells) (x : Value) (t : Typed) (k : Kind) → value w c f m ≡ Ok x → is_true x ≡ false
    → typed (reads w b) f m ≡ Ok t → k ≡ (reads w a).kind
    → typed (reads w (expr.Cond c a b)) f m ≡ Ok (record { value = converted (joint k t.kind) t.value; kind = joint k t.kind })
second_typed w c a b f m x t k p q r s =
    typed_from (reads w (expr.Cond c a b)) f m _ (second_chosen w c a b f m x t k p q r s)
    (ap (λ e. e.kind) (reads-Cond w c a b) ∙ (λ i. joint (sym s i) (typed_kind (reads w b) f m t r i)))
