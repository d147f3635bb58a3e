-- Two actions on different elements, two reads, and two additions do the same in either order.
use Rattle.std.proofs.Common.{◌≡◌, refl, ap, sym, ◌∙◌, map, length, Bool, true, false, Some, inl, inr, ⊎_elim}
use Rattle.std.proofs.lemmas.Bool.{cases_Bool}
use Rattle.std.specs.Prelude.{if◌then◌else◌, unwrap_or, pos}
use Rattle.species_ast.specs.declared.action.Action.{Action}
use Rattle.species_ast.specs.declared.action.Action.TheVariants as action
use Rattle.species_ast.specs.declared.tree.Value.{Value}
use Rattle.species_ast.specs.declared.tree.Value.TheVariants.{Int}
use Rattle.species_ast.specs.Accesses.{Joins, Element, element_eq, Cells, look}
use Rattle.bones_meaning.specs.Acted.{acted, answer}
use Rattle.bones_meaning.specs.Plays.{element}
use Rattle.bones_commute.specs.Scripts.{Put, Plus, through}
use Rattle.bones_commute.specs.Swaps.{named, is_read, is_add, CanSwap, AreOfOtherOrder}
use Rattle.bones_commute.specs.Trades.{Trades}
use Rattle.bones_commute.proofs.Elements.{element_same, act_look, through_id, through_both, through_same}
use Rattle.bones_commute.proofs.Even.{sizes_act}
use Rattle.bones_commute.proofs.Steps.{cells_same}

-- the action names the element
abbrev names : Element → Action → Bool
names p (action.Read a i) = element_eq p (element a i)
names p (action.Write a i v) = element_eq p (element a i)
names p (action.Add a i v) = element_eq p (element a i)
names p action.Done = false
names p action.Fault = false

named_of : (p : Element) (x : Action) → names p x ≡ true → named x ≡ Some p
named_of p (action.Read a i) h = ap (λ e. Some e) (sym (element_same p (element a i) h))
named_of p (action.Write a i v) h = ap (λ e. Some e) (sym (element_same p (element a i) h))
named_of p (action.Add a i v) h = ap (λ e. Some e) (sym (element_same p (element a i) h))
named_of p action.Done h = absurd cc
named_of p action.Fault h = absurd cc

can_swap_back : (x y : Action) → CanSwap x y → CanSwap y x
can_swap_back x y (inl h) = inl (λ e a b. h e b a)
can_swap_back x y (inr (inl h)) = inr (inl (h.1, h.0))
can_swap_back x y (inr (inr h)) = inr (inr (h.1, h.0))

module _ (join : Joins) where
  -- an element's value after an action
  abbrev then_value : Action → Element → Value → Value
  then_value (action.Read a i) p c = c
  then_value (action.Write a i v) p c = if element_eq p (element a i) then v else c
  then_value (action.Add a i v) p c = if element_eq p (element a i) then join p.array c v else c
  then_value action.Done p c = c
  then_value action.Fault p c = c

  look_acted : (x : Action) (m : Cells) (p : Element) → look (acted join x m) p ≡ through (then_value x p) (look m p)
  look_acted (action.Read a i) m p = sym (through_id (look m p))
  look_acted (action.Write a i v) m p = act_look join (Put (element a i) v) m p
  look_acted (action.Add a i v) m p = act_look join (Plus (element a i) v) m p
  look_acted action.Done m p = sym (through_id (look m p))
  look_acted action.Fault m p = sym (through_id (look m p))

  sizes_acted : (x : Action) (m : Cells) → map length (acted join x m) ≡ map length m
  sizes_acted (action.Read a i) m = refl
  sizes_acted (action.Write a i v) m = sizes_act join (Put (element a i) v) m
  sizes_acted (action.Add a i v) m = sizes_act join (Plus (element a i) v) m
  sizes_acted action.Done m = refl
  sizes_acted action.Fault m = refl

  -- what an action does not name, it leaves
  unnamed : (x : Action) (p : Element) (c : Value) → names p x ≡ false → then_value x p c ≡ c
  unnamed (action.Read a i) p c h = refl
  unnamed (action.Write a i v) p c h = ap (λ b. if b then v else c) h
  unnamed (action.Add a i v) p c h = ap (λ b. if b then join p.array c v else c) h
  unnamed action.Done p c h = refl
  unnamed action.Fault p c h = refl

  -- a read leaves all
  read_leaves : (x : Action) (p : Element) (c : Value) → is_read x ≡ true → then_value x p c ≡ c
  read_leaves (action.Read a i) p c h = refl
  read_leaves (action.Write a i v) p c h = absurd cc
  read_leaves (action.Add a i v) p c h = absurd cc
  read_leaves action.Done p c h = refl
  read_leaves action.Fault p c h = refl

  -- an addition joins its value
  add_joins : (x : Action) (p : Element) → is_add x ≡ true → names p x ≡ true → (v : Value) × ((c : Value) → then_value x p c ≡ join p.array c v)
  add_joins (action.Read a i) p h n = absurd cc
  add_joins (action.Write a i v) p h n = absurd cc
  add_joins (action.Add a i v) p h n = (v, λ c. ap (λ b. if b then join p.array c v else c) n)
  add_joins action.Done p h n = absurd cc
  add_joins action.Fault p h n = absurd cc

module _ (join : Joins) (trades : Trades join) (x y : Action) (can : CanSwap x y) where
  on_named : (p : Element) (c : Value) → names p x ≡ true → names p y ≡ true → then_value join y p (then_value join x p c) ≡ then_value join x p (then_value join y p c)
  on_named p c nx ny = go can
    where
      go : CanSwap x y → then_value join y p (then_value join x p c) ≡ then_value join x p (then_value join y p c)
      go (inl others) = absurd (others p (named_of p x nx) (named_of p y ny))
      go (inr (inl reads)) = read_leaves join y p _ reads.1 ∙ ap (then_value join x p) (sym (read_leaves join y p c reads.1))
      go (inr (inr adds)) =
          let v = add_joins join x p adds.0 nx in
          let w = add_joins join y p adds.1 ny in
          w.1 (then_value join x p c) ∙ ap (λ d. join p.array d w.0) (v.1 c) ∙ trades p.array c v.0 w.0 ∙ ap (λ d. join p.array d v.0) (sym (w.1 c)) ∙ sym (v.1 (then_value join y p c))

  on_value : (p : Element) (c : Value) → then_value join y p (then_value join x p c) ≡ then_value join x p (then_value join y p c)
  on_value p c =
      elim (cases_Bool (names p x)) [
        | inl nx ↦ elim (cases_Bool (names p y)) [
          | inl ny ↦ on_named p c nx ny
          | inr n ↦ unnamed join y p _ n ∙ ap (then_value join x p) (sym (unnamed join y p c n))
        ]
        | inr n ↦ ap (then_value join y p) (unnamed join x p c n) ∙ sym (unnamed join x p _ n)
      ]

  pub arrays_swap : (m : Cells) → acted join y (acted join x m) ≡ acted join x (acted join y m)
  arrays_swap m =
      cells_same _ _ (sizes_acted join y (acted join x m) ∙ sizes_acted join x m ∙ sym (sizes_acted join x (acted join y m) ∙ sizes_acted join y m))
      (λ p.
      look_acted join y (acted join x m) p ∙ ap (through (then_value join y p)) (look_acted join x m p) ∙ through_both (then_value join x p) (then_value join y p) (look m p)
      ∙ through_same _ _ (look m p) (λ c h. on_value p c)
      ∙ sym (look_acted join x (acted join y m) p ∙ ap (through (then_value join x p)) (look_acted join y m p) ∙ through_both (then_value join y p) (then_value join x p) (look m p)))

-- what a read gives is the same before and after an action with which it can swap
answer_stays : (join : Joins) (x y : Action) → CanSwap x y → (m : Cells) → answer x (acted join y m) ≡ answer x m
answer_stays join (action.Read a i) y can m =
    let p = element a i in
    let leaves : (c : Value) → then_value join y p c ≡ c = λ c.
    elim (cases_Bool (names p y)) [
      | inl ny ↦ ⊎_elim (λ others. absurd (others p refl (named_of p y ny))) (λ rest. ⊎_elim (λ reads. read_leaves join y p c reads.1) (λ adds. absurd (not_add adds.0)) rest) can
      | inr n ↦ unnamed join y p c n
    ] in
    ap (λ o. Some (unwrap_or o (Int (pos 0)))) (look_acted join y m p ∙ through_same _ _ (look m p) (λ c h. leaves c) ∙ through_id (look m p))
  where
    not_add : is_add (action.Read a i) ≡ true → ⊥
    not_add h = cc
answer_stays join (action.Write a i v) y can m = refl
answer_stays join (action.Add a i v) y can m = refl
answer_stays join action.Done y can m = refl
answer_stays join action.Fault y can m = refl

-- the law
pub in_either_order : (join : Joins) → Trades join → (x y : Action) (old : Cells) → CanSwap x y
    → AreOfOtherOrder join x y old (acted join y (acted join x old)) (answer x old) (answer y (acted join x old))
in_either_order join trades x y old can =
    (arrays_swap join trades x y can old, sym (answer_stays join x y can old), answer_stays join y x (can_swap_back x y can) old)
