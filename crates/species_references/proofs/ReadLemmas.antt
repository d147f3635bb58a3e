-- Elements of expressions that are collected one part after another.
use Rattle.std.proofs.Common.{◌≡◌, refl, ap, sym, ◌∙◌, ℕ, ◌+◌, ◌<◌, ◌≤◌, Bool, true, List, [], ◌∷◌, ◌++◌, length, append_assoc, append-nil, take, take_all, get_or}
use Rattle.std.proofs.lemmas.List.{take_more}
use Rattle.species_ast.specs.declared.tree.Expr.{Expr}
use Rattle.species_ast.specs.Accesses.{Reads}
use Rattle.species_ast.specs.Scope.Hulls.{Range}
use Rattle.species_ast.specs.Scope.References.{Reference}
use Rattle.species_references.specs.Occurrences.{one_seen, seen_in, seen_in_all}

pub none_more : (old found : List Reference) → found ≡ [] → old ≡ old ++ found
none_more old found h = sym (append-nil old) ∙ ap (λ l. old ++ l) (sym h)

pub one_more : (value a ra : Expr) (path : List Range) (c : Bool) (old new : List Reference) → seen_in value path c ≡ seen_in a path c → ra ≡ a
    → new ≡ old ++ seen_in ra path c → new ≡ old ++ seen_in value path c
one_more value a ra path c old new e p h = h ∙ ap (λ x. old ++ seen_in x path c) p ∙ ap (λ l. old ++ l) (sym e)

pub two_lists : (old mid new xs ys : List Reference) → mid ≡ old ++ xs → new ≡ mid ++ ys → new ≡ old ++ (xs ++ ys)
two_lists old mid new xs ys h k = k ∙ ap (λ l. l ++ ys) h ∙ append_assoc old xs ys

pub two_more : (value a b ra rb : Expr) (path : List Range) (c d : Bool) (old mid new : List Reference) → seen_in value path c ≡ seen_in a path c ++ seen_in b path d → ra ≡ a → rb ≡ b
    → mid ≡ old ++ seen_in ra path c → new ≡ mid ++ seen_in rb path d → new ≡ old ++ seen_in value path c
two_more value a b ra rb path c d old mid new e p q h k =
    two_lists old mid new (seen_in a path c) (seen_in b path d) (h ∙ ap (λ x. old ++ seen_in x path c) p) (k ∙ ap (λ x. mid ++ seen_in x path d) q) ∙ ap (λ l. old ++ l) (sym e)

pub three_more : (value t a b rt ra rb : Expr) (path : List Range) (c : Bool) (old mid next new : List Reference)
    → seen_in value path c ≡ seen_in t path c ++ (seen_in a path true ++ seen_in b path true) → rt ≡ t → ra ≡ a → rb ≡ b
    → mid ≡ old ++ seen_in rt path c → next ≡ mid ++ seen_in ra path true → new ≡ next ++ seen_in rb path true → new ≡ old ++ seen_in value path c
three_more value t a b rt ra rb path c old mid next new e p q r h k l =
    two_lists old mid new (seen_in t path c) (seen_in a path true ++ seen_in b path true) (h ∙ ap (λ x. old ++ seen_in x path c) p)
    (two_lists mid next new (seen_in a path true) (seen_in b path true) (k ∙ ap (λ x. mid ++ seen_in x path true) q) (l ∙ ap (λ x. next ++ seen_in x path true) r)) ∙ ap (λ l. old ++ l) (sym e)

pub all-append : (xs ys : List Expr) (path : List Range) (c : Bool) → seen_in_all (xs ++ ys) path c ≡ seen_in_all xs path c ++ seen_in_all ys path c
all-append [] ys path c = refl
all-append (x ∷ xs) ys path c = ap (λ l. seen_in x path c ++ l) (all-append xs ys path c) ∙ sym (append_assoc (seen_in x path c) (seen_in_all xs path c) (seen_in_all ys path c))

pub next_more : (all : List Expr) (i : ℕ) (x : Expr) (path : List Range) (c : Bool) (first old new : List Reference) → x ≡ get_or all i x → i < length all
    → new ≡ old ++ seen_in x path c → old ≡ first ++ seen_in_all (take i all) path c → new ≡ first ++ seen_in_all (take (i + 1) all) path c
next_more all i x path c first old new at within h k =
    let items : take (i + 1) all ≡ take i all ++ x ∷ [] = take_more all i x within ∙ ap (λ y. take i all ++ y ∷ []) (sym at) in
    two_lists first old new (seen_in_all (take i all) path c) (seen_in x path c) k h
    ∙ ap (λ l. first ++ l) (sym (ap (λ l. seen_in_all l path c) items ∙ all-append (take i all) (x ∷ []) path c ∙ ap (λ l. seen_in_all (take i all) path c ++ l) (append-nil (seen_in x path c))))

pub last_more : (all : List Expr) (i : ℕ) (path : List Range) (c : Bool) (first old : List Reference) → length all ≤ i → old ≡ first ++ seen_in_all (take i all) path c → old ≡ first ++ seen_in_all all path c
last_more all i path c first old past h = h ∙ ap (λ l. first ++ seen_in_all l path c) (take_all i all past)

pub elem_more : (value : Expr) (a : ℕ) (subs p q : List Expr) (path : List Range) (c : Bool) (old mid new : List Reference)
    → seen_in value path c ≡ seen_in_all subs path c ++ one_seen Reads a subs path c ∷ [] → p ≡ subs → q ≡ subs
    → mid ≡ old ++ seen_in_all p path c → new ≡ mid ++ one_seen Reads a q path c ∷ [] → new ≡ old ++ seen_in value path c
elem_more value a subs p q path c old mid new e same again h k =
    two_lists old mid new (seen_in_all subs path c) (one_seen Reads a subs path c ∷ []) (h ∙ ap (λ x. old ++ seen_in_all x path c) same) (k ∙ ap (λ x. mid ++ one_seen Reads a x path c ∷ []) again)
    ∙ ap (λ l. old ++ l) (sym e)
