-- Iterators that expressions name.
use Rattle.std.proofs.Common.{◌≡◌, ◌∙◌, refl, sym, ap, ℕ, ◌+◌, ◌<◌, List, [], ◌∷◌, ◌++◌, map, take, length, get_or, Bool, true, false, ◌||◌, nat_eq, append-nil}
use Rattle.std.specs.List.{flat_map}
use Rattle.std.proofs.lemmas.List.{map-append, take_more}
use Rattle.std.proofs.lemmas.Grind.{flat_map-append}
use Rattle.species_ast.specs.declared.tree.Expr.{Expr}
use Rattle.species_ast.specs.Scope.Forms.{iterators_in}
use Rattle.species_ast.specs.Scope.Meanings.{is_among}
use Rattle.species_loops.specs.Bands.{iterators_of_all}

or_assoc : (a b c : Bool) → (a || (b || c)) ≡ ((a || b) || c)
or_assoc true b c = refl
or_assoc false b c = refl

pub among-append : (xs ys : List ℕ) (n : ℕ) → is_among (xs ++ ys) n ≡ (is_among xs n || is_among ys n)
among-append [] ys n = refl
among-append (x ∷ xs) ys n = ap (λ b. nat_eq n x || b) (among-append xs ys n) ∙ or_assoc (nat_eq n x) (is_among xs n) (is_among ys n)

one_more : (es : List Expr) (i : ℕ) (e : Expr) → e ≡ get_or es i e → i < length es → iterators_of_all (take (i + 1) es) ≡ iterators_of_all (take i es) ++ iterators_in e
one_more es i e at within =
    ap iterators_of_all (take_more es i e within ∙ ap (λ y. take i es ++ y ∷ []) (sym at))
    ∙ ap (flat_map (λ is. is)) (map-append iterators_in (take i es) (e ∷ []))
    ∙ flat_map-append (λ is. is) (map iterators_in (take i es)) (iterators_in e ∷ [])
    ∙ ap (λ l. iterators_of_all (take i es) ++ l) (append-nil (iterators_in e))

pub named_next : (level : ℕ) (es : List Expr) (i : ℕ) (e : Expr) (found here next : Bool) → found ≡ is_among (iterators_of_all (take i es)) level
    → e ≡ get_or es i e → i < length es → here ≡ is_among (iterators_in e) level → next ≡ (found || here)
    → next ≡ is_among (iterators_of_all (take (i + 1) es)) level
named_next level es i e found here next h at within there more =
    more ∙ (λ j. h j || there j) ∙ sym (among-append (iterators_of_all (take i es)) (iterators_in e) level)
    ∙ ap (λ l. is_among l level) (sym (one_more es i e at within))
