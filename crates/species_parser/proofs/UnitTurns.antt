-- A unit, item by item.
use Rattle.std.proofs.Common.{◌≡◌, ◌∙◌, ap, sym, refl, List, [], ◌∷◌, ◌++◌, Bool, true, false, ℕ, Option, Some, None, append_assoc, append-nil}
use Rattle.species_grammar.specs.Reader.{Answer, Reader, ◌>>=◌, is_of, starts, word, nothing, both, mapped, choose, skip, maybe_word}
use Rattle.species_grammar.proofs.Free.{choose_then, choose_else}
use Rattle.species_grammar.proofs.Same.{mapped_mapped, mapped_skip_as}
use Rattle.species_ast.specs.Token.{Token}
use Rattle.species_ast.specs.Spelling.{Spelling}
use Rattle.species_ast.specs.Grammar.Units.{after}
use Rattle.species_ast.specs.declared.raw.RawItem.{RawItem}
use Rattle.species_ast.specs.declared.raw.RawItem.TheVariants as items_of
use Rattle.species_ast.specs.declared.raw.RawStmt.{RawStmt}
use Rattle.species_ast.specs.declared.raw.RawUnit.{RawUnit}
use Rattle.species_parser.specs.Words.{the_punctuator, the_keyword, names, includes, is_the_keyword}
use Rattle.species_parser.specs.Reading.{include_of, after_of, function_of, external_reader, unstatic}
use Rattle.species_parser.specs.Parsing.{function, global, items, unit, unit_form, next_item, function_behind, unit_with, with_items, after_items}
use Rattle.species_parser.proofs.Forms.{unit_is}

-- what follows an item, or none
abbrev pub turn : List RawItem → Option RawItem → Reader Token RawUnit
turn xs None us = function_behind xs us
turn xs (Some i) us = after_items (xs ++ i ∷ []) (unit us)

-- ---- the function

abbrev FunctionParts : Type 0
FunctionParts = Spelling × (Option ℕ × List RawStmt)

-- what stands behind `void`
abbrev function_parts : Reader Token FunctionParts
function_parts = both (word names) (skip (the_punctuator "(") (both (maybe_word (the_keyword "void")) (skip (the_punctuator ")") (skip (the_punctuator "{") items))))

no_items_more : (xs : List RawItem) (p : FunctionParts) → with_items xs (function_of p) ≡ unit_with xs p
no_items_more xs p = ap (λ z. unit_with z p) (append-nil xs)

parts_with : (xs : List RawItem) (ts : List Token) → mapped (with_items xs) (mapped function_of function_parts) ts ≡ mapped (unit_with xs) function_parts ts
parts_with xs ts = mapped_mapped (with_items xs) function_of function_parts ts ∙ go (function_parts ts)
  where
    go : (a : Answer Token FunctionParts) → (a >>= (λ p rest. Answer.read (with_items xs (function_of p)) rest)) ≡ (a >>= (λ p rest. Answer.read (unit_with xs p) rest))
    go (Answer.read p rest) = ap (λ u. Answer.read u rest) (no_items_more xs p)
    go (Answer.stuck us) = refl
    go Answer.shallow = refl

function_turn : (xs : List RawItem) (ts : List Token) → after_items xs (function ts) ≡ function_behind xs ts
unfolding function function_behind
function_turn xs ts = mapped_skip_as (with_items xs) (the_keyword "void") (mapped function_of function_parts) (mapped (unit_with xs) function_parts) (parts_with xs) ts

-- ---- an item and the unit behind it

one_more : (xs : List RawItem) (i : RawItem) (u : RawUnit) → with_items xs (after i u) ≡ with_items (xs ++ i ∷ []) u
one_more xs i u = ap (λ z. record u { items = z }) (sym (append_assoc xs (i ∷ []) u.items))

abbrev paired : {A B : Type 0} → A → B → Reader Token (A × B)
paired x y rest = Answer.read (x, y) rest

include_joined : (xs : List RawItem) (n : Spelling) (a : Answer Token RawUnit) → after_items xs (a >>= paired n >>= (λ p rest. Answer.read (include_of p) rest)) ≡ after_items (xs ++ items_of.Include n ∷ []) a
include_joined xs n (Answer.read u rest) = ap (λ z. Answer.read z rest) (one_more xs (items_of.Include n) u)
include_joined xs n (Answer.stuck ts) = refl
include_joined xs n Answer.shallow = refl

global_joined : (xs : List RawItem) (g : RawItem) (a : Answer Token RawUnit) → after_items xs (a >>= paired g >>= (λ p rest. Answer.read (after_of p) rest)) ≡ after_items (xs ++ g ∷ []) a
global_joined xs g (Answer.read u rest) = ap (λ z. Answer.read z rest) (one_more xs g u)
global_joined xs g (Answer.stuck ts) = refl
global_joined xs g Answer.shallow = refl

-- ---- a turn of the loop

abbrev external : Reader Token RawUnit
external = external_reader function global unit

abbrev next_external : Reader Token (Option RawItem)
next_external = choose (is_the_keyword "void") (nothing None) (mapped Some global)

external_turn : (xs : List RawItem) (us : List Token) → after_items xs (external us) ≡ (next_external us >>= turn xs)
external_turn xs us = go (starts (is_the_keyword "void") us) refl
  where
    globals : (a : Answer Token RawItem) → after_items xs ((a >>= (λ g vs. unit vs >>= paired g)) >>= (λ p rest. Answer.read (after_of p) rest)) ≡ ((a >>= (λ g vs. Answer.read (Some g) vs)) >>= turn xs)
    globals (Answer.read g vs) = global_joined xs g (unit vs)
    globals (Answer.stuck vs) = refl
    globals Answer.shallow = refl

    go : (b : Bool) → starts (is_the_keyword "void") us ≡ b → after_items xs (external us) ≡ (next_external us >>= turn xs)
    go true e =
        ap (after_items xs) (choose_then (is_the_keyword "void") function (mapped after_of (both global unit)) us e)
        ∙ function_turn xs us
        ∙ ap (λ a. a >>= turn xs) (sym (choose_then (is_the_keyword "void") (nothing None) (mapped Some global) us e))
    go false e =
        ap (after_items xs) (choose_else (is_the_keyword "void") function (mapped after_of (both global unit)) us e)
        ∙ globals (global us)
        ∙ ap (λ a. a >>= turn xs) (sym (choose_else (is_the_keyword "void") (nothing None) (mapped Some global) us e))

unstatic_kept : {A : Type 0} (b : Option ℕ) (a : Answer Token A) → (a >>= paired b >>= (λ p rest. Answer.read p.1 rest)) ≡ a
unstatic_kept b (Answer.read x rest) = refl
unstatic_kept b (Answer.stuck ts) = refl
unstatic_kept b Answer.shallow = refl

pub unit_turn : (xs : List RawItem) (ts : List Token) → after_items xs (unit ts) ≡ (next_item ts >>= turn xs)
unfolding unit_form next_item
unit_turn xs ts = ap (after_items xs) (unit_is ts) ∙ go (starts (is_of includes) ts) refl
  where
    with_include : Reader Token RawUnit
    with_include = mapped include_of (both (word includes) unit)

    with_static : Reader Token RawUnit
    with_static = mapped unstatic (both (maybe_word (the_keyword "static")) external)

    next_include : Reader Token (Option RawItem)
    next_include = mapped (λ n. Some (items_of.Include n)) (word includes)

    next_static : Reader Token (Option RawItem)
    next_static = mapped (λ p. p.1) (both (maybe_word (the_keyword "static")) next_external)

    included : (a : Answer Token Spelling) → after_items xs ((a >>= (λ n us. unit us >>= paired n)) >>= (λ p rest. Answer.read (include_of p) rest)) ≡ ((a >>= (λ n us. Answer.read (Some (items_of.Include n)) us)) >>= turn xs)
    included (Answer.read n us) = include_joined xs n (unit us)
    included (Answer.stuck us) = refl
    included Answer.shallow = refl

    others : (a : Answer Token (Option ℕ)) → after_items xs ((a >>= (λ b us. external us >>= paired b)) >>= (λ p rest. Answer.read (unstatic p) rest))
        ≡ (((a >>= (λ b us. next_external us >>= paired b)) >>= (λ p rest. Answer.read p.1 rest)) >>= turn xs)
    others (Answer.read b us) = ap (after_items xs) (unstatic_kept b (external us)) ∙ external_turn xs us ∙ ap (λ a. a >>= turn xs) (sym (unstatic_kept b (next_external us)))
    others (Answer.stuck us) = refl
    others Answer.shallow = refl

    go : (b : Bool) → starts (is_of includes) ts ≡ b → after_items xs (choose (is_of includes) with_include with_static ts) ≡ (choose (is_of includes) next_include next_static ts >>= turn xs)
    go true e =
        ap (after_items xs) (choose_then (is_of includes) with_include with_static ts e)
        ∙ included (word includes ts)
        ∙ ap (λ a. a >>= turn xs) (sym (choose_then (is_of includes) next_include next_static ts e))
    go false e =
        ap (after_items xs) (choose_else (is_of includes) with_include with_static ts e)
        ∙ others (maybe_word (the_keyword "static") ts)
        ∙ ap (λ a. a >>= turn xs) (sym (choose_else (is_of includes) next_include next_static ts e))

pub unit_start : (a : Answer Token RawUnit) → a ≡ after_items [] a
unit_start (Answer.read u rest) = refl
unit_start (Answer.stuck ts) = refl
unit_start Answer.shallow = refl
