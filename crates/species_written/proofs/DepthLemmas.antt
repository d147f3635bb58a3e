-- The depth of a parallel pragma is at least 1.
use Rattle.std.proofs.Common.{◌≡◌, refl, ℕ, Bool, true, false, List, [], ◌∷◌, Option, Some, None, arith}
use Rattle.std.proofs.lemmas.Bool.{and_parts, le-leb, leb-true}
use Rattle.std.specs.Prelude.{◌&&◌, nat_le, if◌then◌else◌, codes, option_and_then, option_map}
use Rattle.species_ast.specs.declared.tree.Schedule.{Schedule}
use Rattle.species_ast.specs.declared.token.TokenKind.{TokenKind}
use Rattle.species_ast.specs.declared.token.TokenKind.TheVariants as kind
use Rattle.species_ast.specs.Text.Numbers.{literal_of, or_else}
use Rattle.species_ast.specs.Text.Parts.{Part, after_words}
use Rattle.species_ast.specs.Text.Pragmas.{int_of, schedule_of, deep, depth_in, depth_behind, depth_of, parallel_with, parallel_of, atomic_of, openmp_of}

-- a kind of token that has a depth has one of at least 1
abbrev pub is_deep : TokenKind → Bool
is_deep (kind.Parallel d s) = nat_le 1 d
is_deep _ = true

abbrev IsDepth : Option (ℕ × List Part) → Type 0
IsDepth None = Unit {0}
IsDepth (Some x) = nat_le 1 x.0 ≡ true

abbrev pub IsDeep : Option TokenKind → Type 0
IsDeep None = Unit {0}
IsDeep (Some k) = is_deep k ≡ true

deep_depth : (n : ℕ) (ps : List Part) → IsDepth (deep n ps)
deep_depth n ps = go (nat_le 2 n && nat_le n 8) refl
  where
    one : (n : ℕ) → nat_le 2 n ≡ true → nat_le 1 n ≡ true
    one n e = le-leb 1 n (omega (arith, leb-true 2 n e))

    go : (c : Bool) → (nat_le 2 n && nat_le n 8) ≡ c → IsDepth (if c then Some (n, ps) else None)
    go false e = tt
    go true e = one n (and_parts (nat_le 2 n) (nat_le n 8) e).0

then_depth : (f : List Part → Option (ℕ × List Part)) (o : Option (List Part)) → ((ps : List Part) → IsDepth (f ps)) → IsDepth (option_and_then f o)
then_depth f None h = tt
then_depth f (Some ps) h = h ps

in_depth : (ps : List Part) → IsDepth (depth_in ps)
in_depth [] = tt
in_depth (n ∷ ps) =
    then_depth (deep (int_of (literal_of n.text))) (after_words (codes ")" ∷ []) ps) (deep_depth (int_of (literal_of n.text)))

behind_depth : (ps : List Part) (o : Option (List Part)) → IsDepth (depth_behind ps o)
behind_depth ps None = refl
behind_depth ps (Some others) = in_depth others

deep_with : (p : ℕ × List Part) → nat_le 1 p.0 ≡ true → IsDeep (parallel_with p)
deep_with p h = go (schedule_of p.1)
  where
    go : (o : Option Schedule) → IsDeep (option_map (kind.Parallel p.0) o)
    go None = tt
    go (Some s) = h

deep_parallel : (ps : List Part) → IsDeep (parallel_of ps)
deep_parallel ps =
    go (depth_of ps) (behind_depth ps (after_words (codes "collapse" ∷ codes "(" ∷ []) ps))
  where
    go : (o : Option (ℕ × List Part)) → IsDepth o → IsDeep (option_and_then parallel_with o)
    go None h = tt
    go (Some p) h = deep_with p h

deep_atomic : (ps : List Part) → IsDeep (atomic_of ps)
deep_atomic [] = refl
deep_atomic (p ∷ ps) = tt

then_deep : (f : List Part → Option TokenKind) (o : Option (List Part)) → ((ps : List Part) → IsDeep (f ps)) → IsDeep (option_and_then f o)
then_deep f None h = tt
then_deep f (Some ps) h = h ps

or_deep : (a b : Option TokenKind) → IsDeep a → IsDeep b → IsDeep (or_else a b)
or_deep None b x y = y
or_deep (Some k) b x y = x

pub deep_openmp : (ps : List Part) → IsDeep (openmp_of ps)
unfolding openmp_of
deep_openmp ps =
    let loop = after_words (codes "omp" ∷ codes "parallel" ∷ codes "for" ∷ []) ps in
    let update = after_words (codes "omp" ∷ codes "atomic" ∷ codes "update" ∷ []) ps in
    or_deep (option_and_then parallel_of loop) (option_and_then atomic_of update) (then_deep parallel_of loop deep_parallel) (then_deep atomic_of update deep_atomic)
