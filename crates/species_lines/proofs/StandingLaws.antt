-- The innermost loop of a band has the nest's body, and its own references are those of the nest.
use Rattle.std.proofs.Common.{◌≡◌, refl, ap, sym, ◌∙◌, ℕ, zero, suc, List, [], ◌∷◌, ◌++◌, map, Option, Some, None}
use Rattle.species_ast.specs.declared.tree.Loop.{Loop, out-Loop}
use Rattle.species_ast.specs.Scope.Hulls.{Range, range_of}
use Rattle.species_ast.specs.Scope.References.{Adding, list_references, stmt_references, references_of}
use Rattle.species_nests.specs.Arrivals.{Running}
use Rattle.species_nests.specs.Nests.{Placed, only, Nest, nest_in}
use Rattle.species_nests.proofs.NestLaws.{under}
use Rattle.species_nests.proofs.RunningLaws.{loops_of_nest}
use Rattle.species_occurrences.specs.Iterators.{ranges_of}
use Rattle.species_occurrences.proofs.NestLaws.{unconditional}
use Rattle.species_occurrences.proofs.NestReferences as refs
use Rattle.species_lines.specs.Lines.{Standing, standing_nest, band_loops, nest_references, IsInnermost}

-- ---- the last loop

abbrev last_loop : Loop → List Loop → Loop
last_loop l [] = l
last_loop l (x ∷ xs) = last_loop x xs

last_behind : (d : Loop) (xs : List Loop) (y : Loop) (ys : List Loop) → last_loop d (xs ++ y ∷ ys) ≡ last_loop y ys
last_behind d [] y ys = refl
last_behind d (x ∷ xs) y ys = last_behind x xs y ys

abbrev HasBodyOf : Loop → Nest → Type 0
HasBodyOf l n = n.body ≡ (out-Loop (last_loop l (loops_of_nest n.loops))).body

has_body : (d : ℕ) (l : Loop) (at : List ℕ) → HasBodyOf l (nest_in d (out-Loop l).body at)
has_body zero l at = refl
has_body (suc d) l at = go (λ k here. has_body d k here) (only (out-Loop l).body at)
  where
    go : ((k : Loop) (here : List ℕ) → HasBodyOf k (nest_in d (out-Loop k).body here)) → (o : Option Placed) → HasBodyOf l (under d (out-Loop l).body at o)
    go ih None = refl
    go ih (Some p) = ih p.loop p.at

innermost_is : (s : Standing) (r : Running) → IsInnermost s r → last_loop s.head (loops_of_nest (nest_in s.below (out-Loop s.head).body s.at).loops) ≡ r.loop
innermost_is s r h =
    sym (last_behind r.loop s.around s.head (loops_of_nest (nest_in s.below (out-Loop s.head).body s.at).loops))
    ∙ ap (last_loop r.loop) (sym h.loops) ∙ last_behind r.loop r.around r.loop []

pub innermost_body : (s : Standing) (r : Running) → IsInnermost s r → (standing_nest s).body ≡ (out-Loop r.loop).body
innermost_body s r h = has_body s.below s.head s.at ∙ ap (λ (l : Loop). (out-Loop l).body) (innermost_is s r h)

-- ---- references

pub ranges_append : (path : List Range) (ls ks : List Loop) → ranges_of path (ls ++ ks) ≡ ranges_of (ranges_of path ls) ks
ranges_append path [] ks = refl
ranges_append path (l ∷ ls) ks = ranges_append (path ++ range_of path (out-Loop l) ∷ []) ls ks

pub own_references : (adds : Adding) (s : Standing) (r : Running) → IsInnermost s r → nest_references adds s ≡ references_of adds r.loop r.at (ranges_of [] r.around) 1
own_references adds s r h =
    let n = standing_nest s in
    let bodies : n.body ≡ (out-Loop r.loop).body = innermost_body s r h in
    let places : n.at ≡ r.at = sym h.at in
    let ranges : ranges_of (ranges_of [] s.around) (band_loops s) ≡ ranges_of (ranges_of [] r.around) (r.loop ∷ []) =
    sym (ranges_append [] s.around (band_loops s)) ∙ ap (ranges_of []) (sym h.loops) ∙ ranges_append [] r.around (r.loop ∷ []) in
    refs.nest_references adds s.below s.head s.at (ranges_of [] s.around)
    ∙ (λ i. list_references (map (stmt_references adds) (bodies i)) (unconditional (places i) (ranges i)) 0 0)
    ∙ sym (refs.nest_references adds 0 r.loop r.at (ranges_of [] r.around))
