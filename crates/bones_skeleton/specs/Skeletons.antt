-- The skeletons: which one a nest has, its schedule (OpenMP 4.5, 2.7.1) and its template.
use Rattle.std.specs.Prelude.{ℕ, Bool, true, false, List, [], ◌∷◌, ◌++◌, codes, find, Option, Some, None}
use Rattle.std.specs.List.{list_any}
use Rattle.species_arcs.specs.declared.shapes.Word.{Word}
use Rattle.species_arcs.specs.declared.shapes.Word.TheVariants as word
use Rattle.species_ast.specs.declared.tree.Schedule.{Schedule}
use Rattle.species_ast.specs.declared.tree.Schedule.TheVariants as schedule
use Rattle.bones_skeleton.specs.declared.Skeleton.{Skeleton}
use Rattle.bones_skeleton.specs.declared.Skeleton.TheVariants as skeleton

abbrev pub is_word : Word → Word → Bool
is_word word.Element word.Element = true
is_word word.Neighbourhood word.Neighbourhood = true
is_word word.Chunk word.Chunk = true
is_word word.Full word.Full = true
is_word word.Shared word.Shared = true
is_word _ _ = false

-- one of the words is this one
abbrev pub is_among : List Word → Word → Bool
is_among words w = list_any (is_word w) words

-- the words in the order in which they decide
abbrev pub deciding : List Word
deciding = word.Shared ∷ word.Neighbourhood ∷ word.Chunk ∷ word.Full ∷ word.Element ∷ []

-- the skeleton of a word; a nest without arcs has that of an element
abbrev pub skeleton_for : Option Word → Skeleton
skeleton_for None = skeleton.Element
skeleton_for (Some word.Element) = skeleton.Element
skeleton_for (Some word.Neighbourhood) = skeleton.Neighbourhood
skeleton_for (Some word.Chunk) = skeleton.Chunk
skeleton_for (Some word.Full) = skeleton.Full
skeleton_for (Some word.Shared) = skeleton.Shared

-- the skeleton of a nest whose arcs have these words
abbrev pub chosen : List Word → Skeleton
chosen words = skeleton_for (find (is_among words) deciding)

abbrev pub schedule_of : Skeleton → Schedule
schedule_of skeleton.Element = schedule.Static
schedule_of skeleton.Neighbourhood = schedule.StaticBy 64
schedule_of skeleton.Chunk = schedule.StaticBy 1
schedule_of skeleton.Full = schedule.Guided
schedule_of skeleton.Shared = schedule.DynamicBy 64

abbrev pub clause_text : Skeleton → List ℕ
clause_text skeleton.Element = codes "schedule(static)"
clause_text skeleton.Neighbourhood = codes "schedule(static, 64)"
clause_text skeleton.Chunk = codes "schedule(static, 1)"
clause_text skeleton.Full = codes "schedule(guided)"
clause_text skeleton.Shared = codes "schedule(dynamic, 64)"

abbrev pub template_text : Skeleton → List ℕ
template_text s =
    codes "<indent>#pragma species <species>\n<indent>#pragma omp parallel for<collapse> "
    ++ (clause_text s ++ codes "\n<loop>\n")
