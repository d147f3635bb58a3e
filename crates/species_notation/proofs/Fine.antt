-- What can be written and read back, by cases.
use Rattle.std.proofs.Common.{◌≡◌, ◌≢◌, ℕ, ◌+◌, ◌<◌, ◌≤◌, ◌-ℤ◌, pos, Bool, true, false, List, [], ◌∷◌, length}
use Rattle.std.specs.Prelude.{bytes_eq, int_le}
use Rattle.std.specs.Int.RustNames.{unsigned_abs}
use Rattle.species_ast.specs.Names.{is_name}
use Rattle.species_linear.specs.declared.forms.Form.{Form}
use Rattle.species_linear.specs.declared.forms.Term.{Term}
use Rattle.species_arcs.specs.declared.places.ArcDim.{ArcDim}
use Rattle.species_arcs.specs.declared.places.Arc.{Arc}
use Rattle.species_arcs.specs.declared.shapes.Word.{Word}
use Rattle.species_arcs.specs.declared.shapes.Word.TheVariants as word
use Rattle.species_arcs.specs.Shapes.{is_single, word_of}
use Rattle.species_notation.specs.declared.given.Names.{Names}
use Rattle.species_notation.specs.Parts.{most}
use Rattle.species_notation.specs.Meaning.{fits, is_stride, dir_of}
use Rattle.species_notation.specs.Written.{name_at}

abbrev pub Each : {X : Type 0} → (X → Type 0) → List X → Type 0
Each P [] = Unit {0}
Each P (x ∷ xs) = P x × Each P xs

-- no two of these have one name
abbrev pub Apart : List (List ℕ) → Type 0
Apart iters = (i j : ℕ) → i < j → j < length iters → (bytes_eq (name_at iters j) (name_at iters i) ≡ false) × (bytes_eq (name_at iters i) (name_at iters j) ≡ false)

abbrev pub AllNames : List (List ℕ) → Type 0
AllNames ws = Each (λ w. is_name w ≡ true) ws

-- terms of these iterators, from level k on, with numbers that can be read
abbrev pub Readable : ℕ → ℕ → List Term → Type 0
Readable top k [] = Unit {0}
Readable top k (t ∷ ts) = (k ≤ t.level) × (t.level < top) × (t.coefficient ≢ pos 0) × (fits t.coefficient ≡ true) × Readable top (t.level + 1) ts

-- its numbers can be read
abbrev pub FormFine : List (List ℕ) → Form → Type 0
FormFine iters f = Readable (length iters) 0 f.terms × (fits f.constant ≡ true)

pub record DimFine (iters : List (List ℕ)) (d : ArcDim) : Type 0 where
  pub at : FormFine iters d.at
  pub low : FormFine iters d.low
  pub high : FormFine iters d.high
  pub least : fits d.a ≡ true
  pub greatest : fits d.b ≡ true
  pub small : d.stride ≤ most
  pub ordered : int_le d.a d.b ≡ true
  pub stride : is_stride d.stride (unsigned_abs (d.b -ℤ d.a)) ≡ true
  pub point : is_single d ≡ true → (d.a ≡ pos 0) × (d.b ≡ pos 0) × (d.stride ≡ 1)

-- at `element` each dimension has one place
abbrev pub WordFits : Word → List ArcDim → Type 0
WordFits word.Element ds = Each (λ d. is_single d ≡ true) ds
WordFits word.Neighbourhood ds = Unit {0}
WordFits word.Chunk ds = Unit {0}
WordFits word.Full ds = Unit {0}
WordFits word.Shared ds = Unit {0}

pub record ArcFine (names : Names) (right : Bool) (a : Arc) : Type 0 where
  pub array : a.array < length names.arrays
  pub some : 0 < length a.dims
  pub dims : Each (DimFine names.iters) a.dims
  pub word : WordFits (word_of a) a.dims
  pub dir : dir_of right (word_of a) ≡ a.dir
