-- The laws of the text: each text is cut in one way, and `stream_of` gives it; what a piece is, is known when one byte more than
-- it has is at hand; and a punctuator is the longest at its place.
use Rattle.std.specs.Prelude.{◌≡◌, ℕ, ◌<◌, ◌≤◌, Bool, List, ◌∷◌, ◌++◌, length, IsTrue}
use Rattle.std.specs.List.{Contains}
use Rattle.species_ast.specs.Text.Characters.{begins}
use Rattle.species_ast.specs.Text.Words.{punctuators, punctuator_len}
use Rattle.species_ast.specs.Text.Pieces.{HasLength, piece_of, extent_of}
use Rattle.species_ast.specs.Text.Stream.{TokenStream, IsCut, stream_of}

pub record CutsOneWay : Type 0 where
  pub at_least_one : (text : List ℕ) → IsCut text (stream_of text)
  pub at_most_one : (text : List ℕ) (s u : TokenStream) → IsCut text s → IsCut text u → s ≡ u

-- more bytes behind change neither the piece nor its extent
pub record IsDecided (is_head : Bool) (b : ℕ) (bytes more : List ℕ) : Type 0 where
  pub piece : piece_of is_head b (bytes ++ more) ≡ piece_of is_head b bytes
  pub extent : extent_of is_head b (bytes ++ more) ≡ extent_of is_head b bytes

pub record ReadsAhead : Type 0 where
  pub sized : (is_head : Bool) (b : ℕ) (bytes : List ℕ) → HasLength (piece_of is_head b bytes) (extent_of is_head b bytes)
  pub within : (is_head : Bool) (b : ℕ) (bytes : List ℕ) → extent_of is_head b bytes ≤ length (b ∷ bytes)
  pub decided : (is_head : Bool) (b : ℕ) (bytes more : List ℕ) → extent_of is_head b bytes < length (b ∷ bytes) → IsDecided is_head b bytes more

-- of the punctuators with which the bytes begin none is longer than the one that is taken
pub record TakesTheLongest : Type 0 where
  pub longest : (spelling bytes : List ℕ) → Contains punctuators spelling → IsTrue (begins spelling bytes) → length spelling ≤ punctuator_len bytes
