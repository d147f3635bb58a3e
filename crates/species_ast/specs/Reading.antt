-- Reading a program: from its bytes to its raw tree, or to the reason against it that is looked at first.
use Rattle.std.specs.Prelude.{◌≡◌, ℕ, List, length, Some, None}
use Rattle.species_ast.specs.Token.{Token}
use Rattle.species_ast.specs.Text.Stream.{TokenStream, IsCut, grammar_tokens}
use Rattle.species_ast.specs.Text.Load.{load_refusal}
use Rattle.species_ast.specs.Grammar.Units.{Derives, SyntaxErrorBefore, place_before}
use Rattle.species_ast.specs.declared.token.LexRefusal.{LexRefusal}
use Rattle.species_ast.specs.declared.raw.RawUnit.{RawUnit}

-- The text has no refusal, and these are the tokens that the grammar sees.
abbrev pub HasTokens : List ℕ → List Token → Type 0
HasTokens text ts = (s : TokenStream) × IsCut text s × (s.refusal ≡ None) × (ts ≡ grammar_tokens s.tokens)

-- The text is a program with this tree, whatever its load: so is what is written read back.
abbrev pub Reads : List ℕ → RawUnit → Type 0
Reads text u = (ts : List Token) × HasTokens text ts × Derives ts u

-- ---- what the compiler says of a text: three refusals, each looked at where the ones before it do not hold

-- over the whole text, before all else
abbrev pub IsRefusedByText : List ℕ → LexRefusal → Type 0
IsRefusedByText text r = (s : TokenStream) × IsCut text s × (s.refusal ≡ Some r)

-- the load of its tokens passes the limit
abbrev pub IsRefusedByLoad : List ℕ → ℕ → Type 0
IsRefusedByLoad text place = (ts : List Token) × HasTokens text ts × (load_refusal ts ≡ Some place)

-- the text has tokens, and their load keeps the limit
abbrev pub KeepsLoadLimit : List ℕ → Type 0
KeepsLoadLimit text = (ts : List Token) × HasTokens text ts × (load_refusal ts ≡ None)

-- the load keeps the limit, and the tokens have a syntax error, which stands there
abbrev pub IsRefusedByGrammar : List ℕ → ℕ → Type 0
IsRefusedByGrammar text place = KeepsLoadLimit text × (ts back : List Token) × HasTokens text ts × SyntaxErrorBefore ts back × (place ≡ place_before (length text) back)

-- none of these: the text keeps the limit on load, and it is a program with this tree
abbrev pub IsAccepted : List ℕ → RawUnit → Type 0
IsAccepted text u = KeepsLoadLimit text × Reads text u

-- what is said of a text
pub data Verdict : Type 0 where
  accepted : RawUnit → Verdict
  refused_text : LexRefusal → Verdict
  refused_load : ℕ → Verdict
  refused_syntax : ℕ → Verdict

abbrev pub IsVerdict : List ℕ → Verdict → Type 0
IsVerdict bytes (Verdict.accepted u) = IsAccepted bytes u
IsVerdict bytes (Verdict.refused_text r) = IsRefusedByText bytes r
IsVerdict bytes (Verdict.refused_load place) = IsRefusedByLoad bytes place
IsVerdict bytes (Verdict.refused_syntax place) = IsRefusedByGrammar bytes place

-- The law of reading: of each text one thing is said, and a text has at most one tree.
pub record ReadsOneWay : Type 0 where
  pub at_least_one : (text : List ℕ) → (v : Verdict) × IsVerdict text v
  pub at_most_one : (text : List ℕ) (v w : Verdict) → IsVerdict text v → IsVerdict text w → v ≡ w
  pub one_tree : (text : List ℕ) (u w : RawUnit) → Reads text u → Reads text w → u ≡ w
