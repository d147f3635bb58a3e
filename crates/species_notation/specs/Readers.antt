-- The grammar of a species line, as readers of its parts.
use Rattle.std.specs.Prelude.{ℕ, Bool, true, false, not, ◌&&◌, if◌then◌else◌, nat_eq, bytes_eq, List, [], ◌∷◌, codes, Option, Some, None}
use Rattle.species_grammar.specs.Reader.{Answer, Reader, Word, is_of, starts, word, nothing, both, mapped, choose, skip, ends, maybe, cons_of, repeated}
use Rattle.species_grammar.specs.Whole.{whole}
use Rattle.species_arcs.specs.declared.shapes.Word.{Word as ArcWord}
use Rattle.species_arcs.specs.declared.shapes.Word.TheVariants as arc_word
use Rattle.species_notation.specs.declared.parts.Part.{Part}
use Rattle.species_notation.specs.declared.parts.Part.TheVariants as part
use Rattle.species_notation.specs.declared.raw.RawForm.{RawForm}
use Rattle.species_notation.specs.declared.raw.Summand.{Summand}
use Rattle.species_notation.specs.declared.raw.RawInt.{RawInt}
use Rattle.species_notation.specs.declared.raw.RawRange.{RawRange}
use Rattle.species_notation.specs.declared.raw.RawArc.{RawArc}
use Rattle.species_notation.specs.declared.raw.RawLine.{RawLine}
use Rattle.species_notation.specs.declared.raw.RawLine.TheVariants as line
use Rattle.species_notation.specs.Spelled.{RawOffset, plus_minus, word_text, mark_text}

-- ---- the words of the grammar

-- the value, where a test holds
abbrev pub when : {A : Type 0} → Bool → A → Option A
when b x = if b then Some x else None

abbrev pub is_the_sign : ℕ → Part → Bool
is_the_sign b (part.Name w) = false
is_the_sign b (part.Number n) = false
is_the_sign b (part.Sign c) = nat_eq c b
is_the_sign b part.Arrow = false

abbrev pub sign : ℕ → Word Part (Unit {0})
sign b = record { says = λ p. when (is_the_sign b p) tt; token = λ x. part.Sign b }

abbrev pub is_arrow : Part → Bool
is_arrow (part.Name w) = false
is_arrow (part.Number n) = false
is_arrow (part.Sign b) = false
is_arrow part.Arrow = true

abbrev pub arrow : Word Part (Unit {0})
arrow = record { says = λ p. when (is_arrow p) tt; token = λ x. part.Arrow }

abbrev pub is_the_word : List ℕ → Part → Bool
is_the_word v (part.Name w) = bytes_eq w v
is_the_word v (part.Number n) = false
is_the_word v (part.Sign b) = false
is_the_word v part.Arrow = false

abbrev pub the_word : List ℕ → Word Part (Unit {0})
the_word v = record { says = λ p. when (is_the_word v p) tt; token = λ x. part.Name v }

abbrev pub says_name : Part → Option (List ℕ)
says_name (part.Name w) = Some w
says_name (part.Number n) = None
says_name (part.Sign b) = None
says_name part.Arrow = None

abbrev pub name : Word Part (List ℕ)
name = record { says = says_name; token = part.Name }

abbrev pub says_number : Part → Option ℕ
says_number (part.Name w) = None
says_number (part.Number n) = Some n
says_number (part.Sign b) = None
says_number part.Arrow = None

abbrev pub number : Word Part ℕ
number = record { says = says_number; token = part.Number }

-- `-` is true
abbrev pub says_plus_minus : Part → Option Bool
says_plus_minus (part.Name w) = None
says_plus_minus (part.Number n) = None
says_plus_minus (part.Sign b) = if nat_eq b 45 then Some true else (if nat_eq b 43 then Some false else None)
says_plus_minus part.Arrow = None

abbrev pub plus_or_minus : Word Part Bool
plus_or_minus = record { says = says_plus_minus; token = plus_minus }

abbrev pub word_in : List ℕ → Option ArcWord
word_in w =
    if bytes_eq w (codes "element") then Some arc_word.Element
    else if bytes_eq w (codes "neighbourhood") then Some arc_word.Neighbourhood
    else if bytes_eq w (codes "chunk") then Some arc_word.Chunk
    else if bytes_eq w (codes "full") then Some arc_word.Full
    else if bytes_eq w (codes "shared") then Some arc_word.Shared
    else None

abbrev pub says_arc_word : Part → Option ArcWord
says_arc_word (part.Name w) = word_in w
says_arc_word (part.Number n) = None
says_arc_word (part.Sign b) = None
says_arc_word part.Arrow = None

abbrev pub arc_words : Word Part ArcWord
arc_words = record { says = says_arc_word; token = λ x. part.Name (word_text x) }

abbrev pub mark_in : List ℕ → Option Bool
mark_in w = if bytes_eq w (codes "exact") then Some true else (if bytes_eq w (codes "within") then Some false else None)

abbrev pub says_mark : Part → Option Bool
says_mark (part.Name w) = mark_in w
says_mark (part.Number n) = None
says_mark (part.Sign b) = None
says_mark part.Arrow = None

abbrev pub marks : Word Part Bool
marks = record { says = says_mark; token = λ x. part.Name (mark_text x) }

-- the word stands next, and no `[` behind it, before which it is the name of an array
abbrev pub stands_alone : List ℕ → List Part → Bool
stands_alone v [] = false
stands_alone v (p ∷ ps) = is_of (the_word v) p && not (starts (is_of (sign 91)) ps)

-- r where the word does, else q
abbrev pub choose_alone : {A : Type 0} → List ℕ → Reader Part A → Reader Part A → Reader Part A
choose_alone v r q ts = if stands_alone v ts then r ts else q ts

-- ---- one or more, each but the first behind a sign

abbrev pub more_of : {A : Type 0} → ℕ → Reader Part A → Reader Part (List A)
more_of b r = repeated (is_of (sign b)) (skip (sign b) r)

abbrev pub listed : {A : Type 0} → ℕ → Reader Part A → Reader Part (List A)
listed b r = mapped cons_of (both r (more_of b r))

-- ---- forms

-- whether there is a `-`
unfoldable pub leading : Reader Part Bool
leading = choose (is_of (sign 45)) (mapped (λ x. true) (word (sign 45))) (nothing false)

abbrev pub once : List ℕ → ℕ × Option (List ℕ)
once w = (1, Some w)

-- a number, and the name that it is a coefficient of
unfoldable pub product : Reader Part (ℕ × Option (List ℕ))
product = choose (is_of number) (both (word number) (maybe (sign 42) (word name))) (mapped once (word name))

abbrev pub summand_of : Bool × (ℕ × Option (List ℕ)) → Summand
summand_of p = record { negative = p.0; number = p.1.0; name = p.1.1 }

unfoldable pub first_summand : Reader Part Summand
first_summand = mapped summand_of (both leading product)

unfoldable pub next_summand : Reader Part Summand
next_summand = mapped summand_of (both (word plus_or_minus) product)

abbrev pub more_summands : Reader Part (List Summand)
more_summands = repeated (is_of plus_or_minus) next_summand

abbrev pub form_of : Summand × List Summand → RawForm
form_of p = record { first = p.0; more = p.1 }

unfoldable pub form : Reader Part RawForm
form = mapped form_of (both first_summand more_summands)

abbrev pub range_of : RawForm × RawForm → RawRange
range_of p = record { low = p.0; high = p.1 }

unfoldable pub range : Reader Part RawRange
range = mapped range_of (both form (skip (sign 58) form))

-- ---- offsets

abbrev pub int_of : Bool × ℕ → RawInt
int_of p = record { negative = p.0; size = p.1 }

unfoldable pub int : Reader Part RawInt
int = mapped int_of (both leading (word number))

-- the offsets whose first number has this sign
abbrev pub span_of : Bool → ℕ × (RawInt × Option ℕ) → RawOffset
span_of negative p = Some (record { low = record { negative = negative; size = p.0 }; high = p.1.0; stride = p.1.1 })

unfoldable pub span_from : Bool → Reader Part RawOffset
span_from negative = mapped (span_of negative) (both (word number) (skip (sign 58) (both int (maybe (sign 58) (word number)))))

-- behind a `-`
abbrev pub behind_minus : Reader Part RawOffset
behind_minus = choose (is_of number) (span_from true) (nothing None)

unfoldable pub offset : Reader Part RawOffset
offset = choose (is_of (sign 45)) (skip (sign 45) behind_minus) (span_from false)

-- ---- arcs

unfoldable pub offsets : Reader Part (Option (List RawOffset))
offsets = maybe (sign 40) (ends (listed 44 offset) (sign 41))

unfoldable pub forms : Reader Part (List RawForm)
forms = skip (sign 40) (ends (listed 44 form) (sign 41))

unfoldable pub ranges : Reader Part (List RawRange)
ranges = skip (sign 91) (ends (listed 44 range) (sign 93))

abbrev pub arc_of : List ℕ × (List RawRange × (ArcWord × (Option (List RawOffset) × (List RawForm × Bool)))) → RawArc
arc_of p = record {
  name = p.0;
  ranges = p.1.0;
  word = p.1.1.0;
  offsets = p.1.1.1.0;
  forms = p.1.1.1.1.0;
  exact = p.1.1.1.1.1;
}

unfoldable pub arc : Reader Part RawArc
arc = mapped arc_of
    (both (word name) (both ranges (skip (sign 124) (both (word arc_words) (both offsets (skip (the_word (codes "at")) (both forms (word marks))))))))

-- ---- lines

unfoldable pub arcs : Reader Part (List RawArc)
arcs = listed 94 arc

unfoldable pub side : Reader Part (List RawArc)
side = choose_alone (codes "none") (mapped (λ x. []) (word (the_word (codes "none")))) arcs

abbrev pub carried_of : List ℕ × (ℕ × ℕ) → RawLine
carried_of p = line.Carried p.0 p.1.0 p.1.1

unfoldable pub sequential : Reader Part RawLine
sequential = choose (is_of (the_word (codes "carried")))
    (mapped carried_of (skip (the_word (codes "carried")) (both (word name) (both (word number) (word number)))))
    (mapped line.Local (skip (the_word (codes "local")) (word name)))

abbrev pub sides_of : List RawArc × List RawArc → RawLine
sides_of p = line.Sides p.0 p.1

unfoldable pub line_reader : Reader Part RawLine
line_reader = choose_alone (codes "sequential")
    (skip (the_word (codes "sequential")) sequential)
    (mapped sides_of (both side (skip arrow side)))

abbrev pub answered : {A : Type 0} → Answer Part A → Option A
answered (Answer.read x rest) = Some x
answered (Answer.stuck rest) = None
answered Answer.shallow = None

-- what the parts say, if they are those of a line
abbrev pub raw_line : List Part → Option RawLine
raw_line ps = answered (whole line_reader ps)
