-- A text that is printed lexeme by lexeme is cut into these as its tokens, whatever the syntax: one lemma over lists of lexemes and blanks.
use Rattle.std.proofs.Common.{◌≡◌, ◌∙◌, ap, sym, refl, subst, ℕ, ◌+◌, Bool, true, false, List, [], ◌∷◌, ◌++◌, length, drop, None, arith, append-nil, append_assoc, nat_eq}
use Rattle.std.proofs.Math.Seq.{drop-append_seam}
use Rattle.std.proofs.lemmas.Grind.{flat_map-append}
use Rattle.std.specs.Prelude.{◌||◌, ◌&&◌, not, if◌then◌else◌, codes}
use Rattle.std.specs.List.{list_all, list_any}
use Rattle.species_ast.specs.Token.{Token}
use Rattle.species_ast.specs.declared.token.TokenKind.{TokenKind}
use Rattle.species_ast.specs.declared.token.TokenKind.TheVariants as kind
use Rattle.species_ast.specs.Text.Characters.{is_blank, is_letter, is_digit, is_line_feed, begins}
use Rattle.species_ast.specs.Text.Pieces as byte
use Rattle.species_ast.specs.Text.Stream.{TokenStream, in_scope, defined_by, head_behind, put, Cut, is_definition, grammar_tokens}
use Rattle.species_ast.specs.Reading.{HasTokens}
use Rattle.species_print.specs.Printed.{Printed, Lexeme, Blank, spelling, printed_text, text_of, tokens_from}

-- ---- the condition

-- what stands at the front of some bytes, where nothing is defined
abbrev pub front_piece : Bool → List ℕ → byte.Piece
front_piece h [] = byte.Space 0
front_piece h (b ∷ bs) = in_scope [] (byte.piece_of h b bs)

-- the token is cut off the bytes that begin with it, and no more than it
abbrev pub Stands : Bool → List ℕ → TokenKind → List ℕ → Type 0
Stands h t k rest = front_piece h (spelling t k ++ rest) ≡ byte.Lexeme (length (spelling t k)) t k

-- no token of the list runs into what stands behind it, and blanks are blanks; `more` is what follows the list
abbrev pub Apart : Bool → List Printed → List ℕ → Type 0
Apart h [] more = Unit {0}
Apart h (Lexeme t k ∷ ps) more = Stands h t k (text_of ps ++ more) × (is_definition k ≡ false) × Apart false ps more
Apart h (Blank bs ∷ ps) more = (list_all is_blank bs ≡ true) × Apart (head_behind h bs) ps more

-- whether only blanks stand on the line behind them
abbrev pub head_after : Bool → List Printed → Bool
head_after h [] = h
head_after h (Lexeme t k ∷ ps) = head_after false ps
head_after h (Blank bs ∷ ps) = head_after (head_behind h bs) ps

-- ---- composition

pub text_append : (a b : List Printed) → text_of (a ++ b) ≡ text_of a ++ text_of b
text_append a b = flat_map-append printed_text a b

pub text_append_more : (a b : List Printed) (more : List ℕ) → text_of (a ++ b) ++ more ≡ text_of a ++ (text_of b ++ more)
text_append_more a b more = ap (λ z. z ++ more) (text_append a b) ∙ append_assoc (text_of a) (text_of b) more

pub apart_append : (h : Bool) (a b : List Printed) (more : List ℕ) → Apart h a (text_of b ++ more) → Apart (head_after h a) b more → Apart h (a ++ b) more
apart_append h [] b more x y = y
apart_append h (Lexeme t k ∷ a) b more (s, n, x) y = (subst (Stands h t k) (sym (text_append_more a b more)) s, n, apart_append false a b more x y)
apart_append h (Blank bs ∷ a) b more (s, x) y = (s, apart_append (head_behind h bs) a b more x y)

-- ---- blanks

or_assoc : (a b c : Bool) → (a || (b || false)) || c ≡ a || (b || c)
or_assoc true b c = refl
or_assoc false true c = refl
or_assoc false false c = refl

head_step : (h : Bool) (b : ℕ) (bs : List ℕ) → head_behind (head_behind h (b ∷ [])) bs ≡ head_behind h (b ∷ bs)
head_step h b bs = or_assoc h (is_line_feed b) (list_any is_line_feed bs)

head_none : (h : Bool) → head_behind h [] ≡ h
head_none true = refl
head_none false = refl

and_true : (a b : Bool) → a && b ≡ true → (a ≡ true) × (b ≡ true)
and_true true b h = (refl, h)
and_true false b h = cc

blank_piece : (h : Bool) (b : ℕ) (rest : List ℕ) → is_blank b ≡ true → in_scope [] (byte.piece_of h b rest) ≡ byte.Space 1
unfolding byte.piece_of
blank_piece h b rest is =
    ap (λ c. in_scope [] (byte.piece_in (if c then byte.Blank else (if begins (codes "//") (b ∷ rest) then byte.LineComment else (if begins (codes "/*") (b ∷ rest) then byte.BlockComment else (if is_letter b then byte.Letter else (if is_digit b then byte.Digit else (if nat_eq b 35 then byte.Hash else byte.Other)))))) h b rest)) is

cut_blanks : (bs : List ℕ) (place : ℕ) (h : Bool) (rest : List ℕ) (s : TokenStream) → list_all is_blank bs ≡ true
    → Cut (place + length bs) (head_behind h bs) [] rest s → Cut place h [] (bs ++ rest) s
cut_blanks [] place h rest s is c = subst (λ x. Cut x h [] rest s) at (subst (λ x. Cut (place + 0) x [] rest s) (head_none h) c)
  where
    at : place + 0 ≡ place
    at = omega arith
cut_blanks (b ∷ bs) place h rest s is c =
    let k = and_true (is_blank b) (list_all is_blank bs) is in
    let at : place + length (b ∷ bs) ≡ (place + 1) + length bs = omega arith in
    Cut.space place h [] b (bs ++ rest) 1 s (blank_piece h b (bs ++ rest) k.0)
    (cut_blanks bs (place + 1) (head_behind h (b ∷ [])) rest s k.1
    (subst (λ x. Cut ((place + 1) + length bs) x [] rest s) (sym (head_step h b bs)) (subst (λ x. Cut x (head_behind h (b ∷ bs)) [] rest s) at c)))

-- ---- tokens

no_more_definitions : (t : List ℕ) (k : TokenKind) → is_definition k ≡ false → defined_by t k [] ≡ []
no_more_definitions t (kind.Define v) h = cc
no_more_definitions t _ h = refl

cut_token : (place n : ℕ) (h : Bool) (bytes rest : List ℕ) (t : List ℕ) (k : TokenKind) (s : TokenStream)
    → front_piece h bytes ≡ byte.Lexeme n t k → is_definition k ≡ false → drop n bytes ≡ rest → Cut (place + n) false [] rest s
    → Cut place h [] bytes (put (record { place = place; text = t; kind = k }) s)
cut_token place n h [] rest t k s e d r c = cc
cut_token place n h (b ∷ bs) rest t k s e d r c =
    Cut.token place h [] b bs n t k s e (subst (λ x. Cut (place + n) false x (drop n (b ∷ bs)) s) (sym (no_more_definitions t k d)) (subst (λ x. Cut (place + n) false [] x s) (sym r) c))

abbrev pub all_tokens : List Token → TokenStream
all_tokens ts = record { tokens = ts; refusal = None }

pub cut_printed : (ps : List Printed) (place : ℕ) (h : Bool) → Apart h ps [] → Cut place h [] (text_of ps) (all_tokens (tokens_from place ps))
cut_printed [] place h a = Cut.ends place h []
cut_printed (Lexeme t k ∷ ps) place h (s, d, a) =
    cut_token place (length (spelling t k)) h (spelling t k ++ text_of ps) (text_of ps) t k _
    (subst (Stands h t k) (append-nil (text_of ps)) s) d (drop-append_seam (spelling t k) (text_of ps)) (cut_printed ps (place + length (spelling t k)) false a)
cut_printed (Blank bs ∷ ps) place h (s, a) = cut_blanks bs place h (text_of ps) _ s (cut_printed ps (place + length bs) (head_behind h bs) a)

-- ---- the tokens that the grammar sees are all of them

seen : (ps : List Printed) (place : ℕ) (h : Bool) (more : List ℕ) → Apart h ps more → grammar_tokens (tokens_from place ps) ≡ tokens_from place ps
seen [] place h more a = refl
seen (Lexeme t k ∷ ps) place h more (s, d, a) =
    let token : Token = record { place = place; text = t; kind = k } in
    let rest = tokens_from (place + length (spelling t k)) ps in
    ap (λ c. if not c then token ∷ grammar_tokens rest else grammar_tokens rest) d ∙ ap (λ z. token ∷ z) (seen ps (place + length (spelling t k)) false more a)
seen (Blank bs ∷ ps) place h more (s, a) = seen ps (place + length bs) (head_behind h bs) more a

-- the tokens of the text, for any syntax
pub has_tokens : (ps : List Printed) → Apart true ps [] → HasTokens (text_of ps) (tokens_from 0 ps)
has_tokens ps a = (all_tokens (tokens_from 0 ps), cut_printed ps 0 true a, refl, sym (seen ps 0 true [] a))
