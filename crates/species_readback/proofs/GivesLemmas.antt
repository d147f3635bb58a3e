-- What holds of the tokens of printed lexemes, at whatever place: composed without naming places.
use Rattle.std.proofs.Common.{◌≡◌, ◌∙◌, ap, sym, refl, subst, ℕ, ◌+◌, List, [], ◌∷◌, ◌++◌, length, append-nil, codes}
use Rattle.species_ast.specs.Token.{Token}
use Rattle.species_ast.specs.declared.token.TokenKind.{TokenKind}
use Rattle.species_print.specs.Printed.{Printed, Lexeme, Blank, text_of, tokens_from, line}
use Rattle.species_readback.proofs.ExpressionLemmas.{tokens_append}

pub record Gives (ps : List Printed) (F : List Token → Type 0) : Type 0 where
  pub at : (place : ℕ) → F (tokens_from place ps)

abbrev pub token : ℕ → List ℕ → TokenKind → Token
token p t k = record { place = p; text = t; kind = k }

pub gives_map : {F G : List Token → Type 0} (ps : List Printed) → ((ts : List Token) → F ts → G ts) → Gives ps F → Gives ps G
gives_map ps f h = record { at = λ place. f (tokens_from place ps) (h.at place) }

pub gives_nil : {F : List Token → Type 0} → F [] → Gives [] F
gives_nil f = record { at = λ place. f }

pub gives_lexeme : {F G : List Token → Type 0} (t : List ℕ) (k : TokenKind) (ps : List Printed) → ((p : ℕ) (ts : List Token) → F ts → G (token p t k ∷ ts)) → Gives ps F → Gives (Lexeme t k ∷ ps) G
gives_lexeme t k ps f h = record { at = λ place. f place _ (h.at _) }

pub gives_blank : {F : List Token → Type 0} (b : List ℕ) (ps : List Printed) → Gives ps F → Gives (Blank b ∷ ps) F
gives_blank b ps h = record { at = λ place. h.at (place + length b) }

pub gives_append : {F G H : List Token → Type 0} (a b : List Printed) → ((xs ys : List Token) → F xs → G ys → H (xs ++ ys)) → Gives a F → Gives b G → Gives (a ++ b) H
gives_append {H = H} a b f h k = record { at = λ place. subst H (sym (tokens_append place a b)) (f (tokens_from place a) (tokens_from (place + length (text_of a)) b) (h.at place) (k.at (place + length (text_of a)))) }

-- a line of its own
pub gives_line : {F : List Token → Type 0} (ind : List ℕ) (ps : List Printed) → Gives ps F → Gives (line ind ps) F
gives_line {F} ind ps h = gives_blank ind (ps ++ Blank (codes "\n") ∷ []) (gives_append {F = F} {G = λ ts. ts ≡ []} {H = F} ps (Blank (codes "\n") ∷ []) (λ xs ys x y. subst F (sym (ap (λ z. xs ++ z) y ∙ append-nil xs)) x) h (record { at = λ place. refl }))
