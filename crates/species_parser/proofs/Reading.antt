-- Of each text one thing is said.
use Rattle.std.proofs.Common.{◌≡◌, ◌∙◌, ap, sym, refl, subst, ℕ, List, length, Option, Some, None, inl, inr}
use Rattle.species_ast.specs.Token.{Token}
use Rattle.species_ast.specs.Text.Stream.{TokenStream, IsCut, stream_of, grammar_tokens}
use Rattle.species_ast.specs.Text.Load.{load_refusal}
use Rattle.species_ast.specs.Grammar.Units.{Derives, SyntaxErrorBefore, place_before}
use Rattle.species_ast.specs.Grammar.Law.{DerivesOrErrs}
use Rattle.species_ast.specs.Reading.{HasTokens, KeepsLoadLimit, Verdict, IsVerdict, ReadsOneWay}
use Rattle.species_ast.specs.declared.token.LexRefusal.{LexRefusal}
use Rattle.species_ast.proofs.Cutting.{cuts_one_way}
use Rattle.species_parser.proofs.Whole.{one_unit, one_place, derives_or_errs}

some_none : {A : Type 0} (o : Option A) (x : A) → o ≡ Some x → o ≡ None → ⊥
some_none o x e f = let h : Some x ≡ None = sym e ∙ f in cc

same_some : {A : Type 0} (o : Option A) (x y : A) → o ≡ Some x → o ≡ Some y → x ≡ y
same_some o x y e f = let h : Some x ≡ Some y = sym e ∙ f in cc

-- a text has its tokens in one way
one_list : (text : List ℕ) (ts us : List Token) → HasTokens text ts → HasTokens text us → ts ≡ us
one_list text ts us (s, c, n, e) (t, d, m, f) = e ∙ ap (λ z. grammar_tokens z.tokens) (cuts_one_way.at_most_one text s t c d) ∙ sym f

-- a text with a refusal has none
not_both : (text : List ℕ) (ts : List Token) (r : LexRefusal) → HasTokens text ts → IsVerdict text (Verdict.refused_text r) → ⊥
not_both text ts r (s, c, n, e) (t, d, h) = some_none s.refusal r (ap (λ z. z.refusal) (cuts_one_way.at_most_one text s t c d) ∙ h) n

one_refusal : (text : List ℕ) (r q : LexRefusal) → IsVerdict text (Verdict.refused_text r) → IsVerdict text (Verdict.refused_text q) → r ≡ q
one_refusal text r q (s, c, h) (t, d, k) = same_some s.refusal r q h (ap (λ z. z.refusal) (cuts_one_way.at_most_one text s t c d) ∙ k)

-- a text whose load passes the limit does not keep it
not_light : (text : List ℕ) (p : ℕ) → IsVerdict text (Verdict.refused_load p) → KeepsLoadLimit text → ⊥
not_light text p (us, k, m) (ts, h, l) = some_none (load_refusal us) p m (ap load_refusal (sym (one_list text ts us h k)) ∙ l)

at_most_one : (text : List ℕ) (v w : Verdict) → IsVerdict text v → IsVerdict text w → v ≡ w
at_most_one text (Verdict.accepted u) (Verdict.accepted w) (l, (ts, h, d)) (m, (us, k, e)) = ap Verdict.accepted (one_unit ts u w d (subst (λ z. Derives z w) (sym (one_list text ts us h k)) e))
at_most_one text (Verdict.accepted u) (Verdict.refused_text r) (l, (ts, h, d)) k = absurd (not_both text ts r h k)
at_most_one text (Verdict.accepted u) (Verdict.refused_load p) (l, d) k = absurd (not_light text p k l)
at_most_one text (Verdict.accepted u) (Verdict.refused_syntax p) (l, (ts, h, d)) (m, us, back, k, s, e) = absurd (s.underived u (subst (λ z. Derives z u) (one_list text ts us h k) d))
at_most_one text (Verdict.refused_text r) (Verdict.accepted u) h (l, (ts, k, d)) = absurd (not_both text ts r k h)
at_most_one text (Verdict.refused_text r) (Verdict.refused_text q) h k = ap Verdict.refused_text (one_refusal text r q h k)
at_most_one text (Verdict.refused_text r) (Verdict.refused_load p) h (ts, k, l) = absurd (not_both text ts r k h)
at_most_one text (Verdict.refused_text r) (Verdict.refused_syntax p) h (l, ts, back, k, s, e) = absurd (not_both text ts r k h)
at_most_one text (Verdict.refused_load p) (Verdict.accepted u) k (l, d) = absurd (not_light text p k l)
at_most_one text (Verdict.refused_load p) (Verdict.refused_text r) (ts, k, l) h = absurd (not_both text ts r k h)
at_most_one text (Verdict.refused_load p) (Verdict.refused_load q) (ts, h, l) (us, k, m) = ap Verdict.refused_load (same_some (load_refusal ts) p q l (ap load_refusal (one_list text ts us h k) ∙ m))
at_most_one text (Verdict.refused_load p) (Verdict.refused_syntax q) k (l, ts, back, h, s, e) = absurd (not_light text p k l)
at_most_one text (Verdict.refused_syntax p) (Verdict.accepted u) (m, us, back, k, s, e) (l, (ts, h, d)) = absurd (s.underived u (subst (λ z. Derives z u) (one_list text ts us h k) d))
at_most_one text (Verdict.refused_syntax p) (Verdict.refused_text r) (l, ts, back, k, s, e) h = absurd (not_both text ts r k h)
at_most_one text (Verdict.refused_syntax q) (Verdict.refused_load p) (l, ts, back, h, s, e) k = absurd (not_light text p k l)
at_most_one text (Verdict.refused_syntax p) (Verdict.refused_syntax q) (l, ts, back, h, s, e) (m, us, other, k, t, f) =
    let same = one_place ts back other s (subst (λ z. SyntaxErrorBefore z other) (sym (one_list text ts us h k)) t) in
    ap Verdict.refused_syntax (e ∙ ap (place_before (length text)) same ∙ sym f)

at_least_one : (text : List ℕ) → (v : Verdict) × IsVerdict text v
at_least_one text = go s.refusal refl (load_refusal (grammar_tokens s.tokens)) refl (derives_or_errs (grammar_tokens s.tokens))
  where
    s : TokenStream
    s = stream_of text

    cut : IsCut text s
    cut = cuts_one_way.at_least_one text

    light : s.refusal ≡ None → load_refusal (grammar_tokens s.tokens) ≡ None → KeepsLoadLimit text
    light e f = (grammar_tokens s.tokens, (s, cut, e, refl), f)

    go : (o : Option LexRefusal) → s.refusal ≡ o → (l : Option ℕ) → load_refusal (grammar_tokens s.tokens) ≡ l → DerivesOrErrs (grammar_tokens s.tokens) → (v : Verdict) × IsVerdict text v
    go (Some r) e l f d = (Verdict.refused_text r, (s, cut, e))
    go None e (Some p) f d = (Verdict.refused_load p, (grammar_tokens s.tokens, (s, cut, e, refl), f))
    go None e None f (inl (u, d)) = (Verdict.accepted u, (light e f, (grammar_tokens s.tokens, (s, cut, e, refl), d)))
    go None e None f (inr (back, d)) = (Verdict.refused_syntax (place_before (length text) back), (light e f, grammar_tokens s.tokens, back, (s, cut, e, refl), d, refl))

pub reads_one_way : ReadsOneWay
reads_one_way = record {
  at_least_one = at_least_one;
  at_most_one = at_most_one;
  one_tree = λ text u w (ts, h, d) (us, k, e). one_unit ts u w d (subst (λ z. Derives z w) (sym (one_list text ts us h k)) e);
}
