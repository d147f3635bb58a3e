-- One token more in a table.
use Rattle.std.proofs.Common.{◌≡◌, ◌∙◌, ap, refl, ℕ, ◌+◌, ◌≤◌, List, [], ◌∷◌, ◌++◌, length, take, drop, arith, length-append, length-drop}
use Rattle.std.proofs.lemmas.List.{take-append-le, drop-append-le, take_all}
use Rattle.species_ast.specs.declared.token.TokenKind.{TokenKind}
use Rattle.species_ast.specs.declared.token.TokenKind.TheVariants as kind
use Rattle.species_lexer.specs.declared.table.Class.{Class}
use Rattle.species_lexer.specs.declared.table.Class.TheVariants as class
use Rattle.species_lexer.specs.declared.table.Entry.{Entry}
use Rattle.species_lexer.specs.Entries.{class_of, others_of, kind_in, others_behind, tokens_in, total_size, count_of, total_others, AreFull}

kind_back : (k : TokenKind) → kind_in (class_of k) (others_of k) ≡ k
kind_back kind.Name = refl
kind_back kind.Keyword = refl
kind_back kind.Punct = refl
kind_back _ = refl

count_back : (k : TokenKind) → count_of (class_of k) ≡ length (others_of k)
count_back kind.Name = refl
count_back kind.Keyword = refl
count_back kind.Punct = refl
count_back _ = refl

-- ---- the tokens before a new one stay

kind_still : (c : Class) (others more : List TokenKind) → count_of c ≤ length others → kind_in c (others ++ more) ≡ kind_in c others
kind_still class.Name others more some = refl
kind_still class.Keyword others more some = refl
kind_still class.Punct others more some = refl
kind_still class.Other [] more some = let x : ⊥ = omega (arith, some) in absurd x
kind_still class.Other (k ∷ others) more some = refl

behind_still : (c : Class) (others more : List TokenKind) → count_of c ≤ length others → others_behind c (others ++ more) ≡ others_behind c others ++ more
behind_still class.Name others more some = refl
behind_still class.Keyword others more some = refl
behind_still class.Punct others more some = refl
behind_still class.Other [] more some = let x : ⊥ = omega (arith, some) in absurd x
behind_still class.Other (k ∷ others) more some = refl

fewer_others : (c : Class) (others : List TokenKind) (n : ℕ) → length others ≡ count_of c + n → length (others_behind c others) ≡ n
fewer_others class.Name others n is = omega (arith, is)
fewer_others class.Keyword others n is = omega (arith, is)
fewer_others class.Punct others n is = omega (arith, is)
fewer_others class.Other [] n is = let x : ⊥ = omega (arith, is) in absurd x
fewer_others class.Other (k ∷ others) n is = omega (arith, is)

pub tokens_more : (entries : List Entry) (texts text : List ℕ) (others more : List TokenKind) (e : Entry) → length texts ≡ total_size entries → length others ≡ total_others entries
    → tokens_in (entries ++ e ∷ []) (texts ++ text) (others ++ more) ≡ tokens_in entries texts others ++ (record { place = e.place; text = take e.size text; kind = kind_in e.class more } ∷ [])
tokens_more [] [] text [] more e te oe = refl
tokens_more [] (b ∷ texts) text others more e te oe = let x : ⊥ = omega (arith, te) in absurd x
tokens_more [] [] text (k ∷ others) more e te oe = let x : ⊥ = omega (arith, oe) in absurd x
tokens_more (f ∷ entries) texts text others more e te oe =
    let some : f.size ≤ length texts = omega (arith, te) in
    let one : count_of f.class ≤ length others = omega (arith, oe) in
    ap (λ x. record { place = f.place; text = x; kind = kind_in f.class (others ++ more) } ∷ tokens_in (entries ++ e ∷ []) (drop f.size (texts ++ text)) (others_behind f.class (others ++ more))) (take-append-le f.size texts text some)
    ∙ ap (λ x. record { place = f.place; text = take f.size texts; kind = x } ∷ tokens_in (entries ++ e ∷ []) (drop f.size (texts ++ text)) (others_behind f.class (others ++ more))) (kind_still f.class others more one)
    ∙ ap (λ x. record { place = f.place; text = take f.size texts; kind = kind_in f.class others } ∷ tokens_in (entries ++ e ∷ []) x (others_behind f.class (others ++ more))) (drop-append-le f.size texts text some)
    ∙ ap (λ x. record { place = f.place; text = take f.size texts; kind = kind_in f.class others } ∷ tokens_in (entries ++ e ∷ []) (drop f.size texts ++ text) x) (behind_still f.class others more one)
    ∙ ap (λ x. record { place = f.place; text = take f.size texts; kind = kind_in f.class others } ∷ x)
    (tokens_more entries (drop f.size texts) text (others_behind f.class others) more e (omega (arith, te, length-drop f.size texts)) (fewer_others f.class others (total_others entries) oe))

total_more : (entries : List Entry) (e : Entry) → total_size (entries ++ e ∷ []) ≡ total_size entries + e.size
total_more [] e = omega arith
total_more (f ∷ entries) e = omega (arith, total_more entries e)

count_more : (entries : List Entry) (e : Entry) → total_others (entries ++ e ∷ []) ≡ total_others entries + count_of e.class
count_more [] e = omega arith
count_more (f ∷ entries) e = omega (arith, count_more entries e)

-- ---- a token is put behind the others

pub still_full : (entries : List Entry) (texts text : List ℕ) (others : List TokenKind) (place : ℕ) (k : TokenKind) → AreFull entries texts others
    → AreFull (entries ++ record { place = place; size = length text; class = class_of k } ∷ []) (texts ++ text) (others ++ others_of k)
still_full entries texts text others place k full =
    let e : Entry = record { place = place; size = length text; class = class_of k } in
    record {
      filled = omega (arith, full.filled, length-append texts text, total_more entries e);
      counted = omega (arith, full.counted, length-append others (others_of k), count_more entries e, count_back k);
    }

pub one_more : (entries : List Entry) (texts text : List ℕ) (others : List TokenKind) (place : ℕ) (k : TokenKind) → AreFull entries texts others
    → tokens_in (entries ++ record { place = place; size = length text; class = class_of k } ∷ []) (texts ++ text) (others ++ others_of k)
    ≡ tokens_in entries texts others ++ (record { place = place; text = text; kind = k } ∷ [])
one_more entries texts text others place k full =
    tokens_more entries texts text others (others_of k) (record { place = place; size = length text; class = class_of k }) full.filled full.counted
    ∙ ap (λ x. tokens_in entries texts others ++ (record { place = place; text = x; kind = kind_in (class_of k) (others_of k) } ∷ [])) (take_all (length text) text (omega arith))
    ∙ ap (λ x. tokens_in entries texts others ++ (record { place = place; text = text; kind = x } ∷ [])) (kind_back k)

-- the same, as `push` has it
pub pushed : (entries entries' : List Entry) (texts texts' text : List ℕ) (others others' : List TokenKind) (place size : ℕ) (c : Class) (k : TokenKind)
    → entries' ≡ entries ++ record { place = place; size = size; class = c } ∷ [] → size ≡ length text → c ≡ class_of k → texts' ≡ texts ++ text → others' ≡ others ++ others_of k
    → AreFull entries texts others
    → AreFull entries' texts' others' × (tokens_in entries' texts' others' ≡ tokens_in entries texts others ++ (record { place = place; text = text; kind = k } ∷ []))
pushed entries entries' texts texts' text others others' place size c k ee se ce te oe full =
    let e : entries' ≡ entries ++ record { place = place; size = length text; class = class_of k } ∷ [] =
    ee ∙ ap (λ n. entries ++ record { place = place; size = n; class = c } ∷ []) se ∙ ap (λ d. entries ++ record { place = place; size = length text; class = d } ∷ []) ce in
    rw (e, te, oe) (still_full entries texts text others place k full, one_more entries texts text others place k full)
