-- One piece more of a text that is cut as it comes.
use Rattle.std.proofs.Common.{◌≡◌, ◌∙◌, ap, sym, refl, subst, ℕ, suc, ◌+◌, ◌<◌, ◌≤◌, Bool, true, false, List, [], ◌∷◌, ◌++◌, length, take, drop, Option, Some, None, Result, Ok, Err, arith, append_assoc, append-nil, length-append, length-drop}
use Rattle.std.specs.Prelude.{is_some}
use Rattle.std.proofs.lemmas.List.{take-append-le, drop-append-le, drop-drop}
use Rattle.species_ast.specs.Token.{Token}
use Rattle.species_ast.specs.declared.tree.Value.{Value}
use Rattle.species_ast.specs.declared.token.TokenKind.{TokenKind}
use Rattle.species_ast.specs.declared.token.TokenKind.TheVariants as kind
use Rattle.species_ast.specs.declared.token.LexRefusal.{LexRefusal}
use Rattle.species_ast.specs.Text.Pieces.{Piece, Space, Lexeme, Define, Refused, HasLength, piece_of, extent_of}
use Rattle.species_ast.specs.Text.Stream.{TokenStream, Definition, look_up, define_once, in_scope, defined_by, head_behind, put, finished, cut_piece, cut_at, stream_of}
use Rattle.species_ast.proofs.Cutting.{any_bound}
use Rattle.species_ast.proofs.Extent.{reads_ahead}
use Rattle.species_lexer.specs.declared.piece.Piece as rust
use Rattle.species_lexer.specs.declared.piece.Piece.TheVariants as piece
use Rattle.species_lexer.specs.Pieces.{seen_piece, piece_at}
use Rattle.species_lexer.specs.Found.{kind_of, length_in}
use Rattle.species_lexer.specs.Fed.{CutPart, cut_size, refusal_at, past, put_all, with_rest, Fed, IsFed}
use Rattle.species_lexer.specs.Entries.{Table}
use Rattle.species_lexer.specs.Cut.{CutsAll, GivesTable}
use Rattle.species_lexer.specs.declared.refusal.CutRefusal.{CutRefusal}
use Rattle.species_lexer.specs.declared.refusal.CutRefusal.TheVariants.{Lex, Memory}
use Rattle.species_lexer.proofs.Streams.{scope_lexeme, plain_kind}
use Rattle.species_lexer.proofs.Plain.{plain_piece}

-- the stream behind the first bytes, where more bytes follow those at hand
onward : (m n place : ℕ) (is_head : Bool) (ds : List Definition) (bytes more : List ℕ) → 0 < n → n ≤ length bytes → length (bytes ++ more) ≤ suc m
    → cut_at m place is_head ds (drop n (bytes ++ more)) ≡ cut_at (length (drop n bytes ++ more)) place is_head ds (drop n bytes ++ more)
onward m n place is_head ds bytes more some fits bound =
    ap (cut_at m place is_head ds) (drop-append-le n bytes more fits)
    ∙ any_bound m (length (drop n bytes ++ more)) place is_head ds (drop n bytes ++ more)
    (omega (arith, some, fits, bound, length-append bytes more, length-append (drop n bytes) more, length-drop n bytes)) (omega arith)

put_behind : (ts : List Token) (t : Token) (s : TokenStream) → put_all ts (put t s) ≡ put_all (ts ++ t ∷ []) s
put_behind ts t s = ap (λ l. record { tokens = l; refusal = s.refusal }) (sym (append_assoc ts (t ∷ []) s.tokens))

piece_is : (a b : Piece) → Some a ≡ Some b → a ≡ b
piece_is a b f = cc

-- a piece is cut
by_piece : (c : CutPart) (bytes more : List ℕ) (m n : ℕ) (p : Piece) → 0 < n → n ≤ length bytes → length (bytes ++ more) ≤ suc m → n ≡ cut_size p
    → put_all c.tokens (cut_piece (cut_at m) c.place c.is_head c.definitions (bytes ++ more) p) ≡ with_rest (past c bytes p) (drop n bytes ++ more)
by_piece c bytes more m n (Space k) some fits bound e =
    let f : k ≤ length bytes = omega (arith, fits, e) in
    ap (λ z. put_all c.tokens (cut_at m (c.place + k) (head_behind c.is_head z) c.definitions (drop k (bytes ++ more)))) (take-append-le k bytes more f)
    ∙ ap (put_all c.tokens) (onward m k (c.place + k) (head_behind c.is_head (take k bytes)) c.definitions bytes more (omega (arith, some, e)) f bound)
    ∙ ap (λ i. put_all c.tokens (cut_at (length (drop i bytes ++ more)) (c.place + k) (head_behind c.is_head (take k bytes)) c.definitions (drop i bytes ++ more))) (sym e)
by_piece c bytes more m n (Lexeme k text kind) some fits bound e =
    let f : k ≤ length bytes = omega (arith, fits, e) in
    let t : Token = record { place = c.place; text = text; kind = kind } in
    let ds = defined_by text kind c.definitions in
    put_behind c.tokens t (cut_at m (c.place + k) false ds (drop k (bytes ++ more)))
    ∙ ap (put_all (c.tokens ++ t ∷ [])) (onward m k (c.place + k) false ds bytes more (omega (arith, some, e)) f bound)
    ∙ ap (λ i. put_all (c.tokens ++ t ∷ []) (cut_at (length (drop i bytes ++ more)) (c.place + k) false ds (drop i bytes ++ more))) (sym e)
by_piece c bytes more m n (Define k name value) some fits bound e = let x : ⊥ = omega (arith, some, e) in absurd x
by_piece c bytes more m n (Refused r) some fits bound e = let x : ⊥ = omega (arith, some, e) in absurd x

pub one_piece : (c : CutPart) (bytes more : List ℕ) (q : Piece) (n : ℕ) → piece_at c.is_head (bytes ++ more) ≡ Some q → 0 < n → n ≤ length bytes → n ≡ cut_size (in_scope c.definitions q)
    → with_rest c (bytes ++ more) ≡ with_rest (past c bytes (in_scope c.definitions q)) (drop n bytes ++ more)
one_piece c [] more q n is some fits e = let x : ⊥ = omega (arith, some, fits) in absurd x
one_piece c (b ∷ bytes) more q n is some fits e =
    ap (λ p. put_all c.tokens (cut_piece (cut_at (length (bytes ++ more))) c.place c.is_head c.definitions (b ∷ bytes ++ more) (in_scope c.definitions p))) (piece_is _ q is)
    ∙ by_piece c (b ∷ bytes) more (length (bytes ++ more)) n (in_scope c.definitions q) some fits (omega arith) e

-- the same, where no byte follows those at hand
pub last_piece : (c : CutPart) (bytes : List ℕ) (q : Piece) (n : ℕ) → piece_at c.is_head bytes ≡ Some q → 0 < n → n ≤ length bytes → n ≡ cut_size (in_scope c.definitions q)
    → with_rest c bytes ≡ with_rest (past c bytes (in_scope c.definitions q)) (drop n bytes)
last_piece c bytes q n is some fits e =
    ap (with_rest c) (sym (append-nil bytes))
    ∙ one_piece c bytes [] q n (ap (piece_at c.is_head) (append-nil bytes) ∙ is) some fits e
    ∙ ap (with_rest (past c bytes (in_scope c.definitions q))) (append-nil (drop n bytes))

-- a refusal is met
pub refused_here : (c : CutPart) (bytes : List ℕ) (q : Piece) (r : LexRefusal) → piece_at c.is_head bytes ≡ Some q → refusal_at c.place (in_scope c.definitions q) ≡ Some r
    → (with_rest c bytes).refusal ≡ Some r
refused_here c [] q r is e = cc
refused_here c (b ∷ bytes) q r is e =
    ap (λ p. (put_all c.tokens (cut_piece (cut_at (length bytes)) c.place c.is_head c.definitions (b ∷ bytes) (in_scope c.definitions p))).refusal) (piece_is _ q is)
    ∙ go (in_scope c.definitions q) e
  where
    go : (p : Piece) → refusal_at c.place p ≡ Some r → (put_all c.tokens (cut_piece (cut_at (length bytes)) c.place c.is_head c.definitions (b ∷ bytes) p)).refusal ≡ Some r
    go (Space n) f = cc
    go (Lexeme n text k) f = cc
    go (Define n name value) f = cc
    go (Refused s) f = f

-- ---- what a piece adds

pub none_is : (found o : Option Value) → found ≡ o → is_some found ≡ false → o ≡ None
none_is found None e h = refl
none_is None (Some v) e h = cc
none_is (Some w) (Some v) e h = cc

abbrev pub Added : CutPart → CutPart → List ℕ → ℕ → Piece → Type 0
Added old new bytes n p = (0 < n) × (n ≤ length bytes) × (n ≡ cut_size p) × (new ≡ past old bytes p)

plain_here : (is_head : Bool) (bytes : List ℕ) (q : Piece) (n : ℕ) (text : List ℕ) (k : TokenKind) (literal : Option Value) (ds : List Definition) → Some q ≡ piece_at is_head bytes → q ≡ Lexeme n text k
    → defined_by text (kind_of literal k) ds ≡ ds
plain_here is_head [] q n text k literal ds is e = cc
plain_here is_head (b ∷ bytes) q n text k literal ds is e =
    plain_kind literal k text ds (plain_piece is_head b bytes n text k (piece_is _ q (sym is) ∙ e))

pub adds_lexeme : (old new : CutPart) (bytes : List ℕ) (q : Piece) (n : ℕ) (text : List ℕ) (k found : TokenKind) → Some q ≡ piece_at old.is_head bytes → q ≡ Lexeme n text k
    → 0 < n → n ≤ length bytes → found ≡ kind_of (look_up old.definitions text) k
    → new ≡ record { tokens = old.tokens ++ (record { place = old.place; text = text; kind = found } ∷ []); definitions = old.definitions; place = old.place + n; is_head = false }
    → Added old new bytes n (in_scope old.definitions q)
adds_lexeme old new bytes q n text k found is e some fits fe ne =
    let p : in_scope old.definitions q ≡ Lexeme n text (kind_of (look_up old.definitions text) k) = ap (in_scope old.definitions) e ∙ scope_lexeme old.definitions n text k in
    let with_kind : TokenKind → CutPart = λ x. record { tokens = old.tokens ++ (record { place = old.place; text = text; kind = x } ∷ []); definitions = old.definitions; place = old.place + n; is_head = false } in
    let with_ds : List Definition → CutPart = λ x. record { tokens = old.tokens ++ (record { place = old.place; text = text; kind = kind_of (look_up old.definitions text) k } ∷ []); definitions = x; place = old.place + n; is_head = false } in
    subst (Added old new bytes n) (sym p)
    (some, fits, refl, ne ∙ ap with_kind fe ∙ ap with_ds (sym (plain_here old.is_head bytes q n text k (look_up old.definitions text) old.definitions is e)))

pub adds_define : (old new : CutPart) (bytes : List ℕ) (q : Piece) (n : ℕ) (name : List ℕ) (v : Value) → q ≡ Define n name (Ok v) → look_up old.definitions name ≡ None
    → 0 < n → n ≤ length bytes
    → new ≡ record { tokens = old.tokens ++ (record { place = old.place; text = name; kind = kind.Define v } ∷ []); definitions = old.definitions ++ (record { name = name; literal = v } ∷ []); place = old.place + n; is_head = false }
    → Added old new bytes n (in_scope old.definitions q)
adds_define old new bytes q n name v e new_name some fits ne =
    let p : in_scope old.definitions q ≡ Lexeme n name (kind.Define v) = ap (in_scope old.definitions) e ∙ ap (λ o. define_once o n name (Ok v)) new_name in
    subst (Added old new bytes n) (sym p) (some, fits, refl, ne)

-- ---- the pieces of some bytes, one behind the other

placed_past : (c : CutPart) (bytes : List ℕ) (n : ℕ) (p : Piece) → 0 < n → n ≡ cut_size p → (past c bytes p).place ≡ c.place + n
placed_past c bytes n (Space k) some e = omega (arith, e)
placed_past c bytes n (Lexeme k text kind) some e = omega (arith, e)
placed_past c bytes n (Define k name value) some e = let x : ⊥ = omega (arith, some, e) in absurd x
placed_past c bytes n (Refused r) some e = let x : ⊥ = omega (arith, some, e) in absurd x

placed_next : (first old new : CutPart) (bytes rest : List ℕ) (at n : ℕ) (p : Piece) → at ≤ length bytes → old.place ≡ first.place + at → rest ≡ drop at bytes → Added old new rest n p
    → (at + n ≤ length bytes) × (new.place ≡ first.place + (at + n))
placed_next first old new bytes rest at n p within placed re added = (
  omega (arith, within, added.1, ap length re, length-drop at bytes),
  omega (arith, placed, ap (λ c. c.place) added.3, placed_past old rest n p added.0 added.2),
)

pub all_next : (first old new : CutPart) (bytes rest : List ℕ) (at n : ℕ) (q : Piece) → at ≤ length bytes → old.place ≡ first.place + at → with_rest first bytes ≡ with_rest old (drop at bytes)
    → rest ≡ drop at bytes → Some q ≡ piece_at old.is_head rest → Added old new rest n (in_scope old.definitions q)
    → (at + n ≤ length bytes) × (new.place ≡ first.place + (at + n)) × (with_rest first bytes ≡ with_rest new (drop (at + n) bytes))
all_next first old new bytes rest at n q within placed same re is added =
    let p = placed_next first old new bytes rest at n (in_scope old.definitions q) within placed re added in (
      p.0,
      p.1,
      same ∙ ap (with_rest old) (sym re)
          ∙ last_piece old rest q n (sym is) added.0 added.1 added.2
          ∙ ap (λ c. with_rest c (drop n rest)) (sym added.3)
          ∙ ap (with_rest new) (ap (drop n) re ∙ drop-drop n at bytes),
    )

-- the piece at the front of some bytes, where more bytes follow that do not change it
abbrev pub size_of : Piece → ℕ
size_of (Space n) = n
size_of (Lexeme n text k) = n
size_of (Define n name value) = n
size_of (Refused r) = 0

sized : (m : ℕ) (q : Piece) → HasLength q m → 0 < size_of q → m ≡ size_of q
sized m (Space n) h some = h
sized m (Lexeme n text k) h some = h
sized m (Define n name value) h some = h
sized m (Refused r) h some = let x : ⊥ = omega (arith, some) in absurd x

once_sized : (o : Option Value) (n : ℕ) (name : List ℕ) (value : Result Value LexRefusal) → 0 < cut_size (define_once o n name value) → 0 < n
once_sized None n name (Ok v) some = some
once_sized None n name (Err r) some = let x : ⊥ = omega (arith, some) in absurd x
once_sized (Some v) n name value some = let x : ⊥ = omega (arith, some) in absurd x

scope_sized : (ds : List Definition) (q : Piece) → 0 < cut_size (in_scope ds q) → 0 < size_of q
scope_sized ds (Space n) some = some
scope_sized ds (Lexeme n text kind.Name) some = some
scope_sized ds (Lexeme n text _) some = some
scope_sized ds (Define n name value) some = once_sized (look_up ds name) n name value some
scope_sized ds (Refused r) some = some

size_is : (o : rust.Piece) → length_in (Some o) ≡ size_of (seen_piece o)
size_is (piece.Space n) = refl
size_is (piece.Lexeme n text k) = refl
size_is (piece.Define n name value) = refl
size_is (piece.Refused fault) = refl

pub still_there : (is_head : Bool) (bytes more : List ℕ) (q : Piece) → Some q ≡ piece_at is_head bytes → 0 < size_of q → size_of q < length bytes → piece_at is_head (bytes ++ more) ≡ Some q
still_there is_head [] more q is some less = cc
still_there is_head (b ∷ bytes) more q is some less =
    let e : piece_of is_head b bytes ≡ q = sym (piece_is q _ is) in
    let m : extent_of is_head b bytes ≡ size_of q = sized (extent_of is_head b bytes) q (subst (λ p. HasLength p (extent_of is_head b bytes)) e (reads_ahead.sized is_head b bytes)) some in
    ap Some ((reads_ahead.decided is_head b bytes more (omega (arith, less, m))).piece ∙ e)

pub ended_next : (first old new : CutPart) (bytes rest : List ℕ) (at n size : ℕ) (o : rust.Piece) → at ≤ length bytes → old.place ≡ first.place + at
    → ((more : List ℕ) → with_rest first (bytes ++ more) ≡ with_rest old (drop at bytes ++ more))
    → rest ≡ drop at bytes → Some (seen_piece o) ≡ piece_at old.is_head rest → size ≡ length_in (Some o) → size < length rest → Added old new rest n (in_scope old.definitions (seen_piece o))
    → (at + n ≤ length bytes) × (new.place ≡ first.place + (at + n)) × ((more : List ℕ) → with_rest first (bytes ++ more) ≡ with_rest new (drop (at + n) bytes ++ more))
ended_next first old new bytes rest at n size o within placed same re is se less added =
    let q = seen_piece o in
    let p = placed_next first old new bytes rest at n (in_scope old.definitions q) within placed re added in
    let some : 0 < size_of q = scope_sized old.definitions q (omega (arith, added.0, added.2)) in
    let short : size_of q < length rest = omega (arith, se, size_is o, less) in (
      p.0,
      p.1,
      λ more.
          same more ∙ ap (λ z. with_rest old (z ++ more)) (sym re)
          ∙ one_piece old rest more q n (still_there old.is_head rest more q is some short) added.0 added.1 added.2
          ∙ ap (λ c. with_rest c (drop n rest ++ more)) (sym added.3)
          ∙ ap (λ z. with_rest new (z ++ more)) (ap (drop n) re ∙ drop-drop n at bytes),
    )

-- ---- what came

-- a piece of the text came, and waits
fed_more : (c : CutPart) (left piece bytes : List ℕ) → IsFed (record { cut = c; left = left }) bytes → IsFed (record { cut = c; left = left ++ piece }) (bytes ++ piece)
fed_more c left piece bytes fed =
    record {
      counted = omega (arith, fed.counted, length-append bytes piece, length-append left piece);
      same = λ more. ap stream_of (append_assoc bytes piece more) ∙ fed.same (piece ++ more) ∙ ap (with_rest c) (sym (append_assoc left piece more));
    }

-- the first bytes that waited were cut
fed_cut : (old new : CutPart) (left rest bytes : List ℕ) (n : ℕ) → IsFed (record { cut = old; left = left }) bytes → n ≤ length left → new.place ≡ old.place + n → rest ≡ drop n left
    → ((more : List ℕ) → with_rest old (left ++ more) ≡ with_rest new (drop n left ++ more)) → IsFed (record { cut = new; left = rest }) bytes
fed_cut old new left rest bytes n fed within placed re same =
    record {
      counted = omega (arith, fed.counted, within, placed, ap length re, length-drop n left);
      same = λ more. fed.same more ∙ same more ∙ ap (λ z. with_rest new (z ++ more)) (sym re);
    }

pub fed_waits : (fed new : Fed) (piece : List ℕ) → new ≡ record { cut = fed.cut; left = fed.left ++ piece } → (bytes : List ℕ) → IsFed fed bytes → IsFed new (bytes ++ piece)
fed_waits fed new piece e bytes h = subst (λ f. IsFed f (bytes ++ piece)) (sym e) (fed_more fed.cut fed.left piece bytes h)

pub fed_is_cut : (fed new : Fed) (piece left : List ℕ) (n : ℕ) → left ≡ fed.left ++ piece → n ≤ length left → new.cut.place ≡ fed.cut.place + n → new.left ≡ drop n left
    → ((more : List ℕ) → with_rest fed.cut (left ++ more) ≡ with_rest new.cut (drop n left ++ more)) → (bytes : List ℕ) → IsFed fed bytes → IsFed new (bytes ++ piece)
fed_is_cut fed new piece left n le within placed re same bytes h =
    let f : IsFed (record { cut = fed.cut; left = left }) (bytes ++ piece) = subst (λ l. IsFed (record { cut = fed.cut; left = l }) (bytes ++ piece)) (sym le) (fed_more fed.cut fed.left piece bytes h) in
    fed_cut fed.cut new.cut left new.left (bytes ++ piece) n f within placed re same

-- nothing came
pub fed_nothing : (fed : Fed) → fed ≡ record { cut = record { tokens = []; definitions = []; place = 0; is_head = true }; left = [] } → IsFed fed []
fed_nothing fed e =
    subst (λ f. IsFed f []) (sym e) (record { counted = refl; same = λ more. refl })

-- all came
whole_is : (fed : Fed) (bytes : List ℕ) → IsFed fed bytes → stream_of bytes ≡ with_rest fed.cut fed.left
whole_is fed bytes h = ap stream_of (sym (append-nil bytes)) ∙ h.same [] ∙ ap (with_rest fed.cut) (append-nil fed.left)

whole_cut_here : (fed : Fed) (new : CutPart) (bytes : List ℕ) → with_rest fed.cut fed.left ≡ put_all new.tokens finished → new.place ≡ fed.cut.place + length fed.left → IsFed fed bytes
    → (stream_of bytes ≡ record { tokens = new.tokens; refusal = None }) × (new.place ≡ length bytes)
whole_cut_here fed new bytes all placed h =
    let as_stream : List Token → TokenStream = λ ts. record { tokens = ts; refusal = None } in
    (whole_is fed bytes h ∙ all ∙ ap as_stream (append-nil new.tokens), omega (arith, placed, h.counted))

pub whole_cut : (seen fed : Fed) (left : List ℕ) (new : CutPart) → seen ≡ fed → left ≡ seen.left → with_rest seen.cut left ≡ put_all new.tokens finished → new.place ≡ seen.cut.place + length left
    → (bytes : List ℕ) → IsFed fed bytes → (stream_of bytes ≡ record { tokens = new.tokens; refusal = None }) × (new.place ≡ length bytes)
whole_cut seen fed left new se le all placed bytes h =
    whole_cut_here seen new bytes (ap (with_rest seen.cut) (sym le) ∙ all) (omega (arith, placed, ap length le)) (subst (λ f. IsFed f bytes) (sym se) h)

pub whole_refused : (seen fed : Fed) (left : List ℕ) (r : LexRefusal) → seen ≡ fed → left ≡ seen.left → (with_rest seen.cut left).refusal ≡ Some r
    → (bytes : List ℕ) → IsFed fed bytes → (stream_of bytes).refusal ≡ Some r
whole_refused seen fed left r se le e bytes h =
    ap (λ s. s.refusal) (whole_is seen bytes (subst (λ f. IsFed f bytes) (sym se) h) ∙ ap (with_rest seen.cut) (sym le)) ∙ e

pub whole_answered : (seen fed : Fed) (left : List ℕ) (new : CutPart) (refusal : CutRefusal) (result : Result Table CutRefusal) → seen ≡ fed → left ≡ seen.left → CutsAll (Err refusal) seen.cut new left
    → result ≡ Err refusal → (bytes : List ℕ) → IsFed fed bytes → GivesTable result bytes
whole_answered seen fed left new (Lex r) result se le e re bytes h = subst (λ a. GivesTable a bytes) (sym re) (whole_refused seen fed left r se le e bytes h)
whole_answered seen fed left new Memory result se le e re bytes h = subst (λ a. GivesTable a bytes) (sym re) tt
