-- A parallel line is one token: of each depth and schedule, whatever the chunk.
use Prim.Native.String.{String}
use Rattle.std.proofs.Common.{◌≡◌, ◌∙◌, ap, sym, refl, subst, ℕ, suc, ◌+◌, ◌≤◌, Bool, true, false, List, [], ◌∷◌, ◌++◌, length, take, Some, None, arith, append_assoc, append-nil, nat_eq, pos}
use Rattle.std.proofs.lemmas.Bool.{and_parts, and_from, leb-true, le-leb, ltb-true, ltb-false, ne_eqb}
use Rattle.std.proofs.Math.Seq.{take-append_seam, drop-append_seam}
use Rattle.std.specs.Prelude.{◌&&◌, not, nat_le, nat_lt, if◌then◌else◌, codes, decimal, option_map, option_and_then}
use Rattle.std.specs.List.{list_all}
use Rattle.std.specs.Cmp.Lexicographic.{pointwise}
use Rattle.species_ast.specs.declared.tree.Kind.TheVariants as of_kind
use Rattle.species_ast.specs.declared.tree.Mark.TheVariants as mark
use Rattle.species_ast.specs.declared.tree.Schedule.{Schedule}
use Rattle.species_ast.specs.declared.tree.Schedule.TheVariants as schedule
use Rattle.species_ast.specs.declared.tree.Value.TheVariants as value
use Rattle.species_ast.specs.declared.token.TokenKind.{TokenKind}
use Rattle.species_ast.specs.declared.token.TokenKind.TheVariants as kind
use Rattle.species_ast.specs.Text.Characters.{begins, is_digit, is_word, run_of}
use Rattle.species_ast.specs.Text.Comments.{last_backslash}
use Rattle.species_ast.specs.Text.Numbers.{literal_of, run_more, or_else}
use Rattle.species_ast.specs.Text.Parts.{Part, part_len, offset_of, after_words}
use Rattle.species_ast.specs.Text.Pragmas.{schedule_of, schedule_by, int_of, deep, depth_behind, parallel_with, parallel_of, openmp_of}
use Rattle.species_ast.specs.Text.Directives.{Read, parts_form, openmp_form, pragma_with, unless_backslash}
use Rattle.species_print.specs.Statements.{schedule_text, parallel_text}
use Rattle.species_readback.specs.Spelt.{is_int_number, is_no_line_feed, schedule_spelt, mark_spelt}
use Rattle.species_readback.proofs.WordLemmas.{Ends, continues, digit_within, no_blank, digit_no_letter, run_number}
use Rattle.species_readback.proofs.NumberLemmas.{Plain, decimal_plain, literal_is, value_is, no_suffix, int_within, small_number, run_words, digits_run}
use Rattle.species_readback.proofs.DirectiveLemmas.{IsDirective}
use Rattle.species_readback.proofs.ScanLemmas.{Scan, part_at}
use Rattle.species_readback.proofs.SpeciesLemmas.{whole_line}
use Rattle.species_readback.proofs.EndLemmas.{not_spliced_at}
use Rattle.species_readback.proofs.ListLemmas.{all_append}

-- ---- numbers among the parts of a line

abbrev part : ℕ → String → Part
part at word = record { at = at; text = codes word }

-- A number by its digits, and the value of these.
record Digits (n : ℕ) : Type 0 where
  d : ℕ
  ds : List ℕ
  is : decimal n ≡ d ∷ ds
  first : is_digit d ≡ true
  others : list_all is_digit ds ≡ true
  value : literal_of (d ∷ ds) ≡ Some (value.Int (pos n))

digits_of : (n : ℕ) → is_int_number n ≡ true → Digits n
digits_of n h =
    let small = small_number of_kind.Int n h in
    let plain = decimal_plain n small in
    go (decimal n) refl plain (ap literal_of (sym (append-nil (decimal n))) ∙ literal_is (decimal n) [] of_kind.Int n plain no_suffix (value_is n small) h)
  where
    go : (w : List ℕ) → decimal n ≡ w → Plain w → literal_of w ≡ Some (value.Int (pos n)) → Digits n
    go [] e p l = let x : ⊥ = omega (arith, p.1) in absurd x
    go (d ∷ ds) e p l = let k = and_parts (is_digit d) (list_all is_digit ds) p.0 in record { d = d; ds = ds; is = e; first = k.0; others = k.1; value = l }

number_len : (d : ℕ) (ds rest : List ℕ) → is_digit d ≡ true → list_all is_digit ds ≡ true → Ends continues rest → part_len d (ds ++ rest) ≡ suc (length ds)
number_len d ds rest h k e =
    ap (λ c. if c then suc (run_of is_word (ds ++ rest)) else (if is_digit d then suc (run_more d (ds ++ rest)) else 1)) (digit_no_letter d h)
    ∙ ap (λ c. if c then suc (run_more d (ds ++ rest)) else 1) h
    ∙ ap suc (run_number d ds rest (run_words ds (digits_run ds k)) e)

no_comment : (d c : ℕ) (bytes : List ℕ) → is_digit d ≡ true → begins (47 ∷ c ∷ []) (d ∷ bytes) ≡ false
no_comment d c bytes h =
    let w = digit_within d h in
    ap (λ t. t && pointwise nat_eq (c ∷ []) (take 1 bytes)) (ne_eqb 47 d (λ e. omega (arith, w.0, e)))

scan_number : (at d : ℕ) (ds rest : List ℕ) (ps : List Part) → is_digit d ≡ true → list_all is_digit ds ≡ true → Ends continues rest → Scan (at + suc (length ds)) rest ps
    → Scan at (d ∷ (ds ++ rest)) (record { at = at; text = d ∷ ds } ∷ ps)
scan_number at d ds rest ps h k e s =
    let len = number_len d ds rest h k e in
    let w = digit_within d h in
    subst (λ p. Scan at (d ∷ (ds ++ rest)) (p ∷ ps)) (part len)
    (Scan.part at d (ds ++ rest) (length ds) ps (no_blank d (omega (arith, w.0))) (no_comment d 47 (ds ++ rest) h) (no_comment d 42 (ds ++ rest) h) len
    (subst (λ z. Scan (at + suc (length ds)) z ps) (sym (drop-append_seam ds rest)) s))
  where
    part : part_len d (ds ++ rest) ≡ suc (length ds) → part_at at d (ds ++ rest) ≡ record { at = at; text = d ∷ ds }
    part len = ap (λ n. record { at = at; text = take n (d ∷ (ds ++ rest)) }) len ∙ ap (λ z. record { at = at; text = d ∷ z }) (take-append_seam ds rest)

scan_close : (at : ℕ) → Scan at (41 ∷ []) (record { at = at; text = 41 ∷ [] } ∷ [])
scan_close at = Scan.part at 41 [] 0 [] refl refl refl refl (Scan.ends (at + 1))

-- a number is no backslash
offset_number : (at d : ℕ) (ds : List ℕ) (ps : List Part) → is_digit d ≡ true → offset_of (codes "\\") ps ≡ None → offset_of (codes "\\") (record { at = at; text = d ∷ ds } ∷ ps) ≡ None
offset_number at d ds ps h none =
    let w = digit_within d h in
    let e : nat_eq d 92 ≡ false = ne_eqb d 92 (λ e. omega (arith, e, w.1)) in
    rw (e, none) refl

digit_no_line_feed : (x : ℕ) → is_digit x ≡ true → is_no_line_feed x ≡ true
digit_no_line_feed x h = ap not (ne_eqb x 10 (λ e. omega (arith, e, (digit_within x h).0)))

digits_no_line_feed : (ds : List ℕ) → list_all is_digit ds ≡ true → list_all is_no_line_feed ds ≡ true
digits_no_line_feed [] h = refl
digits_no_line_feed (x ∷ ds) h =
    let c = and_parts (is_digit x) (list_all is_digit ds) h in
    and_from (is_no_line_feed x) (list_all is_no_line_feed ds) (digit_no_line_feed x c.0) (digits_no_line_feed ds c.1)

-- ---- the text of a schedule, by its parts

-- The text of a schedule behind other parts of a line.
record ScheduleParts (s : Schedule) (i : ℕ) (text : List ℕ) : Type 0 where
  more : List ℕ
  is_text : text ≡ 32 ∷ more
  front : List ℕ
  ends : 32 ∷ more ≡ front ++ (41 ∷ [])
  feeds : list_all is_no_line_feed more ≡ true
  parts : List Part
  scan : Scan i (32 ∷ more) parts
  is_schedule : schedule_of parts ≡ Some s
  no_backslash : offset_of (codes "\\") parts ≡ None
  no_collapse : after_words (codes "collapse" ∷ codes "(" ∷ []) parts ≡ None

static_parts : (i : ℕ) → ScheduleParts schedule.Static i (schedule_text schedule.Static)
static_parts i = record {
  more = codes "schedule(static)";
  is_text = refl;
  front = codes " schedule(static";
  ends = refl;
  feeds = refl;
  parts = part (i + 1) "schedule" ∷ part ((i + 1) + 8) "(" ∷ part (((i + 1) + 8) + 1) "static" ∷ part ((((i + 1) + 8) + 1) + 6) ")" ∷ [];
  scan =
      Scan.blank i 32 _ _ refl
      (Scan.part (i + 1) 115 (codes "chedule(static)") 7 _ refl refl refl refl
      (Scan.part ((i + 1) + 8) 40 (codes "static)") 0 _ refl refl refl refl
      (Scan.part (((i + 1) + 8) + 1) 115 (codes "tatic)") 5 _ refl refl refl refl
      (scan_close ((((i + 1) + 8) + 1) + 6)))));
  is_schedule = refl;
  no_backslash = refl;
  no_collapse = refl;
}

guided_parts : (i : ℕ) → ScheduleParts schedule.Guided i (schedule_text schedule.Guided)
guided_parts i = record {
  more = codes "schedule(guided)";
  is_text = refl;
  front = codes " schedule(guided";
  ends = refl;
  feeds = refl;
  parts = part (i + 1) "schedule" ∷ part ((i + 1) + 8) "(" ∷ part (((i + 1) + 8) + 1) "guided" ∷ part ((((i + 1) + 8) + 1) + 6) ")" ∷ [];
  scan =
      Scan.blank i 32 _ _ refl
      (Scan.part (i + 1) 115 (codes "chedule(guided)") 7 _ refl refl refl refl
      (Scan.part ((i + 1) + 8) 40 (codes "guided)") 0 _ refl refl refl refl
      (Scan.part (((i + 1) + 8) + 1) 103 (codes "uided)") 5 _ refl refl refl refl
      (scan_close ((((i + 1) + 8) + 1) + 6)))));
  is_schedule = refl;
  no_backslash = refl;
  no_collapse = refl;
}

static_by_parts : (n i : ℕ) → nat_le 1 n ≡ true → Digits n → ScheduleParts (schedule.StaticBy n) i (schedule_text (schedule.StaticBy n))
static_by_parts n i a g =
    let number = g.d ∷ (g.ds ++ (41 ∷ [])) in
    let word = (((i + 1) + 8) + 1) in
    let comma = word + 6 in
    let size = (comma + 1) + 1 in
    let close = size + suc (length g.ds) in
    let back : List Part = record { at = size; text = g.d ∷ g.ds } ∷ record { at = close; text = 41 ∷ [] } ∷ [] in
    record {
      more = codes "schedule(static, " ++ number;
      is_text = ap (λ z. codes " schedule(static, " ++ (z ++ codes ")")) g.is;
      front = codes " schedule(static, " ++ (g.d ∷ g.ds);
      ends = refl;
      feeds = all_append is_no_line_feed (g.d ∷ g.ds) (41 ∷ []) (and_from (is_no_line_feed g.d) (list_all is_no_line_feed g.ds) (digit_no_line_feed g.d g.first) (digits_no_line_feed g.ds g.others)) refl;
      parts = part (i + 1) "schedule" ∷ part ((i + 1) + 8) "(" ∷ part word "static" ∷ part comma "," ∷ back;
      scan =
          Scan.blank i 32 _ _ refl
          (Scan.part (i + 1) 115 (codes "chedule(static, " ++ number) 7 _ refl refl refl refl
          (Scan.part ((i + 1) + 8) 40 (codes "static, " ++ number) 0 _ refl refl refl refl
          (Scan.part word 115 (codes "tatic, " ++ number) 5 _ refl refl refl refl
          (Scan.part comma 44 (codes " " ++ number) 0 _ refl refl refl refl
          (Scan.blank (comma + 1) 32 number back refl
          (scan_number size g.d g.ds (41 ∷ []) _ g.first g.others refl (scan_close close)))))));
      is_schedule = ap (λ o. schedule_by (part word "static") (int_of o)) g.value ∙ ap (λ c. if not c then None else Some (schedule.StaticBy n)) a;
      no_backslash = offset_number size g.d g.ds (record { at = close; text = 41 ∷ [] } ∷ []) g.first refl;
      no_collapse = refl;
    }

dynamic_by_parts : (n i : ℕ) → nat_le 1 n ≡ true → Digits n → ScheduleParts (schedule.DynamicBy n) i (schedule_text (schedule.DynamicBy n))
dynamic_by_parts n i a g =
    let number = g.d ∷ (g.ds ++ (41 ∷ [])) in
    let word = (((i + 1) + 8) + 1) in
    let comma = word + 7 in
    let size = (comma + 1) + 1 in
    let close = size + suc (length g.ds) in
    let back : List Part = record { at = size; text = g.d ∷ g.ds } ∷ record { at = close; text = 41 ∷ [] } ∷ [] in
    record {
      more = codes "schedule(dynamic, " ++ number;
      is_text = ap (λ z. codes " schedule(dynamic, " ++ (z ++ codes ")")) g.is;
      front = codes " schedule(dynamic, " ++ (g.d ∷ g.ds);
      ends = refl;
      feeds = all_append is_no_line_feed (g.d ∷ g.ds) (41 ∷ []) (and_from (is_no_line_feed g.d) (list_all is_no_line_feed g.ds) (digit_no_line_feed g.d g.first) (digits_no_line_feed g.ds g.others)) refl;
      parts = part (i + 1) "schedule" ∷ part ((i + 1) + 8) "(" ∷ part word "dynamic" ∷ part comma "," ∷ back;
      scan =
          Scan.blank i 32 _ _ refl
          (Scan.part (i + 1) 115 (codes "chedule(dynamic, " ++ number) 7 _ refl refl refl refl
          (Scan.part ((i + 1) + 8) 40 (codes "dynamic, " ++ number) 0 _ refl refl refl refl
          (Scan.part word 100 (codes "ynamic, " ++ number) 6 _ refl refl refl refl
          (Scan.part comma 44 (codes " " ++ number) 0 _ refl refl refl refl
          (Scan.blank (comma + 1) 32 number back refl
          (scan_number size g.d g.ds (41 ∷ []) _ g.first g.others refl (scan_close close)))))));
      is_schedule = ap (λ o. schedule_by (part word "dynamic") (int_of o)) g.value ∙ ap (λ c. if not c then None else Some (schedule.DynamicBy n)) a;
      no_backslash = offset_number size g.d g.ds (record { at = close; text = 41 ∷ [] } ∷ []) g.first refl;
      no_collapse = refl;
    }

schedule_parts : (s : Schedule) (i : ℕ) → schedule_spelt s ≡ true → ScheduleParts s i (schedule_text s)
schedule_parts schedule.Static i h = static_parts i
schedule_parts (schedule.StaticBy n) i h = let k = and_parts (nat_le 1 n) (is_int_number n) h in static_by_parts n i k.0 (digits_of n k.1)
schedule_parts (schedule.DynamicBy n) i h = let k = and_parts (nat_le 1 n) (is_int_number n) h in dynamic_by_parts n i k.0 (digits_of n k.1)
schedule_parts schedule.Guided i h = guided_parts i

-- ---- a line of `#pragma omp parallel for` and more

abbrev words : List Part → List Part
words ps = part 8 "omp" ∷ part 12 "parallel" ∷ part 21 "for" ∷ ps

words_scan : (more : List ℕ) (ps : List Part) → Scan 24 (32 ∷ more) ps → Scan 1 (codes "pragma omp parallel for" ++ (32 ∷ more)) (part 1 "pragma" ∷ words ps)
words_scan more ps s =
    Scan.part 1 112 (codes "ragma omp parallel for" ++ (32 ∷ more)) 5 _ refl refl refl refl
    (Scan.blank 7 32 (codes "omp parallel for" ++ (32 ∷ more)) _ refl
    (Scan.part 8 111 (codes "mp parallel for" ++ (32 ∷ more)) 2 _ refl refl refl refl
    (Scan.blank 11 32 (codes "parallel for" ++ (32 ∷ more)) _ refl
    (Scan.part 12 112 (codes "arallel for" ++ (32 ∷ more)) 7 _ refl refl refl refl
    (Scan.blank 20 32 (codes "for" ++ (32 ∷ more)) _ refl
    (Scan.part 21 102 (codes "or" ++ (32 ∷ more)) 2 ps refl refl refl refl s))))))

words_form : (line : List ℕ) (k : TokenKind) (ps : List Part) → offset_of (codes "\\") ps ≡ None → parallel_of ps ≡ Some k → parts_form line (part 1 "pragma" ∷ words ps) ≡ Read line k
unfolding openmp_of
words_form line k ps plain is =
    ap (λ o. unless_backslash o (pragma_with line (words ps))) plain
    ∙ ap (λ o. openmp_form line (or_else o None)) is

-- What stands behind these words, from the blank on.
record Behind (depth : ℕ) (s : Schedule) (text : List ℕ) : Type 0 where
  more : List ℕ
  is_text : text ≡ 32 ∷ more
  front : List ℕ
  ends : 32 ∷ more ≡ front ++ (41 ∷ [])
  feeds : list_all is_no_line_feed more ≡ true
  parts : List Part
  scan : Scan 24 (32 ∷ more) parts
  no_backslash : offset_of (codes "\\") parts ≡ None
  is_parallel : parallel_of parts ≡ Some (kind.Parallel depth s)

abbrev head : List ℕ
head = codes "#pragma omp parallel for"

directive_of : (depth : ℕ) (s : Schedule) (text : List ℕ) → Behind depth s text → IsDirective (head ++ text) (kind.Parallel depth s)
directive_of depth s text b =
    let more = codes "pragma omp parallel for" ++ (32 ∷ b.more) in
    subst (λ t. IsDirective (head ++ t) (kind.Parallel depth s)) (sym b.is_text) (record {
      more = more;
      begins = refl;
      one_line = b.feeds;
      whole = ap (λ z. last_backslash (head ++ z)) b.ends ∙ not_spliced_at (head ++ b.front) 41 (omega arith) refl refl;
      is_form = whole_line more (part 1 "pragma" ∷ words b.parts) refl (words_scan b.more b.parts b.scan)
          ∙ words_form (35 ∷ more) (kind.Parallel depth s) b.parts b.no_backslash b.is_parallel;
      is_kind = λ n. refl;
    })

-- ---- one loop

one_loop : (s : Schedule) → schedule_spelt s ≡ true → Behind 1 s (schedule_text s)
one_loop s h =
    let p = schedule_parts s 24 h in
    record {
      more = p.more;
      is_text = p.is_text;
      front = p.front;
      ends = p.ends;
      feeds = p.feeds;
      parts = p.parts;
      scan = p.scan;
      no_backslash = p.no_backslash;
      is_parallel = ap (λ o. option_and_then parallel_with (depth_behind p.parts o)) p.no_collapse ∙ ap (option_map (kind.Parallel 1)) p.is_schedule;
    }

-- ---- more loops

deep_is : (depth : ℕ) (ps : List Part) → nat_le 2 depth ≡ true → nat_le depth 8 ≡ true → deep depth ps ≡ Some (depth, ps)
deep_is depth ps a b = ap (λ c. if c && nat_le depth 8 then Some (depth, ps) else None) a ∙ ap (λ c. if c then Some (depth, ps) else None) b

more_loops : (depth : ℕ) (s : Schedule) → nat_le 2 depth ≡ true → nat_le depth 8 ≡ true → Digits depth → schedule_spelt s ≡ true
    → Behind depth s ((codes " collapse(" ++ (decimal depth ++ codes ")")) ++ schedule_text s)
more_loops depth s a b g h =
    let size : ℕ = 34 in
    let close = size + suc (length g.ds) in
    let p = schedule_parts s (close + 1) h in
    let back = g.d ∷ (g.ds ++ (41 ∷ 32 ∷ p.more)) in
    let tail : List Part = record { at = size; text = g.d ∷ g.ds } ∷ record { at = close; text = 41 ∷ [] } ∷ p.parts in
    record {
      more = codes "collapse(" ++ back;
      is_text =
          ap (λ z. (codes " collapse(" ++ (z ++ codes ")")) ++ schedule_text s) g.is
          ∙ ap (λ z. codes " collapse(" ++ ((g.d ∷ (g.ds ++ (41 ∷ []))) ++ z)) p.is_text
          ∙ ap (λ z. codes " collapse(" ++ (g.d ∷ z)) (append_assoc g.ds (41 ∷ []) (32 ∷ p.more));
      front = codes " collapse(" ++ (g.d ∷ (g.ds ++ (41 ∷ p.front)));
      ends =
          ap (λ z. codes " collapse(" ++ (g.d ∷ (g.ds ++ (41 ∷ z)))) p.ends
          ∙ ap (λ z. codes " collapse(" ++ (g.d ∷ z)) (sym (append_assoc g.ds (41 ∷ p.front) (41 ∷ [])));
      feeds = all_append is_no_line_feed (g.d ∷ g.ds) (41 ∷ 32 ∷ p.more) (and_from (is_no_line_feed g.d) (list_all is_no_line_feed g.ds) (digit_no_line_feed g.d g.first) (digits_no_line_feed g.ds g.others)) p.feeds;
      parts = part 25 "collapse" ∷ part 33 "(" ∷ tail;
      scan =
          Scan.blank 24 32 (codes "collapse(" ++ back) _ refl
          (Scan.part 25 99 (codes "ollapse(" ++ back) 7 _ refl refl refl refl
          (Scan.part 33 40 back 0 tail refl refl refl refl
          (scan_number size g.d g.ds (41 ∷ 32 ∷ p.more) _ g.first g.others refl
          (Scan.part close 41 (32 ∷ p.more) 0 p.parts refl refl refl refl p.scan))));
      no_backslash = offset_number size g.d g.ds (record { at = close; text = 41 ∷ [] } ∷ p.parts) g.first p.no_backslash;
      is_parallel =
          ap (λ o. option_and_then parallel_with (deep (int_of o) p.parts)) g.value
          ∙ ap (option_and_then parallel_with) (deep_is depth p.parts a b)
          ∙ ap (option_map (kind.Parallel depth)) p.is_schedule;
    }

-- ---- the law

pub parallel_directive : (depth : ℕ) (s : Schedule) → mark_spelt (mark.Parallel depth s) ≡ true → IsDirective (parallel_text depth s) (kind.Parallel depth s)
parallel_directive depth s h = go (nat_lt 1 depth) refl
  where
    least : 1 ≤ depth
    least = leb-true 1 depth (and_parts (nat_le 1 depth) (nat_le depth 8 && schedule_spelt s) h).0

    others : (nat_le depth 8 ≡ true) × (schedule_spelt s ≡ true)
    others = and_parts (nat_le depth 8) (schedule_spelt s) (and_parts (nat_le 1 depth) (nat_le depth 8 && schedule_spelt s) h).1

    most : depth ≤ 8
    most = leb-true depth 8 others.0

    go : (c : Bool) → nat_lt 1 depth ≡ c → IsDirective (parallel_text depth s) (kind.Parallel depth s)
    go true e =
        let two : 2 ≤ depth = omega (arith, ltb-true 1 depth e) in
        let int : is_int_number depth ≡ true = int_within depth (omega (arith, most)) in
        subst (λ z. IsDirective (head ++ (z ++ schedule_text s)) (kind.Parallel depth s))
        (sym (ap (λ c. if c then codes " collapse(" ++ (decimal depth ++ codes ")") else []) e))
        (directive_of depth s ((codes " collapse(" ++ (decimal depth ++ codes ")")) ++ schedule_text s) (more_loops depth s (le-leb 2 depth two) others.0 (digits_of depth int) others.1))
    go false e =
        let one : 1 ≡ depth = omega (arith, least, ltb-false 1 depth e) in
        subst (λ k. IsDirective (parallel_text k s) (kind.Parallel k s)) one (directive_of 1 s (schedule_text s) (one_loop s others.1))
