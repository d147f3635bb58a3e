-- No depth bounds the readers of a line: they never answer that they were too shallow.
use Rattle.std.proofs.Common.{ap, ℕ, zero, suc, ◌<◌, [], length, Some, None, Bool, true, false, arith}
use Rattle.species_grammar.specs.Reader.{Reader, Word, is_of, word, nothing, both, mapped, choose, skip, ends, maybe, cons_of, many, repeated}
use Rattle.species_grammar.specs.Lawful.{Enough, Takes, Advances}
use Rattle.species_grammar.proofs.Laws.{same_rest}
use Rattle.species_grammar.proofs.Depth.{mapped_enough, choose_enough, nothing_enough, many_enough, both_takes, mapped_takes, choose_takes, fewer_takes}
use Rattle.species_grammar.proofs.Free.{Never, never_both, advances_one, ever_enough}
use Rattle.species_notation.specs.declared.parts.Part.{Part}
use Rattle.species_notation.specs.Readers.{sign, name, number, plus_or_minus, arc_words, marks, the_word, more_of, listed, leading, summand_of, once, product, first_summand, next_summand, more_summands, form_of, form, range_of, range, int_of, int, span_of, span_from, behind_minus, offset, offsets, forms, ranges, arc_of, arc}
use Rattle.std.specs.Prelude.{codes}

record Total {A : Type 0} (r : Reader Part A) : Type 0 where
  takes : Takes r 0
  never : Never r

never_of : {A : Type 0} (r : Reader Part A) → ((n : ℕ) → Enough r n) → Never r
never_of r h ts d = let lt : length ts < suc (length ts) = omega arith in h (suc (length ts)) ts lt d

t_nothing : {A : Type 0} (x : A) → Total (nothing x)
t_nothing x = record { takes = λ ts y rest h. omega (arith, ap length (same_rest h)); never = never_of (nothing x) (λ n. nothing_enough x n) }

t_of : {A : Type 0} (r : Reader Part A) → Advances r → Total r
t_of r h = record { takes = fewer_takes r 1 h.takes; never = h.never }

a_word : {A : Type 0} (w : Word Part A) → Advances (word w)
a_word w = advances_one w.says

a_mapped : {A B : Type 0} (f : A → B) (r : Reader Part A) → Advances r → Advances (mapped f r)
a_mapped f r h = record { takes = mapped_takes f r 1 h.takes; never = never_of (mapped f r) (λ n. mapped_enough f r n (λ ts lt d. h.never ts d)) }

a_choose : {A : Type 0} (c : Part → Bool) (r q : Reader Part A) → Advances r → Advances q → Advances (choose c r q)
a_choose c r q h k = record { takes = choose_takes c r q 1 h.takes k.takes; never = never_of (choose c r q) (λ n. choose_enough c r q n (λ ts lt d. h.never ts d) (λ ts lt d. k.never ts d)) }

t_choose : {A : Type 0} (c : Part → Bool) (r q : Reader Part A) → Total r → Total q → Total (choose c r q)
t_choose c r q h k = record { takes = choose_takes c r q 0 h.takes k.takes; never = never_of (choose c r q) (λ n. choose_enough c r q n (λ ts lt d. h.never ts d) (λ ts lt d. k.never ts d)) }

a_both : {A B : Type 0} (r : Reader Part A) (q : Reader Part B) → Advances r → Total q → Advances (both r q)
a_both r q h k = record { takes = both_takes r q 1 0 h.takes k.takes; never = never_both r q h.never k.never }

a_after : {A B : Type 0} (r : Reader Part A) (q : Reader Part B) → Total r → Advances q → Advances (both r q)
a_after r q h k = record { takes = both_takes r q 0 1 h.takes k.takes; never = never_both r q h.never k.never }

a_skip : {A B : Type 0} (w : Word Part A) (r : Reader Part B) → Total r → Advances (skip w r)
a_skip w r h = a_mapped (λ p. p.1) (both (word w) r) (a_both (word w) r (a_word w) h)

a_ends : {A B : Type 0} (r : Reader Part B) (w : Word Part A) → Advances r → Advances (ends r w)
a_ends r w h = a_mapped (λ p. p.0) (both r (word w)) (a_both r (word w) h (t_of (word w) (a_word w)))

t_maybe : {A B : Type 0} (w : Word Part A) (r : Reader Part B) → Total r → Total (maybe w r)
t_maybe w r h = t_choose (is_of w) (mapped Some (skip w r)) (nothing None) (t_of (mapped Some (skip w r)) (a_mapped Some (skip w r) (a_skip w r h))) (t_nothing None)

many_takes : {A : Type 0} (c : Part → Bool) (r : Reader Part A) → Advances r → (m : ℕ) → Takes (many m c r) 0
many_takes c r h zero = λ ts x rest e. cc
many_takes c r h (suc m) = choose_takes c (mapped cons_of (both r (many m c r))) (nothing []) 0 (mapped_takes cons_of (both r (many m c r)) 0 (both_takes r (many m c r) 0 0 (fewer_takes r 1 h.takes) (many_takes c r h m))) (t_nothing []).takes

t_repeated : {A : Type 0} (c : Part → Bool) (r : Reader Part A) → Advances r → Total (repeated c r)
unfolding repeated
t_repeated c r h = record {
  takes = λ ts x rest e. many_takes c r h (suc (length ts)) ts x rest e;
  never = λ ts d. let lt : length ts < suc (length ts) = omega arith in many_enough (suc (length ts)) c r h.takes (ever_enough r (suc (length ts)) h) ts lt d;
}

a_listed : {A : Type 0} (n : ℕ) (r : Reader Part A) → Advances r → Advances (listed n r)
a_listed n r h = a_mapped cons_of (both r (more_of n r)) (a_both r (more_of n r) h (t_repeated (is_of (sign n)) (skip (sign n) r) (a_skip (sign n) r (t_of r h))))

-- ---- the readers of a line

t_leading : Total leading
unfolding leading
t_leading = t_choose (is_of (sign 45)) (mapped (λ x. true) (word (sign 45))) (nothing false) (t_of (mapped (λ x. true) (word (sign 45))) (a_mapped (λ x. true) (word (sign 45)) (a_word (sign 45)))) (t_nothing false)

a_product : Advances product
unfolding product
a_product = a_choose (is_of number) (both (word number) (maybe (sign 42) (word name))) (mapped once (word name))
    (a_both (word number) (maybe (sign 42) (word name)) (a_word number) (t_maybe (sign 42) (word name) (t_of (word name) (a_word name)))) (a_mapped once (word name) (a_word name))

a_first : Advances first_summand
unfolding first_summand
a_first = a_mapped summand_of (both leading product) (a_after leading product t_leading a_product)

pub a_next : Advances next_summand
unfolding next_summand
a_next = a_mapped summand_of (both (word plus_or_minus) product) (a_both (word plus_or_minus) product (a_word plus_or_minus) (t_of product a_product))

a_form : Advances form
unfolding form
a_form = a_mapped form_of (both first_summand more_summands) (a_both first_summand more_summands a_first (t_repeated (is_of plus_or_minus) next_summand a_next))

a_range : Advances range
unfolding range
a_range = a_mapped range_of (both form (skip (sign 58) form)) (a_both form (skip (sign 58) form) a_form (t_of (skip (sign 58) form) (a_skip (sign 58) form (t_of form a_form))))

a_int : Advances int
unfolding int
a_int = a_mapped int_of (both leading (word number)) (a_after leading (word number) t_leading (a_word number))

a_span : (b : Bool) → Advances (span_from b)
unfolding span_from
a_span b =
    let more = skip (sign 58) (both int (maybe (sign 58) (word number))) in
    a_mapped (span_of b) (both (word number) more) (a_both (word number) more (a_word number)
    (t_of more (a_skip (sign 58) (both int (maybe (sign 58) (word number))) (t_of (both int (maybe (sign 58) (word number))) (a_both int (maybe (sign 58) (word number)) a_int (t_maybe (sign 58) (word number) (t_of (word number) (a_word number))))))))

a_offset : Advances offset
unfolding offset
a_offset = a_choose (is_of (sign 45)) (skip (sign 45) behind_minus) (span_from false)
    (a_skip (sign 45) behind_minus (t_choose (is_of number) (span_from true) (nothing None) (t_of (span_from true) (a_span true)) (t_nothing None))) (a_span false)

t_offsets : Total offsets
unfolding offsets
t_offsets = t_maybe (sign 40) (ends (listed 44 offset) (sign 41)) (t_of (ends (listed 44 offset) (sign 41)) (a_ends (listed 44 offset) (sign 41) (a_listed 44 offset a_offset)))

a_forms : Advances forms
unfolding forms
a_forms = a_skip (sign 40) (ends (listed 44 form) (sign 41)) (t_of (ends (listed 44 form) (sign 41)) (a_ends (listed 44 form) (sign 41) (a_listed 44 form a_form)))

a_ranges : Advances ranges
unfolding ranges
a_ranges = a_skip (sign 91) (ends (listed 44 range) (sign 93)) (t_of (ends (listed 44 range) (sign 93)) (a_ends (listed 44 range) (sign 93) (a_listed 44 range a_range)))

a_tail : Advances (skip (the_word (codes "at")) (both forms (word marks)))
a_tail = a_skip (the_word (codes "at")) (both forms (word marks)) (t_of (both forms (word marks)) (a_both forms (word marks) a_forms (t_of (word marks) (a_word marks))))

a_arc : Advances arc
unfolding arc
a_arc =
    let tail = skip (the_word (codes "at")) (both forms (word marks)) in
    let offsets_on = a_after offsets tail t_offsets a_tail in
    let word_on = a_both (word arc_words) (both offsets tail) (a_word arc_words) (t_of (both offsets tail) offsets_on) in
    let bar_on = a_skip (sign 124) (both (word arc_words) (both offsets tail)) (t_of (both (word arc_words) (both offsets tail)) word_on) in
    let ranges_on = a_both ranges (skip (sign 124) (both (word arc_words) (both offsets tail))) a_ranges (t_of (skip (sign 124) (both (word arc_words) (both offsets tail))) bar_on) in
    a_mapped arc_of (both (word name) (both ranges (skip (sign 124) (both (word arc_words) (both offsets tail)))))
    (a_both (word name) (both ranges (skip (sign 124) (both (word arc_words) (both offsets tail)))) (a_word name) (t_of (both ranges (skip (sign 124) (both (word arc_words) (both offsets tail)))) ranges_on))

-- ---- behind a separator

pub a_next_offset : Advances (skip (sign 44) offset)
a_next_offset = a_skip (sign 44) offset (t_of offset a_offset)

pub a_next_form : Advances (skip (sign 44) form)
a_next_form = a_skip (sign 44) form (t_of form a_form)

pub a_next_range : Advances (skip (sign 44) range)
a_next_range = a_skip (sign 44) range (t_of range a_range)

pub a_next_arc : Advances (skip (sign 94) arc)
a_next_arc = a_skip (sign 94) arc (t_of arc a_arc)
