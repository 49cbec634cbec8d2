-- The runs of an ask have the file blocks that were asked for, in order.
use Rattle.std.proofs.Common.{◌≡◌, ℕ, zero, suc, Bool, true, false, not, ◌+◌, ◌-◌, ◌/◌, ◌%◌, ◌^◌, ◌≤◌, ◌<◌, nat_lt, if◌then◌else◌, List, [], ◌∷◌, ◌++◌, sym, ap, ap₂, ◌∙◌, arith}
use Rattle.std.specs.List.{AllByRecursion, range_with_len}
use Rattle.std.proofs.lemmas.Bool.{and_from, lt-ltb, ne_eqb, not_from_false}
use Rattle.xfs_geom.specs.declared.records.Run.{Run}
use Rattle.xfs_kinds.specs.OffsetWords.{is_file_data, is_tree_block, is_unwritten}
use Rattle.xfs_place.specs.Objects.{AreJoined, rest_of}
use Rattle.xfs_place.specs.declared.wanted.RunAsk.{RunAsk}
use Rattle.xfs_built.specs.Pieces.{IsLowRun, offsets_in}

-- a number of a file block that is low has no flags
pub data_word : (owner word : ℕ) → owner < 2 ^ 63 → word < 2 ^ 61 → is_file_data owner word ≡ true
data_word owner word low small =
    and_from (nat_lt owner (2 ^ 63)) (not (is_tree_block word)) (lt-ltb owner (2 ^ 63) low)
    (not_from_false (is_tree_block word) (ne_eqb (word / 2 ^ 62 % 2) 1 (λ e. omega (arith, e, small))))

pub written_word : (word : ℕ) → word < 2 ^ 61 → is_unwritten word ≡ false
written_word word small = ne_eqb (word / 2 ^ 61 % 2) 1 (λ e. omega (arith, e, small))

pub range_split : (a m n : ℕ) → range_with_len a (m + n) ≡ range_with_len a m ++ range_with_len (a + m) n
range_split a zero n = ap₂ (λ (k m : ℕ). range_with_len k m) (omega arith) (omega arith)
range_split a (suc m) n =
    let longer : suc m + n ≡ suc (m + n) = omega arith in
    ap (λ (k : ℕ). range_with_len a k) longer
    ∙ ap (λ (xs : List ℕ). a ∷ xs) (range_split (a + 1) m n ∙ ap (λ (k : ℕ). range_with_len (a + 1) m ++ range_with_len k n) (omega arith))

range_parts : (a n m : ℕ) → m ≤ n → range_with_len a m ++ range_with_len (a + m) (n - m) ≡ range_with_len a n
range_parts a n m few = sym (range_split a m (n - m)) ∙ ap (λ (k : ℕ). range_with_len a k) (omega (arith, few))

pub joined_offsets : (ask : RunAsk) (runs : List Run) → ask.owner < 2 ^ 63 → ask.offset_word + ask.blocks < 2 ^ 61 → AreJoined ask runs
    → offsets_in runs ≡ range_with_len ask.offset_word ask.blocks
joined_offsets ask [] low room none = ap (λ (n : ℕ). range_with_len ask.offset_word n) (sym none)
joined_offsets ask (r ∷ rest) low room joined =
    let few = joined.1 in
    let same : r.offset_word ≡ ask.offset_word = ap (λ (x : Run). x.offset_word) joined.0 in
    let word : (rest_of ask r.count).offset_word ≡ ask.offset_word + r.count =
    ap (λ (t : Bool). if t then ask.offset_word + r.count else ask.offset_word) (data_word ask.owner ask.offset_word low (omega (arith, room))) in
    let behind = joined_offsets (rest_of ask r.count) rest low (omega (arith, room, word, few)) joined.2 in
    ap₂ (λ (k : ℕ) (xs : List ℕ). range_with_len k r.count ++ xs) same (behind ∙ ap (λ (k : ℕ). range_with_len k (ask.blocks - r.count)) word)
    ∙ range_parts ask.offset_word ask.blocks r.count few

-- they are no longer than the ask, and end where it ends
pub joined_low : (ask : RunAsk) (runs : List Run) → ask.owner < 2 ^ 63 → ask.blocks < 2 ^ 21 → ask.offset_word + ask.blocks < 2 ^ 54 → AreJoined ask runs → AllByRecursion IsLowRun runs
joined_low ask [] low few room joined = tt
joined_low ask (r ∷ rest) low few room joined =
    let short = joined.1 in
    let same : r.offset_word ≡ ask.offset_word = ap (λ (x : Run). x.offset_word) joined.0 in
    let word : (rest_of ask r.count).offset_word ≡ ask.offset_word + r.count =
    ap (λ (t : Bool). if t then ask.offset_word + r.count else ask.offset_word) (data_word ask.owner ask.offset_word low (omega (arith, room))) in (
      record { few = omega (arith, short, few); room = omega (arith, same, short, room) },
      joined_low (rest_of ask r.count) rest low (omega (arith, few)) (omega (arith, room, word, short)) joined.2,
    )
