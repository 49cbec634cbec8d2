-- The extents of the runs of a file lead to the blocks that stand in them.
use Rattle.std.proofs.Common.{◌≡◌, inl, inr, ℕ, zero, suc, ◌+◌, ◌-◌, ◌*◌, ◌/◌, ◌%◌, ◌^◌, ◌≤◌, ◌<◌, Bool, true, false, min, nat_le, nat_lt, List, [], ◌∷◌, ◌++◌, length, length-append, map, get_or, arith, refl, sym, subst, ap, ◌∙◌, append-nil}
use Rattle.std.specs.Prelude.{if◌then◌else◌}
use Rattle.std.specs.List.{All, flat_map, range_with_len}
use Rattle.std.proofs.Math.Nat.{mod-eq_of_lt}
use Rattle.std.proofs.lemmas.Bool.{and_from, and_parts, cases_lt, le-leb, leb-true, lt-ltb, ltb-true}
use Rattle.std.proofs.lemmas.List.{get_or-append-add, get_or_append_left}
use Rattle.std.proofs.lemmas.List.FromFn.{get_or-range_with_len}
use Rattle.xfs_word.specs.declared.extents.Extent.{Extent}
use Rattle.xfs_disk.specs.Blocks.{Image, bytes_of_block}
use Rattle.xfs_geom.specs.Volumes.{Volume}
use Rattle.xfs_geom.specs.declared.records.Run.{Run}
use Rattle.xfs_image.specs.Keeping.{byte_in, byte_over, has_block}
use Rattle.xfs_kinds.specs.OffsetWords.{offset_in_fork}
use Rattle.xfs_place.specs.Objects.{AreJoined, rest_of}
use Rattle.xfs_place.specs.declared.wanted.RunAsk.{RunAsk}
use Rattle.xfs_built.specs.Pieces.{places_of_runs, run_places}
use Rattle.xfs_built.proofs.Mapping.{address_leads, length_range}
use Rattle.xfs_filled.specs.Forks.{extent_of_piece, extents_of_run}
use Rattle.xfs_populated.proofs.FileOrder.{data_word}

-- a byte by the number of a block of the volume
abbrev pub byte_at : Image → ℕ → ℕ → ℕ
byte_at image b i = get_or (bytes_of_block image b) (i % 4096) 0

module _ (v : Volume) (image : Image) (i : ℕ) where
  over_other : (e : Extent) (es : List Extent) → has_block e (i / 4096) ≡ false → byte_over v image (e ∷ es) i ≡ byte_over v image es i
  unfolding byte_over
  over_other e es is = ap (λ (t : Bool). if t then (if e.unwritten then 0 else byte_in v image e i) else byte_over v image es i) is

  over_own : (e : Extent) (es : List Extent) → has_block e (i / 4096) ≡ true → e.unwritten ≡ false → byte_over v image (e ∷ es) i ≡ byte_in v image e i
  unfolding byte_over
  over_own e es is written =
      ap (λ (t : Bool). if t then (if e.unwritten then 0 else byte_in v image e i) else byte_over v image es i) is
      ∙ ap (λ (t : Bool). if t then 0 else byte_in v image e i) written

  has_not : (e : Extent) (t : Bool) → has_block e (i / 4096) ≡ t → (e.offset ≤ i / 4096 → i / 4096 < e.offset + e.count → ⊥) → has_block e (i / 4096) ≡ false
  has_not e true is none =
      let both = and_parts (nat_le e.offset (i / 4096)) (nat_lt (i / 4096) (e.offset + e.count)) is in
      absurd (none (leb-true e.offset (i / 4096) both.0) (ltb-true (i / 4096) (e.offset + e.count) both.1))
  has_not e false is none = is

  -- a run in front of the block
  row_off : (r : Run) (a m : ℕ) (rest : List Extent) → offset_in_fork r.offset_word + r.count ≤ i / 4096
      → byte_over v image (map (extent_of_piece v r) (range_with_len a m) ++ rest) i ≡ byte_over v image rest i
  row_off r a zero rest behind = refl
  row_off r a (suc m) rest behind =
      over_other (extent_of_piece v r a) (map (extent_of_piece v r) (range_with_len (a + 1) m) ++ rest)
      (has_not (extent_of_piece v r a) (has_block (extent_of_piece v r a) (i / 4096)) refl (λ low high. absurd (omega (arith, low, high, behind))))
      ∙ row_off r (a + 1) m rest behind

  module _ (large : 1 ≤ v.agblocks) (enough : v.agblocks ≤ 2 ^ v.agblklog) where
    -- a run that has it
    row_on : (r : Run) (a m : ℕ) (rest : List Extent) → offset_in_fork r.offset_word + a * 2097151 ≤ i / 4096 → i / 4096 < offset_in_fork r.offset_word + r.count
        → i / 4096 < offset_in_fork r.offset_word + (a + m) * 2097151
        → byte_over v image (map (extent_of_piece v r) (range_with_len a m) ++ rest) i ≡ byte_at image (r.start + (i / 4096 - offset_in_fork r.offset_word)) i
    row_on r a zero rest low high end = absurd (omega (arith, low, end))
    row_on r a (suc m) rest low high end =
        elim (cases_lt (i / 4096) (offset_in_fork r.offset_word + (a + 1) * 2097151)) [
          | inl near ↦
              over_own (extent_of_piece v r a) (map (extent_of_piece v r) (range_with_len (a + 1) m) ++ rest)
              (and_from (nat_le (offset_in_fork r.offset_word + a * 2097151) (i / 4096)) (nat_lt (i / 4096) ((offset_in_fork r.offset_word + a * 2097151) + min 2097151 (r.count - a * 2097151)))
              (le-leb (offset_in_fork r.offset_word + a * 2097151) (i / 4096) low)
              (lt-ltb (i / 4096) ((offset_in_fork r.offset_word + a * 2097151) + min 2097151 (r.count - a * 2097151)) (omega (arith, low, high, near)))) refl
              ∙ ap (λ (n : ℕ). byte_at image (n + (i / 4096 - (offset_in_fork r.offset_word + a * 2097151))) i) (address_leads v (r.start + a * 2097151) large enough)
              ∙ ap (λ (n : ℕ). byte_at image n i) (omega (arith, low))
          | inr far ↦
              over_other (extent_of_piece v r a) (map (extent_of_piece v r) (range_with_len (a + 1) m) ++ rest)
              (has_not (extent_of_piece v r a) (has_block (extent_of_piece v r a) (i / 4096)) refl (λ first last. absurd (omega (arith, first, last, far))))
              ∙ row_on r (a + 1) m rest (omega (arith, far)) high (omega (arith, end))
        ]

    -- the runs of an ask
    pub joined_byte : (runs : List Run) (ask : RunAsk) → AreJoined ask runs → ask.owner < 2 ^ 63 → ask.offset_word + ask.blocks ≤ 2 ^ 33 → ask.offset_word ≤ i / 4096 → i / 4096 < ask.offset_word + ask.blocks
        → byte_over v image (flat_map (extents_of_run v) runs) i ≡ byte_at image (get_or (places_of_runs runs) (i / 4096 - ask.offset_word) 0) i
    joined_byte [] ask joined owner small low high = absurd (omega (arith, joined, low, high))
    joined_byte (r ∷ runs) ask joined owner small low high =
        let word : r.offset_word ≡ ask.offset_word = ap (λ (x : Run). x.offset_word) joined.0 in
        let few = joined.1 in
        let plain : offset_in_fork r.offset_word ≡ r.offset_word = mod-eq_of_lt (omega (arith, word, small)) in
        let next : (rest_of ask r.count).offset_word ≡ ask.offset_word + r.count =
        ap (λ (t : Bool). if t then ask.offset_word + r.count else ask.offset_word) (data_word ask.owner ask.offset_word owner (omega (arith, small))) in
        let count : ℕ = (r.count + 2097150) / 2097151 in
        let long : length (run_places r) ≡ r.count = length_range r.start r.count in
        elim (cases_lt (i / 4096) (ask.offset_word + r.count)) [
          | inl near ↦
              row_on r 0 ((r.count + 2097150) / 2097151) (flat_map (extents_of_run v) runs) (omega (arith, low, word, plain)) (omega (arith, near, word, plain)) (omega (arith, near, word, plain))
              ∙ ap (λ (n : ℕ). byte_at image n i)
              (sym (get_or_append_left (run_places r) (places_of_runs runs) 0 (i / 4096 - ask.offset_word) (omega (arith, long, near, low))
              ∙ get_or-range_with_len r.start r.count (i / 4096 - ask.offset_word) 0 (omega (arith, near, low))
              ∙ ap (λ (n : ℕ). r.start + (i / 4096 - n)) (sym (plain ∙ word))))
          | inr far ↦
              let index : i / 4096 - ask.offset_word ≡ length (run_places r) + (i / 4096 - (rest_of ask r.count).offset_word) = omega (arith, next, far, long) in
              row_off r 0 ((r.count + 2097150) / 2097151) (flat_map (extents_of_run v) runs) (omega (arith, far, word, plain))
              ∙ joined_byte runs (rest_of ask r.count) joined.2 owner (omega (arith, next, small, few)) (omega (arith, next, far)) (omega (arith, next, high, few))
              ∙ ap (λ (n : ℕ). byte_at image n i)
              (sym (ap (λ (n : ℕ). get_or (run_places r ++ places_of_runs runs) n 0) index
              ∙ get_or-append-add (run_places r) (places_of_runs runs) (i / 4096 - (rest_of ask r.count).offset_word) 0))
        ]

-- how many blocks the runs of an ask have
pub joined_count : (runs : List Run) (ask : RunAsk) → AreJoined ask runs → length (places_of_runs runs) ≡ ask.blocks
joined_count [] ask joined = sym joined
joined_count (r ∷ runs) ask joined =
    let few = joined.1 in
    let both = length-append (run_places r) (places_of_runs runs) in
    let long = length_range r.start r.count in
    let rest = joined_count runs (rest_of ask r.count) joined.2 in
    omega (arith, few, both, long, rest)

places_append : (xs ys : List Run) → length (places_of_runs (xs ++ ys)) ≡ length (places_of_runs xs) + length (places_of_runs ys)
places_append [] ys = omega arith
places_append (x ∷ xs) ys =
    let all = length-append (run_places x) (places_of_runs (xs ++ ys)) in
    let own = length-append (run_places x) (places_of_runs xs) in
    let rest = places_append xs ys in
    omega (arith, all, own, rest)

none_left : (runs : List Run) → All (λ (r : Run). 1 ≤ r.count) runs → length (places_of_runs runs) ≡ 0 → runs ≡ []
none_left [] some none = refl
none_left (r ∷ runs) some none =
    let one = some zero r (omega arith) in
    let all = length-append (run_places r) (places_of_runs runs) in
    let long = length_range r.start r.count in
    absurd (omega (arith, one, all, long, none))

-- runs that are no more than those in their middle are just these
pub just_middle : (front own back runs : List Run) → runs ≡ front ++ (own ++ back) → All (λ (r : Run). 1 ≤ r.count) runs → length (places_of_runs runs) ≡ length (places_of_runs own) → runs ≡ own
just_middle front own back runs whole some same =
    let all : All (λ (r : Run). 1 ≤ r.count) (front ++ (own ++ back)) = subst (All (λ (r : Run). 1 ≤ r.count)) whole some in
    let long = length-append front (own ++ back) in
    let inner = length-append own back in
    let total : length (places_of_runs runs) ≡ length (places_of_runs (front ++ (own ++ back))) = ap (λ (xs : List Run). length (places_of_runs xs)) whole in
    let one = places_append front (own ++ back) in
    let two = places_append own back in
    let first : front ≡ [] = none_left front (λ k d low. subst (λ (r : Run). 1 ≤ r.count) (get_or_append_left front (own ++ back) d k low) (all k d (omega (arith, low, long))))
    (omega (arith, total, one, two, same)) in
    let last : back ≡ [] = none_left back
    (λ k d low. subst (λ (r : Run). 1 ≤ r.count) (get_or-append-add front (own ++ back) (length own + k) d ∙ get_or-append-add own back k d)
    (all (length front + (length own + k)) d (omega (arith, low, long, inner)))) (omega (arith, total, one, two, same)) in
    whole ∙ ap (λ (xs : List Run). xs ++ (own ++ back)) first ∙ ap (λ (xs : List Run). own ++ xs) last ∙ append-nil own
