-- The runs of a directory are extents of the volume, in file order, no two of which have a block in common.
use Rattle.std.proofs.Common.{◌≡◌, inl, inr, ℕ, zero, suc, Bool, true, false, ◌+◌, ◌-◌, ◌*◌, ◌/◌, ◌%◌, ◌^◌, ◌≤◌, ◌<◌, ◌==◌, ◌&&◌, ◌||◌, nat_le, nat_lt, if◌then◌else◌, List, [], ◌∷◌, ◌++◌, length, map, Option, Some, None, refl, sym, ap, ap₂, ◌∙◌, subst, append-nil, arith}
use Rattle.std.specs.List.{AllByRecursion, list_all, range_with_len}
use Rattle.std.proofs.Math.Nat.{div-lt_iff_lt-mul, mod-lt, mul-mod_left}
use Rattle.std.proofs.lemmas.Bool.{and_from, and_parts, both_ways, cases_lt, eq-eqb, le-leb, lt-ltb, or_left}
use Rattle.std.proofs.lemmas.List.{length-append}
use Rattle.std.proofs.lemmas.List.Sums.{sum_by-cons}
use Rattle.std.proofs.lemmas.Nat.{div-add-mod', div-mul-add, mod-mul-add}
use Rattle.xfs_word.specs.declared.extents.Extent.{Extent}
use Rattle.xfs_geom.specs.Conversions.{address_of, group_length, is_fixed}
use Rattle.xfs_geom.specs.Groups.{ag_block_of_address, group_of_address}
use Rattle.xfs_geom.specs.Runs.{covers}
use Rattle.xfs_geom.specs.Volumes.{Volume, volume_of}
use Rattle.xfs_geom.specs.declared.geometry.Geometry.{Geometry}
use Rattle.xfs_geom.specs.declared.records.Run.{Run}
use Rattle.xfs_kinds.specs.FileTrees.{fits_extent, follows_offset, is_extent}
use Rattle.xfs_kinds.specs.Groups.{lies_in_one_group}
use Rattle.xfs_inode.specs.Files.{are_extents, extent_blocks, range_of, ranges_apart}
use Rattle.xfs_inode.specs.declared.claims.BlockRange.{BlockRange}
use Rattle.xfs_dirindex.specs.Mapped.{OffsetsAscend}
use Rattle.xfs_dirbuild.specs.Placed.{file_blocks}
use Rattle.xfs_claims.specs.Spans.{SpansApart, span_pair, spans_apart, spans_of}
use Rattle.xfs_place.specs.Claims.{ClaimedOnce}
use Rattle.xfs_place.specs.Wanted.{IsOffFixed}
use Rattle.xfs_salvage.proofs.Conditions.{apart_from_once}
use Rattle.xfs_rename.specs.xfs_built.Extents.{extent_of_run}
use Rattle.xfs_rename.specs.xfs_built.Directories.{FitsExtent}
use Rattle.xfs_rename.specs.xfs_built.Pieces.{IsPlacedRun, offsets_in, places_of_runs, run_offsets, run_places}
use Rattle.xfs_restored.specs.Reading.{AreExtents}
use Rattle.xfs_restored.proofs.Extents.{run_fits}
use Rattle.xfs_rename.proofs.xfs_built.Mapping.{address_leads, length_range}

module _ (g : Geometry) where
  abbrev v : Volume
  v = volume_of g

  -- it lies in one group
  group_is : (b : ℕ) → group_of_address g.agblklog (address_of v b) ≡ b / g.agblocks
  unfolding address_of
  group_is b =
      let large = g.shape.groups.large in
      let enough = g.shape.addresses.enough in
      let short : b % g.agblocks < g.agblocks = mod-lt b (omega (arith, large)) in
      div-mul-add (b / g.agblocks) (2 ^ g.agblklog) (b % g.agblocks) (omega (arith, short, enough))

  place_is : (b : ℕ) → ag_block_of_address g.agblklog (address_of v b) ≡ b % g.agblocks
  unfolding address_of
  place_is b =
      let large = g.shape.groups.large in
      let enough = g.shape.addresses.enough in
      let short : b % g.agblocks < g.agblocks = mod-lt b (omega (arith, large)) in
      mod-mul-add (b / g.agblocks) (2 ^ g.agblklog) (b % g.agblocks) (omega (arith, short, enough))

  pub next_head : (r : Run) (ag : ℕ) → IsOffFixed v r → r.start < ag * g.agblocks → r.start + r.count ≤ ag * g.agblocks
  next_head r ag clear low =
      elim (cases_lt (ag * g.agblocks) (r.start + r.count)) [
        | inr far ↦ far
        | inl near ↦
            let has : covers (ag * g.agblocks) r ≡ true =
            and_from (nat_le r.start (ag * g.agblocks)) (nat_lt (ag * g.agblocks) (r.start + r.count)) (le-leb r.start (ag * g.agblocks) (omega (arith, low))) (lt-ltb (ag * g.agblocks) (r.start + r.count) near) in
            let fixed : is_fixed v (ag * g.agblocks) ≡ true =
            or_left (ag * g.agblocks % g.agblocks == 0) (nat_le g.log (ag * g.agblocks) && nat_lt (ag * g.agblocks) (g.log + g.logblocks))
            (eq-eqb (ag * g.agblocks % g.agblocks) 0 (mul-mod_left ag g.agblocks)) in
            absurd (both_ways (is_fixed v (ag * g.agblocks)) (clear (ag * g.agblocks) has) fixed)
      ]

  group_holds : (r : Run) (t : Bool) → IsPlacedRun v r → (r.start / g.agblocks + 1 == g.agcount) ≡ t
      → r.start % g.agblocks + r.count ≤ (if t then g.dblocks - r.start / g.agblocks * g.agblocks else g.agblocks)
  group_holds r true is last =
      let whole : r.start / g.agblocks * g.agblocks + r.start % g.agblocks ≡ r.start = div-add-mod' r.start g.agblocks in
      let inside = is.inside in
      omega (arith, whole, inside)
  group_holds r false is last =
      let large = g.shape.groups.large in
      let ag : ℕ = r.start / g.agblocks in
      let whole : ag * g.agblocks + r.start % g.agblocks ≡ r.start = div-add-mod' r.start g.agblocks in
      let short : r.start % g.agblocks < g.agblocks = mod-lt r.start (omega (arith, large)) in
      let more : (ag + 1) * g.agblocks ≡ ag * g.agblocks + g.agblocks = omega arith in
      let end = next_head r (ag + 1) is.clear (omega (arith, whole, short, more)) in
      omega (arith, whole, end, more)

  run_lies : (r : Run) → IsPlacedRun v r → lies_in_one_group v (address_of v r.start) r.count ≡ true
  run_lies r is =
      let large = g.shape.groups.large in
      let covered = g.shape.groups.covered in
      let inside = is.inside in
      let some = is.some in
      let few : r.start / g.agblocks < g.agcount = (div-lt_iff_lt-mul (omega (arith, large))).1 (omega (arith, covered, inside, some)) in
      ap₂ (λ (ag b : ℕ). nat_lt ag g.agcount && nat_le (b + r.count) (group_length v ag)) (group_is r.start) (place_is r.start)
      ∙ and_from (nat_lt (r.start / g.agblocks) g.agcount) (nat_le (r.start % g.agblocks + r.count) (group_length v (r.start / g.agblocks)))
      (lt-ltb (r.start / g.agblocks) g.agcount few)
      (le-leb (r.start % g.agblocks + r.count) (group_length v (r.start / g.agblocks)) (group_holds r (r.start / g.agblocks + 1 == g.agcount) is refl))

  placed_fits : (r : Run) → IsPlacedRun v r → FitsExtent v r
  placed_fits r is =
      let low = is.low.room in
      let some = is.some in
      let inside = is.inside in
      run_fits g r (omega (arith, low)) (omega (arith, some, inside)) is.low.few

  pub all_fit : (runs : List Run) → AllByRecursion (IsPlacedRun v) runs → AllByRecursion (FitsExtent v) runs
  all_fit [] all = tt
  all_fit (r ∷ runs) all = (placed_fits r all.0, all_fit runs all.1)

  run_extent : (r : Run) → IsPlacedRun v r → is_extent v (extent_of_run v r) ≡ true
  run_extent r is =
      let e : Extent = extent_of_run v r in
      let room = is.low.room in
      and_from (fits_extent e && nat_le 1 e.count && nat_le (e.offset + e.count) (2 ^ 54 - 1)) (lies_in_one_group v e.start e.count)
      (and_from (fits_extent e && nat_le 1 e.count) (nat_le (e.offset + e.count) (2 ^ 54 - 1))
      (and_from (fits_extent e) (nat_le 1 e.count) (placed_fits r is) (le-leb 1 r.count is.some))
      (le-leb (r.offset_word + r.count) (2 ^ 54 - 1) (omega (arith, room))))
      (run_lies r is)

  -- in file order
  row_rises : (least offset n : ℕ) (rest : List ℕ) → OffsetsAscend least (range_with_len offset (suc n) ++ rest) → (least ≤ offset) × OffsetsAscend (offset + suc n) rest
  row_rises least offset zero rest ascend = (ascend.0, ascend.1)
  row_rises least offset (suc n) rest ascend =
      let next = row_rises (offset + 1) (offset + 1) n rest ascend.1 in
      (ascend.0, subst (λ (k : ℕ). OffsetsAscend k rest) (omega arith) next.1)

  run_rises : (least : ℕ) (r : Run) (rest : List ℕ) → 1 ≤ r.count → OffsetsAscend least (run_offsets r ++ rest) → (least ≤ r.offset_word) × OffsetsAscend (r.offset_word + r.count) rest
  run_rises least r rest some ascend =
      let size : suc (r.count - 1) ≡ r.count = omega (arith, some) in
      let parts = row_rises least r.offset_word (r.count - 1) rest (subst (λ (n : ℕ). OffsetsAscend least (range_with_len r.offset_word n ++ rest)) (sym size) ascend) in
      (parts.0, subst (λ (n : ℕ). OffsetsAscend (r.offset_word + n) rest) size parts.1)

  abbrev Ends : Option Extent → ℕ → Type 0
  Ends before least = (e : Extent) → before ≡ Some e → e.offset + e.count ≤ least

  follows : (before : Option Extent) (least : ℕ) (e : Extent) → Ends before least → least ≤ e.offset → follows_offset before e ≡ true
  follows None least e ends low = refl
  follows (Some x) least e ends low = let end = ends x refl in le-leb (x.offset + x.count) e.offset (omega (arith, end, low))

  extents_follow : (before : Option Extent) (least : ℕ) (runs : List Run) → AllByRecursion (IsPlacedRun v) runs → Ends before least → OffsetsAscend least (offsets_in runs)
      → are_extents v before (map (extent_of_run v) runs) ≡ true
  extents_follow before least [] all ends ascend = refl
  extents_follow before least (r ∷ runs) all ends ascend =
      let e : Extent = extent_of_run v r in
      let parts = run_rises least r (offsets_in runs) all.0.some ascend in
      and_from (is_extent v e && follows_offset before e) (are_extents v (Some e) (map (extent_of_run v) runs))
      (and_from (is_extent v e) (follows_offset before e) (run_extent r all.0) (follows before least e ends parts.0))
      (extents_follow (Some e) (r.offset_word + r.count) runs all.1 (λ x same. let end : e.offset + e.count ≡ x.offset + x.count = ap ends_at same in omega (arith, end)) parts.1)
    where
      ends_at : Option Extent → ℕ
      ends_at None = 0
      ends_at (Some x) = x.offset + x.count

  -- no two have a block in common
  abbrev range_run : Run → BlockRange
  range_run r = record { start = r.start; end = r.start + r.count }

  ranges_are : (runs : List Run) → map (range_of v) (map (extent_of_run v) runs) ≡ map range_run runs
  ranges_are [] = refl
  ranges_are (r ∷ runs) =
      let large = g.shape.groups.large in
      ap₂ (λ (b : ℕ) (rest : List BlockRange). let x : BlockRange = record { start = b; end = b + r.count } in x ∷ rest)
      (address_leads v r.start (omega (arith, large)) g.shape.addresses.enough) (ranges_are runs)

  ranges_from : (runs : List Run) → SpansApart (spans_of runs) → ranges_apart (map range_run runs) ≡ true
  unfolding ranges_apart
  ranges_from [] apart = refl
  ranges_from (r ∷ runs) apart = and_from _ _ (one_from r runs apart.0) (ranges_from runs apart.1)
    where
      one_from : (x : Run) (xs : List Run) → list_all (spans_apart (span_pair x)) (spans_of xs) ≡ true
          → list_all (λ (other : BlockRange). nat_le (x.start + x.count) other.start || nat_le other.end x.start) (map range_run xs) ≡ true
      one_from x [] is = refl
      one_from x (y ∷ ys) is =
          let parts = and_parts (spans_apart (span_pair x) (span_pair y)) (list_all (spans_apart (span_pair x)) (spans_of ys)) is in
          and_from _ _ parts.0 (one_from x ys parts.1)

  all_some : (runs : List Run) → AllByRecursion (IsPlacedRun v) runs → AllByRecursion (λ (r : Run). 1 ≤ r.count) runs
  all_some [] all = tt
  all_some (r ∷ runs) all = (all.0.some, all_some runs all.1)

  -- so their extents are those of a file
  pub runs_are_extents : (runs : List Run) → AllByRecursion (IsPlacedRun v) runs → ClaimedOnce runs → OffsetsAscend 0 (offsets_in runs) → AreExtents v runs
  runs_are_extents runs all once ascend = record {
    placed' = extents_follow None 0 runs all (λ e none. absurd cc) ascend;
    apart' = ap ranges_apart (ranges_are runs) ∙ ranges_from runs (apart_from_once runs (all_some runs all) once.once);
  }

-- they have as many blocks as the runs
pub blocks_counted : (v : Volume) (runs : List Run) → extent_blocks (map (extent_of_run v) runs) ≡ length (places_of_runs runs)
blocks_counted v [] = refl
blocks_counted v (r ∷ runs) =
    sum_by-cons (λ (e : Extent). e.count) (extent_of_run v r) (map (extent_of_run v) runs)
    ∙ (ap₂ (λ (m n : ℕ). m + n) (sym (length_range r.start r.count)) (blocks_counted v runs) ∙ sym (length-append (run_places r) (places_of_runs runs)))

-- the file blocks of a directory ascend
row_ascends : (least offset n : ℕ) (rest : List ℕ) → least ≤ offset → OffsetsAscend (offset + n) rest → OffsetsAscend least (range_with_len offset n ++ rest)
row_ascends least offset zero rest low ascend = from_lower rest ascend
  where
    from_lower : (xs : List ℕ) → OffsetsAscend (offset + 0) xs → OffsetsAscend least xs
    from_lower [] up = tt
    from_lower (x ∷ xs) up = let first = up.0 in (omega (arith, first, low), up.1)
row_ascends least offset (suc n) rest low ascend = (low, row_ascends (offset + 1) (offset + 1) n rest (omega arith) (subst (λ (k : ℕ). OffsetsAscend k rest) (omega arith) ascend))

pub file_blocks_ascend : (datas indexes frees : ℕ) → datas ≤ 0x800000 → indexes ≤ 0x800000 → OffsetsAscend 0 (file_blocks datas indexes frees)
file_blocks_ascend datas indexes frees few_data few_index =
    row_ascends 0 0 datas (range_with_len 0x800000 indexes ++ range_with_len 0x1000000 frees) (omega arith)
    (row_ascends (0 + datas) 0x800000 indexes (range_with_len 0x1000000 frees) (omega (arith, few_data))
    (subst (λ (xs : List ℕ). OffsetsAscend (0x800000 + indexes) xs) (append-nil (range_with_len 0x1000000 frees))
    (row_ascends (0x800000 + indexes) 0x1000000 frees [] (omega (arith, few_index)) tt)))
