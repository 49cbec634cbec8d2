-- The parts of runs are extents of the volume, in file order, and no two have a block in common.
use Rattle.std.proofs.Common.{◌≡◌, ℕ, ◌+◌, ◌-◌, ◌*◌, ◌/◌, ◌%◌, ◌^◌, ◌==◌, ◌≤◌, ◌<◌, ◌⊎◌, inl, inr, Bool, true, false, cond, ◌&&◌, ◌||◌, nat_le, nat_lt, List, [], ◌∷◌, map, Option, Some, None, arith, refl, ap, ap₂, ◌∙◌}
use Rattle.std.specs.Prelude.{if◌then◌else◌}
use Rattle.std.specs.List.{AllByRecursion, list_all}
use Rattle.std.proofs.Math.Nat.{div-lt_iff_lt-mul, mod-lt, mul-mod_left}
use Rattle.std.proofs.lemmas.Bool.{and_from, both_ways, cases_lt, eq-eqb, le-leb, lt-ltb, or_left}
use Rattle.std.proofs.lemmas.Nat.{div-add-mod', div-mul-add, mod-mul-add}
use Rattle.xfs_word.specs.declared.extents.Extent.{Extent}
use Rattle.xfs_disk.proofs.OneOrder.{count-cons}
use Rattle.xfs_geom.proofs.Addresses.{address_low}
use Rattle.xfs_geom.specs.Conversions.{address_of, group_length, is_fixed}
use Rattle.xfs_geom.specs.Groups.{ag_block_of_address, block_of_address, group_of_address}
use Rattle.xfs_geom.specs.Runs.{covers, runs_on}
use Rattle.xfs_geom.specs.Volumes.{Volume, volume_of}
use Rattle.xfs_geom.specs.declared.geometry.Geometry.{Geometry}
use Rattle.xfs_geom.specs.declared.records.Run.{Run}
use Rattle.xfs_kinds.specs.FileTrees.{fits_extent, follows_offset, is_extent}
use Rattle.xfs_kinds.specs.Groups.{lies_in_one_group}
use Rattle.xfs_inode.specs.Files.{are_extents, is_apart, range_of, ranges_apart}
use Rattle.xfs_inode.specs.declared.claims.BlockRange.{BlockRange}
use Rattle.xfs_populated.proofs.FileCuts.{IsPlacedPart, covers_from, extent_by}

-- parts stand in file order, from an offset on
abbrev pub InOrder : ℕ → List Run → Type 0
InOrder least [] = Unit {0}
InOrder least (p ∷ ps) = (least ≤ p.offset_word) × InOrder (p.offset_word + p.count) ps

module _ (g : Geometry) where
  abbrev v : Volume
  v = volume_of g

  group_is : (b : ℕ) → group_of_address g.agblklog (address_of v b) ≡ b / g.agblocks
  unfolding address_of
  group_is b =
      let large = g.shape.groups.large in
      let enough = g.shape.addresses.enough in
      let short : b % g.agblocks < g.agblocks = mod-lt b (omega (arith, large)) in
      div-mul-add (b / g.agblocks) (2 ^ g.agblklog) (b % g.agblocks) (omega (arith, short, enough))

  place_is : (b : ℕ) → ag_block_of_address g.agblklog (address_of v b) ≡ b % g.agblocks
  unfolding address_of
  place_is b =
      let large = g.shape.groups.large in
      let enough = g.shape.addresses.enough in
      let short : b % g.agblocks < g.agblocks = mod-lt b (omega (arith, large)) in
      mod-mul-add (b / g.agblocks) (2 ^ g.agblklog) (b % g.agblocks) (omega (arith, short, enough))

  block_is : (b : ℕ) → block_of_address g.agblocks g.agblklog (address_of v b) ≡ b
  block_is b = ap₂ (λ (x y : ℕ). x * g.agblocks + y) (group_is b) (place_is b) ∙ div-add-mod' b g.agblocks

  -- no part goes from one group into the next
  next_head : (p : Run) (ag : ℕ) → IsPlacedPart v p → p.start < ag * g.agblocks → p.start + p.count ≤ ag * g.agblocks
  next_head p ag is low =
      elim (cases_lt (ag * g.agblocks) (p.start + p.count)) [
        | inr far ↦ far
        | inl near ↦
            let has : covers (ag * g.agblocks) p ≡ true = covers_from p (ag * g.agblocks) (omega (arith, low)) near in
            let fixed : is_fixed v (ag * g.agblocks) ≡ true =
            or_left (ag * g.agblocks % g.agblocks == 0) (nat_le g.log (ag * g.agblocks) && nat_lt (ag * g.agblocks) (g.log + g.logblocks))
            (eq-eqb (ag * g.agblocks % g.agblocks) 0 (mul-mod_left ag g.agblocks)) in
            absurd (both_ways (is_fixed v (ag * g.agblocks)) (is.clear (ag * g.agblocks) has) fixed)
      ]

  group_holds : (p : Run) (t : Bool) → IsPlacedPart v p → (p.start / g.agblocks + 1 == g.agcount) ≡ t
      → p.start % g.agblocks + p.count ≤ (if t then g.dblocks - p.start / g.agblocks * g.agblocks else g.agblocks)
  group_holds p true is last =
      let whole : p.start / g.agblocks * g.agblocks + p.start % g.agblocks ≡ p.start = div-add-mod' p.start g.agblocks in
      let inside = is.inside in
      omega (arith, whole, inside)
  group_holds p false is last =
      let large = g.shape.groups.large in
      let ag : ℕ = p.start / g.agblocks in
      let whole : ag * g.agblocks + p.start % g.agblocks ≡ p.start = div-add-mod' p.start g.agblocks in
      let short : p.start % g.agblocks < g.agblocks = mod-lt p.start (omega (arith, large)) in
      let more : (ag + 1) * g.agblocks ≡ ag * g.agblocks + g.agblocks = omega arith in
      let end = next_head p (ag + 1) is (omega (arith, whole, short, more)) in
      omega (arith, whole, end, more)

  part_lies : (p : Run) → IsPlacedPart v p → lies_in_one_group v (address_of v p.start) p.count ≡ true
  part_lies p is =
      let large = g.shape.groups.large in
      let covered = g.shape.groups.covered in
      let inside = is.inside in
      let some = is.some in
      let few : p.start / g.agblocks < g.agcount = (div-lt_iff_lt-mul (omega (arith, large))).1 (omega (arith, covered, inside, some)) in
      ap₂ (λ (ag b : ℕ). nat_lt ag g.agcount && nat_le (b + p.count) (group_length v ag)) (group_is p.start) (place_is p.start)
      ∙ and_from (nat_lt (p.start / g.agblocks) g.agcount) (nat_le (p.start % g.agblocks + p.count) (group_length v (p.start / g.agblocks)))
      (lt-ltb (p.start / g.agblocks) g.agcount few)
      (le-leb (p.start % g.agblocks + p.count) (group_length v (p.start / g.agblocks)) (group_holds p (p.start / g.agblocks + 1 == g.agcount) is refl))

  part_extent : (p : Run) → IsPlacedPart v p → is_extent v (extent_by v p) ≡ true
  unfolding address_of
  part_extent p is =
      let room = is.room in
      let some = is.some in
      let few = is.few in
      let inside = is.inside in
      let start : address_of v p.start < 2 ^ 27 = address_low p.start g.agblocks (2 ^ g.agblklog) g.dblocks (omega (arith, some, inside)) g.shape.groups.small g.shape.addresses.least in
      and_from (fits_extent (extent_by v p) && nat_le 1 p.count && nat_le (p.offset_word + p.count) (2 ^ 54 - 1)) (lies_in_one_group v (address_of v p.start) p.count)
      (and_from (fits_extent (extent_by v p) && nat_le 1 p.count) (nat_le (p.offset_word + p.count) (2 ^ 54 - 1))
      (and_from (fits_extent (extent_by v p)) (nat_le 1 p.count)
      (and_from (nat_lt p.offset_word (2 ^ 54) && nat_lt (address_of v p.start) (2 ^ 52)) (nat_lt p.count (2 ^ 21))
      (and_from (nat_lt p.offset_word (2 ^ 54)) (nat_lt (address_of v p.start) (2 ^ 52)) (lt-ltb p.offset_word (2 ^ 54) (omega (arith, room)))
      (lt-ltb (address_of v p.start) (2 ^ 52) (omega (arith, start))))
      (lt-ltb p.count (2 ^ 21) (omega (arith, few))))
      (le-leb 1 p.count some))
      (le-leb (p.offset_word + p.count) (2 ^ 54 - 1) (omega (arith, room))))
      (part_lies p is)

  -- in file order
  abbrev Ends : Option Extent → ℕ → Type 0
  Ends before least = (e : Extent) → before ≡ Some e → e.offset + e.count ≤ least

  follows : (before : Option Extent) (least : ℕ) (e : Extent) → Ends before least → least ≤ e.offset → follows_offset before e ≡ true
  follows None least e ends low = refl
  follows (Some x) least e ends low = let end = ends x refl in le-leb (x.offset + x.count) e.offset (omega (arith, end, low))

  ends_at : Option Extent → ℕ
  ends_at None = 0
  ends_at (Some x) = x.offset + x.count

  extents_follow : (before : Option Extent) (least : ℕ) (ps : List Run) → AllByRecursion (IsPlacedPart v) ps → Ends before least → InOrder least ps
      → are_extents v before (map (extent_by v) ps) ≡ true
  unfolding ends_at
  extents_follow before least [] all ends order = refl
  extents_follow before least (p ∷ ps) all ends order =
      and_from (is_extent v (extent_by v p) && follows_offset before (extent_by v p)) (are_extents v (Some (extent_by v p)) (map (extent_by v) ps))
      (and_from (is_extent v (extent_by v p)) (follows_offset before (extent_by v p)) (part_extent p all.0) (follows before least (extent_by v p) ends order.0))
      (extents_follow (Some (extent_by v p)) (p.offset_word + p.count) ps all.1
      (λ x same. let end : p.offset_word + p.count ≡ x.offset + x.count = ap ends_at same in omega (arith, end)) order.1)

  -- no two have a block in common
  abbrev range_part : Run → BlockRange
  range_part p = record { start = p.start; end = p.start + p.count }

  ranges_are : (ps : List Run) → map (range_of v) (map (extent_by v) ps) ≡ map range_part ps
  ranges_are [] = refl
  ranges_are (p ∷ ps) = ap₂ (λ (b : ℕ) (rest : List BlockRange). let x : BlockRange = record { start = b; end = b + p.count } in x ∷ rest) (block_is p.start) (ranges_are ps)

  abbrev Once : List Run → Type 0
  Once ps = (b : ℕ) → runs_on ps b ≤ 1

  apart_one : (p q : Run) (ps : List Run) → 1 ≤ p.count → 1 ≤ q.count → Once (p ∷ q ∷ ps) → is_apart (range_part p) (range_part q) ≡ true
  apart_one p q ps some other once =
      elim (cases_lt q.start (p.start + p.count)) [
        | inr far ↦ or_left (nat_le (p.start + p.count) q.start) (nat_le (q.start + q.count) p.start) (le-leb (p.start + p.count) q.start far)
        | inl near ↦
            elim (cases_lt p.start (q.start + q.count)) [
              | inr far ↦ behind (nat_le (p.start + p.count) q.start) (nat_le (q.start + q.count) p.start) (le-leb (q.start + q.count) p.start far)
              | inl close ↦ absurd (both (cases_lt p.start q.start) near close)
            ]
      ]
    where
      behind : (a b : Bool) → b ≡ true → (a || b) ≡ true
      behind true b is = refl
      behind false b is = is

      shared : (b : ℕ) → p.start ≤ b → b < p.start + p.count → q.start ≤ b → b < q.start + q.count → ⊥
      shared b low high least most =
          let first = count-cons (covers b) p (q ∷ ps) in
          let second = count-cons (covers b) q ps in
          let one : ◌≡◌ {A = ℕ} (cond (covers b p) 1 0) 1 = ap (λ (t : Bool). cond t 1 0) (covers_from p b low high) in
          let two : ◌≡◌ {A = ℕ} (cond (covers b q) 1 0) 1 = ap (λ (t : Bool). cond t 1 0) (covers_from q b least most) in
          let few = once b in
          omega (arith, first, second, one, two, few)

      both : (p.start < q.start) ⊎ (q.start ≤ p.start) → q.start < p.start + p.count → p.start < q.start + q.count → ⊥
      both (inl before) near close = shared q.start (omega (arith, before)) near (omega arith) (omega (arith, other))
      both (inr after) near close = shared p.start (omega arith) (omega (arith, some)) after close

  once_without : (p q : Run) (ps : List Run) → Once (p ∷ q ∷ ps) → Once (p ∷ ps)
  once_without p q ps once b =
      let first = count-cons (covers b) p (q ∷ ps) in
      let second = count-cons (covers b) q ps in
      let own = count-cons (covers b) p ps in
      let few = once b in
      omega (arith, first, second, own, few)

  apart_from : (p : Run) (ps : List Run) → 1 ≤ p.count → AllByRecursion (IsPlacedPart v) ps → Once (p ∷ ps) → list_all (is_apart (range_part p)) (map range_part ps) ≡ true
  apart_from p [] some all once = refl
  apart_from p (q ∷ ps) some all once =
      and_from (is_apart (range_part p) (range_part q)) (list_all (is_apart (range_part p)) (map range_part ps)) (apart_one p q ps some all.0.some once)
      (apart_from p ps some all.1 (once_without p q ps once))

  once_behind : (p : Run) (ps : List Run) → Once (p ∷ ps) → Once ps
  once_behind p ps once b = let first = count-cons (covers b) p ps in let few = once b in omega (arith, first, few)

  ranges_from : (ps : List Run) → AllByRecursion (IsPlacedPart v) ps → Once ps → ranges_apart (map range_part ps) ≡ true
  unfolding ranges_apart
  ranges_from [] all once = refl
  ranges_from (p ∷ ps) all once =
      and_from (list_all (is_apart (range_part p)) (map range_part ps)) (ranges_apart (map range_part ps)) (apart_from p ps all.0.some all.1 once) (ranges_from ps all.1 (once_behind p ps once))

  -- parts in order are the extents of a file
  pub parts_follow : (ps : List Run) → AllByRecursion (IsPlacedPart v) ps → InOrder 0 ps → are_extents v None (map (extent_by v) ps) ≡ true
  parts_follow ps all order = extents_follow None 0 ps all (λ e none. absurd cc) order

  pub parts_apart : (ps : List Run) → AllByRecursion (IsPlacedPart v) ps → ((b : ℕ) → runs_on ps b ≤ 1) → ranges_apart (map (range_of v) (map (extent_by v) ps)) ≡ true
  parts_apart ps all once = ap ranges_apart (ranges_are ps) ∙ ranges_from ps all once
