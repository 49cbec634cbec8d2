-- The data fork of a slot holds the same where its bytes are the same.
use Rattle.std.proofs.Common.{◌≡◌, ℕ, zero, suc, Bool, true, false, not, ◌+◌, ◌-◌, ◌*◌, ◌≤◌, ◌<◌, ◌==◌, ◌&&◌, ◌||◌, nat_le, nat_lt, if◌then◌else◌, List, [], ◌∷◌, map, Option, Some, None, refl, sym, ap, ap₂, ◌∙◌, arith}
use Rattle.std.specs.List.{list_all, range_with_len}
use Rattle.std.proofs.lemmas.Bool.{and_left, and_parts, and_right, eqb-false, eqb-true, leb-true}
use Rattle.xfs_word.specs.Field.{field_of, part_of}
use Rattle.xfs_word.specs.Seal.{is_sealed}
use Rattle.xfs_word.specs.declared.extents.Extent.{Extent}
use Rattle.xfs_geom.specs.Conversions.{block_at}
use Rattle.xfs_geom.specs.Volumes.{Volume}
use Rattle.xfs_tree.specs.Blocks.{each_of, number_or_ones}
use Rattle.xfs_tree.specs.Reading.{Contents}
use Rattle.xfs_kinds.specs.FileTrees.{extent_of}
use Rattle.xfs_volume.specs.declared.cores.Core.{Core}
use Rattle.xfs_inode.specs.Files.{data_fork, device_of, extents_held, is_core, is_link, is_placed, is_whole_fork, link_seal, link_target, none_held, ranges_apart, ranges_of, target_in, tree_held}
use Rattle.xfs_inode.specs.Forks.{Top, are_addresses, core_type, fork_extent, has_children, has_link_extent, keys_ascend, level_under, link_place, names_block, only_block, place_under, root_capacity, root_count, root_key, root_level, root_pointer, top_of}
use Rattle.xfs_inode.specs.Slots.{fork_bytes}
use Rattle.xfs_views.proofs.FileTests.{core_says}

-- the bytes of the data fork are the same
pub record HasSameFork (forkoff : ℕ) (old new : List ℕ) : Type 0 where
  pub number : (a w : ℕ) → 176 ≤ a → a + w ≤ 176 + fork_bytes forkoff → field_of new a w ≡ field_of old a w
  pub part : (a w : ℕ) → 176 ≤ a → a + w ≤ 176 + fork_bytes forkoff → part_of new a w ≡ part_of old a w

eight : (n : ℕ) → (n ≡ 0 → ⊥) → 8 ≤ 8 * n
eight zero some = absurd (some refl)
eight (suc n) some = omega arith

-- a fork has some bytes
pub some_bytes : (forkoff : ℕ) → 8 ≤ fork_bytes forkoff
some_bytes forkoff = by_case (forkoff == 0) refl
  where
    by_case : (t : Bool) → (forkoff == 0) ≡ t → 8 ≤ (if t then 336 else 8 * forkoff)
    by_case true is = omega arith
    by_case false is = eight forkoff (eqb-false forkoff 0 is)

-- extents that are held, with no tree
abbrev held_of : List Extent → Contents Extent
held_of es = record { records = es; blocks = [] }

abbrev top_with : List ℕ → List ℕ → ℕ → Top
top_with places lows level = record { places = places; lows = lows; level = level }

-- items of a row that are the same one by one
rows_same : {X : Type 0} (f h : ℕ → X) (k n : ℕ) → ((i : ℕ) → k ≤ i → i < k + n → f i ≡ h i) → map f (range_with_len k n) ≡ map h (range_with_len k n)
rows_same f h k zero each = refl
rows_same {X} f h k (suc n) each =
    ap₂ (λ (x : X) (xs : List X). x ∷ xs) (each k (omega arith) (omega arith)) (rows_same f h (k + 1) n (λ i low high. each i (omega (arith, low)) (omega (arith, high))))

tests_same : (f h : ℕ → Bool) (k n : ℕ) → ((i : ℕ) → k ≤ i → i < k + n → f i ≡ h i) → list_all f (range_with_len k n) ≡ list_all h (range_with_len k n)
tests_same f h k zero each = refl
tests_same f h k (suc n) each =
    ap₂ (λ (x y : Bool). x && y) (each k (omega arith) (omega arith)) (tests_same f h (k + 1) n (λ i low high. each i (omega (arith, low)) (omega (arith, high))))

module _ (v : Volume) (core : Core) (old new : List ℕ) (same : HasSameFork core.forkoff old new) where
  abbrev size : ℕ
  size = fork_bytes core.forkoff

  extent_same : (i : ℕ) → 16 * i + 16 ≤ size → fork_extent new i ≡ fork_extent old i
  extent_same i inside = ap extent_of (same.part (176 + 16 * i) 16 (omega arith) (omega (arith, inside)))

  extents_same : extents_held core new ≡ extents_held core old
  extents_same = by_fit (nat_le (16 * core.nextents) size) refl
    where
      by_fit : (t : Bool) → nat_le (16 * core.nextents) size ≡ t
          → (if t then Some (held_of (each_of core.nextents (fork_extent new))) else None) ≡ (if t then Some (held_of (each_of core.nextents (fork_extent old))) else None)
      by_fit true is =
          let fits = leb-true (16 * core.nextents) size is in
          ap (λ (es : List Extent). Some (held_of es))
          (rows_same (fork_extent new) (fork_extent old) 0 core.nextents (λ i low high. extent_same i (omega (arith, high, fits))))
      by_fit false is = refl

  pub data_same : (tree : Option (Contents Extent)) → data_fork core new tree ≡ data_fork core old tree
  data_same tree =
      ap (λ (held : Option (Contents Extent)). if core.format == 2 then held else if core.format == 3 then tree_held core tree else none_held core) extents_same

  -- the root of a tree
  abbrev capacity : ℕ
  capacity = root_capacity core.forkoff

  level_same : root_level new ≡ root_level old
  level_same = let some = some_bytes core.forkoff in same.number 176 2 (omega arith) (omega (arith, some))

  count_same : root_count new ≡ root_count old
  count_same = let some = some_bytes core.forkoff in same.number 178 2 (omega arith) (omega (arith, some))

  key_same : (i : ℕ) → i < capacity → root_key new i ≡ root_key old i
  key_same i few = let some = some_bytes core.forkoff in same.number (180 + 8 * i) 8 (omega arith) (omega (arith, some, few))

  pointer_same : (i : ℕ) → i < capacity → root_pointer capacity new i ≡ root_pointer capacity old i
  pointer_same i few = let some = some_bytes core.forkoff in same.number (180 + 8 * capacity + 8 * i) 8 (omega arith) (omega (arith, some, few))

  children_same : has_children capacity new ≡ has_children capacity old
  children_same = λ i. nat_le 1 (level_same i) && nat_le (level_same i) 9 && nat_le 1 (count_same i) && nat_le (count_same i) capacity

  keys_same : root_count old ≤ capacity → 1 ≤ root_count old → keys_ascend new ≡ keys_ascend old
  unfolding keys_ascend
  keys_same few some =
      ap (λ (n : ℕ). list_all (λ i. nat_lt (root_key new (i - 1)) (root_key new i)) (range_with_len 1 (n - 1))) count_same
      ∙ tests_same (λ i. nat_lt (root_key new (i - 1)) (root_key new i)) (λ i. nat_lt (root_key old (i - 1)) (root_key old i)) 1 (root_count old - 1)
      (λ i low high. ap₂ (λ (a b : ℕ). nat_lt a b) (key_same (i - 1) (omega (arith, low, high, few, some))) (key_same i (omega (arith, low, high, few, some))))

  addresses_same : root_count old ≤ capacity → are_addresses v capacity new ≡ are_addresses v capacity old
  unfolding are_addresses
  addresses_same few =
      ap (λ (n : ℕ). list_all (λ i. names_block (block_at v (root_pointer capacity new i))) (range_with_len 0 n)) count_same
      ∙ tests_same (λ i. names_block (block_at v (root_pointer capacity new i))) (λ i. names_block (block_at v (root_pointer capacity old i))) 0 (root_count old)
      (λ i low high. ap (λ (p : ℕ). names_block (block_at v p)) (pointer_same i (omega (arith, high, few))))

  places_same : root_count old ≤ capacity → each_of (root_count new) (place_under v capacity new) ≡ each_of (root_count old) (place_under v capacity old)
  places_same few =
      ap (λ (n : ℕ). each_of n (place_under v capacity new)) count_same
      ∙ rows_same (place_under v capacity new) (place_under v capacity old) 0 (root_count old)
      (λ i low high. ap (λ (p : ℕ). number_or_ones (block_at v p)) (pointer_same i (omega (arith, high, few))))

  lows_same : root_count old ≤ capacity → each_of (root_count new) (root_key new) ≡ each_of (root_count old) (root_key old)
  lows_same few =
      ap (λ (n : ℕ). each_of n (root_key new)) count_same
      ∙ rows_same (root_key new) (root_key old) 0 (root_count old) (λ i low high. key_same i (omega (arith, high, few)))

  pub top_same : top_of v core new ≡ top_of v core old
  top_same = by_children (has_children capacity old) refl
    where
      none : (a t c d : Bool) (level : Option Top) → t ≡ false → (if a && (nat_le core.forkoff 41 && t && c && d) then level else None) ≡ None
      none true t c d level is =
          ap (λ (x : Bool). if x then level else None)
          (and_left (nat_le core.forkoff 41 && t && c) d (and_left (nat_le core.forkoff 41 && t) c (and_right (nat_le core.forkoff 41) t is)))
      none false t c d level is = refl

      by_children : (t : Bool) → has_children capacity old ≡ t → top_of v core new ≡ top_of v core old
      by_children false is =
          none (core.format == 3) (has_children capacity new) (keys_ascend new) (are_addresses v capacity new) (Some (level_under v capacity new)) (children_same ∙ is)
          ∙ sym (none (core.format == 3) (has_children capacity old) (keys_ascend old) (are_addresses v capacity old) (Some (level_under v capacity old)) is)
      by_children true is =
          let parts = and_parts (nat_le 1 (root_level old) && nat_le (root_level old) 9 && nat_le 1 (root_count old)) (nat_le (root_count old) capacity) is in
          let some = leb-true 1 (root_count old) (and_parts (nat_le 1 (root_level old) && nat_le (root_level old) 9) (nat_le 1 (root_count old)) parts.0).1 in
          let few = leb-true (root_count old) capacity parts.1 in
          let keys = keys_same few some in
          let addresses = addresses_same few in
          let places = places_same few in
          let lows = lows_same few in
          λ i. if core.format == 3 && (nat_le core.forkoff 41 && children_same i && keys i && addresses i) then Some (top_with (places i) (lows i) (level_same i - 1)) else None

  -- the block of a symbolic link
  first_same : has_link_extent core ≡ true → fork_extent new 0 ≡ fork_extent old 0
  first_same is =
      let inside = leb-true 16 size (and_parts (core_type core == 10 && core.format == 2 && core.nextents == 1 && nat_le core.forkoff 41) (nat_le 16 size) is).1 in
      extent_same 0 (omega (arith, inside))

  pub place_same : link_place v core new ≡ link_place v core old
  place_same = by_case (has_link_extent core) refl
    where
      by_case : (t : Bool) → has_link_extent core ≡ t → (if t then only_block v (fork_extent new 0) else None) ≡ (if t then only_block v (fork_extent old 0) else None)
      by_case true is = ap (only_block v) (first_same is)
      by_case false is = refl

  has_extent : (place : ℕ) → link_place v core old ≡ Some place → has_link_extent core ≡ true
  has_extent place is = by_case (has_link_extent core) is
    where
      by_case : (t : Bool) → (if t then only_block v (fork_extent old 0) else None) ≡ Some place → t ≡ true
      by_case true at = refl
      by_case false at = absurd cc

  link_same : (ino : ℕ) (place : Option ℕ) (link : Option (List ℕ)) → link_place v core old ≡ place → is_link v ino core new place link ≡ is_link v ino core old place link
  link_same ino None link at = refl
  link_same ino (Some place) None at = refl
  link_same ino (Some place) (Some block) at =
      ap (λ (e : Extent). nat_le 1 core.size && nat_le core.size 1024 && e.offset == 0 && is_sealed (link_seal v ino place) block && field_of block 4 4 == 0 && field_of block 8 4 == core.size)
      (first_same (has_extent place at))

  pub whole_same : (ino : ℕ) (link : Option (List ℕ)) (held : Contents Extent) → is_whole_fork v ino core new link held ≡ is_whole_fork v ino core old link held
  whole_same ino link held =
      let is : is_link v ino core new (link_place v core new) link ≡ is_link v ino core old (link_place v core old) link =
      ap (λ (place : Option ℕ). is_link v ino core new place link) place_same ∙ link_same ino (link_place v core old) link refl in
      ap (λ (t : Bool). (not (core_type core == 10 && core.format == 2) || t) && is_placed v held && ranges_apart (ranges_of v held)) is

  pub target_same : (link : Option (List ℕ)) → is_core core ≡ true → link_target core new link ≡ link_target core old link
  target_same link keeps = by_local (core_type core == 10 && core.format == 1) refl
    where
      by_local : (t : Bool) → (core_type core == 10 && core.format == 1) ≡ t
          → (if t then part_of new 176 core.size else if core_type core == 10 && core.format == 2 then target_in core link else [])
          ≡ (if t then part_of old 176 core.size else if core_type core == 10 && core.format == 2 then target_in core link else [])
      by_local true is =
          let format = eqb-true core.format 1 (and_parts (core_type core == 10) (core.format == 1) is).1 in
          let fits = (core_says core keeps).fits format in
          same.part 176 core.size (omega arith) (omega (arith, fits))
      by_local false is = refl

  pub device_same : device_of core new ≡ device_of core old
  device_same =
      let some = some_bytes core.forkoff in
      ap (λ (n : ℕ). if core_type core == 2 || core_type core == 6 then n else 0) (same.number 176 4 (omega arith) (omega (arith, some)))
