-- The chunks of kept clusters are lawful records of their group, in their order.
use Rattle.std.proofs.Common.{◌≡◌, ℕ, zero, suc, Bool, true, false, not, ◌+◌, ◌-◌, ◌*◌, ◌/◌, ◌%◌, ◌^◌, ◌≤◌, ◌<◌, ◌==◌, ◌&&◌, ◌||◌, nat_le, nat_lt, if◌then◌else◌, List, [], ◌∷◌, ◌++◌, Option, Some, None, IsTrue, refl, sym, subst, arith}
use Rattle.std.specs.List.{flat_map, list_all, range_with_len}
use Rattle.std.proofs.lemmas.Bool.{and_from, eq-eqb, le-leb, lt-ltb, not_from_false, or_right}
use Rattle.std.specs.Cmp.Derive.{both_true}
use Rattle.xfs_disk.specs.Lists.{is_among}
use Rattle.xfs_geom.specs.Conversions.{group_length, is_fixed}
use Rattle.xfs_geom.specs.Volumes.{Volume, volume_of}
use Rattle.xfs_geom.specs.declared.geometry.Geometry.{Geometry}
use Rattle.xfs_geom.specs.declared.records.InoRec.{InoRec}
use Rattle.xfs_kinds.specs.InodeTrees.{are_free_of_use, ascends_inode, ino_shape, is_block_free_of_use, is_chunk, is_holemask, is_missing}
use Rattle.xfs_made.specs.xfs_laws.Counting.{bits_below, count_below}
use Rattle.xfs_made.proofs.xfs_laws.Bits.{bits_small, count_small}
use Rattle.xfs_space.proofs.RecordedMaps.{group_inside}
use Rattle.xfs_tree.specs.Rules.{are_lawful}
use Rattle.xfs_request.specs.xfs_salvage.declared.found.Salvaged.{Salvaged}
use Rattle.xfs_request.specs.Chunks.{chunk_listed, has_chunk, has_kept_cluster, holes, is_idle, kept_chunk, kept_chunks, slot_count}

-- the mask of a chunk that has a half
mask_is : (first second : Bool) → (first || second) ≡ true → is_holemask (holes first second) ≡ true
mask_is true true some = refl
mask_is true false some = refl
mask_is false true some = refl
mask_is false false some = some

count_fits : (holemask : ℕ) → nat_lt (slot_count holemask) (2 ^ 8) ≡ true
count_fits holemask = by_case (holemask == 0)
  where
    by_case : (t : Bool) → nat_lt (if t then 64 else 32) (2 ^ 8) ≡ true
    by_case true = refl
    by_case false = refl

-- a block without a fixed use
is_free : (v : Volume) (holemask start block : ℕ) → is_fixed v (start + block) ≡ false → is_block_free_of_use v holemask start block ≡ true
is_free v holemask start block off = or_right (is_missing holemask (8 * block)) (not (is_fixed v (start + block))) (not_from_false (is_fixed v (start + block)) off)

all_eight : (test : ℕ → Bool) → test 0 ≡ true → test 1 ≡ true → test 2 ≡ true → test 3 ≡ true → test 4 ≡ true → test 5 ≡ true → test 6 ≡ true → test 7 ≡ true
    → list_all test (range_with_len 0 8) ≡ true
all_eight test a b c d e f g h = both_true a (both_true b (both_true c (both_true d (both_true e (both_true f (both_true g (both_true h refl)))))))

-- the blocks of a half that is there have no fixed use, and those of one that is not are missing
halves_clear : (v : Volume) (start : ℕ) (first second : Bool) → (first ≡ true → (b : ℕ) → b < 4 → is_fixed v (start + b) ≡ false)
    → (second ≡ true → (b : ℕ) → 4 ≤ b → b < 8 → is_fixed v (start + b) ≡ false) → are_free_of_use v (holes first second) start ≡ true
unfolding are_free_of_use
halves_clear v start true true one two =
    let low : (b : ℕ) → b < 4 → is_block_free_of_use v (holes true true) start b ≡ true = λ b less. is_free v (holes true true) start b (one refl b less) in
    let high : (b : ℕ) → 4 ≤ b → b < 8 → is_block_free_of_use v (holes true true) start b ≡ true = λ b above less. is_free v (holes true true) start b (two refl b above less) in
    all_eight (is_block_free_of_use v (holes true true) start) (low 0 (omega arith)) (low 1 (omega arith)) (low 2 (omega arith)) (low 3 (omega arith))
    (high 4 (omega arith) (omega arith)) (high 5 (omega arith) (omega arith)) (high 6 (omega arith) (omega arith)) (high 7 (omega arith) (omega arith))
halves_clear v start true false one two =
    let low : (b : ℕ) → b < 4 → is_block_free_of_use v (holes true false) start b ≡ true = λ b less. is_free v (holes true false) start b (one refl b less) in
    all_eight (is_block_free_of_use v (holes true false) start) (low 0 (omega arith)) (low 1 (omega arith)) (low 2 (omega arith)) (low 3 (omega arith)) refl refl refl refl
halves_clear v start false true one two =
    let high : (b : ℕ) → 4 ≤ b → b < 8 → is_block_free_of_use v (holes false true) start b ≡ true = λ b above less. is_free v (holes false true) start b (two refl b above less) in
    all_eight (is_block_free_of_use v (holes false true) start) refl refl refl refl
    (high 4 (omega arith) (omega arith)) (high 5 (omega arith) (omega arith)) (high 6 (omega arith) (omega arith)) (high 7 (omega arith) (omega arith))
halves_clear v start false false one two = all_eight (is_block_free_of_use v (holes false false) start) refl refl refl refl refl refl refl refl

-- a chunk of a lower number stands before, or none
abbrev IsBefore : ℕ → Option InoRec → Type 0
IsBefore c None = Unit {0}
IsBefore c (Some r) = r.startino < 64 * c

ascends_from : (c : ℕ) (before : Option InoRec) (r : InoRec) → r.startino ≡ 64 * c → IsBefore c before → ascends_inode before r ≡ true
ascends_from c None r is up = refl
ascends_from c (Some before) r is up = lt-ltb before.startino r.startino (omega (arith, is, up))

later : (c : ℕ) (before : Option InoRec) → IsBefore c before → IsBefore (c + 1) before
later c None up = tt
later c (Some before) up = omega (arith, up)

module _ (g : Geometry) (kept : Salvaged) (clear : (k block : ℕ) → is_among kept.clusters k ≡ true → k ≤ block → block < k + 4 → is_fixed (volume_of g) block ≡ false) where
  start_is : (ag c : ℕ) → (kept_chunk (volume_of g) kept ag c).startino ≡ 64 * c
  unfolding kept_chunk
  start_is ag c = refl

  chunk_clear : (ag c : ℕ) → are_free_of_use (volume_of g) (holes (has_kept_cluster (volume_of g) kept ag c 0) (has_kept_cluster (volume_of g) kept ag c 4)) (ag * g.agblocks + 64 * c / 8) ≡ true
  chunk_clear ag c =
      let v : Volume = volume_of g in
      let eight : 64 * c / 8 ≡ 8 * c = omega arith in
      halves_clear v (ag * g.agblocks + 64 * c / 8) (has_kept_cluster v kept ag c 0) (has_kept_cluster v kept ag c 4)
      (λ is b less. clear (ag * g.agblocks + 8 * c + 0) (ag * g.agblocks + 64 * c / 8 + b) is (omega (arith, eight)) (omega (arith, eight, less)))
      (λ is b above less. clear (ag * g.agblocks + 8 * c + 4) (ag * g.agblocks + 64 * c / 8 + b) is (omega (arith, eight, above)) (omega (arith, eight, less)))

  chunk_is : (ag c : ℕ) → ag < g.agcount → 1 ≤ c → c < group_length (volume_of g) ag / 8 → has_chunk (volume_of g) kept ag c ≡ true
      → is_chunk (volume_of g) ag (kept_chunk (volume_of g) kept ag c) ≡ true
  unfolding kept_chunk
  chunk_is ag c low some inside has =
      let v : Volume = volume_of g in
      let mask : ℕ = holes (has_kept_cluster v kept ag c 0) (has_kept_cluster v kept ag c 4) in
      let test : ℕ → Bool = is_idle v kept ag (64 * c) mask in
      let ends = group_inside v ag low g.shape.groups.last in
      let small = g.shape.groups.small in
      let eight : 8 * c + 8 ≤ group_length v ag = omega (arith, inside) in
      let few = count_small test 64 in
      both_true
      (both_true
      (both_true
      (both_true
      (both_true
      (both_true
      (both_true
      (both_true (lt-ltb (64 * c) (2 ^ 32) (omega (arith, ends, small, eight)))
      (mask_is (has_kept_cluster v kept ag c 0) (has_kept_cluster v kept ag c 4) has))
      (count_fits mask))
      (lt-ltb (count_below test 64) (2 ^ 8) (omega (arith, few))))
      (lt-ltb (bits_below test 64) (2 ^ 64) (bits_small test 64)))
      (eq-eqb (slot_count mask) (if mask == 0 then 64 else 32) refl))
      (both_true (eq-eqb (64 * c % 64) 0 (omega arith)) (le-leb 64 (64 * c) (omega (arith, some)))))
      (both_true (lt-ltb ag v.agcount low) (le-leb (64 * c / 8 + 8) (group_length v ag) (omega (arith, eight)))))
      (chunk_clear ag c)

  -- those from a number on
  row_lawful : (ag c n : ℕ) (before : Option InoRec) → ag < g.agcount → 1 ≤ c → c + n ≤ group_length (volume_of g) ag / 8 → IsBefore c before
      → are_lawful (ino_shape ag) (volume_of g) before (flat_map (chunk_listed (volume_of g) kept ag) (range_with_len c n)) ≡ true
  row_lawful ag c zero before low some inside up = refl
  row_lawful ag c (suc n) before low some inside up =
      let v : Volume = volume_of g in
      let start = start_is ag c in
      by_case (has_chunk v kept ag c) refl
      (row_lawful ag (c + 1) n (Some (kept_chunk v kept ag c)) low (omega arith) (omega (arith, inside)) (omega (arith, start)))
      (row_lawful ag (c + 1) n before low (omega arith) (omega (arith, inside)) (later c before up))
    where
      by_case : (t : Bool) → has_chunk (volume_of g) kept ag c ≡ t
          → are_lawful (ino_shape ag) (volume_of g) (Some (kept_chunk (volume_of g) kept ag c)) (flat_map (chunk_listed (volume_of g) kept ag) (range_with_len (c + 1) n)) ≡ true
          → are_lawful (ino_shape ag) (volume_of g) before (flat_map (chunk_listed (volume_of g) kept ag) (range_with_len (c + 1) n)) ≡ true
          → are_lawful (ino_shape ag) (volume_of g) before ((if t then kept_chunk (volume_of g) kept ag c ∷ [] else []) ++ flat_map (chunk_listed (volume_of g) kept ag) (range_with_len (c + 1) n)) ≡ true
      by_case true has with' without =
          both_true (both_true (chunk_is ag c low some (omega (arith, inside)) has) (ascends_from c before (kept_chunk (volume_of g) kept ag c) (start_is ag c) up)) with'
      by_case false has with' without = without

  pub chunks_lawful : (ag : ℕ) → ag < g.agcount → IsTrue (are_lawful (ino_shape ag) (volume_of g) None (kept_chunks (volume_of g) kept ag))
  unfolding kept_chunks
  chunks_lawful ag low = by_length (group_length (volume_of g) ag / 8) refl
    where
      by_length : (n : ℕ) → group_length (volume_of g) ag / 8 ≡ n → are_lawful (ino_shape ag) (volume_of g) None (flat_map (chunk_listed (volume_of g) kept ag) (range_with_len 1 (n - 1))) ≡ true
      by_length zero is = refl
      by_length (suc n) is =
          let less : suc n - 1 ≡ n = omega arith in
          subst (λ (m : ℕ). are_lawful (ino_shape ag) (volume_of g) None (flat_map (chunk_listed (volume_of g) kept ag) (range_with_len 1 m)) ≡ true) (sym less)
          (row_lawful ag 1 n None low (omega arith) (omega (arith, is)) tt)
