-- The extents of runs are read back from the bytes of a fork.
use Rattle.std.proofs.Common.{◌≡◌, ℕ, ◌+◌, ◌*◌, ◌^◌, ◌<◌, ◌&&◌, nat_lt, List, [], ◌∷◌, ◌++◌, length, map, take, drop, refl, sym, ap, ap₂, ◌∙◌, arith}
use Rattle.std.specs.List.{AllByRecursion, flat_map, range_with_len}
use Rattle.std.proofs.lemmas.Bool.{and_from, lt-ltb}
use Rattle.std.proofs.lemmas.List.{drop-drop, drop-take, drop_at, length-append, take-take, take_at}
use Rattle.xfs_word.specs.Field.{part_of}
use Rattle.xfs_word.specs.declared.extents.Extent.{Extent}
use Rattle.xfs_geom.proofs.Addresses.{address_low}
use Rattle.xfs_geom.specs.Conversions.{address_of}
use Rattle.xfs_geom.specs.Volumes.{Volume, volume_of}
use Rattle.xfs_geom.specs.declared.geometry.Geometry.{Geometry}
use Rattle.xfs_geom.specs.declared.records.Run.{Run}
use Rattle.xfs_tree.specs.Blocks.{each_of}
use Rattle.xfs_kinds.specs.FileTreeLaws.{bmbt_kind}
use Rattle.xfs_kinds.specs.FileTrees.{extent_of}
use Rattle.xfs_inode.specs.Forks.{fork_extent}
use Rattle.xfs_rename.specs.xfs_built.Extents.{extent_of_run}
use Rattle.xfs_rename.specs.xfs_changes.Forks.{run_bytes}
use Rattle.xfs_rename.specs.xfs_built.Directories.{FitsExtent}

pub run_fits : (g : Geometry) (r : Run) → r.offset_word < 2 ^ 54 → r.start < g.dblocks → r.count < 2 ^ 21 → FitsExtent (volume_of g) r
unfolding address_of
run_fits g r offset inside few =
    let start : address_of (volume_of g) r.start < 2 ^ 27 = address_low r.start g.agblocks (2 ^ g.agblklog) g.dblocks inside g.shape.groups.small g.shape.addresses.least in
    and_from (nat_lt r.offset_word (2 ^ 54) && nat_lt (address_of (volume_of g) r.start) (2 ^ 52)) (nat_lt r.count (2 ^ 21))
    (and_from (nat_lt r.offset_word (2 ^ 54)) (nat_lt (address_of (volume_of g) r.start) (2 ^ 52)) (lt-ltb r.offset_word (2 ^ 54) offset)
    (lt-ltb (address_of (volume_of g) r.start) (2 ^ 52) (omega (arith, start))))
    (lt-ltb r.count (2 ^ 21) few)

module _ (v : Volume) where
  run_again : (r : Run) → FitsExtent v r → extent_of (run_bytes v r) ≡ extent_of_run v r
  run_again r fits = (bmbt_kind 0).record_again (extent_of_run v r) fits

  run_long : (r : Run) → FitsExtent v r → length (run_bytes v r) ≡ 16
  run_long r fits = (bmbt_kind 0).record_len (extent_of_run v r) fits

  pub runs_long : (runs : List Run) → AllByRecursion (FitsExtent v) runs → length (flat_map (run_bytes v) runs) ≡ 16 * length runs
  runs_long [] fit = refl
  runs_long (r ∷ runs) fit =
      let whole = length-append (run_bytes v r) (flat_map (run_bytes v) runs) in
      let one = run_long r fit.0 in
      let rest = runs_long runs fit.1 in
      omega (arith, whole, one, rest)

  rows_back : (slot : List ℕ) (at k : ℕ) (runs : List Run) → AllByRecursion (FitsExtent v) runs → take (16 * length runs) (drop (at + 16 * k) slot) ≡ flat_map (run_bytes v) runs
      → map (λ (i : ℕ). extent_of (take 16 (drop (at + 16 * i) slot))) (range_with_len k (length runs)) ≡ map (extent_of_run v) runs
  rows_back slot at k [] fit is = refl
  rows_back slot at k (r ∷ runs) fit is =
      let rest : List ℕ = drop (at + 16 * k) slot in
      let n : ℕ = length runs in
      let many : take (16 + 16 * n) rest ≡ run_bytes v r ++ flat_map (run_bytes v) runs = ap (λ (m : ℕ). take m rest) (omega arith) ∙ is in
      let long = run_long r fit.0 in
      let first : take 16 rest ≡ run_bytes v r =
      sym (take-take 16 (16 + 16 * n) rest (omega arith)) ∙ (ap (take 16) many ∙ take_at (run_bytes v r) (flat_map (run_bytes v) runs) 16 long) in
      let behind : take (16 * n) (drop (at + 16 * (k + 1)) slot) ≡ flat_map (run_bytes v) runs =
      ap (λ (m : ℕ). take (16 * n) (drop m slot)) (omega arith)
      ∙ (ap (take (16 * n)) (sym (drop-drop 16 (at + 16 * k) slot))
      ∙ (sym (drop-take 16 (16 * n) rest) ∙ (ap (drop 16) many ∙ drop_at (run_bytes v r) (flat_map (run_bytes v) runs) 16 long))) in
      ap₂ (λ (e : Extent) (es : List Extent). e ∷ es) (ap extent_of first ∙ run_again r fit.0) (rows_back slot at (k + 1) runs fit.1 behind)

  -- the extents of a fork that has the bytes of runs
  pub extents_back : (slot : List ℕ) (runs : List Run) → AllByRecursion (FitsExtent v) runs → part_of slot 176 (length (flat_map (run_bytes v) runs)) ≡ flat_map (run_bytes v) runs
      → each_of (length runs) (fork_extent slot) ≡ map (extent_of_run v) runs
  unfolding part_of
  extents_back slot runs fit is = rows_back slot 176 0 runs fit (ap (λ (n : ℕ). take n (drop 176 slot)) (sym (runs_long runs fit)) ∙ is)
