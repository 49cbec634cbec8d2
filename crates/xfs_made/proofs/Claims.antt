-- What the runs of kept clusters and files are: blocks of the volume, with the owners and offset words of a lawful owner record.
use Rattle.std.proofs.Common.{◌≡◌, ℕ, Bool, true, false, not, ◌+◌, ◌-◌, ◌*◌, ◌/◌, ◌%◌, ◌^◌, ◌≤◌, ◌<◌, ◌⊎◌, inl, inr, ◌&&◌, ◌==◌, nat_lt, if◌then◌else◌, List, map, ◌++◌, refl, sym, ap, arith}
use Rattle.std.specs.List.{All}
use Rattle.std.proofs.lemmas.Bool.{and_from, and_right, both_ways, lt-ltb, ne_eqb, not_from_false, true≢false}
use Rattle.std.proofs.lemmas.List.Elements.{All-append, All-map, All-weaker}
use Rattle.xfs_word.specs.declared.extents.Extent.{Extent}
use Rattle.xfs_geom.specs.Volumes.{Volume, volume_of}
use Rattle.xfs_geom.specs.declared.geometry.Geometry.{Geometry}
use Rattle.xfs_geom.specs.declared.records.Run.{Run}
use Rattle.xfs_kinds.specs.OffsetWords.{is_file_data, is_tree_block, offset_in_fork}
use Rattle.xfs_volume.specs.declared.files.FileRec.{FileRec}
use Rattle.xfs_space.specs.Owners.{attribute_flag, runs_of_blocks, extent_run, extent_word, file_runs, new_run, tree_flag, unwritten_flag}
use Rattle.xfs_space.specs.Private.Places.{IsPlacedExtent}
use Rattle.xfs_space.proofs.Lawful.{placed}
use Rattle.xfs_space.proofs.RecordedMaps.{group_inside}
use Rattle.xfs_place.specs.Claims.{IsClaimedRun}
use Rattle.xfs_request.specs.xfs_salvage.Claimable.{CanClaim}
use Rattle.xfs_request.specs.xfs_salvage.Kept.{run_of_cluster}

-- a cluster
pub cluster_claim : (top block : ℕ) → block + 4 ≤ top → IsClaimedRun top (run_of_cluster block)
cluster_claim top block inside = record { some = omega arith; inside = inside; fits = λ known. absurd (true≢false (sym known)); plain = λ other. refl }

-- an offset word of a fork is that of file data, and has the offset
record IsWord (word offset : ℕ) : Type 0 where
  pub untreed : word / 2 ^ 62 % 2 ≡ 0
  pub offset_is : word % 2 ^ 61 ≡ offset

word_is : (flag u offset : ℕ) → (flag ≡ 0) ⊎ (flag ≡ 2 ^ 63) → (u ≡ 0) ⊎ (u ≡ 2 ^ 61) → offset < 2 ^ 54 → IsWord (flag + u + offset) offset
word_is flag u offset (inl none) (inl written) small = record { untreed = omega (arith, none, written, small); offset_is = omega (arith, none, written, small) }
word_is flag u offset (inl none) (inr unwritten) small = record { untreed = omega (arith, none, unwritten, small); offset_is = omega (arith, none, unwritten, small) }
word_is flag u offset (inr attribute) (inl written) small = record { untreed = omega (arith, attribute, written, small); offset_is = omega (arith, attribute, written, small) }
word_is flag u offset (inr attribute) (inr unwritten) small = record { untreed = omega (arith, attribute, unwritten, small); offset_is = omega (arith, attribute, unwritten, small) }

either_flag : (t : Bool) → ((if t then unwritten_flag else 0) ≡ 0) ⊎ ((if t then unwritten_flag else 0) ≡ 2 ^ 61)
either_flag true = inr refl
either_flag false = inl refl

data_word : (ino word offset : ℕ) → ino < 2 ^ 63 → IsWord word offset → is_file_data ino word ≡ true
data_word ino word offset number is =
    and_from (nat_lt ino (2 ^ 63)) (not (is_tree_block word)) (lt-ltb ino (2 ^ 63) number)
    (not_from_false (is_tree_block word) (ne_eqb (word / 2 ^ 62 % 2) 1 (λ e. let none = is.untreed in omega (arith, e, none))))

-- an extent
extent_claim : (g : Geometry) (ino flag : ℕ) (e : Extent) → ino < 2 ^ 63 → (flag ≡ 0) ⊎ (flag ≡ 2 ^ 63) → IsPlacedExtent (volume_of g) e
    → IsClaimedRun g.dblocks (extent_run (volume_of g) ino flag e)
extent_claim g ino flag e number flagged at =
    let offsets = at.offsets in
    let word : IsWord (extent_word flag e) e.offset = word_is flag _ e.offset flagged (either_flag e.unwritten) (omega (arith, offsets)) in
    let inside = group_inside (volume_of g) _ at.group g.shape.groups.last in
    let end = at.inside in
    let own = word.offset_is in
    record {
      some = at.some;
      inside = omega (arith, inside, end);
      fits = λ known. omega (arith, own, offsets);
      plain = λ other. absurd (both_ways (is_file_data ino (extent_word flag e)) other (data_word ino (extent_word flag e) e.offset number word));
    }

-- a single block of a tree of extents
block_claim : (g : Geometry) (ino block : ℕ) → block < g.dblocks → IsClaimedRun g.dblocks (new_run block 1 ino tree_flag)
block_claim g ino block inside = record {
  some = omega arith;
  inside = omega (arith, inside);
  fits = λ known. absurd (both_ways (is_file_data ino tree_flag) (and_right (nat_lt ino (2 ^ 63)) (not (is_tree_block tree_flag)) refl) known);
  plain = λ other. refl;
}

-- all that a file claims
pub file_claims : (g : Geometry) (f : FileRec) → CanClaim (volume_of g) f → All (IsClaimedRun g.dblocks) (file_runs (volume_of g) f)
file_claims g f can =
    let v : Volume = volume_of g in
    let extents : List Run = map (extent_run v f.ino 0) f.extents in
    let attributes : List Run = map (extent_run v f.ino attribute_flag) f.rest.attr_extents in
    All-append (IsClaimedRun g.dblocks) (extents ++ attributes) (runs_of_blocks f.ino tree_flag f.rest.tree)
    (All-append (IsClaimedRun g.dblocks) extents attributes (of_fork 0 f.extents (inl refl) (placed v f.ino f.extents can.lies.extents))
    (of_fork attribute_flag f.rest.attr_extents (inr refl) (placed v f.ino f.rest.attr_extents can.lies.attr_extents)))
    (All-map (IsClaimedRun g.dblocks) (λ block. new_run block 1 f.ino tree_flag) f.rest.tree
    (All-weaker (λ block. block < g.dblocks) (λ block. IsClaimedRun g.dblocks (new_run block 1 f.ino tree_flag)) (block_claim g f.ino) f.rest.tree can.lies.tree))
  where
    of_fork : (flag : ℕ) (es : List Extent) → (flag ≡ 0) ⊎ (flag ≡ 2 ^ 63) → All (IsPlacedExtent (volume_of g)) es → All (IsClaimedRun g.dblocks) (map (extent_run (volume_of g) f.ino flag) es)
    of_fork flag es flagged all =
        All-map (IsClaimedRun g.dblocks) (extent_run (volume_of g) f.ino flag) es
        (All-weaker (IsPlacedExtent (volume_of g)) (λ e. IsClaimedRun g.dblocks (extent_run (volume_of g) f.ino flag e)) (λ e at. extent_claim g f.ino flag e can.number flagged at) es all)
