-- The blocks that the extents and trees of a file name are blocks that it claims.
use Rattle.std.proofs.Common.{◌≡◌, ℕ, true, ◌+◌, ◌≤◌, ◌<◌, nat_le, nat_lt, ◌++◌, map, arith}
use Rattle.std.proofs.lemmas.Bool.{and_from, le-leb, lt-ltb}
use Rattle.xfs_word.specs.declared.extents.Extent.{Extent}
use Rattle.xfs_geom.specs.Groups.{block_of_address}
use Rattle.xfs_geom.specs.Volumes.{Volume}
use Rattle.xfs_inode.specs.Files.{range_of, range_of_block}
use Rattle.xfs_inode.specs.Sound.{claims_of}
use Rattle.xfs_inode.specs.declared.claims.BlockRange.{BlockRange}
use Rattle.xfs_volume.specs.declared.files.FileRec.{FileRec}
use Rattle.xfs_image.specs.Claims.{claims, lies_in}
use Rattle.xfs_views.proofs.Members.{Member, member_any, member_left, member_map, member_right}

-- a block of a run that a file claims
run_claimed : (v : Volume) (f : FileRec) (r : BlockRange) (block : ℕ) → Member r (claims_of v f) → r.start ≤ block → block < r.end → claims v f block ≡ true
run_claimed v f r block is low high =
    member_any (lies_in block) r (claims_of v f) is (and_from (nat_le r.start block) (nat_lt block r.end) (le-leb r.start block low) (lt-ltb block r.end high))

-- a block of an extent of its data
pub data_claimed : (v : Volume) (f : FileRec) (e : Extent) (i : ℕ) → Member e f.extents → i < e.count → claims v f (block_of_address v.agblocks v.agblklog e.start + i) ≡ true
data_claimed v f e i is few =
    run_claimed v f (range_of v e) (block_of_address v.agblocks v.agblklog e.start + i)
    (member_left (range_of v e) (map (range_of v) f.extents ++ map range_of_block f.rest.tree) (map (range_of v) f.rest.attr_extents)
    (member_left (range_of v e) (map (range_of v) f.extents) (map range_of_block f.rest.tree) (member_map (range_of v) e f.extents is))) (omega arith) (omega (arith, few))

-- a block of the tree of these extents
pub tree_claimed : (v : Volume) (f : FileRec) (block : ℕ) → Member block f.rest.tree → claims v f block ≡ true
tree_claimed v f block is =
    run_claimed v f (range_of_block block) block
    (member_left (range_of_block block) (map (range_of v) f.extents ++ map range_of_block f.rest.tree) (map (range_of v) f.rest.attr_extents)
    (member_right (range_of_block block) (map (range_of v) f.extents) (map range_of_block f.rest.tree) (member_map range_of_block block f.rest.tree is))) (omega arith) (omega arith)

-- a block of an extent of its attributes
pub attr_claimed : (v : Volume) (f : FileRec) (e : Extent) (i : ℕ) → Member e f.rest.attr_extents → i < e.count → claims v f (block_of_address v.agblocks v.agblklog e.start + i) ≡ true
attr_claimed v f e i is few =
    run_claimed v f (range_of v e) (block_of_address v.agblocks v.agblklog e.start + i)
    (member_right (range_of v e) (map (range_of v) f.extents ++ map range_of_block f.rest.tree) (map (range_of v) f.rest.attr_extents) (member_map (range_of v) e f.rest.attr_extents is)) (omega arith) (omega (arith, few))
