-- All groups read as they were placed, and the log is clean where it was to be blank.
use Rattle.std.proofs.Common.{◌≡◌, ℕ, zero, suc, ◌+◌, ◌*◌, ◌^◌, ◌<◌, ◌≤◌, List, map, Option, Some, Ok, refl, ap, subst, arith}
use Rattle.std.specs.Prelude.{MatchOption}
use Rattle.std.specs.List.{range_with_len}
use Rattle.xfs_disk.specs.Blocks.{Image, bytes_of_block}
use Rattle.xfs_geom.specs.Volumes.{Volume}
use Rattle.xfs_geom.specs.declared.records.InoRec.{InoRec}
use Rattle.xfs_geom.specs.declared.records.RmapRec.{RmapRec}
use Rattle.xfs_geom.specs.declared.records.Span.{Span}
use Rattle.xfs_heads.specs.declared.free_list.Agfl.{Agfl}
use Rattle.xfs_heads.specs.declared.free_space.Agf.{Agf}
use Rattle.xfs_heads.specs.declared.inodes.Agi.{Agi}
use Rattle.xfs_log.specs.xfs_heads.declared.log_state.LogState.TheVariants.{Clean}
use Rattle.xfs_kinds.specs.FreeTrees.{bno_shape, cnt_shape}
use Rattle.xfs_kinds.specs.InodeTrees.{ino_shape, fino_shape}
use Rattle.xfs_kinds.specs.OwnerTrees.{rmap_shape}
use Rattle.xfs_tree.specs.Reading.{Contents}
use Rattle.xfs_tree.specs.Shape.{Shape}
use Rattle.xfs_volume.specs.declared.groups.GroupRec.{GroupRec}
use Rattle.xfs_place.specs.declared.placed.GroupPlaced.{GroupPlaced}
use Rattle.xfs_place.specs.declared.placed.Placed.{Placed}
use Rattle.xfs_place.specs.declared.wanted.Wanted.{Wanted}
use Rattle.xfs_image.specs.Groups.{agf_at, agi_at, agfl_at, bno_at, cnt_at, contents, fino_at, group_record, group_read, groups_from, groups_read, head_block, ino_at, read_then, rmap_at, tree_at}
use Rattle.xfs_image.specs.View.{log_of}
use Rattle.xfs_render.specs.Groups.{due_agf, due_agfl, due_agi, tree_places}
use Rattle.xfs_render.specs.HeaderBlocks.{IsHeaderBlock}
use Rattle.xfs_render.specs.Logs.{IsBlankLog}
use Rattle.xfs_render.specs.Rendering.{group_placed, wanted_inodes, volume}
use Rattle.xfs_render.specs.Trees.{HasTrees, ReadsFrom, block_in_group, packed_tree}
use Rattle.xfs_render.specs.declared.bytes.Bytes.{Bytes}
use Rattle.xfs_made.specs.Groups.{due_group, due_group_at, due_groups}
use Rattle.xfs_made.specs.Standing.{IsStanding, agf_crc_at, agi_crc_at}
use Rattle.xfs_made.proofs.Headers.{headers_stand}

-- a group whose parts read is the group of these
group_is : (v : Volume) (image : Image) (ag : ℕ) (agf : Agf) (agi : Agi) (agfl : Agfl) (bno cnt : Contents Span) (ino fino : Contents InoRec) (rmap : Contents RmapRec)
    → agf_at v image ag ≡ Some agf → agi_at v image ag ≡ Some agi → agfl_at v image ag agf ≡ Some agfl
    → bno_at v image ag agf ≡ Some bno → cnt_at v image ag agf ≡ Some cnt → ino_at v image ag agi ≡ Some ino → fino_at v image ag agi ≡ Some fino
    → rmap_at v image ag agf ≡ Some rmap → group_read v image ag ≡ Ok (group_record agf agi agfl bno cnt ino fino rmap)
unfolding group_read
group_is v image ag agf agi agfl bno cnt ino fino rmap is_agf is_agi is_agfl is_bno is_cnt is_ino is_fino is_rmap =
    rw (is_agf, is_agi, is_agfl, is_bno, is_cnt, is_ino, is_fino, is_rmap) refl

tree_is : {R K : Type 0} (s : Shape R K) (v : Volume) (image : Image) (ag root n : ℕ) (records : List R) (places : List ℕ)
    → ReadsFrom s v image (block_in_group v ag root) n records places → tree_at s v image ag root n ≡ Some (packed_tree s records places)
tree_is s v image ag root n records places reads = ap contents reads

-- a group with its headers and trees reads as it was placed
group_stands : (v : Volume) (image : Image) (ag : ℕ) (super old : List ℕ) (inodes : List InoRec) (p : GroupPlaced)
    → IsHeaderBlock v ag super old inodes p (bytes_of_block image (head_block v ag)) → HasTrees v image ag inodes p
    → group_read v image ag ≡ Ok (due_group v ag inodes p (agf_crc_at v image ag) (agi_crc_at v image ag))
group_stands v image ag super old inodes p head trees =
    let agf : Agf = record (due_agf v ag p) { crc = agf_crc_at v image ag } in
    let agi : Agi = record (due_agi v ag inodes p) { crc = agi_crc_at v image ag } in
    group_is v image ag agf agi (due_agfl p)
    (packed_tree (bno_shape ag) p.bno (tree_places p 0))
    (packed_tree (cnt_shape ag) p.cnt (tree_places p 1))
    (packed_tree (ino_shape ag) inodes (tree_places p 2))
    (packed_tree (fino_shape ag) p.fino (tree_places p 3))
    (packed_tree (rmap_shape ag) p.rmap (tree_places p 4))
    head.agf head.agi (head.agfl (agf_crc_at v image ag))
    (tree_is (bno_shape ag) v image ag agf.bnoroot agf.bnolevel p.bno (tree_places p 0) trees.bno.reads)
    (tree_is (cnt_shape ag) v image ag agf.cntroot agf.cntlevel p.cnt (tree_places p 1) trees.cnt.reads)
    (tree_is (ino_shape ag) v image ag agi.root agi.level inodes (tree_places p 2) trees.ino.reads)
    (tree_is (fino_shape ag) v image ag agi.free_root agi.free_level p.fino (tree_places p 3) trees.fino.reads)
    (tree_is (rmap_shape ag) v image ag agf.rmaproot agf.rmaplevel p.rmap (tree_places p 4) trees.rmap.reads)

-- groups in a row
all_read : (v : Volume) (image : Image) (due : ℕ → GroupRec) (ag n : ℕ) → ((k : ℕ) → ag ≤ k → k < ag + n → group_read v image k ≡ Ok (due k))
    → groups_from v image (range_with_len ag n) ≡ Ok (map due (range_with_len ag n))
all_read v image due ag zero each = refl
all_read v image due ag (suc n) each =
    let first : group_read v image ag ≡ Ok (due ag) = each ag (omega arith) (omega arith) in
    let rest = all_read v image due (ag + 1) n (λ k low high. each k (omega (arith, low)) (omega (arith, high))) in
    λ i. read_then (first i) (rest i)

pub groups_stand : (w : Wanted) (p : Placed) (b : Bytes) (super : List ℕ) (image : Image) → IsStanding w p b super image
    → groups_read (volume w) image ≡ Ok (due_groups (volume w) w.inodes p.groups (agf_crc_at (volume w) image) (agi_crc_at (volume w) image))
unfolding groups_read
groups_stand w p b super image is =
    let v = volume w in
    all_read v image (due_group_at v w.inodes p.groups (agf_crc_at v image) (agi_crc_at v image)) 0 w.geometry.agcount
    (λ ag low high.
    let inside : ag < w.geometry.agcount = omega (arith, high) in
    let head = headers_stand w p b super image is ag inside in
    group_stands v image ag super head.0 (wanted_inodes w ag) (group_placed p ag) head.1 (is.volume'.trees ag inside))

pub log_stands : (w : Wanted) (p : Placed) (b : Bytes) (super : List ℕ) (image : Image) (cycle : ℕ) → IsStanding w p b super image → b.cycle ≡ Some cycle
    → log_of (volume w) image ≡ Clean (cycle * 2 ^ 32 + 2)
unfolding log_of
log_stands w p b super image cycle is some =
    let log : IsBlankLog (volume w) cycle image =
    subst (λ (o : Option ℕ). MatchOption o (Unit {0}) (λ n. IsBlankLog (volume w) n image)) some is.volume'.log in
    log.clean
