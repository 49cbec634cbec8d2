-- The superblock, the headers of all groups and the blocks of their trees state no log sequence number.
use Rattle.std.proofs.Common.{◌≡◌, ℕ, zero, suc, ◌+◌, ◌<◌, ◌≤◌, Bool, true, false, if◌then◌else◌, List, [], ◌∷◌, ◌++◌, length, map, take, drop, Some, None, ◌&&◌, refl, sym, ap, ◌∙◌, subst, arith}
use Rattle.std.specs.List.{All, range_with_len}
use Rattle.std.proofs.lemmas.List.Elements.{All-append, All-cons, All-drop, All-map, All-nil, All-take, All-weaker}
use Rattle.xfs_word.specs.Crc.{little_field_of}
use Rattle.xfs_word.specs.Field.{field_of, part_of}
use Rattle.xfs_word.specs.Seal.{is_sealed}
use Rattle.xfs_word.specs.declared.kinds.SealKind.TheVariants as Kind
use Rattle.xfs_disk.specs.Blocks.{Image, bytes_of_block}
use Rattle.xfs_geom.specs.Volumes.{Volume}
use Rattle.xfs_geom.specs.declared.records.InoRec.{InoRec}
use Rattle.xfs_heads.specs.FreeSpace.{agf_of, is_agf_shaped, stated_agf}
use Rattle.xfs_heads.specs.Heads.{head_seal}
use Rattle.xfs_heads.specs.Inodes.{agi_of, is_agi_shaped, stated_agi}
use Rattle.xfs_heads.specs.declared.free_space.Agf.{Agf}
use Rattle.xfs_heads.specs.declared.inodes.Agi.{Agi}
use Rattle.xfs_kinds.specs.FreeTrees.{bno_shape, cnt_shape}
use Rattle.xfs_kinds.specs.InodeTrees.{ino_shape, fino_shape}
use Rattle.xfs_kinds.specs.OwnerTrees.{rmap_shape}
use Rattle.xfs_treebuild.specs.Packing.{lsn_of, rows_in, top_down}
use Rattle.xfs_tree.specs.Shape.{Shape}
use Rattle.xfs_treebuild.specs.Size.{rows_of}
use Rattle.xfs_volume.specs.declared.groups.GroupRec.{GroupRec}
use Rattle.xfs_place.specs.declared.placed.GroupPlaced.{GroupPlaced}
use Rattle.xfs_place.specs.declared.placed.Placed.{Placed}
use Rattle.xfs_place.specs.declared.wanted.Wanted.{Wanted}
use Rattle.xfs_image.specs.Groups.{head_block}
use Rattle.xfs_image.specs.Lsns.{LsnPlace, at, groups_places, head_places, lsn_at, tree_lsn_places}
use Rattle.xfs_render.specs.Groups.{due_agf, due_agi, tree_places as placed_blocks}
use Rattle.xfs_render.specs.HeaderBlocks.{IsHeaderBlock}
use Rattle.xfs_render.specs.Rendering.{group_placed, wanted_inodes, volume}
use Rattle.xfs_render.specs.Trees.{HasTrees, packed_tree}
use Rattle.xfs_render.specs.declared.bytes.Bytes.{Bytes}
use Rattle.xfs_made.specs.Groups.{due_group, due_group_at, due_groups}
use Rattle.xfs_made.specs.Standing.{IsStanding}
use Rattle.xfs_made.proofs.Headers.{headers_stand}
use Rattle.xfs_made.proofs.Numbers.{number_in_part}
use Rattle.xfs_made.proofs.Supers.{number_of_super}

-- no log sequence number stands at a place
abbrev IsZeroAt : Image → LsnPlace → Type 0
IsZeroAt image place = (lsn_at image place).lsn ≡ 0

-- what is read where a test passes is what stands there
read_is : {A : Type 0} (test : Bool) (held due : A) → (if test then Some held else None) ≡ Some due → held ≡ due
read_is true held due is = cc
read_is false held due is = absurd cc

agf_lsn : (v : Volume) (ag : ℕ) (sector : List ℕ) (agf : Agf) → agf_of v ag sector ≡ Some agf → field_of sector 208 8 ≡ agf.lsn
unfolding agf_of
agf_lsn v ag sector agf reads =
    ap (λ (a : Agf). a.lsn) (read_is (is_sealed (head_seal Kind.Agf v ag) sector && is_agf_shaped v ag (stated_agf sector)) (stated_agf sector) agf reads)

agi_lsn : (v : Volume) (ag : ℕ) (sector : List ℕ) (agi : Agi) → agi_of v ag sector ≡ Some agi → field_of sector 320 8 ≡ agi.lsn
unfolding agi_of
agi_lsn v ag sector agi reads =
    ap (λ (a : Agi). a.lsn) (read_is (is_sealed (head_seal Kind.Agi v ag) sector && is_agi_shaped v ag (stated_agi sector)) (stated_agi sector) agi reads)

-- each block of the rows is one of the places
all_in_rows : (P : ℕ → Type 0) (sizes places : List ℕ) → All P places → All P (top_down (rows_in sizes places))
all_in_rows P [] places all = All-nil P
all_in_rows P (size ∷ sizes) places all =
    All-append P (top_down (rows_in sizes (drop size places))) (take size places)
    (all_in_rows P sizes (drop size places) (All-drop P size places all)) (All-take P size places all)

-- the blocks of a tree whose blocks have short headers
tree_zero : {R K : Type 0} (s : Shape R K) (image : Image) (records : List R) (places : List ℕ) → s.layout.long ≡ false
    → All (λ place. lsn_of s.layout (bytes_of_block image place) ≡ 0) places → All (IsZeroAt image) (map (at 24) (packed_tree s records places).blocks)
tree_zero s image records places short all =
    let here : ℕ → Type 0 = λ place. field_of (bytes_of_block image place) 24 8 ≡ 0 in
    let each : All here places = All-weaker (λ place. lsn_of s.layout (bytes_of_block image place) ≡ 0) here
    (λ place zero. subst (λ (long : Bool). field_of (bytes_of_block image place) (if long then 32 else 24) 8 ≡ 0) short zero) places all in
    All-map (IsZeroAt image) (at 24) (packed_tree s records places).blocks
    (all_in_rows here (rows_of s.layout.leaf_cap s.layout.node_cap (length records)) places each)

module _ (v : Volume) (image : Image) (ag : ℕ) (super old : List ℕ) (inodes : List InoRec) (p : GroupPlaced) where
  -- the headers of a group
  heads_zero : IsHeaderBlock v ag super old inodes p (bytes_of_block image (head_block v ag)) → All (IsZeroAt image) (head_places v ag)
  heads_zero head =
      let block = bytes_of_block image (head_block v ag) in
      let agf : Agf = record (due_agf v ag p) { crc = little_field_of (part_of block 512 512) 216 4 } in
      let agi : Agi = record (due_agi v ag inodes p) { crc = little_field_of (part_of block 1024 512) 312 4 } in
      let first : field_of block 720 8 ≡ 0 = sym (number_in_part block 512 512 208 8 (omega arith)) ∙ agf_lsn v ag (part_of block 512 512) agf head.agf in
      let second : field_of block 1344 8 ≡ 0 = sym (number_in_part block 1024 512 320 8 (omega arith)) ∙ agi_lsn v ag (part_of block 1024 512) agi head.agi in
      let third : field_of block 1560 8 ≡ 0 = sym (number_in_part block 1536 512 24 8 (omega arith)) ∙ head.agfl_lsn in
      let P = IsZeroAt image in
      let place = head_block v ag in
      All-cons P (at 720 place) (at 1344 place ∷ at 1560 place ∷ []) first
      (All-cons P (at 1344 place) (at 1560 place ∷ []) second (All-cons P (at 1560 place) [] third (All-nil P)))

  -- the blocks of its trees
  trees_zero : (agf_crc agi_crc : ℕ) → HasTrees v image ag inodes p → All (IsZeroAt image) (tree_lsn_places (due_group v ag inodes p agf_crc agi_crc))
  trees_zero agf_crc agi_crc trees =
      let P = IsZeroAt image in
      let bno = packed_tree (bno_shape ag) p.bno (placed_blocks p 0) in
      let cnt = packed_tree (cnt_shape ag) p.cnt (placed_blocks p 1) in
      let ino = packed_tree (ino_shape ag) inodes (placed_blocks p 2) in
      let fino = packed_tree (fino_shape ag) p.fino (placed_blocks p 3) in
      let rmap = packed_tree (rmap_shape ag) p.rmap (placed_blocks p 4) in
      All-append P (map (at 24) bno.blocks) _ (tree_zero (bno_shape ag) image p.bno (placed_blocks p 0) refl trees.bno.lsns)
      (All-append P (map (at 24) cnt.blocks) _ (tree_zero (cnt_shape ag) image p.cnt (placed_blocks p 1) refl trees.cnt.lsns)
      (All-append P (map (at 24) ino.blocks) _ (tree_zero (ino_shape ag) image inodes (placed_blocks p 2) refl trees.ino.lsns)
      (All-append P (map (at 24) fino.blocks) _ (tree_zero (fino_shape ag) image p.fino (placed_blocks p 3) refl trees.fino.lsns)
      (All-append P (map (at 24) rmap.blocks) [] (tree_zero (rmap_shape ag) image p.rmap (placed_blocks p 4) refl trees.rmap.lsns) (All-nil P)))))

-- groups in a row
groups_zero : (v : Volume) (image : Image) (due : ℕ → GroupRec) (ag n : ℕ)
    → ((k : ℕ) → ag ≤ k → k < ag + n → All (IsZeroAt image) (head_places v k) × All (IsZeroAt image) (tree_lsn_places (due k)))
    → All (IsZeroAt image) (groups_places v ag (map due (range_with_len ag n)))
groups_zero v image due ag zero each = All-nil (IsZeroAt image)
groups_zero v image due ag (suc n) each =
    let P = IsZeroAt image in
    let here = each ag (omega arith) (omega arith) in
    let rest = groups_zero v image due (ag + 1) n (λ k low high. each k (omega (arith, low)) (omega (arith, high))) in
    All-append P (head_places v ag ++ tree_lsn_places (due ag)) (groups_places v (ag + 1) (map due (range_with_len (ag + 1) n)))
    (All-append P (head_places v ag) (tree_lsn_places (due ag)) here.0 here.1) rest

pub lsns_stand : (w : Wanted) (p : Placed) (b : Bytes) (super : List ℕ) (image : Image) (agf_crc agi_crc : ℕ → ℕ) → IsStanding w p b super image
    → All (λ (place : LsnPlace). (lsn_at image place).lsn ≡ 0) (at 240 0 ∷ groups_places (volume w) 0 (due_groups (volume w) w.inodes p.groups agf_crc agi_crc))
lsns_stand w p b super image agf_crc agi_crc is =
    let v = volume w in
    let due = due_group_at v w.inodes p.groups agf_crc agi_crc in
    let first : field_of (bytes_of_block image 0) 240 8 ≡ 0 = number_of_super w p b super image is 240 8 (omega arith) ∙ is.due.written.lsn in
    All-cons (IsZeroAt image) (at 240 0) (groups_places v 0 (due_groups v w.inodes p.groups agf_crc agi_crc)) first
    (groups_zero v image due 0 w.geometry.agcount
    (λ ag low high.
    let inside : ag < w.geometry.agcount = omega (arith, high) in
    let head = headers_stand w p b super image is ag inside in (
      heads_zero v image ag super head.0 (wanted_inodes w ag) (group_placed p ag) head.1,
      trees_zero v image ag super head.0 (wanted_inodes w ag) (group_placed p ag) (agf_crc ag) (agi_crc ag) (is.volume'.trees ag inside),
    )))
