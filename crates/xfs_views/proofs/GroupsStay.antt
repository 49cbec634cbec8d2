-- The groups of a volume read the same from another image that holds their headers and their trees.
use Rattle.std.proofs.Common.{◌≡◌, ℕ, zero, suc, ◌+◌, ◌-◌, List, [], ◌∷◌, ◌++◌, drop, length, Some, Result, Ok, Err, refl, sym, ap, ◌∙◌, subst, arith}
use Rattle.std.specs.Prelude.{take}
use Rattle.std.specs.List.{flat_map, range_with_len}
use Rattle.std.proofs.lemmas.List.{drop-drop}
use Rattle.std.proofs.lemmas.List.Elements.{recursion_from_All}
use Rattle.xfs_disk.specs.Blocks.{Image, bytes_of_block}
use Rattle.xfs_word.specs.Field.{field_of, part_of}
use Rattle.xfs_geom.specs.Volumes.{Volume}
use Rattle.xfs_geom.specs.declared.records.InoRec.{InoRec}
use Rattle.xfs_geom.specs.declared.records.RmapRec.{RmapRec}
use Rattle.xfs_geom.specs.declared.records.Span.{Span}
use Rattle.xfs_heads.specs.FreeList.{agfl_of}
use Rattle.xfs_heads.specs.FreeSpace.{agf_of}
use Rattle.xfs_heads.specs.Inodes.{agi_of}
use Rattle.xfs_heads.specs.declared.free_list.Agfl.{Agfl}
use Rattle.xfs_heads.specs.declared.free_space.Agf.{Agf}
use Rattle.xfs_heads.specs.declared.inodes.Agi.{Agi}
use Rattle.xfs_tree.specs.Reading.{Contents, reading, root_seat}
use Rattle.xfs_tree.specs.Shape.{Shape}
use Rattle.xfs_tree.specs.declared.unread.Unread.{Unread}
use Rattle.xfs_kinds.specs.FreeTrees.{bno_shape, cnt_shape}
use Rattle.xfs_kinds.specs.InodeTrees.{ino_shape, fino_shape}
use Rattle.xfs_kinds.specs.OwnerTrees.{rmap_shape}
use Rattle.xfs_volume.specs.declared.groups.GroupRec.{GroupRec}
use Rattle.xfs_volume.specs.declared.groups.TreeBlocks.{TreeBlocks}
use Rattle.xfs_image.specs.GroupParts.{AreGroupsRead, IsGroupRead, tree}
use Rattle.xfs_image.specs.Groups.{agf_at, agfl_at, agi_at, bno_at, cnt_at, contents, fino_at, group_record, group_read, groups_from, groups_read, head_block, ino_at, read_then, rmap_at, tree_at}
use Rattle.xfs_image.specs.declared.findings.Finding.{Finding}
use Rattle.xfs_image.proofs.GroupReads.{all_have_parts}
use Rattle.xfs_views.specs.Backups.{AreGroupsSame, HasSameHeaders, group_tree_blocks}
use Rattle.xfs_views.proofs.TreesStay.{Each, each_front, each_rest, tree_kept}

-- bytes behind the first sector of a block
pub part_behind : (at width : ℕ) (x y : List ℕ) → drop 512 y ≡ drop 512 x → part_of y (512 + at) width ≡ part_of x (512 + at) width
unfolding part_of
part_behind at width x y same =
    ap (take width) (sym (drop-drop at 512 y) ∙ ap (λ (rest : List ℕ). drop at rest) same ∙ drop-drop at 512 x)

pub field_behind : (at width : ℕ) (x y : List ℕ) → drop 512 y ≡ drop 512 x → field_of y (512 + at) width ≡ field_of x (512 + at) width
unfolding field_of
field_behind at width x y same =
    ap (λ (rest : List ℕ). field_of rest 0 width) (sym (drop-drop at 512 y) ∙ ap (λ (rest : List ℕ). drop at rest) same ∙ drop-drop at 512 x)

-- what a tree of a group reads as
pub reads_of : {R : Type 0} (read : Result (Contents R) Unread) (held : Contents R) → contents read ≡ Some held → read ≡ Ok held
reads_of (Ok tree) held is = cc
reads_of (Err fault) held is = absurd cc

-- a group whose parts read is the group of these
of_parts : (v : Volume) (image : Image) (ag : ℕ) (agf : Agf) (agi : Agi) (agfl : Agfl) (bno cnt : Contents Span) (ino fino : Contents InoRec) (rmap : Contents RmapRec)
    → agf_at v image ag ≡ Some agf → agi_at v image ag ≡ Some agi → agfl_at v image ag agf ≡ Some agfl
    → bno_at v image ag agf ≡ Some bno → cnt_at v image ag agf ≡ Some cnt → ino_at v image ag agi ≡ Some ino → fino_at v image ag agi ≡ Some fino
    → rmap_at v image ag agf ≡ Some rmap → group_read v image ag ≡ Ok (group_record agf agi agfl bno cnt ino fino rmap)
unfolding group_read
of_parts v image ag agf agi agfl bno cnt ino fino rmap is_agf is_agi is_agfl is_bno is_cnt is_ino is_fino is_rmap =
    rw (is_agf, is_agi, is_agfl, is_bno, is_cnt, is_ino, is_fino, is_rmap) refl

abbrev ok_group : GroupRec → Result GroupRec Finding
ok_group g = Ok g

pub group_reads : (v : Volume) (image : Image) (ag : ℕ) (g : GroupRec) → IsGroupRead v image ag g → group_read v image ag ≡ Ok g
group_reads v image ag g is =
    of_parts v image ag g.agf g.agi g.agfl (tree g.bno is.bno_blocks) (tree g.cnt is.cnt_blocks) (tree g.ino is.ino_blocks) (tree g.fino is.fino_blocks) (tree g.rmap is.rmap_blocks)
    is.agf is.agi is.agfl is.bno is.cnt is.ino is.fino is.rmap
    ∙ ap (λ (trees : List TreeBlocks). ok_group (record g { blocks = trees })) (sym is.blocks)

module _ (v : Volume) (image now : Image) where
  tree_at_stays : {R K : Type 0} (s : Shape R K) (ag root levels : ℕ) (records : List R) (blocks : List ℕ)
      → tree_at s v image ag root levels ≡ Some (tree records blocks) → Each image now blocks → tree_at s v now ag root levels ≡ Some (tree records blocks)
  tree_at_stays s ag root levels records blocks is same =
      ap contents
      (tree_kept s v image now (root_seat (head_block v ag + root) ∷ []) (levels - 1) (tree records blocks)
      (reads_of (reading s v image (root_seat (head_block v ag + root) ∷ []) (levels - 1)) (tree records blocks) is) same)

  -- a group that reads has the same parts in the other image
  pub group_kept : (ag : ℕ) (g : GroupRec) → IsGroupRead v image ag g → HasSameHeaders v image now ag → Each image now (group_tree_blocks g) → IsGroupRead v now ag g
  group_kept ag g is headers same =
      let x : List ℕ = bytes_of_block image (head_block v ag) in
      let y : List ℕ = bytes_of_block now (head_block v ag) in
      let all : Each image now (is.bno_blocks ++ (is.cnt_blocks ++ (is.ino_blocks ++ (is.fino_blocks ++ (is.rmap_blocks ++ []))))) =
      subst (λ (trees : List TreeBlocks). Each image now (flat_map (λ (tree : TreeBlocks). tree.blocks) trees)) is.blocks same in
      let past_bno = each_rest image now is.bno_blocks (is.cnt_blocks ++ (is.ino_blocks ++ (is.fino_blocks ++ (is.rmap_blocks ++ [])))) all in
      let past_cnt = each_rest image now is.cnt_blocks (is.ino_blocks ++ (is.fino_blocks ++ (is.rmap_blocks ++ []))) past_bno in
      let past_ino = each_rest image now is.ino_blocks (is.fino_blocks ++ (is.rmap_blocks ++ [])) past_cnt in
      let past_fino = each_rest image now is.fino_blocks (is.rmap_blocks ++ []) past_ino in
      record {
        bno_blocks = is.bno_blocks;
        cnt_blocks = is.cnt_blocks;
        ino_blocks = is.ino_blocks;
        fino_blocks = is.fino_blocks;
        rmap_blocks = is.rmap_blocks;
        agf = ap (agf_of v ag) (part_behind 0 512 x y headers) ∙ is.agf;
        agi = ap (agi_of v ag) (part_behind 512 512 x y headers) ∙ is.agi;
        agfl = ap (agfl_of v ag g.agf) (part_behind 1024 512 x y headers) ∙ is.agfl;
        bno = tree_at_stays (bno_shape ag) ag g.agf.bnoroot g.agf.bnolevel g.bno is.bno_blocks is.bno
            (each_front image now is.bno_blocks (is.cnt_blocks ++ (is.ino_blocks ++ (is.fino_blocks ++ (is.rmap_blocks ++ [])))) all);
        cnt = tree_at_stays (cnt_shape ag) ag g.agf.cntroot g.agf.cntlevel g.cnt is.cnt_blocks is.cnt
            (each_front image now is.cnt_blocks (is.ino_blocks ++ (is.fino_blocks ++ (is.rmap_blocks ++ []))) past_bno);
        ino = tree_at_stays (ino_shape ag) ag g.agi.root g.agi.level g.ino is.ino_blocks is.ino
            (each_front image now is.ino_blocks (is.fino_blocks ++ (is.rmap_blocks ++ [])) past_cnt);
        fino = tree_at_stays (fino_shape ag) ag g.agi.free_root g.agi.free_level g.fino is.fino_blocks is.fino
            (each_front image now is.fino_blocks (is.rmap_blocks ++ []) past_ino);
        rmap = tree_at_stays (rmap_shape ag) ag g.agf.rmaproot g.agf.rmaplevel g.rmap is.rmap_blocks is.rmap
            (each_front image now is.rmap_blocks [] past_fino);
        blocks = is.blocks;
      }

  groups_kept : (ag n : ℕ) (gs : List GroupRec) → AreGroupsRead v image ag gs → length gs ≡ n → AreGroupsSame v image now ag gs → groups_from v now (range_with_len ag n) ≡ Ok gs
  groups_kept ag zero [] read count same = refl
  groups_kept ag zero (g ∷ gs) read count same = absurd (omega (arith, count))
  groups_kept ag (suc n) [] read count same = absurd (omega (arith, count))
  groups_kept ag (suc n) (g ∷ gs) read count same =
      let trees : Each image now (group_tree_blocks g) = recursion_from_All (λ (block : ℕ). bytes_of_block now block ≡ bytes_of_block image block) (group_tree_blocks g) same.1 in
      let first : group_read v now ag ≡ Ok g = group_reads v now ag g (group_kept ag g read.0 same.0 trees) in
      let rest : groups_from v now (range_with_len (ag + 1) n) ≡ Ok gs = groups_kept (ag + 1) n gs read.1 (omega (arith, count)) same.2 in
      λ i. read_then (first i) (rest i)

  pub groups_stay : (groups : List GroupRec) → groups_read v image ≡ Ok groups → AreGroupsSame v image now 0 groups → groups_read v now ≡ Ok groups
  unfolding groups_read
  groups_stay groups reads same =
      let parts = all_have_parts v image groups reads in
      groups_kept 0 v.agcount groups parts.0 parts.1 same
