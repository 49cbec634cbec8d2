-- The groups of a view are lawful in their parts.
use Rattle.std.proofs.Common.{◌≡◌, ℕ, ◌+◌, ◌-◌, ◌/◌, ◌<◌, Bool, true, false, not, ◌==◌, ◌&&◌, ◌||◌, nat_lt, List, [], ◌∷◌, length, Some, None, Result, Ok, Err, refl, sym, ap, subst}
use Rattle.std.specs.List.{All, list_all}
use Rattle.std.proofs.lemmas.Bool.{and_parts, eqb-true, ltb-true}
use Rattle.std.proofs.lemmas.List.Elements.{All-cons, All-nil}
use Rattle.xfs_disk.specs.Blocks.{Image}
use Rattle.xfs_geom.specs.Conversions.{is_fixed}
use Rattle.xfs_geom.specs.Volumes.{Volume}
use Rattle.xfs_tree.specs.Reading.{Contents, reading, root_seat}
use Rattle.xfs_tree.specs.Rules.{are_lawful, can_hold, is_of_root_cluster}
use Rattle.xfs_tree.specs.Shape.{Shape}
use Rattle.xfs_tree.specs.declared.layout.Layout.{Layout}
use Rattle.xfs_tree.specs.declared.unread.Unread.{Unread}
use Rattle.xfs_kinds.specs.FreeTrees.{bno_shape, cnt_shape}
use Rattle.xfs_kinds.specs.InodeTrees.{ino_shape, fino_shape}
use Rattle.xfs_kinds.specs.OwnerTrees.{rmap_shape}
use Rattle.xfs_volume.specs.declared.groups.GroupRec.{GroupRec}
use Rattle.xfs_volume.specs.declared.groups.TreeBlocks.{TreeBlocks}
use Rattle.xfs_laws.specs.xfs_space.Parts.{AreGroups, AreOfGroup, IsLawfulGroup}
use Rattle.xfs_image.specs.GroupParts.{AreGroupsRead, IsGroupRead, blocks_only, tree}
use Rattle.xfs_image.specs.Groups.{contents, head_block, tree_at}
use Rattle.xfs_log.specs.Sectors.{sector_in}
use Rattle.xfs_views.proofs.Heads.{list_sound}
use Rattle.xfs_views.proofs.Trees.{blocks_placed, records_lawful}

-- blocks of a group's tree are those of the group
of_group : (v : Volume) (l : Layout) (ag : ℕ) (blocks : List ℕ) → l.long ≡ false → list_all (can_hold v l ag) blocks ≡ true → AreOfGroup v ag blocks
of_group v l ag [] short all = All-nil (λ block. (block < v.dblocks) × (block / v.agblocks ≡ ag))
of_group v l ag (block ∷ blocks) short all =
    let inside = nat_lt block v.dblocks in
    let own = l.long || block / v.agblocks == ag in
    let parts = and_parts (can_hold v l ag block) (list_all (can_hold v l ag) blocks) all in
    let cluster = and_parts (inside && own && not (is_fixed v block)) (not (is_of_root_cluster v block)) parts.0 in
    let fixed = and_parts (inside && own) (not (is_fixed v block)) cluster.0 in
    let both = and_parts inside own fixed.0 in
    let group : (block / v.agblocks == ag) ≡ true = subst (λ (b : Bool). (b || block / v.agblocks == ag) ≡ true) short both.1 in
    All-cons (λ block. (block < v.dblocks) × (block / v.agblocks ≡ ag)) block blocks
    (ltb-true block v.dblocks both.0, eqb-true (block / v.agblocks) ag group) (of_group v l ag blocks short parts.1)

-- what a tree of a group reads as
reads_of : {R : Type 0} (read : Result (Contents R) Unread) (held : Contents R) → contents read ≡ Some held → read ≡ Ok held
reads_of (Ok tree) held is = cc
reads_of (Err fault) held is = absurd cc

-- a tree of a group that reads: its records are lawful, and its blocks are those of the group
record IsTree {R K : Type 0} (s : Shape R K) (v : Volume) (records : List R) (blocks : List ℕ) : Type 0 where
  lawful : are_lawful s v None records ≡ true
  own : AreOfGroup v s.owner blocks

tree_is : {R K : Type 0} (s : Shape R K) (v : Volume) (image : Image) (ag root levels : ℕ) (records : List R) (blocks : List ℕ) → s.layout.long ≡ false
    → tree_at s v image ag root levels ≡ Some (tree records blocks) → IsTree s v records blocks
tree_is s v image ag root levels records blocks short is =
    let reads = reads_of (reading s v image (root_seat (head_block v ag + root) ∷ []) (levels - 1)) (tree records blocks) is in
    record {
      lawful = records_lawful s v image (root_seat (head_block v ag + root) ∷ []) (levels - 1) (tree records blocks) reads;
      own = of_group v s.layout s.owner blocks short (blocks_placed s v image (root_seat (head_block v ag + root) ∷ []) (levels - 1) (tree records blocks) reads);
    }

five : (P : TreeBlocks → Type 0) (a b c d e : TreeBlocks) → P a → P b → P c → P d → P e → All P (a ∷ b ∷ c ∷ d ∷ e ∷ [])
five P a b c d e ha hb hc hd he =
    All-cons P a (b ∷ c ∷ d ∷ e ∷ []) ha
    (All-cons P b (c ∷ d ∷ e ∷ []) hb (All-cons P c (d ∷ e ∷ []) hc (All-cons P d (e ∷ []) hd (All-cons P e [] he (All-nil P)))))

pub group_is : (v : Volume) (image : Image) (ag : ℕ) (g : GroupRec) → IsGroupRead v image ag g → IsLawfulGroup v ag g
group_is v image ag g is =
    let agfl = list_sound v ag g.agf (sector_in image (head_block v ag) 3) g.agfl is.agfl in
    let bno = tree_is (bno_shape ag) v image ag g.agf.bnoroot g.agf.bnolevel g.bno is.bno_blocks refl is.bno in
    let cnt = tree_is (cnt_shape ag) v image ag g.agf.cntroot g.agf.cntlevel g.cnt is.cnt_blocks refl is.cnt in
    let ino = tree_is (ino_shape ag) v image ag g.agi.root g.agi.level g.ino is.ino_blocks refl is.ino in
    let fino = tree_is (fino_shape ag) v image ag g.agi.free_root g.agi.free_level g.fino is.fino_blocks refl is.fino in
    let rmap = tree_is (rmap_shape ag) v image ag g.agf.rmaproot g.agf.rmaplevel g.rmap is.rmap_blocks refl is.rmap in
    let P : TreeBlocks → Type 0 = λ (one : TreeBlocks). AreOfGroup v ag one.blocks in
    record {
      count = agfl.0;
      listed = agfl.1;
      bno = bno.lawful;
      cnt = cnt.lawful;
      ino = ino.lawful;
      fino = fino.lawful;
      rmap = rmap.lawful;
      trees = ap (λ (trees : List TreeBlocks). length trees) is.blocks;
      blocks = subst (λ (trees : List TreeBlocks). All P trees) (sym is.blocks)
          (five P (blocks_only is.bno_blocks) (blocks_only is.cnt_blocks) (blocks_only is.ino_blocks) (blocks_only is.fino_blocks) (blocks_only is.rmap_blocks)
          bno.own cnt.own ino.own fino.own rmap.own);
    }

pub groups_are : (v : Volume) (image : Image) (ag : ℕ) (gs : List GroupRec) → AreGroupsRead v image ag gs → AreGroups v ag gs
groups_are v image ag [] read = tt
groups_are v image ag (g ∷ gs) read = (group_is v image ag g read.0, groups_are v image (ag + 1) gs read.1)
