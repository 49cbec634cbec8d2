-- Images that differ in backup superblocks alone hold the same in each block of a use that can change, in the log and in the headers.
use Rattle.std.proofs.Common.{◌≡◌, ℕ, ◌+◌, ◌-◌, ◌*◌, ◌/◌, ◌%◌, ◌≤◌, ◌<◌, true, false, not, ◌==◌, ◌&&◌, ◌||◌, inl, inr, nat_le, nat_lt, List, [], ◌∷◌, ◌++◌, drop, length, Some, sym, ap, ◌∙◌, subst, arith}
use Rattle.std.specs.List.{flat_map, list_all, range_with_len}
use Rattle.std.proofs.Math.Nat.{mul-le-mul_right}
use Rattle.std.proofs.lemmas.Bool.{and_parts, cases_eq, eq-eqb, false≢true, not-true, or_left}
use Rattle.std.proofs.lemmas.List.Elements.{All-from_recursion}
use Rattle.std.proofs.lemmas.Nat.{div-add-mod', mod-mul-add}
use Rattle.xfs_disk.specs.Blocks.{Image, bytes_of_block}
use Rattle.xfs_geom.specs.Conversions.{is_fixed}
use Rattle.xfs_geom.specs.Volumes.{Volume, volume_of}
use Rattle.xfs_geom.specs.declared.geometry.Geometry.{Geometry}
use Rattle.xfs_tree.specs.Reading.{reading, root_seat}
use Rattle.xfs_tree.specs.Rules.{can_hold, is_of_root_cluster}
use Rattle.xfs_tree.specs.Shape.{Shape}
use Rattle.xfs_tree.specs.declared.layout.Layout.{Layout}
use Rattle.xfs_kinds.specs.FreeTrees.{bno_shape, cnt_shape}
use Rattle.xfs_kinds.specs.InodeTrees.{ino_shape, fino_shape}
use Rattle.xfs_kinds.specs.OwnerTrees.{rmap_shape}
use Rattle.xfs_laws.proofs.xfs_space.FreeSpans.{group_short}
use Rattle.xfs_volume.specs.declared.groups.GroupRec.{GroupRec}
use Rattle.xfs_volume.specs.declared.groups.TreeBlocks.{TreeBlocks}
use Rattle.xfs_image.specs.GroupParts.{AreGroupsRead, IsGroupRead, tree}
use Rattle.xfs_image.specs.Groups.{head_block, tree_at}
use Rattle.xfs_views.proofs.Trees.{blocks_placed}
use Rattle.xfs_views.proofs.Members.{all_members, row_member}
use Rattle.xfs_views.specs.Backups.{AreGroupsSame, DifferInBackups, HasSameHeaders, group_tree_blocks}
use Rattle.xfs_views.proofs.GroupsStay.{reads_of}
use Rattle.xfs_views.proofs.TreesStay.{Each}

pub each_join : (image now : Image) (xs ys : List ℕ) → Each image now xs → Each image now ys → Each image now (xs ++ ys)
each_join image now [] ys first rest = rest
each_join image now (x ∷ xs) ys first rest = (first.0, each_join image now xs ys first.1 rest)

module _ (g : Geometry) (image now : Image) (differ : DifferInBackups (volume_of g) image now) where
  -- a block of no fixed use
  pub unfixed_same : (block : ℕ) → (is_fixed (volume_of g) block ≡ true → ⊥) → bytes_of_block now block ≡ bytes_of_block image block
  unfixed_same block unfixed =
      differ.others block
      (λ ag low high is.
      let large = g.shape.groups.large in
      let at : block ≡ ag * g.agblocks + 0 = omega (arith, is) in
      let none : block % g.agblocks ≡ 0 = ap (λ (n : ℕ). n % g.agblocks) at ∙ mod-mul-add ag g.agblocks 0 (omega (arith, large)) in
      unfixed (or_left (block % g.agblocks == 0) (nat_le g.log block && nat_lt block (g.log + g.logblocks)) (eq-eqb (block % g.agblocks) 0 none)))

  -- the first block of all
  pub first_same : bytes_of_block now 0 ≡ bytes_of_block image 0
  first_same =
      differ.others 0
      (λ ag low high is.
      let large = g.shape.groups.large in
      let least : 1 * g.agblocks ≤ ag * g.agblocks = mul-le-mul_right g.agblocks low in
      absurd (omega (arith, least, large, is)))

  -- the headers of each group
  pub headers_same : (ag : ℕ) → ag < g.agcount → HasSameHeaders (volume_of g) image now ag
  headers_same ag few =
      elim (cases_eq ag 0) [
        | inl none ↦
            let zero_base : 0 * g.agblocks ≡ 0 = omega arith in
            let at : ag * g.agblocks ≡ 0 = ap (λ (n : ℕ). n * g.agblocks) none ∙ zero_base in
            let same : bytes_of_block now (ag * g.agblocks) ≡ bytes_of_block image (ag * g.agblocks) =
            ap (bytes_of_block now) at ∙ first_same ∙ ap (bytes_of_block image) (sym at) in
            ap (λ (bytes : List ℕ). drop 512 bytes) same
        | inr other ↦ differ.behind ag (omega (arith, other)) few
      ]

  -- a block of the log, which lies behind the first block of its group
  pub log_same : Each image now (range_with_len g.log g.logblocks)
  log_same =
      all_members (λ (block : ℕ). bytes_of_block now block ≡ bytes_of_block image block) (range_with_len g.log g.logblocks)
      (λ block is.
      let row = row_member block g.log g.logblocks is in
      let low = row.low in
      let high = row.high in
      let whole : g.log / g.agblocks * g.agblocks + g.log % g.agblocks ≡ g.log = div-add-mod' g.log g.agblocks in
      let inside = g.shape.log_inside.inside in
      let behind = g.shape.log_inside.behind in
      let short = group_short (volume_of g) (g.log / g.agblocks) g.shape.groups.covered in
      let at : block ≡ g.log / g.agblocks * g.agblocks + (g.log % g.agblocks + (block - g.log)) = omega (arith, whole, low) in
      let rest : block % g.agblocks ≡ g.log % g.agblocks + (block - g.log) =
      ap (λ (n : ℕ). n % g.agblocks) at ∙ mod-mul-add (g.log / g.agblocks) g.agblocks (g.log % g.agblocks + (block - g.log)) (omega (arith, inside, short, low, high)) in
      let large = g.shape.groups.large in
      differ.others block
      (λ ag first last is_head.
      let start : block ≡ ag * g.agblocks + 0 = omega (arith, is_head) in
      let none : block % g.agblocks ≡ 0 = ap (λ (n : ℕ). n % g.agblocks) start ∙ mod-mul-add ag g.agblocks 0 (omega (arith, large)) in
      absurd (omega (arith, rest, none, behind))))

  -- blocks that can be those of a tree
  placed_same : (l : Layout) (owner : ℕ) (blocks : List ℕ) → list_all (can_hold (volume_of g) l owner) blocks ≡ true → Each image now blocks
  placed_same l owner [] all = tt
  placed_same l owner (block ∷ blocks) all =
      let v : Volume = volume_of g in
      let parts = and_parts (can_hold v l owner block) (list_all (can_hold v l owner) blocks) all in
      let inside = nat_lt block v.dblocks && (l.long || block / v.agblocks == owner) in
      let cluster = and_parts (inside && not (is_fixed v block)) (not (is_of_root_cluster v block)) parts.0 in
      let fixed = and_parts inside (not (is_fixed v block)) cluster.0 in
      let unfixed : is_fixed v block ≡ false = not-true (is_fixed v block) fixed.1 in
      (unfixed_same block (λ is. false≢true (sym unfixed ∙ is)), placed_same l owner blocks parts.1)

  tree_same : {R K : Type 0} (s : Shape R K) (ag root levels : ℕ) (records : List R) (blocks : List ℕ)
      → tree_at s (volume_of g) image ag root levels ≡ Some (tree records blocks) → Each image now blocks
  tree_same s ag root levels records blocks is =
      let v : Volume = volume_of g in
      let reads = reads_of (reading s v image (root_seat (head_block v ag + root) ∷ []) (levels - 1)) (tree records blocks) is in
      placed_same s.layout s.owner blocks (blocks_placed s v image (root_seat (head_block v ag + root) ∷ []) (levels - 1) (tree records blocks) reads)

  pub trees_same : (ag : ℕ) (group : GroupRec) → IsGroupRead (volume_of g) image ag group → Each image now (group_tree_blocks group)
  trees_same ag group is =
      let bno = tree_same (bno_shape ag) ag group.agf.bnoroot group.agf.bnolevel group.bno is.bno_blocks is.bno in
      let cnt = tree_same (cnt_shape ag) ag group.agf.cntroot group.agf.cntlevel group.cnt is.cnt_blocks is.cnt in
      let ino = tree_same (ino_shape ag) ag group.agi.root group.agi.level group.ino is.ino_blocks is.ino in
      let fino = tree_same (fino_shape ag) ag group.agi.free_root group.agi.free_level group.fino is.fino_blocks is.fino in
      let rmap = tree_same (rmap_shape ag) ag group.agf.rmaproot group.agf.rmaplevel group.rmap is.rmap_blocks is.rmap in
      let all : Each image now (is.bno_blocks ++ (is.cnt_blocks ++ (is.ino_blocks ++ (is.fino_blocks ++ (is.rmap_blocks ++ []))))) =
      each_join image now is.bno_blocks (is.cnt_blocks ++ (is.ino_blocks ++ (is.fino_blocks ++ (is.rmap_blocks ++ [])))) bno
      (each_join image now is.cnt_blocks (is.ino_blocks ++ (is.fino_blocks ++ (is.rmap_blocks ++ []))) cnt
      (each_join image now is.ino_blocks (is.fino_blocks ++ (is.rmap_blocks ++ [])) ino
      (each_join image now is.fino_blocks (is.rmap_blocks ++ []) fino (each_join image now is.rmap_blocks [] rmap tt)))) in
      subst (λ (trees : List TreeBlocks). Each image now (flat_map (λ (tree : TreeBlocks). tree.blocks) trees)) (sym is.blocks) all

  pub groups_same : (ag : ℕ) (gs : List GroupRec) → AreGroupsRead (volume_of g) image ag gs → ag + length gs ≤ g.agcount → AreGroupsSame (volume_of g) image now ag gs
  groups_same ag [] read few = tt
  groups_same ag (group ∷ gs) read few = (
    headers_same ag (omega (arith, few)),
    All-from_recursion (λ (block : ℕ). bytes_of_block now block ≡ bytes_of_block image block) (group_tree_blocks group) (trees_same ag group read.0),
    groups_same (ag + 1) gs read.1 (omega (arith, few)),
  )
