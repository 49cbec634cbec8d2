-- What the trees and the free list of a group own, and what its tree of owners records.
use Rattle.std.proofs.Common.{◌≡◌, ℕ, ◌+◌, ◌-◌, ◌*◌, ◌≤◌, ◌<◌, ◌&&◌, Bool, nat_lt, if◌then◌else◌, List, [], ◌∷◌, ◌++◌, length, get_or, map, take, Some, None, refl, sym, ◌∙◌, ap, ap₂, subst, arith, take_at}
use Rattle.std.specs.List.{All, AllPairs, sum, sum_by}
use Rattle.std.proofs.lemmas.List.Elements.{All-weaker}
use Rattle.std.proofs.lemmas.List.Sorted.{IsPermutation-map, sum_by-IsPermutation}
use Rattle.xfs_kinds.specs.Owners.{group_owner, inode_trees_owner}
use Rattle.xfs_geom.specs.Runs.{runs_on}
use Rattle.xfs_geom.specs.Volumes.{Volume}
use Rattle.xfs_geom.specs.declared.records.InoRec.{InoRec}
use Rattle.xfs_geom.specs.declared.records.RmapRec.{RmapRec}
use Rattle.xfs_geom.specs.declared.records.Run.{Run}
use Rattle.xfs_heads.specs.FreeList.{unused}
use Rattle.xfs_treebuild.specs.Packing.{rows_in, top_down}
use Rattle.xfs_treebuild.specs.Size.{rows_of}
use Rattle.xfs_kinds.specs.MergedRuns.{held_at}
use Rattle.xfs_volume.specs.declared.groups.GroupRec.{GroupRec}
use Rattle.xfs_volume.specs.declared.groups.TreeBlocks.{TreeBlocks}
use Rattle.xfs_space.specs.Owners.{runs_of_blocks, different, listed_run, listed_runs, new_run, tree_owners, tree_runs}
use Rattle.xfs_space.specs.SpaceLaws.{recorded_run}
use Rattle.xfs_space.proofs.Splits.{EndsBy}
use Rattle.xfs_place.specs.Choice.{Group, IsPlacingGroup, in_pool, one_if, owned_at, owner_by, rank, blocks_of_size, space_blocks}
use Rattle.xfs_place.specs.Claims.{IsClaimedRun}
use Rattle.xfs_place.specs.Placing as Placing
use Rattle.xfs_place.specs.Placing.{AreRecords, IsPlacedGroup, cut, inner_blocks, run_of_record, tree_blocks_at, tree_sizes}
use Rattle.xfs_place.specs.declared.placed.GroupPlaced.{GroupPlaced}
use Rattle.xfs_place.proofs.Counted.{free_all, sizes_all}
use Rattle.xfs_place.proofs.Found.{one_small}
use Rattle.xfs_place.proofs.TreeRuns.{tree_each, tree_held, tree_once}
use Rattle.xfs_render.specs.Groups.{no_tree, tree_places}
use Rattle.xfs_made.specs.Groups.{due_group}
use Rattle.xfs_made.proofs.CutRuns.{cut_runs, five_owned, ranked_is}
use Rattle.xfs_made.proofs.Entries.{all_differ}
use Rattle.xfs_made.proofs.MovedRuns.{moved, moved_held, moved_on, none_before, none_behind, recorded_moved}
use Rattle.xfs_made.proofs.SameRuns.{AreSame, same_both, same_held, same_on}
use Rattle.xfs_made.proofs.TopDown.{AreSized, top_down_moved}

-- what stands on the blocks that a group took from its pool: its trees and its free list
abbrev pub standing_runs : ℕ → GroupRec → List Run
standing_runs base g = tree_runs tree_owners g.blocks ++ listed_runs base g.agfl

-- a packed tree has the blocks that it was given
packed_same : (owner leaf node records : ℕ) (places : List ℕ) → length places ≡ blocks_of_size leaf node records
    → AreSame (runs_of_blocks owner 0 (top_down (rows_in (rows_of leaf node records) places))) (runs_of_blocks owner 0 places)
packed_same owner leaf node records places all = λ f.
    let rows = top_down (rows_in (rows_of leaf node records) places) in
    sum_by-IsPermutation f (runs_of_blocks owner 0 places) (runs_of_blocks owner 0 rows)
    (IsPermutation-map (λ (block : ℕ). new_run block 1 owner 0) places rows (top_down_moved (rows_of leaf node records) places all))

abbrev AreAlike : List ℕ → List TreeBlocks → List TreeBlocks → Type 0
AreAlike [] ts us = Unit {0}
AreAlike (o ∷ os) [] [] = Unit {0}
AreAlike (o ∷ os) [] (u ∷ us) = ⊥
AreAlike (o ∷ os) (t ∷ ts) [] = ⊥
AreAlike (o ∷ os) (t ∷ ts) (u ∷ us) = AreSame (runs_of_blocks o 0 t.blocks) (runs_of_blocks o 0 u.blocks) × AreAlike os ts us

alike_same : (os : List ℕ) (ts us : List TreeBlocks) → AreAlike os ts us → AreSame (tree_runs os ts) (tree_runs os us)
alike_same [] ts us alike = λ f. refl
alike_same (o ∷ os) [] [] alike = λ f. refl
alike_same (o ∷ os) [] (u ∷ us) alike = absurd alike
alike_same (o ∷ os) (t ∷ ts) [] alike = absurd alike
alike_same (o ∷ os) (t ∷ ts) (u ∷ us) alike =
    same_both (runs_of_blocks o 0 t.blocks) (tree_runs os ts) (runs_of_blocks o 0 u.blocks) (tree_runs os us) alike.0 (alike_same os ts us alike.1)

-- five trees, one by one
abbrev five : List TreeBlocks → List TreeBlocks
five ts =
    record { blocks = (get_or ts 0 no_tree).blocks }
    ∷ record { blocks = (get_or ts 1 no_tree).blocks }
    ∷ record { blocks = (get_or ts 2 no_tree).blocks }
    ∷ record { blocks = (get_or ts 3 no_tree).blocks }
    ∷ record { blocks = (get_or ts 4 no_tree).blocks }
    ∷ []

five_read : (base a b c d e : ℕ) (blocks : List ℕ) (ts : List TreeBlocks) → ts ≡ map (tree_blocks_at base) (cut (a ∷ b ∷ c ∷ d ∷ e ∷ []) blocks) → five ts ≡ ts
five_read base a b c d e blocks ts is = subst (λ (us : List TreeBlocks). five us ≡ us) (sym is) refl

listed_moved : (base : ℕ) (xs : List ℕ) → map (listed_run base) xs ≡ runs_of_blocks group_owner 0 (map (λ b. base + b) xs)
listed_moved base [] = refl
listed_moved base (x ∷ xs) = ap (λ (rs : List Run). listed_run base x ∷ rs) (listed_moved base xs)

listed_is : (base : ℕ) (agfl : List ℕ) → AllPairs (λ x y. x < y) agfl
    → map (listed_run base) (different (take (length agfl) (agfl ++ unused (119 - length agfl)))) ≡ runs_of_blocks group_owner 0 (map (λ b. base + b) agfl)
listed_is base agfl up =
    ap (λ (xs : List ℕ). map (listed_run base) (different xs)) (take_at agfl (unused (119 - length agfl)) (length agfl) refl)
    ∙ ap (map (listed_run base)) (all_differ agfl up)
    ∙ listed_moved base agfl

-- the block is one of the n lowest of the pool
abbrev pub is_lowest : Group → ℕ → ℕ → Bool
is_lowest g n b = in_pool g.uses b && nat_lt (rank g.uses b) n

-- the runs have just the n lowest blocks of the pool, with the owners of their ranks
pub record IsOwnedBy (g : Group) (space n base : ℕ) (runs : List Run) : Type 0 where
  pub before : (x : ℕ) → x < base → runs_on runs x ≡ 0
  pub behind : (x : ℕ) → base + length g.uses ≤ x → runs_on runs x ≡ 0
  pub on : (b : ℕ) → runs_on runs (base + b) ≡ one_if (is_lowest g n b)
  pub held : (b : ℕ) → held_at runs (base + b) ≡ (if is_lowest g n b then Some (owner_by g space (rank g.uses b), 0) else None)

-- the runs give each block of the group its owner
pub record IsRecordedBy (g : Group) (space n base : ℕ) (runs : List Run) : Type 0 where
  pub before : (x : ℕ) → x < base → runs_on runs x ≡ 0
  pub behind : (x : ℕ) → base + length g.uses ≤ x → runs_on runs x ≡ 0
  pub held : (b : ℕ) → b < length g.uses → held_at runs (base + b) ≡ owned_at g space n b

module _ (v : Volume) (ag base : ℕ) (records : List InoRec) (p : GroupPlaced) (agf_crc agi_crc : ℕ) (g : Group) (is : IsPlacedGroup g base records p) (sized : AreSized records p)
    (up : AllPairs (λ x y. x < y) p.agfl) (inner : g.inner ≡ inner_blocks records) where
  -- the trees of the group as they read have the blocks that were placed
  trees_same : AreSame (tree_runs tree_owners (due_group v ag records p agf_crc agi_crc).blocks) (tree_runs tree_owners p.trees)
  trees_same =
      let same = alike_same tree_owners (due_group v ag records p agf_crc agi_crc).blocks (five p.trees) (
        packed_same group_owner 505 336 (length p.bno) (tree_places p 0) sized.bno,
        (
          packed_same group_owner 505 336 (length p.cnt) (tree_places p 1) sized.cnt,
          (
            packed_same inode_trees_owner 252 505 (length records) (tree_places p 2) sized.ino,
            (
              packed_same inode_trees_owner 252 505 (length p.fino) (tree_places p 3) sized.fino,
              (packed_same group_owner 168 91 (length p.rmap) (tree_places p 4) sized.rmap, tt),
            ),
          ),
        ),
      ) in
      let read = five_read base (blocks_of_size 505 336 (length p.bno)) (blocks_of_size 505 336 (length p.bno)) (blocks_of_size 252 505 (length records)) (blocks_of_size 252 505 (length p.fino)) (blocks_of_size 168 91 (length p.rmap)) is.blocks p.trees is.trees in
      subst (λ (ts : List TreeBlocks). AreSame (tree_runs tree_owners (due_group v ag records p agf_crc agi_crc).blocks) (tree_runs tree_owners ts)) read same

  -- trees and free list together are the lowest blocks of the pool
  placed_is : tree_runs tree_owners p.trees ++ runs_of_blocks group_owner 0 (map (λ b. base + b) p.agfl)
      ≡ map (moved base) (Placing.tree_claims g (space_blocks g (length is.blocks)) is.blocks (length is.blocks))
  placed_is =
      let n = length is.blocks in
      let space = space_blocks g n in
      let sizes = tree_sizes (length p.bno) (length records) (length p.fino) (length p.rmap) in
      let runs : space ≡ 2 * blocks_of_size 505 336 (length p.bno) = ap (λ (m : ℕ). 2 * blocks_of_size 505 336 m) (free_all g n p.bno is.bno) in
      let front : space ≡ blocks_of_size 505 336 (length p.bno) + blocks_of_size 505 336 (length p.bno) = omega (arith, runs) in
      let middle : g.inner ≡ blocks_of_size 252 505 (length records) + blocks_of_size 252 505 (length p.fino) =
      inner ∙ ap (λ (xs : List InoRec). blocks_of_size 252 505 (length records) + blocks_of_size 252 505 (length xs)) (sym is.fino) in
      let fit : sum sizes ≤ length is.blocks = omega (arith, sizes_all g n p.bno records p.fino p.rmap inner is.fino is.bno is.rmap, is.left) in
      let owners = five_owned space g.inner (blocks_of_size 505 336 (length p.bno)) (blocks_of_size 505 336 (length p.bno)) (blocks_of_size 252 505 (length records)) (blocks_of_size 252 505 (length p.fino)) (blocks_of_size 168 91 (length p.rmap)) front middle in
      let named = ranked_is (owner_by g space) (λ k. get_or is.blocks k 0) 0 is.blocks (λ j low. let start : 0 + j ≡ j = omega arith in ap (λ (k : ℕ). get_or is.blocks k 0) start) in
      ap₂ (λ (ts : List TreeBlocks) (xs : List ℕ). tree_runs tree_owners ts ++ runs_of_blocks group_owner 0 (map (λ b. base + b) xs)) is.trees is.agfl
      ∙ cut_runs (owner_by g space) group_owner base 0 tree_owners sizes is.blocks owners fit
      ∙ ap (map (moved base)) (sym named)

  standing_same : AreSame (standing_runs base (due_group v ag records p agf_crc agi_crc)) (map (moved base) (Placing.tree_claims g (space_blocks g (length is.blocks)) is.blocks (length is.blocks)))
  standing_same =
      let group = due_group v ag records p agf_crc agi_crc in
      let list : AreSame (listed_runs base group.agfl) (runs_of_blocks group_owner 0 (map (λ b. base + b) p.agfl)) =
      λ f. ap (λ (rs : List Run). sum_by f rs) (listed_is base p.agfl up) in
      subst (λ (rs : List Run). AreSame (standing_runs base group) rs) placed_is
      (same_both (tree_runs tree_owners group.blocks) (listed_runs base group.agfl) (tree_runs tree_owners p.trees) (runs_of_blocks group_owner 0 (map (λ b. base + b) p.agfl)) trees_same list)

  pub owned_by : IsPlacingGroup g → IsOwnedBy g (space_blocks g (length is.blocks)) (length is.blocks) base (standing_runs base (due_group v ag records p agf_crc agi_crc))
  owned_by good =
      let n = length is.blocks in
      let space = space_blocks g n in
      let lowest = Placing.tree_claims g space is.blocks n in
      let runs = standing_runs base (due_group v ag records p agf_crc agi_crc) in
      let ends : All (EndsBy (length g.uses)) lowest =
      All-weaker (IsClaimedRun (length g.uses)) (EndsBy (length g.uses)) (λ r claim. claim.inside) lowest (tree_each g good space is.blocks is.low (length g.uses) n (omega arith) (omega arith)) in
      let one = λ (b : ℕ). moved_on base lowest b ∙ tree_once g good space is.blocks is.low n b (omega arith) in
      record {
        before = λ x h. same_on runs (map (moved base) lowest) standing_same x ∙ none_before base lowest x h;
        behind = λ x h. same_on runs (map (moved base) lowest) standing_same x ∙ none_behind base (length g.uses) lowest x ends h;
        on = λ b. same_on runs (map (moved base) lowest) standing_same (base + b) ∙ one b;
        held = λ b.
            let few : runs_on (map (moved base) lowest) (base + b) ≤ 1 = omega (arith, one b, one_small (is_lowest g n b)) in
            same_held runs (map (moved base) lowest) standing_same (base + b) few ∙ moved_held base lowest b ∙ tree_held g good space is.blocks is.low n b (omega arith);
      }

pub recorded_by : (base : ℕ) (g : Group) (space n : ℕ) (records : List RmapRec) → AreRecords g space n records → IsRecordedBy g space n base (map (recorded_run base) records)
recorded_by base g space n records are =
    let runs = map run_of_record records in
    let ends : All (EndsBy (length g.uses)) runs = All-weaker (IsClaimedRun (length g.uses)) (EndsBy (length g.uses)) (λ r claim. claim.inside) runs are.owned.claims.each in
    subst (λ (rs : List Run). IsRecordedBy g space n base rs) (sym (recorded_moved base records)) (record {
      before = λ x h. none_before base runs x h;
      behind = λ x h. none_behind base (length g.uses) runs x ends h;
      held = λ b low. moved_held base runs b ∙ are.owned.held b low;
    })
