-- What is written of a volume: what is needed for it, and what an image then has.
use Rattle.std.specs.Prelude.{◌≡◌, ℕ, ◌+◌, ◌*◌, ◌%◌, ◌^◌, ◌≤◌, ◌<◌, ◌==◌, Bool, true, false, not, List, [], ◌++◌, length, take, slice_index_or, Option, Some, None, MatchOption}
use Rattle.std.specs.List.{All, filter, flat_map, range_with_len}
use Rattle.std.specs.List.Sorted.{IsNonDecreasingBy, IsPermutation, IsStrictlyIncreasing}
use Rattle.xfs_disk.specs.Blocks.{Image, bytes_of_block}
use Rattle.xfs_geom.specs.Volumes.{Volume, stated_volume, volume_of}
use Rattle.xfs_geom.specs.Writing.{IsAcceptedSector, IsSuperOf}
use Rattle.xfs_geom.specs.Superblocks.{super_fault}
use Rattle.xfs_geom.specs.declared.records.InoRec.{InoRec}
use Rattle.xfs_place.specs.Objects.{ServeAsks, asks_of}
use Rattle.xfs_place.specs.Pool.{IsRunOf, is_taken}
use Rattle.xfs_place.specs.declared.placed.GroupPlaced.{GroupPlaced}
use Rattle.xfs_place.specs.declared.placed.Placed.{Placed}
use Rattle.xfs_place.specs.declared.wanted.Wanted.{Wanted}
use Rattle.xfs_render.specs.Clusters.{CanCluster, IsClusterBlock}
use Rattle.xfs_render.specs.Drafts.{Adds, AreInBank, HoldsDraft, row_places}
use Rattle.xfs_render.specs.Groups.{IsSoundGroup}
use Rattle.xfs_render.specs.HeaderBlocks.{IsHeaderBlock}
use Rattle.xfs_render.specs.Logs.{IsBlankLog}
use Rattle.xfs_render.specs.Objects.{HasObjects, object_blocks, object_places}
use Rattle.xfs_render.specs.Plans.{HoldsPlan, IsOnce, plan_rows, planned}
use Rattle.xfs_render.specs.Trees.{HasTrees, group_tree_places}
use Rattle.xfs_render.specs.declared.bytes.Bytes.{Bytes}
use Rattle.xfs_render.specs.declared.draft.Draft.{Draft}
use Rattle.xfs_render.specs.declared.plan.Plan.{Plan}
use Rattle.xfs_render.specs.declared.wanted_slots.SlotWanted.{SlotWanted}

-- the records of inodes of a group, and what is placed in it
abbrev pub wanted_inodes : Wanted → ℕ → List InoRec
wanted_inodes w ag = (slice_index_or w.inodes ag (record { records = [] })).records

abbrev pub no_group : GroupPlaced
no_group = record { bno = []; cnt = []; fino = []; rmap = []; trees = []; agfl = [] }

abbrev pub group_placed : Placed → ℕ → GroupPlaced
group_placed p ag = slice_index_or p.groups ag no_group

-- a block that is the first of its group
abbrev pub is_head : Volume → ℕ → Bool
is_head v place = place % v.agblocks == 0

-- the place of a number among those whose bytes are at hand, and its bytes
abbrev pub byte_place : Bytes → ℕ → ℕ
byte_place b i = slice_index_or b.places i 0

abbrev pub old_at : Bytes → ℕ → List ℕ
old_at b i = slice_index_or b.old i []

abbrev pub volume : Wanted → Volume
volume w = volume_of w.geometry

-- the runs of objects are those of their asks and lie in the volume, and the blocks that are written of them were built; the groups can be
-- written, the superblock is accepted and states the volume, new chunks lie in it, the bytes of each place are at hand, what is wanted of
-- slots can be made of them, and the cycle of a blank log is one
pub record IsReady (w : Wanted) (p : Placed) (b : Bytes) : Type 0 where
  pub cuts : ServeAsks (asks_of w.objects) p.cuts p.runs
  pub runs : All (IsRunOf w.geometry.dblocks) p.runs
  pub objects : length b.objects ≡ length (object_blocks w p)
  pub inodes : length w.inodes ≡ w.geometry.agcount
  pub groups : length p.groups ≡ w.geometry.agcount
  pub sound : (ag : ℕ) → ag < w.geometry.agcount → IsSoundGroup (volume w) ag (wanted_inodes w ag) (group_placed p ag)
  pub accepted : IsAcceptedSector b.sector
  pub states : stated_volume b.sector ≡ volume w
  pub new : All (IsRunOf w.geometry.dblocks) w.new
  pub old : length b.old ≡ length b.places
  pub inside : All (λ place. place < w.geometry.dblocks) b.places
  pub order : IsNonDecreasingBy (λ (s : SlotWanted). s.ino) b.slots
  pub slots : (i : ℕ) → i < length b.places → is_head (volume w) (byte_place b i) ≡ false → CanCluster (volume w) b.slots (byte_place b i) (old_at b i)
  pub cycle : MatchOption b.cycle (Unit {0}) (λ cycle. (1 ≤ cycle) × (cycle < 2 ^ 31))

-- the blocks of the trees of all groups, of clusters in new chunks, and of what is written in place
abbrev pub tree_blocks : Placed → List ℕ
tree_blocks p = flat_map group_tree_places p.groups

abbrev pub new_blocks : Wanted → Bytes → List ℕ
new_blocks w b = filter (is_taken w.new) b.places

abbrev pub kept_blocks : Wanted → Bytes → List ℕ
kept_blocks w b = filter (λ place. not (is_taken w.new place)) b.places

abbrev pub log_places : Wanted → Option ℕ → List ℕ
log_places w None = []
log_places w (Some cycle) = range_with_len w.geometry.log w.geometry.logblocks

-- how many blocks of the log have bytes of their own: from its second block on all are alike
abbrev pub log_parts : Option ℕ → ℕ
log_parts None = 0
log_parts (Some cycle) = 2

-- a place of a new chunk, or of something that is written in place
abbrev pub is_put : Wanted → Bool → ℕ → Bool
is_put w true = is_taken w.new
is_put w false = λ place. not (is_taken w.new place)

-- a superblock as it is due: accepted wherever a group begins, it states the volume and the counts
pub record IsDueSuper (w : Wanted) (p : Placed) (b : Bytes) (super : List ℕ) : Type 0 where
  pub written : IsSuperOf b.sector p.counts super
  pub accepted : (place blocks : ℕ) → is_head (volume w) place ≡ true → place < w.geometry.dblocks → w.geometry.dblocks ≤ blocks → super_fault super place blocks ≡ None
  pub states : stated_volume super ≡ volume w

-- what an image has at one of the places whose bytes were at hand
pub record IsPlaceDue (w : Wanted) (p : Placed) (b : Bytes) (super : List ℕ) (i : ℕ) (block : List ℕ) : Type 0 where
  pub heads : (ag : ℕ) → byte_place b i ≡ ag * w.geometry.agblocks → IsHeaderBlock (volume w) ag super (old_at b i) (wanted_inodes w ag) (group_placed p ag) block
  pub clusters : is_head (volume w) (byte_place b i) ≡ false → IsClusterBlock (volume w) b.stamp.generation b.slots (byte_place b i) (old_at b i) block

-- what an image has: the trees of each group; the blocks of objects; at the places whose bytes were at hand the headers of groups, with one
-- superblock, and the blocks of clusters; and the log, where it is to be blank
pub record HasVolume (w : Wanted) (p : Placed) (b : Bytes) (super : List ℕ) (image : Image) : Type 0 where
  pub trees : (ag : ℕ) → ag < w.geometry.agcount → HasTrees (volume w) image ag (wanted_inodes w ag) (group_placed p ag)
  pub objects : HasObjects (volume w) (object_blocks w p) b.objects (length (object_blocks w p)) image
  pub places : (i : ℕ) → i < length b.places → IsPlaceDue w p b super i (bytes_of_block image (byte_place b i))
  pub log : MatchOption b.cycle (Unit {0}) (λ cycle. IsBlankLog (volume w) cycle image)

-- the blocks that nothing kept stands on, and those that are written in place
abbrev pub fresh_blocks : Wanted → Placed → Bytes → List ℕ
fresh_blocks w p b = tree_blocks p ++ (object_places w p ++ new_blocks w b)

abbrev pub blocks_in_place : Wanted → Bytes → List ℕ
blocks_in_place w b = kept_blocks w b ++ log_places w b.cycle

-- how many blocks a plan has bytes for: one for each block, but two for the whole log
abbrev pub bank_blocks : Wanted → Placed → Bytes → ℕ
bank_blocks w p b = length (fresh_blocks w p b) + length (kept_blocks w b) + log_parts b.cycle

-- a plan of just these blocks, in two lists that ascend where no block is planned twice; an image that has them has the volume
pub record IsRendered (w : Wanted) (p : Placed) (b : Bytes) (plan : Plan) : Type 0 where
  pub super : List ℕ
  pub due : IsDueSuper w p b super
  pub fresh : IsPermutation (fresh_blocks w p b) (row_places plan.fresh)
  pub in_place : IsPermutation (blocks_in_place w b) (row_places plan.in_place)
  pub fresh_ascend : IsOnce (fresh_blocks w p b) → IsStrictlyIncreasing (row_places plan.fresh)
  pub in_place_ascend : IsOnce (blocks_in_place w b) → IsStrictlyIncreasing (row_places plan.in_place)
  pub apart : IsOnce (fresh_blocks w p b ++ blocks_in_place w b) → IsOnce (planned plan)
  pub inside : AreInBank (plan_rows plan) plan.bank
  pub count : length plan.bank ≡ bank_blocks w p b
  pub reads : (image : Image) → HoldsPlan image plan → HasVolume w p b super image

-- the blocks of the trees of the first groups were put down
pub record AddsGroups (w : Wanted) (p : Placed) (n : ℕ) (old new : Draft) : Type 0 where
  pub adds : Adds old new (flat_map group_tree_places (take n p.groups)) (length (flat_map group_tree_places (take n p.groups)))
  pub reads : (image : Image) → HoldsDraft image new → (ag : ℕ) → ag < n → HasTrees (volume w) image ag (wanted_inodes w ag) (group_placed p ag)

-- the blocks at the places of a list were put down: those of new chunks, or those that are written in place
pub record AddsPlaces (w : Wanted) (p : Placed) (b : Bytes) (super : List ℕ) (new : Bool) (from to : ℕ) (places : List ℕ) (old now : Draft) : Type 0 where
  pub adds : Adds old now (filter (is_put w new) places) (length (filter (is_put w new) places))
  pub due : (image : Image) → HoldsDraft image now → (i : ℕ) → from ≤ i → i < to → is_taken w.new (byte_place b i) ≡ new
      → IsPlaceDue w p b super i (bytes_of_block image (byte_place b i))

-- the blocks of the log were put down, where it is to be blank
pub record AddsBlank (w : Wanted) (cycle : Option ℕ) (old new : Draft) : Type 0 where
  pub adds : Adds old new (log_places w cycle) (log_parts cycle)
  pub reads : (image : Image) → HoldsDraft image new → MatchOption cycle (Unit {0}) (λ n. IsBlankLog (volume w) n image)
