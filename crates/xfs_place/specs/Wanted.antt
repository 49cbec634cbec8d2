-- What a volume holds before its trees are placed, group by group.
use Rattle.std.specs.Prelude.{◌≡◌, ℕ, Bool, true, false, ◌+◌, ◌-◌, ◌*◌, ◌≤◌, ◌<◌, ◌⊎◌, ◌&&◌, nat_le, nat_lt, if◌then◌else◌, List, [], ◌∷◌, ◌++◌, length, map, Option, Some, None, slice_index_or, Result, Ok, Err}
use Rattle.std.specs.List.{All, range_with_len}
use Rattle.xfs_kinds.specs.FixedRuns.{fixed_runs}
use Rattle.xfs_geom.specs.Runs.{covers}
use Rattle.xfs_geom.specs.Conversions.{group_length, is_fixed}
use Rattle.xfs_geom.specs.Volumes.{Volume, volume_of}
use Rattle.xfs_geom.specs.declared.records.Run.{Run}
use Rattle.xfs_kinds.specs.MergedRuns.{held_at}
use Rattle.xfs_geom.specs.declared.records.InoRec.{InoRec}
use Rattle.xfs_place.specs.declared.placed.GroupPlaced.{GroupPlaced}
use Rattle.xfs_place.specs.declared.faults.Unplaced.{Unplaced}
use Rattle.xfs_place.specs.declared.wanted.GroupInodes.{GroupInodes}
use Rattle.xfs_place.specs.declared.wanted.Wanted.{Wanted}
use Rattle.xfs_place.specs.Objects.{keep_with}
use Rattle.xfs_place.specs.Placing.{IsPlacedGroup, inner_blocks}
use Rattle.xfs_place.specs.declared.uses.Use.{Use}
use Rattle.xfs_place.specs.Pool.{use_of}
use Rattle.xfs_place.specs.Choice.{Group, IsChosenCount, group}
use Rattle.xfs_place.specs.Claims.{ClaimedOnce, AreClaims, IsClaimedRun}

-- no block of the run has a fixed use
abbrev pub IsOffFixed : Volume → Run → Type 0
IsOffFixed v r = (block : ℕ) → covers block r ≡ true → is_fixed v block ≡ false

-- runs of blocks of the volume that belong to something: no two have a block in common, and none has a block with a fixed use
pub record CanBeKept (v : Volume) (kept : List Run) : Type 0 where
  pub each : All (IsClaimedRun v.dblocks) kept
  pub clear : All (IsOffFixed v) kept
  pub apart : ClaimedOnce kept

-- the uses of the blocks of a group, and the owners and offset words of those that are claimed
unfoldable pub uses_in : Volume → List Run → List ℕ → ℕ → List Use
uses_in v kept reserved ag = map (λ block. use_of v kept reserved (ag * v.agblocks + block)) (range_with_len 0 (group_length v ag))

unfoldable pub claim_in : Volume → List Run → ℕ → ℕ → Option (ℕ × ℕ)
claim_in v kept ag block = if nat_lt block (group_length v ag) then held_at (fixed_runs v ++ kept) (ag * v.agblocks + block) else None

-- the group before its trees are placed
abbrev pub group_in : Volume → List Run → List ℕ → ℕ → ℕ → Group
group_in v kept reserved ag inner = group (uses_in v kept reserved ag) (claim_in v kept ag) inner

-- a run does not go from one group into the next
abbrev pub StaysInGroup : Volume → Run → Type 0
StaysInGroup v r = (ag : ℕ) → r.start < ag * v.agblocks → r.start + r.count ≤ ag * v.agblocks

-- the claims of a volume in order: the runs of the blocks with a fixed use, and what is kept
pub record AreAllClaims (v : Volume) (kept claims : List Run) : Type 0 where
  pub claims' : AreClaims v.dblocks claims
  pub held : (block : ℕ) → held_at claims block ≡ held_at (fixed_runs v ++ kept) block
  pub stay : All (StaysInGroup v) claims

-- a run of a group by its AG blocks
abbrev pub run_in_group : ℕ → Run → Run
run_in_group base r = record r { start = r.start - base }

abbrev pub begins_in : ℕ → ℕ → Run → Bool
begins_in base length r = nat_le base r.start && nat_lt r.start (base + length)

-- the records of inodes of a group
abbrev pub inodes_in_group : List GroupInodes → ℕ → List InoRec
inodes_in_group inodes ag = (slice_index_or inodes ag (record { records = [] })).records

-- a group of the volume, before its trees are placed
abbrev pub wanted_group : Volume → List Run → List ℕ → List GroupInodes → ℕ → Group
wanted_group v kept reserved inodes ag = group_in v kept reserved ag (inner_blocks (inodes_in_group inodes ag))

-- the trees of each group stand
pub record ArePlaced (v : Volume) (kept : List Run) (reserved : List ℕ) (inodes : List GroupInodes) (n : ℕ) (groups : List GroupPlaced) : Type 0 where
  pub all : length groups ≡ n
  pub each : (ag : ℕ) (d : GroupPlaced) → ag < n → IsPlacedGroup (wanted_group v kept reserved inodes ag) (ag * v.agblocks) (inodes_in_group inodes ag) (slice_index_or groups ag d)

-- what is kept of what a request names, with the new chunks
abbrev pub kept_runs : Wanted → List Run
kept_runs w = w.taken ++ w.new

-- the same with the runs of the objects; or the first object that finds no room
abbrev pub all_kept : Wanted → Result (List Run) Unplaced
all_kept w = keep_with (volume_of w.geometry) w.reserved w.from w.spared_from w.takes_spared (kept_runs w) w.objects

-- the first group whose trees have no room
pub record IsWithoutRoom (v : Volume) (kept : List Run) (reserved : List ℕ) (inodes : List GroupInodes) (ag : ℕ) : Type 0 where
  pub inside : ag < v.agcount
  pub none : IsChosenCount (wanted_group v kept reserved inodes ag) None
  pub others : (k : ℕ) → k < ag → (n : ℕ) × IsChosenCount (wanted_group v kept reserved inodes k) (Some n)

-- what a request finds no room for: an object, or the trees and the free list of a group beside all objects
abbrev pub FindsNoRoom : Wanted → Unplaced → Type 0
FindsNoRoom w what = (all_kept w ≡ Err what)
    ⊎ ((all : List Run) × (ag : ℕ) × (all_kept w ≡ Ok all) × (what ≡ Unplaced.Group ag) × IsWithoutRoom (volume_of w.geometry) all w.reserved w.inodes ag)
