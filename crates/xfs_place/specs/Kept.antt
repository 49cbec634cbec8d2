-- What is said of calls that add runs to those that are kept.
use Rattle.std.specs.Prelude.{◌≡◌, ℕ, Bool, true, false, ◌+◌, ◌≤◌, ◌++◌, if◌then◌else◌, List, length, take, drop, Option, Some, None, is_some, MatchOption, Result, Ok}
use Rattle.xfs_geom.specs.Volumes.{Volume, volume_of}
use Rattle.xfs_geom.specs.declared.records.Run.{Run}
use Rattle.xfs_place.specs.declared.open_blocks.OpenBlocks.{OpenBlocks}
use Rattle.xfs_place.specs.declared.placed.Placed.{Placed}
use Rattle.xfs_place.specs.declared.wanted.Object.{Object}
use Rattle.xfs_place.specs.declared.wanted.RunAsk.{RunAsk}
use Rattle.xfs_place.specs.declared.wanted.Wanted.{Wanted}
use Rattle.xfs_place.specs.Counts.{placed_counts}
use Rattle.xfs_place.specs.Finding.{IsFrontOf, IsOpen}
use Rattle.xfs_place.specs.Objects.{ServeAsks, asks_of, keep_asks, keep_pieces, keep_with, spared_in}
use Rattle.xfs_place.specs.Standing.{AreOfPool}
use Rattle.xfs_place.specs.Wanted.{ArePlaced, CanBeKept, all_kept, kept_runs}

-- the runs of one ask stand behind those from before, where they are found
pub record IsAskPut (v : Volume) (reserved : List ℕ) (from : ℕ) (spared : List ℕ) (all : Bool) (most : ℕ) (ask : RunAsk) (old new : List Run) (blocks : OpenBlocks) (given : Option ℕ) : Type 0 where
  pub kept : CanBeKept v new
  pub pool : IsOpen v new reserved from spared blocks
  pub placed : keep_pieces v reserved from (spared_in all spared) most false old ask ≡ (if is_some given then Some new else None)
  pub count : MatchOption given (Unit {0}) (λ n. length new ≡ length old + n)
  pub few : MatchOption given (Unit {0}) (λ n. n ≤ most)
  pub front : IsFrontOf old new

-- the runs of the asks of an object stand behind those from before, where they are found
pub record AreAsksPut (v : Volume) (reserved : List ℕ) (from : ℕ) (spared : List ℕ) (all : Bool) (object : Object) (first : ℕ) (old new : List Run) (before after : List ℕ) (blocks : OpenBlocks) (given : Bool) : Type 0 where
  pub kept : CanBeKept v new
  pub pool : IsOpen v new reserved from spared blocks
  pub placed : keep_asks v reserved from (spared_in all spared) object.most old object.runs ≡ (if given then Some new else None)
  pub front : IsFrontOf old new
  pub cut : IsFrontOf before after
  pub cuts : given ≡ true → (asks : List RunAsk) → ServeAsks asks before (drop first old) → ServeAsks (asks ++ object.runs) after (drop first new)

-- the runs of all objects stand behind those from before
pub record AreObjectsKept (v : Volume) (reserved : List ℕ) (from : ℕ) (spared : List ℕ) (takes : Bool) (old : List Run) (objects : List Object) (all : List Run) (after : List ℕ) : Type 0 where
  pub placed : keep_with v reserved from spared takes old objects ≡ Ok all
  pub kept : CanBeKept v all
  pub behind : take (length old) all ≡ old
  pub cuts : ServeAsks (asks_of objects) after (drop (length old) all)

-- the objects of a request, behind what it keeps
abbrev pub AreWantedKept : Wanted → List Run → List ℕ → Type 0
AreWantedKept w all after = AreObjectsKept (volume_of w.geometry) w.reserved w.from w.spared_from w.takes_spared (kept_runs w) w.objects all after

-- all that a request names stands so
pub record IsPlacedAs (w : Wanted) (placed : Placed) : Type 0 where
  pub runs : all_kept w ≡ Ok (kept_runs w ++ placed.runs)
  pub cuts : ServeAsks (asks_of w.objects) placed.cuts placed.runs
  pub groups : ArePlaced (volume_of w.geometry) (kept_runs w ++ placed.runs) w.reserved w.inodes w.geometry.agcount placed.groups
  pub apart : CanBeKept (volume_of w.geometry) (kept_runs w ++ placed.runs)
  pub pool : AreOfPool (volume_of w.geometry) (kept_runs w ++ placed.runs) w.reserved w.inodes w.geometry.agcount placed.groups
  pub counts : placed.counts ≡ placed_counts w.inodes placed.groups
