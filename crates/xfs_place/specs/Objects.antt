-- Where the runs of objects stand.
use Rattle.std.specs.Prelude.{◌≡◌, ℕ, zero, suc, Bool, true, false, ◌+◌, ◌-◌, ◌/◌, ◌%◌, ◌^◌, ◌≤◌, ◌&&◌, ◌==◌, nat_le, nat_lt, min, if◌then◌else◌, List, [], ◌∷◌, ◌++◌, length, take, drop, Option, Some, None, Result, Ok, Err}
use Rattle.std.specs.List.{flat_map, list_all, range_with_len}
use Rattle.xfs_geom.specs.Conversions.{group_length}
use Rattle.xfs_geom.specs.Features.{or_else}
use Rattle.xfs_geom.specs.Volumes.{Volume}
use Rattle.xfs_geom.specs.declared.records.Run.{Run}
use Rattle.xfs_kinds.specs.OffsetWords.{offset_in_fork, is_file_data}
use Rattle.xfs_place.specs.declared.faults.Unplaced.{Unplaced}
use Rattle.xfs_place.specs.declared.faults.Unplaced.TheVariants.{Directory, File}
use Rattle.xfs_place.specs.declared.wanted.Object.{Object}
use Rattle.xfs_place.specs.declared.wanted.ObjectKind.{ObjectKind}
use Rattle.xfs_place.specs.declared.wanted.ObjectKind.TheVariants as kinds
use Rattle.xfs_place.specs.declared.wanted.RunAsk.{RunAsk}
use Rattle.xfs_place.specs.Pool.{is_pool_unspared}

-- a run that is asked for has some blocks; the offsets of data of a file stay below the flags of an offset word, and other blocks have no
-- offset
pub record IsAsk (ask : RunAsk) : Type 0 where
  pub some : 1 ≤ ask.blocks
  pub fits : is_file_data ask.owner ask.offset_word ≡ true → offset_in_fork ask.offset_word + ask.blocks ≤ 2 ^ 54
  pub plain : is_file_data ask.owner ask.offset_word ≡ false → offset_in_fork ask.offset_word ≡ 0

-- the first of n numbers from i on that passes
unfoldable pub first_with : (ℕ → Bool) → ℕ → ℕ → Option ℕ
first_with test i zero = None
first_with test i (suc n) = if test i then Some i else first_with test (i + 1) n

-- no run has more blocks than the 21 extents of 2^21 - 1 blocks that fill a fork
abbrev pub most_blocks : ℕ
most_blocks = 44040171

-- so many blocks from a block on are all of the pool, inside one group, at AG block `from` or behind
abbrev pub can_hold_object : Volume → (ℕ → Bool) → ℕ → ℕ → ℕ → Bool
can_hold_object v pool from blocks b =
    nat_le blocks most_blocks && (nat_le from (b % v.agblocks) && (nat_le (b % v.agblocks + blocks) (group_length v (b / v.agblocks)) && list_all pool (range_with_len b blocks)))

-- the first block of the lowest such run
unfoldable pub lowest_run : Volume → (ℕ → Bool) → ℕ → ℕ → Option ℕ
lowest_run v pool from blocks = first_with (can_hold_object v pool from blocks) 0 v.dblocks

-- the most blocks of an extent (chapter "Data Extents")
abbrev pub most_extent_blocks : ℕ
most_extent_blocks = 2097151

-- a run by its first block and its blocks: one of so many where it is found, else the other
abbrev pub found_or : Option ℕ → ℕ → Option (ℕ × ℕ) → Option (ℕ × ℕ)
found_or (Some start) blocks other = Some (start, blocks)
found_or None blocks other = other

module _ (low : ℕ → Option ℕ) where
  -- the longest run of at most so many blocks, and of those the lowest, where `low` finds the lowest run of each number of blocks
  unfoldable pub longest_run : ℕ → Option (ℕ × ℕ)
  longest_run zero = None
  longest_run (suc n) = found_or (low (suc n)) (suc n) (longest_run n)

  -- a run for all of so many blocks, which is an extent where others of the ask stand elsewhere; where there is none, the longest extent for
  -- some of them
  abbrev pub piece_of : Bool → ℕ → Option (ℕ × ℕ)
  piece_of split blocks = found_or (if split && nat_lt most_extent_blocks blocks then None else low blocks) blocks (longest_run (min (blocks - 1) most_extent_blocks))

-- the run that an ask gets from a block on
abbrev pub run_at : ℕ → RunAsk → Run
run_at start ask = record { start = start; count = ask.blocks; owner = ask.owner; offset_word = ask.offset_word }

-- the first blocks that are asked for
abbrev pub front_of : RunAsk → ℕ → RunAsk
front_of ask blocks = record { blocks = blocks; owner = ask.owner; offset_word = ask.offset_word }

-- those behind them: the offset of data of a file goes up with the block
abbrev pub rest_of : RunAsk → ℕ → RunAsk
rest_of ask blocks = record {
  blocks = ask.blocks - blocks;
  owner = ask.owner;
  offset_word = if is_file_data ask.owner ask.offset_word then ask.offset_word + blocks else ask.offset_word;
}

abbrev pub with_found : Option (ℕ × ℕ) → (ℕ → ℕ → Option (List Run)) → Option (List Run)
with_found None next = None
with_found (Some (start, blocks)) next = next start blocks

abbrev pub with_kept : Option (List Run) → (List Run → Option (List Run)) → Option (List Run)
with_kept None next = None
with_kept (Some kept) next = next kept

-- what an object is named by where it finds no room
abbrev pub place_of_object : ObjectKind → ℕ → Unplaced
place_of_object kinds.Directory ino = Directory ino
place_of_object kinds.Symlink ino = File ino
place_of_object kinds.Data ino = File ino

abbrev pub or_no_room : Option (List Run) → Unplaced → (List Run → Result (List Run) Unplaced) → Result (List Run) Unplaced
or_no_room None what next = Err what
or_no_room (Some kept) what next = next kept

module _ (v : Volume) (reserved : List ℕ) (from : ℕ) (spared : List ℕ) where
  -- the lowest run of the blocks of the pool that what is kept leaves and that are not spared, for each number of blocks
  abbrev pub lowest : List Run → ℕ → Option ℕ
  lowest kept blocks = lowest_run v (is_pool_unspared v kept reserved spared) from blocks

  -- what is kept, with the runs of an ask behind it, of which there may be so many; none where they do not hold it
  unfoldable pub keep_pieces : ℕ → Bool → List Run → RunAsk → Option (List Run)
  keep_pieces zero split kept ask = None
  keep_pieces (suc more) split kept ask = with_found (piece_of (lowest kept) split ask.blocks) (λ start blocks.
      if blocks == ask.blocks then Some (kept ++ run_at start ask ∷ []) else keep_pieces more true (kept ++ run_at start (front_of ask blocks) ∷ []) (rest_of ask blocks))

  -- the same for asks in order, which may take so many runs together: each those that are left, but for one for each ask behind it
  unfoldable pub keep_asks : ℕ → List Run → List RunAsk → Option (List Run)
  keep_asks left kept [] = Some kept
  keep_asks left kept (ask ∷ rest) = with_kept (keep_pieces (left - length rest) false kept ask) (λ all. keep_asks (left - (length all - length kept)) all rest)

-- spared blocks, where they are
abbrev pub spared_in : Bool → List ℕ → List ℕ
spared_in all spared = if all then [] else spared

module _ (v : Volume) (reserved : List ℕ) (from : ℕ) (spared : List ℕ) (takes : Bool) where
  -- what is kept, with the runs of an object on blocks that are not spared; where these do not hold it, on all, where it takes spared ones
  abbrev pub keep_object : List Run → Object → Option (List Run)
  keep_object kept o = or_else (keep_asks v reserved from spared o.most kept o.runs) (if takes then keep_asks v reserved from [] o.most kept o.runs else None)

  -- what is kept, with the runs of all objects in order; or the first object that finds no room
  unfoldable pub keep_with : List Run → List Object → Result (List Run) Unplaced
  keep_with kept [] = Ok kept
  keep_with kept (o ∷ rest) = or_no_room (keep_object kept o) (place_of_object o.kind o.ino) (λ all. keep_with all rest)

-- all runs that are asked for, in order
abbrev pub asks_of : List Object → List RunAsk
asks_of objects = flat_map (λ (o : Object). o.runs) objects

-- the runs are those of an ask from its first block to its last
abbrev pub AreJoined : RunAsk → List Run → Type 0
AreJoined ask [] = ask.blocks ≡ 0
AreJoined ask (r ∷ rest) = (r ≡ run_at r.start (front_of ask r.count)) × (r.count ≤ ask.blocks) × AreJoined (rest_of ask r.count) rest

-- as many of the runs as the first number says are those of the first ask, and so on
abbrev pub ServeAsks : List RunAsk → List ℕ → List Run → Type 0
ServeAsks [] [] runs = runs ≡ []
ServeAsks [] (n ∷ cuts) runs = ⊥
ServeAsks (ask ∷ asks) [] runs = ⊥
ServeAsks (ask ∷ asks) (n ∷ cuts) runs = (n ≤ length runs) × AreJoined ask (take n runs) × ServeAsks asks cuts (drop n runs)
