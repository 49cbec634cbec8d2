-- The blocks that the slot of an inode names, and what it reads as in an image.
use Rattle.std.specs.Prelude.{◌≡◌, ℕ, ◌≤◌, MatchResult, List, [], Option, Some, None, option_map, Result, Ok, Err}
use Rattle.xfs_disk.specs.Blocks.{Image, bytes_of_block}
use Rattle.xfs_word.specs.declared.extents.Extent.{Extent}
use Rattle.xfs_geom.specs.Volumes.{Volume}
use Rattle.xfs_tree.specs.Reading.{Contents, reading}
use Rattle.xfs_tree.specs.Seats.{seats_of}
use Rattle.xfs_tree.specs.declared.unread.Unread.{Unread}
use Rattle.xfs_tree.specs.declared.frontier.Frontier.{Frontier}
use Rattle.xfs_kinds.specs.declared.file_trees.Bmbt.{Bmbt}
use Rattle.xfs_kinds.specs.FileTrees.{bmbt_shape}
use Rattle.xfs_inode.specs.Slots.{slot_read}
use Rattle.xfs_inode.specs.Forks.{Top, top_of, attr_place, link_place}
use Rattle.xfs_inode.specs.Files.{file_read}
use Rattle.xfs_inode.specs.declared.reading.SlotRead.{SlotRead}
use Rattle.xfs_inode.specs.declared.reading.SlotRead.TheVariants as Read
use Rattle.xfs_disk.specs.Faults.{Rose}
use Rattle.xfs_inode.specs.declared.faults.InodeFault.{InodeFault}
use Rattle.xfs_inode.specs.declared.faults.InodeFault.TheVariants as errors
use Rattle.xfs_inode.specs.declared.files.FileRead.{FileRead}

-- a run of blocks is the whole of a level under a root
pub record IsTop (top : Option Top) (f : Frontier Bmbt Extent ℕ) : Type 0 where
  pub named : top ≡ Some (record { places = f.places.items; lows = f.lows.items; level = f.level })
  pub no_highs : f.highs.items ≡ []
  pub no_left : f.left ≡ None
  pub no_right : f.right ≡ None
  pub from_first : f.from ≡ 0

-- a slot in use alone names blocks
abbrev pub top_named : Volume → SlotRead → List ℕ → Option Top
top_named v Read.Unsound slot = None
top_named v Read.Free slot = None
top_named v (Read.Unsupported what) slot = None
top_named v (Read.InUse core) slot = top_of v core slot

abbrev pub attr_named : Volume → SlotRead → List ℕ → Option ℕ
attr_named v Read.Unsound slot = None
attr_named v Read.Free slot = None
attr_named v (Read.Unsupported what) slot = None
attr_named v (Read.InUse core) slot = attr_place v core slot

abbrev pub link_named : Volume → SlotRead → List ℕ → Option ℕ
link_named v Read.Unsound slot = None
link_named v Read.Free slot = None
link_named v (Read.Unsupported what) slot = None
link_named v (Read.InUse core) slot = link_place v core slot

-- the level under the root of the data fork's tree, the block of a leaf of attributes, and that of a symbolic link's target
unfoldable pub named_top : Volume → ℕ → List ℕ → Option Top
named_top v ino slot = top_named v (slot_read v ino slot) slot

unfoldable pub named_attr : Volume → ℕ → List ℕ → Option ℕ
named_attr v ino slot = attr_named v (slot_read v ino slot) slot

unfoldable pub named_link : Volume → ℕ → List ℕ → Option ℕ
named_link v ino slot = link_named v (slot_read v ino slot) slot

-- what a tree holds, where it reads
abbrev pub held_by : Result (Contents Extent) Unread → Option (Contents Extent)
held_by (Ok tree) = Some tree
held_by (Err fault) = None

abbrev pub tree_under : Volume → Image → ℕ → Option Top → Option (Contents Extent)
tree_under v image ino None = None
tree_under v image ino (Some top) = held_by (reading (bmbt_shape ino) v image (seats_of top.places top.lows []) top.level)

-- what the slot of an inode reads as in an image
abbrev pub slot_reads : Volume → Image → ℕ → List ℕ → FileRead
slot_reads v image ino slot =
    file_read v ino slot
    (tree_under v image ino (named_top v ino slot))
    (option_map (bytes_of_block image) (named_attr v ino slot))
    (option_map (bytes_of_block image) (named_link v ino slot))

-- what reads from a run of blocks that is a whole level
abbrev pub tree_below : Volume → Image → ℕ → Option (Frontier Bmbt Extent ℕ) → Option (Contents Extent)
tree_below v image ino None = None
tree_below v image ino (Some f) = held_by (reading (bmbt_shape ino) v image (seats_of f.places.items f.lows.items f.highs.items) f.level)

-- the blocks that are named, as a run of blocks
abbrev pub IsTopNamed : Option Top → Option (Frontier Bmbt Extent ℕ) → Type 0
IsTopNamed top None = top ≡ None
IsTopNamed top (Some f) = IsTop top f

-- a read fault is answered only where the count of failed reads rose
abbrev pub IsInodeCause : ℕ → ℕ → InodeFault → Type 0
IsInodeCause before now errors.ReadFault = Rose before now
IsInodeCause before now errors.NoMemory = before ≤ now

abbrev pub HasInodeCause : {T : Type 0} → ℕ → ℕ → Result T InodeFault → Type 0
HasInodeCause before now result = MatchResult result (λ _. before ≤ now) (IsInodeCause before now)
