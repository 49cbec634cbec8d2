-- What is wanted of the slots of kept clusters (chapter "On-disk Inode").
use Rattle.std.specs.Prelude.{◌≡◌, ℕ, Bool, true, false, ◌+◌, ◌-◌, ◌^◌, ◌≤◌, ◌==◌, ◌&&◌, ◌||◌, if◌then◌else◌, List, [], ◌∷◌, count_by, filter, length, Option, Some, None}
use Rattle.std.specs.List.{flat_map, sum_by}
use Rattle.std.specs.List.Sorted.{IsNonDecreasing, IsNonDecreasingBy}
use Rattle.std.specs.Option.{is_some}
use Rattle.xfs_disk.specs.Lists.{is_among}
use Rattle.xfs_disk.specs.declared.stamp.Stamp.{Stamp}
use Rattle.xfs_word.specs.declared.extents.Extent.{Extent}
use Rattle.xfs_dirdata.specs.declared.records.EntryRec.{EntryRec}
use Rattle.xfs_geom.specs.Volumes.{Volume}
use Rattle.xfs_volume.specs.Names.{is_directory}
use Rattle.xfs_volume.specs.declared.files.FileRec.{FileRec}
use Rattle.xfs_salvage.specs.xfs_image.Slots.{cluster_blocks, inodes_of_block}
use Rattle.xfs_naming.specs.Naming.{entries_in, entries_to, is_system, links_of, numbers_of}
use Rattle.xfs_naming.specs.Ordered.{AreLinks}
use Rattle.xfs_naming.specs.declared.runs.Link.{Link}
use Rattle.xfs_render.specs.declared.wanted_slots.SlotBase.TheVariants.{Free, Kept}
use Rattle.xfs_render.specs.declared.wanted_slots.SlotWanted.{SlotWanted}
use Rattle.xfs_salvage.specs.declared.found.Salvaged.{Salvaged}
use Rattle.xfs_request.specs.Fresh.{new_slot}
use Rattle.xfs_request.specs.declared.seen.SlotSeen.{SlotSeen}
use Rattle.xfs_request.specs.declared.seen.SlotState.{SlotState}
use Rattle.xfs_request.specs.declared.seen.SlotState.TheVariants as State

-- what is known of the slot of an inode
abbrev pub first_state : List SlotSeen → SlotState
first_state [] = State.Other
first_state (slot ∷ slots) = slot.state

abbrev pub state_at : List SlotSeen → ℕ → SlotState
state_at slots ino = first_state (filter (λ (slot : SlotSeen). slot.ino == ino) slots)

abbrev pub is_free : SlotState → Bool
is_free State.Free = true
is_free State.Bare = false
is_free State.Other = false

abbrev pub is_bare : SlotState → Bool
is_bare State.Free = false
is_bare State.Bare = true
is_bare State.Other = false

-- how many names a file is to have: a system inode one, any other as many as the entries give it
abbrev pub links_due : ℕ → List FileRec → List EntryRec → FileRec → ℕ
links_due root files entries f = if is_system root f.ino then 1 else links_of files entries f

-- how many the entries give it, by the numbers of the directories
abbrev pub links_among : List ℕ → List EntryRec → FileRec → ℕ
links_among directories entries f =
    if is_directory f then 2 + count_by (λ (e : EntryRec). is_among directories e.ino) (entries_in entries f.ino) else length (entries_to entries f.ino)

-- their number is set where the file has another, or where it waits to be removed
abbrev pub nlink_wanted : FileRec → ℕ → Option ℕ
nlink_wanted f due = if f.core.nlink == due && f.core.next_unlinked == 2 ^ 32 - 1 then None else Some due

-- the blocks that a file has without its attributes, which are dropped where they do not read
abbrev pub own_blocks : FileRec → ℕ
own_blocks f = sum_by (λ (e : Extent). e.count) f.extents + length f.rest.tree

abbrev pub attrs_wanted : FileRec → SlotState → Option ℕ
attrs_wanted f state = if is_bare state then Some (own_blocks f) else None

-- a slot that stays but for its attributes and its number of names; where both stay nothing is wanted of it
abbrev pub kept_slot : ℕ → Option ℕ → Option ℕ → Option SlotWanted
kept_slot ino attrs nlink =
    if is_some attrs || is_some nlink then Some (record { ino = ino; base = Kept; drop_attrs = attrs; fork = None; nlink = nlink }) else None

abbrev pub freed_slot : ℕ → SlotWanted
freed_slot ino = record { ino = ino; base = Free; drop_attrs = None; fork = None; nlink = None }

abbrev pub as_list : {A : Type 0} → Option A → List A
as_list None = []
as_list (Some x) = x ∷ []

module _ (v : Volume) (s : Stamp) (kept : Salvaged) (slots : List SlotSeen) where
  -- the slot of a kept file
  abbrev pub file_slot : FileRec → Option SlotWanted
  file_slot f = kept_slot f.ino (attrs_wanted f (state_at slots f.ino)) (nlink_wanted f (links_due v.rootino kept.files kept.entries f))

  -- a slot without a kept file is made anew for the root or a system inode; else it is freed, where it is not free
  abbrev pub bare_slot : ℕ → Option SlotWanted
  bare_slot ino = if is_among kept.fresh ino then Some (new_slot v s ino) else (if is_free (state_at slots ino) then None else Some (freed_slot ino))

  abbrev pub slot_of : ℕ → List FileRec → Option SlotWanted
  slot_of ino [] = bare_slot ino
  slot_of ino (f ∷ fs) = file_slot f

  -- what is wanted of the slot of an inode, where something is; and of all slots of a block, of a cluster and of some clusters
  unfoldable pub slot_wanted : ℕ → Option SlotWanted
  slot_wanted ino = slot_of ino (filter (λ (f : FileRec). f.ino == ino) kept.files)

  abbrev pub slot_listed : ℕ → List SlotWanted
  slot_listed ino = as_list (slot_wanted ino)

  unfoldable pub block_slots : ℕ → List SlotWanted
  block_slots block = flat_map slot_listed (inodes_of_block v block)

  unfoldable pub cluster_slots : ℕ → List SlotWanted
  cluster_slots cluster = flat_map block_slots (cluster_blocks cluster)

  unfoldable pub wanted_slots : List SlotWanted
  wanted_slots = flat_map cluster_slots kept.clusters

-- records stand by number: each has no lower one than the one before it, and the first none below a least
abbrev pub StandByNumber : {A : Type 0} → (A → ℕ) → ℕ → List A → Type 0
StandByNumber number least [] = Unit {0}
StandByNumber number least (x ∷ xs) = (least ≤ number x) × StandByNumber number (number x) xs

-- the numbers of files, in their order
pub record AreNumbers (files : List FileRec) (numbers : List ℕ) : Type 0 where
  pub are : numbers ≡ numbers_of files
  pub rise : IsNonDecreasing numbers

-- what is looked up by number stands in its order, the numbers of the directories are at hand, and there is a link for each entry
pub record CanBeSearched (kept : Salvaged) (directories : List ℕ) (slots : List SlotSeen) (links : List Link) : Type 0 where
  pub by_file : IsNonDecreasingBy (λ (f : FileRec). f.ino) kept.files
  pub by_number : AreNumbers (filter is_directory kept.files) directories
  pub by_directory : IsNonDecreasingBy (λ (e : EntryRec). e.dir) kept.entries
  pub by_slot : IsNonDecreasingBy (λ (slot : SlotSeen). slot.ino) slots
  pub by_target : IsNonDecreasingBy (λ (l : Link). l.target) links
  pub linked : AreLinks kept.entries links
