-- The slots of a new cluster: the first is that of lost+found, the others are free.
use Rattle.std.proofs.Common.{◌≡◌, ℕ, Bool, true, ◌+◌, ◌≤◌, ◌<◌, ◌||◌, if◌then◌else◌, List, length, Option, Some, None, is_some, MatchOption, sym, ap, ap₂, ◌∙◌, subst}
use Rattle.std.specs.List.{Contains}
use Rattle.std.proofs.lemmas.Bool.{eq-eqb}
use Rattle.xfs_disk.specs.Blocks.{Image}
use Rattle.xfs_disk.specs.declared.stamp.Stamp.{Stamp}
use Rattle.xfs_word.specs.declared.extents.Extent.{Extent}
use Rattle.xfs_geom.specs.Volumes.{Volume}
use Rattle.xfs_tree.specs.Reading.{Contents}
use Rattle.xfs_inode.specs.Files.{by_slot, file_read}
use Rattle.xfs_inode.specs.Named.{slot_reads}
use Rattle.xfs_inode.specs.Slots.{slot_read}
use Rattle.xfs_inode.specs.declared.files.FileRead.TheVariants as Reads
use Rattle.xfs_inode.specs.declared.reading.SlotRead.{SlotRead}
use Rattle.xfs_inode.specs.declared.reading.SlotRead.TheVariants as Read
use Rattle.xfs_volume.specs.declared.files.FileRec.{FileRec}
use Rattle.xfs_views.proofs.Members.{contained}
use Rattle.xfs_render.specs.Slots.{IsFreeSlot, IsMadeSlot, IsSlotDue, wanted_of}
use Rattle.xfs_render.specs.declared.wanted_slots.SlotBase.{SlotBase}
use Rattle.xfs_render.specs.declared.wanted_slots.SlotBase.TheVariants.{Fresh}
use Rattle.xfs_render.specs.declared.wanted_slots.SlotWanted.{SlotWanted}
use Rattle.xfs_rename.specs.xfs_changes.Slots.{base_made, change_of, changed_alone, changes_of, changes_something, fork_at, free_change, links_held_at, links_set, lost_core, with_changes}
use Rattle.xfs_rename.specs.xfs_changes.declared.changes.SlotChange.{SlotChange}
use Rattle.xfs_rename.specs.xfs_changes.declared.forks.DirectoryFork.{DirectoryFork}
use Rattle.xfs_rename.specs.xfs_changes.declared.lost_found.Lost.{Lost}
use Rattle.xfs_restored.specs.Changes.{LinksAscend, SlotsAscend, change_if, first_change, inodes_taken, lost_slot, with_change}
use Rattle.xfs_restored.proofs.Changing.{changes_wanted}
use Rattle.xfs_restored.proofs.Links.{changes_ascend, file_change, free_behind}

-- a slot that is free reads so
free_reads : (v : Volume) (ino : ℕ) (slot : List ℕ) (tree : Option (Contents Extent)) (attr_leaf link : Option (List ℕ)) → slot_read v ino slot ≡ Read.Free
    → file_read v ino slot tree attr_leaf link ≡ Reads.Free
unfolding file_read
free_reads v ino slot tree attr_leaf link free = ap (λ (r : SlotRead). by_slot v ino r slot tree attr_leaf link) free

made_free : (v : Volume) (generation ino : ℕ) (old new : List ℕ) → IsMadeSlot v generation (changed_alone (free_change ino)) old new → IsFreeSlot v ino generation new
made_free v generation ino old new made =
    let same : new ≡ made.based = made.links ∙ (made.fork ∙ made.attrs) in
    subst (λ (slot : List ℕ). IsFreeSlot v ino generation slot) (sym same) made.base

made_reads : (v : Volume) (image : Image) (generation ino : ℕ) (old new : List ℕ) → IsMadeSlot v generation (changed_alone (free_change ino)) old new → slot_reads v image ino new ≡ Reads.Free
made_reads v image generation ino old new made = free_reads v ino new _ _ _ (made_free v generation ino old new made).read

module _ (v : Volume) (s : Stamp) (l : Lost) (files : List FileRec) (forks : List DirectoryFork) (links : List (ℕ × ℕ)) (slots : List SlotWanted)
    (few : length l.added ≤ 1) (ascend : LinksAscend l 0 links) (rise : SlotsAscend 0 slots) where
  abbrev due : List SlotWanted
  due = with_changes (changes_of v s l files forks links) slots

  due_is : (ino : ℕ) → wanted_of due ino ≡ with_change (first_change (changes_of v s l files forks links) ino) (wanted_of slots ino)
  due_is ino = changes_wanted ino (changes_of v s l files forks links) 0 (changes_ascend v s l files forks few links 0 ascend) slots 0 rise

  -- the others
  pub free_due : (p : ℕ × ℕ) (j : ℕ) → Contains links p → j + 1 < inodes_taken l p.0 → wanted_of slots (p.0 + 1 + j) ≡ None
      → wanted_of due (p.0 + 1 + j) ≡ Some (changed_alone (free_change (p.0 + 1 + j)))
  free_due p j is inside none =
      due_is (p.0 + 1 + j) ∙ ap₂ (λ (c : Option SlotChange) (w : Option SlotWanted). with_change c w) (free_behind v s l files forks few links 0 p j ascend (contained p links is) inside) none

  pub free_now : (image : Image) (generation : ℕ) (p : ℕ × ℕ) (j : ℕ) (old new : List ℕ) → Contains links p → j + 1 < inodes_taken l p.0 → wanted_of slots (p.0 + 1 + j) ≡ None
      → IsSlotDue v generation due (p.0 + 1 + j) old new → slot_reads v image (p.0 + 1 + j) new ≡ Reads.Free
  free_now image generation p j old new is inside none made =
      made_reads v image generation (p.0 + 1 + j) old new
      (subst (λ (o : Option SlotWanted). MatchOption o (new ≡ old) (λ w. IsMadeSlot v generation w old new)) (free_due p j is inside none) made)

  -- the first
  base_is : (p : ℕ × ℕ) → l.made ≡ true → l.new ≡ p.0 → base_made v s l p.0 ≡ Some (Fresh (lost_core v s p.0))
  base_is p made same =
      ap₂ (λ (t u : Bool). if t then (if u then Some (Fresh (lost_core v s p.0)) else None) else None) made (eq-eqb l.new p.0 same)

  change_is : (p : ℕ × ℕ) → l.made ≡ true → l.new ≡ p.0 → first_change (changes_of v s l files forks links) p.0 ≡ change_if (changes_something v s l files forks (change_of v s l files forks p)) (change_of v s l files forks p) → Contains links p
      → first_change (changes_of v s l files forks links) p.0 ≡ Some (change_of v s l files forks p)
  change_is p made same found is =
      found ∙ ap (λ (o : Option SlotBase). change_if (is_some o || (is_some (fork_at forks p.0) || is_some (links_set (links_held_at files p.0) p.1))) (change_of v s l files forks p)) (base_is p made same)

  pub lost_wanted : (p : ℕ × ℕ) → Contains links p → l.made ≡ true → l.new ≡ p.0 → wanted_of slots p.0 ≡ None → wanted_of due p.0 ≡ Some (lost_slot v s files forks p)
  lost_wanted p is made same none =
      due_is p.0
      ∙ (ap₂ (λ (c : Option SlotChange) (w : Option SlotWanted). with_change c w) (change_is p made same (file_change v s l files forks few links 0 p ascend (contained p links is)) is) none
      ∙ ap (λ (o : Option SlotBase). let x : SlotWanted = changed_alone (record { ino = p.0; base = o; fork = fork_at forks p.0; nlink = links_set (links_held_at files p.0) p.1 }) in Some x) (base_is p made same))
