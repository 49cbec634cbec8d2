-- What the slots that were made read as by themselves: those of files, of system inodes, and free ones.
use Rattle.std.proofs.Common.{◌≡◌, ◌≢◌, ℕ, ◌+◌, ◌-◌, ◌*◌, ◌==◌, ◌≤◌, ◌<◌, ◌⊎◌, inl, inr, Bool, cond, nat_lt, List, length, Option, arith, refl, sym, subst, ap, ◌∙◌}
use Rattle.std.proofs.lemmas.Bool.{cases_eq, cases_lt, le-ltb, lt-ltb, ne_eqb}
use Rattle.xfs_word.specs.Crc.{little_field_of}
use Rattle.xfs_word.specs.Field.{part_of}
use Rattle.xfs_word.specs.declared.extents.Extent.{Extent}
use Rattle.xfs_disk.specs.Blocks.{Image}
use Rattle.xfs_disk.specs.declared.stamp.Stamp.{Stamp}
use Rattle.xfs_geom.specs.Volumes.{Volume}
use Rattle.xfs_geom.specs.declared.records.Run.{Run}
use Rattle.xfs_inode.specs.Slots.{slot_read}
use Rattle.xfs_inode.specs.Files.{by_slot, file_read, ranges_apart}
use Rattle.xfs_inode.specs.declared.files.FileRead.TheVariants as Reads
use Rattle.xfs_inode.specs.declared.reading.SlotRead.{SlotRead}
use Rattle.xfs_inode.specs.declared.reading.SlotRead.TheVariants as Read
use Rattle.xfs_inodebuild.specs.declared.forks.ForkWanted.{ForkWanted}
use Rattle.xfs_tree.specs.Reading.{Contents}
use Rattle.xfs_volume.specs.declared.cores.Core.{Core}
use Rattle.xfs_image.specs.Slots.{reads_as, slot_bytes}
use Rattle.xfs_render.specs.Slots.{IsFreeSlot, IsFreshSlot, IsMadeSlot, SetsFork}
use Rattle.xfs_render.specs.declared.wanted_slots.SlotWanted.{SlotWanted}
use Rattle.xfs_empty.specs.Inodes.{system_core, system_slot, unused_slot}
use Rattle.xfs_made.specs.Files.{plain_file, slot_crc}
use Rattle.xfs_proto.specs.declared.protofile.ProtoNode.{ProtoNode}
use Rattle.xfs_filled.specs.Forks.{extents_of_owner, owned_by}
use Rattle.xfs_filled.specs.Numbers.{index_of_place, inode_at, number_of}
use Rattle.xfs_filled.specs.Slots.{core_at, slot_of_place, fork_of_place, made_slot, slot_of_index}
use Rattle.xfs_filled.proofs.Numbering.{index_is}
use Rattle.xfs_filled.proofs.Slotted.{slot_is}
use Rattle.xfs_populated.specs.FilledSlots.{HasFilledSlots}
use Rattle.xfs_populated.specs.Populated.{filled_fork, with_fork}

-- a slot that was made with a fork
pub record IsForkedSlot (v : Volume) (core : Core) (fork : ForkWanted) (slot : List ℕ) : Type 0 where
  pub read : slot_read v core.ino slot ≡ Read.InUse (with_fork core fork (little_field_of slot 100 4))
  pub put : part_of slot 176 (length fork.bytes) ≡ fork.bytes

forked : (v : Volume) (core : Core) (fork : ForkWanted) (bare new : List ℕ) → IsFreshSlot v core bare → SetsFork v core.ino fork bare new → IsForkedSlot v core fork new
forked v core fork bare new fresh sets =
    record {
      read =
          sets.read (record core { crc = little_field_of bare 100 4 }) fresh.read
          ∙ ap (λ (c : Core). Read.InUse c) (sets.stated ∙ ap (λ (c : Core). with_fork c fork (little_field_of new 100 4)) fresh.stated);
      put = sets.put;
    }

made_forked : (v : Volume) (core : Core) (fork : ForkWanted) (generation : ℕ) (old new : List ℕ) → IsMadeSlot v generation (made_slot core.ino core fork) old new → IsForkedSlot v core fork new
made_forked v core fork generation old new made =
    let fresh : IsFreshSlot v core made.bare = subst (λ (slot : List ℕ). IsFreshSlot v core slot) (sym made.attrs) made.base in
    let sets : SetsFork v core.ino fork made.bare new = subst (λ (slot : List ℕ). SetsFork v core.ino fork made.bare slot) (sym made.links) made.fork in
    forked v core fork made.bare new fresh sets

-- a free slot, and that of a system inode
made_free : (v : Volume) (generation ino : ℕ) (old new : List ℕ) → IsMadeSlot v generation (unused_slot ino) old new → slot_read v ino new ≡ Read.Free
made_free v generation ino old new made =
    let same : new ≡ made.based = made.links ∙ (made.fork ∙ made.attrs) in
    (subst (λ (slot : List ℕ). IsFreeSlot v ino generation slot) (sym same) made.base).read

made_system : (v : Volume) (s : Stamp) (generation ino : ℕ) (old new : List ℕ) → IsMadeSlot v generation (system_slot v s ino) old new
    → slot_read v ino new ≡ Read.InUse (record (system_core v s ino) { crc = little_field_of new 100 4 })
made_system v s generation ino old new made =
    let same : new ≡ made.based = made.links ∙ (made.fork ∙ made.attrs) in
    (subst (λ (slot : List ℕ). IsFreshSlot v (system_core v s ino) slot) (sym same) made.base).read

-- what these read as with the blocks that they name
free_reads : (v : Volume) (ino : ℕ) (slot : List ℕ) (tree : Option (Contents Extent)) (attr_leaf link : Option (List ℕ)) → slot_read v ino slot ≡ Read.Free
    → file_read v ino slot tree attr_leaf link ≡ Reads.Free
unfolding file_read
free_reads v ino slot tree attr_leaf link free = ap (λ (r : SlotRead). by_slot v ino r slot tree attr_leaf link) free

system_reads : (v : Volume) (s : Stamp) (ino crc : ℕ) (slot : List ℕ) (tree : Option (Contents Extent)) (attr_leaf link : Option (List ℕ))
    → slot_read v ino slot ≡ Read.InUse (record (system_core v s ino) { crc = crc })
    → file_read v ino slot tree attr_leaf link ≡ Reads.File (plain_file (system_core v s ino) crc)
unfolding file_read ranges_apart
system_reads v s ino crc slot tree attr_leaf link used = ap (λ (r : SlotRead). by_slot v ino r slot tree attr_leaf link) used

module _ (v : Volume) (s : Stamp) (starts : List ℕ) (ns : List ProtoNode) (contents : List (List ℕ)) (runs : List Run) where
  -- which slot is wanted of which inode
  free_wanted : (j : ℕ) → 1 ≤ length ns → length ns + 2 ≤ j → slot_of_index v s starts ns contents runs j ≡ unused_slot (inode_at v starts j)
  free_wanted j some behind =
      ap (λ (t : Bool). cond t (system_slot v s (inode_at v starts 1)) (cond (j == 2) (system_slot v s (inode_at v starts 2)) (cond (nat_lt j (length ns + 2)) (slot_of_place v s starts ns contents runs (cond (j == 0) 0 (j - 2))) (unused_slot (inode_at v starts j)))))
      (ne_eqb j 1 (λ same. absurd (omega (arith, same, some, behind))))
      ∙ ap (λ (t : Bool). cond t (system_slot v s (inode_at v starts 2)) (cond (nat_lt j (length ns + 2)) (slot_of_place v s starts ns contents runs (cond (j == 0) 0 (j - 2))) (unused_slot (inode_at v starts j))))
      (ne_eqb j 2 (λ same. absurd (omega (arith, same, some, behind))))
      ∙ ap (λ (t : Bool). cond t (slot_of_place v s starts ns contents runs (cond (j == 0) 0 (j - 2))) (unused_slot (inode_at v starts j))) (le-ltb j (length ns + 2) behind)

  system_wanted : (j : ℕ) → 1 ≤ j → j < 3 → slot_of_index v s starts ns contents runs j ≡ system_slot v s (inode_at v starts j)
  system_wanted j low high = by_case (cases_lt j 2)
    where
      by_case : (j < 2) ⊎ (2 ≤ j) → slot_of_index v s starts ns contents runs j ≡ system_slot v s (inode_at v starts j)
      by_case (inl first) = let one : 1 ≡ j = omega (arith, first, low) in subst (λ (i : ℕ). slot_of_index v s starts ns contents runs i ≡ system_slot v s (inode_at v starts i)) one refl
      by_case (inr second) = let two : 2 ≡ j = omega (arith, second, high) in subst (λ (i : ℕ). slot_of_index v s starts ns contents runs i ≡ system_slot v s (inode_at v starts i)) two refl

  pub file_wanted : (k : ℕ) → k < length ns → slot_of_place v s starts ns contents runs k ≡ slot_of_index v s starts ns contents runs (index_of_place k)
  file_wanted k low = by_case (index_is k) (cases_eq k 0)
    where
      found : (j : ℕ) → j ≢ 1 → j ≢ 2 → j < length ns + 2 → k ≡ j - 2 → slot_of_place v s starts ns contents runs k ≡ slot_of_index v s starts ns contents runs j
      found j one two inside at =
          slot_is v s starts ns contents runs j k (owned_by (number_of v starts k) runs) (slot_of_place v s starts ns contents runs k) (ne_eqb j 1 one) (ne_eqb j 2 two) (lt-ltb j (length ns + 2) inside) at refl refl

      by_case : (index_of_place k ≡ 0) ⊎ (index_of_place k ≡ k + 2) → (k ≡ 0) ⊎ (k ≢ 0) → slot_of_place v s starts ns contents runs k ≡ slot_of_index v s starts ns contents runs (index_of_place k)
      by_case (inl none) (inl first) =
          found (index_of_place k) (λ same. absurd (omega (arith, none, same))) (λ same. absurd (omega (arith, none, same))) (omega (arith, none)) (omega (arith, none, first))
      by_case (inl none) (inr other) =
          let some : index_of_place k ≡ k + 2 = ap (λ (t : Bool). cond t 0 (k + 2)) (ne_eqb k 0 other) in absurd (omega (arith, none, some))
      by_case (inr some) (inl first) =
          let none : index_of_place k ≡ 0 = subst (λ (m : ℕ). index_of_place m ≡ 0) (sym first) refl in absurd (omega (arith, none, some))
      by_case (inr some) (inr other) =
          found (index_of_place k) (λ same. absurd (omega (arith, some, same))) (λ same. absurd (omega (arith, some, same, other))) (omega (arith, some, low)) (omega (arith, some))

  module _ (image : Image) (slots : HasFilledSlots v s starts ns contents runs image) where
    pub free_at : (j : ℕ) → 1 ≤ length ns → length ns + 2 ≤ j → j < 64 * length starts → reads_as v image (inode_at v starts j) ≡ Reads.Free
    unfolding reads_as
    free_at j some behind low =
        let slot = slots.each j low in
        free_reads v (inode_at v starts j) (slot_bytes v image (inode_at v starts j)) _ _ _
        (made_free v s.generation (inode_at v starts j) slot.old (slot_bytes v image (inode_at v starts j))
        (subst (λ (w : SlotWanted). IsMadeSlot v s.generation w slot.old (slot_bytes v image (inode_at v starts j))) (free_wanted j some behind) slot.made))

    pub system_at : (j : ℕ) → 1 ≤ j → j < 3 → j < 64 * length starts
        → reads_as v image (inode_at v starts j) ≡ Reads.File (plain_file (system_core v s (inode_at v starts j)) (slot_crc v image (inode_at v starts j)))
    unfolding reads_as
    system_at j low high inside =
        let slot = slots.each j inside in
        system_reads v s (inode_at v starts j) (slot_crc v image (inode_at v starts j)) (slot_bytes v image (inode_at v starts j)) _ _ _
        (made_system v s s.generation (inode_at v starts j) slot.old (slot_bytes v image (inode_at v starts j))
        (subst (λ (w : SlotWanted). IsMadeSlot v s.generation w slot.old (slot_bytes v image (inode_at v starts j))) (system_wanted j low high) slot.made))

    pub file_slot_is : (k : ℕ) → k < length ns → index_of_place k < 64 * length starts
        → IsForkedSlot v (core_at v s starts ns k) (filled_fork v s starts ns contents runs (slot_crc v image) k) (slot_bytes v image (number_of v starts k))
    file_slot_is k low inside =
        let slot = slots.each (index_of_place k) inside in
        made_forked v (core_at v s starts ns k) (fork_of_place v starts ns contents (extents_of_owner v (number_of v starts k) runs) k) s.generation slot.old (slot_bytes v image (number_of v starts k))
        (subst (λ (w : SlotWanted). IsMadeSlot v s.generation w slot.old (slot_bytes v image (number_of v starts k))) (sym (file_wanted k low)) slot.made)
