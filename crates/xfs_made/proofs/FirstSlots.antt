-- What the slots of the first chunk read as by themselves.
use Rattle.std.proofs.Common.{◌≡◌, ℕ, ◌+◌, ◌-◌, ◌*◌, ◌/◌, ◌%◌, ◌^◌, ◌≤◌, ◌<◌, Bool, true, false, ◌&&◌, List, [], Some, None, refl, sym, ap, ◌∙◌, subst, arith}
use Rattle.std.proofs.Math.Nat.{mod-eq_of_lt, div-eq_of_lt}
use Rattle.std.proofs.lemmas.Bool.{lt-ltb}
use Rattle.std.specs.Prelude.{if◌then◌else◌}
use Rattle.xfs_word.specs.Crc.{little_field_of}
use Rattle.xfs_word.specs.Field.{part_of}
use Rattle.xfs_disk.specs.Blocks.{Image}
use Rattle.xfs_disk.specs.declared.stamp.Stamp.{Stamp}
use Rattle.xfs_dirdata.specs.Short.{ShortForm, short_of}
use Rattle.xfs_geom.specs.Conversions.{block_at, group_length, slot_at, with_slot}
use Rattle.xfs_geom.specs.Shape.{HasGroups, HasAddresses}
use Rattle.xfs_geom.specs.Volumes.{Volume}
use Rattle.xfs_inode.specs.Cores.{stated_core}
use Rattle.xfs_inode.specs.Slots.{slot_read}
use Rattle.xfs_render.specs.xfs_inodebuild.declared.forks.ForkWanted.{ForkWanted}
use Rattle.xfs_inode.specs.declared.reading.SlotRead.TheVariants as Read
use Rattle.xfs_volume.specs.declared.cores.Core.{Core}
use Rattle.xfs_image.specs.Slots.{slot_bytes}
use Rattle.xfs_render.specs.Slots.{IsFreeSlot, IsFreshSlot, IsMadeSlot, SetsFork}
use Rattle.xfs_render.specs.declared.wanted_slots.SlotBase.TheVariants as Base
use Rattle.xfs_render.specs.declared.wanted_slots.SlotWanted.{SlotWanted}
use Rattle.xfs_empty.specs.Inodes.{IsRootFork, IsRootSlot, unused_slot, root_core, system_core, system_slot}
use Rattle.xfs_empty.proofs.Chunk.{first_length}
use Rattle.xfs_made.specs.Files.{HasFirstSlot, HasFirstSlots}

-- the first blocks of the first group hold eight inodes each
chosen : (a b : Bool) (x y k : ℕ) → a ≡ true → b ≡ true → x ≡ y → with_slot k (if a && b then Some x else None) ≡ Some (y, k)
chosen true true x y k p q e = ap (λ (n : ℕ). with_slot k (Some n)) e
chosen true false x y k p q e = cc
chosen false b x y k p q e = cc

pub slot_is : (v : Volume) (block k ino : ℕ) → HasGroups v.dblocks v.agblocks v.agcount → HasAddresses v.agblocks v.agblklog → block < 1024 → k < 8
    → ino ≡ 8 * block + k → slot_at v ino ≡ Some (block, k)
unfolding slot_at block_at
slot_is v block k ino groups addresses few inside at =
    let here : ino / 8 ≡ block = omega (arith, at, inside) in
    let slot : ino % 8 ≡ k = omega (arith, at, inside) in
    let short : block < 2 ^ v.agblklog = omega (arith, groups.large, addresses.enough, few) in
    let group : block / 2 ^ v.agblklog ≡ 0 = div-eq_of_lt short in
    let rest : block % 2 ^ v.agblklog ≡ block = mod-eq_of_lt short in
    let long : 1024 ≤ group_length v 0 = first_length v groups in
    rw (here, slot, group, rest)
    (chosen _ _ (0 * v.agblocks + block) block k (lt-ltb 0 v.agcount (omega (arith, groups.two))) (lt-ltb block (group_length v 0) (omega (arith, long, few)))
    (omega arith))

-- a free slot
made_free : (v : Volume) (generation ino : ℕ) (old new : List ℕ) → IsMadeSlot v generation (unused_slot ino) old new → IsFreeSlot v ino generation new
made_free v generation ino old new made =
    let same : new ≡ made.based = made.links ∙ (made.fork ∙ made.attrs) in
    subst (λ (slot : List ℕ). IsFreeSlot v ino generation slot) (sym same) made.base

-- the slot of a system inode
made_system : (v : Volume) (s : Stamp) (generation ino : ℕ) (old new : List ℕ) → IsMadeSlot v generation (system_slot v s ino) old new
    → IsFreshSlot v (system_core v s ino) new
made_system v s generation ino old new made =
    let same : new ≡ made.based = made.links ∙ (made.fork ∙ made.attrs) in
    subst (λ (slot : List ℕ). IsFreshSlot v (system_core v s ino) slot) (sym same) made.base

-- what the short form of the root states
abbrev pub empty_form : ShortForm
empty_form = record { parent = 128; entries = [] }

-- the slot of the root
pub record IsRootMade (v : Volume) (s : Stamp) (slot : List ℕ) : Type 0 where
  pub read : slot_read v 128 slot ≡ Read.InUse (record (root_core v s) { crc = little_field_of slot 100 4 })
  pub stated : stated_core slot ≡ record (root_core v s) { crc = little_field_of slot 100 4 }
  pub form : short_of 128 (part_of slot 176 6) ≡ Some empty_form

abbrev with_fork : Core → ℕ → ℕ → ℕ → ℕ → ℕ → Core
with_fork core format size nblocks nextents crc =
    record core { format = format; size = size; nblocks = nblocks; nextents = nextents; crc = crc }

abbrev with_crc : Core → ℕ → Core
with_crc core crc = record core { crc = crc }

same_core : (a b : Core) (format size nblocks nextents crc : ℕ) → a ≡ b → format ≡ 1 → size ≡ 6 → nblocks ≡ 0 → nextents ≡ 0
    → with_fork a format size nblocks nextents crc ≡ with_fork b 1 6 0 0 crc
same_core a b format size nblocks nextents crc e f g h i = rw (e, f, g, h, i) refl

root_stated : (v : Volume) (s : Stamp) (fork : ForkWanted) (old new : List ℕ) → IsRootFork fork → IsFreshSlot v (root_core v s) old
    → SetsFork v 128 fork old new → stated_core new ≡ with_crc (root_core v s) (little_field_of new 100 4)
root_stated v s fork old new root fresh sets =
    sets.stated
    ∙ same_core (stated_core old) (with_crc (root_core v s) (little_field_of old 100 4)) fork.format fork.size fork.nblocks fork.nextents
    (little_field_of new 100 4) fresh.stated root.format root.size root.nblocks root.nextents

root_form : (v : Volume) (fork : ForkWanted) (old new : List ℕ) → IsRootFork fork → SetsFork v 128 fork old new
    → short_of 128 (part_of new 176 6) ≡ Some empty_form
root_form v fork old new root sets =
    let bytes : part_of new 176 6 ≡ fork.bytes = ap (λ (n : ℕ). part_of new 176 n) (sym root.bytes) ∙ sets.put in
    ap (short_of 128) bytes ∙ root.form 128

root_set : (v : Volume) (s : Stamp) (fork : ForkWanted) (old new : List ℕ) → IsRootFork fork → IsFreshSlot v (root_core v s) old
    → SetsFork v 128 fork old new → IsRootMade v s new
root_set v s fork old new root fresh sets =
    let stated = root_stated v s fork old new root fresh sets in
    record {
      read =
          sets.read (with_crc (root_core v s) (little_field_of old 100 4)) fresh.read
          ∙ ap (λ (core : Core). Read.InUse core) stated;
      stated = stated;
      form = root_form v fork old new root sets;
    }

made_root : (v : Volume) (s : Stamp) (generation : ℕ) (w : SlotWanted) (old new : List ℕ) → IsRootSlot v s w → IsMadeSlot v generation w old new
    → IsRootMade v s new
made_root v s generation w old new root made = with_parts (subst (λ (x : SlotWanted). IsMadeSlot v generation x old new) root.is made)
  where
    with_parts : IsMadeSlot v generation (record { ino = 128; base = Base.Fresh (root_core v s); drop_attrs = None; fork = Some root.fork; nlink = None }) old new
        → IsRootMade v s new
    with_parts parts =
        let fresh : IsFreshSlot v (root_core v s) parts.bare =
        subst (λ (slot : List ℕ). IsFreshSlot v (root_core v s) slot) (sym parts.attrs) parts.base in
        let sets : SetsFork v 128 root.fork parts.bare new =
        subst (λ (slot : List ℕ). SetsFork v 128 root.fork parts.bare slot) (sym parts.links) parts.fork in
        root_set v s root.fork parts.bare new root.root fresh sets

-- the same of the slots of an image
pub free_slot_is : (v : Volume) (s : Stamp) (image : Image) (ino : ℕ) → 131 ≤ ino → HasFirstSlot v s image ino
    → IsFreeSlot v ino s.generation (slot_bytes v image ino)
free_slot_is v s image ino free slot =
    made_free v s.generation ino slot.old (slot_bytes v image ino)
    (subst (λ (w : SlotWanted). IsMadeSlot v s.generation w slot.old (slot_bytes v image ino)) (slot.first.free free) slot.made)

pub system_slot_is : (v : Volume) (s : Stamp) (image : Image) (ino : ℕ) → 129 ≤ ino → ino < 131 → HasFirstSlot v s image ino
    → IsFreshSlot v (system_core v s ino) (slot_bytes v image ino)
system_slot_is v s image ino low high slot =
    made_system v s s.generation ino slot.old (slot_bytes v image ino)
    (subst (λ (w : SlotWanted). IsMadeSlot v s.generation w slot.old (slot_bytes v image ino)) (slot.first.system low high) slot.made)

pub root_slot_is : (v : Volume) (s : Stamp) (image : Image) (ino : ℕ) → ino ≡ 128 → HasFirstSlot v s image ino
    → IsRootMade v s (slot_bytes v image ino)
root_slot_is v s image ino root slot =
    made_root v s s.generation slot.wanted slot.old (slot_bytes v image ino) (slot.first.root root) slot.made

-- a slot of the chunk, by the number of its inode
pub slot_of : (v : Volume) (s : Stamp) (image : Image) (ino : ℕ) → 128 ≤ ino → ino < 192 → HasFirstSlots v s image → HasFirstSlot v s image ino
slot_of v s image ino low high slots =
    let at : 128 + (ino - 128) ≡ ino = omega (arith, low) in
    subst (λ (n : ℕ). HasFirstSlot v s image n) at (slots.each (ino - 128) (omega (arith, low, high)))
