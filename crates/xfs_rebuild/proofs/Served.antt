-- What is wanted of slots can be made of bytes that pass the test: a slot that stays is sealed, one that is made anew has the core of a new
-- inode, and a fork fits.
use Rattle.std.proofs.Common.{◌≡◌, ℕ, Bool, true, false, ◌+◌, ◌%◌, ◌^◌, ◌≤◌, ◌<◌, inl, inr, ◌==◌, ◌||◌, nat_le, nat_lt, if◌then◌else◌, List, [], ◌∷◌, filter, length, get_or, Option, Some, None, MatchOption, refl, subst, ap, ◌∙◌, arith}
use Rattle.std.specs.Option.{is_some}
use Rattle.std.proofs.lemmas.Bool.{and_parts, leb-true, ltb-true}
use Rattle.xfs_disk.specs.Blocks.{Image}
use Rattle.xfs_disk.specs.Lists.{is_among}
use Rattle.xfs_disk.specs.declared.stamp.Stamp.{Stamp}
use Rattle.xfs_word.specs.Field.{field_of}
use Rattle.xfs_word.specs.Seal.{is_sealed}
use Rattle.xfs_geom.specs.Conversions.{inode_of}
use Rattle.xfs_geom.specs.Volumes.{Volume}
use Rattle.xfs_image.specs.Slots.{cluster_blocks, inodes_of_block}
use Rattle.xfs_inode.specs.Slots.{fork_bytes, slot_seal}
use Rattle.xfs_inodebuild.specs.declared.forks.ForkWanted.{ForkWanted}
use Rattle.xfs_salvage.proofs.xfs_views.Members.{Member, flat_member}
use Rattle.xfs_render.specs.Clusters.{CanCluster, slot_in}
use Rattle.xfs_render.specs.Rendering.{is_head}
use Rattle.xfs_render.specs.Slots.{CanBase, CanFork, CanMake, IsFreshCore, forkoff_of, wanted_of}
use Rattle.xfs_render.specs.declared.wanted_slots.SlotBase.{SlotBase}
use Rattle.xfs_render.specs.declared.wanted_slots.SlotBase.TheVariants as Base
use Rattle.xfs_render.specs.declared.wanted_slots.SlotWanted.{SlotWanted}
use Rattle.xfs_volume.specs.declared.files.FileRec.{FileRec}
use Rattle.xfs_salvage.specs.declared.found.Salvaged.{Salvaged}
use Rattle.xfs_request.specs.Fresh.{new_root_core, new_root_slot, new_slot, new_system_core, new_system_slot}
use Rattle.xfs_request.specs.Slots.{as_list, attrs_wanted, bare_slot, block_slots, cluster_slots, freed_slot, is_free, kept_slot, links_due, nlink_wanted, slot_listed, slot_of, slot_wanted, state_at, wanted_slots}
use Rattle.xfs_request.specs.declared.seen.SlotSeen.{SlotSeen}
use Rattle.xfs_made.proofs.Spaced.{IsOf, wanted_of_ino}
use Rattle.xfs_rebuild.specs.Changes.{CanChange, CanChangeAll, can_base, can_fork, can_make}

-- what is made anew has the core of a new inode
abbrev pub IsMadeBase : Volume → ℕ → SlotBase → Type 0
IsMadeBase v ino Base.Kept = Unit {0}
IsMadeBase v ino Base.Free = Unit {0}
IsMadeBase v ino (Base.Fresh core) = IsFreshCore v ino core

abbrev IsMade : Volume → Option SlotWanted → Type 0
IsMade v wanted = MatchOption wanted (Unit {0}) (λ w. IsMadeBase v w.ino w.base)

-- bytes that pass
base_serves : (v : Volume) (ino : ℕ) (base : SlotBase) (old : List ℕ) → IsMadeBase v ino base → can_base v ino base old ≡ true → CanBase v ino base old × (forkoff_of base old ≤ 41)
base_serves v ino Base.Kept old made can =
    let parts = and_parts (is_sealed (slot_seal v ino) old) (nat_le (field_of old 82 1) 41) can in
    (parts.0, leb-true (field_of old 82 1) 41 parts.1)
base_serves v ino Base.Free old made can = (tt, omega arith)
base_serves v ino (Base.Fresh core) old made can = (made, omega arith)

fork_serves : (forkoff : ℕ) (fork : Option ForkWanted) → can_fork forkoff fork ≡ true → MatchOption fork (Unit {0}) (CanFork forkoff)
fork_serves forkoff None can = tt
fork_serves forkoff (Some fork) can =
    let parts = and_parts (nat_lt fork.nextents (2 ^ 32)) (nat_le (length fork.bytes) (fork_bytes forkoff)) can in
    record { few = ltb-true fork.nextents (2 ^ 32) parts.0; short = leb-true (length fork.bytes) (fork_bytes forkoff) parts.1 }

wanted_serves : (v : Volume) (w : SlotWanted) (old : List ℕ) → IsMadeBase v w.ino w.base → can_make v old (Some w) ≡ true → CanMake v w old
wanted_serves v w old made can =
    let parts = and_parts (can_base v w.ino w.base old) (can_fork (forkoff_of w.base old) w.fork) can in
    let base = base_serves v w.ino w.base old made parts.0 in
    record { base = base.0; forkoff = base.1; fork = fork_serves (forkoff_of w.base old) w.fork parts.1 }

-- what is wanted of the slot of a number is that of its inode
found_wanted : (ws : List SlotWanted) (ino : ℕ) (w : SlotWanted) → wanted_of ws ino ≡ Some w → Member w ws
found_wanted [] ino w is = absurd cc
found_wanted (x ∷ xs) ino w is = by_case (x.ino == ino) is (found_wanted xs ino w)
  where
    by_case : (t : Bool) → (if t then Some x else wanted_of xs ino) ≡ Some w → (wanted_of xs ino ≡ Some w → Member w xs) → Member w (x ∷ xs)
    by_case true one rest = let same : x ≡ w = cc in inl same
    by_case false other rest = inr (rest other)

module _ (v : Volume) (slots : List SlotWanted) (made : (w : SlotWanted) → Member w slots → IsMadeBase v w.ino w.base) where
  block_serves : (number : ℕ) (block : List ℕ) → CanChange v slots number block → CanCluster v slots number block
  block_serves number block can = record { each = λ k few. by_wanted k (wanted_of slots (inode_of v number k)) refl (can.each k few) }
    where
      by_wanted : (k : ℕ) (wanted : Option SlotWanted) → wanted_of slots (inode_of v number k) ≡ wanted
          → can_make v (slot_in block k) wanted ≡ true → MatchOption wanted (Unit {0}) (λ w. CanMake v w (slot_in block k))
      by_wanted k None is can = tt
      by_wanted k (Some w) is can = wanted_serves v w (slot_in block k) (made w (found_wanted slots (inode_of v number k) w is)) can

  -- whatever is wanted of slots, where what is made anew has the core of a new inode
  pub changes_serve : (places : List ℕ) (old : Image) → CanChangeAll v slots places old
      → (i : ℕ) → i < length places → is_head v (get_or places i 0) ≡ false → CanCluster v slots (get_or places i 0) (get_or old i [])
  changes_serve places old can i low inner = block_serves (get_or places i 0) (get_or old i []) (can.all i low inner)

-- what is asked of slots
kept_made : (v : Volume) (ino : ℕ) (attrs nlink : Option ℕ) → IsMade v (kept_slot ino attrs nlink)
kept_made v ino attrs nlink = by_case (is_some attrs || is_some nlink)
  where
    by_case : (t : Bool) → IsMade v (if t then Some (record { ino = ino; base = Base.Kept; drop_attrs = attrs; fork = None; nlink = nlink }) else None)
    by_case true = tt
    by_case false = tt

root_fresh : (v : Volume) (s : Stamp) → IsFreshCore v v.rootino (new_root_core v s)
root_fresh v s = record { number = refl; magic = refl; version = refl; used = omega arith; uuid = refl; lsn = refl; no_attributes = refl; plain_data = refl; plain = refl }

system_fresh : (v : Volume) (s : Stamp) (ino : ℕ) → IsFreshCore v ino (new_system_core v s ino)
system_fresh v s ino = record { number = refl; magic = refl; version = refl; used = omega arith; uuid = refl; lsn = refl; no_attributes = refl; plain_data = by_case (ino == v.rootino + 1); plain = refl }
  where
    by_case : (t : Bool) → (if t then 4 else 0) % 2 ≡ 0
    by_case true = refl
    by_case false = refl

fresh_made : (v : Volume) (s : Stamp) (ino : ℕ) → IsMade v (Some (new_slot v s ino))
fresh_made v s ino = by_case (ino == v.rootino)
  where
    by_case : (t : Bool) → IsMade v (Some (if t then new_root_slot v s else new_system_slot v s ino))
    by_case true = root_fresh v s
    by_case false = system_fresh v s ino

module _ (v : Volume) (s : Stamp) (kept : Salvaged) (slots : List SlotSeen) where
  bare_made : (ino : ℕ) → IsMade v (bare_slot v s kept slots ino)
  bare_made ino = by_fresh (is_among kept.fresh ino)
    where
      by_free : (t : Bool) → IsMade v (if t then None else Some (freed_slot ino))
      by_free true = tt
      by_free false = tt

      by_fresh : (t : Bool) → IsMade v (if t then Some (new_slot v s ino) else (if is_free (state_at slots ino) then None else Some (freed_slot ino)))
      by_fresh true = fresh_made v s ino
      by_fresh false = by_free (is_free (state_at slots ino))

  of_files : (ino : ℕ) (fs : List FileRec) → IsMade v (slot_of v s kept slots ino fs)
  of_files ino [] = bare_made ino
  of_files ino (f ∷ fs) = kept_made v f.ino (attrs_wanted f (state_at slots f.ino)) (nlink_wanted f (links_due v.rootino kept.files kept.entries f))

  slot_made : (ino : ℕ) → IsMade v (slot_wanted v s kept slots ino)
  unfolding slot_wanted
  slot_made ino = of_files ino (filter (λ (f : FileRec). f.ino == ino) kept.files)

  as_listed : (w : SlotWanted) (wanted : Option SlotWanted) → Member w (as_list wanted) → wanted ≡ Some w
  as_listed w None is = absurd is
  as_listed w (Some x) is = elim is [ inl same ↦ ap Some same | inr none ↦ absurd none ]

  made_by : (w : SlotWanted) → Member w (wanted_slots v s kept slots) → slot_wanted v s kept slots w.ino ≡ Some w
  unfolding wanted_slots cluster_slots block_slots
  made_by w is =
      let cluster = flat_member (cluster_slots v s kept slots) w kept.clusters is in
      let block = flat_member (block_slots v s kept slots) w (cluster_blocks cluster.0) cluster.2 in
      let slot = flat_member (slot_listed v s kept slots) w (inodes_of_block v block.0) block.2 in
      let wanted : slot_wanted v s kept slots slot.0 ≡ Some w = as_listed w (slot_wanted v s kept slots slot.0) slot.2 in
      let number : w.ino ≡ slot.0 = subst (IsOf slot.0) wanted (wanted_of_ino v s kept slots slot.0) in
      ap (slot_wanted v s kept slots) number ∙ wanted

  pub slots_made : (w : SlotWanted) → Member w (wanted_slots v s kept slots) → IsMadeBase v w.ino w.base
  slots_made w is = subst (IsMade v) (made_by w is) (slot_made w.ino)

  pub slots_serve : (places : List ℕ) (old : Image) → CanChangeAll v (wanted_slots v s kept slots) places old
      → (i : ℕ) → i < length places → is_head v (get_or places i 0) ≡ false → CanCluster v (wanted_slots v s kept slots) (get_or places i 0) (get_or old i [])
  slots_serve = changes_serve v (wanted_slots v s kept slots) slots_made
