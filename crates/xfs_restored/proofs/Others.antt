-- What slots without a kept file read as: free ones, freed ones, and those that are made anew.
use Rattle.std.proofs.Common.{◌≡◌, ℕ, Bool, true, false, not, cond, ◌+◌, ◌≤◌, inl, inr, ◌==◌, if◌then◌else◌, List, [], ◌∷◌, filter, Option, Some, None, refl, sym, ap, ◌∙◌, subst, arith}
use Rattle.std.specs.Prelude.{MatchOption}
use Rattle.std.proofs.lemmas.Bool.{eq-eqb, eqb-true, not-true, or_parts}
use Rattle.xfs_disk.specs.Blocks.{Image}
use Rattle.xfs_disk.specs.Lists.{is_among}
use Rattle.xfs_disk.specs.declared.stamp.Stamp.{Stamp}
use Rattle.xfs_geom.specs.Volumes.{Volume, volume_of}
use Rattle.xfs_geom.specs.declared.geometry.Geometry.{Geometry}
use Rattle.xfs_image.specs.Candidates.{candidates}
use Rattle.xfs_image.specs.Claims.{candidate_files}
use Rattle.xfs_image.specs.Clusters.{root_cluster}
use Rattle.xfs_image.specs.Slots.{cluster_inodes, reads_as, slot_bytes}
use Rattle.xfs_inode.specs.declared.files.FileRead.{FileRead}
use Rattle.xfs_inode.specs.declared.files.FileRead.TheVariants as Reads
use Rattle.xfs_naming.specs.Naming.{is_in_use}
use Rattle.xfs_volume.specs.declared.cores.Core.{Core}
use Rattle.xfs_volume.specs.declared.files.FileRec.{FileRec}
use Rattle.xfs_volume.specs.Rest.{no_rest}
use Rattle.xfs_views.proofs.FilesStay.{free_stays}
use Rattle.xfs_views.proofs.Members.{Member, any_member, filter_member, member_any, member_flat}
use Rattle.xfs_rename.proofs.xfs_made.Roots.{root_kept}
use Rattle.xfs_render.specs.Slots.{IsMadeSlot}
use Rattle.xfs_render.specs.declared.wanted_slots.SlotWanted.{SlotWanted}
use Rattle.xfs_salvage.specs.Kept.{fresh_among, own_inodes}
use Rattle.xfs_salvage.specs.declared.found.Salvaged.{Salvaged}
use Rattle.xfs_rename.specs.xfs_request.Fresh.{new_slot, new_root_core, new_root_slot, new_system_core, new_system_slot}
use Rattle.xfs_rename.specs.xfs_request.Slots.{bare_slot, freed_slot, is_free, state_at}
use Rattle.xfs_rename.specs.xfs_request.declared.seen.SlotSeen.{SlotSeen}
use Rattle.xfs_restored.specs.DueFiles.{fresh_file, kept_inodes, stated_crc}
use Rattle.xfs_restored.specs.Kept.{HasKept, state_read}
use Rattle.xfs_restored.proofs.Fresh.{freed_reads, made_root, root_made_reads, system_made_reads}
use Rattle.xfs_restored.proofs.InKept.{of_kept}
use Rattle.xfs_restored.proofs.RootInodes.{low_root, root_has}
use Rattle.xfs_restored.proofs.RereadSlots.{slot_due, state_known}
use Rattle.xfs_restored.proofs.Wanted.{other_wanted}

-- no file has a number where no file with it is found
pub none_found : (ino : ℕ) (fs : List FileRec) → is_in_use fs ino ≡ false → filter (λ (f : FileRec). f.ino == ino) fs ≡ []
none_found ino [] none = refl
none_found ino (f ∷ fs) none =
    let parts = or_parts (f.ino == ino) (is_in_use fs ino) none in
    ap (λ (t : Bool). cond t (f ∷ filter (λ (x : FileRec). x.ino == ino) fs) (filter (λ (x : FileRec). x.ino == ino) fs)) parts.0 ∙ none_found ino fs parts.1

is_free_read : (read : FileRead) → is_free (state_read read) ≡ true → read ≡ Reads.Free
is_free_read Reads.Free is = refl
is_free_read (Reads.File file) is = absurd cc
is_free_read (Reads.FileWithoutAttrs file) is = absurd cc
is_free_read (Reads.Unsupported what) is = absurd cc
is_free_read Reads.Unsound is = absurd cc

-- a file that is made anew, by its core
abbrev made_file : ℕ → Core → ℕ → FileRec
made_file ino core crc = record {
  ino = ino;
  core = record core { crc = crc };
  extents = [];
  rest = no_rest;
}

-- an inode that is made anew is the root or one of the two behind it
record IsOwn (root ino : ℕ) : Type 0 where
  low : root ≤ ino
  high : ino ≤ root + 2

own_of : (root ino : ℕ) → Member ino (own_inodes root) → IsOwn root ino
own_of root ino is =
    elim is [
      | inl first ↦ record { low = omega (arith, first); high = omega (arith, first) }
      | inr rest ↦ elim rest [
        | inl second ↦ record { low = omega (arith, second); high = omega (arith, second) }
        | inr last ↦ elim last [
          | inl third ↦ record { low = omega (arith, third); high = omega (arith, third) }
          | inr none ↦ absurd none
        ]
      ]
    ]

pub among : (ino : ℕ) (ns : List ℕ) → is_among ns ino ≡ true → Member ino ns
among ino ns is =
    let one = any_member (λ m. m == ino) ns is in
    subst (λ (n : ℕ). Member n ns) (eqb-true one.0 ino one.2) one.1

module _ (g : Geometry) (s : Stamp) (image now : Image) (kept : Salvaged) (seen : List SlotSeen) (has : HasKept g s image now kept seen) where
  fresh_is : (ino : ℕ) → Member ino kept.fresh → Member ino (own_inodes g.rootino) × (is_in_use kept.files ino ≡ false)
  fresh_is ino is =
      let of : kept.fresh ≡ fresh_among kept.files g.rootino = has.of.fresh' ∙ ap (λ (fs : List FileRec). fresh_among fs g.rootino) (sym has.of.files') in
      let from = filter_member (λ n. not (is_in_use kept.files n)) ino (own_inodes g.rootino) (subst (λ (ns : List ℕ). Member ino ns) of is) in
      (from.0, not-true (is_in_use kept.files ino) from.1)

  pub fresh_inode : (ino : ℕ) → Member ino kept.fresh → Member ino (kept_inodes (volume_of g) kept)
  unfolding kept_inodes
  fresh_inode ino is =
      let v : Volume = volume_of g in
      let own = own_of g.rootino ino (fresh_is ino is).0 in
      let held : is_among kept.clusters (root_cluster v) ≡ true =
      subst (λ (ks : List ℕ). is_among ks (root_cluster v) ≡ true) (sym has.of.clusters') (root_kept g (candidates v image) (candidate_files v image)) in
      member_flat (cluster_inodes v) (root_cluster v) ino kept.clusters (among (root_cluster v) kept.clusters held) (root_has g ino own.low own.high)

  pub fresh_unused : (ino : ℕ) → Member ino kept.fresh → is_in_use kept.files ino ≡ false
  fresh_unused ino is = (fresh_is ino is).1

  -- what is made of a slot without a kept file
  pub other_due : (ino : ℕ) → Member ino (kept_inodes (volume_of g) kept) → is_in_use kept.files ino ≡ false
      → MatchOption (bare_slot (volume_of g) s kept seen ino) (slot_bytes (volume_of g) now ino ≡ slot_bytes (volume_of g) image ino)
      (λ w. IsMadeSlot (volume_of g) s.generation w (slot_bytes (volume_of g) image ino) (slot_bytes (volume_of g) now ino))
  other_due ino is none =
      let v : Volume = volume_of g in
      subst (λ (o : Option SlotWanted). MatchOption o (slot_bytes v now ino ≡ slot_bytes v image ino) (λ w. IsMadeSlot v s.generation w (slot_bytes v image ino) (slot_bytes v now ino)))
      (other_wanted v s kept seen ino (none_found ino kept.files none)) (slot_due g s image now kept seen has ino is)

  -- it is free, where it is not made anew
  pub free_slot_reads : (ino : ℕ) → Member ino (kept_inodes (volume_of g) kept) → is_in_use kept.files ino ≡ false → is_among kept.fresh ino ≡ false
      → reads_as (volume_of g) now ino ≡ Reads.Free
  unfolding reads_as
  free_slot_reads ino is none old =
      let v : Volume = volume_of g in
      by_state (is_free (state_at seen ino)) refl
      (subst (λ (t : Bool). MatchOption (if t then Some (new_slot v s ino) else (if is_free (state_at seen ino) then None else Some (freed_slot ino))) (slot_bytes v now ino ≡ slot_bytes v image ino)
      (λ w. IsMadeSlot v s.generation w (slot_bytes v image ino) (slot_bytes v now ino))) old (other_due ino is none))
    where
      by_state : (t : Bool) → is_free (state_at seen ino) ≡ t
          → MatchOption (if t then None else Some (freed_slot ino)) (slot_bytes (volume_of g) now ino ≡ slot_bytes (volume_of g) image ino)
          (λ w. IsMadeSlot (volume_of g) s.generation w (slot_bytes (volume_of g) image ino) (slot_bytes (volume_of g) now ino))
          → reads_as (volume_of g) now ino ≡ Reads.Free
      by_state true free same =
          let v : Volume = volume_of g in
          let at = (of_kept g image kept has.of ino is).candidate in
          let state = state_known g s image now kept seen has ino at in
          free_stays v image now ino same (is_free_read (reads_as v image ino) (ap is_free (sym state) ∙ free))
      by_state false free made = freed_reads (volume_of g) now s.generation ino (slot_bytes (volume_of g) image ino) (slot_bytes (volume_of g) now ino) made

  -- a slot that is made anew
  new_is : (ino : ℕ) (t : Bool) → (ino == g.rootino) ≡ t
      → IsMadeSlot (volume_of g) s.generation (if t then new_root_slot (volume_of g) s else new_system_slot (volume_of g) s ino) (slot_bytes (volume_of g) image ino) (slot_bytes (volume_of g) now ino)
      → reads_as (volume_of g) now ino ≡ Reads.File (fresh_file (volume_of g) s (stated_crc (volume_of g) now) ino)
  unfolding reads_as
  new_is ino true root made =
      let v : Volume = volume_of g in
      let r : ℕ = g.rootino in
      let crc : ℕ = stated_crc v now r in
      let number : ino ≡ r = eqb-true ino r root in
      let at_root : IsMadeSlot v s.generation (new_root_slot v s) (slot_bytes v image ino) (slot_bytes v now r) =
      subst (λ (n : ℕ). IsMadeSlot v s.generation (new_root_slot v s) (slot_bytes v image ino) (slot_bytes v now n)) number made in
      ap (reads_as v now) number
      ∙ root_made_reads v s now (slot_bytes v now r) (made_root v s s.generation (slot_bytes v image ino) (slot_bytes v now r) (low_root g) at_root)
      ∙ ap (λ (t : Bool). Reads.File (made_file r (if t then new_root_core v s else new_system_core v s r) crc)) (sym (eq-eqb r r refl))
      ∙ ap (λ (n : ℕ). Reads.File (fresh_file v s (stated_crc v now) n)) (sym number)
  new_is ino false other made =
      let v : Volume = volume_of g in
      let crc : ℕ = stated_crc v now ino in
      system_made_reads v s now s.generation ino (slot_bytes v image ino) (slot_bytes v now ino) made
      ∙ ap (λ (t : Bool). Reads.File (made_file ino (if t then new_root_core v s else new_system_core v s ino) crc)) (sym other)

  pub fresh_made : (ino : ℕ) → Member ino kept.fresh → IsMadeSlot (volume_of g) s.generation (new_slot (volume_of g) s ino) (slot_bytes (volume_of g) image ino) (slot_bytes (volume_of g) now ino)
  fresh_made ino is =
      let v : Volume = volume_of g in
      let anew : is_among kept.fresh ino ≡ true = member_any (λ m. m == ino) ino kept.fresh is (eq-eqb ino ino refl) in
      subst (λ (t : Bool). MatchOption (if t then Some (new_slot v s ino) else (if is_free (state_at seen ino) then None else Some (freed_slot ino))) (slot_bytes v now ino ≡ slot_bytes v image ino)
      (λ w. IsMadeSlot v s.generation w (slot_bytes v image ino) (slot_bytes v now ino))) anew (other_due ino (fresh_inode ino is) (fresh_unused ino is))

  pub fresh_reads : (ino : ℕ) → Member ino kept.fresh → reads_as (volume_of g) now ino ≡ Reads.File (fresh_file (volume_of g) s (stated_crc (volume_of g) now) ino)
  fresh_reads ino is = new_is ino (ino == g.rootino) refl (fresh_made ino is)
