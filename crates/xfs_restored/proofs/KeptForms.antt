-- A kept directory that is not built anew reads as before: its short form stands in its slot, and its blocks are as they were.
use Rattle.std.proofs.Common.{◌≡◌, ℕ, Bool, true, false, ◌≤◌, if◌then◌else◌, inl, inr, List, length, Option, Some, None, refl, sym, ap, ◌∙◌, subst, arith}
use Rattle.std.specs.Prelude.{MatchOption}
use Rattle.std.specs.List.{flat_map}
use Rattle.std.specs.Option.{option_map}
use Rattle.std.proofs.lemmas.Bool.{eqb-true}
use Rattle.xfs_disk.specs.Blocks.{Image, bytes_of_block}
use Rattle.xfs_disk.specs.Lists.{is_among}
use Rattle.xfs_disk.specs.declared.stamp.Stamp.{Stamp}
use Rattle.xfs_word.specs.Field.{part_of}
use Rattle.xfs_geom.specs.Volumes.{Volume, volume_of}
use Rattle.xfs_geom.specs.declared.geometry.Geometry.{Geometry}
use Rattle.xfs_inode.specs.Named.{named_attr, named_link, named_top, slot_reads, tree_under}
use Rattle.xfs_inode.specs.Slots.{slot_read}
use Rattle.xfs_inode.specs.declared.files.FileRead.TheVariants as Reads
use Rattle.xfs_inode.specs.declared.reading.SlotRead.TheVariants as Read
use Rattle.xfs_inode.specs.Files.{is_core}
use Rattle.xfs_image.specs.Directories.{dir_of, entries_of, is_short}
use Rattle.xfs_image.specs.Slots.{cluster_inodes, reads_as, slot_bytes}
use Rattle.xfs_volume.specs.declared.cores.Core.{Core}
use Rattle.xfs_volume.specs.declared.files.FileRec.{FileRec}
use Rattle.xfs_views.specs.SameFiles.{HasSameClaims}
use Rattle.xfs_views.proofs.Members.{Member, contains, flat_member, member_flat, member_map}
use Rattle.xfs_views.proofs.FileTests.{core_says}
use Rattle.xfs_render.specs.Plans.{HoldsPlan}
use Rattle.xfs_render.specs.Slots.{DropsAttrs, IsMadeSlot, IsSlotDue, SetsLinks, wanted_of}
use Rattle.xfs_render.specs.declared.wanted_slots.SlotWanted.{SlotWanted}
use Rattle.xfs_rename.specs.xfs_request.Slots.{attrs_wanted, state_at}
use Rattle.xfs_rename.specs.xfs_scan.declared.evidence.Evidence.{Evidence}
use Rattle.xfs_rename.specs.xfs_rebuild.Names as Names
use Rattle.xfs_rename.specs.xfs_rebuild.declared.names_due.NamesDue.{NamesDue}
use Rattle.xfs_rename.specs.Lost.{lost_due}
use Rattle.xfs_rename.specs.Renames.{old_files, placed_forks, renamed_slots}
use Rattle.xfs_rename.specs.Settled.{settled, staying_file, without_data}
use Rattle.xfs_rename.specs.declared.planning.Renamed.{Renamed}
use Rattle.xfs_rename.specs.xfs_built.Directories.{BuiltRuns, with_runs}
use Rattle.xfs_restored.specs.RunForks.{fork_of_runs}
use Rattle.xfs_restored.proofs.DueSlots.{slots_due}
use Rattle.xfs_restored.proofs.HeldPlans.{others_stay, renamed_holds}
use Rattle.xfs_restored.proofs.Standing.{same_size}
use Rattle.xfs_restored.specs.DueFiles.{kept_inodes}
use Rattle.xfs_restored.proofs.Changes.{drops_same, links_forks}
use Rattle.xfs_restored.proofs.DirectoriesRead.{dir_same, entries_same}
use Rattle.xfs_restored.proofs.Forks.{HasSameFork}
use Rattle.xfs_restored.proofs.InKept.{kept_read}
use Rattle.xfs_restored.proofs.Readings.{attrs_have, bare_is, file_has}
use Rattle.xfs_restored.specs.Relinking.{IsRelinked, built_at}
use Rattle.xfs_restored.proofs.ClaimsStay.{claims_stay}
use Rattle.xfs_restored.proofs.PlainSlots.{AreParts, unforked_parts}
use Rattle.xfs_restored.proofs.LostInodes.{numbers_keep}
use Rattle.xfs_restored.proofs.WantedBuilt.{not_built, old_are}
use Rattle.xfs_restored.proofs.WantedCases.{kept_change, kept_wanted}
use Rattle.xfs_restored.proofs.WantedNumbers.{kept_inode, kept_linked, of_image}

-- a slot has the core of the file that it reads as, which keeps the rules
record HasCore (v : Volume) (slot : List ℕ) (f : FileRec) : Type 0 where
  in_use : slot_read v f.ino slot ≡ Read.InUse f.core
  keeps : is_core f.core ≡ true

whole_core : (v : Volume) (image : Image) (slot : List ℕ) (f : FileRec) → slot_reads v image f.ino slot ≡ Reads.File f → HasCore v slot f
whole_core v image slot f reads =
    let tree = tree_under v image f.ino (named_top v f.ino slot) in
    let leaf = option_map (bytes_of_block image) (named_attr v f.ino slot) in
    let link = option_map (bytes_of_block image) (named_link v f.ino slot) in
    let is = file_has v f.ino slot tree leaf link (Reads.File f) tt reads in
    let same : is.core ≡ f.core = ap (λ (x : FileRec). x.core) (attrs_have v f.ino slot tree leaf link is.core is.held f is.attrs).is in
    record { in_use = is.in_use ∙ ap (λ (c : Core). Read.InUse c) same; keeps = subst (λ (c : Core). is_core c ≡ true) same is.keeps }

bare_core : (v : Volume) (image : Image) (slot : List ℕ) (f : FileRec) → slot_reads v image f.ino slot ≡ Reads.FileWithoutAttrs f → HasCore v slot f
bare_core v image slot f reads =
    let tree = tree_under v image f.ino (named_top v f.ino slot) in
    let leaf = option_map (bytes_of_block image) (named_attr v f.ino slot) in
    let link = option_map (bytes_of_block image) (named_link v f.ino slot) in
    let is = file_has v f.ino slot tree leaf link (Reads.FileWithoutAttrs f) tt reads in
    let same : is.core ≡ f.core = ap (λ (x : FileRec). x.core) (bare_is v f.ino slot tree leaf link is.core is.held f is.attrs) in
    record { in_use = is.in_use ∙ ap (λ (c : Core). Read.InUse c) same; keeps = subst (λ (c : Core). is_core c ≡ true) same is.keeps }

-- forks that are the same one after the other
then_same : (forkoff : ℕ) (old bare new : List ℕ) → HasSameFork forkoff old bare → HasSameFork forkoff bare new → HasSameFork forkoff old new
then_same forkoff old bare new one two = record {
  number = λ a w low high. two.number a w low high ∙ one.number a w low high;
  part = λ a w low high. two.part a w low high ∙ one.part a w low high;
}

equal_same : (forkoff : ℕ) (old new : List ℕ) → new ≡ old → HasSameFork forkoff old new
equal_same forkoff old new same = subst (λ (slot : List ℕ). HasSameFork forkoff old slot) (sym same) (record { number = λ a w low high. refl; part = λ a w low high. refl })

dropped_same : (v : Volume) (f : FileRec) (attrs : Option ℕ) (old bare : List ℕ) → slot_read v f.ino old ≡ Read.InUse f.core
    → MatchOption attrs (bare ≡ old) (λ n. DropsAttrs v f.ino n old bare) → HasSameFork f.core.forkoff old bare
dropped_same v f None old bare in_use same = equal_same f.core.forkoff old bare same
dropped_same v f (Some n) old bare in_use drops = drops_same v f.ino n old bare drops f.core in_use

linked_same : (v : Volume) (ino forkoff : ℕ) (nlink : Option ℕ) (old new : List ℕ) → MatchOption nlink (new ≡ old) (λ n. SetsLinks v ino n old new) → HasSameFork forkoff old new
linked_same v ino forkoff None old new same = equal_same forkoff old new same
linked_same v ino forkoff (Some n) old new sets =
    let forks = links_forks v ino n old new sets in
    record { number = λ a w low high. forks.number a w low; part = λ a w low high. forks.part a w low }

parts_same : (v : Volume) (f : FileRec) (drop nlink : Option ℕ) (old new : List ℕ) → slot_read v f.ino old ≡ Read.InUse f.core → AreParts v f.ino drop None nlink old new → HasSameFork f.core.forkoff old new
parts_same v f drop nlink old new in_use parts =
    then_same f.core.forkoff old parts.bare new (dropped_same v f drop old parts.bare in_use parts.dropped)
    (then_same f.core.forkoff parts.bare parts.forked new (equal_same f.core.forkoff parts.bare parts.forked parts.data') (linked_same v f.ino f.core.forkoff nlink parts.forked new parts.linked))

module _ (g : Geometry) (sector : List ℕ) (s : Stamp) (image now : Image) (e : Evidence) (n : NamesDue) (r : Renamed) (has : IsRelinked g sector s image now e n r) where
  abbrev v : Volume
  v = volume_of g

  abbrev pub wants : List SlotWanted
  wants = renamed_slots g s n has.is.w (placed_forks g n has.is.w has.is.built has.is.placed)

  abbrev pub inodes : List ℕ
  inodes = flat_map (cluster_inodes v) (settled n (lost_due g n) has.is.w).clusters

  abbrev pub built : List BuiltRuns
  built = with_runs has.is.built has.is.placed.cuts has.is.placed.runs

  pub size : g.dblocks ≤ length now
  size =
      let enough = has.new.enough in
      let same = same_size g r.rebuilt image now has.new in
      omega (arith, enough, same)

  pub holds : HoldsPlan now has.is.left.plan
  holds = renamed_holds g sector s image n r has.is now has.new

  -- each slot is what is wanted of it
  slot_due : (ino : ℕ) → Member ino inodes → IsSlotDue v s.generation wants ino (slot_bytes v image ino) (slot_bytes v now ino)
  slot_due ino is = slots_due g sector s image now n r has.is holds size (others_stay g sector s image n r has.is now has.new) ino (contains ino inodes is)

  abbrev IsMadeOf : Option SlotWanted → ℕ → Type 0
  IsMadeOf o ino = MatchOption o (slot_bytes v now ino ≡ slot_bytes v image ino) (λ w. IsMadeSlot v s.generation w (slot_bytes v image ino) (slot_bytes v now ino))

  pub slot_made : (ino : ℕ) (o : Option SlotWanted) → Member ino inodes → wanted_of wants ino ≡ o → IsMadeOf o ino
  slot_made ino o is wanted = subst (λ (x : Option SlotWanted). IsMadeOf x ino) wanted (slot_due ino is)

  pub kept_among : (ino : ℕ) → Member ino (kept_inodes v has.on.kept) → Member ino inodes
  unfolding kept_inodes
  kept_among ino is =
      let at = flat_member (cluster_inodes v) ino has.on.kept.clusters is in
      let there : Member at.0 n.clusters = subst (λ (cs : List ℕ). Member at.0 cs) (sym has.due.clusters') at.1 in
      member_flat (cluster_inodes v) at.0 ino (settled n (lost_due g n) has.is.w).clusters (numbers_keep (lost_due g n).added at.0 n.clusters there) at.2

  -- a kept file that is not built anew
  module _ (f : FileRec) (is : Member f has.on.kept.files) (off : is_among has.is.w.rebuilt f.ino ≡ false) where
    core : HasCore v (slot_bytes v image f.ino) f
    unfolding reads_as
    core =
        elim (kept_read g image has.on.kept (of_image g sector s image now e n r has) f is).reads [
          | inl whole ↦ whole_core v image (slot_bytes v image f.ino) f whole
          | inr bare ↦ bare_core v image (slot_bytes v image f.ino) f bare
        ]

    fork_stays : HasSameFork f.core.forkoff (slot_bytes v image f.ino) (slot_bytes v now f.ino)
    fork_stays =
        let linked = kept_linked g sector s image now e n r has f is in
        let wanted = kept_wanted g sector s image now e n r has f linked.0 is linked.1 in
        let drop : Option ℕ = attrs_wanted f (state_at has.on.seen f.ino) in
        let none : built_at built f.ino ≡ None = not_built g sector s image now e n r has f.ino off in
        let due = slot_made f.ino (kept_change f.ino drop None wanted.nlink) (kept_among f.ino (kept_inode g sector s image now e n r has f is))
        (wanted.wanted' ∙ ap (λ (o : Option BuiltRuns). kept_change f.ino drop (option_map (fork_of_runs v (old_files n has.is.w)) o) wanted.nlink) none) in
        parts_same v f drop wanted.nlink (slot_bytes v image f.ino) (slot_bytes v now f.ino) core.in_use
        (unforked_parts v s.generation f.ino drop wanted.nlink (slot_bytes v image f.ino) (slot_bytes v now f.ino) due)

    form_stays : is_short f ≡ true → part_of (slot_bytes v now f.ino) 176 f.core.size ≡ part_of (slot_bytes v image f.ino) 176 f.core.size
    form_stays short =
        let fits = (core_says f.core core.keeps).fits (eqb-true f.core.format 1 short) in
        fork_stays.part 176 f.core.size (omega arith) (omega (arith, fits))

    claims : HasSameClaims v image now f
    claims =
        let linked : FileRec = Names.linked_file g.rootino has.on.kept f in
        let stays : FileRec = staying_file has.is.w.rebuilt linked in
        let before : Member stays (old_files n has.is.w) = subst (λ (fs : List FileRec). Member stays fs) (sym (old_are g sector s image now e n r has))
        (member_map (staying_file has.is.w.rebuilt) linked (Names.linked_files g.rootino has.on.kept) (member_map (Names.linked_file g.rootino has.on.kept) f has.on.kept.files is)) in
        subst (λ (t : Bool). HasSameClaims v image now (if t then without_data linked else linked)) off
        (claims_stay g sector s image n r has.is stays before now has.new)

    pub kept_entries_read : entries_of v now f ≡ entries_of v image f
    kept_entries_read = entries_same v image now f claims form_stays

    pub kept_dir_read : dir_of v now f ≡ dir_of v image f
    kept_dir_read = dir_same v image now f claims form_stays
