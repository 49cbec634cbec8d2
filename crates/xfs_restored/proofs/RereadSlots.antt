-- What the slots of kept clusters read as where they are what is wanted of them.
use Rattle.std.proofs.Common.{◌≡◌, ℕ, Bool, true, false, ◌-◌, ◌^◌, inl, inr, ◌==◌, ◌&&◌, if◌then◌else◌, List, Option, Some, None, refl, sym, ap, ◌∙◌, subst}
use Rattle.std.specs.Prelude.{MatchOption}
use Rattle.std.specs.Option.{option_map}
use Rattle.std.proofs.lemmas.Bool.{and_parts, eqb-true}
use Rattle.std.proofs.lemmas.List.Elements.{recursion_from_All}
use Rattle.xfs_disk.specs.Blocks.{Image, bytes_of_block}
use Rattle.xfs_disk.specs.declared.stamp.Stamp.{Stamp}
use Rattle.xfs_word.specs.Crc.{little_field_of}
use Rattle.xfs_geom.specs.Volumes.{Volume, volume_of}
use Rattle.xfs_geom.specs.declared.geometry.Geometry.{Geometry}
use Rattle.xfs_image.specs.Candidates.{candidates}
use Rattle.xfs_image.specs.Claims.{candidate_files, candidate_inodes}
use Rattle.xfs_image.specs.Slots.{reads_as, slot_bytes}
use Rattle.xfs_inode.specs.Cores.{stated_core}
use Rattle.xfs_inode.specs.Named.{named_attr, named_link, named_top, slot_reads, tree_under}
use Rattle.xfs_inode.specs.declared.files.FileRead.TheVariants as Reads
use Rattle.xfs_naming.specs.Naming.{NumbersAscend, numbers_of}
use Rattle.xfs_volume.specs.declared.cores.Core.{Core}
use Rattle.xfs_volume.specs.declared.files.FileRec.{FileRec}
use Rattle.xfs_views.specs.NamedBlocks.{blocks_named}
use Rattle.xfs_views.specs.SameFiles.{HasSameClaims}
use Rattle.xfs_views.proofs.FilesStay.{slot_claimed}
use Rattle.xfs_views.proofs.SlotsRead.{named_same}
use Rattle.xfs_views.proofs.Members.{Member, all_members, contains, member_all}
use Rattle.xfs_rename.proofs.xfs_made.Candidates.{image_can}
use Rattle.xfs_rename.proofs.xfs_made.Ordered.{files_of_volume_ascend}
use Rattle.xfs_render.specs.Slots.{DropsAttrs, IsMadeSlot, SetsLinks}
use Rattle.xfs_render.specs.declared.wanted_slots.SlotBase.TheVariants as Base
use Rattle.xfs_render.specs.declared.wanted_slots.SlotWanted.{SlotWanted}
use Rattle.xfs_salvage.specs.declared.found.Salvaged.{Salvaged}
use Rattle.xfs_rename.specs.xfs_request.Slots.{attrs_wanted, file_slot, is_bare, kept_slot, links_due, nlink_wanted, own_blocks, slot_wanted, state_at}
use Rattle.xfs_rename.specs.xfs_request.declared.seen.SlotSeen.{SlotSeen}
use Rattle.xfs_rename.specs.xfs_request.declared.seen.SlotState.{SlotState}
use Rattle.xfs_rename.specs.xfs_request.declared.seen.SlotState.TheVariants as State
use Rattle.xfs_restored.specs.DueFiles.{due_core, due_file, kept_inodes, linked_core, plain_core, stated_crc}
use Rattle.xfs_restored.specs.Kept.{HasKept, state_read}
use Rattle.xfs_restored.proofs.Changes.{drops_read, links_read, with_core}
use Rattle.xfs_restored.proofs.InKept.{file_inode, kept_read}
use Rattle.xfs_restored.proofs.Readings.{attrs_have, file_has, stated}
use Rattle.xfs_restored.proofs.Wanted.{file_wanted, one_alone, state_is, wanted_is}

-- the parts of a slot that stays: its attributes first, then its number of names
pub record AreChanges (v : Volume) (ino : ℕ) (attrs nlink : Option ℕ) (old new : List ℕ) : Type 0 where
  pub bare : List ℕ
  pub dropped : MatchOption attrs (bare ≡ old) (λ n. DropsAttrs v ino n old bare)
  pub linked : MatchOption nlink (new ≡ bare) (λ n. SetsLinks v ino n bare new)

made_changes : (v : Volume) (generation ino : ℕ) (attrs nlink : Option ℕ) (old new : List ℕ)
    → IsMadeSlot v generation (record { ino = ino; base = Base.Kept; drop_attrs = attrs; fork = None; nlink = nlink }) old new → AreChanges v ino attrs nlink old new
made_changes v generation ino attrs nlink old new made = record {
  bare = made.bare;
  dropped = subst (λ (b : List ℕ). MatchOption attrs (made.bare ≡ b) (λ n. DropsAttrs v ino n b made.bare)) made.base made.attrs;
  linked = subst (λ (b : List ℕ). MatchOption nlink (new ≡ b) (λ n. SetsLinks v ino n b new)) made.fork made.links;
}

changes : (v : Volume) (generation ino : ℕ) (attrs nlink : Option ℕ) (old new : List ℕ)
    → MatchOption (kept_slot ino attrs nlink) (new ≡ old) (λ w. IsMadeSlot v generation w old new) → AreChanges v ino attrs nlink old new
changes v generation ino None None old new same = record { bare = old; dropped = refl; linked = same }
changes v generation ino None (Some n) old new made = made_changes v generation ino None (Some n) old new made
changes v generation ino (Some a) nlink old new made = made_changes v generation ino (Some a) nlink old new made

-- a slot that reads as a file reads so from another image in which the blocks that the file claims hold the same bytes
same_reads : (v : Volume) (image now : Image) (ino : ℕ) (slot : List ℕ) (file : FileRec) → HasSameClaims v image now file → slot_reads v image ino slot ≡ Reads.File file
    → slot_reads v now ino slot ≡ Reads.File file
same_reads v image now ino slot file claims reads =
    named_same v image now ino slot
    (all_members (λ (block : ℕ). bytes_of_block now block ≡ bytes_of_block image block) (blocks_named v image ino slot)
    (λ block is. claims block (slot_claimed v image ino slot file reads block is)))
    ∙ reads

-- the core of a file is the one that its slot states
core_is : (v : Volume) (image : Image) (ino : ℕ) (slot : List ℕ) (file : FileRec) → slot_reads v image ino slot ≡ Reads.File file → stated_core slot ≡ file.core
core_is v image ino slot file reads =
    let tree = tree_under v image ino (named_top v ino slot) in
    let leaf = option_map (bytes_of_block image) (named_attr v ino slot) in
    let link = option_map (bytes_of_block image) (named_link v ino slot) in
    let is = file_has v ino slot tree leaf link (Reads.File file) tt reads in
    let has = attrs_have v ino slot tree leaf link is.core is.held file is.attrs in
    stated v ino slot is.core is.in_use ∙ ap (λ (f : FileRec). f.core) has.is

linked_same : (core : Core) (nlink crc : ℕ) → core.nlink ≡ nlink → core.next_unlinked ≡ 0xffff_ffff → core.crc ≡ crc → core ≡ linked_core core nlink crc
linked_same core nlink crc names next sum = λ i. record core { nlink = names i; next_unlinked = next i; crc = sum i }

-- a slot whose number of names is due reads as its file with that number
linked_reads : (v : Volume) (image : Image) (ino due : ℕ) (old new : List ℕ) (file : FileRec) → MatchOption (nlink_wanted file due) (new ≡ old) (λ n. SetsLinks v ino n old new)
    → slot_reads v image ino old ≡ Reads.File file → slot_reads v image ino new ≡ Reads.File (with_core file (linked_core file.core due (little_field_of new 100 4)))
linked_reads v image ino due old new file wanted reads = by_due (file.core.nlink == due && file.core.next_unlinked == 2 ^ 32 - 1) refl wanted
  where
    by_due : (t : Bool) → (file.core.nlink == due && file.core.next_unlinked == 2 ^ 32 - 1) ≡ t
        → MatchOption (if t then None else Some due) (new ≡ old) (λ n. SetsLinks v ino n old new)
        → slot_reads v image ino new ≡ Reads.File (with_core file (linked_core file.core due (little_field_of new 100 4)))
    by_due true is same =
        let parts = and_parts (file.core.nlink == due) (file.core.next_unlinked == 2 ^ 32 - 1) is in
        let as_new : slot_reads v image ino new ≡ Reads.File file = ap (slot_reads v image ino) same ∙ reads in
        let sum : file.core.crc ≡ little_field_of new 100 4 = ap (λ (c : Core). c.crc) (sym (core_is v image ino new file as_new)) in
        as_new ∙ ap (λ (c : Core). Reads.File (with_core file c))
        (linked_same file.core due (little_field_of new 100 4) (eqb-true file.core.nlink due parts.0) (eqb-true file.core.next_unlinked (2 ^ 32 - 1) parts.1) sum)
    by_due false is sets = links_read v ino due old new sets image file reads

module _ (g : Geometry) (s : Stamp) (image now : Image) (kept : Salvaged) (seen : List SlotSeen) (has : HasKept g s image now kept seen) where
  pub claims_stay : (f : FileRec) → Member f kept.files → HasSameClaims (volume_of g) image now f
  claims_stay f is = member_all (HasSameClaims (volume_of g) image now) f kept.files (recursion_from_All (HasSameClaims (volume_of g) image now) kept.files has.claims) is

  pub slot_due : (ino : ℕ) → Member ino (kept_inodes (volume_of g) kept)
      → MatchOption (slot_wanted (volume_of g) s kept seen ino) (slot_bytes (volume_of g) now ino ≡ slot_bytes (volume_of g) image ino)
      (λ w. IsMadeSlot (volume_of g) s.generation w (slot_bytes (volume_of g) image ino) (slot_bytes (volume_of g) now ino))
  slot_due ino is =
      let v : Volume = volume_of g in
      subst (λ (o : Option SlotWanted). MatchOption o (slot_bytes v now ino ≡ slot_bytes v image ino) (λ w. IsMadeSlot v s.generation w (slot_bytes v image ino) (slot_bytes v now ino)))
      (wanted_is v s kept seen ino is) (has.slots ino (contains ino (kept_inodes v kept) is))

  pub files_ascend : NumbersAscend 0 (numbers_of kept.files)
  files_ascend =
      let v : Volume = volume_of g in
      subst (λ (fs : List FileRec). NumbersAscend 0 (numbers_of fs)) (sym has.of.files') (files_of_volume_ascend v (candidates v image) (candidate_files v image) (image_can g image))

  pub state_known : (ino : ℕ) → Member ino (candidate_inodes (volume_of g) image) → state_at seen ino ≡ state_read (reads_as (volume_of g) image ino)
  state_known ino is = ap (λ (slots : List SlotSeen). state_at slots ino) has.seen' ∙ state_is (volume_of g) image ino is

  -- what is made of the slot of a kept file
  pub file_changes : (f : FileRec) → Member f kept.files
      → AreChanges (volume_of g) f.ino (attrs_wanted f (state_at seen f.ino)) (nlink_wanted f (links_due g.rootino kept.files kept.entries f))
      (slot_bytes (volume_of g) image f.ino) (slot_bytes (volume_of g) now f.ino)
  file_changes f is =
      let v : Volume = volume_of g in
      let old : List ℕ = slot_bytes v image f.ino in
      let new : List ℕ = slot_bytes v now f.ino in
      let wanted : slot_wanted v s kept seen f.ino ≡ file_slot v s kept seen f = file_wanted v s kept seen f (one_alone 0 f kept.files files_ascend is) in
      changes v s.generation f.ino (attrs_wanted f (state_at seen f.ino)) (nlink_wanted f (links_due g.rootino kept.files kept.entries f)) old new
      (subst (λ (o : Option SlotWanted). MatchOption o (new ≡ old) (λ w. IsMadeSlot v s.generation w old new)) wanted (slot_due f.ino (file_inode g image kept has.of f is)))

  abbrev links : FileRec → ℕ
  links f = links_due g.rootino kept.files kept.entries f

  -- a file with its attributes
  whole_reads : (f : FileRec) → Member f kept.files → reads_as (volume_of g) image f.ino ≡ Reads.File f
      → reads_as (volume_of g) now f.ino ≡ Reads.File (due_file g.rootino kept seen (stated_crc (volume_of g) now) f)
  unfolding reads_as
  whole_reads f is reads =
      let v : Volume = volume_of g in
      let old : List ℕ = slot_bytes v image f.ino in
      let new : List ℕ = slot_bytes v now f.ino in
      let read = kept_read g image kept has.of f is in
      let state : state_at seen f.ino ≡ State.Other = state_known f.ino read.inode ∙ ap state_read reads in
      let made = file_changes f is in
      let same : made.bare ≡ old = subst (λ (st : SlotState). MatchOption (attrs_wanted f st) (made.bare ≡ old) (λ n. DropsAttrs v f.ino n old made.bare)) state made.dropped in
      let here : slot_reads v now f.ino made.bare ≡ Reads.File f = ap (slot_reads v now f.ino) same ∙ same_reads v image now f.ino old f (claims_stay f is) reads in
      linked_reads v now f.ino (links f) made.bare new f made.linked here
      ∙ ap (λ (st : SlotState). Reads.File (with_core f (due_core (is_bare st) (own_blocks f) (links f) (little_field_of new 100 4) f.core))) (sym state)

  -- a file that lost its attributes
  bare_reads : (f : FileRec) → Member f kept.files → reads_as (volume_of g) image f.ino ≡ Reads.FileWithoutAttrs f
      → reads_as (volume_of g) now f.ino ≡ Reads.File (due_file g.rootino kept seen (stated_crc (volume_of g) now) f)
  unfolding reads_as
  bare_reads f is reads =
      let v : Volume = volume_of g in
      let old : List ℕ = slot_bytes v image f.ino in
      let new : List ℕ = slot_bytes v now f.ino in
      let read = kept_read g image kept has.of f is in
      let state : state_at seen f.ino ≡ State.Bare = state_known f.ino read.inode ∙ ap state_read reads in
      let made = file_changes f is in
      let drops : DropsAttrs v f.ino (own_blocks f) old made.bare =
      subst (λ (st : SlotState). MatchOption (attrs_wanted f st) (made.bare ≡ old) (λ n. DropsAttrs v f.ino n old made.bare)) state made.dropped in
      let plain : FileRec = with_core f (plain_core f.core (own_blocks f) (little_field_of made.bare 100 4)) in
      let before : slot_reads v image f.ino made.bare ≡ Reads.File plain = drops_read v f.ino (own_blocks f) old made.bare drops image f reads refl in
      let here : slot_reads v now f.ino made.bare ≡ Reads.File plain = same_reads v image now f.ino made.bare plain (claims_stay f is) before in
      linked_reads v now f.ino (links f) made.bare new plain made.linked here
      ∙ ap (λ (st : SlotState). Reads.File (with_core f (due_core (is_bare st) (own_blocks f) (links f) (little_field_of new 100 4) f.core))) (sym state)

  pub kept_file_reads : (f : FileRec) → Member f kept.files → reads_as (volume_of g) now f.ino ≡ Reads.File (due_file g.rootino kept seen (stated_crc (volume_of g) now) f)
  kept_file_reads f is =
      elim (kept_read g image kept has.of f is).reads [
        | inl whole ↦ whole_reads f is whole
        | inr bare ↦ bare_reads f is bare
      ]
