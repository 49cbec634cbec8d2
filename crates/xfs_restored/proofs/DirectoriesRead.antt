-- The directories of a rebuilt volume are the kept ones, and a root that is made anew.
use Rattle.std.proofs.Common.{◌≡◌, ℕ, zero, suc, Bool, true, false, ◌+◌, ◌<◌, inl, inr, ◌&&◌, if◌then◌else◌, List, [], ◌∷◌, ◌++◌, map, Option, is_some, refl, ap, ap₂, arith}
use Rattle.std.specs.List.{filter, find, flat_map, list_all, range_with_len}
use Rattle.std.proofs.lemmas.Bool.{eqb-true}
use Rattle.xfs_disk.specs.Blocks.{Image}
use Rattle.xfs_disk.specs.declared.stamp.Stamp.{Stamp}
use Rattle.xfs_word.specs.Field.{part_of}
use Rattle.xfs_word.specs.declared.extents.Extent.{Extent}
use Rattle.xfs_geom.specs.Groups.{block_of_address}
use Rattle.xfs_geom.specs.Volumes.{Volume, volume_of}
use Rattle.xfs_geom.specs.declared.geometry.Geometry.{Geometry}
use Rattle.xfs_dirdata.specs.Short.{ShortForm, short_of}
use Rattle.xfs_dirdata.specs.declared.records.EntryRec.{EntryRec}
use Rattle.xfs_dirindex.specs.Data.{is_parent_name}
use Rattle.xfs_dirindex.specs.Mapped.{mapped_block}
use Rattle.xfs_views.proofs.FileTests.{core_says}
use Rattle.xfs_volume.specs.declared.directories.DirRec.{DirRec}
use Rattle.xfs_volume.specs.declared.files.FileRec.{FileRec}
use Rattle.xfs_image.specs.Directories.{FileBlock, blocks_of_extent, data_blocks, dir_of, entries_in_block, entries_of, entries_of_form, entry_target, file_block_at, has_whole_form, is_beside_dots, is_own, is_short, is_whole, parent_of, parent_of_form, short_form}
use Rattle.xfs_image.specs.Slots.{slot_bytes}
use Rattle.xfs_views.specs.SameFiles.{HasSameClaims}
use Rattle.xfs_views.proofs.NamedClaims.{data_claimed}
use Rattle.xfs_views.proofs.Members.{Member}
use Rattle.xfs_salvage.specs.declared.found.Salvaged.{Salvaged}
use Rattle.xfs_rename.specs.xfs_request.declared.seen.SlotSeen.{SlotSeen}
use Rattle.xfs_restored.specs.Kept.{HasKept}
use Rattle.xfs_restored.proofs.RereadSlots.{claims_stay}
use Rattle.xfs_restored.proofs.SameForks.{file_core, fork_stays}

-- blocks that are the same one by one are the same
row_same : (f h : ℕ → FileBlock) (k n : ℕ) → ((i : ℕ) → i < k + n → f i ≡ h i) → map f (range_with_len k n) ≡ map h (range_with_len k n)
row_same f h k zero each = refl
row_same f h k (suc n) each =
    ap₂ (λ (b : FileBlock) (bs : List FileBlock). b ∷ bs) (each k (omega arith)) (row_same f h (k + 1) n (λ i low. each i (omega (arith, low))))

extents_same : (f h : Extent → List FileBlock) (es : List Extent) → ((e : Extent) → Member e es → f e ≡ h e) → flat_map f es ≡ flat_map h es
extents_same f h [] each = refl
extents_same f h (e ∷ es) each =
    ap₂ (λ (a b : List FileBlock). a ++ b) (each e (inl refl)) (extents_same f h es (λ x is. each x (inr is)))

-- a file whose blocks are the same, and whose short form stands in both slots
module _ (v : Volume) (image now : Image) (f : FileRec) (claimed : HasSameClaims v image now f)
    (form : is_short f ≡ true → part_of (slot_bytes v now f.ino) 176 f.core.size ≡ part_of (slot_bytes v image f.ino) 176 f.core.size) where
  block_same : (e : Extent) (i : ℕ) → Member e f.extents → i < e.count → file_block_at v now e i ≡ file_block_at v image e i
  block_same e i is few =
      ap (λ (bytes : List ℕ). let b : FileBlock = record { block = block_of_address v.agblocks v.agblklog e.start + i; mapped = mapped_block (e.offset + i) bytes } in b)
      (claimed (block_of_address v.agblocks v.agblklog e.start + i) (data_claimed v f e i is few))

  blocks_same : data_blocks v now f ≡ data_blocks v image f
  unfolding data_blocks
  blocks_same =
      extents_same (blocks_of_extent v now) (blocks_of_extent v image) f.extents
      (λ e is. row_same (file_block_at v now e) (file_block_at v image e) 0 e.count (λ i low. block_same e i is (omega (arith, low))))

  form_same : is_short f ≡ true → short_form v now f ≡ short_form v image f
  unfolding short_form
  form_same short = ap (short_of f.ino) (form short)

  -- what a directory has, by its form
  by_form : {X : Type 0} (of_form : Option ShortForm → X) (of_blocks : List FileBlock → X)
      → (if is_short f then of_form (short_form v now f) else of_blocks (data_blocks v now f)) ≡ (if is_short f then of_form (short_form v image f) else of_blocks (data_blocks v image f))
  by_form {X} of_form of_blocks = by_case (is_short f) refl
    where
      by_case : (t : Bool) → is_short f ≡ t
          → (if t then of_form (short_form v now f) else of_blocks (data_blocks v now f)) ≡ (if t then of_form (short_form v image f) else of_blocks (data_blocks v image f))
      by_case true short = ap of_form (form_same short)
      by_case false blocks = ap of_blocks blocks_same

  pub entries_same : entries_of v now f ≡ entries_of v image f
  unfolding entries_of
  entries_same = by_form entries_of_form (λ (blocks : List FileBlock). filter is_beside_dots (flat_map (entries_in_block v f.ino) blocks))

  parent_same : parent_of v now f ≡ parent_of v image f
  unfolding parent_of
  parent_same = by_form parent_of_form (λ (blocks : List FileBlock). entry_target (find (λ (e : EntryRec). is_parent_name e.name) (flat_map (entries_in_block v f.ino) blocks)))

  whole_same : is_whole v now f ≡ is_whole v image f
  unfolding is_whole
  whole_same = by_form is_some (λ (blocks : List FileBlock). has_whole_form f.ino f.core.size (map (λ (b : FileBlock). b.mapped) blocks) && list_all (is_own v f.ino) blocks)

  pub dir_same : dir_of v now f ≡ dir_of v image f
  dir_same = ap₂ (λ (parent : ℕ) (whole : Bool). let d : DirRec = record { ino = f.ino; parent = parent; whole = whole } in d) parent_same whole_same

module _ (g : Geometry) (s : Stamp) (image now : Image) (kept : Salvaged) (seen : List SlotSeen) (has : HasKept g s image now kept seen) where
  form_stays : (f : FileRec) → Member f kept.files → is_short f ≡ true
      → part_of (slot_bytes (volume_of g) now f.ino) 176 f.core.size ≡ part_of (slot_bytes (volume_of g) image f.ino) 176 f.core.size
  form_stays f is short =
      let core = file_core g s image now kept seen has f is in
      let fits = (core_says f.core core.keeps).fits (eqb-true f.core.format 1 short) in
      (fork_stays g s image now kept seen has f is).part 176 f.core.size (omega arith) (omega (arith, fits))

  pub kept_entries_same : (f : FileRec) → Member f kept.files → entries_of (volume_of g) now f ≡ entries_of (volume_of g) image f
  kept_entries_same f is = entries_same (volume_of g) image now f (claims_stay g s image now kept seen has f is) (form_stays f is)

  pub kept_dir_same : (f : FileRec) → Member f kept.files → dir_of (volume_of g) now f ≡ dir_of (volume_of g) image f
  kept_dir_same f is = dir_same (volume_of g) image now f (claims_stay g s image now kept seen has f is) (form_stays f is)
