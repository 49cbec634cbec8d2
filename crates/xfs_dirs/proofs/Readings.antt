-- What is gathered of a directory is what it reads as.
use Rattle.std.proofs.Common.{◌≡◌, ℕ, Bool, true, false, ◌&&◌, if◌then◌else◌, List, [], map, filter, Option, Some, None, option_map, is_some, unwrap_or, refl, sym, ap, ◌∙◌}
use Rattle.std.specs.List.{find, list_all}
use Rattle.xfs_word.specs.Field.{part_of}
use Rattle.xfs_word.specs.declared.extents.Extent.{Extent}
use Rattle.xfs_disk.specs.Blocks.{Image}
use Rattle.xfs_geom.specs.Volumes.{Volume}
use Rattle.xfs_dirdata.specs.Short.{short_of}
use Rattle.xfs_dirdata.specs.declared.records.EntryRec.{EntryRec}
use Rattle.xfs_dirindex.specs.Data.{is_parent_name}
use Rattle.xfs_dirindex.specs.Mapped.{Mapped, mapped}
use Rattle.xfs_dirindex.specs.declared.seen.DirSeen.{DirSeen}
use Rattle.xfs_volume.specs.declared.files.FileRec.{FileRec}
use Rattle.xfs_image.specs.Directories.{block_entries, data_blocks, entries_of, entries_of_form, has_whole_form, is_beside_dots, is_own, is_short, is_whole, mapped_blocks, parent_of, parent_of_form, short_form, entry_target}
use Rattle.xfs_image.specs.Slots.{slot_bytes}
use Rattle.xfs_dirs.specs.declared.gathered.Gathered.{Gathered}
use Rattle.xfs_dirs.specs.declared.gathered.KeptBlocks.{KeptBlocks}
use Rattle.xfs_dirs.specs.declared.gathered.KeptBlock.{KeptBlock}
use Rattle.xfs_dirs.specs.Gathered.{Found, blocks_in_extents, found_of, is_whole_kept, mapped_of_kept, mapped_of, found_nothing, with_file_blocks}
use Rattle.xfs_dirs.proofs.Order.{all_mapped}
use Rattle.xfs_dirs.proofs.Taken.{entries_taken, kept_all, kept_taken, parent_taken}

-- blocks as they are checked are those that are kept
pub seen_whole : (dir size : ℕ) (kept : Option KeptBlocks) (k : KeptBlocks) (ks : List KeptBlock) (seen : DirSeen) → kept ≡ Some k → ks ≡ k.blocks.items
    → seen.dir ≡ dir → seen.size ≡ size
    → seen.offsets.items ≡ map (λ (b : KeptBlock). b.offset) ks → seen.blocks ≡ map (λ (b : KeptBlock). b.bytes) ks
    → has_whole_form seen.dir seen.size (mapped seen.offsets.items seen.blocks) ≡ is_whole_kept dir size (mapped_of_kept kept)
seen_whole dir size kept k ks seen is given own long offsets blocks =
    let ms : mapped seen.offsets.items seen.blocks ≡ map mapped_of k.blocks.items =
    ap (λ os. mapped os seen.blocks) offsets ∙ ap (mapped (map (λ (b : KeptBlock). b.offset) ks)) blocks ∙ all_mapped ks
    ∙ ap (λ (xs : List KeptBlock). map mapped_of xs) given in
    ap (λ d. has_whole_form d seen.size (mapped seen.offsets.items seen.blocks)) own
    ∙ ap (λ s. has_whole_form dir s (mapped seen.offsets.items seen.blocks)) long
    ∙ ap (has_whole_form dir size) ms
    ∙ ap (λ o. is_whole_kept dir size (mapped_of_kept o)) (sym is)

-- the short form
module _ (v : Volume) (image : Image) (f : FileRec) (slot : List ℕ) (short : is_short f ≡ true) (held : slot_bytes v image f.ino ≡ slot) where
  form_held : short_of f.ino (part_of slot 176 f.core.size) ≡ short_form v image f
  unfolding short_form
  form_held = ap (λ s. short_of f.ino (part_of s 176 f.core.size)) (sym held)

  pub short_entries : entries_of_form (short_of f.ino (part_of slot 176 f.core.size)) ≡ entries_of v image f
  unfolding entries_of
  short_entries = ap entries_of_form form_held ∙ ap (λ b. if b then entries_of_form (short_form v image f) else filter is_beside_dots (block_entries v image f)) (sym short)

  pub short_parent : parent_of_form (short_of f.ino (part_of slot 176 f.core.size)) ≡ parent_of v image f
  unfolding parent_of
  short_parent =
      ap parent_of_form form_held
      ∙ ap (λ b. if b then parent_of_form (short_form v image f) else entry_target (find (λ (e : EntryRec). is_parent_name e.name) (block_entries v image f))) (sym short)

  pub short_whole : is_some (short_of f.ino (part_of slot 176 f.core.size)) ≡ is_whole v image f
  unfolding is_whole
  short_whole =
      ap is_some form_held
      ∙ ap (λ b. if b then is_some (short_form v image f) else (has_whole_form f.ino f.core.size (mapped_blocks v image f) && list_all (is_own v f.ino) (data_blocks v image f))) (sym short)

target_in : (e : Option EntryRec) → unwrap_or (option_map (λ (e : EntryRec). e.ino) e) 0 ≡ entry_target e
target_in None = refl
target_in (Some e) = refl

with_true : (b : Bool) → b ≡ (b && true)
with_true true = refl
with_true false = refl

pub with_false : (b : Bool) → false ≡ (b && false)
with_false true = refl
with_false false = refl

whole_where : (dir size : ℕ) (own : Bool) (ms : List Mapped) → is_whole_kept dir size (kept_all own ms (Some [])) ≡ (has_whole_form dir size ms && own)
whole_where dir size true ms = with_true (has_whole_form dir size ms)
whole_where dir size false ms = with_false (has_whole_form dir size ms)

-- the forms with blocks
module _ (v : Volume) (image : Image) (f : FileRec) (gathered : Gathered) (extents : List Extent) (long : is_short f ≡ false) (its : extents ≡ f.extents)
    (taken : found_of gathered ≡ with_file_blocks v f.ino found_nothing (blocks_in_extents v image extents)) where
  all_blocks : blocks_in_extents v image extents ≡ data_blocks v image f
  unfolding data_blocks
  all_blocks = ap (blocks_in_extents v image) its

  all_taken : found_of gathered ≡ with_file_blocks v f.ino found_nothing (data_blocks v image f)
  all_taken = taken ∙ ap (with_file_blocks v f.ino found_nothing) all_blocks

  pub block_form_entries : gathered.entries.items ≡ entries_of v image f
  unfolding entries_of
  block_form_entries =
      ap (λ (found : Found). found.entries) all_taken ∙ entries_taken v f.ino found_nothing (data_blocks v image f)
      ∙ ap (λ b. if b then entries_of_form (short_form v image f) else filter is_beside_dots (block_entries v image f)) (sym long)

  pub block_form_parent : unwrap_or gathered.parent 0 ≡ parent_of v image f
  unfolding parent_of
  block_form_parent =
      ap (λ (o : Option ℕ). unwrap_or o 0) (ap (λ (found : Found). found.parent) all_taken ∙ parent_taken v f.ino found_nothing (data_blocks v image f))
      ∙ target_in (find (λ (e : EntryRec). is_parent_name e.name) (block_entries v image f))
      ∙ ap (λ b. if b then parent_of_form (short_form v image f) else entry_target (find (λ (e : EntryRec). is_parent_name e.name) (block_entries v image f))) (sym long)

  pub block_form_whole : is_whole_kept f.ino f.core.size (mapped_of_kept gathered.kept) ≡ is_whole v image f
  unfolding is_whole
  block_form_whole =
      ap (is_whole_kept f.ino f.core.size) (ap (λ (found : Found). found.kept) all_taken ∙ kept_taken v f.ino found_nothing (data_blocks v image f))
      ∙ whole_where f.ino f.core.size (list_all (is_own v f.ino) (data_blocks v image f)) (mapped_blocks v image f)
      ∙ ap (λ b. if b then is_some (short_form v image f) else (has_whole_form f.ino f.core.size (mapped_blocks v image f) && list_all (is_own v f.ino) (data_blocks v image f))) (sym long)
