-- A directory is the same from another image that holds its slot and the blocks that it claims.
use Rattle.std.proofs.Common.{◌≡◌, ℕ, zero, suc, Bool, ◌+◌, ◌<◌, ◌&&◌, if◌then◌else◌, List, [], ◌∷◌, ◌++◌, map, Option, is_some, inl, inr, refl, ap, ap₂, arith}
use Rattle.std.specs.List.{All, AllByRecursion, filter, find, flat_map, list_all, range_with_len}
use Rattle.std.proofs.lemmas.List.Elements.{recursion_from_All}
use Rattle.xfs_disk.specs.Blocks.{Image}
use Rattle.xfs_word.specs.Field.{part_of}
use Rattle.xfs_word.specs.declared.extents.Extent.{Extent}
use Rattle.xfs_geom.specs.Groups.{block_of_address}
use Rattle.xfs_geom.specs.Volumes.{Volume}
use Rattle.xfs_dirdata.specs.Short.{ShortForm, short_of}
use Rattle.xfs_dirdata.specs.declared.records.EntryRec.{EntryRec}
use Rattle.xfs_dirindex.specs.Data.{is_parent_name}
use Rattle.xfs_dirindex.specs.Mapped.{mapped_block}
use Rattle.xfs_volume.specs.declared.directories.DirRec.{DirRec}
use Rattle.xfs_volume.specs.declared.files.FileRec.{FileRec}
use Rattle.xfs_image.specs.Directories.{FileBlock, file_block_at, blocks_of_extent, data_blocks, dir_of, directories, dirs_read, entries_in_block, entries_of, entries_of_form, entries_read, has_whole_form, is_beside_dots, is_own, is_short, is_whole, parent_of, parent_of_form, short_form, entry_target}
use Rattle.xfs_views.proofs.Members.{Member}
use Rattle.xfs_views.specs.SameFiles.{HasSameClaims, HasSameSlot}
use Rattle.xfs_views.proofs.NamedClaims.{data_claimed}

-- blocks that are the same one by one are the same
row_same : (f h : ℕ → FileBlock) (k n : ℕ) → ((i : ℕ) → i < k + n → f i ≡ h i) → map f (range_with_len k n) ≡ map h (range_with_len k n)
row_same f h k zero each = refl
row_same f h k (suc n) each =
    ap₂ (λ (b : FileBlock) (bs : List FileBlock). b ∷ bs) (each k (omega arith)) (row_same f h (k + 1) n (λ i low. each i (omega (arith, low))))

extents_same : (f h : Extent → List FileBlock) (es : List Extent) → ((e : Extent) → Member e es → f e ≡ h e) → flat_map f es ≡ flat_map h es
extents_same f h [] each = refl
extents_same f h (e ∷ es) each =
    ap₂ (λ (a b : List FileBlock). a ++ b) (each e (inl refl)) (extents_same f h es (λ x is. each x (inr is)))

module _ (v : Volume) (image now : Image) (f : FileRec) where
  block_same : (e : Extent) (i : ℕ) → Member e f.extents → i < e.count → HasSameClaims v image now f → file_block_at v now e i ≡ file_block_at v image e i
  block_same e i is few claimed =
      ap (λ (bytes : List ℕ). let b : FileBlock = record { block = block_of_address v.agblocks v.agblklog e.start + i; mapped = mapped_block (e.offset + i) bytes } in b)
      (claimed (block_of_address v.agblocks v.agblklog e.start + i) (data_claimed v f e i is few))

  blocks_same : HasSameClaims v image now f → data_blocks v now f ≡ data_blocks v image f
  unfolding data_blocks
  blocks_same claimed =
      extents_same (blocks_of_extent v now) (blocks_of_extent v image) f.extents
      (λ e is. row_same (file_block_at v now e) (file_block_at v image e) 0 e.count (λ i low. block_same e i is (omega (arith, low)) claimed))

  form_same : HasSameSlot v image now f.ino → short_form v now f ≡ short_form v image f
  unfolding short_form
  form_same slot = ap (λ (bytes : List ℕ). short_of f.ino (part_of bytes 176 f.core.size)) slot

  pub entries_stay : HasSameSlot v image now f.ino → HasSameClaims v image now f → entries_of v now f ≡ entries_of v image f
  unfolding entries_of
  entries_stay slot claimed =
      ap₂ (λ (form : Option ShortForm) (blocks : List FileBlock). if is_short f then entries_of_form form else filter is_beside_dots (flat_map (entries_in_block v f.ino) blocks)) (form_same slot)
      (blocks_same claimed)

  pub parent_stays : HasSameSlot v image now f.ino → HasSameClaims v image now f → parent_of v now f ≡ parent_of v image f
  unfolding parent_of
  parent_stays slot claimed =
      ap₂ (λ (form : Option ShortForm) (blocks : List FileBlock). if is_short f then parent_of_form form
      else entry_target (find (λ (e : EntryRec). is_parent_name e.name) (flat_map (entries_in_block v f.ino) blocks))) (form_same slot) (blocks_same claimed)

  pub whole_stays : HasSameSlot v image now f.ino → HasSameClaims v image now f → is_whole v now f ≡ is_whole v image f
  unfolding is_whole
  whole_stays slot claimed =
      ap₂ (λ (form : Option ShortForm) (blocks : List FileBlock). if is_short f then is_some form
      else (has_whole_form f.ino f.core.size (map (λ (b : FileBlock). b.mapped) blocks) && list_all (is_own v f.ino) blocks)) (form_same slot) (blocks_same claimed)

  dir_stays : HasSameSlot v image now f.ino → HasSameClaims v image now f → dir_of v now f ≡ dir_of v image f
  dir_stays slot claimed =
      ap₂ (λ (parent : ℕ) (whole : Bool). let d : DirRec = record { ino = f.ino; parent = parent; whole = whole } in d) (parent_stays slot claimed) (whole_stays slot claimed)

module _ (v : Volume) (image now : Image) where
  each_entries : (dirs : List FileRec) → AllByRecursion (λ (f : FileRec). HasSameSlot v image now f.ino) dirs → AllByRecursion (HasSameClaims v image now) dirs
      → flat_map (entries_of v now) dirs ≡ flat_map (entries_of v image) dirs
  each_entries [] slots claimed = refl
  each_entries (f ∷ fs) slots claimed =
      ap₂ (λ (a b : List EntryRec). a ++ b) (entries_stay v image now f slots.0 claimed.0) (each_entries fs slots.1 claimed.1)

  each_dir : (dirs : List FileRec) → AllByRecursion (λ (f : FileRec). HasSameSlot v image now f.ino) dirs → AllByRecursion (HasSameClaims v image now) dirs
      → map (dir_of v now) dirs ≡ map (dir_of v image) dirs
  each_dir [] slots claimed = refl
  each_dir (f ∷ fs) slots claimed = ap₂ (λ (d : DirRec) (ds : List DirRec). d ∷ ds) (dir_stays v image now f slots.0 claimed.0) (each_dir fs slots.1 claimed.1)

  pub all_entries_stay : (files : List FileRec) → All (λ (f : FileRec). HasSameSlot v image now f.ino) (directories files) → All (HasSameClaims v image now) (directories files)
      → entries_read v now files ≡ entries_read v image files
  unfolding entries_read
  all_entries_stay files slots claimed =
      each_entries (directories files) (recursion_from_All (λ (f : FileRec). HasSameSlot v image now f.ino) (directories files) slots)
      (recursion_from_All (HasSameClaims v image now) (directories files) claimed)

  pub all_dirs_stay : (files : List FileRec) → All (λ (f : FileRec). HasSameSlot v image now f.ino) (directories files) → All (HasSameClaims v image now) (directories files)
      → dirs_read v now files ≡ dirs_read v image files
  unfolding dirs_read
  all_dirs_stay files slots claimed =
      each_dir (directories files) (recursion_from_All (λ (f : FileRec). HasSameSlot v image now f.ino) (directories files) slots)
      (recursion_from_All (HasSameClaims v image now) (directories files) claimed)
