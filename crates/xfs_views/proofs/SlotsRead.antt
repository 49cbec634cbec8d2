-- A slot reads as it did from another image that holds the same slot and the blocks that it names, whatever it reads as.
use Rattle.std.proofs.Common.{◌≡◌, ℕ, List, [], ◌∷◌, ◌++◌, Option, Some, None, refl, ap, ap₂, ◌∙◌, Result}
use Rattle.std.specs.List.{All, AllByRecursion, flat_map}
use Rattle.std.specs.Option.{option_map, option_to_list}
use Rattle.std.proofs.lemmas.List.Elements.{recursion_from_All}
use Rattle.xfs_disk.specs.Blocks.{Image, bytes_of_block}
use Rattle.xfs_geom.specs.Volumes.{Volume}
use Rattle.xfs_tree.specs.Seats.{seats_of}
use Rattle.xfs_kinds.specs.FileTrees.{bmbt_shape}
use Rattle.xfs_volume.specs.declared.files.FileRec.{FileRec}
use Rattle.xfs_volume.specs.declared.groups.GroupRec.{GroupRec}
use Rattle.xfs_inode.specs.Files.{file_read}
use Rattle.xfs_inode.specs.Forks.{Top}
use Rattle.xfs_inode.specs.Named.{held_by, named_attr, named_link, named_top, slot_reads, tree_under}
use Rattle.xfs_inode.specs.declared.files.FileRead.{FileRead}
use Rattle.xfs_image.specs.Claims.{candidate_files, candidate_inodes, file_if}
use Rattle.xfs_image.specs.Files.{files_at, files_read, inodes_of, with_file_read}
use Rattle.xfs_image.specs.Slots.{reads_as, slot_bytes}
use Rattle.xfs_image.specs.declared.findings.Finding.{Finding}
use Rattle.xfs_views.specs.NamedBlocks.{blocks_named, blocks_of_top, named_blocks}
use Rattle.xfs_views.specs.Same.{HoldSameBytes}
use Rattle.xfs_views.specs.SameFiles.{HasSameSlot}
use Rattle.xfs_views.proofs.TreesStay.{Each, each_front, each_rest, reading_stays}

module _ (v : Volume) (image now : Image) where
  under_same : (ino : ℕ) (top : Option Top) → Each image now (blocks_of_top v image ino top) → tree_under v now ino top ≡ tree_under v image ino top
  under_same ino None same = refl
  under_same ino (Some top) same = ap held_by (reading_stays (bmbt_shape ino) v image now (seats_of top.places top.lows []) top.level same)

  one_same : (place : Option ℕ) → Each image now (option_to_list place) → option_map (bytes_of_block now) place ≡ option_map (bytes_of_block image) place
  one_same None same = refl
  one_same (Some block) same = ap (λ (bytes : List ℕ). Some bytes) same.0

  pub named_same : (ino : ℕ) (slot : List ℕ) → Each image now (blocks_named v image ino slot) → slot_reads v now ino slot ≡ slot_reads v image ino slot
  named_same ino slot same =
      let under : List ℕ = blocks_of_top v image ino (named_top v ino slot) in
      let leaf : List ℕ = option_to_list (named_attr v ino slot) in
      let target : List ℕ = option_to_list (named_link v ino slot) in
      let others : Each image now (leaf ++ target) = each_rest image now under (leaf ++ target) same in
      let tree = under_same ino (named_top v ino slot) (each_front image now under (leaf ++ target) same) in
      let attr = one_same (named_attr v ino slot) (each_front image now leaf target others) in
      let link = one_same (named_link v ino slot) (each_rest image now leaf target others) in
      λ i. file_read v ino slot (tree i) (attr i) (link i)

  read_stays : (ino : ℕ) → HasSameSlot v image now ino → Each image now (named_blocks v image ino) → reads_as v now ino ≡ reads_as v image ino
  unfolding reads_as named_blocks
  read_stays ino slot same = ap (slot_reads v now ino) slot ∙ named_same ino (slot_bytes v image ino) same

  pub slot_stays : (ino : ℕ) → HasSameSlot v image now ino → HoldSameBytes image now (named_blocks v image ino) → reads_as v now ino ≡ reads_as v image ino
  slot_stays ino slot same = read_stays ino slot (recursion_from_All (λ (block : ℕ). bytes_of_block now block ≡ bytes_of_block image block) (named_blocks v image ino) same)

  -- the files among some slots
  each_stays : (inos : List ℕ) → AllByRecursion (HasSameSlot v image now) inos → AllByRecursion (λ (ino : ℕ). HoldSameBytes image now (named_blocks v image ino)) inos
      → flat_map (λ ino. file_if (reads_as v now ino)) inos ≡ flat_map (λ ino. file_if (reads_as v image ino)) inos
  each_stays [] slots same = refl
  each_stays (ino ∷ inos) slots same =
      ap₂ (λ (read : FileRead) (rest : List FileRec). file_if read ++ rest) (slot_stays ino slots.0 same.0) (each_stays inos slots.1 same.1)

  -- what all slots of a volume read as, or the first that is neither free nor a file
  each_reads : (inos : List ℕ) → AllByRecursion (HasSameSlot v image now) inos → AllByRecursion (λ (ino : ℕ). HoldSameBytes image now (named_blocks v image ino)) inos
      → files_at v now inos ≡ files_at v image inos
  each_reads [] slots same = refl
  each_reads (ino ∷ inos) slots same =
      ap₂ (λ (read : FileRead) (rest : Result (List FileRec) Finding). with_file_read ino read rest) (slot_stays ino slots.0 same.0) (each_reads inos slots.1 same.1)

  pub all_slots_stay : (groups : List GroupRec) → All (HasSameSlot v image now) (inodes_of v groups) → All (λ (ino : ℕ). HoldSameBytes image now (named_blocks v image ino)) (inodes_of v groups)
      → files_read v now groups ≡ files_read v image groups
  unfolding files_read
  all_slots_stay groups slots same =
      each_reads (inodes_of v groups) (recursion_from_All (HasSameSlot v image now) (inodes_of v groups) slots)
      (recursion_from_All (λ (ino : ℕ). HoldSameBytes image now (named_blocks v image ino)) (inodes_of v groups) same)

  pub candidate_files_stay : candidate_inodes v now ≡ candidate_inodes v image → All (HasSameSlot v image now) (candidate_inodes v image)
      → All (λ (ino : ℕ). HoldSameBytes image now (named_blocks v image ino)) (candidate_inodes v image) → candidate_files v now ≡ candidate_files v image
  unfolding candidate_files
  candidate_files_stay inodes slots same =
      ap (flat_map (λ ino. file_if (reads_as v now ino))) inodes
      ∙ each_stays (candidate_inodes v image) (recursion_from_All (HasSameSlot v image now) (candidate_inodes v image) slots)
      (recursion_from_All (λ (ino : ℕ). HoldSameBytes image now (named_blocks v image ino)) (candidate_inodes v image) same)
