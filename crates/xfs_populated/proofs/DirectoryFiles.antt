-- The file of a directory of a new volume is the one that the directory was built for.
use Rattle.std.proofs.Common.{◌≡◌, ℕ, zero, suc, ◌+◌, ◌-◌, ◌*◌, ◌/◌, ◌%◌, ◌^◌, ◌==◌, ◌≤◌, ◌<◌, Bool, true, false, not, if◌then◌else◌, min, List, [], ◌∷◌, ◌++◌, length, map, Option, Some, refl, sym, ap, ap₂, ◌∙◌, arith}
use Rattle.std.specs.List.{All, AllByRecursion, flat_map, range_with_len}
use Rattle.std.proofs.Math.Nat.{mod-eq_of_lt}
use Rattle.std.proofs.lemmas.Bool.{eqb-true, not-false, not-true}
use Rattle.xfs_word.specs.Field.{part_of}
use Rattle.xfs_word.specs.declared.extents.Extent.{Extent}
use Rattle.xfs_disk.specs.Blocks.{Image}
use Rattle.xfs_disk.specs.declared.stamp.Stamp.{Stamp}
use Rattle.xfs_dirbuild.specs.declared.forms.DirectoryForm.{DirectoryForm}
use Rattle.xfs_dirbuild.specs.declared.forms.DirectoryForm.TheVariants.{Short}
use Rattle.xfs_dirbuild.specs.Forms.{form_of}
use Rattle.xfs_dirdata.specs.declared.records.EntryRec.{EntryRec}
use Rattle.xfs_geom.specs.Conversions.{address_of}
use Rattle.xfs_geom.specs.Volumes.{Volume}
use Rattle.xfs_geom.specs.declared.records.Run.{Run}
use Rattle.xfs_image.specs.Slots.{slot_bytes}
use Rattle.xfs_inodebuild.specs.declared.forks.ForkWanted.{ForkWanted}
use Rattle.xfs_kinds.specs.OffsetWords.{offset_in_fork}
use Rattle.xfs_names.specs.declared.building.BuiltDirectory.{BuiltDirectory}
use Rattle.xfs_place.specs.Objects.{most_extent_blocks}
use Rattle.xfs_proto.specs.declared.protofile.ProtoKind.{ProtoKind}
use Rattle.xfs_proto.specs.declared.protofile.ProtoNode.{ProtoNode}
use Rattle.xfs_volume.specs.declared.files.FileRec.{FileRec}
use Rattle.xfs_built.specs.Extents.{extent_of_run}
use Rattle.xfs_built.specs.Asks.{stands_in_blocks}
use Rattle.xfs_filled.specs.Directories.{made_directory_at, fresh_fork_bytes, made_directory, short_in}
use Rattle.xfs_filled.specs.Entries.{entries_at, parent_of_place}
use Rattle.xfs_filled.specs.FileTrees.{is_directory_node}
use Rattle.xfs_filled.specs.Forks.{directory_fork, extent_fork, extent_of_piece, extents_of_owner, extents_of_run, fork_of_kind, local_fork, owned_by}
use Rattle.xfs_filled.specs.Numbers.{number_of}
use Rattle.xfs_filled.specs.Objects.{content_at}
use Rattle.xfs_filled.specs.declared.directories.MadeDirectory.{MadeDirectory}
use Rattle.xfs_built.specs.Directories.{IsFileOf, IsShortFileOf}
use Rattle.xfs_built.specs.Pieces.{IsLowRun}
use Rattle.xfs_built.proofs.Sized.{none_short}
use Rattle.xfs_populated.specs.Names.{HasImage, HasShortForms, short_at}
use Rattle.xfs_populated.specs.Populated.{filled_file, filled_fork}
use Rattle.xfs_populated.proofs.DirectoryObjects.{directory_made, kind_is}

-- a run of few blocks is one extent
extent_is : (v : Volume) (r : Run) → IsLowRun r → extent_of_piece v r 0 ≡ extent_of_run v r
extent_is v r low = λ i. record { offset = offset i; start = address_of v (start i); count = count i; unwritten = false }
  where
    offset : offset_in_fork r.offset_word + 0 * most_extent_blocks ≡ r.offset_word
    offset =
        let room = low.room in
        let word : r.offset_word % 2 ^ 61 ≡ r.offset_word = mod-eq_of_lt (omega (arith, room)) in
        omega (arith, word)

    start : r.start + 0 * most_extent_blocks ≡ r.start
    start = omega arith

    count : min most_extent_blocks (r.count - 0 * most_extent_blocks) ≡ r.count
    count = let few = low.few in omega (arith, few)

run_extents : (v : Volume) (r : Run) → IsLowRun r → 1 ≤ r.count → extents_of_run v r ≡ extent_of_run v r ∷ []
run_extents v r low some =
    let few = low.few in
    let one : (r.count + (most_extent_blocks - 1)) / most_extent_blocks ≡ 1 = omega (arith, some, few) in
    ap (λ (n : ℕ). map (extent_of_piece v r) (range_with_len 0 n)) one ∙ ap (λ (e : Extent). e ∷ []) (extent_is v r low)

pub runs_extents : (v : Volume) (runs : List Run) → AllByRecursion IsLowRun runs → All (λ (r : Run). 1 ≤ r.count) runs → flat_map (extents_of_run v) runs ≡ map (extent_of_run v) runs
runs_extents v [] low some = refl
runs_extents v (r ∷ runs) low some =
    ap₂ (λ (xs ys : List Extent). xs ++ ys) (run_extents v r low.0 (some zero r (omega arith))) (runs_extents v runs low.1 (λ k d few. some (suc k) d (omega (arith, few))))

module _ (v : Volume) (s : Stamp) (starts : List ℕ) (ns : List ProtoNode) (contents : List (List ℕ)) (runs : List Run) (crc : ℕ → ℕ) (k : ℕ) (dir : is_directory_node ns k ≡ true)
    (has : HasImage (entries_at v starts ns k) (number_of v starts k) (parent_of_place v starts ns k)) where
  abbrev es : List EntryRec
  es = entries_at v starts ns k

  abbrev made : MadeDirectory
  made = made_directory es (number_of v starts k) (parent_of_place v starts ns k)

  abbrev extents : List Extent
  extents = extents_of_owner v (number_of v starts k) runs

  abbrev file : FileRec
  file = filled_file v s starts ns contents runs crc k

  abbrev built : BuiltDirectory
  built = record { ino = number_of v starts k; image = has.image }

  -- its fork
  fork_is : filled_fork v s starts ns contents runs crc k ≡ directory_fork (Some made) extents
  fork_is =
      ap (λ (kind : ProtoKind). fork_of_kind kind (made_directory_at v starts ns k) (content_at contents k) extents) (kind_is v starts ns contents k dir has)
      ∙ ap (λ (d : Option MadeDirectory). directory_fork d extents) (directory_made v starts ns contents k dir has)

  blocks_or_none : (t : Bool) → stands_in_blocks built ≡ not t → (made.data_blocks == 0) ≡ t
  blocks_or_none true is = ap (λ (n : ℕ). n == 0) (sym has.is.data_count) ∙ not-false (has.image.data_blocks == 0) is
  blocks_or_none false is = ap (λ (n : ℕ). n == 0) (sym has.is.data_count) ∙ not-true (has.image.data_blocks == 0) is

  fork_in_blocks : stands_in_blocks built ≡ true → filled_fork v s starts ns contents runs crc k ≡ extent_fork (4096 * made.data_blocks) extents
  fork_in_blocks blocks =
      fork_is ∙ ap (λ (t : Bool). if t then local_fork made.short else extent_fork (4096 * made.data_blocks) extents) (blocks_or_none false blocks)

  fork_in_slot : stands_in_blocks built ≡ false → filled_fork v s starts ns contents runs crc k ≡ local_fork made.short
  fork_in_slot short =
      fork_is ∙ ap (λ (t : Bool). if t then local_fork made.short else extent_fork (4096 * made.data_blocks) extents) (blocks_or_none true short)

  pub file_of_blocks : (mine : List Run) → owned_by (number_of v starts k) runs ≡ mine → AllByRecursion IsLowRun mine → All (λ (r : Run). 1 ≤ r.count) mine
      → stands_in_blocks built ≡ true → IsFileOf v built mine file
  file_of_blocks mine own low some blocks =
      let fork = fork_in_blocks blocks in
      record {
        ino' = refl;
        format' = ap (λ (f : ForkWanted). f.format) fork;
        size' = ap (λ (f : ForkWanted). f.size) fork ∙ ap (λ (n : ℕ). 4096 * n) (sym has.is.data_count);
        extents' =
            ap (λ (n : ℕ). if n == 2 then extents else []) (ap (λ (f : ForkWanted). f.format) fork)
            ∙ (ap (flat_map (extents_of_run v)) own ∙ runs_extents v mine low some);
      }

  pub file_in_slot : (image : Image) → k < length ns → HasShortForms v starts ns image → stands_in_blocks built ≡ false → IsShortFileOf v image built file
  file_in_slot image inside shorts short =
      let fork = fork_in_slot short in
      let none : made.data_blocks ≡ 0 = eqb-true made.data_blocks 0 (blocks_or_none true short) in
      let form : form_of es fresh_fork_bytes ≡ Short = none_short (form_of es fresh_fork_bytes) es none in
      let long : (filled_fork v s starts ns contents runs crc k).size ≡ length (short_at v starts ns k) = ap (λ (f : ForkWanted). f.size) fork in
      record {
        ino' = refl;
        format' = ap (λ (f : ForkWanted). f.format) fork;
        bytes' =
            ap (λ (n : ℕ). part_of (slot_bytes v image (number_of v starts k)) 176 n) long
            ∙ (shorts.each k inside dir none
            ∙ (ap (λ (f : DirectoryForm). short_in f (parent_of_place v starts ns k) es) form ∙ sym (has.is.short_bytes_are form)));
      }
