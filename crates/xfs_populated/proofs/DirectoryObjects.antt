-- The objects of the directories of a new volume are those of directories that were built.
use Rattle.std.proofs.Common.{◌≡◌, ℕ, ◌^◌, ◌==◌, ◌≤◌, ◌<◌, Bool, true, false, cond, if◌then◌else◌, List, [], ◌∷◌, ◌++◌, length, map, Option, Some, None, refl, sym, ap, ap₂, ◌∙◌, append-nil, append_assoc, arith}
use Rattle.std.specs.List.{All, flat_map, range_with_len}
use Rattle.std.proofs.lemmas.Bool.{eqb-true}
use Rattle.std.proofs.lemmas.List.Concat.{flat_map-append}
use Rattle.xfs_dirbuild.specs.Blocks.{dir_blocks}
use Rattle.xfs_dirbuild.specs.Forms.{data_blocks_of}
use Rattle.xfs_dirbuild.specs.Placed.{file_blocks}
use Rattle.xfs_dirbuild.specs.declared.forms.DirectoryForm.{DirectoryForm}
use Rattle.xfs_dirbuild.specs.declared.image.DirImage.{DirImage}
use Rattle.xfs_dirdata.specs.Written.{IsWritableEntry}
use Rattle.xfs_dirdata.specs.declared.records.EntryRec.{EntryRec}
use Rattle.xfs_geom.specs.Volumes.{Volume}
use Rattle.xfs_names.specs.Built.{IsImageIn}
use Rattle.xfs_names.specs.declared.building.BuiltDirectory.{BuiltDirectory}
use Rattle.xfs_place.specs.declared.wanted.ObjectKind.{ObjectKind}
use Rattle.xfs_place.specs.declared.wanted.RunAsk.{RunAsk}
use Rattle.xfs_proto.specs.declared.protofile.ProtoKind.{ProtoKind}
use Rattle.xfs_proto.specs.declared.protofile.ProtoKind.TheVariants as Kind
use Rattle.xfs_proto.specs.declared.protofile.ProtoNode.{ProtoNode}
use Rattle.xfs_render.specs.Objects.{asks_in, asks_with_kind}
use Rattle.xfs_render.specs.declared.object_blocks.ObjectAsk.{ObjectAsk}
use Rattle.xfs_built.specs.Asks.{asked_run, asks_for}
use Rattle.xfs_filled.specs.Contents.{blocks_of_place, blocks_of_kind}
use Rattle.xfs_filled.specs.Directories.{made_directory_at, made_directory}
use Rattle.xfs_filled.specs.Entries.{entries_at, parent_of_place}
use Rattle.xfs_filled.specs.FileTrees.{is_directory_node, is_directory_kind, node_at}
use Rattle.xfs_filled.specs.Numbers.{number_of}
use Rattle.xfs_filled.specs.Objects.{content_at, directory_runs, objects_of_place, object_kind, object_with_runs, run_of, runs_at, runs_of_kind}
use Rattle.xfs_filled.specs.declared.directories.MadeDirectory.{MadeDirectory}
use Rattle.xfs_built.specs.Directories.{HasOwnCounts}
use Rattle.xfs_built.specs.Pieces.{asked_offsets, directory_ask}
use Rattle.xfs_built.proofs.Sized.{data_low, free_low, index_low, none_short}
use Rattle.xfs_populated.specs.Names.{HasImage}

pub is_directory : (kind : ProtoKind) → is_directory_kind kind ≡ true → kind ≡ Kind.Directory
is_directory (Kind.Regular name line) is = absurd cc
is_directory Kind.Directory is = refl
is_directory (Kind.Link target) is = absurd cc
is_directory (Kind.Block major minor) is = absurd cc
is_directory (Kind.Character major minor) is = absurd cc
is_directory Kind.Pipe is = absurd cc

-- the numbers of the blocks that are asked for
asked_blocks : (ino offset blocks : ℕ) → flat_map asked_offsets (asked_run ino offset blocks) ≡ range_with_len offset blocks
asked_blocks ino offset blocks = by_case (blocks == 0) refl
  where
    by_case : (t : Bool) → (blocks == 0) ≡ t
        → flat_map asked_offsets (if t then [] else (record { blocks = blocks; owner = ino; offset_word = offset } ∷ [])) ≡ range_with_len offset blocks
    by_case true is = ap (λ (n : ℕ). range_with_len offset n) (sym (eqb-true blocks 0 is))
    by_case false is = append-nil (range_with_len offset blocks)

pub asks_blocks : (ino : ℕ) (image : DirImage) → flat_map asked_offsets (asks_for ino image) ≡ file_blocks image.data_blocks image.index_blocks image.free_blocks
asks_blocks ino image =
    let first = asked_run ino 0 image.data_blocks in
    let second = asked_run ino 0x800000 image.index_blocks in
    let third = asked_run ino 0x1000000 image.free_blocks in
    flat_map-append asked_offsets (first ++ second) third
    ∙ (ap (λ (xs : List ℕ). xs ++ flat_map asked_offsets third) (flat_map-append asked_offsets first second)
    ∙ (append_assoc (flat_map asked_offsets first) (flat_map asked_offsets second) (flat_map asked_offsets third)
    ∙ ap₂ (λ (xs ys : List ℕ). xs ++ ys) (asked_blocks ino 0 image.data_blocks)
    (ap₂ (λ (xs ys : List ℕ). xs ++ ys) (asked_blocks ino 0x800000 image.index_blocks) (asked_blocks ino 0x1000000 image.free_blocks))))

abbrev kind_ask : ObjectKind → RunAsk → ObjectAsk
kind_ask kind ask = record { kind = kind; ask = ask }

object_asked : (kind : ObjectKind) (ino : ℕ) (runs : List RunAsk) → flat_map asks_in (object_with_runs kind ino runs) ≡ map (kind_ask kind) runs
object_asked kind ino [] = refl
object_asked kind ino (run ∷ runs) = append-nil (map (kind_ask kind) (run ∷ runs))

no_blocks : (form : DirectoryForm) (d parent : ℕ) (es : List EntryRec) → data_blocks_of form es ≡ 0 → dir_blocks form d parent es ≡ []
unfolding dir_blocks
no_blocks form d parent es none = ap (λ (f : DirectoryForm). dir_blocks f d parent es) (none_short form es none)

-- how many blocks a directory has
pub image_sized : (form : DirectoryForm) (es : List EntryRec) (parent : ℕ) (b : BuiltDirectory) → IsImageIn form es b.ino parent b.image → All IsWritableEntry es → length es ≤ 2 ^ 24
    → b.ino < 2 ^ 30 → HasOwnCounts b
image_sized form es parent b is writable few low =
    let data_is = is.data_count in
    let index_is = is.index_count in
    let free_is = is.free_count in
    let data_few = data_low form es writable few in
    let index_few = index_low form es few in
    let free_few = free_low form es writable few in
    record {
      low = omega (arith, low);
      data' = omega (arith, data_is, data_few);
      index' = omega (arith, index_is, index_few);
      free' = omega (arith, free_is, free_few);
      count = is.count;
      none = λ no. is.blocks_are ∙ no_blocks form b.ino parent es (sym data_is ∙ no);
    }

module _ (v : Volume) (starts : List ℕ) (ns : List ProtoNode) (contents : List (List ℕ)) (k : ℕ) (dir : is_directory_node ns k ≡ true)
    (has : HasImage (entries_at v starts ns k) (number_of v starts k) (parent_of_place v starts ns k)) where
  abbrev es : List EntryRec
  es = entries_at v starts ns k

  abbrev made : MadeDirectory
  made = made_directory es (number_of v starts k) (parent_of_place v starts ns k)

  pub directory_made : made_directory_at v starts ns k ≡ Some made
  directory_made = ap (λ (t : Bool). cond t (Some made) None) dir

  pub kind_is : (node_at ns k).kind ≡ Kind.Directory
  kind_is = is_directory (node_at ns k).kind dir

  -- what it asks for
  pub asks_are : runs_at v starts ns contents k ≡ asks_for (number_of v starts k) has.image
  asks_are =
      ap (λ (kind : ProtoKind). runs_of_kind kind (made_directory_at v starts ns k) (content_at contents k) (number_of v starts k)) kind_is
      ∙ (ap (directory_runs (number_of v starts k)) directory_made
      ∙ (sym (append_assoc (run_of made.data_blocks (number_of v starts k) 0) (run_of made.index_blocks (number_of v starts k) 0x800000) (run_of made.free_blocks (number_of v starts k) 0x1000000))
      ∙ sym counts))
    where
      counts : asks_for (number_of v starts k) has.image
          ≡ (run_of made.data_blocks (number_of v starts k) 0 ++ run_of made.index_blocks (number_of v starts k) 0x800000) ++ run_of made.free_blocks (number_of v starts k) 0x1000000
      counts = λ i. (run_of (has.is.data_count i) (number_of v starts k) 0 ++ run_of (has.is.index_count i) (number_of v starts k) 0x800000) ++ run_of (has.is.free_count i) (number_of v starts k) 0x1000000

  pub blocks_are : blocks_of_place v starts ns contents k ≡ has.image.blocks
  blocks_are =
      ap (λ (kind : ProtoKind). blocks_of_kind kind (made_directory_at v starts ns k) (content_at contents k)) kind_is
      ∙ (ap (λ (d : Option MadeDirectory). blocks_of_kind Kind.Directory d (content_at contents k)) directory_made ∙ sym has.is.blocks_are)

  pub asked_next : (ks : List ℕ) → asks_with_kind (flat_map (objects_of_place v starts ns contents) (k ∷ ks))
      ≡ map directory_ask (runs_at v starts ns contents k) ++ asks_with_kind (flat_map (objects_of_place v starts ns contents) ks)
  asked_next ks =
      flat_map-append asks_in (objects_of_place v starts ns contents k) (flat_map (objects_of_place v starts ns contents) ks)
      ∙ ap (λ (xs : List ObjectAsk). xs ++ asks_with_kind (flat_map (objects_of_place v starts ns contents) ks))
      (object_asked (object_kind (node_at ns k).kind) (number_of v starts k) (runs_at v starts ns contents k)
      ∙ ap (λ (kind : ProtoKind). map (kind_ask (object_kind kind)) (runs_at v starts ns contents k)) kind_is)
