-- The slots of directories without blocks have their short forms.
use Rattle.std.proofs.Common.{◌≡◌, ℕ, ◌*◌, ◌<◌, Bool, cond, if◌then◌else◌, true, List, length, Option, Some, None, sym, subst, ap, ◌∙◌}
use Rattle.std.proofs.lemmas.Bool.{eq-eqb}
use Rattle.xfs_word.specs.Field.{part_of}
use Rattle.xfs_word.specs.declared.extents.Extent.{Extent}
use Rattle.xfs_disk.specs.Blocks.{Image}
use Rattle.xfs_disk.specs.declared.stamp.Stamp.{Stamp}
use Rattle.xfs_geom.specs.Volumes.{Volume}
use Rattle.xfs_geom.specs.declared.records.Run.{Run}
use Rattle.xfs_image.specs.Slots.{slot_bytes}
use Rattle.xfs_inodebuild.specs.declared.forks.ForkWanted.{ForkWanted}
use Rattle.xfs_proto.specs.declared.protofile.ProtoKind.{ProtoKind}
use Rattle.xfs_proto.specs.declared.protofile.ProtoNode.{ProtoNode}
use Rattle.xfs_filled.specs.Directories.{made_directory_at, made_directory}
use Rattle.xfs_filled.specs.Entries.{entries_at, parent_of_place}
use Rattle.xfs_filled.specs.FileTrees.{is_directory_node, node_at}
use Rattle.xfs_filled.specs.Forks.{directory_fork, extent_fork, extents_of_owner, fork_of_kind, local_fork}
use Rattle.xfs_filled.specs.Numbers.{number_of}
use Rattle.xfs_filled.specs.Objects.{content_at}
use Rattle.xfs_filled.specs.Slots.{fork_of_place}
use Rattle.xfs_filled.specs.declared.directories.MadeDirectory.{MadeDirectory}
use Rattle.xfs_populated.specs.Names.{HasFileSlots, HasShortForms, short_at}
use Rattle.xfs_populated.proofs.DirectoryObjects.{is_directory}

module _ (v : Volume) (s : Stamp) (starts : List ℕ) (ns : List ProtoNode) (contents : List (List ℕ)) (runs : List Run) (image : Image)
    (slots : HasFileSlots v s starts ns contents runs image) where
  abbrev extents : ℕ → List Extent
  extents k = extents_of_owner v (number_of v starts k) runs

  abbrev made : ℕ → MadeDirectory
  made k = made_directory (entries_at v starts ns k) (number_of v starts k) (parent_of_place v starts ns k)

  abbrev fork : ℕ → ForkWanted
  fork k = fork_of_place v starts ns contents (extents k) k

  fork_is : (k : ℕ) → is_directory_node ns k ≡ true → (made k).data_blocks ≡ 0 → fork k ≡ local_fork (short_at v starts ns k)
  fork_is k dir none =
      ap (λ (kind : ProtoKind). fork_of_kind kind (made_directory_at v starts ns k) (content_at contents k) (extents k)) (is_directory (node_at ns k).kind dir)
      ∙ (ap (λ (d : Option MadeDirectory). directory_fork d (extents k)) (ap (λ (t : Bool). cond t (Some (made k)) None) dir)
      ∙ ap (λ (t : Bool). if t then local_fork (made k).short else extent_fork (4096 * (made k).data_blocks) (extents k)) (eq-eqb (made k).data_blocks 0 none))

  stands : (k : ℕ) → k < length ns → part_of (slot_bytes v image (number_of v starts k)) 176 (length (fork k).bytes) ≡ (fork k).bytes
  stands k low =
      let slot = slots.each k low in
      subst (λ (bytes : List ℕ). part_of bytes 176 (length (fork k).bytes) ≡ (fork k).bytes) (sym slot.made.links) slot.made.fork.put

  pub short_forms : HasShortForms v starts ns image
  short_forms = record {
    each = λ k low dir none.
        subst (λ (f : ForkWanted). part_of (slot_bytes v image (number_of v starts k)) 176 (length f.bytes) ≡ f.bytes) (fork_is k dir none) (stands k low);
  }
