-- What is wanted of the slots of chunks can be made of them, whatever stood there before.
use Rattle.std.proofs.Common.{◌≡◌, ℕ, ◌+◌, ◌*◌, ◌%◌, ◌==◌, ◌≤◌, ◌<◌, Bool, true, false, cond, nat_le, nat_lt, List, length, Option, Some, None, arith, refl}
use Rattle.std.proofs.lemmas.Bool.{leb-true, ltb-true}
use Rattle.xfs_disk.specs.declared.stamp.Stamp.{Stamp}
use Rattle.xfs_empty.specs.Inodes.{system_core, system_slot, unused_slot}
use Rattle.xfs_geom.specs.Volumes.{Volume}
use Rattle.xfs_geom.specs.declared.records.Run.{Run}
use Rattle.xfs_proto.specs.declared.protofile.ProtoKind.{ProtoKind}
use Rattle.xfs_proto.specs.declared.protofile.ProtoKind.TheVariants as Kind
use Rattle.xfs_proto.specs.declared.protofile.ProtoNode.{ProtoNode}
use Rattle.xfs_render.specs.Slots.{CanFork, CanMake, IsFreshCore}
use Rattle.xfs_word.specs.declared.extents.Extent.{Extent}
use Rattle.xfs_filled.specs.Directories.{IsSoundWhere, made_directory_at}
use Rattle.xfs_filled.specs.FileTrees.{AreProtoNodes, node_at, type_of_kind}
use Rattle.xfs_filled.specs.Forks.{extent_fork, extents_of_owner, fork_of_kind, local_fork}
use Rattle.xfs_filled.specs.Numbers.{inode_at, number_of}
use Rattle.xfs_filled.specs.Objects.{content_at}
use Rattle.xfs_filled.specs.Slots.{core_at, slot_of_place, place_of_index, slot_of_index}
use Rattle.xfs_filled.specs.declared.directories.MadeDirectory.{MadeDirectory}
use Rattle.xfs_filled.proofs.Shorts.{extents_long}
use Rattle.xfs_filled.proofs.Slotted.{place_is}

extents_fit : (size : ℕ) (extents : List Extent) → length extents ≤ 21 → CanFork 0 (extent_fork size extents)
extents_fit size extents few = record { few = omega (arith, few); short = let long = extents_long extents in omega (arith, long, few) }

bytes_fit : (bytes : List ℕ) → length bytes ≤ 336 → CanFork 0 (local_fork bytes)
bytes_fit bytes few = record { few = omega arith; short = few }

-- the fork of a file fits its inode
kind_fits : (kind : ProtoKind) (made : Option MadeDirectory) (content : List ℕ) (extents : List Extent) → IsSoundWhere made → length extents ≤ 21 → CanFork 0 (fork_of_kind kind made content extents)
kind_fits (Kind.Regular name line) made content extents sound few = extents_fit (length content) extents few
kind_fits Kind.Directory None content extents sound few = record { few = omega arith; short = omega arith }
kind_fits Kind.Directory (Some d) content extents sound few = by_case (d.data_blocks == 0)
  where
    by_case : (r : Bool) → CanFork 0 (cond r (local_fork d.short) (extent_fork (4096 * d.data_blocks) extents))
    by_case true = bytes_fit d.short sound.fits
    by_case false = extents_fit (4096 * d.data_blocks) extents few
kind_fits (Kind.Link target) made content extents sound few = by_case (nat_le (length target) 336) refl
  where
    by_case : (r : Bool) → nat_le (length target) 336 ≡ r → CanFork 0 (cond r (local_fork target) (extent_fork (length target) extents))
    by_case true is = bytes_fit target (leb-true (length target) 336 is)
    by_case false is = extents_fit (length target) extents few
kind_fits (Kind.Block major minor) made content extents sound few = record { few = omega arith; short = omega arith }
kind_fits (Kind.Character major minor) made content extents sound few = record { few = omega arith; short = omega arith }
kind_fits Kind.Pipe made content extents sound few = record { few = omega arith; short = omega arith }

type_some : (kind : ProtoKind) → 1 ≤ type_of_kind kind
type_some (Kind.Regular name line) = omega arith
type_some Kind.Directory = omega arith
type_some (Kind.Link target) = omega arith
type_some (Kind.Block major minor) = omega arith
type_some (Kind.Character major minor) = omega arith
type_some Kind.Pipe = omega arith

system_fresh : (v : Volume) (s : Stamp) (ino : ℕ) → IsFreshCore v ino (system_core v s ino)
system_fresh v s ino =
    record {
      number = refl;
      magic = refl;
      version = refl;
      used = omega arith;
      uuid = refl;
      lsn = refl;
      no_attributes = refl;
      plain_data = by_case (ino == 129);
      plain = refl;
    }
  where
    by_case : (r : Bool) → cond r 4 0 % 2 ≡ 0
    by_case true = refl
    by_case false = refl

system_makes : (v : Volume) (s : Stamp) (ino : ℕ) (old : List ℕ) → CanMake v (system_slot v s ino) old
system_makes v s ino old = record { base = system_fresh v s ino; forkoff = omega arith; fork = tt }

free_makes : (v : Volume) (ino : ℕ) (old : List ℕ) → CanMake v (unused_slot ino) old
free_makes v ino old = record { base = tt; forkoff = omega arith; fork = tt }

module _ (v : Volume) (s : Stamp) (starts : List ℕ) (ns : List ProtoNode) (contents : List (List ℕ)) (runs : List Run) (files : AreProtoNodes ns)
    (sound : (k : ℕ) → k < length ns → IsSoundWhere (made_directory_at v starts ns k))
    (few : (k : ℕ) → k < length ns → length (extents_of_owner v (number_of v starts k) runs) ≤ 21) where
  core_fresh : (k : ℕ) → k < length ns → IsFreshCore v (number_of v starts k) (core_at v s starts ns k)
  core_fresh k low =
      let type = files.types k low in
      let some = type_some (node_at ns k).kind in
      record {
        number = refl;
        magic = refl;
        version = refl;
        used = omega (arith, type, some);
        uuid = refl;
        lsn = refl;
        no_attributes = refl;
        plain_data = refl;
        plain = refl;
      }

  file_makes : (k : ℕ) (old : List ℕ) → k < length ns → CanMake v (slot_of_place v s starts ns contents runs k) old
  file_makes k old low =
      record {
        base = core_fresh k low;
        forkoff = omega arith;
        fork = kind_fits (node_at ns k).kind (made_directory_at v starts ns k) (content_at contents k) (extents_of_owner v (number_of v starts k) runs) (sound k low) (few k low);
      }

  -- each slot can be made
  pub slot_makes : (j : ℕ) (old : List ℕ) → CanMake v (slot_of_index v s starts ns contents runs j) old
  slot_makes j old = first (j == 1) refl
    where
      third : (r : Bool) → nat_lt j (length ns + 2) ≡ r → CanMake v (cond r (slot_of_place v s starts ns contents runs (place_of_index j)) (unused_slot (inode_at v starts j))) old
      third true is =
          let less = ltb-true j (length ns + 2) is in
          let place = place_is j in
          let one = files.some in
          file_makes (place_of_index j) old (omega (arith, less, place, one))
      third false is = free_makes v (inode_at v starts j) old

      second : (r : Bool) → CanMake v (cond r (system_slot v s (inode_at v starts 2)) (cond (nat_lt j (length ns + 2)) (slot_of_place v s starts ns contents runs (place_of_index j)) (unused_slot (inode_at v starts j)))) old
      second true = system_makes v s (inode_at v starts 2) old
      second false = third (nat_lt j (length ns + 2)) refl

      first : (r : Bool) → (j == 1) ≡ r
          → CanMake v (cond r (system_slot v s (inode_at v starts 1)) (cond (j == 2) (system_slot v s (inode_at v starts 2)) (cond (nat_lt j (length ns + 2)) (slot_of_place v s starts ns contents runs (place_of_index j)) (unused_slot (inode_at v starts j))))) old
      first true is = system_makes v s (inode_at v starts 1) old
      first false is = second (j == 2)
