-- The blocks of directories and of long targets of a new volume state no log sequence number.
use Rattle.std.proofs.Common.{◌≡◌, inl, inr, ℕ, Bool, true, false, ◌+◌, ◌*◌, ◌/◌, ◌^◌, ◌==◌, ◌≤◌, ◌<◌, nat_le, List, [], ◌∷◌, ◌++◌, length, map, refl, sym, ap, ◌∙◌, subst, arith}
use Rattle.std.specs.Prelude.{if◌then◌else◌}
use Rattle.std.specs.List.{All, flat_map}
use Rattle.std.proofs.lemmas.List.Elements.{All-from_recursion}
use Rattle.xfs_word.specs.Field.{field_of}
use Rattle.xfs_word.specs.declared.extents.Extent.{Extent}
use Rattle.xfs_disk.specs.Blocks.{Image, bytes_of_block}
use Rattle.xfs_disk.specs.declared.stamp.Stamp.{Stamp}
use Rattle.xfs_dirbuild.specs.Forms.{form_of}
use Rattle.xfs_geom.specs.Conversions.{address_of}
use Rattle.xfs_geom.specs.Groups.{block_of_address}
use Rattle.xfs_geom.specs.Volumes.{Volume, volume_of}
use Rattle.xfs_geom.specs.declared.geometry.Geometry.{Geometry}
use Rattle.xfs_geom.specs.declared.records.Run.{Run}
use Rattle.xfs_image.specs.Lsns.{LsnPlace, dir_byte, extent_places, file_places, lsn_at}
use Rattle.xfs_inodebuild.specs.declared.forks.ForkWanted.{ForkWanted}
use Rattle.xfs_place.specs.declared.wanted.RunAsk.{RunAsk}
use Rattle.xfs_proto.specs.declared.protofile.ProtoKind.{ProtoKind}
use Rattle.xfs_proto.specs.declared.protofile.ProtoKind.TheVariants as Kind
use Rattle.xfs_proto.specs.declared.protofile.ProtoNode.{ProtoNode}
use Rattle.xfs_views.proofs.Members.{Member, all_members, member_either}
use Rattle.xfs_render.specs.declared.plan.Plan.{Plan}
use Rattle.xfs_built.proofs.Mapping.{address_leads}
use Rattle.xfs_built.specs.Extents.{extent_of_run}
use Rattle.xfs_volume.specs.declared.files.FileRec.{FileRec}
use Rattle.xfs_empty.specs.Inodes.{system_core}
use Rattle.xfs_made.specs.Files.{plain_file}
use Rattle.xfs_filled.specs.Chunks.{chunk_starts}
use Rattle.xfs_filled.specs.Directories.{made_directory_at, fresh_fork_bytes}
use Rattle.xfs_filled.specs.Entries.{entries_at, parent_of_place}
use Rattle.xfs_filled.specs.FileTrees.{is_directory_node, is_directory_kind, node_at, type_of_kind}
use Rattle.xfs_filled.specs.Forks.{extent_fork, extents_of_owner, extents_of_run, fork_of_kind, local_fork, owned_by}
use Rattle.xfs_filled.specs.Numbers.{number_of}
use Rattle.xfs_filled.specs.Objects.{content_at, run_of, runs_at, runs_of_kind}
use Rattle.xfs_filled.proofs.Entering.{entries_few, entries_writable}
use Rattle.xfs_populated.specs.Names.{AreDirectoriesBuilt}
use Rattle.xfs_populated.specs.Populated.{IsPopulated, filled_file, filled_files, filled_fork}
use Rattle.xfs_populated.proofs.DirectoriesRead.{some_blocks, stands_at}
use Rattle.xfs_populated.proofs.DirectoryFiles.{runs_extents}
use Rattle.xfs_populated.proofs.DueNames.{due_states}
use Rattle.xfs_populated.proofs.FileServed.{AreServed, file_served}
use Rattle.xfs_populated.proofs.FilesLinked.{link_blocks}
use Rattle.xfs_built.proofs.BuiltNumbers.{built_zero}
use Rattle.xfs_populated.proofs.NameLists.{all_flat}
use Rattle.xfs_populated.proofs.NamedFiles.{all_files}
use Rattle.xfs_populated.proofs.NumbersStand.{chunks_placed, numbers_stand}
use Rattle.xfs_populated.proofs.SlotLinks.{one_ask, one_block, served_one}
use Rattle.xfs_populated.proofs.SlotTargets.{HasLinkBlockOf}

module _ (g : Geometry) (sector : List ℕ) (s : Stamp) (ns : List ProtoNode) (contents : List (List ℕ)) (plan : Plan) (blocks : ℕ) (image : Image) (crc : ℕ → ℕ)
    (is : IsPopulated g sector s ns contents plan blocks image) (built : AreDirectoriesBuilt (volume_of g) (chunk_starts g (length ns)) ns) where
  abbrev v : Volume
  v = volume_of g

  abbrev starts : List ℕ
  starts = chunk_starts g (length ns)

  abbrev runs : List Run
  runs = is.filled.placed.runs

  abbrev due : ℕ → FileRec
  due = filled_file v s starts ns contents runs crc

  abbrev fork : ℕ → ForkWanted
  fork k = filled_fork v s starts ns contents runs crc k

  abbrev IsZero : LsnPlace → Type 0
  IsZero place = (lsn_at image place).lsn ≡ 0

  -- of a directory
  directory_zero : (k : ℕ) → k < length ns → is_directory_node ns k ≡ true → (place : LsnPlace) → Member place (flat_map (extent_places v dir_byte) (due k).extents) → IsZero place
  directory_zero k low dir place at_place = by_format ((fork k).format == 2) at_place
    where
      by_format : (t : Bool) → Member place (flat_map (extent_places v dir_byte) (if t then extents_of_owner v (number_of v starts k) runs else [])) → IsZero place
      by_format false none = absurd none
      by_format true there =
          let at = stands_at g sector s ns contents plan blocks image crc is built k low dir in
          let placed = chunks_placed g ns is.first is.room.chunks in
          let large = g.shape.groups.large in
          let own = subst (All (λ (r : Run). 1 ≤ r.count)) at.own (some_blocks g sector s ns contents plan blocks image crc is built (number_of v starts k)) in
          let extents : extents_of_owner v (number_of v starts k) runs ≡ map (extent_of_run v) at.mine =
          ap (flat_map (extents_of_run v)) at.own ∙ runs_extents v at.mine at.stands.low' own in
          built_zero v image (omega (arith, large)) g.shape.addresses.enough (form_of (entries_at v starts ns k) fresh_fork_bytes) (entries_at v starts ns k) (parent_of_place v starts ns k)
          (record { ino = number_of v starts k; image = at.built.has.image }) at.mine at.built.has.is (entries_writable g starts ns k placed is.files) (entries_few v starts ns k is.files) at.built.sized at.stands
          place (subst (λ (es : List Extent). Member place (flat_map (extent_places v dir_byte) es)) extents there)

  -- of a symbolic link
  link_zero : (k : ℕ) → k < length ns → (target : List ℕ) → (node_at ns k).kind ≡ Kind.Link target → (place : LsnPlace)
      → Member place (flat_map (extent_places v (λ offset. 48)) (due k).extents) → IsZero place
  link_zero k low target kind place at_place = by_long (nat_le (length target) 336) refl
    where
      ino : ℕ
      ino = number_of v starts k

      fork_is : fork k ≡ (if nat_le (length target) 336 then local_fork target else extent_fork (length target) (extents_of_owner v (number_of v starts k) runs))
      fork_is = ap (λ (q : ProtoKind). fork_of_kind q (made_directory_at v starts ns k) (content_at contents k) (extents_of_owner v (number_of v starts k) runs)) kind

      by_long : (t : Bool) → nat_le (length target) 336 ≡ t → IsZero place
      by_long true short =
          let local : fork k ≡ local_fork target = fork_is ∙ ap (λ (t : Bool). if t then local_fork target else extent_fork (length target) (extents_of_owner v (number_of v starts k) runs)) short in
          let none : (due k).extents ≡ [] = ap (λ (f : ForkWanted). if f.format == 2 then extents_of_owner v (number_of v starts k) runs else []) local in
          absurd (subst (λ (es : List Extent). Member place (flat_map (extent_places v (λ offset. 48)) es)) none at_place)
      by_long false long =
          let placed = chunks_placed g ns is.first is.room.chunks in
          let large = g.shape.groups.large in
          let asks : runs_at v starts ns contents k ≡ one_ask (number_of v starts k) ∷ [] =
          ap (λ (q : ProtoKind). runs_of_kind q (made_directory_at v starts ns k) (content_at contents k) (number_of v starts k)) kind
          ∙ ap (λ (t : Bool). run_of (if t then 0 else 1) (number_of v starts k) 0) long in
          let one = served_one (number_of v starts k) (owned_by (number_of v starts k) runs)
          (subst (λ (xs : List RunAsk). AreServed xs (owned_by (number_of v starts k) runs)) asks (file_served g starts ns contents is.filled.placed.cuts runs k placed low is.filled.served))
          (some_blocks g sector s ns contents plan blocks image crc is built (number_of v starts k)) in
          let holds = subst (HasLinkBlockOf g starts runs image k) kind (link_blocks g sector s ns contents plan blocks image is k low) long one.0 one.1 in
          let in_block : fork k ≡ extent_fork (length target) (extents_of_owner v (number_of v starts k) runs) =
          fork_is ∙ ap (λ (t : Bool). if t then local_fork target else extent_fork (length target) (extents_of_owner v (number_of v starts k) runs)) long in
          let extents : (due k).extents ≡ extents_of_run v (one_block (number_of v starts k) one.0) ++ [] =
          ap (λ (f : ForkWanted). if f.format == 2 then extents_of_owner v (number_of v starts k) runs else []) in_block ∙ ap (flat_map (extents_of_run v)) one.1 in
          let first : one.0 + 0 * 2097151 ≡ one.0 = omega arith in
          let leads : block_of_address v.agblocks v.agblklog (address_of v (one.0 + 0 * 2097151)) ≡ one.0 =
          ap (λ (b : ℕ). block_of_address v.agblocks v.agblklog (address_of v b)) first ∙ address_leads v one.0 (omega (arith, large)) g.shape.addresses.enough in
          let block : block_of_address v.agblocks v.agblklog (address_of v (one.0 + 0 * 2097151)) + 0 ≡ one.0 = omega (arith, leads) in
          elim (subst (λ (es : List Extent). Member place (flat_map (extent_places v (λ offset. 48)) es)) extents at_place) [
            | inl same ↦ ap (λ (p : LsnPlace). (lsn_at image p).lsn) (sym same) ∙ (ap (λ (n : ℕ). field_of (bytes_of_block image n) 48 8) block ∙ holds.lsn)
            | inr none ↦ absurd none
          ]

  abbrev places_by : List Extent → ℕ → List LsnPlace
  places_by es type = if type == 4 then flat_map (extent_places v dir_byte) es else if type == 10 then flat_map (extent_places v (λ offset. 48)) es else []

  kind_zero : (k : ℕ) → k < length ns → (kind : ProtoKind) → (node_at ns k).kind ≡ kind → (place : LsnPlace) → Member place (places_by (due k).extents (type_of_kind kind)) → IsZero place
  kind_zero k low (Kind.Regular name line) kind place there = absurd there
  kind_zero k low Kind.Directory kind place there = directory_zero k low (ap is_directory_kind kind) place there
  kind_zero k low (Kind.Link target) kind place there = link_zero k low target kind place there
  kind_zero k low (Kind.Block major minor) kind place there = absurd there
  kind_zero k low (Kind.Character major minor) kind place there = absurd there
  kind_zero k low Kind.Pipe kind place there = absurd there

  file_zero : (k : ℕ) → k < length ns → (place : LsnPlace) → Member place (file_places v (due k)) → IsZero place
  file_zero k low place there =
      elim (member_either place (places_by (due k).extents ((node_at ns k).mode / 2 ^ 12) ++ []) [] there) [
        | inl front ↦ elim (member_either place (places_by (due k).extents ((node_at ns k).mode / 2 ^ 12)) [] front) [
          | inl listed ↦ kind_zero k low (node_at ns k).kind refl place (subst (λ (type : ℕ). Member place (places_by (due k).extents type)) (is.files.types k low) listed)
          | inr none ↦ absurd none
        ]
        | inr none ↦ absurd none
      ]

  all_zero : (k : ℕ) → k < length ns → All IsZero (file_places v (due k))
  all_zero k low = All-from_recursion IsZero (file_places v (due k)) (all_members IsZero (file_places v (due k)) (file_zero k low))

  no_places : (ino : ℕ) → All IsZero (file_places v (plain_file (system_core v s ino) (crc ino)))
  no_places ino k d low = absurd (omega (arith, low))

  pub files_zero : All (λ (place : LsnPlace). (lsn_at image place).lsn ≡ 0) (flat_map (file_places (volume_of g)) (filled_files (volume_of g) s (chunk_starts g (length ns)) ns contents is.filled.placed.runs crc))
  unfolding filled_files
  files_zero =
      all_flat IsZero (file_places v) (filled_files v s starts ns contents runs crc)
      (all_files v starts ns is.files (numbers_stand g ns is.first is.room.chunks) due (plain_file (system_core v s 129) (crc 129)) (plain_file (system_core v s 130) (crc 130))
      (due_states v s starts ns contents runs crc is.files) (λ f. All IsZero (file_places v f)) (no_places 129) (no_places 130) all_zero)
