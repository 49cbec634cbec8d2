-- The regular files of a new volume have their bytes.
use Rattle.std.proofs.Common.{◌≡◌, ℕ, ◌==◌, ◌<◌, Bool, true, false, cond, if◌then◌else◌, List, [], ◌∷◌, length, map, get_or, arith, refl, subst, ap, ◌∙◌}
use Rattle.std.specs.List.{range_with_len}
use Rattle.std.proofs.lemmas.Bool.{eqb-true}
use Rattle.std.proofs.lemmas.List.{ext_get_or}
use Rattle.std.proofs.lemmas.List.FromFn.{get_or-map-range_with_len, length-map-range_with_len}
use Rattle.xfs_word.specs.declared.extents.Extent.{Extent}
use Rattle.xfs_disk.specs.Blocks.{Image}
use Rattle.xfs_disk.specs.declared.stamp.Stamp.{Stamp}
use Rattle.xfs_geom.specs.Volumes.{Volume, volume_of}
use Rattle.xfs_geom.specs.declared.geometry.Geometry.{Geometry}
use Rattle.xfs_geom.specs.declared.records.Run.{Run}
use Rattle.xfs_image.specs.Keeping.{byte_over, file_bytes}
use Rattle.xfs_inodebuild.specs.declared.forks.ForkWanted.{ForkWanted}
use Rattle.xfs_place.specs.Wanted.{kept_runs}
use Rattle.xfs_place.specs.declared.wanted.Object.{Object}
use Rattle.xfs_place.specs.declared.wanted.ObjectKind.TheVariants as kinds
use Rattle.xfs_place.specs.declared.wanted.RunAsk.{RunAsk}
use Rattle.xfs_render.specs.declared.plan.Plan.{Plan}
use Rattle.xfs_proto.specs.declared.protofile.ProtoKind.{ProtoKind}
use Rattle.xfs_proto.specs.declared.protofile.ProtoKind.TheVariants as Kind
use Rattle.xfs_proto.specs.declared.protofile.ProtoNode.{ProtoNode}
use Rattle.xfs_filled.specs.Chunks.{chunk_starts}
use Rattle.xfs_filled.specs.Contents.{blocks_of_kind}
use Rattle.xfs_filled.specs.Directories.{made_directory_at}
use Rattle.xfs_filled.specs.FileTrees.{node_at}
use Rattle.xfs_filled.specs.Forks.{extent_fork, extents_of_owner, fork_of_kind, owned_by}
use Rattle.xfs_filled.specs.Numbers.{number_of}
use Rattle.xfs_filled.specs.Objects.{blocks_of_length, content_at, object_kind, object_with_runs, run_of, runs_at, runs_of_kind}
use Rattle.xfs_filled.specs.Wanting.{filled_wanted}
use Rattle.xfs_filled.proofs.Numbering.{number_low}
use Rattle.xfs_populated.specs.Bytes.{is_regular}
use Rattle.xfs_populated.specs.Populated.{IsPopulated, filled_file, filled_fork}
use Rattle.xfs_populated.proofs.FileBlocks.{HasObjectBlocks}
use Rattle.xfs_populated.proofs.FileExtents.{content_few, own_claims, served}
use Rattle.xfs_populated.proofs.FileHeld.{byte_held, data_ask, data_object}
use Rattle.xfs_populated.proofs.FileServed.{AreServed}
use Rattle.xfs_populated.proofs.FilesLinked.{file_blocks}
use Rattle.xfs_populated.proofs.SlotsHeld.{populated_runs}
use Rattle.xfs_populated.proofs.SlotsRead.{populated_at}

number_is : (n : ℕ) → blocks_of_length n ≡ 0 → n ≡ 0
number_is n none = omega (arith, none)

-- the kind of a regular file
regular : (P : ProtoKind → Type 0) (kind : ProtoKind) → is_regular kind ≡ true → ((name : List ℕ) (line : ℕ) → P (Kind.Regular name line)) → P kind
regular P (Kind.Regular name line) is each = each name line
regular P Kind.Directory is each = absurd cc
regular P (Kind.Link target) is each = absurd cc
regular P (Kind.Block major minor) is each = absurd cc
regular P (Kind.Character major minor) is each = absurd cc
regular P Kind.Pipe is each = absurd cc

module _ (g : Geometry) (sector : List ℕ) (s : Stamp) (ns : List ProtoNode) (contents : List (List ℕ)) (plan : Plan) (blocks : ℕ) (image : Image) (crc : ℕ → ℕ)
    (is : IsPopulated g sector s ns contents plan blocks image) (k : ℕ) (low : k < length ns) where
  abbrev v : Volume
  v = volume_of g

  abbrev starts : List ℕ
  starts = chunk_starts g (length ns)

  abbrev runs : List Run
  runs = is.filled.placed.runs

  abbrev kept : List Run
  kept = kept_runs (filled_wanted g ns contents)

  abbrev ino : ℕ
  ino = number_of v starts k

  abbrev content : List ℕ
  content = content_at contents k

  abbrev count : ℕ
  count = blocks_of_length (length content)

  abbrev extents : List Extent
  extents = extents_of_owner v ino runs

  -- a file of which each byte stands over its extents
  bytes_are : filled_fork v s starts ns contents runs crc k ≡ extent_fork (length content) extents → ((i : ℕ) → i < length content → byte_over v image extents i ≡ get_or content i 0)
      → file_bytes v image (filled_file v s starts ns contents runs crc k) ≡ content
  unfolding file_bytes
  bytes_are fork each =
      ap (λ (f : ForkWanted). map (byte_over v image (if f.format == 2 then extents else [])) (range_with_len 0 f.size)) fork
      ∙ ext_get_or 0 (map (byte_over v image extents) (range_with_len 0 (length content))) content long
      (λ i inside.
      let here : i < length content = omega (arith, long, inside) in
      get_or-map-range_with_len (byte_over v image extents) 0 (length content) i i 0 here (omega arith) ∙ each i here)
    where
      long : length (map (byte_over v image extents) (range_with_len 0 (length content))) ≡ length content
      long = length-map-range_with_len (byte_over v image extents) 0 (length content)

  module _ (name : List ℕ) (line : ℕ) (kind : (node_at ns k).kind ≡ Kind.Regular name line) where
    fork_is : filled_fork v s starts ns contents runs crc k ≡ extent_fork (length content) extents
    fork_is = ap (λ (x : ProtoKind). fork_of_kind x (made_directory_at v starts ns k) content extents) kind

    asks_are : runs_at v starts ns contents k ≡ run_of count ino 0
    asks_are = ap (λ (x : ProtoKind). runs_of_kind x (made_directory_at v starts ns k) content ino) kind

    each_byte : (t : Bool) → (count == 0) ≡ t → (i : ℕ) → i < length content → byte_over v image extents i ≡ get_or content i 0
    each_byte true none i inside =
        let empty = number_is (length content) (eqb-true count 0 none) in
        absurd (omega (arith, empty, inside))
    each_byte false some i inside =
        let placed = populated_at g sector s ns contents plan blocks image is in
        let are = populated_runs g sector s ns contents plan blocks image is in
        let number = number_low g starts ns k placed low in
        let large = g.shape.groups.large in
        let one : run_of count ino 0 ≡ data_ask ino count ∷ [] = ap (λ (t : Bool). cond t [] (data_ask ino count ∷ [])) some in
        let claims = own_claims g starts ns contents kept runs is.filled.placed.cuts k placed is.files low is.filled.served is.filled.stands.apart are in
        byte_held v image ino count runs content i (omega (arith, large)) g.shape.addresses.enough (omega (arith, number))
        (content_few g starts ns contents kept runs is.filled.placed.cuts k placed is.files low is.filled.served is.filled.stands.apart are asks_are) refl
        (λ j d few. (claims j d few).some)
        (subst (λ (asks : List RunAsk). AreServed asks (owned_by ino runs)) (asks_are ∙ one)
        (served g starts ns contents kept runs is.filled.placed.cuts k placed is.files low is.filled.served is.filled.stands.apart are))
        (subst (λ (built : List (List ℕ)). HasObjectBlocks v image (data_object ino count ∷ []) built runs) (ap (λ (x : ProtoKind). blocks_of_kind x (made_directory_at v starts ns k) content) kind)
        (subst (λ (objects : List Object). HasObjectBlocks v image objects (blocks_of_kind (node_at ns k).kind (made_directory_at v starts ns k) content) runs)
        (ap (λ (x : ProtoKind). object_with_runs (object_kind x) ino (runs_of_kind x (made_directory_at v starts ns k) content ino)) kind ∙ ap (object_with_runs kinds.Data ino) one)
        (file_blocks g sector s ns contents plan blocks image is k low))) inside

    file_has : file_bytes v image (filled_file v s starts ns contents runs crc k) ≡ content
    file_has = bytes_are fork_is (each_byte (count == 0) refl)

  pub bytes_there : is_regular (node_at ns k).kind ≡ true → file_bytes v image (filled_file v s starts ns contents runs crc k) ≡ content
  bytes_there regular' =
      regular (λ (x : ProtoKind). (node_at ns k).kind ≡ x → file_bytes v image (filled_file v s starts ns contents runs crc k) ≡ content) (node_at ns k).kind regular' file_has refl
