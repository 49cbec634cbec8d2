-- The blocks of all long targets of a new volume have them.
use Rattle.std.proofs.Common.{◌≡◌, ℕ, Bool, ◌≤◌, ◌<◌, List, [], ◌∷◌, length, get_or, refl, sym, subst, ap, ◌∙◌}
use Rattle.std.specs.Prelude.{if◌then◌else◌}
use Rattle.std.specs.List.{All, Contains, flat_map}
use Rattle.std.proofs.lemmas.List.{get_or_default}
use Rattle.xfs_disk.specs.Blocks.{Image}
use Rattle.xfs_disk.specs.declared.stamp.Stamp.{Stamp}
use Rattle.xfs_geom.specs.Volumes.{Volume, volume_of}
use Rattle.xfs_geom.specs.declared.geometry.Geometry.{Geometry}
use Rattle.xfs_geom.specs.declared.records.Run.{Run}
use Rattle.xfs_place.specs.Claims.{IsClaimedRun}
use Rattle.xfs_place.specs.Objects.{ServeAsks}
use Rattle.xfs_place.specs.Wanted.{kept_runs}
use Rattle.xfs_place.specs.declared.wanted.ObjectKind.TheVariants as kinds
use Rattle.xfs_place.specs.declared.wanted.RunAsk.{RunAsk}
use Rattle.xfs_render.proofs.ObjectSteps.{plain_all, plain_asks}
use Rattle.xfs_render.specs.Objects.{asks_with_kind, blocks_of_asks}
use Rattle.xfs_render.specs.declared.plan.Plan.{Plan}
use Rattle.xfs_proto.specs.declared.protofile.ProtoKind.{ProtoKind}
use Rattle.xfs_proto.specs.declared.protofile.ProtoKind.TheVariants as Kind
use Rattle.xfs_proto.specs.declared.protofile.ProtoNode.{ProtoNode}
use Rattle.xfs_filled.specs.Chunks.{chunk_starts}
use Rattle.xfs_filled.specs.Contents.{all_blocks, blocks_of_place, blocks_of_kind, block_of_target}
use Rattle.xfs_filled.specs.Directories.{made_directory_at}
use Rattle.xfs_filled.specs.FileTrees.{CanHold, node_at, object_order}
use Rattle.xfs_filled.specs.Numbers.{number_of}
use Rattle.xfs_filled.specs.Objects.{all_objects, content_at, objects_of_place, object_kind, object_with_runs, run_of, runs_of_kind}
use Rattle.xfs_filled.specs.Wanting.{filled_wanted}
use Rattle.xfs_filled.proofs.Ordered.{order_has}
use Rattle.xfs_populated.specs.Populated.{IsPopulated}
use Rattle.xfs_populated.proofs.FileBlocks.{Each, HasObjectBlocks, blocks_found}
use Rattle.xfs_populated.proofs.FileExtents.{all_behind}
use Rattle.xfs_populated.proofs.FileSized.{sound_at}
use Rattle.xfs_populated.proofs.FileTargets.{link_found}
use Rattle.xfs_populated.proofs.SlotTargets.{HasLinkBlockOf}
use Rattle.xfs_populated.proofs.SlotsRead.{populated_at}

module _ (g : Geometry) (sector : List ℕ) (s : Stamp) (ns : List ProtoNode) (contents : List (List ℕ)) (plan : Plan) (blocks : ℕ) (image : Image)
    (is : IsPopulated g sector s ns contents plan blocks image) where
  abbrev v : Volume
  v = volume_of g

  abbrev starts : List ℕ
  starts = chunk_starts g (length ns)

  abbrev runs : List Run
  runs = is.filled.placed.runs

  abbrev cuts : List ℕ
  cuts = is.filled.placed.cuts

  serve : ServeAsks (plain_asks (asks_with_kind (flat_map (objects_of_place v starts ns contents) (object_order ns)))) cuts runs
  unfolding all_objects
  serve = subst (λ (asks : List RunAsk). ServeAsks asks cuts runs) (sym (plain_all (flat_map (objects_of_place v starts ns contents) (object_order ns)))) is.filled.served

  each : Each v image (blocks_of_asks (asks_with_kind (flat_map (objects_of_place v starts ns contents) (object_order ns))) cuts runs) (flat_map (blocks_of_place v starts ns contents) (object_order ns))
  unfolding all_objects all_blocks
  each j d low = (is.filled.rendered.reads image is.holds).objects.each j d low

  -- the blocks of the file at a place
  pub file_blocks : (k : ℕ) → k < length ns → HasObjectBlocks v image (objects_of_place v starts ns contents k) (blocks_of_place v starts ns contents k) runs
  file_blocks k low =
      let there : Contains (object_order ns) k = order_has ns k low in
      let place : get_or (object_order ns) there.0 0 ≡ k = get_or_default (object_order ns) there.0 0 k there.1 ∙ there.2 in
      subst (λ (m : ℕ). HasObjectBlocks v image (objects_of_place v starts ns contents m) (blocks_of_place v starts ns contents m) runs) place
      (blocks_found v starts ns contents image (λ m. sound_at g starts ns m (populated_at g sector s ns contents plan blocks image is) is.files) (object_order ns) there.0 cuts runs there.1 serve each)

  some : All (λ (r : Run). 1 ≤ r.count) runs
  some k d low = (all_behind (IsClaimedRun g.dblocks) (kept_runs (filled_wanted g ns contents)) runs is.filled.stands.apart.each k d low).some

  link_of : (k : ℕ) → k < length ns → (kind : ProtoKind) → (node_at ns k).kind ≡ kind → CanHold kind → HasLinkBlockOf g starts runs image k kind
  link_of k low (Kind.Regular name line) same can = tt
  link_of k low Kind.Directory same can = tt
  link_of k low (Kind.Link target) same can = λ long b own.
      let ino : ℕ = number_of v starts k in
      let made = made_directory_at v starts ns k in
      let content = content_at contents k in
      link_found v image (number_of v starts k) b target (objects_of_place v starts ns contents k) (blocks_of_place v starts ns contents k) runs
      (ap (λ (kind : ProtoKind). object_with_runs (object_kind kind) (number_of v starts k) (runs_of_kind kind (made_directory_at v starts ns k) (content_at contents k) (number_of v starts k))) same
      ∙ ap (λ (t : Bool). object_with_runs kinds.Symlink (number_of v starts k) (run_of (if t then 0 else 1) (number_of v starts k) 0)) long)
      (ap (λ (kind : ProtoKind). blocks_of_kind kind (made_directory_at v starts ns k) (content_at contents k)) same ∙ ap (λ (t : Bool). if t then [] else block_of_target target ∷ []) long)
      some own can.1 (file_blocks k low)
  link_of k low (Kind.Block major minor) same can = tt
  link_of k low (Kind.Character major minor) same can = tt
  link_of k low Kind.Pipe same can = tt

  pub link_blocks : (k : ℕ) → k < length ns → HasLinkBlockOf g starts runs image k (node_at ns k).kind
  link_blocks k low = link_of k low (node_at ns k).kind refl (is.files.contents k low)
