-- All slots read as they are due, where each block of a long target has it.
use Rattle.std.proofs.Common.{◌≡◌, ℕ, zero, Bool, false, ◌*◌, ◌/◌, ◌<◌, nat_le, List, [], ◌∷◌, ◌++◌, length, arith, refl, subst, ap, ◌∙◌}
use Rattle.std.specs.Prelude.{if◌then◌else◌}
use Rattle.std.specs.List.{All}
use Rattle.xfs_disk.specs.Blocks.{Image, bytes_of_block}
use Rattle.xfs_disk.specs.declared.stamp.Stamp.{Stamp}
use Rattle.xfs_geom.specs.Volumes.{Volume, volume_of}
use Rattle.xfs_geom.specs.declared.geometry.Geometry.{Geometry}
use Rattle.xfs_geom.specs.declared.records.Run.{Run}
use Rattle.xfs_inodebuild.specs.declared.forks.ForkWanted.{ForkWanted}
use Rattle.xfs_place.specs.Claims.{IsClaimedRun}
use Rattle.xfs_place.specs.Objects.{ServeAsks, asks_of}
use Rattle.xfs_place.specs.Wanted.{CanBeKept, kept_runs}
use Rattle.xfs_place.specs.declared.wanted.RunAsk.{RunAsk}
use Rattle.xfs_render.specs.declared.plan.Plan.{Plan}
use Rattle.xfs_image.specs.Slots.{slot_bytes}
use Rattle.xfs_made.specs.Files.{slot_crc}
use Rattle.xfs_proto.specs.declared.protofile.ProtoKind.{ProtoKind}
use Rattle.xfs_proto.specs.declared.protofile.ProtoKind.TheVariants as Kind
use Rattle.xfs_proto.specs.declared.protofile.ProtoNode.{ProtoNode}
use Rattle.xfs_filled.specs.Chunks.{chunk_starts}
use Rattle.xfs_filled.specs.Directories.{made_directory_at}
use Rattle.xfs_filled.specs.FileTrees.{AreProtoNodes, CanHold, node_at, object_order, type_of_kind}
use Rattle.xfs_filled.specs.Forks.{extent_fork, extents_of_owner, fork_of_kind, local_fork, owned_by}
use Rattle.xfs_filled.specs.Numbers.{number_of}
use Rattle.xfs_filled.specs.Objects.{all_objects, content_at, run_of, runs_at, runs_of_kind}
use Rattle.xfs_filled.specs.Sites.{AreChunksPlaced}
use Rattle.xfs_filled.specs.Slots.{core_at}
use Rattle.xfs_filled.specs.Spans.{AreRunsOf}
use Rattle.xfs_filled.specs.Wanting.{filled_wanted}
use Rattle.xfs_filled.proofs.Numbering.{index_low}
use Rattle.xfs_populated.specs.FilledSlots.{ReadAsDue}
use Rattle.xfs_populated.specs.Populated.{IsPopulated, filled_fork}
use Rattle.xfs_populated.proofs.FileExtents.{file_extents, own_claims}
use Rattle.xfs_populated.proofs.FileServed.{AreServed, file_served}
use Rattle.xfs_populated.proofs.SlotFiles.{link, tree}
use Rattle.xfs_populated.proofs.SlotLinks.{HoldsTarget, link_holds, link_target_is, one_ask, one_block, served_one}
use Rattle.xfs_populated.proofs.SlotMade.{IsForkedSlot, file_slot_is}
use Rattle.xfs_populated.proofs.SlotStanding.{slots_are_made}
use Rattle.xfs_populated.proofs.SlotsHeld.{HasTarget, HasTargetOf, populated_runs, slots_held}
use Rattle.xfs_populated.proofs.SlotsRead.{populated_at}

module _ (g : Geometry) (starts : List ℕ) (runs : List Run) (image : Image) (k : ℕ) where
  -- the block of the target of a link, where the target is long
  abbrev pub HasLinkBlockOf : ProtoKind → Type 0
  HasLinkBlockOf (Kind.Regular name line) = Unit {0}
  HasLinkBlockOf Kind.Directory = Unit {0}
  HasLinkBlockOf (Kind.Link target) =
      nat_le (length target) 336 ≡ false → (b : ℕ) → owned_by (number_of (volume_of g) starts k) runs ≡ one_block (number_of (volume_of g) starts k) b ∷ []
      → HoldsTarget (volume_of g) (number_of (volume_of g) starts k) b target (bytes_of_block image b)
  HasLinkBlockOf (Kind.Block major minor) = Unit {0}
  HasLinkBlockOf (Kind.Character major minor) = Unit {0}
  HasLinkBlockOf Kind.Pipe = Unit {0}

module _ (g : Geometry) (s : Stamp) (starts : List ℕ) (ns : List ProtoNode) (contents : List (List ℕ)) (kept runs : List Run) (cuts : List ℕ) (image : Image) (k : ℕ)
    (placed : AreChunksPlaced g starts ns) (files : AreProtoNodes ns) (low : k < length ns) (serve : ServeAsks (asks_of (all_objects (volume_of g) starts ns contents)) cuts runs)
    (apart : CanBeKept (volume_of g) (kept ++ runs)) (are : AreRunsOf (volume_of g) starts (object_order ns) runs)
    (made : IsForkedSlot (volume_of g) (core_at (volume_of g) s starts ns k) (filled_fork (volume_of g) s starts ns contents runs (slot_crc (volume_of g) image) k) (slot_bytes (volume_of g) image (number_of (volume_of g) starts k))) where
  abbrev v : Volume
  v = volume_of g

  abbrev ino : ℕ
  ino = number_of v starts k

  abbrev own : List Run
  own = owned_by ino runs

  abbrev slot : List ℕ
  slot = slot_bytes v image ino

  link_target : (target : List ℕ) → (node_at ns k).kind ≡ Kind.Link target → CanHold (Kind.Link target) → (node_at ns k).mode / 4096 ≡ 10 → HasLinkBlockOf g starts runs image k (Kind.Link target)
      → HasTargetOf g s starts ns contents runs image k (Kind.Link target)
  link_target target is can type has long =
      let asks : runs_at v starts ns contents k ≡ one_ask ino ∷ [] =
      ap (λ (kind : ProtoKind). runs_of_kind kind (made_directory_at v starts ns k) (content_at contents k) ino) is ∙ ap (λ (t : Bool). run_of (if t then 0 else 1) ino 0) long in
      let one = served_one ino own (subst (λ (xs : List RunAsk). AreServed xs own) asks (file_served g starts ns contents cuts runs k placed low serve))
      (λ i d less. (own_claims g starts ns contents kept runs cuts k placed files low serve apart are i d less).some) in
      let claims : All (IsClaimedRun g.dblocks) (one_block ino one.0 ∷ []) = subst (All (IsClaimedRun g.dblocks)) one.1 (own_claims g starts ns contents kept runs cuts k placed files low serve apart are) in
      let ends = (claims zero (one_block ino one.0) (omega arith)).inside in
      let fork : fork_of_kind (node_at ns k).kind (made_directory_at v starts ns k) (content_at contents k) (extents_of_owner v ino runs) ≡ extent_fork (length target) (extents_of_owner v ino runs) =
      ap (λ (kind : ProtoKind). fork_of_kind kind (made_directory_at v starts ns k) (content_at contents k) (extents_of_owner v ino runs)) is
      ∙ ap (λ (t : Bool). if t then local_fork target else extent_fork (length target) (extents_of_owner v ino runs)) long in
      let forked : IsForkedSlot v (core_at v s starts ns k) (extent_fork (length target) (extents_of_owner v ino runs)) slot = subst (λ (f : ForkWanted). IsForkedSlot v (core_at v s starts ns k) f slot) fork made in
      let extents = file_extents g starts ns contents kept runs cuts k placed files low serve apart are in
      let holds = has long one.0 one.1 in (
        link_holds g s starts ns runs image k one.0 slot (tree v s starts ns contents runs image k) (link v s starts ns contents runs image k) target type (omega (arith, ends)) one.1 extents forked refl can.0 can.1 holds,
        link_target_is g s starts ns runs image k one.0 slot (tree v s starts ns contents runs image k) (link v s starts ns contents runs image k) target type (omega (arith, ends)) one.1 extents forked refl can.0 can.1 holds,
      )

  target_of : (kind : ProtoKind) → (node_at ns k).kind ≡ kind → CanHold kind → (node_at ns k).mode / 4096 ≡ type_of_kind kind → HasLinkBlockOf g starts runs image k kind
      → HasTargetOf g s starts ns contents runs image k kind
  target_of (Kind.Regular name line) is can type has = tt
  target_of Kind.Directory is can type has = tt
  target_of (Kind.Link target) is can type has = link_target target is can type has
  target_of (Kind.Block major minor) is can type has = tt
  target_of (Kind.Character major minor) is can type has = tt
  target_of Kind.Pipe is can type has = tt

  pub has_target : HasLinkBlockOf g starts runs image k (node_at ns k).kind → HasTarget g s starts ns contents runs image k
  has_target has = target_of (node_at ns k).kind refl (files.contents k low) (files.types k low) has

-- all slots read as they are due
pub slots_due : (g : Geometry) (sector : List ℕ) (s : Stamp) (ns : List ProtoNode) (contents : List (List ℕ)) (plan : Plan) (blocks : ℕ) (image : Image)
    → (is : IsPopulated g sector s ns contents plan blocks image)
    → ((k : ℕ) → k < length ns → HasLinkBlockOf g (chunk_starts g (length ns)) is.filled.placed.runs image k (node_at ns k).kind)
    → ReadAsDue (volume_of g) s (chunk_starts g (length ns)) ns contents is.filled.placed.runs image
slots_due g sector s ns contents plan blocks image is has =
    let placed = populated_at g sector s ns contents plan blocks image is in
    let enough = placed.enough in
    slots_held g sector s ns contents plan blocks image is (λ k low.
    has_target g s (chunk_starts g (length ns)) ns contents (kept_runs (filled_wanted g ns contents)) is.filled.placed.runs is.filled.placed.cuts image k placed is.files low is.filled.served is.filled.stands.apart
    (populated_runs g sector s ns contents plan blocks image is)
    (file_slot_is (volume_of g) s (chunk_starts g (length ns)) ns contents is.filled.placed.runs image (slots_are_made g sector s ns contents plan blocks image is) k low
    (index_low k (64 * length (chunk_starts g (length ns))) (omega (arith, enough, low))))
    (has k low))
