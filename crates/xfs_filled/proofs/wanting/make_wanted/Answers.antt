use Rattle.std.proofs.Common.{◌≡◌, ℕ, false, List, [], length, map, refl, ◌∙◌}
use Rattle.xfs_geom.specs.Volumes.{volume_of}
use Rattle.xfs_geom.specs.declared.geometry.Geometry.{Geometry}
use Rattle.xfs_geom.specs.declared.records.Run.{Run}
use Rattle.xfs_place.specs.declared.wanted.GroupInodes.{GroupInodes}
use Rattle.xfs_place.specs.declared.wanted.Object.{Object}
use Rattle.xfs_place.specs.declared.wanted.Wanted.{Wanted}
use Rattle.xfs_proto.specs.declared.protofile.ProtoNode.{ProtoNode}
use Rattle.xfs_filled.specs.Chunks.{inodes_filled, chunk_at, spared_list}
use Rattle.xfs_filled.specs.Objects.{all_objects}
use Rattle.xfs_filled.specs.Wanting.{wanted_by_chunks}
use Rattle.xfs_filled.proofs.wanting.make_wanted.Goals as goal

wanted_is : (g : Geometry) (starts : List ℕ) (ns : List ProtoNode) (contents : List (List ℕ)) (taken new : List Run) (reserved spared : List ℕ) (objects : List Object) (inodes : List GroupInodes)
    → taken ≡ [] → new ≡ map chunk_at starts → reserved ≡ [] → spared ≡ spared_list g → objects ≡ all_objects (volume_of g) starts ns contents → inodes ≡ inodes_filled g (length ns) starts
    → ◌≡◌ {A = Wanted} (record { geometry = g; taken = taken; new = new; reserved = reserved; from = 24; spared_from = spared; takes_spared = false; objects = objects; inodes = inodes })
    (wanted_by_chunks g starts ns contents)
wanted_is g starts ns contents taken new reserved spared objects inodes none runs all_free room are groups = rw (none, runs, all_free, room, are, groups) refl

pub returns : goal.returns
returns c =
    wanted_is c.args.site.now.geometry.now c.args.site.now.starts.now c.args.site.now.nodes.now c.args.site.now.contents.now c.from_vec.result c.from_vec-2.result c.from_vec-3.result c.args.spared_from
    c.from_vec-4.result c.from_vec-5.result (c.from_vec.ensures ∙ c.new.ensures.items) (c.from_vec-2.ensures ∙ c.in_ok-list_runs.ensures) (c.from_vec-3.ensures ∙ c.new-2.ensures.items) c.requires.spared (c.from_vec-4.ensures ∙ c.in_ok-objects.ensures)
    (c.from_vec-5.ensures ∙ c.in_ok-inodes.ensures)
