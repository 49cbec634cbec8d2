use Rattle.std.proofs.Common.{◌≡◌, List, map, OnOk, ap, subst, sym}
use Rattle.std.specs.List.{All}
use Rattle.xfs_word.specs.declared.extents.Extent.{Extent}
use Rattle.xfs_geom.specs.Volumes.{volume_of}
use Rattle.xfs_geom.specs.declared.records.Run.{Run}
use Rattle.xfs_views.specs.xfs_space.Owners.{attribute_flag, extent_run, runs_of_blocks, tree_flag}
use Rattle.xfs_views.specs.xfs_space.Private.Places.{IsPlacedExtent}
use Rattle.xfs_views.proofs.xfs_space.Lawful.{placed}
use Rattle.xfs_salvage.proofs.Joined.{joined}
use Rattle.xfs_salvage.proofs.runs.push_file_runs.Goals as goal

pub push_extents-requires-clause-placed : goal.push_extents-requires-clause-placed
push_extents-requires-clause-placed c =
    subst (λ (es : List Extent). All (IsPlacedExtent (volume_of c.args.g.now)) es) (sym c.as_slice.ensures)
    (placed (volume_of c.args.g.now) c.args.file.now.ino c.args.file.now.extents c.requires.extents)

pub push_extents-requires-2-clause-placed : goal.push_extents-requires-2-clause-placed
push_extents-requires-2-clause-placed c =
    subst (λ (es : List Extent). All (IsPlacedExtent (volume_of c.args.g.now)) es) (sym c.attr_extents.ensures)
    (placed (volume_of c.args.g.now) c.args.file.now.ino c.args.file.now.rest.attr_extents c.requires.attr_extents)

pub returns : goal.returns
returns c =
    let v = volume_of c.args.g.now in
    let f = c.args.file.now in
    subst (λ (all : List Run). OnOk c.push_blocks.result (c.push_blocks.new.runs.items ≡ all))
    (joined c.args.runs.now.items c.push_extents.new.runs.items c.push_extents-2.new.runs.items
    (map (extent_run v f.ino 0) c.as_slice.result.now) (map (extent_run v f.ino attribute_flag) c.attr_extents.result.now) (runs_of_blocks f.ino tree_flag c.tree.result.now)
    (map (extent_run v f.ino 0) f.extents) (map (extent_run v f.ino attribute_flag) f.rest.attr_extents) (runs_of_blocks f.ino tree_flag f.rest.tree)
    c.in_ok-push_extents.ensures c.in_ok-push_extents-2.ensures
    (ap (map (extent_run v f.ino 0)) c.as_slice.ensures) (ap (map (extent_run v f.ino attribute_flag)) c.attr_extents.ensures) (ap (runs_of_blocks f.ino tree_flag) c.tree.ensures))
    c.push_blocks.ensures
