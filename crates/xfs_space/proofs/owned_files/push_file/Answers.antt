use Rattle.std.proofs.Common.{List, ◌++◌, map, sym, subst, ◌∙◌, ap}
use Rattle.std.specs.List.{All}
use Rattle.std.proofs.lemmas.Result.{on_ok_weaker}
use Rattle.xfs_word.specs.declared.extents.Extent.{Extent}
use Rattle.xfs_geom.specs.Volumes.{volume_of}
use Rattle.xfs_space.specs.Owners.{attribute_flag, extent_run, runs_of_blocks, tree_flag}
use Rattle.xfs_space.specs.Private.Places.{IsPlacedExtent}
use Rattle.xfs_space.proofs.Lawful.{placed}
use Rattle.xfs_space.proofs.OwnedRuns.{three_put}
use Rattle.xfs_space.proofs.owned_files.push_file.Goals as goal

pub push_extents-requires-clause-placed : goal.push_extents-requires-clause-placed
push_extents-requires-clause-placed c =
    subst (λ (es : List Extent). All (IsPlacedExtent (volume_of c.args.g.now)) es) (sym c.as_slice.ensures)
    (placed (volume_of c.args.g.now) c.args.file.now.ino c.args.file.now.extents c.requires.extents)

pub push_extents-requires-2-clause-placed : goal.push_extents-requires-2-clause-placed
push_extents-requires-2-clause-placed c =
    subst (λ (es : List Extent). All (IsPlacedExtent (volume_of c.args.g.now)) es) (sym c.attr_extents.ensures)
    (placed (volume_of c.args.g.now) c.args.file.now.ino c.args.file.now.rest.attr_extents c.requires.attr_extents)

pub returns-clause-put : goal.returns-clause-put
returns-clause-put c =
    let v = volume_of c.args.g.now in
    let file = c.args.file.now in
    let extents = map (extent_run v file.ino 0) file.extents in
    let attributes = map (extent_run v file.ino attribute_flag) file.rest.attr_extents in
    on_ok_weaker c.push_blocks.result
    (λ put. three_put c.args.runs.now.items c.push_extents.new.runs.items c.push_extents-2.new.runs.items c.push_blocks.new.runs.items extents attributes (runs_of_blocks file.ino tree_flag file.rest.tree)
    (c.in_ok-push_extents.ensures.put ∙ ap (λ es. c.args.runs.now.items ++ map (extent_run v file.ino 0) es) c.as_slice.ensures)
    (c.in_ok-push_extents-2.ensures.put ∙ ap (λ es. c.push_extents.new.runs.items ++ map (extent_run v file.ino attribute_flag) es) c.attr_extents.ensures)
    (put ∙ ap (λ blocks. c.push_extents-2.new.runs.items ++ runs_of_blocks file.ino tree_flag blocks) c.tree.ensures))
    c.push_blocks.ensures

pub returns-clause-small : goal.returns-clause-small
returns-clause-small c = on_ok_weaker c.push_blocks.result (λ _. c.in_ok-push_extents.ensures.small) c.push_blocks.ensures
