use Rattle.std.proofs.Common.{◌++◌, drop, sym, ◌∙◌, ap, List}
use Rattle.std.proofs.lemmas.List.{drop_all, append-nil}
use Rattle.xfs_geom.specs.declared.records.Run.{Run}
use Rattle.xfs_space.proofs.OwnedRuns.{no_trees}
use Rattle.xfs_space.proofs.owned_groups.push_trees.Goals as goal

pub returns : goal.returns
returns c =
    let all = drop_all c.loop-index.index c.args.trees.now c.loop-index-test.false in
    sym (append-nil c.loop-index.runs.items)
    ∙ ap (λ (rs : List Run). c.loop-index.runs.items ++ rs) (sym (rw all (no_trees (drop c.loop-index.index c.args.owners.now))))
    ∙ c.loop-index.invariant
