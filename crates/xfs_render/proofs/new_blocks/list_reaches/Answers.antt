use Rattle.std.proofs.Common.{◌∙◌, List, ap, subst, sym}
use Rattle.std.specs.List.{All}
use Rattle.std.proofs.lemmas.List.Sorted.{All-permutation}
use Rattle.std.proofs.lemmas.Result.{IfOk-weaker}
use Rattle.xfs_geom.specs.declared.records.Run.{Run}
use Rattle.xfs_place.specs.Pool.{IsRunOf}
use Rattle.xfs_render.specs.NewBlocks.{reaches_of}
use Rattle.xfs_render.proofs.new_blocks.list_reaches.Goals as goal

pub reaches_of-requires : goal.reaches_of-requires
reaches_of-requires c =
    subst (λ (rs : List Run). All (IsRunOf c.args._blocks) rs) (sym c.deref.ensures.value)
    (All-permutation (IsRunOf c.args._blocks) c.args.runs.now c.in_ok-sorted.sorted.items c.in_ok-sorted.ensures.same c.requires)

pub returns : goal.returns
returns c =
    IfOk-weaker c.reaches_of.result _ _
    (λ reaches is.
    record {
      sorted = c.in_ok-sorted.sorted.items;
      same = c.in_ok-sorted.ensures.same;
      ascend = c.in_ok-sorted.ensures.ascend;
      is = is ∙ ap (reaches_of 0) c.deref.ensures.value;
    })
    c.reaches_of.ensures
