use Rattle.xfs_rebuild.proofs.Needs.{is_judged, needs_are, still_named}
use Rattle.xfs_rebuild.proofs.names.judge_names.Goals as goal

pub returns : goal.returns
returns c =
    is_judged c.args.root c.args.kept c.args.slots.now c.in_ok-breaks.breaks c.in_ok-names.names c.names_or_clusters.result
    (needs_are c.args.root c.args.kept c.args.slots.now c.in_ok-names.names c.as_slice.result.now c.as_slice-2.result.now c.as_slice-3.result.now c.in_ok-breaks.breaks
    c.in_ok-names.ensures c.as_slice.ensures c.as_slice-2.ensures c.as_slice-3.ensures c.in_ok-breaks.ensures.breaks)
    c.in_ok-names.ensures
    (still_named c.in_ok-names.names c.as_slice.result.now c.as_slice-2.result.now c.as_slice-3.result.now c.as_slice.ensures c.as_slice-2.ensures c.as_slice-3.ensures c.in_ok-breaks.ensures.named)
    c.names_or_clusters.ensures
