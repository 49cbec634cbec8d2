use Rattle.std.proofs.Common.{ℕ, List, map, sym, ◌∙◌, ap, ap₂, subst, arith, ◌*◌}
use Rattle.rayon.proofs.ListFacts.{IfOk-then}
use Rattle.xfs_geom.specs.Volumes.{volume_of}
use Rattle.xfs_geom.specs.declared.records.Span.{Span}
use Rattle.xfs_kinds.specs.FreeRuns.{SpansAscend, free_of}
use Rattle.xfs_space.specs.Sorted.{span_in}
use Rattle.xfs_space.proofs.FreeSpans.{ascends, free_is}
use Rattle.xfs_space.proofs.Splits.{all_behind}
use Rattle.xfs_space.proofs.free_space.free_spans.Goals as goal

pub spans_of-requires-clause-behind : goal.spans_of-requires-clause-behind
spans_of-requires-clause-behind c =
    all_behind c.args.runs.now (c.args.ag * c.args.g.now.agblocks) c.start_of_group.result c.requires.follow (omega (arith, c.start_of_group.ensures.value))

pub free_runs-requires : goal.free_runs-requires
free_runs-requires c =
    subst (λ (ss : List Span). SpansAscend 0 ss) (sym (c.deref.ensures.value ∙ c.in_ok-used.ensures))
    (ascends c.start_of_group.result 0 (c.args.ag * c.args.g.now.agblocks) c.args.runs.now (omega (arith, c.start_of_group.ensures.value)) c.requires.follow)

pub returns : goal.returns
returns c =
    let used = c.deref.ensures.value ∙ c.in_ok-used.ensures ∙ ap (λ (b : ℕ). map (span_in b) c.args.runs.now) c.start_of_group.ensures.value in
    IfOk-then c.free_runs.result _ _ c.free_runs.ensures.runs
    (λ free is. is ∙ ap₂ free_of used c.group_length.ensures.value ∙ free_is (volume_of c.args.g.now) c.args.ag c.args.runs.now c.requires.follow)
