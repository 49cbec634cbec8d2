use Rattle.std.proofs.Common.{List, subst, sym, ◌∙◌}
use Rattle.std.specs.List.{All}
use Rattle.xfs_geom.specs.declared.records.Run.{Run}
use Rattle.xfs_claims.specs.Spans.{IsRun}
use Rattle.xfs_salvage.proofs.Conditions.{runs_are}
use Rattle.xfs_salvage.proofs.claiming.file_claim.Goals as goal

pub are_apart-requires : goal.are_apart-requires
are_apart-requires g c =
    subst (λ (rs : List Run). All IsRun rs) (sym (c.deref.ensures.value ∙ c.in_ok-runs.ensures))
    (runs_are c.args.g.now c.args.file.now (c.is_file.ensures.0 c.if-not-is_file.false))
