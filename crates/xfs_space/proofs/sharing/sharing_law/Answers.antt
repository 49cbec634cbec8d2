use Rattle.std.proofs.Common.{ℕ, Some, sym, ◌∙◌, ap}
use Rattle.xfs_volume.specs.Laws.{law_at}
use Rattle.xfs_space.proofs.Shared.{follow_once, sharing_broken, sharing_kept}
use Rattle.xfs_space.proofs.sharing.sharing_law.Goals as goal

pub returns-in-Some-clause-law : goal.returns-in-Some-clause-law
returns-in-Some-clause-law c v owned =
    ap (λ (n : ℕ). Some (law_at 1 c.in-Some.block n 1)) c.count_on.ensures ∙ sym (sharing_broken v c.args.runs.now c.in-Some.block owned c.in-Some.ensures)

pub returns-in-None-clause-law : goal.returns-in-None-clause-law
returns-in-None-clause-law c v owned = sym (sharing_kept v c.args.runs.now (follow_once c.args.runs.now 0 c.in-None.ensures))
