use Rattle.std.proofs.Common.{ℕ, not, ◌==◌, length, List, ap, ◌∙◌}
use Rattle.xfs_naming.proofs.Chosen.{any_in_run}
use Rattle.xfs_request.proofs.links.is_in_use.Goals as goal

pub returns : goal.returns
returns c = ap not (c.is_empty.ensures ∙ ap (λ (ns : List ℕ). length ns == 0) c.records_near.ensures) ∙ any_in_run (λ (n : ℕ). n == c.args.ino) c.args.numbers.now
