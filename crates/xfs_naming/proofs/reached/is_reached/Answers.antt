use Rattle.std.proofs.Common.{ℕ, Bool, ap, ◌∙◌}
use Rattle.std.specs.List.{list_any}
use Rattle.xfs_naming.proofs.Numbers.{tied}
use Rattle.xfs_naming.proofs.reached.is_reached.Goals as goal

pub returns : goal.returns
returns c = c.contains.ensures ∙ ap (λ (eq : ℕ → ℕ → Bool). list_any (eq c.args.ino) c.args.reached.now.keys) tied
