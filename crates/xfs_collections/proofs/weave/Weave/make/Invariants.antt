use Rattle.std.proofs.Common.{◌≡◌, ℕ, ◌<◌, length, get_or, None}
use Rattle.xfs_collections.specs.Links.{no_link}
use Rattle.xfs_collections.proofs.weave.Weave.make.Given as goal

abbrev pub invariant-loop-end : goal.invariant-loop-end
invariant-loop-end l = record { size : length l.links.items ≡ l.end; each : (k : ℕ) → k < l.end → get_or l.links.items k no_link ≡ record { after = k; before = k; list = None } }
