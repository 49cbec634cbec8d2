use Rattle.std.proofs.Common.{ℕ, replicate, ◌∙◌, ap}
use Rattle.xfs_inodebuild.proofs.Zeros.{zero_part}
use Rattle.xfs_inodebuild.proofs.zeroing.clear_slot.Goals as goal

pub returns : goal.returns
returns c =
    λ at width inside.
    zero_part c.fill.new.self 512 at width (c.fill.ensures.after (λ y h. h) ∙ ap (λ (n : ℕ). replicate n 0) c.requires) inside
