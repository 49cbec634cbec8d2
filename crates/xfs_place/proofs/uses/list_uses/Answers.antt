use Rattle.std.proofs.Common.{◌≡◌, ◌+◌, ◌≤◌, ℕ, List, ◌∙◌, ap, arith}
use Rattle.xfs_geom.specs.Volumes.{volume_of}
use Rattle.xfs_place.specs.declared.uses.Use.{Use}
use Rattle.xfs_place.specs.Pool.{Shows, use_of}
use Rattle.xfs_place.proofs.uses.list_uses.Goals as goal

all_inside : (n : ℕ) → 0 + n ≤ n
all_inside n = omega arith

pub list_uses_in-requires-clause-runs : goal.list_uses_in-requires-clause-runs
list_uses_in-requires-clause-runs c = c.requires

pub list_uses_in-requires-clause-inside : goal.list_uses_in-requires-clause-inside
list_uses_in-requires-clause-inside c = all_inside c.args.g.now.dblocks

-- the blocks from the first on
from_first : (uses : List Use) (blocks : ℕ) (due : ℕ → Use) → Shows uses blocks (λ b. due (0 + b)) → Shows uses blocks due
from_first uses blocks due shows = record {
  all = shows.all;
  each = λ b low.
      let same : 0 + b ≡ b = omega arith in
      shows.each b low ∙ ap due same;
}

pub returns : goal.returns
returns c =
    from_first c.in_ok-list_uses_in.field-0.items c.args.g.now.dblocks (use_of (volume_of c.args.g.now) c.args.runs.now c.args.reserved.now) c.in_ok-list_uses_in.ensures
