use Rattle.std.proofs.Common.{◌≡◌, ◌≤◌, ◌+◌, ℕ, length, sym, subst, arith}
use Rattle.std.proofs.lemmas.Result.{IfOk-from_err}
use Rattle.xfs_geom.specs.Volumes.{volume_of}
use Rattle.xfs_place.specs.Pool.{Shows, use_of}
use Rattle.xfs_place.proofs.windows.Window.reach.Goals as goal

pub list_uses_in-requires-clause-runs : goal.list_uses_in-requires-clause-runs
list_uses_in-requires-clause-runs c = c.requires.runs

pub list_uses_in-requires-clause-inside : goal.list_uses_in-requires-clause-inside
list_uses_in-requires-clause-inside c = c.window_blocks-count.ensures.inside

pub returns-clause-stands : goal.returns-clause-stands
returns-clause-stands c =
    let uses = c.in_ok-uses.uses.items in
    record {
      shows = subst (λ (n : ℕ). Shows uses n (λ b. use_of (volume_of c.args.g.now) c.args.runs.now c.args.reserved.now (c.start_of_group-base.result + b))) (sym c.in_ok-uses.ensures.all) c.in_ok-uses.ensures;
    }

-- the blocks of the group are listed
listed : (base due blocks long count all : ℕ) → base ≡ due → long ≡ blocks → long ≤ count → all ≡ count → due + blocks ≤ base + all
listed base due blocks long count all at size some whole = omega (arith, at, size, some, whole)

starts : (base due : ℕ) → base ≡ due → base ≤ due
starts base due at = omega (arith, at)

pub returns-clause-there : goal.returns-clause-there
returns-clause-there c = record {
  from' = starts c.start_of_group-base.result _ c.start_of_group-base.ensures.value;
  end = listed c.start_of_group-base.result _ _ c.group_length-blocks.result c.window_blocks-count.result (length c.in_ok-uses.uses.items) c.start_of_group-base.ensures.value
      c.group_length-blocks.ensures.value c.window_blocks-count.ensures.some c.in_ok-uses.ensures.all;
}

pub returns-then-has-clause-stands : goal.returns-then-has-clause-stands
returns-then-has-clause-stands c = c.requires.stands

pub returns-in_err-uses-clause-stands : goal.returns-in_err-uses-clause-stands
returns-in_err-uses-clause-stands c = IfOk-from_err c.from_residual.result _ c.from_residual.ensures.0

pub returns-in_err-uses-clause-there : goal.returns-in_err-uses-clause-there
returns-in_err-uses-clause-there c = IfOk-from_err c.from_residual.result _ c.from_residual.ensures.0
