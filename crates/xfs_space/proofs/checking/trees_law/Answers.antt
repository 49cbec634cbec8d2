use Rattle.std.proofs.Common.{◌≡◌, MatchOption, Option, Some, None, arith, sym, ◌∙◌, subst}
use Rattle.std.proofs.lemmas.Result.{IfOk-from_err}
use Rattle.xfs_geom.specs.Volumes.{volume_of}
use Rattle.xfs_volume.specs.declared.findings.Law.{Law}
use Rattle.xfs_space.specs.Maps.{AreAlike}
use Rattle.xfs_space.specs.SpaceLaws.{free_laws, owner_laws, recorded_runs}
use Rattle.xfs_volume.proofs.First.{first_behind, first_in}
use Rattle.xfs_space.proofs.FreeKept.{free_kept}
use Rattle.xfs_space.proofs.checking.trees_law.Goals as goal

pub returns-in-Some-clause-law : goal.returns-in-Some-clause-law
returns-in-Some-clause-law c =
    let v = volume_of c.args.g.now in
    sym (first_in (free_laws v c.args.runs.now 0 c.args.groups.now) (owner_laws v (recorded_runs c.args.g.now.agblocks 0 c.args.groups.now) c.args.runs.now) c.in-Some.law
    (sym c.in_ok-law.ensures ∙ c.in-Some.is))

pub returns-in-None-clause-law : goal.returns-in-None-clause-law
returns-in-None-clause-law c =
    let v = volume_of c.args.g.now in
    c.owner_law.ensures.law
    ∙ sym (first_behind (free_laws v c.args.runs.now 0 c.args.groups.now) (owner_laws v (recorded_runs c.args.g.now.agblocks 0 c.args.groups.now) c.args.runs.now)
    (sym c.in_ok-law.ensures ∙ c.in-None.is))

pub returns-in-None-clause-lawful : goal.returns-in-None-clause-lawful
returns-in-None-clause-lawful c none =
    let v = volume_of c.args.g.now in (
      free_kept v c.args.runs.now 0 c.args.groups.now c.args.g.now.shape.groups.last c.args.g.now.shape.groups.small (omega (arith, c.requires.count)) c.requires.lawful
          (sym c.in_ok-law.ensures ∙ c.in-None.is),
      subst (λ (o : Option Law). MatchOption o (AreAlike (recorded_runs c.args.g.now.agblocks 0 c.args.groups.now) c.args.runs.now) (λ _. Unit {0})) none c.owner_law.ensures.alike,
    )

pub free_law-requires-clause-count : goal.free_law-requires-clause-count
free_law-requires-clause-count c = c.requires.count

pub free_law-requires-clause-follow : goal.free_law-requires-clause-follow
free_law-requires-clause-follow c = c.requires.follow

pub free_law-requires-clause-groups : goal.free_law-requires-clause-groups
free_law-requires-clause-groups c = c.requires.groups

pub owner_law-requires-clause-count : goal.owner_law-requires-clause-count
owner_law-requires-clause-count c = c.requires.count

pub owner_law-requires-clause-lawful : goal.owner_law-requires-clause-lawful
owner_law-requires-clause-lawful c = c.requires.lawful

pub owner_law-requires-clause-follow : goal.owner_law-requires-clause-follow
owner_law-requires-clause-follow c = c.requires.follow

pub owner_law-requires-clause-owned : goal.owner_law-requires-clause-owned
owner_law-requires-clause-owned c = c.requires.owned

pub owner_law-requires-clause-groups : goal.owner_law-requires-clause-groups
owner_law-requires-clause-groups c = c.requires.groups

no_law : (law : Law) → Some law ≡ None → ⊥
no_law law e = cc

pub returns-in-Some-clause-lawful : goal.returns-in-Some-clause-lawful
returns-in-Some-clause-lawful c none = absurd (no_law c.in-Some.law none)

pub returns-in_err-law-clause-law : goal.returns-in_err-law-clause-law
returns-in_err-law-clause-law c = IfOk-from_err c.from_residual.result _ c.from_residual.ensures.0

pub returns-in_err-law-clause-lawful : goal.returns-in_err-law-clause-lawful
returns-in_err-law-clause-lawful c = IfOk-from_err c.from_residual.result _ c.from_residual.ensures.0
