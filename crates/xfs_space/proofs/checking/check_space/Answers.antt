use Rattle.std.proofs.Common.{List, sym, ◌∙◌, subst}
use Rattle.std.specs.List.{All}
use Rattle.std.specs.List.Sorted.{IsPermutation}
use Rattle.std.proofs.lemmas.List.Sorted.{All-permutation}
use Rattle.std.proofs.lemmas.Result.{IfOk-from_err}
use Rattle.xfs_geom.specs.Volumes.{volume_of}
use Rattle.xfs_geom.specs.declared.records.Run.{Run}
use Rattle.xfs_space.specs.SpaceLaws.{space_laws}
use Rattle.xfs_space.specs.Sorted.{IsOfOneGroup, IsOwned, StartsRise}
use Rattle.xfs_space.proofs.Joined.{held_differs, law_in_space, lawful_space, none_in_space}
use Rattle.xfs_space.proofs.checking.check_space.Goals as goal

pub runs_law-requires-clause-owned : goal.runs_law-requires-clause-owned
runs_law-requires-clause-owned g c =
    let v = volume_of c.args.g.now in
    subst (λ (rs : List Run). All (IsOwned v) rs) (sym c.deref.ensures.value)
    (All-permutation (IsOwned v) c.in_ok-runs.runs.items c.in_ok-sorted.sorted.items c.in_ok-sorted.ensures.moved c.in_ok-runs.ensures.inside)

pub runs_law-requires-clause-groups : goal.runs_law-requires-clause-groups
runs_law-requires-clause-groups g c =
    let v = volume_of c.args.g.now in
    subst (λ (rs : List Run). All (IsOfOneGroup v) rs) (sym c.deref.ensures.value)
    (All-permutation (IsOfOneGroup v) c.in_ok-runs.runs.items c.in_ok-sorted.sorted.items c.in_ok-sorted.ensures.moved c.in_ok-runs.ensures.groups)

pub returns-clause-law : goal.returns-clause-law
returns-clause-law g c =
    let moved = subst (λ (rs : List Run). IsPermutation c.in_ok-runs.runs.items rs) (sym c.deref.ensures.value) c.in_ok-sorted.ensures.moved in
    c.in_ok-law.ensures.law
    ∙ law_in_space (volume_of c.args.g.now) c.args.groups.now c.args.files.now c.in_ok-runs.runs.items c.deref.result.now c.in_ok-runs.ensures.all moved c.in_ok-runs.ensures.inside

pub returns-clause-differs : goal.returns-clause-differs
returns-clause-differs g c = held_differs c.in_ok-law.law (space_laws (volume_of c.args.g.now) c.args.groups.now c.args.files.now) (returns-clause-law g c)

pub returns-clause-lawful : goal.returns-clause-lawful
returns-clause-lawful g c =
    let moved = subst (λ (rs : List Run). IsPermutation c.in_ok-runs.runs.items rs) (sym c.deref.ensures.value) c.in_ok-sorted.ensures.moved in (
      λ none. lawful_space (volume_of c.args.g.now) c.args.groups.now c.args.files.now c.in_ok-runs.runs.items c.deref.result.now c.in_ok-runs.ensures.all moved (c.in_ok-law.ensures.lawful none),
      λ lawful. returns-clause-law g c ∙ none_in_space (volume_of c.args.g.now) c.args.groups.now c.args.files.now lawful,
    )

pub owned_runs-requires-clause-count : goal.owned_runs-requires-clause-count
owned_runs-requires-clause-count g c = c.requires.count

pub owned_runs-requires-clause-groups : goal.owned_runs-requires-clause-groups
owned_runs-requires-clause-groups g c = c.requires.groups

pub owned_runs-requires-clause-files : goal.owned_runs-requires-clause-files
owned_runs-requires-clause-files g c = c.requires.files

pub runs_law-requires-clause-count : goal.runs_law-requires-clause-count
runs_law-requires-clause-count g c = c.requires.count

pub runs_law-requires-clause-lawful : goal.runs_law-requires-clause-lawful
runs_law-requires-clause-lawful g c = c.requires.groups

pub runs_law-requires-clause-rise : goal.runs_law-requires-clause-rise
runs_law-requires-clause-rise g c = subst (λ (rs : List Run). StartsRise 0 rs) (sym c.deref.ensures.value) c.in_ok-sorted.ensures.rise

pub returns-in_err-runs-clause-law : goal.returns-in_err-runs-clause-law
returns-in_err-runs-clause-law g c = IfOk-from_err c.from_residual.result _ c.from_residual.ensures.0

pub returns-in_err-runs-clause-differs : goal.returns-in_err-runs-clause-differs
returns-in_err-runs-clause-differs g c = IfOk-from_err c.from_residual.result _ c.from_residual.ensures.0

pub returns-in_err-runs-clause-lawful : goal.returns-in_err-runs-clause-lawful
returns-in_err-runs-clause-lawful g c = IfOk-from_err c.from_residual.result _ c.from_residual.ensures.0

pub returns-in_err-sorted-clause-law : goal.returns-in_err-sorted-clause-law
returns-in_err-sorted-clause-law g c = IfOk-from_err c.from_residual-in_err-sorted.result _ c.from_residual-in_err-sorted.ensures.0

pub returns-in_err-sorted-clause-differs : goal.returns-in_err-sorted-clause-differs
returns-in_err-sorted-clause-differs g c = IfOk-from_err c.from_residual-in_err-sorted.result _ c.from_residual-in_err-sorted.ensures.0

pub returns-in_err-sorted-clause-lawful : goal.returns-in_err-sorted-clause-lawful
returns-in_err-sorted-clause-lawful g c = IfOk-from_err c.from_residual-in_err-sorted.result _ c.from_residual-in_err-sorted.ensures.0

pub returns-in_err-law-clause-law : goal.returns-in_err-law-clause-law
returns-in_err-law-clause-law g c = IfOk-from_err c.from_residual-in_err-law.result _ c.from_residual-in_err-law.ensures.0

pub returns-in_err-law-clause-differs : goal.returns-in_err-law-clause-differs
returns-in_err-law-clause-differs g c = IfOk-from_err c.from_residual-in_err-law.result _ c.from_residual-in_err-law.ensures.0

pub returns-in_err-law-clause-lawful : goal.returns-in_err-law-clause-lawful
returns-in_err-law-clause-lawful g c = IfOk-from_err c.from_residual-in_err-law.result _ c.from_residual-in_err-law.ensures.0
