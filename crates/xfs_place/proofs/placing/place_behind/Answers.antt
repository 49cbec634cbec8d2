use Rattle.std.proofs.Common.{◌≡◌, ◌≤◌, List, length, drop, sym, ap, subst, ◌∙◌, arith}
use Rattle.std.proofs.lemmas.Result.{IfOk-from_err}
use Rattle.xfs_geom.specs.Volumes.{volume_of}
use Rattle.xfs_geom.specs.declared.records.Run.{Run}
use Rattle.xfs_place.specs.Wanted.{ArePlaced, CanBeKept}
use Rattle.xfs_place.specs.Standing.{AreOfPool}
use Rattle.xfs_place.proofs.Whole.{all_stands, kept_inside}
use Rattle.xfs_place.proofs.placing.place_behind.Goals as goal

pub place_wanted-requires-clause-kept : goal.place_wanted-requires-clause-kept
place_wanted-requires-clause-kept c = subst (CanBeKept (volume_of c.args.wanted.now.geometry)) (sym c.deref.ensures.value) c.requires.told.kept

pub runs_from-requires : goal.runs_from-requires
runs_from-requires c =
    let all = c.args.objects.all.items in
    let inside : c.args.first ≤ length all = kept_inside c.args.wanted.now all c.args.objects.cuts.items c.args.first c.requires.first c.requires.told in
    subst (λ (rs : List Run). c.args.first ≤ length rs) (sym c.deref-2.ensures.value) inside

pub placed_of-requires-clause-placed : goal.placed_of-requires-clause-placed
placed_of-requires-clause-placed c = (c.deref.result.now, c.in_ok-groups.ensures.placed)

pub returns-clause-told : goal.returns-clause-told
returns-clause-told c =
    let w = c.args.wanted.now in
    let v = volume_of w.geometry in
    let groups = c.in_ok-groups.groups.items in
    let runs = c.in_ok-runs.runs.items in
    all_stands w c.args.objects.all.items c.args.objects.cuts.items c.args.first runs groups c.placed_of.result c.requires.first c.requires.told
    (c.in_ok-runs.ensures.items ∙ c.runs_from.ensures ∙ ap (drop c.args.first) c.deref-2.ensures.value)
    c.placed_of.ensures.runs c.placed_of.ensures.cuts c.placed_of.ensures.groups c.placed_of.ensures.counts
    (subst (λ (rs : List Run). ArePlaced v rs w.reserved w.inodes w.geometry.agcount groups) c.deref.ensures.value c.in_ok-groups.ensures.placed)
    (subst (λ (rs : List Run). AreOfPool v rs w.reserved w.inodes w.geometry.agcount groups) c.deref.ensures.value c.in_ok-groups.ensures.pool)

pub place_wanted-requires-clause-inodes : goal.place_wanted-requires-clause-inodes
place_wanted-requires-clause-inodes c = c.requires.inodes

pub place_wanted-requires-clause-few : goal.place_wanted-requires-clause-few
place_wanted-requires-clause-few c = c.requires.few

pub placed_of-requires-clause-inodes : goal.placed_of-requires-clause-inodes
placed_of-requires-clause-inodes c = c.requires.inodes

pub placed_of-requires-clause-few : goal.placed_of-requires-clause-few
placed_of-requires-clause-few c = c.requires.few

pub returns-in_err-groups-clause-told : goal.returns-in_err-groups-clause-told
returns-in_err-groups-clause-told c = IfOk-from_err c.from_residual.result _ c.from_residual.ensures.0

pub returns-in_err-runs-clause-told : goal.returns-in_err-runs-clause-told
returns-in_err-runs-clause-told c = IfOk-from_err c.from_residual-in_err-runs.result _ c.from_residual-in_err-runs.ensures.0

pub returns-clause-cause : goal.returns-clause-cause
returns-clause-cause c = tt
