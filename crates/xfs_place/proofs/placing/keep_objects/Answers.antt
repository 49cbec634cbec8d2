use Rattle.std.proofs.Common.{◌≡◌, ℕ, List, Result, Err, IfErr, IfOk, ◌⊎◌, sym, ap, subst, ◌∙◌}
use Rattle.std.specs.List.{All}
use Rattle.xfs_geom.specs.Volumes.{volume_of}
use Rattle.xfs_geom.specs.declared.records.Run.{Run}
use Rattle.xfs_place.specs.declared.faults.PlaceFault.{PlaceFault}
use Rattle.xfs_place.specs.declared.faults.PlaceFault.TheVariants as Fault
use Rattle.xfs_place.specs.declared.faults.Unplaced.{Unplaced}
use Rattle.xfs_place.specs.declared.wanted.Object.{Object}
use Rattle.xfs_place.specs.Kept.{AreObjectsKept}
use Rattle.xfs_place.specs.Objects.{IsAsk, keep_with}
use Rattle.xfs_place.specs.Wanted.{CanBeKept, kept_runs}
use Rattle.xfs_place.proofs.placing.keep_objects.Goals as goal

pub keep_with-requires-clause-kept : goal.keep_with-requires-clause-kept
keep_with-requires-clause-kept c = subst (CanBeKept (volume_of c.args.wanted.now.geometry)) (sym c.requires.all) c.requires.kept

pub keep_with-requires-clause-asks : goal.keep_with-requires-clause-asks
keep_with-requires-clause-asks c = subst (All (λ (object : Object). All IsAsk object.runs)) (sym c.as_slice-3.ensures) c.requires.asks

pub returns-clause-told : goal.returns-clause-told
returns-clause-told c =
    let w = c.args.wanted.now in
    let v = volume_of w.geometry in
    let r = c.as_slice.result.now in
    let s = c.as_slice-2.result.now in
    subst (λ (r' : List ℕ). IfOk c.keep_with.result (λ now. AreObjectsKept v r' w.from w.spared_from w.takes_spared (kept_runs w) w.objects now.all.items now.cuts.items)) c.as_slice.ensures
    (subst (λ (s' : List ℕ). IfOk c.keep_with.result (λ now. AreObjectsKept v r w.from s' w.takes_spared (kept_runs w) w.objects now.all.items now.cuts.items)) c.as_slice-2.ensures
    (subst (λ (k : List Run). IfOk c.keep_with.result (λ now. AreObjectsKept v r w.from s w.takes_spared k w.objects now.all.items now.cuts.items)) c.requires.all
    (subst (λ (o : List Object). IfOk c.keep_with.result (λ now. AreObjectsKept v r w.from s w.takes_spared c.args.kept.items o now.all.items now.cuts.items)) c.as_slice-3.ensures c.keep_with.ensures.told)))

pub returns-clause-cause : goal.returns-clause-cause
returns-clause-cause c =
    let w = c.args.wanted.now in
    let v = volume_of w.geometry in
    let o = c.as_slice-3.result.now in
    let s = c.as_slice-2.result.now in
    subst (λ (t : Result (List Run) Unplaced). IfErr c.keep_with.result (λ fault. (fault ≡ Fault.NoMemory) ⊎ ((what : Unplaced) × (fault ≡ Fault.NoRoom what) × (t ≡ Err what))))
    (ap (λ (r : List ℕ). keep_with v r w.from s w.takes_spared c.args.kept.items o) c.as_slice.ensures
    ∙ ap (λ (s' : List ℕ). keep_with v w.reserved w.from s' w.takes_spared c.args.kept.items o) c.as_slice-2.ensures
    ∙ ap (λ (k : List Run). keep_with v w.reserved w.from w.spared_from w.takes_spared k o) c.requires.all
    ∙ ap (keep_with v w.reserved w.from w.spared_from w.takes_spared (kept_runs w)) c.as_slice-3.ensures) c.keep_with.ensures.cause
