use Rattle.std.proofs.Common.{◌≡◌, ◌≤◌, List, length, take, sym, subst, arith}
use Rattle.std.proofs.lemmas.List.{take_all}
use Rattle.xfs_geom.specs.Volumes.{volume_of}
use Rattle.xfs_geom.specs.declared.records.Run.{Run}
use Rattle.xfs_place.specs.Finding.{IsOpen}
use Rattle.xfs_place.specs.Wanted.{CanBeKept}
use Rattle.std.proofs.lemmas.Result.{IfOk-from_err}
use Rattle.xfs_place.proofs.object_placing.Keeper.give_back.Goals as goal

pub returns-then-len-kept-clause-all : goal.returns-then-len-kept-clause-all
returns-then-len-kept-clause-all c =
    let old = c.args.self.now.all in
    sym (take_all c.args.kept old.items (omega (arith, c.len.ensures, old.ok.0, c.if-len-kept.true)))

pub new-requires : goal.new-requires
new-requires c =
    record { kept = subst (CanBeKept (volume_of c.args.site.now.geometry.now)) (sym c.deref.ensures.value) (subst (CanBeKept (volume_of c.args.site.now.geometry.now)) (sym c.truncate.ensures.items) c.requires.kept) }

pub returns-clause-pool : goal.returns-clause-pool
returns-clause-pool c =
    let s = c.args.site.now in
    subst (λ (rs : List Run). IsOpen (volume_of s.geometry.now) rs s.reserved.now s.from s.spared.now c.in_ok-pool.pool) c.deref.ensures.value c.in_ok-pool.ensures

pub returns-then-len-kept-clause-pool : goal.returns-then-len-kept-clause-pool
returns-then-len-kept-clause-pool c = c.requires.pool

pub returns-clause-all : goal.returns-clause-all
returns-clause-all c = c.truncate.ensures.items

pub returns-in_err-pool-clause-all : goal.returns-in_err-pool-clause-all
returns-in_err-pool-clause-all c = IfOk-from_err c.from_residual.result _ c.from_residual.ensures.0

pub returns-in_err-pool-clause-pool : goal.returns-in_err-pool-clause-pool
returns-in_err-pool-clause-pool c = IfOk-from_err c.from_residual.result _ c.from_residual.ensures.0
