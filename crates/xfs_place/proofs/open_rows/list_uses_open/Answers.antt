use Rattle.std.proofs.Common.{◌≡◌, ◌%◌, ◌&&◌, nat_le, nat_lt, List, length, sym, ◌∙◌, ap, subst, arith, ◌≤◌, ◌<◌, ◌^◌, ℕ}
use Rattle.xfs_geom.specs.Volumes.{volume_of}
use Rattle.xfs_place.specs.declared.uses.Use.{Use}
use Rattle.xfs_place.specs.declared.uses.Use.TheVariants.{Claimed}
use Rattle.xfs_place.specs.Choice.{in_pool}
use Rattle.xfs_place.specs.Pool.{MarksUses, is_pool}
use Rattle.xfs_place.proofs.HeldRuns.{open_first, written}
use Rattle.std.proofs.lemmas.Result.{IfOk-from_err}
use Rattle.xfs_place.proofs.open_rows.list_uses_open.Goals as goal

pub returns-clause-each : goal.returns-clause-each
returns-clause-each c = λ b low.
    let v = volume_of c.args.site.now.geometry.now in
    let uses = c.in_ok-uses.uses in
    let marks = subst (λ (us : List Use). MarksUses us c.close_fronts.new.uses (λ b. nat_lt (b % c.args.site.now.geometry.now.agblocks) c.args.site.now.from) Claimed) c.deref_mut.ensures.value c.close_fronts.ensures in
    let whole = written uses.len c.close_fronts.new.uses _ (omega (arith, uses.ok.0, marks.all)) in
    subst (λ (us : List Use). in_pool us b ≡ (is_pool v c.args.kept.now c.args.site.now.reserved.now b && nat_le c.args.site.now.from (b % c.args.site.now.geometry.now.agblocks))) (sym whole)
    (open_first v c.args.kept.now c.args.site.now.reserved.now c.args.site.now.from uses.items c.close_fronts.new.uses c.in_ok-uses.ensures marks b low)

pub close_fronts-requires : goal.close_fronts-requires
close_fronts-requires c = ap (λ (us : List Use). length us) c.deref_mut.ensures.value ∙ c.in_ok-uses.ensures.all

pub returns-clause-all : goal.returns-clause-all
returns-clause-all c =
    let uses = c.in_ok-uses.uses in
    let same = ap (λ (us : List Use). length us) c.deref_mut.ensures.value in
    let whole = written uses.len c.close_fronts.new.uses _ (omega (arith, uses.ok.0, c.close_fronts.ensures.all, same)) in
    ap (λ (us : List Use). length us) whole ∙ c.close_fronts.ensures.all ∙ same ∙ c.in_ok-uses.ensures.all

few_of : (n blocks : ℕ) → n ≡ blocks → blocks ≤ 2 ^ 26 → n < 2 ^ 32
few_of n blocks is small = omega (arith, is, small)

pub returns-clause-few : goal.returns-clause-few
returns-clause-few c = few_of _ c.args.site.now.geometry.now.dblocks (returns-clause-all c) c.args.site.now.geometry.now.shape.groups.small

pub returns-in_err-uses-clause-all : goal.returns-in_err-uses-clause-all
returns-in_err-uses-clause-all c = IfOk-from_err c.from_residual.result _ c.from_residual.ensures.0

pub returns-in_err-uses-clause-few : goal.returns-in_err-uses-clause-few
returns-in_err-uses-clause-few c = IfOk-from_err c.from_residual.result _ c.from_residual.ensures.0

pub returns-in_err-uses-clause-each : goal.returns-in_err-uses-clause-each
returns-in_err-uses-clause-each c = IfOk-from_err c.from_residual.result _ c.from_residual.ensures.0
