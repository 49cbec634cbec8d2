use Rattle.std.proofs.Common.{Bool, ◌&&◌, get_or, refl, sym, ap, ◌∙◌}
use Rattle.std.specs.List.{list_all}
use Rattle.std.proofs.lemmas.List.{take_all}
use Rattle.std.proofs.lemmas.List.Folds.{list_all_more, list_all_at}
use Rattle.xfs_salvage.specs.xfs_laws.Counting.{is_behind}
use Rattle.xfs_request.proofs.log.are_behind.Goals as goal

pub loop-lsn-init : goal.loop-lsn-init
loop-lsn-init c = refl

pub loop-lsn-preserved : goal.loop-lsn-preserved
loop-lsn-preserved c =
    let p = is_behind c.args.head in
    let lsns = c.args.lsns.now in
    let i = c.loop-lsn.lsn-index in
    list_all_more p lsns i 0 c.loop-lsn-test.true ∙ ap (λ (t : Bool). t && p (get_or lsns i 0)) c.loop-lsn.invariant
    ∙ (sym c.is_behind.ensures ∙ c.if-not-is_behind.false)

pub returns-then-not-is_behind : goal.returns-then-not-is_behind
returns-then-not-is_behind c =
    let p = is_behind c.args.head in
    sym (list_all_at p c.args.lsns.now c.loop-lsn.lsn-index 0 c.loop-lsn-test.true (sym c.is_behind.ensures ∙ c.if-not-is_behind.true))

pub returns : goal.returns
returns c =
    let p = is_behind c.args.head in
    sym (ap (list_all p) (sym (take_all c.loop-lsn.lsn-index c.args.lsns.now c.loop-lsn-test.false)) ∙ c.loop-lsn.invariant)
