use Rattle.std.proofs.Common.{List, Vec, Global, not, sym, ap, ◌∙◌}
use Rattle.std.specs.List.{filter}
use Rattle.std.proofs.lemmas.List.{take_all}
use Rattle.xfs_dirindex.specs.declared.pairs.Pair.{Pair}
use Rattle.xfs_dirindex.specs.Pairs.{is_live}
use Rattle.xfs_dirindex.proofs.Taken.{filtered_next, filtered_not}
use Rattle.xfs_dirindex.proofs.pairs.live.Goals as goal
use Rattle.xfs_dirindex.proofs.pairs.live.Goals.{then-not-is_stale+in_ok-push, else-not-is_stale}

abbrev no_pair : Pair
no_pair = record { hash = 0; address = 0 }

pub loop-pair-init : goal.loop-pair-init
loop-pair-init c = c.in_ok-live.ensures.items

pub loop-pair-preserved : goal.loop-pair-preserved
loop-pair-preserved c =
    let pairs = c.args.pairs.now in
    let i = c.loop-pair.pair-index in
    let kept = c.loop-pair.live.items in
    elim c.if-not-is_stale.branch [
      | then-not-is_stale+in_ok-push w ↦
          filtered_next is_live pairs i no_pair kept c.loop-pair-test.true c.loop-pair.invariant (ap not (sym c.is_stale.ensures ∙ w.if-not-is_stale.true))
          _ (ap (λ (v : Vec Pair Global). v.items) w.live-is ∙ w.in_ok-push.ensures.items)
      | else-not-is_stale w ↦
          filtered_not is_live pairs i no_pair kept c.loop-pair-test.true c.loop-pair.invariant (ap not (sym c.is_stale.ensures ∙ w.if-not-is_stale.false))
          _ (ap (λ (v : Vec Pair Global). v.items) w.live-is)
    ]

pub returns : goal.returns
returns c = c.loop-pair.invariant ∙ ap (filter is_live) (take_all c.loop-pair.pair-index c.args.pairs.now c.loop-pair-test.false)
