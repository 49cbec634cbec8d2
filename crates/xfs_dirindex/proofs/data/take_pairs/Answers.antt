use Rattle.std.proofs.Common.{◌++◌, List, sym, ap, ◌∙◌, arith, min, length, ◌≤◌}
use Rattle.std.proofs.lemmas.List.{append-nil}
use Rattle.xfs_dirindex.specs.declared.pairs.Pair.{Pair}
use Rattle.xfs_dirindex.proofs.Gathered.{due-end}
use Rattle.xfs_dirindex.proofs.data.take_pairs.Goals as goal

pub returns : goal.returns
returns c =
    let past : min (length c.args.entries.now) (length c.args.places.now) ≤ c.loop-i.i = omega arith in
    sym (append-nil c.loop-i.due.items) ∙ (ap (λ (xs : List Pair). c.loop-i.due.items ++ xs) (sym (due-end c.args.offset c.args.entries.now c.args.places.now c.loop-i.i past)) ∙ c.loop-i.invariant)
