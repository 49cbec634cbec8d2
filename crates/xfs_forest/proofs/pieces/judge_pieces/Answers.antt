use Rattle.std.proofs.Common.{◌+◌, sym, subst, arith}
use Rattle.xfs_geom.specs.Volumes.{volume_of}
use Rattle.xfs_forest.specs.Forest.{IsInRound, IsJudged}
use Rattle.xfs_forest.proofs.Forests.{both_as}
use Rattle.xfs_forest.proofs.pieces.judge_pieces.Goals as goal

pub for_each_chunk_mut-requires-clause-accepts : goal.for_each_chunk_mut-requires-clause-accepts
for_each_chunk_mut-requires-clause-accepts g c = λ κs lives start p chunk.
    let bounds = c.type_bounds in (
      (
        c.piece_size-size.ensures,
        λ i d inside.
            subst (IsInRound c.args.plants.now c.args.bank.now c.args.g.now.dblocks) (sym (chunk.elements i d inside)) (c.requires.cells (start + i) d (omega (arith, inside, chunk.in_bounds))),
      ),
      (
        record { owned = bounds.send-K-Record.owned; leaving = bounds.send-K-Record.leaving },
        record { owned = bounds.send-K-Key.owned; leaving = bounds.send-K-Key.leaving },
        record { shared = bounds.sync-K.shared },
        record { shared = bounds.sync-G.shared },
        record { shared = bounds.sync-K-Record.shared },
        record { shared = bounds.sync-K-Key.shared },
      ),
    )

pub returns : goal.returns
returns g c = λ i d inside.
    let at = (c.for_each_chunk_mut.ensures.by_index i d inside).1 in
    both_as (IsJudged g.K.Kind.shape (volume_of c.args.g.now) c.args.plants.now c.args.bank.now) at.old_element at.new_element (at.call at.offset d at.offset_in_chunk)
