use Rattle.xfs_geom.specs.Volumes.{volume_of}
use Rattle.xfs_rounds.proofs.Rows.{judged_as}
use Rattle.xfs_rounds.proofs.pieces.judge_pieces.Goals as goal

pub returns : goal.returns
returns g c = λ i d inside.
    let at = (c.for_each_chunk_mut.ensures.by_index i d inside).1 in
    judged_as (volume_of c.args.g.now) c.args.bank.now at.old_element at.new_element (at.call at.offset d at.offset_in_chunk)
