use Rattle.std.proofs.Common.{get_or}
use Rattle.xfs_geom.specs.Volumes.{volume_of}
use Rattle.xfs_rounds.specs.Named.{AreFoundIn}
use Rattle.xfs_rounds.proofs.Rounds.{done_as}
use Rattle.xfs_rounds.proofs.settling.settle_pieces.Goals as goal

pub returns-clause-settled : goal.returns-clause-settled
returns-clause-settled g c = λ i d inside.
    let v = volume_of c.args.g.now in
    let at = (c.for_each_chunk_mut.ensures.by_index i d inside).1 in
    (done_as v (AreFoundIn v c.args.named.now c.args.found.now) c.args.bank.now {named_old = get_or c.args.judged.now i d} {named_new = get_or c.for_each_chunk_mut.new.s i d}
    at.old_element at.new_element (at.call at.offset d at.offset_in_chunk)).settled

pub returns-clause-placed : goal.returns-clause-placed
returns-clause-placed g c = λ i d inside.
    let v = volume_of c.args.g.now in
    let at = (c.for_each_chunk_mut.ensures.by_index i d inside).1 in
    let done = done_as v (AreFoundIn v c.args.named.now c.args.found.now) c.args.bank.now {named_old = get_or c.args.judged.now i d} {named_new = get_or c.for_each_chunk_mut.new.s i d}
    at.old_element at.new_element (at.call at.offset d at.offset_in_chunk) in
    record { place = done.place; at = done.at }
