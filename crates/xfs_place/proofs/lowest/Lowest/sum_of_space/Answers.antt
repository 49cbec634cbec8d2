use Rattle.std.proofs.Common.{false, ◌∙◌, arith}
use Rattle.std.proofs.lemmas.List.{get_or_read}
use Rattle.xfs_place.proofs.Found.{found_few, sums_small}
use Rattle.xfs_place.proofs.lowest.Lowest.sum_of_space.Goals as goal

pub returns-clause-value : goal.returns-clause-value
returns-clause-value c =
    let l = c.args.self.now in
    let sums = c.requires.stands.space' in
    get_or_read l.space.items c.args.blocks c.index.result.now (omega (arith, sums.all, c.requires.few)) c.index.ensures 0 ∙ sums.each c.args.blocks c.requires.few

pub returns-clause-small : goal.returns-clause-small
returns-clause-small c =
    let l = c.args.self.now in
    let uses = c.args.uses.now in
    let sums = c.requires.stands.space' in
    let read = get_or_read l.space.items c.args.blocks c.index.result.now (omega (arith, sums.all, c.requires.few)) c.index.ensures 0 in
    let few = found_few uses l.blocks.items l.space.items l.inodes.items l.next l.free c.requires.stands in
    omega (arith, read, few, sums_small uses false l.blocks.items l.space.items c.args.blocks sums c.requires.few, c.requires.all, c.requires.few)
