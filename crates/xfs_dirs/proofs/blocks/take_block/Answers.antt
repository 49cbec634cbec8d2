use Rattle.std.proofs.Common.{◌∙◌, ap}
use Rattle.xfs_geom.specs.Volumes.{volume_of}
use Rattle.xfs_dirs.specs.Gathered.{file_block, mapped_of_kept, kept_with}
use Rattle.xfs_dirs.proofs.Taken.{one_taken}
use Rattle.xfs_dirs.proofs.blocks.take_block.Goals as goal

pub returns-clause-found : goal.returns-clause-found
returns-clause-found c =
    let b = file_block c.args.place c.args.offset c.args.block.now in
    let own = c.is_own-own.result in
    one_taken (volume_of c.args.g.now) c.args.dir c.args.gathered.now b own c.in_ok-entries.entries.items
    c.take.new.self.entries.items c.take.new.self.parent (mapped_of_kept c.keep_block.new.kept)
    c.is_own-own.ensures c.in_ok-entries.ensures c.in_ok-take.ensures.entries c.in_ok-take.ensures.parent
    (c.in_ok-keep_block.ensures.kept ∙ ap (λ k. kept_with own b.mapped (mapped_of_kept k)) c.in_ok-take.ensures.kept)
