use Rattle.std.proofs.Common.{◌+◌, ◌*◌, Bool, true, false, if◌then◌else◌, sym, ◌∙◌, ap}
use Rattle.std.proofs.lemmas.Bool.{true≢false}
use Rattle.xfs_geom.specs.Conversions.{block_at}
use Rattle.xfs_geom.specs.Volumes.{volume_of}
use Rattle.xfs_tree.specs.Blocks.{number_or_ones}
use Rattle.xfs_treebuild.proofs.PackingHeads.{held_low}
use Rattle.xfs_treebuild.proofs.heads.pointer_to.Goals as goal

pub address_of_block-requires : goal.address_of_block-requires
address_of_block-requires c = held_low (volume_of c.args.g.now) c.args.layout.now c.args._owner c.args.place c.requires

pub returns-then-layout-clause-value : goal.returns-then-layout-clause-value
returns-then-layout-clause-value c =
    let v = volume_of c.args.g.now in
    let pointer = c.address_of_block.result in
    ap (λ (r : Bool). if r then number_or_ones (block_at v pointer) else c.args._owner * v.agblocks + pointer) c.if-layout.true ∙ ap number_or_ones c.address_of_block.ensures.inverse

pub returns-then-layout-clause-short : goal.returns-then-layout-clause-short
returns-then-layout-clause-short c = λ is. absurd (true≢false (sym c.if-layout.true ∙ is))
