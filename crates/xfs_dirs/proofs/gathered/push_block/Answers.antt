use Rattle.std.proofs.Common.{◌≡◌, ◌+◌, List, [], ◌∷◌, ◌++◌, length, sym, ap, ◌∙◌, subst, arith}
use Rattle.xfs_dirs.specs.declared.gathered.KeptBlock.{KeptBlock}
use Rattle.xfs_dirs.specs.Gathered.{OffsetsRise}
use Rattle.xfs_dirs.proofs.Order.{rise_more}
use Rattle.xfs_dirs.proofs.gathered.push_block.Goals as goal

pub returns-clause-below : goal.returns-clause-below
returns-clause-below c =
    let k : KeptBlock = record { offset = c.args.offset; bytes = c.in_ok-bytes.bytes } in
    let added : c.push.new.self.items ≡ c.args.blocks.now.items ++ k ∷ [] = c.in_ok-push.ensures.items in
    let whole : length k.bytes ≡ 4096 = ap length c.in_ok-bytes.ensures ∙ c.requires.size in
    subst (λ (ks : List KeptBlock). OffsetsRise 0 ks (c.args.offset + 1)) (sym added) (rise_more 0 c.args.offset c.args.blocks.now.items k (omega arith) whole c.requires.below)
