use Rattle.std.proofs.Common.{refl, arith}
use Rattle.std.proofs.lemmas.List.{get_or-replicate}
use Rattle.xfs_heads.proofs.Listed.{IsListed, listed}
use Rattle.xfs_heads.proofs.free_list.Agfl.new.Goals as goal

pub loop-index-init : goal.loop-index-init
loop-index-init c = record { long = refl; active = λ k h. absurd (omega arith); unused = λ k _ h. get_or-replicate 119 k 0xffff_ffff 0 h }

pub returns-clause-active : goal.returns-clause-active
returns-clause-active c =
    let all : IsListed c.args.ag_blocks.now c.loop-index.entries =
    listed c.args.ag_blocks.now c.loop-index.entries c.requires c.loop-index.invariant.long
    (λ k h. c.loop-index.invariant.active k (omega arith)) (λ k low h. c.loop-index.invariant.unused k (omega arith) h) in
    all.taken

pub returns-clause-unused : goal.returns-clause-unused
returns-clause-unused c =
    let all : IsListed c.args.ag_blocks.now c.loop-index.entries =
    listed c.args.ag_blocks.now c.loop-index.entries c.requires c.loop-index.invariant.long
    (λ k h. c.loop-index.invariant.active k (omega arith)) (λ k low h. c.loop-index.invariant.unused k (omega arith) h) in
    all.dropped
