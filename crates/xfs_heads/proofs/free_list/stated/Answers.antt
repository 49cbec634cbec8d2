use Rattle.std.proofs.Common.{◌≡◌, ◌-◌, ◌++◌, refl, arith}
use Rattle.std.proofs.lemmas.List.{get_or-replicate}
use Rattle.xfs_heads.specs.FreeList.{active, unused}
use Rattle.xfs_heads.proofs.Listed.{filled, few}
use Rattle.xfs_heads.proofs.free_list.stated.Goals as goal

pub loop-index-init : goal.loop-index-init
loop-index-init c = record { long = refl; active = λ k h. absurd (omega arith); unused = λ k _ h. get_or-replicate 119 k 0xffff_ffff 0 h }

pub returns : goal.returns
returns c =
    let agf = c.args.agf.now in
    let small = few agf c.requires.bounds in
    let entries : c.loop-index.entries ≡ active c.args.sector.now agf.flfirst agf.flcount ++ unused (119 - agf.flcount) =
    filled c.args.sector.now agf.flfirst agf.flcount c.loop-index.entries small c.loop-index.invariant.long
    (λ k h. c.loop-index.invariant.active k (omega arith)) (λ k low h. c.loop-index.invariant.unused k (omega arith) h) in
    λ i. record { entries = entries i; count = agf.flcount }
