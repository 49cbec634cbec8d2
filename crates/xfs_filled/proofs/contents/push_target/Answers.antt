use Rattle.std.proofs.Common.{◌++◌, Bool, cond, List, ℕ, [], ◌∷◌, length, length-append, arith, sym, ap, ◌∙◌}
use Rattle.std.proofs.lemmas.Bool.{lt-leb}
use Rattle.xfs_filled.specs.Contents.{padded, block_of_target}
use Rattle.xfs_filled.proofs.Blocks.{head_long, padded_long}
use Rattle.xfs_filled.proofs.contents.push_target.Goals as goal

pub padded-requires : goal.padded-requires
padded-requires c =
    let target = c.args.target.now in
    let all = ap length c.in_ok-extend_from_slice.ensures.items ∙ length-append c.in_ok-front.front.items target in
    let head = ap length c.in_ok-front.ensures ∙ head_long target in
    let front = ap length c.deref.ensures.value in
    let few = c.requires in
    record { few = omega (arith, all, head, front, few) }

pub push-requires : goal.push-requires
push-requires c =
    let target = c.args.target.now in
    let all = ap length c.in_ok-extend_from_slice.ensures.items ∙ length-append c.in_ok-front.front.items target in
    let head = ap length c.in_ok-front.ensures ∙ head_long target in
    let front = ap length c.deref.ensures.value in
    let few = c.requires in
    record { whole = ap length (c.deref-2.ensures.value ∙ c.in_ok-block.ensures) ∙ padded_long c.deref.result.now (omega (arith, all, head, front, few)) }

pub returns : goal.returns
returns c =
    let target = c.args.target.now in
    let old = c.args.bank.now in
    let front = c.deref.ensures.value ∙ c.in_ok-extend_from_slice.ensures.items ∙ ap (λ (h : List ℕ). h ++ target) c.in_ok-front.ensures in
    c.in_ok-push.ensures ∙ ap (λ (b : List ℕ). old ++ b ∷ []) (c.deref-2.ensures.value ∙ c.in_ok-block.ensures ∙ ap padded front)
    ∙ ap (λ (t : Bool). old ++ cond t [] (block_of_target target ∷ [])) (sym (lt-leb (length target) 336 c.if-target-le-FORK_ROOM.false))
