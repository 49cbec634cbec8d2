use Rattle.std.proofs.Common.{◌≡◌, ◌++◌, ◌∷◌, [], ℕ, List, take, drop, rules, arith, ap, ◌∙◌}
use Rattle.std.specs.Prelude.{replicate}
use Rattle.std.proofs.lemmas.List.{length-replicate}
use Rattle.xfs_collections.proofs.Lists.{one_more_zeros, whole_block}
use Rattle.xfs_collections.proofs.block_list.BlockList.zeros.Goals as goal

pub loop-i-preserved : goal.loop-i-preserved
loop-i-preserved c =
    let now = c.loop-i.list in
    let zeros : List ℕ = replicate 4096 0 in
    let made : c.in_ok-zeros.zeros.items ≡ replicate 4096 0 = search rules in
    let is : c.in_ok-bytes.bytes ≡ zeros = c.in_ok-bytes.ensures ∙ made in
    let block : take 4096 (drop 0 c.in_ok-bytes.bytes) ≡ zeros = ap (λ (b : List ℕ). take 4096 (drop 0 b)) is ∙ whole_block zeros (length-replicate {A = ℕ} 4096 0) in
    record { all = one_more_zeros c.loop-i._i zeros now c.push_block.new.self c.loop-i.invariant.all (c.in_ok-push_block.ensures ∙ ap (λ (b : List ℕ). now ++ b ∷ []) block) }

pub returns : goal.returns
returns c =
    let past = c.loop-i-test.false in
    let end = c.loop-i.auto._i-end in
    let all : c.loop-i._i ≡ c.args.n = omega (arith, past, end) in
    c.loop-i.invariant.all ∙ (λ k. replicate (all k) (replicate {A = ℕ} 4096 0))
