use Rattle.std.proofs.Common.{◌≡◌, ℕ, ◌+◌, ◌-◌, ◌++◌, List, [], ◌∷◌, arith, sym, ap, ◌∙◌, append_assoc}
use Rattle.std.specs.List.{range_with_len}
use Rattle.xfs_empty.proofs.Pushed.{range_more}
use Rattle.xfs_filled.proofs.bytes.push_chunk.Goals as goal

pub loop-block-preserved : goal.loop-block-preserved
loop-block-preserved c =
    let block = c.loop-block.block in
    let start = c.args.start in
    let old = c.args.places.now.items in
    let from = c.loop-block.invariant.from in
    let n = block - start in
    let at : start + (block - start) ≡ block = omega (arith, from) in
    let next : block + 1 - start ≡ block - start + 1 = omega (arith, from) in
    record {
      all = c.in_ok-push.ensures.items ∙ ap (λ (xs : List ℕ). xs ++ block ∷ []) c.loop-block.invariant.all ∙ append_assoc old (range_with_len start (block - start)) (block ∷ [])
          ∙ ap (λ (xs : List ℕ). old ++ xs)
          (ap (λ (b : ℕ). range_with_len start (block - start) ++ b ∷ []) (sym at) ∙ sym (range_more start (block - start)) ∙ ap (range_with_len start) (sym next));
      from = omega (arith, from);
    }

pub returns : goal.returns
returns c =
    let from = c.loop-block.invariant.from in
    let past = c.loop-block-test.false in
    let end = c.loop-block.auto.block-end in
    let eight : c.loop-block.block - c.args.start ≡ 8 = omega (arith, from, past, end) in
    c.loop-block.invariant.all ∙ ap (λ (n : ℕ). c.args.places.now.items ++ range_with_len c.args.start n) eight
