use Rattle.std.proofs.Common.{◌≡◌, true, ◌+◌, ◌<◌, ◌≤◌, ℕ, sym, ◌∙◌, ap, arith}
use borrow.Author.Count.{below_more}
use Rattle.xfs_geom.specs.Volumes.{volume_of}
use Rattle.xfs_kinds.specs.InodeTrees.{is_block_free_of_use, are_free_of_use}
use Rattle.xfs_kinds.proofs.Ranges.{some_fails, all_hold}
use Rattle.xfs_kinds.proofs.chunks.are_free_of_use.Goals as goal

pub returns-then-not-is_block_free_of_use : goal.returns-then-not-is_block_free_of_use
unfolding are_free_of_use
returns-then-not-is_block_free_of_use c =
    let block = c.loop-block.block in
    let test = is_block_free_of_use (volume_of c.args.g.now) c.args.holemask c.args.start in
    let place : 0 + block ≡ block = omega arith in
    sym (some_fails test 0 8 block c.loop-block-test.true (ap test place ∙ sym c.is_block_free_of_use.ensures ∙ c.if-not-is_block_free_of_use.true))

pub returns : goal.returns
unfolding are_free_of_use
returns c =
    let test = is_block_free_of_use (volume_of c.args.g.now) c.args.holemask c.args.start in
    let holds = λ (k : ℕ) (h : k < 8).
    let place : 0 + k ≡ k = omega arith in
    let less : k < c.loop-block.block = omega arith in
    ap test place ∙ c.loop-block.invariant k less in
    sym (all_hold test 0 8 holds)

inside : (start block blocks : ℕ) → start + 8 ≤ blocks → block < 8 → start + block < blocks
inside start block blocks all here = omega arith

pub loop-block-preserved : goal.loop-block-preserved
loop-block-preserved c =
    below_more (λ (k : ℕ). is_block_free_of_use (volume_of c.args.g.now) c.args.holemask c.args.start k ≡ true) c.loop-block.block c.loop-block.invariant
    (sym c.is_block_free_of_use.ensures ∙ c.if-not-is_block_free_of_use.false)

pub is_block_free_of_use-requires-clause-inside : goal.is_block_free_of_use-requires-clause-inside
is_block_free_of_use-requires-clause-inside c = inside c.args.start c.loop-block.block c.args.g.now.dblocks c.requires c.loop-block-test.true
