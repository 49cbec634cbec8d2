use Rattle.std.proofs.Common.{◌≡◌, ℕ, ◌+◌, ◌-◌, ◌*◌, ◌<◌, inl, inr, List, [], map, length, take, drop, min, get_or, sym, ◌∙◌, ap, subst, arith}
use Rattle.std.proofs.lemmas.Bool.{cases_lt}
use Rattle.std.proofs.lemmas.List.{take_min, length-drop}
use Rattle.std.specs.List.{range_with_len}
use Rattle.xfs_dirbuild.specs.Forms.{value_blocks}
use Rattle.xfs_dirbuild.specs.FreeBlocks.{IsBuiltFreeBlock, values_in}
use Rattle.xfs_dirbuild.specs.Blocks.{free_block, free_block_at, free_index_blocks, bank_part}
use Rattle.xfs_dirbuild.proofs.Sections.{section-more}
use Rattle.xfs_dirbuild.proofs.Banks.{put-there, put-beside, put-count}
use Rattle.xfs_dirbuild.proofs.free_blocks.put_free_blocks.Goals as goal

free-part : (vs : List ℕ) (i end : ℕ) → end ≡ min (2016 * i + 2016) (length vs) → take (end - 2016 * i) (drop (2016 * i) vs) ≡ values_in vs i
free-part vs i end is =
    let count : end - 2016 * i ≡ min 2016 (length (drop (2016 * i) vs)) = omega (arith, length-drop (2016 * i) vs) in
    ap (λ (n : ℕ). take n (drop (2016 * i) vs)) count ∙ take_min 2016 (drop (2016 * i) vs)

pub loop-i-preserved : goal.loop-i-preserved
loop-i-preserved c =
    let i = c.loop-i.i in
    let vs = c.args.values.now in
    let old = c.loop-i.blocks in
    let new = c.put_block.new.blocks in
    let at = c.args.base + i in
    let block = c.put_free.new.block in
    let is = c.put_block.ensures in
    let part : take (c.min-end.result - 2016 * i) (drop (2016 * i) vs) ≡ values_in vs i = free-part vs i c.min-end.result (omega (arith, c.min-end.ensures)) in
    let inside : c.args.base + i < length old = omega (arith, c.value_blocks-i-end.ensures, c.requires.room, c.loop-i.invariant.count) in
    let here : IsBuiltFreeBlock (2016 * i) (values_in vs i) (get_or new (c.args.base + i) []) =
    subst (λ (b : List ℕ). IsBuiltFreeBlock (2016 * i) (values_in vs i) b) (sym (put-there old new at block is inside))
    (subst (λ (xs : List ℕ). IsBuiltFreeBlock (2016 * i) xs block) part c.put_free.ensures.stands) in
    record {
      blocks_are = λ k less. elim (cases_lt k i) [
        | inl before ↦
            subst (λ (b : List ℕ). IsBuiltFreeBlock (2016 * k) (values_in vs k) b) (sym (put-beside old new at (c.args.base + k) block is (inl (omega arith))))
            (c.loop-i.invariant.blocks_are k before)
        | inr behind ↦
            let last : i ≡ k = omega arith in
            subst (λ (n : ℕ). IsBuiltFreeBlock (2016 * n) (values_in vs n) (get_or new (c.args.base + n) [])) last here
      ];
      bytes_are = section-more old new c.args.base i block (free_block_at vs) (put-count old new at block is) inside
          (λ k less. put-beside old new at (c.args.base + k) block is (inl (omega arith))) (put-there old new at block is inside)
          (c.put_free.ensures.bytes ∙ ap (free_block (2016 * i)) part) c.loop-i.invariant.bytes_are;
      count = put-count old new at block is ∙ c.loop-i.invariant.count;
      others = λ k low. put-beside old new at k block is (inl (omega arith)) ∙ c.loop-i.invariant.others k low;
    }

pub returns-clause-bytes : goal.returns-clause-bytes
unfolding free_index_blocks
returns-clause-bytes c =
    let end : c.loop-i.i ≡ value_blocks (length c.args.values.now) = omega (arith, c.value_blocks-i-end.ensures) in
    subst (λ (n : ℕ). bank_part c.loop-i.blocks c.args.base n ≡ map (free_block_at c.args.values.now) (range_with_len 0 n)) end c.loop-i.invariant.bytes_are
