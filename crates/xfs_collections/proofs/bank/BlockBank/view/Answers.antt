-- The block is that part of the bytes.
use Rattle.std.proofs.Common.{◌≡◌, ◌+◌, ◌-◌, ◌*◌, ◌/◌, take, drop, length, Some, arith, sym, ◌∙◌}
use Rattle.xfs_collections.proofs.Blocks.{block_inside, block_is}
use Rattle.xfs_collections.proofs.bank.BlockBank.view.Goals as goal

pub overflow_mul-start : goal.overflow_mul-start
overflow_mul-start c = let within = block_inside (length c.self.inside.bytes.items / 4096) c.self.inside.bytes.items c.args.self.now c.args.i c.self.view_is (omega (arith, c.self.invariant)) c.requires.inside in record { fits = omega arith }

pub overflow_add-result : goal.overflow_add-result
overflow_add-result c = let within = block_inside (length c.self.inside.bytes.items / 4096) c.self.inside.bytes.items c.args.self.now c.args.i c.self.view_is (omega (arith, c.self.invariant)) c.requires.inside in record { fits = omega arith }

pub slice_bounds-result-end : goal.slice_bounds-result-end
slice_bounds-result-end c = let within = block_inside (length c.self.inside.bytes.items / 4096) c.self.inside.bytes.items c.args.self.now c.args.i c.self.view_is (omega (arith, c.self.invariant)) c.requires.inside in omega (arith, c.as_slice-bytes.ensures.len, c.self.inside.bytes.ok.0)

pub returns-clause-block : goal.returns-clause-block
returns-clause-block c =
    let size : 4096 ≡ c.args.i * 4096 + 4096 - c.args.i * 4096 = omega arith in
    block_is (length c.self.inside.bytes.items / 4096) c.self.inside.bytes.items c.args.self.now c.args.i c.self.view_is c.requires.inside ∙ (λ k. Some (take (size k) (drop (c.args.i * 4096) (sym c.as_slice-bytes.ensures.value k))))
