-- The block is that part of the bytes, and what is written over it stands there.
use Rattle.std.proofs.Common.{◌≡◌, ℕ, List, ◌+◌, ◌-◌, ◌*◌, ◌/◌, take, drop, length, Some, refl, arith, rules, ap, sym, ◌∙◌}
use Rattle.std.specs.Vec.{with_items_from}
use Rattle.xfs_disk.specs.Memory.{blocks_of_bytes}
use Rattle.xfs_collections.proofs.Blocks.{block_inside, block_is, is_overwritten, overwritten-block}
use Rattle.xfs_collections.proofs.bank.BlockBank.view_mut.Goals as goal

pub overflow_mul-start : goal.overflow_mul-start
overflow_mul-start c = let within = block_inside (length c.self.inside.bytes.items / 4096) c.self.inside.bytes.items c.args.self.now c.args.i c.self.view_is (omega (arith, c.self.invariant)) c.requires.inside in record { fits = omega arith }

pub overflow_add-start : goal.overflow_add-start
overflow_add-start c = let within = block_inside (length c.self.inside.bytes.items / 4096) c.self.inside.bytes.items c.args.self.now c.args.i c.self.view_is (omega (arith, c.self.invariant)) c.requires.inside in record { fits = omega arith }

pub slice_mut-requires-clause-in_bounds : goal.slice_mut-requires-clause-in_bounds
slice_mut-requires-clause-in_bounds c = let within = block_inside (length c.self.inside.bytes.items / 4096) c.self.inside.bytes.items c.args.self.now c.args.i c.self.view_is (omega (arith, c.self.invariant)) c.requires.inside in omega arith

pub returns : goal.returns
returns c =
    let vec = c.self.inside.bytes in
    let blocks : ℕ = length vec.items / 4096 in
    let even : length vec.items ≡ blocks * 4096 = omega (arith, c.self.invariant) in
    let whole : 4096 ≡ c.args.i * 4096 + 4096 - c.args.i * 4096 = omega arith in (
      (
        refl,
        λ w. let after = with_items_from vec (c.args.i * 4096) w in
            let count : length after.items / 4096 ≡ blocks = omega (arith, after.ok.0, vec.ok.0) in
            ap (λ (n : ℕ). blocks_of_bytes n after.items) count ∙ is_overwritten blocks vec.len vec.items c.args.self.now c.args.i w _ c.self.view_is even vec.ok.0 c.requires.inside,
      ),
      record {
        writes_back = tt;
        block = block_is blocks vec.items c.args.self.now c.args.i c.self.view_is c.requires.inside ∙ ap (λ (bytes : List ℕ). Some bytes) (ap (λ (m : ℕ). take m (drop (c.args.i * 4096) vec.items)) whole ∙ sym c.slice_mut.ensures.value);
        size = search rules;
        set = λ block size. overwritten-block blocks vec.items c.args.self.now c.args.i block c.self.view_is even c.requires.inside size;
      },
    )
