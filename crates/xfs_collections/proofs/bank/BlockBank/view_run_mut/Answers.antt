-- What is written over the bytes of a run stands in the place of its blocks.
use Rattle.std.proofs.Common.{◌≡◌, ◌<◌, ℕ, ◌*◌, ◌/◌, length, refl, arith, rules, ap, ◌∙◌}
use Rattle.std.specs.Vec.{with_items_from}
use Rattle.xfs_disk.specs.Memory.{blocks_of_bytes}
use Rattle.xfs_collections.proofs.Blocks.{is_overwritten, overwritten-run, run_inside}
use Rattle.xfs_collections.proofs.bank.BlockBank.view_run_mut.Goals as goal

pub overflow_mul-start : goal.overflow_mul-start
overflow_mul-start c = let within = run_inside (length c.self.inside.bytes.items / 4096) c.self.inside.bytes.items c.args.self.now c.args.i c.args.count c.self.view_is (omega (arith, c.self.invariant)) c.requires.inside in record { fits = omega arith }

pub overflow_mul-count : goal.overflow_mul-count
overflow_mul-count c = let within = run_inside (length c.self.inside.bytes.items / 4096) c.self.inside.bytes.items c.args.self.now c.args.i c.args.count c.self.view_is (omega (arith, c.self.invariant)) c.requires.inside in record { fits = omega arith }

pub overflow_add-start : goal.overflow_add-start
overflow_add-start c = let within = run_inside (length c.self.inside.bytes.items / 4096) c.self.inside.bytes.items c.args.self.now c.args.i c.args.count c.self.view_is (omega (arith, c.self.invariant)) c.requires.inside in record { fits = omega arith }

pub slice_mut-requires-clause-in_bounds : goal.slice_mut-requires-clause-in_bounds
slice_mut-requires-clause-in_bounds c = let within = run_inside (length c.self.inside.bytes.items / 4096) c.self.inside.bytes.items c.args.self.now c.args.i c.args.count c.self.view_is (omega (arith, c.self.invariant)) c.requires.inside in omega arith

pub returns : goal.returns
returns c =
    let vec = c.self.inside.bytes in
    let blocks : ℕ = length vec.items / 4096 in
    let even : length vec.items ≡ blocks * 4096 = omega (arith, c.self.invariant) in
    let low : c.args.i < length c.args.self.now = omega (arith, c.requires.inside, c.requires.some) in (
      (
        refl,
        λ w. let after = with_items_from vec (c.args.i * 4096) w in
            let count : length after.items / 4096 ≡ blocks = omega (arith, after.ok.0, vec.ok.0) in
            ap (λ (n : ℕ). blocks_of_bytes n after.items) count ∙ is_overwritten blocks vec.len vec.items c.args.self.now c.args.i w _ c.self.view_is even vec.ok.0 low,
      ),
      record {
        writes_back = tt;
        size = search rules;
        set = λ bytes size. overwritten-run blocks vec.items c.args.self.now c.args.i c.args.count bytes c.self.view_is even c.requires.inside size;
      },
    )
