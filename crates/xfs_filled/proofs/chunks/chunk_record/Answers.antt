use Rattle.std.proofs.Common.{arith, ◌∙◌, ℕ, ◌-◌, ◌*◌, ◌%◌, ◌^◌, get_or, ap, ◌+◌, ◌<◌, ◌≤◌}
use Rattle.std.proofs.Math.Nat.{mod-lt, mul-le-mul_right}
use Rattle.xfs_filled.proofs.chunks.chunk_record.Goals as goal

pub used_in-used-requires-clause-files : goal.used_in-used-requires-clause-files
used_in-used-requires-clause-files c = c.requires.files

pub used_in-used-requires-clause-chunk : goal.used_in-used-requires-clause-chunk
used_in-used-requires-clause-chunk c = omega (arith, c.requires.inside, c.requires.chunks)

pub free_behind-requires : goal.free_behind-requires
free_behind-requires c = c.used_in-used.ensures.few

pub bounds-starts-c : goal.bounds-starts-c
bounds-starts-c c = c.requires.inside

pub overflow_sub-result : goal.overflow_sub-result
overflow_sub-result c = omega (arith, c.used_in-used.ensures.few)

pub returns : goal.returns
returns c = λ i. record {
  startino = get_or c.args.starts.now c.args.c 0 % c.args.g.now.agblocks * 8;
  holemask = 0;
  count = 64;
  freecount = 64 - c.used_in-used.ensures.value i;
  free = (c.free_behind.ensures ∙ ap (λ (n : ℕ). 2 ^ 64 - 2 ^ n) c.used_in-used.ensures.value) i;
}

-- the first inode of a chunk, in its group
small_start : (x n a d : ℕ) → 2 ≤ n → (n - 1) * a + 64 ≤ d → d ≤ 2 ^ 26 → 1024 ≤ a → x % a * 8 < 2 ^ 32
small_start x n a d two last small large =
    let own : 1 * a ≤ (n - 1) * a = mul-le-mul_right a (omega (arith, two)) in
    let short : a ≤ 2 ^ 26 = omega (arith, own, last, small) in
    let rest : x % a < a = mod-lt x (omega (arith, large)) in
    omega (arith, short, rest)

pub overflow_mul-result : goal.overflow_mul-result
overflow_mul-result c =
    let g = c.args.g.now in
    let s = g.shape.groups in
    let small = small_start (get_or c.args.starts.now c.args.c 0) g.agcount g.agblocks g.dblocks s.two s.last s.small s.large in
    omega (arith, small)

pub overflow_cast-result-2 : goal.overflow_cast-result-2
overflow_cast-result-2 c =
    let g = c.args.g.now in
    let s = g.shape.groups in
    let small = small_start (get_or c.args.starts.now c.args.c 0) g.agcount g.agblocks g.dblocks s.two s.last s.small s.large in
    omega (arith, small)

pub overflow_cast-result-3 : goal.overflow_cast-result-3
overflow_cast-result-3 c = omega arith

pub overflow_cast-result-4 : goal.overflow_cast-result-4
overflow_cast-result-4 c = omega arith

pub overflow_cast-result-5 : goal.overflow_cast-result-5
overflow_cast-result-5 c = omega (arith, c.used_in-used.ensures.few)

pub nonzero_rem-result : goal.nonzero_rem-result
nonzero_rem-result c = omega (arith, c.args.g.now.shape.groups.large)
