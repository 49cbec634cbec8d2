-- All zero bytes are blocks of zeros.
use Rattle.std.proofs.Common.{◌≡◌, ℕ, ◌*◌, ◌/◌, length, rules, arith, ap, ◌∙◌}
use Rattle.std.specs.Prelude.{replicate}
use Rattle.std.proofs.lemmas.List.{length-replicate}
use Rattle.xfs_disk.specs.Memory.{blocks_of_bytes}
use Rattle.xfs_collections.proofs.Blocks.{blocks_of-replicate}
use Rattle.xfs_collections.proofs.bank.BlockBank.make.Goals as goal

pub returns : goal.returns
returns c =
    let zeros : c.in_ok-bytes.bytes.items ≡ replicate (c.args.n * 4096) 0 = search rules in
    let count : length c.in_ok-bytes.bytes.items / 4096 ≡ c.args.n = omega (arith, ap length zeros, length-replicate {A = ℕ} (c.args.n * 4096) 0) in
    (λ k. blocks_of_bytes (count k) (zeros k)) ∙ blocks_of-replicate c.args.n
