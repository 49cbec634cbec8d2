-- One more block.
use Rattle.std.proofs.Common.{◌≡◌, ◌∙◌, ◌/◌, ◌++◌, [], ◌∷◌, ℕ, List, suc, length, length-append, ap, arith}
use Rattle.xfs_disk.specs.Blocks.{Image}
use Rattle.xfs_disk.specs.Memory.{blocks_of_bytes}
use Rattle.xfs_collections.proofs.Blocks.{blocks_of-push}
use Rattle.xfs_collections.proofs.bank.BlockBank.push.Goals as goal

pub returns : goal.returns
returns c =
    let bytes = c.self.inside.bytes.items in
    let block = c.args.block.now in
    let new = c.extend_from_slice.new.self.items in
    let n = length bytes / 4096 in
    let is : new ≡ bytes ++ block = c.in_ok-extend_from_slice.ensures.items in
    let count : length new / 4096 ≡ suc n = omega (arith, ap length is, length-append bytes block, c.self.invariant, c.requires.whole) in
    ap (λ (m : ℕ). blocks_of_bytes m new) count ∙ ap (λ (xs : List ℕ). blocks_of_bytes (suc n) xs) is
    ∙ blocks_of-push n bytes block (omega (arith, c.self.invariant)) c.requires.whole ∙ ap (λ (bank : Image). bank ++ block ∷ []) c.self.view_is
