-- There are as many blocks as the bank counts, and they are an image.
use Rattle.std.proofs.Common.{◌≡◌, ◌<◌, ◌/◌, ℕ, arith, ap, sym, ◌∙◌, Some, length}
use Rattle.std.proofs.lemmas.List.Elements.{All-same}
use Rattle.xfs_disk.specs.Memory.{blocks_of_bytes}
use Rattle.xfs_disk.specs.MemoryImage.{is_told_image}
use Rattle.xfs_collections.proofs.Blocks.{length-blocks_of}
use Rattle.xfs_collections.proofs.bank.BlockBank.len.Goals as goal

pub returns-clause-count : goal.returns-clause-count
returns-clause-count c =
    let count : length c.self.inside.bytes.items / 4096 ≡ length c.args.self.now = sym (length-blocks_of (length c.self.inside.bytes.items / 4096) c.self.inside.bytes.items) ∙ ap length c.self.view_is in
    omega (arith, c.blocks_in.ensures.count, ap length c.deref.ensures.value)

pub returns-clause-image : goal.returns-clause-image
returns-clause-image c =
    let bytes = c.self.inside.bytes.items in
    let count : length bytes / 4096 ≡ c.blocks_in.result = omega (arith, c.blocks_in.ensures.count, ap length c.deref.ensures.value) in
    is_told_image c.blocks_in.result bytes c.args.self.now (omega (arith, c.self.invariant)) (All-same (λ b. b < 256) _ _ (sym c.deref.ensures.value) c.blocks_in.ensures.fit) (λ k. Some ((ap (λ (n : ℕ). blocks_of_bytes n bytes) (sym count) ∙ c.self.view_is) k))
