use Rattle.std.proofs.Common.{rules, ◌≡◌, ◌∙◌, arith}
use Rattle.xfs_word.proofs.Register.{AreBytes}
use Rattle.xfs_kinds.specs.FileTrees.{extent_of}
use Rattle.xfs_kinds.specs.FileTreeLaws.{extent_spelt, extent_packable}
use Rattle.xfs_kinds.proofs.file_trees.read_extent.Goals as goal

pub returns : goal.returns
returns c =
    let bytes = c.args.bytes.now in
    let all : AreBytes bytes = record { below = λ k. omega (arith, c.type_inv.bytes k) } in
    let copied : c.copy_from_slice.new.self ≡ bytes = search rules in
    c.unpack_extent.ensures.only (extent_of bytes) (extent_packable bytes) (copied ∙ extent_spelt bytes all c.requires)
