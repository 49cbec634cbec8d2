use Rattle.std.proofs.Common.{rules, ◌≡◌, length, arith}
use Rattle.xfs_word.specs.Field.{field_of}
use Rattle.xfs_word.proofs.Register.{AreBytes}
use Rattle.xfs_kinds.specs.FileTreeLaws.{offset_put}
use Rattle.xfs_kinds.proofs.file_trees.put_offset.Goals as goal

pub returns : goal.returns
returns c =
    let bytes = c.put64.new.bytes in
    let all : AreBytes bytes = record { below = λ k. omega (arith, c.type_inv.bytes k) } in
    let long : length bytes ≡ 8 = search rules in
    let is : field_of bytes 0 8 ≡ c.args.offset = search rules in
    offset_put c.args.offset bytes all long is
