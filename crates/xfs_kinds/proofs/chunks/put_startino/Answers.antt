use Rattle.std.proofs.Common.{rules, ◌≡◌, length, arith}
use Rattle.xfs_word.specs.Field.{field_of}
use Rattle.xfs_word.proofs.Register.{AreBytes}
use Rattle.xfs_kinds.specs.InodeTreeLaws.{startino_put}
use Rattle.xfs_kinds.proofs.chunks.put_startino.Goals as goal

pub returns : goal.returns
returns c =
    let bytes = c.put32.new.bytes in
    let all : AreBytes bytes = record { below = λ k. omega (arith, c.type_inv.bytes k) } in
    let long : length bytes ≡ 4 = search rules in
    let is : field_of bytes 0 4 ≡ c.args.startino = search rules in
    startino_put c.args.startino bytes all long is
