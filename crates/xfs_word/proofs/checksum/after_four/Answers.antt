use Rattle.std.proofs.Common.{◌≡◌, bit_xor, ap, ◌∙◌, arith}
use Rattle.std.specs.Int.Bits.{xor_comm}
use Rattle.byteorder.specs.Endian.{little_number}
use Rattle.xfs_word.proofs.Register.{AreBytes, four_in}
use Rattle.xfs_word.proofs.checksum.after_four.Goals as goal

pub returns : goal.returns
returns c =
    let bytes = c.args.bytes.now in
    let register = c.args.register in
    let number = c.read_u32.result in
    let read : number ≡ little_number 4 bytes = c.read_u32.ensures in
    let all : AreBytes bytes = record { below = λ k. omega (arith, c.type_inv.bytes k) } in
    c.four_entries.ensures ∙ four_in register (bit_xor number register) bytes all c.requires (xor_comm number register ∙ ap (bit_xor register) read)
