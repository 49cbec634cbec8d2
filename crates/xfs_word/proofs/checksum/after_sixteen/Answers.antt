use Rattle.std.proofs.Common.{◌≡◌, bit_xor, sym, ap, ap₂, ◌∙◌, drop, arith}
use Rattle.std.specs.Int.Bits.{xor_comm}
use Rattle.std.proofs.lemmas.List.{take_rest}
use Rattle.byteorder.specs.Endian.{little_number}
use Rattle.xfs_word.proofs.Register.{AreBytes, sixteen, sixteen_zeros}
use Rattle.xfs_word.proofs.checksum.after_sixteen.Goals as goal

pub returns-then-last-eq0 : goal.returns-then-last-eq0
returns-then-last-eq0 c =
    let bytes = c.args.bytes.now in
    let all : AreBytes bytes = record { below = λ k. omega (arith, c.type_inv.bytes k) } in
    let none : little_number 8 bytes ≡ 0 = sym c.read_u64-first.ensures ∙ c.if-first-eq0.true in
    let none_behind : little_number 8 (drop 8 bytes) ≡ 0 =
    sym (c.read_u64-last.ensures ∙ ap (little_number 8) (take_rest bytes 8)) ∙ c.if-last-eq0.true in
    c.four_entries.ensures ∙ sixteen_zeros c.args.register bytes all c.requires none none_behind

pub returns : goal.returns
returns c =
    let bytes = c.args.bytes.now in
    let register = c.args.register in
    let number = c.read_u64-first.result in
    let read : number ≡ little_number 8 bytes = c.read_u64-first.ensures in
    let all : AreBytes bytes = record { below = λ k. omega (arith, c.type_inv.bytes k) } in
    ap₂ bit_xor c.entries.ensures c.entries-2.ensures
    ∙ sixteen register (bit_xor number register) c.read_u64-last.result bytes all c.requires (xor_comm number register ∙ ap (bit_xor register) read)
    (c.read_u64-last.ensures ∙ ap (little_number 8) (take_rest bytes 8))
