use Rattle.std.proofs.Common.{◌≡◌, ◌<◌, ◌^◌, sym, ◌∙◌, ap, arith}
use Rattle.byteorder.specs.Endian.{big_number}
use Rattle.xfs_word.specs.Extent.{packed}
use Rattle.xfs_word.proofs.Register.{AreBytes}
use Rattle.xfs_word.proofs.Parts.{masked, packed-unpacked, unpacked-packed}
use Rattle.xfs_word.proofs.extents.unpack_extent.Goals as goal

pub returns-clause-packs : goal.returns-clause-packs
returns-clause-packs c =
    let bytes = c.args.bytes.now in
    let number = c.read_u128-number.result in
    let read : number ≡ big_number 16 bytes = c.read_u128-number.ensures in
    let all : AreBytes bytes = record { below = λ k. c.fits-bytes k } in
    let fits : number < 2 ^ 128 = omega arith in
    packed-unpacked bytes number read fits c.told-bytes all ∙ ap packed (sym (masked number))

pub returns-clause-only : goal.returns-clause-only
returns-clause-only c extent fits spelt =
    let bytes = c.args.bytes.now in
    let number = c.read_u128-number.result in
    let read : number ≡ big_number 16 bytes = c.read_u128-number.ensures in
    masked number ∙ unpacked-packed bytes number extent read fits spelt
