use Rattle.std.proofs.Common.{◌≡◌, ℕ, ◌+◌, ◌-◌, ◌*◌, ◌/◌, ◌<◌, get_or, ap, ◌∙◌, arith}
use Rattle.xfs_image.specs.Lsns.{LsnPlace}
use Rattle.xfs_journal.specs.Placed.{number_at}
use Rattle.xfs_journal.proofs.Slots.{first_number}
use Rattle.xfs_journal.proofs.known.known_at.Goals as goal

pub returns : goal.returns
returns c = λ image are.
    let place = c.args.place.now in
    let first : ℕ = get_or c.args.clusters.now c.args.cluster 0 in
    let k : ℕ = place.block - first in
    let s : ℕ = place.byte / 512 in
    let from = c.if-place-first.false in
    let row = c.if-place-first-ge-BLOCKS.false in
    let slot = c.if-place-ne-SLOT_LSN.false in
    let inside = c.requires.inside in
    let few : s < 8 = omega (arith, inside) in
    let low = c.if-known-cluster.false in
    let at : c.args.cluster * 32 + (k * 8 + s) ≡ 32 * c.args.cluster + (8 * k + s) = omega arith in
    let block : first + k ≡ place.block = omega (arith, from) in
    let byte : 512 * s + 112 ≡ place.byte = omega (arith, slot) in
    ap (λ i. get_or c.args.known.now i 0) at
    ∙ first_number image c.args.clusters.now c.args.known.now c.args.cluster k s are c.if-clusters-cluster.false row few (omega (arith, low, row, few))
    ∙ (λ i. number_at image (let p : LsnPlace = record { block = block i; byte = byte i } in p))
