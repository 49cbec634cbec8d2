-- Two images that have one volume, rendered from the same bytes, have the same blocks at the places whose bytes were at hand.
use Rattle.std.proofs.Common.{◌≡◌, ℕ, ◌+◌, ◌*◌, ◌/◌, ◌%◌, ◌<◌, ◌==◌, true, false, List, length, inl, inr, sym, subst, arith}
use Rattle.std.proofs.lemmas.Bool.{cases_Bool, eqb-true}
use Rattle.std.proofs.lemmas.Nat.{div-add-mod'}
use Rattle.xfs_disk.specs.Blocks.{Image, bytes_of_block}
use Rattle.xfs_place.specs.declared.placed.Placed.{Placed}
use Rattle.xfs_place.specs.declared.wanted.Wanted.{Wanted}
use Rattle.xfs_render.specs.Clusters.{CanCluster}
use Rattle.xfs_render.specs.HeaderBlocks.{IsHeaderBlock}
use Rattle.xfs_render.specs.Rendering.{HasVolume, IsDueSuper, byte_place, group_placed, is_head, old_at, volume, wanted_inodes}
use Rattle.xfs_render.specs.declared.bytes.Bytes.{Bytes}
use Rattle.xfs_settled.specs.Sectors.{AreSized}
use Rattle.xfs_settled.proofs.Headers.{header_one, part_sized}
use Rattle.xfs_settled.proofs.SlotChains.{cluster_one}
use Rattle.xfs_settled.proofs.Supers.{super_one}

-- a block that is the first of its group is so by the number of the group
head_of : (place blocks : ℕ) → (place % blocks == 0) ≡ true → place ≡ place / blocks * blocks
head_of place blocks is =
    let none : place % blocks ≡ 0 = eqb-true (place % blocks) 0 is in
    let whole : place / blocks * blocks + place % blocks ≡ place = div-add-mod' place blocks in
    omega (arith, none, whole)

module _ (w : Wanted) (p : Placed) (b : Bytes) (super other : List ℕ) (one two : Image)
    (serve : (i : ℕ) → i < length b.places → is_head (volume w) (byte_place b i) ≡ false → CanCluster (volume w) b.slots (byte_place b i) (old_at b i)) (da : IsDueSuper w p b super) (db : IsDueSuper w p b other)
    (ha : HasVolume w p b super one) (hb : HasVolume w p b other two) (i : ℕ) (low : i < length b.places)
    (sa : AreSized 4096 (bytes_of_block one (byte_place b i))) (sb : AreSized 4096 (bytes_of_block two (byte_place b i))) where
  at_head : (ag : ℕ) → byte_place b i ≡ ag * w.geometry.agblocks → bytes_of_block one (byte_place b i) ≡ bytes_of_block two (byte_place b i)
  at_head ag at =
      let ia = (ha.places i low).heads ag at in
      let ib = (hb.places i low).heads ag at in
      let x = bytes_of_block one (byte_place b i) in
      let y = bytes_of_block two (byte_place b i) in
      let sx : AreSized 512 super = subst (AreSized 512) ia.super' (part_sized 4096 0 512 x (omega arith) sa) in
      let sy : AreSized 512 other = subst (AreSized 512) ib.super' (part_sized 4096 0 512 y (omega arith) sb) in
      let same : super ≡ other = super_one b.sector p.counts super other sx sy da.written db.written in
      let ib' : IsHeaderBlock (volume w) ag super (old_at b i) (wanted_inodes w ag) (group_placed p ag) y =
      subst (λ (s : List ℕ). IsHeaderBlock (volume w) ag s (old_at b i) (wanted_inodes w ag) (group_placed p ag) y) (sym same) ib in
      header_one (volume w) ag super (old_at b i) (wanted_inodes w ag) (group_placed p ag) x y sa sb ia ib'

  at_cluster : is_head (volume w) (byte_place b i) ≡ false → bytes_of_block one (byte_place b i) ≡ bytes_of_block two (byte_place b i)
  at_cluster none =
      cluster_one (volume w) b.stamp.generation b.slots (byte_place b i) (old_at b i) (bytes_of_block one (byte_place b i)) (bytes_of_block two (byte_place b i)) (serve i low none) sa sb
      ((ha.places i low).clusters none) ((hb.places i low).clusters none)

  pub place_one : bytes_of_block one (byte_place b i) ≡ bytes_of_block two (byte_place b i)
  place_one = elim (cases_Bool (is_head (volume w) (byte_place b i))) [
    | inl yes' ↦ at_head (byte_place b i / w.geometry.agblocks) (head_of (byte_place b i) w.geometry.agblocks yes')
    | inr no' ↦ at_cluster no'
  ]
