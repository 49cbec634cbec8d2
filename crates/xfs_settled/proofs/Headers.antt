-- Of what is placed in a group there is one block with its headers.
use Rattle.std.proofs.Common.{◌≡◌, ℕ, zero, suc, ◌+◌, ◌*◌, ◌<◌, ◌≤◌, ◌&&◌, Bool, true, false, if◌then◌else◌, List, [], ◌∷◌, get_or, Some, None, refl, sym, ◌∙◌, ap, subst, arith}
use Rattle.std.proofs.lemmas.Bool.{and_parts, eqb-true}
use Rattle.std.proofs.lemmas.Slice.Eq.{bytes_eq-Decides}
use Rattle.std.specs.List.{list_all}
use Rattle.xfs_word.specs.Crc.{little_field_of}
use Rattle.xfs_word.specs.Field.{field_of, part_of, IsZero}
use Rattle.xfs_word.specs.Seal.{has_magic, is_ready, is_sealed}
use Rattle.xfs_word.specs.declared.kinds.SealKind.TheVariants as Kind
use Rattle.xfs_word.proofs.Register.{AreBytes}
use Rattle.xfs_geom.specs.Volumes.{Volume}
use Rattle.xfs_geom.specs.declared.records.InoRec.{InoRec}
use Rattle.xfs_heads.specs.FreeList.{active, agfl_of, stated_agfl}
use Rattle.xfs_heads.specs.FreeSpace.{agf_of, has_free_list, is_agf_shaped, stated_agf}
use Rattle.xfs_heads.specs.Heads.{head_seal, is_listable, numbers}
use Rattle.xfs_heads.specs.Inodes.{agi_of, is_agi_shaped, stated_agi}
use Rattle.xfs_heads.specs.declared.free_list.Agfl.{Agfl}
use Rattle.xfs_heads.specs.declared.free_space.Agf.{Agf}
use Rattle.xfs_heads.specs.declared.inodes.Agi.{Agi}
use Rattle.xfs_heads.proofs.Kept.{numbers_at}
use Rattle.xfs_place.specs.declared.placed.GroupPlaced.{GroupPlaced}
use Rattle.xfs_render.specs.Groups.{due_agf, due_agfl, due_agi}
use Rattle.xfs_render.specs.HeaderBlocks.{IsHeaderBlock}
use Rattle.xfs_settled.specs.Sectors.{AreSized}
use Rattle.xfs_settled.proofs.Sealing.{part_bytes, part_long, same_join, same_number, same_parts, sealed_one, whole_part}
use Rattle.xfs_settled.proofs.Supers.{checked}

-- a part of sized bytes is sized
pub part_sized : (size at n : ℕ) (xs : List ℕ) → at + n ≤ size → AreSized size xs → AreSized n (part_of xs at n)
part_sized size at n xs inside sized =
    let all : AreBytes xs = record { below = sized.low } in
    record { size = part_long xs at n (omega (arith, sized.size)); low = (part_bytes xs at n all).below }

-- what is read where two tests pass is what stands there
read_both : {A : Type 0} (sealed shaped : Bool) (held due : A) → (if sealed && shaped then Some held else None) ≡ Some due → (sealed ≡ true) × (held ≡ due)
read_both true true held due is = (refl, cc)
read_both true false held due is = absurd cc
read_both false shaped held due is = absurd cc

read_second : {A : Type 0} (first sealed last : Bool) (held due : A) → (if first && sealed && last then Some held else None) ≡ Some due → sealed ≡ true
read_second true true last held due is = refl
read_second true false last held due is = absurd cc
read_second false sealed last held due is = absurd cc

agf_read : (v : Volume) (ag : ℕ) (sector : List ℕ) (agf : Agf) → agf_of v ag sector ≡ Some agf → (is_sealed (head_seal Kind.Agf v ag) sector ≡ true) × (stated_agf sector ≡ agf)
unfolding agf_of
agf_read v ag sector agf reads = read_both (is_sealed (head_seal Kind.Agf v ag) sector) (is_agf_shaped v ag (stated_agf sector)) (stated_agf sector) agf reads

agi_read : (v : Volume) (ag : ℕ) (sector : List ℕ) (agi : Agi) → agi_of v ag sector ≡ Some agi → (is_sealed (head_seal Kind.Agi v ag) sector ≡ true) × (stated_agi sector ≡ agi)
unfolding agi_of
agi_read v ag sector agi reads = read_both (is_sealed (head_seal Kind.Agi v ag) sector) (is_agi_shaped v ag (stated_agi sector)) (stated_agi sector) agi reads

agfl_read : (v : Volume) (ag : ℕ) (agf : Agf) (sector : List ℕ) (agfl : Agfl) → agfl_of v ag agf sector ≡ Some agfl → is_sealed (head_seal Kind.Agfl v ag) sector ≡ true
unfolding agfl_of
agfl_read v ag agf sector agfl reads =
    read_second (has_free_list agf) (is_sealed (head_seal Kind.Agfl v ag) sector) (list_all (is_listable v ag) (active sector agf.flfirst agf.flcount)) (stated_agfl agf sector) agfl reads

-- the first fields of a free list: its magic number, the number of its group, the identifier
agfl_magic : (v : Volume) (ag : ℕ) (sector : List ℕ) → is_sealed (head_seal Kind.Agfl v ag) sector ≡ true → field_of sector 0 4 ≡ 0x5841_464c
unfolding is_sealed is_ready has_magic
agfl_magic v ag sector sealed =
    let a = and_parts _ _ sealed in
    let b = and_parts _ _ a.0 in
    let c = and_parts _ _ b.0 in
    let d = and_parts _ _ c.0 in
    let e = and_parts _ _ d.0 in
    eqb-true (field_of sector 0 4) 0x5841_464c e.0

agfl_number : (v : Volume) (ag : ℕ) (sector : List ℕ) → is_sealed (head_seal Kind.Agfl v ag) sector ≡ true → field_of sector 4 4 ≡ ag
unfolding is_sealed is_ready
agfl_number v ag sector sealed =
    let a = and_parts _ _ sealed in
    let b = and_parts _ _ a.0 in
    let c = and_parts _ _ b.0 in
    let d = and_parts _ _ c.0 in
    eqb-true (field_of sector 4 4) ag d.1

agfl_uuid : (v : Volume) (ag : ℕ) (sector : List ℕ) → is_sealed (head_seal Kind.Agfl v ag) sector ≡ true → part_of sector 8 16 ≡ v.uuid
unfolding is_sealed is_ready
agfl_uuid v ag sector sealed =
    let a = and_parts _ _ sealed in
    let b = and_parts _ _ a.0 in
    let c = and_parts _ _ b.0 in
    let d = and_parts _ _ c.0 in
    let e = and_parts _ _ d.0 in
    (bytes_eq-Decides (part_of sector 8 16) v.uuid).0 e.1

-- the same numbers of four bytes stand in the same bytes
module _ (a b : List ℕ) (size at n : ℕ) (sa : AreSized size a) (sb : AreSized size b) (inside : at + 4 * n ≤ size) (same : numbers a at n ≡ numbers b at n) where
  each_same : (k : ℕ) → k < n → field_of a (at + 4 * k) 4 ≡ field_of b (at + 4 * k) 4
  each_same k low = sym (numbers_at a at n k low) ∙ ap (λ (xs : List ℕ). get_or xs k 0) same ∙ numbers_at b at n k low

  none_same : part_of a at 0 ≡ part_of b at 0
  unfolding part_of
  none_same = refl

  first_same : (m : ℕ) → m ≤ n → part_of a at (4 * m) ≡ part_of b at (4 * m)
  first_same zero low = none_same
  first_same (suc m) low =
      let more : 4 * m + 4 ≡ 4 * suc m = omega arith in
      let here : part_of a (at + 4 * m) 4 ≡ part_of b (at + 4 * m) 4 =
      same_number a b size (at + 4 * m) 4 sa sb (omega (arith, inside, low)) (each_same m (omega (arith, low))) in
      subst (λ (k : ℕ). part_of a at k ≡ part_of b at k) more (same_join a b at (4 * m) 4 (first_same m (omega (arith, low))) here)

  pub same_numbers : part_of a at (4 * n) ≡ part_of b at (4 * n)
  same_numbers = first_same n (omega arith)

module _ (v : Volume) (ag : ℕ) (a b : List ℕ) (sa : AreSized 512 a) (sb : AreSized 512 b) where
  number : (at w : ℕ) → at + w ≤ 512 → field_of a at w ≡ field_of b at w → part_of a at w ≡ part_of b at w
  number at w inside same = same_number a b 512 at w sa sb inside same

  zeros_same : (at w : ℕ) → IsZero a at w → IsZero b at w → part_of a at w ≡ part_of b at w
  zeros_same at w za zb = za ∙ sym zb

  -- the header of free space
  agf_one : (agf : Agf) → agf_of v ag a ≡ Some (record agf { crc = little_field_of a 216 4 }) → agf_of v ag b ≡ Some (record agf { crc = little_field_of b 216 4 })
      → IsZero a 84 124 → IsZero b 84 124 → IsZero a 220 292 → IsZero b 220 292 → a ≡ b
  agf_one agf ra rb za zb ya yb =
      let ta = agf_read v ag a (record agf { crc = little_field_of a 216 4 }) ra in
      let tb = agf_read v ag b (record agf { crc = little_field_of b 216 4 }) rb in
      let beside = λ (x : Agf). let r : Agf = record x { crc = 0 } in r in
      let same : beside (stated_agf a) ≡ beside (stated_agf b) = ap beside ta.1 ∙ sym (ap beside tb.1) in
      sealed_one a b 216 292 512 (omega arith) sa sb
      (same_parts a b 0 (4 ∷ 4 ∷ 4 ∷ 4 ∷ 4 ∷ 4 ∷ 4 ∷ 4 ∷ 4 ∷ 4 ∷ 4 ∷ 4 ∷ 4 ∷ 4 ∷ 4 ∷ 4 ∷ 16 ∷ 4 ∷ 124 ∷ 8 ∷ []) (number 0 4 (omega arith) (ap (λ (x : Agf). x.magicnum) same), (number 4 4 (omega arith) (ap (λ (x : Agf). x.versionnum) same), (number 8 4 (omega arith) (ap (λ (x : Agf). x.seqno) same), (number 12 4 (omega arith) (ap (λ (x : Agf). x.length) same), (number 16 4 (omega arith) (ap (λ (x : Agf). x.bnoroot) same), (number 20 4 (omega arith) (ap (λ (x : Agf). x.cntroot) same), (number 24 4 (omega arith) (ap (λ (x : Agf). x.rmaproot) same), (number 28 4 (omega arith) (ap (λ (x : Agf). x.bnolevel) same), (number 32 4 (omega arith) (ap (λ (x : Agf). x.cntlevel) same), (number 36 4 (omega arith) (ap (λ (x : Agf). x.rmaplevel) same), (number 40 4 (omega arith) (ap (λ (x : Agf). x.flfirst) same), (number 44 4 (omega arith) (ap (λ (x : Agf). x.fllast) same), (number 48 4 (omega arith) (ap (λ (x : Agf). x.flcount) same), (number 52 4 (omega arith) (ap (λ (x : Agf). x.freeblks) same), (number 56 4 (omega arith) (ap (λ (x : Agf). x.longest) same), (number 60 4 (omega arith) (ap (λ (x : Agf). x.btreeblks) same), (ap (λ (x : Agf). x.uuid) same, (number 80 4 (omega arith) (ap (λ (x : Agf). x.rmapblocks) same), (za ∙ sym zb, (number 208 8 (omega arith) (ap (λ (x : Agf). x.lsn) same), tt)))))))))))))))))))))
      (zeros_same 220 292 ya yb) (checked (head_seal Kind.Agf v ag) a ta.0) (checked (head_seal Kind.Agf v ag) b tb.0)

  -- the header of inodes
  agi_one : (agi : Agi) → agi_of v ag a ≡ Some (record agi { crc = little_field_of a 312 4 }) → agi_of v ag b ≡ Some (record agi { crc = little_field_of b 312 4 })
      → IsZero a 316 4 → IsZero b 316 4 → IsZero a 336 176 → IsZero b 336 176 → a ≡ b
  agi_one agi ra rb za zb ya yb =
      let ta = agi_read v ag a (record agi { crc = little_field_of a 312 4 }) ra in
      let tb = agi_read v ag b (record agi { crc = little_field_of b 312 4 }) rb in
      let beside = λ (x : Agi). let r : Agi = record x { crc = 0 } in r in
      let same : beside (stated_agi a) ≡ beside (stated_agi b) = ap beside ta.1 ∙ sym (ap beside tb.1) in
      sealed_one a b 312 196 512 (omega arith) sa sb
      (same_parts a b 0 (4 ∷ 4 ∷ 4 ∷ 4 ∷ 4 ∷ 4 ∷ 4 ∷ 4 ∷ 4 ∷ 4 ∷ 256 ∷ 16 ∷ []) (number 0 4 (omega arith) (ap (λ (x : Agi). x.magicnum) same), (number 4 4 (omega arith) (ap (λ (x : Agi). x.versionnum) same), (number 8 4 (omega arith) (ap (λ (x : Agi). x.seqno) same), (number 12 4 (omega arith) (ap (λ (x : Agi). x.length) same), (number 16 4 (omega arith) (ap (λ (x : Agi). x.count) same), (number 20 4 (omega arith) (ap (λ (x : Agi). x.root) same), (number 24 4 (omega arith) (ap (λ (x : Agi). x.level) same), (number 28 4 (omega arith) (ap (λ (x : Agi). x.freecount) same), (number 32 4 (omega arith) (ap (λ (x : Agi). x.newino) same), (number 36 4 (omega arith) (ap (λ (x : Agi). x.dirino) same), (same_numbers a b 512 40 64 sa sb (omega arith) (ap (λ (x : Agi). x.unlinked) same), (ap (λ (x : Agi). x.uuid) same, tt)))))))))))))
      (same_parts a b 316 (4 ∷ 8 ∷ 4 ∷ 4 ∷ 176 ∷ []) (za ∙ sym zb, (number 320 8 (omega arith) (ap (λ (x : Agi). x.lsn) same), (number 328 4 (omega arith) (ap (λ (x : Agi). x.free_root) same), (number 332 4 (omega arith) (ap (λ (x : Agi). x.free_level) same), (ya ∙ sym yb, tt))))))
      (checked (head_seal Kind.Agi v ag) a ta.0) (checked (head_seal Kind.Agi v ag) b tb.0)

  -- the free list
  agfl_one : is_sealed (head_seal Kind.Agfl v ag) a ≡ true → is_sealed (head_seal Kind.Agfl v ag) b ≡ true → field_of a 24 8 ≡ 0 → field_of b 24 8 ≡ 0
      → numbers a 36 119 ≡ numbers b 36 119 → a ≡ b
  agfl_one ia ib la lb same =
      sealed_one a b 32 476 512 (omega arith) sa sb
      (same_parts a b 0 (4 ∷ 4 ∷ 16 ∷ 8 ∷ []) (
        number 0 4 (omega arith) (agfl_magic v ag a ia ∙ sym (agfl_magic v ag b ib)),
        (
          number 4 4 (omega arith) (agfl_number v ag a ia ∙ sym (agfl_number v ag b ib)),
          (agfl_uuid v ag a ia ∙ sym (agfl_uuid v ag b ib), (number 24 8 (omega arith) (la ∙ sym lb), tt)),
        ),
      ))
      (same_numbers a b 512 36 119 sa sb (omega arith) same) (checked (head_seal Kind.Agfl v ag) a ia) (checked (head_seal Kind.Agfl v ag) b ib)

module _ (v : Volume) (ag : ℕ) (super old : List ℕ) (inodes : List InoRec) (p : GroupPlaced) (a b : List ℕ) (sa : AreSized 4096 a) (sb : AreSized 4096 b)
    (ia : IsHeaderBlock v ag super old inodes p a) (ib : IsHeaderBlock v ag super old inodes p b) where
  sector_sized : (xs : List ℕ) (at : ℕ) → at + 512 ≤ 4096 → AreSized 4096 xs → AreSized 512 (part_of xs at 512)
  sector_sized xs at inside sized = part_sized 4096 at 512 xs inside sized

  space : part_of a 512 512 ≡ part_of b 512 512
  space =
      agf_one v ag (part_of a 512 512) (part_of b 512 512) (sector_sized a 512 (omega arith) sa) (sector_sized b 512 (omega arith) sb) (due_agf v ag p) ia.agf ib.agf
      ia.agf_zero_before_lsn ib.agf_zero_before_lsn ia.agf_zero_behind_crc ib.agf_zero_behind_crc

  inside : part_of a 1024 512 ≡ part_of b 1024 512
  inside =
      agi_one v ag (part_of a 1024 512) (part_of b 1024 512) (sector_sized a 1024 (omega arith) sa) (sector_sized b 1024 (omega arith) sb) (due_agi v ag inodes p) ia.agi ib.agi
      ia.agi_zero_behind_crc ib.agi_zero_behind_crc ia.agi_zero_behind_levels ib.agi_zero_behind_levels

  listed : part_of a 1536 512 ≡ part_of b 1536 512
  listed =
      let due = λ (crc : ℕ). let r : Agf = record (due_agf v ag p) { crc = crc } in r in
      agfl_one v ag (part_of a 1536 512) (part_of b 1536 512) (sector_sized a 1536 (omega arith) sa) (sector_sized b 1536 (omega arith) sb)
      (agfl_read v ag (due 0) (part_of a 1536 512) (due_agfl p) (ia.agfl 0)) (agfl_read v ag (due 0) (part_of b 1536 512) (due_agfl p) (ib.agfl 0))
      ia.agfl_lsn ib.agfl_lsn (ia.agfl_entries ∙ sym ib.agfl_entries)

  pub header_one : a ≡ b
  header_one =
      sym (whole_part a 4096 sa.size)
      ∙ same_parts a b 0 (512 ∷ 512 ∷ 512 ∷ 512 ∷ 2048 ∷ []) (ia.super' ∙ sym ib.super', (space, (inside, (listed, (ia.rest ∙ sym ib.rest, tt)))))
      ∙ whole_part b 4096 sb.size
