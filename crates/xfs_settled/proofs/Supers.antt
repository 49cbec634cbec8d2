-- Of one superblock, with one set of counters, there is one that is written anew.
use Rattle.std.proofs.Common.{◌≡◌, ℕ, ◌+◌, ◌≤◌, true, List, [], ◌∷◌, refl, sym, ◌∙◌, arith}
use Rattle.std.proofs.lemmas.Bool.{and_parts}
use Rattle.xfs_word.specs.Crc.{has_checksum}
use Rattle.xfs_word.specs.Field.{field_of, part_of}
use Rattle.xfs_word.specs.Seal.{is_sealed, layout_of}
use Rattle.xfs_word.specs.declared.kinds.Seal.{Seal}
use Rattle.xfs_geom.specs.Superblocks.{super_seal}
use Rattle.xfs_geom.specs.Writing.{IsSuperOf}
use Rattle.xfs_geom.specs.declared.records.Counts.{Counts}
use Rattle.xfs_settled.specs.Sectors.{AreSized}
use Rattle.xfs_settled.proofs.Sealing.{same_number, same_parts, sealed_one}

-- what is sealed has its checksum
pub checked : (seal : Seal) (bytes : List ℕ) → is_sealed seal bytes ≡ true → has_checksum bytes (layout_of seal.kind).checksum ≡ true
unfolding is_sealed
checked seal bytes sealed = (and_parts _ _ sealed).1

module _ (base : List ℕ) (counts : Counts) (a b : List ℕ) (sa : AreSized 512 a) (sb : AreSized 512 b) (ia : IsSuperOf base counts a) (ib : IsSuperOf base counts b) where
  stays : (at w : ℕ) → part_of a at w ≡ part_of base at w → part_of b at w ≡ part_of base at w → part_of a at w ≡ part_of b at w
  stays at w pa pb = pa ∙ sym pb

  number : (at w n : ℕ) → at + w ≤ 512 → field_of a at w ≡ n → field_of b at w ≡ n → part_of a at w ≡ part_of b at w
  number at w n inside na nb = same_number a b 512 at w sa sb inside (na ∙ sym nb)

  front : part_of a 0 224 ≡ part_of b 0 224
  front = same_parts a b 0 (64 ∷ 8 ∷ 8 ∷ 46 ∷ 1 ∷ 1 ∷ 8 ∷ 8 ∷ 8 ∷ 8 ∷ 64 ∷ []) (stays 0 64 (ia.parts 0 64 refl) (ib.parts 0 64 refl), (number 64 8 (field_of base 56 8 + 1) (omega arith) ia.rbmino ib.rbmino, (number 72 8 (field_of base 56 8 + 2) (omega arith) ia.rsumino ib.rsumino, (stays 80 46 (ia.parts 80 46 refl) (ib.parts 80 46 refl), (number 126 1 0 (omega arith) ia.inprogress ib.inprogress, (stays 127 1 (ia.parts 127 1 refl) (ib.parts 127 1 refl), (number 128 8 counts.icount (omega arith) ia.icount ib.icount, (number 136 8 counts.ifree (omega arith) ia.ifree ib.ifree, (number 144 8 counts.fdblocks (omega arith) ia.fdblocks ib.fdblocks, (number 152 8 0 (omega arith) ia.frextents ib.frextents, (stays 160 64 (ia.parts 160 64 refl) (ib.parts 160 64 refl), tt)))))))))))

  back : part_of a 228 284 ≡ part_of b 228 284
  back = same_parts a b 228 (12 ∷ 8 ∷ 264 ∷ []) (stays 228 12 (ia.parts 228 12 refl) (ib.parts 228 12 refl), (number 240 8 0 (omega arith) ia.lsn ib.lsn, (stays 248 264 (ia.parts 248 264 refl) (ib.parts 248 264 refl), tt)))

  pub super_one : a ≡ b
  super_one = sealed_one a b 224 284 512 (omega arith) sa sb front back (checked super_seal a ia.sealed) (checked super_seal b ib.sealed)
