-- Headers that are ready to be sealed.
use Rattle.std.proofs.Common.{◌≡◌, ℕ, true, List, bytes_eq, refl, ap}
use Rattle.std.specs.Cmp.Derive.{both_true}
use Rattle.std.proofs.lemmas.Bool.{eq-eqb}
use Rattle.std.proofs.lemmas.Slice.Eq.{bytes_eq-Decides}
use Rattle.xfs_word.specs.Field.{field_of, part_of}
use Rattle.xfs_word.specs.Seal.{is_ready, has_magic, is_lsn}
use Rattle.xfs_word.specs.declared.kinds.SealKind.TheVariants as Kind
use Rattle.xfs_geom.specs.Volumes.{Volume}
use Rattle.xfs_heads.specs.Heads.{head_seal}

same_bytes : (xs ys : List ℕ) → xs ≡ ys → bytes_eq xs ys ≡ true
same_bytes xs ys h = (bytes_eq-Decides xs ys).1 h

pub ready_agf : (v : Volume) (ag : ℕ) (sector : List ℕ) → field_of sector 0 4 ≡ 0x5841_4746 → part_of sector 64 16 ≡ v.uuid
    → field_of sector 8 4 ≡ ag → is_lsn (field_of sector 208 8) ≡ true → is_ready (head_seal Kind.Agf v ag) sector ≡ true
unfolding is_ready has_magic
ready_agf v ag sector magic uuid seqno lsn =
    both_true (both_true (both_true (both_true (eq-eqb _ _ magic) (same_bytes _ _ uuid)) (eq-eqb _ _ seqno)) refl) lsn

pub ready_agi : (v : Volume) (ag : ℕ) (sector : List ℕ) → field_of sector 0 4 ≡ 0x5841_4749 → part_of sector 296 16 ≡ v.uuid
    → field_of sector 8 4 ≡ ag → is_lsn (field_of sector 320 8) ≡ true → is_ready (head_seal Kind.Agi v ag) sector ≡ true
unfolding is_ready has_magic
ready_agi v ag sector magic uuid seqno lsn =
    both_true (both_true (both_true (both_true (eq-eqb _ _ magic) (same_bytes _ _ uuid)) (eq-eqb _ _ seqno)) refl) lsn

pub ready_agfl : (v : Volume) (ag : ℕ) (sector : List ℕ) → field_of sector 0 4 ≡ 0x5841_464c → part_of sector 8 16 ≡ v.uuid
    → field_of sector 4 4 ≡ ag → field_of sector 24 8 ≡ 0 → is_ready (head_seal Kind.Agfl v ag) sector ≡ true
unfolding is_ready has_magic
ready_agfl v ag sector magic uuid seqno lsn =
    both_true (both_true (both_true (both_true (eq-eqb _ _ magic) (same_bytes _ _ uuid)) (eq-eqb _ _ seqno)) refl) (ap is_lsn lsn)
