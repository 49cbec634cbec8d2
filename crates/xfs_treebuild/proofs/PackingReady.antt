-- Blocks of trees that are ready to be sealed.
use Rattle.std.proofs.Common.{◌≡◌, ℕ, Some, List, bytes_eq, true, ap}
use Rattle.std.specs.Cmp.Derive.{both_true}
use Rattle.std.proofs.lemmas.Bool.{eq-eqb}
use Rattle.std.proofs.lemmas.Slice.Eq.{bytes_eq-Decides}
use Rattle.xfs_word.specs.Field.{field_of, part_of}
use Rattle.xfs_word.specs.Seal.{is_ready, has_magic, is_lsn}
use Rattle.xfs_word.specs.declared.kinds.Seal.{Seal}
use Rattle.xfs_word.specs.declared.kinds.SealKind.TheVariants.{ShortTree, LongTree}

same_bytes : (xs ys : List ℕ) → xs ≡ ys → bytes_eq xs ys ≡ true
same_bytes xs ys h = (bytes_eq-Decides xs ys).1 h

abbrev short_seal : ℕ → ℕ → ℕ → List ℕ → Seal
short_seal magic place owner uuid = record { kind = ShortTree magic; place = place; owner = Some owner; uuid = uuid }

abbrev long_seal : ℕ → ℕ → List ℕ → Seal
long_seal place owner uuid = record { kind = LongTree; place = place; owner = Some owner; uuid = uuid }

pub ready_short : (magic place owner : ℕ) (uuid block : List ℕ) → field_of block 0 4 ≡ magic → part_of block 32 16 ≡ uuid
    → field_of block 16 8 ≡ place → field_of block 48 4 ≡ owner → field_of block 24 8 ≡ 0 → is_ready (short_seal magic place owner uuid) block ≡ true
unfolding is_ready has_magic
ready_short magic place owner uuid block magic_is uuid_is place_is owner_is lsn =
    both_true (both_true (both_true (both_true (eq-eqb _ _ magic_is) (same_bytes _ _ uuid_is)) (eq-eqb _ _ place_is)) (eq-eqb _ _ owner_is)) (ap is_lsn lsn)

pub ready_long : (place owner : ℕ) (uuid block : List ℕ) → field_of block 0 4 ≡ 0x424d_4133 → part_of block 40 16 ≡ uuid
    → field_of block 24 8 ≡ place → field_of block 56 8 ≡ owner → field_of block 32 8 ≡ 0 → is_ready (long_seal place owner uuid) block ≡ true
unfolding is_ready has_magic
ready_long place owner uuid block magic_is uuid_is place_is owner_is lsn =
    both_true (both_true (both_true (both_true (eq-eqb _ _ magic_is) (same_bytes _ _ uuid_is)) (eq-eqb _ _ place_is)) (eq-eqb _ _ owner_is)) (ap is_lsn lsn)
