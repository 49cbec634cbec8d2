-- Slots that are ready to be sealed.
use Rattle.std.proofs.Common.{◌≡◌, ℕ, true, ◌==◌, ◌&&◌, List, bytes_eq, refl, ◌∙◌, ap, ap₂}
use Rattle.std.specs.Cmp.Derive.{both_true}
use Rattle.std.proofs.lemmas.Bool.{eq-eqb, and_parts}
use Rattle.std.proofs.lemmas.Slice.Eq.{bytes_eq-Decides}
use Rattle.xfs_word.specs.Field.{field_of, part_of}
use Rattle.xfs_word.specs.Seal.{is_ready, is_sealed, has_magic, is_lsn}
use Rattle.xfs_geom.specs.Volumes.{Volume}
use Rattle.xfs_volume.specs.declared.cores.Core.{Core}
use Rattle.xfs_inode.specs.Cores.{stated_core}
use Rattle.xfs_inode.specs.Slots.{slot_seal}

same_bytes : (xs ys : List ℕ) → xs ≡ ys → bytes_eq xs ys ≡ true
same_bytes xs ys h = (bytes_eq-Decides xs ys).1 h

-- a slot with the fields that seal it
pub ready_slot : (v : Volume) (ino : ℕ) (slot : List ℕ) → field_of slot 0 2 ≡ 0x494e → field_of slot 4 1 ≡ 3
    → part_of slot 160 16 ≡ v.uuid → field_of slot 152 8 ≡ ino → is_lsn (field_of slot 112 8) ≡ true
    → is_ready (slot_seal v ino) slot ≡ true
unfolding is_ready has_magic
ready_slot v ino slot magic version uuid own lsn =
    both_true (both_true (both_true (both_true (both_true (eq-eqb _ _ magic) (eq-eqb _ _ version)) (same_bytes _ _ uuid)) (eq-eqb _ _ own)) refl) lsn

-- a sealed slot is ready
pub was_ready : (v : Volume) (ino : ℕ) (slot : List ℕ) → is_sealed (slot_seal v ino) slot ≡ true → is_ready (slot_seal v ino) slot ≡ true
unfolding is_sealed
was_ready v ino slot sealed = (and_parts _ _ sealed).0

-- a slot that has the fields that seal it from one that is ready
pub ready_again : (v : Volume) (ino : ℕ) (old new : List ℕ) (c : Core) → stated_core new ≡ c
    → c.magic ≡ (stated_core old).magic → c.version ≡ (stated_core old).version → c.uuid ≡ (stated_core old).uuid
    → c.ino ≡ (stated_core old).ino → c.lsn ≡ (stated_core old).lsn
    → is_ready (slot_seal v ino) old ≡ true → is_ready (slot_seal v ino) new ≡ true
unfolding is_ready has_magic
ready_again v ino old new c stated magic version uuid own lsn was =
    let of_magic : field_of new 0 2 ≡ field_of old 0 2 = ap (λ (a : Core). a.magic) stated ∙ magic in
    let of_version : field_of new 4 1 ≡ field_of old 4 1 = ap (λ (a : Core). a.version) stated ∙ version in
    let of_uuid : part_of new 160 16 ≡ part_of old 160 16 = ap (λ (a : Core). a.uuid) stated ∙ uuid in
    let of_own : field_of new 152 8 ≡ field_of old 152 8 = ap (λ (a : Core). a.ino) stated ∙ own in
    let of_lsn : field_of new 112 8 ≡ field_of old 112 8 = ap (λ (a : Core). a.lsn) stated ∙ lsn in
    let kind = ap₂ (λ (m n : ℕ). m == 0x494e && n == 3) of_magic of_version in
    let identifier = ap (λ (id : List ℕ). bytes_eq id v.uuid) of_uuid in
    let address = ap (λ (n : ℕ). n == ino) of_own in
    let number = ap (λ (n : ℕ). is_lsn n) of_lsn in
    ap₂ ◌&&◌ (ap₂ ◌&&◌ (ap₂ ◌&&◌ (ap₂ ◌&&◌ kind identifier) address) refl) number ∙ was
