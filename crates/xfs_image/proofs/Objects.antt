-- A block that begins as a slot of an inode is sealed as no other object.
use Rattle.std.proofs.Common.{◌≡◌, ◌⊎◌, ℕ, true, false, not, ◌/◌, ◌^◌, ◌≤◌, ◌<◌, inl, inr, ◌==◌, List, [], ◌∷◌, refl, arith}
use Rattle.std.specs.List.{list_any}
use Rattle.std.proofs.lemmas.Bool.{and_left, and_right, eq-eqb, eqb-true, ne_eqb, not_from_true, or_from}
use Rattle.xfs_disk.specs.Blocks.{Image, bytes_of_block}
use Rattle.xfs_word.specs.Field.{field_of}
use Rattle.xfs_word.specs.Seal.{begins_as_slot, has_magic, is_ready, is_sealed}
use Rattle.xfs_word.specs.declared.kinds.SealKind.{SealKind}
use Rattle.xfs_word.specs.declared.kinds.SealKind.TheVariants as Kind
use Rattle.xfs_geom.specs.Volumes.{Volume}
use Rattle.xfs_image.specs.Candidates.{has_whole_seal, whole_kinds, whole_seal}

-- the first two bytes are the magic number of an inode
pub record BeginsAsSlot (bytes : List ℕ) : Type 0 where
  pub low : 0x494e_0000 ≤ field_of bytes 0 4
  pub high : field_of bytes 0 4 < 0x494f_0000

not_sealed : (v : Volume) (b : ℕ) (kind : SealKind) (bytes : List ℕ) → has_magic kind bytes ≡ false → is_sealed (whole_seal v b kind) bytes ≡ false
unfolding is_sealed is_ready
not_sealed v b kind bytes none = and_left _ _ (and_left _ _ (and_left _ _ (and_left _ _ (and_left _ _ none))))

other : (bytes : List ℕ) (n : ℕ) → BeginsAsSlot bytes → (n < 0x494e_0000) ⊎ (0x494f_0000 ≤ n) → (field_of bytes 0 4 == n) ≡ false
other bytes n is off =
    let low = is.low in
    let high = is.high in
    ne_eqb (field_of bytes 0 4) n (λ e. elim off [ inl a ↦ absurd (omega (arith, e, low, a)) | inr a ↦ absurd (omega (arith, e, high, a)) ])

below : (n : ℕ) → n < 0x494e_0000 → (n < 0x494e_0000) ⊎ (0x494f_0000 ≤ n)
below n h = inl h

above : (n : ℕ) → 0x494f_0000 ≤ n → (n < 0x494e_0000) ⊎ (0x494f_0000 ≤ n)
above n h = inr h

short_tree : (bytes : List ℕ) (n : ℕ) → BeginsAsSlot bytes → (n < 0x494e_0000) ⊎ (0x494f_0000 ≤ n) → has_magic (Kind.ShortTree n) bytes ≡ false
unfolding has_magic
short_tree bytes n is off = other bytes n is off

long_tree : (bytes : List ℕ) → BeginsAsSlot bytes → has_magic Kind.LongTree bytes ≡ false
unfolding has_magic
long_tree bytes is = other bytes 0x424d_4133 is (below 0x424d_4133 (omega arith))

dir_data : (bytes : List ℕ) → BeginsAsSlot bytes → has_magic Kind.DirData bytes ≡ false
unfolding has_magic
dir_data bytes is =
    or_from (field_of bytes 0 4 == 0x5844_4433) (field_of bytes 0 4 == 0x5844_4233) (other bytes 0x5844_4433 is (above 0x5844_4433 (omega arith)))
    (other bytes 0x5844_4233 is (above 0x5844_4233 (omega arith)))

dir_free : (bytes : List ℕ) → BeginsAsSlot bytes → has_magic Kind.DirFree bytes ≡ false
unfolding has_magic
dir_free bytes is = other bytes 0x5844_4633 is (above 0x5844_4633 (omega arith))

index : (bytes : List ℕ) (n : ℕ) → BeginsAsSlot bytes → has_magic (Kind.Index n) bytes ≡ false
unfolding has_magic
index bytes n is =
    let low = is.low in
    let high = is.high in
    let begins_so : begins_as_slot bytes ≡ true = eq-eqb (field_of bytes 0 4 / 2 ^ 16) 0x494e (omega (arith, low, high)) in
    and_right (field_of bytes 8 2 == n) (not (begins_as_slot bytes)) (not_from_true (begins_as_slot bytes) begins_so)

symlink : (bytes : List ℕ) → BeginsAsSlot bytes → has_magic Kind.Symlink bytes ≡ false
unfolding has_magic
symlink bytes is = other bytes 0x5853_4c4d is (above 0x5853_4c4d (omega arith))

NoneHas : List ℕ → List SealKind → Type 0
NoneHas bytes [] = Unit {0}
NoneHas bytes (kind ∷ kinds) = (has_magic kind bytes ≡ false) × NoneHas bytes kinds

none_sealed : (v : Volume) (b : ℕ) (bytes : List ℕ) (kinds : List SealKind) → NoneHas bytes kinds → list_any (λ kind. is_sealed (whole_seal v b kind) bytes) kinds ≡ false
unfolding NoneHas
none_sealed v b bytes [] none = refl
none_sealed v b bytes (kind ∷ kinds) none =
    or_from (is_sealed (whole_seal v b kind) bytes) (list_any (λ k. is_sealed (whole_seal v b k) bytes) kinds) (not_sealed v b kind bytes none.0) (none_sealed v b bytes kinds none.1)

no_kind : (bytes : List ℕ) → BeginsAsSlot bytes → NoneHas bytes whole_kinds
unfolding NoneHas
no_kind bytes is = (
  short_tree bytes 0x4142_3342 is (below 0x4142_3342 (omega arith)),
  (
    short_tree bytes 0x4142_3343 is (below 0x4142_3343 (omega arith)),
    (
      short_tree bytes 0x4941_4233 is (below 0x4941_4233 (omega arith)),
      (
        short_tree bytes 0x4649_4233 is (below 0x4649_4233 (omega arith)),
        (
          short_tree bytes 0x524d_4233 is (above 0x524d_4233 (omega arith)),
          (
            long_tree bytes is,
            (
              dir_data bytes is,
              (
                dir_free bytes is,
                (index bytes 0x3df1 is, (index bytes 0x3dff is, (index bytes 0x3ebe is, (index bytes 0x3bee is, (symlink bytes is, tt))))),
              ),
            ),
          ),
        ),
      ),
    ),
  ),
)

pub no_object : (v : Volume) (image : Image) (b : ℕ) → BeginsAsSlot (bytes_of_block image b) → has_whole_seal v image b ≡ false
unfolding has_whole_seal
no_object v image b is = none_sealed v b (bytes_of_block image b) whole_kinds (no_kind (bytes_of_block image b) is)

pub begun_is_no_object : (v : Volume) (image : Image) (b : ℕ) → begins_as_slot (bytes_of_block image b) ≡ true → has_whole_seal v image b ≡ false
begun_is_no_object v image b begins =
    let same : field_of (bytes_of_block image b) 0 4 / 2 ^ 16 ≡ 0x494e = eqb-true (field_of (bytes_of_block image b) 0 4 / 2 ^ 16) 0x494e begins in
    no_object v image b (record { low = omega (arith, same); high = omega (arith, same) })
