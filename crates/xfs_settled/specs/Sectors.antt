-- Lists of bytes by their length, and what of them can be sealed.
use Rattle.std.specs.Prelude.{◌≡◌, ℕ, ◌<◌, true, List, length, slice_index}
use Rattle.xfs_word.specs.Seal.{has_magic}
use Rattle.xfs_word.specs.declared.kinds.SealKind.TheVariants as Sealed
use Rattle.xfs_place.specs.declared.wanted.ObjectKind.{ObjectKind}
use Rattle.xfs_place.specs.declared.wanted.ObjectKind.TheVariants as kinds
use Rattle.xfs_render.specs.Objects.{directory_kind}

-- so many bytes
pub record AreSized (count : ℕ) (bytes : List ℕ) : Type 0 where
  pub size : length bytes ≡ count
  pub low : (i : ℕ) → slice_index bytes i < 256

-- the bytes that were built for a block of an object have the magic number of what they are sealed as; data of a file is not sealed
abbrev pub CanBeSealed : ObjectKind → List ℕ → Type 0
CanBeSealed kinds.Directory built = has_magic (directory_kind built) built ≡ true
CanBeSealed kinds.Symlink built = has_magic Sealed.Symlink built ≡ true
CanBeSealed kinds.Data built = Unit {0}
