-- The stamp of a call.
use Rattle.std.specs.Prelude.{◌≡◌, ℕ, ◌-◌, ◌/◌, ◌%◌, ◌^◌, min, List}
use Rattle.std.specs.Int.{from_le_bytes, w32}
use Rattle.uuid.specs.Parts.{with_variant, with_version}
use Rattle.uuid.specs.declared.Variant.TheVariants.{RFC4122}
use Rattle.uuid.specs.declared.Version.TheVariants.{Random}
use Rattle.xfs_disk.specs.declared.stamp.Stamp.{Stamp}

-- The stamp states this time in nanoseconds since 1970 began, its seconds held below 2^31; four random bytes as the generation, and sixteen,
-- marked as random (RFC 4122), as the identifier.
pub record IsStampOf (time : ℕ) (four sixteen : List ℕ) (stamp : Stamp) : Type 0 where
  pub seconds : stamp.seconds ≡ min (time / 1000000000) (2 ^ 31 - 1)
  pub nanos : stamp.nanos ≡ time % 1000000000
  pub generation : stamp.generation ≡ from_le_bytes w32 four
  pub identifier : stamp.uuid ≡ with_version (with_variant sixteen RFC4122) Random

-- the stamp is that of a time that was told and of bytes that were drawn
pub record IsDrawn (tells_time : ℕ → Type 0) (draws : List ℕ → Type 0) (stamp : Stamp) : Type 0 where
  pub time : ℕ
  pub four : List ℕ
  pub sixteen : List ℕ
  pub told : tells_time time
  pub drawn_four : draws four
  pub drawn_sixteen : draws sixteen
  pub stated : IsStampOf time four sixteen stamp
