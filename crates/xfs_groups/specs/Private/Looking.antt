-- What the bytes of a block are.
use Rattle.std.specs.Prelude.{◌≡◌, ℕ, Bool, List, [], ◌∷◌}
use Rattle.std.specs.List.{list_any}
use Rattle.xfs_word.specs.Seal.{is_sealed}
use Rattle.xfs_word.specs.declared.kinds.SealKind.TheVariants as Kind
use Rattle.xfs_word.specs.declared.kinds.SealKind.{SealKind}
use Rattle.xfs_disk.specs.Blocks.{Image, bytes_of_block}
use Rattle.xfs_geom.specs.Volumes.{Volume}
use Rattle.xfs_image.specs.Candidates.{is_used_slot, has_whole_seal, whole_seal}
use Rattle.xfs_image.specs.Slots.{inodes_of_block}
use Rattle.xfs_groups.specs.declared.looking.BlockSeen.{BlockSeen}

-- a slot of the block is sealed and holds a file
abbrev pub has_used : Volume → Image → ℕ → Bool
has_used v image block = list_any (is_used_slot v image) (inodes_of_block v block)

-- the kinds of the blocks of the trees of a group that name inodes
abbrev pub naming_kinds : List SealKind
naming_kinds = Kind.ShortTree 0x4941_4233 ∷ Kind.ShortTree 0x524d_4233 ∷ []

abbrev pub is_naming : Volume → Image → ℕ → Bool
is_naming v image block = list_any (λ kind. is_sealed (whole_seal v block kind) (bytes_of_block image block)) naming_kinds

-- the bytes of the block are what is seen
pub record IsSeen (v : Volume) (image : Image) (block : ℕ) (seen : BlockSeen) : Type 0 where
  pub used : seen.used ≡ has_used v image block
  pub naming : seen.naming ≡ is_naming v image block
  pub whole : seen.whole ≡ has_whole_seal v image block
