-- What is told of the first record of a number.
use Rattle.std.proofs.Common.{◌≡◌, ℕ, List, [], ◌∷◌, Option, None, Some, refl}
use Rattle.std.specs.List.{slice_get}
use Rattle.xfs_volume.specs.declared.files.FileRec.{FileRec}
use Rattle.xfs_inodebuild.specs.declared.forks.ForkWanted.{ForkWanted}
use Rattle.xfs_changes.specs.Forks.{attribute_blocks, first_attribute_blocks}
use Rattle.xfs_changes.specs.Slots.{first_fork, first_links}
use Rattle.xfs_changes.specs.declared.forks.DirectoryFork.{DirectoryFork}

abbrev pub blocks_told : Option FileRec → ℕ
blocks_told None = 0
blocks_told (Some f) = attribute_blocks f

pub first_blocks : (fs : List FileRec) → blocks_told (slice_get fs 0) ≡ first_attribute_blocks fs
first_blocks [] = refl
first_blocks (f ∷ fs) = refl

abbrev pub links_told : Option FileRec → Option ℕ
links_told None = None
links_told (Some f) = Some f.core.nlink

pub links_first : (fs : List FileRec) → links_told (slice_get fs 0) ≡ first_links fs
links_first [] = refl
links_first (f ∷ fs) = refl

abbrev pub fork_told : Option DirectoryFork → Option ForkWanted
fork_told None = None
fork_told (Some f) = Some f.fork

pub fork_first : (fs : List DirectoryFork) → fork_told (slice_get fs 0) ≡ first_fork fs
fork_first [] = refl
fork_first (f ∷ fs) = refl
