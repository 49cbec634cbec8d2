-- Files by their places in a list.
use Rattle.std.specs.Prelude.{ℕ, Bool, ◌≡◌, ◌<◌, List, [], length, map, slice_index_or, take}
use Rattle.std.specs.List.{All, filter}
use Rattle.xfs_claims.specs.declared.claimants.FileClaim.{FileClaim}
use Rattle.xfs_claims.specs.declared.ranks.FilePlace.{FilePlace}

abbrev pub no_claim : FileClaim
no_claim = record { ino = 0; cluster = 0; runs = [] }

-- the file that stands at the place
abbrev pub file_at_place : List FileClaim → FilePlace → FileClaim
file_at_place files place = slice_index_or files place.at no_claim

-- the place is one of the files', and has the number of its file
pub record IsFilePlace (files : List FileClaim) (place : FilePlace) : Type 0 where
  pub inside : place.at < length files
  pub number : place.number ≡ (file_at_place files place).ino

-- the places have the first n files that pass the test, in their order
pub record ArePlaces (files : List FileClaim) (test : FileClaim → Bool) (n : ℕ) (places : List FilePlace) : Type 0 where
  pub each : All (IsFilePlace files) places
  pub files_are : map (file_at_place files) places ≡ filter test (take n files)
