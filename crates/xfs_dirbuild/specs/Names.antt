-- Entries of the tests.
use Rattle.std.specs.Prelude.{◌≡◌, ◌<◌, ◌^◌, length}
use Rattle.xfs_dirdata.specs.declared.records.EntryRec.{EntryRec}

-- an entry has a name of six bytes and a small inode number
pub record HasNameOfSix (e : EntryRec) : Type 0 where
  pub name : length e.name ≡ 6
  pub ino : e.ino < 2 ^ 32
