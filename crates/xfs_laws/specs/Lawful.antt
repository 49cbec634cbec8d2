-- When a volume is lawful: ten laws, judged in this order, hold at each of their places.
use Rattle.std.specs.Prelude.{◌≡◌, ◌≢◌, ◌<◌, List, ◌++◌, length, Option, Some, None, Result, Ok, Err}
use Rattle.std.specs.List.{All}
use Rattle.xfs_geom.specs.Volumes.{volume_of}
use Rattle.xfs_volume.specs.declared.catalogs.BlockLsn.{BlockLsn}
use Rattle.xfs_volume.specs.declared.catalogs.Catalog.{Catalog}
use Rattle.xfs_volume.specs.declared.findings.Law.{Law}
use Rattle.xfs_volume.specs.declared.findings.LawFault.{LawFault}
use Rattle.xfs_volume.specs.declared.findings.LawFault.TheVariants.{Broken, NoMemory}
use Rattle.xfs_volume.specs.Laws.{first_broken}
use Rattle.xfs_space.specs.Parts.{AreGroups, HasLawfulForks}
use Rattle.xfs_space.specs.SpaceLaws.{space_laws}
use Rattle.xfs_naming.specs.Naming.{AreNamed, naming_laws}
use Rattle.xfs_laws.specs.Counting.{chunk_laws, counter_laws, list_laws, log_laws}

-- what the laws of counts say: chunks (4), counters (5), free lists (6)
abbrev pub counting_laws : Catalog → List Law
counting_laws c =
    let v = volume_of c.geometry in
    chunk_laws v c.files c.groups ++ (counter_laws v c.groups c.counts ++ list_laws c.groups)

-- what each law says of each place of a volume, in the order in which the laws are judged: space (1 to 3), counts (4 to 6), names
-- (7 to 9), the log (10)
abbrev pub laws_of : Catalog → List Law
laws_of c =
    let v = volume_of c.geometry in
    space_laws v c.groups c.files
    ++ (counting_laws c ++ (naming_laws v.rootino c.files c.entries c.dirs ++ log_laws c.groups c.log c.lsns))

-- the first of the laws that is broken, at its least place
unfoldable pub broken_law : Catalog → Option Law
broken_law c = first_broken (laws_of c)

-- what the parts of a catalog keep by themselves: a group for each of the volume's, with lawful records; files with lawful extents,
-- by number; a record for each directory, and their entries in the same order; blocks of the volume
pub record IsCatalog (c : Catalog) : Type 0 where
  pub count : length c.groups ≡ c.geometry.agcount
  pub groups : AreGroups (volume_of c.geometry) 0 c.groups
  pub files : All (HasLawfulForks (volume_of c.geometry)) c.files
  pub names : AreNamed c.files c.entries c.dirs
  pub lsns : All (λ (l : BlockLsn). l.block < c.geometry.dblocks) c.lsns

-- the verdict: none is broken, or the first that is; want of memory says nothing
abbrev pub IsVerdict : Option Law → Result (Unit {0}) LawFault → Type 0
IsVerdict broken (Ok _) = broken ≡ None
IsVerdict broken (Err (Broken law)) = broken ≡ Some law
IsVerdict broken (Err NoMemory) = Unit {0}

-- what is told of a broken law is another number than the one that is due
abbrev pub Differs : LawFault → Type 0
Differs (Broken law) = law.held ≢ law.due
Differs NoMemory = Unit {0}
