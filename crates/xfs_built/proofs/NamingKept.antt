-- A volume that keeps the laws of names in words keeps each of them.
use Rattle.std.proofs.Common.{◌≡◌, ℕ, Bool, true, false, ◌==◌, if◌then◌else◌, List, [], ◌∷◌, Some, None, refl}
use Rattle.std.proofs.lemmas.Bool.{eqb-true}
use Rattle.xfs_dirdata.specs.declared.records.EntryRec.{EntryRec}
use Rattle.xfs_volume.specs.Laws.{AreKept, first_broken}
use Rattle.xfs_volume.specs.declared.directories.DirRec.{DirRec}
use Rattle.xfs_volume.specs.declared.files.FileRec.{FileRec}
use Rattle.xfs_volume.specs.declared.findings.Law.{Law}
use Rattle.xfs_naming.specs.Lawful.{IsNamingLawful}
use Rattle.xfs_naming.specs.Naming.{AreNamed, is_directory_at, naming_laws}
use Rattle.xfs_naming.proofs.Judged.{judged_names}
use Rattle.xfs_built.proofs.ShortWays.{ways_short}

-- where no law is broken all are kept
all_kept : (ls : List Law) → first_broken ls ≡ None → AreKept ls
unfolding first_broken
all_kept [] none = tt
all_kept (l ∷ ls) none = by_case (l.held == l.due) refl none (all_kept ls)
  where
    by_case : (t : Bool) → (l.held == l.due) ≡ t → (if t then first_broken ls else Some l) ≡ None → (first_broken ls ≡ None → AreKept ls) → (l.held ≡ l.due) × AreKept ls
    by_case true same rest later = (eqb-true l.held l.due same, later rest)
    by_case false other rest later = absurd cc

pub naming_kept : (root : ℕ) (files : List FileRec) (entries : List EntryRec) (dirs : List DirRec) → AreNamed files entries dirs → is_directory_at files root ≡ true
    → IsNamingLawful root files entries dirs → AreKept (naming_laws root files entries dirs)
naming_kept root files entries dirs named dir says =
    all_kept (naming_laws root files entries dirs) (judged_names root files entries dirs named (ways_short root files entries dirs named dir) says)
