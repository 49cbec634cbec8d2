-- The three laws together, in the words of a volume's groups and files.
use Rattle.std.proofs.Common.{◌≡◌, ◌≢◌, List, ◌++◌, Option, Some, None, IfSome, refl, sym, ◌∙◌, ap, subst}
use Rattle.std.specs.List.{All}
use Rattle.std.specs.List.Sorted.{IsPermutation}
use Rattle.xfs_geom.specs.Volumes.{Volume}
use Rattle.xfs_geom.specs.declared.records.Run.{Run}
use Rattle.xfs_volume.specs.declared.files.FileRec.{FileRec}
use Rattle.xfs_volume.specs.declared.findings.Law.{Law}
use Rattle.xfs_volume.specs.declared.groups.GroupRec.{GroupRec}
use Rattle.xfs_volume.specs.Laws.{first_broken}
use Rattle.xfs_space.specs.Owners.{owned_runs}
use Rattle.xfs_space.specs.Private.RunLaws.{AreLawful, run_laws}
use Rattle.xfs_space.specs.SpaceLaws.{IsSpaceLawful, free_laws, owner_laws, recorded_runs, sharing_laws, space_laws}
use Rattle.xfs_space.specs.Sorted.{IsOwned}
use Rattle.xfs_volume.proofs.First.{first_behind, first_differs}
use Rattle.xfs_space.proofs.FreeKept.{free_none}
use Rattle.xfs_space.proofs.Moved.{laws_moved, lawful_moved}
use Rattle.xfs_space.proofs.OwnerLaws.{law_kept}
use Rattle.xfs_space.proofs.Shared.{sharing_kept}

space_of : (v : Volume) (gs : List GroupRec) (fs : List FileRec) → run_laws v gs (owned_runs v gs fs) ≡ space_laws v gs fs
unfolding space_laws
space_of v gs fs = refl

-- the law of the runs in order is that of the volume
pub law_in_space : (v : Volume) (gs : List GroupRec) (fs : List FileRec) (runs sorted : List Run) → runs ≡ owned_runs v gs fs → IsPermutation runs sorted → All (IsOwned v) runs
    → first_broken (run_laws v gs sorted) ≡ first_broken (space_laws v gs fs)
law_in_space v gs fs runs sorted is moved owned =
    laws_moved v gs runs sorted moved owned ∙ ap (λ (rs : List Run). first_broken (run_laws v gs rs)) is ∙ ap first_broken (space_of v gs fs)

pub lawful_space : (v : Volume) (gs : List GroupRec) (fs : List FileRec) (runs sorted : List Run) → runs ≡ owned_runs v gs fs → IsPermutation runs sorted → AreLawful v gs sorted
    → IsSpaceLawful v gs fs
lawful_space v gs fs runs sorted is moved lawful =
    let here = subst (λ (rs : List Run). AreLawful v gs rs) is (lawful_moved v gs runs sorted moved lawful) in
    record { once = here.once; free = here.free; owners = here.owners }

-- a lawful volume breaks no law
pub none_in_space : (v : Volume) (gs : List GroupRec) (fs : List FileRec) → IsSpaceLawful v gs fs → first_broken (space_laws v gs fs) ≡ None
none_in_space v gs fs lawful =
    let runs = owned_runs v gs fs in
    let sharing = sharing_kept v runs lawful.once in
    let free = free_none v runs 0 gs lawful.free in
    let owners = law_kept v (recorded_runs v.agblocks 0 gs) runs lawful.owners in
    ap first_broken (sym (space_of v gs fs))
    ∙ first_behind (sharing_laws v runs ++ free_laws v runs 0 gs) (owner_laws v (recorded_runs v.agblocks 0 gs) runs) (first_behind (sharing_laws v runs) (free_laws v runs 0 gs) sharing ∙ free)
    ∙ owners

pub held_differs : (o : Option Law) (ls : List Law) → o ≡ first_broken ls → IfSome o (λ (l : Law). l.held ≢ l.due)
held_differs None ls e = tt
held_differs (Some l) ls e = first_differs ls l (sym e)
