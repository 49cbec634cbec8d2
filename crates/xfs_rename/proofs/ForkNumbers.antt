-- The forks of directories go by the numbers of these.
use Rattle.std.proofs.Common.{◌≡◌, ℕ, Bool, true, false, if◌then◌else◌, List, [], ◌∷◌, map, take, drop, length, refl, sym, ap, subst}
use Rattle.std.specs.List.Sorted.{IsNonDecreasingBy}
use Rattle.xfs_geom.specs.Volumes.{Volume}
use Rattle.xfs_geom.specs.declared.records.Run.{Run}
use Rattle.xfs_volume.specs.declared.files.FileRec.{FileRec}
use Rattle.xfs_names.specs.declared.building.BuiltDirectory.{BuiltDirectory}
use Rattle.xfs_rebuild.specs.xfs_request.Slots.{StandByNumber}
use Rattle.xfs_changes.specs.Forks.{attribute_blocks_at, extents_fork, fork_listed, forks_of, runs_in, short_fork}
use Rattle.xfs_changes.specs.xfs_built.Asks.{asks_for, stands_in_blocks}
use Rattle.xfs_changes.specs.declared.forks.DirectoryFork.{DirectoryFork}
use Rattle.xfs_rename.proofs.Standing.{in_order, stands_from_none}

pub fork_numbers : (v : Volume) (files : List FileRec) (bs : List BuiltDirectory) (cuts : List ℕ) (runs : List Run)
    → map (λ (f : DirectoryFork). f.ino) (forks_of v files bs cuts runs) ≡ map (λ (b : BuiltDirectory). b.ino) bs
unfolding forks_of
fork_numbers v files [] cuts runs = refl
fork_numbers v files (b ∷ bs) cuts runs = by_case (stands_in_blocks b)
    (fork_numbers v files bs (drop asks cuts) (drop count runs)) (fork_numbers v files bs cuts runs)
  where
    asks : ℕ
    asks = length (asks_for b.ino b.image)

    count : ℕ
    count = runs_in (take asks cuts)

    by_case : (t : Bool) → map (λ (f : DirectoryFork). f.ino) (forks_of v files bs (drop asks cuts) (drop count runs)) ≡ map (λ (d : BuiltDirectory). d.ino) bs
        → map (λ (f : DirectoryFork). f.ino) (forks_of v files bs cuts runs) ≡ map (λ (d : BuiltDirectory). d.ino) bs
        → map (λ (f : DirectoryFork). f.ino) (if t then fork_listed v files b (extents_fork v (attribute_blocks_at files b.ino) (take count runs) b) ∷ forks_of v files bs (drop asks cuts) (drop count runs)
        else fork_listed v files b (short_fork (attribute_blocks_at files b.ino) b) ∷ forks_of v files bs cuts runs) ≡ b.ino ∷ map (λ (d : BuiltDirectory). d.ino) bs
    by_case true r s = ap (λ (ns : List ℕ). b.ino ∷ ns) r
    by_case false r s = ap (λ (ns : List ℕ). b.ino ∷ ns) s

-- order by number is order of the numbers
map_stands : {A : Type 0} (n : A → ℕ) (low : ℕ) (xs : List A) → StandByNumber n low xs → StandByNumber (λ (k : ℕ). k) low (map n xs)
map_stands n low [] s = tt
map_stands n low (x ∷ xs) s = (s.0, map_stands n (n x) xs s.1)

stands_map : {A : Type 0} (n : A → ℕ) (low : ℕ) (xs : List A) → StandByNumber (λ (k : ℕ). k) low (map n xs) → StandByNumber n low xs
stands_map n low [] s = tt
stands_map n low (x ∷ xs) s = (s.0, stands_map n (n x) xs s.1)

pub forks_in_order : (v : Volume) (files : List FileRec) (bs : List BuiltDirectory) (cuts : List ℕ) (runs : List Run) → IsNonDecreasingBy (λ (b : BuiltDirectory). b.ino) bs
    → IsNonDecreasingBy (λ (f : DirectoryFork). f.ino) (forks_of v files bs cuts runs)
forks_in_order v files bs cuts runs up =
    in_order (λ (f : DirectoryFork). f.ino) 0 (forks_of v files bs cuts runs) (stands_map (λ (f : DirectoryFork). f.ino) 0 (forks_of v files bs cuts runs)
    (subst (StandByNumber (λ (k : ℕ). k) 0) (sym (fork_numbers v files bs cuts runs)) (map_stands (λ (b : BuiltDirectory). b.ino) 0 bs (stands_from_none (λ (b : BuiltDirectory). b.ino) bs up))))
