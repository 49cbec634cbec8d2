-- What is gathered of an image stands in the order in which it is looked up.
use Rattle.std.proofs.Common.{◌≡◌, ℕ, Bool, true, false, cond, ◌+◌, ◌≤◌, ◌==◌, List, [], ◌∷◌, ◌++◌, map, filter, sym, subst, arith}
use Rattle.std.specs.List.{AllByRecursion, list_all}
use Rattle.std.proofs.lemmas.Bool.{and_parts, eqb-true}
use Rattle.xfs_dirdata.specs.declared.records.EntryRec.{EntryRec}
use Rattle.xfs_disk.specs.Blocks.{Image}
use Rattle.xfs_geom.specs.Volumes.{Volume, volume_of}
use Rattle.xfs_geom.specs.declared.geometry.Geometry.{Geometry}
use Rattle.xfs_image.specs.Candidates.{candidates}
use Rattle.xfs_image.specs.Claims.{candidate_files, candidate_inodes}
use Rattle.xfs_image.specs.Directories.{dirs_read, entries_read}
use Rattle.xfs_naming.specs.Naming.{AreGrouped, NumbersAscend, numbers_of}
use Rattle.xfs_made.proofs.xfs_views.Names.{each_directory, entries_grouped}
use Rattle.xfs_volume.specs.Names.{is_directory}
use Rattle.xfs_volume.specs.declared.clusters.ClusterRec.{ClusterRec}
use Rattle.xfs_volume.specs.declared.directories.DirRec.{DirRec}
use Rattle.xfs_volume.specs.declared.files.FileRec.{FileRec}
use Rattle.xfs_request.specs.xfs_salvage.Claimable.{AscendClaiming, CanBeSalvaged}
use Rattle.xfs_request.specs.xfs_salvage.Kept.{entries_of_kept, kept_clusters}
use Rattle.xfs_made.proofs.Candidates.{image_can}
use Rattle.xfs_made.proofs.Inodes.{inodes_ascend}
use Rattle.xfs_made.proofs.KeptTaken.{end_by}
use Rattle.xfs_request.specs.Slots.{StandByNumber}
use Rattle.xfs_request.specs.declared.seen.SlotSeen.{SlotSeen}
use Rattle.xfs_made.proofs.Spaced.{each_kept}

lower : {X : Type 0} (number : X → ℕ) (low high : ℕ) (xs : List X) → low ≤ high → StandByNumber number high xs → StandByNumber number low xs
lower number low high [] le up = tt
lower number low high (x ∷ xs) le up = (let first = up.0 in omega (arith, le, first), up.1)

-- numbers that ascend stand in order
pub numbered : {X : Type 0} (number : X → ℕ) (low : ℕ) (xs : List X) → NumbersAscend low (map number xs) → StandByNumber number low xs
numbered number low [] up = tt
numbered number low (x ∷ xs) up = (up.0, lower number (number x) (number x + 1) xs (omega arith) (numbered number (number x + 1) xs up.1))

-- some of what stands in order does
pub filtered : {X : Type 0} (number : X → ℕ) (test : X → Bool) (low : ℕ) (xs : List X) → StandByNumber number low xs → StandByNumber number low (filter test xs)
filtered number test low [] up = tt
filtered {X = X} number test low (x ∷ xs) up = by_case (test x) (filtered number test (number x) xs up.1)
  where
    by_case : (t : Bool) → StandByNumber number (number x) (filter test xs) → StandByNumber number low (cond t (x ∷ filter test xs) (filter test xs))
    by_case true rest = (up.0, rest)
    by_case false rest = lower number low (number x) (filter test xs) up.0 rest

-- the entries of a directory before those of later ones
own_then : (low dir : ℕ) (own rest : List EntryRec) → list_all (λ (e : EntryRec). e.dir == dir) own ≡ true → low ≤ dir → StandByNumber (λ (e : EntryRec). e.dir) dir rest
    → StandByNumber (λ (e : EntryRec). e.dir) low (own ++ rest)
own_then low dir [] rest all le up = lower (λ (e : EntryRec). e.dir) low dir rest le up
own_then low dir (e ∷ es) rest all le up =
    let parts = and_parts (e.dir == dir) (list_all (λ (x : EntryRec). x.dir == dir) es) all in
    let same : e.dir ≡ dir = eqb-true e.dir dir parts.0 in
    (omega (arith, le, same), own_then e.dir dir es rest parts.1 (omega (arith, same)) up)

grouped : (low : ℕ) (dirs : List DirRec) (entries : List EntryRec) → NumbersAscend low (map (λ (d : DirRec). d.ino) dirs) → AreGrouped dirs entries
    → StandByNumber (λ (e : EntryRec). e.dir) low entries
grouped low [] entries up none = subst (StandByNumber (λ (e : EntryRec). e.dir) low) (sym none) tt
grouped low (d ∷ ds) entries up (own, rest, is, all, more) =
    subst (StandByNumber (λ (e : EntryRec). e.dir) low) (sym is)
    (own_then low d.ino own rest all up.0 (lower (λ (e : EntryRec). e.dir) d.ino (d.ino + 1) rest (omega arith) (grouped (d.ino + 1) ds rest up.1 more)))

-- the files of an image, and the directories among them, ascend
files_up : (v : Volume) (low : ℕ) (files : List FileRec) → AscendClaiming v low files → NumbersAscend low (numbers_of files)
files_up v low [] up = tt
files_up v low (f ∷ fs) up = (up.0, files_up v (f.ino + 1) fs up.2)

sparse : (low high : ℕ) (ns : List ℕ) → low ≤ high → NumbersAscend high ns → NumbersAscend low ns
sparse low high [] le up = tt
sparse low high (n ∷ ns) le up = (let first = up.0 in omega (arith, le, first), up.1)

some_up : (test : FileRec → Bool) (low : ℕ) (files : List FileRec) → NumbersAscend low (numbers_of files) → NumbersAscend low (numbers_of (filter test files))
some_up test low [] up = tt
some_up test low (f ∷ fs) up = by_case (test f) (some_up test (f.ino + 1) fs up.1)
  where
    by_case : (t : Bool) → NumbersAscend (f.ino + 1) (numbers_of (filter test fs)) → NumbersAscend low (numbers_of (cond t (f ∷ filter test fs) (filter test fs)))
    by_case true rest = (up.0, rest)
    by_case false rest = let first = up.0 in sparse low (f.ino + 1) (numbers_of (filter test fs)) (omega (arith, first)) rest

module _ (g : Geometry) (image : Image) where
  abbrev found : List FileRec
  found = candidate_files (volume_of g) image

  entries_stand : StandByNumber (λ (e : EntryRec). e.dir) 0 (entries_read (volume_of g) image found)
  entries_stand =
      let v : Volume = volume_of g in
      grouped 0 (dirs_read v image found) (entries_read v image found)
      (subst (NumbersAscend 0) (sym (each_directory v image found)) (some_up is_directory 0 found (files_up v 0 found (image_can g image).files_claim)))
      (entries_grouped v image found)

  pub kept_entries_stand : StandByNumber (λ (e : EntryRec). e.dir) 0 (entries_of_kept (volume_of g) (candidates (volume_of g) image) found (entries_read (volume_of g) image found))
  kept_entries_stand = filtered (λ (e : EntryRec). e.dir) _ 0 (entries_read (volume_of g) image found) entries_stand

  pub slots_stand : (slots : List SlotSeen) → map (λ (slot : SlotSeen). slot.ino) slots ≡ candidate_inodes (volume_of g) image → StandByNumber (λ (slot : SlotSeen). slot.ino) 0 slots
  slots_stand slots are = numbered (λ (slot : SlotSeen). slot.ino) 0 slots (subst (NumbersAscend 0) (sym are) (inodes_ascend g image))

  pub clusters_end : AllByRecursion (λ k. k + 4 ≤ g.dblocks) (kept_clusters (volume_of g) (candidates (volume_of g) image) found)
  clusters_end =
      let v : Volume = volume_of g in
      let can = image_can g image in
      each_kept (λ k. k + 4 ≤ g.dblocks) v (candidates v image) found can (end_by g.dblocks 0 (candidates v image) can.clusters_lie)
