-- The directories among files by their numbers, and what is kept by them.
use Rattle.std.proofs.Common.{◌≡◌, ℕ, Bool, true, false, cond, ◌+◌, ◌<◌, ◌&&◌, ◌||◌, ◌==◌, if◌then◌else◌, List, [], ◌∷◌, ◌++◌, length, drop, get_or, filter, refl, sym, ◌∙◌, ap, ap₂, subst}
use Rattle.std.proofs.lemmas.List.{append_assoc}
use Rattle.std.proofs.lemmas.List.Elements.{filter_agree}
use Rattle.xfs_disk.specs.Lists.{is_among}
use Rattle.xfs_dirdata.specs.declared.records.EntryRec.{EntryRec}
use Rattle.xfs_geom.specs.Volumes.{Volume}
use Rattle.xfs_volume.specs.Names.{is_directory}
use Rattle.xfs_volume.specs.declared.clusters.ClusterRec.{ClusterRec}
use Rattle.xfs_volume.specs.declared.directories.DirRec.{DirRec}
use Rattle.xfs_volume.specs.declared.files.FileRec.{FileRec}
use Rattle.xfs_views.proofs.xfs_space.OwnedRuns.{from_head}
use Rattle.xfs_naming.specs.Naming.{is_directory_at, numbers_of}
use Rattle.xfs_views.specs.Standing.{stands}
use Rattle.xfs_salvage.specs.Kept.{dirs_among, entries_among, claims_held, kept_files, is_kept_file}

-- one file more
pub directory_next : (fs : List FileRec) (i : ℕ) (f : FileRec) (items new whole : List ℕ) → i < length fs → f ≡ get_or fs i f
    → items ++ numbers_of (filter is_directory (drop i fs)) ≡ whole → new ≡ (if is_directory f then items ++ f.ino ∷ [] else items)
    → new ++ numbers_of (filter is_directory (drop (i + 1) fs)) ≡ whole
directory_next fs i f items new whole inside is left put =
    let rest : List FileRec = drop (i + 1) fs in
    let from : items ++ numbers_of (filter is_directory (f ∷ drop (i + 1) fs)) ≡ whole =
    subst (λ (xs : List FileRec). items ++ numbers_of (filter is_directory xs) ≡ whole) (from_head fs i f inside is) left in
    by_case (is_directory f) from put
  where
    by_case : (t : Bool) → items ++ numbers_of (cond t (f ∷ filter is_directory (drop (i + 1) fs)) (filter is_directory (drop (i + 1) fs))) ≡ whole
        → new ≡ (if t then items ++ f.ino ∷ [] else items) → new ++ numbers_of (filter is_directory (drop (i + 1) fs)) ≡ whole
    by_case true left put =
        ap (λ (ns : List ℕ). ns ++ numbers_of (filter is_directory (drop (i + 1) fs))) put
        ∙ append_assoc items (f.ino ∷ []) (numbers_of (filter is_directory (drop (i + 1) fs))) ∙ left
    by_case false left put = ap (λ (ns : List ℕ). ns ++ numbers_of (filter is_directory (drop (i + 1) fs))) put ∙ left

and_true : (x : Bool) → (x && true) ≡ x
and_true true = refl
and_true false = refl

and_none : (x : Bool) → (x && false) ≡ false
and_none true = refl
and_none false = refl

-- a number is among those of the directories where a directory has it
pub directory_among : (fs : List FileRec) (n : ℕ) → is_among (numbers_of (filter is_directory fs)) n ≡ is_directory_at fs n
directory_among [] n = refl
directory_among (f ∷ fs) n = by_case (is_directory f) (directory_among fs n)
  where
    by_case : (t : Bool) → is_among (numbers_of (filter is_directory fs)) n ≡ is_directory_at fs n
        → is_among (numbers_of (cond t (f ∷ filter is_directory fs) (filter is_directory fs))) n ≡ ((f.ino == n && t) || is_directory_at fs n)
    by_case true rest = ap₂ (λ (s t : Bool). s || t) (sym (and_true (f.ino == n))) rest
    by_case false rest = rest ∙ ap (λ (s : Bool). s || is_directory_at fs n) (sym (and_none (f.ino == n)))

pub entries_are : (fs : List FileRec) (numbers : List ℕ) (entries : List EntryRec) → numbers ≡ numbers_of (filter is_directory fs)
    → filter (λ (e : EntryRec). is_among numbers e.dir) entries ≡ entries_among fs entries
entries_are fs numbers entries are =
    ap (λ (ns : List ℕ). filter (λ (e : EntryRec). is_among ns e.dir) entries) are
    ∙ filter_agree (λ (e : EntryRec). is_among (numbers_of (filter is_directory fs)) e.dir) (λ (e : EntryRec). is_directory_at fs e.dir) (λ e. directory_among fs e.dir) entries

pub dirs_are : (fs : List FileRec) (numbers : List ℕ) (dirs : List DirRec) → numbers ≡ numbers_of (filter is_directory fs)
    → filter (λ (d : DirRec). is_among numbers d.ino) dirs ≡ dirs_among fs dirs
dirs_are fs numbers dirs are =
    ap (λ (ns : List ℕ). filter (λ (d : DirRec). is_among ns d.ino) dirs) are
    ∙ filter_agree (λ (d : DirRec). is_among (numbers_of (filter is_directory fs)) d.ino) (λ (d : DirRec). is_directory_at fs d.ino) (λ d. directory_among fs d.ino) dirs

-- the files that stay are the kept ones
pub files_are_kept : (v : Volume) (clusters cs : List ClusterRec) (files fs result : List FileRec) (slice : List ℕ) → cs ≡ clusters → fs ≡ files → slice ≡ (claims_held v cs fs).files
    → result ≡ filter (λ (f : FileRec). is_among slice f.ino && stands v.rootino f) files → result ≡ kept_files v clusters files
unfolding kept_files
files_are_kept v clusters cs files fs result slice same_clusters same_files are is =
    let numbers : slice ≡ (claims_held v clusters files).files = are ∙ ap₂ (λ (c : List ClusterRec) (f : List FileRec). (claims_held v c f).files) same_clusters same_files in
    is ∙ ap (λ (ns : List ℕ). filter (λ (f : FileRec). is_among ns f.ino && stands v.rootino f) files) numbers
