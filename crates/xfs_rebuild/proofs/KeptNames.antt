-- What is kept of an image's files, directories and entries stands in the order of those of an image.
use Rattle.std.proofs.Common.{◌≡◌, ℕ, Bool, true, false, cond, ◌+◌, ◌≤◌, ◌<◌, ◌==◌, ◌&&◌, ◌||◌, inl, inr, List, [], ◌∷◌, ◌++◌, map, filter, refl, sym, subst, ap, ap₂, ◌∙◌, arith}
use Rattle.std.specs.List.{list_all}
use Rattle.std.proofs.lemmas.Bool.{and_parts, eq-eqb, eqb-true, ne_eqb}
use Rattle.std.proofs.lemmas.List.Elements.{filter-append}
use Rattle.xfs_dirdata.specs.declared.records.EntryRec.{EntryRec}
use Rattle.xfs_disk.specs.Blocks.{Image}
use Rattle.xfs_geom.specs.Volumes.{Volume, volume_of}
use Rattle.xfs_geom.specs.declared.geometry.Geometry.{Geometry}
use Rattle.xfs_image.specs.Candidates.{candidates}
use Rattle.xfs_image.specs.Claims.{candidate_files}
use Rattle.xfs_image.specs.Directories.{dirs_read, entries_read}
use Rattle.xfs_naming.specs.Naming.{AreGrouped, AreNamed, NumbersAscend, is_directory_at, numbers_of}
use Rattle.xfs_salvage.proofs.xfs_views.Members.{Member}
use Rattle.xfs_salvage.proofs.xfs_views.Names.{each_directory, entries_grouped}
use Rattle.xfs_volume.specs.Names.{is_directory}
use Rattle.xfs_volume.specs.declared.directories.DirRec.{DirRec}
use Rattle.xfs_volume.specs.declared.files.FileRec.{FileRec}
use Rattle.xfs_salvage.specs.Kept.{dirs_among, entries_among, entries_of_kept, is_kept_file, kept_dirs, kept_files}
use Rattle.xfs_salvage.proofs.Ascending.{claiming_ascend, filtered}
use Rattle.xfs_made.proofs.Candidates.{image_can}

-- a number below all others is that of none
none_at : (test : FileRec → Bool) (n low : ℕ) (files : List FileRec) → n < low → NumbersAscend low (numbers_of files) → is_directory_at (filter test files) n ≡ false
none_at test n low [] less up = refl
none_at test n low (f ∷ fs) less up =
    let first = up.0 in
    by_case (test f) (ne_eqb f.ino n (λ same. omega (arith, less, first, same))) (none_at test n (f.ino + 1) fs (omega (arith, less, first)) up.1)
  where
    by_case : (t : Bool) → (f.ino == n) ≡ false → is_directory_at (filter test fs) n ≡ false → is_directory_at (cond t (f ∷ filter test fs) (filter test fs)) n ≡ false
    by_case true other rest = ap₂ (λ (a b : Bool). (a && is_directory f) || b) other rest
    by_case false other rest = rest

-- a file's number is not below the first that may come
pub at_least : (low : ℕ) (f : FileRec) (files : List FileRec) → NumbersAscend low (numbers_of files) → Member f files → low ≤ f.ino
at_least low f [] up is = absurd is
at_least low f (x ∷ xs) up is =
    elim is [
      | inl same ↦ subst (λ (y : FileRec). low ≤ y.ino) same up.0
      | inr later ↦ let first = up.0 in let rest : x.ino + 1 ≤ f.ino = at_least (x.ino + 1) f xs up.1 later in omega (arith, first, rest)
    ]

or_none : (a : Bool) → (a || false) ≡ a
or_none true = refl
or_none false = refl

-- whether a kept directory has the number of a file: the file is one, and stays
stays_at : (test : FileRec → Bool) (low : ℕ) (f : FileRec) (files : List FileRec) → NumbersAscend low (numbers_of files) → Member f files
    → is_directory_at (filter test files) f.ino ≡ (test f && is_directory f)
stays_at test low f [] up is = absurd is
stays_at test low f (x ∷ xs) up is =
    elim is [
      | inl same ↦ subst (λ (y : FileRec). is_directory_at (filter test (x ∷ xs)) y.ino ≡ (test y && is_directory y)) same (here (test x) (none_at test x.ino (x.ino + 1) xs (omega arith) up.1))
      | inr later ↦
          let rest : x.ino + 1 ≤ f.ino = at_least (x.ino + 1) f xs up.1 later in
          there (test x) (ne_eqb x.ino f.ino (λ same. omega (arith, rest, same))) (stays_at test (x.ino + 1) f xs up.1 later)
    ]
  where
    here : (t : Bool) → is_directory_at (filter test xs) x.ino ≡ false → is_directory_at (cond t (x ∷ filter test xs) (filter test xs)) x.ino ≡ (t && is_directory x)
    here true rest = ap₂ (λ (a b : Bool). (a && is_directory x) || b) (eq-eqb x.ino x.ino refl) rest ∙ or_none (is_directory x)
    here false rest = rest

    there : (t : Bool) → (x.ino == f.ino) ≡ false → is_directory_at (filter test xs) f.ino ≡ (test f && is_directory f)
        → is_directory_at (cond t (x ∷ filter test xs) (filter test xs)) f.ino ≡ (test f && is_directory f)
    there true other rest = ap (λ (a : Bool). (a && is_directory x) || is_directory_at (filter test xs) f.ino) other ∙ rest
    there false other rest = rest

-- the directories that stay are those of the files that stay
abbrev dir_numbers : List DirRec → List ℕ
dir_numbers ds = map (λ (d : DirRec). d.ino) ds

abbrev file_numbers : List FileRec → List ℕ
file_numbers xs = map (λ (x : FileRec). x.ino) xs

module _ (test : FileRec → Bool) (stays : ℕ → Bool) where
  abbrev dirs_left : List DirRec → List DirRec
  dirs_left ds = filter (λ (d : DirRec). stays d.ino) ds

  abbrev files_left : List FileRec → List FileRec
  files_left fs = filter is_directory (filter test fs)

  -- a file that is no directory
  other_file : (t k : Bool) (f : FileRec) (fs : List FileRec) → k ≡ false
      → file_numbers (filter is_directory (filter test fs)) ≡ file_numbers (cond t (cond k (f ∷ filter is_directory (filter test fs)) (filter is_directory (filter test fs))) (filter is_directory (filter test fs)))
  other_file true k f fs off = ap (λ (b : Bool). file_numbers (cond b (f ∷ filter is_directory (filter test fs)) (filter is_directory (filter test fs)))) (sym off)
  other_file false k f fs off = refl

  split : (t : Bool) (f : FileRec) (fs : List FileRec)
      → cond t (cond (is_directory f) (f ∷ files_left fs) (files_left fs)) (files_left fs) ≡ filter is_directory (cond t (f ∷ filter test fs) (filter test fs))
  split true f fs = refl
  split false f fs = refl

  -- one that is
  own_directory : (t b : Bool) (f : FileRec) (fs : List FileRec) (d : DirRec) (ds : List DirRec) → b ≡ t → d.ino ≡ f.ino → dir_numbers (dirs_left ds) ≡ file_numbers (files_left fs)
      → dir_numbers (cond b (d ∷ dirs_left ds) (dirs_left ds)) ≡ file_numbers (cond t (f ∷ files_left fs) (files_left fs))
  own_directory true b f fs d ds on same rest =
      ap (λ (x : Bool). dir_numbers (cond x (d ∷ dirs_left ds) (dirs_left ds))) on ∙ ap₂ (λ (n : ℕ) (ns : List ℕ). n ∷ ns) same rest
  own_directory false b f fs d ds off same rest = ap (λ (x : Bool). dir_numbers (cond x (d ∷ dirs_left ds) (dirs_left ds))) off ∙ rest

  and_true : (a b : Bool) → b ≡ true → (a && b) ≡ a
  and_true true b e = e
  and_true false b e = refl

  dirs_stay : (files : List FileRec) (dirs : List DirRec) → ((f : FileRec) → Member f files → stays f.ino ≡ (test f && is_directory f))
      → dir_numbers dirs ≡ file_numbers (filter is_directory files) → dir_numbers (dirs_left dirs) ≡ file_numbers (files_left files)
  dirs_stay [] [] each are = refl
  dirs_stay [] (d ∷ ds) each are = absurd cc
  dirs_stay (f ∷ fs) dirs each are = by_kind (is_directory f) refl dirs are (λ ds rest. dirs_stay fs ds (λ x is. each x (inr is)) rest)
    where
      by_kind : (k : Bool) → is_directory f ≡ k → (ds : List DirRec) → dir_numbers ds ≡ file_numbers (cond k (f ∷ filter is_directory fs) (filter is_directory fs))
          → ((es : List DirRec) → dir_numbers es ≡ file_numbers (filter is_directory fs) → dir_numbers (dirs_left es) ≡ file_numbers (files_left fs))
          → dir_numbers (dirs_left ds) ≡ file_numbers (filter is_directory (cond (test f) (f ∷ filter test fs) (filter test fs)))
      by_kind false plain ds is rest = rest ds is ∙ other_file (test f) (is_directory f) f fs plain ∙ ap file_numbers (split (test f) f fs)
      by_kind true kind [] is rest = absurd cc
      by_kind true kind (d ∷ ds) is rest =
          let same : d.ino ≡ f.ino = cc in
          let later : dir_numbers ds ≡ file_numbers (filter is_directory fs) = cc in
          let here : stays d.ino ≡ test f = ap stays same ∙ each f (inl refl) ∙ and_true (test f) (is_directory f) kind in
          own_directory (test f) (stays d.ino) f fs d ds here same (rest ds later)
          ∙ ap (λ (b : Bool). file_numbers (cond (test f) (cond b (f ∷ files_left fs) (files_left fs)) (files_left fs))) (sym kind)
          ∙ ap file_numbers (split (test f) f fs)

-- the entries of directories that stay, grouped as before
module _ (stays : ℕ → Bool) where
  own_stay : (n : ℕ) (own : List EntryRec) → list_all (λ (e : EntryRec). e.dir == n) own ≡ true → stays n ≡ true → filter (λ (e : EntryRec). stays e.dir) own ≡ own
  own_stay n [] all on = refl
  own_stay n (e ∷ es) all on =
      let parts = and_parts (e.dir == n) (list_all (λ (x : EntryRec). x.dir == n) es) all in
      let here : stays e.dir ≡ true = ap stays (eqb-true e.dir n parts.0) ∙ on in
      ap (λ (t : Bool). cond t (e ∷ filter (λ (x : EntryRec). stays x.dir) es) (filter (λ (x : EntryRec). stays x.dir) es)) here
      ∙ ap (λ (xs : List EntryRec). e ∷ xs) (own_stay n es parts.1 on)

  own_go : (n : ℕ) (own : List EntryRec) → list_all (λ (e : EntryRec). e.dir == n) own ≡ true → stays n ≡ false → filter (λ (e : EntryRec). stays e.dir) own ≡ []
  own_go n [] all off = refl
  own_go n (e ∷ es) all off =
      let parts = and_parts (e.dir == n) (list_all (λ (x : EntryRec). x.dir == n) es) all in
      let here : stays e.dir ≡ false = ap stays (eqb-true e.dir n parts.0) ∙ off in
      ap (λ (t : Bool). cond t (e ∷ filter (λ (x : EntryRec). stays x.dir) es) (filter (λ (x : EntryRec). stays x.dir) es)) here
      ∙ own_go n es parts.1 off

  abbrev left : List EntryRec → List EntryRec
  left es = filter (λ (e : EntryRec). stays e.dir) es

  grouped_stay : (dirs : List DirRec) (entries : List EntryRec) → AreGrouped dirs entries → AreGrouped (filter (λ (d : DirRec). stays d.ino) dirs) (left entries)
  grouped_stay [] entries empty = ap (filter (λ (e : EntryRec). stays e.dir)) empty
  grouped_stay (d ∷ ds) entries (own, rest, is, all, more) = by_case (stays d.ino) refl (grouped_stay ds rest more)
    where
      parts : left entries ≡ left own ++ left rest
      parts = ap left is ∙ filter-append (λ (e : EntryRec). stays e.dir) own rest

      by_case : (t : Bool) → stays d.ino ≡ t → AreGrouped (filter (λ (d : DirRec). stays d.ino) ds) (left rest) → AreGrouped (cond t (d ∷ filter (λ (d : DirRec). stays d.ino) ds) (filter (λ (d : DirRec). stays d.ino) ds)) (left entries)
      by_case true on later = (own, left rest, parts ∙ ap (λ (xs : List EntryRec). xs ++ left rest) (own_stay d.ino own all on), all, later)
      by_case false off later =
          subst (AreGrouped (filter (λ (d : DirRec). stays d.ino) ds)) (sym (parts ∙ ap (λ (xs : List EntryRec). xs ++ left rest) (own_go d.ino own all off))) later

-- so what is kept is named
some_named : (test : FileRec → Bool) (files : List FileRec) (entries : List EntryRec) (dirs : List DirRec) → AreNamed files entries dirs
    → AreNamed (filter test files) (entries_among (filter test files) entries) (dirs_among (filter test files) dirs)
some_named test files entries dirs named = record {
  files_ascend = filtered test 0 files named.files_ascend;
  directories = dirs_stay test (is_directory_at (filter test files)) files dirs (λ f is. stays_at test 0 f files named.files_ascend is) named.directories;
  grouped = grouped_stay (is_directory_at (filter test files)) dirs entries named.grouped;
}

found_named : (g : Geometry) (image : Image)
    → AreNamed (candidate_files (volume_of g) image) (entries_read (volume_of g) image (candidate_files (volume_of g) image)) (dirs_read (volume_of g) image (candidate_files (volume_of g) image))
found_named g image =
    let v : Volume = volume_of g in
    let found : List FileRec = candidate_files v image in
    record {
      files_ascend = claiming_ascend v 0 found (image_can g image).files_claim;
      directories = each_directory v image found;
      grouped = entries_grouped v image found;
    }

pub kept_named : (g : Geometry) (image : Image)
    → AreNamed (kept_files (volume_of g) (candidates (volume_of g) image) (candidate_files (volume_of g) image))
    (entries_of_kept (volume_of g) (candidates (volume_of g) image) (candidate_files (volume_of g) image) (entries_read (volume_of g) image (candidate_files (volume_of g) image)))
    (kept_dirs (volume_of g) (candidates (volume_of g) image) (candidate_files (volume_of g) image) (dirs_read (volume_of g) image (candidate_files (volume_of g) image)))
unfolding kept_files
kept_named g image =
    let v : Volume = volume_of g in
    let found : List FileRec = candidate_files v image in
    some_named (is_kept_file v (candidates v image) found) found (entries_read v image found) (dirs_read v image found) (found_named g image)
