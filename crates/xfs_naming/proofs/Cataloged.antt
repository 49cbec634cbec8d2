-- What is left of files, directories and entries leads to all of them.
use Rattle.std.proofs.Common.{◌≡◌, ℕ, ◌+◌, ◌<◌, ◌≤◌, Bool, true, false, cond, ◌==◌, List, [], ◌∷◌, length, map, filter, drop, get_or, refl, sym, ap, ◌∙◌, subst, arith, add-one, drop_of_length-le}
use Rattle.std.proofs.Math.Seq.{drop-cons}
use Rattle.std.proofs.lemmas.Bool.{and_from}
use Rattle.xfs_dirdata.specs.declared.records.EntryRec.{EntryRec}
use Rattle.xfs_volume.specs.declared.directories.DirRec.{DirRec}
use Rattle.xfs_volume.specs.declared.files.FileRec.{FileRec}
use Rattle.xfs_volume.specs.Names.{is_directory}
use Rattle.xfs_naming.specs.Naming.{NumbersAscend, numbers_of, AreGrouped}

-- a list at a place
front : {X : Type 0} (xs : List X) (i : ℕ) (d : X) → i < length xs → drop i xs ≡ get_or xs i d ∷ drop (i + 1) xs
front xs i d low = rw add-one (drop-cons xs i d low)

past : {X : Type 0} (xs : List X) (i : ℕ) → length xs ≤ i → drop i xs ≡ []
past xs i h = drop_of_length-le xs {i = i} h

-- files that are left ascend from a number on
pub record LeadsUp (files : List FileRec) (i low : ℕ) : Type 0 where
  pub leads : NumbersAscend low (numbers_of (drop i files)) → NumbersAscend 0 (numbers_of files)

pub up_more : (files : List FileRec) (i low : ℕ) (d : FileRec) → i < length files → low ≤ (get_or files i d).ino → LeadsUp files i low → LeadsUp files (i + 1) ((get_or files i d).ino + 1)
up_more files i low d h le before = record { leads = λ up. before.leads (subst (λ (fs : List FileRec). NumbersAscend low (numbers_of fs)) (sym (front files i d h)) (le, up)) }

pub up_all : (files : List FileRec) (i low : ℕ) → length files ≤ i → LeadsUp files i low → NumbersAscend 0 (numbers_of files)
up_all files i low h before = before.leads (subst (λ (fs : List FileRec). NumbersAscend low (numbers_of fs)) (sym (past files i h)) tt)

-- directories that are left are those of the files that are left
abbrev pub dir_numbers : List DirRec → List ℕ
dir_numbers dirs = map (λ (d : DirRec). d.ino) dirs

abbrev pub file_numbers : List FileRec → List ℕ
file_numbers files = map (λ (f : FileRec). f.ino) (filter is_directory files)

pub record LeadsEach (files : List FileRec) (dirs : List DirRec) (i j : ℕ) : Type 0 where
  pub within : j ≤ length dirs
  pub leads : dir_numbers (drop j dirs) ≡ file_numbers (drop i files) → dir_numbers dirs ≡ file_numbers files

pub each_more : (files : List FileRec) (dirs : List DirRec) (i j : ℕ) (f : FileRec) (d : DirRec) → i < length files → j < length dirs → is_directory (get_or files i f) ≡ true
    → (get_or dirs j d).ino ≡ (get_or files i f).ino → LeadsEach files dirs i j → LeadsEach files dirs (i + 1) (j + 1)
each_more files dirs i j f d low less dir same before = record {
  within = omega arith;
  leads = λ rest. before.leads (ap dir_numbers (front dirs j d less) ∙ ap (λ (n : ℕ). n ∷ dir_numbers (drop (j + 1) dirs)) same ∙ ap (λ (ns : List ℕ). (get_or files i f).ino ∷ ns) rest
      ∙ sym (ap file_numbers (front files i f low) ∙ ap (λ (t : Bool). map (λ (f : FileRec). f.ino) (cond t (get_or files i f ∷ filter is_directory (drop (i + 1) files)) (filter is_directory (drop (i + 1) files)))) dir));
}

pub each_same : (files : List FileRec) (dirs : List DirRec) (i j : ℕ) (f : FileRec) → i < length files → is_directory (get_or files i f) ≡ false → LeadsEach files dirs i j → LeadsEach files dirs (i + 1) j
each_same files dirs i j f low other before = record {
  within = before.within;
  leads = λ rest. before.leads (rest
      ∙ sym (ap file_numbers (front files i f low) ∙ ap (λ (t : Bool). map (λ (f : FileRec). f.ino) (cond t (get_or files i f ∷ filter is_directory (drop (i + 1) files)) (filter is_directory (drop (i + 1) files)))) other));
}

pub each_all : (files : List FileRec) (dirs : List DirRec) (i j : ℕ) → length files ≤ i → length dirs ≤ j → LeadsEach files dirs i j → dir_numbers dirs ≡ file_numbers files
each_all files dirs i j h k before = before.leads (ap dir_numbers (past dirs j k) ∙ sym (ap file_numbers (past files i h)))

-- entries that are left stand by the directories that are left
pub record LeadsGrouped (dirs : List DirRec) (entries : List EntryRec) (i k : ℕ) : Type 0 where
  pub within : k ≤ length entries
  pub leads : AreGrouped (drop i dirs) (drop k entries) → AreGrouped dirs entries

pub grouped_own : (dirs : List DirRec) (entries : List EntryRec) (i k : ℕ) (d : DirRec) (e : EntryRec) → i < length dirs → k < length entries
    → (get_or entries k e).dir == (get_or dirs i d).ino ≡ true → LeadsGrouped dirs entries i k → LeadsGrouped dirs entries i (k + 1)
grouped_own dirs entries i k d e low less same before = record {
  within = omega arith;
  leads = λ rest. before.leads (subst (λ (ds : List DirRec). AreGrouped ds (drop k entries)) (sym (front dirs i d low))
      (longer (subst (λ (ds : List DirRec). AreGrouped ds (drop (k + 1) entries)) (front dirs i d low) rest)));
}
  where
    longer : AreGrouped (get_or dirs i d ∷ drop (i + 1) dirs) (drop (k + 1) entries) → AreGrouped (get_or dirs i d ∷ drop (i + 1) dirs) (drop k entries)
    longer (own, rest, is, all, more) =
        (get_or entries k e ∷ own, rest, front entries k e less ∙ ap (λ (es : List EntryRec). get_or entries k e ∷ es) is, and_from _ _ same all, more)

pub grouped_next : (dirs : List DirRec) (entries : List EntryRec) (i k : ℕ) (d : DirRec) → i < length dirs → LeadsGrouped dirs entries i k → LeadsGrouped dirs entries (i + 1) k
grouped_next dirs entries i k d low before = record {
  within = before.within;
  leads = λ rest. before.leads (subst (λ (ds : List DirRec). AreGrouped ds (drop k entries)) (sym (front dirs i d low)) ([], drop k entries, refl, refl, rest));
}

pub grouped_all : (dirs : List DirRec) (entries : List EntryRec) (i k : ℕ) → length dirs ≤ i → length entries ≤ k → LeadsGrouped dirs entries i k → AreGrouped dirs entries
grouped_all dirs entries i k h l before = before.leads (subst (λ (ds : List DirRec). AreGrouped ds (drop k entries)) (sym (past dirs i h)) (past entries k l))
