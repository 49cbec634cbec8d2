-- The directories among files, one after the other.
use Rattle.std.proofs.Common.{◌≡◌, ◌↔◌, ℕ, ◌+◌, ◌<◌, true, false, IsTrue, List, [], ◌∷◌, length, map, filter, drop, get_or, sym, ap, ◌∙◌, subst, add-one, drop-cons, le_of_eq}
use Rattle.std.proofs.lemmas.Bool.{cond-true, cond-false}
use Rattle.std.proofs.lemmas.List.{drop_all}
use Rattle.xfs_volume.specs.Names.{is_directory}
use Rattle.xfs_volume.specs.declared.directories.DirRec.{DirRec}
use Rattle.xfs_volume.specs.declared.files.FileRec.{FileRec}
use Rattle.xfs_laws.proofs.Tests.{refused}

abbrev of_dirs : List DirRec → List ℕ
of_dirs ds = map (λ (d : DirRec). d.ino) ds

abbrev of_files : List FileRec → List ℕ
of_files fs = map (λ (f : FileRec). f.ino) (filter is_directory fs)

no_item : (x : ℕ) (xs : List ℕ) → [] ≡ x ∷ xs → ⊥
no_item x xs e = cc

module _ (dirs : List DirRec) (files : List FileRec) (at i : ℕ) {whole : Type 0} (left : (of_dirs (drop at dirs) ≡ of_files (drop i files)) ↔ whole)
    (file : FileRec) (inside : i < length files) (is : file ≡ get_or files i file) where
  split : drop i files ≡ file ∷ drop (i + 1) files
  split = drop-cons files i file inside ∙ (λ k. sym is k ∷ drop (sym (add-one i) k) files)

  -- a file that is no directory
  pub other_file : is_directory file ≡ false → ((of_dirs (drop at dirs) ≡ of_files (drop (i + 1) files)) ↔ whole)
  other_file fails =
      let P : List ℕ → Type 0 = λ xs. (of_dirs (drop at dirs) ≡ xs) ↔ whole in
      let R = filter is_directory (drop (i + 1) files) in
      subst P (ap of_files split ∙ ap (λ (fs : List FileRec). map (λ (f : FileRec). f.ino) fs) (cond-false (is_directory file) (file ∷ R) R fails)) left

  found : is_directory file ≡ true → ((of_dirs (drop at dirs) ≡ file.ino ∷ of_files (drop (i + 1) files)) ↔ whole)
  found passes =
      let P : List ℕ → Type 0 = λ xs. (of_dirs (drop at dirs) ≡ xs) ↔ whole in
      let R = filter is_directory (drop (i + 1) files) in
      subst P (ap of_files split ∙ ap (λ (fs : List FileRec). map (λ (f : FileRec). f.ino) fs) (cond-true (is_directory file) (file ∷ R) R passes)) left

  -- a directory that has no record
  pub none_left : is_directory file ≡ true → at ≡ length dirs → (IsTrue false ↔ whole)
  none_left passes end =
      let none : drop at dirs ≡ [] = drop_all at dirs (le_of_eq (sym end)) in
      refused (λ w. no_item file.ino (of_files (drop (i + 1) files)) (sym (ap of_dirs none) ∙ (found passes).1 w))

  behind : (d : DirRec) → at < length dirs → of_dirs (drop at dirs) ≡ (get_or dirs at d).ino ∷ of_dirs (drop (at + 1) dirs)
  behind d within = ap of_dirs (drop-cons dirs at d within) ∙ (λ k. (get_or dirs at d).ino ∷ of_dirs (drop (sym (add-one at) k) dirs))

  -- a record of another directory
  pub other_dir : (d : DirRec) → is_directory file ≡ true → at < length dirs → ((get_or dirs at d).ino ≡ file.ino → ⊥) → (IsTrue false ↔ whole)
  other_dir d passes within other =
      refused (λ w. other (ap (λ (xs : List ℕ). get_or xs 0 0) (sym (behind d within) ∙ (found passes).1 w)))

  -- the record of the directory
  pub same_dir : (d : DirRec) → is_directory file ≡ true → at < length dirs → (get_or dirs at d).ino ≡ file.ino
      → ((of_dirs (drop (at + 1) dirs) ≡ of_files (drop (i + 1) files)) ↔ whole)
  same_dir d passes within same = (
    λ e. (found passes).0 (behind d within ∙ (λ k. same k ∷ e k)),
    λ w. ap (λ (xs : List ℕ). drop 1 xs) (sym (behind d within) ∙ (found passes).1 w),
  )
