-- The directories among the files, and the entries that are in them.
use Rattle.std.proofs.Common.{◌≡◌, ℕ, Bool, true, false, cond, ◌&&◌, ◌||◌, ◌==◌, List, [], ◌∷◌, map, filter, refl, sym, ap, ◌∙◌, inl, inr}
use Rattle.std.specs.List.{list_any, list_all}
use Rattle.std.proofs.lemmas.List.Folds.{list_any-append}
use Rattle.std.proofs.lemmas.Bool.{and_parts, or_cases, or_left, or_right, eqb-true, eq-eqb, true≢false}
use Rattle.xfs_dirdata.specs.declared.records.EntryRec.{EntryRec}
use Rattle.xfs_volume.specs.declared.directories.DirRec.{DirRec}
use Rattle.xfs_volume.specs.declared.files.FileRec.{FileRec}
use Rattle.xfs_volume.specs.Names.{is_directory}
use Rattle.xfs_naming.specs.Naming.{is_directory_at, AreGrouped, AreNamed}

-- a directory record has the number
abbrev pub has_record : List DirRec → ℕ → Bool
has_record dirs x = list_any (λ (d : DirRec). d.ino == x) dirs

among_records : (dirs : List DirRec) (x : ℕ) → has_record dirs x ≡ list_any (λ (n : ℕ). n == x) (map (λ (d : DirRec). d.ino) dirs)
among_records [] x = refl
among_records (d ∷ ds) x = ap (λ (t : Bool). (d.ino == x) || t) (among_records ds x)

among_files : (files : List FileRec) (x : ℕ) → list_any (λ (n : ℕ). n == x) (map (λ (f : FileRec). f.ino) (filter is_directory files)) ≡ is_directory_at files x
among_files [] x = refl
among_files (f ∷ fs) x = either (is_directory f) (f.ino == x) (among_files fs x)
  where
    either : (t u : Bool) → list_any (λ (n : ℕ). n == x) (map (λ (f : FileRec). f.ino) (filter is_directory fs)) ≡ is_directory_at fs x
        → list_any (λ (n : ℕ). n == x) (map (λ (f : FileRec). f.ino) (cond t (f ∷ filter is_directory fs) (filter is_directory fs))) ≡ ((f.ino == x && t) || is_directory_at fs x)
    either true u rest = ap (λ (t : Bool). (f.ino == x) || t) rest ∙ ap (λ (t : Bool). t || is_directory_at fs x) (kept (f.ino == x))
      where
        kept : (a : Bool) → a ≡ (a && true)
        kept true = refl
        kept false = refl
    either false u rest = rest ∙ ap (λ (t : Bool). t || is_directory_at fs x) (gone (f.ino == x))
      where
        gone : (a : Bool) → false ≡ (a && false)
        gone true = refl
        gone false = refl

-- a directory in use has a record, and no other number has one
pub has_record_is : (files : List FileRec) (entries : List EntryRec) (dirs : List DirRec) → AreNamed files entries dirs → (x : ℕ) → has_record dirs x ≡ is_directory_at files x
has_record_is files entries dirs named x =
    among_records dirs x ∙ ap (list_any (λ (n : ℕ). n == x)) named.directories ∙ among_files files x

own_dir : (own : List EntryRec) (ino x : ℕ) → list_all (λ (e : EntryRec). e.dir == ino) own ≡ true → list_any (λ (e : EntryRec). e.dir == x) own ≡ true → ino == x ≡ true
own_dir [] ino x all any = absurd (true≢false (sym any))
own_dir (e ∷ es) ino x all any =
    let parts = and_parts (e.dir == ino) (list_all (λ (e : EntryRec). e.dir == ino) es) all in
    elim (or_cases (e.dir == x) (list_any (λ (e : EntryRec). e.dir == x) es) any) [
      | inl here ↦ eq-eqb ino x (sym (eqb-true e.dir ino parts.0) ∙ eqb-true e.dir x here)
      | inr later ↦ own_dir es ino x parts.1 later
    ]

-- the directory of an entry has a record
pub grouped_dir : (dirs : List DirRec) (entries : List EntryRec) → AreGrouped dirs entries → (x : ℕ) → list_any (λ (e : EntryRec). e.dir == x) entries ≡ true → has_record dirs x ≡ true
grouped_dir [] entries none x any = absurd (true≢false (sym any ∙ ap (list_any (λ (e : EntryRec). e.dir == x)) none))
grouped_dir (d ∷ ds) entries (own, rest, is, all, more) x any =
    elim (or_cases (list_any (λ (e : EntryRec). e.dir == x) own) (list_any (λ (e : EntryRec). e.dir == x) rest)
    (sym (list_any-append (λ (e : EntryRec). e.dir == x) own rest) ∙ ap (list_any (λ (e : EntryRec). e.dir == x)) (sym is) ∙ any)) [
      | inl here ↦ or_left (d.ino == x) (has_record ds x) (own_dir own d.ino x all here)
      | inr later ↦ or_right (d.ino == x) (has_record ds x) (grouped_dir ds rest more x later)
    ]
