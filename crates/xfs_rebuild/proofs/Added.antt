-- Files that are made anew, and a root among them, stand in the order of those of an image.
use Rattle.std.proofs.Common.{◌≡◌, ℕ, Bool, true, false, cond, ◌+◌, ◌≤◌, ◌<◌, ◌==◌, ◌||◌, nat_lt, if◌then◌else◌, inl, inr, List, [], ◌∷◌, map, filter, refl, sym, subst, ap, ap₂, ◌∙◌, arith}
use Rattle.std.proofs.lemmas.Bool.{eqb-false, eqb-true, le-ltb, ltb-false, ltb-true, ne_eqb, or_from, or_parts}
use Rattle.xfs_dirdata.specs.declared.records.EntryRec.{EntryRec}
use Rattle.xfs_disk.specs.Lists.{is_among}
use Rattle.xfs_naming.specs.Naming.{AreGrouped, AreNamed, NumbersAscend, is_in_use, numbers_of}
use Rattle.xfs_salvage.proofs.xfs_views.Members.{Member}
use Rattle.xfs_volume.specs.Names.{is_directory}
use Rattle.xfs_volume.specs.declared.directories.DirRec.{DirRec}
use Rattle.xfs_volume.specs.declared.files.FileRec.{FileRec}
use Rattle.xfs_salvage.proofs.Ascending.{filtered}
use Rattle.xfs_rebuild.specs.Names.{new_root, with_dir, with_made_file, with_made_files}
use Rattle.xfs_rebuild.proofs.KeptNames.{at_least}

-- one file more, whose number none has
ascends : (low : ℕ) (f : FileRec) (files : List FileRec) → low ≤ f.ino → is_in_use files f.ino ≡ false → NumbersAscend low (numbers_of files)
    → NumbersAscend low (numbers_of (with_made_file f files))
ascends low f [] le off up = (le, tt)
ascends low f (x ∷ xs) le off up =
    let parts = or_parts (x.ino == f.ino) (is_in_use xs f.ino) off in
    by_case (nat_lt x.ino f.ino) refl parts.0 parts.1 (ascends (x.ino + 1) f xs)
  where
    by_case : (t : Bool) → nat_lt x.ino f.ino ≡ t → (x.ino == f.ino) ≡ false → is_in_use xs f.ino ≡ false
        → (x.ino + 1 ≤ f.ino → is_in_use xs f.ino ≡ false → NumbersAscend (x.ino + 1) (numbers_of xs) → NumbersAscend (x.ino + 1) (numbers_of (with_made_file f xs)))
        → NumbersAscend low (numbers_of (cond t (x ∷ with_made_file f xs) (f ∷ x ∷ xs)))
    by_case true is other none rest = let less = ltb-true x.ino f.ino is in (up.0, rest (omega (arith, less)) none up.1)
    by_case false is other none rest =
        let upto = ltb-false x.ino f.ino is in
        let differ = eqb-false x.ino f.ino other in
        (le, (omega (arith, upto, differ), up.1))

either_first : (a b c : Bool) → (a || (b || c)) ≡ (b || (a || c))
either_first true true c = refl
either_first true false c = refl
either_first false b c = refl

in_use_with : (f : FileRec) (files : List FileRec) (n : ℕ) → is_in_use (with_made_file f files) n ≡ ((f.ino == n) || is_in_use files n)
in_use_with f [] n = refl
in_use_with f (x ∷ xs) n = by_case (nat_lt x.ino f.ino) (in_use_with f xs n)
  where
    by_case : (t : Bool) → is_in_use (with_made_file f xs) n ≡ ((f.ino == n) || is_in_use xs n)
        → is_in_use (cond t (x ∷ with_made_file f xs) (f ∷ x ∷ xs)) n ≡ ((f.ino == n) || ((x.ino == n) || is_in_use xs n))
    by_case true rest = ap (λ (b : Bool). (x.ino == n) || b) rest ∙ either_first (x.ino == n) (f.ino == n) (is_in_use xs n)
    by_case false rest = refl

-- where it is no directory, these stay
same_directories : (f : FileRec) (files : List FileRec) → is_directory f ≡ false → filter is_directory (with_made_file f files) ≡ filter is_directory files
same_directories f [] plain = ap (λ (t : Bool). cond t (f ∷ []) []) plain
same_directories f (x ∷ xs) plain = by_case (nat_lt x.ino f.ino) (same_directories f xs plain)
  where
    by_case : (t : Bool) → filter is_directory (with_made_file f xs) ≡ filter is_directory xs → filter is_directory (cond t (x ∷ with_made_file f xs) (f ∷ x ∷ xs)) ≡ filter is_directory (x ∷ xs)
    by_case true rest = ap (λ (fs : List FileRec). cond (is_directory x) (x ∷ fs) fs) rest
    by_case false rest = ap (λ (t : Bool). cond t (f ∷ filter is_directory (x ∷ xs)) (filter is_directory (x ∷ xs))) plain

file_named : (f : FileRec) (files : List FileRec) (entries : List EntryRec) (dirs : List DirRec) → AreNamed files entries dirs → is_in_use files f.ino ≡ false → is_directory f ≡ false
    → AreNamed (with_made_file f files) entries dirs
file_named f files entries dirs named off plain = record {
  files_ascend = ascends 0 f files (omega arith) off named.files_ascend;
  directories = named.directories ∙ ap (λ (fs : List FileRec). map (λ (x : FileRec). x.ino) fs) (sym (same_directories f files plain));
  grouped = named.grouped;
}

-- where it is one, its number comes in front of the first that is not below it, as that of its record does
abbrev numbered : ℕ → List ℕ → List ℕ
numbered n [] = n ∷ []
numbered n (m ∷ ms) = if nat_lt m n then m ∷ numbered n ms else n ∷ m ∷ ms

in_front : (n low : ℕ) (ns : List ℕ) → n ≤ low → NumbersAscend low ns → numbered n ns ≡ n ∷ ns
in_front n low [] le up = refl
in_front n low (m ∷ ms) le up =
    let first = up.0 in
    ap (λ (t : Bool). cond t (m ∷ numbered n ms) (n ∷ m ∷ ms)) (le-ltb m n (omega (arith, le, first)))

abbrev dir_numbers : List DirRec → List ℕ
dir_numbers ds = map (λ (d : DirRec). d.ino) ds

dir_numbered : (d : DirRec) (dirs : List DirRec) → dir_numbers (with_dir d dirs) ≡ numbered d.ino (dir_numbers dirs)
dir_numbered d [] = refl
dir_numbered d (x ∷ xs) = by_case (nat_lt x.ino d.ino) (dir_numbered d xs)
  where
    by_case : (t : Bool) → dir_numbers (with_dir d xs) ≡ numbered d.ino (dir_numbers xs)
        → dir_numbers (cond t (x ∷ with_dir d xs) (d ∷ x ∷ xs)) ≡ cond t (x.ino ∷ numbered d.ino (dir_numbers xs)) (d.ino ∷ x.ino ∷ dir_numbers xs)
    by_case true rest = ap (λ (ns : List ℕ). x.ino ∷ ns) rest
    by_case false rest = refl

file_numbered : (low : ℕ) (f : FileRec) (files : List FileRec) → is_directory f ≡ true → NumbersAscend low (numbers_of files)
    → numbers_of (filter is_directory (with_made_file f files)) ≡ numbered f.ino (numbers_of (filter is_directory files))
file_numbered low f [] is up = ap (λ (t : Bool). numbers_of (cond t (f ∷ []) [])) is
file_numbered low f (x ∷ xs) is up = by_case (nat_lt x.ino f.ino) refl (file_numbered (x.ino + 1) f xs is up.1)
  where
    behind : (k : Bool) → nat_lt x.ino f.ino ≡ true → numbers_of (filter is_directory (with_made_file f xs)) ≡ numbered f.ino (numbers_of (filter is_directory xs))
        → numbers_of (cond k (x ∷ filter is_directory (with_made_file f xs)) (filter is_directory (with_made_file f xs)))
        ≡ numbered f.ino (numbers_of (cond k (x ∷ filter is_directory xs) (filter is_directory xs)))
    behind true less rest =
        ap (λ (ns : List ℕ). x.ino ∷ ns) rest
        ∙ ap (λ (t : Bool). cond t (x.ino ∷ numbered f.ino (numbers_of (filter is_directory xs))) (f.ino ∷ x.ino ∷ numbers_of (filter is_directory xs))) (sym less)
    behind false less rest = rest

    by_case : (t : Bool) → nat_lt x.ino f.ino ≡ t → numbers_of (filter is_directory (with_made_file f xs)) ≡ numbered f.ino (numbers_of (filter is_directory xs))
        → numbers_of (filter is_directory (cond t (x ∷ with_made_file f xs) (f ∷ x ∷ xs))) ≡ numbered f.ino (numbers_of (filter is_directory (x ∷ xs)))
    by_case true less rest = behind (is_directory x) less rest
    by_case false at rest =
        ap (λ (t : Bool). numbers_of (cond t (f ∷ filter is_directory (x ∷ xs)) (filter is_directory (x ∷ xs)))) is
        ∙ sym (in_front f.ino x.ino (numbers_of (filter is_directory (x ∷ xs))) (ltb-false x.ino f.ino at) (filtered is_directory x.ino (x ∷ xs) (omega arith, up.1)))

-- a directory without entries changes no group of them
grouped_with : (d : DirRec) (dirs : List DirRec) (entries : List EntryRec) → AreGrouped dirs entries → AreGrouped (with_dir d dirs) entries
grouped_with d [] entries grouped = ([], entries, refl, refl, grouped)
grouped_with d (x ∷ xs) entries (own, rest, is, all, more) = by_case (nat_lt x.ino d.ino) (grouped_with d xs rest more)
  where
    by_case : (t : Bool) → AreGrouped (with_dir d xs) rest → AreGrouped (cond t (x ∷ with_dir d xs) (d ∷ x ∷ xs)) entries
    by_case true later = (own, rest, is, all, later)
    by_case false later = ([], entries, refl, refl, (own, rest, is, all, more))

dir_named : (d : DirRec) (f : FileRec) (files : List FileRec) (entries : List EntryRec) (dirs : List DirRec) → AreNamed files entries dirs → is_in_use files f.ino ≡ false
    → is_directory f ≡ true → d.ino ≡ f.ino → AreNamed (with_made_file f files) entries (with_dir d dirs)
dir_named d f files entries dirs named off is same = record {
  files_ascend = ascends 0 f files (omega arith) off named.files_ascend;
  directories = dir_numbered d dirs ∙ ap₂ (λ (n : ℕ) (ns : List ℕ). numbered n ns) same named.directories ∙ sym (file_numbered 0 f files is named.files_ascend);
  grouped = grouped_with d dirs entries named.grouped;
}

none_among : (n low : ℕ) (ns : List ℕ) → n < low → NumbersAscend low ns → is_among ns n ≡ false
none_among n low [] less up = refl
none_among n low (m ∷ ms) less up =
    let first = up.0 in
    or_from (m == n) (is_among ms n) (ne_eqb m n (λ same. omega (arith, less, first, same))) (none_among n (m + 1) ms (omega (arith, less, first)) up.1)

-- several files that ascend, of which that of the root alone is a directory
pub all_named : (root low : ℕ) (made files : List FileRec) (entries : List EntryRec) (dirs : List DirRec) → NumbersAscend low (numbers_of made)
    → ((f : FileRec) → Member f made → is_in_use files f.ino ≡ false) → ((f : FileRec) → Member f made → is_directory f ≡ (f.ino == root)) → AreNamed files entries dirs
    → AreNamed (with_made_files made files) entries (if is_among (numbers_of made) root then with_dir (new_root root) dirs else dirs)
all_named root low [] files entries dirs up off kind named = named
all_named root low (f ∷ made) files entries dirs up off kind named =
    by_case (f.ino == root) refl (λ ds here. all_named root (f.ino + 1) made (with_made_file f files) entries ds up.1 later (λ x is. kind x (inr is)) here)
  where
    later : (x : FileRec) → Member x made → is_in_use (with_made_file f files) x.ino ≡ false
    later x is =
        let least = at_least (f.ino + 1) x made up.1 is in
        in_use_with f files x.ino ∙ or_from (f.ino == x.ino) (is_in_use files x.ino) (ne_eqb f.ino x.ino (λ same. omega (arith, least, same))) (off x (inr is))

    by_case : (t : Bool) → (f.ino == root) ≡ t
        → ((ds : List DirRec) → AreNamed (with_made_file f files) entries ds
        → AreNamed (with_made_files made (with_made_file f files)) entries (if is_among (numbers_of made) root then with_dir (new_root root) ds else ds))
        → AreNamed (with_made_files made (with_made_file f files)) entries (if t || is_among (numbers_of made) root then with_dir (new_root root) dirs else dirs)
    by_case true is rest =
        let same = eqb-true f.ino root is in
        let more : List DirRec = with_dir (new_root root) dirs in
        subst (λ (b : Bool). AreNamed (with_made_files made (with_made_file f files)) entries (if b then with_dir (new_root root) more else more))
        (none_among root (f.ino + 1) (numbers_of made) (omega (arith, same)) up.1)
        (rest more (dir_named (new_root root) f files entries dirs named (off f (inl refl)) (kind f (inl refl) ∙ is) (sym same)))
    by_case false is rest = rest dirs (file_named f files entries dirs named (off f (inl refl)) (kind f (inl refl) ∙ is))
