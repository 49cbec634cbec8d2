-- Files, directories and entries stand in the order of their numbers.
use Rattle.std.proofs.Common.{◌≡◌, ℕ, zero, suc, ◌+◌, ◌^◌, ◌<◌, ◌≤◌, Bool, true, false, cond, ◌==◌, List, [], ◌∷◌, ◌++◌, length, map, filter, get_or, sym, subst, arith}
use Rattle.std.specs.List.{list_all}
use Rattle.std.specs.List.Sorted.{IsNonDecreasingBy}
use Rattle.std.proofs.lemmas.Bool.{and_parts, eqb-true}
use Rattle.xfs_dirdata.specs.declared.records.EntryRec.{EntryRec}
use Rattle.xfs_volume.specs.declared.directories.DirRec.{DirRec}
use Rattle.xfs_volume.specs.declared.files.FileRec.{FileRec}
use Rattle.xfs_volume.specs.Names.{is_directory}
use Rattle.xfs_naming.specs.declared.kinds.FileKind.{FileKind}
use Rattle.xfs_naming.specs.declared.runs.Link.{Link}
use Rattle.xfs_naming.specs.Naming.{NumbersAscend, AreGrouped, AreNamed, numbers_of}
use Rattle.xfs_naming.specs.Ordered.{AreOrdered, AreLinks}
use Rattle.xfs_naming.specs.Private.Kinds.{kind_of}
use Rattle.xfs_naming.proofs.FileKinds.{kind_numbers}

-- the numbers rise, or stay
abbrev pub Rises : ℕ → List ℕ → Type 0
Rises low [] = Unit {0}
Rises low (x ∷ xs) = (low ≤ x) × Rises x xs

rises_lower : (low v : ℕ) (xs : List ℕ) → low ≤ v → Rises v xs → Rises low xs
rises_lower low v [] le up = tt
rises_lower low v (x ∷ xs) le up = (omega (arith, up.0), up.1)

ascend_rise : (low : ℕ) (xs : List ℕ) → NumbersAscend low xs → Rises low xs
ascend_rise low [] up = tt
ascend_rise low (x ∷ xs) up = (up.0, rises_lower x (x + 1) xs (omega arith) (ascend_rise (x + 1) xs up.1))

ascend_lower : (low v : ℕ) (xs : List ℕ) → low ≤ v → NumbersAscend v xs → NumbersAscend low xs
ascend_lower low v [] le up = tt
ascend_lower low v (x ∷ xs) le up = (omega (arith, up.0), up.1)

-- some of those that ascend do
ascend_filter : {X : Type 0} (n : X → ℕ) (p : X → Bool) (low : ℕ) (xs : List X) → NumbersAscend low (map n xs) → NumbersAscend low (map n (filter p xs))
ascend_filter n p low [] up = tt
ascend_filter {X = X} n p low (x ∷ xs) up = either (p x) (ascend_filter n p (n x + 1) xs up.1)
  where
    either : (t : Bool) → NumbersAscend (n x + 1) (map n (filter p xs)) → NumbersAscend low (map n (cond t (x ∷ filter p xs) (filter p xs)))
    either true rest = (up.0, rest)
    either false rest = ascend_lower low (n x + 1) (map n (filter p xs)) (omega (arith, up.0)) rest

-- place by place
rises_low : {X : Type 0} (n : X → ℕ) (low : ℕ) (xs : List X) → Rises low (map n xs) → (k : ℕ) (d : X) → k < length xs → low ≤ n (get_or xs k d)
rises_low n low [] up k d h = absurd (omega arith)
rises_low n low (x ∷ xs) up zero d h = up.0
rises_low n low (x ∷ xs) up (suc k) d h = let next : n x ≤ n (get_or xs k d) = rises_low n (n x) xs up.1 k d (omega arith) in omega (arith, up.0)

pub rises_by : {X : Type 0} (n : X → ℕ) (low : ℕ) (xs : List X) → Rises low (map n xs) → IsNonDecreasingBy n xs
rises_by n low [] up i j d le h = absurd (omega arith)
rises_by n low (x ∷ xs) up zero zero d le h = omega arith
rises_by n low (x ∷ xs) up zero (suc j) d le h = rises_low n (n x) xs up.1 j d (omega arith)
rises_by n low (x ∷ xs) up (suc i) zero d le h = absurd (omega arith)
rises_by n low (x ∷ xs) up (suc i) (suc j) d le h = rises_by n (n x) xs up.1 i j d (omega arith) (omega arith)

abbrev dirs_of : List EntryRec → List ℕ
dirs_of entries = map (λ (e : EntryRec). e.dir) entries

-- the entries of one directory before those of later ones
own_rises : (low v : ℕ) (own rest : List EntryRec) → list_all (λ (e : EntryRec). e.dir == v) own ≡ true → low ≤ v → Rises v (dirs_of rest) → Rises low (dirs_of (own ++ rest))
own_rises low v [] rest all le up = rises_lower low v (dirs_of rest) le up
own_rises low v (e ∷ es) rest all le up =
    let parts = and_parts (e.dir == v) (list_all (λ (e : EntryRec). e.dir == v) es) all in
    let same : e.dir ≡ v = eqb-true e.dir v parts.0 in
    (omega arith, own_rises e.dir v es rest parts.1 (omega arith) up)

grouped_rise : (low : ℕ) (dirs : List DirRec) (entries : List EntryRec) → NumbersAscend low (map (λ (d : DirRec). d.ino) dirs) → AreGrouped dirs entries → Rises low (dirs_of entries)
grouped_rise low [] entries up none = subst (λ (es : List EntryRec). Rises low (dirs_of es)) (sym none) tt
grouped_rise low (d ∷ ds) entries up (own, rest, is, all, more) =
    subst (λ (es : List EntryRec). Rises low (dirs_of es)) (sym is)
    (own_rises low d.ino own rest all up.0 (rises_lower d.ino (d.ino + 1) (dirs_of rest) (omega arith) (grouped_rise (d.ino + 1) ds rest up.1 more)))

-- what is asked of files stands in their order
pub kinds_rise : (files : List FileRec) → NumbersAscend 0 (numbers_of files) → IsNonDecreasingBy (λ (k : FileKind). k.ino) (map kind_of files)
kinds_rise files up = rises_by (λ (k : FileKind). k.ino) 0 (map kind_of files) (subst (Rises 0) (sym (kind_numbers files)) (ascend_rise 0 (numbers_of files) up))

-- all that is looked at stands in its order
pub ordered : (root : ℕ) (files : List FileRec) (entries : List EntryRec) (dirs : List DirRec) (links : List Link) → AreNamed files entries dirs → root < 2 ^ 32
    → IsNonDecreasingBy (λ (l : Link). l.target) links → AreLinks entries links → AreOrdered root files entries dirs links
ordered root files entries dirs links named low rise linked = record {
  low = low;
  by_file = rises_by (λ (f : FileRec). f.ino) 0 files (ascend_rise 0 (numbers_of files) named.files_ascend);
  by_directory = rises_by (λ (e : EntryRec). e.dir) 0 entries (grouped_rise 0 dirs entries dirs_ascend named.grouped);
  by_number = rises_by (λ (d : DirRec). d.ino) 0 dirs (ascend_rise 0 _ dirs_ascend);
  by_target = rise;
  linked = linked;
}
  where
    dirs_ascend : NumbersAscend 0 (map (λ (d : DirRec). d.ino) dirs)
    dirs_ascend = subst (NumbersAscend 0) (sym named.directories) (ascend_filter (λ (f : FileRec). f.ino) is_directory 0 files named.files_ascend)
