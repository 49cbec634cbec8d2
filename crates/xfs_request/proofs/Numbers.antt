-- The numbers of files, in their order, and what they say of the files.
use Rattle.std.proofs.Common.{◌≡◌, ℕ, zero, suc, ◌≤◌, ◌<◌, ◌+◌, Bool, cond, ◌==◌, ◌||◌, List, [], ◌∷◌, ◌++◌, map, filter, drop, length, get_or, count_by, refl, sym, ap, ◌∙◌, subst, arith}
use Rattle.std.specs.List.Sorted.{IsNonDecreasing, IsNonDecreasingBy}
use Rattle.std.proofs.lemmas.List.{append_assoc}
use Rattle.std.proofs.lemmas.List.Kept.{IsNonDecreasingBy-filter}
use Rattle.xfs_disk.specs.Lists.{is_among}
use Rattle.xfs_dirdata.specs.declared.records.EntryRec.{EntryRec}
use Rattle.xfs_volume.specs.Names.{is_directory}
use Rattle.xfs_volume.specs.declared.files.FileRec.{FileRec}
use Rattle.xfs_space.proofs.OwnedRuns.{from_head}
use Rattle.xfs_naming.specs.Naming.{entries_in, entries_to, is_directory_at, is_in_use, links_of, numbers_of}
use Rattle.xfs_naming.proofs.Order.{Rises, rises_by}
use Rattle.xfs_salvage.proofs.Directories.{directory_among}
use Rattle.xfs_request.specs.Slots.{AreNumbers, links_among}

-- the numbers of what stands in their order rise
rises_of : {X : Type 0} (n : X → ℕ) (low : ℕ) (xs : List X) → ((k : ℕ) (d : X) → k < length xs → low ≤ n (get_or xs k d)) → IsNonDecreasingBy n xs → Rises low (map n xs)
rises_of n low [] least up = tt
rises_of n low (x ∷ xs) least up =
    (least 0 x (omega arith), rises_of n (n x) xs (λ k d h. up 0 (suc k) d (omega arith) (omega arith)) (λ i j d le h. up (suc i) (suc j) d (omega arith) (omega arith)))

-- a number goes by itself
by_itself : (low : ℕ) (ns : List ℕ) → Rises low ns → Rises low (map (λ (n : ℕ). n) ns)
by_itself low [] up = tt
by_itself low (n ∷ ns) up = (up.0, by_itself n ns up.1)

numbers_rise : (files : List FileRec) → IsNonDecreasingBy (λ (f : FileRec). f.ino) files → IsNonDecreasing (numbers_of files)
numbers_rise files up =
    rises_by (λ (n : ℕ). n) 0 (numbers_of files) (by_itself 0 (numbers_of files) (rises_of (λ (f : FileRec). f.ino) 0 files (λ k d h. omega arith) up))

pub are_numbers : (files : List FileRec) (numbers : List ℕ) → IsNonDecreasingBy (λ (f : FileRec). f.ino) files → numbers ≡ numbers_of files → AreNumbers files numbers
are_numbers files numbers up are = record { are = are; rise = subst IsNonDecreasing (sym are) (numbers_rise files up) }

pub are_directories : (files : List FileRec) (numbers : List ℕ) → IsNonDecreasingBy (λ (f : FileRec). f.ino) files → numbers ≡ numbers_of (filter is_directory files)
    → AreNumbers (filter is_directory files) numbers
are_directories files numbers up are = are_numbers (filter is_directory files) numbers (IsNonDecreasingBy-filter (λ (f : FileRec). f.ino) is_directory files up) are

-- one number more behind the others
pub number_next : (files : List FileRec) (i : ℕ) (f : FileRec) (done more all : List ℕ) → i < length files → f ≡ get_or files i f → done ++ numbers_of (drop i files) ≡ all
    → more ≡ done ++ f.ino ∷ [] → more ++ numbers_of (drop (i + 1) files) ≡ all
number_next files i f done more all inside is before on =
    ap (λ (ns : List ℕ). ns ++ numbers_of (drop (i + 1) files)) on
    ∙ append_assoc done (f.ino ∷ []) (numbers_of (drop (i + 1) files))
    ∙ subst (λ (fs : List FileRec). done ++ numbers_of fs ≡ all) (from_head files i f inside is) before

-- the same files and the same numbers
pub same_numbers : (files fs : List FileRec) (numbers ns : List ℕ) → fs ≡ files → ns ≡ numbers → AreNumbers fs numbers → AreNumbers files ns
same_numbers files fs numbers ns of is known = record { are = is ∙ known.are ∙ ap numbers_of of; rise = subst IsNonDecreasing (sym is) known.rise }

pub same_directories : (files fs : List FileRec) (numbers ns : List ℕ) → fs ≡ files → ns ≡ numbers → AreNumbers (filter is_directory fs) numbers → AreNumbers (filter is_directory files) ns
same_directories files fs numbers ns of is known = same_numbers (filter is_directory files) (filter is_directory fs) numbers ns (ap (filter is_directory) of) is known

-- a number is one of them where a file has it
used_among : (files : List FileRec) (n : ℕ) → is_among (numbers_of files) n ≡ is_in_use files n
used_among [] n = refl
used_among (f ∷ fs) n = ap (λ (t : Bool). f.ino == n || t) (used_among fs n)

pub used_by : (files : List FileRec) (numbers : List ℕ) (n : ℕ) → AreNumbers files numbers → is_among numbers n ≡ is_in_use files n
used_by files numbers n known = ap (λ (ns : List ℕ). is_among ns n) known.are ∙ used_among files n

-- entries that name a directory, and the names of a file
counted_by : (files : List FileRec) (own : List EntryRec)
    → count_by (λ (e : EntryRec). is_among (numbers_of (filter is_directory files)) e.ino) own ≡ count_by (λ (e : EntryRec). is_directory_at files e.ino) own
counted_by files own = ap (λ (p : EntryRec → Bool). count_by p own) same
  where
    same : ◌≡◌ {A = EntryRec → Bool} (λ (e : EntryRec). is_among (numbers_of (filter is_directory files)) e.ino) (λ (e : EntryRec). is_directory_at files e.ino)
    same = λ i e. directory_among files e.ino i

pub links_by : (files : List FileRec) (directories : List ℕ) (entries : List EntryRec) (f : FileRec) → directories ≡ numbers_of (filter is_directory files)
    → links_among directories entries f ≡ links_of files entries f
links_by files directories entries f are =
    ap (λ (ns : List ℕ). links_among ns entries f) are
    ∙ ap (λ (n : ℕ). cond (is_directory f) (2 + n) (length (entries_to entries f.ino))) (counted_by files (entries_in entries f.ino))
