-- Orphans in lost+found: their numbers differ, and so do their names, also from those of the entries that stay.
use Rattle.std.proofs.Common.{◌≡◌, ◌≢◌, ℕ, suc, ◌+◌, ◌^◌, ◌<◌, ◌≤◌, ◌==◌, ◌&&◌, Bool, true, false, not, cond, List, [], ◌∷◌, ◌++◌, map, length, sym, ◌∙◌, ap, subst, arith, Option, is_some, if◌then◌else◌, AllPairs, slice_index_or}
use Rattle.std.specs.List.{list_any, filter, All}
use Rattle.std.proofs.lemmas.List.Elements.{All-nil, All-cons, All-head, All-tail, All-map, All-filter, All-weaker}
use Rattle.std.proofs.lemmas.List.Kept.{AllPairs-cons, AllPairs-filter}
use Rattle.xfs_collections.specs.Lists.{has_node}
use Rattle.xfs_dirdata.specs.declared.records.EntryRec.{EntryRec}
use Rattle.xfs_volume.specs.Names.{is_name}
use Rattle.xfs_links.specs.declared.records.NodeRec.{NodeRec}
use Rattle.xfs_links.specs.declared.walk.Attached.{Attached}
use Rattle.xfs_links.specs.Entries.{is_kept_node, is_directory_number, is_reserved_inode, passes, same_name, firsts, candidate_entries, NodesAscend, AreFiles}
use Rattle.xfs_links.specs.Walk.{attached_parent}
use Rattle.xfs_links.specs.Connected.{has_entry, is_taken_name, lost_name, free_name, is_orphan, orphans, is_in_the_way, cleared_entries, stays, staying, attached_directories, kept_entries}
use Rattle.xfs_links.specs.Together.{orphans_of, old_lost}
use Rattle.xfs_links.proofs.Starting.{has_filter}
use Rattle.xfs_links.proofs.Tests.{and_true, passed_on, passed_part}
use Rattle.xfs_links.proofs.Numerals.{names_apart, orphan_names_are_names}
use Rattle.xfs_links.proofs.Free.{free_is, is_free}
use Rattle.xfs_links.proofs.Different.{pairs_nil, pairs_head, pairs_tail}

-- the numbers of files differ
above : (low : ℕ) (files : List NodeRec) → NodesAscend low files → All (λ (f : NodeRec). low ≤ f.ino) files
above low [] h = All-nil (λ (f : NodeRec). low ≤ f.ino)
above low (f ∷ fs) h = All-cons (λ (g : NodeRec). low ≤ g.ino) f fs h.0 (All-weaker (λ (g : NodeRec). f.ino + 1 ≤ g.ino) (λ (g : NodeRec). low ≤ g.ino) weaker fs (above (f.ino + 1) fs h.1))
  where
    weaker : (g : NodeRec) → f.ino + 1 ≤ g.ino → low ≤ g.ino
    weaker g k = let first : low ≤ f.ino = h.0 in omega arith

numbers_differ : (low : ℕ) (files : List NodeRec) → NodesAscend low files → AllPairs (λ (m n : ℕ). m ≢ n) (map (λ (f : NodeRec). f.ino) files)
numbers_differ low [] h = pairs_nil (λ (m n : ℕ). m ≢ n)
numbers_differ low (f ∷ fs) h = AllPairs-cons (λ (m n : ℕ). m ≢ n) f.ino (map (λ (f : NodeRec). f.ino) fs)
    (All-map (λ (n : ℕ). f.ino ≢ n) (λ (g : NodeRec). g.ino) fs (All-weaker (λ (g : NodeRec). f.ino + 1 ≤ g.ino) (λ (g : NodeRec). f.ino ≢ g.ino) (λ g k e. absurd (omega arith)) fs (above (f.ino + 1) fs h.1)))
    (numbers_differ (f.ino + 1) fs h.1)

-- the name that an orphan gets
abbrev pub given : List EntryRec → Option ℕ → ℕ → ℕ × List ℕ
given es lost n = (n, free_name (is_taken_name es lost) n (length es) 0)

module _ (es : List EntryRec) (lost : Option ℕ) (few : length es < 2 ^ 64) where
  given_is : (n : ℕ) → (j : ℕ) × (j ≤ 0 + length es) × ((given es lost n).1 ≡ lost_name n j)
  given_is n = free_is (is_taken_name es lost) n (length es) 0

  given_apart : (m n : ℕ) → m < 2 ^ 32 → n < 2 ^ 32 → m ≢ n → (given es lost m).1 ≢ (given es lost n).1
  given_apart m n a b other e = let (j, low, is) = given_is m in let (k, up, at) = given_is n in
      other (names_apart m n j k (omega arith) (omega arith) (sym is ∙ e ∙ at))

  given_valid : (n : ℕ) → n < 2 ^ 32 → is_name (given es lost n).1 ≡ true
  given_valid n h = let (j, low, is) = given_is n in subst (λ r. is_name r ≡ true) (sym is) (orphan_names_are_names n j (omega arith) (omega arith))

  given_free : (n : ℕ) → n < 2 ^ 32 → is_taken_name es lost (given es lost n).1 ≡ false
  given_free n h = is_free es lost n (omega arith) few

  given_differ : (ns : List ℕ) → All (λ n. n < 2 ^ 32) ns → AllPairs (λ (m n : ℕ). m ≢ n) ns → AllPairs (λ (a b : ℕ × List ℕ). a.1 ≢ b.1) (map (given es lost) ns)
  given_differ [] low h = pairs_nil (λ (a b : ℕ × List ℕ). a.1 ≢ b.1)
  given_differ (n ∷ ns) low h = AllPairs-cons (λ (a b : ℕ × List ℕ). a.1 ≢ b.1) (given es lost n) (map (given es lost) ns)
      (All-map (λ (b : ℕ × List ℕ). (given es lost n).1 ≢ b.1) (given es lost) ns (λ k d l. given_apart n (slice_index_or ns k d) (All-head (λ n. n < 2 ^ 32) n ns low) (All-tail (λ n. n < 2 ^ 32) n ns low k d l) (pairs_head (λ (m n : ℕ). m ≢ n) n ns h k d l)))
      (given_differ ns (All-tail (λ n. n < 2 ^ 32) n ns low) (pairs_tail (λ (m n : ℕ). m ≢ n) n ns h))

-- no more entries stay than there are
filter_most : {X : Type 0} (p : X → Bool) (xs : List X) → length (filter p xs) ≤ length xs
filter_most p [] = omega arith
filter_most {X} p (x ∷ xs) = either (p x) (filter_most p xs)
  where
    either : (t : Bool) → length (filter p xs) ≤ length xs → length (cond t (x ∷ filter p xs) (filter p xs)) ≤ suc (length xs)
    either true h = omega arith
    either false h = omega arith

firsts_most : (met es : List EntryRec) → length (firsts met es) ≤ length es
firsts_most met [] = omega arith
firsts_most met (e ∷ es) = either (list_any (λ f. same_name f e) met) (firsts_most met es) (firsts_most (met ++ e ∷ []) es)
  where
    either : (t : Bool) → length (firsts met es) ≤ length es → length (firsts (met ++ e ∷ []) es) ≤ length es → length (if t then firsts met es else (e ∷ firsts (met ++ e ∷ []) es)) ≤ suc (length es)
    either true p q = omega arith
    either false p q = omega arith

staying_most : (files : List NodeRec) (s : List Attached) (before es : List EntryRec) → length (staying files s before es) ≤ length es
staying_most files s before [] = omega arith
staying_most files s before (e ∷ es) = either (stays files s before e) (staying_most files s (before ++ e ∷ []) es) (staying_most files s before es)
  where
    either : (t : Bool) → length (staying files s (before ++ e ∷ []) es) ≤ length es → length (staying files s before es) ≤ length es
        → length (if t then (e ∷ staying files s (before ++ e ∷ []) es) else staying files s before es) ≤ suc (length es)
    either true p q = omega arith
    either false p q = omega arith

cleared_most : (files : List NodeRec) (root : ℕ) (s : List Attached) (es : List EntryRec) → length (cleared_entries files root s es) ≤ length es
cleared_most files root s es = either (list_any (λ f. is_orphan files root s es f.ino) files)
  where
    either : (t : Bool) → length (if t then filter (λ e. not (is_in_the_way files root e)) es else es) ≤ length es
    either true = filter_most (λ (e : EntryRec). not (is_in_the_way files root e)) es
    either false = omega arith

kept_most : (files : List NodeRec) (entries : List EntryRec) (root : ℕ) → length (kept_entries files entries root) ≤ length entries
kept_most files entries root = omega (
  arith,
  cleared_most files root (attached_directories files entries root) (staying files (attached_directories files entries root) [] (candidate_entries files root entries)),
  staying_most files (attached_directories files entries root) [] (candidate_entries files root entries),
  firsts_most [] (filter (passes files root) entries),
  filter_most (passes files root) entries,
)

pub kept_few : (files : List NodeRec) (entries : List EntryRec) (root : ℕ) → length entries < 2 ^ 64 → length (kept_entries files entries root) < 2 ^ 64
kept_few files entries root few = omega (arith, kept_most files entries root, few)

-- the orphans' numbers, where few entries stay
module _ (files : List NodeRec) (entries : List EntryRec) (root : ℕ) (listed : AreFiles files) (few : length (kept_entries files entries root) < 2 ^ 64) where
  abbrev pub lost_numbers : List ℕ
  lost_numbers = orphans files root (attached_directories files entries root) (kept_entries files entries root)

  numbers_low : All (λ n. n < 2 ^ 32) lost_numbers
  numbers_low = All-filter (is_orphan files root (attached_directories files entries root) (kept_entries files entries root)) (λ n. n < 2 ^ 32) (map (λ (f : NodeRec). f.ino) files)
      (All-map (λ n. n < 2 ^ 32) (λ (f : NodeRec). f.ino) files listed.low)

  numbers_apart : AllPairs (λ (m n : ℕ). m ≢ n) lost_numbers
  numbers_apart = AllPairs-filter (λ (m n : ℕ). m ≢ n) (is_orphan files root (attached_directories files entries root) (kept_entries files entries root)) (map (λ (f : NodeRec). f.ino) files) (numbers_differ 0 files listed.ascend)

  pub orphans_differ : AllPairs (λ (a b : ℕ × List ℕ). a.1 ≢ b.1) (orphans_of files entries root)
  orphans_differ = given_differ (kept_entries files entries root) (old_lost files entries root) few lost_numbers numbers_low numbers_apart

  pub orphans_free : All (λ (o : ℕ × List ℕ). is_taken_name (kept_entries files entries root) (old_lost files entries root) o.1 ≡ false) (orphans_of files entries root)
  orphans_free = All-map (λ (o : ℕ × List ℕ). is_taken_name (kept_entries files entries root) (old_lost files entries root) o.1 ≡ false) (given (kept_entries files entries root) (old_lost files entries root)) lost_numbers
      (All-weaker (λ n. n < 2 ^ 32) (λ n. is_taken_name (kept_entries files entries root) (old_lost files entries root) (given (kept_entries files entries root) (old_lost files entries root) n).1 ≡ false)
      (λ n h. given_free (kept_entries files entries root) (old_lost files entries root) few n h) lost_numbers numbers_low)

  pub orphans_valid : All (λ (o : ℕ × List ℕ). is_name o.1 ≡ true) (orphans_of files entries root)
  orphans_valid = All-map (λ (o : ℕ × List ℕ). is_name o.1 ≡ true) (given (kept_entries files entries root) (old_lost files entries root)) lost_numbers
      (All-weaker (λ n. n < 2 ^ 32) (λ n. is_name (given (kept_entries files entries root) (old_lost files entries root) n).1 ≡ true)
      (λ n h. given_valid (kept_entries files entries root) (old_lost files entries root) few n h) lost_numbers numbers_low)

-- a directory is a file
pub directory_kept : (files : List NodeRec) (n : ℕ) → is_directory_number files n ≡ true → is_kept_node files n ≡ true
directory_kept [] n h = cc
directory_kept (f ∷ fs) n h = passed_part (f.ino == n) (f.kind == 4) (is_directory_number fs n) (is_kept_node fs n) (directory_kept fs n) h

-- a file is among the numbers of all files
pub in_files : (files : List NodeRec) (n : ℕ) → is_kept_node files n ≡ true → has_node n (map (λ (f : NodeRec). f.ino) files) ≡ true
in_files [] n h = cc
in_files (f ∷ fs) n h = passed_on (f.ino == n) (is_kept_node fs n) (has_node n (map (λ (f : NodeRec). f.ino) fs)) (in_files fs n) h

-- a directory is an orphan where it has no parent
pub orphan_is : (files : List NodeRec) (entries : List EntryRec) (root n : ℕ) → is_directory_number files n ≡ true
    → has_node n (orphans files root (attached_directories files entries root) (kept_entries files entries root)) ≡ not (is_some (attached_parent (attached_directories files entries root) n))
orphan_is files entries root n d =
    has_filter (is_orphan files root (attached_directories files entries root) (kept_entries files entries root)) n (map (λ (f : NodeRec). f.ino) files)
    ∙ ap (λ t. is_orphan files root (attached_directories files entries root) (kept_entries files entries root) n && t) (in_files files n (directory_kept files n d))
    ∙ and_true (is_orphan files root (attached_directories files entries root) (kept_entries files entries root) n)
    ∙ ap (λ t. if t then not (is_some (attached_parent (attached_directories files entries root) n)) else (not (is_reserved_inode root n) && not (has_entry (kept_entries files entries root) n))) d
