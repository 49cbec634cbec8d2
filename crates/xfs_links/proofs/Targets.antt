-- All names together are names that files can have, of files that are there.
use Rattle.std.proofs.Common.{◌≡◌, ℕ, ◌^◌, ◌<◌, ◌==◌, ◌&&◌, ◌||◌, Bool, true, false, not, List, [], ◌∷◌, ◌++◌, map, length, refl, sym, ◌∙◌, ap, Option, None, Some, is_some, if◌then◌else◌, slice_index_or}
use Rattle.std.specs.List.{All}
use Rattle.std.proofs.lemmas.List.Elements.{All-nil, All-cons, All-append, All-map, All-filter, All-weaker, filter_passes}
use Rattle.std.proofs.lemmas.List.Folds.{list_any_at}
use Rattle.xfs_dirdata.specs.declared.records.EntryRec.{EntryRec}
use Rattle.xfs_volume.specs.Names.{is_name}
use Rattle.xfs_links.specs.declared.records.NodeRec.{NodeRec}
use Rattle.xfs_links.specs.Entries.{is_kept_node, is_directory_number, is_reserved_inode, passes, AreFiles}
use Rattle.xfs_links.specs.Walk.{attached_parent}
use Rattle.xfs_links.specs.Connected.{has_entry, is_orphan, orphans, lost_found, attached_directories, kept_entries}
use Rattle.xfs_links.proofs.Holding.{kept_pass}
use Rattle.xfs_links.specs.Together.{lost_directory, orphan_entry, lost_entry, is_new, new_entries, orphans_of, old_lost, adds_lost, entries_together}
use Rattle.xfs_links.proofs.Tests.{clash, both, same_test, first_of_both, second_of_both, or_true}
use Rattle.xfs_links.proofs.Hung.{root_parent}
use Rattle.xfs_links.proofs.Lost.{given, kept_few, orphans_valid}

lost_is_name : is_name lost_found ≡ true
unfolding is_name
lost_is_name = refl

-- what holds of the entry of a new lost+found
new_all : (P : EntryRec → Type 0) (root new : ℕ) (old : Option ℕ) (os : List (ℕ × List ℕ)) → (is_new old os ≡ true → P (lost_entry root new)) → All P (new_entries root old new os)
new_all P root new old [] h = All-nil P
new_all P root new None (o ∷ os) h = All-cons P (lost_entry root new) [] (h refl) (All-nil P)
new_all P root new (Some l) (o ∷ os) h = All-nil P

-- of the three parts of all names
pub together_all : (P : EntryRec → Type 0) (files : List NodeRec) (entries : List EntryRec) (root new : ℕ) → All P (kept_entries files entries root)
    → All (λ (o : ℕ × List ℕ). P (orphan_entry (lost_directory (old_lost files entries root) new) o)) (orphans_of files entries root) → (adds_lost files entries root ≡ true → P (lost_entry root new)) → All P (entries_together files entries root new)
together_all P files entries root new kept lost last =
    All-append P (kept_entries files entries root ++ map (orphan_entry (lost_directory (old_lost files entries root) new)) (orphans_of files entries root)) (new_entries root (old_lost files entries root) new (orphans_of files entries root))
    (All-append P (kept_entries files entries root) (map (orphan_entry (lost_directory (old_lost files entries root) new)) (orphans_of files entries root)) kept
    (All-map P (orphan_entry (lost_directory (old_lost files entries root) new)) (orphans_of files entries root) lost))
    (new_all P root new (old_lost files entries root) (orphans_of files entries root) last)

-- what holds of the numbers of orphans
pub lost_all : (P : ℕ → Type 0) (files : List NodeRec) (entries : List EntryRec) (root : ℕ) → All P (orphans files root (attached_directories files entries root) (kept_entries files entries root))
    → All (λ (o : ℕ × List ℕ). P o.0) (orphans_of files entries root)
lost_all P files entries root h = All-map (λ (o : ℕ × List ℕ). P o.0) (given (kept_entries files entries root) (old_lost files entries root)) (orphans files root (attached_directories files entries root) (kept_entries files entries root)) h

pub valid_together : (files : List NodeRec) (entries : List EntryRec) (root new : ℕ) → AreFiles files → length (kept_entries files entries root) < 2 ^ 64 → All (λ (e : EntryRec). is_name e.name ≡ true) (entries_together files entries root new)
valid_together files entries root new listed few = together_all (λ (e : EntryRec). is_name e.name ≡ true) files entries root new
    (All-weaker (λ (e : EntryRec). passes files root e ≡ true) (λ (e : EntryRec). is_name e.name ≡ true) (λ e h. first_of_both (is_name e.name) (is_kept_node files e.ino && not (is_reserved_inode root e.ino)) h) (kept_entries files entries root) (kept_pass files entries root))
    (orphans_valid files entries root listed few)
    (λ added. lost_is_name)

pub together_valid : (files : List NodeRec) (entries : List EntryRec) (root new : ℕ) → AreFiles files → length entries < 2 ^ 64 → All (λ (e : EntryRec). is_name e.name ≡ true) (entries_together files entries root new)
together_valid files entries root new listed few = valid_together files entries root new listed (kept_few files entries root few)

pub together_in_use : (files : List NodeRec) (entries : List EntryRec) (root new : ℕ) → All (λ (e : EntryRec). (is_kept_node files e.ino || (adds_lost files entries root && e.ino == new)) ≡ true) (entries_together files entries root new)
together_in_use files entries root new = together_all (λ (e : EntryRec). (is_kept_node files e.ino || (adds_lost files entries root && e.ino == new)) ≡ true) files entries root new
    (All-weaker (λ (e : EntryRec). passes files root e ≡ true) (λ (e : EntryRec). (is_kept_node files e.ino || (adds_lost files entries root && e.ino == new)) ≡ true)
    (λ e h. file e.ino (first_of_both (is_kept_node files e.ino) (not (is_reserved_inode root e.ino)) (second_of_both (is_name e.name) (is_kept_node files e.ino && not (is_reserved_inode root e.ino)) h))) (kept_entries files entries root) (kept_pass files entries root))
    (lost_all (λ n. (is_kept_node files n || (adds_lost files entries root && n == new)) ≡ true) files entries root
    (All-filter (is_orphan files root (attached_directories files entries root) (kept_entries files entries root)) (λ n. (is_kept_node files n || (adds_lost files entries root && n == new)) ≡ true) (map (λ (f : NodeRec). f.ino) files)
    (All-map (λ n. (is_kept_node files n || (adds_lost files entries root && n == new)) ≡ true) (λ (f : NodeRec). f.ino) files (λ k d l. file (slice_index_or files k d).ino (itself k d l)))))
    (λ added. or_true (is_kept_node files new) (adds_lost files entries root && new == new) (both (adds_lost files entries root) (new == new) added (same_test new new refl)))
  where
    file : (n : ℕ) → is_kept_node files n ≡ true → (is_kept_node files n || (adds_lost files entries root && n == new)) ≡ true
    file n h = ap (λ t. t || (adds_lost files entries root && n == new)) h

    itself : (k : ℕ) (d : NodeRec) → k < length files → is_kept_node files (slice_index_or files k d).ino ≡ true
    itself k d l = list_any_at (λ (f : NodeRec). f.ino == (slice_index_or files k d).ino) files k d l (same_test (slice_index_or files k d).ino (slice_index_or files k d).ino refl)

-- no orphan is the root or one of the system's own inodes
module _ (files : List NodeRec) (entries : List EntryRec) (root new : ℕ) (system : (n : ℕ) → is_directory_number files n ≡ true → is_reserved_inode root n ≡ true → n ≡ root) (free : is_reserved_inode root new ≡ false) where
  orphan_ordinary : (n : ℕ) → is_orphan files root (attached_directories files entries root) (kept_entries files entries root) n ≡ true → is_reserved_inode root n ≡ false
  orphan_ordinary n h = either (is_directory_number files n) refl h (is_reserved_inode root n) refl
    where
      parted : n ≡ root → not (is_some (attached_parent (attached_directories files entries root) n)) ≡ false
      parted same = ap (λ m. not (is_some (attached_parent (attached_directories files entries root) m))) same ∙ ap (λ o. not (is_some o)) (root_parent files entries root)

      either : (t : Bool) → is_directory_number files n ≡ t → (if t then not (is_some (attached_parent (attached_directories files entries root) n)) else (not (is_reserved_inode root n) && not (has_entry (kept_entries files entries root) n))) ≡ true
          → (u : Bool) → is_reserved_inode root n ≡ u → u ≡ false
      either t e k false r = refl
      either true e k true r = clash (sym (parted (system n e r)) ∙ k)
      either false e k true r = clash (sym (ap (λ u. not u && not (has_entry (kept_entries files entries root) n)) r) ∙ k)

  pub together_ordinary : All (λ (e : EntryRec). is_reserved_inode root e.ino ≡ false) (entries_together files entries root new)
  together_ordinary = together_all (λ (e : EntryRec). is_reserved_inode root e.ino ≡ false) files entries root new
      (All-weaker (λ (e : EntryRec). passes files root e ≡ true) (λ (e : EntryRec). is_reserved_inode root e.ino ≡ false)
      (λ e h. flipped (is_reserved_inode root e.ino) (second_of_both (is_kept_node files e.ino) (not (is_reserved_inode root e.ino)) (second_of_both (is_name e.name) (is_kept_node files e.ino && not (is_reserved_inode root e.ino)) h))) (kept_entries files entries root) (kept_pass files entries root))
      (lost_all (λ n. is_reserved_inode root n ≡ false) files entries root
      (All-weaker (λ n. is_orphan files root (attached_directories files entries root) (kept_entries files entries root) n ≡ true) (λ n. is_reserved_inode root n ≡ false) orphan_ordinary
      (orphans files root (attached_directories files entries root) (kept_entries files entries root))
      (filter_passes (is_orphan files root (attached_directories files entries root) (kept_entries files entries root)) (map (λ (f : NodeRec). f.ino) files))))
      (λ added. free)
    where
      flipped : (t : Bool) → not t ≡ true → t ≡ false
      flipped true k = clash k
      flipped false k = refl
