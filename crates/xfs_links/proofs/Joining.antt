-- All names together differ within each directory.
use Rattle.std.proofs.Common.{◌≡◌, ◌≢◌, ℕ, ◌^◌, ◌<◌, ◌==◌, ◌&&◌, ◌||◌, Bool, true, false, not, cond, List, [], ◌∷◌, ◌++◌, map, length, refl, sym, ◌∙◌, ap, subst, arith, Option, None, Some, option_map, if◌then◌else◌, AllPairs, find, slice_index_or}
use Rattle.std.specs.List.{list_any, filter, All}
use Rattle.std.specs.Str.{bytes_eq}
use Rattle.std.proofs.lemmas.Bool.Decides.{nat_tests}
use Rattle.std.proofs.lemmas.List.Elements.{All-nil, All-cons, All-append, All-map, All-weaker, filter_passes}
use Rattle.std.proofs.lemmas.List.Kept.{AllPairs-cons}
use Rattle.xfs_dirdata.specs.declared.records.EntryRec.{EntryRec}
use Rattle.xfs_links.specs.declared.records.NodeRec.{NodeRec}
use Rattle.xfs_links.specs.declared.walk.Attached.{Attached}
use Rattle.xfs_links.specs.Entries.{is_kept_node, is_directory_number, candidate_entries, AreFiles, AreEntries}
use Rattle.xfs_links.specs.Connected.{is_taken_name, is_orphan, orphans, lost_found, names_lost_found, is_in_the_way, cleared_entries, staying, lost_of, attached_directories, kept_entries}
use Rattle.xfs_links.specs.Together.{NamesDiffer, lost_directory, orphan_entry, lost_entry, new_entries, orphans_of, old_lost, entries_together}
use Rattle.xfs_links.proofs.Tests.{same_test, same_bytes, both, not_first, not_second}
use Rattle.xfs_links.proofs.Different.{pairs_nil, pairs_head, pairs_tail, pairs_append, all_kept, kept_differ}
use Rattle.xfs_links.proofs.Lost.{given, directory_kept, orphans_differ, orphans_free}

-- two tests cannot both pass
never_both : (p q : Bool) → p ≡ true → q ≡ true → (p && q) ≡ false → ⊥
never_both p q a b k = grind (arith, nat_tests)

-- orphans' entries differ since their names do
entries_differ : (lost : ℕ) (os : List (ℕ × List ℕ)) → AllPairs (λ (a b : ℕ × List ℕ). a.1 ≢ b.1) os → AllPairs NamesDiffer (map (orphan_entry lost) os)
entries_differ lost [] h = pairs_nil NamesDiffer
entries_differ lost (o ∷ os) h = AllPairs-cons NamesDiffer (orphan_entry lost o) (map (orphan_entry lost) os)
    (All-map (NamesDiffer (orphan_entry lost o)) (orphan_entry lost) os (All-weaker (λ (b : ℕ × List ℕ). o.1 ≢ b.1) (λ (b : ℕ × List ℕ). NamesDiffer (orphan_entry lost o) (orphan_entry lost b)) (λ b k dirs. k) os (pairs_head (λ (a b : ℕ × List ℕ). a.1 ≢ b.1) o os h)))
    (entries_differ lost os (pairs_tail (λ (a b : ℕ × List ℕ). a.1 ≢ b.1) o os h))

-- a name that is not taken is none of lost+found's
untaken : (l : ℕ) (name : List ℕ) (es : List EntryRec) → is_taken_name es (Some l) name ≡ false → All (λ (e : EntryRec). e.dir ≡ l → e.name ≢ name) es
untaken l name [] h = All-nil (λ (e : EntryRec). e.dir ≡ l → e.name ≢ name)
untaken l name (e ∷ es) h = All-cons (λ (e : EntryRec). e.dir ≡ l → e.name ≢ name) e es
    (λ dirs names. never_both (l == e.dir) (bytes_eq e.name name) (same_test l e.dir (sym dirs)) (same_bytes e.name name names) (not_first (l == e.dir && bytes_eq e.name name) (is_taken_name es (Some l) name) h))
    (untaken l name es (not_second (l == e.dir && bytes_eq e.name name) (is_taken_name es (Some l) name) h))

-- swapped, over two lists
swapped : {X Y : Type 0} (P : X → Y → Type 0) (xs : List X) (ys : List Y) → All (λ y. All (λ x. P x y) xs) ys → All (λ x. All (P x) ys) xs
swapped P xs ys h k d l j e m = h j e m k d l

-- entries of directories among the files are none of a number that no file has
elsewhere : (files : List NodeRec) (new : ℕ) (es : List EntryRec) → is_kept_node files new ≡ false → All (λ (e : EntryRec). is_directory_number files e.dir ≡ true) es → All (λ (e : EntryRec). e.dir ≢ new) es
elsewhere files new es none h = All-weaker (λ (e : EntryRec). is_directory_number files e.dir ≡ true) (λ (e : EntryRec). e.dir ≢ new) off es h
  where
    off : (e : EntryRec) → is_directory_number files e.dir ≡ true → e.dir ≢ new
    off e dir same = let both : false ≡ true = sym none ∙ directory_kept files new (ap (is_directory_number files) (sym same) ∙ dir) in cc

none_picked : (p : ℕ → Bool) (files : List NodeRec) → list_any (λ (f : NodeRec). p f.ino) files ≡ false → filter p (map (λ (f : NodeRec). f.ino) files) ≡ []
none_picked p [] h = refl
none_picked p (f ∷ fs) h = either (p f.ino) h (none_picked p fs)
  where
    either : (t : Bool) → (t || list_any (λ (f : NodeRec). p f.ino) fs) ≡ false → (list_any (λ (f : NodeRec). p f.ino) fs ≡ false → filter p (map (λ (f : NodeRec). f.ino) fs) ≡ [])
        → cond t (f.ino ∷ filter p (map (λ (f : NodeRec). f.ino) fs)) (filter p (map (λ (f : NodeRec). f.ino) fs)) ≡ []
    either true k r = cc
    either false k r = r k

-- what is not found fails the test
none_found : (p : EntryRec → Bool) (es : List EntryRec) → option_map (λ (e : EntryRec). e.ino) (find p es) ≡ None → All (λ (e : EntryRec). p e ≡ false) es
none_found p [] h = All-nil (λ (e : EntryRec). p e ≡ false)
none_found p (e ∷ es) h = either (p e) refl h (none_found p es)
  where
    either : (t : Bool) → p e ≡ t → option_map (λ (e : EntryRec). e.ino) (cond t (Some e) (find p es)) ≡ None → (option_map (λ (e : EntryRec). e.ino) (find p es) ≡ None → All (λ (e : EntryRec). p e ≡ false) es)
        → All (λ (e : EntryRec). p e ≡ false) (e ∷ es)
    either true k h r = cc
    either false k h r = All-cons (λ (e : EntryRec). p e ≡ false) e es k (r h)

-- the entry in the way is gone where there are orphans
module _ (files : List NodeRec) (root : ℕ) (s : List Attached) where
  -- where there are orphans in the end, there were some before
  orphans_before : (es : List EntryRec) (o : ℕ) (os : List ℕ) → orphans files root s (cleared_entries files root s es) ≡ o ∷ os → list_any (λ f. is_orphan files root s es f.ino) files ≡ true
  orphans_before es o os h = either (list_any (λ f. is_orphan files root s es f.ino) files) refl h
    where
      either : (t : Bool) → list_any (λ f. is_orphan files root s es f.ino) files ≡ t
          → orphans files root s (if t then filter (λ e. not (is_in_the_way files root e)) es else es) ≡ o ∷ os → t ≡ true
      either true e k = refl
      either false e k = let none : [] ≡ o ∷ os = sym (none_picked (is_orphan files root s es) files e) ∙ k in cc

  not_way : (e : EntryRec) → (names_lost_found root e && is_directory_number files e.ino) ≡ false → not (is_in_the_way files root e) ≡ true → e.dir ≡ root → e.name ≢ lost_found
  not_way e h k dirs names = neither (names_lost_found root e) (is_directory_number files e.ino) (both (e.dir == root) (bytes_eq e.name lost_found) (same_test e.dir root dirs) (same_bytes e.name lost_found names)) h k
    where
      neither : (p q : Bool) → p ≡ true → (p && q) ≡ false → not (p && not q) ≡ true → ⊥
      neither p q a b k = grind (arith, nat_tests)

  no_way : (es : List EntryRec) → All (λ (e : EntryRec). (names_lost_found root e && is_directory_number files e.ino) ≡ false) (filter (λ e. not (is_in_the_way files root e)) es)
      → All (λ (e : EntryRec). e.dir ≡ root → e.name ≢ lost_found) (filter (λ e. not (is_in_the_way files root e)) es)
  no_way es h k d l = not_way (slice_index_or (filter (λ e. not (is_in_the_way files root e)) es) k d) (h k d l) (filter_passes (λ e. not (is_in_the_way files root e)) es k d l)

-- no name is that of a lost+found that is new
new_free : (files : List NodeRec) (root : ℕ) (s : List Attached) (es : List EntryRec) (o : ℕ) (os : List ℕ) → orphans files root s (cleared_entries files root s es) ≡ o ∷ os → lost_of files root (cleared_entries files root s es) ≡ None
    → All (λ (e : EntryRec). e.dir ≡ root → e.name ≢ lost_found) (cleared_entries files root s es)
new_free files root s es o os some none =
    subst (λ t. All (λ (e : EntryRec). e.dir ≡ root → e.name ≢ lost_found) (if t then filter (λ e. not (is_in_the_way files root e)) es else es)) (sym any)
    (no_way files root s es (subst (λ t. All (λ (e : EntryRec). (names_lost_found root e && is_directory_number files e.ino) ≡ false) (if t then filter (λ e. not (is_in_the_way files root e)) es else es)) any
    (none_found (λ e. names_lost_found root e && is_directory_number files e.ino) (cleared_entries files root s es) none)))
  where
    any : list_any (λ f. is_orphan files root s es f.ino) files ≡ true
    any = orphans_before files root s es o os some

-- the three parts: the entries that stay, the orphans, lost+found
module _ (files : List NodeRec) (entries : List EntryRec) (root new : ℕ) (listed : AreFiles files) (known : AreEntries files entries) (few : length (kept_entries files entries root) < 2 ^ 64) (dir : is_directory_number files root ≡ true) (unused : is_kept_node files new ≡ false) where
  abbrev pub kept : List EntryRec
  kept = kept_entries files entries root

  abbrev pub lost : List (ℕ × List ℕ)
  lost = orphans_of files entries root

  kept_elsewhere : All (λ (e : EntryRec). e.dir ≢ new) kept
  kept_elsewhere = elsewhere files new kept unused (all_kept (λ (e : EntryRec). is_directory_number files e.dir ≡ true) files entries root known.known)

  kept_over : (old : Option ℕ) (o : ℕ × List ℕ) → is_taken_name kept old o.1 ≡ false → All (λ (e : EntryRec). NamesDiffer e (orphan_entry (lost_directory old new) o)) kept
  kept_over None o h = All-weaker (λ (e : EntryRec). e.dir ≢ new) (λ (e : EntryRec). NamesDiffer e (orphan_entry new o)) (λ e off dirs. absurd (off dirs)) kept kept_elsewhere
  kept_over (Some l) o h = untaken l o.1 kept h

  kept_orphans : (old : Option ℕ) → All (λ (o : ℕ × List ℕ). is_taken_name kept old o.1 ≡ false) lost → All (λ (e : EntryRec). All (NamesDiffer e) (map (orphan_entry (lost_directory old new)) lost)) kept
  kept_orphans old h = swapped NamesDiffer kept (map (orphan_entry (lost_directory old new)) lost)
      (All-map (λ (f : EntryRec). All (λ (e : EntryRec). NamesDiffer e f) kept) (orphan_entry (lost_directory old new)) lost
      (All-weaker (λ (o : ℕ × List ℕ). is_taken_name kept old o.1 ≡ false) (λ (o : ℕ × List ℕ). All (λ (e : EntryRec). NamesDiffer e (orphan_entry (lost_directory old new) o)) kept) (λ o k. kept_over old o k) lost h))

  new_kept : (n : ℕ) (ns : List ℕ) → orphans files root (attached_directories files entries root) kept ≡ n ∷ ns → old_lost files entries root ≡ None → All (λ (e : EntryRec). NamesDiffer e (lost_entry root new)) kept
  new_kept n ns some none =
      new_free files root (attached_directories files entries root) (staying files (attached_directories files entries root) [] (candidate_entries files root entries)) n ns some none

  new_root : new ≢ root
  new_root same = let both : false ≡ true = sym unused ∙ ap (is_kept_node files) same ∙ directory_kept files root dir in cc

  nothing_over : (xs : List EntryRec) → All (λ (e : EntryRec). All (NamesDiffer e) []) xs
  nothing_over xs k d l = All-nil (NamesDiffer (slice_index_or xs k d))

  one_over : (xs : List EntryRec) (f : EntryRec) → All (λ (e : EntryRec). NamesDiffer e f) xs → All (λ (e : EntryRec). All (NamesDiffer e) (f ∷ [])) xs
  one_over xs f h k d l = All-cons (NamesDiffer (slice_index_or xs k d)) f [] (h k d l) (All-nil (NamesDiffer (slice_index_or xs k d)))

  news : (g : ℕ → ℕ × List ℕ) (ns : List ℕ) (old : Option ℕ) → orphans files root (attached_directories files entries root) kept ≡ ns → old_lost files entries root ≡ old
      → AllPairs NamesDiffer (new_entries root old new (map g ns))
      × All (λ (e : EntryRec). All (NamesDiffer e) (new_entries root old new (map g ns))) (kept ++ map (orphan_entry (lost_directory old new)) (map g ns))
  news g [] old e k = (pairs_nil NamesDiffer, nothing_over (kept ++ []))
  news g (n ∷ ns) (Some l) e k = (pairs_nil NamesDiffer, nothing_over (kept ++ map (orphan_entry l) (g n ∷ map g ns)))
  news g (n ∷ ns) None e k = (
    AllPairs-cons NamesDiffer (lost_entry root new) [] (All-nil (NamesDiffer (lost_entry root new))) (pairs_nil NamesDiffer),
    one_over (kept ++ map (orphan_entry new) (g n ∷ map g ns)) (lost_entry root new)
        (All-append (λ (e : EntryRec). NamesDiffer e (lost_entry root new)) kept (map (orphan_entry new) (g n ∷ map g ns)) (new_kept n ns e k)
        (All-map (λ (e : EntryRec). NamesDiffer e (lost_entry root new)) (orphan_entry new) (g n ∷ map g ns) (λ i d l dirs. absurd (new_root dirs)))),
  )

  pub together_differ : AllPairs NamesDiffer (entries_together files entries root new)
  together_differ = let both = news (given kept (old_lost files entries root)) (orphans files root (attached_directories files entries root) kept) (old_lost files entries root) refl refl in
      pairs_append NamesDiffer (kept ++ map (orphan_entry (lost_directory (old_lost files entries root) new)) lost) (new_entries root (old_lost files entries root) new lost)
      (pairs_append NamesDiffer kept (map (orphan_entry (lost_directory (old_lost files entries root) new)) lost) (kept_differ files entries root)
      (entries_differ (lost_directory (old_lost files entries root) new) lost (orphans_differ files entries root listed few))
      (kept_orphans (old_lost files entries root) (orphans_free files entries root listed few)))
      both.0
      both.1
