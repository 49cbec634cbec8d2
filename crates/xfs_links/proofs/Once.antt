-- All names together name each directory once, and each other file.
use Rattle.std.proofs.Common.{◌≡◌, ◌≢◌, ℕ, ◌==◌, ◌&&◌, ◌||◌, inl, inr, Bool, true, false, not, cond, List, [], ◌∷◌, ◌++◌, map, refl, sym, ◌∙◌, ap, subst, arith, Option, None, Some, is_some, unwrap_or, if◌then◌else◌, append-nil}
use Rattle.std.specs.List.{All}
use Rattle.std.proofs.lemmas.Bool.{cases_eq}
use Rattle.std.proofs.lemmas.Bool.Decides.{nat_tests}
use Rattle.std.proofs.lemmas.List.Elements.{All-head, All-tail, filter-append}
use Rattle.std.proofs.lemmas.List.Folds.{list_any-append}
use Rattle.xfs_collections.specs.Lists.{has_node, AreOnce}
use Rattle.xfs_dirdata.specs.declared.records.EntryRec.{EntryRec}
use Rattle.xfs_volume.specs.Names.{is_name}
use Rattle.xfs_naming.specs.Naming.{entries_to}
use Rattle.xfs_links.specs.declared.records.NodeRec.{NodeRec}
use Rattle.xfs_links.specs.Entries.{is_kept_node, is_directory_number, is_reserved_inode, passes, AreFiles}
use Rattle.xfs_links.specs.Walk.{attached_parent}
use Rattle.xfs_links.specs.Connected.{has_entry, is_orphan, orphans, attached_directories, kept_entries}
use Rattle.xfs_links.proofs.Holding.{kept_pass}
use Rattle.xfs_links.proofs.Joined.{any_through}
use Rattle.xfs_links.proofs.Starting.{has_filter, once_filter}
use Rattle.xfs_links.specs.Hanging.{IsNamedOnce, IsUnnamed}
use Rattle.xfs_links.specs.Together.{lost_directory, orphan_entry, lost_entry, is_new, new_entries, orphans_of, old_lost, adds_lost, entries_together, parent_together}
use Rattle.xfs_links.proofs.Tests.{other_test, and_false, not_first, not_second, the_second, passed_on}
use Rattle.xfs_links.proofs.Ascending.{ascend_once, nodes_ascend}
use Rattle.xfs_links.proofs.Hung.{root_parent}
use Rattle.xfs_links.proofs.Naming.{name_here, name_other, named_once, orphan_unnamed, root_unnamed}
use Rattle.xfs_links.proofs.Lost.{given, directory_kept, in_files, orphan_is}

-- those that name a file, among orphans
module _ (g : ℕ → ℕ × List ℕ) (numbered : (n : ℕ) → (g n).0 ≡ n) (lost n : ℕ) where
  none_placed : (ns : List ℕ) → has_node n ns ≡ false → entries_to (map (orphan_entry lost) (map g ns)) n ≡ []
  none_placed [] h = refl
  none_placed (m ∷ ms) h =
      ap (λ t. cond t (orphan_entry lost (g m) ∷ entries_to (map (orphan_entry lost) (map g ms)) n) (entries_to (map (orphan_entry lost) (map g ms)) n))
      (ap (λ k. k == n) (numbered m) ∙ not_first (m == n) (has_node n ms) h)
      ∙ none_placed ms (not_second (m == n) (has_node n ms) h)

  one_placed : (ns : List ℕ) → AreOnce ns → has_node n ns ≡ true → IsNamedOnce (map (orphan_entry lost) (map g ns)) n lost
  one_placed [] o h = cc
  one_placed (m ∷ ms) o h = elim (cases_eq m n) [
    | inl same ↦ (
      orphan_entry lost (g m),
      name_here (orphan_entry lost (g m)) (map (orphan_entry lost) (map g ms)) n (numbered m ∙ same)
          ∙ ap (λ r. orphan_entry lost (g m) ∷ r) (none_placed ms (subst (λ k. has_node k ms ≡ false) same o.0)),
      refl,
    )
    | inr other ↦ let k = one_placed ms o.1 (the_second (m == n) (has_node n ms) (other_test m n other) h) in
        (k.0, name_other (orphan_entry lost (g m)) (map (orphan_entry lost) (map g ms)) n (λ e. other (sym (numbered m) ∙ e)) ∙ k.1, k.2)
  ]

-- those that name a file, over three lists
three_names : (xs ys zs : List EntryRec) (n : ℕ) → entries_to ((xs ++ ys) ++ zs) n ≡ (entries_to xs n ++ entries_to ys n) ++ entries_to zs n
three_names xs ys zs n = filter-append (λ (e : EntryRec). e.ino == n) (xs ++ ys) zs ∙ ap (λ r. r ++ entries_to zs n) (filter-append (λ (e : EntryRec). e.ino == n) xs ys)

-- lost+found is one directory, and no file has its number where it is new
new_names : (root new n : ℕ) (old : Option ℕ) (os : List (ℕ × List ℕ)) → (new ≡ n → ⊥) → entries_to (new_entries root old new os) n ≡ []
new_names root new n old [] off = refl
new_names root new n None (o ∷ os) off = name_other (lost_entry root new) [] n off
new_names root new n (Some l) (o ∷ os) off = refl

module _ (files : List NodeRec) (entries : List EntryRec) (root new : ℕ) (listed : AreFiles files) (dir : is_directory_number files root ≡ true) (unused : is_kept_node files new ≡ false) where
  abbrev pub kept : List EntryRec
  kept = kept_entries files entries root

  abbrev pub lost : ℕ
  lost = lost_directory (old_lost files entries root) new

  abbrev pub numbers : List ℕ
  numbers = orphans files root (attached_directories files entries root) kept

  abbrev pub placed : List EntryRec
  placed = map (orphan_entry lost) (orphans_of files entries root)

  abbrev pub news : List EntryRec
  news = new_entries root (old_lost files entries root) new (orphans_of files entries root)

  new_other : (n : ℕ) → is_kept_node files n ≡ true → new ≡ n → ⊥
  new_other n k same = let both : false ≡ true = sym unused ∙ ap (is_kept_node files) same ∙ k in cc

  only_kept : (n : ℕ) → is_kept_node files n ≡ true → has_node n numbers ≡ false → entries_to (entries_together files entries root new) n ≡ entries_to kept n
  only_kept n k h =
      three_names kept placed news n
      ∙ ap (λ r. (entries_to kept n ++ r) ++ entries_to news n) (none_placed (given kept (old_lost files entries root)) (λ m. refl) lost n numbers h)
      ∙ ap (λ r. (entries_to kept n ++ []) ++ r) (new_names root new n (old_lost files entries root) (orphans_of files entries root) (new_other n k))
      ∙ append-nil (entries_to kept n ++ []) ∙ append-nil (entries_to kept n)

  only_placed : (n : ℕ) → is_kept_node files n ≡ true → entries_to kept n ≡ [] → entries_to (entries_together files entries root new) n ≡ entries_to placed n
  only_placed n k none =
      three_names kept placed news n ∙ ap (λ r. (r ++ entries_to placed n) ++ entries_to news n) none
      ∙ ap (λ r. entries_to placed n ++ r) (new_names root new n (old_lost files entries root) (orphans_of files entries root) (new_other n k)) ∙ append-nil (entries_to placed n)

  pub directory_once : (n : ℕ) → is_directory_number files n ≡ true → n ≢ root → IsNamedOnce (entries_together files entries root new) n (parent_together files entries root new n)
  directory_once n d other = either (attached_parent (attached_directories files entries root) n) refl
    where
      either : (o : Option ℕ) → attached_parent (attached_directories files entries root) n ≡ o → IsNamedOnce (entries_together files entries root new) n (unwrap_or o lost)
      either None e = let k = one_placed (given kept (old_lost files entries root)) (λ m. refl) lost n numbers (once_filter (is_orphan files root (attached_directories files entries root) kept) (map (λ (f : NodeRec). f.ino) files) (ascend_once 0 (map (λ (f : NodeRec). f.ino) files) (nodes_ascend 0 files listed.ascend))) (orphan_is files entries root n d ∙ ap (λ o. not (is_some o)) e) in
          (k.0, only_placed n (directory_kept files n d) (orphan_unnamed files entries root n d e) ∙ k.1, k.2)
      either (Some p) e = let k = named_once files entries root n p dir other e in
          (k.0, only_kept n (directory_kept files n d) (orphan_is files entries root n d ∙ ap (λ o. not (is_some o)) e) ∙ k.1, k.2)

  pub root_nameless : IsUnnamed (entries_together files entries root new) root
  root_nameless = only_kept root (directory_kept files root dir) (orphan_is files entries root root dir ∙ ap (λ o. not (is_some o)) (root_parent files entries root)) ∙ root_unnamed files entries root

  -- another file has a name among the entries that stay, or as an orphan
  named_placed : (ns : List ℕ) (n : ℕ) → has_node n ns ≡ true → has_entry (map (orphan_entry lost) (map (given kept (old_lost files entries root)) ns)) n ≡ true
  named_placed [] n h = cc
  named_placed (m ∷ ms) n h = passed_on (m == n) (has_node n ms) (has_entry (map (orphan_entry lost) (map (given kept (old_lost files entries root)) ms)) n) (named_placed ms n) h

  named_three : (n : ℕ) → has_entry (entries_together files entries root new) n ≡ ((has_entry kept n || has_entry placed n) || has_entry news n)
  named_three n = list_any-append (λ (e : EntryRec). e.ino == n) (kept ++ placed) news ∙ ap (λ t. t || has_entry news n) (list_any-append (λ (e : EntryRec). e.ino == n) kept placed)

  pub other_named : (n : ℕ) → is_kept_node files n ≡ true → is_directory_number files n ≡ false → is_reserved_inode root n ≡ false → has_entry (entries_together files entries root new) n ≡ true
  other_named n k d r = named_three n ∙ either (has_entry kept n) refl
    where
      first : (p q : Bool) → ((true || p) || q) ≡ true
      first p q = grind (arith, nat_tests)

      second : (p q : Bool) → p ≡ true → ((false || p) || q) ≡ true
      second p q e = grind (arith, nat_tests)

      orphan : has_entry kept n ≡ false → has_node n numbers ≡ true
      orphan none = has_filter (is_orphan files root (attached_directories files entries root) kept) n (map (λ (f : NodeRec). f.ino) files)
          ∙ ap (λ t. is_orphan files root (attached_directories files entries root) kept n && t) (in_files files n k)
          ∙ ap (λ t. (if t then not (is_some (attached_parent (attached_directories files entries root) n)) else (not (is_reserved_inode root n) && not (has_entry kept n))) && true) d
          ∙ ap (λ t. (not t && not (has_entry kept n)) && true) r ∙ ap (λ t. (true && not t) && true) none

      either : (t : Bool) → has_entry kept n ≡ t → ((has_entry kept n || has_entry placed n) || has_entry news n) ≡ true
      either true e = ap (λ t. (t || has_entry placed n) || has_entry news n) e ∙ first (has_entry placed n) (has_entry news n)
      either false e = ap (λ t. (t || has_entry placed n) || has_entry news n) e ∙ second (has_entry placed n) (has_entry news n) (named_placed numbers n (orphan e))

  -- a new lost+found has its entry in the root alone
  kept_none : (es : List EntryRec) → All (λ (e : EntryRec). passes files root e ≡ true) es → entries_to es new ≡ []
  kept_none [] h = refl
  kept_none (e ∷ es) h = name_other e es new off ∙ kept_none es (All-tail (λ (e : EntryRec). passes files root e ≡ true) e es h)
    where
      middle : (p q r : Bool) → (p && (q && r)) ≡ true → q ≡ true
      middle p q r k = grind (arith, nat_tests)

      off : e.ino ≡ new → ⊥
      off same = new_other e.ino (middle (is_name e.name) (is_kept_node files e.ino) (not (is_reserved_inode root e.ino)) (All-head (λ (e : EntryRec). passes files root e ≡ true) e es h)) (sym same)

  placed_none : entries_to placed new ≡ []
  placed_none = none_placed (given kept (old_lost files entries root)) (λ m. refl) lost new numbers
      (has_filter (is_orphan files root (attached_directories files entries root) kept) new (map (λ (f : NodeRec). f.ino) files)
      ∙ ap (λ t. is_orphan files root (attached_directories files entries root) kept new && t) (any_through (λ (f : NodeRec). f.ino) (λ z. z == new) files ∙ unused)
      ∙ and_false (is_orphan files root (attached_directories files entries root) kept new))

  news_one : (old : Option ℕ) (os : List (ℕ × List ℕ)) → is_new old os ≡ true → entries_to (new_entries root old new os) new ≡ lost_entry root new ∷ []
  news_one old [] e = cc
  news_one None (o ∷ os) e = name_here (lost_entry root new) [] new refl
  news_one (Some l) (o ∷ os) e = cc

  pub lost_once : adds_lost files entries root ≡ true → IsNamedOnce (entries_together files entries root new) new root
  lost_once added = (
    lost_entry root new,
    three_names kept placed news new
        ∙ ap (λ r. (r ++ entries_to placed new) ++ entries_to news new) (kept_none kept (kept_pass files entries root))
        ∙ ap (λ r. r ++ entries_to news new) placed_none
        ∙ news_one (old_lost files entries root) (orphans_of files entries root) added,
    refl,
  )
