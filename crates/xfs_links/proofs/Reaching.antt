-- All directories are reached from the root.
use Rattle.std.proofs.Common.{◌≡◌, ◌≢◌, ℕ, ◌==◌, ◌&&◌, ◌||◌, ◌⊎◌, inl, inr, Bool, true, false, not, cond, List, [], ◌∷◌, ◌++◌, map, refl, sym, ◌∙◌, ap, subst, arith, Option, None, Some, IfSome, option_map, is_some, if◌then◌else◌, find, append_assoc, append-nil, Any}
use Rattle.std.specs.List.{list_any}
use Rattle.std.specs.Str.{bytes_eq}
use Rattle.std.proofs.lemmas.Bool.{cases_eq}
use Rattle.std.proofs.lemmas.Bool.Decides.{nat_tests}
use Rattle.std.proofs.lemmas.List.Folds.{list_any-append, Any-from_list_any}
use Rattle.xfs_collections.specs.Lists.{has_node}
use Rattle.xfs_dirdata.specs.declared.records.EntryRec.{EntryRec}
use Rattle.xfs_naming.specs.Lawful.{IsReached, at_root, by_entry}
use Rattle.xfs_naming.specs.Naming.{entries_to}
use Rattle.xfs_links.specs.declared.records.NodeRec.{NodeRec}
use Rattle.xfs_links.specs.declared.walk.Attached.{Attached}
use Rattle.xfs_links.specs.Entries.{is_directory_number}
use Rattle.xfs_links.specs.Walk.{is_attached, attached_parent}
use Rattle.xfs_links.specs.Connected.{orphans, lost_found, names_lost_found, attached_directories, kept_entries}
use Rattle.xfs_links.proofs.Holding.{all_attached, all_sound}
use Rattle.xfs_links.specs.Hanging.{AreBehindParents}
use Rattle.xfs_links.specs.Together.{lost_directory, orphan_entry, new_entries, orphans_of, old_lost, entries_together}
use Rattle.xfs_links.proofs.Tests.{test_same, same_test, other_test, first_of_both, second_of_both, or_true, first_here}
use Rattle.xfs_links.proofs.Hung.{all_behind}
use Rattle.xfs_links.proofs.Naming.{named_once}
use Rattle.xfs_links.proofs.Lost.{given, orphan_is}

-- an entry of the directory names the file
abbrev pub is_way : ℕ → ℕ → EntryRec → Bool
is_way dir ino e = e.dir == dir && e.ino == ino

-- so does one of these
abbrev pub has_way : List EntryRec → ℕ → ℕ → Bool
has_way es dir ino = list_any (is_way dir ino) es

pub any_weaker : (P Q : EntryRec → Type 0) (es : List EntryRec) → ((e : EntryRec) → P e → Q e) → Any P es → Any Q es
any_weaker P Q es f (k, e, l, is, h) = (k, e, l, is, f e h)

pub reached_by : (es : List EntryRec) (root dir ino : ℕ) → IsReached es root dir → has_way es dir ino ≡ true → IsReached es root ino
reached_by es root dir ino h t = by_entry h (any_weaker (λ (e : EntryRec). is_way dir ino e ≡ true) (λ (e : EntryRec). (e.dir ≡ dir) × (e.ino ≡ ino)) es told (Any-from_list_any (is_way dir ino) es t))
  where
    told : (e : EntryRec) → is_way dir ino e ≡ true → (e.dir ≡ dir) × (e.ino ≡ ino)
    told e k = (test_same e.dir dir (first_of_both (e.dir == dir) (e.ino == ino) k), test_same e.ino ino (second_of_both (e.dir == dir) (e.ino == ino) k))

-- the way may lead over more entries
way_left : (xs ys : List EntryRec) (dir ino : ℕ) → has_way xs dir ino ≡ true → has_way (xs ++ ys) dir ino ≡ true
way_left xs ys dir ino h = list_any-append (is_way dir ino) xs ys ∙ ap (λ t. t || has_way ys dir ino) h

way_right : (xs ys : List EntryRec) (dir ino : ℕ) → has_way ys dir ino ≡ true → has_way (xs ++ ys) dir ino ≡ true
way_right xs ys dir ino h = list_any-append (is_way dir ino) xs ys ∙ or_true (has_way xs dir ino) (has_way ys dir ino) h

-- the one entry by which a parent names a directory leads to it
pub one_way : (es : List EntryRec) (n p : ℕ) (e : EntryRec) → entries_to es n ≡ e ∷ [] → e.dir ≡ p → has_way es p n ≡ true
one_way [] n p e h of = cc
one_way (f ∷ fs) n p e h of = either (cases_eq f.ino n) h (λ k. one_way fs n p e k of)
  where
    here : (a b c d : ℕ) (t : Bool) → a ≡ b → c ≡ d → (((a == b) && (c == d)) || t) ≡ true
    here a b c d t j k = grind (arith, nat_tests)

    first : f ∷ entries_to fs n ≡ e ∷ [] → f ≡ e
    first k = cc

    either : (f.ino ≡ n) ⊎ (f.ino ≡ n → ⊥) → cond (f.ino == n) (f ∷ entries_to fs n) (entries_to fs n) ≡ e ∷ [] → (entries_to fs n ≡ e ∷ [] → has_way fs p n ≡ true) → (is_way p n f || has_way fs p n) ≡ true
    either (inl same) k r = here f.dir p f.ino n (has_way fs p n) (ap (λ (g : EntryRec). g.dir) (first (sym (ap (λ t. cond t (f ∷ entries_to fs n) (entries_to fs n)) (same_test f.ino n same)) ∙ k)) ∙ of) same
    either (inr other) k r = or_true (is_way p n f) (has_way fs p n) (r (sym (ap (λ t. cond t (f ∷ entries_to fs n) (entries_to fs n)) (other_test f.ino n other)) ∙ k))

-- the lost+found that is there stands in the root
found_way : (files : List NodeRec) (root l : ℕ) (es : List EntryRec) → option_map (λ (e : EntryRec). e.ino) (find (λ e. names_lost_found root e && is_directory_number files e.ino) es) ≡ Some l → has_way es root l ≡ true
found_way files root l [] h = cc
found_way files root l (e ∷ es) h = either (e.dir == root) (bytes_eq e.name lost_found) (is_directory_number files e.ino) h (found_way files root l es)
  where
    found : Some e.ino ≡ Some l → e.ino ≡ l
    found k = cc

    either : (p q r : Bool) → option_map (λ (e : EntryRec). e.ino) (cond ((p && q) && r) (Some e) (find (λ e. names_lost_found root e && is_directory_number files e.ino) es)) ≡ Some l
        → (option_map (λ (e : EntryRec). e.ino) (find (λ e. names_lost_found root e && is_directory_number files e.ino) es) ≡ Some l → has_way es root l ≡ true) → ((p && (e.ino == l)) || has_way es root l) ≡ true
    either true true true k r = ap (λ t. t || has_way es root l) (same_test e.ino l (found k))
    either true true false k r = or_true (e.ino == l) (has_way es root l) (r k)
    either true false t k r = or_true (e.ino == l) (has_way es root l) (r k)
    either false q t k r = r k

-- an orphan has an entry there
orphan_way : (es : List EntryRec) (old : Option ℕ) (lost n : ℕ) (ns : List ℕ) → has_node n ns ≡ true → has_way (map (orphan_entry lost) (map (given es old) ns)) lost n ≡ true
orphan_way es old lost n [] h = cc
orphan_way es old lost n (m ∷ ms) h = either (lost == lost) (m == n) (has_node n ms) (has_way (map (orphan_entry lost) (map (given es old) ms)) lost n) (same_test lost lost refl) (orphan_way es old lost n ms) h
  where
    either : (p q r t : Bool) → p ≡ true → (r ≡ true → t ≡ true) → (q || r) ≡ true → ((p && q) || t) ≡ true
    either true true r t a g k = refl
    either true false r t a g k = g k
    either false q r t a g k = cc

-- those that are attached
middle : (before s : List Attached) (a : Attached) → is_attached (before ++ a ∷ s) a.directory ≡ true
middle before s a = list_any-append (λ (b : Attached). b.directory == a.directory) before (a ∷ s) ∙ ap (λ t. is_attached before a.directory || (t || is_attached s a.directory)) (same_test a.directory a.directory refl) ∙ or_true (is_attached before a.directory) true refl

-- the first that is attached under a number tells its parent
parent_first : (before s : List Attached) (a : Attached) → is_attached before a.directory ≡ false → attached_parent (before ++ a ∷ s) a.directory ≡ a.parent
parent_first [] s a h = ap (λ t. if t then a.parent else attached_parent s a.directory) (same_test a.directory a.directory refl)
parent_first (b ∷ before) s a h = either (b.directory == a.directory) h (parent_first before s a)
  where
    either : (t : Bool) → (t || is_attached before a.directory) ≡ false → (is_attached before a.directory ≡ false → attached_parent (before ++ a ∷ s) a.directory ≡ a.parent)
        → (if t then b.parent else attached_parent (before ++ a ∷ s) a.directory) ≡ a.parent
    either true k r = cc
    either false k r = r k

module _ (files : List NodeRec) (entries : List EntryRec) (root new : ℕ) (dir : is_directory_number files root ≡ true) where
  abbrev pub kept : List EntryRec
  kept = kept_entries files entries root

  abbrev pub old : Option ℕ
  old = old_lost files entries root

  abbrev pub numbers : List ℕ
  numbers = orphans files root (attached_directories files entries root) kept

  abbrev pub together : List EntryRec
  together = entries_together files entries root new

  abbrev pub placed : List EntryRec
  placed = map (orphan_entry (lost_directory old new)) (orphans_of files entries root)

  by_kept : (d n : ℕ) → has_way kept d n ≡ true → has_way together d n ≡ true
  by_kept d n h = way_left (kept ++ placed) (new_entries root old new (orphans_of files entries root)) d n (way_left kept placed d n h)

  by_orphan : (n : ℕ) → has_node n numbers ≡ true → has_way together (lost_directory old new) n ≡ true
  by_orphan n h = way_left (kept ++ placed) (new_entries root old new (orphans_of files entries root)) (lost_directory old new) n
      (way_right kept placed (lost_directory old new) n (orphan_way kept old (lost_directory old new) n numbers h))

  -- lost+found is reached where there are orphans
  new_way : (ns : List ℕ) (o : Option ℕ) (n : ℕ) → has_node n ns ≡ true → o ≡ None → has_way (new_entries root o new (map (given kept old) ns)) root new ≡ true
  new_way [] o n h e = cc
  new_way (m ∷ ms) None n h e = ap (λ t. (t && (new == new)) || false) (same_test root root refl) ∙ ap (λ t. t || false) (same_test new new refl)
  new_way (m ∷ ms) (Some l) n h e = cc

  lost_way : (o : Option ℕ) → old ≡ o → (n : ℕ) → has_node n numbers ≡ true → has_way together root (lost_directory o new) ≡ true
  lost_way None e n h = way_right (kept ++ placed) (new_entries root old new (orphans_of files entries root)) root new (new_way numbers old n h e)
  lost_way (Some l) e n h = by_kept root l (found_way files root l kept e)

  pub lost_reached : (n : ℕ) → has_node n numbers ≡ true → IsReached together root (lost_directory old new)
  lost_reached n h = reached_by together root root (lost_directory old new) at_root (lost_way old refl n h)

  orphan_reached : (n : ℕ) → has_node n numbers ≡ true → IsReached together root n
  orphan_reached n h = reached_by together root (lost_directory old new) n (lost_reached n h) (by_orphan n h)

  -- from parents to children, in the order in which they are attached
  one_reached : (n : ℕ) (parent : Option ℕ) → is_directory_number files n ≡ true → attached_parent (attached_directories files entries root) n ≡ parent
      → IfSome parent (λ p. (n ≡ root) ⊎ IsReached together root p) → IsReached together root n
  one_reached n None d e h = orphan_reached n (orphan_is files entries root n d ∙ ap (λ o. not (is_some o)) e)
  one_reached n (Some p) d e h = elim (cases_eq n root) [
    | inl same ↦ subst (λ m. IsReached together root m) (sym same) at_root
    | inr other ↦ child other h
  ]
    where
      child : n ≢ root → (n ≡ root) ⊎ IsReached together root p → IsReached together root n
      child other (inl same) = absurd (other same)
      child other (inr above) = let (e', one, of) = named_once files entries root n p dir other e in reached_by together root p n above (by_kept p n (one_way kept n p e' one of))

  all_reached : (before s : List Attached) → attached_directories files entries root ≡ before ++ s → ((n : ℕ) → is_attached before n ≡ true → IsReached together root n)
      → AreBehindParents root before s → (n : ℕ) → is_attached (before ++ s) n ≡ true → IsReached together root n
  all_reached before [] whole met h n there = met n (subst (λ r. is_attached r n ≡ true) (append-nil before) there)
  all_reached before (a ∷ s) whole met h n there =
      all_reached (before ++ a ∷ []) s (whole ∙ sym (append_assoc before (a ∷ []) s)) next h.1 n (subst (λ r. is_attached r n ≡ true) (sym (append_assoc before (a ∷ []) s)) there)
    where
      above : IfSome a.parent (λ p. (a.directory ≡ root) ⊎ IsReached together root p)
      above = weaker a.parent h.0
        where
          weaker : (o : Option ℕ) → IfSome o (λ p. ((a.directory ≡ root) × (p ≡ root)) ⊎ (is_attached before p ≡ true)) → IfSome o (λ p. (a.directory ≡ root) ⊎ IsReached together root p)
          weaker None k = tt
          weaker (Some p) (inl k) = inl k.0
          weaker (Some p) (inr k) = inr (met p k)

      is_known : is_directory_number files a.directory ≡ true
      is_known = (all_sound files entries root dir).known a.directory (subst (λ r. is_attached r a.directory ≡ true) (sym whole) (middle before s a))

      here : (t : Bool) → is_attached before a.directory ≡ t → IsReached together root a.directory
      here true e = met a.directory e
      here false e = one_reached a.directory a.parent is_known (ap (λ r. attached_parent r a.directory) whole ∙ parent_first before s a e) above

      next : (m : ℕ) → is_attached (before ++ a ∷ []) m ≡ true → IsReached together root m
      next m k = either (is_attached before m) refl (a.directory == m) refl (sym (list_any-append (λ (b : Attached). b.directory == m) before (a ∷ [])) ∙ k)
        where
          either : (t : Bool) → is_attached before m ≡ t → (u : Bool) → (a.directory == m) ≡ u → (t || (u || false)) ≡ true → IsReached together root m
          either true e u f k = met m e
          either false e true f k = let same : a.directory ≡ m = grind (arith, nat_tests) in subst (λ r. IsReached together root r) same (here (is_attached before a.directory) refl)
          either false e false f k = cc

  pub directories_reached : (n : ℕ) → is_directory_number files n ≡ true → IsReached together root n
  directories_reached n d = all_reached [] (attached_directories files entries root) refl (λ m k. absurd (nobody k)) (all_behind files entries root) n (all_attached files entries root n d)
    where
      nobody : false ≡ true → ⊥
      nobody k = cc

  pub found_reached : orphans_of files entries root ≢ [] → IsReached together root (lost_directory old new)
  found_reached some = either numbers refl
    where
      either : (ns : List ℕ) → numbers ≡ ns → IsReached together root (lost_directory old new)
      either [] e = absurd (some (ap (map (given kept old)) e))
      either (m ∷ ms) e = lost_reached m (ap (has_node m) e ∙ first_here m (has_node m ms))
