-- A volume with the names that were decided keeps the laws of entries and of places.
use Rattle.std.proofs.Common.{◌≡◌, ◌≢◌, ℕ, ◌+◌, ◌^◌, ◌<◌, ◌≤◌, ◌==◌, ◌&&◌, ◌||◌, ◌⊎◌, inl, inr, Bool, true, false, cond, List, [], ◌∷◌, map, length, refl, sym, ◌∙◌, ap, subst, arith, Option, None, Some, option_map, unwrap_or, if◌then◌else◌, find, AllPairs, Any, slice_index_or}
use Rattle.std.specs.List.{filter, All}
use Rattle.std.proofs.lemmas.Bool.{cases_eq}
use Rattle.std.proofs.lemmas.Bool.Decides.{nat_tests}
use Rattle.std.proofs.lemmas.List.Elements.{All-nil, All-cons, All-weaker}
use Rattle.std.proofs.lemmas.List.Folds.{Any-from_list_any, list_any_at}
use Rattle.xfs_collections.specs.Lists.{has_node, AreOnce}
use Rattle.xfs_dirdata.specs.declared.records.EntryRec.{EntryRec}
use Rattle.xfs_volume.specs.declared.directories.DirRec.{DirRec}
use Rattle.xfs_volume.specs.declared.files.FileRec.{FileRec}
use Rattle.xfs_volume.specs.Names.{is_name, type_of, is_directory as is_directory_file}
use Rattle.xfs_naming.specs.Naming.{is_in_use, is_directory_at, entries_to, NumbersAscend}
use Rattle.xfs_naming.specs.Lawful.{IsReached, IsOrdinary, IsDirectory, IsOther}
use Rattle.xfs_links.specs.declared.records.NodeRec.{NodeRec}
use Rattle.xfs_links.specs.Entries.{is_kept_node, is_directory_number, is_reserved_inode, AreFiles, AreEntries}
use Rattle.xfs_links.specs.Connected.{has_entry, names_lost_found, kept_entries}
use Rattle.xfs_links.proofs.Joined.{any_through}
use Rattle.xfs_links.specs.Hanging.{IsNamedOnce}
use Rattle.xfs_links.specs.Together.{NamesDiffer, lost_directory, is_new, orphans_of, old_lost, adds_lost, entries_together, parent_together}
use Rattle.xfs_links.specs.Settled.{IsSettled, parent_due, by_directory}
use Rattle.xfs_links.proofs.Tests.{test_same, or_false, passed_part, clash, same_test, other_test, both, first_of_both, second_of_both, or_true, neither, not_first, not_second}
use Rattle.xfs_links.proofs.Ascending.{rises, absent, ascend_once, picked}
use Rattle.xfs_links.proofs.Hung.{root_parent}
use Rattle.xfs_links.proofs.Different.{all_kept}
use Rattle.xfs_links.proofs.Joining.{together_differ}
use Rattle.xfs_links.proofs.Lost.{directory_kept}
use Rattle.xfs_links.proofs.Once.{directory_once, other_named, lost_once}
use Rattle.xfs_links.proofs.Targets.{together_all, valid_together, together_in_use, together_ordinary}
use Rattle.xfs_links.proofs.Reaching.{is_way, has_way, any_weaker, one_way, directories_reached, found_reached}
use Rattle.xfs_links.proofs.ByDirectory.{all_by, pairs_by, once_by, way_by, way_dir, reached_through, all_untyped, pairs_untyped, as_many_untyped, way_untyped}

-- the numbers of the directories
has_directories : (n : ℕ) (fs : List FileRec) → has_node n (map (λ (f : FileRec). f.ino) (filter is_directory_file fs)) ≡ is_directory_at fs n
has_directories n [] = refl
has_directories n (f ∷ fs) = either (is_directory_file f) (has_directories n fs)
  where
    here : (p q : Bool) → (p || q) ≡ ((p && true) || q)
    here p q = grind (arith, nat_tests)

    further : (p q : Bool) → q ≡ ((p && false) || q)
    further p q = grind (arith, nat_tests)

    either : (t : Bool) → has_node n (map (λ (f : FileRec). f.ino) (filter is_directory_file fs)) ≡ is_directory_at fs n
        → has_node n (map (λ (f : FileRec). f.ino) (cond t (f ∷ filter is_directory_file fs) (filter is_directory_file fs))) ≡ ((f.ino == n && t) || is_directory_at fs n)
    either true r = ap (λ q. f.ino == n || q) r ∙ here (f.ino == n) (is_directory_at fs n)
    either false r = r ∙ further (f.ino == n) (is_directory_at fs n)

named_number : (n : ℕ) (fs : List FileRec) → is_directory_at fs n ≡ true → has_node n (map (λ (f : FileRec). f.ino) fs) ≡ true
named_number n [] h = cc
named_number n (f ∷ fs) h = passed_part (f.ino == n) (is_directory_file f) (is_directory_at fs n) (has_node n (map (λ (f : FileRec). f.ino) fs)) (named_number n fs) h

-- a file tells whether its number is that of a directory
type_told : (low : ℕ) (fs : List FileRec) → NumbersAscend low (map (λ (f : FileRec). f.ino) fs) → All (λ (f : FileRec). is_directory_at fs f.ino ≡ is_directory_file f) fs
type_told low [] h = All-nil (λ (f : FileRec). is_directory_at [] f.ino ≡ is_directory_file f)
type_told low (f ∷ fs) h = All-cons (λ (g : FileRec). is_directory_at (f ∷ fs) g.ino ≡ is_directory_file g) f fs
    (ap (λ t. (t && is_directory_file f) || is_directory_at fs f.ino) (same_test f.ino f.ino refl) ∙ ap (λ t. is_directory_file f || t) (none (is_directory_at fs f.ino) refl) ∙ or_false (is_directory_file f))
    (All-weaker (λ (g : FileRec). (is_directory_at fs g.ino ≡ is_directory_file g) × (has_node g.ino (map (λ (f : FileRec). f.ino) fs) ≡ true)) (λ (g : FileRec). is_directory_at (f ∷ fs) g.ino ≡ is_directory_file g)
    (λ g k. ap (λ t. (t && is_directory_file f) || is_directory_at fs g.ino) (off g k.1) ∙ k.0) fs
    (λ k d l. (type_told (f.ino + 1) fs h.1 k d l, inside k d l)))
  where
    off : (g : FileRec) → has_node g.ino (map (λ (f : FileRec). f.ino) fs) ≡ true → (f.ino == g.ino) ≡ false
    off g k = let up : f.ino + 1 ≤ g.ino = rises (f.ino + 1) g.ino (map (λ (f : FileRec). f.ino) fs) h.1 k in grind (arith, nat_tests)

    inside : (k : ℕ) (d : FileRec) → k < length fs → has_node (slice_index_or fs k d).ino (map (λ (f : FileRec). f.ino) fs) ≡ true
    inside k d l = any_through (λ (f : FileRec). f.ino) (λ z. z == (slice_index_or fs k d).ino) fs ∙ list_any_at (λ (f : FileRec). f.ino == (slice_index_or fs k d).ino) fs k d l (same_test (slice_index_or fs k d).ino (slice_index_or fs k d).ino refl)

    none : (t : Bool) → is_directory_at fs f.ino ≡ t → t ≡ false
    none true e = clash (sym (absent f.ino (map (λ (f : FileRec). f.ino) fs) h.1) ∙ named_number f.ino fs e)
    none false e = refl

-- the lost+found that is there is a directory
found_directory : (nodes : List NodeRec) (root l : ℕ) (es : List EntryRec) → option_map (λ (e : EntryRec). e.ino) (find (λ e. names_lost_found root e && is_directory_number nodes e.ino) es) ≡ Some l → is_directory_number nodes l ≡ true
found_directory nodes root l [] h = cc
found_directory nodes root l (e ∷ es) h = either (names_lost_found root e) (is_directory_number nodes e.ino) refl h (found_directory nodes root l es)
  where
    found : Some e.ino ≡ Some l → e.ino ≡ l
    found k = cc

    either : (p q : Bool) → is_directory_number nodes e.ino ≡ q → option_map (λ (e : EntryRec). e.ino) (cond (p && q) (Some e) (find (λ e. names_lost_found root e && is_directory_number nodes e.ino) es)) ≡ Some l
        → (option_map (λ (e : EntryRec). e.ino) (find (λ e. names_lost_found root e && is_directory_number nodes e.ino) es) ≡ Some l → is_directory_number nodes l ≡ true) → is_directory_number nodes l ≡ true
    either true true d k r = sym (ap (is_directory_number nodes) (found k)) ∙ d
    either true false d k r = r k
    either false q d k r = r k

-- the directory of the one entry
none_named : (es : List EntryRec) (n : ℕ) (P : EntryRec → Type 0) → entries_to es n ≡ [] → All (λ (e : EntryRec). e.ino ≡ n → P e) es
none_named [] n P h = All-nil (λ (e : EntryRec). e.ino ≡ n → P e)
none_named (e ∷ es) n P h = either (cases_eq e.ino n) h (none_named es n P)
  where
    either : (e.ino ≡ n) ⊎ (e.ino ≡ n → ⊥) → cond (e.ino == n) (e ∷ entries_to es n) (entries_to es n) ≡ [] → (entries_to es n ≡ [] → All (λ (e : EntryRec). e.ino ≡ n → P e) es) → All (λ (e : EntryRec). e.ino ≡ n → P e) (e ∷ es)
    either (inl same) k r = let no : e ∷ entries_to es n ≡ [] = sym (ap (λ t. cond t (e ∷ entries_to es n) (entries_to es n)) (same_test e.ino n same)) ∙ k in cc
    either (inr other) k r = All-cons (λ (e : EntryRec). e.ino ≡ n → P e) e es (λ same. absurd (other same)) (r (sym (ap (λ t. cond t (e ∷ entries_to es n) (entries_to es n)) (other_test e.ino n other)) ∙ k))

one_dir : (es : List EntryRec) (n : ℕ) (one : EntryRec) → entries_to es n ≡ one ∷ [] → All (λ (e : EntryRec). e.ino ≡ n → e.dir ≡ one.dir) es
one_dir [] n one h = All-nil (λ (e : EntryRec). e.ino ≡ n → e.dir ≡ one.dir)
one_dir (e ∷ es) n one h = either (cases_eq e.ino n) h (one_dir es n one)
  where
    head : (xs : List EntryRec) → e ∷ xs ≡ one ∷ [] → e ≡ one
    head xs k = cc

    tail : (xs : List EntryRec) → e ∷ xs ≡ one ∷ [] → xs ≡ []
    tail xs k = cc

    either : (e.ino ≡ n) ⊎ (e.ino ≡ n → ⊥) → cond (e.ino == n) (e ∷ entries_to es n) (entries_to es n) ≡ one ∷ [] → (entries_to es n ≡ one ∷ [] → All (λ (e : EntryRec). e.ino ≡ n → e.dir ≡ one.dir) es)
        → All (λ (e : EntryRec). e.ino ≡ n → e.dir ≡ one.dir) (e ∷ es)
    either (inl same) k r = let both : e ∷ entries_to es n ≡ one ∷ [] = sym (ap (λ t. cond t (e ∷ entries_to es n) (entries_to es n)) (same_test e.ino n same)) ∙ k in
        All-cons (λ (e : EntryRec). e.ino ≡ n → e.dir ≡ one.dir) e es (λ s. ap (λ (x : EntryRec). x.dir) (head (entries_to es n) both)) (none_named es n (λ (e : EntryRec). e.dir ≡ one.dir) (tail (entries_to es n) both))
    either (inr other) k r = All-cons (λ (e : EntryRec). e.ino ≡ n → e.dir ≡ one.dir) e es (λ same. absurd (other same)) (r (sym (ap (λ t. cond t (e ∷ entries_to es n) (entries_to es n)) (other_test e.ino n other)) ∙ k))

-- a name is one of some directory
named_way : (es : List EntryRec) (n : ℕ) → has_entry es n ≡ true → (d : ℕ) × (has_way es d n ≡ true)
named_way [] n h = cc
named_way (e ∷ es) n h = either (e.ino == n) refl h (named_way es n)
  where
    either : (t : Bool) → (e.ino == n) ≡ t → (t || has_entry es n) ≡ true → (has_entry es n ≡ true → (d : ℕ) × (has_way es d n ≡ true)) → (d : ℕ) × (has_way (e ∷ es) d n ≡ true)
    either true k h r = (e.dir, ap (λ t. t || has_way es e.dir n) (both (e.dir == e.dir) (e.ino == n) (same_test e.dir e.dir refl) k))
    either false k h r = let more = r h in (more.0, or_true (e.dir == more.0 && e.ino == n) (has_way es more.0 n) more.1)

way_names : (es : List EntryRec) (d n : ℕ) → has_way es d n ≡ true → Any (λ (e : EntryRec). e.ino ≡ n) es
way_names es d n h = any_weaker (λ (e : EntryRec). is_way d n e ≡ true) (λ (e : EntryRec). e.ino ≡ n) es (λ e k. second (e.dir == d) e.ino n k) (Any-from_list_any (is_way d n) es h)
  where
    second : (t : Bool) (a b : ℕ) → (t && (a == b)) ≡ true → a ≡ b
    second t a b k = grind (arith, nat_tests)

any_file : (P Q : FileRec → Type 0) (fs : List FileRec) → ((f : FileRec) → P f → Q f) → Any P fs → Any Q fs
any_file P Q fs g (k, f, l, is, h) = (k, f, l, is, g f h)

not_root : (root n : ℕ) → is_reserved_inode root n ≡ false → n ≢ root
not_root root n k same = grind (arith, nat_tests)

ordinary : (root n : ℕ) → is_reserved_inode root n ≡ false → IsOrdinary root n
ordinary root n k = ((λ same. first same), (λ same. second same))
  where
    first : n ≡ root + 1 → ⊥
    first same = grind (arith, nat_tests)

    second : n ≡ root + 2 → ⊥
    second same = grind (arith, nat_tests)

reserved_not : (root n : ℕ) → n ≢ root → IsOrdinary root n → is_reserved_inode root n ≡ false
reserved_not root n off (a, b) = neither (n == root) (n == root + 1 || n == root + 2) (other_test n root off) (neither (n == root + 1) (n == root + 2) (other_test n (root + 1) a) (other_test n (root + 2) b))

-- a new lost+found is the directory for orphans, of which there are some
new_reached : (P : ℕ → Type 0) (new : ℕ) (old : Option ℕ) (os : List (ℕ × List ℕ)) → is_new old os ≡ true → (os ≢ [] → P (lost_directory old new)) → P new
new_reached P new old [] e h = cc
new_reached P new None (o ∷ os) e h = h (λ k. some k)
  where
    some : o ∷ os ≡ [] → ⊥
    some k = cc
new_reached P new (Some l) (o ∷ os) e h = cc

module _
    (nodes : List NodeRec)
    (listed : List EntryRec)
    (root new : ℕ)
    (files : List FileRec)
    (entries : List EntryRec)
    (dirs : List DirRec)
    (are_files : AreFiles nodes)
    (are_entries : AreEntries nodes listed)
    (few : length (kept_entries nodes listed root) < 2 ^ 64)
    (dir : is_directory_number nodes root ≡ true)
    (system : (n : ℕ) → is_directory_number nodes n ≡ true → is_reserved_inode root n ≡ true → n ≡ root)
    (unused : is_kept_node nodes new ≡ false)
    (free : is_reserved_inode root new ≡ false)
    (settled : IsSettled nodes listed root new files entries dirs)
  where
    abbrev pub together : List EntryRec
    together = entries_together nodes listed root new

    abbrev pub numbers : List ℕ
    numbers = map (λ (d : DirRec). d.ino) dirs

    abbrev pub group : List EntryRec
    group = by_directory together numbers

    abbrev pub due : ℕ → ℕ
    due n = parent_due nodes listed root new n

    numbers_once : AreOnce numbers
    numbers_once = subst AreOnce (sym settled.named.directories) (ascend_once 0 (map (λ (f : FileRec). f.ino) (filter is_directory_file files)) (picked is_directory_file 0 files settled.named.files_ascend))

    in_numbers : (n : ℕ) → has_node n numbers ≡ is_directory_at files n
    in_numbers n = ap (has_node n) settled.named.directories ∙ has_directories n files

    node_directory : (n : ℕ) → is_directory_number nodes n ≡ true → is_directory_at files n ≡ true
    node_directory n h = settled.files_are.directory n ∙ ap (λ t. t || (adds_lost nodes listed root && n == new)) h

    new_directory : adds_lost nodes listed root ≡ true → is_directory_at files new ≡ true
    new_directory added = settled.files_are.directory new ∙ or_true (is_directory_number nodes new) (adds_lost nodes listed root && new == new) (both (adds_lost nodes listed root) (new == new) added (same_test new new refl))

    lost_known : (o : Option ℕ) → old_lost nodes listed root ≡ o → (os : List (ℕ × List ℕ)) → orphans_of nodes listed root ≡ os → All (λ (x : ℕ × List ℕ). has_node (lost_directory o new) numbers ≡ true) os
    lost_known o e [] k = All-nil (λ (x : ℕ × List ℕ). has_node (lost_directory o new) numbers ≡ true)
    lost_known None e (x ∷ os) k = λ i d m. in_numbers new ∙ new_directory (ap (λ o. is_new o (orphans_of nodes listed root)) e ∙ ap (is_new None) k)
    lost_known (Some l) e (x ∷ os) k = λ i d m. in_numbers l ∙ node_directory l (found_directory nodes root l (kept_entries nodes listed root) e)

    -- entries are of directories that have a record
    dirs_known : All (λ (e : EntryRec). has_node e.dir numbers ≡ true) together
    dirs_known = together_all (λ (e : EntryRec). has_node e.dir numbers ≡ true) nodes listed root new
        (All-weaker (λ (e : EntryRec). is_directory_number nodes e.dir ≡ true) (λ (e : EntryRec). has_node e.dir numbers ≡ true) (λ e h. in_numbers e.dir ∙ node_directory e.dir h) (kept_entries nodes listed root)
        (all_kept (λ (e : EntryRec). is_directory_number nodes e.dir ≡ true) nodes listed root are_entries.known))
        (lost_known (old_lost nodes listed root) refl (orphans_of nodes listed root) refl)
        (λ added. in_numbers root ∙ node_directory root dir)

    -- each directory but the root has one name, in its parent
    named_due : (n : ℕ) → is_directory_at files n ≡ true → n ≢ root → IsNamedOnce together n (due n)
    named_due n d other = either (is_directory_number nodes n) refl (sym (settled.files_are.directory n) ∙ d)
      where
        off : is_directory_number nodes n ≡ true → (n == new) ≡ false
        off k = other_test n new (λ same. clash (sym unused ∙ ap (is_kept_node nodes) (sym same) ∙ directory_kept nodes n k))

        either : (t : Bool) → is_directory_number nodes n ≡ t → (t || (adds_lost nodes listed root && n == new)) ≡ true → IsNamedOnce together n (due n)
        either true k h = subst (λ t. IsNamedOnce together n (if t then root else parent_together nodes listed root new n)) (sym (off k)) (directory_once nodes listed root new are_files dir unused n k other)
        either false k h =
            let same : n ≡ new = test_same n new (second_of_both (adds_lost nodes listed root) (n == new) h) in
            subst (λ m. IsNamedOnce together m (due m)) (sym same)
            (subst (λ t. IsNamedOnce together new (if t then root else parent_together nodes listed root new new)) (sym (same_test new new refl))
            (lost_once nodes listed root new are_files dir unused (first_of_both (adds_lost nodes listed root) (n == new) h)))

    way_due : (d i : ℕ) → has_way together d i ≡ true → has_way entries d i ≡ true
    way_due d i h = way_untyped entries group settled.entries_are.same d i ∙ way_by together numbers d i ∙ both (has_node d numbers) (has_way together d i) (way_dir numbers together d i dirs_known h) h

    carry : (Q : ℕ → List ℕ → ℕ → Type 0) → All (λ (e : EntryRec). Q e.dir e.name e.ino) together → All (λ (e : EntryRec). Q e.dir e.name e.ino) entries
    carry Q h = all_untyped entries group settled.entries_are.same Q (all_by (λ (e : EntryRec). Q e.dir e.name e.ino) together numbers h)

    once_due : (n : ℕ) → is_directory_at files n ≡ true → n ≢ root → length (entries_to entries n) ≡ 1
    once_due n d other = as_many_untyped entries group settled.entries_are.same n ∙ ap (λ (es : List EntryRec). length es) (once_by together n (due n) numbers named numbers_once (way_dir numbers together (due n) n dirs_known (one_way together n (due n) named.0 named.1 named.2))).1
      where
        named : IsNamedOnce together n (due n)
        named = named_due n d other

    -- the record of a directory
    record_due : (n : ℕ) → is_directory_at files n ≡ true → Any (λ (d : DirRec). (d.ino ≡ n) × (d.parent ≡ due n)) dirs
    record_due n h = told (Any-from_list_any (λ (d : DirRec). d.ino == n) dirs (sym (any_through (λ (d : DirRec). d.ino) (λ z. z == n) dirs) ∙ in_numbers n ∙ h))
      where
        told : Any (λ (d : DirRec). (d.ino == n) ≡ true) dirs → Any (λ (d : DirRec). (d.ino ≡ n) × (d.parent ≡ due n)) dirs
        told (k, d, l, is, t) = (k, d, l, is, (test_same d.ino n t, subst (λ (x : DirRec). x.parent ≡ due x.ino) is (settled.directories_are.parents k d l) ∙ ap due (test_same d.ino n t)))

    ordinary_due : All (λ (e : EntryRec). is_reserved_inode root e.ino ≡ false) together
    ordinary_due = together_ordinary nodes listed root new system free

    parent_told : All (λ (e : EntryRec). is_directory_at files e.ino ≡ true → e.dir ≡ due e.ino) together
    parent_told k d l h = told (slice_index_or together k d).ino (named_due (slice_index_or together k d).ino h (not_root root (slice_index_or together k d).ino (ordinary_due k d l))) refl
      where
        told : (n : ℕ) → IsNamedOnce together n (due n) → (slice_index_or together k d).ino ≡ n → (slice_index_or together k d).dir ≡ due n
        told n named same = one_dir together n named.0 named.1 k d l same ∙ named.2

    pub by_parent_due : All (λ (e : EntryRec). is_directory_at files e.ino ≡ true → Any (λ (d : DirRec). (d.ino ≡ e.ino) × (d.parent ≡ e.dir)) dirs) entries
    by_parent_due = carry (λ d q n. is_directory_at files n ≡ true → Any (λ (x : DirRec). (x.ino ≡ n) × (x.parent ≡ d)) dirs)
        (All-weaker (λ (e : EntryRec). is_directory_at files e.ino ≡ true → e.dir ≡ due e.ino) (λ (e : EntryRec). is_directory_at files e.ino ≡ true → Any (λ (x : DirRec). (x.ino ≡ e.ino) × (x.parent ≡ e.dir)) dirs)
        (λ e told h. subst (λ p. Any (λ (x : DirRec). (x.ino ≡ e.ino) × (x.parent ≡ p)) dirs) (sym (told h)) (record_due e.ino h)) together parent_told)

    pub root_directory_due : Any (λ (f : FileRec). (f.ino ≡ root) × IsDirectory f) files
    root_directory_due = any_file (λ (f : FileRec). (f.ino == root && is_directory_file f) ≡ true) (λ (f : FileRec). (f.ino ≡ root) × IsDirectory f) files
        (λ f h. (test_same f.ino root (first_of_both (f.ino == root) (is_directory_file f) h), test_same (type_of f) 4 (second_of_both (f.ino == root) (is_directory_file f) h)))
        (Any-from_list_any (λ (f : FileRec). f.ino == root && is_directory_file f) files (node_directory root dir))

    pub root_unnamed_due : All (λ (e : EntryRec). e.ino ≢ root) entries
    root_unnamed_due = carry (λ d q n. n ≢ root) (All-weaker (λ (e : EntryRec). is_reserved_inode root e.ino ≡ false) (λ (e : EntryRec). e.ino ≢ root) (λ e h. not_root root e.ino h) together ordinary_due)

    root_own : due root ≡ root
    root_own = ap (λ t. if t then root else parent_together nodes listed root new root) (other_test root new (λ same. clash (sym unused ∙ ap (is_kept_node nodes) (sym same) ∙ directory_kept nodes root dir)))
        ∙ ap (λ o. unwrap_or o (lost_directory (old_lost nodes listed root) new)) (root_parent nodes listed root)

    pub root_parent_due : Any (λ (d : DirRec). (d.ino ≡ root) × (d.parent ≡ root)) dirs
    root_parent_due = subst (λ p. Any (λ (d : DirRec). (d.ino ≡ root) × (d.parent ≡ p)) dirs) root_own (record_due root (node_directory root dir))

    -- each record is that of a directory
    dir_known : All (λ (d : DirRec). is_directory_at files d.ino ≡ true) dirs
    dir_known k d l = sym (in_numbers (slice_index_or dirs k d).ino) ∙ any_through (λ (x : DirRec). x.ino) (λ z. z == (slice_index_or dirs k d).ino) dirs
        ∙ list_any_at (λ (x : DirRec). x.ino == (slice_index_or dirs k d).ino) dirs k d l (same_test (slice_index_or dirs k d).ino (slice_index_or dirs k d).ino refl)

    pub all_once_due : All (λ (d : DirRec). d.ino ≢ root → length (entries_to entries d.ino) ≡ 1) dirs
    all_once_due = All-weaker (λ (d : DirRec). is_directory_at files d.ino ≡ true) (λ (d : DirRec). d.ino ≢ root → length (entries_to entries d.ino) ≡ 1) (λ d h other. once_due d.ino h other) dirs dir_known

    reached_due : (n : ℕ) → is_directory_at files n ≡ true → IsReached entries root n
    reached_due n d = reached_through entries way_due (either (is_directory_number nodes n) refl (sym (settled.files_are.directory n) ∙ d))
      where
        either : (t : Bool) → is_directory_number nodes n ≡ t → (t || (adds_lost nodes listed root && n == new)) ≡ true → IsReached together root n
        either true k h = directories_reached nodes listed root new dir n k
        either false k h = subst (λ m. IsReached together root m) (sym (test_same n new (second_of_both (adds_lost nodes listed root) (n == new) h)))
            (new_reached (λ m. IsReached together root m) new (old_lost nodes listed root) (orphans_of nodes listed root) (first_of_both (adds_lost nodes listed root) (n == new) h) (λ some. found_reached nodes listed root new dir some))

    pub all_reached_due : All (λ (d : DirRec). IsReached entries root d.ino) dirs
    all_reached_due = All-weaker (λ (d : DirRec). is_directory_at files d.ino ≡ true) (λ (d : DirRec). IsReached entries root d.ino) (λ d h. reached_due d.ino h) dirs dir_known

    named_file : (f : FileRec) → is_directory_at files f.ino ≡ is_directory_file f → is_in_use files f.ino ≡ true → IsOther f → IsOrdinary root f.ino → Any (λ (e : EntryRec). e.ino ≡ f.ino) entries
    named_file f told used other plain = way_names entries named.0 f.ino (way_due named.0 f.ino named.1)
      where
        no : is_directory_at files f.ino ≡ false
        no = told ∙ other_test (type_of f) 4 other

        parts : (is_directory_number nodes f.ino || (adds_lost nodes listed root && f.ino == new)) ≡ false
        parts = sym (settled.files_are.directory f.ino) ∙ no

        kept : is_kept_node nodes f.ino ≡ true
        kept = the_first (is_kept_node nodes f.ino) (adds_lost nodes listed root && f.ino == new) (not_second (is_directory_number nodes f.ino) (adds_lost nodes listed root && f.ino == new) parts) (sym (settled.files_are.in_use f.ino) ∙ used)
          where
            the_first : (p q : Bool) → q ≡ false → (p || q) ≡ true → p ≡ true
            the_first p q e k = grind (arith, nat_tests)

        off : f.ino ≢ root
        off same = clash (sym no ∙ ap (is_directory_at files) same ∙ node_directory root dir)

        named : (d : ℕ) × (has_way together d f.ino ≡ true)
        named = named_way together f.ino (other_named nodes listed root new are_files dir unused f.ino kept (not_first (is_directory_number nodes f.ino) (adds_lost nodes listed root && f.ino == new) parts) (reserved_not root f.ino off plain))

    pub all_named_due : All (λ (f : FileRec). IsOther f → IsOrdinary root f.ino → Any (λ (e : EntryRec). e.ino ≡ f.ino) entries) files
    all_named_due k d l = named_file (slice_index_or files k d) (type_told 0 files settled.named.files_ascend k d l)
        (list_any_at (λ (f : FileRec). f.ino == (slice_index_or files k d).ino) files k d l (same_test (slice_index_or files k d).ino (slice_index_or files k d).ino refl))

    -- the entries
    pub valid_due : All (λ (e : EntryRec). is_name e.name ≡ true) entries
    valid_due = carry (λ d q n. is_name q ≡ true) (valid_together nodes listed root new are_files few)

    pub differ_due : AllPairs NamesDiffer entries
    differ_due = pairs_untyped entries group settled.entries_are.same (pairs_by together numbers numbers_once (together_differ nodes listed root new are_files are_entries few dir unused))

    pub in_use_due : All (λ (e : EntryRec). Any (λ (f : FileRec). f.ino ≡ e.ino) files) entries
    in_use_due = carry (λ d q n. Any (λ (f : FileRec). f.ino ≡ n) files)
        (All-weaker (λ (e : EntryRec). (is_kept_node nodes e.ino || (adds_lost nodes listed root && e.ino == new)) ≡ true) (λ (e : EntryRec). Any (λ (f : FileRec). f.ino ≡ e.ino) files)
        (λ e h. any_file (λ (f : FileRec). (f.ino == e.ino) ≡ true) (λ (f : FileRec). f.ino ≡ e.ino) files (λ f k. test_same f.ino e.ino k) (Any-from_list_any (λ (f : FileRec). f.ino == e.ino) files (settled.files_are.in_use e.ino ∙ h)))
        together (together_in_use nodes listed root new))

    pub ordinary_entries_due : All (λ (e : EntryRec). IsOrdinary root e.ino) entries
    ordinary_entries_due = carry (λ d q n. IsOrdinary root n) (All-weaker (λ (e : EntryRec). is_reserved_inode root e.ino ≡ false) (λ (e : EntryRec). IsOrdinary root e.ino) (λ e h. ordinary root e.ino h) together ordinary_due)
