-- A volume that has the names that are wanted keeps the laws of names.
use Rattle.std.proofs.Common.{◌≡◌, ℕ, ◌+◌, ◌<◌, ◌≤◌, ◌==◌, ◌&&◌, ◌||◌, ◌⊎◌, inl, inr, nat_lt, Bool, true, false, cond, List, [], ◌∷◌, length, map, suc, refl, sym, ap, ◌∙◌, arith, subst, if◌then◌else◌, slice_index_or, Any}
use Rattle.std.specs.Prelude.{count_by}
use Rattle.std.specs.List.{All, filter, list_all}
use Rattle.std.proofs.lemmas.Bool.{cases_eq}
use Rattle.std.proofs.lemmas.Bool.Decides.{nat_tests}
use Rattle.std.proofs.lemmas.List.{map-append}
use Rattle.std.proofs.lemmas.List.Elements.{All-nil, All-cons, All-map, All-weaker}
use Rattle.std.proofs.lemmas.List.Folds.{list_any_at}
use Rattle.std.proofs.lemmas.List.Sums.{length-filter}
use Rattle.xfs_collections.specs.Lists.{has_node}
use Rattle.xfs_dirdata.specs.declared.records.EntryRec.{EntryRec}
use Rattle.xfs_volume.specs.declared.directories.DirRec.{DirRec}
use Rattle.xfs_volume.specs.declared.files.FileRec.{FileRec}
use Rattle.xfs_volume.specs.Names.{type_of, is_directory, entry_type}
use Rattle.xfs_naming.specs.Naming.{NumbersAscend, numbers_of, is_in_use, is_directory_at, entries_in, entries_to, AreGrouped, AreNamed}
use Rattle.xfs_naming.specs.Lawful.{IsOrdinary, IsDirectory, IsOther}
use Rattle.xfs_links.specs.declared.records.NodeRec.{NodeRec}
use Rattle.xfs_links.specs.Entries.{NodesAscend, is_kept_node, is_directory_number, is_reserved_inode}
use Rattle.xfs_links.specs.Connected.{directory_numbers}
use Rattle.xfs_links.proofs.Joined.{any_through}
use Rattle.xfs_links.specs.Together.{adds_lost, entries_together}
use Rattle.xfs_links.specs.Settled.{IsSettled, parent_due, untyped, by_directory}
use Rattle.xfs_links.proofs.Ascending.{rises, absent, nodes_ascend as numbers_ascend}
use Rattle.xfs_links.proofs.ByDirectory.{all_by}
use Rattle.xfs_links.proofs.Targets.{together_in_use}
use Rattle.xfs_links.proofs.Tests.{same_test, other_test, the_second, or_false, both, neither, clash}
use Rattle.xfs_names.specs.Wanted.{kind_at, directory_node, with_directory, with_type, wanted_nodes, wanted_entries, link_count, with_links}
use Rattle.xfs_names.specs.Having.{node_of, HasWanted}
use Rattle.xfs_names.proofs.Deciding.{directory_with, nodes_ascend}

turned_test : (a b : ℕ) → (a == b) ≡ (b == a)
turned_test a b = elim (cases_eq a b) [
  | inl same ↦ same_test a b same ∙ sym (same_test b a (sym same))
  | inr other ↦ other_test a b other ∙ sym (other_test b a (λ k. other (sym k)))
]

-- a file with the number, with one directory more
kept_with : (m n : ℕ) (fs : List NodeRec) → is_kept_node (with_directory m fs) n ≡ ((m == n) || is_kept_node fs n)
kept_with m n [] = refl
kept_with m n (f ∷ fs) = either (nat_lt f.ino m) (kept_with m n fs)
  where
    turned : (a b c : Bool) → (a || (b || c)) ≡ (b || (a || c))
    turned a b c = grind (arith, nat_tests)

    either : (t : Bool) → is_kept_node (with_directory m fs) n ≡ ((m == n) || is_kept_node fs n)
        → is_kept_node (cond t (f ∷ with_directory m fs) (directory_node m ∷ f ∷ fs)) n ≡ ((m == n) || ((f.ino == n) || is_kept_node fs n))
    either true r = ap (λ q. (f.ino == n) || q) r ∙ turned (f.ino == n) (m == n) (is_kept_node fs n)
    either false r = refl

-- lists by their items
abbrev first_or : ℕ × ℕ → List (ℕ × ℕ) → ℕ × ℕ
first_or d [] = d
first_or d (x ∷ xs) = x

abbrev behind_first : List (ℕ × ℕ) → List (ℕ × ℕ)
behind_first [] = []
behind_first (x ∷ xs) = xs

abbrev dir_pair : DirRec → ℕ × ℕ
dir_pair d = (d.ino, d.parent)

pair_head : (x y : ℕ × ℕ) (xs ys : List (ℕ × ℕ)) → x ∷ xs ≡ y ∷ ys → x ≡ y
pair_head x y xs ys e = ap (first_or (0, 0)) e

pair_tail : (x y : ℕ × ℕ) (xs ys : List (ℕ × ℕ)) → x ∷ xs ≡ y ∷ ys → xs ≡ ys
pair_tail x y xs ys e = ap behind_first e

not_empty : (x : ℕ × ℕ) (xs : List (ℕ × ℕ)) → x ∷ xs ≡ [] → ⊥
not_empty x xs e = cc

parents_told : (f : ℕ → ℕ) (dirs : List DirRec) (ns : List ℕ) → map dir_pair dirs ≡ map (λ n. (n, f n)) ns → All (λ (d : DirRec). d.parent ≡ f d.ino) dirs
parents_told f [] ns e = All-nil (λ (d : DirRec). d.parent ≡ f d.ino)
parents_told f (d ∷ ds) [] e = absurd (not_empty (d.ino, d.parent) (map dir_pair ds) e)
parents_told f (d ∷ ds) (n ∷ ns) e =
    let p = pair_head (d.ino, d.parent) (n, f n) (map dir_pair ds) (map (λ n. (n, f n)) ns) e in
    All-cons (λ (d : DirRec). d.parent ≡ f d.ino) d ds (ap (λ (x : ℕ × ℕ). x.1) p ∙ sym (ap (λ (x : ℕ × ℕ). f x.0) p))
    (parents_told f ds ns (pair_tail (d.ino, d.parent) (n, f n) (map dir_pair ds) (map (λ n. (n, f n)) ns) e))

numbers_told : (f : ℕ → ℕ) (dirs : List DirRec) (ns : List ℕ) → map dir_pair dirs ≡ map (λ n. (n, f n)) ns → map (λ (d : DirRec). d.ino) dirs ≡ ns
numbers_told f [] [] e = refl
numbers_told f [] (n ∷ ns) e = absurd (not_empty (n, f n) (map (λ n. (n, f n)) ns) (sym e))
numbers_told f (d ∷ ds) [] e = absurd (not_empty (d.ino, d.parent) (map dir_pair ds) e)
numbers_told f (d ∷ ds) (n ∷ ns) e =
    let p = pair_head (d.ino, d.parent) (n, f n) (map dir_pair ds) (map (λ n. (n, f n)) ns) e in
    ap (λ (x : ℕ × ℕ). x.0 ∷ map (λ (d : DirRec). d.ino) ds) p
    ∙ ap (λ xs. n ∷ xs) (numbers_told f ds ns (pair_tail (d.ino, d.parent) (n, f n) (map dir_pair ds) (map (λ n. (n, f n)) ns) e))

abbrev link_pair : FileRec → ℕ × ℕ
link_pair f = (f.ino, f.core.nlink)

links_told : (g : NodeRec → ℕ × ℕ) (files : List FileRec) → map link_pair files ≡ map g (map node_of files) → All (λ (f : FileRec). f.core.nlink ≡ (g (node_of f)).1) files
links_told g [] e = All-nil (λ (f : FileRec). f.core.nlink ≡ (g (node_of f)).1)
links_told g (f ∷ fs) e = All-cons (λ (f : FileRec). f.core.nlink ≡ (g (node_of f)).1) f fs
    (ap (λ (x : ℕ × ℕ). x.1) (pair_head (link_pair f) (g (node_of f)) (map link_pair fs) (map g (map node_of fs)) e))
    (links_told g fs (pair_tail (link_pair f) (g (node_of f)) (map link_pair fs) (map g (map node_of fs)) e))

-- files by number and kind
numbers_node : (files : List FileRec) → map (λ (g : NodeRec). g.ino) (map node_of files) ≡ numbers_of files
numbers_node [] = refl
numbers_node (f ∷ fs) = ap (λ xs. f.ino ∷ xs) (numbers_node fs)

directories_node : (files : List FileRec) → directory_numbers (map node_of files) ≡ map (λ (f : FileRec). f.ino) (filter is_directory files)
directories_node [] = refl
directories_node (f ∷ fs) = either (is_directory f) (directories_node fs)
  where
    either : (t : Bool) → directory_numbers (map node_of fs) ≡ map (λ (f : FileRec). f.ino) (filter is_directory fs)
        → map (λ (g : NodeRec). g.ino) (cond t (node_of f ∷ filter (λ (g : NodeRec). g.kind == 4) (map node_of fs)) (filter (λ (g : NodeRec). g.kind == 4) (map node_of fs))) ≡ map (λ (f : FileRec). f.ino) (cond t (f ∷ filter is_directory fs) (filter is_directory fs))
    either true r = ap (λ xs. f.ino ∷ xs) r
    either false r = r

kind_found : (files : List FileRec) (n : ℕ) → is_in_use files n ≡ true → Any (λ (f : FileRec). (f.ino ≡ n) × (kind_at (map node_of files) n ≡ type_of f)) files
kind_found [] n h = cc
kind_found (f ∷ fs) n h = elim (cases_eq f.ino n) [
  | inl same ↦ here same
  | inr other ↦ there other (kind_found fs n (the_second (f.ino == n) (is_in_use fs n) (other_test f.ino n other) h))
]
  where
    here : f.ino ≡ n → Any (λ (g : FileRec). (g.ino ≡ n) × (kind_at (map node_of (f ∷ fs)) n ≡ type_of g)) (f ∷ fs)
    here same = (0, f, omega arith, refl, (same, ap (λ t. cond t (type_of f) (kind_at (map node_of fs) n)) (same_test f.ino n same)))

    there : (f.ino ≡ n → ⊥) → Any (λ (g : FileRec). (g.ino ≡ n) × (kind_at (map node_of fs) n ≡ type_of g)) fs → Any (λ (g : FileRec). (g.ino ≡ n) × (kind_at (map node_of (f ∷ fs)) n ≡ type_of g)) (f ∷ fs)
    there other (k, g, l, is, (a, b)) = (suc k, g, omega arith, is, (a, ap (λ t. cond t (type_of f) (kind_at (map node_of fs) n)) (other_test f.ino n other) ∙ b))

-- a file tells whether its number is that of a directory
directory_in : (n : ℕ) (fs : List FileRec) → is_directory_at fs n ≡ true → has_node n (numbers_of fs) ≡ true
directory_in n [] h = cc
directory_in n (f ∷ fs) h = either (f.ino == n) (is_directory f) h (directory_in n fs)
  where
    either : (p q : Bool) → ((p && q) || is_directory_at fs n) ≡ true → (is_directory_at fs n ≡ true → has_node n (numbers_of fs) ≡ true) → (p || has_node n (numbers_of fs)) ≡ true
    either true q k r = refl
    either false q k r = r k

type_told : (low : ℕ) (fs : List FileRec) → NumbersAscend low (numbers_of fs) → All (λ (f : FileRec). is_directory_at fs f.ino ≡ is_directory f) fs
type_told low [] h = All-nil (λ (f : FileRec). is_directory_at [] f.ino ≡ is_directory f)
type_told low (f ∷ fs) h = All-cons (λ (g : FileRec). is_directory_at (f ∷ fs) g.ino ≡ is_directory g) f fs
    (ap (λ t. (t && is_directory f) || is_directory_at fs f.ino) (same_test f.ino f.ino refl) ∙ ap (λ t. is_directory f || t) (none (is_directory_at fs f.ino) refl) ∙ or_false (is_directory f))
    (All-weaker (λ (g : FileRec). (is_directory_at fs g.ino ≡ is_directory g) × (has_node g.ino (numbers_of fs) ≡ true)) (λ (g : FileRec). is_directory_at (f ∷ fs) g.ino ≡ is_directory g)
    (λ g k. ap (λ t. (t && is_directory f) || is_directory_at fs g.ino) (off g k.1) ∙ k.0) fs
    (λ k d l. (type_told (f.ino + 1) fs h.1 k d l, inside k d l)))
  where
    off : (g : FileRec) → has_node g.ino (numbers_of fs) ≡ true → (f.ino == g.ino) ≡ false
    off g k = let up : f.ino + 1 ≤ g.ino = rises (f.ino + 1) g.ino (numbers_of fs) h.1 k in grind (arith, nat_tests)

    inside : (k : ℕ) (d : FileRec) → k < length fs → has_node (slice_index_or fs k d).ino (numbers_of fs) ≡ true
    inside k d l = any_through (λ (f : FileRec). f.ino) (λ z. z == (slice_index_or fs k d).ino) fs ∙ list_any_at (λ (f : FileRec). f.ino == (slice_index_or fs k d).ino) fs k d l (same_test (slice_index_or fs k d).ino (slice_index_or fs k d).ino refl)

    none : (t : Bool) → is_directory_at fs f.ino ≡ t → t ≡ false
    none true e = clash (sym (absent f.ino (numbers_of fs) h.1) ∙ directory_in f.ino fs e)
    none false e = refl

-- entries whose types are set
untyped_typed : (nodes : List NodeRec) (es : List EntryRec) → map untyped (map (with_type nodes) es) ≡ map untyped es
untyped_typed nodes [] = refl
untyped_typed nodes (e ∷ es) = ap (λ xs. untyped e ∷ xs) (untyped_typed nodes es)

own_dir : (nodes : List NodeRec) (n : ℕ) (es : List EntryRec) → list_all (λ (e : EntryRec). e.dir == n) (map (with_type nodes) (entries_in es n)) ≡ true
own_dir nodes n [] = refl
own_dir nodes n (e ∷ es) = either (e.dir == n) refl (own_dir nodes n es)
  where
    either : (t : Bool) → (e.dir == n) ≡ t → list_all (λ (e : EntryRec). e.dir == n) (map (with_type nodes) (entries_in es n)) ≡ true
        → list_all (λ (e : EntryRec). e.dir == n) (map (with_type nodes) (cond t (e ∷ entries_in es n) (entries_in es n))) ≡ true
    either true k r = both (e.dir == n) (list_all (λ (e : EntryRec). e.dir == n) (map (with_type nodes) (entries_in es n))) k r
    either false k r = r

grouped_by : (nodes : List NodeRec) (es : List EntryRec) (dirs : List DirRec) → AreGrouped dirs (map (with_type nodes) (by_directory es (map (λ (d : DirRec). d.ino) dirs)))
grouped_by nodes es [] = refl
grouped_by nodes es (d ∷ ds) = (
  map (with_type nodes) (entries_in es d.ino),
  map (with_type nodes) (by_directory es (map (λ (d : DirRec). d.ino) ds)),
  map-append (with_type nodes) (entries_in es d.ino) (by_directory es (map (λ (d : DirRec). d.ino) ds)),
  own_dir nodes d.ino es,
  grouped_by nodes es ds,
)

module _
    (nodes : List NodeRec)
    (listed : List EntryRec)
    (root new : ℕ)
    (files : List FileRec)
    (entries : List EntryRec)
    (dirs : List DirRec)
    (up : NodesAscend 0 nodes)
    (unused : is_kept_node nodes new ≡ false)
    (entries_are : entries ≡ wanted_entries nodes listed root new)
    (w : HasWanted nodes listed root new files dirs)
  where
    in_use : (n : ℕ) → is_in_use files n ≡ (is_kept_node nodes n || (adds_lost nodes listed root && n == new))
    in_use n = sym (any_through node_of (λ (g : NodeRec). g.ino == n) files) ∙ ap (λ fs. is_kept_node fs n) w.files_are ∙ either (adds_lost nodes listed root)
      where
        swapped : (p q : Bool) → (p || q) ≡ (q || (true && p))
        swapped p q = grind (arith, nat_tests)

        alone : (p q : Bool) → q ≡ (q || (false && p))
        alone p q = grind (arith, nat_tests)

        either : (t : Bool) → is_kept_node (if t then with_directory new nodes else nodes) n ≡ (is_kept_node nodes n || (t && n == new))
        either true = kept_with new n nodes ∙ ap (λ q. q || is_kept_node nodes n) (turned_test new n) ∙ swapped (n == new) (is_kept_node nodes n)
        either false = alone (n == new) (is_kept_node nodes n)

    dirs_same : (n : ℕ) → is_directory_number (wanted_nodes nodes listed root new) n ≡ is_directory_at files n
    dirs_same n = ap (λ fs. is_directory_number fs n) (sym w.files_are) ∙ any_through node_of (λ (g : NodeRec). g.ino == n && g.kind == 4) files

    directory : (n : ℕ) → is_directory_at files n ≡ (is_directory_number nodes n || (adds_lost nodes listed root && n == new))
    directory n = sym (dirs_same n) ∙ either (adds_lost nodes listed root)
      where
        swapped : (p q : Bool) → (p || q) ≡ (q || (true && p))
        swapped p q = grind (arith, nat_tests)

        alone : (p q : Bool) → q ≡ (q || (false && p))
        alone p q = grind (arith, nat_tests)

        either : (t : Bool) → is_directory_number (if t then with_directory new nodes else nodes) n ≡ (is_directory_number nodes n || (t && n == new))
        either true = directory_with new n nodes ∙ ap (λ q. q || is_directory_number nodes n) (turned_test new n) ∙ swapped (n == new) (is_directory_number nodes n)
        either false = alone (n == new) (is_directory_number nodes n)

    numbers : map (λ (d : DirRec). d.ino) dirs ≡ directory_numbers (wanted_nodes nodes listed root new)
    numbers = numbers_told (parent_due nodes listed root new) dirs (directory_numbers (wanted_nodes nodes listed root new)) w.dirs_are

    by_dirs : entries ≡ map (with_type (wanted_nodes nodes listed root new)) (by_directory (entries_together nodes listed root new) (map (λ (d : DirRec). d.ino) dirs))
    by_dirs = entries_are ∙ ap (λ ds. map (with_type (wanted_nodes nodes listed root new)) (by_directory (entries_together nodes listed root new) ds)) (sym numbers)

    files_ascend : NumbersAscend 0 (numbers_of files)
    files_ascend = subst (NumbersAscend 0) (ap (λ fs. map (λ (g : NodeRec). g.ino) fs) (sym w.files_are) ∙ numbers_node files)
        (numbers_ascend 0 (wanted_nodes nodes listed root new) (nodes_ascend nodes listed root new up unused))

    named : AreNamed files entries dirs
    named = record {
      files_ascend = files_ascend;
      directories = numbers ∙ ap (λ fs. directory_numbers fs) (sym w.files_are) ∙ directories_node files;
      grouped = subst (AreGrouped dirs) (sym by_dirs) (grouped_by (wanted_nodes nodes listed root new) (entries_together nodes listed root new) dirs);
    }

    pub settled : IsSettled nodes listed root new files entries dirs
    settled = record {
      files_are = record { in_use = in_use; directory = directory };
      directories_are = record { whole = w.whole; parents = parents_told (parent_due nodes listed root new) dirs (directory_numbers (wanted_nodes nodes listed root new)) w.dirs_are };
      entries_are = record { same = ap (λ es. map untyped es) by_dirs ∙ untyped_typed (wanted_nodes nodes listed root new) (by_directory (entries_together nodes listed root new) (map (λ (d : DirRec). d.ino) dirs)) };
      named = named;
    }

    kind_is : (n : ℕ) → is_in_use files n ≡ true → Any (λ (f : FileRec). (f.ino ≡ n) × (entry_type (kind_at (wanted_nodes nodes listed root new) n) ≡ entry_type (type_of f))) files
    kind_is n h = turned (kind_found files n h)
      where
        turned : Any (λ (f : FileRec). (f.ino ≡ n) × (kind_at (map node_of files) n ≡ type_of f)) files
            → Any (λ (f : FileRec). (f.ino ≡ n) × (entry_type (kind_at (wanted_nodes nodes listed root new) n) ≡ entry_type (type_of f))) files
        turned (k, f, l, is, (a, b)) = (k, f, l, is, (a, ap entry_type (ap (λ fs. kind_at fs n) (sym w.files_are) ∙ b)))

    -- an entry states the type of a file with its number
    abbrev IsTyped : EntryRec → Type 0
    IsTyped e = (e.ftype ≡ 0) ⊎ Any (λ (f : FileRec). (f.ino ≡ e.ino) × (e.ftype ≡ entry_type (type_of f))) files

    pub types : All IsTyped entries
    types = subst (All IsTyped) (sym by_dirs)
        (All-map IsTyped (with_type (wanted_nodes nodes listed root new)) (by_directory (entries_together nodes listed root new) (map (λ (d : DirRec). d.ino) dirs))
        (all_by (λ (e : EntryRec). IsTyped (with_type (wanted_nodes nodes listed root new) e)) (entries_together nodes listed root new) (map (λ (d : DirRec). d.ino) dirs)
        (All-weaker (λ (e : EntryRec). (is_kept_node nodes e.ino || (adds_lost nodes listed root && e.ino == new)) ≡ true) (λ (e : EntryRec). IsTyped (with_type (wanted_nodes nodes listed root new) e))
        (λ e h. inr (kind_is e.ino (in_use e.ino ∙ h))) (entries_together nodes listed root new) (together_in_use nodes listed root new))))

    nlinks : All (λ (f : FileRec). f.core.nlink ≡ link_count (wanted_nodes nodes listed root new) (wanted_entries nodes listed root new) root (node_of f)) files
    nlinks = links_told (with_links (wanted_nodes nodes listed root new) (wanted_entries nodes listed root new) root) files
        (w.links_are ∙ ap (λ fs. map (with_links (wanted_nodes nodes listed root new) (wanted_entries nodes listed root new) root) fs) (sym w.files_are))

    pub directory_links : All (λ (f : FileRec). IsDirectory f → f.core.nlink ≡ 2 + count_by (λ (e : EntryRec). is_directory_at files e.ino) (entries_in entries f.ino)) files
    directory_links = All-weaker (λ (f : FileRec). f.core.nlink ≡ link_count (wanted_nodes nodes listed root new) (wanted_entries nodes listed root new) root (node_of f))
        (λ (f : FileRec). IsDirectory f → f.core.nlink ≡ 2 + count_by (λ (e : EntryRec). is_directory_at files e.ino) (entries_in entries f.ino)) told files nlinks
      where
        counted : (n : ℕ) → length (filter (λ (e : EntryRec). is_directory_number (wanted_nodes nodes listed root new) e.ino) (entries_in (wanted_entries nodes listed root new) n)) ≡ count_by (λ (e : EntryRec). is_directory_at files e.ino) (entries_in entries n)
        counted n = length-filter (λ (e : EntryRec). is_directory_number (wanted_nodes nodes listed root new) e.ino) (entries_in (wanted_entries nodes listed root new) n)
            ∙ (λ i. count_by (λ (e : EntryRec). dirs_same e.ino i) (entries_in (sym entries_are i) n))

        told : (f : FileRec) → f.core.nlink ≡ link_count (wanted_nodes nodes listed root new) (wanted_entries nodes listed root new) root (node_of f)
            → IsDirectory f → f.core.nlink ≡ 2 + count_by (λ (e : EntryRec). is_directory_at files e.ino) (entries_in entries f.ino)
        told f e dir = e
            ∙ ap (λ t. if t then 2 + length (filter (λ (e : EntryRec). is_directory_number (wanted_nodes nodes listed root new) e.ino) (entries_in (wanted_entries nodes listed root new) f.ino))
            else (if is_reserved_inode root f.ino then 1 else length (entries_to (wanted_entries nodes listed root new) f.ino))) (same_test (type_of f) 4 dir)
            ∙ ap (λ m. 2 + m) (counted f.ino)

    root_is : is_directory_number nodes root ≡ true → is_directory_at files root ≡ true
    root_is dir = directory root ∙ ap (λ t. t || (adds_lost nodes listed root && root == new)) dir

    pub other_links : is_directory_number nodes root ≡ true → All (λ (f : FileRec). IsOther f → IsOrdinary root f.ino → f.core.nlink ≡ length (entries_to entries f.ino)) files
    other_links dir = All-weaker
        (λ (f : FileRec). (f.core.nlink ≡ link_count (wanted_nodes nodes listed root new) (wanted_entries nodes listed root new) root (node_of f)) × (is_directory_at files f.ino ≡ is_directory f))
        (λ (f : FileRec). IsOther f → IsOrdinary root f.ino → f.core.nlink ≡ length (entries_to entries f.ino)) told files
        (λ k d l. (nlinks k d l, type_told 0 files files_ascend k d l))
      where
        off_root : (f : FileRec) → is_directory_at files f.ino ≡ is_directory f → IsOther f → f.ino ≡ root → ⊥
        off_root f t other same = clash (sym (other_test (type_of f) 4 other) ∙ sym t ∙ ap (is_directory_at files) same ∙ root_is dir)

        told : (f : FileRec) → (f.core.nlink ≡ link_count (wanted_nodes nodes listed root new) (wanted_entries nodes listed root new) root (node_of f)) × (is_directory_at files f.ino ≡ is_directory f)
            → IsOther f → IsOrdinary root f.ino → f.core.nlink ≡ length (entries_to entries f.ino)
        told f (e, t) other (a, b) = e
            ∙ ap (λ t. if t then 2 + length (filter (λ (e : EntryRec). is_directory_number (wanted_nodes nodes listed root new) e.ino) (entries_in (wanted_entries nodes listed root new) f.ino))
            else (if is_reserved_inode root f.ino then 1 else length (entries_to (wanted_entries nodes listed root new) f.ino))) (other_test (type_of f) 4 other)
            ∙ ap (λ t. if t then 1 else length (entries_to (wanted_entries nodes listed root new) f.ino))
            (neither (f.ino == root) (f.ino == root + 1 || f.ino == root + 2) (other_test f.ino root (off_root f t other)) (neither (f.ino == root + 1) (f.ino == root + 2) (other_test f.ino (root + 1) a) (other_test f.ino (root + 2) b)))
            ∙ ap (λ es. length (entries_to es f.ino)) (sym entries_are)
