-- Directories can be built of the names that are wanted.
use Rattle.std.proofs.Common.{◌≡◌, ℕ, ◌+◌, ◌<◌, ◌≤◌, ◌==◌, ◌&&◌, ◌||◌, ◌^◌, inl, inr, nat_le, nat_lt, not, Bool, true, false, List, [], ◌∷◌, length, map, refl, sym, ap, ◌∙◌, arith, subst, Option, None, Some, unwrap_or, if◌then◌else◌, slice_index, slice_index_or}
use Rattle.std.specs.List.{All, filter, list_any}
use Rattle.std.specs.List.Sorted.{IsNonDecreasingBy}
use Rattle.std.proofs.lemmas.Bool.{and_parts, eqb-true, cases_eq, true≢false}
use Rattle.std.proofs.lemmas.Bool.Decides.{nat_tests}
use Rattle.std.proofs.lemmas.List.Elements.{All-cons, All-head, All-tail, All-map, All-filter, All-weaker}
use Rattle.xfs_dirdata.specs.declared.records.EntryRec.{EntryRec}
use Rattle.xfs_dirdata.specs.Written.{IsWritableEntry}
use Rattle.xfs_dirindex.specs.Data.{is_self, is_parent_name, is_dots, have_no_dots}
use Rattle.xfs_volume.specs.declared.directories.DirRec.{DirRec}
use Rattle.xfs_volume.specs.Names.{is_name}
use Rattle.xfs_naming.specs.Naming.{NumbersAscend}
use Rattle.xfs_links.specs.declared.records.NodeRec.{NodeRec}
use Rattle.xfs_links.specs.Entries.{AreFiles, AreEntries, is_kept_node, is_directory_number}
use Rattle.xfs_links.specs.Walk.{attached_parent}
use Rattle.xfs_links.specs.Connected.{directory_numbers, attached_directories, kept_entries}
use Rattle.xfs_links.specs.Hanging.{IsNamedOnce}
use Rattle.xfs_links.specs.Together.{lost_directory, old_lost, adds_lost, entries_together}
use Rattle.xfs_links.specs.Settled.{by_directory, parent_due}
use Rattle.xfs_links.proofs.ByDirectory.{all_by}
use Rattle.xfs_links.proofs.Different.{all_kept}
use Rattle.xfs_links.proofs.Hung.{root_parent}
use Rattle.xfs_links.proofs.Lost.{directory_kept}
use Rattle.xfs_links.proofs.Naming.{named_once}
use Rattle.xfs_links.proofs.Targets.{together_valid, together_in_use}
use Rattle.xfs_links.proofs.Tests.{other_test, the_second, neither, second_of_both}
use Rattle.xfs_names.specs.declared.records.WantedNames.{WantedNames}
use Rattle.xfs_names.specs.Wanted.{directory_node, with_directory, with_type, wanted_nodes, wanted_entries, with_parent, wanted_parents}
use Rattle.xfs_names.specs.Rebuilt.{is_rebuilt, wanted_rebuilt}
use Rattle.xfs_names.specs.Pairs.{PairsAscend}
use Rattle.xfs_names.specs.Built.{CanBeBuilt}
use Rattle.xfs_names.proofs.ByNumber.{directories_ascend}
use Rattle.xfs_names.proofs.Deciding.{nodes_ascend, found_directory}

-- the names "." and ".." are none that a file can have
self_barred : is_name (46 ∷ []) ≡ false
unfolding is_name
self_barred = refl

parent_barred : is_name (46 ∷ 46 ∷ []) ≡ false
unfolding is_name
parent_barred = refl

self_says : (name : List ℕ) → is_self name ≡ true → name ≡ 46 ∷ []
unfolding is_self
self_says [] is = absurd (true≢false (sym is))
self_says (x ∷ []) is = ap (λ (y : ℕ). y ∷ []) (eqb-true x 46 (and_parts (length (x ∷ []) == 1) (slice_index (x ∷ []) 0 == 46) is).1)
self_says (x ∷ y ∷ ys) is =
    let long = eqb-true (length (x ∷ y ∷ ys)) 1 (and_parts (length (x ∷ y ∷ ys) == 1) (slice_index (x ∷ y ∷ ys) 0 == 46) is).0 in
    absurd (omega (arith, long))

parent_says : (name : List ℕ) → is_parent_name name ≡ true → name ≡ 46 ∷ 46 ∷ []
unfolding is_parent_name
parent_says [] is = absurd (true≢false (sym is))
parent_says (x ∷ []) is = absurd (true≢false (sym is))
parent_says (x ∷ y ∷ []) is =
    let two = and_parts (length (x ∷ y ∷ []) == 2 && slice_index (x ∷ y ∷ []) 0 == 46) (slice_index (x ∷ y ∷ []) 1 == 46) is in
    let one = and_parts (length (x ∷ y ∷ []) == 2) (slice_index (x ∷ y ∷ []) 0 == 46) two.0 in
    ap (λ (a : ℕ). a ∷ y ∷ []) (eqb-true x 46 one.1) ∙ ap (λ (b : ℕ). 46 ∷ b ∷ []) (eqb-true y 46 two.1)
parent_says (x ∷ y ∷ z ∷ zs) is =
    let two = and_parts (length (x ∷ y ∷ z ∷ zs) == 2 && slice_index (x ∷ y ∷ z ∷ zs) 0 == 46) (slice_index (x ∷ y ∷ z ∷ zs) 1 == 46) is in
    let long = eqb-true (length (x ∷ y ∷ z ∷ zs)) 2 (and_parts (length (x ∷ y ∷ z ∷ zs) == 2) (slice_index (x ∷ y ∷ z ∷ zs) 0 == 46) two.0).0 in
    absurd (omega (arith, long))

not_self : (name : List ℕ) → is_name name ≡ true → (t : Bool) → is_self name ≡ t → t ≡ false
not_self name h true e = absurd (true≢false (sym h ∙ ap is_name (self_says name e) ∙ self_barred))
not_self name h false e = refl

not_parent : (name : List ℕ) → is_name name ≡ true → (t : Bool) → is_parent_name name ≡ t → t ≡ false
not_parent name h true e = absurd (true≢false (sym h ∙ ap is_name (parent_says name e) ∙ parent_barred))
not_parent name h false e = refl

not_dots : (e : EntryRec) → is_name e.name ≡ true → is_dots e ≡ false
unfolding is_dots
not_dots e h = neither (is_self e.name) (is_parent_name e.name) (not_self e.name h (is_self e.name) refl) (not_parent e.name h (is_parent_name e.name) refl)

valid_no_dots : (es : List EntryRec) → All (λ (e : EntryRec). is_name e.name ≡ true) es → have_no_dots es ≡ true
valid_no_dots es h = ap not (none es h)
  where
    none : (es : List EntryRec) → All (λ (e : EntryRec). is_name e.name ≡ true) es → list_any is_dots es ≡ false
    none [] h = refl
    none (e ∷ es) h = neither (is_dots e) (list_any is_dots es) (not_dots e (All-head (λ (e : EntryRec). is_name e.name ≡ true) e es h)) (none es (All-tail (λ (e : EntryRec). is_name e.name ≡ true) e es h))

-- and they are short
short_name : (name : List ℕ) → is_name name ≡ true → length name < 256
unfolding is_name
short_name name h =
    few (nat_le 1 (length name)) (nat_le (length name) 255) (not (list_any (λ byte. byte == 0 || byte == 0x2f) name)) _ refl h
  where
    few : (p q r s : Bool) → q ≡ nat_le (length name) 255 → (((p && q) && r) && s) ≡ true → length name < 256
    few p q r s e k = grind (arith, nat_tests)

-- numbers of files
low_node : (fs : List NodeRec) (n : ℕ) → All (λ (f : NodeRec). f.ino < 2 ^ 32) fs → is_kept_node fs n ≡ true → n < 2 ^ 32
low_node [] n h k = cc
low_node (f ∷ fs) n h k = elim (cases_eq f.ino n) [
  | inl same ↦ subst (λ m. m < 2 ^ 32) same (All-head (λ (f : NodeRec). f.ino < 2 ^ 32) f fs h)
  | inr other ↦ low_node fs n (All-tail (λ (f : NodeRec). f.ino < 2 ^ 32) f fs h) (the_second (f.ino == n) (is_kept_node fs n) (other_test f.ino n other) k)
]

low_directory : (fs : List NodeRec) (n : ℕ) → All (λ (f : NodeRec). f.ino < 2 ^ 32) fs → is_directory_number fs n ≡ true → n < 2 ^ 32
low_directory fs n h k = low_node fs n h (directory_kept fs n k)

low_with : (new : ℕ) (fs : List NodeRec) → new < 2 ^ 32 → All (λ (f : NodeRec). f.ino < 2 ^ 32) fs → All (λ (f : NodeRec). f.ino < 2 ^ 32) (with_directory new fs)
low_with new [] l h = All-cons (λ (f : NodeRec). f.ino < 2 ^ 32) (directory_node new) [] l h
low_with new (f ∷ fs) l h = either (nat_lt f.ino new) (low_with new fs l (All-tail (λ (f : NodeRec). f.ino < 2 ^ 32) f fs h))
  where
    either : (t : Bool) → All (λ (f : NodeRec). f.ino < 2 ^ 32) (with_directory new fs) → All (λ (f : NodeRec). f.ino < 2 ^ 32) (if t then f ∷ with_directory new fs else directory_node new ∷ f ∷ fs)
    either true r = All-cons (λ (f : NodeRec). f.ino < 2 ^ 32) f (with_directory new fs) (All-head (λ (f : NodeRec). f.ino < 2 ^ 32) f fs h) r
    either false r = All-cons (λ (f : NodeRec). f.ino < 2 ^ 32) (directory_node new) (f ∷ fs) l h

-- pairs of ascending numbers
pairs_ascend : (f : ℕ → ℕ) (low : ℕ) (ns : List ℕ) → NumbersAscend low ns → PairsAscend low (map (λ n. (n, f n)) ns)
pairs_ascend f low [] up = tt
pairs_ascend f low (n ∷ ns) up = (up.0, pairs_ascend f (n + 1) ns up.1)

module _
    (nodes : List NodeRec)
    (listed : List EntryRec)
    (root new : ℕ)
    (files : AreFiles nodes)
    (entries : AreEntries nodes listed)
    (few : length listed < 2 ^ 64)
    (dir : is_directory_number nodes root ≡ true)
    (unused : is_kept_node nodes new ≡ false)
    (new_low : new < 2 ^ 32)
  where
    together_low : All (λ (e : EntryRec). e.ino < 2 ^ 32) (entries_together nodes listed root new)
    together_low = All-weaker (λ (e : EntryRec). (is_kept_node nodes e.ino || (adds_lost nodes listed root && e.ino == new)) ≡ true) (λ (e : EntryRec). e.ino < 2 ^ 32)
        (λ e h. either e.ino (is_kept_node nodes e.ino) refl h) (entries_together nodes listed root new) (together_in_use nodes listed root new)
      where
        either : (n : ℕ) (t : Bool) → is_kept_node nodes n ≡ t → (t || (adds_lost nodes listed root && n == new)) ≡ true → n < 2 ^ 32
        either n true k h = low_node nodes n files.low k
        either n false k h = subst (λ m. m < 2 ^ 32) (sym (eqb-true n new (second_of_both (adds_lost nodes listed root) (n == new) h))) new_low

    abbrev dirs_wanted : List ℕ
    dirs_wanted = directory_numbers (wanted_nodes nodes listed root new)

    entries_writable : All IsWritableEntry (wanted_entries nodes listed root new)
    entries_writable = All-map IsWritableEntry (with_type (wanted_nodes nodes listed root new)) (by_directory (entries_together nodes listed root new) dirs_wanted)
        (all_by (λ (e : EntryRec). IsWritableEntry (with_type (wanted_nodes nodes listed root new) e)) (entries_together nodes listed root new) dirs_wanted
        (λ k d l. record { name = short_name _ (together_valid nodes listed root new files few k d l); ino = together_low k d l }))

    entries_no_dots : have_no_dots (wanted_entries nodes listed root new) ≡ true
    entries_no_dots = valid_no_dots (wanted_entries nodes listed root new) (All-map (λ (e : EntryRec). is_name e.name ≡ true) (with_type (wanted_nodes nodes listed root new)) (by_directory (entries_together nodes listed root new) dirs_wanted)
        (all_by (λ (e : EntryRec). is_name e.name ≡ true) (entries_together nodes listed root new) dirs_wanted (together_valid nodes listed root new files few)))

    nodes_low : All (λ (f : NodeRec). f.ino < 2 ^ 32) (wanted_nodes nodes listed root new)
    nodes_low = either (adds_lost nodes listed root)
      where
        either : (t : Bool) → All (λ (f : NodeRec). f.ino < 2 ^ 32) (if t then with_directory new nodes else nodes)
        either true = low_with new nodes new_low files.low
        either false = files.low

    dirs_low : All (λ d. d < 2 ^ 32) dirs_wanted
    dirs_low = All-map (λ d. d < 2 ^ 32) (λ (f : NodeRec). f.ino) (filter (λ (f : NodeRec). f.kind == 4) (wanted_nodes nodes listed root new))
        (All-filter (λ (f : NodeRec). f.kind == 4) (λ (f : NodeRec). f.ino < 2 ^ 32) (wanted_nodes nodes listed root new) nodes_low)

    -- parents
    root_low : root < 2 ^ 32
    root_low = low_directory nodes root files.low dir

    attached_low : (d p : ℕ) → attached_parent (attached_directories nodes listed root) d ≡ Some p → p < 2 ^ 32
    attached_low d p e = elim (cases_eq d root) [
      | inl same ↦ at_root (sym (root_parent nodes listed root) ∙ ap (attached_parent (attached_directories nodes listed root)) (sym same) ∙ e)
      | inr other ↦ named (named_once nodes listed root d p dir other e)
    ]
      where
        at_root : Some root ≡ Some p → p < 2 ^ 32
        at_root k = subst (λ m. m < 2 ^ 32) (ap (λ (o : Option ℕ). unwrap_or o 0) k) root_low

        named : IsNamedOnce (kept_entries nodes listed root) d p → p < 2 ^ 32
        named (x, is, at) = subst (λ m. m < 2 ^ 32) at (low_directory nodes x.dir files.low (All-head (λ (e : EntryRec). is_directory_number nodes e.dir ≡ true) x []
            (subst (λ es. All (λ (e : EntryRec). is_directory_number nodes e.dir ≡ true) es) is
            (All-filter (λ (e : EntryRec). e.ino == d) (λ (e : EntryRec). is_directory_number nodes e.dir ≡ true) (kept_entries nodes listed root)
            (all_kept (λ (e : EntryRec). is_directory_number nodes e.dir ≡ true) nodes listed root entries.known)))))

    lost_low : (o : Option ℕ) → old_lost nodes listed root ≡ o → lost_directory o new < 2 ^ 32
    lost_low None e = new_low
    lost_low (Some l) e = low_directory nodes l files.low (found_directory nodes root l (kept_entries nodes listed root) e)

    parent_low : (d : ℕ) → parent_due nodes listed root new d < 2 ^ 32
    parent_low d = either (d == new)
      where
        told : (o : Option ℕ) → attached_parent (attached_directories nodes listed root) d ≡ o → unwrap_or o (lost_directory (old_lost nodes listed root) new) < 2 ^ 32
        told None e = lost_low (old_lost nodes listed root) refl
        told (Some p) e = attached_low d p e

        either : (t : Bool) → (if t then root else unwrap_or (attached_parent (attached_directories nodes listed root) d) (lost_directory (old_lost nodes listed root) new)) < 2 ^ 32
        either true = root_low
        either false = told (attached_parent (attached_directories nodes listed root) d) refl

    wanted_parents_low : All (λ (p : ℕ × ℕ). p.1 < 2 ^ 32) (wanted_parents nodes listed root new)
    wanted_parents_low = All-map (λ (p : ℕ × ℕ). p.1 < 2 ^ 32) (with_parent nodes listed root new) dirs_wanted (λ k d l. parent_low (slice_index_or dirs_wanted k d))

    wanted_rebuilt_low : (dirs : List DirRec) → All (λ d. d < 2 ^ 32) (wanted_rebuilt nodes listed dirs root new)
    wanted_rebuilt_low dirs = All-map (λ d. d < 2 ^ 32) (λ (p : ℕ × ℕ). p.0) (filter (is_rebuilt listed dirs (wanted_entries nodes listed root new)) (wanted_parents nodes listed root new))
        (All-filter (is_rebuilt listed dirs (wanted_entries nodes listed root new)) (λ (p : ℕ × ℕ). p.0 < 2 ^ 32) (wanted_parents nodes listed root new)
        (All-map (λ (p : ℕ × ℕ). p.0 < 2 ^ 32) (with_parent nodes listed root new) dirs_wanted dirs_low))

    wanted_parents_ascend : PairsAscend 0 (wanted_parents nodes listed root new)
    wanted_parents_ascend = pairs_ascend (parent_due nodes listed root new) 0 dirs_wanted (directories_ascend 0 (wanted_nodes nodes listed root new) (nodes_ascend nodes listed root new files.ascend unused))

    pub buildable : (dirs : List DirRec) (wanted : WantedNames) → wanted.entries ≡ wanted_entries nodes listed root new → wanted.parents ≡ wanted_parents nodes listed root new
        → wanted.rebuilt ≡ wanted_rebuilt nodes listed dirs root new → length wanted.entries ≤ 2 ^ 24 → IsNonDecreasingBy (λ (e : EntryRec). e.dir) wanted.entries → CanBeBuilt wanted
    buildable dirs wanted es ps rs short rise = record {
      writable = subst (All IsWritableEntry) (sym es) entries_writable;
      names = ap have_no_dots es ∙ entries_no_dots;
      few = short;
      rise = rise;
      ascend = subst (PairsAscend 0) (sym ps) wanted_parents_ascend;
      parents_low = subst (All (λ (p : ℕ × ℕ). p.1 < 2 ^ 32)) (sym ps) wanted_parents_low;
      rebuilt_low = subst (All (λ d. d < 2 ^ 32)) (sym rs) (wanted_rebuilt_low dirs);
    }
