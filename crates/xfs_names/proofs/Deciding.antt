-- What is wanted, from what was decided.
use Rattle.std.proofs.Common.{◌≡◌, ℕ, ◌+◌, ◌≤◌, ◌==◌, ◌&&◌, ◌||◌, inl, inr, nat_lt, Bool, true, false, cond, List, [], ◌∷◌, map, refl, sym, ap, ◌∙◌, arith, subst, Option, None, Some, option_map, unwrap_or, if◌then◌else◌, find}
use Rattle.std.specs.List.{All, filter, filter_map, cons_option}
use Rattle.std.proofs.lemmas.Bool.{cases_eq}
use Rattle.std.proofs.lemmas.Bool.Decides.{nat_tests}
use Rattle.std.proofs.lemmas.List.Elements.{All-nil, All-weaker}
use Rattle.xfs_collections.specs.Lists.{has_node}
use Rattle.xfs_dirdata.specs.declared.records.EntryRec.{EntryRec}
use Rattle.xfs_naming.specs.Naming.{NumbersAscend}
use Rattle.xfs_links.specs.declared.records.NodeRec.{NodeRec}
use Rattle.xfs_links.specs.declared.records.DecidedNames.{DecidedNames}
use Rattle.xfs_links.specs.declared.walk.Attached.{Attached}
use Rattle.xfs_links.specs.Entries.{AreEntries, NodesAscend, is_kept_node, is_directory_number}
use Rattle.xfs_links.specs.Walk.{attached_parent}
use Rattle.xfs_links.specs.Connected.{directory_numbers, names_lost_found, attached_directories, kept_entries}
use Rattle.xfs_links.specs.Together.{lost_directory, is_new, orphans_of, old_lost, adds_lost, entries_together}
use Rattle.xfs_links.specs.Settled.{by_directory}
use Rattle.xfs_links.proofs.Ascending.{absent}
use Rattle.xfs_links.proofs.Different.{all_kept}
use Rattle.xfs_links.proofs.Targets.{together_all}
use Rattle.xfs_links.proofs.Tests.{same_test, other_test, the_second, or_true, not_first, not_second}
use Rattle.xfs_names.specs.Wanted.{AreDecided, directory_node, with_directory, with_type, wanted_nodes, wanted_entries, with_parent, wanted_parents}
use Rattle.xfs_names.specs.Pairs.{PairsAscend, parent_among}
use Rattle.xfs_names.specs.Private.Joined.{joined, told_parents}
use Rattle.xfs_names.proofs.ByNumber.{directories_ascend}
use Rattle.xfs_names.proofs.Adding.{adding_ascends}

-- the files that there are to be
pub nodes_are : (nodes : List NodeRec) (listed : List EntryRec) (root new : ℕ) (names : DecidedNames) → AreDecided nodes listed root names
    → (if is_new names.lost names.orphans then with_directory new nodes else nodes) ≡ wanted_nodes nodes listed root new
nodes_are nodes listed root new names d = λ i. if is_new (d.lost i) (d.orphans i) then with_directory new nodes else nodes

pub nodes_ascend : (nodes : List NodeRec) (listed : List EntryRec) (root new : ℕ) → NodesAscend 0 nodes → is_kept_node nodes new ≡ false → NodesAscend 0 (wanted_nodes nodes listed root new)
nodes_ascend nodes listed root new up off = either (adds_lost nodes listed root)
  where
    either : (t : Bool) → NodesAscend 0 (if t then with_directory new nodes else nodes)
    either true = adding_ascends 0 new nodes up (omega arith) off
    either false = up

-- all names together
pub joined_are : (nodes : List NodeRec) (listed : List EntryRec) (root new : ℕ) (names : DecidedNames) → AreDecided nodes listed root names
    → joined names.entries names.orphans root names.lost new ≡ entries_together nodes listed root new
joined_are nodes listed root new names d = λ i. joined (d.entries i) (d.orphans i) root (d.lost i) new

pub nodes_from : (nodes : List NodeRec) (listed : List EntryRec) (root new : ℕ) (names : DecidedNames) → AreDecided nodes listed root names → (adds : Bool) (os : List (ℕ × List ℕ)) (all : List NodeRec)
    → adds ≡ is_new names.lost os → os ≡ names.orphans → all ≡ (if adds then with_directory new nodes else nodes) → all ≡ wanted_nodes nodes listed root new
nodes_from nodes listed root new names d adds os all e o a = a ∙ ap (λ t. if t then with_directory new nodes else nodes) (e ∙ ap (is_new names.lost) o) ∙ nodes_are nodes listed root new names d

pub entries_from : (nodes : List NodeRec) (listed : List EntryRec) (root new : ℕ) (names : DecidedNames) → AreDecided nodes listed root names → (all : List NodeRec) (es : List EntryRec)
    → all ≡ wanted_nodes nodes listed root new → es ≡ map (with_type all) (by_directory (joined names.entries names.orphans root names.lost new) (directory_numbers all)) → es ≡ wanted_entries nodes listed root new
entries_from nodes listed root new names d all es a e = e ∙ (λ i. map (with_type (a i)) (by_directory (joined_are nodes listed root new names d i) (directory_numbers (a i))))

-- the directories among files
pub has_directories : (n : ℕ) (fs : List NodeRec) → has_node n (directory_numbers fs) ≡ is_directory_number fs n
has_directories n [] = refl
has_directories n (f ∷ fs) = either (f.kind == 4) (has_directories n fs)
  where
    here : (p q : Bool) → (p || q) ≡ ((p && true) || q)
    here p q = grind (arith, nat_tests)

    further : (p q : Bool) → q ≡ ((p && false) || q)
    further p q = grind (arith, nat_tests)

    either : (t : Bool) → has_node n (directory_numbers fs) ≡ is_directory_number fs n
        → has_node n (map (λ (g : NodeRec). g.ino) (cond t (f ∷ filter (λ (g : NodeRec). g.kind == 4) fs) (filter (λ (g : NodeRec). g.kind == 4) fs))) ≡ ((f.ino == n && t) || is_directory_number fs n)
    either true r = ap (λ q. f.ino == n || q) r ∙ here (f.ino == n) (is_directory_number fs n)
    either false r = r ∙ further (f.ino == n) (is_directory_number fs n)

-- with one directory more
pub directory_with : (m n : ℕ) (fs : List NodeRec) → is_directory_number (with_directory m fs) n ≡ ((m == n) || is_directory_number fs n)
directory_with m n [] = one (m == n)
  where
    one : (p : Bool) → ((p && true) || false) ≡ (p || false)
    one p = grind (arith, nat_tests)
directory_with m n (f ∷ fs) = either (nat_lt f.ino m) (directory_with m n fs)
  where
    turned : (a b c : Bool) → (a || (b || c)) ≡ (b || (a || c))
    turned a b c = grind (arith, nat_tests)

    first : (a c : Bool) → ((a && true) || c) ≡ (a || c)
    first a c = grind (arith, nat_tests)

    either : (t : Bool) → is_directory_number (with_directory m fs) n ≡ ((m == n) || is_directory_number fs n)
        → is_directory_number (cond t (f ∷ with_directory m fs) (directory_node m ∷ f ∷ fs)) n ≡ ((m == n) || ((f.ino == n && f.kind == 4) || is_directory_number fs n))
    either true r = ap (λ q. (f.ino == n && f.kind == 4) || q) r ∙ turned (f.ino == n && f.kind == 4) (m == n) (is_directory_number fs n)
    either false r = first (m == n) ((f.ino == n && f.kind == 4) || is_directory_number fs n)

-- a directory of the files that were kept is one of those that are wanted
kept_directory : (nodes : List NodeRec) (listed : List EntryRec) (root new n : ℕ) → is_directory_number nodes n ≡ true → is_directory_number (wanted_nodes nodes listed root new) n ≡ true
kept_directory nodes listed root new n h = either (adds_lost nodes listed root)
  where
    either : (t : Bool) → is_directory_number (if t then with_directory new nodes else nodes) n ≡ true
    either true = directory_with new n nodes ∙ or_true (new == n) (is_directory_number nodes n) h
    either false = h

-- and so is a new lost+found
new_directory : (nodes : List NodeRec) (listed : List EntryRec) (root new : ℕ) → adds_lost nodes listed root ≡ true → is_directory_number (wanted_nodes nodes listed root new) new ≡ true
new_directory nodes listed root new adds =
    ap (λ t. is_directory_number (if t then with_directory new nodes else nodes) new) adds
    ∙ directory_with new new nodes ∙ ap (λ t. t || is_directory_number nodes new) (same_test new new refl)

-- there are no other directories
wanted_directory : (nodes : List NodeRec) (listed : List EntryRec) (root new n : ℕ) → (new ≡ n → ⊥) → is_directory_number (wanted_nodes nodes listed root new) n ≡ true → is_directory_number nodes n ≡ true
wanted_directory nodes listed root new n other h = either (adds_lost nodes listed root) h
  where
    either : (t : Bool) → is_directory_number (if t then with_directory new nodes else nodes) n ≡ true → is_directory_number nodes n ≡ true
    either true k = the_second (new == n) (is_directory_number nodes n) (other_test new n other) (sym (directory_with new n nodes) ∙ k)
    either false k = k

-- the lost+found that is there is a directory
pub found_directory : (nodes : List NodeRec) (root l : ℕ) (es : List EntryRec) → option_map (λ (e : EntryRec). e.ino) (find (λ e. names_lost_found root e && is_directory_number nodes e.ino) es) ≡ Some l → is_directory_number nodes l ≡ true
found_directory nodes root l [] h = cc
found_directory nodes root l (e ∷ es) h = either (names_lost_found root e) (is_directory_number nodes e.ino) refl h (found_directory nodes root l es)
  where
    found : Some e.ino ≡ Some l → e.ino ≡ l
    found k = cc

    either : (p q : Bool) → is_directory_number nodes e.ino ≡ q → option_map (λ (e : EntryRec). e.ino) (cond (p && q) (Some e) (find (λ e. names_lost_found root e && is_directory_number nodes e.ino) es)) ≡ Some l
        → (option_map (λ (e : EntryRec). e.ino) (find (λ e. names_lost_found root e && is_directory_number nodes e.ino) es) ≡ Some l → is_directory_number nodes l ≡ true) → is_directory_number nodes l ≡ true
    either true true d k r = sym (ap (is_directory_number nodes) (found k)) ∙ d
    either true false d k r = r k
    either false q d k r = r k

-- all names together are of directories
module _
    (nodes : List NodeRec)
    (listed : List EntryRec)
    (root new : ℕ)
    (are_entries : AreEntries nodes listed)
    (dir : is_directory_number nodes root ≡ true)
  where
    abbrev numbers : List ℕ
    numbers = directory_numbers (wanted_nodes nodes listed root new)

    is_number : (n : ℕ) → is_directory_number nodes n ≡ true → has_node n numbers ≡ true
    is_number n h = has_directories n (wanted_nodes nodes listed root new) ∙ kept_directory nodes listed root new n h

    lost_known : (o : Option ℕ) → old_lost nodes listed root ≡ o → (os : List (ℕ × List ℕ)) → orphans_of nodes listed root ≡ os → All (λ (x : ℕ × List ℕ). has_node (lost_directory o new) numbers ≡ true) os
    lost_known o e [] k = All-nil (λ (x : ℕ × List ℕ). has_node (lost_directory o new) numbers ≡ true)
    lost_known None e (x ∷ os) k = λ i d m. has_directories new (wanted_nodes nodes listed root new) ∙ new_directory nodes listed root new (ap (λ o. is_new o (orphans_of nodes listed root)) e ∙ ap (is_new None) k)
    lost_known (Some l) e (x ∷ os) k = λ i d m. is_number l (found_directory nodes root l (kept_entries nodes listed root) e)

    pub together_known : All (λ (e : EntryRec). has_node e.dir numbers ≡ true) (entries_together nodes listed root new)
    together_known = together_all (λ (e : EntryRec). has_node e.dir numbers ≡ true) nodes listed root new
        (All-weaker (λ (e : EntryRec). is_directory_number nodes e.dir ≡ true) (λ (e : EntryRec). has_node e.dir numbers ≡ true) (λ e h. is_number e.dir h) (kept_entries nodes listed root)
        (all_kept (λ (e : EntryRec). is_directory_number nodes e.dir ≡ true) nodes listed root are_entries.known))
        (lost_known (old_lost nodes listed root) refl (orphans_of nodes listed root) refl)
        (λ added. is_number root dir)

-- the parents that were decided, by their directories
abbrev decided : List Attached → ℕ → Option (ℕ × ℕ)
decided s n = option_map (λ p. (n, p)) (attached_parent s n)

pairs_lower : (low v : ℕ) (ps : List (ℕ × ℕ)) → low ≤ v → PairsAscend v ps → PairsAscend low ps
pairs_lower low v [] le up = tt
pairs_lower low v (p ∷ ps) le up = (omega (arith, up.0), up.1)

pairs_ascend : (s : List Attached) (low : ℕ) (ns : List ℕ) → NumbersAscend low ns → PairsAscend low (filter_map (decided s) ns)
pairs_ascend s low [] up = tt
pairs_ascend s low (n ∷ ns) up = either (attached_parent s n) (pairs_ascend s (n + 1) ns up.1)
  where
    either : (o : Option ℕ) → PairsAscend (n + 1) (filter_map (decided s) ns) → PairsAscend low (cons_option (option_map (λ p. (n, p)) o) (filter_map (decided s) ns))
    either None r = pairs_lower low (n + 1) (filter_map (decided s) ns) (omega (arith, up.0)) r
    either (Some p) r = (up.0, r)

parent_absent : (s : List Attached) (d : ℕ) (ns : List ℕ) → has_node d ns ≡ false → parent_among (filter_map (decided s) ns) d ≡ None
parent_absent s d [] h = refl
parent_absent s d (n ∷ ns) h = either (attached_parent s n) (not_first (n == d) (has_node d ns) h) (parent_absent s d ns (not_second (n == d) (has_node d ns) h))
  where
    either : (o : Option ℕ) → (n == d) ≡ false → parent_among (filter_map (decided s) ns) d ≡ None → parent_among (cons_option (option_map (λ p. (n, p)) o) (filter_map (decided s) ns)) d ≡ None
    either None e r = r
    either (Some p) e r = ap (λ t. cond t (Some p) (parent_among (filter_map (decided s) ns) d)) e ∙ r

parent_is : (s : List Attached) (low d : ℕ) (ns : List ℕ) → NumbersAscend low ns → has_node d ns ≡ true → parent_among (filter_map (decided s) ns) d ≡ attached_parent s d
parent_is s low d [] up h = cc
parent_is s low d (n ∷ ns) up h = elim (cases_eq n d) [
  | inl same ↦ here same (attached_parent s n) refl
  | inr other ↦ there other (attached_parent s n) (parent_is s (n + 1) d ns up.1 (the_second (n == d) (has_node d ns) (other_test n d other) h))
]
  where
    here : n ≡ d → (o : Option ℕ) → attached_parent s n ≡ o → parent_among (cons_option (option_map (λ p. (n, p)) o) (filter_map (decided s) ns)) d ≡ attached_parent s d
    here same None e = parent_absent s d ns (absent d ns (subst (λ m. NumbersAscend (m + 1) ns) same up.1)) ∙ sym e ∙ ap (attached_parent s) same
    here same (Some p) e = ap (λ t. cond t (Some p) (parent_among (filter_map (decided s) ns) d)) (same_test n d same) ∙ sym e ∙ ap (attached_parent s) same

    there : (n ≡ d → ⊥) → (o : Option ℕ) → parent_among (filter_map (decided s) ns) d ≡ attached_parent s d → parent_among (cons_option (option_map (λ p. (n, p)) o) (filter_map (decided s) ns)) d ≡ attached_parent s d
    there other None r = r
    there other (Some p) r = ap (λ t. cond t (Some p) (parent_among (filter_map (decided s) ns) d)) (other_test n d other) ∙ r

-- two functions that agree on a list
map_same : (f g : ℕ → ℕ × ℕ) (xs : List ℕ) → ((n : ℕ) → has_node n xs ≡ true → f n ≡ g n) → map f xs ≡ map g xs
map_same f g [] h = refl
map_same f g (x ∷ xs) h = ap (λ y. y ∷ map f xs) (h x (ap (λ t. t || has_node x xs) (same_test x x refl))) ∙ ap (λ ys. g x ∷ ys) (map_same f g xs (λ n k. h n (or_true (x == n) (has_node n xs) k)))

module _
    (nodes : List NodeRec)
    (listed : List EntryRec)
    (root new : ℕ)
    (names : DecidedNames)
    (up : NodesAscend 0 nodes)
    (d : AreDecided nodes listed root names)
  where
    pub parents_ascend : PairsAscend 0 names.parents
    parents_ascend = subst (PairsAscend 0) (sym d.parents_are) (pairs_ascend (attached_directories nodes listed root) 0 (directory_numbers nodes) (directories_ascend 0 nodes up))

    parent_of : (n : ℕ) → (new ≡ n → ⊥) → has_node n (directory_numbers (wanted_nodes nodes listed root new)) ≡ true → parent_among names.parents n ≡ attached_parent (attached_directories nodes listed root) n
    parent_of n other h =
        ap (λ ps. parent_among ps n) d.parents_are
        ∙ parent_is (attached_directories nodes listed root) 0 n (directory_numbers nodes) (directories_ascend 0 nodes up)
        (has_directories n nodes ∙ wanted_directory nodes listed root new n other (sym (has_directories n (wanted_nodes nodes listed root new)) ∙ h))

    told : (n : ℕ) → has_node n (directory_numbers (wanted_nodes nodes listed root new)) ≡ true → told_parents names.parents root (lost_directory names.lost new) new n ≡ with_parent nodes listed root new n
    told n h = elim (cases_eq n new) [
      | inl same ↦ (ap (λ t. (n, if t then root else unwrap_or (parent_among names.parents n) (lost_directory names.lost new))) (same_test n new same)
          ∙ sym (ap (λ t. (n, if t then root else unwrap_or (attached_parent (attached_directories nodes listed root) n) (lost_directory (old_lost nodes listed root) new))) (same_test n new same)))
      | inr other ↦ (λ i. (n, if n == new then root else unwrap_or (parent_of n (λ k. other (sym k)) h i) (lost_directory (d.lost i) new)))
    ]

    pub parents_wanted : map (told_parents names.parents root (lost_directory names.lost new) new) (directory_numbers (wanted_nodes nodes listed root new)) ≡ wanted_parents nodes listed root new
    parents_wanted = map_same (told_parents names.parents root (lost_directory names.lost new) new) (with_parent nodes listed root new) (directory_numbers (wanted_nodes nodes listed root new)) told
