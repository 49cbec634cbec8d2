-- The entries that are due are those that are wanted but for their types, which are right or not told.
use Rattle.std.proofs.Common.{◌≡◌, ℕ, ◌⊎◌, inl, inr, ◌==◌, ◌&&◌, ◌||◌, not, Bool, true, false, cond, if◌then◌else◌, List, [], ◌∷◌, ◌++◌, length, map, filter, count_by, refl, sym, ap, ap₂, ◌∙◌, subst, Any}
use Rattle.std.specs.List.{All, flat_map, list_all}
use Rattle.std.proofs.lemmas.Bool.{and_parts, eqb-true, eq-eqb, false≢true, or_cases, true≢false}
use Rattle.std.proofs.lemmas.List.{map-append}
use Rattle.std.proofs.lemmas.List.Elements.{All-append, All-cons, All-filter, All-head, All-map, All-nil, All-tail}
use Rattle.std.proofs.lemmas.List.Sums.{length-filter}
use Rattle.std.proofs.lemmas.Slice.Eq.{bytes_eq-Decides}
use Rattle.std.proofs.Math.ListN.{length-map}
use Rattle.std.specs.Str.{bytes_eq}
use Rattle.xfs_collections.specs.Lists.{has_node}
use Rattle.xfs_disk.specs.Lists.{is_among}
use Rattle.xfs_dirdata.specs.declared.records.EntryRec.{EntryRec}
use Rattle.xfs_volume.specs.Names.{entry_type, type_of}
use Rattle.xfs_volume.specs.declared.files.FileRec.{FileRec}
use Rattle.xfs_naming.specs.Naming.{AreGrouped, entries_in}
use Rattle.xfs_links.specs.Connected.{directory_numbers}
use Rattle.xfs_links.specs.Entries.{AreEntries, NodesAscend, is_directory_number, is_kept_node}
use Rattle.xfs_links.specs.declared.records.NodeRec.{NodeRec}
use Rattle.xfs_links.proofs.Joined.{filter_through}
use Rattle.xfs_links.specs.Settled.{by_directory, parent_due, untyped}
use Rattle.xfs_links.specs.Together.{entries_together}
use Rattle.xfs_links.proofs.ByDirectory.{all_by}
use Rattle.xfs_names.specs.Built.{CanBeBuilt}
use Rattle.xfs_names.specs.Rebuilt.{are_right_entries, is_rebuilt, is_right_entry, is_whole_with, wanted_rebuilt}
use Rattle.xfs_names.specs.Wanted.{wanted_entries, wanted_nodes, wanted_parents, with_type}
use Rattle.xfs_names.specs.declared.records.WantedNames.{WantedNames}
use Rattle.xfs_names.proofs.ByNumber.{directories_ascend}
use Rattle.xfs_names.proofs.Deciding.{nodes_ascend, together_known}
use Rattle.xfs_names.proofs.Grouping.{grouped}
use Rattle.xfs_views.proofs.Members.{Member, member_any, member_filter, member_map}
use Rattle.xfs_rename.specs.xfs_rebuild.declared.names_due.NamesDue.{NamesDue}
use Rattle.xfs_restored.specs.Relinking.{entries_due, renamed_dirs, renamed_entries, whole_with}

-- the entries of one directory are its own
own_all : (d : ℕ) (es : List EntryRec) → list_all (λ (e : EntryRec). e.dir == d) (entries_in es d) ≡ true
own_all d [] = refl
own_all d (e ∷ es) = by_case (e.dir == d) refl (own_all d es)
  where
    by_case : (t : Bool) → (e.dir == d) ≡ t → list_all (λ (x : EntryRec). x.dir == d) (entries_in es d) ≡ true → list_all (λ (x : EntryRec). x.dir == d) (cond t (e ∷ entries_in es d) (entries_in es d)) ≡ true
    by_case true here rest = ap (λ (t : Bool). t && list_all (λ (x : EntryRec). x.dir == d) (entries_in es d)) here ∙ rest
    by_case false off rest = rest

-- right entries are the wanted ones but for types
record IsSameBut (h d : EntryRec) : Type 0 where
  name : h.name ≡ d.name
  ino : h.ino ≡ d.ino
  ftype : (h.ftype == 0 || h.ftype == d.ftype) ≡ true

right_is : (h d : EntryRec) → is_right_entry h d ≡ true → IsSameBut h d
right_is h d is =
    let one = and_parts (bytes_eq h.name d.name) (h.ino == d.ino && (h.ftype == 0 || h.ftype == d.ftype)) is in
    let two = and_parts (h.ino == d.ino) (h.ftype == 0 || h.ftype == d.ftype) one.1 in
    record { name = (bytes_eq-Decides h.name d.name).0 one.0; ino = eqb-true h.ino d.ino two.0; ftype = two.1 }

untyped_same : (h d : EntryRec) → h.dir ≡ d.dir → h.name ≡ d.name → h.ino ≡ d.ino → untyped h ≡ untyped d
untyped_same h d a b c = λ i. record { dir = a i; name = b i; ino = c i; ftype = 0 }

right_untyped : (n : ℕ) (hs ds : List EntryRec) → list_all (λ (e : EntryRec). e.dir == n) hs ≡ true → list_all (λ (e : EntryRec). e.dir == n) ds ≡ true
    → are_right_entries hs ds ≡ true → map untyped hs ≡ map untyped ds
right_untyped n [] [] a b is = refl
right_untyped n [] (d ∷ ds) a b is = absurd (false≢true is)
right_untyped n (h ∷ hs) [] a b is = absurd (false≢true is)
right_untyped n (h ∷ hs) (d ∷ ds) a b is =
    let parts = and_parts (is_right_entry h d) (are_right_entries hs ds) is in
    let one = right_is h d parts.0 in
    let here = and_parts (h.dir == n) (list_all (λ (e : EntryRec). e.dir == n) hs) a in
    let there = and_parts (d.dir == n) (list_all (λ (e : EntryRec). e.dir == n) ds) b in
    ap₂ (λ (x : EntryRec) (xs : List EntryRec). x ∷ xs) (untyped_same h d (eqb-true h.dir n here.0 ∙ sym (eqb-true d.dir n there.0)) one.name one.ino)
    (right_untyped n hs ds here.1 there.1 parts.1)

-- an entry states the type of a file with its number, or none
abbrev pub IsTyped : List FileRec → EntryRec → Type 0
IsTyped files e = (e.ftype ≡ 0) ⊎ Any (λ (f : FileRec). (f.ino ≡ e.ino) × (e.ftype ≡ entry_type (type_of f))) files

typed_same : (files : List FileRec) (h d : EntryRec) → IsSameBut h d → IsTyped files d → IsTyped files h
typed_same files h d same typed =
    elim (or_cases (h.ftype == 0) (h.ftype == d.ftype) same.ftype) [
      | inl none ↦ inl (eqb-true h.ftype 0 none)
      | inr told ↦ by_type (eqb-true h.ftype d.ftype told) typed
    ]
  where
    by_type : h.ftype ≡ d.ftype → IsTyped files d → IsTyped files h
    by_type told (inl none) = inl (told ∙ none)
    by_type told (inr (k, f, low, is, (number, kind))) = inr (k, f, low, is, (number ∙ sym same.ino, told ∙ kind))

right_typed : (files : List FileRec) (hs ds : List EntryRec) → are_right_entries hs ds ≡ true → All (IsTyped files) ds → All (IsTyped files) hs
right_typed files [] ds is all = All-nil (IsTyped files)
right_typed files (h ∷ hs) [] is all = absurd (false≢true is)
right_typed files (h ∷ hs) (d ∷ ds) is all =
    let parts = and_parts (is_right_entry h d) (are_right_entries hs ds) is in
    All-cons (IsTyped files) h hs (typed_same files h d (right_is h d parts.0) (All-head (IsTyped files) d ds all)) (right_typed files hs ds parts.1 (All-tail (IsTyped files) d ds all))

-- lists directory by directory
flat_by : (es : List EntryRec) (parent : ℕ → ℕ) (ds : List ℕ) → flat_map (λ (p : ℕ × ℕ). entries_in es p.0) (map (λ d. (d, parent d)) ds) ≡ by_directory es ds
flat_by es parent [] = refl
flat_by es parent (d ∷ ds) = ap (λ (xs : List EntryRec). entries_in es d ++ xs) (flat_by es parent ds)

flat_untyped : (f g : ℕ × ℕ → List EntryRec) (ps : List (ℕ × ℕ)) → ((p : ℕ × ℕ) → Member p ps → map untyped (f p) ≡ map untyped (g p)) → map untyped (flat_map f ps) ≡ map untyped (flat_map g ps)
flat_untyped f g [] each = refl
flat_untyped f g (p ∷ ps) each =
    map-append untyped (f p) (flat_map f ps)
    ∙ ap₂ (λ (xs ys : List EntryRec). xs ++ ys) (each p (inl refl)) (flat_untyped f g ps (λ q is. each q (inr is)))
    ∙ sym (map-append untyped (g p) (flat_map g ps))

flat_all : (P : EntryRec → Type 0) (f : ℕ × ℕ → List EntryRec) (ps : List (ℕ × ℕ)) → ((p : ℕ × ℕ) → Member p ps → All P (f p)) → All P (flat_map f ps)
flat_all P f [] each = All-nil P
flat_all P f (p ∷ ps) each = All-append P (f p) (flat_map f ps) (each p (inl refl)) (flat_all P f ps (λ q is. each q (inr is)))

-- how many of the entries of a directory pass by their number
module _ (q : ℕ → Bool) (d : ℕ) (xs ys : List EntryRec) (same : map untyped xs ≡ map untyped ys) where
  passing_through : (es : List EntryRec) → length (filter (λ (e : EntryRec). q e.ino) (entries_in es d)) ≡ length (filter (λ (e : EntryRec). q e.ino) (entries_in (map untyped es) d))
  passing_through es =
      sym (length-map _ _)
      ∙ ap (λ (zs : List EntryRec). length zs) (sym (filter_through untyped (λ (e : EntryRec). q e.ino) (entries_in es d)))
      ∙ ap (λ (zs : List EntryRec). length (filter (λ (e : EntryRec). q e.ino) zs)) (sym (filter_through untyped (λ (e : EntryRec). e.dir == d) es))

  pub counted_untyped : count_by (λ (e : EntryRec). q e.ino) (entries_in xs d) ≡ count_by (λ (e : EntryRec). q e.ino) (entries_in ys d)
  counted_untyped =
      sym (length-filter (λ (e : EntryRec). q e.ino) (entries_in xs d))
      ∙ passing_through xs
      ∙ ap (λ (zs : List EntryRec). length (filter (λ (e : EntryRec). q e.ino) (entries_in zs d))) same
      ∙ sym (passing_through ys)
      ∙ length-filter (λ (e : EntryRec). q e.ino) (entries_in ys d)

-- each directory with its own entries
pub entries_grouped : (n : NamesDue) (w : WantedNames) → AreGrouped (renamed_dirs w) (renamed_entries n w)
unfolding renamed_entries
entries_grouped n w = by_parents w.parents
  where
    own : (p : ℕ × ℕ) (t : Bool) → list_all (λ (e : EntryRec). e.dir == p.0) (if t then entries_in w.entries p.0 else entries_in n.entries p.0) ≡ true
    own p true = own_all p.0 w.entries
    own p false = own_all p.0 n.entries

    by_parents : (ps : List (ℕ × ℕ)) → AreGrouped (map whole_with ps) (flat_map (entries_due n w) ps)
    by_parents [] = refl
    by_parents (p ∷ ps) = (entries_due n w p, flat_map (entries_due n w) ps, refl, own p (is_among w.rebuilt p.0), by_parents ps)

module _ (nodes : List NodeRec) (root new : ℕ) (n : NamesDue) (w : WantedNames) (up : NodesAscend 0 nodes) (unused : is_kept_node nodes new ≡ false)
    (are_entries : AreEntries nodes n.entries) (dir : is_directory_number nodes root ≡ true) (can : CanBeBuilt w)
    (entries_are : w.entries ≡ wanted_entries nodes n.entries root new) (parents_are : w.parents ≡ wanted_parents nodes n.entries root new)
    (rebuilt_are : w.rebuilt ≡ wanted_rebuilt nodes n.entries n.dirs root new) where
  abbrev numbers : List ℕ
  numbers = directory_numbers (wanted_nodes nodes n.entries root new)

  -- a directory that is not built anew was found whole, with its parent, and its entries were right
  pub record IsRight (p : ℕ × ℕ) : Type 0 where
    pub whole : is_whole_with n.dirs p.0 p.1 ≡ true
    pub entries : are_right_entries (entries_in n.entries p.0) (entries_in w.entries p.0) ≡ true

  abbrev test : ℕ × ℕ → Bool
  test p = is_rebuilt n.entries n.dirs (wanted_entries nodes n.entries root new) p

  pub right_directory : (p : ℕ × ℕ) → Member p w.parents → is_among w.rebuilt p.0 ≡ false → IsRight p
  right_directory p is off =
      let parts = and_parts (is_whole_with n.dirs p.0 p.1) (are_right_entries (entries_in n.entries p.0) (entries_in (wanted_entries nodes n.entries root new) p.0)) kept in
      record {
        whole = parts.0;
        entries = ap (λ (es : List EntryRec). are_right_entries (entries_in n.entries p.0) (entries_in es p.0)) entries_are ∙ parts.1;
      }
    where
      among : test p ≡ true → is_among w.rebuilt p.0 ≡ true
      among anew =
          subst (λ (ns : List ℕ). is_among ns p.0 ≡ true) (sym rebuilt_are)
          (member_any (λ m. m == p.0) p.0 (wanted_rebuilt nodes n.entries n.dirs root new)
          (member_map (λ (q : ℕ × ℕ). q.0) p (filter test (wanted_parents nodes n.entries root new))
          (member_filter test p (wanted_parents nodes n.entries root new) (subst (λ (ps : List (ℕ × ℕ)). Member p ps) parents_are is) anew)) (eq-eqb p.0 p.0 refl))

      by_case : (t : Bool) → (not t ≡ true → is_among w.rebuilt p.0 ≡ true) → t ≡ true
      by_case true rest = refl
      by_case false rest = absurd (true≢false (sym (rest refl) ∙ off))

      kept : (is_whole_with n.dirs p.0 p.1 && are_right_entries (entries_in n.entries p.0) (entries_in (wanted_entries nodes n.entries root new) p.0)) ≡ true
      kept = by_case (is_whole_with n.dirs p.0 p.1 && are_right_entries (entries_in n.entries p.0) (entries_in (wanted_entries nodes n.entries root new) p.0)) among

  -- all that are wanted, directory by directory
  known : All (λ (e : EntryRec). has_node e.dir numbers ≡ true) w.entries
  known =
      subst (All (λ (e : EntryRec). has_node e.dir numbers ≡ true)) (sym entries_are)
      (All-map (λ (e : EntryRec). has_node e.dir numbers ≡ true) (with_type (wanted_nodes nodes n.entries root new)) (by_directory (entries_together nodes n.entries root new) numbers)
      (all_by (λ (e : EntryRec). has_node e.dir numbers ≡ true) (entries_together nodes n.entries root new) numbers (together_known nodes n.entries root new are_entries dir)))

  wanted_by : w.entries ≡ by_directory w.entries numbers
  wanted_by =
      grouped w.entries w.entries numbers can.rise (λ d. refl)
      (directories_ascend 0 (wanted_nodes nodes n.entries root new) (nodes_ascend nodes n.entries root new up unused)) known

  due_untyped : (p : ℕ × ℕ) → Member p w.parents → map untyped (entries_due n w p) ≡ map untyped (entries_in w.entries p.0)
  due_untyped p is = by_case (is_among w.rebuilt p.0) refl
    where
      by_case : (t : Bool) → is_among w.rebuilt p.0 ≡ t → map untyped (if t then entries_in w.entries p.0 else entries_in n.entries p.0) ≡ map untyped (entries_in w.entries p.0)
      by_case true anew = refl
      by_case false off =
          right_untyped p.0 (entries_in n.entries p.0) (entries_in w.entries p.0) (own_all p.0 n.entries) (own_all p.0 w.entries) (right_directory p is off).entries

  pub entries_alike : map untyped (renamed_entries n w) ≡ map untyped w.entries
  unfolding renamed_entries
  entries_alike =
      flat_untyped (entries_due n w) (λ (p : ℕ × ℕ). entries_in w.entries p.0) w.parents due_untyped
      ∙ ap (map untyped)
      (ap (flat_map (λ (p : ℕ × ℕ). entries_in w.entries p.0)) parents_are
      ∙ flat_by w.entries (parent_due nodes n.entries root new) numbers
      ∙ sym wanted_by)

  pub entries_typed : (files : List FileRec) → All (IsTyped files) w.entries → All (IsTyped files) (renamed_entries n w)
  unfolding renamed_entries
  entries_typed files all = flat_all (IsTyped files) (entries_due n w) w.parents each
    where
      each : (p : ℕ × ℕ) → Member p w.parents → All (IsTyped files) (entries_due n w p)
      each p is = by_case (is_among w.rebuilt p.0) refl
        where
          own : All (IsTyped files) (entries_in w.entries p.0)
          own = All-filter (λ (e : EntryRec). e.dir == p.0) (IsTyped files) w.entries all

          by_case : (t : Bool) → is_among w.rebuilt p.0 ≡ t → All (IsTyped files) (if t then entries_in w.entries p.0 else entries_in n.entries p.0)
          by_case true anew = own
          by_case false off = right_typed files (entries_in n.entries p.0) (entries_in w.entries p.0) (right_directory p is off).entries own
