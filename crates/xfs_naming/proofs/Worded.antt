-- Laws that are kept say what the words say.
use Rattle.std.proofs.Common.{◌≡◌, ℕ, zero, suc, ◌+◌, ◌<◌, ◌≤◌, Bool, true, false, cond, not, ◌&&◌, ◌||◌, ◌==◌, nat_le, List, [], ◌∷◌, ◌++◌, length, filter, get_or, count_by, Option, Some, None, refl, sym, ap, ◌∙◌, subst, arith, inl, inr}
use Rattle.std.specs.List.{list_any, list_all, Any}
use Rattle.std.specs.Str.{bytes_eq}
use Rattle.std.proofs.lemmas.List.Folds.{Any-from_list_any, list_any_at}
use Rattle.std.proofs.lemmas.Bool.{and_parts, and_from, or_cases, or_left, or_right, eqb-true, eqb-false, eq-eqb, ne_eqb, true≢false, cases_eq, cases_Bool, not-true, or_parts, leb-true}
use Rattle.xfs_dirdata.specs.declared.records.EntryRec.{EntryRec}
use Rattle.xfs_volume.specs.declared.directories.DirRec.{DirRec}
use Rattle.xfs_volume.specs.declared.files.FileRec.{FileRec}
use Rattle.xfs_volume.specs.declared.findings.Law.{Law}
use Rattle.xfs_volume.specs.Laws.{first_broken, law_at}
use Rattle.xfs_volume.specs.Names.{is_name, type_of, is_directory}
use Rattle.xfs_naming.specs.Lawful.{IsReached, IsOrdinary, IsSystemFile, HasLawfulEntries, HasLawfulPlaces, HasLawfulLinks, IsNamingLawful}
use Rattle.xfs_naming.specs.Lawful.IsReached.{at_root, by_entry}
use Rattle.xfs_naming.specs.Naming.{is_system, is_in_use, is_directory_at, entries_in, entries_to, names_differ, has_target, has_type, first_failing, directory_tests, directory_at, reached_in, is_reached, states_parent, root_tests, other_directory_tests, other_file_tests, place_tests, place_law, numbers_of, links_of, is_empty_regular, links_at, file_at, directory_laws, place_laws, link_laws, naming_laws, AreNamed}
use Rattle.xfs_disk.specs.Lists.{with_number}
use Rattle.xfs_naming.proofs.Chosen.{any_in_run}
use Rattle.xfs_naming.proofs.Grouped.{has_record_is, grouped_dir}
use Rattle.xfs_naming.proofs.Kept.{kept_front, kept_behind, kept_each, kept_at, four_pass, three_pass, one_pass, in_with, in_numbers, passes_at}
use Rattle.xfs_naming.proofs.Single.{any_of, own_test, own_file, file_any, dir_in_use, own_in_use}

-- equal names are equal by bytes
bytes_same : (a b : List ℕ) → a ≡ b → bytes_eq a b ≡ true
bytes_same a b e = subst (λ (c : List ℕ). bytes_eq a c ≡ true) e (itself a)
  where
    itself : (a : List ℕ) → bytes_eq a a ≡ true
    itself [] = refl
    itself (x ∷ xs) = and_from (x == x) (bytes_eq xs xs) (eq-eqb x x refl) (itself xs)

-- two entries of those that pass have different names
differ_at : (q : EntryRec → Bool) (xs : List EntryRec) → names_differ (filter q xs) ≡ true → (i j : ℕ) (d : EntryRec) → i < j → j < length xs → q (get_or xs i d) ≡ true → q (get_or xs j d) ≡ true
    → bytes_eq (get_or xs i d).name (get_or xs j d).name ≡ true → ⊥
differ_at q [] differ i j d less h qi qj same = absurd (omega arith)
differ_at q (x ∷ xs) differ zero zero d less h qi qj same = absurd (omega arith)
differ_at q (x ∷ xs) differ zero (suc j) d less h qi qj same =
    let parts = and_parts (not (list_any (λ (o : EntryRec). bytes_eq x.name o.name) (filter q xs))) _ (sym (ap (λ (t : Bool). names_differ (cond t (x ∷ filter q xs) (filter q xs))) qi) ∙ differ) in
    true≢false (sym (there xs j d (omega arith) qj same) ∙ not-true _ parts.0)
  where
    there : (xs : List EntryRec) (j : ℕ) (d : EntryRec) → j < length xs → q (get_or xs j d) ≡ true → bytes_eq x.name (get_or xs j d).name ≡ true
        → list_any (λ (o : EntryRec). bytes_eq x.name o.name) (filter q xs) ≡ true
    there [] j d h qj same = absurd (omega arith)
    there (y ∷ ys) zero d h qj same = ap (λ (t : Bool). list_any (λ (o : EntryRec). bytes_eq x.name o.name) (cond t (y ∷ filter q ys) (filter q ys))) qj ∙ or_left (bytes_eq x.name y.name) _ same
    there (y ∷ ys) (suc j) d h qj same = either (q y) (there ys j d (omega arith) qj same)
      where
        either : (t : Bool) → list_any (λ (o : EntryRec). bytes_eq x.name o.name) (filter q ys) ≡ true → list_any (λ (o : EntryRec). bytes_eq x.name o.name) (cond t (y ∷ filter q ys) (filter q ys)) ≡ true
        either true rest = or_right (bytes_eq x.name y.name) _ rest
        either false rest = rest
differ_at q (x ∷ xs) differ (suc i) zero d less h qi qj same = absurd (omega arith)
differ_at q (x ∷ xs) differ (suc i) (suc j) d less h qi qj same = differ_at q xs (rest (q x) differ) i j d (omega arith) (omega arith) qi qj same
  where
    rest : (t : Bool) → names_differ (cond t (x ∷ filter q xs) (filter q xs)) ≡ true → names_differ (filter q xs) ≡ true
    rest true differ = (and_parts (not (list_any (λ (o : EntryRec). bytes_eq x.name o.name) (filter q xs))) _ differ).1
    rest false differ = differ

-- a number that is not one of the system's
ordinary_from : (root x : ℕ) → not (is_system root x) ≡ true → IsOrdinary root x
ordinary_from root x h =
    let parts = or_parts (x == root + 1) (x == root + 2) (not-true (is_system root x) h) in
    (eqb-false x (root + 1) parts.0, eqb-false x (root + 2) parts.1)

ordinary_is : (root x : ℕ) → IsOrdinary root x → is_system root x ≡ false
ordinary_is root x h = both (x == root + 1) (x == root + 2) (ne_eqb x (root + 1) h.0) (ne_eqb x (root + 2) h.1)
  where
    both : (a b : Bool) → a ≡ false → b ≡ false → (a || b) ≡ false
    both a b e f = cc

-- what steps reach, a way reaches
reached_way : (n : ℕ) (entries : List EntryRec) (root x : ℕ) → reached_in n entries root x ≡ true → IsReached entries root x
reached_way zero entries root x h = subst (IsReached entries root) (sym (eqb-true x root h)) at_root
reached_way (suc n) entries root x h = elim (or_cases (x == root) _ h) [
  | inl here ↦ subst (IsReached entries root) (sym (eqb-true x root here)) at_root
  | inr later ↦ (let found = Any-from_list_any (λ (e : EntryRec). e.ino == x && reached_in n entries root e.dir) entries later in
      let parts = and_parts (found.1.ino == x) _ found.4 in
      by_entry (reached_way n entries root found.1.dir parts.1) (found.0, found.1, found.2, found.3, (refl, eqb-true found.1.ino x parts.0)))
]

-- what the laws of directories, places and links say, test by test
record OwnPass (root : ℕ) (files : List FileRec) (own : List EntryRec) : Type 0 where
  valid : list_all (λ (e : EntryRec). is_name e.name) own ≡ true
  differ : names_differ own ≡ true
  targets : list_all (has_target root files) own ≡ true
  types : list_all (has_type files) own ≡ true

module _ (root : ℕ) (files : List FileRec) (entries : List EntryRec) (dirs : List DirRec) (named : AreNamed files entries dirs) where
  tests_at : first_broken (directory_laws root files entries dirs) ≡ None → (k : ℕ) (d : DirRec) → k < length dirs
      → first_failing (directory_tests root files (entries_in entries (get_or dirs k d).ino) (get_or dirs k d)) ≡ 0
  unfolding directory_laws
  tests_at none k d h = kept_each (directory_at root files entries) dirs none k d h

  own_pass : (own : List EntryRec) (d : DirRec) → first_failing (directory_tests root files own d) ≡ 0 → OwnPass root files own
  own_pass own d zeros =
      let all = four_pass d.whole (list_all (λ (e : EntryRec). is_name e.name) own && names_differ own) (list_all (has_target root files) own) (list_all (has_type files) own) zeros in
      let names = and_parts (list_all (λ (e : EntryRec). is_name e.name) own) (names_differ own) all.1 in
      record { valid = names.0; differ = names.1; targets = all.2; types = all.3 }

  own_whole : (own : List EntryRec) (d : DirRec) → first_failing (directory_tests root files own d) ≡ 0 → d.whole ≡ true
  own_whole own d zeros = (four_pass d.whole (list_all (λ (e : EntryRec). is_name e.name) own && names_differ own) (list_all (has_target root files) own) (list_all (has_type files) own) zeros).0

  passes : first_broken (directory_laws root files entries dirs) ≡ None → (k : ℕ) (d : EntryRec) → k < length entries → OwnPass root files (entries_in entries (get_or entries k d).dir)
  passes none k d h =
      let x = (get_or entries k d).dir in
      let here : list_any (λ (e : EntryRec). e.dir == x) entries ≡ true = list_any_at (λ (e : EntryRec). e.dir == x) entries k d h (eq-eqb x x refl) in
      let found = Any-from_list_any (λ (r : DirRec). r.ino == x) dirs (grouped_dir dirs entries named.grouped x here) in
      let tests = subst (λ (r : DirRec). first_failing (directory_tests root files (entries_in entries r.ino) r) ≡ 0) found.3 (tests_at none found.0 found.1 found.2) in
      subst (λ (n : ℕ). OwnPass root files (entries_in entries n)) (eqb-true found.1.ino x found.4) (own_pass (entries_in entries found.1.ino) found.1 tests)

  pub lawful_entries : first_broken (directory_laws root files entries dirs) ≡ None → HasLawfulEntries root files entries dirs
  lawful_entries none = record {
    whole = λ k d h. own_whole (entries_in entries (get_or dirs k d).ino) (get_or dirs k d) (tests_at none k d h);
    valid = λ k d h. passes_at (λ (e : EntryRec). is_name e.name) (λ (e : EntryRec). e.dir == (get_or entries k d).dir) entries (passes none k d h).valid k d h (eq-eqb _ _ refl);
    differ = λ i j d less h same equal.
        differ_at (λ (e : EntryRec). e.dir == (get_or entries i d).dir) entries (passes none i d (omega arith)).differ i j d less h (eq-eqb _ _ refl) (eq-eqb _ _ (sym same)) (bytes_same _ _ equal);
    in_use = λ k d h. any_of (λ (f : FileRec). f.ino == (get_or entries k d).ino) _ files (λ f e. eqb-true f.ino _ e) (target k d h).0;
    ordinary = λ k d h. ordinary_from root _ (target k d h).1;
    types = λ k d h. elim (or_cases _ _ (passes_at (has_type files) (λ (e : EntryRec). e.dir == (get_or entries k d).dir) entries (passes none k d h).types k d h (eq-eqb _ _ refl))) [
      | inl zero_type ↦ inl (eqb-true _ 0 zero_type)
      | inr typed ↦ inr (any_of _ _ files (λ f e. let parts = and_parts _ _ e in (eqb-true f.ino _ parts.0, sym (eqb-true _ _ parts.1))) typed)
    ];
  }
    where
      target : (k : ℕ) (d : EntryRec) → k < length entries → (is_in_use files (get_or entries k d).ino ≡ true) × (not (is_system root (get_or entries k d).ino) ≡ true)
      target k d h = and_parts _ _ (passes_at (has_target root files) (λ (e : EntryRec). e.dir == (get_or entries k d).dir) entries (passes none k d h).targets k d h (eq-eqb _ _ refl))

  -- what the eighth law says of a number
  placed : first_broken (place_laws root files entries dirs) ≡ None → (x : ℕ) → (x == root || is_in_use files x) ≡ true → first_failing (place_tests root files entries dirs x) ≡ 0
  unfolding place_laws
  placed none x there = kept_at (place_law root files entries dirs) (with_number root (numbers_of files)) none x (in_with root (numbers_of files) x ∙ ap (λ (t : Bool). x == root || t) (in_numbers files x) ∙ there)

  root_pass : first_broken (place_laws root files entries dirs) ≡ None
      → (length (entries_to entries root) == 0 ≡ true) × ((not (is_directory_at files root) || states_parent dirs root root) ≡ true) × (is_directory_at files root ≡ true)
  root_pass none = three_pass (length (entries_to entries root) == 0) (not (is_directory_at files root) || states_parent dirs root root) (is_directory_at files root)
      (sym (ap (λ (t : Bool). first_failing (cond t (root_tests root files entries dirs)
      (cond (is_directory_at files root) (other_directory_tests root entries dirs root) (other_file_tests root entries root)))) (eq-eqb root root refl))
      ∙ placed none root (or_left (root == root) _ (eq-eqb root root refl)))

  other_pass : first_broken (place_laws root files entries dirs) ≡ None → (x : ℕ) → (x ≡ root → ⊥) → is_directory_at files x ≡ true
      → (length (entries_to entries x) == 1 ≡ true) × (list_all (λ (e : EntryRec). states_parent dirs x e.dir) (entries_to entries x) ≡ true) × (is_reached dirs entries root x ≡ true)
  other_pass none x apart dir = three_pass (length (entries_to entries x) == 1) (list_all (λ (e : EntryRec). states_parent dirs x e.dir) (entries_to entries x)) (is_reached dirs entries root x)
      (sym (ap (λ (t : Bool). first_failing (cond (x == root) (root_tests root files entries dirs) (cond t (other_directory_tests root entries dirs x) (other_file_tests root entries x)))) dir
      ∙ ap (λ (t : Bool). first_failing (cond t (root_tests root files entries dirs) (other_directory_tests root entries dirs x))) (ne_eqb x root apart))
      ∙ placed none x (or_right (x == root) _ (dir_in_use files x dir)))

  file_pass : first_broken (place_laws root files entries dirs) ≡ None → (x : ℕ) → (x ≡ root → ⊥) → is_directory_at files x ≡ false → is_in_use files x ≡ true
      → (is_system root x || nat_le 1 (length (entries_to entries x))) ≡ true
  file_pass none x apart other used = one_pass (is_system root x || nat_le 1 (length (entries_to entries x)))
      (sym (ap (λ (t : Bool). first_failing (cond (x == root) (root_tests root files entries dirs) (cond t (other_directory_tests root entries dirs x) (other_file_tests root entries x)))) other
      ∙ ap (λ (t : Bool). first_failing (cond t (root_tests root files entries dirs) (other_file_tests root entries x))) (ne_eqb x root apart))
      ∙ placed none x (or_right (x == root) _ used))

  -- some entry names a number, or none
  some_named : (x : ℕ) → 1 ≤ length (entries_to entries x) → list_any (λ (e : EntryRec). e.ino == x) entries ≡ true
  some_named x some = sym (any_in_run (λ (e : EntryRec). e.ino == x) entries) ∙ ap not (ne_eqb (length (entries_to entries x)) 0 (λ e. absurd (omega arith)))

  none_named : (x : ℕ) → length (entries_to entries x) == 0 ≡ true → list_any (λ (e : EntryRec). e.ino == x) entries ≡ false
  none_named x none = sym (any_in_run (λ (e : EntryRec). e.ino == x) entries) ∙ ap not none

  pub lawful_places : first_broken (place_laws root files entries dirs) ≡ None → HasLawfulPlaces root files entries dirs
  lawful_places none = record {
    root_directory = any_of (λ (f : FileRec). f.ino == root && is_directory f) _ files (λ f e. let parts = and_parts (f.ino == root) (is_directory f) e in (eqb-true f.ino root parts.0, eqb-true (type_of f) 4 parts.1)) root_dir;
    root_unnamed = unnamed;
    root_parent = any_of (λ (d : DirRec). d.ino == root && d.parent == root) _ dirs (λ d e. let parts = and_parts (d.ino == root) (d.parent == root) e in (eqb-true d.ino root parts.0, eqb-true d.parent root parts.1)) root_states;
    once = λ k d h apart. eqb-true (length (entries_to entries (get_or dirs k d).ino)) 1 (other_pass none (get_or dirs k d).ino apart (recorded k d h)).0;
    by_parent = λ k d h dir. any_of (λ (r : DirRec). r.ino == (get_or entries k d).ino && r.parent == (get_or entries k d).dir) _ dirs
        (λ r e. let parts = and_parts (r.ino == (get_or entries k d).ino) (r.parent == (get_or entries k d).dir) e in (eqb-true r.ino _ parts.0, eqb-true r.parent _ parts.1))
        (passes_at (λ (e : EntryRec). states_parent dirs (get_or entries k d).ino e.dir) (λ (e : EntryRec). e.ino == (get_or entries k d).ino) entries
        (other_pass none (get_or entries k d).ino (unnamed k d h) dir).1 k d h (eq-eqb (get_or entries k d).ino (get_or entries k d).ino refl));
    reached = λ k d h. elim (cases_eq (get_or dirs k d).ino root) [
      | inl same ↦ subst (IsReached entries root) (sym same) at_root
      | inr apart ↦ reached_way (length dirs) entries root (get_or dirs k d).ino (other_pass none (get_or dirs k d).ino apart (recorded k d h)).2
    ];
    named = λ k d h other ordinary. any_of (λ (e : EntryRec). e.ino == (get_or files k d).ino) _ entries (λ e t. eqb-true e.ino _ t)
        (some_named (get_or files k d).ino (leb-true 1 _ (elim (or_cases _ _ (file_pass none (get_or files k d).ino (no_root k d h other) (no_dir k d h other) (own_in_use files k d h))) [
          | inl system ↦ absurd (true≢false (sym system ∙ ordinary_is root _ ordinary))
          | inr some ↦ some
        ])));
  }
    where
      root_dir : is_directory_at files root ≡ true
      root_dir = (root_pass none).2

      root_states : states_parent dirs root root ≡ true
      root_states = elim (or_cases (not (is_directory_at files root)) (states_parent dirs root root) (root_pass none).1) [
        | inl no_root ↦ absurd (true≢false (sym root_dir ∙ not-true (is_directory_at files root) no_root))
        | inr states ↦ states
      ]

      unnamed : (k : ℕ) (d : EntryRec) → k < length entries → (get_or entries k d).ino ≡ root → ⊥
      unnamed k d h same = true≢false (sym (list_any_at (λ (e : EntryRec). e.ino == root) entries k d h (eq-eqb (get_or entries k d).ino root same)) ∙ none_named root (root_pass none).0)

      recorded : (k : ℕ) (d : DirRec) → k < length dirs → is_directory_at files (get_or dirs k d).ino ≡ true
      recorded k d h = sym (has_record_is files entries dirs named (get_or dirs k d).ino) ∙ list_any_at (λ (r : DirRec). r.ino == (get_or dirs k d).ino) dirs k d h (eq-eqb (get_or dirs k d).ino (get_or dirs k d).ino refl)

      no_dir : (k : ℕ) (d : FileRec) → k < length files → (type_of (get_or files k d) ≡ 4 → ⊥) → is_directory_at files (get_or files k d).ino ≡ false
      no_dir k d h other = own_test is_directory 0 files named.files_ascend k d h ∙ ne_eqb (type_of (get_or files k d)) 4 other

      no_root : (k : ℕ) (d : FileRec) → k < length files → (type_of (get_or files k d) ≡ 4 → ⊥) → (get_or files k d).ino ≡ root → ⊥
      no_root k d h other same = true≢false (sym (ap (is_directory_at files) same ∙ root_dir) ∙ no_dir k d h other)

  -- what the ninth law says of a number
  linked : first_broken (link_laws root files entries) ≡ None → (x : ℕ) → (x == root + 1 || (x == root + 2 || is_in_use files x)) ≡ true
      → (links_at root files entries (file_at files x) x).held ≡ (links_at root files entries (file_at files x) x).due
  unfolding link_laws
  linked none x there = kept_at (λ (ino : ℕ). links_at root files entries (file_at files ino) ino) (with_number (root + 1) (with_number (root + 2) (numbers_of files))) none x
      (in_with (root + 1) (with_number (root + 2) (numbers_of files)) x ∙ ap (λ (t : Bool). x == root + 1 || t) (in_with (root + 2) (numbers_of files) x ∙ ap (λ (t : Bool). x == root + 2 || t) (in_numbers files x)) ∙ there)

  own_linked : first_broken (link_laws root files entries) ≡ None → (k : ℕ) (d : FileRec) → k < length files
      → (links_at root files entries (Some (get_or files k d)) (get_or files k d).ino).held ≡ (links_at root files entries (Some (get_or files k d)) (get_or files k d).ino).due
  own_linked none k d h =
      subst (λ (o : Option FileRec). (links_at root files entries o (get_or files k d).ino).held ≡ (links_at root files entries o (get_or files k d).ino).due) (own_file 0 files named.files_ascend k d h)
      (linked none (get_or files k d).ino (or_right (((get_or files k d).ino) == root + 1) _ (or_right (((get_or files k d).ino) == root + 2) _ (own_in_use files k d h))))

  -- a file that is not one of the system's
  ordinary_links : (f : FileRec) (x : ℕ) → is_system root x ≡ false → (links_at root files entries (Some f) x).held ≡ (links_at root files entries (Some f) x).due → f.core.nlink ≡ links_of files entries f
  ordinary_links f x ordinary e = on (is_system root x) ordinary e
    where
      on : (t : Bool) → t ≡ false → (let l : Law = cond t (cond (is_empty_regular f) (law_at 9 x f.core.nlink 1) (law_at 9 x 0 1)) (law_at 9 x f.core.nlink (links_of files entries f)) in l.held ≡ l.due)
          → f.core.nlink ≡ links_of files entries f
      on true e l = cc
      on false e l = l

  -- one that is
  system_links : (f : FileRec) (x : ℕ) → is_system root x ≡ true → (links_at root files entries (Some f) x).held ≡ (links_at root files entries (Some f) x).due → (is_empty_regular f ≡ true) × (f.core.nlink ≡ 1)
  system_links f x system e = on (is_system root x) (is_empty_regular f) refl system e
    where
      on : (t r : Bool) → is_empty_regular f ≡ r → t ≡ true → (let l : Law = cond t (cond r (law_at 9 x f.core.nlink 1) (law_at 9 x 0 1)) (law_at 9 x f.core.nlink (links_of files entries f)) in l.held ≡ l.due)
          → (is_empty_regular f ≡ true) × (f.core.nlink ≡ 1)
      on true true is e l = (is, l)
      on true false is e l = absurd (omega arith)
      on false r is e l = cc

  empty_type : (f : FileRec) → is_empty_regular f ≡ true → (type_of f ≡ 8) × (f.core.size ≡ 0) × (length f.extents ≡ 0) × (length f.rest.tree ≡ 0)
  empty_type f e =
      let first = and_parts (type_of f == 8 && f.core.size == 0 && length f.extents == 0) (length f.rest.tree == 0) e in
      let second = and_parts (type_of f == 8 && f.core.size == 0) (length f.extents == 0) first.0 in
      let third = and_parts (type_of f == 8) (f.core.size == 0) second.0 in
      (eqb-true (type_of f) 8 third.0, eqb-true f.core.size 0 third.1, eqb-true (length f.extents) 0 second.1, eqb-true (length f.rest.tree) 0 first.1)

  system_file : first_broken (link_laws root files entries) ≡ None → (x : ℕ) → is_system root x ≡ true → Any (IsSystemFile x) files
  system_file none x system = on (file_at files x) refl (linked none x (system_there (x == root + 1) (x == root + 2) (is_in_use files x) system))
    where
      system_there : (a b c : Bool) → (a || b) ≡ true → (a || (b || c)) ≡ true
      system_there true b c e = refl
      system_there false true c e = refl
      system_there false false c e = cc

      on : (o : Option FileRec) → file_at files x ≡ o → (links_at root files entries o x).held ≡ (links_at root files entries o x).due → Any (IsSystemFile x) files
      on None is l = absurd (omega arith)
      on (Some f) is l =
          let found = file_any files x f is in
          let says = system_links f x system l in
          let empty = empty_type f says.0 in
          let file : IsSystemFile x f = record { number = sym (ap (λ (g : FileRec). g.ino) found.4.0) ∙ found.4.1; regular = empty.0; no_bytes = empty.1; no_data = empty.2; no_tree = empty.3; one_link = says.1 } in
          (found.0, found.1, found.2, found.3, subst (IsSystemFile x) (sym found.4.0) file)

  pub lawful_links : first_broken (link_laws root files entries) ≡ None → HasLawfulLinks root files entries
  lawful_links none = record {
    of_directories = λ k d h dir. elim (cases_Bool (is_system root (get_or files k d).ino)) [
      | inl system ↦ absurd (four_eight (type_of (get_or files k d)) dir (empty_type (get_or files k d) (system_links (get_or files k d) (get_or files k d).ino system (own_linked none k d h)).0).0)
      | inr ordinary ↦ ordinary_links (get_or files k d) (get_or files k d).ino ordinary (own_linked none k d h)
          ∙ ap (λ (t : Bool). cond t (2 + count_by (λ (e : EntryRec). is_directory_at files e.ino) (entries_in entries (get_or files k d).ino)) (length (entries_to entries (get_or files k d).ino))) (eq-eqb (type_of (get_or files k d)) 4 dir)
    ];
    of_others = λ k d h other ordinary.
        ordinary_links (get_or files k d) (get_or files k d).ino (ordinary_is root (get_or files k d).ino ordinary) (own_linked none k d h)
        ∙ ap (λ (t : Bool). cond t (2 + count_by (λ (e : EntryRec). is_directory_at files e.ino) (entries_in entries (get_or files k d).ino)) (length (entries_to entries (get_or files k d).ino))) (ne_eqb (type_of (get_or files k d)) 4 other);
    first = system_file none (root + 1) (or_left (root + 1 == root + 1) _ (eq-eqb (root + 1) (root + 1) refl));
    second = system_file none (root + 2) (or_right (root + 2 == root + 1) _ (eq-eqb (root + 2) (root + 2) refl));
  }
    where
      four_eight : (t : ℕ) → t ≡ 4 → t ≡ 8 → ⊥
      four_eight t e f = absurd (omega arith)

  -- no law of names is broken
  pub lawful_names : first_broken (naming_laws root files entries dirs) ≡ None → IsNamingLawful root files entries dirs
  unfolding naming_laws
  lawful_names none =
      let both = kept_front (directory_laws root files entries dirs ++ place_laws root files entries dirs) (link_laws root files entries) none in
      record {
        directories = lawful_entries (kept_front (directory_laws root files entries dirs) (place_laws root files entries dirs) both);
        places = lawful_places (kept_behind (directory_laws root files entries dirs) (place_laws root files entries dirs) both);
        links = lawful_links (kept_behind (directory_laws root files entries dirs ++ place_laws root files entries dirs) (link_laws root files entries) none);
      }
