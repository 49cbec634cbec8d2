-- What keeps the laws in words keeps each law.
use Rattle.std.proofs.Common.{◌≡◌, ◌≢◌, ℕ, zero, suc, ◌+◌, ◌<◌, ◌≤◌, Bool, true, false, cond, not, ◌&&◌, ◌||◌, ◌==◌, nat_le, List, [], ◌∷◌, ◌++◌, length, map, filter, get_or, count_by, Option, Some, None, refl, sym, ap, ◌∙◌, subst, arith, inl, inr}
use Rattle.std.specs.List.{list_any, list_all, All, Any, AllPairs}
use Rattle.std.specs.Str.{bytes_eq}
use Rattle.std.proofs.lemmas.List.Folds.{Any-from_list_any, list_any_at}
use Rattle.std.proofs.lemmas.Slice.Eq.{bytes_eq-Decides}
use Rattle.std.proofs.lemmas.Bool.{and_from, or_cases, or_left, or_right, eqb-true, eqb-false, eq-eqb, ne_eqb, cases_eq, cases_Bool, not-true, not-false, or_parts, or_from, le-leb, false_from_ne_true}
use Rattle.xfs_dirdata.specs.declared.records.EntryRec.{EntryRec}
use Rattle.xfs_volume.specs.declared.directories.DirRec.{DirRec}
use Rattle.xfs_volume.specs.declared.files.FileRec.{FileRec}
use Rattle.xfs_volume.specs.declared.findings.Law.{Law}
use Rattle.xfs_volume.specs.Laws.{first_broken, law_at}
use Rattle.xfs_volume.specs.Names.{is_name, type_of, is_directory, entry_type}
use Rattle.xfs_naming.specs.Lawful.{IsReached, IsOrdinary, IsSystemFile, HasLawfulEntries, HasLawfulPlaces, HasLawfulLinks, IsNamingLawful}
use Rattle.xfs_naming.specs.Naming.{is_system, is_in_use, is_directory_at, entries_in, entries_to, names_differ, has_target, has_type, first_failing, directory_tests, directory_at, is_reached, states_parent, root_tests, other_directory_tests, other_file_tests, place_tests, place_law, numbers_of, links_of, is_empty_regular, links_at, file_at, directory_laws, place_laws, link_laws, naming_laws, AreNamed}
use Rattle.xfs_disk.specs.Lists.{with_number}
use Rattle.xfs_naming.specs.Private.Walking.{is_walked}
use Rattle.xfs_volume.proofs.First.{first_behind, first_empty}
use Rattle.xfs_naming.proofs.Broken.{first_of}
use Rattle.xfs_naming.proofs.Chosen.{any_in_run}
use Rattle.xfs_naming.proofs.Grouped.{has_record_is}
use Rattle.xfs_naming.proofs.Kept.{in_with, in_numbers}
use Rattle.xfs_naming.proofs.Single.{own_test, own_file}

-- laws that are all kept
kept_first : (l : Law) (ls : List Law) → l.held ≡ l.due → first_broken ls ≡ None → first_broken (l ∷ ls) ≡ None
kept_first l ls same rest = first_of l ls ∙ ap (λ (t : Bool). cond t (first_broken ls) (Some l)) (eq-eqb l.held l.due same) ∙ rest

pub none_broken : {X : Type 0} (f : X → Law) (xs : List X) → All (λ (x : X). (f x).held ≡ (f x).due) xs → first_broken (map f xs) ≡ None
none_broken f [] kept = first_empty
none_broken f (x ∷ xs) kept = kept_first (f x) (map f xs) (kept 0 x (omega arith)) (none_broken f xs (λ k d h. kept (suc k) d (omega arith)))

pub none_broken_in : (f : ℕ → Law) (ns : List ℕ) → ((n : ℕ) → is_walked ns n ≡ true → (f n).held ≡ (f n).due) → first_broken (map f ns) ≡ None
none_broken_in f [] kept = first_empty
none_broken_in f (n ∷ ns) kept = kept_first (f n) (map f ns) (kept n (or_left (n == n) _ (eq-eqb n n refl))) (none_broken_in f ns (λ m h. kept m (or_right (m == n) _ h)))

-- tests that all pass
four_hold : (a b c d : Bool) → a ≡ true → b ≡ true → c ≡ true → d ≡ true → first_failing ((1, a) ∷ (2, b) ∷ (3, c) ∷ (4, d) ∷ []) ≡ 0
four_hold true true true true e f g h = refl
four_hold true true true false e f g h = cc
four_hold true true false d e f g h = cc
four_hold true false c d e f g h = cc
four_hold false b c d e f g h = cc

three_hold : (a b c : Bool) → a ≡ true → b ≡ true → c ≡ true → first_failing ((1, a) ∷ (2, b) ∷ (3, c) ∷ []) ≡ 0
three_hold true true true e f g = refl
three_hold true true false e f g = cc
three_hold true false c e f g = cc
three_hold false b c e f g = cc

one_holds : (a : Bool) → a ≡ true → first_failing ((4, a) ∷ []) ≡ 0
one_holds true e = refl
one_holds false e = cc

-- all of those that pass one test pass another
all_filter : {X : Type 0} (p q : X → Bool) (xs : List X) → ((k : ℕ) (d : X) → k < length xs → q (get_or xs k d) ≡ true → p (get_or xs k d) ≡ true) → list_all p (filter q xs) ≡ true
all_filter p q [] each = refl
all_filter {X} p q (x ∷ xs) each = either (q x) refl (all_filter p q xs (λ k d h at. each (suc k) d (omega arith) at))
  where
    either : (t : Bool) → q x ≡ t → list_all p (filter q xs) ≡ true → list_all p (cond t (x ∷ filter q xs) (filter q xs)) ≡ true
    either true at rest = and_from (p x) _ (each 0 x (omega arith) at) rest
    either false at rest = rest

-- a test that one passes
any_from : {X : Type 0} (p : X → Bool) (P : X → Type 0) (xs : List X) → ((x : X) → P x → p x ≡ true) → Any P xs → list_any p xs ≡ true
any_from p P xs says (k, x, low, is, holds) = list_any_at p xs k x low (ap p is ∙ says x holds)

-- names that differ
other_name : (a b : List ℕ) → (a ≡ b → ⊥) → bytes_eq a b ≡ false
other_name a b apart = false_from_ne_true (bytes_eq a b) (λ e. apart ((bytes_eq-Decides a b).0 e))

no_other : (a : EntryRec) (v : ℕ) (xs : List EntryRec) → a.dir ≡ v → All (λ (b : EntryRec). a.dir ≡ b.dir → a.name ≢ b.name) xs
    → list_any (λ (o : EntryRec). bytes_eq a.name o.name) (filter (λ (e : EntryRec). e.dir == v) xs) ≡ false
no_other a v [] same apart = refl
no_other a v (x ∷ xs) same apart = either (x.dir == v) refl (no_other a v xs same (λ k d h. apart (suc k) d (omega arith)))
  where
    either : (t : Bool) → x.dir == v ≡ t → list_any (λ (o : EntryRec). bytes_eq a.name o.name) (filter (λ (e : EntryRec). e.dir == v) xs) ≡ false
        → list_any (λ (o : EntryRec). bytes_eq a.name o.name) (cond t (x ∷ filter (λ (e : EntryRec). e.dir == v) xs) (filter (λ (e : EntryRec). e.dir == v) xs)) ≡ false
    either true at rest = or_from (bytes_eq a.name x.name) _ (other_name a.name x.name (apart 0 x (omega arith) (same ∙ sym (eqb-true x.dir v at)))) rest
    either false at rest = rest

differ_in : (v : ℕ) (xs : List EntryRec) → AllPairs (λ (a b : EntryRec). a.dir ≡ b.dir → a.name ≢ b.name) xs → names_differ (filter (λ (e : EntryRec). e.dir == v) xs) ≡ true
differ_in v [] apart = refl
differ_in v (x ∷ xs) apart = either (x.dir == v) refl (differ_in v xs (λ i j d less h. apart (suc i) (suc j) d (omega arith) (omega arith)))
  where
    either : (t : Bool) → x.dir == v ≡ t → names_differ (filter (λ (e : EntryRec). e.dir == v) xs) ≡ true
        → names_differ (cond t (x ∷ filter (λ (e : EntryRec). e.dir == v) xs) (filter (λ (e : EntryRec). e.dir == v) xs)) ≡ true
    either true at rest = and_from (not (list_any (λ (o : EntryRec). bytes_eq x.name o.name) (filter (λ (e : EntryRec). e.dir == v) xs))) _
        (ap not (no_other x v xs (eqb-true x.dir v at) (λ k d h. apart 0 (suc k) d (omega arith) (omega arith)))) rest
    either false at rest = rest

-- a number that is not one of the system's
ordinary_from : (root x : ℕ) → is_system root x ≡ false → IsOrdinary root x
ordinary_from root x h =
    let parts = or_parts (x == root + 1) (x == root + 2) h in
    (eqb-false x (root + 1) parts.0, eqb-false x (root + 2) parts.1)

ordinary_is : (root x : ℕ) → IsOrdinary root x → is_system root x ≡ false
ordinary_is root x h = or_from (x == root + 1) (x == root + 2) (ne_eqb x (root + 1) h.0) (ne_eqb x (root + 2) h.1)

module _ (root : ℕ) (files : List FileRec) (entries : List EntryRec) (dirs : List DirRec) (named : AreNamed files entries dirs) where
  pub judged_entries : HasLawfulEntries root files entries dirs → first_broken (directory_laws root files entries dirs) ≡ None
  unfolding directory_laws
  judged_entries says = none_broken (directory_at root files entries) dirs (λ k d h. all_right (get_or dirs k d) (says.whole k d h))
    where
      target : (k : ℕ) (d : EntryRec) → k < length entries → has_target root files (get_or entries k d) ≡ true
      target k d h = and_from (is_in_use files (get_or entries k d).ino) _
          (any_from (λ (f : FileRec). f.ino == (get_or entries k d).ino) _ files (λ f e. eq-eqb f.ino _ e) (says.in_use k d h))
          (ap not (ordinary_is root (get_or entries k d).ino (says.ordinary k d h)))

      typed : (k : ℕ) (d : EntryRec) → k < length entries → has_type files (get_or entries k d) ≡ true
      typed k d h = elim (says.types k d h) [
        | inl none ↦ or_left ((get_or entries k d).ftype == 0) _ (eq-eqb (get_or entries k d).ftype 0 none)
        | inr one ↦ or_right ((get_or entries k d).ftype == 0) _
            (any_from (λ (f : FileRec). f.ino == (get_or entries k d).ino && entry_type (type_of f) == (get_or entries k d).ftype) _ files
            (λ f e. and_from (f.ino == (get_or entries k d).ino) _ (eq-eqb f.ino _ e.0) (eq-eqb _ _ (sym e.1))) one)
      ]

      all_right : (d : DirRec) → d.whole ≡ true → first_failing (directory_tests root files (entries_in entries d.ino) d) ≡ 0
      all_right d whole = four_hold d.whole (list_all (λ (e : EntryRec). is_name e.name) (entries_in entries d.ino) && names_differ (entries_in entries d.ino))
          (list_all (has_target root files) (entries_in entries d.ino)) (list_all (has_type files) (entries_in entries d.ino)) whole
          (and_from (list_all (λ (e : EntryRec). is_name e.name) (entries_in entries d.ino)) _
          (all_filter (λ (e : EntryRec). is_name e.name) (λ (e : EntryRec). e.dir == d.ino) entries (λ k e h at. says.valid k e h)) (differ_in d.ino entries says.differ))
          (all_filter (has_target root files) (λ (e : EntryRec). e.dir == d.ino) entries (λ k e h at. target k e h))
          (all_filter (has_type files) (λ (e : EntryRec). e.dir == d.ino) entries (λ k e h at. typed k e h))

  no_names : (x : ℕ) → list_any (λ (e : EntryRec). e.ino == x) entries ≡ false → length (entries_to entries x) == 0 ≡ true
  no_names x none = not-false (length (entries_to entries x) == 0) (any_in_run (λ (e : EntryRec). e.ino == x) entries ∙ none)

  some_names : (x : ℕ) → list_any (λ (e : EntryRec). e.ino == x) entries ≡ true → nat_le 1 (length (entries_to entries x)) ≡ true
  some_names x some =
      let none : length (entries_to entries x) == 0 ≡ false = not-true (length (entries_to entries x) == 0) (any_in_run (λ (e : EntryRec). e.ino == x) entries ∙ some) in
      le-leb 1 (length (entries_to entries x)) (positive (length (entries_to entries x)) (eqb-false (length (entries_to entries x)) 0 none))
    where
      positive : (n : ℕ) → (n ≡ 0 → ⊥) → 1 ≤ n
      positive zero apart = absurd (apart refl)
      positive (suc n) apart = omega arith

  pub judged_places : ((x : ℕ) → is_directory_at files x ≡ true → IsReached entries root x → is_reached dirs entries root x ≡ true)
      → HasLawfulPlaces root files entries dirs → first_broken (place_laws root files entries dirs) ≡ None
  unfolding place_laws
  judged_places ways says = none_broken_in (place_law root files entries dirs) (with_number root (numbers_of files))
      (λ x h. at x (sym (in_with root (numbers_of files) x ∙ ap (λ (t : Bool). x == root || t) (in_numbers files x)) ∙ h))
    where
      unnamed : list_any (λ (e : EntryRec). e.ino == root) entries ≡ false
      unnamed = false_from_ne_true _ (λ e. let found = Any-from_list_any (λ (e : EntryRec). e.ino == root) entries e in
          says.root_unnamed found.0 found.1 found.2 (ap (λ (e : EntryRec). e.ino) found.3 ∙ eqb-true found.1.ino root found.4))

      at_the_root : first_failing (root_tests root files entries dirs) ≡ 0
      at_the_root = three_hold (length (entries_to entries root) == 0) (not (is_directory_at files root) || states_parent dirs root root) (is_directory_at files root)
          (no_names root unnamed)
          (or_right (not (is_directory_at files root)) _ (any_from (λ (d : DirRec). d.ino == root && d.parent == root) _ dirs (λ d e. and_from (d.ino == root) _ (eq-eqb d.ino root e.0) (eq-eqb d.parent root e.1)) says.root_parent))
          (any_from (λ (f : FileRec). f.ino == root && is_directory f) _ files (λ f e. and_from (f.ino == root) _ (eq-eqb f.ino root e.0) (eq-eqb (type_of f) 4 e.1)) says.root_directory)

      at_other : (x : ℕ) → (x ≡ root → ⊥) → is_directory_at files x ≡ true → first_failing (other_directory_tests root entries dirs x) ≡ 0
      at_other x apart dir =
          let found = Any-from_list_any (λ (d : DirRec). d.ino == x) dirs (has_record_is files entries dirs named x ∙ dir) in
          let same : (get_or dirs found.0 found.1).ino ≡ x = ap (λ (d : DirRec). d.ino) found.3 ∙ eqb-true found.1.ino x found.4 in
          three_hold (length (entries_to entries x) == 1) (list_all (λ (e : EntryRec). states_parent dirs x e.dir) (entries_to entries x)) (is_reached dirs entries root x)
          (eq-eqb (length (entries_to entries x)) 1 (subst (λ (n : ℕ). length (entries_to entries n) ≡ 1) same (says.once found.0 found.1 found.2 (λ e. apart (sym same ∙ e)))))
          (all_filter (λ (e : EntryRec). states_parent dirs x e.dir) (λ (e : EntryRec). e.ino == x) entries (λ k e h at. below k e h (eqb-true (get_or entries k e).ino x at)))
          (ways x dir (subst (IsReached entries root) same (says.reached found.0 found.1 found.2)))
        where
          below : (k : ℕ) (e : EntryRec) → k < length entries → (get_or entries k e).ino ≡ x → states_parent dirs x (get_or entries k e).dir ≡ true
          below k e h same = any_from (λ (d : DirRec). d.ino == x && d.parent == (get_or entries k e).dir) _ dirs
              (λ d f. and_from (d.ino == x) _ (eq-eqb d.ino x (f.0 ∙ same)) (eq-eqb d.parent _ f.1)) (says.by_parent k e h (ap (is_directory_at files) same ∙ dir))

      at_file : (x : ℕ) → is_directory_at files x ≡ false → is_in_use files x ≡ true → first_failing (other_file_tests root entries x) ≡ 0
      at_file x other used = one_holds (is_system root x || nat_le 1 (length (entries_to entries x))) (elim (cases_Bool (is_system root x)) [
        | inl system ↦ or_left (is_system root x) _ system
        | inr ordinary ↦ or_right (is_system root x) _ (some_names x (any_from (λ (e : EntryRec). e.ino == x) _ entries (λ e f. eq-eqb e.ino x f) (has_one ordinary)))
      ])
        where
          has_one : is_system root x ≡ false → Any (λ (e : EntryRec). e.ino ≡ x) entries
          has_one ordinary =
              let found = Any-from_list_any (λ (f : FileRec). f.ino == x) files used in
              let same : (get_or files found.0 found.1).ino ≡ x = ap (λ (f : FileRec). f.ino) found.3 ∙ eqb-true found.1.ino x found.4 in
              let no_dir : is_directory (get_or files found.0 found.1) ≡ false = sym (own_test is_directory 0 files named.files_ascend found.0 found.1 found.2) ∙ ap (is_directory_at files) same ∙ other in
              subst (λ (n : ℕ). Any (λ (e : EntryRec). e.ino ≡ n) entries) same
              (says.named found.0 found.1 found.2 (eqb-false (type_of (get_or files found.0 found.1)) 4 no_dir) (subst (IsOrdinary root) (sym same) (ordinary_from root x ordinary)))

      at : (x : ℕ) → (x == root || is_in_use files x) ≡ true → first_failing (place_tests root files entries dirs x) ≡ 0
      at x there = elim (cases_eq x root) [
        | inl same ↦ (ap (λ (t : Bool). first_failing (cond t (root_tests root files entries dirs) (cond (is_directory_at files x) (other_directory_tests root entries dirs x) (other_file_tests root entries x)))) (eq-eqb x root same) ∙ at_the_root)
        | inr apart ↦ (ap (λ (t : Bool). first_failing (cond t (root_tests root files entries dirs) (cond (is_directory_at files x) (other_directory_tests root entries dirs x) (other_file_tests root entries x)))) (ne_eqb x root apart)
            ∙ (elim (cases_Bool (is_directory_at files x)) [
              | inl dir ↦ (ap (λ (t : Bool). first_failing (cond t (other_directory_tests root entries dirs x) (other_file_tests root entries x))) dir ∙ at_other x apart dir)
              | inr other ↦ (ap (λ (t : Bool). first_failing (cond t (other_directory_tests root entries dirs x) (other_file_tests root entries x))) other
                  ∙ at_file x other (elim (or_cases (x == root) _ there) [ inl same ↦ absurd (apart (eqb-true x root same)) | inr used ↦ used ]))
            ]))
      ]

  pub judged_links : HasLawfulLinks root files entries → first_broken (link_laws root files entries) ≡ None
  unfolding link_laws
  judged_links says = none_broken_in (λ (ino : ℕ). links_at root files entries (file_at files ino) ino) (with_number (root + 1) (with_number (root + 2) (numbers_of files)))
      (λ x h. at x (sym (in_with (root + 1) (with_number (root + 2) (numbers_of files)) x ∙ ap (λ (t : Bool). x == root + 1 || t) (in_with (root + 2) (numbers_of files) x ∙ ap (λ (t : Bool). x == root + 2 || t) (in_numbers files x))) ∙ h))
    where
      empty_is : (f : FileRec) (x : ℕ) → IsSystemFile x f → is_empty_regular f ≡ true
      empty_is f x file = and_from _ (length f.rest.tree == 0) (and_from _ (length f.extents == 0) (and_from (type_of f == 8) (f.core.size == 0) (eq-eqb (type_of f) 8 file.regular) (eq-eqb f.core.size 0 file.no_bytes)) (eq-eqb (length f.extents) 0 file.no_data)) (eq-eqb (length f.rest.tree) 0 file.no_tree)

      at_system : (x : ℕ) → is_system root x ≡ true → Any (IsSystemFile x) files → (links_at root files entries (file_at files x) x).held ≡ (links_at root files entries (file_at files x) x).due
      at_system x system (k, f, low, is, file) =
          let same : (get_or files k f).ino ≡ x = ap (λ (g : FileRec). g.ino) is ∙ file.number in
          let found : file_at files x ≡ Some f = ap (file_at files) (sym same) ∙ own_file 0 files named.files_ascend k f low ∙ ap (λ (g : FileRec). Some g) is in
          subst (λ (o : Option FileRec). (links_at root files entries o x).held ≡ (links_at root files entries o x).due) (sym found) (on (is_system root x) (is_empty_regular f) system (empty_is f x file))
        where
          on : (t u : Bool) → t ≡ true → u ≡ true → (let l : Law = cond t (cond u (law_at 9 x f.core.nlink 1) (law_at 9 x 0 1)) (law_at 9 x f.core.nlink (links_of files entries f)) in l.held ≡ l.due)
          on true true e g = file.one_link
          on true false e g = cc
          on false u e g = cc

      at_file : (x : ℕ) → is_system root x ≡ false → is_in_use files x ≡ true → (links_at root files entries (file_at files x) x).held ≡ (links_at root files entries (file_at files x) x).due
      at_file x ordinary used =
          let found = Any-from_list_any (λ (f : FileRec). f.ino == x) files used in
          let same : (get_or files found.0 found.1).ino ≡ x = ap (λ (f : FileRec). f.ino) found.3 ∙ eqb-true found.1.ino x found.4 in
          subst (λ (n : ℕ). (links_at root files entries (file_at files n) n).held ≡ (links_at root files entries (file_at files n) n).due) same
          (subst (λ (o : Option FileRec). (links_at root files entries o (get_or files found.0 found.1).ino).held ≡ (links_at root files entries o (get_or files found.0 found.1).ino).due) (sym (own_file 0 files named.files_ascend found.0 found.1 found.2))
          (on (is_system root (get_or files found.0 found.1).ino) (ap (is_system root) same ∙ ordinary) (get_or files found.0 found.1) (as_many found.0 found.1 found.2 (subst (IsOrdinary root) (sym same) (ordinary_from root x ordinary)))))
        where
          as_many : (k : ℕ) (d : FileRec) → k < length files → IsOrdinary root (get_or files k d).ino → (get_or files k d).core.nlink ≡ links_of files entries (get_or files k d)
          as_many k d h plain = elim (cases_eq (type_of (get_or files k d)) 4) [
            | inl dir ↦ says.of_directories k d h dir ∙ sym (ap (λ (t : Bool). cond t (2 + count_by (λ (e : EntryRec). is_directory_at files e.ino) (entries_in entries (get_or files k d).ino)) (length (entries_to entries (get_or files k d).ino))) (eq-eqb (type_of (get_or files k d)) 4 dir))
            | inr other ↦ says.of_others k d h other plain ∙ sym (ap (λ (t : Bool). cond t (2 + count_by (λ (e : EntryRec). is_directory_at files e.ino) (entries_in entries (get_or files k d).ino)) (length (entries_to entries (get_or files k d).ino))) (ne_eqb (type_of (get_or files k d)) 4 other))
          ]

          on : (t : Bool) → t ≡ false → (f : FileRec) → f.core.nlink ≡ links_of files entries f
              → (let l : Law = cond t (cond (is_empty_regular f) (law_at 9 f.ino f.core.nlink 1) (law_at 9 f.ino 0 1)) (law_at 9 f.ino f.core.nlink (links_of files entries f)) in l.held ≡ l.due)
          on true e f l = cc
          on false e f l = l

      at : (x : ℕ) → (x == root + 1 || (x == root + 2 || is_in_use files x)) ≡ true → (links_at root files entries (file_at files x) x).held ≡ (links_at root files entries (file_at files x) x).due
      at x there = elim (cases_eq x (root + 1)) [
        | inl first ↦ at_system x (or_left (x == root + 1) _ (eq-eqb x (root + 1) first)) (subst (λ (n : ℕ). Any (IsSystemFile n) files) (sym first) says.first)
        | inr apart ↦ (elim (cases_eq x (root + 2)) [
          | inl second ↦ at_system x (or_right (x == root + 1) _ (eq-eqb x (root + 2) second)) (subst (λ (n : ℕ). Any (IsSystemFile n) files) (sym second) says.second)
          | inr away ↦ at_file x (or_from (x == root + 1) (x == root + 2) (ne_eqb x (root + 1) apart) (ne_eqb x (root + 2) away))
              (elim (or_cases (x == root + 1) _ there) [
                | inl one ↦ absurd (apart (eqb-true x (root + 1) one))
                | inr more ↦ (elim (or_cases (x == root + 2) _ more) [ inl two ↦ absurd (away (eqb-true x (root + 2) two)) | inr used ↦ used ])
              ])
        ])
      ]

  pub judged_names : ((x : ℕ) → is_directory_at files x ≡ true → IsReached entries root x → is_reached dirs entries root x ≡ true)
      → IsNamingLawful root files entries dirs → first_broken (naming_laws root files entries dirs) ≡ None
  unfolding naming_laws
  judged_names ways says =
      first_behind (directory_laws root files entries dirs ++ place_laws root files entries dirs) (link_laws root files entries)
      (first_behind (directory_laws root files entries dirs) (place_laws root files entries dirs) (judged_entries says.directories) ∙ judged_places ways says.places)
      ∙ judged_links says.links
