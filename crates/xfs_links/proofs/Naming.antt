-- Of the entries that stay just one names a directory with a parent, and none a directory without.
use Rattle.std.proofs.Common.{◌≡◌, ◌≢◌, ℕ, ◌+◌, ◌==◌, ◌&&◌, ◌||◌, ◌⊎◌, inl, inr, Bool, true, false, not, cond, List, [], ◌∷◌, ◌++◌, map, refl, sym, ◌∙◌, ap, arith, Option, None, Some, if◌then◌else◌}
use Rattle.std.specs.List.{list_any, filter, All}
use Rattle.std.proofs.lemmas.Bool.{cases_eq}
use Rattle.std.proofs.lemmas.Bool.Decides.{nat_tests}
use Rattle.std.proofs.lemmas.List.Folds.{list_any-append}
use Rattle.std.proofs.lemmas.List.Elements.{All-head, All-tail}
use Rattle.xfs_collections.specs.Lists.{has_node}
use Rattle.xfs_dirdata.specs.declared.records.EntryRec.{EntryRec}
use Rattle.xfs_naming.specs.Naming.{entries_to}
use Rattle.xfs_links.specs.declared.records.NodeRec.{NodeRec}
use Rattle.xfs_links.specs.declared.walk.Attached.{Attached}
use Rattle.xfs_volume.specs.Names.{is_name}
use Rattle.xfs_links.specs.Entries.{is_kept_node, is_directory_number, passes, candidate_entries}
use Rattle.xfs_links.specs.Walk.{is_attached, attached_parent}
use Rattle.xfs_links.specs.Connected.{has_entry, named_by, attached_directories, is_parent, stays, staying, is_orphan, names_lost_found, is_in_the_way, cleared_entries, kept_entries}
use Rattle.xfs_links.proofs.Holding.{all_sound, kept_pass}
use Rattle.xfs_links.specs.Hanging.{IsNamedOnce, IsUnnamed}
use Rattle.xfs_links.proofs.Tests.{clash, same_test, other_test, and_false, and_true, or_true, or_false, neither, the_second}
use Rattle.xfs_links.proofs.Hung.{all_hung, named_hung}

-- an entry that names a directory stays where its own is the parent, unless one that stays names the directory already
stays_where : (files : List NodeRec) (s : List Attached) (before : List EntryRec) (e : EntryRec) (n : ℕ) → e.ino ≡ n → is_directory_number files n ≡ true
    → stays files s before e ≡ (is_parent e.dir (attached_parent s n) && not (has_entry before n))
stays_where files s before e n same dir =
    ap (λ m. if is_directory_number files m then (is_parent e.dir (attached_parent s m) && not (has_entry before m)) else true) same
    ∙ ap (λ t. if t then (is_parent e.dir (attached_parent s n) && not (has_entry before n)) else true) dir

named_last : (before : List EntryRec) (e : EntryRec) (n : ℕ) → has_entry (before ++ e ∷ []) n ≡ (has_entry before n || e.ino == n)
named_last before e n = list_any-append (λ (b : EntryRec). b.ino == n) before (e ∷ []) ∙ ap (λ t. has_entry before n || t) (or_false (e.ino == n))

-- one more entry, which names the file or another
pub name_here : (e : EntryRec) (es : List EntryRec) (n : ℕ) → e.ino ≡ n → entries_to (e ∷ es) n ≡ e ∷ entries_to es n
name_here e es n same = ap (λ t. cond t (e ∷ entries_to es n) (entries_to es n)) (same_test e.ino n same)

pub name_other : (e : EntryRec) (es : List EntryRec) (n : ℕ) → (e.ino ≡ n → ⊥) → entries_to (e ∷ es) n ≡ entries_to es n
name_other e es n other = ap (λ t. cond t (e ∷ entries_to es n) (entries_to es n)) (other_test e.ino n other)

module _ (files : List NodeRec) (s : List Attached) (n : ℕ) (dir : is_directory_number files n ≡ true) where
  -- an entry that stays is the only one
  none_again : (before es : List EntryRec) → has_entry before n ≡ true → entries_to (staying files s before es) n ≡ []
  none_again before [] seen = refl
  none_again before (e ∷ es) seen =
      either (cases_eq e.ino n) (stays files s before e) refl (none_again (before ++ e ∷ []) es (named_last before e n ∙ ap (λ t. t || e.ino == n) seen)) (none_again before es seen)
    where
      out : e.ino ≡ n → stays files s before e ≡ false
      out same = stays_where files s before e n same dir ∙ ap (λ t. is_parent e.dir (attached_parent s n) && not t) seen ∙ and_false (is_parent e.dir (attached_parent s n))

      either : (e.ino ≡ n) ⊎ (e.ino ≡ n → ⊥) → (t : Bool) → stays files s before e ≡ t → entries_to (staying files s (before ++ e ∷ []) es) n ≡ [] → entries_to (staying files s before es) n ≡ []
          → entries_to (if t then (e ∷ staying files s (before ++ e ∷ []) es) else staying files s before es) n ≡ []
      either c false k p q = q
      either (inl same) true k p q = clash (sym (out same) ∙ k)
      either (inr other) true k p q = name_other e (staying files s (before ++ e ∷ []) es) n other ∙ p

  -- one whose directory is not the parent does not stay
  none_stays : (before es : List EntryRec) → attached_parent s n ≡ None → entries_to (staying files s before es) n ≡ []
  none_stays before [] none = refl
  none_stays before (e ∷ es) none = either (cases_eq e.ino n) (stays files s before e) refl (none_stays (before ++ e ∷ []) es none) (none_stays before es none)
    where
      out : e.ino ≡ n → stays files s before e ≡ false
      out same = stays_where files s before e n same dir ∙ ap (λ o. is_parent e.dir o && not (has_entry before n)) none

      either : (e.ino ≡ n) ⊎ (e.ino ≡ n → ⊥) → (t : Bool) → stays files s before e ≡ t → entries_to (staying files s (before ++ e ∷ []) es) n ≡ [] → entries_to (staying files s before es) n ≡ []
          → entries_to (if t then (e ∷ staying files s (before ++ e ∷ []) es) else staying files s before es) n ≡ []
      either c false k p q = q
      either (inl same) true k p q = clash (sym (out same) ∙ k)
      either (inr other) true k p q = name_other e (staying files s (before ++ e ∷ []) es) n other ∙ p

  -- an entry that is not the parent's, or names another file, is none by which the parent names this one
  named_further : (e : EntryRec) (es : List EntryRec) (p : ℕ) → (e.ino ≡ n → ⊥) ⊎ ((e.dir == p) ≡ false) → has_node n (named_by files (e ∷ es) p) ≡ true → has_node n (named_by files es p) ≡ true
  named_further e es p c h = either c (e.dir == p) refl (is_directory_number files e.ino) h
    where
      either : (e.ino ≡ n → ⊥) ⊎ ((e.dir == p) ≡ false) → (t : Bool) → (e.dir == p) ≡ t → (u : Bool)
          → has_node n (map (λ (e : EntryRec). e.ino) (cond (t && u) (e ∷ filter (λ e. e.dir == p && is_directory_number files e.ino) es) (filter (λ e. e.dir == p && is_directory_number files e.ino) es))) ≡ true → has_node n (named_by files es p) ≡ true
      either c false k u h = h
      either c true k false h = h
      either (inl other) true k true h = the_second (e.ino == n) (has_node n (named_by files es p)) (other_test e.ino n other) h
      either (inr off) true k true h = clash (sym off ∙ k)

  -- of those by which the parent names the directory the first stays
  just_one : (before es : List EntryRec) (p : ℕ) → attached_parent s n ≡ Some p → has_entry before n ≡ false → has_node n (named_by files es p) ≡ true → IsNamedOnce (staying files s before es) n p
  just_one before [] p par new h = cc
  just_one before (e ∷ es) p par new h =
      either (cases_eq e.ino n) (p == e.dir) refl (stays files s before e) refl (λ other k. just_one (before ++ e ∷ []) es p par (unnamed other) k) (λ k. just_one before es p par new k)
    where
      unnamed : (e.ino ≡ n → ⊥) → has_entry (before ++ e ∷ []) n ≡ false
      unnamed other = named_last before e n ∙ neither (has_entry before n) (e.ino == n) new (other_test e.ino n other)

      told : e.ino ≡ n → stays files s before e ≡ (p == e.dir)
      told same = stays_where files s before e n same dir ∙ ap (λ o. is_parent e.dir o && not (has_entry before n)) par ∙ ap (λ t. (p == e.dir) && not t) new ∙ and_true (p == e.dir)

      turned : (p == e.dir) ≡ false → (e.dir == p) ≡ false
      turned k = grind (arith, nat_tests)

      once_more : e.ino ≡ n → (p == e.dir) ≡ true → IsNamedOnce (e ∷ staying files s (before ++ e ∷ []) es) n p
      once_more same k = let of : e.dir ≡ p = grind (arith, nat_tests) in (
        e,
        name_here e (staying files s (before ++ e ∷ []) es) n same ∙ ap (λ r. e ∷ r) (none_again (before ++ e ∷ []) es (named_last before e n ∙ or_true (has_entry before n) (e.ino == n) (same_test e.ino n same))),
        of,
      )

      over : (es' : List EntryRec) → (e.ino ≡ n → ⊥) → IsNamedOnce es' n p → IsNamedOnce (e ∷ es') n p
      over es' other k = (k.0, name_other e es' n other ∙ k.1, k.2)

      either : (e.ino ≡ n) ⊎ (e.ino ≡ n → ⊥) → (u : Bool) → (p == e.dir) ≡ u → (t : Bool) → stays files s before e ≡ t
          → ((e.ino ≡ n → ⊥) → has_node n (named_by files es p) ≡ true → IsNamedOnce (staying files s (before ++ e ∷ []) es) n p) → (has_node n (named_by files es p) ≡ true → IsNamedOnce (staying files s before es) n p)
          → IsNamedOnce (if t then (e ∷ staying files s (before ++ e ∷ []) es) else staying files s before es) n p
      either (inl same) true i true k r q = once_more same i
      either (inl same) true i false k r q = clash (sym k ∙ told same ∙ i)
      either (inl same) false i true k r q = clash (sym i ∙ sym (told same) ∙ k)
      either (inl same) false i false k r q = q (named_further e es p (inr (turned i)) h)
      either (inr other) u i true k r q = over (staying files s (before ++ e ∷ []) es) other (r other (named_further e es p (inl other) h))
      either (inr other) u i false k r q = q (named_further e es p (inl other) h)

  -- what is in the way names no directory
  way_clear : (root : ℕ) (es : List EntryRec) → entries_to (filter (λ e. not (is_in_the_way files root e)) es) n ≡ entries_to es n
  way_clear root [] = refl
  way_clear root (e ∷ es) = either (cases_eq e.ino n) (is_in_the_way files root e) refl (way_clear root es)
    where
      free : e.ino ≡ n → is_in_the_way files root e ≡ false
      free same = ap (λ m. names_lost_found root e && not (is_directory_number files m)) same ∙ ap (λ t. names_lost_found root e && not t) dir ∙ and_false (names_lost_found root e)

      either : (e.ino ≡ n) ⊎ (e.ino ≡ n → ⊥) → (t : Bool) → is_in_the_way files root e ≡ t → entries_to (filter (λ e. not (is_in_the_way files root e)) es) n ≡ entries_to es n
          → entries_to (cond (not t) (e ∷ filter (λ e. not (is_in_the_way files root e)) es) (filter (λ e. not (is_in_the_way files root e)) es)) n ≡ entries_to (e ∷ es) n
      either (inl same) true k r = clash (sym (free same) ∙ k)
      either (inr other) true k r = r ∙ sym (name_other e es n other)
      either c false k r = ap (λ xs. cond (e.ino == n) (e ∷ xs) xs) r

  names_cleared : (root : ℕ) (es : List EntryRec) → entries_to (cleared_entries files root s es) n ≡ entries_to es n
  names_cleared root es = either (list_any (λ f. is_orphan files root s es f.ino) files)
    where
      either : (t : Bool) → entries_to (if t then filter (λ e. not (is_in_the_way files root e)) es else es) n ≡ entries_to es n
      either true = way_clear root es
      either false = refl

-- a directory that has a parent is attached
parent_attached : (s : List Attached) (n p : ℕ) → attached_parent s n ≡ Some p → is_attached s n ≡ true
parent_attached [] n p e = cc
parent_attached (a ∷ s) n p e = either (a.directory == n) e (parent_attached s n p)
  where
    either : (t : Bool) → (if t then a.parent else attached_parent s n) ≡ Some p → (attached_parent s n ≡ Some p → is_attached s n ≡ true) → (t || is_attached s n) ≡ true
    either true k r = refl
    either false k r = r k

pub named_once : (files : List NodeRec) (entries : List EntryRec) (root n p : ℕ) → is_directory_number files root ≡ true → n ≢ root → attached_parent (attached_directories files entries root) n ≡ Some p → IsNamedOnce (kept_entries files entries root) n p
named_once files entries root n p root_dir other par =
    elim (named_hung (named_by files (candidate_entries files root entries)) root [] (attached_directories files entries root) n p (all_hung files entries root) par) [
      | inl same ↦ absurd (other same)
      | inr h ↦ kept (just_one files (attached_directories files entries root) n dir [] (candidate_entries files root entries) p par refl h)
    ]
  where
    dir : is_directory_number files n ≡ true
    dir = (all_sound files entries root root_dir).known n (parent_attached (attached_directories files entries root) n p par)

    kept : IsNamedOnce (staying files (attached_directories files entries root) [] (candidate_entries files root entries)) n p → IsNamedOnce (kept_entries files entries root) n p
    kept k = (k.0, names_cleared files (attached_directories files entries root) n dir root (staying files (attached_directories files entries root) [] (candidate_entries files root entries)) ∙ k.1, k.2)

pub orphan_unnamed : (files : List NodeRec) (entries : List EntryRec) (root n : ℕ) → is_directory_number files n ≡ true → attached_parent (attached_directories files entries root) n ≡ None → IsUnnamed (kept_entries files entries root) n
orphan_unnamed files entries root n dir none =
    names_cleared files (attached_directories files entries root) n dir root (staying files (attached_directories files entries root) [] (candidate_entries files root entries))
    ∙ none_stays files (attached_directories files entries root) n dir [] (candidate_entries files root entries) none

-- no entry that stays names the root
none_names : (files : List NodeRec) (root : ℕ) (es : List EntryRec) → All (λ (e : EntryRec). passes files root e ≡ true) es → entries_to es root ≡ []
none_names files root [] h = refl
none_names files root (e ∷ es) h = name_other e es root off ∙ none_names files root es (All-tail (λ (e : EntryRec). passes files root e ≡ true) e es h)
  where
    fails : (a b t u v : Bool) → t ≡ true → (a && (b && not (t || (u || v)))) ≡ false
    fails a b t u v k = grind (arith, nat_tests)

    off : e.ino ≡ root → ⊥
    off same = clash (sym (fails (is_name e.name) (is_kept_node files e.ino) (e.ino == root) (e.ino == root + 1) (e.ino == root + 2) (same_test e.ino root same)) ∙ All-head (λ (e : EntryRec). passes files root e ≡ true) e es h)

pub root_unnamed : (files : List NodeRec) (entries : List EntryRec) (root : ℕ) → IsUnnamed (kept_entries files entries root) root
root_unnamed files entries root = none_names files root (kept_entries files entries root) (kept_pass files entries root)

-- a directory that none names has no parent
pub unnamed_starts : (files : List NodeRec) (entries : List EntryRec) (root n : ℕ) → is_directory_number files root ≡ true → n ≢ root → IsUnnamed (kept_entries files entries root) n → attached_parent (attached_directories files entries root) n ≡ None
unnamed_starts files entries root n root_dir other none = either (attached_parent (attached_directories files entries root) n) refl
  where
    some : (p : ℕ) → IsNamedOnce (kept_entries files entries root) n p → ⊥
    some p k = let both : [] ≡ k.0 ∷ [] = sym none ∙ k.1 in cc

    either : (o : Option ℕ) → attached_parent (attached_directories files entries root) n ≡ o → o ≡ None
    either None e = refl
    either (Some p) e = absurd (some p (named_once files entries root n p root_dir other e))
