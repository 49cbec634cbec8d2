-- The entries and directories of the due files are those that are kept.
use Rattle.std.proofs.Common.{◌≡◌, ℕ, Bool, true, false, cond, ◌+◌, ◌≤◌, ◌<◌, ◌⊎◌, inl, inr, ◌&&◌, ◌||◌, ◌==◌, nat_lt, if◌then◌else◌, List, [], ◌∷◌, ◌++◌, map, Option, Some, is_some, refl, sym, ap, ap₂, ◌∙◌, subst, arith}
use Rattle.std.specs.List.{AllByRecursion, filter, flat_map, list_all}
use Rattle.std.proofs.lemmas.Bool.{and_from, and_parts, both_ways, cases_eq, cases_lt, eq-eqb, eqb-true, false_from_ne_true, le-ltb, lt-ltb, ne_eqb}
use Rattle.std.proofs.lemmas.List.{append-nil}
use Rattle.xfs_disk.specs.Blocks.{Image}
use Rattle.xfs_disk.specs.Lists.{is_among}
use Rattle.xfs_disk.specs.declared.stamp.Stamp.{Stamp}
use Rattle.xfs_word.specs.Field.{part_of}
use Rattle.xfs_dirdata.specs.Short.{ShortForm, short_of}
use Rattle.xfs_dirdata.specs.declared.records.EntryRec.{EntryRec}
use Rattle.xfs_geom.specs.Volumes.{Volume, volume_of}
use Rattle.xfs_geom.specs.declared.geometry.Geometry.{Geometry}
use Rattle.xfs_claims.specs.Ranks.{placed_by_number}
use Rattle.xfs_image.specs.Candidates.{candidates}
use Rattle.xfs_image.specs.Claims.{candidate_files}
use Rattle.xfs_image.specs.Directories.{data_blocks, dir_of, directories, dirs_read, entries_of, entries_of_form, entries_read, is_whole, parent_of, parent_of_form, short_form}
use Rattle.xfs_image.specs.Slots.{slot_bytes}
use Rattle.xfs_rename.proofs.xfs_made.Candidates.{image_can}
use Rattle.xfs_naming.specs.Naming.{AreGrouped, NumbersAscend, is_directory_at, numbers_of}
use Rattle.xfs_views.proofs.Members.{Member, any_member, filter_member, member_any, member_filter}
use Rattle.xfs_salvage.proofs.Ascending.{claiming_ascend}
use Rattle.xfs_salvage.specs.Kept.{entries_of_kept, is_kept_file, kept_dirs, kept_files}
use Rattle.xfs_salvage.specs.declared.found.Salvaged.{Salvaged}
use Rattle.xfs_views.proofs.Names.{entries_grouped}
use Rattle.xfs_volume.specs.Names.{is_directory}
use Rattle.xfs_volume.specs.declared.directories.DirRec.{DirRec}
use Rattle.xfs_volume.specs.declared.files.FileRec.{FileRec}
use Rattle.xfs_volume.specs.Rest.{no_rest}
use Rattle.xfs_rename.specs.xfs_request.Fresh.{new_slot, new_root_core, new_root_slot, new_system_core, new_system_slot}
use Rattle.xfs_rename.specs.xfs_request.declared.seen.SlotSeen.{SlotSeen}
use Rattle.xfs_render.specs.Slots.{IsMadeSlot}
use Rattle.xfs_restored.specs.DueFiles.{due_file, fresh_file, fresh_root, rebuilt_dirs, rebuilt_files, with_new}
use Rattle.xfs_restored.specs.Kept.{HasKept}
use Rattle.xfs_restored.proofs.DirectoriesRead.{kept_dir_same, kept_entries_same}
use Rattle.xfs_restored.proofs.DueList.{fresh_ascend}
use Rattle.xfs_restored.proofs.DueOwners.{mapped_same, new_nothing}
use Rattle.xfs_restored.proofs.Fresh.{empty_form, made_root}
use Rattle.xfs_restored.proofs.RereadSlots.{files_ascend}
use Rattle.xfs_restored.proofs.Others.{fresh_made}
use Rattle.xfs_restored.proofs.RootInodes.{low_root}
use Rattle.xfs_restored.proofs.Wanted.{one_alone}

abbrev number : FileRec → ℕ
number f = f.ino

abbrev dir_number : DirRec → ℕ
dir_number d = d.ino

-- the entries of a directory are its own
entries_own : (v : Volume) (image : Image) (f : FileRec) → is_directory f ≡ true → list_all (λ (e : EntryRec). e.dir == f.ino) (entries_of v image f) ≡ true
unfolding directories dirs_read entries_read
entries_own v image f is =
    let one : directories (f ∷ []) ≡ f ∷ [] = ap (λ (t : Bool). cond t (f ∷ []) []) is in
    own (subst (λ (fs : List FileRec). AreGrouped (map (dir_of v image) fs) (flat_map (entries_of v image) fs)) one (entries_grouped v image (f ∷ [])))
  where
    own : AreGrouped (dir_of v image f ∷ []) (entries_of v image f ++ []) → list_all (λ (e : EntryRec). e.dir == f.ino) (entries_of v image f) ≡ true
    own (mine, rest, are, all, more) =
        let same : mine ≡ entries_of v image f = sym (append-nil mine) ∙ ap (λ (es : List EntryRec). mine ++ es) (sym more) ∙ sym are ∙ append-nil (entries_of v image f) in
        subst (λ (es : List EntryRec). list_all (λ (e : EntryRec). e.dir == f.ino) es ≡ true) same all

-- entries that all pass a test, or none
all_pass : (test : EntryRec → Bool) (t : Bool) (dir : ℕ) (es : List EntryRec) → ((e : EntryRec) → e.dir ≡ dir → test e ≡ t) → list_all (λ (e : EntryRec). e.dir == dir) es ≡ true
    → filter test es ≡ (if t then es else [])
all_pass test true dir [] each own = refl
all_pass test false dir [] each own = refl
all_pass test t dir (e ∷ es) each own =
    let parts = and_parts (e.dir == dir) (list_all (λ (x : EntryRec). x.dir == dir) es) own in
    let rest = all_pass test t dir es each parts.1 in
    ap (λ (u : Bool). cond u (e ∷ filter test es) (filter test es)) (each e (eqb-true e.dir dir parts.0)) ∙ by_case t rest
  where
    by_case : (u : Bool) → filter test es ≡ (if u then es else []) → cond u (e ∷ filter test es) (filter test es) ≡ (if u then (e ∷ es) else [])
    by_case true rest = ap (λ (xs : List EntryRec). e ∷ xs) rest
    by_case false rest = rest

filter_both : {X : Type 0} (test : X → Bool) (xs ys : List X) → filter test (xs ++ ys) ≡ filter test xs ++ filter test ys
filter_both test [] ys = refl
filter_both {X} test (x ∷ xs) ys = by_case (test x) (filter_both test xs ys)
  where
    by_case : (t : Bool) → filter test (xs ++ ys) ≡ filter test xs ++ filter test ys
        → cond t (x ∷ filter test (xs ++ ys)) (filter test (xs ++ ys)) ≡ cond t (x ∷ filter test xs) (filter test xs) ++ filter test ys
    by_case true rest = ap (λ (zs : List X). x ∷ zs) rest
    by_case false rest = rest

-- of files that ascend those that pass a test keep their directories' entries, and no others are kept
module _ (v : Volume) (image : Image) (test : FileRec → Bool) (all : List FileRec) where
  abbrev passing : List FileRec
  passing = filter test all

  -- a directory is among those that pass just where it passes
  dir_at : NumbersAscend 0 (numbers_of all) → (f : FileRec) → Member f all → is_directory f ≡ true → is_directory_at passing f.ino ≡ test f
  dir_at up f is dir = by_case (test f) refl
    where
      by_case : (t : Bool) → test f ≡ t → is_directory_at passing f.ino ≡ t
      by_case true passes =
          member_any (λ (x : FileRec). x.ino == f.ino && is_directory x) f passing (member_filter test f all is passes) (and_from (f.ino == f.ino) (is_directory f) (eq-eqb f.ino f.ino refl) dir)
      by_case false fails = false_from_ne_true (is_directory_at passing f.ino) (λ found.
          let one = any_member (λ (x : FileRec). x.ino == f.ino && is_directory x) passing found in
          let parts = and_parts (one.0.ino == f.ino) (is_directory one.0) one.2 in
          let among = filter_member test one.0 all one.1 in
          let alone : filter (λ (x : FileRec). x.ino == f.ino) all ≡ f ∷ [] = one_alone 0 f all up is in
          let here : Member one.0 (f ∷ []) = subst (λ (fs : List FileRec). Member one.0 fs) alone (member_filter (λ (x : FileRec). x.ino == f.ino) one.0 all among.0 parts.0) in
          elim here [
            | inl same ↦ both_ways (test f) fails (ap test same ∙ among.1)
            | inr none ↦ absurd none
          ])

  entries_kept : (fs : List FileRec) → ((f : FileRec) → Member f fs → is_directory f ≡ true → is_directory_at passing f.ino ≡ test f)
      → filter (λ (e : EntryRec). is_directory_at passing e.dir) (flat_map (entries_of v image) (filter is_directory fs)) ≡ flat_map (entries_of v image) (filter is_directory (filter test fs))
  entries_kept [] each = refl
  entries_kept (f ∷ fs) each = by_case (is_directory f) refl (test f) refl (entries_kept fs (λ x is. each x (inr is)))
    where
      by_case : (d : Bool) → is_directory f ≡ d → (t : Bool) → test f ≡ t
          → filter (λ (e : EntryRec). is_directory_at passing e.dir) (flat_map (entries_of v image) (filter is_directory fs)) ≡ flat_map (entries_of v image) (filter is_directory (filter test fs))
          → filter (λ (e : EntryRec). is_directory_at passing e.dir) (flat_map (entries_of v image) (cond d (f ∷ filter is_directory fs) (filter is_directory fs)))
          ≡ flat_map (entries_of v image) (filter is_directory (cond t (f ∷ filter test fs) (filter test fs)))
      by_case true dir true passes rest =
          filter_both (λ (e : EntryRec). is_directory_at passing e.dir) (entries_of v image f) (flat_map (entries_of v image) (filter is_directory fs))
          ∙ ap₂ (λ (xs ys : List EntryRec). xs ++ ys)
          (all_pass (λ (e : EntryRec). is_directory_at passing e.dir) true f.ino (entries_of v image f) (λ e own. ap (is_directory_at passing) own ∙ each f (inl refl) dir ∙ passes) (entries_own v image f dir)) rest
          ∙ ap (λ (d : Bool). flat_map (entries_of v image) (cond d (f ∷ filter is_directory (filter test fs)) (filter is_directory (filter test fs)))) (sym dir)
      by_case true dir false fails rest =
          filter_both (λ (e : EntryRec). is_directory_at passing e.dir) (entries_of v image f) (flat_map (entries_of v image) (filter is_directory fs))
          ∙ ap₂ (λ (xs ys : List EntryRec). xs ++ ys)
          (all_pass (λ (e : EntryRec). is_directory_at passing e.dir) false f.ino (entries_of v image f) (λ e own. ap (is_directory_at passing) own ∙ each f (inl refl) dir ∙ fails) (entries_own v image f dir)) rest
      by_case false other true passes rest =
          rest ∙ ap (λ (d : Bool). flat_map (entries_of v image) (cond d (f ∷ filter is_directory (filter test fs)) (filter is_directory (filter test fs)))) (sym other)
      by_case false other false fails rest = rest

  dirs_kept : (fs : List FileRec) → ((f : FileRec) → Member f fs → is_directory f ≡ true → is_directory_at passing f.ino ≡ test f)
      → filter (λ (d : DirRec). is_directory_at passing d.ino) (map (dir_of v image) (filter is_directory fs)) ≡ map (dir_of v image) (filter is_directory (filter test fs))
  dirs_kept [] each = refl
  dirs_kept (f ∷ fs) each = by_case (is_directory f) refl (test f) refl (dirs_kept fs (λ x is. each x (inr is)))
    where
      by_case : (d : Bool) → is_directory f ≡ d → (t : Bool) → test f ≡ t
          → filter (λ (d : DirRec). is_directory_at passing d.ino) (map (dir_of v image) (filter is_directory fs)) ≡ map (dir_of v image) (filter is_directory (filter test fs))
          → filter (λ (d : DirRec). is_directory_at passing d.ino) (map (dir_of v image) (cond d (f ∷ filter is_directory fs) (filter is_directory fs)))
          ≡ map (dir_of v image) (filter is_directory (cond t (f ∷ filter test fs) (filter test fs)))
      by_case true dir true passes rest =
          ap (λ (t : Bool). cond t (dir_of v image f ∷ filter (λ (d : DirRec). is_directory_at passing d.ino) (map (dir_of v image) (filter is_directory fs))) (filter (λ (d : DirRec). is_directory_at passing d.ino) (map (dir_of v image) (filter is_directory fs))))
          (each f (inl refl) dir ∙ passes)
          ∙ (ap (λ (ds : List DirRec). dir_of v image f ∷ ds) rest
          ∙ ap (λ (d : Bool). map (dir_of v image) (cond d (f ∷ filter is_directory (filter test fs)) (filter is_directory (filter test fs)))) (sym dir))
      by_case true dir false fails rest =
          ap (λ (t : Bool). cond t (dir_of v image f ∷ filter (λ (d : DirRec). is_directory_at passing d.ino) (map (dir_of v image) (filter is_directory fs))) (filter (λ (d : DirRec). is_directory_at passing d.ino) (map (dir_of v image) (filter is_directory fs))))
          (each f (inl refl) dir ∙ fails)
          ∙ rest
      by_case false other true passes rest =
          rest ∙ ap (λ (d : Bool). map (dir_of v image) (cond d (f ∷ filter is_directory (filter test fs)) (filter is_directory (filter test fs)))) (sym other)
      by_case false other false fails rest = rest

-- directories by number
dir_first : (d : DirRec) (ds : List DirRec) → AllByRecursion (λ (x : DirRec). d.ino ≤ x.ino) ds → placed_by_number dir_number d ds ≡ d ∷ ds
dir_first d [] all = refl
dir_first d (x ∷ ds) all = ap (λ (t : Bool). cond t (x ∷ placed_by_number dir_number d ds) (d ∷ x ∷ ds)) (le-ltb x.ino d.ino all.0)

-- a file that is no directory, and one that is, among files by number
placed_other : (v : Volume) (image : Image) (x : FileRec) (fs : List FileRec) → is_directory x ≡ false
    → map (dir_of v image) (filter is_directory (placed_by_number number x fs)) ≡ map (dir_of v image) (filter is_directory fs)
placed_other v image x [] other = ap (λ (t : Bool). map (dir_of v image) (cond t (x ∷ []) [])) other
placed_other v image x (y ∷ fs) other = by_case (nat_lt y.ino x.ino) (placed_other v image x fs other)
  where
    by_dir : (d : Bool) → map (dir_of v image) (filter is_directory (placed_by_number number x fs)) ≡ map (dir_of v image) (filter is_directory fs)
        → map (dir_of v image) (cond d (y ∷ filter is_directory (placed_by_number number x fs)) (filter is_directory (placed_by_number number x fs))) ≡ map (dir_of v image) (cond d (y ∷ filter is_directory fs) (filter is_directory fs))
    by_dir true rest = ap (λ (ds : List DirRec). dir_of v image y ∷ ds) rest
    by_dir false rest = rest

    by_case : (t : Bool) → map (dir_of v image) (filter is_directory (placed_by_number number x fs)) ≡ map (dir_of v image) (filter is_directory fs)
        → map (dir_of v image) (filter is_directory (cond t (y ∷ placed_by_number number x fs) (x ∷ y ∷ fs))) ≡ map (dir_of v image) (filter is_directory (y ∷ fs))
    by_case true rest = by_dir (is_directory y) rest
    by_case false rest = ap (λ (t : Bool). map (dir_of v image) (cond t (x ∷ filter is_directory (y ∷ fs)) (filter is_directory (y ∷ fs)))) other

dirs_above : (v : Volume) (image : Image) (low : ℕ) (fs : List FileRec) → AllByRecursion (λ f. low ≤ number f) fs → AllByRecursion (λ (d : DirRec). low ≤ d.ino) (map (dir_of v image) (filter is_directory fs))
dirs_above v image low [] all = tt
dirs_above v image low (f ∷ fs) all = by_dir (is_directory f) (dirs_above v image low fs all.1)
  where
    by_dir : (d : Bool) → AllByRecursion (λ (d : DirRec). low ≤ d.ino) (map (dir_of v image) (filter is_directory fs))
        → AllByRecursion (λ (d : DirRec). low ≤ d.ino) (map (dir_of v image) (cond d (f ∷ filter is_directory fs) (filter is_directory fs)))
    by_dir true rest = (all.0, rest)
    by_dir false rest = rest

each_from : (low : ℕ) (fs : List FileRec) → NumbersAscend low (numbers_of fs) → (n : ℕ) → n ≤ low → AllByRecursion (λ f. n ≤ number f) fs
each_from low [] up n le = tt
each_from low (f ∷ fs) up n le = let first = up.0 in (omega (arith, le, first), each_from (f.ino + 1) fs up.1 n (omega (arith, le, first)))

placed_dir : (v : Volume) (image : Image) (low : ℕ) (x : FileRec) (fs : List FileRec) → NumbersAscend low (numbers_of fs) → is_directory x ≡ true
    → map (dir_of v image) (filter is_directory (placed_by_number number x fs)) ≡ placed_by_number dir_number (dir_of v image x) (map (dir_of v image) (filter is_directory fs))
placed_dir v image low x [] up dir = ap (λ (t : Bool). map (dir_of v image) (cond t (x ∷ []) [])) dir
placed_dir v image low x (y ∷ fs) up dir = by_case (cases_lt y.ino x.ino) (placed_dir v image (y.ino + 1) x fs up.1 dir)
  where
    by_dir : (d : Bool) → nat_lt y.ino x.ino ≡ true
        → map (dir_of v image) (filter is_directory (placed_by_number number x fs)) ≡ placed_by_number dir_number (dir_of v image x) (map (dir_of v image) (filter is_directory fs))
        → map (dir_of v image) (cond d (y ∷ filter is_directory (placed_by_number number x fs)) (filter is_directory (placed_by_number number x fs)))
        ≡ placed_by_number dir_number (dir_of v image x) (map (dir_of v image) (cond d (y ∷ filter is_directory fs) (filter is_directory fs)))
    by_dir true less rest =
        ap (λ (ds : List DirRec). dir_of v image y ∷ ds) rest
        ∙ ap (λ (t : Bool). cond t (dir_of v image y ∷ placed_by_number dir_number (dir_of v image x) (map (dir_of v image) (filter is_directory fs)))
        (dir_of v image x ∷ dir_of v image y ∷ map (dir_of v image) (filter is_directory fs))) (sym less)
    by_dir false less rest = rest

    by_case : (y.ino < x.ino) ⊎ (x.ino ≤ y.ino)
        → map (dir_of v image) (filter is_directory (placed_by_number number x fs)) ≡ placed_by_number dir_number (dir_of v image x) (map (dir_of v image) (filter is_directory fs))
        → map (dir_of v image) (filter is_directory (placed_by_number number x (y ∷ fs))) ≡ placed_by_number dir_number (dir_of v image x) (map (dir_of v image) (filter is_directory (y ∷ fs)))
    by_case (inl less) rest =
        let e : nat_lt y.ino x.ino ≡ true = lt-ltb y.ino x.ino less in
        ap (λ (t : Bool). map (dir_of v image) (filter is_directory (cond t (y ∷ placed_by_number number x fs) (x ∷ y ∷ fs)))) e ∙ by_dir (is_directory y) e rest
    by_case (inr upto) rest =
        let above : AllByRecursion (λ f. x.ino ≤ number f) (y ∷ fs) = (upto, each_from (y.ino + 1) fs up.1 x.ino (omega (arith, upto))) in
        ap (λ (t : Bool). map (dir_of v image) (filter is_directory (cond t (y ∷ placed_by_number number x fs) (x ∷ y ∷ fs)))) (le-ltb y.ino x.ino upto)
        ∙ ap (λ (t : Bool). map (dir_of v image) (cond t (x ∷ filter is_directory (y ∷ fs)) (filter is_directory (y ∷ fs)))) dir
        ∙ sym (dir_first (dir_of v image x) (map (dir_of v image) (filter is_directory (y ∷ fs))) (dirs_above v image x.ino (y ∷ fs) above))

strict : (a b : ℕ) → a ≤ b → (a ≡ b → ⊥) → a < b
strict a b le ne = elim (cases_lt a b) [ inl less ↦ less | inr more ↦ absurd (ne (omega (arith, le, more))) ]

abbrev no_entries : List EntryRec
no_entries = []

-- the entries of the directories among some files, file by file
abbrev entries_if : Volume → Image → FileRec → List EntryRec
entries_if v image f = if is_directory f then entries_of v image f else []

file_by_file : (v : Volume) (image : Image) (fs : List FileRec) → flat_map (entries_of v image) (filter is_directory fs) ≡ flat_map (entries_if v image) fs
file_by_file v image [] = refl
file_by_file v image (f ∷ fs) = by_case (is_directory f) (file_by_file v image fs)
  where
    by_case : (t : Bool) → flat_map (entries_of v image) (filter is_directory fs) ≡ flat_map (entries_if v image) fs
        → flat_map (entries_of v image) (cond t (f ∷ filter is_directory fs) (filter is_directory fs)) ≡ (if t then entries_of v image f else []) ++ flat_map (entries_if v image) fs
    by_case true rest = ap (λ (es : List EntryRec). entries_of v image f ++ es) rest
    by_case false rest = rest

maps_same : {Y : Type 0} (k h : FileRec → Y) (fs : List FileRec) → ((f : FileRec) → Member f fs → k f ≡ h f) → map k fs ≡ map h fs
maps_same k h [] same = refl
maps_same {Y} k h (f ∷ fs) same = ap₂ (λ (y : Y) (ys : List Y). y ∷ ys) (same f (inl refl)) (maps_same k h fs (λ x is. same x (inr is)))

module _ (g : Geometry) (s : Stamp) (image now : Image) (kept : Salvaged) (seen : List SlotSeen) (has : HasKept g s image now kept seen) (crc : ℕ → ℕ) where
  abbrev old_files : List FileRec
  old_files = map (due_file g.rootino kept seen crc) kept.files

  -- a directory has what it is to have whatever its core says of its links and its attributes
  due_entries_same : (f : FileRec) → entries_of (volume_of g) now (due_file g.rootino kept seen crc f) ≡ entries_of (volume_of g) now f
  unfolding entries_of data_blocks short_form
  due_entries_same f = refl

  due_dir_same : (f : FileRec) → dir_of (volume_of g) now (due_file g.rootino kept seen crc f) ≡ dir_of (volume_of g) now f
  unfolding parent_of is_whole data_blocks short_form
  due_dir_same f = refl

  old_entries : (f : FileRec) → Member f kept.files → entries_if (volume_of g) now (due_file g.rootino kept seen crc f) ≡ entries_if (volume_of g) image f
  old_entries f is =
      ap (λ (es : List EntryRec). if is_directory f then es else []) (due_entries_same f ∙ kept_entries_same g s image now kept seen has f is)

  -- a root that is made anew
  root_form_is : Member g.rootino kept.fresh → short_of g.rootino (part_of (slot_bytes (volume_of g) now g.rootino) 176 6) ≡ Some (empty_form g.rootino)
  root_form_is is =
      let v : Volume = volume_of g in
      let made : IsMadeSlot v s.generation (new_slot v s g.rootino) (slot_bytes v image g.rootino) (slot_bytes v now g.rootino) = fresh_made g s image now kept seen has g.rootino is in
      let as_root : IsMadeSlot v s.generation (new_root_slot v s) (slot_bytes v image g.rootino) (slot_bytes v now g.rootino) =
      subst (λ (t : Bool). IsMadeSlot v s.generation (if t then new_root_slot v s else new_system_slot v s g.rootino) (slot_bytes v image g.rootino) (slot_bytes v now g.rootino))
      (eq-eqb g.rootino g.rootino refl) made in
      (made_root v s s.generation (slot_bytes v image g.rootino) (slot_bytes v now g.rootino) (low_root g) as_root).form

  -- a file that is made anew, by whether it is the root
  abbrev made_by : Bool → ℕ → FileRec
  made_by t ino = record {
    ino = ino;
    core = record (if t then new_root_core (volume_of g) s else new_system_core (volume_of g) s ino) { crc = crc ino };
    extents = [];
    rest = no_rest;
  }

  made_entries : (ino : ℕ) → Member ino kept.fresh → (t : Bool) → (ino == g.rootino) ≡ t → entries_of (volume_of g) now (made_by t ino) ≡ []
  unfolding entries_of short_form data_blocks
  made_entries ino is true root =
      let number : ino ≡ g.rootino = eqb-true ino g.rootino root in
      ap (λ (n : ℕ). entries_of_form (short_of n (part_of (slot_bytes (volume_of g) now n) 176 6))) number
      ∙ ap entries_of_form (root_form_is (subst (λ (n : ℕ). Member n kept.fresh) number is))
  made_entries ino is false other = refl

  new_entries : (ino : ℕ) → Member ino kept.fresh → entries_if (volume_of g) now (fresh_file (volume_of g) s crc ino) ≡ []
  new_entries ino is =
      ap (λ (es : List EntryRec). if is_directory (fresh_file (volume_of g) s crc ino) then es else []) (made_entries ino is (ino == g.rootino) refl) ∙ either (is_directory (fresh_file (volume_of g) s crc ino))
    where
      either : (t : Bool) → (if t then no_entries else no_entries) ≡ no_entries
      either true = refl
      either false = refl

  new_dir : (ino : ℕ) → Member ino kept.fresh → ino ≡ g.rootino → (t : Bool) → t ≡ true → dir_of (volume_of g) now (made_by t ino) ≡ fresh_root g.rootino
  unfolding parent_of is_whole short_form
  new_dir ino is number true root =
      let form = root_form_is (subst (λ (n : ℕ). Member n kept.fresh) number is) in
      ap (λ (n : ℕ). let d : DirRec = record { ino = n; parent = parent_of_form (short_of n (part_of (slot_bytes (volume_of g) now n) 176 6)); whole = is_some (short_of n (part_of (slot_bytes (volume_of g) now n) 176 6)) } in d) number
      ∙ ap (λ (o : Option ShortForm). let d : DirRec = record { ino = g.rootino; parent = parent_of_form o; whole = is_some o } in d) form
  new_dir ino is number false root = absurd cc

  new_is_dir : (ino : ℕ) → ino ≡ g.rootino → is_directory (fresh_file (volume_of g) s crc ino) ≡ true
  new_is_dir ino number = ap (λ (t : Bool). is_directory (made_by t ino)) (eq-eqb ino g.rootino number)

  new_is_other : (ino : ℕ) → (ino ≡ g.rootino → ⊥) → is_directory (fresh_file (volume_of g) s crc ino) ≡ false
  new_is_other ino other = ap (λ (t : Bool). is_directory (made_by t ino)) (ne_eqb ino g.rootino other)

  -- the system inodes are no directories
  others_add_none : (low : ℕ) (ns : List ℕ) (fs : List FileRec) → g.rootino < low → NumbersAscend low ns
      → map (dir_of (volume_of g) now) (filter is_directory (with_new (map (fresh_file (volume_of g) s crc) ns) fs)) ≡ map (dir_of (volume_of g) now) (filter is_directory fs)
  others_add_none low [] fs above up = refl
  others_add_none low (n ∷ ns) fs above up =
      let first = up.0 in
      others_add_none (n + 1) ns (placed_by_number number (fresh_file (volume_of g) s crc n) fs) (omega (arith, above, first)) up.1
      ∙ placed_other (volume_of g) now (fresh_file (volume_of g) s crc n) fs (new_is_other n (λ same. omega (arith, above, first, same)))

  none_above : (low n : ℕ) (ns : List ℕ) → n < low → NumbersAscend low ns → is_among ns n ≡ false
  none_above low n [] less up = refl
  none_above low n (m ∷ ns) less up =
      let first = up.0 in
      ap (λ (t : Bool). t || is_among ns n) (ne_eqb m n (λ same. omega (arith, less, first, same))) ∙ none_above (m + 1) n ns (omega (arith, less, first)) up.1

  root_adds_one : (ns : List ℕ) (fs : List FileRec) → ((n : ℕ) → Member n ns → Member n kept.fresh) → NumbersAscend g.rootino ns → NumbersAscend 0 (numbers_of fs)
      → map (dir_of (volume_of g) now) (filter is_directory (with_new (map (fresh_file (volume_of g) s crc) ns) fs))
      ≡ (if is_among ns g.rootino then placed_by_number dir_number (fresh_root g.rootino) (map (dir_of (volume_of g) now) (filter is_directory fs)) else map (dir_of (volume_of g) now) (filter is_directory fs))
  root_adds_one [] fs each up files = refl
  root_adds_one (n ∷ ns) fs each up files =
      let v : Volume = volume_of g in
      elim (cases_eq n g.rootino) [
        | inl same ↦
            let f : FileRec = fresh_file v s crc n in
            let dirs : List DirRec = map (dir_of v now) (filter is_directory fs) in
            others_add_none (n + 1) ns (placed_by_number number f fs) (omega (arith, same)) up.1
            ∙ (placed_dir v now 0 f fs files (new_is_dir n same)
            ∙ (ap (λ (d : DirRec). placed_by_number dir_number d dirs) (new_dir n (each n (inl refl)) same (n == g.rootino) (eq-eqb n g.rootino same))
            ∙ ap (λ (t : Bool). if t || is_among ns g.rootino then placed_by_number dir_number (fresh_root g.rootino) dirs else dirs) (sym (eq-eqb n g.rootino same))))
        | inr other ↦
            let first = up.0 in
            let less : g.rootino < n = strict g.rootino n first (λ is. other (sym is)) in
            let dirs : List DirRec = map (dir_of v now) (filter is_directory fs) in
            others_add_none n (n ∷ ns) fs less (omega arith, up.1)
            ∙ ap (λ (t : Bool). if t then placed_by_number dir_number (fresh_root g.rootino) dirs else dirs) (sym (none_above n g.rootino (n ∷ ns) less (omega arith, up.1)))
      ]

  -- the kept files have the kept entries
  numbers_same : (fs : List FileRec) → numbers_of (map (due_file g.rootino kept seen crc) fs) ≡ numbers_of fs
  numbers_same [] = refl
  numbers_same (f ∷ fs) = ap (λ (ns : List ℕ). f.ino ∷ ns) (numbers_same fs)

  kept_by : kept.files ≡ filter (is_kept_file (volume_of g) (candidates (volume_of g) image) (candidate_files (volume_of g) image)) (candidate_files (volume_of g) image)
  unfolding kept_files
  kept_by = has.of.files'

  all_ascend : NumbersAscend 0 (numbers_of (candidate_files (volume_of g) image))
  all_ascend = claiming_ascend (volume_of g) 0 (candidate_files (volume_of g) image) (image_can g image).files_claim

  pub due_entries : kept.entries ≡ entries_of_kept (volume_of g) (candidates (volume_of g) image) (candidate_files (volume_of g) image) (entries_read (volume_of g) image (candidate_files (volume_of g) image))
      → entries_read (volume_of g) now (rebuilt_files (volume_of g) s kept seen crc) ≡ kept.entries
  unfolding entries_read directories rebuilt_files kept_files
  due_entries are =
      let v : Volume = volume_of g in
      let found : List FileRec = candidate_files v image in
      let test : FileRec → Bool = is_kept_file v (candidates v image) found in
      file_by_file v now (with_new (map (fresh_file v s crc) kept.fresh) old_files)
      ∙ new_nothing (entries_if v now) (fresh_file v s crc) kept.fresh old_files new_entries
      ∙ mapped_same (entries_if v now) (entries_if v image) (due_file g.rootino kept seen crc) kept.files old_entries
      ∙ sym (file_by_file v image kept.files)
      ∙ ap (λ (fs : List FileRec). flat_map (entries_of v image) (filter is_directory fs)) kept_by
      ∙ sym (entries_kept v image test found found (dir_at v image test found all_ascend))
      ∙ sym are

  dir_listed : (f : FileRec) (fs : List FileRec) → Member f kept.files → (t : Bool)
      → map (dir_of (volume_of g) now) (filter is_directory (map (due_file g.rootino kept seen crc) fs)) ≡ map (dir_of (volume_of g) image) (filter is_directory fs)
      → map (dir_of (volume_of g) now) (cond t (due_file g.rootino kept seen crc f ∷ filter is_directory (map (due_file g.rootino kept seen crc) fs)) (filter is_directory (map (due_file g.rootino kept seen crc) fs)))
      ≡ map (dir_of (volume_of g) image) (cond t (f ∷ filter is_directory fs) (filter is_directory fs))
  dir_listed f fs is true rest = ap₂ (λ (d : DirRec) (ds : List DirRec). d ∷ ds) (due_dir_same f ∙ kept_dir_same g s image now kept seen has f is) rest
  dir_listed f fs is false rest = rest

  dirs_of_old : (fs : List FileRec) → ((f : FileRec) → Member f fs → Member f kept.files)
      → map (dir_of (volume_of g) now) (filter is_directory (map (due_file g.rootino kept seen crc) fs)) ≡ map (dir_of (volume_of g) image) (filter is_directory fs)
  dirs_of_old [] each = refl
  dirs_of_old (f ∷ fs) each = dir_listed f fs (each f (inl refl)) (is_directory f) (dirs_of_old fs (λ x is. each x (inr is)))

  pub due_dirs_are : kept.dirs ≡ kept_dirs (volume_of g) (candidates (volume_of g) image) (candidate_files (volume_of g) image) (dirs_read (volume_of g) image (candidate_files (volume_of g) image))
      → dirs_read (volume_of g) now (rebuilt_files (volume_of g) s kept seen crc) ≡ rebuilt_dirs g.rootino kept
  unfolding dirs_read directories rebuilt_files kept_files
  due_dirs_are are =
      let v : Volume = volume_of g in
      let found : List FileRec = candidate_files v image in
      let test : FileRec → Bool = is_kept_file v (candidates v image) found in
      let old : map (dir_of v now) (filter is_directory old_files) ≡ kept.dirs =
      dirs_of_old kept.files (λ f is. is)
      ∙ ap (λ (fs : List FileRec). map (dir_of v image) (filter is_directory fs)) kept_by
      ∙ sym (dirs_kept v image test found found (dir_at v image test found all_ascend))
      ∙ sym are in
      root_adds_one kept.fresh old_files (λ n is. is) (fresh_ascend g s image now kept seen has crc)
      (subst (NumbersAscend 0) (sym (numbers_same kept.files)) (files_ascend g s image now kept seen has))
      ∙ ap (λ (ds : List DirRec). if is_among kept.fresh g.rootino then placed_by_number dir_number (fresh_root g.rootino) ds else ds) old
