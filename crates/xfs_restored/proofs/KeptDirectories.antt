-- What the image says of the directories that are kept: their entries, and that they are whole with their parents.
use Rattle.std.proofs.Common.{◌≡◌, ℕ, Bool, true, false, cond, ◌+◌, ◌<◌, ◌⊎◌, inl, inr, ◌==◌, ◌&&◌, nat_lt, if◌then◌else◌, List, [], ◌∷◌, ◌++◌, map, filter, Some, None, refl, sym, ap, ap₂, ◌∙◌, subst, arith}
use Rattle.std.specs.List.{flat_map, list_all}
use Rattle.std.proofs.lemmas.Bool.{and_parts, cases_eq, eq-eqb, eqb-true, ne_eqb, true≢false}
use Rattle.std.proofs.lemmas.List.{append-nil}
use Rattle.std.proofs.lemmas.List.Elements.{filter-append}
use Rattle.xfs_disk.specs.Blocks.{Image}
use Rattle.xfs_disk.specs.Lists.{is_among}
use Rattle.xfs_disk.specs.declared.stamp.Stamp.{Stamp}
use Rattle.xfs_dirdata.specs.declared.records.EntryRec.{EntryRec}
use Rattle.xfs_geom.specs.Volumes.{Volume, volume_of}
use Rattle.xfs_geom.specs.declared.geometry.Geometry.{Geometry}
use Rattle.xfs_image.specs.Candidates.{candidates}
use Rattle.xfs_image.specs.Claims.{candidate_files}
use Rattle.xfs_image.specs.Directories.{dir_of, directories, dirs_read, entries_of, entries_read, is_whole, parent_of}
use Rattle.xfs_rename.proofs.xfs_made.Candidates.{image_can}
use Rattle.xfs_naming.specs.Naming.{AreGrouped, NumbersAscend, entries_in, file_at, is_directory_at, numbers_of}
use Rattle.xfs_names.specs.Rebuilt.{is_whole_with}
use Rattle.xfs_views.proofs.Members.{Member, any_member, filter_member, map_member, member_any, member_filter, member_map}
use Rattle.xfs_salvage.proofs.Ascending.{claiming_ascend}
use Rattle.xfs_salvage.specs.Kept.{is_kept_file, kept_files}
use Rattle.xfs_views.proofs.Names.{entries_grouped}
use Rattle.xfs_volume.specs.Names.{is_directory}
use Rattle.xfs_volume.specs.declared.directories.DirRec.{DirRec}
use Rattle.xfs_volume.specs.declared.files.FileRec.{FileRec}
use Rattle.xfs_rename.specs.xfs_scan.declared.evidence.Evidence.{Evidence}
use Rattle.xfs_rename.specs.xfs_rebuild.Names.{new_root, with_dir}
use Rattle.xfs_rename.specs.xfs_rebuild.declared.names_due.NamesDue.{NamesDue}
use Rattle.xfs_rename.specs.declared.planning.Renamed.{Renamed}
use Rattle.xfs_restored.proofs.DueList.{number_least}
use Rattle.xfs_restored.proofs.Wanted.{one_alone}
use Rattle.xfs_restored.proofs.Handed.{dirs_of_image, entries_of_image}
use Rattle.xfs_restored.specs.Relinking.{IsRelinked}
use Rattle.xfs_restored.proofs.WantedNumbers.{fresh_not_kept, kept_at, of_image}

-- the entries of a directory are its own
entries_own : (v : Volume) (image : Image) (f : FileRec) → is_directory f ≡ true → list_all (λ (e : EntryRec). e.dir == f.ino) (entries_of v image f) ≡ true
unfolding directories dirs_read entries_read
entries_own v image f is =
    let one : directories (f ∷ []) ≡ f ∷ [] = ap (λ (t : Bool). cond t (f ∷ []) []) is in
    own (subst (λ (fs : List FileRec). AreGrouped (map (dir_of v image) fs) (flat_map (entries_of v image) fs)) one (entries_grouped v image (f ∷ [])))
  where
    own : AreGrouped (dir_of v image f ∷ []) (entries_of v image f ++ []) → list_all (λ (e : EntryRec). e.dir == f.ino) (entries_of v image f) ≡ true
    own (mine, rest, are, all, more) =
        let same : mine ≡ entries_of v image f = sym (append-nil mine) ∙ ap (λ (es : List EntryRec). mine ++ es) (sym more) ∙ sym are ∙ append-nil (entries_of v image f) in
        subst (λ (es : List EntryRec). list_all (λ (e : EntryRec). e.dir == f.ino) es ≡ true) same all

own_entries : (n : ℕ) (es : List EntryRec) → list_all (λ (e : EntryRec). e.dir == n) es ≡ true → entries_in es n ≡ es
own_entries n [] all = refl
own_entries n (e ∷ es) all =
    let parts = and_parts (e.dir == n) (list_all (λ (x : EntryRec). x.dir == n) es) all in
    ap (λ (t : Bool). cond t (e ∷ entries_in es n) (entries_in es n)) parts.0 ∙ ap (λ (xs : List EntryRec). e ∷ xs) (own_entries n es parts.1)

other_entries : (m n : ℕ) (es : List EntryRec) → (m ≡ n → ⊥) → list_all (λ (e : EntryRec). e.dir == m) es ≡ true → entries_in es n ≡ []
other_entries m n [] off all = refl
other_entries m n (e ∷ es) off all =
    let parts = and_parts (e.dir == m) (list_all (λ (x : EntryRec). x.dir == m) es) all in
    ap (λ (t : Bool). cond t (e ∷ entries_in es n) (entries_in es n)) (ne_eqb e.dir n (λ same. off (sym (eqb-true e.dir m parts.0) ∙ same))) ∙ other_entries m n es off parts.1

-- the entries of a directory among those of directories that pass, where it passes and where it does not
passing_entries : (test : ℕ → Bool) (n : ℕ) (es : List EntryRec) → test n ≡ true → entries_in (filter (λ (e : EntryRec). test e.dir) es) n ≡ entries_in es n
passing_entries test n [] is = refl
passing_entries test n (e ∷ es) is =
    elim (cases_eq e.dir n) [
      | inl same ↦
          ap (λ (t : Bool). entries_in (cond t (e ∷ filter (λ (x : EntryRec). test x.dir) es) (filter (λ (x : EntryRec). test x.dir) es)) n) (ap test same ∙ is)
          ∙ ap (λ (xs : List EntryRec). cond (e.dir == n) (e ∷ xs) xs) (passing_entries test n es is)
      | inr other ↦ off (test e.dir) other (passing_entries test n es is)
    ]
  where
    off : (t : Bool) → (e.dir ≡ n → ⊥) → entries_in (filter (λ (x : EntryRec). test x.dir) es) n ≡ entries_in es n
        → entries_in (cond t (e ∷ filter (λ (x : EntryRec). test x.dir) es) (filter (λ (x : EntryRec). test x.dir) es)) n ≡ cond (e.dir == n) (e ∷ entries_in es n) (entries_in es n)
    off true other rest = ap (λ (xs : List EntryRec). cond (e.dir == n) (e ∷ xs) xs) rest
    off false other rest = rest ∙ sym (ap (λ (t : Bool). cond t (e ∷ entries_in es n) (entries_in es n)) (ne_eqb e.dir n other))

failing_entries : (test : ℕ → Bool) (n : ℕ) (es : List EntryRec) → test n ≡ false → entries_in (filter (λ (e : EntryRec). test e.dir) es) n ≡ []
failing_entries test n [] is = refl
failing_entries test n (e ∷ es) is = by_case (test e.dir) refl (failing_entries test n es is)
  where
    by_case : (t : Bool) → test e.dir ≡ t → entries_in (filter (λ (x : EntryRec). test x.dir) es) n ≡ []
        → entries_in (cond t (e ∷ filter (λ (x : EntryRec). test x.dir) es) (filter (λ (x : EntryRec). test x.dir) es)) n ≡ []
    by_case true passes rest =
        ap (λ (t : Bool). cond t (e ∷ entries_in (filter (λ (x : EntryRec). test x.dir) es) n) (entries_in (filter (λ (x : EntryRec). test x.dir) es) n))
        (ne_eqb e.dir n (λ same. true≢false (sym passes ∙ ap test same ∙ is))) ∙ rest
    by_case false fails rest = rest

-- of directories by number, the entries of one are those that read of it
module _ (v : Volume) (image : Image) where
  later_entries : (low n : ℕ) (fs : List FileRec) → NumbersAscend low (numbers_of fs) → n < low → entries_in (flat_map (entries_of v image) (filter is_directory fs)) n ≡ []
  later_entries low n [] up less = refl
  later_entries low n (f ∷ fs) up less =
      let first = up.0 in by_kind (is_directory f) refl (omega (arith, less, first)) (later_entries (f.ino + 1) n fs up.1 (omega (arith, less, first)))
    where
      by_kind : (t : Bool) → is_directory f ≡ t → n < f.ino → entries_in (flat_map (entries_of v image) (filter is_directory fs)) n ≡ []
          → entries_in (flat_map (entries_of v image) (cond t (f ∷ filter is_directory fs) (filter is_directory fs))) n ≡ []
      by_kind true is below rest =
          filter-append (λ (e : EntryRec). e.dir == n) (entries_of v image f) (flat_map (entries_of v image) (filter is_directory fs))
          ∙ ap₂ (λ (xs ys : List EntryRec). xs ++ ys) (other_entries f.ino n (entries_of v image f) (λ same. omega (arith, below, same)) (entries_own v image f is)) rest
      by_kind false off below rest = rest

  read_entries : (low : ℕ) (f : FileRec) (fs : List FileRec) → NumbersAscend low (numbers_of fs) → Member f fs → is_directory f ≡ true
      → entries_in (flat_map (entries_of v image) (filter is_directory fs)) f.ino ≡ entries_of v image f
  read_entries low f [] up is dir = absurd is
  read_entries low f (x ∷ xs) up is dir = by_kind (is_directory x) refl is (λ later. read_entries (x.ino + 1) f xs up.1 later dir)
    where
      here : is_directory x ≡ true → x ≡ f → entries_in (entries_of v image x ++ flat_map (entries_of v image) (filter is_directory xs)) f.ino ≡ entries_of v image f
      here kind same =
          let number : x.ino ≡ f.ino = ap (λ (z : FileRec). z.ino) same in
          filter-append (λ (e : EntryRec). e.dir == f.ino) (entries_of v image x) (flat_map (entries_of v image) (filter is_directory xs))
          ∙ ap₂ (λ (ys zs : List EntryRec). ys ++ zs)
          (ap (λ (n : ℕ). entries_in (entries_of v image x) n) (sym number) ∙ own_entries x.ino (entries_of v image x) (entries_own v image x kind))
          (later_entries (x.ino + 1) f.ino xs up.1 (omega (arith, number)))
          ∙ append-nil (entries_of v image x)
          ∙ ap (entries_of v image) same

      there : is_directory x ≡ true → Member f xs → entries_in (flat_map (entries_of v image) (filter is_directory xs)) f.ino ≡ entries_of v image f
          → entries_in (entries_of v image x ++ flat_map (entries_of v image) (filter is_directory xs)) f.ino ≡ entries_of v image f
      there kind later rest =
          let above = number_least (x.ino + 1) f.ino (numbers_of xs) up.1 (member_map (λ (z : FileRec). z.ino) f xs later) in
          filter-append (λ (e : EntryRec). e.dir == f.ino) (entries_of v image x) (flat_map (entries_of v image) (filter is_directory xs))
          ∙ ap₂ (λ (ys zs : List EntryRec). ys ++ zs) (other_entries x.ino f.ino (entries_of v image x) (λ same. omega (arith, above, same)) (entries_own v image x kind)) rest

      by_kind : (t : Bool) → is_directory x ≡ t → Member f (x ∷ xs)
          → (Member f xs → entries_in (flat_map (entries_of v image) (filter is_directory xs)) f.ino ≡ entries_of v image f)
          → entries_in (flat_map (entries_of v image) (cond t (x ∷ filter is_directory xs) (filter is_directory xs))) f.ino ≡ entries_of v image f
      by_kind true kind among rest = elim among [ inl same ↦ here kind same | inr later ↦ there kind later (rest later) ]
      by_kind false kind among rest =
          elim among [
            | inl same ↦ absurd (true≢false (sym dir ∙ sym (ap is_directory same) ∙ kind))
            | inr later ↦ rest later
          ]

-- a directory that is put among others
one_put : (d r : DirRec) (ds : List DirRec) → Member r (with_dir d ds) → (d ≡ r) ⊎ Member r ds
one_put d r [] is = is
one_put d r (x ∷ ds) is = by_case (nat_lt x.ino d.ino) (one_put d r ds) is
  where
    by_case : (t : Bool) → (Member r (with_dir d ds) → (d ≡ r) ⊎ Member r ds) → Member r (if t then x ∷ with_dir d ds else d ∷ x ∷ ds) → (d ≡ r) ⊎ Member r (x ∷ ds)
    by_case true rest is =
        elim is [
          | inl same ↦ inr (inl same)
          | inr later ↦ elim (rest later) [ inl one ↦ inl one | inr there ↦ inr (inr there) ]
        ]
    by_case false rest is = is

module _ (g : Geometry) (sector : List ℕ) (s : Stamp) (image now : Image) (e : Evidence) (n : NamesDue) (r : Renamed) (has : IsRelinked g sector s image now e n r) where
  abbrev v : Volume
  v = volume_of g

  abbrev found : List FileRec
  found = candidate_files v image

  abbrev test : FileRec → Bool
  test = is_kept_file v (candidates v image) found

  kept_by : has.on.kept.files ≡ filter test found
  unfolding kept_files
  kept_by = (of_image g sector s image now e n r has).files'

  found_up : NumbersAscend 0 (numbers_of found)
  found_up = claiming_ascend v 0 found (image_can g image).files_claim

  found_file : (f : FileRec) → Member f has.on.kept.files → Member f found
  found_file f is = (filter_member test f found (subst (λ (fs : List FileRec). Member f fs) kept_by is)).0

  -- a directory of the image with the number of a kept file is that of the file
  only_file : (f x : FileRec) → Member f has.on.kept.files → Member x found → x.ino ≡ f.ino → f ≡ x
  only_file f x is there same =
      let alone : filter (λ (y : FileRec). y.ino == f.ino) found ≡ f ∷ [] = one_alone 0 f found found_up (found_file f is) in
      let here : Member x (f ∷ []) = subst (λ (fs : List FileRec). Member x fs) alone (member_filter (λ (y : FileRec). y.ino == f.ino) x found there (eq-eqb x.ino f.ino same)) in
      elim here [ inl one ↦ one | inr none ↦ absurd none ]

  at_kept : (f : FileRec) → Member f has.on.kept.files → is_directory f ≡ true → is_directory_at has.on.kept.files f.ino ≡ true
  at_kept f is dir =
      member_any (λ (x : FileRec). x.ino == f.ino && is_directory x) f has.on.kept.files is
      (ap (λ (t : Bool). t && is_directory f) (eq-eqb f.ino f.ino refl) ∙ dir)

  not_kept : (ino : ℕ) → Member ino has.on.kept.fresh → is_directory_at has.on.kept.files ino ≡ false
  not_kept ino is = by_case (is_directory_at has.on.kept.files ino) refl
    where
      some_none : (f : FileRec) → Some f ≡ None → ⊥
      some_none f same = cc

      by_case : (t : Bool) → is_directory_at has.on.kept.files ino ≡ t → t ≡ false
      by_case true there =
          let one = any_member (λ (x : FileRec). x.ino == ino && is_directory x) has.on.kept.files there in
          let parts = and_parts (one.0.ino == ino) (is_directory one.0) one.2 in
          absurd (some_none one.0
          (sym (kept_at g sector s image now e n r has one.0 one.1) ∙ ap (file_at has.on.kept.files) (eqb-true one.0.ino ino parts.0) ∙ fresh_not_kept g sector s image now e n r has ino is))
      by_case false none = refl

  -- the entries of a kept directory
  entries_are : n.entries ≡ filter (λ (x : EntryRec). is_directory_at has.on.kept.files x.dir) (flat_map (entries_of v image) (filter is_directory found))
  unfolding entries_read directories kept_files
  entries_are = has.due.entries' ∙ entries_of_image g image e has.on has.evidence has.ground
      ∙ ap (λ (fs : List FileRec). filter (λ (x : EntryRec). is_directory_at fs x.dir) (flat_map (entries_of v image) (filter is_directory found))) (sym kept_by)

  pub kept_entries : (f : FileRec) → Member f has.on.kept.files → is_directory f ≡ true → entries_in n.entries f.ino ≡ entries_of v image f
  kept_entries f is dir =
      ap (λ (es : List EntryRec). entries_in es f.ino) entries_are
      ∙ passing_entries (is_directory_at has.on.kept.files) f.ino (flat_map (entries_of v image) (filter is_directory found)) (at_kept f is dir)
      ∙ read_entries v image 0 f found found_up (found_file f is) dir

  -- what is made anew has none
  pub fresh_entries : (ino : ℕ) → Member ino has.on.kept.fresh → entries_in n.entries ino ≡ []
  fresh_entries ino is =
      ap (λ (es : List EntryRec). entries_in es ino) entries_are
      ∙ failing_entries (is_directory_at has.on.kept.files) ino (flat_map (entries_of v image) (filter is_directory found)) (not_kept ino is)

  -- the directories that are known: those of the image, and a root that is made anew
  dirs_are : has.on.kept.dirs ≡ filter (λ (d : DirRec). is_directory_at has.on.kept.files d.ino) (map (dir_of v image) (filter is_directory found))
  unfolding dirs_read directories kept_files
  dirs_are = dirs_of_image g image e has.on has.evidence has.ground
      ∙ ap (λ (fs : List FileRec). filter (λ (d : DirRec). is_directory_at fs d.ino) (map (dir_of v image) (filter is_directory found))) (sym kept_by)

  abbrev IsNewRoot : DirRec → Type 0
  IsNewRoot d = (is_among has.on.kept.fresh g.rootino ≡ true) × (new_root g.rootino ≡ d)

  abbrev IsFoundDir : DirRec → Type 0
  IsFoundDir d = (x : FileRec) × Member x found × (dir_of v image x ≡ d) × (is_directory_at has.on.kept.files d.ino ≡ true)

  found_dir : (d : DirRec) → Member d has.on.kept.dirs → IsFoundDir d
  found_dir d is =
      let passes = filter_member (λ (y : DirRec). is_directory_at has.on.kept.files y.ino) d (map (dir_of v image) (filter is_directory found)) (subst (λ (ds : List DirRec). Member d ds) dirs_are is) in
      let from = map_member (dir_of v image) d (filter is_directory found) passes.0 in
      (from.0, (filter_member is_directory from.0 found from.1).0, from.2, passes.1)

  dir_cases : (d : DirRec) → Member d n.dirs → IsNewRoot d ⊎ IsFoundDir d
  dir_cases d is = by_fresh (is_among has.on.kept.fresh g.rootino) refl (subst (λ (ds : List DirRec). Member d ds) has.due.dirs' is)
    where
      by_fresh : (t : Bool) → is_among has.on.kept.fresh g.rootino ≡ t → Member d (if t then with_dir (new_root g.rootino) has.on.kept.dirs else has.on.kept.dirs) → IsNewRoot d ⊎ IsFoundDir d
      by_fresh true fresh there =
          elim (one_put (new_root g.rootino) d has.on.kept.dirs there) [
            | inl root ↦ inl (fresh, root)
            | inr old ↦ inr (found_dir d old)
          ]
      by_fresh false none there = inr (found_dir d there)

  among : (ino : ℕ) (ns : List ℕ) → is_among ns ino ≡ true → Member ino ns
  among ino ns is = let one = any_member (λ m. m == ino) ns is in subst (λ (m : ℕ). Member m ns) (eqb-true one.0 ino one.2) one.1

  pub record IsWhole (f : FileRec) (parent : ℕ) : Type 0 where
    pub whole : is_whole v image f ≡ true
    pub parent' : parent_of v image f ≡ parent

  whole_parts : (d : DirRec) (ino parent : ℕ) → (d.ino == ino && (d.whole && d.parent == parent)) ≡ true → (d.ino ≡ ino) × (d.whole ≡ true) × (d.parent ≡ parent)
  whole_parts d ino parent is =
      let one = and_parts (d.ino == ino) (d.whole && d.parent == parent) is in
      let two = and_parts d.whole (d.parent == parent) one.1 in
      (eqb-true d.ino ino one.0, two.0, eqb-true d.parent parent two.1)

  pub kept_whole : (f : FileRec) (parent : ℕ) → Member f has.on.kept.files → is_directory f ≡ true → is_whole_with n.dirs f.ino parent ≡ true → IsWhole f parent
  kept_whole f parent is dir known =
      let one = any_member (λ (d : DirRec). d.ino == f.ino && (d.whole && d.parent == parent)) n.dirs known in
      let parts = whole_parts one.0 f.ino parent one.2 in
      elim (dir_cases one.0 one.1) [
        | inl root ↦
            let number : g.rootino ≡ f.ino = ap (λ (d : DirRec). d.ino) root.1 ∙ parts.0 in
            absurd (true≢false (sym (at_kept f is dir) ∙ ap (is_directory_at has.on.kept.files) (sym number) ∙ not_kept g.rootino (among g.rootino has.on.kept.fresh root.0)))
        | inr old ↦
            let same : f ≡ old.0 = only_file f old.0 is old.1 (ap (λ (d : DirRec). d.ino) old.2 ∙ parts.0) in
            let read : dir_of v image f ≡ one.0 = ap (dir_of v image) same ∙ old.2 in
            record { whole = ap (λ (d : DirRec). d.whole) read ∙ parts.1; parent' = ap (λ (d : DirRec). d.parent) read ∙ parts.2 }
      ]

  -- a root that is made anew is its own parent
  pub fresh_parent : (ino parent : ℕ) → Member ino has.on.kept.fresh → is_whole_with n.dirs ino parent ≡ true → g.rootino ≡ parent
  fresh_parent ino parent is known =
      let one = any_member (λ (d : DirRec). d.ino == ino && (d.whole && d.parent == parent)) n.dirs known in
      let parts = whole_parts one.0 ino parent one.2 in
      elim (dir_cases one.0 one.1) [
        | inl root ↦ ap (λ (d : DirRec). d.parent) root.1 ∙ parts.2
        | inr old ↦ absurd (true≢false (sym old.3 ∙ ap (is_directory_at has.on.kept.files) parts.0 ∙ not_kept ino is))
      ]
