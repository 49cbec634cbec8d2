-- Which slots and blocks stay, and that only directories are built anew, as it is asked where log sequence numbers are judged.
use Rattle.std.proofs.Common.{◌≡◌, ◌⊎◌, inl, inr, ℕ, Bool, true, false, not, ◌/◌, ◌^◌, ◌==◌, ◌||◌, if◌then◌else◌, List, [], ◌∷◌, ◌++◌, map, Option, Some, None, refl, sym, ap, ◌∙◌, subst}
use Rattle.std.specs.List.{Contains, flat_map}
use Rattle.std.specs.Option.{is_some}
use Rattle.std.proofs.lemmas.Bool.{and_from, cases_eq, eq-eqb, false≢true, or_left, or_right}
use Rattle.std.proofs.lemmas.List.Elements.{All-from_recursion}
use Rattle.xfs_disk.specs.Blocks.{Image}
use Rattle.xfs_disk.specs.Lists.{is_among}
use Rattle.xfs_disk.specs.declared.stamp.Stamp.{Stamp}
use Rattle.xfs_geom.specs.Volumes.{Volume, volume_of}
use Rattle.xfs_geom.specs.declared.geometry.Geometry.{Geometry}
use Rattle.xfs_image.specs.Candidates.{candidates}
use Rattle.xfs_image.specs.Claims.{candidate_files, candidate_inodes}
use Rattle.xfs_image.specs.Slots.{cluster_inodes}
use Rattle.xfs_inodebuild.specs.declared.forks.ForkWanted.{ForkWanted}
use Rattle.xfs_naming.specs.Naming.{is_in_use}
use Rattle.xfs_volume.specs.Names.{type_of}
use Rattle.xfs_volume.specs.declared.cores.Core.{Core}
use Rattle.xfs_volume.specs.declared.files.FileRec.{FileRec}
use Rattle.xfs_rename.specs.xfs_scan.declared.evidence.Evidence.{Evidence}
use Rattle.xfs_views.specs.SameFiles.{HasSameClaims}
use Rattle.xfs_views.proofs.Members.{Member, all_members, contained, contains, map_member, member_any, member_either, member_map}
use Rattle.xfs_rename.specs.xfs_rebuild.Names.{linked_file, linked_files}
use Rattle.xfs_rename.specs.xfs_rebuild.declared.names_due.NamesDue.{NamesDue}
use Rattle.xfs_rename.specs.Lost.{lost_due}
use Rattle.xfs_rename.specs.Renames.{old_files, placed_forks, renamed_slots}
use Rattle.xfs_rename.specs.Settled.{fresh_with, settled, staying_file, without_data}
use Rattle.xfs_rename.specs.xfs_changes.declared.lost_found.Lost.{Lost}
use Rattle.xfs_rename.specs.declared.planning.Renamed.{Renamed}
use Rattle.xfs_rename.specs.xfs_built.Directories.{with_runs}
use Rattle.xfs_restored.proofs.NewSlots.{added_made}
use Rattle.xfs_render.specs.Slots.{wanted_of}
use Rattle.xfs_render.specs.declared.wanted_slots.SlotBase.TheVariants.{Kept}
use Rattle.xfs_render.specs.declared.wanted_slots.SlotWanted.{SlotWanted}
use Rattle.xfs_rename.specs.xfs_request.Fresh.{new_root_core, new_system_core}
use Rattle.xfs_rename.specs.xfs_request.Slots.{freed_slot, is_free, state_at}
use Rattle.xfs_rename.specs.xfs_request.declared.seen.SlotSeen.{SlotSeen}
use Rattle.xfs_rename.specs.xfs_made.Handed.{IsKeptOf}
use Rattle.xfs_rename.proofs.xfs_made.Taken.{among_member}
use Rattle.xfs_restored.specs.DueFiles.{kept_inodes, new_core}
use Rattle.xfs_restored.specs.Kept.{slot_seen}
use Rattle.xfs_restored.proofs.InKept.{of_kept}
use Rattle.xfs_restored.proofs.Wanted.{state_is}
use Rattle.xfs_restored.proofs.Handed.{kept_of_image}
use Rattle.xfs_restored.proofs.Known.{evidence_known}
use Rattle.xfs_restored.specs.Relinking.{IsRelinked, built_at, file_due, renamed_files}
use Rattle.xfs_restored.specs.StayingNumbers.{AreDirectories, AreStaying, IsMadeAnew, IsStayingSlot, StaysKept}
use Rattle.xfs_restored.proofs.ClaimsStay.{claims_stay}
use Rattle.xfs_restored.proofs.DueNodes.{due_number, fresh_kind, kept_kind, lost_kind}
use Rattle.xfs_restored.proofs.NamedFiles.{new_root}
use Rattle.xfs_restored.proofs.WantedBuilt as Built
use Rattle.xfs_restored.proofs.WantedCases as Cases
use Rattle.xfs_restored.proofs.WantedNumbers as Numbers

-- a slot that is kept, or of which nothing is wanted
kept_stays : (ino : ℕ) (drop : Option ℕ) (fork : Option ForkWanted) (nlink : Option ℕ) → StaysKept (Cases.kept_change ino drop fork nlink)
kept_stays ino drop fork nlink = by_case (is_some drop || (is_some fork || is_some nlink))
  where
    by_case : (t : Bool) → StaysKept (if t then Some (record { ino = ino; base = Kept; drop_attrs = drop; fork = fork; nlink = nlink }) else None)
    by_case true = refl
    by_case false = tt

-- what is made anew begins with no log sequence number
new_lsn : (v : Volume) (s : Stamp) (ino : ℕ) → (new_core v s ino).lsn ≡ 0
new_lsn v s ino = by_case (ino == v.rootino)
  where
    by_case : (t : Bool) → (if t then new_root_core v s else new_system_core v s ino).lsn ≡ 0
    by_case true = refl
    by_case false = refl

same_number : (rebuilt : List ℕ) (f : FileRec) → (staying_file rebuilt f).ino ≡ f.ino
same_number rebuilt f = by_case (is_among rebuilt f.ino)
  where
    by_case : (t : Bool) → (if t then without_data f else f).ino ≡ f.ino
    by_case true = refl
    by_case false = refl

none_some : {X : Type 0} (x : X) → None ≡ Some x → ⊥
none_some x is = absurd cc

-- what is not listed
no_member : (xs : List ℕ) (x : ℕ) → (Member x xs → ⊥) → is_among xs x ≡ false
no_member xs x none = by_case (is_among xs x) refl
  where
    by_case : (t : Bool) → is_among xs x ≡ t → is_among xs x ≡ false
    by_case true is = absurd (none (among_member x xs is))
    by_case false is = is

with_lost : (l : Lost) (fresh : List ℕ) (ino : ℕ) → Member ino (fresh_with l fresh) → Member ino fresh ⊎ ((l.made ≡ true) × (ino ≡ l.new))
with_lost l fresh ino is = by_case l.made refl is
  where
    by_case : (t : Bool) → l.made ≡ t → Member ino (if t then fresh ++ l.new ∷ [] else fresh) → Member ino fresh ⊎ ((l.made ≡ true) × (ino ≡ l.new))
    by_case true made at = elim (member_either ino fresh (l.new ∷ []) at) [
      | inl there ↦ inl there
      | inr last ↦ elim last [ inl same ↦ inr (made, sym same) | inr none ↦ absurd none ]
    ]
    by_case false made at = inl at

module _ (g : Geometry) (sector : List ℕ) (s : Stamp) (image now : Image) (e : Evidence) (n : NamesDue) (r : Renamed) (has : IsRelinked g sector s image now e n r) where
  abbrev v : Volume
  v = volume_of g

  abbrev l : Lost
  l = lost_due g n

  abbrev links : List (ℕ × ℕ)
  links = has.is.w.links

  abbrev slots : List SlotWanted
  slots = renamed_slots g s n has.is.w (placed_forks g n has.is.w has.is.built has.is.placed)

  abbrev due : ℕ × ℕ → FileRec
  due = file_due g s now has.on n has.is.w has.is.built has.is.placed

  of : IsKeptOf v (candidates v image) (candidate_files v image) has.on.kept
  of = kept_of_image g image e has.on has.evidence has.ground

  known : (ino : ℕ) → Member ino (kept_inodes v has.on.kept) → state_at has.on.seen ino ≡ (slot_seen v image ino).state
  known ino is =
      ap (λ (xs : List SlotSeen). state_at xs ino) (has.ground.seen' ∙ evidence_known g image e has.evidence)
      ∙ state_is v image ino (of_kept g image has.on.kept of ino is).candidate

  candidate : (ino : ℕ) → Member ino (kept_inodes v has.on.kept) → Contains (candidate_inodes v image) ino
  candidate ino is = contains ino (candidate_inodes v image) (of_kept g image has.on.kept of ino is).candidate

  -- the slot of a kept file stays
  in_use : (f : FileRec) → Member f has.on.kept.files → is_in_use (old_files n has.is.w) f.ino ≡ true
  in_use f is =
      let named : FileRec = linked_file g.rootino has.on.kept f in
      let there : Member (staying_file has.is.w.rebuilt named) (old_files n has.is.w) =
      subst (λ (fs : List FileRec). Member (staying_file has.is.w.rebuilt named) fs) (sym (Built.old_are g sector s image now e n r has))
      (member_map (staying_file has.is.w.rebuilt) named (linked_files g.rootino has.on.kept) (member_map (linked_file g.rootino has.on.kept) f has.on.kept.files is)) in
      member_any (λ (x : FileRec). x.ino == f.ino) (staying_file has.is.w.rebuilt named) (old_files n has.is.w) there
      (eq-eqb (staying_file has.is.w.rebuilt named).ino f.ino (same_number has.is.w.rebuilt named))

  kept_slot : (f : FileRec) (k : ℕ) → Member f has.on.kept.files → Member (f.ino, k) links → IsStayingSlot v image (settled n l has.is.w) slots f.ino
  kept_slot f k is linked =
      let wanted = Cases.kept_wanted g sector s image now e n r has f k is linked in
      record {
        base = subst StaysKept (sym wanted.wanted') (kept_stays f.ino _ _ wanted.nlink);
        candidate = candidate f.ino (Numbers.kept_inode g sector s image now e n r has f is);
        stays = or_left (is_in_use (old_files n has.is.w) f.ino) _ (in_use f is);
      }

  -- one that is made anew
  fresh_slot : (ino k : ℕ) → Member ino has.on.kept.fresh → Member (ino, k) links → IsMadeAnew (wanted_of slots ino)
  fresh_slot ino k is linked = subst IsMadeAnew (sym (Cases.fresh_wanted g sector s image now e n r has ino k is linked)) (new_lsn v s ino)

  lost_slot : l.made ≡ true → IsMadeAnew (wanted_of slots l.new)
  lost_slot made =
      let pair = Numbers.lost_linked g sector s image now e n r has made in
      subst IsMadeAnew (sym (Cases.lost_wanted g sector s image now e n r has pair.0 made pair.1)) refl

  -- and one that no file has
  no_fresh : (ino : ℕ) → ((k : ℕ) → Member (ino, k) links → ⊥) → is_among (fresh_with l n.fresh) ino ≡ false
  no_fresh ino none =
      no_member (fresh_with l n.fresh) ino (λ is.
      elim (with_lost l n.fresh ino is) [
        | inl fresh ↦
            let pair = Numbers.fresh_linked g sector s image now e n r has ino (subst (λ (xs : List ℕ). Member ino xs) has.due.fresh' fresh) in
            none pair.0 pair.1
        | inr lost ↦
            let pair = Numbers.lost_linked g sector s image now e n r has lost.0 in
            none pair.0 (subst (λ (m : ℕ). Member (m, pair.0) links) (sym lost.1) pair.1)
      ])

  free_slot : (ino : ℕ) → Member ino (kept_inodes v has.on.kept) → ((k : ℕ) → Member (ino, k) links → ⊥)
      → IsMadeAnew (wanted_of slots ino) ⊎ IsStayingSlot v image (settled n l has.is.w) slots ino
  free_slot ino is none = by_case (is_free (state_at has.on.seen ino)) refl (Cases.free_wanted g sector s image now e n r has ino is none)
    where
      by_case : (t : Bool) → is_free (state_at has.on.seen ino) ≡ t → wanted_of slots ino ≡ (if t then None else Some (freed_slot ino))
          → IsMadeAnew (wanted_of slots ino) ⊎ IsStayingSlot v image (settled n l has.is.w) slots ino
      by_case true free wanted = inr (record {
        base = subst StaysKept (sym wanted) tt;
        candidate = candidate ino is;
        stays =
            or_right (is_in_use (old_files n has.is.w) ino) _
            (and_from (is_free (slot_seen v image ino).state) (not (is_among (fresh_with l n.fresh) ino)) (ap is_free (sym (known ino is)) ∙ free) (ap not (no_fresh ino none)));
      })
      by_case false used wanted = inl (subst IsMadeAnew (sym wanted) tt)

  abbrev Stands : ℕ → Type 0
  Stands ino = IsMadeAnew (wanted_of slots ino) ⊎ IsStayingSlot v image (settled n l has.is.w) slots ino

  pair_slot : (p : ℕ × ℕ) → Member p links → Stands p.0
  pair_slot p is = elim (Numbers.pair_cases g sector s image now e n r has p is) [
    | inl kept ↦ inr (subst (IsStayingSlot v image (settled n l has.is.w) slots) kept.2 (kept_slot kept.0 p.1 kept.1 (subst (λ (m : ℕ). Member (m, p.1) links) (sym kept.2) is)))
    | inr other ↦ elim other [
      | inl fresh ↦ inl (fresh_slot p.0 p.1 fresh is)
      | inr lost ↦ inl (subst (λ (m : ℕ). IsMadeAnew (wanted_of slots m)) (sym lost.1) (lost_slot lost.0))
    ]
  ]

  kept_inode : (ino : ℕ) → Member ino (kept_inodes v has.on.kept) → Stands ino
  kept_inode ino is = by_case (is_among (map (λ (p : ℕ × ℕ). p.0) links) ino) refl
    where
      by_case : (t : Bool) → is_among (map (λ (p : ℕ × ℕ). p.0) links) ino ≡ t → Stands ino
      by_case true at =
          let pair = map_member (λ (p : ℕ × ℕ). p.0) ino links (among_member ino (map (λ (p : ℕ × ℕ). p.0) links) at) in
          subst Stands pair.2 (pair_slot pair.0 pair.1)
      by_case false off =
          free_slot ino is (λ k linked.
          false≢true (sym off ∙ member_any (λ m. m == ino) ino (map (λ (p : ℕ × ℕ). p.0) links) (member_map (λ (p : ℕ × ℕ). p.0) (ino, k) links linked) (eq-eqb ino ino refl)))

  new_slot : (cluster ino : ℕ) → l.added ≡ cluster ∷ [] → Member ino (cluster_inodes v cluster) → IsMadeAnew (wanted_of slots ino)
  new_slot cluster ino added is = elim (Cases.new_inode g sector s image now e n r has cluster ino added is) [
    | inl first ↦ subst (λ (m : ℕ). IsMadeAnew (wanted_of slots m)) (sym first) (lost_slot (added_made g n cluster added).1)
    | inr behind ↦
        subst (λ (m : ℕ). IsMadeAnew (wanted_of slots m)) (sym behind.2)
        (subst IsMadeAnew (sym (Cases.behind_wanted g sector s image now e n r has cluster behind.0 added behind.1)) tt)
  ]

  each_slot : (ino : ℕ) → Contains (flat_map (cluster_inodes v) (settled n l has.is.w).clusters) ino → Stands ino
  each_slot ino is =
      elim (Cases.inode_cases g sector s image now e n r has ino (contained ino (flat_map (cluster_inodes v) (settled n l has.is.w).clusters) is)) [
        | inl kept ↦ kept_inode ino kept
        | inr new ↦ inl (new_slot new.0 ino new.1 new.2)
      ]

  pub staying : AreStaying (volume_of g) image now (settled n (lost_due g n) has.is.w) (renamed_slots g s n has.is.w (placed_forks g n has.is.w has.is.built has.is.placed))
  staying = record {
    slots' = each_slot;
    claims =
        All-from_recursion (HasSameClaims v image now) (old_files n has.is.w)
        (all_members (HasSameClaims v image now) (old_files n has.is.w) (λ f is. claims_stay g sector s image n r has.is f is now has.new));
  }

  -- what is built anew is a directory
  root_kind : (ino : ℕ) → ino ≡ g.rootino → (new_core v s ino).mode / 2 ^ 12 ≡ 4
  root_kind ino same = ap (λ (m : ℕ). (new_core v s m).mode / 2 ^ 12) same ∙ ap (λ (core : Core). core.mode / 2 ^ 12) (new_root v s)

  pair_directory : (p : ℕ × ℕ) → Member p links → is_among has.is.w.rebuilt p.0 ≡ true → type_of (due p) ≡ 4
  pair_directory p is among =
      let d = Built.built_has g sector s image now e n r has p.0 among in
      elim (Numbers.pair_cases g sector s image now e n r has p is) [
        | inl kept ↦
            subst (λ (m : ℕ). type_of (due (m, p.1)) ≡ 4) kept.2
            (kept_kind g sector s image now e n r has kept.0 p.1 kept.1
            ∙ Built.kept_built_directory g sector s image now e n r has kept.0 d.0 kept.1 (ap (built_at (with_runs has.is.built has.is.placed.cuts has.is.placed.runs)) kept.2 ∙ d.1))
        | inr other ↦ elim other [
          | inl fresh ↦ elim (cases_eq p.0 g.rootino) [
            | inl root ↦ fresh_kind g sector s image now e n r has p.0 p.1 fresh ∙ root_kind p.0 root
            | inr system ↦ absurd (none_some d.0 (sym (Built.system_not_built g sector s image now e n r has p.0 fresh system) ∙ d.1))
          ]
          | inr lost ↦ subst (λ (m : ℕ). type_of (due (m, p.1)) ≡ 4) (sym lost.1) (lost_kind g sector s image now e n r has p.1 lost.0)
        ]
      ]

  pub directories : AreDirectories has.is.w.rebuilt (renamed_files g s now has.on n has.is.w has.is.built has.is.placed)
  unfolding renamed_files
  directories =
      let P : FileRec → Type 0 = λ f. is_among has.is.w.rebuilt f.ino ≡ true → type_of f ≡ 4 in
      All-from_recursion P (map due links)
      (all_members P (map due links)
      (λ f is among.
      let pair = map_member due f links is in
      let number : f.ino ≡ pair.0.0 = ap (λ (x : FileRec). x.ino) (sym pair.2) ∙ due_number g sector s image now e n r has pair.0 in
      subst (λ (x : FileRec). type_of x ≡ 4) pair.2 (pair_directory pair.0 pair.1 (subst (λ (m : ℕ). is_among has.is.w.rebuilt m ≡ true) number among))))
