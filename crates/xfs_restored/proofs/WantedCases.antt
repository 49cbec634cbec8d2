-- What is wanted of the slot of each inode of the clusters that the volume then has.
use Rattle.std.proofs.Common.{◌≡◌, ◌⊎◌, inl, inr, ℕ, Bool, true, false, ◌+◌, ◌-◌, ◌^◌, ◌≤◌, ◌<◌, ◌==◌, ◌&&◌, ◌||◌, if◌then◌else◌, List, [], ◌∷◌, length, map, filter, Option, Some, None, refl, sym, ap, ◌∙◌, subst, arith}
use Rattle.std.specs.List.{flat_map, range_with_len}
use Rattle.std.specs.Option.{is_some, option_map}
use Rattle.std.proofs.lemmas.Bool.{and_parts, cases_lt, eq-eqb, eqb-true, false_from_ne_true, ne_eqb}
use Rattle.xfs_disk.specs.Blocks.{Image}
use Rattle.xfs_disk.specs.Lists.{is_among}
use Rattle.xfs_disk.specs.declared.stamp.Stamp.{Stamp}
use Rattle.xfs_geom.specs.Features.{or_else}
use Rattle.xfs_geom.specs.Volumes.{Volume, volume_of}
use Rattle.xfs_geom.specs.declared.geometry.Geometry.{Geometry}
use Rattle.xfs_image.specs.Slots.{cluster_inodes}
use Rattle.xfs_inodebuild.specs.declared.forks.ForkWanted.{ForkWanted}
use Rattle.xfs_naming.specs.Naming.{NumbersAscend}
use Rattle.xfs_views.proofs.Members.{Member, contains, flat_member, map_member, member_either, member_flat, row_member}
use Rattle.xfs_render.specs.Slots.{wanted_of}
use Rattle.xfs_render.specs.declared.wanted_slots.SlotBase.{SlotBase}
use Rattle.xfs_render.specs.declared.wanted_slots.SlotBase.TheVariants.{Fresh, Kept}
use Rattle.xfs_render.specs.declared.wanted_slots.SlotWanted.{SlotWanted}
use Rattle.xfs_salvage.proofs.Ascending.{lower}
use Rattle.xfs_salvage.specs.declared.found.Salvaged.{Salvaged}
use Rattle.xfs_rename.specs.xfs_request.Fresh.{new_root_core, new_root_fork, new_root_slot, new_slot, new_system_core, new_system_slot}
use Rattle.xfs_rename.specs.xfs_request.Slots.{attrs_wanted, file_slot, freed_slot, is_free, kept_slot, links_due, nlink_wanted, slot_listed, slot_wanted, state_at}
use Rattle.xfs_rename.specs.xfs_request.declared.seen.SlotSeen.{SlotSeen}
use Rattle.xfs_rename.proofs.xfs_made.Spaced.{AreSpaced, inodes_up, kept_spaced}
use Rattle.xfs_rename.proofs.xfs_made.Taken.{among_member}
use Rattle.xfs_rename.proofs.xfs_made.Inodes.{first_in}
use Rattle.xfs_rename.specs.xfs_scan.declared.evidence.Evidence.{Evidence}
use Rattle.xfs_volume.specs.declared.cores.Core.{Core}
use Rattle.xfs_volume.specs.declared.files.FileRec.{FileRec}
use Rattle.xfs_rename.specs.xfs_rebuild.declared.names_due.NamesDue.{NamesDue}
use Rattle.xfs_restored.proofs.Wanted.{file_wanted, listed, other_wanted, wanted_is}
use Rattle.xfs_restored.specs.DueFiles.{kept_inodes, new_core}
use Rattle.xfs_rename.specs.Lost.{lost_due}
use Rattle.xfs_rename.specs.xfs_changes.Nodes.{first_of_cluster}
use Rattle.xfs_rename.specs.Renames.{old_files, placed_forks, renamed_slots}
use Rattle.xfs_rename.specs.Settled.{settled, with_numbers}
use Rattle.xfs_rename.specs.xfs_changes.Slots.{base_made, change_listed, change_of, changes_of, changes_something, fork_at, free_change, free_changes, links_held_at, links_set, lost_core}
use Rattle.xfs_rename.specs.xfs_changes.declared.changes.SlotChange.{SlotChange}
use Rattle.xfs_rename.specs.xfs_changes.declared.forks.DirectoryFork.{DirectoryFork}
use Rattle.xfs_rename.specs.xfs_changes.declared.lost_found.Lost.{Lost}
use Rattle.xfs_rename.specs.declared.planning.Renamed.{Renamed}
use Rattle.xfs_restored.proofs.Changing.{changes_wanted}
use Rattle.xfs_restored.proofs.DueSlots.{numbers_either}
use Rattle.xfs_restored.proofs.HeldPlans.{renamed_holds}
use Rattle.xfs_restored.proofs.Links.{changes_ascend, file_change}
use Rattle.xfs_restored.proofs.NewCluster.{free_due}
use Rattle.xfs_restored.proofs.NewSlots.{added_few, added_made, cluster_row}
use Rattle.xfs_restored.specs.Changes.{SlotsAscend, change_if, first_change, with_change}
use Rattle.xfs_rename.specs.xfs_built.Directories.{BuiltRuns, with_runs}
use Rattle.xfs_restored.specs.RunForks.{fork_of_runs}
use Rattle.xfs_restored.proofs.Standing.{same_size}
use Rattle.xfs_restored.specs.Relinking.{IsRelinked, built_at}
use Rattle.xfs_restored.proofs.WantedBuilt.{fork_is, lost_none, no_links, own_links}
use Rattle.xfs_restored.proofs.WantedNumbers.{fresh_among_it, fresh_inode, fresh_is_not_lost, fresh_linked, fresh_none, inode_apart, kept_alone, kept_inode, kept_is_not_lost, kept_linked, links_rise, lost_linked, one_added, taken_all}
use Rattle.xfs_restored.proofs.WantedLists.{none_other}
use Rattle.xfs_restored.proofs.WantedSlots.{fresh_slot, none_at, none_outside, slots_up, wanted_either}

-- a slot that stays but for attributes, data fork and links; nothing is wanted where all stay
abbrev pub kept_change : ℕ → Option ℕ → Option ForkWanted → Option ℕ → Option SlotWanted
kept_change ino drop fork nlink =
    if is_some drop || (is_some fork || is_some nlink) then Some (record { ino = ino; base = Kept; drop_attrs = drop; fork = fork; nlink = nlink }) else None

-- a slot that is made anew, with a core
abbrev pub made_slot : ℕ → Core → Option ForkWanted → ℕ → SlotWanted
made_slot ino core fork nlink = record { ino = ino; base = Fresh core; drop_attrs = None; fork = fork; nlink = Some nlink }

-- the number of links is set, or the file has it already
abbrev pub IsNamedSo : FileRec → ℕ → Option ℕ → Type 0
IsNamedSo f k nlink = (nlink ≡ Some k) ⊎ ((nlink ≡ None) × (f.core.nlink ≡ k) × (f.core.next_unlinked ≡ 0xffff_ffff))

-- what is wanted of the slot of a kept file with so many links
pub record IsKeptWanted (v : Volume) (old : List FileRec) (built : List BuiltRuns) (seen : List SlotSeen) (slots : List SlotWanted) (f : FileRec) (k : ℕ) : Type 0 where
  pub nlink : Option ℕ
  pub wanted' : wanted_of slots f.ino ≡ kept_change f.ino (attrs_wanted f (state_at seen f.ino)) (option_map (fork_of_runs v old) (built_at built f.ino)) nlink
  pub named : IsNamedSo f k nlink

-- the fork of a root that is made anew; a system inode has none
abbrev pub fresh_fork : Volume → ℕ → Option ForkWanted
fresh_fork v ino = if ino == v.rootino then Some (new_root_fork v) else None

-- a change of these parts, where one of them is some
abbrev change_with : ℕ → Option SlotBase → Option ForkWanted → Option ℕ → SlotChange
change_with ino base fork nlink = record { ino = ino; base = base; fork = fork; nlink = nlink }

abbrev change_found : ℕ → Option SlotBase → Option ForkWanted → Option ℕ → Option SlotChange
change_found ino base fork nlink = change_if (is_some base || (is_some fork || is_some nlink)) (change_with ino base fork nlink)

-- a change beside what was wanted of the slot of a kept file
joined_kept : (ino : ℕ) (attrs : Option ℕ) (fork : Option ForkWanted) (set before : Option ℕ)
    → with_change (change_found ino None fork set) (kept_slot ino attrs before) ≡ kept_change ino attrs fork (or_else set before)
joined_kept ino attrs None None before = refl
joined_kept ino None None (Some m) None = refl
joined_kept ino None None (Some m) (Some b) = refl
joined_kept ino (Some a) None (Some m) before = refl
joined_kept ino None (Some fork) None None = refl
joined_kept ino None (Some fork) (Some m) None = refl
joined_kept ino None (Some fork) set (Some b) = refl
joined_kept ino (Some a) (Some fork) set before = refl

named_so : (f : FileRec) (due k : ℕ) → IsNamedSo f k (or_else (links_set (Some due) k) (nlink_wanted f due))
named_so f due k = by_set (due == k) refl
  where
    by_held : (t : Bool) → (f.core.nlink == due && f.core.next_unlinked == 2 ^ 32 - 1) ≡ t → due ≡ k → IsNamedSo f k (if t then None else Some due)
    by_held true is same =
        let parts = and_parts (f.core.nlink == due) (f.core.next_unlinked == 2 ^ 32 - 1) is in
        inr (refl, eqb-true f.core.nlink due parts.0 ∙ same, eqb-true f.core.next_unlinked (2 ^ 32 - 1) parts.1)
    by_held false is same = inl (ap (λ (m : ℕ). Some m) same)

    by_set : (t : Bool) → (due == k) ≡ t → IsNamedSo f k (or_else (if t then None else Some k) (nlink_wanted f due))
    by_set true is = by_held (f.core.nlink == due && f.core.next_unlinked == 2 ^ 32 - 1) refl (eqb-true due k is)
    by_set false is = inl refl

-- beside a slot that is made anew
abbrev made_for : Volume → Stamp → ℕ → Bool → SlotWanted
made_for v s ino t = if t then new_root_slot v s else new_system_slot v s ino

joined_fresh : (v : Volume) (s : Stamp) (ino : ℕ) (fork : Option ForkWanted) (k : ℕ)
    → with_change (change_found ino None fork (Some k)) (Some (new_slot v s ino)) ≡ Some (made_slot ino (new_core v s ino) (or_else fork (fresh_fork v ino)) k)
joined_fresh v s ino fork k = by_root (ino == v.rootino) refl fork
  where
    by_root : (t : Bool) → (ino == v.rootino) ≡ t → (fork : Option ForkWanted) → with_change (change_found ino None fork (Some k)) (Some (made_for v s ino t))
        ≡ Some (made_slot ino (if t then new_root_core v s else new_system_core v s ino) (or_else fork (if t then Some (new_root_fork v) else None)) k)
    by_root true e None = ap (λ (m : ℕ). Some (made_slot m (new_root_core v s) (Some (new_root_fork v)) k)) (sym (eqb-true ino v.rootino e))
    by_root true e (Some f) = ap (λ (m : ℕ). Some (made_slot m (new_root_core v s) (Some f) k)) (sym (eqb-true ino v.rootino e))
    by_root false e None = refl
    by_root false e (Some f) = refl

-- and beside a slot that was to be freed, or of which nothing was wanted
joined_lost : (ino : ℕ) (core : Core) (fork : Option ForkWanted) (k : ℕ) (before : Option SlotWanted) → (before ≡ None) ⊎ (before ≡ Some (freed_slot ino))
    → with_change (change_found ino (Some (Fresh core)) fork (Some k)) before ≡ Some (made_slot ino core fork k)
joined_lost ino core fork k before (inl none) = ap (with_change (change_found ino (Some (Fresh core)) fork (Some k))) none
joined_lost ino core fork k before (inr freed) = ap (with_change (change_found ino (Some (Fresh core)) fork (Some k))) freed ∙ by_fork fork
  where
    by_fork : (o : Option ForkWanted) → with_change (change_found ino (Some (Fresh core)) o (Some k)) (Some (freed_slot ino)) ≡ Some (made_slot ino core o k)
    by_fork None = refl
    by_fork (Some f) = refl

-- lost+found is made anew where it is new, and nothing else is
no_base : (v : Volume) (s : Stamp) (l : Lost) (ino : ℕ) → (l.new ≡ ino → ⊥) → base_made v s l ino ≡ None
no_base v s l ino other = by_made l.made
  where
    by_made : (t : Bool) → (if t then (if l.new == ino then Some (Fresh (lost_core v s ino)) else None) else None) ≡ None
    by_made true = ap (λ (u : Bool). if u then Some (Fresh (lost_core v s ino)) else None) (ne_eqb l.new ino other)
    by_made false = refl

lost_base : (v : Volume) (s : Stamp) (l : Lost) → l.made ≡ true → base_made v s l l.new ≡ Some (Fresh (lost_core v s l.new))
lost_base v s l made =
    ap (λ (t : Bool). if t then (if l.new == l.new then Some (Fresh (lost_core v s l.new)) else None) else None) made
    ∙ ap (λ (u : Bool). if u then Some (Fresh (lost_core v s l.new)) else None) (eq-eqb l.new l.new refl)

freed_or_none : (t : Bool) (ino : ℕ) → ((if t then None else Some (freed_slot ino)) ≡ None) ⊎ ((if t then None else Some (freed_slot ino)) ≡ Some (freed_slot ino))
freed_or_none true ino = inl refl
freed_or_none false ino = inr refl

module _ (g : Geometry) (sector : List ℕ) (s : Stamp) (image now : Image) (e : Evidence) (n : NamesDue) (r : Renamed) (has : IsRelinked g sector s image now e n r) where
  abbrev v : Volume
  v = volume_of g

  abbrev kept : Salvaged
  kept = has.on.kept

  abbrev l : Lost
  l = lost_due g n

  abbrev old : List FileRec
  old = old_files n has.is.w

  abbrev built : List BuiltRuns
  built = with_runs has.is.built has.is.placed.cuts has.is.placed.runs

  abbrev forks : List DirectoryFork
  forks = placed_forks g n has.is.w has.is.built has.is.placed

  abbrev slots : List SlotWanted
  slots = renamed_slots g s n has.is.w forks

  abbrev changes : List SlotChange
  changes = changes_of v s l old forks has.is.w.links

  -- what was wanted before stands by inode
  pub inodes_rise : NumbersAscend 0 (kept_inodes v kept)
  unfolding kept_inodes
  inodes_rise =
      lower 0 (first_in g 0) (flat_map (cluster_inodes v) kept.clusters) (omega arith)
      (inodes_up g 0 kept.clusters (subst (AreSpaced 0) (sym has.found.is.clusters') (kept_spaced v has.found.clusters has.found.files has.found.can)))

  slots_are : n.slots ≡ flat_map (slot_listed v s kept has.on.seen) (kept_inodes v kept)
  slots_are = has.due.slots' ∙ listed v s kept has.on.seen

  pub slots_rise : SlotsAscend 0 n.slots
  slots_rise = subst (SlotsAscend 0) (sym slots_are) (slots_up v s kept has.on.seen 0 (kept_inodes v kept) inodes_rise)

  pub wanted_before : (ino : ℕ) → Member ino (kept_inodes v kept) → wanted_of n.slots ino ≡ slot_wanted v s kept has.on.seen ino
  wanted_before ino is = ap (λ (ws : List SlotWanted). wanted_of ws ino) has.due.slots' ∙ wanted_is v s kept has.on.seen ino is

  -- what is wanted now
  joined : (ino : ℕ) → wanted_of slots ino ≡ with_change (first_change changes ino) (wanted_of n.slots ino)
  joined ino =
      changes_wanted ino changes 0 (changes_ascend v s l old forks (added_few g n) has.is.w.links 0 (links_rise g sector s image now e n r has)) n.slots 0 slots_rise

  change_is : (p : ℕ × ℕ) (base : Option SlotBase) (fork : Option ForkWanted) (nlink : Option ℕ) → Member p has.is.w.links → base_made v s l p.0 ≡ base → fork_at forks p.0 ≡ fork
      → links_set (links_held_at old p.0) p.1 ≡ nlink → first_change changes p.0 ≡ change_found p.0 base fork nlink
  change_is p base fork nlink is one two three =
      file_change v s l old forks (added_few g n) has.is.w.links 0 p (links_rise g sector s image now e n r has) is
      ∙ (λ i. change_found p.0 (one i) (two i) (three i))

  -- of a kept file
  pub kept_wanted : (f : FileRec) (k : ℕ) → Member f kept.files → Member (f.ino, k) has.is.w.links → IsKeptWanted v old built has.on.seen slots f k
  kept_wanted f k is linked =
      let due : ℕ = links_due g.rootino kept.files kept.entries f in
      let fork : Option ForkWanted = option_map (fork_of_runs v old) (built_at built f.ino) in
      let change : first_change changes f.ino ≡ change_found f.ino None fork (links_set (Some due) k) =
      change_is (f.ino, k) None fork (links_set (Some due) k) linked (no_base v s l f.ino (kept_is_not_lost g sector s image now e n r has f is)) (fork_is g sector s image now e n r has f.ino)
      (ap (λ (o : Option ℕ). links_set o k) (own_links g sector s image now e n r has f is)) in
      let before : wanted_of n.slots f.ino ≡ file_slot v s kept has.on.seen f =
      wanted_before f.ino (kept_inode g sector s image now e n r has f is) ∙ file_wanted v s kept has.on.seen f (kept_alone g sector s image now e n r has f is) in
      record {
        nlink = or_else (links_set (Some due) k) (nlink_wanted f due);
        wanted' =
            joined f.ino
            ∙ ((λ i. with_change (change i) (before i)) ∙ joined_kept f.ino (attrs_wanted f (state_at has.on.seen f.ino)) fork (links_set (Some due) k) (nlink_wanted f due));
        named = named_so f due k;
      }

  -- of the root or a system inode that is made anew
  pub fresh_wanted : (ino k : ℕ) → Member ino kept.fresh → Member (ino, k) has.is.w.links
      → wanted_of slots ino ≡ Some (made_slot ino (new_core v s ino) (or_else (option_map (fork_of_runs v old) (built_at built ino)) (fresh_fork v ino)) k)
  fresh_wanted ino k is linked =
      let fork : Option ForkWanted = option_map (fork_of_runs v old) (built_at built ino) in
      let none = fresh_none g sector s image now e n r has ino is in
      let change : first_change changes ino ≡ change_found ino None fork (Some k) =
      change_is (ino, k) None fork (Some k) linked (no_base v s l ino (fresh_is_not_lost g sector s image now e n r has ino is)) (fork_is g sector s image now e n r has ino)
      (ap (λ (o : Option ℕ). links_set o k) (no_links g sector s image now e n r has ino none)) in
      let before : wanted_of n.slots ino ≡ Some (new_slot v s ino) =
      wanted_before ino (fresh_inode g sector s image now e n r has ino is) ∙ fresh_slot v s kept has.on.seen ino (fresh_among_it g sector s image now e n r has ino is) none in
      joined ino ∙ ((λ i. with_change (change i) (before i)) ∙ joined_fresh v s ino fork k)

  -- of lost+found where it is made
  bare_is : (ino : ℕ) → filter (λ (x : FileRec). x.ino == ino) kept.files ≡ [] → (Member ino kept.fresh → ⊥)
      → slot_wanted v s kept has.on.seen ino ≡ (if is_free (state_at has.on.seen ino) then None else Some (freed_slot ino))
  bare_is ino none other =
      other_wanted v s kept has.on.seen ino none
      ∙ ap (λ (t : Bool). if t then Some (new_slot v s ino) else (if is_free (state_at has.on.seen ino) then None else Some (freed_slot ino)))
      (false_from_ne_true (is_among kept.fresh ino) (λ is. other (among_member ino kept.fresh is)))

  lost_before : (wanted_of n.slots l.new ≡ None) ⊎ (wanted_of n.slots l.new ≡ Some (freed_slot l.new))
  lost_before =
      let same : wanted_of n.slots l.new ≡ wanted_of (flat_map (slot_listed v s kept has.on.seen) (kept_inodes v kept)) l.new = ap (λ (ws : List SlotWanted). wanted_of ws l.new) slots_are in
      elim (wanted_either v s kept has.on.seen l.new (kept_inodes v kept)) [
        | inl none ↦ inl (same ∙ none)
        | inr own ↦
            let bare = same ∙ (own ∙ bare_is l.new (lost_none g sector s image now e n r has) (λ is. fresh_is_not_lost g sector s image now e n r has l.new is refl)) in
            elim (freed_or_none (is_free (state_at has.on.seen l.new)) l.new) [ inl none ↦ inl (bare ∙ none) | inr freed ↦ inr (bare ∙ freed) ]
      ]

  pub lost_wanted : (k : ℕ) → l.made ≡ true → Member (l.new, k) has.is.w.links
      → wanted_of slots l.new ≡ Some (made_slot l.new (lost_core v s l.new) (option_map (fork_of_runs v old) (built_at built l.new)) k)
  lost_wanted k made linked =
      let fork : Option ForkWanted = option_map (fork_of_runs v old) (built_at built l.new) in
      let change : first_change changes l.new ≡ change_found l.new (Some (Fresh (lost_core v s l.new))) fork (Some k) =
      change_is (l.new, k) (Some (Fresh (lost_core v s l.new))) fork (Some k) linked (lost_base v s l made) (fork_is g sector s image now e n r has l.new)
      (ap (λ (o : Option ℕ). links_set o k) (no_links g sector s image now e n r has l.new (lost_none g sector s image now e n r has))) in
      joined l.new
      ∙ (ap (λ (c : Option SlotChange). with_change c (wanted_of n.slots l.new)) change ∙ joined_lost l.new (lost_core v s l.new) fork k (wanted_of n.slots l.new) lost_before)

  -- of an inode of a kept cluster that no pair has
  behind_lost : (ino cluster : ℕ) → Member cluster l.added → Member ino (kept_inodes v kept) → (ino < l.new) ⊎ (l.new + 32 ≤ ino)
  behind_lost ino cluster new is = elim (one_added g n) [
    | inl none ↦ absurd (subst (Member cluster) none new)
    | inr one ↦
        subst (λ (m : ℕ). (ino < m) ⊎ (m + 32 ≤ ino)) (sym (added_made g n one.0 one.1).0) (inode_apart g sector s image now e n r has one.0 ino one.1 is)
  ]

  own_change : (p : ℕ × ℕ) (c : SlotChange) (t : Bool) → Member c (if t then change_of v s l old forks p ∷ [] else []) → c.ino ≡ p.0
  own_change p c true is = elim is [ inl same ↦ sym (ap (λ (x : SlotChange). x.ino) same) | inr none ↦ absurd none ]
  own_change p c false is = absurd is

  free_row : (p : ℕ × ℕ) (c : SlotChange) (t : Bool) → (l.new == p.0) ≡ t → Member c (if t then map free_change (range_with_len (p.0 + 1) 31) else []) → (l.new < c.ino) × (c.ino < l.new + 32)
  free_row p c true e is =
      let one = map_member free_change c (range_with_len (p.0 + 1) 31) is in
      let row = row_member one.0 (p.0 + 1) 31 one.1 in
      let number : one.0 ≡ c.ino = ap (λ (x : SlotChange). x.ino) one.2 in
      let same : l.new ≡ p.0 = eqb-true l.new p.0 e in
      let low = row.low in
      let high = row.high in
      (omega (arith, number, same, low), omega (arith, number, same, high))
  free_row p c false e is = absurd is

  no_change : (ino : ℕ) → Member ino (kept_inodes v kept) → ((k : ℕ) → Member (ino, k) has.is.w.links → ⊥) → (c : SlotChange) → Member c changes → c.ino ≡ ino → ⊥
  unfolding changes_of
  no_change ino is other c there same =
      let one = flat_member (change_listed v s l old forks) c has.is.w.links there in
      let p : ℕ × ℕ = one.0 in
      let own : List SlotChange = if changes_something v s l old forks (change_of v s l old forks p) then change_of v s l old forks p ∷ [] else [] in
      elim (member_either c own (free_changes l p.0) one.2) [
        | inl mine ↦
            let number : p.0 ≡ ino = sym (own_change p c (changes_something v s l old forks (change_of v s l old forks p)) mine) ∙ same in
            other p.1 (subst (λ (m : ℕ). Member (m, p.1) has.is.w.links) number one.1)
        | inr free ↦
            let row = flat_member (λ (cluster : ℕ). if l.new == p.0 then map free_change (range_with_len (p.0 + 1) 31) else []) c l.added free in
            let inside = free_row p c (l.new == p.0) refl row.2 in
            let low = inside.0 in
            let high = inside.1 in
            elim (behind_lost ino row.0 row.1 is) [
              | inl below ↦ omega (arith, below, low, same)
              | inr above ↦ omega (arith, above, high, same)
            ]
      ]

  pub free_wanted : (ino : ℕ) → Member ino (kept_inodes v kept) → ((k : ℕ) → Member (ino, k) has.is.w.links → ⊥)
      → wanted_of slots ino ≡ (if is_free (state_at has.on.seen ino) then None else Some (freed_slot ino))
  free_wanted ino is other =
      let none : filter (λ (x : FileRec). x.ino == ino) kept.files ≡ [] =
      none_other kept.files ino (λ f there same. let one = kept_linked g sector s image now e n r has f there in other one.0 (subst (λ (m : ℕ). Member (m, one.0) has.is.w.links) same one.1)) in
      joined ino
      ∙ (ap (λ (c : Option SlotChange). with_change c (wanted_of n.slots ino)) (none_at changes ino (no_change ino is other))
      ∙ (wanted_before ino is
      ∙ bare_is ino none (λ fresh. let one = fresh_linked g sector s image now e n r has ino fresh in other one.0 one.1)))

  -- of the inodes of a new cluster nothing was wanted, and all but the first are free
  pub none_before : (cluster ino : ℕ) → l.added ≡ cluster ∷ [] → l.new ≤ ino → ino < l.new + 32 → wanted_of n.slots ino ≡ None
  none_before cluster ino added low high =
      let outside : Member ino (kept_inodes v kept) → ⊥ =
      λ is. elim (behind_lost ino cluster (subst (Member cluster) (sym added) (inl refl)) is) [
        | inl below ↦ omega (arith, low, below)
        | inr above ↦ omega (arith, above, high)
      ] in
      ap (λ (ws : List SlotWanted). wanted_of ws ino) slots_are ∙ none_outside v s kept has.on.seen ino (kept_inodes v kept) outside

  pub behind_wanted : (cluster j : ℕ) → l.added ≡ cluster ∷ [] → j < 31 → wanted_of slots (l.new + 1 + j) ≡ Some (freed_slot (l.new + 1 + j))
  behind_wanted cluster j added low =
      let pair = lost_linked g sector s image now e n r has (added_made g n cluster added).1 in
      let taken = taken_all l cluster added in
      free_due v s l old forks has.is.w.links n.slots (added_few g n) (links_rise g sector s image now e n r has) slots_rise (l.new, pair.0) j
      (contains (l.new, pair.0) has.is.w.links pair.1) (omega (arith, taken, low)) (none_before cluster (l.new + 1 + j) added (omega arith) (omega (arith, low)))

  -- each inode of the clusters is of a kept one or of the new one, whose first is lost+found
  pub inode_cases : (ino : ℕ) → Member ino (flat_map (cluster_inodes v) (settled n l has.is.w).clusters)
      → Member ino (kept_inodes v kept) ⊎ ((cluster : ℕ) × (l.added ≡ cluster ∷ []) × Member ino (cluster_inodes v cluster))
  unfolding kept_inodes
  inode_cases ino is =
      let one = flat_member (cluster_inodes v) ino (with_numbers l.added n.clusters) is in
      elim (numbers_either one.0 l.added n.clusters one.1) [
        | inl new ↦ elim (one_added g n) [
          | inl none ↦ absurd (subst (Member one.0) none new)
          | inr some ↦
              let same : one.0 ≡ some.0 = only one.0 some.0 (subst (Member one.0) some.1 new) in
              inr (some.0, some.1, subst (λ (k : ℕ). Member ino (cluster_inodes v k)) same one.2)
        ]
        | inr old' ↦ inl (in_clusters one.0 (subst (Member one.0) has.due.clusters' old') one.2)
      ]
    where
      only : (x y : ℕ) → Member x (y ∷ []) → x ≡ y
      only x y is = elim is [ inl same ↦ sym same | inr none ↦ absurd none ]

      in_clusters : (k : ℕ) → Member k kept.clusters → Member ino (cluster_inodes v k) → Member ino (flat_map (cluster_inodes v) kept.clusters)
      in_clusters k there at = member_flat (cluster_inodes v) k ino kept.clusters there at

  pub new_inode : (cluster ino : ℕ) → l.added ≡ cluster ∷ [] → Member ino (cluster_inodes v cluster) → (ino ≡ l.new) ⊎ ((j : ℕ) × (j < 31) × (ino ≡ l.new + 1 + j))
  new_inode cluster ino added is =
      let size : g.dblocks ≤ length now = let same = same_size g r.rebuilt image now has.new in let enough = has.new.enough in omega (arith, same, enough) in
      let row = row_member ino (first_of_cluster v cluster) 32
      (subst (λ (xs : List ℕ). Member ino xs)
      (cluster_row g sector s image now n r has.is (renamed_holds g sector s image n r has.is now has.new) size cluster added) is) in
      let new = (added_made g n cluster added).0 in
      let low = row.low in
      let high = row.high in
      elim (cases_lt l.new ino) [
        | inl above ↦ inr (ino - l.new - 1, omega (arith, new, above, high), omega (arith, above))
        | inr upto ↦ inl (omega (arith, new, upto, low))
      ]
