-- What is wanted of slots once names are settled can be made of what stands there.
use Rattle.std.proofs.Common.{◌≡◌, ◌⊎◌, inl, inr, ℕ, Bool, true, false, ◌+◌, ◌*◌, ◌/◌, ◌%◌, ◌≤◌, ◌<◌, ◌==◌, if◌then◌else◌, List, [], ◌∷◌, map, Option, Some, None, refl, sym, ap, ◌∙◌, subst, arith}
use Rattle.std.specs.List.{range_with_len}
use Rattle.std.proofs.lemmas.Bool.{eq-eqb, eqb-true, ne_eqb, true≢false}
use Rattle.xfs_word.specs.Field.{field_of}
use Rattle.xfs_disk.specs.Blocks.{Image, bytes_of_block}
use Rattle.xfs_disk.specs.Lists.{is_among}
use Rattle.xfs_disk.specs.declared.stamp.Stamp.{Stamp}
use Rattle.xfs_dirdata.specs.declared.records.EntryRec.{EntryRec}
use Rattle.xfs_empty.specs.Planning.{StandsFor}
use Rattle.xfs_geom.proofs.Addresses.{block_back}
use Rattle.xfs_geom.specs.Conversions.{address_of, block_at, inode_of, slot_at, with_slot}
use Rattle.xfs_geom.specs.Volumes.{Volume, volume_of}
use Rattle.xfs_geom.specs.declared.geometry.Geometry.{Geometry}
use Rattle.xfs_links.specs.Together.{adds_lost, old_lost, orphans_of}
use Rattle.xfs_image.specs.Slots.{bytes_in, slot_bytes}
use Rattle.xfs_inode.specs.Slots.{fork_bytes}
use Rattle.xfs_links.specs.declared.records.NodeRec.{NodeRec}
use Rattle.xfs_naming.specs.Naming.{is_in_use}
use Rattle.xfs_names.specs.Built.{CanBeBuilt, fork_room}
use Rattle.xfs_names.specs.Having.{node_of}
use Rattle.xfs_names.specs.Place.{free_inode}
use Rattle.xfs_names.specs.Wanted.{wanted_entries, wanted_nodes, with_directory, with_links}
use Rattle.xfs_names.specs.declared.building.BuiltDirectory.{BuiltDirectory}
use Rattle.xfs_names.specs.declared.building.ForkRoom.{ForkRoom}
use Rattle.xfs_names.specs.declared.records.WantedNames.{WantedNames}
use Rattle.xfs_place.specs.Objects.{ServeAsks, asks_of}
use Rattle.xfs_place.specs.declared.placed.Placed.{Placed}
use Rattle.xfs_views.proofs.Members.{Member, any_member, contains, flat_member, map_member, member_any, member_either}
use Rattle.xfs_render.specs.Clusters.{slot_in}
use Rattle.xfs_render.specs.Slots.{wanted_of}
use Rattle.xfs_render.specs.declared.wanted_slots.SlotBase.{SlotBase}
use Rattle.xfs_render.specs.declared.wanted_slots.SlotBase.TheVariants as Base
use Rattle.xfs_render.specs.declared.wanted_slots.SlotWanted.{SlotWanted}
use Rattle.xfs_request.specs.Fresh.{new_root_core, new_root_slot, new_slot, new_system_core, new_system_slot}
use Rattle.xfs_mend.proofs.xfs_made.Makeable.{slots_can}
use Rattle.xfs_scan.specs.declared.evidence.Evidence.{Evidence}
use Rattle.xfs_volume.specs.declared.files.FileRec.{FileRec}
use Rattle.xfs_mend.specs.xfs_rebuild.Changes.{CanChange, can_fork, can_make, is_whole_slot}
use Rattle.xfs_mend.specs.xfs_rebuild.Names.{linked_file}
use Rattle.xfs_mend.specs.xfs_rebuild.Rebuilds.{Ground}
use Rattle.xfs_mend.specs.xfs_rebuild.declared.names_due.NamesDue.{NamesDue}
use Rattle.xfs_mend.proofs.xfs_restored.Wanted.{wanted_is}
use Rattle.xfs_mend.specs.xfs_restored.DueFiles.{new_core}
use Rattle.xfs_mend.specs.xfs_rename.Lost.{lost_due}
use Rattle.xfs_changes.specs.Nodes.{firsts_of_clusters, nodes_of_files}
use Rattle.xfs_mend.specs.xfs_rename.Renames.{AreBuilt, old_files, placed_forks, renamed_slots, renamed_wanted}
use Rattle.xfs_changes.specs.Rooms.{fork_rooms}
use Rattle.xfs_changes.specs.Slots.{base_made, change_listed, change_of, changes_of, changes_something, fork_at, free_change, free_changes, links_held_at, links_set, lost_core}
use Rattle.xfs_changes.specs.declared.changes.SlotChange.{SlotChange}
use Rattle.xfs_changes.specs.declared.forks.DirectoryFork.{DirectoryFork}
use Rattle.xfs_changes.specs.declared.lost_found.Lost.{Lost}
use Rattle.xfs_mend.proofs.xfs_restored.BuiltRooms.{whole_room}
use Rattle.xfs_mend.proofs.xfs_restored.Changing.{changes_wanted}
use Rattle.xfs_mend.proofs.xfs_restored.Links.{changes_ascend}
use Rattle.xfs_mend.proofs.xfs_restored.NewSlots.{added_few}
use Rattle.xfs_mend.proofs.xfs_restored.ShortRoom.{fork_room_is}
use Rattle.xfs_mend.proofs.xfs_restored.WantedPlace.{directory_either, made_adds}
use Rattle.xfs_mend.proofs.xfs_restored.WantedSlots.{fresh_slot}
use Rattle.xfs_mend.specs.xfs_restored.Changes.{first_change, with_change}
use Rattle.xfs_settled.specs.Gathered.{IsGathered}
use Rattle.xfs_settled.proofs.ForksFit.{fork_fits}
use Rattle.xfs_settled.proofs.Found as Found
use Rattle.xfs_settled.proofs.MadeOf.{IsAnew, anew_can, change_there, change_with, fresh_can, kept_can, passes, room_low}
use Rattle.xfs_settled.proofs.Numbers.{file_cases, file_not_lost, fresh_among_it, fresh_inode, fresh_none, kept_there}
use Rattle.xfs_settled.proofs.SlotOrder.{links_rise, slots_rise}
use Rattle.xfs_settled.proofs.WholeSlots.{kept_whole}

-- the slot of the inode of a slot is that slot
slot_back : (g : Geometry) (block k : ℕ) → block < g.dblocks → k < 8 → slot_at (volume_of g) (inode_of (volume_of g) block k) ≡ Some (block, k)
unfolding slot_at inode_of
slot_back g block k inside few =
    let v : Volume = volume_of g in
    let whole : (address_of v block * 8 + k) / 8 ≡ address_of v block = omega (arith, few) in
    let rest : (address_of v block * 8 + k) % 8 ≡ k = omega (arith, few) in
    (λ i. with_slot (rest i) (block_at v (whole i)))
    ∙ ap (with_slot k) (block_back v block g.shape.groups.large g.shape.groups.covered g.shape.addresses.enough inside)

new_anew : (v : Volume) (s : Stamp) (ino : ℕ) → IsAnew (new_slot v s ino).base
new_anew v s ino = by_root (ino == v.rootino)
  where
    by_root : (t : Bool) → IsAnew (if t then new_root_slot v s else new_system_slot v s ino).base
    by_root true = tt
    by_root false = tt

new_low : (v : Volume) (s : Stamp) (ino : ℕ) → (new_core v s ino).forkoff ≤ 41
new_low v s ino = by_root (ino == v.rootino)
  where
    by_root : (t : Bool) → (if t then new_root_core v s else new_system_core v s ino).forkoff ≤ 41
    by_root true = omega arith
    by_root false = omega arith

module _ (g : Geometry) (s : Stamp) (image : Image) (e : Evidence) (on : Ground) (n : NamesDue) (has : IsGathered g s image e on n) (w : WantedNames) (built : List BuiltDirectory)
    (p : Placed) (are : AreBuilt g n w built) (can : CanBeBuilt w) (stands : StandsFor (renamed_wanted g n w built) p)
    (serve : ServeAsks (asks_of (renamed_wanted g n w built).objects) p.cuts p.runs) where
  abbrev v : Volume
  v = volume_of g

  abbrev l : Lost
  l = lost_due g n

  abbrev old : List FileRec
  old = old_files n w

  abbrev forks : List DirectoryFork
  forks = placed_forks g n w built p

  abbrev rooms : List ForkRoom
  rooms = fork_rooms w.rebuilt n.files

  abbrev changes : List SlotChange
  changes = changes_of v s l old forks w.links

  abbrev slots : List SlotWanted
  slots = renamed_slots g s n w forks

  joined : (ino : ℕ) → wanted_of slots ino ≡ with_change (first_change changes ino) (wanted_of n.slots ino)
  joined ino =
      changes_wanted ino changes 0 (changes_ascend v s l old forks (added_few g n) w.links 0 (links_rise g s image e on n has w are.wanted)) n.slots 0 (slots_rise g s image e on n has)

  -- of whom a pair of numbers and links is
  abbrev nodes : List NodeRec
  nodes = nodes_of_files n.files

  abbrev all_nodes : List NodeRec
  all_nodes = wanted_nodes nodes n.entries g.rootino l.new

  adds_is : adds_lost nodes n.entries g.rootino ≡ l.made
  adds_is =
      sym (made_adds (orphans_of nodes n.entries g.rootino) (old_lost nodes n.entries g.rootino) (free_inode nodes g.rootino (firsts_of_clusters v n.clusters)))

  nodes_are : all_nodes ≡ (if l.made then with_directory l.new nodes else nodes)
  nodes_are = ap (λ (t : Bool). if t then with_directory l.new nodes else nodes) adds_is

  abbrev IsOf : ℕ → Type 0
  IsOf ino = ((l.made ≡ true) × (l.new ≡ ino)) ⊎ ((f : FileRec) × Member f n.files × (f.ino ≡ ino))

  node_cases : (x : NodeRec) → Member x all_nodes → IsOf x.ino
  node_cases x is = by_made l.made refl (subst (λ (xs : List NodeRec). Member x xs) nodes_are is)
    where
      of_file : Member x nodes → IsOf x.ino
      of_file there = let one = map_member node_of x n.files there in inr (one.0, one.1, ap (λ (y : NodeRec). y.ino) one.2)

      by_made : (t : Bool) → l.made ≡ t → Member x (if t then with_directory l.new nodes else nodes) → IsOf x.ino
      by_made true made is = elim (directory_either x l.new nodes is) [
        | inl new ↦ inl (made, ap (λ (y : NodeRec). y.ino) new)
        | inr there ↦ of_file there
      ]
      by_made false made is = of_file is

  pair_cases : (q : ℕ × ℕ) → Member q w.links → IsOf q.0
  pair_cases q is =
      let entries : List EntryRec = wanted_entries nodes n.entries g.rootino l.new in
      let one = map_member (with_links all_nodes entries g.rootino) q all_nodes (subst (λ (ps : List (ℕ × ℕ)). Member q ps) are.wanted.links' is) in
      subst IsOf (ap (λ (x : ℕ × ℕ). x.0) one.2) (node_cases one.0 one.1)

  -- no fork has more room than all that stands behind the core
  file_low : (x : FileRec) → Member x n.files → x.core.forkoff ≤ 41
  file_low x is = elim (file_cases g s image e on n has x is) [
    | inl one ↦ subst (λ (f : FileRec). f.core.forkoff ≤ 41) (sym one.2) (kept_whole g s image e on n has one.0 one.1).low
    | inr fresh ↦ subst (λ (f : FileRec). f.core.forkoff ≤ 41) (sym fresh.1) (new_low v s x.ino)
  ]

  room_is : (x : FileRec) → Member x n.files → is_among w.rebuilt x.ino ≡ true → fork_room rooms x.ino ≡ fork_bytes x.core.forkoff
  room_is x is among = fork_room_is w.rebuilt n.files x has.due.named.files_ascend (contains x n.files is) among

  most_room : (ino : ℕ) → is_among w.rebuilt ino ≡ true → fork_room rooms ino ≤ 336
  most_room ino among = by_use (is_in_use n.files ino) refl
    where
      by_use : (t : Bool) → is_in_use n.files ino ≡ t → fork_room rooms ino ≤ 336
      by_use true used =
          let one = any_member (λ (f : FileRec). f.ino == ino) n.files used in
          let number : one.0.ino ≡ ino = eqb-true one.0.ino ino one.2 in
          let most = room_low one.0.core.forkoff (file_low one.0 one.1) in
          let room = room_is one.0 one.1 (ap (is_among w.rebuilt) number ∙ among) in
          let same : fork_room rooms one.0.ino ≡ fork_room rooms ino = ap (fork_room rooms) number in
          omega (arith, most, room, same)
      by_use false off =
          let all = whole_room w.rebuilt n.files ino
          (λ x is same. true≢false (sym (member_any (λ (f : FileRec). f.ino == ino) x n.files is (eq-eqb x.ino ino (sym same))) ∙ off)) in
          omega (arith, all)

  fits_all : (ino : ℕ) → can_fork 0 (fork_at forks ino) ≡ true
  fits_all ino = fork_fits g n w built p are can stands serve 0 ino (most_room ino) (omega arith)

  -- lost+found is made anew where it is new, and nothing else is
  no_base : (ino : ℕ) → (l.new ≡ ino → ⊥) → base_made v s l ino ≡ None
  no_base ino other = by_made l.made
    where
      by_made : (t : Bool) → (if t then (if l.new == ino then Some (Base.Fresh (lost_core v s ino)) else None) else None) ≡ None
      by_made true = ap (λ (u : Bool). if u then Some (Base.Fresh (lost_core v s ino)) else None) (ne_eqb l.new ino other)
      by_made false = refl

  lost_base : (ino : ℕ) → l.made ≡ true → l.new ≡ ino → base_made v s l ino ≡ Some (Base.Fresh (lost_core v s ino))
  lost_base ino made same =
      ap (λ (t : Bool). if t then (if l.new == ino then Some (Base.Fresh (lost_core v s ino)) else None) else None) made
      ∙ ap (λ (u : Bool). if u then Some (Base.Fresh (lost_core v s ino)) else None) (eq-eqb l.new ino same)

  module _ (ino : ℕ) (slot : List ℕ) (bytes : slot_bytes v image ino ≡ slot) (before : can_make v slot (wanted_of n.slots ino) ≡ true) (nlink : Option ℕ) where
    abbrev CanWith : Option SlotBase → Type 0
    CanWith base = can_make v slot (with_change (Some (change_with ino base (fork_at forks ino) nlink)) (wanted_of n.slots ino)) ≡ true

    of_kept : (f : FileRec) → Member f on.kept.files → f.ino ≡ ino → CanWith None
    of_kept f is number =
        let whole = kept_whole g s image e on n has f is in
        let same : slot_bytes v image f.ino ≡ slot = ap (slot_bytes v image) number ∙ bytes in
        let forkoff : field_of slot 82 1 ≡ f.core.forkoff = subst (λ (bs : List ℕ). field_of bs 82 1 ≡ f.core.forkoff) same whole.forkoff in
        let fits : can_fork f.core.forkoff (fork_at forks f.ino) ≡ true =
        fork_fits g n w built p are can stands serve f.core.forkoff f.ino
        (λ among. let room = room_is (linked_file g.rootino on.kept f) (kept_there g s image e on n has f is) among in omega (arith, room)) (room_low f.core.forkoff whole.low) in
        kept_can v slot ino (fork_at forks ino) nlink (wanted_of n.slots ino)
        (subst (λ (m : ℕ). is_whole_slot v m slot ≡ true) number (subst (λ (bs : List ℕ). is_whole_slot v f.ino bs ≡ true) same whole.whole))
        (subst (λ (m : ℕ). can_fork m (fork_at forks ino) ≡ true) (sym forkoff) (subst (λ (m : ℕ). can_fork f.core.forkoff (fork_at forks m) ≡ true) number fits)) (fits_all ino) before

    of_fresh : Member ino on.kept.fresh → CanWith None
    of_fresh is =
        let wanted : wanted_of n.slots ino ≡ Some (new_slot v s ino) =
        ap (λ (ws : List SlotWanted). wanted_of ws ino) has.due.slots'
        ∙ (wanted_is v s on.kept on.seen ino (fresh_inode g s image e on n has ino is)
        ∙ fresh_slot v s on.kept on.seen ino (fresh_among_it g s image e on n has ino is) (fresh_none g s image e on n has ino is)) in
        subst (λ (o : Option SlotWanted). can_make v slot (with_change (Some (change_with ino None (fork_at forks ino) nlink)) o) ≡ true) (sym wanted)
        (fresh_can v slot ino (fork_at forks ino) nlink (new_slot v s ino) (new_anew v s ino) (fits_all ino) (subst (λ (o : Option SlotWanted). can_make v slot o ≡ true) wanted before))

    of_pair : IsOf ino → CanWith (base_made v s l ino)
    of_pair (inl lost) =
        subst CanWith (sym (lost_base ino lost.0 lost.1))
        (anew_can v slot ino (Base.Fresh (lost_core v s ino)) (fork_at forks ino) nlink (wanted_of n.slots ino) tt (fits_all ino) before)
    of_pair (inr file) =
        subst CanWith (sym (no_base ino (λ same. file_not_lost g s image e on n has file.0 file.1 (same ∙ sym file.2))))
        (elim (file_cases g s image e on n has file.0 file.1) [
          | inl one ↦ of_kept one.0 one.1 (sym (ap (λ (f : FileRec). f.ino) one.2) ∙ file.2)
          | inr fresh ↦ of_fresh (subst (λ (m : ℕ). Member m on.kept.fresh) file.2 fresh.0)
        ])

  own_change : (q : ℕ × ℕ) (c : SlotChange) (t : Bool) → Member c (if t then change_of v s l old forks q ∷ [] else []) → change_of v s l old forks q ≡ c
  own_change q c true is = elim is [ inl same ↦ same | inr none ↦ absurd none ]
  own_change q c false is = absurd is

  free_row : (q : ℕ × ℕ) (c : SlotChange) (t : Bool) → Member c (if t then map free_change (range_with_len (q.0 + 1) 31) else []) → (m : ℕ) × (free_change m ≡ c)
  free_row q c true is = let one = map_member free_change c (range_with_len (q.0 + 1) 31) is in (one.0, one.2)
  free_row q c false is = absurd is

  change_can : (ino : ℕ) (slot : List ℕ) → slot_bytes v image ino ≡ slot → can_make v slot (wanted_of n.slots ino) ≡ true → (c : SlotChange) → Member c changes → c.ino ≡ ino
      → can_make v slot (with_change (Some c) (wanted_of n.slots ino)) ≡ true
  unfolding changes_of
  change_can ino slot bytes before c is number =
      let one = flat_member (change_listed v s l old forks) c w.links is in
      let q : ℕ × ℕ = one.0 in
      let own : List SlotChange = if changes_something v s l old forks (change_of v s l old forks q) then change_of v s l old forks q ∷ [] else [] in
      elim (member_either c own (free_changes l q.0) one.2) [
        | inl mine ↦
            let same = own_change q c (changes_something v s l old forks (change_of v s l old forks q)) mine in
            let at : q.0 ≡ ino = ap (λ (x : SlotChange). x.ino) same ∙ number in
            subst (λ (x : SlotChange). can_make v slot (with_change (Some x) (wanted_of n.slots ino)) ≡ true) same
            (subst (λ (m : ℕ). can_make v slot (with_change (Some (change_with m (base_made v s l m) (fork_at forks m) (links_set (links_held_at old m) q.1))) (wanted_of n.slots ino)) ≡ true) (sym at)
            (of_pair ino slot bytes before (links_set (links_held_at old ino) q.1) (subst IsOf at (pair_cases q one.1))))
        | inr free ↦
            let row = flat_member (λ (cluster : ℕ). if l.new == q.0 then map free_change (range_with_len (q.0 + 1) 31) else []) c l.added free in
            let same = free_row q c (l.new == q.0) row.2 in
            subst (λ (x : SlotChange). can_make v slot (with_change (Some x) (wanted_of n.slots ino)) ≡ true) same.1
            (anew_can v slot same.0 Base.Free None None (wanted_of n.slots ino) tt refl before)
      ]

  can_at : (ino : ℕ) (slot : List ℕ) → slot_bytes v image ino ≡ slot → can_make v slot (wanted_of n.slots ino) ≡ true → can_make v slot (wanted_of slots ino) ≡ true
  can_at ino slot bytes before = subst (λ (o : Option SlotWanted). can_make v slot o ≡ true) (sym (joined ino)) (by_change (first_change changes ino) refl)
    where
      by_change : (c : Option SlotChange) → first_change changes ino ≡ c → can_make v slot (with_change c (wanted_of n.slots ino)) ≡ true
      by_change None is = before
      by_change (Some c) is = let there = change_there changes ino c is in change_can ino slot bytes before c there.0 there.1

  pub slots_can_be : (block : ℕ) → block < g.dblocks → CanChange v slots block (bytes_of_block image block)
  slots_can_be block inside =
      let held = slots_can g image s on.kept on.seen block (Found.of_image g s image e on n has) inside in
      record {
        each = λ k few.
            can_at (inode_of v block k) (slot_in (bytes_of_block image block) k) (ap (bytes_in image) (slot_back g block k inside few))
            (subst (λ (ws : List SlotWanted). can_make v (slot_in (bytes_of_block image block) k) (wanted_of ws (inode_of v block k)) ≡ true) (sym has.due.slots')
            (passes v (slot_in (bytes_of_block image block) k) _ (held.each k few)));
      }
