-- What is wanted of slots in which names change can be made of bytes that pass the test.
use Rattle.std.proofs.Common.{◌≡◌, ℕ, Bool, true, false, ◌+◌, ◌<◌, ◌==◌, if◌then◌else◌, List, [], ◌∷◌, length, map, take, drop, get_or, Option, Some, None, refl, sym, subst, arith}
use Rattle.std.specs.List.{All, flat_map, range_with_len}
use Rattle.std.proofs.lemmas.Bool.{eqb-true}
use Rattle.std.proofs.lemmas.List.Elements.{All-append, All-cons, All-drop, All-from_recursion, All-head, All-nil, All-tail, All-take, recursion_from_All}
use Rattle.xfs_disk.specs.Blocks.{Image}
use Rattle.xfs_disk.specs.declared.stamp.Stamp.{Stamp}
use Rattle.xfs_geom.specs.Volumes.{Volume, volume_of}
use Rattle.xfs_geom.specs.declared.geometry.Geometry.{Geometry}
use Rattle.xfs_salvage.proofs.xfs_views.Members.{all_members, member_all}
use Rattle.xfs_render.specs.Clusters.{CanCluster}
use Rattle.xfs_render.specs.Rendering.{is_head}
use Rattle.xfs_render.specs.Slots.{IsFreshCore}
use Rattle.xfs_render.specs.declared.wanted_slots.SlotBase.{SlotBase}
use Rattle.xfs_render.specs.declared.wanted_slots.SlotBase.TheVariants as Base
use Rattle.xfs_render.specs.declared.wanted_slots.SlotWanted.{SlotWanted}
use Rattle.xfs_volume.specs.declared.files.FileRec.{FileRec}
use Rattle.xfs_rebuild.specs.xfs_request.Slots.{wanted_slots}
use Rattle.xfs_rebuild.specs.Changes.{CanChangeAll}
use Rattle.xfs_rebuild.specs.Rebuilds.{Ground, slots_asked}
use Rattle.xfs_rebuild.specs.declared.names_due.NamesDue.{NamesDue}
use Rattle.xfs_rebuild.proofs.Served.{IsMadeBase, changes_serve, slots_made}
use Rattle.xfs_changes.specs.Slots.{base_made, base_or, change_listed, change_of, changed, changed_alone, changes_of, changes_something, free_change, free_changes, lost_core, put_first, slots_before, with_changes}
use Rattle.xfs_changes.specs.declared.changes.SlotChange.{SlotChange}
use Rattle.xfs_changes.specs.declared.forks.DirectoryFork.{DirectoryFork}
use Rattle.xfs_changes.specs.declared.lost_found.Lost.{Lost}

-- what is made anew has the core of a new inode
abbrev IsSound : Volume → SlotWanted → Type 0
IsSound v w = IsMadeBase v w.ino w.base

abbrev IsSoundOption : Volume → ℕ → Option SlotBase → Type 0
IsSoundOption v ino None = Unit {0}
IsSoundOption v ino (Some base) = IsMadeBase v ino base

abbrev IsSoundChange : Volume → SlotChange → Type 0
IsSoundChange v c = IsSoundOption v c.ino c.base

lost_sound : (v : Volume) (s : Stamp) (ino : ℕ) → IsFreshCore v ino (lost_core v s ino)
lost_sound v s ino = record { number = refl; magic = refl; version = refl; used = omega arith; uuid = refl; lsn = refl; no_attributes = refl; plain_data = refl; plain = refl }

module _ (v : Volume) where
  either_sound : (ino : ℕ) (base : SlotBase) (other : Option SlotBase) → IsMadeBase v ino base → IsSoundOption v ino other → IsMadeBase v ino (base_or base other)
  either_sound ino base None is new = is
  either_sound ino base (Some other) is new = new

  put_sound : (c : SlotChange) (next : List SlotWanted → List SlotWanted) (ws : List SlotWanted) → IsSoundChange v c → All (IsSound v) ws
      → ((rest : List SlotWanted) → All (IsSound v) rest → All (IsSound v) (next rest)) → All (IsSound v) (put_first c next ws)
  put_sound c next [] new all go = All-cons (IsSound v) (changed_alone c) (next []) (either_sound c.ino Base.Kept c.base tt new) (go [] all)
  put_sound c next (w ∷ ws) new all go = by_case (w.ino == c.ino) refl
    where
      by_case : (t : Bool) → (w.ino == c.ino) ≡ t → All (IsSound v) (if t then changed c w ∷ next ws else changed_alone c ∷ next (w ∷ ws))
      by_case true e =
          All-cons (IsSound v) (changed c w) (next ws)
          (either_sound w.ino w.base c.base (All-head (IsSound v) w ws all) (subst (λ (m : ℕ). IsSoundOption v m c.base) (sym (eqb-true w.ino c.ino e)) new))
          (go ws (All-tail (IsSound v) w ws all))
      by_case false e = All-cons (IsSound v) (changed_alone c) (next (w ∷ ws)) (either_sound c.ino Base.Kept c.base tt new) (go (w ∷ ws) all)

  with_sound : (cs : List SlotChange) (ws : List SlotWanted) → All (IsSoundChange v) cs → All (IsSound v) ws → All (IsSound v) (with_changes cs ws)
  unfolding with_changes
  with_sound [] ws new all = all
  with_sound (c ∷ cs) ws new all =
      All-append (IsSound v) (take (slots_before c ws) ws) (put_first c (with_changes cs) (drop (slots_before c ws) ws))
      (All-take (IsSound v) (slots_before c ws) ws all)
      (put_sound c (with_changes cs) (drop (slots_before c ws) ws) (All-head (IsSoundChange v) c cs new) (All-drop (IsSound v) (slots_before c ws) ws all)
      (λ rest. with_sound cs rest (All-tail (IsSoundChange v) c cs new)))

  -- the changes
  base_sound : (s : Stamp) (l : Lost) (ino : ℕ) → IsSoundOption v ino (base_made v s l ino)
  base_sound s l ino = by_made l.made
    where
      by_new : (t : Bool) → IsSoundOption v ino (if t then Some (Base.Fresh (lost_core v s ino)) else None)
      by_new true = lost_sound v s ino
      by_new false = tt

      by_made : (t : Bool) → IsSoundOption v ino (if t then (if l.new == ino then Some (Base.Fresh (lost_core v s ino)) else None) else None)
      by_made true = by_new (l.new == ino)
      by_made false = tt

  frees_sound : (inos : List ℕ) → All (IsSoundChange v) (map free_change inos)
  frees_sound [] = All-nil (IsSoundChange v)
  frees_sound (ino ∷ inos) = All-cons (IsSoundChange v) (free_change ino) (map free_change inos) tt (frees_sound inos)

  free_sound : (new ino : ℕ) (clusters : List ℕ) → All (IsSoundChange v) (flat_map (λ (cluster : ℕ). if new == ino then map free_change (range_with_len (ino + 1) 31) else []) clusters)
  free_sound new ino [] = All-nil (IsSoundChange v)
  free_sound new ino (c ∷ cs) =
      All-append (IsSoundChange v) (if new == ino then map free_change (range_with_len (ino + 1) 31) else [])
      (flat_map (λ (cluster : ℕ). if new == ino then map free_change (range_with_len (ino + 1) 31) else []) cs) (by_case (new == ino)) (free_sound new ino cs)
    where
      by_case : (t : Bool) → All (IsSoundChange v) (if t then map free_change (range_with_len (ino + 1) 31) else [])
      by_case true = frees_sound (range_with_len (ino + 1) 31)
      by_case false = All-nil (IsSoundChange v)

  module _ (s : Stamp) (l : Lost) (files : List FileRec) (forks : List DirectoryFork) where
    listed_sound : (p : ℕ × ℕ) → All (IsSoundChange v) (change_listed v s l files forks p)
    listed_sound p =
        All-append (IsSoundChange v) (if changes_something v s l files forks (change_of v s l files forks p) then change_of v s l files forks p ∷ [] else []) (free_changes l p.0)
        (by_case (changes_something v s l files forks (change_of v s l files forks p))) (free_sound l.new p.0 l.added)
      where
        by_case : (t : Bool) → All (IsSoundChange v) (if t then change_of v s l files forks p ∷ [] else [])
        by_case true = All-cons (IsSoundChange v) (change_of v s l files forks p) [] (base_sound s l p.0) (All-nil (IsSoundChange v))
        by_case false = All-nil (IsSoundChange v)

    changes_sound : (links : List (ℕ × ℕ)) → All (IsSoundChange v) (changes_of v s l files forks links)
    unfolding changes_of
    changes_sound [] = All-nil (IsSoundChange v)
    changes_sound (p ∷ ps) =
        All-append (IsSoundChange v) (change_listed v s l files forks p) (flat_map (change_listed v s l files forks) ps) (listed_sound p) (changes_sound ps)

module _ (g : Geometry) (s : Stamp) (on : Ground) (n : NamesDue) (asked : n.slots ≡ slots_asked g s on) (l : Lost) (files : List FileRec) (forks : List DirectoryFork) (links : List (ℕ × ℕ)) where
  abbrev slots_now : List SlotWanted
  slots_now = with_changes (changes_of (volume_of g) s l files forks links) n.slots

  before_sound : All (IsSound (volume_of g)) (wanted_slots (volume_of g) s on.kept on.seen)
  before_sound =
      All-from_recursion (IsSound (volume_of g)) (wanted_slots (volume_of g) s on.kept on.seen)
      (all_members (IsSound (volume_of g)) (wanted_slots (volume_of g) s on.kept on.seen) (slots_made (volume_of g) s on.kept on.seen))

  now_sound : All (IsSound (volume_of g)) slots_now
  now_sound =
      with_sound (volume_of g) (changes_of (volume_of g) s l files forks links) n.slots (changes_sound (volume_of g) s l files forks links)
      (subst (All (IsSound (volume_of g))) (sym asked) before_sound)

  pub renamed_serve : (places : List ℕ) (old : Image) → CanChangeAll (volume_of g) slots_now places old
      → (i : ℕ) → i < length places → is_head (volume_of g) (get_or places i 0) ≡ false → CanCluster (volume_of g) slots_now (get_or places i 0) (get_or old i [])
  renamed_serve places old can i low inner =
      changes_serve (volume_of g) slots_now (λ w is. member_all (IsSound (volume_of g)) w slots_now (recursion_from_All (IsSound (volume_of g)) slots_now now_sound) is) places old can i low inner
