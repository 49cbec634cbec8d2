-- The due files are those by which names were judged, but for what no law of names looks at.
use Rattle.std.proofs.Common.{◌≡◌, ℕ, Bool, true, false, cond, ◌+◌, ◌<◌, ◌==◌, nat_lt, if◌then◌else◌, List, [], ◌∷◌, ◌++◌, map, Option, Some, None, refl, sym, ap, ap₂, ◌∙◌, subst, arith}
use Rattle.std.specs.List.{filter, flat_map}
use Rattle.std.proofs.lemmas.Bool.{eq-eqb, eqb-true}
use Rattle.xfs_disk.specs.Blocks.{Image}
use Rattle.xfs_disk.specs.Lists.{is_among}
use Rattle.xfs_disk.specs.declared.stamp.Stamp.{Stamp}
use Rattle.xfs_geom.specs.Volumes.{Volume, volume_of}
use Rattle.xfs_geom.specs.declared.geometry.Geometry.{Geometry}
use Rattle.xfs_claims.specs.Ranks.{placed_by_number}
use Rattle.xfs_claims.proofs.Ordered.{Ascend, same_list}
use Rattle.xfs_rename.proofs.xfs_made.Inodes.{first_in}
use Rattle.xfs_naming.specs.Naming.{NumbersAscend, is_in_use}
use Rattle.xfs_views.proofs.Members.{Member, all_members, any_member, filter_member, member_all, member_any, member_filter}
use Rattle.xfs_volume.specs.declared.directories.DirRec.{DirRec}
use Rattle.xfs_volume.specs.declared.files.FileRec.{FileRec}
use Rattle.xfs_render.specs.declared.wanted_slots.SlotWanted.{SlotWanted}
use Rattle.xfs_salvage.specs.declared.found.Salvaged.{Salvaged}
use Rattle.xfs_rename.specs.xfs_request.Fresh.{new_slot, new_root_core, new_root_slot, new_system_core, new_system_slot}
use Rattle.xfs_rename.specs.xfs_request.Slots.{as_list, attrs_wanted, bare_slot, freed_slot, is_free, kept_slot, links_due, nlink_wanted, slot_listed, slot_of, slot_wanted, state_at, wanted_slots}
use Rattle.xfs_rename.specs.xfs_request.declared.seen.SlotSeen.{SlotSeen}
use Rattle.xfs_rename.specs.xfs_rebuild.Names as Names
use Rattle.xfs_rename.specs.xfs_rebuild.Names.{linked_file, linked_files, made_files, made_of, with_dir, with_made_file, with_made_files}
use Rattle.xfs_restored.specs.DueFiles as DueFiles
use Rattle.xfs_restored.specs.DueFiles.{due_file, fresh_file, fresh_root, kept_inodes, new_core, with_new}
use Rattle.xfs_restored.specs.Kept.{HasKept}
use Rattle.xfs_restored.proofs.DueList.{fresh_ascend, inodes_ascend, number_least, some_up}
use Rattle.xfs_restored.proofs.Others.{fresh_inode, fresh_unused, none_found}
use Rattle.xfs_restored.proofs.Wanted.{flat_flat, listed}
use Rattle.xfs_restored.proofs.Plain.{plain}

abbrev number : FileRec → ℕ
number f = f.ino

-- both put a file among others at the same place, and a directory
with_file_is : (f : FileRec) (fs : List FileRec) → with_made_file f fs ≡ placed_by_number number f fs
with_file_is f [] = refl
with_file_is f (x ∷ fs) = ap (λ (rest : List FileRec). if nat_lt x.ino f.ino then x ∷ rest else (f ∷ x ∷ fs)) (with_file_is f fs)

with_files_are : (new fs : List FileRec) → with_made_files new fs ≡ with_new new fs
with_files_are [] fs = refl
with_files_are (f ∷ new) fs = ap (with_made_files new) (with_file_is f fs) ∙ with_files_are new (placed_by_number number f fs)

with_dir_is : (d : DirRec) (ds : List DirRec) → with_dir d ds ≡ placed_by_number (λ (x : DirRec). x.ino) d ds
with_dir_is d [] = refl
with_dir_is d (x ∷ ds) = ap (λ (rest : List DirRec). if nat_lt x.ino d.ino then x ∷ rest else (d ∷ x ∷ ds)) (with_dir_is d ds)

pub dirs_are : (root : ℕ) (kept : Salvaged) → Names.due_dirs root kept ≡ DueFiles.rebuilt_dirs root kept
dirs_are root kept = ap (λ (ds : List DirRec). if is_among kept.fresh root then ds else kept.dirs) (with_dir_is (fresh_root root) kept.dirs)

-- what is not looked at does not change a place
plain_placed : (x : FileRec) (fs : List FileRec) → map plain (placed_by_number number x fs) ≡ placed_by_number number (plain x) (map plain fs)
plain_placed x [] = refl
plain_placed x (y ∷ fs) = by_case (nat_lt y.ino x.ino) (plain_placed x fs)
  where
    by_case : (t : Bool) → map plain (placed_by_number number x fs) ≡ placed_by_number number (plain x) (map plain fs)
        → map plain (if t then y ∷ placed_by_number number x fs else (x ∷ y ∷ fs)) ≡ (if t then plain y ∷ placed_by_number number (plain x) (map plain fs) else (plain x ∷ plain y ∷ map plain fs))
    by_case true rest = ap (λ (xs : List FileRec). plain y ∷ xs) rest
    by_case false rest = refl

plain_new : (new fs : List FileRec) → map plain (with_new new fs) ≡ with_new (map plain new) (map plain fs)
plain_new [] fs = refl
plain_new (x ∷ new) fs = plain_new new (placed_by_number number x fs) ∙ ap (with_new (map plain new)) (plain_placed x fs)

-- the kept files
kept_alike : (root : ℕ) (kept : Salvaged) (seen : List SlotSeen) (crc : ℕ → ℕ) (fs : List FileRec)
    → map plain (map (due_file root kept seen crc) fs) ≡ map plain (map (linked_file root kept) fs)
kept_alike root kept seen crc [] = refl
kept_alike root kept seen crc (f ∷ fs) = ap (λ (xs : List FileRec). plain (linked_file root kept f) ∷ xs) (kept_alike root kept seen crc fs)

-- those that are made anew, by what is wanted of slots
module _ (v : Volume) (s : Stamp) (kept : Salvaged) (seen : List SlotSeen) where
  abbrev made_file : ℕ → FileRec
  made_file ino = Names.new_file ino (new_core v s ino)

  abbrev if_fresh : Bool → ℕ → List FileRec
  if_fresh t ino = if t then made_file ino ∷ [] else []

  abbrev made_at : ℕ → List FileRec
  made_at ino = made_files (slot_listed v s kept seen ino)

  fresh_made : (ino : ℕ) → made_files (new_slot v s ino ∷ []) ≡ made_file ino ∷ []
  fresh_made ino = by_root (ino == v.rootino) refl
    where
      by_root : (t : Bool) → (ino == v.rootino) ≡ t
          → made_files ((if t then new_root_slot v s else new_system_slot v s ino) ∷ []) ≡ Names.new_file ino (if t then new_root_core v s else new_system_core v s ino) ∷ []
      by_root true is = ap (λ (n : ℕ). Names.new_file n (new_root_core v s) ∷ []) (sym (eqb-true ino v.rootino is))
      by_root false is = refl

  bare_made : (ino : ℕ) → made_files (as_list (bare_slot v s kept seen ino)) ≡ if_fresh (is_among kept.fresh ino) ino
  bare_made ino = by_fresh (is_among kept.fresh ino)
    where
      by_free : (t : Bool) → made_files (as_list (if t then None else Some (freed_slot ino))) ≡ []
      by_free true = refl
      by_free false = refl

      by_fresh : (t : Bool) → made_files (as_list (if t then Some (new_slot v s ino) else (if is_free (state_at seen ino) then None else Some (freed_slot ino)))) ≡ if_fresh t ino
      by_fresh true = fresh_made ino
      by_fresh false = by_free (is_free (state_at seen ino))

  kept_made : (ino : ℕ) (attrs nlink : Option ℕ) → made_files (as_list (kept_slot ino attrs nlink)) ≡ []
  kept_made ino None None = refl
  kept_made ino None (Some n) = refl
  kept_made ino (Some m) None = refl
  kept_made ino (Some m) (Some n) = refl

  slot_made : (ino : ℕ) (fs : List FileRec) → (is_among kept.fresh ino ≡ true → fs ≡ []) → made_files (as_list (slot_of v s kept seen ino fs)) ≡ if_fresh (is_among kept.fresh ino) ino
  slot_made ino [] free = bare_made ino
  slot_made ino (f ∷ fs) free =
      kept_made f.ino (attrs_wanted f (state_at seen f.ino)) (nlink_wanted f (links_due v.rootino kept.files kept.entries f)) ∙ by_fresh (is_among kept.fresh ino) refl
    where
      by_fresh : (t : Bool) → is_among kept.fresh ino ≡ t → [] ≡ if_fresh t ino
      by_fresh true is = absurd (some_file (free is))
        where
          some_file : f ∷ fs ≡ [] → ⊥
          some_file same = cc
      by_fresh false is = refl

  made_one : (ino : ℕ) → (is_among kept.fresh ino ≡ true → is_in_use kept.files ino ≡ false) → made_at ino ≡ if_fresh (is_among kept.fresh ino) ino
  unfolding slot_wanted
  made_one ino free = slot_made ino (filter (λ (f : FileRec). f.ino == ino) kept.files) (λ is. none_found ino kept.files (free is))

  made_all : (inos : List ℕ) → ((ino : ℕ) → is_among kept.fresh ino ≡ true → is_in_use kept.files ino ≡ false) → flat_map made_at inos ≡ map made_file (filter (is_among kept.fresh) inos)
  made_all [] free = refl
  made_all (ino ∷ inos) free =
      ap₂ (λ (front rest : List FileRec). front ++ rest) (made_one ino (free ino)) (made_all inos free) ∙ by_fresh (is_among kept.fresh ino)
    where
      by_fresh : (t : Bool) → if_fresh t ino ++ map made_file (filter (is_among kept.fresh) inos) ≡ map made_file (cond t (ino ∷ filter (is_among kept.fresh) inos) (filter (is_among kept.fresh) inos))
      by_fresh true = refl
      by_fresh false = refl

  made_by_inode : made_files (wanted_slots v s kept seen) ≡ flat_map made_at (kept_inodes v kept)
  made_by_inode = ap made_files (listed v s kept seen) ∙ flat_flat (λ (w : SlotWanted). made_of w.ino w.base) (slot_listed v s kept seen) (kept_inodes v kept)

  new_alike : (crc : ℕ → ℕ) (inos : List ℕ) → map plain (map (fresh_file v s crc) inos) ≡ map plain (map made_file inos)
  new_alike crc [] = refl
  new_alike crc (ino ∷ inos) = ap (λ (xs : List FileRec). plain (made_file ino) ∷ xs) (new_alike crc inos)

-- the inodes that are made anew are in the kept clusters, and in the same order
ascend : (low : ℕ) (ns : List ℕ) → NumbersAscend low ns → Ascend (λ n. n) ns
ascend low [] up = tt
ascend low (n ∷ ns) up =
    (all_members (λ m. n < m) ns (λ m is. let above = number_least (n + 1) m ns up.1 is in omega (arith, above)), ascend (n + 1) ns up.1)

among : (n : ℕ) (ns : List ℕ) → is_among ns n ≡ true → Member n ns
among n ns is = let found = any_member (λ m. m == n) ns is in subst (λ (m : ℕ). Member m ns) (eqb-true found.0 n found.2) found.1

module _ (g : Geometry) (s : Stamp) (image now : Image) (kept : Salvaged) (seen : List SlotSeen) (has : HasKept g s image now kept seen) where
  abbrev inodes : List ℕ
  inodes = kept_inodes (volume_of g) kept

  to_inodes : (n : ℕ) → Member n kept.fresh → Member n (filter (is_among kept.fresh) inodes)
  to_inodes n is =
      member_filter (is_among kept.fresh) n inodes (fresh_inode g s image now kept seen has n is) (member_any (λ m. m == n) n kept.fresh is (eq-eqb n n refl))

  of_inodes : (n : ℕ) → Member n (filter (is_among kept.fresh) inodes) → Member n kept.fresh
  of_inodes n is = among n kept.fresh (filter_member (is_among kept.fresh) n inodes is).1

  fresh_are : filter (is_among kept.fresh) inodes ≡ kept.fresh
  fresh_are =
      same_list (λ n. n) (filter (is_among kept.fresh) inodes) kept.fresh
      (ascend (first_in g 0) (filter (is_among kept.fresh) inodes) (some_up (is_among kept.fresh) (first_in g 0) inodes (inodes_ascend g s image now kept seen has (λ n. n))))
      (ascend g.rootino kept.fresh (fresh_ascend g s image now kept seen has (λ n. n)))
      (λ P all. all_members P kept.fresh (λ n is. member_all P n (filter (is_among kept.fresh) inodes) all (to_inodes n is)))
      (λ P all. all_members P (filter (is_among kept.fresh) inodes) (λ n is. member_all P n kept.fresh all (of_inodes n is)))

  made_are : made_files (wanted_slots (volume_of g) s kept seen) ≡ map (made_file (volume_of g) s kept seen) kept.fresh
  made_are =
      made_by_inode (volume_of g) s kept seen
      ∙ made_all (volume_of g) s kept seen inodes (λ ino is. fresh_unused g s image now kept seen has ino (among ino kept.fresh is))
      ∙ ap (map (made_file (volume_of g) s kept seen)) fresh_are

  pub files_alike : (crc : ℕ → ℕ) → map plain (DueFiles.rebuilt_files (volume_of g) s kept seen crc) ≡ map plain (Names.due_files g.rootino kept (wanted_slots (volume_of g) s kept seen))
  unfolding DueFiles.rebuilt_files Names.due_files
  files_alike crc =
      let v : Volume = volume_of g in
      let made : List FileRec = map (made_file v s kept seen) kept.fresh in
      plain_new (map (fresh_file v s crc) kept.fresh) (map (due_file g.rootino kept seen crc) kept.files)
      ∙ ap₂ (λ (new old : List FileRec). with_new new old) (new_alike v s kept seen crc kept.fresh) (kept_alike g.rootino kept seen crc kept.files)
      ∙ sym (plain_new made (linked_files g.rootino kept))
      ∙ ap (map plain) (sym (with_files_are made (linked_files g.rootino kept)))
      ∙ ap (λ (new : List FileRec). map plain (with_made_files new (linked_files g.rootino kept))) (sym made_are)
