-- The files and directories that are due of an image, with those that are made anew, stand in the order of those of an image.
use Rattle.std.proofs.Common.{◌≡◌, ℕ, Bool, true, false, not, cond, ◌+◌, ◌*◌, ◌/◌, ◌%◌, ◌^◌, ◌≤◌, ◌<◌, ◌==◌, ◌||◌, if◌then◌else◌, inl, inr, List, [], ◌∷◌, ◌++◌, map, filter, Option, Some, None, refl, sym, subst, ap, ap₂, ◌∙◌, arith}
use Rattle.std.specs.List.{flat_map, range_with_len}
use Rattle.std.specs.Option.{is_some}
use Rattle.std.proofs.lemmas.Bool.{eq-eqb, eqb-true, not-true, or_parts}
use Rattle.std.proofs.lemmas.List.Concat.{flat_map-append}
use Rattle.xfs_dirdata.specs.declared.records.EntryRec.{EntryRec}
use Rattle.xfs_disk.specs.Blocks.{Image}
use Rattle.xfs_disk.specs.Lists.{is_among}
use Rattle.xfs_disk.specs.declared.stamp.Stamp.{Stamp}
use Rattle.xfs_geom.proofs.Addresses.{address_back}
use Rattle.xfs_geom.specs.Conversions.{address_of, inode_of}
use Rattle.xfs_geom.specs.Volumes.{Volume, volume_of}
use Rattle.xfs_geom.specs.declared.geometry.Geometry.{Geometry}
use Rattle.xfs_image.specs.Candidates.{candidates}
use Rattle.xfs_image.specs.Claims.{candidate_files}
use Rattle.xfs_image.specs.Clusters.{root_cluster}
use Rattle.xfs_image.specs.Slots.{cluster_blocks, cluster_inodes, inodes_of_block}
use Rattle.xfs_naming.specs.Naming.{AreNamed, NumbersAscend, is_in_use, numbers_of}
use Rattle.xfs_salvage.proofs.xfs_views.Members.{Member, any_member, filter_member, flat_member, map_member, member_any, member_flat, member_map, member_row}
use Rattle.xfs_render.specs.declared.wanted_slots.SlotBase.TheVariants as Base
use Rattle.xfs_render.specs.declared.wanted_slots.SlotWanted.{SlotWanted}
use Rattle.xfs_space.proofs.FreeSpans.{group_short}
use Rattle.xfs_volume.specs.Names.{is_directory}
use Rattle.xfs_volume.specs.declared.directories.DirRec.{DirRec}
use Rattle.xfs_volume.specs.declared.files.FileRec.{FileRec}
use Rattle.xfs_scan.specs.Evidence.{IsEvidence}
use Rattle.xfs_scan.specs.declared.evidence.Evidence.{Evidence}
use Rattle.xfs_salvage.specs.Kept.{entries_of_kept, fresh_among, kept_clusters, kept_dirs, kept_files, own_inodes}
use Rattle.xfs_salvage.specs.declared.found.Salvaged.{Salvaged}
use Rattle.xfs_salvage.proofs.Ascending.{lower}
use Rattle.xfs_made.proofs.Candidates.{image_can}
use Rattle.xfs_made.proofs.Inodes.{first_in}
use Rattle.xfs_made.proofs.Roots.{root_is, root_kept}
use Rattle.xfs_request.specs.Fresh.{new_slot, new_root_core, new_root_slot, new_system_slot}
use Rattle.xfs_request.specs.Slots.{as_list, attrs_wanted, bare_slot, block_slots, cluster_slots, freed_slot, is_free, kept_slot, links_due, nlink_wanted, slot_listed, slot_of, slot_wanted, state_at, wanted_slots}
use Rattle.xfs_request.specs.declared.seen.SlotSeen.{SlotSeen}
use Rattle.xfs_made.proofs.Spaced.{AreSpaced, inodes_up, kept_spaced}
use Rattle.xfs_rebuild.specs.Found.{IsKept}
use Rattle.xfs_rebuild.specs.Names.{due_dirs, due_files, linked_files, made_files, made_of, new_file, new_root, with_dir, with_made_files, with_nlink}
use Rattle.xfs_rebuild.specs.Rebuilds.{Ground, IsGround, slots_asked}
use Rattle.xfs_rebuild.proofs.Added.{all_named}
use Rattle.xfs_rebuild.proofs.KeptNames.{kept_named}

-- files with other numbers of links stand as before
module _ (due : FileRec → ℕ) where
  abbrev linked : List FileRec → List FileRec
  linked files = map (λ (f : FileRec). with_nlink f (due f)) files

  numbers_stay : (files : List FileRec) → numbers_of (linked files) ≡ numbers_of files
  numbers_stay [] = refl
  numbers_stay (f ∷ fs) = ap (λ (ns : List ℕ). f.ino ∷ ns) (numbers_stay fs)

  directories_stay : (files : List FileRec) → numbers_of (filter is_directory (linked files)) ≡ numbers_of (filter is_directory files)
  directories_stay [] = refl
  directories_stay (f ∷ fs) = by_case (is_directory f) (directories_stay fs)
    where
      by_case : (t : Bool) → numbers_of (filter is_directory (linked fs)) ≡ numbers_of (filter is_directory fs)
          → numbers_of (cond t (with_nlink f (due f) ∷ filter is_directory (linked fs)) (filter is_directory (linked fs))) ≡ numbers_of (cond t (f ∷ filter is_directory fs) (filter is_directory fs))
      by_case true rest = ap (λ (ns : List ℕ). f.ino ∷ ns) rest
      by_case false rest = rest

  use_stays : (files : List FileRec) (n : ℕ) → is_in_use (linked files) n ≡ is_in_use files n
  use_stays [] n = refl
  use_stays (f ∷ fs) n = ap (λ (b : Bool). (f.ino == n) || b) (use_stays fs n)

  linked_named : (files : List FileRec) (entries : List EntryRec) (dirs : List DirRec) → AreNamed files entries dirs → AreNamed (linked files) entries dirs
  linked_named files entries dirs named = record {
    files_ascend = subst (NumbersAscend 0) (sym (numbers_stay files)) named.files_ascend;
    directories = named.directories ∙ sym (directories_stay files);
    grouped = named.grouped;
  }

-- a file that is made anew for an inode: a directory just where it is the root
record IsNew (root : ℕ) (news : List ℕ) (ino : ℕ) (f : FileRec) : Type 0 where
  among : is_among news ino ≡ true
  number : f.ino ≡ ino
  kind : is_directory f ≡ (ino == root)

-- for an inode one is made at most
abbrev AreNew : ℕ → List ℕ → ℕ → List FileRec → Type 0
AreNew root news ino [] = Unit {0}
AreNew root news ino (f ∷ fs) = IsNew root news ino f × (fs ≡ [])

each_new : (root : ℕ) (news : List ℕ) (ino : ℕ) (made : List FileRec) (f : FileRec) → AreNew root news ino made → Member f made → IsNew root news ino f
each_new root news ino [] f new is = absurd is
each_new root news ino (x ∷ xs) f new is =
    elim is [
      | inl same ↦ subst (IsNew root news ino) same new.0
      | inr there ↦ absurd (subst (λ (fs : List FileRec). Member f fs) new.1 there)
    ]

then_up : (root : ℕ) (news : List ℕ) (low ino : ℕ) (made rest : List FileRec) → low ≤ ino → AreNew root news ino made → NumbersAscend (ino + 1) (numbers_of rest)
    → NumbersAscend low (numbers_of (made ++ rest))
then_up root news low ino [] rest le new up = lower low (ino + 1) (numbers_of rest) (omega (arith, le)) up
then_up root news low ino (f ∷ fs) rest le new up =
    let number = new.0.number in (
      omega (arith, le, number),
      subst (λ (xs : List FileRec). NumbersAscend (f.ino + 1) (numbers_of (xs ++ rest))) (sym new.1) (lower (f.ino + 1) (ino + 1) (numbers_of rest) (omega (arith, number)) up),
    )

none_of : (n : ℕ) (files : List FileRec) → is_in_use files n ≡ false → filter (λ (f : FileRec). f.ino == n) files ≡ []
none_of n [] off = refl
none_of n (f ∷ fs) off =
    let parts = or_parts (f.ino == n) (is_in_use fs n) off in
    ap (λ (t : Bool). cond t (f ∷ filter (λ (x : FileRec). x.ino == n) fs) (filter (λ (x : FileRec). x.ino == n) fs)) parts.0 ∙ none_of n fs parts.1

flat_flat : {X Y Z : Type 0} (f : Y → List Z) (g : X → List Y) (xs : List X) → flat_map f (flat_map g xs) ≡ flat_map (λ x. flat_map f (g x)) xs
flat_flat f g [] = refl
flat_flat {Z = Z} f g (x ∷ xs) = flat_map-append f (g x) (flat_map g xs) ∙ ap (λ (zs : List Z). flat_map f (g x) ++ zs) (flat_flat f g xs)

-- what the slots of kept clusters add to the files
module _ (v : Volume) (s : Stamp) (kept : Salvaged) (slots : List SlotSeen) where
  abbrev made_at : ℕ → List FileRec
  made_at ino = made_files (slot_listed v s kept slots ino)

  fresh_new : (ino : ℕ) → is_among kept.fresh ino ≡ true → AreNew v.rootino kept.fresh ino (made_files (new_slot v s ino ∷ []))
  fresh_new ino fresh = by_root (ino == v.rootino) refl
    where
      by_root : (t : Bool) → (ino == v.rootino) ≡ t → AreNew v.rootino kept.fresh ino (made_files ((if t then new_root_slot v s else new_system_slot v s ino) ∷ []))
      by_root true is = (record { among = fresh; number = sym (eqb-true ino v.rootino is); kind = sym is }, refl)
      by_root false is = (record { among = fresh; number = refl; kind = sym is }, refl)

  bare_new : (ino : ℕ) → AreNew v.rootino kept.fresh ino (made_files (as_list (bare_slot v s kept slots ino)))
  bare_new ino = by_fresh (is_among kept.fresh ino) refl
    where
      by_free : (t : Bool) → AreNew v.rootino kept.fresh ino (made_files (as_list (if t then None else Some (freed_slot ino))))
      by_free true = tt
      by_free false = tt

      by_fresh : (t : Bool) → is_among kept.fresh ino ≡ t
          → AreNew v.rootino kept.fresh ino (made_files (as_list (if t then Some (new_slot v s ino) else (if is_free (state_at slots ino) then None else Some (freed_slot ino)))))
      by_fresh true is = fresh_new ino is
      by_fresh false is = by_free (is_free (state_at slots ino))

  kept_new : (ino number : ℕ) (attrs nlink : Option ℕ) → AreNew v.rootino kept.fresh ino (made_files (as_list (kept_slot number attrs nlink)))
  kept_new ino number attrs nlink = by_case (is_some attrs || is_some nlink)
    where
      by_case : (t : Bool) → AreNew v.rootino kept.fresh ino (made_files (as_list (if t then Some (record { ino = number; base = Base.Kept; drop_attrs = attrs; fork = None; nlink = nlink }) else None)))
      by_case true = tt
      by_case false = tt

  slot_new : (ino : ℕ) (files : List FileRec) → AreNew v.rootino kept.fresh ino (made_files (as_list (slot_of v s kept slots ino files)))
  slot_new ino [] = bare_new ino
  slot_new ino (f ∷ fs) = kept_new ino f.ino (attrs_wanted f (state_at slots f.ino)) (nlink_wanted f (links_due v.rootino kept.files kept.entries f))

  made_new : (ino : ℕ) → AreNew v.rootino kept.fresh ino (made_at ino)
  unfolding slot_wanted
  made_new ino = slot_new ino (filter (λ (f : FileRec). f.ino == ino) kept.files)

  made_up : (low : ℕ) (inos : List ℕ) → NumbersAscend low inos → NumbersAscend low (numbers_of (flat_map made_at inos))
  made_up low [] up = tt
  made_up low (ino ∷ inos) up = then_up v.rootino kept.fresh low ino (made_at ino) (flat_map made_at inos) up.0 (made_new ino) (made_up (ino + 1) inos up.1)

  -- the file of a root that is made anew
  abbrev root_file : FileRec
  root_file = new_file v.rootino (new_root_core v s)

  root_made : is_among kept.fresh v.rootino ≡ true → is_in_use kept.files v.rootino ≡ false → Member root_file (made_at v.rootino)
  unfolding slot_wanted
  root_made fresh off =
      subst (λ (fs : List FileRec). Member root_file (made_files (as_list (slot_of v s kept slots v.rootino fs)))) (sym (none_of v.rootino kept.files off))
      (subst (λ (t : Bool). Member root_file (made_files (as_list (if t then Some (new_slot v s v.rootino) else (if is_free (state_at slots v.rootino) then None else Some (freed_slot v.rootino)))))) (sym fresh)
      (subst (λ (t : Bool). Member root_file (made_files ((if t then new_root_slot v s else new_system_slot v s v.rootino) ∷ []))) (sym (eq-eqb v.rootino v.rootino refl)) (inl refl)))

  -- the slots of clusters are those of their inodes
  cluster_is : (k : ℕ) → flat_map (slot_listed v s kept slots) (cluster_inodes v k) ≡ cluster_slots v s kept slots k
  unfolding cluster_slots block_slots cluster_inodes
  cluster_is k = flat_flat (slot_listed v s kept slots) (inodes_of_block v) (cluster_blocks k)

  clusters_are : (ks : List ℕ) → flat_map (slot_listed v s kept slots) (flat_map (cluster_inodes v) ks) ≡ flat_map (cluster_slots v s kept slots) ks
  clusters_are [] = refl
  clusters_are (k ∷ ks) =
      flat_map-append (slot_listed v s kept slots) (cluster_inodes v k) (flat_map (cluster_inodes v) ks)
      ∙ ap₂ (λ (xs ys : List SlotWanted). xs ++ ys) (cluster_is k) (clusters_are ks)

  abbrev inodes : List ℕ
  inodes = flat_map (cluster_inodes v) kept.clusters

  made_are : flat_map made_at inodes ≡ made_files (wanted_slots v s kept slots)
  unfolding wanted_slots
  made_are =
      sym (flat_flat (λ (w : SlotWanted). made_of w.ino w.base) (slot_listed v s kept slots) inodes)
      ∙ ap made_files (clusters_are kept.clusters)

  made_is : (f : FileRec) → Member f (flat_map made_at inodes) → (ino : ℕ) × IsNew v.rootino kept.fresh ino f
  made_is f is =
      let of = flat_member made_at f inodes is in
      (of.0, each_new v.rootino kept.fresh of.0 (made_at of.0) f (made_new of.0) of.2)

  -- the root is made just where it is to be
  among_made : is_among (numbers_of (flat_map made_at inodes)) v.rootino ≡ true → is_among kept.fresh v.rootino ≡ true
  among_made is =
      let found = any_member (λ (m : ℕ). m == v.rootino) (numbers_of (flat_map made_at inodes)) is in
      let file = map_member (λ (f : FileRec). f.ino) found.0 (flat_map made_at inodes) found.1 in
      let new = made_is file.0 file.1 in
      let root : new.0 ≡ v.rootino = sym new.1.number ∙ file.2 ∙ eqb-true found.0 v.rootino found.2 in
      subst (λ (n : ℕ). is_among kept.fresh n ≡ true) root new.1.among

  made_among : Member v.rootino inodes → is_in_use kept.files v.rootino ≡ false → is_among kept.fresh v.rootino ≡ true → is_among (numbers_of (flat_map made_at inodes)) v.rootino ≡ true
  made_among inside off fresh =
      member_any (λ (m : ℕ). m == v.rootino) v.rootino (numbers_of (flat_map made_at inodes))
      (member_map (λ (f : FileRec). f.ino) root_file (flat_map made_at inodes) (member_flat made_at v.rootino root_file inodes inside (root_made fresh off)))
      (eq-eqb v.rootino v.rootino refl)

-- the slot of the root is one of its cluster
root_inode : (g : Geometry) → Member g.rootino (cluster_inodes (volume_of g) (root_cluster (volume_of g)))
unfolding cluster_inodes inode_of
root_inode g =
    let v : Volume = volume_of g in
    let e : ℕ = g.rootino / 8 in
    let k : ℕ = 2 ^ g.agblklog in
    let short = group_short v (e / k) g.shape.groups.covered in
    let inside = g.shape.root.inside in
    let low : e % k < g.agblocks = omega (arith, inside, short) in
    let b : ℕ = e / k * g.agblocks + e % k in
    let at : address_of v b ≡ e = address_back v (e / k) (e % k) e k refl refl refl low in
    let number : address_of v b * 8 + g.rootino % 8 ≡ g.rootino = omega (arith, at) in
    let start = root_is g in
    subst (λ (n : ℕ). Member n (flat_map (inodes_of_block v) (cluster_blocks (root_cluster v)))) number
    (member_flat (inodes_of_block v) b (address_of v b * 8 + g.rootino % 8) (cluster_blocks (root_cluster v))
    (member_row b (root_cluster v) 4 (omega (arith, start)) (omega (arith, start)))
    (member_map (inode_of v b) (g.rootino % 8) (range_with_len 0 8) (member_row (g.rootino % 8) 0 8 (omega arith) (omega arith))))

fresh_off : (files : List FileRec) (root n : ℕ) → is_among (fresh_among files root) n ≡ true → is_in_use files n ≡ false
fresh_off files root n is =
    let found = any_member (λ (m : ℕ). m == n) (fresh_among files root) is in
    let free = (filter_member (λ ino. not (is_in_use files ino)) found.0 (own_inodes root) found.1).1 in
    subst (λ (m : ℕ). is_in_use files m ≡ false) (eqb-true found.0 n found.2) (not-true (is_in_use files found.0) free)

one_test : (a b : Bool) → (a ≡ true → b ≡ true) → (b ≡ true → a ≡ true) → a ≡ b
one_test true b to from = sym (to refl)
one_test false true to from = from refl
one_test false false to from = refl

named_as : (fs gs : List FileRec) (es hs : List EntryRec) (ds ks : List DirRec) → fs ≡ gs → es ≡ hs → ds ≡ ks → AreNamed gs hs ks → AreNamed fs es ds
named_as fs gs es hs ds ks a b c named =
    subst (λ (xs : List FileRec). AreNamed xs es ds) (sym a) (subst (λ (xs : List EntryRec). AreNamed gs xs ds) (sym b) (subst (λ (xs : List DirRec). AreNamed gs hs xs) (sym c) named))

-- what is due of lists that are named, with what is made anew for inodes that ascend
due_of : (g : Geometry) (s : Stamp) (kept : Salvaged) (slots : List SlotSeen) → AreNamed kept.files kept.entries kept.dirs
    → kept.fresh ≡ fresh_among kept.files g.rootino → AreSpaced 0 kept.clusters → Member g.rootino (flat_map (cluster_inodes (volume_of g)) kept.clusters)
    → AreNamed (due_files g.rootino kept (wanted_slots (volume_of g) s kept slots)) kept.entries (due_dirs g.rootino kept)
unfolding due_files
due_of g s kept slots named fresh apart inside =
    let v : Volume = volume_of g in
    let due = links_due g.rootino kept.files kept.entries in
    let inos : List ℕ = flat_map (cluster_inodes v) kept.clusters in
    let made : List FileRec = flat_map (made_at v s kept slots) inos in
    let free = λ (n : ℕ) (is : is_among kept.fresh n ≡ true). fresh_off kept.files g.rootino n (subst (λ (ns : List ℕ). is_among ns n ≡ true) fresh is) in
    let all : AreNamed (with_made_files made (linked_files g.rootino kept)) kept.entries (if is_among (numbers_of made) g.rootino then with_dir (new_root g.rootino) kept.dirs else kept.dirs) =
    all_named g.rootino (first_in g 0) made (linked_files g.rootino kept) kept.entries kept.dirs (made_up v s kept slots (first_in g 0) inos (inodes_up g 0 kept.clusters apart))
    (λ f is. let new = made_is v s kept slots f is in use_stays due kept.files f.ino ∙ ap (is_in_use kept.files) new.1.number ∙ free new.0 new.1.among)
    (λ f is. let new = made_is v s kept slots f is in new.1.kind ∙ ap (λ (n : ℕ). n == g.rootino) (sym new.1.number))
    (linked_named due kept.files kept.entries kept.dirs named) in
    let root : is_among (numbers_of made) g.rootino ≡ is_among kept.fresh g.rootino =
    one_test (is_among (numbers_of made) g.rootino) (is_among kept.fresh g.rootino) (among_made v s kept slots)
    (λ is. made_among v s kept slots inside (free g.rootino is) is) in
    subst (λ (fs : List FileRec). AreNamed (with_made_files fs (linked_files g.rootino kept)) kept.entries (due_dirs g.rootino kept)) (made_are v s kept slots)
    (subst (λ (t : Bool). AreNamed (with_made_files made (linked_files g.rootino kept)) kept.entries (if t then with_dir (new_root g.rootino) kept.dirs else kept.dirs)) root all)

-- what is kept of the evidence of an image
pub due_named : (g : Geometry) (image : Image) (s : Stamp) (e : Evidence) (on : Ground) → IsEvidence g image e → IsGround (volume_of g) e on
    → AreNamed (due_files g.rootino on.kept (slots_asked g s on)) on.kept.entries (due_dirs g.rootino on.kept)
due_named g image s e on told base =
    let v : Volume = volume_of g in
    let of : IsKept v e on.kept = base.kept' in
    let clusters : on.kept.clusters ≡ kept_clusters v (candidates v image) (candidate_files v image) = of.clusters' ∙ (λ i. kept_clusters v (told.clusters i) (told.files i)) in
    let files : on.kept.files ≡ kept_files v (candidates v image) (candidate_files v image) = of.files' ∙ (λ i. kept_files v (told.clusters i) (told.files i)) in
    let named : AreNamed on.kept.files on.kept.entries on.kept.dirs =
    named_as on.kept.files _ on.kept.entries _ on.kept.dirs _ files (of.entries' ∙ (λ i. entries_of_kept v (told.clusters i) (told.files i) (told.entries i)))
    (of.dirs' ∙ (λ i. kept_dirs v (told.clusters i) (told.files i) (told.dirs i))) (kept_named g image) in
    let root : Member (root_cluster v) on.kept.clusters =
    subst (λ (ks : List ℕ). Member (root_cluster v) ks) (sym clusters) (among_member (root_cluster v) (kept_clusters v (candidates v image) (candidate_files v image)) (root_kept g (candidates v image) (candidate_files v image))) in
    due_of g s on.kept on.seen named (of.fresh' ∙ ap (λ (fs : List FileRec). fresh_among fs g.rootino) (sym of.files'))
    (subst (AreSpaced 0) (sym clusters) (kept_spaced v (candidates v image) (candidate_files v image) (image_can g image)))
    (member_flat (cluster_inodes v) (root_cluster v) g.rootino on.kept.clusters root (root_inode g))
  where
    among_member : (n : ℕ) (ns : List ℕ) → is_among ns n ≡ true → Member n ns
    among_member n ns is = let found = any_member (λ (m : ℕ). m == n) ns is in subst (λ (m : ℕ). Member m ns) (eqb-true found.0 n found.2) found.1
