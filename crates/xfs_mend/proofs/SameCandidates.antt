-- Candidate clusters, candidate files and their entries stay where backup superblocks alone differ from a view that breaks no law, so
-- that nothing is refused of the one image that was not of the other.
use Rattle.std.proofs.Common.{◌≡◌, ℕ, Bool, true, false, not, ◌+◌, ◌*◌, ◌^◌, ◌/◌, ◌<◌, ◌==◌, ◌&&◌, ◌||◌, cond, inl, inr, List, [], ◌∷◌, ◌++◌, map, length, Option, refl, sym, ap, ap₂, ◌∙◌, subst, arith}
use Rattle.std.specs.List.{All, filter, flat_map, list_all, list_any, range_with_len, sum_by}
use Rattle.std.specs.Option.{option_or}
use Rattle.std.proofs.lemmas.Bool.{and_parts, leb-true, ltb-true, not-true, false≢true}
use Rattle.std.proofs.lemmas.List.Elements.{All-from_recursion}
use Rattle.xfs_word.specs.Field.{field_of}
use Rattle.xfs_word.specs.Seal.{is_sealed}
use Rattle.xfs_disk.specs.Blocks.{Image, bytes_of_block}
use Rattle.xfs_geom.specs.Conversions.{group_length, is_fixed}
use Rattle.xfs_geom.specs.Volumes.{Volume, volume_of}
use Rattle.xfs_geom.specs.declared.geometry.Geometry.{Geometry}
use Rattle.xfs_inode.specs.Slots.{slot_seal}
use Rattle.xfs_inode.specs.declared.files.FileRead.{FileRead}
use Rattle.xfs_volume.specs.Names.{is_directory}
use Rattle.xfs_volume.specs.declared.clusters.ClusterRec.{ClusterRec}
use Rattle.xfs_volume.specs.declared.files.FileRec.{FileRec}
use Rattle.xfs_volume.specs.declared.groups.GroupRec.{GroupRec}
use Rattle.xfs_image.proofs.Roots.{chunks_name, owners_name}
use Rattle.xfs_image.specs.Candidates.{can_hold_inodes, candidates, cluster_rec, has_whole_seal, is_candidate, is_scanned, is_used_slot, lies_in_chunk, possible_clusters, whole_kinds, whole_seal}
use Rattle.xfs_image.specs.Claims.{candidate_files, candidate_inodes, entry_count, file_if, inode_count, is_of_cluster, total_extents}
use Rattle.xfs_image.specs.Clusters.{both_name, is_recorded, is_trusted, named_by_chunks, named_by_owners, names, places_in, root_cluster}
use Rattle.xfs_image.specs.Directories.{directories, entries_read}
use Rattle.xfs_image.specs.Files.{inodes_of}
use Rattle.xfs_image.specs.GroupParts.{IsGroupRead}
use Rattle.xfs_image.specs.Groups.{head_block}
use Rattle.xfs_image.specs.Slots.{cluster_blocks, cluster_inodes, reads_as}
use Rattle.xfs_restored.proofs.xfs_views.Addresses.{IsPlaced}
use Rattle.xfs_restored.proofs.xfs_views.Held.{HasGroup}
use Rattle.xfs_restored.proofs.xfs_views.Images.{candidate_has}
use Rattle.xfs_restored.proofs.xfs_views.Known.{candidate_known, inode_of_view}
use Rattle.xfs_restored.proofs.xfs_views.Lawful.{IsLawfulView}
use Rattle.xfs_restored.proofs.xfs_views.Members.{Member, all_members, filter_member, flat_member, map_member, member_row, row_member}
use Rattle.xfs_restored.proofs.xfs_views.Places.{file_inode, group_is, inode_reads}
use Rattle.xfs_restored.proofs.xfs_views.Trusted.{group_of}
use Rattle.xfs_restored.specs.xfs_views.Backups.{DifferInBackups}
use Rattle.xfs_restored.specs.xfs_views.SameFiles.{HasSameClaims, HasSameSlot}
use Rattle.xfs_restored.proofs.xfs_views.DirectoriesStay.{all_entries_stay}
use Rattle.xfs_restored.proofs.xfs_views.FilesStay.{file_stays, free_stays}
use Rattle.xfs_restored.proofs.xfs_views.GroupsStay.{group_kept}
use Rattle.xfs_restored.proofs.xfs_views.SlotsStay.{claims_same, slot_same, slot_stays}
use Rattle.xfs_restored.proofs.xfs_views.Unfixed.{headers_same, trees_same, unfixed_same}
use Rattle.xfs_scan.specs.xfs_slots.Gathered.{feature_if, first_feature}
use Rattle.xfs_scan.specs.Refused.{feature_refused, refused, refused_late, unless_more}
use Rattle.xfs_scan.specs.xfs_slots.declared.inodes.InodeFeature.{InodeFeature}

-- lists by tests and functions that agree on what the lists have
all_agree : {X : Type 0} (p q : X → Bool) (xs : List X) → ((x : X) → Member x xs → p x ≡ q x) → list_all p xs ≡ list_all q xs
all_agree p q [] same = refl
all_agree p q (x ∷ xs) same = ap₂ (λ (a b : Bool). a && b) (same x (inl refl)) (all_agree p q xs (λ y is. same y (inr is)))

any_agree : {X : Type 0} (p q : X → Bool) (xs : List X) → ((x : X) → Member x xs → p x ≡ q x) → list_any p xs ≡ list_any q xs
any_agree p q [] same = refl
any_agree p q (x ∷ xs) same = ap₂ (λ (a b : Bool). a || b) (same x (inl refl)) (any_agree p q xs (λ y is. same y (inr is)))

filter_agrees : {X : Type 0} (p q : X → Bool) (xs : List X) → ((x : X) → Member x xs → p x ≡ q x) → filter p xs ≡ filter q xs
filter_agrees p q [] same = refl
filter_agrees p q (x ∷ xs) same =
    let rest = filter_agrees p q xs (λ y is. same y (inr is)) in
    let here = same x (inl refl) in
    λ i. cond (here i) (x ∷ rest i) (rest i)

map_agrees : {X Y : Type 0} (f h : X → Y) (xs : List X) → ((x : X) → Member x xs → f x ≡ h x) → map f xs ≡ map h xs
map_agrees f h [] same = refl
map_agrees f h (x ∷ xs) same = ap₂ (λ a b. a ∷ b) (same x (inl refl)) (map_agrees f h xs (λ y is. same y (inr is)))

flat_agrees : {X Y : Type 0} (f h : X → List Y) (xs : List X) → ((x : X) → Member x xs → f x ≡ h x) → flat_map f xs ≡ flat_map h xs
flat_agrees f h [] same = refl
flat_agrees f h (x ∷ xs) same = ap₂ (λ a b. a ++ b) (same x (inl refl)) (flat_agrees f h xs (λ y is. same y (inr is)))

all_member : {X : Type 0} (p : X → Bool) (x : X) (xs : List X) → list_all p xs ≡ true → Member x xs → p x ≡ true
all_member p x [] all is = absurd is
all_member p x (y ∷ ys) all is =
    let parts = and_parts (p y) (list_all p ys) all in
    elim is [ inl same ↦ ap p (sym same) ∙ parts.0 | inr there ↦ all_member p x ys parts.1 there ]

-- where one of some blocks is fixed they do not all pass a test for it and another
none_holds : (fixed other : ℕ → Bool) (blocks : List ℕ) → list_all (λ block. not (fixed block)) blocks ≡ false → list_all (λ block. not (fixed block || other block)) blocks ≡ false
none_holds fixed other [] some = some
none_holds fixed other (b ∷ bs) some = either (fixed b) (other b) (list_all (λ block. not (fixed block)) bs) (list_all (λ block. not (fixed block || other block)) bs) some (none_holds fixed other bs)
  where
    either : (f o x y : Bool) → (not f && x) ≡ false → (x ≡ false → y ≡ false) → (not (f || o) && y) ≡ false
    either true o x y some rest = refl
    either false true x y some rest = refl
    either false false x y some rest = rest some

dead : (root a b c hold : Bool) → hold ≡ false → (root || ((a || b) && c && hold)) ≡ root
dead root a b c hold none = either root (a || b) c hold none
  where
    either : (r p q h : Bool) → h ≡ false → (r || (p && q && h)) ≡ r
    either true p q h none = refl
    either false true true h none = none
    either false true false h none = refl
    either false false q h none = refl

possible_placed : (g : Geometry) (x : ℕ) → Member x (possible_clusters (volume_of g)) → IsPlaced g x
possible_placed g x is =
    let v : Volume = volume_of g in
    let group = flat_member (λ ag. map (λ place. head_block v ag + place) (places_in v ag)) x (range_with_len 0 v.agcount) is in
    let place = map_member (λ place. head_block v group.0 + place) x (places_in v group.0) group.2 in
    let index = map_member (λ i. 4 * i) place.0 (range_with_len 0 (group_length v group.0 / 4)) place.1 in
    let ag = row_member group.0 0 v.agcount group.1 in
    let i = row_member index.0 0 (group_length v group.0 / 4) index.1 in
    let at = place.2 in
    let by_four = index.2 in
    let low = i.high in
    record {
      ag = group.0;
      i = index.0;
      group = omega (arith, ag.high);
      inside = omega (arith, low);
      is = omega (arith, at, by_four);
    }

feature_agrees : (v : Volume) (image now : Image) (inos : List ℕ) → ((ino : ℕ) → Member ino inos → reads_as v now ino ≡ reads_as v image ino) → first_feature v now inos ≡ first_feature v image inos
feature_agrees v image now [] same = refl
feature_agrees v image now (ino ∷ inos) same =
    ap₂ (λ (read : FileRead) (rest : Option InodeFeature). option_or (feature_if ino read) rest) (same ino (inl refl)) (feature_agrees v image now inos (λ other is. same other (inr is)))

module _ (g : Geometry) (image now : Image) (differ : DifferInBackups (volume_of g) image now) (groups : List GroupRec) (files : List FileRec) (view : IsLawfulView g image groups files) where
  -- the trees of each group name the same clusters
  group_still : (n : ℕ) (h : HasGroup g image 0 groups n) → n < g.agcount → IsGroupRead (volume_of g) now n h.group
  group_still n h few =
      group_kept (volume_of g) image now n h.group h.read (headers_same g image now differ n few) (trees_same g image now differ n h.group h.read)

  chunks_same : (n : ℕ) → n < g.agcount → named_by_chunks (volume_of g) now n ≡ named_by_chunks (volume_of g) image n
  chunks_same n few =
      let h = group_of g image groups files view n few in
      chunks_name (volume_of g) now n h.group (group_still n h few) ∙ sym (chunks_name (volume_of g) image n h.group h.read)

  owners_same : (n : ℕ) → n < g.agcount → named_by_owners (volume_of g) now n ≡ named_by_owners (volume_of g) image n
  owners_same n few =
      let h = group_of g image groups files view n few in
      owners_name (volume_of g) now n h.group (group_still n h few) ∙ sym (owners_name (volume_of g) image n h.group h.read)

  in_group : (x : ℕ) → IsPlaced g x → x / g.agblocks < g.agcount
  in_group x at = subst (λ (n : ℕ). n < g.agcount) (sym (group_is g x at)) at.group

  recorded_same : (x : ℕ) → IsPlaced g x → is_recorded (volume_of g) now x ≡ is_recorded (volume_of g) image x
  unfolding is_recorded
  recorded_same x at =
      let chunks = chunks_same (x / g.agblocks) (in_group x at) in
      let owners = owners_same (x / g.agblocks) (in_group x at) in
      λ i. x == root_cluster (volume_of g) || names (chunks i) x || names (owners i) x

  trusted_same : (n : ℕ) → n < g.agcount → is_trusted (volume_of g) now n ≡ is_trusted (volume_of g) image n
  unfolding is_trusted
  trusted_same n few =
      let chunks = chunks_same n few in
      let owners = owners_same n few in
      λ i. both_name (chunks i) (owners i)

  -- so a cluster is a candidate in both images: where a block of it is fixed by its place alone, else by the same bytes
  whole_same : (block : ℕ) → bytes_of_block now block ≡ bytes_of_block image block → has_whole_seal (volume_of g) now block ≡ has_whole_seal (volume_of g) image block
  unfolding has_whole_seal
  whole_same block same = ap (λ (bytes : List ℕ). list_any (λ kind. is_sealed (whole_seal (volume_of g) block kind) bytes) whole_kinds) same

  used_same : (ino : ℕ) → HasSameSlot (volume_of g) image now ino → is_used_slot (volume_of g) now ino ≡ is_used_slot (volume_of g) image ino
  used_same ino slot = ap (λ (bytes : List ℕ). is_sealed (slot_seal (volume_of g) ino) bytes && not (field_of bytes 2 2 == 0)) slot

  module _ (x : ℕ) (at : IsPlaced g x) (free : list_all (λ block. not (is_fixed (volume_of g) block)) (cluster_blocks x) ≡ true) where
    member_same : (block : ℕ) → Member block (cluster_blocks x) → bytes_of_block now block ≡ bytes_of_block image block
    member_same block is =
        let unfixed : is_fixed (volume_of g) block ≡ false = not-true (is_fixed (volume_of g) block) (all_member (λ b. not (is_fixed (volume_of g) b)) block (cluster_blocks x) free is) in
        unfixed_same g image now differ block (λ fixed. false≢true (sym unfixed ∙ fixed))

    on_same : (block : ℕ) → is_of_cluster x block ≡ true → bytes_of_block now block ≡ bytes_of_block image block
    on_same block on =
        let parts = and_parts _ _ on in
        member_same block (member_row block x 4 (leb-true x block parts.0) (ltb-true block (x + 4) parts.1))

    hold_same : can_hold_inodes (volume_of g) now x ≡ can_hold_inodes (volume_of g) image x
    hold_same =
        all_agree (λ block. not (is_fixed (volume_of g) block || has_whole_seal (volume_of g) now block)) (λ block. not (is_fixed (volume_of g) block || has_whole_seal (volume_of g) image block))
        (cluster_blocks x) (λ block is. ap (λ (whole : Bool). not (is_fixed (volume_of g) block || whole)) (whole_same block (member_same block is)))

    scanned_same : is_scanned (volume_of g) now x ≡ is_scanned (volume_of g) image x
    unfolding is_scanned
    scanned_same =
        let trusted = trusted_same (x / g.agblocks) (in_group x at) in
        let used = any_agree (is_used_slot (volume_of g) now) (is_used_slot (volume_of g) image) (cluster_inodes (volume_of g) x)
        (λ ino is. used_same ino (slot_stays g image now x ino at is on_same)) in
        λ i. not (trusted i) && used i

    free_candidate : is_candidate (volume_of g) now x ≡ is_candidate (volume_of g) image x
    unfolding is_candidate
    free_candidate =
        let recorded = recorded_same x at in
        let scanned = scanned_same in
        let hold = hold_same in
        λ i. x == root_cluster (volume_of g) || ((recorded i || scanned i) && lies_in_chunk (volume_of g) x && hold i)

  fixed_candidate : (x : ℕ) (i : Image) → list_all (λ block. not (is_fixed (volume_of g) block)) (cluster_blocks x) ≡ false → is_candidate (volume_of g) i x ≡ x == root_cluster (volume_of g)
  unfolding is_candidate
  fixed_candidate x i fixed =
      let v : Volume = volume_of g in
      dead (x == root_cluster v) (is_recorded v i x) (is_scanned v i x) (lies_in_chunk v x) (can_hold_inodes v i x) (none_holds (is_fixed v) (has_whole_seal v i) (cluster_blocks x) fixed)

  candidate_same : (x : ℕ) → IsPlaced g x → is_candidate (volume_of g) now x ≡ is_candidate (volume_of g) image x
  candidate_same x at = by_case (list_all (λ block. not (is_fixed (volume_of g) block)) (cluster_blocks x)) refl
    where
      by_case : (t : Bool) → list_all (λ block. not (is_fixed (volume_of g) block)) (cluster_blocks x) ≡ t → is_candidate (volume_of g) now x ≡ is_candidate (volume_of g) image x
      by_case true free = free_candidate x at free
      by_case false fixed = fixed_candidate x now fixed ∙ sym (fixed_candidate x image fixed)

  candidates_same : candidates (volume_of g) now ≡ candidates (volume_of g) image
  unfolding candidates
  candidates_same =
      let v : Volume = volume_of g in
      let all : List ℕ = possible_clusters v in
      ap (map (cluster_rec v now)) (filter_agrees (is_candidate v now) (is_candidate v image) all (λ x is. candidate_same x (possible_placed g x is)))
      ∙ map_agrees (cluster_rec v now) (cluster_rec v image) (filter (is_candidate v image) all) (λ x is.
      let recorded = recorded_same x (possible_placed g x (filter_member (is_candidate v image) x all is).0) in
      λ i. record { block = x; recorded = recorded i })

  inodes_same : candidate_inodes (volume_of g) now ≡ candidate_inodes (volume_of g) image
  unfolding candidate_inodes
  inodes_same = ap (flat_map (λ (c : ClusterRec). cluster_inodes (volume_of g) c.block)) candidates_same

  -- each candidate inode is one of the view, whose slot and claims are the same
  inode_known : (ino : ℕ) → Member ino (candidate_inodes (volume_of g) image) → Member ino (inodes_of (volume_of g) groups)
  inode_known ino is =
      let of = candidate_has g image ino is in
      inode_of_view g image groups files view of.cluster.block ino (candidate_known g image groups files view of.cluster of.is) of.has

  read_same : (ino : ℕ) → Member ino (candidate_inodes (volume_of g) image) → reads_as (volume_of g) now ino ≡ reads_as (volume_of g) image ino
  read_same ino is =
      let v : Volume = volume_of g in
      let slot : HasSameSlot v image now ino = slot_same g image now differ groups files view.space ino (inode_known ino is) in
      elim (inode_reads v image ino (inodes_of v groups) files view.files_read (inode_known ino is)) [
        | inl free ↦ free_stays v image now ino slot free ∙ sym free
        | inr one ↦ file_stays v image now ino one.0 slot (claims_same g image now differ groups files view.space one.0 one.2) one.1 ∙ sym one.1
      ]

  files_same : candidate_files (volume_of g) now ≡ candidate_files (volume_of g) image
  unfolding candidate_files
  files_same =
      let v : Volume = volume_of g in
      ap (flat_map (λ ino. file_if (reads_as v now ino))) inodes_same
      ∙ flat_agrees (λ ino. file_if (reads_as v now ino)) (λ ino. file_if (reads_as v image ino)) (candidate_inodes v image) (λ ino is. ap file_if (read_same ino is))

  file_of : (h : FileRec) (ino : ℕ) → Member ino (candidate_inodes (volume_of g) image) → Member h (file_if (reads_as (volume_of g) image ino)) → Member h files
  file_of h ino is has =
      elim (inode_reads (volume_of g) image ino (inodes_of (volume_of g) groups) files view.files_read (inode_known ino is)) [
        | inl free ↦ absurd (subst (λ (read : FileRead). Member h (file_if read)) free has)
        | inr one ↦ elim (subst (λ (read : FileRead). Member h (file_if read)) one.1 has) [
          | inl same ↦ subst (λ (f : FileRec). Member f files) same one.2
          | inr none ↦ absurd none
        ]
      ]

  file_known : (h : FileRec) → Member h (candidate_files (volume_of g) image) → Member h files
  unfolding candidate_files
  file_known h is =
      let of = flat_member (λ ino. file_if (reads_as (volume_of g) image ino)) h (candidate_inodes (volume_of g) image) is in
      file_of h of.0 of.1 of.2

  directory_known : (h : FileRec) → Member h (directories (candidate_files (volume_of g) image)) → Member h files
  unfolding directories
  directory_known h is = file_known h (filter_member is_directory h (candidate_files (volume_of g) image) is).0

  slots_stay : All (λ (f : FileRec). HasSameSlot (volume_of g) image now f.ino) (directories (candidate_files (volume_of g) image))
  slots_stay =
      let v : Volume = volume_of g in
      let all : List FileRec = directories (candidate_files v image) in
      All-from_recursion (λ (f : FileRec). HasSameSlot v image now f.ino) all
      (all_members (λ (f : FileRec). HasSameSlot v image now f.ino) all
      (λ f is. slot_same g image now differ groups files view.space f.ino (file_inode v image f (inodes_of v groups) files view.files_read (directory_known f is)).0))

  claims_stay : All (HasSameClaims (volume_of g) image now) (directories (candidate_files (volume_of g) image))
  claims_stay =
      let v : Volume = volume_of g in
      let all : List FileRec = directories (candidate_files v image) in
      All-from_recursion (HasSameClaims v image now) all
      (all_members (HasSameClaims v image now) all (λ f is. claims_same g image now differ groups files view.space f (directory_known f is)))

  entries_same : entries_read (volume_of g) now (candidate_files (volume_of g) now) ≡ entries_read (volume_of g) image (candidate_files (volume_of g) image)
  entries_same =
      let v : Volume = volume_of g in
      ap (entries_read v now) files_same ∙ all_entries_stay v image now (candidate_files v image) slots_stay claims_stay

  counts_same : inode_count (volume_of g) now ≡ inode_count (volume_of g) image
  unfolding inode_count
  counts_same = ap (λ (cs : List ClusterRec). 32 * length cs) candidates_same

  extents_same : total_extents (volume_of g) now ≡ total_extents (volume_of g) image
  unfolding total_extents
  extents_same = ap (sum_by (λ (f : FileRec). length f.extents + length f.rest.attr_extents)) files_same

  entry_counts_same : entry_count (volume_of g) now ≡ entry_count (volume_of g) image
  unfolding entry_count
  entry_counts_same = ap (λ es. length es) entries_same

  feature_same : first_feature (volume_of g) now (candidate_inodes (volume_of g) now) ≡ first_feature (volume_of g) image (candidate_inodes (volume_of g) image)
  feature_same =
      let v : Volume = volume_of g in
      ap (first_feature v now) inodes_same ∙ feature_agrees v image now (candidate_inodes v image) read_same

  -- so the same is refused of both
  pub refusal_same : refused (volume_of g) now ≡ refused (volume_of g) image
  unfolding refused refused_late
  refusal_same =
      let inodes = counts_same in
      let extents = extents_same in
      let entries = entry_counts_same in
      let feature = feature_same in
      λ i. unless_more (2 ^ 21) 1 (inodes i) (unless_more (2 ^ 23) 2 (extents i) (unless_more (2 ^ 23) 3 (entries i) (feature_refused (feature i))))
