-- The candidate clusters and files of an image can claim their blocks.
use Rattle.std.proofs.Common.{◌≡◌, ℕ, Bool, true, false, ◌+◌, ◌*◌, ◌^◌, ◌≤◌, ◌<◌, ◌&&◌, ◌==◌, nat_lt, if◌then◌else◌, List, [], ◌∷◌, ◌++◌, map, Option, Some, None, refl, sym, ◌∙◌, ap, ap₂, subst, arith}
use Rattle.std.specs.List.{All, AllByRecursion, flat_map, list_all}
use Rattle.std.proofs.lemmas.Bool.{and_from, and_parts, eq-eqb, ltb-true}
use Rattle.std.proofs.lemmas.List.{map-append}
use Rattle.std.proofs.lemmas.List.Elements.{All-cons, All-nil, All-weaker, recursion_from_All}
use Rattle.std.proofs.lemmas.List.Sums.{sum_by-append}
use Rattle.xfs_geom.specs.Runs.{covers, runs_on}
use Rattle.xfs_disk.specs.Blocks.{Image}
use Rattle.xfs_word.specs.declared.extents.Extent.{Extent}
use Rattle.xfs_geom.specs.Volumes.{Volume, volume_of}
use Rattle.xfs_geom.specs.declared.geometry.Geometry.{Geometry}
use Rattle.xfs_geom.specs.declared.records.Run.{Run}
use Rattle.xfs_inode.specs.Files as Inode
use Rattle.xfs_inode.specs.Files.{are_blocks, are_extents, range_of, range_of_block}
use Rattle.xfs_inode.specs.Sound as Sound
use Rattle.xfs_inode.specs.Sound.{IsBareFile, IsSound, claims_of}
use Rattle.xfs_inode.specs.declared.claims.BlockRange as Claimed
use Rattle.xfs_inode.specs.declared.files.FileRead.{FileRead}
use Rattle.xfs_inode.specs.declared.files.FileRead.TheVariants as Reads
use Rattle.xfs_inode.proofs.Sound.{always_sound}
use Rattle.xfs_collections.specs.Blocks.{is_in}
use Rattle.xfs_tree.specs.Rules.{are_lawful}
use Rattle.xfs_kinds.specs.FileTrees.{bmbt_shape, follows_offset, is_extent}
use Rattle.xfs_volume.specs.declared.clusters.ClusterRec.{ClusterRec}
use Rattle.xfs_volume.specs.declared.files.FileRec.{FileRec}
use Rattle.xfs_space.specs.Owners.{attribute_flag, runs_of_blocks, extent_run, file_runs, tree_flag}
use Rattle.xfs_space.specs.Parts.{HasLawfulForks}
use Rattle.xfs_space.proofs.RecordedMaps.{group_inside}
use Rattle.xfs_naming.specs.Naming.{NumbersAscend}
use Rattle.xfs_claims.specs.Ranks.{is_recorded_cluster}
use Rattle.xfs_claims.specs.Spans.{SpansApart, IsRun, spans_apart, spans_of}
use Rattle.xfs_place.specs.Choice.{one_if}
use Rattle.xfs_image.specs.Candidates as Candidates
use Rattle.xfs_image.specs.Candidates.{candidates, cluster_rec}
use Rattle.xfs_image.specs.Claims.{candidate_files, candidate_inodes, file_if}
use Rattle.xfs_image.specs.Clusters as Clusters
use Rattle.xfs_image.specs.Clusters.{root_cluster}
use Rattle.xfs_image.specs.Slots.{reads_as, slot_bytes}
use Rattle.xfs_image.proofs.Ascending.{candidates_ascend}
use Rattle.xfs_image.proofs.Roots.{root_candidate, root_recorded}
use Rattle.xfs_made.proofs.xfs_views.Files.{file_is, file_sound}
use Rattle.xfs_made.proofs.xfs_views.Addresses.{root_placed}
use Rattle.xfs_made.proofs.xfs_views.Images.{candidate_member, candidate_placed}
use Rattle.xfs_made.proofs.xfs_views.Members.{Member, all_members, member_any}
use Rattle.xfs_request.specs.xfs_salvage.Claimable.{AscendClaiming, AscendWithin, CanBeSalvaged, CanClaim}
use Rattle.xfs_request.proofs.xfs_salvage.Conditions.{apart_from_once, runs_are}
use Rattle.xfs_made.proofs.Inodes.{inodes_ascend, inodes_small}
use Rattle.xfs_made.proofs.KeptTaken.{at_most, spans_count}
use Rattle.xfs_made.proofs.Tallies.{spans_on, spans_once}

-- a run by its ends
as_run : ℕ × ℕ → Claimed.BlockRange
as_run s = record { start = s.0; end = s.0 + s.1 }

extents_as : (v : Volume) (ino flag : ℕ) (es : List Extent) → map (range_of v) es ≡ map as_run (spans_of (map (extent_run v ino flag) es))
unfolding as_run
extents_as v ino flag [] = refl
extents_as v ino flag (e ∷ es) = ap (λ (rs : List Claimed.BlockRange). range_of v e ∷ rs) (extents_as v ino flag es)

blocks_as : (ino flag : ℕ) (bs : List ℕ) → map range_of_block bs ≡ map as_run (spans_of (runs_of_blocks ino flag bs))
unfolding as_run
blocks_as ino flag [] = refl
blocks_as ino flag (b ∷ bs) = ap (λ (rs : List Claimed.BlockRange). range_of_block b ∷ rs) (blocks_as ino flag bs)

apart_each : (s : ℕ × ℕ) (ss : List (ℕ × ℕ)) → list_all (Inode.is_apart (as_run s)) (map as_run ss) ≡ true → list_all (spans_apart s) ss ≡ true
unfolding as_run
apart_each s [] apart = refl
apart_each s (t ∷ ss) apart =
    let parts = and_parts (Inode.is_apart (as_run s) (as_run t)) (list_all (Inode.is_apart (as_run s)) (map as_run ss)) apart in
    and_from (spans_apart s t) (list_all (spans_apart s) ss) parts.0 (apart_each s ss parts.1)

as_apart : (ss : List (ℕ × ℕ)) → Inode.ranges_apart (map as_run ss) ≡ true → SpansApart ss
unfolding Inode.ranges_apart
as_apart [] apart = tt
as_apart (s ∷ ss) apart =
    let parts = and_parts (list_all (Inode.is_apart (as_run s)) (map as_run ss)) (Inode.ranges_apart (map as_run ss)) apart in
    (apart_each s ss parts.0, as_apart ss parts.1)

-- a file claims its blocks once in any order of its runs
spans_both : (xs ys : List (ℕ × ℕ)) (b : ℕ) → spans_on (xs ++ ys) b ≡ spans_on xs b + spans_on ys b
spans_both [] ys b = omega arith
spans_both (x ∷ xs) ys b = let rest = spans_both xs ys b in omega (arith, rest)

file_apart : (g : Geometry) (f : FileRec) → HasLawfulForks (volume_of g) f → Inode.ranges_apart (claims_of (volume_of g) f) ≡ true → SpansApart (spans_of (file_runs (volume_of g) f))
file_apart g f lies apart =
    let v : Volume = volume_of g in
    let of_data : List Run = map (extent_run v f.ino 0) f.extents in
    let attr : List Run = map (extent_run v f.ino attribute_flag) f.rest.attr_extents in
    let tree : List Run = runs_of_blocks f.ino tree_flag f.rest.tree in
    let all : claims_of v f ≡ map as_run ((spans_of of_data ++ spans_of tree) ++ spans_of attr) =
    ap₂ (λ (xs ys : List Claimed.BlockRange). xs ++ ys)
    (ap₂ (λ (xs ys : List Claimed.BlockRange). xs ++ ys) (extents_as v f.ino 0 f.extents) (blocks_as f.ino tree_flag f.rest.tree) ∙ sym (map-append as_run (spans_of of_data) (spans_of tree)))
    (extents_as v f.ino attribute_flag f.rest.attr_extents)
    ∙ sym (map-append as_run (spans_of of_data ++ spans_of tree) (spans_of attr)) in
    let once : SpansApart ((spans_of of_data ++ spans_of tree) ++ spans_of attr) =
    as_apart ((spans_of of_data ++ spans_of tree) ++ spans_of attr) (subst (λ (rs : List Claimed.BlockRange). Inode.ranges_apart rs ≡ true) all apart) in
    apart_from_once (file_runs v f)
    (recursion_from_All (λ (s : Run). 1 ≤ s.count) (file_runs v f) (All-weaker IsRun (λ (s : Run). 1 ≤ s.count) (λ r is. is.0) (file_runs v f) (runs_are g f lies)))
    (λ b. one of_data attr tree b (is_in ((spans_of of_data ++ spans_of tree) ++ spans_of attr) b) (spans_once ((spans_of of_data ++ spans_of tree) ++ spans_of attr) b once))
  where
    one : (xs ys zs : List Run) (b : ℕ) (t : Bool) → spans_on ((spans_of xs ++ spans_of zs) ++ spans_of ys) b ≡ one_if t → runs_on ((xs ++ ys) ++ zs) b ≤ 1
    one xs ys zs b t once =
        let whole = spans_both (spans_of xs ++ spans_of zs) (spans_of ys) b in
        let front = spans_both (spans_of xs) (spans_of zs) b in
        let x = spans_count xs b in
        let y = spans_count ys b in
        let z = spans_count zs b in
        let all : runs_on ((xs ++ ys) ++ zs) b ≡ runs_on (xs ++ ys) b + runs_on zs b = sum_by-append (λ (r : Run). if covers b r then 1 else 0) (xs ++ ys) zs in
        let two : runs_on (xs ++ ys) b ≡ runs_on xs b + runs_on ys b = sum_by-append (λ (r : Run). if covers b r then 1 else 0) xs ys in
        let most = at_most t in
        omega (arith, once, whole, front, x, y, z, all, two, most)

-- the extents and blocks of a file that reads without its attributes
as_lawful : (v : Volume) (ino : ℕ) (before : Option Extent) (es : List Extent) → are_extents v before es ≡ true → are_lawful (bmbt_shape ino) v before es ≡ true
as_lawful v ino before [] all = refl
as_lawful v ino before (e ∷ es) all =
    let parts = and_parts (is_extent v e && follows_offset before e) (are_extents v (Some e) es) all in
    and_from (is_extent v e && follows_offset before e) (are_lawful (bmbt_shape ino) v (Some e) es) parts.0 (as_lawful v ino (Some e) es parts.1)

as_blocks : (v : Volume) (blocks : List ℕ) → are_blocks v blocks ≡ true → All (λ block. block < v.dblocks) blocks
as_blocks v [] all = All-nil (λ block. block < v.dblocks)
as_blocks v (block ∷ blocks) all =
    let parts = and_parts (nat_lt block v.dblocks) (are_blocks v blocks) all in
    All-cons (λ b. b < v.dblocks) block blocks (ltb-true block v.dblocks parts.0) (as_blocks v blocks parts.1)

pub bare_sound : (v : Volume) (image : Image) (ino : ℕ) (file : FileRec) → reads_as v image ino ≡ Reads.FileWithoutAttrs file → IsBareFile v ino file
unfolding reads_as
bare_sound v image ino file reads = subst (IsSound v ino) reads (always_sound v ino (slot_bytes v image ino) _ _ _)

bare_is : (v : Volume) (ino : ℕ) (file : FileRec) → IsBareFile v ino file → HasLawfulForks v file
bare_is v ino file is = record {
  extents = as_lawful v file.ino None file.extents is.keeps.extents;
  attr_extents = subst (λ (es : List Extent). are_lawful (bmbt_shape file.ino) v None es ≡ true) (sym is.no_extents) refl;
  tree = as_blocks v file.rest.tree is.keeps.tree;
}

can_claim : (g : Geometry) (ino : ℕ) (file : FileRec) → ino < 2 ^ 63 → HasLawfulForks (volume_of g) file → Sound.IsFile (volume_of g) ino file → CanClaim (volume_of g) file
can_claim g ino file small lies is = record {
  number = subst (λ (n : ℕ). n < 2 ^ 63) (sym is.number) small;
  lies = lies;
  apart = file_apart g file lies is.apart;
}

lower : (v : Volume) (low high : ℕ) (fs : List FileRec) → low ≤ high → AscendClaiming v high fs → AscendClaiming v low fs
lower v low high [] le up = tt
lower v low high (f ∷ fs) le up = (let first = up.0 in omega (arith, le, first), up.1, up.2)

files_claim : (g : Geometry) (image : Image) (low : ℕ) (inos : List ℕ) → NumbersAscend low inos → AllByRecursion (λ ino. ino < 2 ^ 63) inos
    → AscendClaiming (volume_of g) low (flat_map (λ ino. file_if (reads_as (volume_of g) image ino)) inos)
files_claim g image low [] up small = tt
files_claim g image low (ino ∷ inos) up small = by_read (reads_as (volume_of g) image ino) refl (files_claim g image (ino + 1) inos up.1 small.1)
  where
    with_file : (file : FileRec) (rest : List FileRec) → CanClaim (volume_of g) file → file.ino ≡ ino → AscendClaiming (volume_of g) (ino + 1) rest
        → AscendClaiming (volume_of g) low (file ∷ rest)
    with_file file rest can number later =
        (subst (λ (n : ℕ). low ≤ n) (sym number) up.0, can, subst (λ (n : ℕ). AscendClaiming (volume_of g) (n + 1) rest) (sym number) later)

    by_read : (read : FileRead) → reads_as (volume_of g) image ino ≡ read
        → AscendClaiming (volume_of g) (ino + 1) (flat_map (λ other. file_if (reads_as (volume_of g) image other)) inos)
        → AscendClaiming (volume_of g) low (file_if read ++ flat_map (λ other. file_if (reads_as (volume_of g) image other)) inos)
    by_read Reads.Free reads rest = let first = up.0 in lower (volume_of g) low (ino + 1) _ (omega (arith, first)) rest
    by_read (Reads.File file) reads rest =
        let keeps = (file_sound (volume_of g) image ino file reads).keeps in
        with_file file _ (can_claim g ino file small.0 (file_is (volume_of g) image ino file reads) keeps) keeps.number rest
    by_read (Reads.FileWithoutAttrs file) reads rest =
        let is = bare_sound (volume_of g) image ino file reads in
        with_file file _ (can_claim g ino file small.0 (bare_is (volume_of g) ino file is) is.keeps) is.keeps.number rest
    by_read (Reads.Unsupported what) reads rest = let first = up.0 in lower (volume_of g) low (ino + 1) _ (omega (arith, first)) rest
    by_read Reads.Unsound reads rest = let first = up.0 in lower (volume_of g) low (ino + 1) _ (omega (arith, first)) rest

-- the candidate clusters lie in the volume in their order
clusters_lie : (top low : ℕ) (cs : List ClusterRec) → Candidates.ClustersAscend low cs → AllByRecursion (λ (c : ClusterRec). c.block + 4 ≤ top) cs → AscendWithin top low cs
clusters_lie top low [] up ends = tt
clusters_lie top low (c ∷ cs) up ends = (up.0, ends.0, clusters_lie top (c.block + 4) cs up.1 ends.1)

cluster_ends : (g : Geometry) (image : Image) (c : ClusterRec) → Member c (candidates (volume_of g) image) → c.block + 4 ≤ g.dblocks
cluster_ends g image c is =
    let at = candidate_placed g image c is in
    let ends = group_inside (volume_of g) at.ag at.group g.shape.groups.last in
    let inside = at.inside in
    let start = at.is in
    omega (arith, ends, inside, start)

root_among : (g : Geometry) (image : Image) → is_recorded_cluster (candidates (volume_of g) image) (root_cluster (volume_of g)) ≡ true
root_among g image =
    let v : Volume = volume_of g in
    member_any (λ (c : ClusterRec). c.recorded && c.block == root_cluster v) (cluster_rec v image (root_cluster v)) (candidates v image)
    (candidate_member g image (root_cluster v) (root_placed g) (root_candidate v image))
    (and_from (Clusters.is_recorded v image (root_cluster v)) (root_cluster v == root_cluster v) (root_recorded v image) (eq-eqb (root_cluster v) (root_cluster v) refl))

pub image_can : (g : Geometry) (image : Image) → CanBeSalvaged (volume_of g) (candidates (volume_of g) image) (candidate_files (volume_of g) image)
unfolding candidate_files
image_can g image =
    let v : Volume = volume_of g in
    record {
      root = root_among g image;
      clusters_lie = clusters_lie g.dblocks 0 (candidates v image) (candidates_ascend g image)
          (all_members (λ (c : ClusterRec). c.block + 4 ≤ g.dblocks) (candidates v image) (cluster_ends g image));
      files_claim = files_claim g image 0 (candidate_inodes v image) (inodes_ascend g image) (inodes_small g image);
    }
