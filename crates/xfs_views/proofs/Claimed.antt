-- Claims as lists say what the claims of an image say.
use Rattle.std.proofs.Common.{◌≡◌, ℕ, Bool, true, false, not, ◌&&◌, ◌||◌, ◌==◌, List, [], ◌∷◌, ◌++◌, map, refl, sym, ◌∙◌, ap, ap₂, subst}
use Rattle.std.specs.List.{list_any}
use Rattle.std.proofs.lemmas.List.Folds.{list_any-append}
use Rattle.xfs_disk.specs.Lists.{is_in_range}
use Rattle.xfs_disk.specs.Blocks.{Image}
use Rattle.xfs_word.specs.declared.extents.Extent.{Extent}
use Rattle.xfs_geom.specs.Volumes.{Volume}
use Rattle.xfs_geom.specs.declared.records.Run.{Run}
use Rattle.xfs_collections.specs.Blocks.{is_in}
use Rattle.xfs_inode.specs.Files.{range_of, range_of_block}
use Rattle.xfs_volume.specs.declared.files.FileRec.{FileRec}
use Rattle.xfs_laws.specs.xfs_space.Owners.{attribute_flag, runs_of_blocks, extent_run, file_runs, tree_flag}
use Rattle.xfs_claims.specs.Spans.{spans_of}
use Rattle.xfs_image.specs.Claims.{candidate_files, claims, lies_in}
use Rattle.xfs_image.specs.Claims as Image_claims
use Rattle.xfs_image.specs.Clusters as Clusters
use Rattle.xfs_image.specs.Keeping.{Protected}
use Rattle.xfs_views.proofs.Files.{file_sound}
use Rattle.xfs_views.specs.Claimed.{IsGuardedFile, file_claim}
use Rattle.xfs_views.specs.Guarded.{claimed_by, has_claim, has_claim_beside}

-- a run has the block
abbrev pub covers : ℕ → Run → Bool
covers block r = is_in_range r.start r.count block

pub spans_are : (runs : List Run) (block : ℕ) → is_in (spans_of runs) block ≡ list_any (covers block) runs
spans_are [] block = refl
spans_are (r ∷ rs) block = ap (λ (t : Bool). covers block r || t) (spans_are rs block)

extents_are : (v : Volume) (ino flag : ℕ) (es : List Extent) (block : ℕ) → list_any (lies_in block) (map (range_of v) es) ≡ list_any (covers block) (map (extent_run v ino flag) es)
extents_are v ino flag [] block = refl
extents_are v ino flag (e ∷ es) block = ap (λ (t : Bool). lies_in block (range_of v e) || t) (extents_are v ino flag es block)

blocks_are : (ino flag : ℕ) (blocks : List ℕ) (block : ℕ) → list_any (lies_in block) (map range_of_block blocks) ≡ list_any (covers block) (runs_of_blocks ino flag blocks)
blocks_are ino flag [] block = refl
blocks_are ino flag (b ∷ bs) block = ap (λ (t : Bool). lies_in block (range_of_block b) || t) (blocks_are ino flag bs block)

or_turned : (x y z : Bool) → ((x || y) || z) ≡ ((x || z) || y)
or_turned true y z = refl
or_turned false true true = refl
or_turned false true false = refl
or_turned false false true = refl
or_turned false false false = refl

-- a file claims the same blocks in both forms
pub same_claims : (v : Volume) (f : FileRec) (block : ℕ) → claims v f block ≡ list_any (covers block) (file_runs v f)
same_claims v f block =
    let of_data : List Run = map (extent_run v f.ino 0) f.extents in
    let of_attr : List Run = map (extent_run v f.ino attribute_flag) f.rest.attr_extents in
    let of_tree : List Run = runs_of_blocks f.ino tree_flag f.rest.tree in
    let a : list_any (lies_in block) (map (range_of v) f.extents) ≡ list_any (covers block) of_data = extents_are v f.ino 0 f.extents block in
    let b : list_any (lies_in block) (map (range_of v) f.rest.attr_extents) ≡ list_any (covers block) of_attr = extents_are v f.ino attribute_flag f.rest.attr_extents block in
    let c : list_any (lies_in block) (map range_of_block f.rest.tree) ≡ list_any (covers block) of_tree = blocks_are f.ino tree_flag f.rest.tree block in
    let left : claims v f block ≡ ((list_any (covers block) of_data || list_any (covers block) of_tree) || list_any (covers block) of_attr) =
    list_any-append (lies_in block) (map (range_of v) f.extents ++ map range_of_block f.rest.tree) (map (range_of v) f.rest.attr_extents)
    ∙ ap₂ (λ (s t : Bool). s || t) (list_any-append (lies_in block) (map (range_of v) f.extents) (map range_of_block f.rest.tree) ∙ ap₂ (λ (s t : Bool). s || t) a c) b in
    let right : list_any (covers block) (file_runs v f) ≡ ((list_any (covers block) of_data || list_any (covers block) of_attr) || list_any (covers block) of_tree) =
    list_any-append (covers block) (of_data ++ of_attr) of_tree ∙ ap (λ (t : Bool). t || list_any (covers block) of_tree) (list_any-append (covers block) of_data of_attr) in
    left ∙ or_turned (list_any (covers block) of_data) (list_any (covers block) of_tree) (list_any (covers block) of_attr) ∙ sym right

pub claims_are : (v : Volume) (f : FileRec) (block : ℕ) → claims v f block ≡ claimed_by (file_claim v f) block
claims_are v f block = same_claims v f block ∙ sym (spans_are (file_runs v f) block)

all_claims : (v : Volume) (files : List FileRec) (block : ℕ) → list_any (λ f. claims v f block) files ≡ has_claim (map (file_claim v) files) block
all_claims v [] block = refl
all_claims v (f ∷ fs) block = ap₂ (λ (s t : Bool). s || t) (claims_are v f block) (all_claims v fs block)

claims_beside : (v : Volume) (ino : ℕ) (files : List FileRec) (block : ℕ)
    → list_any (λ (f : FileRec). not (f.ino == ino) && claims v f block) files ≡ has_claim_beside (map (file_claim v) files) ino block
claims_beside v ino [] block = refl
claims_beside v ino (f ∷ fs) block = ap₂ (λ (s t : Bool). s || t) (ap (λ (t : Bool). not (f.ino == ino) && t) (claims_are v f block)) (claims_beside v ino fs block)

-- a protected file is one by the lists of claims
pub by_lists : (v : Volume) (image : Image) (ino : ℕ) → Protected v image ino → IsGuardedFile v image ino
by_lists v image ino is =
    let f = is.file in
    let number : f.ino ≡ ino = (file_sound v image ino f is.reads).keeps.number in
    let mine : (block : ℕ) → claimed_by (file_claim v f) block ≡ true → claims v f block ≡ true = λ block e. claims_are v f block ∙ e in
    record {
      file = f;
      candidate = is.candidate;
      reads = is.reads;
      no_directory = is.no_directory;
      no_root = is.no_root;
      no_bitmap = is.no_bitmap;
      no_summary = is.no_summary;
      guarded = record {
        unfixed = λ block e. is.unfixed block (mine block e);
        outside = λ block e. is.outside block (mine block e);
        alone = λ block e.
            sym (claims_beside v f.ino (candidate_files v image) block)
            ∙ ap (λ (n : ℕ). Image_claims.is_claimed_beside v image n block) number ∙ is.alone block (mine block e);
        cluster_unfixed = λ block e. is.cluster_unfixed block (subst (λ (n : ℕ). Image_claims.is_of_cluster (Clusters.cluster_of v n) block ≡ true) number e);
        cluster_unclaimed = λ block e.
            sym (all_claims v (candidate_files v image) block)
            ∙ is.cluster_unclaimed block (subst (λ (n : ℕ). Image_claims.is_of_cluster (Clusters.cluster_of v n) block ≡ true) number e);
      };
    }

pub from_lists : (v : Volume) (image : Image) (ino : ℕ) → IsGuardedFile v image ino → Protected v image ino
from_lists v image ino is =
    let f = is.file in
    let number : f.ino ≡ ino = (file_sound v image ino f is.reads).keeps.number in
    let mine : (block : ℕ) → claims v f block ≡ true → claimed_by (file_claim v f) block ≡ true = λ block e. sym (claims_are v f block) ∙ e in
    record {
      file = f;
      candidate = is.candidate;
      reads = is.reads;
      no_directory = is.no_directory;
      no_root = is.no_root;
      no_bitmap = is.no_bitmap;
      no_summary = is.no_summary;
      unfixed = λ block e. is.guarded.unfixed block (mine block e);
      outside = λ block e. is.guarded.outside block (mine block e);
      alone = λ block e.
          ap (λ (n : ℕ). Image_claims.is_claimed_beside v image n block) (sym number)
          ∙ claims_beside v f.ino (candidate_files v image) block ∙ is.guarded.alone block (mine block e);
      cluster_unfixed = λ block e. is.guarded.cluster_unfixed block (subst (λ (n : ℕ). Image_claims.is_of_cluster (Clusters.cluster_of v n) block ≡ true) (sym number) e);
      cluster_unclaimed = λ block e.
          all_claims v (candidate_files v image) block
          ∙ is.guarded.cluster_unclaimed block (subst (λ (n : ℕ). Image_claims.is_of_cluster (Clusters.cluster_of v n) block ≡ true) (sym number) e);
    }
