-- What an image gives a rebuild to go by is one, and so is what finds no room.
use Rattle.std.proofs.Common.{◌≡◌, ℕ, ◌<◌, ◌++◌, Bool, true, false, List, [], ◌∷◌, Result, Ok, Err, Some, None, inl, inr, refl, sym, ap, ◌∙◌, subst}
use Rattle.std.proofs.lemmas.Bool.{cases_order}
use Rattle.std.specs.List.{concat}
use Rattle.xfs_disk.specs.Blocks.{Image}
use Rattle.xfs_geom.specs.Volumes.{Volume, volume_of}
use Rattle.xfs_geom.specs.declared.geometry.Geometry.{Geometry}
use Rattle.xfs_geom.specs.declared.records.Run.{Run}
use Rattle.xfs_groups.specs.Answers.{lists_of, reserved_lists}
use Rattle.xfs_groups.specs.declared.groups.GroupTrees.{GroupTrees}
use Rattle.xfs_image.specs.Candidates.{candidates}
use Rattle.xfs_image.specs.Claims.{candidate_files}
use Rattle.xfs_image.specs.Directories.{dirs_read, entries_read}
use Rattle.xfs_image.specs.View.{log_of}
use Rattle.xfs_place.specs.Choice.{Group, IsChosenCount}
use Rattle.xfs_place.specs.Wanted.{FindsNoRoom, IsWithoutRoom, all_kept, wanted_group}
use Rattle.xfs_place.specs.declared.faults.Unplaced.{Unplaced}
use Rattle.xfs_place.specs.declared.wanted.GroupInodes.{GroupInodes}
use Rattle.xfs_place.specs.declared.wanted.Wanted.{Wanted}
use Rattle.xfs_rename.specs.xfs_rebuild.Found.{IsKept, reserved_of}
use Rattle.xfs_rename.specs.xfs_rebuild.Rebuilds.{Ground, IsGround}
use Rattle.xfs_rename.specs.xfs_rebuild.Seen.{slots_seen}
use Rattle.xfs_rename.specs.xfs_salvage.Kept.{entries_of_kept, fresh_inodes, kept_clusters, kept_dirs, kept_files}
use Rattle.xfs_rename.specs.xfs_salvage.declared.found.Salvaged.{Salvaged}
use Rattle.xfs_scan.specs.Evidence.{IsEvidence, dirs_seen, entries_seen, files_seen}
use Rattle.xfs_scan.specs.declared.evidence.Evidence.{Evidence}
use Rattle.xfs_scan.specs.xfs_slots.Facts.{slot_facts}
use Rattle.xfs_scan.specs.xfs_slots.Gathered.{bare_inodes}
use Rattle.xfs_mend.specs.Rebuilding.{IsGroundOf}

-- the reserved blocks of all groups are their lists, one behind the other
joined_lists : (trees : List GroupTrees) → reserved_of trees ≡ concat (lists_of trees)
joined_lists [] = refl
joined_lists (t ∷ trees) = ap (λ (rest : List ℕ). t.reserved ++ rest) (joined_lists trees)

-- what is kept of the candidates of an image
abbrev kept_of : Volume → Image → Salvaged
kept_of v image = record {
  clusters = kept_clusters v (candidates v image) (candidate_files v image);
  files = kept_files v (candidates v image) (candidate_files v image);
  fresh = fresh_inodes v (candidates v image) (candidate_files v image);
  entries = entries_of_kept v (candidates v image) (candidate_files v image) (entries_read v image (candidate_files v image));
  dirs = kept_dirs v (candidates v image) (candidate_files v image) (dirs_read v image (candidate_files v image));
}

-- and what an image gives a rebuild to go by
abbrev ground_of : Volume → Image → Ground
ground_of v image = record {
  kept = kept_of v image;
  seen = slots_seen v (candidates v image) (slot_facts v image) (bare_inodes v image);
  reserved = concat (reserved_lists v image);
  log = log_of v image;
}

kept_is : (g : Geometry) (image : Image) (e : Evidence) (kept : Salvaged) → IsEvidence g image e → IsKept (volume_of g) e kept → kept ≡ kept_of (volume_of g) image
kept_is g image e kept told is =
    let v : Volume = volume_of g in
    let cs : e.clusters ≡ candidates v image = told.clusters in
    let fs : files_seen e.seen ≡ candidate_files v image = told.files in
    let es : entries_seen e.seen ≡ entries_read v image (candidate_files v image) = told.entries in
    let ds : dirs_seen e.seen ≡ dirs_read v image (candidate_files v image) = told.dirs in
    let clusters : kept.clusters ≡ (kept_of v image).clusters = is.clusters' ∙ (λ i. kept_clusters v (cs i) (fs i)) in
    let files : kept.files ≡ (kept_of v image).files = is.files' ∙ (λ i. kept_files v (cs i) (fs i)) in
    let fresh : kept.fresh ≡ (kept_of v image).fresh = is.fresh' ∙ (λ i. fresh_inodes v (cs i) (fs i)) in
    let entries : kept.entries ≡ (kept_of v image).entries = is.entries' ∙ (λ i. entries_of_kept v (cs i) (fs i) (es i)) in
    let dirs : kept.dirs ≡ (kept_of v image).dirs = is.dirs' ∙ (λ i. kept_dirs v (cs i) (fs i) (ds i)) in
    λ i. record { clusters = clusters i; files = files i; fresh = fresh i; entries = entries i; dirs = dirs i }

ground_is : (g : Geometry) (image : Image) (on : Ground) → IsGroundOf g image on → on ≡ ground_of (volume_of g) image
ground_is g image on of =
    let v : Volume = volume_of g in
    let e : Evidence = of.e in
    let told : IsEvidence g image e = of.evidence in
    let is : IsGround v e on = of.ground in
    let cs : e.clusters ≡ candidates v image = told.clusters in
    let ss : e.slots ≡ slot_facts v image = told.slots in
    let bs : e.bare ≡ bare_inodes v image = told.bare in
    let kept : on.kept ≡ kept_of v image = kept_is g image e on.kept told is.kept' in
    let seen : on.seen ≡ (ground_of v image).seen = is.seen' ∙ (λ i. slots_seen v (cs i) (ss i) (bs i)) in
    let reserved : on.reserved ≡ (ground_of v image).reserved = is.reserved' ∙ joined_lists e.trees ∙ ap (λ (ls : List (List ℕ)). concat ls) told.trees in
    let log : on.log ≡ log_of v image = is.log' ∙ told.log in
    λ i. record { kept = kept i; seen = seen i; reserved = reserved i; log = log i }

-- so it is one
pub one_ground : (g : Geometry) (image : Image) (on other : Ground) → IsGroundOf g image on → IsGroundOf g image other → on ≡ other
one_ground g image on other first second = ground_is g image on first ∙ sym (ground_is g image other second)

-- a test has one answer
pub never_both : (test : Bool) → test ≡ true → test ≡ false → ⊥
never_both test is isnt =
    let both : true ≡ false = sym is ∙ isnt in
    cc

-- a number and none are not both chosen
never_chosen : (g : Group) (n : ℕ) → IsChosenCount g (Some n) → IsChosenCount g None → ⊥
never_chosen g n (inl least) none = none.0 n least.0
never_chosen g n (inr rest) none = none.1 n rest.1.0

-- a group without room is none of those before another one
not_before : (v : Volume) (kept : List Run) (reserved : List ℕ) (inodes : List GroupInodes) (a b : ℕ)
    → IsWithoutRoom v kept reserved inodes a → IsWithoutRoom v kept reserved inodes b → a < b → ⊥
not_before v kept reserved inodes a b first second less =
    let before = second.others a less in
    never_chosen (wanted_group v kept reserved inodes a) before.0 before.1 first.none

one_group : (v : Volume) (kept : List Run) (reserved : List ℕ) (inodes : List GroupInodes) (a b : ℕ)
    → IsWithoutRoom v kept reserved inodes a → IsWithoutRoom v kept reserved inodes b → a ≡ b
one_group v kept reserved inodes a b first second = elim (cases_order a b) [
  | inl same ↦ same
  | inr other ↦ elim other [
    | inl less ↦ absurd (not_before v kept reserved inodes a b first second less)
    | inr more ↦ absurd (not_before v kept reserved inodes b a second first more)
  ]
]

one_err : (r : Result (List Run) Unplaced) (a b : Unplaced) → r ≡ Err a → r ≡ Err b → a ≡ b
one_err r a b first second =
    let both : Err a ≡ Err b = sym first ∙ second in
    cc

one_ok : (r : Result (List Run) Unplaced) (a b : List Run) → r ≡ Ok a → r ≡ Ok b → a ≡ b
one_ok r a b first second =
    let both : Ok a ≡ Ok b = sym first ∙ second in
    cc

not_both : (r : Result (List Run) Unplaced) (runs : List Run) (what : Unplaced) → r ≡ Ok runs → r ≡ Err what → ⊥
not_both r runs what found none =
    let both : Ok runs ≡ Err what = sym found ∙ none in
    cc

-- one thing finds no room first
pub one_without : (w : Wanted) (a b : Unplaced) → FindsNoRoom w a → FindsNoRoom w b → a ≡ b
one_without w a b (inl first) (inl second) = one_err (all_kept w) a b first second
one_without w a b (inl first) (inr second) = absurd (not_both (all_kept w) second.0 a second.2 first)
one_without w a b (inr first) (inl second) = absurd (not_both (all_kept w) first.0 b first.2 second)
one_without w a b (inr first) (inr second) =
    let v : Volume = volume_of w.geometry in
    let same : second.0 ≡ first.0 = one_ok (all_kept w) second.0 first.0 second.2 first.2 in
    let without : IsWithoutRoom v first.0 w.reserved w.inodes second.1 =
    subst (λ (kept : List Run). IsWithoutRoom v kept w.reserved w.inodes second.1) same second.4 in
    first.3 ∙ ap (λ (ag : ℕ). Unplaced.Group ag) (one_group v first.0 w.reserved w.inodes first.1 second.1 first.4 without) ∙ sym second.3
