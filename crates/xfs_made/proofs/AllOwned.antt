-- All that is owned of a volume: the blocks with a fixed use, what clusters and files own, and what was placed.
use Rattle.std.proofs.Common.{◌≡◌, ℕ, zero, suc, ◌+◌, ◌*◌, List, ◌∷◌, ◌++◌, map, refl, ◌∙◌, ap, arith}
use Rattle.std.specs.List.{flat_map, range_with_len, sum_by}
use Rattle.std.proofs.lemmas.List.Sums.{sum_by-append, sum_by-cons}
use Rattle.xfs_geom.specs.Volumes.{Volume}
use Rattle.xfs_geom.specs.declared.records.Run.{Run}
use Rattle.xfs_kinds.specs.InodeTrees.{ino_shape}
use Rattle.xfs_volume.specs.declared.files.FileRec.{FileRec}
use Rattle.xfs_space.specs.Owners.{cluster_runs, file_runs, groups_runs, owned_runs}
use Rattle.xfs_space.specs.SpaceLaws.{recorded_run, recorded_runs}
use Rattle.xfs_place.specs.Wanted.{inodes_in_group}
use Rattle.xfs_kinds.specs.FixedRuns.{fixed_runs, header_run, log_run}
use Rattle.xfs_place.specs.declared.placed.GroupPlaced.{GroupPlaced}
use Rattle.xfs_place.specs.declared.wanted.GroupInodes.{GroupInodes}
use Rattle.xfs_made.specs.Groups.{due_group_at, due_groups}
use Rattle.xfs_made.specs.Keeping.{all_used}
use Rattle.xfs_made.proofs.GroupOwned.{standing_runs}
use Rattle.xfs_made.proofs.SameRuns.{AreSame}

-- one group before the others
one_more : (f : Run → ℕ) (header : Run) (mine clusters rest headers others standing : List Run) → sum_by f rest ≡ sum_by f headers + sum_by f others + sum_by f standing
    → sum_by f ((header ∷ (mine ++ clusters)) ++ rest) ≡ sum_by f (header ∷ headers) + sum_by f (clusters ++ others) + sum_by f (mine ++ standing)
one_more f header mine clusters rest headers others standing so =
    let a : sum_by f ((header ∷ (mine ++ clusters)) ++ rest) ≡ sum_by f (header ∷ (mine ++ clusters)) + sum_by f rest = sum_by-append f (header ∷ (mine ++ clusters)) rest in
    let b : sum_by f (header ∷ (mine ++ clusters)) ≡ f header + sum_by f (mine ++ clusters) = sum_by-cons f header (mine ++ clusters) in
    let c : sum_by f (mine ++ clusters) ≡ sum_by f mine + sum_by f clusters = sum_by-append f mine clusters in
    let d : sum_by f (header ∷ headers) ≡ f header + sum_by f headers = sum_by-cons f header headers in
    let e : sum_by f (clusters ++ others) ≡ sum_by f clusters + sum_by f others = sum_by-append f clusters others in
    let h : sum_by f (mine ++ standing) ≡ sum_by f mine + sum_by f standing = sum_by-append f mine standing in
    omega (arith, a, b, c, d, e, h, so)

-- the log and the files beside the groups
joined : (f : Run → ℕ) (log : Run) (owned headers clusters files standing : List Run) → sum_by f owned ≡ sum_by f headers + sum_by f clusters + sum_by f standing
    → sum_by f (owned ++ (log ∷ files)) ≡ sum_by f ((log ∷ headers) ++ ((clusters ++ files) ++ standing))
joined f log owned headers clusters files standing so =
    let a : sum_by f (owned ++ (log ∷ files)) ≡ sum_by f owned + sum_by f (log ∷ files) = sum_by-append f owned (log ∷ files) in
    let b : sum_by f (log ∷ files) ≡ f log + sum_by f files = sum_by-cons f log files in
    let c : sum_by f ((log ∷ headers) ++ ((clusters ++ files) ++ standing)) ≡ sum_by f (log ∷ headers) + sum_by f ((clusters ++ files) ++ standing) = sum_by-append f (log ∷ headers) ((clusters ++ files) ++ standing) in
    let d : sum_by f (log ∷ headers) ≡ f log + sum_by f headers = sum_by-cons f log headers in
    let e : sum_by f ((clusters ++ files) ++ standing) ≡ sum_by f (clusters ++ files) + sum_by f standing = sum_by-append f (clusters ++ files) standing in
    let h : sum_by f (clusters ++ files) ≡ sum_by f clusters + sum_by f files = sum_by-append f clusters files in
    omega (arith, a, b, c, d, e, h, so)

module _ (v : Volume) (inodes : List GroupInodes) (groups : List GroupPlaced) (agf_crc agi_crc : ℕ → ℕ) where
  abbrev pub standing : ℕ → List Run
  standing ag = standing_runs (ag * v.agblocks) (due_group_at v inodes groups agf_crc agi_crc ag)

  abbrev clusters : ℕ → List Run
  clusters ag = cluster_runs (ag * v.agblocks) (map (ino_shape ag).settled (inodes_in_group inodes ag))

  abbrev pub recorded : ℕ → List Run
  recorded ag = map (recorded_run (ag * v.agblocks)) (due_group_at v inodes groups agf_crc agi_crc ag).rmap

  groups_sum : (f : Run → ℕ) (a n : ℕ) → sum_by f (groups_runs v.agblocks (a * v.agblocks) (map (due_group_at v inodes groups agf_crc agi_crc) (range_with_len a n)))
      ≡ sum_by f (map (header_run v) (range_with_len a n)) + sum_by f (flat_map clusters (range_with_len a n)) + sum_by f (flat_map standing (range_with_len a n))
  groups_sum f a zero = refl
  groups_sum f a (suc n) =
      let next : a * v.agblocks + v.agblocks ≡ (a + 1) * v.agblocks = omega arith in
      let others = map (due_group_at v inodes groups agf_crc agi_crc) (range_with_len (a + 1) n) in
      one_more f (header_run v a) (standing a) (clusters a) (groups_runs v.agblocks (a * v.agblocks + v.agblocks) others)
      (map (header_run v) (range_with_len (a + 1) n)) (flat_map clusters (range_with_len (a + 1) n)) (flat_map standing (range_with_len (a + 1) n))
      (ap (λ (base : ℕ). sum_by f (groups_runs v.agblocks base others)) next ∙ groups_sum f (a + 1) n)

  pub owned_same : (files : List FileRec)
      → AreSame (owned_runs v (due_groups v inodes groups agf_crc agi_crc) files) (fixed_runs v ++ (all_used v inodes files ++ flat_map standing (range_with_len 0 v.agcount)))
  unfolding owned_runs
  owned_same files = λ f.
      let start : 0 ≡ 0 * v.agblocks = omega arith in
      joined f (log_run v) (groups_runs v.agblocks 0 (due_groups v inodes groups agf_crc agi_crc)) (map (header_run v) (range_with_len 0 v.agcount))
      (flat_map clusters (range_with_len 0 v.agcount)) (flat_map (file_runs v) files) (flat_map standing (range_with_len 0 v.agcount))
      (ap (λ (base : ℕ). sum_by f (groups_runs v.agblocks base (due_groups v inodes groups agf_crc agi_crc))) start ∙ groups_sum f 0 v.agcount)

  recorded_from : (a n : ℕ) → recorded_runs v.agblocks (a * v.agblocks) (map (due_group_at v inodes groups agf_crc agi_crc) (range_with_len a n)) ≡ flat_map recorded (range_with_len a n)
  recorded_from a zero = refl
  recorded_from a (suc n) =
      let next : a * v.agblocks + v.agblocks ≡ (a + 1) * v.agblocks = omega arith in
      ap (λ (base : ℕ). recorded a ++ recorded_runs v.agblocks base (map (due_group_at v inodes groups agf_crc agi_crc) (range_with_len (a + 1) n))) next
      ∙ ap (λ (rs : List Run). recorded a ++ rs) (recorded_from (a + 1) n)

  pub recorded_is : recorded_runs v.agblocks 0 (due_groups v inodes groups agf_crc agi_crc) ≡ flat_map recorded (range_with_len 0 v.agcount)
  recorded_is =
      let start : 0 ≡ 0 * v.agblocks = omega arith in
      ap (λ (base : ℕ). recorded_runs v.agblocks base (due_groups v inodes groups agf_crc agi_crc)) start ∙ recorded_from 0 v.agcount
