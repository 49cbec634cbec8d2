-- What the law that no block has two owners says of files, clusters and fixed blocks.
use Rattle.std.proofs.Common.{◌≡◌, ◌≢◌, ℕ, true, ◌+◌, ◌*◌, ◌/◌, ◌%◌, ◌≤◌, ◌<◌, inl, inr, ◌&&◌, ◌==◌, nat_le, nat_lt, List, ◌∷◌, length, sym, ◌∙◌, subst, arith}
use Rattle.std.specs.List.{flat_map}
use Rattle.std.proofs.Math.Nat.{mul-le-mul_right}
use Rattle.std.proofs.lemmas.Bool.{cases_lt, eqb-true, or_cases}
use Rattle.std.proofs.lemmas.Nat.{div-add-mod'}
use Rattle.xfs_kinds.specs.Owners.{log_owner}
use Rattle.xfs_geom.specs.Runs.{runs_on}
use Rattle.xfs_geom.specs.Conversions.{is_fixed}
use Rattle.xfs_geom.specs.Volumes.{Volume, volume_of}
use Rattle.xfs_geom.specs.declared.geometry.Geometry.{Geometry}
use Rattle.xfs_geom.specs.declared.records.Run.{Run}
use Rattle.xfs_volume.specs.declared.files.FileRec.{FileRec}
use Rattle.xfs_volume.specs.declared.groups.GroupRec.{GroupRec}
use Rattle.xfs_laws.specs.xfs_space.Owners.{file_runs, groups_runs, owned_runs, new_run}
use Rattle.xfs_laws.specs.xfs_space.Parts.{AreGroups}
use Rattle.xfs_laws.proofs.xfs_space.Shared.{on-cons}
use Rattle.xfs_image.specs.Claims.{claims, is_of_cluster}
use Rattle.xfs_image.specs.Files.{clusters_from}
use Rattle.xfs_views.proofs.Chunks.{cluster_on, header_cluster, header_on}
use Rattle.xfs_views.proofs.Claimed.{same_claims}
use Rattle.xfs_views.proofs.Counted.{any_on, flat_on, flat_two, on_both, on_head}
use Rattle.xfs_views.proofs.Members.{Member}

-- the groups and files of a volume in which no block has two owners
pub record IsOnce (g : Geometry) (groups : List GroupRec) (files : List FileRec) : Type 0 where
  pub count : length groups ≡ g.agcount
  pub are : AreGroups (volume_of g) 0 groups
  pub once : (b : ℕ) → runs_on (owned_runs (volume_of g) groups files) b ≤ 1
  pub none : (b : ℕ) → g.dblocks ≤ b → runs_on (owned_runs (volume_of g) groups files) b ≡ 0

module _ (g : Geometry) (groups : List GroupRec) (files : List FileRec) (space : IsOnce g groups files) where
  abbrev v : Volume
  v = volume_of g

  abbrev of_groups : List Run
  of_groups = groups_runs g.agblocks 0 groups

  abbrev of_files : List Run
  of_files = flat_map (file_runs (volume_of g)) files

  abbrev log_run : Run
  log_run = new_run g.log g.logblocks log_owner 0

  parts : (b : ℕ) → runs_on (owned_runs (volume_of g) groups files) b ≡ runs_on of_groups b + runs_on (log_run ∷ of_files) b
  unfolding owned_runs
  parts b = on_both of_groups (log_run ∷ of_files) b

  -- a file of these claims the block
  file_on : (f : FileRec) (b : ℕ) → Member f files → claims (volume_of g) f b ≡ true → 1 ≤ runs_on of_files b
  file_on f b is claimed = flat_on (file_runs (volume_of g)) f files b is (any_on (file_runs (volume_of g) f) b (sym (same_claims (volume_of g) f b) ∙ claimed))

  groups_on : (x b : ℕ) → Member x (clusters_from (volume_of g) 0 groups) → is_of_cluster x b ≡ true → 1 ≤ runs_on of_groups b
  groups_on x b is on =
      let zero_base : 0 * g.agblocks ≡ 0 = omega arith in
      subst (λ (base : ℕ). 1 ≤ runs_on (groups_runs g.agblocks base groups) b) zero_base (cluster_on (volume_of g) 0 x b groups space.are is on)

  -- a block of the volume at the start of a group
  start_of : (b : ℕ) → b < g.dblocks → (b % g.agblocks == 0) ≡ true → (j : ℕ) × (j < length groups) × (b ≡ j * g.agblocks)
  start_of b inside at =
      let none : b % g.agblocks ≡ 0 = eqb-true (b % g.agblocks) 0 at in
      let whole : b / g.agblocks * g.agblocks + b % g.agblocks ≡ b = div-add-mod' b g.agblocks in
      let few : b / g.agblocks < g.agcount =
      elim (cases_lt (b / g.agblocks) g.agcount) [
        | inl less ↦ less
        | inr many ↦
            let most : g.agcount * g.agblocks ≤ b / g.agblocks * g.agblocks = mul-le-mul_right g.agblocks many in
            let covered = g.shape.groups.covered in
            absurd (omega (arith, most, covered, whole, inside))
      ] in
      let count = space.count in
      (b / g.agblocks, omega (arith, few, count), omega (arith, whole, none))

  inside_of : (b : ℕ) → 1 ≤ runs_on (owned_runs (volume_of g) groups files) b → b < g.dblocks
  inside_of b some =
      elim (cases_lt b g.dblocks) [
        | inl less ↦ less
        | inr past ↦ let zero_on = space.none b past in absurd (omega (arith, some, zero_on))
      ]

  -- what files own is no block of the groups' own or of the log
  pub file_cluster : (f : FileRec) (x b : ℕ) → Member f files → claims (volume_of g) f b ≡ true → Member x (clusters_from (volume_of g) 0 groups) → is_of_cluster x b ≡ true → ⊥
  file_cluster f x b is claimed cluster on =
      let one = groups_on x b cluster on in
      let other = file_on f b is claimed in
      let all = parts b in
      let behind = on-cons log_run of_files b in
      let most = space.once b in
      absurd (omega (arith, one, other, all, behind, most))

  pub file_unfixed : (f : FileRec) (b : ℕ) → Member f files → claims (volume_of g) f b ≡ true → is_fixed (volume_of g) b ≡ true → ⊥
  file_unfixed f b is claimed fixed =
      let other = file_on f b is claimed in
      let all = parts b in
      let behind = on-cons log_run of_files b in
      let most = space.once b in
      elim (or_cases (b % g.agblocks == 0) (nat_le g.log b && nat_lt b (g.log + g.logblocks)) fixed) [
        | inl start ↦
            let at = start_of b (inside_of b (omega (arith, other, all, behind))) start in
            let one : 1 ≤ runs_on of_groups b = header_on g.agblocks 0 at.0 b groups at.1 (let same = at.2 in omega (arith, same)) in
            absurd (omega (arith, one, other, all, behind, most))
        | inr of_log ↦
            let first = on_head log_run of_files b of_log in
            absurd (omega (arith, first, other, all, most))
      ]

  pub cluster_unfixed : (x b : ℕ) → Member x (clusters_from (volume_of g) 0 groups) → is_of_cluster x b ≡ true → is_fixed (volume_of g) b ≡ true → ⊥
  cluster_unfixed x b is on fixed =
      let one = groups_on x b is on in
      let all = parts b in
      let most = space.once b in
      elim (or_cases (b % g.agblocks == 0) (nat_le g.log b && nat_lt b (g.log + g.logblocks)) fixed) [
        | inl start ↦
            let at = start_of b (inside_of b (omega (arith, one, all))) start in
            let same = at.2 in
            let two = header_cluster (volume_of g) 0 x at.0 b groups space.are is on at.1 (omega (arith, same)) in
            let zero_base : 0 * g.agblocks ≡ 0 = omega arith in
            let twice : 2 ≤ runs_on of_groups b = subst (λ (base : ℕ). 2 ≤ runs_on (groups_runs g.agblocks base groups) b) zero_base two in
            absurd (omega (arith, twice, all, most))
        | inr of_log ↦
            let first = on_head log_run of_files b of_log in
            absurd (omega (arith, first, one, all, most))
      ]

  pub files_apart : (f h : FileRec) (b : ℕ) → Member f files → Member h files → h.ino ≢ f.ino → claims (volume_of g) f b ≡ true → claims (volume_of g) h b ≡ true → ⊥
  files_apart f h b is other differ one two =
      let both = flat_two (file_runs (volume_of g)) (λ (x : FileRec). x.ino) f h files b is other (λ e. differ (sym e))
      (any_on (file_runs (volume_of g) f) b (sym (same_claims (volume_of g) f b) ∙ one)) (any_on (file_runs (volume_of g) h) b (sym (same_claims (volume_of g) h b) ∙ two)) in
      let all = parts b in
      let behind = on-cons log_run of_files b in
      let most = space.once b in
      absurd (omega (arith, both, all, behind, most))
