-- The space of a volume in which names were changed breaks no law.
use Rattle.std.proofs.Common.{◌≡◌, ℕ, Bool, true, false, ◌+◌, ◌<◌, nat_lt, if◌then◌else◌, List, [], ◌∷◌, ◌++◌, length, map, refl, ap, ◌∙◌, arith}
use Rattle.std.specs.List.{All, flat_map, sum_by}
use Rattle.std.proofs.lemmas.List.FromFn.{length-map-range_with_len}
use Rattle.std.proofs.lemmas.List.Sums.{sum_by-append, sum_by-cons}
use Rattle.xfs_disk.specs.Blocks.{Image}
use Rattle.xfs_disk.specs.declared.stamp.Stamp.{Stamp}
use Rattle.xfs_geom.specs.Volumes.{Volume, volume_of}
use Rattle.xfs_geom.specs.declared.geometry.Geometry.{Geometry}
use Rattle.xfs_geom.specs.declared.records.InoRec.{InoRec}
use Rattle.xfs_geom.specs.declared.records.Run.{Run}
use Rattle.xfs_kinds.specs.InodeTrees.{ino_shape}
use Rattle.xfs_laws.specs.Counting.{by_group, chunk_laws, chunk_number, counter_laws, due_chunk, group_chains, list_laws}
use Rattle.xfs_place.specs.Wanted.{inodes_in_group, kept_runs}
use Rattle.xfs_place.specs.declared.placed.Placed.{Placed}
use Rattle.xfs_place.specs.declared.wanted.GroupInodes.{GroupInodes}
use Rattle.xfs_place.specs.declared.wanted.Wanted.{Wanted}
use Rattle.xfs_rename.specs.xfs_scan.declared.evidence.Evidence.{Evidence}
use Rattle.xfs_space.specs.Owners.{file_runs}
use Rattle.xfs_space.specs.SpaceLaws.{space_laws}
use Rattle.xfs_rename.specs.xfs_made.Groups.{due_groups}
use Rattle.xfs_rename.specs.xfs_made.Keeping.{KeepsJust, all_clusters, all_used}
use Rattle.xfs_rename.proofs.xfs_made.Chunks.{chunks_kept}
use Rattle.xfs_rename.proofs.xfs_made.Entries.{chains_kept, lists_kept}
use Rattle.xfs_rename.proofs.xfs_made.SameRuns.{AreSame, same_held, same_on}
use Rattle.xfs_rename.proofs.xfs_made.Spaces.{space_lawful}
use Rattle.xfs_rename.proofs.xfs_made.Totals.{counters_kept}
use Rattle.xfs_rename.proofs.xfs_made.Kept.{space_kept}
use Rattle.xfs_volume.specs.Laws.{AreKept}
use Rattle.xfs_volume.specs.declared.files.FileRec.{FileRec}
use Rattle.xfs_volume.specs.declared.groups.GroupRec.{GroupRec}
use Rattle.xfs_salvage.specs.Kept.{run_of_cluster}
use Rattle.xfs_salvage.specs.declared.found.Salvaged.{Salvaged}
use Rattle.xfs_rename.specs.xfs_request.Chunks.{group_asked, inodes_wanted}
use Rattle.xfs_rename.specs.xfs_request.Requests.{volume_wanted}
use Rattle.xfs_rename.proofs.xfs_made.Clusters.{clusters_are_kept}
use Rattle.xfs_rename.proofs.xfs_made.Used.{asked_due}
use Rattle.xfs_rename.specs.xfs_rebuild.declared.names_due.NamesDue.{NamesDue}
use Rattle.xfs_rename.specs.Lost.{lost_due}
use Rattle.xfs_rename.specs.Objects.{wanted_with}
use Rattle.xfs_rename.specs.Renames.{old_files, renamed_wanted}
use Rattle.xfs_rename.specs.Settled.{settled, with_number_in_order, with_numbers}
use Rattle.xfs_rename.specs.declared.planning.Renamed.{Renamed}
use Rattle.xfs_restored.specs.Numbered.{AreNumbered}
use Rattle.xfs_restored.specs.Relinking.{IsRelinked, renamed_files}
use Rattle.xfs_restored.proofs.DueRuns.{files_sum, used_same}
use Rattle.xfs_restored.proofs.SettledClusters.{settled_halves, settled_up}

-- a new cluster among others has its runs beside theirs
number_sum : (f : Run → ℕ) (x : ℕ) (ys : List ℕ) → sum_by f (map run_of_cluster (with_number_in_order x ys)) ≡ f (run_of_cluster x) + sum_by f (map run_of_cluster ys)
number_sum f x [] = sum_by-cons f (run_of_cluster x) []
number_sum f x (y ∷ ys) = by_test (nat_lt y x) (number_sum f x ys)
  where
    by_test : (t : Bool) → sum_by f (map run_of_cluster (with_number_in_order x ys)) ≡ f (run_of_cluster x) + sum_by f (map run_of_cluster ys)
        → sum_by f (map run_of_cluster (if t then y ∷ with_number_in_order x ys else x ∷ y ∷ ys)) ≡ f (run_of_cluster x) + sum_by f (map run_of_cluster (y ∷ ys))
    by_test true rest =
        let one = sum_by-cons f (run_of_cluster y) (map run_of_cluster (with_number_in_order x ys)) in
        let other = sum_by-cons f (run_of_cluster y) (map run_of_cluster ys) in
        omega (arith, rest, one, other)
    by_test false rest = sum_by-cons f (run_of_cluster x) (map run_of_cluster (y ∷ ys))

numbers_sum : (f : Run → ℕ) (xs ys : List ℕ) → sum_by f (map run_of_cluster (with_numbers xs ys)) ≡ sum_by f (map run_of_cluster xs) + sum_by f (map run_of_cluster ys)
numbers_sum f [] ys = let none : sum_by f [] ≡ 0 = refl in omega (arith, none)
numbers_sum f (x ∷ xs) ys =
    let rest = numbers_sum f xs (with_number_in_order x ys) in
    let one = number_sum f x ys in
    let first = sum_by-cons f (run_of_cluster x) (map run_of_cluster xs) in
    omega (arith, rest, one, first)

module _ (g : Geometry) (sector : List ℕ) (s : Stamp) (image now : Image) (e : Evidence) (n : NamesDue) (r : Renamed) (has : IsRelinked g sector s image now e n r)
    (numbered : AreNumbered g.rootino has.on.kept (lost_due g n) has.is.w (old_files n has.is.w)) (agf_crc agi_crc : ℕ → ℕ) where
  abbrev v : Volume
  v = volume_of g

  abbrev after : Salvaged
  after = settled n (lost_due g n) has.is.w

  abbrev asked : Wanted
  asked = renamed_wanted g n has.is.w has.is.built

  abbrev p : Placed
  p = has.is.placed

  abbrev keeps : List Run
  keeps = kept_runs asked ++ p.runs

  abbrev inodes : List GroupInodes
  inodes = inodes_wanted v after

  abbrev groups : List GroupRec
  groups = due_groups v inodes p.groups agf_crc agi_crc

  abbrev files : List FileRec
  files = renamed_files g s now has.on n has.is.w has.is.built p

  -- the runs of the chunks and files are those that are kept, in another order
  clusters_same : all_clusters v inodes ≡ map run_of_cluster after.clusters
  unfolding volume_wanted
  clusters_same = clusters_are_kept g after [] (settled_up g sector s image now e n r has) (settled_halves g sector s image now e n r has)

  runs_same : AreSame (all_used v inodes files) keeps
  unfolding wanted_with
  runs_same f =
      let claimed : List Run = flat_map (file_runs v) (old_files n has.is.w) in
      let old : List Run = map run_of_cluster n.clusters in
      let new : List Run = map run_of_cluster (lost_due g n).added in
      let used = sum_by-append f (all_clusters v inodes) (flat_map (file_runs v) files) in
      let clusters : sum_by f (all_clusters v inodes) ≡ sum_by f new + sum_by f old = ap (sum_by f) clusters_same ∙ numbers_sum f (lost_due g n).added n.clusters in
      let owned = files_sum g s now has.on n has.is.w has.is.built p has.due.fresh' has.is.names.numbers has.is.ascend has.is.cuts numbered f in
      let one : sum_by f keeps ≡ sum_by f (kept_runs asked) + sum_by f p.runs = sum_by-append f (kept_runs asked) p.runs in
      let two : sum_by f (kept_runs asked) ≡ sum_by f (old ++ claimed) + sum_by f new = sum_by-append f (old ++ claimed) new in
      let three = sum_by-append f old claimed in
      omega (arith, used, clusters, owned, one, two, three)

  just : KeepsJust v keeps inodes files
  unfolding wanted_with
  just = record {
    once = λ block.
        let same = same_on (all_used v inodes files) keeps runs_same block in
        let most = has.is.stands.apart.apart.once block in
        omega (arith, same, most);
    held = λ block. same_held (all_used v inodes files) keeps runs_same block (has.is.stands.apart.apart.once block);
  }

  pub space : AreKept (space_laws v groups files)
  unfolding wanted_with
  space =
      space_kept v groups files
      (space_lawful v g.shape.groups g.shape.log_inside keeps asked.reserved inodes p.groups files agf_crc agi_crc has.is.stands.apart has.is.stands.groups' just)

  count_inodes : length inodes ≡ g.agcount
  unfolding inodes_wanted
  count_inodes = length-map-range_with_len (group_asked v after) 0 g.agcount

  pub counters : AreKept (counter_laws v groups p.counts)
  unfolding wanted_with
  counters = counters_kept v keeps asked.reserved inodes p.groups agf_crc agi_crc has.is.stands.groups' p.counts count_inodes has.is.stands.counts'

  chunk_due : (ag : ℕ) → ag < g.agcount
      → All (λ (c : InoRec). chunk_number (due_chunk v files ag ((ino_shape ag).settled c)) ≡ chunk_number ((ino_shape ag).settled c)) (inodes_in_group inodes ag)
  unfolding volume_wanted wanted_with
  chunk_due = asked_due g after [] files (used_same g s now has.on n has.is.w has.is.built p has.due.fresh' has.is.names.numbers has.is.ascend has.is.cuts numbered)

  pub chunks : AreKept (chunk_laws v files groups)
  unfolding wanted_with
  chunks = chunks_kept v keeps asked.reserved inodes p.groups files agf_crc agi_crc has.is.stands.groups' chunk_due

  pub lists : AreKept (list_laws groups)
  unfolding wanted_with
  lists = lists_kept v keeps asked.reserved inodes p.groups agf_crc agi_crc has.is.stands.pool

  pub chains : AreKept (by_group group_chains 0 groups)
  chains = chains_kept v inodes p.groups agf_crc agi_crc
