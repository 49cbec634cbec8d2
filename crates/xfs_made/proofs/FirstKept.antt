-- The first chunk says which of its inodes are in use, and its two clusters are what is kept.
use Rattle.std.proofs.Common.{◌≡◌, ℕ, ◌+◌, ◌*◌, ◌≤◌, ◌<◌, Bool, true, false, not, ◌&&◌, ◌||◌, cond, List, [], ◌∷◌, ◌++◌, map, Option, Some, None, refl, sym, ap, ◌∙◌, subst, arith}
use Rattle.std.proofs.lemmas.Bool.Decides.{nat_tests}
use Rattle.xfs_kinds.specs.Owners.{clusters_owner}
use Rattle.xfs_geom.specs.Runs.{runs_on}
use Rattle.xfs_disk.specs.Lists.{is_in_range}
use Rattle.xfs_disk.specs.declared.stamp.Stamp.{Stamp}
use Rattle.xfs_geom.specs.Volumes.{Volume, volume_of}
use Rattle.xfs_geom.specs.declared.geometry.Geometry.{Geometry}
use Rattle.xfs_geom.specs.declared.records.InoRec.{InoRec}
use Rattle.xfs_geom.specs.declared.records.Run.{Run}
use Rattle.xfs_kinds.specs.InodeTrees.{four_each, ino_shape, is_missing}
use Rattle.xfs_kinds.specs.MergedRuns.{held_at}
use Rattle.xfs_volume.specs.declared.files.FileRec.{FileRec}
use Rattle.xfs_laws.specs.Counting.{bits_below, chunk_number, count_below, due_chunk, inode_number, is_unused, is_used}
use Rattle.xfs_space.specs.Owners.{cluster_run, cluster_runs, new_run}
use Rattle.xfs_place.specs.Wanted.{inodes_in_group}
use Rattle.xfs_made.specs.Keeping.{KeepsJust, all_clusters, all_used}
use Rattle.xfs_empty.specs.Placing.{all_inodes, chunk_run, chunks_of, first_chunk}
use Rattle.xfs_made.specs.Files.{first_files}
use Rattle.xfs_made.proofs.FirstClusters.{no_chunks, records_are}
use Rattle.xfs_made.proofs.RowLists.{flat_first}

-- inodes of the first group have the numbers that they have in the group
number_is : (v : Volume) (agino : ℕ) → inode_number v 0 agino ≡ agino
number_is v agino = omega arith

abbrev is_idle : List FileRec → InoRec → ℕ → Bool
is_idle files r i = not (is_missing r.holemask i || is_used files (r.startino + i))

same_test : (v : Volume) (files : List FileRec) (r : InoRec) (i : ℕ) → is_unused v files 0 r i ≡ is_idle files r i
same_test v files r i = ap (λ (ino : ℕ). not (is_missing r.holemask i || is_used files ino)) (number_is v (r.startino + i))

abbrev counted : (ℕ → Bool) → InoRec
counted test = record { startino = 128; holemask = 0; count = 64; freecount = count_below test 64; free = bits_below test 64 }

due_is : (v : Volume) (files : List FileRec) → due_chunk v files 0 ((ino_shape 0).settled first_chunk) ≡ counted (is_idle files ((ino_shape 0).settled first_chunk))
unfolding due_chunk
due_is v files = ap counted (λ k i. same_test v files ((ino_shape 0).settled first_chunk) i k)

pub chunk_due : (v : Volume) (s : Stamp) (crc : ℕ → ℕ)
    → chunk_number (due_chunk v (first_files v s crc) 0 ((ino_shape 0).settled first_chunk)) ≡ chunk_number ((ino_shape 0).settled first_chunk)
unfolding chunk_number four_each
chunk_due v s crc = ap chunk_number (due_is v (first_files v s crc))

-- the two clusters
abbrev two_runs : List Run
two_runs = new_run 16 4 clusters_owner 0 ∷ new_run 20 4 clusters_owner 0 ∷ []

group_runs : (g : Geometry) (ag : ℕ) (chunks : List InoRec) → ag < g.agcount → chunks_of ag ≡ chunks
    → cluster_runs (ag * g.agblocks) (map (ino_shape ag).settled (inodes_in_group (all_inodes g.agcount) ag))
    ≡ cluster_runs (ag * g.agblocks) (map (ino_shape ag).settled chunks)
group_runs g ag chunks low are =
    ap (λ (rs : List InoRec). cluster_runs (ag * g.agblocks) (map (ino_shape ag).settled rs)) (records_are g.agcount ag low ∙ are)

first_runs : (w : ℕ) → cluster_runs (0 * w) (map (ino_shape 0).settled (first_chunk ∷ [])) ≡ two_runs
first_runs w =
    let start : 0 * w ≡ 0 = omega arith in
    ap (λ (base : ℕ). cluster_run base 16 ∷ cluster_run base 20 ∷ []) start

clusters_are : (g : Geometry) → all_clusters (volume_of g) (all_inodes g.agcount) ≡ two_runs
clusters_are g =
    flat_first (λ ag. cluster_runs (ag * g.agblocks) (map (ino_shape ag).settled (inodes_in_group (all_inodes g.agcount) ag)))
    g.agcount two_runs (omega (arith, g.shape.groups.two))
    (group_runs g 0 (first_chunk ∷ []) (omega (arith, g.shape.groups.two)) refl ∙ first_runs g.agblocks)
    (λ ag other low. group_runs g ag [] low (no_chunks ag other))

-- the files own no block
used_are : (g : Geometry) (s : Stamp) (crc : ℕ → ℕ) → all_used (volume_of g) (all_inodes g.agcount) (first_files (volume_of g) s crc) ≡ two_runs
used_are g s crc = ap (λ (rs : List Run). rs ++ []) (clusters_are g)

one_of_two : (a b : Bool) → (a && b) ≡ false → 0 + cond a 1 0 + cond b 1 0 ≤ 1
one_of_two true true both = cc
one_of_two true false both = omega arith
one_of_two false true both = omega arith
one_of_two false false both = omega arith

either_of_two : (a b : Bool) (held : Option (ℕ × ℕ)) → cond a held (cond b held None) ≡ cond (a || b) held None
either_of_two true b held = refl
either_of_two false b held = refl

runs_once : (block : ℕ) → runs_on two_runs block ≤ 1
runs_once block =
    let apart : (is_in_range 16 4 block && is_in_range 20 4 block) ≡ false = grind (arith, nat_tests) in
    one_of_two (is_in_range 16 4 block) (is_in_range 20 4 block) apart

runs_held : (block : ℕ) → held_at two_runs block ≡ held_at (chunk_run ∷ []) block
runs_held block =
    let all : (is_in_range 16 4 block || is_in_range 20 4 block) ≡ is_in_range 16 8 block = grind (arith, nat_tests) in
    either_of_two (is_in_range 16 4 block) (is_in_range 20 4 block) (Some (clusters_owner, 0))
    ∙ ap (λ (b : Bool). cond b (Some (clusters_owner, 0)) None) all

pub clusters_kept : (g : Geometry) (s : Stamp) (crc : ℕ → ℕ)
    → KeepsJust (volume_of g) (chunk_run ∷ []) (all_inodes g.agcount) (first_files (volume_of g) s crc)
clusters_kept g s crc =
    record {
      once = λ block. subst (λ (rs : List Run). runs_on rs block ≤ 1) (sym (used_are g s crc)) (runs_once block);
      held = λ block. ap (λ (rs : List Run). held_at rs block) (used_are g s crc) ∙ runs_held block;
    }
