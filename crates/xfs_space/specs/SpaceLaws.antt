-- The laws of space: no block has two owners; the free space trees have just the blocks without one; the reverse-mapping tree
-- has just the owners (chapters "AG Free Space Management" and "Reverse-Mapping B+tree").
use Rattle.std.specs.Prelude.{ℕ, Bool, ◌+◌, ◌*◌, ◌^◌, ◌≤◌, ◌==◌, ◌&&◌, ◌||◌, ◌≡◌, if◌then◌else◌, nat_lt, List, [], ◌∷◌, ◌++◌, map, Option, Some, None}
use Rattle.std.specs.List.{range_with_len}
use Rattle.xfs_geom.specs.Runs.{runs_on}
use Rattle.xfs_geom.specs.Conversions.{group_length}
use Rattle.xfs_geom.specs.Volumes.{Volume}
use Rattle.xfs_geom.specs.declared.records.Run.{Run}
use Rattle.xfs_geom.specs.declared.records.Span.{Span}
use Rattle.xfs_geom.specs.declared.records.RmapRec.{RmapRec}
use Rattle.xfs_kinds.specs.FreeRuns.{runs_where}
use Rattle.xfs_kinds.specs.Lengths.{by_length}
use Rattle.xfs_kinds.specs.MergedRuns.{held_at}
use Rattle.xfs_volume.specs.declared.findings.Law.{Law}
use Rattle.xfs_volume.specs.declared.files.FileRec.{FileRec}
use Rattle.xfs_volume.specs.declared.groups.GroupRec.{GroupRec}
use Rattle.xfs_volume.specs.Laws.{law_at, nothing, first_difference}
use Rattle.xfs_space.specs.Owners.{new_run, owned_runs}

-- the first law at a block: a number of runs above 1 is held where 1 is due
abbrev pub sharing_at : List Run → ℕ → Law
sharing_at runs block = law_at 1 block (runs_on runs block) (if nat_lt 1 (runs_on runs block) then 1 else runs_on runs block)

unfoldable pub sharing_laws : Volume → List Run → List Law
sharing_laws v runs = map (sharing_at runs) (range_with_len 0 v.dblocks)

-- the maximal runs of the group's blocks that no run has, by AG block
unfoldable pub free_spans : Volume → List Run → ℕ → List Span
free_spans v runs ag = runs_where (λ block. runs_on runs (ag * v.agblocks + block) == 0) 0 (group_length v ag)

abbrev pub span_number : Span → ℕ
span_number s = s.start * 2 ^ 32 + s.count

-- the second law for one tree: the first record that differs
abbrev pub spans_at : ℕ → List Span → List Span → Law
spans_at place held due =
    let difference = first_difference (map span_number held) (map span_number due) in
    law_at 2 place difference.0 difference.1

-- the second law for the groups from one on: their trees by start, then by length
abbrev pub free_laws : Volume → List Run → ℕ → List GroupRec → List Law
free_laws v runs ag [] = []
free_laws v runs ag (g ∷ gs) =
    spans_at (2 * ag) g.bno (free_spans v runs ag)
    ∷ spans_at (2 * ag + 1) g.cnt (by_length (free_spans v runs ag))
    ∷ free_laws v runs (ag + 1) gs

-- the runs that the reverse-mapping trees record, by block of the volume
abbrev pub recorded_run : ℕ → RmapRec → Run
recorded_run base r = new_run (base + r.start) r.count r.owner r.offset_word

abbrev pub recorded_runs : ℕ → ℕ → List GroupRec → List Run
recorded_runs agblocks base [] = []
recorded_runs agblocks base (g ∷ gs) = map (recorded_run base) g.rmap ++ recorded_runs agblocks (base + agblocks) gs

-- an owner with an offset word as one number
abbrev pub owner_number : Option (ℕ × ℕ) → ℕ
owner_number None = nothing
owner_number (Some (owner, word)) = owner * 2 ^ 64 + word

-- the third law at a block: its owner and offset word as recorded, and as they are
abbrev pub owner_at : List Run → List Run → ℕ → Law
owner_at recorded runs block = law_at 3 block (owner_number (held_at recorded block)) (owner_number (held_at runs block))

unfoldable pub owner_laws : Volume → List Run → List Run → List Law
owner_laws v recorded runs = map (owner_at recorded runs) (range_with_len 0 v.dblocks)

-- the first three laws, block by block and group by group
unfoldable pub space_laws : Volume → List GroupRec → List FileRec → List Law
space_laws v groups files =
    let runs = owned_runs v groups files in
    sharing_laws v runs ++ free_laws v runs 0 groups ++ owner_laws v (recorded_runs v.agblocks 0 groups) runs

-- the first three laws in words: no block has two owners; the free space trees are the maximal runs of blocks without an owner,
-- by start and by length; the reverse-mapping trees give each block its owner and offset word, and no other block
pub record HasFreeTrees (v : Volume) (runs : List Run) (ag : ℕ) (g : GroupRec) : Type 0 where
  pub by_start : g.bno ≡ free_spans v runs ag
  pub by_count : g.cnt ≡ by_length (free_spans v runs ag)

abbrev pub AllAreFree : Volume → List Run → ℕ → List GroupRec → Type 0
AllAreFree v runs ag [] = Unit {0}
AllAreFree v runs ag (g ∷ gs) = HasFreeTrees v runs ag g × AllAreFree v runs (ag + 1) gs

pub record IsSpaceLawful (v : Volume) (groups : List GroupRec) (files : List FileRec) : Type 0 where
  pub once : (block : ℕ) → runs_on (owned_runs v groups files) block ≤ 1
  pub free : AllAreFree v (owned_runs v groups files) 0 groups
  pub owners : (block : ℕ) → held_at (recorded_runs v.agblocks 0 groups) block ≡ held_at (owned_runs v groups files) block
