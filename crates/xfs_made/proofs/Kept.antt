-- The laws of a made volume are kept, each in its list.
use Rattle.std.proofs.Common.{◌≡◌, ℕ, ◌+◌, ◌≤◌, Bool, true, false, cond, nat_lt, if◌then◌else◌, List, [], ◌∷◌, ◌++◌, map, None, refl, ap, arith}
use Rattle.std.specs.List.{range_with_len}
use Rattle.std.proofs.lemmas.Bool.{eq-eqb, le-leb, ltb-true}
use Rattle.xfs_geom.specs.Runs.{runs_on}
use Rattle.xfs_geom.specs.Volumes.{Volume}
use Rattle.xfs_geom.specs.declared.records.Run.{Run}
use Rattle.xfs_log.specs.xfs_heads.declared.log_state.LogState.TheVariants.{Clean}
use Rattle.xfs_volume.specs.Laws.{AreKept, first_broken}
use Rattle.xfs_volume.specs.declared.files.FileRec.{FileRec}
use Rattle.xfs_volume.specs.declared.findings.Law.{Law}
use Rattle.xfs_volume.specs.declared.groups.GroupRec.{GroupRec}
use Rattle.xfs_space.specs.Owners.{owned_runs}
use Rattle.xfs_kinds.specs.Lengths.{by_length}
use Rattle.xfs_space.specs.SpaceLaws.{AllAreFree, IsSpaceLawful, free_laws, free_spans, owner_at, owner_laws, owner_number, recorded_runs, sharing_at, sharing_laws, space_laws, span_number}
use Rattle.xfs_laws.specs.Counting.{by_group, group_chains, is_behind, log_laws, lsn_law}
use Rattle.xfs_image.specs.Lsns.{LsnPlace}
use Rattle.xfs_made.proofs.KeptLaws.{both_kept, no_difference}
use Rattle.xfs_made.specs.Volumes.{no_lsn}

-- nothing is broken where all is kept
pub none_broken : (laws : List Law) → AreKept laws → first_broken laws ≡ None
unfolding first_broken
none_broken [] kept = refl
none_broken (l ∷ ls) kept = rw (eq-eqb l.held l.due kept.0) (none_broken ls kept.1)

-- a law that is kept at each of some places
each_kept : {A : Type 0} (law : A → Law) (xs : List A) → ((x : A) → (law x).held ≡ (law x).due) → AreKept (map law xs)
each_kept law [] kept = tt
each_kept law (x ∷ xs) kept = (kept x, each_kept law xs kept)

few : (n : ℕ) → n ≤ 1 → n ≡ (if nat_lt 1 n then 1 else n)
few n least = by_test (nat_lt 1 n) refl
  where
    by_test : (test : Bool) → nat_lt 1 n ≡ test → n ≡ cond test 1 n
    by_test true is = let more = ltb-true 1 n is in absurd (omega (arith, least, more))
    by_test false is = refl

free_kept : (v : Volume) (runs : List Run) (ag : ℕ) (groups : List GroupRec) → AllAreFree v runs ag groups → AreKept (free_laws v runs ag groups)
free_kept v runs ag [] free = tt
free_kept v runs ag (g ∷ gs) free = (
  no_difference (map span_number g.bno) (map span_number (free_spans v runs ag)) (ap (map span_number) free.0.by_start),
  (
    no_difference (map span_number g.cnt) (map span_number (by_length (free_spans v runs ag))) (ap (map span_number) free.0.by_count),
    free_kept v runs (ag + 1) gs free.1,
  ),
)

-- the laws of space
pub space_kept : (v : Volume) (groups : List GroupRec) (files : List FileRec) → IsSpaceLawful v groups files → AreKept (space_laws v groups files)
unfolding space_laws sharing_laws owner_laws
space_kept v groups files is =
    let runs = owned_runs v groups files in
    let recorded = recorded_runs v.agblocks 0 groups in
    let all = range_with_len 0 v.dblocks in
    both_kept (map (sharing_at runs) all ++ free_laws v runs 0 groups) (map (owner_at recorded runs) all)
    (both_kept (map (sharing_at runs) all) (free_laws v runs 0 groups)
    (each_kept (sharing_at runs) all (λ block. few (runs_on runs block) (is.once block))) (free_kept v runs 0 groups is.free))
    (each_kept (owner_at recorded runs) all (λ block. ap owner_number (is.owners block)))

-- nothing is behind every head
behind : (test : Bool) (head : ℕ) → test ≡ true → 0 ≡ (if test then 0 else head)
behind true head is = refl
behind false head is = cc

no_lsns_kept : (head : ℕ) (places : List LsnPlace) → AreKept (map (lsn_law head) (map no_lsn places))
no_lsns_kept head [] = tt
no_lsns_kept head (p ∷ ps) = (behind (is_behind head 0) head (le-leb 0 head (omega arith)), no_lsns_kept head ps)

-- the laws of the log, where it is clean and no log sequence number stands anywhere
pub log_kept : (groups : List GroupRec) (head : ℕ) (places : List LsnPlace) → AreKept (by_group group_chains 0 groups)
    → AreKept (log_laws groups (Clean head) (map no_lsn places))
log_kept groups head places chains = (refl, both_kept (by_group group_chains 0 groups) (map (lsn_law head) (map no_lsn places)) chains (no_lsns_kept head places))
