use Rattle.std.proofs.Common.{◌≡◌, ◌+◌, ◌*◌, ◌++◌, ◌∷◌, [], ℕ, List, map, sym, ◌∙◌, ap, arith}
use Rattle.std.specs.List.{range_with_len}
use Rattle.std.proofs.lemmas.List.FromFn.{map-range_with_len_more}
use Rattle.xfs_kinds.specs.Owners.{headers_owner}
use Rattle.xfs_geom.specs.Volumes.{Volume, volume_of}
use Rattle.xfs_geom.specs.declared.records.Run.{Run}
use Rattle.xfs_kinds.specs.FixedRuns.{header_run, log_run}
use Rattle.xfs_place.proofs.claims.list_fixed.Goals as goal

pub loop-ag-init : goal.loop-ag-init
loop-ag-init c = c.in_ok-push.ensures.items ∙ ap (λ (rs : List Run). rs ++ log_run (volume_of c.args.g.now) ∷ []) c.new-runs.ensures.items

-- the headers of one group more
fixed_next : (v : Volume) (ag start : ℕ) (old new : List Run) → old ≡ log_run v ∷ map (header_run v) (range_with_len 0 ag) → start ≡ ag * v.agblocks
    → new ≡ old ++ record { start = start; count = 1; owner = headers_owner; offset_word = 0 } ∷ [] → new ≡ log_run v ∷ map (header_run v) (range_with_len 0 (ag + 1))
fixed_next v ag start old new first at is =
    is
    ∙ ap (λ (s : ℕ). old ++ record { start = s; count = 1; owner = headers_owner; offset_word = 0 } ∷ []) at
    ∙ ap (λ (rs : List Run). rs ++ header_run v ag ∷ []) first
    ∙ ap (λ (rs : List Run). log_run v ∷ rs) (sym (map-range_with_len_more (header_run v) 0 ag ag (omega arith)))

pub loop-ag-preserved : goal.loop-ag-preserved
loop-ag-preserved c =
    fixed_next (volume_of c.args.g.now) c.loop-ag.ag c.start_of_group.result c.loop-ag.runs.items c.push-in-loop-ag.new.self.items c.loop-ag.invariant c.start_of_group.ensures.value c.in_ok-push-2.ensures.items

pub start_of_group-requires : goal.start_of_group-requires
start_of_group-requires c = c.loop-ag-test.true

-- all groups are gone through
all_fixed : (v : Volume) (ag : ℕ) (runs : List Run) → runs ≡ log_run v ∷ map (header_run v) (range_with_len 0 ag) → ag ≡ v.agcount → runs ≡ log_run v ∷ map (header_run v) (range_with_len 0 v.agcount)
all_fixed v ag runs is all = is ∙ ap (λ (n : ℕ). log_run v ∷ map (header_run v) (range_with_len 0 n)) all

pub returns : goal.returns
returns c = all_fixed (volume_of c.args.g.now) c.loop-ag.ag c.loop-ag.runs.items c.loop-ag.invariant (omega (arith, c.loop-ag-test.false, c.loop-ag.auto.ag-end))
