use Rattle.std.proofs.Common.{rules}
use Rattle.std.proofs.lemmas.List.Sorted.{All-permutation, IsNonDecreasingBy-from_sort_by_key}
use Rattle.xfs_geom.specs.declared.records.Run.{Run}
use Rattle.xfs_place.specs.Claims.{IsClaimedRun}
use Rattle.xfs_place.proofs.Ordered.{apart_moved, ascending, held_moved, begins_any}
use Rattle.xfs_place.proofs.claims.sort_runs.Goals as goal

pub returns-clause-ascend : goal.returns-clause-ascend
returns-clause-ascend c = λ top small apart each.
    let xs = c.args.runs.items in
    let ys = c.sort_by_key.new.self.items in
    let moved = c.in_ok-sort_by_key.ensures.permutation in
    let all = All-permutation (IsClaimedRun top) xs ys moved each in
    record {
      ascend = ascending top ys 0 small (begins_any ys) (IsNonDecreasingBy-from_sort_by_key (λ (r : Run). r.start) ys c.in_ok-sort_by_key.ensures.sorted (λ a r q k. search rules)) all
          (apart_moved xs ys moved apart);
      each = all;
    }

pub returns-clause-held : goal.returns-clause-held
returns-clause-held c = λ apart block. held_moved c.args.runs.items c.sort_by_key.new.self.items c.in_ok-sort_by_key.ensures.permutation apart block
