use Rattle.std.proofs.Common.{◌≡◌, ◌∙◌, ℕ, ◌+◌, [], ◌∷◌, length, length-append, ap, arith}
use Rattle.xfs_place.specs.declared.wanted.GroupInodes.{GroupInodes}
use Rattle.xfs_volume_tests.specs.Rendered.{small_chunks}
use Rattle.xfs_volume_tests.proofs.Rendered.{pushed_each}
use Rattle.xfs_volume_tests.proofs.render.wanted.list_inodes.Goals as goal

pub loop-ag-preserved : goal.loop-ag-preserved
loop-ag-preserved c =
    let x : GroupInodes = record { records = c.from_vec.result } in
    let all = c.loop-ag.all.items in
    let count = ap length c.in_ok-push.ensures.items ∙ length-append all (x ∷ []) in
    record {
      all = omega (arith, count, c.loop-ag.invariant.all);
      each = pushed_each (λ (k : ℕ) (group : GroupInodes). group.records ≡ small_chunks k) all c.push.new.self.items x c.loop-ag.ag c.loop-ag.invariant.all
          c.loop-ag.invariant.each (c.from_vec.ensures ∙ c.in_ok-list_records.ensures) c.in_ok-push.ensures.items;
    }
