use Rattle.std.proofs.Common.{◌≡◌, ℕ, ◌+◌, ◌*◌, ◌/◌, ◌≤◌, true, List, drop, length, refl, sym, ap, ◌∙◌, subst, arith}
use Rattle.xfs_disk.specs.Lists.{is_among}
use Rattle.xfs_geom.specs.Conversions.{group_length}
use Rattle.xfs_geom.specs.Volumes.{volume_of}
use Rattle.xfs_disk.proofs.Reading.{reads_none, reads_on}
use Rattle.xfs_groups.specs.Sets.{Rising, SameFrom, StartsFrom}
use Rattle.xfs_groups.specs.Private.Chosen.{ClustersPlaced, chosen, cluster_place}
use Rattle.xfs_groups.specs.declared.faults.GroupsFault.TheVariants as faults
use Rattle.xfs_groups.proofs.Along.{named_at, same_later, same_on}
use Rattle.xfs_groups.proofs.Bare.{bare_before, bare_here}
use Rattle.xfs_groups.proofs.Causes.{caused_on, later, no_later}
use Rattle.xfs_groups.proofs.Choosing.{chosen_more, chosen_where, none_chosen, placed_step}
use Rattle.xfs_groups.proofs.Placed.{none_placed}
use Rattle.xfs_groups.proofs.recorded.recorded_clusters.Goals as goal

pub loop-i-init : goal.loop-i-init
loop-i-init g c =
    let D = g.D.Disk in
    record {
      chosen_so = λ image told none. c.new-clusters.ensures.items ∙ sym (none_chosen (volume_of c.args.g.now) image true c.args.named.now c.args.ag);
      placed = subst (ClustersPlaced (volume_of c.args.g.now) c.args.ag 0) (sym c.new-clusters.ensures.items) (none_placed (volume_of c.args.g.now) c.args.ag);
      high = omega arith;
      alike = λ q from. refl;
      later = no_later (D.faults c.args.disk.now);
      disk = reads_none D.size D.holds D.write_faults D.writes D.tells_stops D.moment D.may_leave D.left_since c.args.disk.now;
      reads = omega arith;
    }

pub loop-i-preserved : goal.loop-i-preserved
loop-i-preserved g c =
    let D = g.D.Disk in
    let v = volume_of c.args.g.now in
    let before = c.loop-i.invariant in
    let at : c.start_of_group-start.result + 4 * c.loop-i.i ≡ cluster_place v c.args.ag c.loop-i.i = ap (λ (s : ℕ). s + 4 * c.loop-i.i) c.start_of_group-start.ensures.value in
    let i = c.loop-i.i in
    let q = c.start_of_group-start.result + 4 * i in
    let places = c.in-Ok.places.items in
    let next = c.first_from-next.result in
    let alike : SameFrom q places (drop next places) = same_on q places (drop c.loop-i.next places) (drop next places) before.alike
    (subst (λ (xs : List ℕ). SameFrom q (drop c.loop-i.next xs) (drop next xs)) c.deref.ensures.value c.first_from-next.ensures.alike) in
    let inside = c.loop-i-test.true in
    let lengths : c.group_length-i-end.result ≡ c.group_length.result = c.group_length-i-end.ensures.value ∙ sym c.group_length.ensures.value in
    let named : c.stands_at-is_named.result ≡ is_among c.args.named.now q =
    named_at (is_among c.args.named.now) c.start_of_group-start.result c.group_length.result q next places _ c.in-Ok.ensures (omega arith) (omega (arith, inside, lengths))
    alike (subst (λ (xs : List ℕ). StartsFrom q (drop next xs)) c.deref.ensures.value c.first_from-next.ensures.behind)
    (subst (λ (xs : List ℕ). Rising 0 (drop next xs) → StartsFrom q (drop next xs) → c.stands_at-is_named.result ≡ is_among (drop next xs) q) c.deref-in-loop-i.ensures.value
    c.stands_at-is_named.ensures) in
    record {
      chosen_so = λ image told none.
          chosen_more v image true c.args.named.now c.args.ag c.loop-i.i (c.start_of_group-start.result + 4 * c.loop-i.i) c.in-Ok-is_chosen.is_chosen c.loop-i.clusters.items
          c.push_chosen.new.clusters.items at
          (chosen_where v image c.args.named.now q _ _ named (c.in-Ok-is_chosen.ensures.chosen image (before.disk.same_contents ∙ told)
          (λ so unlooked. bare_here v image c.args.named.now q c.in-Ok-is_chosen.is_chosen c.loop-i.clusters.items c.push_chosen.new.clusters.items c.in-Ok-push_chosen.ensures (none unlooked) so)))
          (before.chosen_so image told (λ unlooked. bare_before v image c.loop-i.clusters.items _ c.push_chosen.new.clusters.items c.in-Ok-push_chosen.ensures (none unlooked))) c.in-Ok-push_chosen.ensures;
      placed = placed_step v c.args.ag c.loop-i.i (c.start_of_group-start.result + 4 * c.loop-i.i) c.args.named.now c.in-Ok-is_chosen.is_chosen c.loop-i.clusters.items
          c.push_chosen.new.clusters.items at before.placed c.in-Ok-is_chosen.ensures.root c.in-Ok-push_chosen.ensures;
      high = subst (λ (xs : List ℕ). next ≤ length xs) c.deref.ensures.value c.first_from-next.ensures.high;
      alike = same_later q (c.start_of_group-start.result + 4 * (i + 1)) places (drop next places) (omega arith) alike;
      later = later (D.faults c.args.disk.now) (D.faults c.loop-i.disk) (D.faults c.is_chosen.new.disk) before.later c.in-Ok-is_chosen.ensures.cause;
      disk = reads_on D.size D.holds D.write_faults D.writes D.tells_stops D.moment D.may_leave D.left_since c.args.disk.now c.loop-i.disk c.is_chosen.new.disk before.disk c.in-Ok-is_chosen.ensures.disk;
      reads = omega arith;
    }

pub is_chosen-requires-clause-inside : goal.is_chosen-requires-clause-inside
is_chosen-requires-clause-inside g c = subst (λ (n : ℕ). c.args.g.now.dblocks ≤ n) (sym c.loop-i.invariant.disk.same_size) c.requires.inside

pub returns-in-Err : goal.returns-in-Err
returns-in-Err g c =
    let D = g.D.Disk in
    record {
      chosen = tt;
      placed = tt;
      cause = caused_on (D.faults c.args.disk.now) (D.faults c.loop-i.disk) (D.faults c.is_chosen.new.disk) faults.ReadFault c.loop-i.invariant.later c.in-Err.ensures.cause;
      disk = reads_on D.size D.holds D.write_faults D.writes D.tells_stops D.moment D.may_leave D.left_since c.args.disk.now c.loop-i.disk c.is_chosen.new.disk c.loop-i.invariant.disk c.in-Err.ensures.disk;
      reads = omega arith;
    }

pub returns-in-Err-push_chosen : goal.returns-in-Err-push_chosen
returns-in-Err-push_chosen g c =
    let D = g.D.Disk in
    record {
      chosen = tt;
      placed = tt;
      cause = later (D.faults c.args.disk.now) (D.faults c.loop-i.disk) (D.faults c.is_chosen.new.disk) c.loop-i.invariant.later c.in-Ok-is_chosen.ensures.cause;
      disk = reads_on D.size D.holds D.write_faults D.writes D.tells_stops D.moment D.may_leave D.left_since c.args.disk.now c.loop-i.disk c.is_chosen.new.disk c.loop-i.invariant.disk c.in-Ok-is_chosen.ensures.disk;
      reads = omega arith;
    }

pub returns : goal.returns
returns g c =
    let v = volume_of c.args.g.now in
    let all = c.loop-i.invariant in
    let last : c.loop-i.i ≡ c.group_length-i-end.result / 4 = omega arith in
    let end : c.loop-i.i ≡ group_length v c.args.ag / 4 = last ∙ ap (λ (n : ℕ). n / 4) c.group_length-i-end.ensures.value in
    record {
      chosen = λ image told none. all.chosen_so image told none ∙ ap (chosen v image true c.args.named.now c.args.ag) end;
      placed = subst (λ (n : ℕ). ClustersPlaced v c.args.ag n c.loop-i.clusters.items) end all.placed;
      cause = all.later;
      disk = all.disk;
      reads = omega arith;
    }
