use Rattle.std.proofs.Common.{◌≡◌, ℕ, ◌+◌, ◌≤◌, Bool, true, false, refl, sym, ap, subst, ◌∙◌, arith}
use Rattle.std.proofs.lemmas.Bool.{and_from}
use Rattle.std.specs.List.{list_all, range_with_len}
use Rattle.xfs_geom.specs.Volumes.{volume_of}
use Rattle.xfs_disk.proofs.Reading.{reads_none, reads_on}
use Rattle.xfs_groups.specs.Private.Chosen.{are_clear, can_hold_cluster}
use Rattle.xfs_groups.specs.declared.faults.GroupsFault.TheVariants as faults
use Rattle.xfs_groups.specs.Answers.{are_bare}
use Rattle.xfs_groups.proofs.Bare.{bare_front, bare_last}
use Rattle.xfs_groups.proofs.Causes.{caused_on, later, no_later}
use Rattle.xfs_groups.proofs.Rows.{all_more, all_unless}
use Rattle.xfs_groups.proofs.recorded.are_clear.Goals as goal

pub returns-in-Ok-false-clause-clear : goal.returns-in-Ok-false-clause-clear
returns-in-Ok-false-clause-clear g c = λ image told none.
    let p : ℕ → Bool = can_hold_cluster (volume_of c.args.g.now) image in
    let here : p (c.args.first + c.loop-k.k) ≡ false =
    sym (c.in-Ok-false.ensures.clear image (c.loop-k.invariant.disk.same_contents ∙ told) (λ so unlooked. absurd (cc))) ∙ c.in-Ok-false.field-0-test in
    sym (all_unless p c.args.first c.args.count c.loop-k.k (omega arith) here)

pub loop-k-preserved : goal.loop-k-preserved
loop-k-preserved g c =
    let D = g.D.Disk in
    let before = c.loop-k.invariant in
    record {
      clear = λ image told none.
          let p : ℕ → Bool = can_hold_cluster (volume_of c.args.g.now) image in
          let here : p (c.args.first + c.loop-k.k) ≡ true = sym (c.in-Ok-true.ensures.clear image (before.disk.same_contents ∙ told) (λ so unlooked. bare_last (volume_of c.args.g.now) image c.args.first c.loop-k.k (none unlooked))) ∙ c.in-Ok-true.field-0-test in
          all_more p c.args.first c.loop-k.k
          ∙ and_from (list_all p (range_with_len c.args.first c.loop-k.k)) (p (c.args.first + c.loop-k.k)) (before.clear image told (λ unlooked. bare_front (volume_of c.args.g.now) image c.args.first c.loop-k.k (none unlooked))) here;
      later = later (D.faults c.args.disk.now) (D.faults c.loop-k.disk) (D.faults c.can_hold_cluster.new.disk) before.later c.in-Ok-true.ensures.cause;
      disk = reads_on D.size D.holds D.write_faults D.writes D.tells_stops D.moment D.may_leave D.left_since c.args.disk.now c.loop-k.disk c.can_hold_cluster.new.disk before.disk c.in-Ok-true.ensures.disk;
      reads = omega arith;
    }

pub loop-k-init : goal.loop-k-init
loop-k-init g c =
    let D = g.D.Disk in
    record {
      clear = λ image told none. refl;
      later = no_later (D.faults c.args.disk.now);
      disk = reads_none D.size D.holds D.write_faults D.writes D.tells_stops D.moment D.may_leave D.left_since c.args.disk.now;
      reads = omega arith;
    }

pub can_hold_cluster-requires-clause-inside : goal.can_hold_cluster-requires-clause-inside
can_hold_cluster-requires-clause-inside g c = subst (λ (n : ℕ). c.args.g.now.dblocks ≤ n) (sym c.loop-k.invariant.disk.same_size) c.requires.inside

pub returns-in-Ok-false-clause-cause : goal.returns-in-Ok-false-clause-cause
returns-in-Ok-false-clause-cause g c =
    let D = g.D.Disk in
    later (D.faults c.args.disk.now) (D.faults c.loop-k.disk) (D.faults c.can_hold_cluster.new.disk) c.loop-k.invariant.later c.in-Ok-false.ensures.cause

pub returns-in-Ok-false-clause-disk : goal.returns-in-Ok-false-clause-disk
returns-in-Ok-false-clause-disk g c =
    let D = g.D.Disk in
    reads_on D.size D.holds D.write_faults D.writes D.tells_stops D.moment D.may_leave D.left_since c.args.disk.now c.loop-k.disk c.can_hold_cluster.new.disk c.loop-k.invariant.disk c.in-Ok-false.ensures.disk

pub returns-in-Err : goal.returns-in-Err
returns-in-Err g c =
    let D = g.D.Disk in
    record {
      clear = tt;
      cause = caused_on (D.faults c.args.disk.now) (D.faults c.loop-k.disk) (D.faults c.can_hold_cluster.new.disk) faults.ReadFault c.loop-k.invariant.later c.in-Err.ensures.cause;
      disk = reads_on D.size D.holds D.write_faults D.writes D.tells_stops D.moment D.may_leave D.left_since c.args.disk.now c.loop-k.disk c.can_hold_cluster.new.disk c.loop-k.invariant.disk c.in-Err.ensures.disk;
      reads = omega arith;
    }

pub returns : goal.returns
returns g c =
    let all = c.loop-k.invariant in
    let last : c.loop-k.k ≡ c.args.count = omega arith in
    record {
      clear = λ image told none. sym (all.clear image told (λ unlooked. subst (λ (n : ℕ). are_bare (volume_of c.args.g.now) image c.args.first n ≡ true) (sym last) (none refl unlooked))) ∙ ap (are_clear (volume_of c.args.g.now) image c.args.first) last;
      cause = all.later;
      disk = all.disk;
      reads = omega arith;
    }
