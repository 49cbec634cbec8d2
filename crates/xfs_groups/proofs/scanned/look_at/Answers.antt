use Rattle.std.proofs.Common.{◌≡◌, ℕ, ◌+◌, ◌≤◌, Bool, ◌&&◌, ◌||◌, not, false, List, ◌++◌, append-nil, sym, ap, ap₂, refl, ◌∙◌, subst, arith}
use Rattle.xfs_disk.specs.Lists.{is_among}
use Rattle.xfs_geom.specs.Conversions.{is_fixed}
use Rattle.xfs_geom.specs.Volumes.{volume_of}
use Rattle.xfs_disk.proofs.Reading.{reads_none, reads_on}
use Rattle.xfs_groups.specs.Private.Chosen.{are_clear, are_used, can_hold_cluster, withheld}
use Rattle.xfs_groups.specs.Private.Looking.{has_used}
use Rattle.xfs_groups.specs.declared.faults.GroupsFault.TheVariants as faults
use Rattle.xfs_groups.proofs.Causes.{caused_on, later, no_later}
use Rattle.xfs_groups.proofs.Choosing.{none_withheld, withheld_more}
use Rattle.xfs_groups.proofs.Rows.{all_more, any_more}
use Rattle.xfs_groups.proofs.scanned.look_at.Goals as goal

pub loop-k-init : goal.loop-k-init
loop-k-init g c =
    let D = g.D.Disk in
    record {
      used = λ image told. refl;
      clear = λ image told. refl;
      held_so = λ image told.
          sym (ap (λ (xs : List ℕ). c.args.reserved.now.items ++ xs) (none_withheld (volume_of c.args.g.now) image false c.args.held.now c.args.first)
          ∙ append-nil c.args.reserved.now.items);
      later = no_later (D.faults c.args.disk.now);
      disk = reads_none D.size D.holds D.write_faults D.writes D.tells_stops D.moment D.may_leave D.left_since c.args.disk.now;
      reads = omega arith;
    }

pub loop-k-preserved : goal.loop-k-preserved
loop-k-preserved g c =
    let D = g.D.Disk in
    let v = volume_of c.args.g.now in
    let before = c.loop-k.invariant in
    let block = c.args.first + c.loop-k.k in
    record {
      used = λ image told.
          let seen = c.in-Ok.ensures.seen image (before.disk.same_contents ∙ told) in
          c.with_block-all.ensures.used ∙ (ap₂ (λ (x y : Bool). x || y) (before.used image told) seen.used ∙ sym (any_more (has_used v image) c.args.first c.loop-k.k));
      clear = λ image told.
          let seen = c.in-Ok.ensures.seen image (before.disk.same_contents ∙ told) in
          c.with_block-all.ensures.clear
          ∙ (ap₂ (λ (x y : Bool). x && not (is_fixed v block || y)) (before.clear image told) seen.whole ∙ sym (all_more (can_hold_cluster v image) c.args.first c.loop-k.k));
      held_so = λ image told.
          let seen = c.in-Ok.ensures.seen image (before.disk.same_contents ∙ told) in
          withheld_more v image false c.args.held.now c.args.first c.loop-k.k c.is_withheld-is_withheld.result c.args.reserved.now.items c.loop-k.reserved.items c.push_if.new.list.items
          (c.is_withheld-is_withheld.ensures ∙ ap₂ (λ (x y : Bool). is_among c.args.held.now block || (x || y)) seen.naming seen.used)
          (before.held_so image told) c.in-Ok-push_if.ensures;
      later = later (D.faults c.args.disk.now) (D.faults c.loop-k.disk) (D.faults c.look.new.disk) before.later c.in-Ok.ensures.cause;
      disk = reads_on D.size D.holds D.write_faults D.writes D.tells_stops D.moment D.may_leave D.left_since c.args.disk.now c.loop-k.disk c.look.new.disk before.disk c.in-Ok.ensures.disk;
      reads = omega arith;
    }

pub look-requires-clause-inside : goal.look-requires-clause-inside
look-requires-clause-inside g c = subst (λ (n : ℕ). c.args.g.now.dblocks ≤ n) (sym c.loop-k.invariant.disk.same_size) c.requires.inside

pub returns-in-Err : goal.returns-in-Err
returns-in-Err g c =
    let D = g.D.Disk in
    record {
      used = tt;
      clear = tt;
      withheld = tt;
      cause = caused_on (D.faults c.args.disk.now) (D.faults c.loop-k.disk) (D.faults c.look.new.disk) faults.ReadFault c.loop-k.invariant.later c.in-Err.ensures.cause;
      disk = reads_on D.size D.holds D.write_faults D.writes D.tells_stops D.moment D.may_leave D.left_since c.args.disk.now c.loop-k.disk c.look.new.disk c.loop-k.invariant.disk c.in-Err.ensures.disk;
      reads = omega arith;
    }

pub returns-in-Err-push_if : goal.returns-in-Err-push_if
returns-in-Err-push_if g c =
    let D = g.D.Disk in
    record {
      used = tt;
      clear = tt;
      withheld = tt;
      cause = later (D.faults c.args.disk.now) (D.faults c.loop-k.disk) (D.faults c.look.new.disk) c.loop-k.invariant.later c.in-Ok.ensures.cause;
      disk = reads_on D.size D.holds D.write_faults D.writes D.tells_stops D.moment D.may_leave D.left_since c.args.disk.now c.loop-k.disk c.look.new.disk c.loop-k.invariant.disk c.in-Ok.ensures.disk;
      reads = omega arith;
    }

pub returns : goal.returns
returns g c =
    let v = volume_of c.args.g.now in
    let all = c.loop-k.invariant in
    let last : c.loop-k.k ≡ c.args.count = omega arith in
    record {
      used = λ image told. all.used image told ∙ ap (are_used v image c.args.first) last;
      clear = λ image told. all.clear image told ∙ ap (are_clear v image c.args.first) last;
      withheld = λ image told.
          all.held_so image told ∙ ap (λ (n : ℕ). c.args.reserved.now.items ++ withheld v image false c.args.held.now c.args.first n) last;
      cause = all.later;
      disk = all.disk;
      reads = omega arith;
    }
