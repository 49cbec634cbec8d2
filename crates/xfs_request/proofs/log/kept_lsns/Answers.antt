use Rattle.std.proofs.Common.{ℕ, List, ◌++◌, ap, ◌∙◌}
use Rattle.std.specs.List.{flat_map}
use Rattle.xfs_geom.specs.Volumes.{volume_of}
use Rattle.xfs_request.specs.Cycles.{kept_lsns, lsn_listed}
use Rattle.xfs_request.specs.declared.seen.SlotSeen.{SlotSeen}
use Rattle.xfs_request.specs.declared.seen.SlotState.TheVariants as State
use Rattle.xfs_request.proofs.Numbers.{same_numbers}
use Rattle.xfs_request.proofs.Rows.{listed_end, listed_more}
use Rattle.xfs_request.proofs.log.kept_lsns.Goals as goal

-- what stands behind the last
abbrev no_slot : SlotSeen
no_slot = record { ino = 0; state = State.Free; lsn = 0 }

pub loop-slot-init : goal.loop-slot-init
loop-slot-init c = ap (λ (xs : List ℕ). xs ++ flat_map (lsn_listed (volume_of c.args.g.now) c.args.kept.now) c.args.slots.now) c.new-numbers.ensures.items

pub push_lsn-requires : goal.push_lsn-requires
push_lsn-requires c = record {
  used =
      same_numbers c.args.kept.now.files c.as_slice.result.now c.in_ok-used.used.items c.as_slice-in-loop-slot.result.now c.as_slice.ensures c.as_slice-in-loop-slot.ensures.value
      c.in_ok-used.ensures;
  clusters = c.requires.clusters;
}

pub loop-slot-preserved : goal.loop-slot-preserved
loop-slot-preserved c =
    listed_more (lsn_listed (volume_of c.args.g.now) c.args.kept.now) c.args.slots.now c.loop-slot.slot-index no_slot c.loop-slot.numbers.items c.push_lsn.new.numbers.items _
    c.loop-slot-test.true c.in_ok-push_lsn.ensures c.loop-slot.invariant

pub returns : goal.returns
unfolding kept_lsns
returns c =
    c.in_ok-extend_from_slice.ensures.items
    ∙ ap (λ (xs : List ℕ). xs ++ c.args.lsns.now)
    (listed_end (lsn_listed (volume_of c.args.g.now) c.args.kept.now) c.args.slots.now c.loop-slot.slot-index c.loop-slot.numbers.items _ c.loop-slot-test.false c.loop-slot.invariant)
