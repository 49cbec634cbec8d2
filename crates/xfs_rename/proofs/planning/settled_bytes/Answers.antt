use Rattle.std.proofs.Common.{ℕ, ◌≤◌, ◌+◌, Err, arith, sym, subst, ap, ◌∙◌}
use Rattle.std.specs.List.{All}
use Rattle.std.specs.List.Sorted.{IsNonDecreasingBy}
use Rattle.xfs_disk.proofs.Reading.{reads_none, reads_on}
use Rattle.xfs_render.specs.declared.wanted_slots.SlotWanted.{SlotWanted}
use Rattle.xfs_changes.specs.xfs_built.Asks.{blocks_of_built}
use Rattle.xfs_changes.specs.Slots.{with_changes}
use Rattle.xfs_rename.proofs.Agreed.{cause_on}
use Rattle.xfs_rename.proofs.SettledBytes.{hand_below, read_below, slots_below}
use Rattle.xfs_rename.proofs.planning.settled_bytes.Goals as goal

pub gather_bytes-requires-clause-inside : goal.gather_bytes-requires-clause-inside
gather_bytes-requires-clause-inside g c =
    subst (λ (size : ℕ). c.args.chosen.now.geometry.dblocks ≤ size) (sym c.kept_numbers.ensures.disk.same_size) c.requires.inside

pub gather_bytes-requires-clause-lie : goal.gather_bytes-requires-clause-lie
gather_bytes-requires-clause-lie g c =
    subst (All (λ (cluster : ℕ). cluster + 4 ≤ c.args.chosen.now.geometry.dblocks)) (sym c.as_slice.ensures) c.requires.lie

pub gather_bytes-requires-clause-order : goal.gather_bytes-requires-clause-order
gather_bytes-requires-clause-order g c = subst (IsNonDecreasingBy (λ (w : SlotWanted). w.ino)) (sym c.from_vec-slots.ensures) c.in-Ok.ensures.order

pub returns-in-Ok-blocks_of_built-clause-order : goal.returns-in-Ok-blocks_of_built-clause-order
returns-in-Ok-blocks_of_built-clause-order g c =
    subst (IsNonDecreasingBy (λ (w : SlotWanted). w.ino))
    (sym (slots_below c.in-Ok-gather_bytes.bytes c.with_objects.result c.in-Ok-blocks_of_built.objects c.with_objects.ensures c.from_vec-slots.result c.in-Ok-gather_bytes.ensures.at_hand.slots'))
    (subst (IsNonDecreasingBy (λ (w : SlotWanted). w.ino)) (sym c.from_vec-slots.ensures) c.in-Ok.ensures.order)

pub returns-in-Ok-blocks_of_built-clause-slots : goal.returns-in-Ok-blocks_of_built-clause-slots
returns-in-Ok-blocks_of_built-clause-slots g c =
    slots_below c.in-Ok-gather_bytes.bytes c.with_objects.result c.in-Ok-blocks_of_built.objects c.with_objects.ensures c.from_vec-slots.result c.in-Ok-gather_bytes.ensures.at_hand.slots'
    ∙ c.from_vec-slots.ensures ∙ c.in-Ok.ensures.slots ∙ ap (with_changes _) c.as_slice-before.ensures

pub returns-in-Ok-blocks_of_built-clause-at_hand : goal.returns-in-Ok-blocks_of_built-clause-at_hand
returns-in-Ok-blocks_of_built-clause-at_hand g c =
    hand_below c.in-Ok-gather_bytes.bytes c.with_objects.result c.in-Ok-blocks_of_built.objects c.with_objects.ensures
    c.args.chosen.now.geometry c.args.chosen.now.sector c.args.stamp.now c.as_slice.result.now c.args.asked.now.kept.clusters c.from_vec-slots.result c.as_slice.ensures
    c.in-Ok-gather_bytes.ensures.at_hand

pub returns-in-Ok-blocks_of_built-clause-objects : goal.returns-in-Ok-blocks_of_built-clause-objects
returns-in-Ok-blocks_of_built-clause-objects g c =
    ap (λ b. b.objects) c.with_objects.ensures ∙ c.in-Ok-blocks_of_built.ensures ∙ ap blocks_of_built c.as_slice-3.ensures

pub returns-in-Ok-blocks_of_built-clause-read : goal.returns-in-Ok-blocks_of_built-clause-read
returns-in-Ok-blocks_of_built-clause-read g c =
    read_below c.in-Ok-gather_bytes.bytes c.with_objects.result c.in-Ok-blocks_of_built.objects c.with_objects.ensures
    c.args.chosen.now.geometry c.args.asked.now.kept c.as_slice-seen.result.now c.args.asked.now.seen c.args.asked.now.log
    (g.D.Disk.holds c.args.disk.now) (g.D.Disk.holds c.kept_numbers.new.disk) c.in-Ok-kept_numbers.numbers.items c.as_slice-2.result.now
    c.as_slice-seen.ensures c.kept_numbers.ensures.disk.same_contents c.as_slice-2.ensures.value
    c.in-Ok-kept_numbers.ensures.numbers c.in-Ok-gather_bytes.ensures.read

pub returns-in-Ok-blocks_of_built-clause-disk : goal.returns-in-Ok-blocks_of_built-clause-disk
returns-in-Ok-blocks_of_built-clause-disk g c =
    let D = g.D.Disk in
    reads_on D.size D.holds D.write_faults D.writes D.tells_stops D.moment D.may_leave D.left_since c.args.disk.now c.kept_numbers.new.disk c.gather_bytes.new.disk
    c.kept_numbers.ensures.disk c.gather_bytes.ensures.disk

pub kept_numbers-requires-clause-files : goal.kept_numbers-requires-clause-files
kept_numbers-requires-clause-files g c = c.requires.files

pub kept_numbers-requires-clause-clusters : goal.kept_numbers-requires-clause-clusters
kept_numbers-requires-clause-clusters g c = c.requires.clusters

pub returns-in-Ok-blocks_of_built-clause-refused : goal.returns-in-Ok-blocks_of_built-clause-refused
returns-in-Ok-blocks_of_built-clause-refused g c = tt

pub returns-in-Ok-blocks_of_built-clause-cause : goal.returns-in-Ok-blocks_of_built-clause-cause
returns-in-Ok-blocks_of_built-clause-cause g c =
    let D = g.D.Disk in
    let first : D.faults c.args.disk.now ≤ D.faults c.kept_numbers.new.disk = c.in-Ok-kept_numbers.ensures.cause in
    let then : D.faults c.kept_numbers.new.disk ≤ D.faults c.gather_bytes.new.disk = c.in-Ok-gather_bytes.ensures.cause in
    omega (arith, first, then)

pub returns-in-Err : goal.returns-in-Err
returns-in-Err g c =
    let D = g.D.Disk in
    record {
      order = tt;
      slots = tt;
      at_hand = tt;
      objects = tt;
      read = tt;
      refused = tt;
      cause = omega arith;
      disk = reads_none D.size D.holds D.write_faults D.writes D.tells_stops D.moment D.may_leave D.left_since c.args.disk.now;
    }

pub returns-in-Err-kept_numbers : goal.returns-in-Err-kept_numbers
returns-in-Err-kept_numbers g c =
    let is = c.in-Err-kept_numbers.ensures in
    record { order = tt; slots = tt; at_hand = tt; objects = tt; read = tt; refused = is.refused; cause = is.cause; disk = is.disk }

pub returns-in-Err-gather_bytes : goal.returns-in-Err-gather_bytes
returns-in-Err-gather_bytes g c =
    let D = g.D.Disk in
    let is = c.in-Err-gather_bytes.ensures in
    record {
      order = tt;
      slots = tt;
      at_hand = tt;
      objects = tt;
      read = tt;
      refused = is.refused;
      cause = cause_on {A = ℕ} (D.faults c.args.disk.now) (D.faults c.kept_numbers.new.disk) (D.faults c.gather_bytes.new.disk) (Err c.in-Err-gather_bytes.fault)
          c.in-Ok-kept_numbers.ensures.cause is.cause;
      disk = reads_on D.size D.holds D.write_faults D.writes D.tells_stops D.moment D.may_leave D.left_since c.args.disk.now c.kept_numbers.new.disk c.gather_bytes.new.disk c.in-Ok-kept_numbers.ensures.disk is.disk;
    }

pub returns : goal.returns
returns g c =
    let D = g.D.Disk in
    let first : D.faults c.args.disk.now ≤ D.faults c.kept_numbers.new.disk = c.in-Ok-kept_numbers.ensures.cause in
    let then : D.faults c.kept_numbers.new.disk ≤ D.faults c.gather_bytes.new.disk = c.in-Ok-gather_bytes.ensures.cause in
    record {
      order = tt;
      slots = tt;
      at_hand = tt;
      objects = tt;
      read = tt;
      refused = tt;
      cause = omega (arith, first, then);
      disk = reads_on D.size D.holds D.write_faults D.writes D.tells_stops D.moment D.may_leave D.left_since c.args.disk.now c.kept_numbers.new.disk c.gather_bytes.new.disk c.in-Ok-kept_numbers.ensures.disk c.in-Ok-gather_bytes.ensures.disk;
    }
