use Rattle.std.proofs.Common.{◌≡◌, ◌∙◌, [], Some, None, refl, arith}
use Rattle.xfs_disk.proofs.Reading.{reads_none}
use Rattle.xfs_geom.specs.Election.{votes_below}
use Rattle.xfs_geom.specs.Electing.{vote_of}
use Rattle.xfs_geom.proofs.Decided.{due_is, stopped}
use Rattle.xfs_geom.proofs.election.elect_backup.Goals as goal

pub loop-place-init : goal.loop-place-init
unfolding votes_below
loop-place-init g c =
    record {
      polled = record { votes = []; counted = c.new-poll.ensures c.args.size; told = λ image told. refl };
      later = omega arith;
      disk = let D = g.D.Disk in reads_none D.size D.holds D.write_faults D.writes D.tells_stops D.moment D.may_leave D.left_since c.args.disk.now;
      reads = omega arith;
    }

pub returns-in-Err-clause-due : goal.returns-in-Err-clause-due
returns-in-Err-clause-due g c = λ image told. stopped _ c.in-Err.fault c.in-Err.ensures.fault

pub returns-in-Some-clause-due : goal.returns-in-Some-clause-due
returns-in-Some-clause-due g c = λ image told.
    let polled = c.loop-place.invariant.polled in
    let last : c.loop-place.place ≡ c.args.size = omega arith in
    due_is image c.args.size c.loop-place.place polled.votes (Some (vote_of c.in-Some.elected)) last
    (polled.told image (c.loop-place.invariant.disk.same_contents ∙ told))
    (c.in-Some.ensures c.args.size c.loop-place.place polled.votes polled.counted).winner

pub returns-in-Some-clause-accepted : goal.returns-in-Some-clause-accepted
returns-in-Some-clause-accepted g c =
    let polled = c.loop-place.invariant.polled in
    (c.in-Some.ensures c.args.size c.loop-place.place polled.votes polled.counted).accepted

pub returns-in-Some-clause-states : goal.returns-in-Some-clause-states
returns-in-Some-clause-states g c =
    let polled = c.loop-place.invariant.polled in
    (c.in-Some.ensures c.args.size c.loop-place.place polled.votes polled.counted).states

pub returns-in-Some-clause-inside : goal.returns-in-Some-clause-inside
returns-in-Some-clause-inside g c =
    let polled = c.loop-place.invariant.polled in
    (c.in-Some.ensures c.args.size c.loop-place.place polled.votes polled.counted).inside

pub returns-clause-due : goal.returns-clause-due
returns-clause-due g c = λ image told.
    let polled = c.loop-place.invariant.polled in
    let last : c.loop-place.place ≡ c.args.size = omega arith in
    due_is image c.args.size c.loop-place.place polled.votes None last
    (polled.told image (c.loop-place.invariant.disk.same_contents ∙ told))
    (c.in-None.ensures c.args.size c.loop-place.place polled.votes polled.counted)
