use Rattle.xfs_filled.proofs.Planned.{can_keep, can_write, why}
use Rattle.xfs_filled.proofs.planning.plan_wanted.Goals as goal

pub chunks_are_few-requires : goal.chunks_are_few-requires
chunks_are_few-requires g c =
    can_write c.args.site.now.geometry.now c.args.site.now.starts.now c.args.site.now.nodes.now c.args.site.now.contents.now c.args.site.now.directories.now c.args.site.now.order.now c.requires.site c.requires.chunk c.requires.starts c.args.wanted.now c.requires.wanted

pub place-requires-clause-kept : goal.place-requires-clause-kept
place-requires-clause-kept g c =
    can_keep c.args.site.now.geometry.now c.args.site.now.starts.now c.args.site.now.nodes.now c.args.site.now.contents.now c.args.site.now.directories.now c.args.site.now.order.now c.requires.site c.requires.chunk c.requires.starts c.args.wanted.now c.requires.wanted

pub place-requires-clause-asks : goal.place-requires-clause-asks
place-requires-clause-asks g c =
    (can_write c.args.site.now.geometry.now c.args.site.now.starts.now c.args.site.now.nodes.now c.args.site.now.contents.now c.args.site.now.directories.now c.args.site.now.order.now c.requires.site c.requires.chunk c.requires.starts c.args.wanted.now c.requires.wanted).asks

pub place-requires-clause-inodes : goal.place-requires-clause-inodes
place-requires-clause-inodes g c =
    (can_write c.args.site.now.geometry.now c.args.site.now.starts.now c.args.site.now.nodes.now c.args.site.now.contents.now c.args.site.now.directories.now c.args.site.now.order.now c.requires.site c.requires.chunk c.requires.starts c.args.wanted.now c.requires.wanted).inodes

pub returns-in-Err-clause-cause : goal.returns-in-Err-clause-cause
returns-in-Err-clause-cause g c =
    why c.args.site.now.geometry.now c.args.site.now.starts.now c.args.site.now.nodes.now c.args.site.now.contents.now c.args.site.now.directories.now c.args.site.now.order.now c.requires.site c.requires.chunk c.requires.starts c.args.wanted.now c.requires.wanted c.in-Err.fault c.in-Err.ensures.cause

pub plan_placed-requires-clause-stands : goal.plan_placed-requires-clause-stands
plan_placed-requires-clause-stands g c = λ κs lives.
    record {
      runs' = c.in-Ok.ensures.runs;
      groups' = c.in-Ok.ensures.groups;
      apart = c.in-Ok.ensures.apart;
      pool = c.in-Ok.ensures.pool;
      counts' = c.in-Ok.ensures.counts;
    }

pub plan_placed-requires-clause-site : goal.plan_placed-requires-clause-site
plan_placed-requires-clause-site g c = λ κs lives. c.requires.site

pub plan_placed-requires-clause-accepted : goal.plan_placed-requires-clause-accepted
plan_placed-requires-clause-accepted g c = λ κs lives. c.requires.accepted

pub plan_placed-requires-clause-states : goal.plan_placed-requires-clause-states
plan_placed-requires-clause-states g c = λ κs lives. c.requires.states

pub plan_placed-requires-clause-chunk : goal.plan_placed-requires-clause-chunk
plan_placed-requires-clause-chunk g c = λ κs lives. c.requires.chunk

pub plan_placed-requires-clause-starts : goal.plan_placed-requires-clause-starts
plan_placed-requires-clause-starts g c = λ κs lives. c.requires.starts

pub plan_placed-requires-clause-wanted : goal.plan_placed-requires-clause-wanted
plan_placed-requires-clause-wanted g c = λ κs lives. c.requires.wanted

pub returns-in-Ok : goal.returns-in-Ok
returns-in-Ok g c = record {
  rendered = c.plan_placed.ensures.rendered;
  inside = c.plan_placed.ensures.inside;
  held = c.plan_placed.ensures.held;
  room = c.plan_placed.ensures.room;
  cause = c.plan_placed.ensures.cause;
}

pub returns-in-Err-clause-rendered : goal.returns-in-Err-clause-rendered
returns-in-Err-clause-rendered g c = tt

pub returns-in-Err-clause-inside : goal.returns-in-Err-clause-inside
returns-in-Err-clause-inside g c = tt

pub returns-in-Err-clause-held : goal.returns-in-Err-clause-held
returns-in-Err-clause-held g c = tt

pub returns-in-Err-clause-room : goal.returns-in-Err-clause-room
returns-in-Err-clause-room g c = tt
