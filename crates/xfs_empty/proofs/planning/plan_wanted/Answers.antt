use Rattle.xfs_empty.proofs.Planned.{planned_low}
use Rattle.xfs_empty.proofs.Room.{has_room}
use Rattle.xfs_empty.proofs.planning.plan_wanted.Goals as goal

pub place-requires-clause-asks : goal.place-requires-clause-asks
place-requires-clause-asks g c = c.requires.writable.asks

pub returns-in-Ok-clause-rendered : goal.returns-in-Ok-clause-rendered
returns-in-Ok-clause-rendered g c =
    record {
      placed = c.in_ok-placed.placed;
      stands = record {
        runs' = c.in_ok-placed.ensures.runs;
        groups' = c.in_ok-placed.ensures.groups;
        apart = c.in_ok-placed.ensures.apart;
        pool = c.in_ok-placed.ensures.pool;
        counts' = c.in_ok-placed.ensures.counts;
      };
      rendered = c.in-Ok.ensures;
    }

pub returns-in-Ok-clause-inside : goal.returns-in-Ok-clause-inside
returns-in-Ok-clause-inside g c =
    planned_low c.args.wanted.now c.in_ok-placed.placed c.args.bytes.now c.in-Ok.plan c.placed_is_ready.ensures c.in-Ok.ensures

pub returns-in-Ok-clause-held : goal.returns-in-Ok-clause-held
returns-in-Ok-clause-held g c = c.in-Ok.ensures.inside

pub returns-in-Ok-clause-room : goal.returns-in-Ok-clause-room
returns-in-Ok-clause-room g c =
    has_room c.args.wanted.now c.in_ok-placed.placed
    (record {
      runs' = c.in_ok-placed.ensures.runs;
      groups' = c.in_ok-placed.ensures.groups;
      apart = c.in_ok-placed.ensures.apart;
      pool = c.in_ok-placed.ensures.pool;
      counts' = c.in_ok-placed.ensures.counts;
    })
