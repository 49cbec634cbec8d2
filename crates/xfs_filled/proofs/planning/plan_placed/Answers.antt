use Rattle.std.proofs.Common.{List, sym, subst, ap, ◌∙◌, inl, refl}
use Rattle.std.specs.List.{All}
use Rattle.xfs_geom.specs.Volumes.{volume_of}
use Rattle.xfs_geom.specs.declared.records.Run.{Run}
use Rattle.xfs_place.specs.Pool.{IsRunOf}
use Rattle.xfs_filled.specs.FileTrees.{object_order}
use Rattle.xfs_filled.specs.Forks.{HasOffset}
use Rattle.xfs_filled.specs.Spans.{AreRunsOf}
use Rattle.xfs_filled.specs.Wanting.{bytes_with}
use Rattle.xfs_filled.proofs.Planned.{runs_inside, runs_offset, runs_stand}
use Rattle.xfs_filled.proofs.planning.plan_placed.Goals as goal

pub make_bytes-requires-clause-inside : goal.make_bytes-requires-clause-inside
make_bytes-requires-clause-inside g c =
    subst (All (IsRunOf c.args.site.now.geometry.now.dblocks)) (sym c.as_slice.ensures)
    (runs_inside c.args.site.now.geometry.now c.args.site.now.starts.now c.args.site.now.nodes.now c.args.site.now.contents.now c.args.site.now.directories.now c.args.site.now.order.now c.requires.site c.requires.chunk c.requires.starts c.args.wanted.now c.requires.wanted c.args.placed.now.runs c.requires.stands.apart)

pub make_bytes-requires-clause-offsets : goal.make_bytes-requires-clause-offsets
make_bytes-requires-clause-offsets g c =
    subst (All HasOffset) (sym c.as_slice.ensures)
    (runs_offset c.args.site.now.geometry.now c.args.site.now.starts.now c.args.site.now.nodes.now c.args.site.now.contents.now c.args.site.now.directories.now c.args.site.now.order.now c.requires.site c.requires.chunk c.requires.starts c.args.wanted.now c.requires.wanted c.args.placed.now.runs c.requires.stands.apart)

pub make_bytes-requires-clause-runs : goal.make_bytes-requires-clause-runs
make_bytes-requires-clause-runs g c =
    subst (AreRunsOf (volume_of c.args.site.now.geometry.now) c.args.site.now.starts.now (object_order c.args.site.now.nodes.now)) (sym c.as_slice.ensures)
    (runs_stand c.args.site.now.geometry.now c.args.site.now.starts.now c.args.site.now.nodes.now c.args.site.now.contents.now c.args.site.now.directories.now c.args.site.now.order.now c.requires.site c.requires.chunk c.requires.starts c.args.wanted.now c.requires.wanted c.args.placed.now.runs c.requires.stands.runs')

pub plan_bytes-requires-clause-bytes : goal.plan_bytes-requires-clause-bytes
plan_bytes-requires-clause-bytes g c = λ κs lives.
    c.in-Ok.ensures
    ∙ ap (λ (runs : List Run). bytes_with c.args.site.now.geometry.now c.args.sector.now c.args.stamp.now c.args.site.now.starts.now c.args.site.now.nodes.now c.args.site.now.contents.now runs) c.as_slice.ensures

pub make_bytes-requires-clause-site : goal.make_bytes-requires-clause-site
make_bytes-requires-clause-site g c = c.requires.site

pub plan_bytes-requires-clause-site : goal.plan_bytes-requires-clause-site
plan_bytes-requires-clause-site g c = λ κs lives. c.requires.site

pub plan_bytes-requires-clause-accepted : goal.plan_bytes-requires-clause-accepted
plan_bytes-requires-clause-accepted g c = λ κs lives. c.requires.accepted

pub plan_bytes-requires-clause-states : goal.plan_bytes-requires-clause-states
plan_bytes-requires-clause-states g c = λ κs lives. c.requires.states

pub plan_bytes-requires-clause-chunk : goal.plan_bytes-requires-clause-chunk
plan_bytes-requires-clause-chunk g c = λ κs lives. c.requires.chunk

pub plan_bytes-requires-clause-starts : goal.plan_bytes-requires-clause-starts
plan_bytes-requires-clause-starts g c = λ κs lives. c.requires.starts

pub plan_bytes-requires-clause-wanted : goal.plan_bytes-requires-clause-wanted
plan_bytes-requires-clause-wanted g c = λ κs lives. c.requires.wanted

pub plan_bytes-requires-clause-cuts : goal.plan_bytes-requires-clause-cuts
plan_bytes-requires-clause-cuts g c = λ κs lives. c.requires.cuts

pub plan_bytes-requires-clause-stands : goal.plan_bytes-requires-clause-stands
plan_bytes-requires-clause-stands g c = λ κs lives. c.requires.stands

pub returns-in-Ok : goal.returns-in-Ok
returns-in-Ok g c = record {
  rendered = c.plan_bytes.ensures.rendered;
  inside = c.plan_bytes.ensures.inside;
  held = c.plan_bytes.ensures.held;
  room = c.plan_bytes.ensures.room;
  cause = c.plan_bytes.ensures.cause;
}

pub returns-in-Err : goal.returns-in-Err
returns-in-Err g c = record {
  rendered = tt;
  inside = tt;
  held = tt;
  room = tt;
  cause = inl refl;
}
