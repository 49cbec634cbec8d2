use Rattle.std.proofs.Common.{◌∙◌, inl, refl}
use Rattle.std.proofs.lemmas.Result.{IfOk-from_err}
use Rattle.xfs_filled.proofs.planning.plan_site.Goals as goal

pub make_wanted-requires-clause-spared : goal.make_wanted-requires-clause-spared
make_wanted-requires-clause-spared g c =
    c.from_vec.ensures ∙ c.in_ok-spared.ensures.items ∙ c.requires.spared

pub returns-in_err-spared-clause-rendered : goal.returns-in_err-spared-clause-rendered
returns-in_err-spared-clause-rendered g c = IfOk-from_err c.from_residual.result _ c.from_residual.ensures.0

pub returns-in_err-spared-clause-inside : goal.returns-in_err-spared-clause-inside
returns-in_err-spared-clause-inside g c = IfOk-from_err c.from_residual.result _ c.from_residual.ensures.0

pub returns-in_err-spared-clause-held : goal.returns-in_err-spared-clause-held
returns-in_err-spared-clause-held g c = IfOk-from_err c.from_residual.result _ c.from_residual.ensures.0

pub returns-in_err-spared-clause-room : goal.returns-in_err-spared-clause-room
returns-in_err-spared-clause-room g c = IfOk-from_err c.from_residual.result _ c.from_residual.ensures.0

pub make_wanted-requires-clause-site : goal.make_wanted-requires-clause-site
make_wanted-requires-clause-site g c = c.requires.site

pub plan_wanted-requires-clause-site : goal.plan_wanted-requires-clause-site
plan_wanted-requires-clause-site g c = λ κs lives. c.requires.site

pub plan_wanted-requires-clause-accepted : goal.plan_wanted-requires-clause-accepted
plan_wanted-requires-clause-accepted g c = λ κs lives. c.requires.accepted

pub plan_wanted-requires-clause-states : goal.plan_wanted-requires-clause-states
plan_wanted-requires-clause-states g c = λ κs lives. c.requires.states

pub plan_wanted-requires-clause-chunk : goal.plan_wanted-requires-clause-chunk
plan_wanted-requires-clause-chunk g c = λ κs lives. c.requires.chunk

pub plan_wanted-requires-clause-starts : goal.plan_wanted-requires-clause-starts
plan_wanted-requires-clause-starts g c = λ κs lives. c.requires.starts

pub plan_wanted-requires-clause-wanted : goal.plan_wanted-requires-clause-wanted
plan_wanted-requires-clause-wanted g c = λ κs lives. c.in-Ok.ensures

pub returns-in-Ok : goal.returns-in-Ok
returns-in-Ok g c = record {
  rendered = c.plan_wanted.ensures.rendered;
  inside = c.plan_wanted.ensures.inside;
  held = c.plan_wanted.ensures.held;
  room = c.plan_wanted.ensures.room;
  cause = c.plan_wanted.ensures.cause;
}

pub returns-in-Err : goal.returns-in-Err
returns-in-Err g c = record {
  rendered = tt;
  inside = tt;
  held = tt;
  room = tt;
  cause = inl refl;
}
