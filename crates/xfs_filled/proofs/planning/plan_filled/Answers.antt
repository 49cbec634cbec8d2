use Rattle.std.proofs.Common.{length, sym, subst, ap, ◌∙◌}
use Rattle.std.proofs.lemmas.Result.{IfOk-from_err}
use Rattle.std.specs.List.{All}
use Rattle.xfs_filled.specs.Directories.{IsSoundWhere}
use Rattle.xfs_filled.proofs.Sited.{placed_at}
use Rattle.xfs_filled.proofs.planning.plan_filled.Goals as goal

pub list_directories-requires-clause-placed : goal.list_directories-requires-clause-placed
list_directories-requires-clause-placed g c =
    placed_at c.args.g.now c.args.nodes.now c.as_slice-starts.result.now c.requires.chunk (c.as_slice-starts.ensures.value ∙ c.in_ok-chunks.ensures.starts)
    (ap length c.as_slice-starts.ensures.value ∙ c.in_ok-chunks.ensures.enough)

pub plan_site-requires-clause-site : goal.plan_site-requires-clause-site
plan_site-requires-clause-site g c = λ κs lives.
    record {
      placed = placed_at c.args.g.now c.args.nodes.now c.as_slice-starts.result.now c.requires.chunk (c.as_slice-starts.ensures.value ∙ c.in_ok-chunks.ensures.starts)
          (ap length c.as_slice-starts.ensures.value ∙ c.in_ok-chunks.ensures.enough);
      files = c.requires.files;
      bytes = c.requires.contents;
      built = c.deref.ensures.value ∙ c.in_ok-directories.ensures.value;
      sound = subst (All IsSoundWhere) (sym c.deref.ensures.value) c.in_ok-directories.ensures.sound;
      images = c.in_ok-directories.ensures.images;
      order' = c.deref-2.ensures.value ∙ c.in_ok-order.ensures;
    }

pub returns-in_err-chunks-clause-rendered : goal.returns-in_err-chunks-clause-rendered
returns-in_err-chunks-clause-rendered g c = IfOk-from_err c.from_residual.result _ c.from_residual.ensures.0

pub returns-in_err-chunks-clause-inside : goal.returns-in_err-chunks-clause-inside
returns-in_err-chunks-clause-inside g c = IfOk-from_err c.from_residual.result _ c.from_residual.ensures.0

pub returns-in_err-chunks-clause-held : goal.returns-in_err-chunks-clause-held
returns-in_err-chunks-clause-held g c = IfOk-from_err c.from_residual.result _ c.from_residual.ensures.0

pub returns-in_err-chunks-clause-room : goal.returns-in_err-chunks-clause-room
returns-in_err-chunks-clause-room g c = IfOk-from_err c.from_residual.result _ c.from_residual.ensures.0

pub returns-in_err-directories-clause-rendered : goal.returns-in_err-directories-clause-rendered
returns-in_err-directories-clause-rendered g c = IfOk-from_err c.from_residual-in_err-directories.result _ c.from_residual-in_err-directories.ensures.0

pub returns-in_err-directories-clause-inside : goal.returns-in_err-directories-clause-inside
returns-in_err-directories-clause-inside g c = IfOk-from_err c.from_residual-in_err-directories.result _ c.from_residual-in_err-directories.ensures.0

pub returns-in_err-directories-clause-held : goal.returns-in_err-directories-clause-held
returns-in_err-directories-clause-held g c = IfOk-from_err c.from_residual-in_err-directories.result _ c.from_residual-in_err-directories.ensures.0

pub returns-in_err-directories-clause-room : goal.returns-in_err-directories-clause-room
returns-in_err-directories-clause-room g c = IfOk-from_err c.from_residual-in_err-directories.result _ c.from_residual-in_err-directories.ensures.0

pub returns-in_err-order-clause-rendered : goal.returns-in_err-order-clause-rendered
returns-in_err-order-clause-rendered g c = IfOk-from_err c.from_residual-in_err-order.result _ c.from_residual-in_err-order.ensures.0

pub returns-in_err-order-clause-inside : goal.returns-in_err-order-clause-inside
returns-in_err-order-clause-inside g c = IfOk-from_err c.from_residual-in_err-order.result _ c.from_residual-in_err-order.ensures.0

pub returns-in_err-order-clause-held : goal.returns-in_err-order-clause-held
returns-in_err-order-clause-held g c = IfOk-from_err c.from_residual-in_err-order.result _ c.from_residual-in_err-order.ensures.0

pub returns-in_err-order-clause-room : goal.returns-in_err-order-clause-room
returns-in_err-order-clause-room g c = IfOk-from_err c.from_residual-in_err-order.result _ c.from_residual-in_err-order.ensures.0

pub list_directories-requires-clause-files : goal.list_directories-requires-clause-files
list_directories-requires-clause-files g c = c.requires.files

pub plan_site-requires-clause-accepted : goal.plan_site-requires-clause-accepted
plan_site-requires-clause-accepted g c = λ κs lives. c.requires.accepted

pub plan_site-requires-clause-states : goal.plan_site-requires-clause-states
plan_site-requires-clause-states g c = λ κs lives. c.requires.states

pub plan_site-requires-clause-chunk : goal.plan_site-requires-clause-chunk
plan_site-requires-clause-chunk g c = λ κs lives. c.requires.chunk

pub plan_site-requires-clause-starts : goal.plan_site-requires-clause-starts
plan_site-requires-clause-starts g c = λ κs lives. c.as_slice-starts.ensures.value ∙ c.in_ok-chunks.ensures.starts

pub plan_site-requires-clause-spared : goal.plan_site-requires-clause-spared
plan_site-requires-clause-spared g c = λ κs lives. c.as_slice.ensures ∙ c.in_ok-chunks.ensures.spared

pub returns-clause-rendered : goal.returns-clause-rendered
returns-clause-rendered g c = c.plan_site.ensures.rendered

pub returns-clause-inside : goal.returns-clause-inside
returns-clause-inside g c = c.plan_site.ensures.inside

pub returns-clause-held : goal.returns-clause-held
returns-clause-held g c = c.plan_site.ensures.held
