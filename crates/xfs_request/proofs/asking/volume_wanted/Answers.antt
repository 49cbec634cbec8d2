use Rattle.std.proofs.Common.{[], false, ◌∙◌}
use Rattle.std.proofs.lemmas.Result.{IfOk-from_err}
use Rattle.xfs_request.specs.Requests.{volume_wanted}
use Rattle.xfs_request.proofs.asking.volume_wanted.Goals as goal

pub taken_runs-requires : goal.taken_runs-requires
taken_runs-requires c = c.requires.forks

pub inodes_wanted-requires : goal.inodes_wanted-requires
inodes_wanted-requires c = record { files = c.requires.files; clusters = c.requires.clusters }

pub returns-in_err-taken : goal.returns-in_err-taken
returns-in_err-taken c = IfOk-from_err c.from_residual.result _ c.from_residual.ensures.0

pub returns-in_err-inodes : goal.returns-in_err-inodes
returns-in_err-inodes c = IfOk-from_err c.from_residual-in_err-inodes.result _ c.from_residual-in_err-inodes.ensures.0

pub returns : goal.returns
unfolding volume_wanted
returns c = c.joined.ensures ∙ (λ i. record {
  geometry = c.args.g.now;
  taken = c.in_ok-taken.ensures i;
  new = [];
  reserved = c.args.reserved;
  from = 0;
  spared_from = [];
  takes_spared = false;
  objects = [];
  inodes = c.in_ok-inodes.ensures i;
})
