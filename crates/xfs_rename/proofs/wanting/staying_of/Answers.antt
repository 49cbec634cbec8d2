use Rattle.std.proofs.Common.{ℕ, List, ap, ◌∙◌}
use Rattle.std.proofs.lemmas.Result.{IfOk-from_err}
use Rattle.xfs_rename.specs.Settled.{fresh_with, staying_files}
use Rattle.xfs_rename.proofs.wanting.staying_of.Goals as goal

pub staying_files-files-requires : goal.staying_files-files-requires
staying_files-files-requires c = record { rebuilt = c.requires.rebuilt }

pub returns-in_err-fresh : goal.returns-in_err-fresh
returns-in_err-fresh c = IfOk-from_err c.from_residual.result _ c.from_residual.ensures.0

pub returns : goal.returns
returns c = λ i. record {
  clusters = c.args.clusters;
  files = (c.from_vec.ensures ∙ c.staying_files-files.ensures ∙ (λ j. staying_files c.args.rebuilt.now (c.as_slice.ensures j) (c.into_vec.ensures j))) i;
  fresh = (c.from_vec-2.ensures ∙ c.in_ok-fresh.ensures ∙ ap (fresh_with c.args.lost.now) c.into_vec-2.ensures) i;
  entries = (c.from_vec-3.ensures ∙ c.new.ensures.items) i;
  dirs = (c.from_vec-4.ensures ∙ c.new-2.ensures.items) i;
}
