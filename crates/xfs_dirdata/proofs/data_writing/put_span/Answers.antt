use Rattle.std.proofs.Common.{rules}
use Rattle.xfs_dirdata.proofs.Marks.{marked}
use Rattle.xfs_dirdata.proofs.data_writing.put_span.Goals as goal

pub returns-clause-unused : goal.returns-clause-unused
returns-clause-unused c = record {
  mark = marked _ _ (search rules);
  long = search rules;
  rest = search rules;
  tag = search rules;
}
