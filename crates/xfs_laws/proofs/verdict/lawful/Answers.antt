use Rattle.std.proofs.Common.{sym, ◌∙◌}
use Rattle.xfs_laws.specs.Lawful.{broken_law, laws_of}
use Rattle.xfs_volume.proofs.First.{first_differs}
use Rattle.xfs_laws.proofs.Firsts.{all_kept}
use Rattle.xfs_laws.proofs.verdict.lawful.Goals as goal

pub returns-in-Ok-None-clause-kept : goal.returns-in-Ok-None-clause-kept
unfolding broken_law
returns-in-Ok-None-clause-kept g c = all_kept (laws_of c.args.catalog.now) (sym c.in-Ok-None.ensures.law ∙ c.in-Ok-None.field-0-is)

pub returns-in-Ok-Some-clause-differs : goal.returns-in-Ok-Some-clause-differs
unfolding broken_law
returns-in-Ok-Some-clause-differs g c = first_differs (laws_of c.args.catalog.now) c.in-Ok-Some.law (sym c.in-Ok-Some.ensures.law ∙ c.in-Ok-Some.field-0-is)
