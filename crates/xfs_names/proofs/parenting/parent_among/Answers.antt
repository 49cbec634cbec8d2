use Rattle.std.proofs.Common.{rules}
use Rattle.std.proofs.lemmas.List.Sorted.{answers_always}
use Rattle.xfs_names.proofs.Pairs.{pair_found, pair_missing}
use Rattle.xfs_names.proofs.parenting.parent_among.Goals as goal

pub returns-in-Ok : goal.returns-in-Ok
returns-in-Ok c = pair_found c.args.parents.now c.args.dir c.in-Ok.place c.requires c.in-Ok.ensures.bound (c.in-Ok.ensures.position (λ pair. pair.0) (answers_always _ _ _ (λ f a r g called. search rules)))

pub returns-in-Err : goal.returns-in-Err
returns-in-Err c = pair_missing c.args.parents.now c.args.dir c.in-Err.field-0 c.requires (c.in-Err.ensures.position (λ pair. pair.0) (answers_always _ _ _ (λ f a r g called. search rules)))
