use Rattle.std.proofs.Common.{ℕ, ◌<◌, ◌≤◌, List, length, get_or, sym, subst, ◌∙◌}
use Rattle.xfs_dirindex.specs.declared.data.Best.{Best}
use Rattle.xfs_dirindex.proofs.Split.{bests-rise}
use Rattle.xfs_dirindex.proofs.node.check_node.Goals as goal

pub are_free-requires-clause-rise : goal.are_free-requires-clause-rise
are_free-requires-clause-rise c =
    subst (λ (xs : List Best). (i j : ℕ) (d : Best) → i ≤ j → j < length xs → (get_or xs i d).offset ≤ (get_or xs j d).offset) (sym (c.deref-3.ensures.value ∙ c.in-Ok.ensures.bests))
    (bests-rise c.args.dir.now.dir c.args.dir.now.offsets.items c.args.dir.now.blocks c.requires.ascending)
