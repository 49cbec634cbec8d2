use lib.Pointwise.{bytes_decides}
use Rattle.std.proofs.Common.{ℕ, List, sym, ap, ◌∙◌}
use Rattle.xfs_disk.specs.Lists.{is_among}
use Rattle.xfs_groups.proofs.BlockSets.{both_added, ok_then, one_twice}
use Rattle.xfs_groups.proofs.sets.BlockList.add_both.Goals as goal

pub returns-then-eq : goal.returns-then-eq
returns-then-eq c = λ q.
    c.in_ok-add_all.ensures q
    ∙ one_twice (is_among c.args.self.now q) (is_among c.args.xs.now q) (is_among c.args.ys.now q)
    (ap (λ (zs : List ℕ). is_among zs q) ((bytes_decides c.args.xs.now c.args.ys.now).0 (sym c.eq.ensures ∙ c.if-eq.true)))

pub returns : goal.returns
returns c =
    ok_then c.add_all-2.result (λ told q. both_added (is_among c.args.self.now q) (is_among c.add_all.new.self q) (is_among c.args.xs.now q) (is_among c.args.ys.now q) _ (c.in_ok-add_all.ensures q) (told q))
    c.add_all-2.ensures
