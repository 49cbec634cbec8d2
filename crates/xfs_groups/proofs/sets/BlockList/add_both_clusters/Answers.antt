use lib.Pointwise.{bytes_decides}
use Rattle.std.proofs.Common.{ℕ, List, sym, ap, ◌∙◌}
use Rattle.std.specs.List.{list_any}
use Rattle.xfs_disk.specs.Lists.{is_among}
use Rattle.xfs_image.specs.Claims.{is_of_cluster}
use Rattle.xfs_groups.proofs.BlockSets.{both_added, ok_then, one_twice}
use Rattle.xfs_groups.proofs.sets.BlockList.add_both_clusters.Goals as goal

pub returns-then-eq : goal.returns-then-eq
returns-then-eq c = λ q.
    c.in_ok-add_clusters.ensures q
    ∙ one_twice (is_among c.args.self.now q) (list_any (λ cluster. is_of_cluster cluster q) c.args.xs.now) (list_any (λ cluster. is_of_cluster cluster q) c.args.ys.now)
    (ap (λ (zs : List ℕ). list_any (λ cluster. is_of_cluster cluster q) zs) ((bytes_decides c.args.xs.now c.args.ys.now).0 (sym c.eq.ensures ∙ c.if-eq.true)))

pub returns : goal.returns
returns c =
    ok_then c.add_clusters-2.result (λ told q. both_added (is_among c.args.self.now q) (is_among c.add_clusters.new.self q) (list_any (λ cluster. is_of_cluster cluster q) c.args.xs.now) (list_any (λ cluster. is_of_cluster cluster q) c.args.ys.now) _ (c.in_ok-add_clusters.ensures q) (told q))
    c.add_clusters-2.ensures
