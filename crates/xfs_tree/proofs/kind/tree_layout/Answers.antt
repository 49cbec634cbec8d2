use Rattle.std.proofs.Common.{rules, ◌≡◌, sym, subst}
use Rattle.xfs_tree.specs.Layout.{IsLayout}
use Rattle.xfs_tree.specs.declared.layout.Layout.{Layout}
use Rattle.xfs_tree.proofs.kind.tree_layout.Goals as goal

pub returns-clause-sound : goal.returns-clause-sound
returns-clause-sound g c =
    let law = g.met.K.Kind g.world.𝓛 g.world.𝓜 g.world.𝓡 ((λ s x. x), (λ x. x), (λ x. x), λ x. x) in
    let layout : Layout = record {
      magic = c.MAGIC.result;
      long = c.LONG.result;
      high = c.HIGH.result;
      record_len = c.RECORD_LEN.result;
      key_len = c.KEY_LEN.result;
      leaf_cap = c.LEAF_CAP.result;
      node_cap = c.NODE_CAP.result;
    } in
    let value : layout ≡ (g.K.Kind.shape c.args.kind.now).layout = search rules in
    subst IsLayout (sym value) (law.kind c.args.kind.now).laid_out
