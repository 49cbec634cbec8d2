use Rattle.std.proofs.Common.{refl}
use Rattle.std.proofs.lemmas.Result.{IfOk-from_err}
use Rattle.xfs_geom.specs.Volumes.{volume_of}
use Rattle.xfs_rounds.specs.Named.{IsNaming}
use Rattle.xfs_rounds.proofs.Numbering.{last_is, more_by, one_longer}
use Rattle.xfs_rounds.proofs.naming.push_slot.Goals as goal

pub needs_of-requires : goal.needs_of-requires
needs_of-requires c = record { slot = c.requires.slot; read = c.requires.itself }

pub returns-in_err-needs : goal.returns-in_err-needs
returns-in_err-needs c =
    record {
      count = IfOk-from_err c.from_residual.result _ c.from_residual.ensures.0;
      naming = IfOk-from_err c.from_residual.result _ c.from_residual.ensures.0;
      more = IfOk-from_err c.from_residual.result _ c.from_residual.ensures.0;
      within = IfOk-from_err c.from_residual.result _ c.from_residual.ensures.0;
    }

pub returns-in_err-leaf_at : goal.returns-in_err-leaf_at
returns-in_err-leaf_at c =
    record {
      count = IfOk-from_err c.from_residual-in_err-leaf_at.result _ c.from_residual-in_err-leaf_at.ensures.0;
      naming = IfOk-from_err c.from_residual-in_err-leaf_at.result _ c.from_residual-in_err-leaf_at.ensures.0;
      more = IfOk-from_err c.from_residual-in_err-leaf_at.result _ c.from_residual-in_err-leaf_at.ensures.0;
      within = IfOk-from_err c.from_residual-in_err-leaf_at.result _ c.from_residual-in_err-leaf_at.ensures.0;
    }

pub returns-in_err-link_at : goal.returns-in_err-link_at
returns-in_err-link_at c =
    record {
      count = IfOk-from_err c.from_residual-in_err-link_at.result _ c.from_residual-in_err-link_at.ensures.0;
      naming = IfOk-from_err c.from_residual-in_err-link_at.result _ c.from_residual-in_err-link_at.ensures.0;
      more = IfOk-from_err c.from_residual-in_err-link_at.result _ c.from_residual-in_err-link_at.ensures.0;
      within = IfOk-from_err c.from_residual-in_err-link_at.result _ c.from_residual-in_err-link_at.ensures.0;
    }

pub returns-in_err-push : goal.returns-in_err-push
returns-in_err-push c =
    record {
      count = IfOk-from_err c.from_residual-in_err-push.result _ c.from_residual-in_err-push.ensures.0;
      naming = IfOk-from_err c.from_residual-in_err-push.result _ c.from_residual-in_err-push.ensures.0;
      more = IfOk-from_err c.from_residual-in_err-push.result _ c.from_residual-in_err-push.ensures.0;
      within = IfOk-from_err c.from_residual-in_err-push.result _ c.from_residual-in_err-push.ensures.0;
    }

pub returns-clause-naming : goal.returns-clause-naming
returns-clause-naming c = λ d.
    last_is (IsNaming (volume_of c.args.g.now) c.push_block.new.blocks.items c.push_block-2.new.blocks.items c.args.ino c.args.slot.now) c.args.named.now.slots.items c.push.new.self.items _ d
    c.in_ok-push.ensures.items (record {
      inode = refl;
      read = c.requires.itself;
      top = c.in_ok-needs.ensures.top;
      attr_leaf = c.in_ok-needs.ensures.attr_leaf;
      link = c.in_ok-needs.ensures.link;
      leaf_at = c.in_ok-leaf_at.ensures.at;
      link_at = c.in_ok-link_at.ensures.at;
    })

pub returns-clause-more : goal.returns-clause-more
returns-clause-more c = more_by c.args.named.now _ _ _ _ c.in_ok-push.ensures.items c.in_ok-leaf_at.ensures.more c.in_ok-link_at.ensures.more

pub returns-clause-within : goal.returns-clause-within
returns-clause-within c =
    record {
      leaves = c.in_ok-leaf_at.ensures.within c.args.g.now.dblocks c.requires.within.leaves c.in_ok-needs.ensures.attr_inside;
      links = c.in_ok-link_at.ensures.within c.args.g.now.dblocks c.requires.within.links c.in_ok-needs.ensures.link_inside;
    }

pub returns-clause-count : goal.returns-clause-count
returns-clause-count c = one_longer c.args.named.now.slots.items c.push.new.self.items _ c.in_ok-push.ensures.items
