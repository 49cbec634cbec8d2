use Rattle.std.proofs.Common.{map, sym, subst, ap, ◌∙◌, take_all}
use Rattle.std.proofs.lemmas.Result.{IfOk-from_err}
use Rattle.xfs_names.specs.Private.Targets.{AreTargets}
use Rattle.xfs_names.specs.Wanted.{with_links}
use Rattle.xfs_names.proofs.Looped.{linked_more}
use Rattle.xfs_names.proofs.linking.all_links.Goals as goal

pub link_count-requires-clause-nodes : goal.link_count-requires-clause-nodes
link_count-requires-clause-nodes c = c.requires.nodes

pub link_count-requires-clause-entries : goal.link_count-requires-clause-entries
link_count-requires-clause-entries c = c.requires.entries

pub link_count-requires-clause-few : goal.link_count-requires-clause-few
link_count-requires-clause-few c = c.requires.few

pub link_count-requires-clause-targets : goal.link_count-requires-clause-targets
link_count-requires-clause-targets c = subst (AreTargets c.args.entries.now) (sym c.deref.ensures.value) c.in_ok-targets.ensures

pub link_count-requires-clause-root : goal.link_count-requires-clause-root
link_count-requires-clause-root c = c.requires.root

pub returns-in_err-targets : goal.returns-in_err-targets
returns-in_err-targets c = IfOk-from_err c.from_residual.result _ c.from_residual.ensures.0

pub returns-in_err-all : goal.returns-in_err-all
returns-in_err-all c = IfOk-from_err c.from_residual-in_err-all.result _ c.from_residual-in_err-all.ensures.0

pub returns-in_err-push : goal.returns-in_err-push
returns-in_err-push c = IfOk-from_err c.from_residual-in_err-push.result _ c.from_residual-in_err-push.ensures.0

pub loop-node-preserved : goal.loop-node-preserved
loop-node-preserved c =
    linked_more c.args.nodes.now c.args.entries.now c.args.root c.loop-node.all.items c.push.new.self.items c.loop-node.node-index _ c.link_count.result
    c.loop-node-test.true c.loop-node.invariant c.link_count.ensures c.in_ok-push.ensures.items

pub returns : goal.returns
returns c =
    c.from_vec.ensures ∙ c.loop-node.invariant
    ∙ ap (map (with_links c.args.nodes.now c.args.entries.now c.args.root)) (take_all c.loop-node.node-index c.args.nodes.now c.loop-node-test.false)
