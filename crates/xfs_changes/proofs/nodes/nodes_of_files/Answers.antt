use Rattle.std.proofs.Common.{List, [], ◌∷◌, ◌++◌, ap, ◌∙◌}
use Rattle.std.proofs.lemmas.Result.{IfOk-from_err}
use Rattle.xfs_links.specs.declared.records.NodeRec.{NodeRec}
use Rattle.xfs_names.specs.Having.{node_of}
use Rattle.xfs_changes.specs.Nodes.{nodes_of_files}
use Rattle.xfs_changes.proofs.Pushing.{items_end, items_more}
use Rattle.xfs_changes.proofs.nodes.nodes_of_files.Goals as goal

pub loop-file-init : goal.loop-file-init
loop-file-init c = ap (λ (xs : List NodeRec). xs ++ nodes_of_files c.args.files.now) c.new-nodes.ensures.items

pub loop-file-preserved : goal.loop-file-preserved
loop-file-preserved c =
    let old = c.loop-file.nodes.items in
    items_more node_of c.args.files.now c.loop-file.file-index c.file-item.result old c.push.new.self.items _ c.loop-file-test.true
    (c.in_ok-push.ensures.items ∙ ap (λ (n : NodeRec). old ++ n ∷ []) (c.node_of.ensures ∙ ap node_of c.file-item.is)) c.loop-file.invariant

pub returns : goal.returns
returns c = items_end node_of c.args.files.now c.loop-file.file-index c.loop-file.nodes.items _ c.loop-file-test.false c.loop-file.invariant

pub returns-in_err-push : goal.returns-in_err-push
returns-in_err-push c = IfOk-from_err c.from_residual.result _ c.from_residual.ensures.0
