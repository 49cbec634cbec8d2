use Rattle.std.proofs.lemmas.Result.{IfOk-weaker}
use Rattle.xfs_proto.proofs.Exact.{is_protofile, is_none}
use Rattle.xfs_proto.proofs.Offending.{lacks, offends}
use Rattle.xfs_proto.proofs.scanning.read_proto.Goals as goal

pub returns-clause-grammar : goal.returns-clause-grammar
returns-clause-grammar c = IfOk-weaker c.read_nodes.result _ _ (λ proto says. is_protofile c.args.text.now proto.nodes says) c.read_nodes.ensures.nodes

pub returns-clause-refused : goal.returns-clause-refused
returns-clause-refused c = λ line reason nodes bad proto. is_none c.args.text.now nodes line reason proto (rw bad at c.read_nodes.ensures.refusal)

pub returns-clause-lacking : goal.returns-clause-lacking
returns-clause-lacking c = λ line bad. lacks c.args.text.now line (rw bad at c.read_nodes.ensures.refusal)

pub returns-clause-offending : goal.returns-clause-offending
returns-clause-offending c = λ line reason bad other. offends c.args.text.now line reason (rw bad at c.read_nodes.ensures.refusal) other
