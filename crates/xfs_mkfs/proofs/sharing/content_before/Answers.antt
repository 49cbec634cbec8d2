use Rattle.std.proofs.Common.{sym, ◌∙◌, arith, rules}
use Rattle.xfs_mkfs.proofs.Shared.{content_was_read}
use Rattle.xfs_mkfs.proofs.sharing.content_before.Goals as goal

pub returns : goal.returns
returns c =
    content_was_read c.args.nodes.now c.args.contents.now c.args.k c.args.first c.in_ok-bytes.bytes c.index-contents-first.result c.index-nodes-first.result c.index-nodes-k.result
    c.requires.inside c.requires.few (omega (arith, c.if-first-contents.false)) (sym c.have_one_name.ensures ∙ c.if-not-have_one_name.false) (search rules)
