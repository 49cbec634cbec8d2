use Rattle.std.proofs.Common.{length, arith, subst, ap, ◌∙◌}
use Rattle.std.proofs.lemmas.List.{get_or_default}
use Rattle.xfs_proto.specs.declared.protofile.ProtoKind.TheVariants as Kind
use Rattle.xfs_proto.specs.declared.protofile.ProtoNode.{ProtoNode}
use Rattle.xfs_filled.specs.FileTrees.{CanHold, no_proto_node}
use Rattle.xfs_filled.proofs.contents.push_file.Goals as goal

pub push_target-requires : goal.push_target-requires
push_target-requires c =
    let ns = c.args.site.now.nodes.now in
    let k = c.args.k in
    let can : CanHold (Kind.Link c.in-Link.target) =
    subst CanHold (ap (λ (x : ProtoNode). x.kind) (get_or_default ns k no_proto_node c.index-site-k.result c.requires.inside) ∙ c.in-Link.is) (c.requires.site.files.contents k c.requires.inside) in
    let few = can.1 in
    let long = ap length c.bytes.ensures in
    omega (arith, few, long)

pub content_at-requires-clause-site : goal.content_at-requires-clause-site
content_at-requires-clause-site c = c.requires.site

pub content_at-requires-clause-inside : goal.content_at-requires-clause-inside
content_at-requires-clause-inside c = c.requires.inside

pub directory_at-requires-clause-site : goal.directory_at-requires-clause-site
directory_at-requires-clause-site c = c.requires.site

pub directory_at-requires-clause-inside : goal.directory_at-requires-clause-inside
directory_at-requires-clause-inside c = c.requires.inside
