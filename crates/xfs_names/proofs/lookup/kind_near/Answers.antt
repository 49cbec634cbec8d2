use Rattle.std.proofs.Common.{rules}
use Rattle.std.proofs.lemmas.List.Sorted.{answers_always}
use Rattle.xfs_links.proofs.Files.{place_found, place_missing}
use Rattle.xfs_names.proofs.ByNumber.{kind_found, kind_missing}
use Rattle.xfs_names.proofs.lookup.kind_near.Goals as goal

pub returns-in-Ok : goal.returns-in-Ok
returns-in-Ok c =
    let at = place_found c.args.nodes.now c.args.ino c.in-Ok.place c.in-Ok.ensures.bound (c.in-Ok.ensures.position (λ node. node.ino) (answers_always _ _ _ (λ f a r g called. search rules))) in
    kind_found 0 c.args.nodes.now c.in-Ok.place c.args.ino c.requires at.0 at.1

pub returns-in-Err : goal.returns-in-Err
returns-in-Err c = kind_missing c.args.nodes.now c.args.ino
    (place_missing c.args.nodes.now c.args.ino c.in-Err.field-0 c.requires (c.in-Err.ensures.position (λ node. node.ino) (answers_always _ _ _ (λ f a r g called. search rules))))

pub returns-then-nodes-place : goal.returns-then-nodes-place
returns-then-nodes-place c = kind_found 0 c.args.nodes.now c.args.near.now c.args.ino c.requires c.if-place-nodes.true c.if-nodes-place.true
