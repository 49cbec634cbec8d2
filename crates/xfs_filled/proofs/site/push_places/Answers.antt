use Rattle.std.proofs.Common.{◌≡◌, ℕ, ◌++◌, ◌∷◌, [], List, Bool, Vec, Global, get_or, arith, sym, ap, ◌∙◌, append_assoc}
use Rattle.std.specs.List.{filter, range_with_len}
use Rattle.std.proofs.lemmas.List.{get_or_default}
use Rattle.xfs_proto.specs.declared.protofile.ProtoNode.{ProtoNode}
use Rattle.xfs_filled.specs.FileTrees.{is_of, no_proto_node, node_at}
use Rattle.xfs_filled.proofs.Lists.{filter_next, filter_same}
use Rattle.xfs_filled.proofs.site.push_places.Goals.{then-is_of+in_ok-push, else-is_of}
use Rattle.xfs_filled.proofs.site.push_places.Goals as goal

pub loop-k-preserved : goal.loop-k-preserved
loop-k-preserved c =
    let p : ℕ → Bool = λ m. is_of c.args.directories (node_at c.args.nodes.now m).kind in
    let i = c.loop-k.k in
    let old = c.args.order.now.items in
    let nodes = c.args.nodes.now in
    let at : is_of c.args.directories (get_or nodes i no_proto_node).kind ≡ c.is_of.result =
    ap (λ (x : ProtoNode). is_of c.args.directories x.kind) (get_or_default nodes i no_proto_node c.index-nodes-k.result c.loop-k-test.true) ∙ sym c.is_of.ensures in
    elim c.if-is_of.branch [
      | then-is_of+in_ok-push w ↦
          record {
            all = ap (λ (rs : Vec ℕ Global). rs.items) w.order-is
                ∙ (w.in_ok-push.ensures.items ∙ ap (λ (xs : List ℕ). xs ++ i ∷ []) c.loop-k.invariant.all ∙ append_assoc old (filter p (range_with_len 0 i)) (i ∷ [])
                ∙ ap (λ (xs : List ℕ). old ++ xs) (sym (filter_next p 0 i i (omega arith) (at ∙ w.if-is_of.true))));
          }
      | else-is_of w ↦
          record {
            all = ap (λ (rs : Vec ℕ Global). rs.items) w.order-is
                ∙ (c.loop-k.invariant.all ∙ ap (λ (xs : List ℕ). old ++ xs) (sym (filter_same p 0 i i (omega arith) (at ∙ w.if-is_of.false))));
          }
    ]
