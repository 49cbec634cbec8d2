use Rattle.std.proofs.lemmas.Result.{IfOk-from_err}
use Rattle.std.proofs.Common.{ℕ, List, [], ◌∷◌, ◌++◌, ◌∙◌, ap, ap₂}
use Rattle.xfs_proto.specs.Reading.{State, reader_state}
use Rattle.xfs_proto.specs.declared.protofile.ProtoNode.{ProtoNode}
use Rattle.xfs_proto.specs.declared.reading.NextToken.TheVariants as Next
use Rattle.xfs_proto.proofs.reading.Reader.push.Goals as goal

pub returns-in_err-add : goal.returns-in_err-add
returns-in_err-add c = record {
  held = IfOk-from_err c.from_residual.result _ c.from_residual.ensures.0;
  steady = IfOk-from_err c.from_residual.result _ c.from_residual.ensures.0;
}

pub returns-in_err-name : goal.returns-in_err-name
returns-in_err-name c = record {
  held = IfOk-from_err c.from_residual-in_err-name.result _ c.from_residual-in_err-name.ensures.0;
  steady = IfOk-from_err c.from_residual-in_err-name.result _ c.from_residual-in_err-name.ensures.0;
}

pub returns-in_err-push : goal.returns-in_err-push
returns-in_err-push c = record {
  held = IfOk-from_err c.from_residual-in_err-push.result _ c.from_residual-in_err-push.ensures.0;
  steady = IfOk-from_err c.from_residual-in_err-push.result _ c.from_residual-in_err-push.ensures.0;
}

pub returns-clause-held : goal.returns-clause-held
returns-clause-held c =
    let s : State = reader_state c.args.self.now in
    ap (λ (ns : List ProtoNode). let after : State = record s { expected = Next.Name; nodes = ns } in after)
    (c.in_ok-push.ensures.items
    ∙ ap₂ (λ (parent : ℕ) (name : List ℕ). let node : ProtoNode = record { parent = parent; name = name; mode = s.entry.mode.bits; uid = s.entry.uid; gid = s.entry.gid; kind = c.args.kind } in s.nodes ++ node ∷ [])
    c.entry_parent-parent.ensures c.in_ok-name.ensures)
