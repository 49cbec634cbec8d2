use Rattle.std.proofs.lemmas.Result.{IfOk-from_err}
use Rattle.std.proofs.Common.{◌≡◌, ◌+◌, refl, sym, ◌∙◌, subst, ap, List, drop, Some, slice_index_or}
use Rattle.xfs_collections.specs.Lists.{list_at}
use Rattle.xfs_links.specs.declared.walk.Attached.{Attached}
use Rattle.xfs_links.specs.Places.{targets}
use Rattle.xfs_links.specs.Walk.{see_all, is_attached, attached_at}
use Rattle.xfs_links.proofs.Groups.{no_candidate}
use Rattle.xfs_links.proofs.Attaching.{pending_same, pending_twice, pending_at, other_at, grown_last}
use Rattle.xfs_links.proofs.walk.take_directory.Goals as goal

pub loop-candidate-init : goal.loop-candidate-init
loop-candidate-init c = record { steady = c.requires.steady; leads = refl; pending = pending_same c.args.files.now c.args.weave.now c.args.turn.now.items c.requires.steady }

pub loop-candidate-preserved : goal.loop-candidate-preserved
loop-candidate-preserved c = record {
  steady = c.in_ok-attach.ensures.steady;
  leads = subst (λ (r : List Attached). see_all c.args.directory r (targets c.args.files.now (drop (c.loop-candidate.candidate-index + 1) c.args.group.now)) ≡ see_all c.args.directory c.args.turn.now.items (targets c.args.files.now c.args.group.now))
      (sym c.in_ok-attach.ensures.turn)
      (pending_at c.args.files.now c.args.group.now c.loop-candidate.candidate-index c.args.directory no_candidate c.loop-candidate.turn.items _ c.loop-candidate-test.true
      (sym (c.loop-candidate.invariant.steady.pending (slice_index_or c.args.group.now c.loop-candidate.candidate-index no_candidate).target) ∙ sym c.is_pending.ensures ∙ c.if-not-is_pending.false)
      c.loop-candidate.invariant.leads);
  pending = pending_twice c.loop-candidate.turn.items c.attach.new.turn.items (list_at c.args.weave.now 0) (list_at c.loop-candidate.weave 0) (list_at c.attach.new.weave 0)
      (λ p h. ap (λ (r : List Attached). is_attached r p) c.in_ok-attach.ensures.turn ∙ grown_last c.loop-candidate.turn.items (attached_at (slice_index_or c.args.group.now c.loop-candidate.candidate-index no_candidate).target (Some c.args.directory)) p h)
      c.loop-candidate.invariant.pending c.in_ok-attach.ensures.pending;
}

pub loop-candidate-preserved-then-not-is_pending : goal.loop-candidate-preserved-then-not-is_pending
loop-candidate-preserved-then-not-is_pending c = record {
  steady = c.loop-candidate.invariant.steady;
  leads = other_at c.args.files.now c.args.group.now c.loop-candidate.candidate-index c.args.directory no_candidate c.loop-candidate.turn.items _ c.loop-candidate-test.true
      (sym (c.loop-candidate.invariant.steady.pending (slice_index_or c.args.group.now c.loop-candidate.candidate-index no_candidate).target) ∙ sym c.is_pending.ensures ∙ c.if-not-is_pending.true)
      c.loop-candidate.invariant.leads;
  pending = c.loop-candidate.invariant.pending;
}

pub returns-in_err-attach : goal.returns-in_err-attach
returns-in_err-attach c = record { turn = IfOk-from_err c.from_residual.result _ c.from_residual.ensures.0; steady = IfOk-from_err c.from_residual.result _ c.from_residual.ensures.0; pending = IfOk-from_err c.from_residual.result _ c.from_residual.ensures.0 }
