use Rattle.std.proofs.lemmas.Result.{IfOk-from_err}
use Rattle.std.proofs.Common.{ℕ, ◌<◌, ◌+◌, ◌-◌, refl, sym, ◌∙◌, subst, ap, ap₂, arith, List, length}
use Rattle.std.specs.List.{All}
use Rattle.xfs_collections.specs.Lists.{list_at}
use Rattle.xfs_links.specs.declared.candidates.Candidate.{Candidate}
use Rattle.xfs_links.specs.declared.walk.Attached.{Attached}
use Rattle.xfs_links.specs.Walk.{is_attached, see_all, turns}
use Rattle.xfs_links.specs.Places.{named_at, targets}
use Rattle.xfs_links.proofs.Attaching.{turns_next, turns_done, pending_twice, grown_all, turn_told, turn_over, begin_is}
use Rattle.xfs_links.proofs.Groups.{targets_inside}
use Rattle.xfs_links.proofs.Prefixed.{all_gone, none_added, none_gone}
use Rattle.xfs_links.proofs.walk.begin.Goals as goal

pub overflow_add-from : goal.overflow_add-from
overflow_add-from c = omega (arith, c.as_slice-from.type_inv.1, c.requires.steps)

pub take_directory-requires-clause-targets : goal.take_directory-requires-clause-targets
take_directory-requires-clause-targets c = subst (λ (r : List Candidate). All (λ (k : Candidate). k.target < length c.args.files.now) r) (sym c.group_of.ensures.group)
    (targets_inside c.args.candidates.now c.in-Some.directory (length c.args.files.now) c.requires.targets)

pub loop-step-preserved : goal.loop-step-preserved
loop-step-preserved c = record {
  steady = c.in_ok-take_directory.ensures.steady;
  leads = turns_next (named_at c.args.files.now c.args.candidates.now) c.args.steps c.loop-step.step (length c.as_slice-from.result.now) c.loop-step.turn.items c.take_directory.new.turn.items _ c.in-Some.directory
      c.loop-step-test.true
      (turn_told c.loop-step.turn.items c.deref.result.now (length c.as_slice-from.result.now + c.loop-step.step) c.in-Some.directory c.deref.ensures.value c.in-Some.ensures).0
      (turn_told c.loop-step.turn.items c.deref.result.now (length c.as_slice-from.result.now + c.loop-step.step) c.in-Some.directory c.deref.ensures.value c.in-Some.ensures).1
      (c.in_ok-take_directory.ensures.turn ∙ ap (λ (r : List Candidate). see_all c.in-Some.directory c.loop-step.turn.items (targets c.args.files.now r)) c.group_of.ensures.group)
      c.loop-step.invariant.leads;
  pending = pending_twice c.loop-step.turn.items c.take_directory.new.turn.items (list_at c.args.weave.now 0) (list_at c.loop-step.weave 0) (list_at c.take_directory.new.weave 0)
      (λ p h. ap (λ (r : List Attached). is_attached r p) c.in_ok-take_directory.ensures.turn ∙ grown_all c.in-Some.directory c.loop-step.turn.items (targets c.args.files.now c.group_of.result.now) p h)
      c.loop-step.invariant.pending c.in_ok-take_directory.ensures.pending;
}

pub returns-in_default : goal.returns-in_default
returns-in_default c =
    record {
      turn = sym (turns_done (named_at c.args.files.now c.args.candidates.now) (c.args.steps - c.loop-step.step) (length c.as_slice-from.result.now + c.loop-step.step) c.loop-step.turn.items
          (turn_over c.loop-step.turn.items c.deref.result.now (length c.as_slice-from.result.now + c.loop-step.step) c.directory_at.result c.deref.ensures.value c.directory_at.ensures c.in_default.is))
          ∙ c.loop-step.invariant.leads
          ∙ begin_is c.args.files.now c.args.weave.now (named_at c.args.files.now c.args.candidates.now) c.args.steps c.args.root c.args.start (length c.as_slice-from.result.now)
          c.args.turn.now.items c.attach.new.turn.items c.as_slice-from.result.now c.start_parent.result c.requires.steady c.requires.start c.as_slice-from.ensures.value refl c.start_parent.ensures c.in_ok-attach.ensures.turn;
      steady = c.loop-step.invariant.steady;
      pending = c.loop-step.invariant.pending;
    }

pub attach-requires-clause-steady : goal.attach-requires-clause-steady
attach-requires-clause-steady c = c.requires.steady

pub attach-requires-clause-inside : goal.attach-requires-clause-inside
attach-requires-clause-inside c = c.requires.inside

pub attach-requires-clause-pending : goal.attach-requires-clause-pending
attach-requires-clause-pending c = c.requires.start

pub attach-requires-clause-list : goal.attach-requires-clause-list
attach-requires-clause-list c = c.start_list.ensures

pub take_directory-requires-clause-steady : goal.take_directory-requires-clause-steady
take_directory-requires-clause-steady c = c.loop-step.invariant.steady

pub returns-after-loop-step : goal.returns-after-loop-step
returns-after-loop-step c =
    record {
      turn = ap (λ (n : ℕ). turns (named_at c.args.files.now c.args.candidates.now) n (length c.as_slice-from.result.now + c.loop-step.step) c.loop-step.turn.items)
          (sym (all_gone c.args.steps c.loop-step.step c.loop-step-test.false))
          ∙ c.loop-step.invariant.leads
          ∙ begin_is c.args.files.now c.args.weave.now (named_at c.args.files.now c.args.candidates.now) c.args.steps c.args.root c.args.start (length c.as_slice-from.result.now)
          c.args.turn.now.items c.attach.new.turn.items c.as_slice-from.result.now c.start_parent.result c.requires.steady c.requires.start c.as_slice-from.ensures.value refl c.start_parent.ensures c.in_ok-attach.ensures.turn;
      steady = c.loop-step.invariant.steady;
      pending = c.loop-step.invariant.pending;
    }

pub loop-step-init : goal.loop-step-init
loop-step-init c = record {
  steady = c.in_ok-attach.ensures.steady;
  leads = ap₂ (λ (n k : ℕ). turns (named_at c.args.files.now c.args.candidates.now) n k c.attach.new.turn.items) (none_gone c.args.steps) (none_added (length c.as_slice-from.result.now));
  pending = c.in_ok-attach.ensures.pending;
}

pub returns-in_err-attach : goal.returns-in_err-attach
returns-in_err-attach c = record { turn = IfOk-from_err c.from_residual.result _ c.from_residual.ensures.0; steady = IfOk-from_err c.from_residual.result _ c.from_residual.ensures.0; pending = IfOk-from_err c.from_residual.result _ c.from_residual.ensures.0 }

pub returns-in_err-take_directory : goal.returns-in_err-take_directory
returns-in_err-take_directory c = record { turn = IfOk-from_err c.from_residual-in_err-take_directory.result _ c.from_residual-in_err-take_directory.ensures.0; steady = IfOk-from_err c.from_residual-in_err-take_directory.result _ c.from_residual-in_err-take_directory.ensures.0; pending = IfOk-from_err c.from_residual-in_err-take_directory.result _ c.from_residual-in_err-take_directory.ensures.0 }
