use Rattle.std.proofs.lemmas.Result.{IfOk-from_err}
use Rattle.std.proofs.Common.{ℕ, ◌<◌, [], List, length, sym, ◌∙◌, ap, subst}
use Rattle.std.specs.List.{All}
use Rattle.xfs_collections.specs.Lists.{AreOnce, list_at}
use Rattle.xfs_links.specs.declared.walk.Attached.{Attached}
use Rattle.xfs_links.specs.Walk.{walk}
use Rattle.xfs_links.specs.Places.{named_at, starts_at, IsSteady}
use Rattle.xfs_links.proofs.Starting.{starts_once, starts_inside, starts_steady}
use Rattle.xfs_links.proofs.Attaching.{first_has, none_first, walk_next, pending_fewer}
use Rattle.xfs_links.proofs.walk.attach_all.Goals as goal

pub pending-requires-clause-once : goal.pending-requires-clause-once
pending-requires-clause-once c = subst AreOnce (sym (c.deref.ensures.value ∙ c.in_ok-starts.ensures.starts)) (starts_once c.args.files.now c.args.candidates.now c.args.root)

pub pending-requires-clause-inside : goal.pending-requires-clause-inside
pending-requires-clause-inside c = subst (λ (r : List ℕ). All (λ p. p < length c.args.files.now) r) (sym (c.deref.ensures.value ∙ c.in_ok-starts.ensures.starts)) (starts_inside c.args.files.now c.args.candidates.now c.args.root c.requires.directory)

pub loop-start-init : goal.loop-start-init
loop-start-init c = record {
  steady = subst (λ (r : List Attached). IsSteady c.args.files.now c.in_ok-weave.weave r) (sym c.new-turn.ensures.items)
      (starts_steady c.args.files.now c.args.candidates.now c.args.root c.in_ok-weave.weave c.requires.directory c.in_ok-weave.ensures.nodes c.in_ok-weave.ensures.lists
      (c.in_ok-weave.ensures.pending ∙ c.deref.ensures.value ∙ c.in_ok-starts.ensures.starts));
  leads = ap (λ (r : List Attached). walk (named_at c.args.files.now c.args.candidates.now) c.count_directories-steps.result c.args.root r (list_at c.in_ok-weave.weave 0)) c.new-turn.ensures.items
      ∙ ap (λ (r : List ℕ). walk (named_at c.args.files.now c.args.candidates.now) c.count_directories-steps.result c.args.root [] r) (c.in_ok-weave.ensures.pending ∙ c.deref.ensures.value ∙ c.in_ok-starts.ensures.starts);
}

pub begin-requires-clause-start : goal.begin-requires-clause-start
begin-requires-clause-start c = first_has c.in-Some.start (list_at c.loop-start.weave 0) (sym c.in-Some.ensures.first)

pub loop-start-smaller : goal.loop-start-smaller
loop-start-smaller c = pending_fewer (named_at c.args.files.now c.args.candidates.now) c.count_directories-steps.result c.args.root c.loop-start.turn.items c.begin.new.turn.items
    (list_at c.loop-start.weave 0) (list_at c.begin.new.weave 0) c.in-Some.start (first_has c.in-Some.start (list_at c.loop-start.weave 0) (sym c.in-Some.ensures.first)) c.in_ok-begin.ensures.turn c.in_ok-begin.ensures.pending

pub loop-start-preserved : goal.loop-start-preserved
loop-start-preserved c = record {
  steady = c.in_ok-begin.ensures.steady;
  leads = walk_next (named_at c.args.files.now c.args.candidates.now) c.count_directories-steps.result c.args.root c.loop-start.turn.items c.begin.new.turn.items _
      (list_at c.loop-start.weave 0) (list_at c.begin.new.weave 0) c.in-Some.start (sym c.in-Some.ensures.first) c.in_ok-begin.ensures.turn c.in_ok-begin.ensures.pending c.loop-start.invariant.leads;
}

pub returns : goal.returns
returns c = record {
  turn =
      ap (λ (r : List ℕ). walk (named_at c.args.files.now c.args.candidates.now) c.count_directories-steps.result c.args.root c.loop-start.turn.items r) (sym (none_first (list_at c.loop-start.weave 0) (sym c.in_default.ensures.first)))
      ∙ c.loop-start.invariant.leads
      ∙ ap (λ (n : ℕ). walk (named_at c.args.files.now c.args.candidates.now) n c.args.root [] (starts_at c.args.files.now c.args.candidates.now c.args.root)) c.count_directories-steps.ensures;
}

pub returns-in_err-starts : goal.returns-in_err-starts
returns-in_err-starts c = record { turn = IfOk-from_err c.from_residual.result _ c.from_residual.ensures.0 }

pub returns-in_err-weave : goal.returns-in_err-weave
returns-in_err-weave c = record { turn = IfOk-from_err c.from_residual-in_err-weave.result _ c.from_residual-in_err-weave.ensures.0 }

pub returns-in_err-begin : goal.returns-in_err-begin
returns-in_err-begin c = record { turn = IfOk-from_err c.from_residual-in_err-begin.result _ c.from_residual-in_err-begin.ensures.0 }
