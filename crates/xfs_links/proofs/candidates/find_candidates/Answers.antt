use borrow.Author.Count.{falls}
use Rattle.std.proofs.lemmas.Result.{IfOk-from_err}
use Rattle.std.proofs.Common.{◌≡◌, ℕ, true, ◌+◌, drop, ◌==◌, ◌&&◌, ◌||◌, Bool, List, map, sym, ◌∙◌, ap, subst, ◌++◌}
use Rattle.std.specs.List.{list_any, filter, All}
use Rattle.std.specs.Str.{bytes_eq}
use Rattle.std.proofs.lemmas.List.Elements.{All-push}
use Rattle.xfs_dirdata.specs.declared.records.EntryRec.{EntryRec}
use Rattle.xfs_links.specs.declared.candidates.Candidate.{Candidate}
use Rattle.xfs_links.specs.Entries.{is_kept_node, firsts, candidate_entries, passes}
use Rattle.xfs_links.specs.Met.{is_met}
use Rattle.xfs_links.specs.Places.{IsPlacedCandidate, candidate_entry}
use Rattle.xfs_links.proofs.Firsts.{leads_end, leads_met, found_next, met_next, placed_at, told_false, was_met, was_new}
use Rattle.xfs_links.proofs.candidates.find_candidates.Goals as goal

pub loop-i-preserved-then-not-branch : goal.loop-i-preserved-then-not-branch
loop-i-preserved-then-not-branch c = record {
  placed = c.loop-i.invariant.placed;
  met = λ d q. told_false c.in_ok-add.field-0 _ c.in_ok-add.ensures.same c.if-not-branch.true d q ∙ c.loop-i.invariant.met d q;
  leads = leads_met c.args.files.now c.args.root c.loop-i.i c.args.entries.now (map (candidate_entry c.args.entries.now) c.loop-i.found.items) (candidate_entries c.args.files.now c.args.root c.args.entries.now)
      c.index-entries-i.result c.loop-i-test.true c.index-entries-i.is c.in-Some.ensures.0
      (sym (c.loop-i.invariant.met c.index-entries-i.result.dir c.index-entries-i.result.name)
      ∙ ap (λ (r : List ℕ). is_met c.loop-i.met c.index-entries-i.result.dir r) (sym c.bytes.ensures)
      ∙ was_met c.in_ok-add.field-0 _ c.in_ok-add.ensures.fresh c.if-not-branch.true)
      c.loop-i.invariant.leads;
}

pub loop-i-preserved : goal.loop-i-preserved
loop-i-preserved c = record {
  placed = subst (λ (r : List Candidate). All (IsPlacedCandidate c.args.files.now c.args.entries.now) r) (sym c.in_ok-push.ensures.items)
      (All-push (IsPlacedCandidate c.args.files.now c.args.entries.now) c.loop-i.found.items c.in-Some.candidate c.loop-i.invariant.placed
      (placed_at c.args.files.now c.args.entries.now c.index-entries-i.result c.loop-i.i c.in-Some.candidate c.loop-i-test.true c.index-entries-i.is c.in-Some.ensures.1).0);
  met = λ d q. c.in_ok-add.ensures.met d q
      ∙ ap (λ (r : List ℕ). (c.index-entries-i.result.dir == d && bytes_eq r q) || is_met c.loop-i.met d q) c.bytes.ensures
      ∙ ap (λ (r : Bool). (c.index-entries-i.result.dir == d && bytes_eq c.index-entries-i.result.name q) || r) (c.loop-i.invariant.met d q)
      ∙ sym (met_next c.args.files.now c.loop-i.i c.args.entries.now c.loop-i.found.items c.index-entries-i.result c.in-Some.candidate d q c.loop-i-test.true c.index-entries-i.is c.in-Some.ensures.1)
      ∙ ap (λ (r : List Candidate). list_any (λ (f : EntryRec). f.dir == d && bytes_eq f.name q) (map (candidate_entry c.args.entries.now) r)) (sym c.in_ok-push.ensures.items);
  leads = subst (λ (r : List Candidate). map (candidate_entry c.args.entries.now) r ++ firsts (map (candidate_entry c.args.entries.now) r) (filter (passes c.args.files.now c.args.root) (drop (c.loop-i.i + 1) c.args.entries.now)) ≡ candidate_entries c.args.files.now c.args.root c.args.entries.now)
      (sym c.in_ok-push.ensures.items)
      (found_next c.args.files.now c.args.root c.loop-i.i c.args.entries.now (candidate_entries c.args.files.now c.args.root c.args.entries.now) c.loop-i.found.items
      c.index-entries-i.result c.in-Some.candidate c.loop-i-test.true c.index-entries-i.is c.in-Some.ensures.0 c.in-Some.ensures.1
      (sym (c.loop-i.invariant.met c.index-entries-i.result.dir c.index-entries-i.result.name)
      ∙ ap (λ (r : List ℕ). is_met c.loop-i.met c.index-entries-i.result.dir r) (sym c.bytes.ensures)
      ∙ was_new c.in_ok-add.field-0 _ c.in_ok-add.ensures.fresh c.if-not-branch.false)
      c.loop-i.invariant.leads);
}

pub returns-in_err-add : goal.returns-in_err-add
returns-in_err-add c = record { list = IfOk-from_err c.from_residual.result _ c.from_residual.ensures.0; placed = IfOk-from_err c.from_residual.result _ c.from_residual.ensures.0 }

pub returns-in_err-push : goal.returns-in_err-push
returns-in_err-push c = record { list = IfOk-from_err c.from_residual-in_err-push.result _ c.from_residual-in_err-push.ensures.0; placed = IfOk-from_err c.from_residual-in_err-push.result _ c.from_residual-in_err-push.ensures.0 }

pub candidate_of-requires-clause-files : goal.candidate_of-requires-clause-files
candidate_of-requires-clause-files c = c.requires.files

pub candidate_of-requires-clause-root : goal.candidate_of-requires-clause-root
candidate_of-requires-clause-root c = c.requires.root

pub candidate_of-requires-clause-known : goal.candidate_of-requires-clause-known
candidate_of-requires-clause-known c =
    subst (λ (e : EntryRec). is_kept_node c.args.files.now e.dir ≡ true) (sym c.index-entries-i.is) (c.requires.known c.loop-i.i c.index-entries-i.result c.loop-i-test.true)

pub loop-i-smaller : goal.loop-i-smaller
loop-i-smaller c = falls _ c.loop-i.i c.loop-i-test.true

pub loop-i-smaller-in_default : goal.loop-i-smaller-in_default
loop-i-smaller-in_default c = falls _ c.loop-i.i c.loop-i-test.true

pub loop-i-smaller-then-not-branch : goal.loop-i-smaller-then-not-branch
loop-i-smaller-then-not-branch c = falls _ c.loop-i.i c.loop-i-test.true

pub returns : goal.returns
returns c = record {
  list = leads_end c.args.files.now c.args.root c.loop-i.i c.args.entries.now _ _ c.loop-i-test.false c.loop-i.invariant.leads;
  placed = c.loop-i.invariant.placed;
}
