use Rattle.std.proofs.lemmas.Result.{IfOk-from_err}
use Rattle.std.proofs.Common.{◌<◌, sym, ◌∙◌, ap, subst, List, [], length}
use Rattle.std.specs.List.{All}
use Rattle.std.specs.List.Sorted.{IsNonDecreasingBy}
use Rattle.xfs_links.specs.declared.candidates.Candidate.{Candidate}
use Rattle.xfs_links.specs.declared.walk.Attached.{Attached}
use Rattle.xfs_links.specs.Places.{staying_at, cleared_at}
use Rattle.xfs_links.specs.Walk.{attached_parent}
use Rattle.xfs_links.proofs.Deciding.{root_low, entries_known, root_found, root_at, root_directory, candidates_rise, turn_inside, stay_placed, decided}
use Rattle.xfs_links.proofs.Joined.{attached_places, attached_in}
use Rattle.xfs_links.proofs.connecting.decide.Goals as goal

pub find_candidates-requires-clause-known : goal.find_candidates-requires-clause-known
find_candidates-requires-clause-known c = entries_known c.args.files.now c.args.entries.now c.requires.entries

pub find_candidates-requires-clause-root : goal.find_candidates-requires-clause-root
find_candidates-requires-clause-root c = root_low c.args.files.now c.args.root c.requires.files c.requires.root

pub unwrap-place-requires : goal.unwrap-place-requires
unwrap-place-requires c = root_found c.args.files.now c.args.root c.place_of.result c.requires.root c.place_of.ensures

pub attach_all-requires-clause-sorted : goal.attach_all-requires-clause-sorted
attach_all-requires-clause-sorted c = subst (λ (r : List Candidate). IsNonDecreasingBy (λ (k : Candidate). k.directory) r) (sym c.deref.ensures.value)
    (candidates_rise c.args.files.now c.args.entries.now c.args.root c.in_ok-candidates.candidates.items c.requires.files c.requires.entries c.in_ok-candidates.ensures.list c.in_ok-candidates.ensures.placed)

pub attach_all-requires-clause-directory : goal.attach_all-requires-clause-directory
attach_all-requires-clause-directory c = root_directory c.args.files.now c.args.root c.unwrap-place.result c.requires.files c.requires.root
    (root_at c.args.files.now c.args.root c.unwrap-place.result c.place_of.result c.place_of.ensures c.unwrap-place.ensures)

pub parents_of-requires : goal.parents_of-requires
parents_of-requires c = record {
  inside = subst (λ (r : List Attached). All (λ (a : Attached). a.directory < length c.args.files.now) r)
      (sym (c.deref-2.ensures.value ∙ c.in_ok-turn.ensures.turn ∙ ap (λ (r : List Candidate). attached_places c.args.files.now c.requires.files.ascend c.args.entries.now r c.unwrap-place.result) c.deref.ensures.value))
      (turn_inside (length c.args.files.now) (attached_places c.args.files.now c.requires.files.ascend c.args.entries.now c.in_ok-candidates.candidates.items c.unwrap-place.result)
      (attached_in c.args.files.now c.requires.files.ascend c.args.entries.now c.in_ok-candidates.candidates.items c.unwrap-place.result c.in_ok-candidates.ensures.placed
      (root_at c.args.files.now c.args.root c.unwrap-place.result c.place_of.result c.place_of.ensures c.unwrap-place.ensures).0
      (root_directory c.args.files.now c.args.root c.unwrap-place.result c.requires.files c.requires.root
      (root_at c.args.files.now c.args.root c.unwrap-place.result c.place_of.result c.place_of.ensures c.unwrap-place.ensures))));
}

pub cleared_entries-requires-clause-entries : goal.cleared_entries-requires-clause-entries
cleared_entries-requires-clause-entries c = subst (λ (r : List Candidate). All (λ (k : Candidate). k.entry < length c.args.entries.now) r)
    (sym (c.in_ok-staying.ensures.staying ∙ ap (λ (r : List Candidate). staying_at c.args.files.now c.deref-3.result.now [] r) c.deref-4.ensures.value))
    (stay_placed c.args.files.now c.args.entries.now c.deref-3.result.now (λ (k : Candidate). k.entry < length c.args.entries.now) [] c.in_ok-candidates.candidates.items (λ k d l. (c.in_ok-candidates.ensures.placed k d l).entry))

pub cleared_entries-requires-clause-targets : goal.cleared_entries-requires-clause-targets
cleared_entries-requires-clause-targets c = subst (λ (r : List Candidate). All (λ (k : Candidate). k.target < length c.args.files.now) r)
    (sym (c.in_ok-staying.ensures.staying ∙ ap (λ (r : List Candidate). staying_at c.args.files.now c.deref-3.result.now [] r) c.deref-4.ensures.value))
    (stay_placed c.args.files.now c.args.entries.now c.deref-3.result.now (λ (k : Candidate). k.target < length c.args.files.now) [] c.in_ok-candidates.candidates.items (λ k d l. (c.in_ok-candidates.ensures.placed k d l).target))

pub returns : goal.returns
returns c = decided c.args.files.now c.args.entries.now c.args.root c.unwrap-place.result c.in_ok-candidates.candidates.items c.in_ok-staying.staying.items c.in_ok-kept.kept.items c.in_ok-turn.turn.items c.in_ok-parents.parents.items
    c.requires.files c.in_ok-candidates.ensures.list c.in_ok-candidates.ensures.placed
    (root_at c.args.files.now c.args.root c.unwrap-place.result c.place_of.result c.place_of.ensures c.unwrap-place.ensures)
    (root_directory c.args.files.now c.args.root c.unwrap-place.result c.requires.files c.requires.root
    (root_at c.args.files.now c.args.root c.unwrap-place.result c.place_of.result c.place_of.ensures c.unwrap-place.ensures))
    (c.in_ok-turn.ensures.turn ∙ ap (λ (r : List Candidate). attached_places c.args.files.now c.requires.files.ascend c.args.entries.now r c.unwrap-place.result) c.deref.ensures.value)
    c.in_ok-parents.ensures.size
    (λ p l. c.in_ok-parents.ensures.parents p l ∙ ap (λ (r : List Attached). attached_parent r p) c.deref-2.ensures.value)
    (c.in_ok-staying.ensures.staying ∙ ap (λ (r : List Candidate). staying_at c.args.files.now c.deref-3.result.now [] r) c.deref-4.ensures.value
    ∙ ap (λ r. staying_at c.args.files.now r [] c.in_ok-candidates.candidates.items) c.deref-3.ensures.value)
    (c.in_ok-kept.ensures.cleared ∙ ap (λ r. cleared_at c.args.files.now c.args.entries.now c.args.root r c.in_ok-staying.staying.items) c.deref-5.ensures.value)

pub returns-in_err-candidates : goal.returns-in_err-candidates
returns-in_err-candidates c = IfOk-from_err c.from_residual.result _ c.from_residual.ensures.0

pub returns-in_err-turn : goal.returns-in_err-turn
returns-in_err-turn c = IfOk-from_err c.from_residual-in_err-turn.result _ c.from_residual-in_err-turn.ensures.0

pub returns-in_err-parents : goal.returns-in_err-parents
returns-in_err-parents c = IfOk-from_err c.from_residual-in_err-parents.result _ c.from_residual-in_err-parents.ensures.0

pub returns-in_err-staying : goal.returns-in_err-staying
returns-in_err-staying c = IfOk-from_err c.from_residual-in_err-staying.result _ c.from_residual-in_err-staying.ensures.0

pub returns-in_err-kept : goal.returns-in_err-kept
returns-in_err-kept c = IfOk-from_err c.from_residual-in_err-kept.result _ c.from_residual-in_err-kept.ensures.0
