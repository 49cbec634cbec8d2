use Rattle.std.proofs.Common.{not, List, sym, ◌∙◌, ap}
use Rattle.std.specs.List.{filter}
use Rattle.std.proofs.lemmas.List.{take_all}
use Rattle.xfs_links.specs.declared.candidates.Candidate.{Candidate}
use Rattle.xfs_links.specs.Places.{in_the_way_at}
use Rattle.xfs_links.proofs.Groups.{no_candidate}
use Rattle.xfs_links.proofs.Prefixed.{filtered_next, filtered_not}
use Rattle.xfs_links.proofs.remaining.without_way.Goals as goal

pub is_in_the_way-requires-clause-entry : goal.is_in_the_way-requires-clause-entry
is_in_the_way-requires-clause-entry c = c.requires.entries c.loop-candidate.candidate-index no_candidate c.loop-candidate-test.true

pub is_in_the_way-requires-clause-target : goal.is_in_the_way-requires-clause-target
is_in_the_way-requires-clause-target c = c.requires.targets c.loop-candidate.candidate-index no_candidate c.loop-candidate-test.true

pub loop-candidate-init : goal.loop-candidate-init
loop-candidate-init c = c.new-kept.ensures.items

pub loop-candidate-preserved-then-is_in_the_way : goal.loop-candidate-preserved-then-is_in_the_way
loop-candidate-preserved-then-is_in_the_way c =
    filtered_not (λ (k : Candidate). not (in_the_way_at c.args.files.now c.args.entries.now c.args.root k)) c.args.staying.now c.loop-candidate.candidate-index no_candidate c.loop-candidate.kept.items
    c.loop-candidate-test.true c.loop-candidate.invariant (ap not (sym c.is_in_the_way.ensures ∙ c.if-is_in_the_way.true))

pub loop-candidate-preserved : goal.loop-candidate-preserved
loop-candidate-preserved c =
    filtered_next (λ (k : Candidate). not (in_the_way_at c.args.files.now c.args.entries.now c.args.root k)) c.args.staying.now c.loop-candidate.candidate-index no_candidate c.loop-candidate.kept.items
    c.loop-candidate-test.true c.loop-candidate.invariant (ap not (sym c.is_in_the_way.ensures ∙ c.if-is_in_the_way.false)) c.push.new.self.items c.in_ok-push.ensures.items

pub returns : goal.returns
returns c =
    c.loop-candidate.invariant
    ∙ ap (λ (ks : List Candidate). filter (λ (k : Candidate). not (in_the_way_at c.args.files.now c.args.entries.now c.args.root k)) ks)
    (take_all c.loop-candidate.candidate-index c.args.staying.now c.loop-candidate-test.false)
