use Rattle.std.proofs.Common.{List, Bool, true, false, length, get_or, take, ◌∙◌, ap}
use Rattle.std.proofs.Math.ListN.{length-set}
use Rattle.std.proofs.lemmas.List.{get_or-replicate, length-replicate, take_all, take_more}
use Rattle.xfs_links.specs.declared.candidates.Candidate.{Candidate}
use Rattle.xfs_links.specs.Places.{is_target}
use Rattle.xfs_links.proofs.Groups.{no_candidate}
use Rattle.xfs_links.proofs.Staying.{flags_next}
use Rattle.xfs_links.proofs.walk.named_places.Goals as goal

pub loop-candidate-init : goal.loop-candidate-init
loop-candidate-init c =
    let none = c.in_ok-named.ensures.items_if_clones_equal (λ y same. same) in
    record {
      size = ap (λ (ms : List Bool). length ms) none ∙ length-replicate c.args.count false;
      named = λ p less. ap (λ (ms : List Bool). get_or ms p false) none ∙ get_or-replicate c.args.count p false false less;
    }

pub loop-candidate-preserved : goal.loop-candidate-preserved
loop-candidate-preserved c =
    let i = c.loop-candidate.candidate-index in
    let cs = c.args.candidates.now in
    record {
      size = length-set c.loop-candidate.named.items _ true ∙ c.loop-candidate.invariant.size;
      named = flags_next c.loop-candidate.named.items c.args.count (take i cs) _ (get_or cs i no_candidate) c.loop-candidate.invariant.size
          (c.requires.targets i no_candidate c.loop-candidate-test.true) c.loop-candidate.invariant.named (take_more cs i no_candidate c.loop-candidate-test.true);
    }

pub returns-clause-size : goal.returns-clause-size
returns-clause-size c = c.loop-candidate.invariant.size

pub returns-clause-named : goal.returns-clause-named
returns-clause-named c p less =
    c.loop-candidate.invariant.named p less
    ∙ ap (λ (cs : List Candidate). is_target cs p) (take_all c.loop-candidate.candidate-index c.args.candidates.now c.loop-candidate-test.false)
