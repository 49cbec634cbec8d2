use Rattle.std.proofs.Common.{◌++◌, List, Bool, length, get_or, false, true, sym, ◌∙◌, ap}
use Rattle.std.proofs.Math.ListN.{length-set}
use Rattle.std.proofs.lemmas.List.{get_or-replicate, length-replicate}
use Rattle.xfs_links.specs.declared.candidates.Candidate.{Candidate}
use Rattle.xfs_links.specs.Places.{is_target, staying_at}
use Rattle.xfs_links.proofs.Staying.{flags_next, goes_next, stays_last, stays_next, stays_told}
use Rattle.xfs_links.proofs.remaining.staying.Goals as goal

pub loop-candidate-init : goal.loop-candidate-init
loop-candidate-init c =
    let none = c.in_ok-met.ensures.items_if_clones_equal (λ y same. same) in
    record {
      size = ap (λ (ms : List Bool). length ms) none ∙ length-replicate (length c.args.files.now) false;
      flags = λ p less.
          ap (λ (ms : List Bool). get_or ms p false) none
          ∙ get_or-replicate (length c.args.files.now) p false false less
          ∙ ap (λ (cs : List Candidate). is_target cs p) (sym c.new-staying.ensures.items);
      leads = ap (λ (cs : List Candidate). cs ++ staying_at c.args.files.now c.args.parents.now cs c.args.candidates.now) c.new-staying.ensures.items;
    }

pub stays-requires-clause-target : goal.stays-requires-clause-target
stays-requires-clause-target c = c.requires.targets c.loop-candidate.candidate-index record { entry = 0; directory = 0; target = 0 } c.loop-candidate-test.true

pub stays-requires-clause-size : goal.stays-requires-clause-size
stays-requires-clause-size c = c.requires.size

pub stays-requires-clause-flags : goal.stays-requires-clause-flags
stays-requires-clause-flags c = ap (λ xs. length xs) c.deref.ensures.value ∙ c.loop-candidate.invariant.size

pub loop-candidate-preserved-then-not-stays : goal.loop-candidate-preserved-then-not-stays
loop-candidate-preserved-then-not-stays c =
    let i = c.loop-candidate.candidate-index in
    let d : Candidate = record { entry = 0; directory = 0; target = 0 } in
    let candidate : Candidate = get_or c.args.candidates.now i d in
    let target = c.requires.targets i d c.loop-candidate-test.true in
    record {
      size = c.loop-candidate.invariant.size;
      flags = c.loop-candidate.invariant.flags;
      leads = goes_next c.args.files.now c.args.parents.now c.args.candidates.now i d c.loop-candidate.staying.items _ c.loop-candidate-test.true c.loop-candidate.invariant.leads
          (stays_told c.args.files.now c.args.parents.now c.loop-candidate.met.items c.deref.result.now c.loop-candidate.staying.items candidate c.stays.result c.deref.ensures.value (c.loop-candidate.invariant.flags candidate.target target) c.stays.ensures false c.if-not-stays.true);
    }

pub loop-candidate-preserved : goal.loop-candidate-preserved
loop-candidate-preserved c =
    let i = c.loop-candidate.candidate-index in
    let d : Candidate = record { entry = 0; directory = 0; target = 0 } in
    let candidate : Candidate = get_or c.args.candidates.now i d in
    let target = c.requires.targets i d c.loop-candidate-test.true in
    record {
      size = length-set c.loop-candidate.met.items _ true ∙ c.loop-candidate.invariant.size;
      flags = flags_next c.loop-candidate.met.items (length c.args.files.now) c.loop-candidate.staying.items c.push.new.self.items candidate c.loop-candidate.invariant.size target c.loop-candidate.invariant.flags c.in_ok-push.ensures.items;
      leads = stays_next c.args.files.now c.args.parents.now c.args.candidates.now i d c.loop-candidate.staying.items _ c.loop-candidate-test.true c.loop-candidate.invariant.leads
          (stays_told c.args.files.now c.args.parents.now c.loop-candidate.met.items c.deref.result.now c.loop-candidate.staying.items candidate c.stays.result c.deref.ensures.value (c.loop-candidate.invariant.flags candidate.target target) c.stays.ensures true c.if-not-stays.false)
          c.push.new.self.items c.in_ok-push.ensures.items;
    }

pub returns : goal.returns
returns c = record { staying = stays_last c.args.files.now c.args.parents.now c.args.candidates.now c.loop-candidate.candidate-index c.loop-candidate.staying.items _ c.loop-candidate-test.false c.loop-candidate.invariant.leads }
