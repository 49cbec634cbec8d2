use Rattle.std.proofs.Common.{◌≡◌, ℕ, ◌+◌, ◌≤◌, ◌<◌, inl, inr, get_or, length, sym, ◌∙◌, ap, arith}
use Rattle.std.proofs.lemmas.Bool.{cases_eq, cases_lt}
use Rattle.std.proofs.lemmas.List.{get_or_past}
use Rattle.xfs_place.specs.Greatest.{leaves_of}
use Rattle.xfs_place.proofs.Branches.{greatest_first}
use Rattle.std.proofs.lemmas.Result.{IfOk-from_err}
use Rattle.xfs_place.proofs.greatest.Greatest.new.Goals as goal

pub loop-k-init : goal.loop-k-init
loop-k-init c =
    let size = c.size_for-size.result in
    let nodes = c.in_ok-zeros.field-0.items in
    record {
      stands = greatest_first nodes size.leaves size.depth c.in_ok-zeros.ensures.all c.size_for-size.ensures.power c.size_for-size.ensures.small c.in_ok-zeros.ensures.none;
      there = c.size_for-size.ensures.enough;
      set' = λ j low. absurd (omega (arith, low));
      rest = λ j low inside. c.in_ok-zeros.ensures.none (size.leaves + j) (omega (arith, inside));
    }

pub loop-k-preserved : goal.loop-k-preserved
loop-k-preserved c =
    let l = c.loop-k in
    let now = c.set.new.self in
    let sets = c.set.ensures in
    let numbers = c.args.numbers.now in
    record {
      stands = sets.stands;
      there = omega (arith, l.invariant.there, sets.leaves');
      set' = λ j low. elim (cases_eq j l.k) [
        | inl same ↦ ap (leaves_of now) same ∙ sets.here ∙ ap (λ (i : ℕ). get_or numbers i 0) (sym same)
        | inr other ↦ sets.others j (omega (arith, low, l.invariant.there, c.loop-k-test.true)) other ∙ l.invariant.set' j (omega (arith, low, other))
      ];
      rest = λ j low inside.
          sets.others j (omega (arith, inside, sets.leaves')) (λ same. absurd (omega (arith, same, low))) ∙ l.invariant.rest j (omega (arith, low)) (omega (arith, inside, sets.leaves'));
    }

pub returns : goal.returns
returns c =
    let l = c.loop-k in
    let numbers = c.args.numbers.now in
    record {
      stands = l.invariant.stands;
      there = l.invariant.there;
      each = λ k low. elim (cases_lt k (length numbers)) [
        | inl inside ↦ l.invariant.set' k (omega (arith, inside, c.loop-k-test.false))
        | inr past ↦ l.invariant.rest k (omega (arith, past, c.loop-k-test.false)) low ∙ sym (get_or_past numbers k 0 past)
      ];
    }

pub returns-in_err-zeros : goal.returns-in_err-zeros
returns-in_err-zeros c = IfOk-from_err c.from_residual.result _ c.from_residual.ensures.0
