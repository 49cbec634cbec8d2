-- What was moved is no longer left.
use Rattle.std.specs.Prelude.{IsTrue, ◌↔◌, min}
use Rattle.std.specs.List.{Contains}
use Rattle.std.proofs.Common.{◌≡◌, ◌<◌, ◌≤◌, ◌+◌, ℕ, Bool, List, [], ◌++◌, arith, length, length-drop, take, drop, refl, sym, ap, subst, ◌∙◌}
use Rattle.std.proofs.lemmas.List.{drop-drop}
use Rattle.xfs_memory.specs.Schedule.{IsToFail}
use Rattle.xfs_memory.proofs.memory_source.MemorySourceSource.take.Goals as goal

-- a call that is to fail is in the list
never : (xs ys : List ℕ) (n : ℕ) → Contains xs n → ys ≡ xs → ys ≡ [] → ⊥
never xs ys n due same none =
    let zero : length xs ≡ 0 = ap length (sym same ∙ none) in
    let below : due.0 < length xs = due.1 in
    omega arith

-- no more is given than there is
moved_within : (given n room : ℕ) (bytes : List ℕ) → given ≤ length bytes → n ≡ min room (length (drop given bytes)) → given + n ≤ length bytes
moved_within given n room bytes within most = omega (arith, length-drop given bytes)

pub returns-then-count-clause-fails : goal.returns-then-count-clause-fails
returns-then-count-clause-fails c = subst (λ (b : Bool). IsTrue b ↔ IsToFail c.args.self.now.schedule) c.if-count.true c.count.ensures.due

pub returns-then-count-clause-most : goal.returns-then-count-clause-most
returns-then-count-clause-most c = tt

pub returns-then-count-clause-moved : goal.returns-then-count-clause-moved
returns-then-count-clause-moved c = tt

pub returns-then-count-clause-left : goal.returns-then-count-clause-left
returns-then-count-clause-left c = tt

pub returns-then-count-clause-stays : goal.returns-then-count-clause-stays
returns-then-count-clause-stays c = refl

pub returns-then-count-clause-untouched : goal.returns-then-count-clause-untouched
returns-then-count-clause-untouched c = refl

pub returns-then-count-clause-counted : goal.returns-then-count-clause-counted
returns-then-count-clause-counted c = c.count.ensures.counted

pub returns-clause-fails : goal.returns-clause-fails
returns-clause-fails c = subst (λ (b : Bool). IsTrue b ↔ IsToFail c.args.self.now.schedule) c.if-count.false c.count.ensures.due

pub returns-clause-most : goal.returns-clause-most
returns-clause-most c = c.move_front-count.ensures.most ∙ ap (λ (xs : List ℕ). min (length c.args.into.now) (length xs)) c.bytes_left.ensures

pub returns-clause-moved : goal.returns-clause-moved
returns-clause-moved c =
    let n = c.move_front-count.result in
    c.move_front-count.ensures.moved ∙ ap (λ (xs : List ℕ). take n xs ++ drop n c.args.into.now) c.bytes_left.ensures

pub returns-clause-left : goal.returns-clause-left
returns-clause-left c = sym (drop-drop c.move_front-count.result c.args.self.now.given c.args.self.now.bytes.items)

pub returns-clause-stays : goal.returns-clause-stays
returns-clause-stays c = tt

pub returns-clause-untouched : goal.returns-clause-untouched
returns-clause-untouched c = tt

pub returns-clause-faults : goal.returns-clause-faults
returns-clause-faults c = refl

pub returns-clause-counted : goal.returns-clause-counted
returns-clause-counted c = c.count.ensures.counted

pub invariant_of-self : goal.invariant_of-self
invariant_of-self c = record {
  within = c.args.self.now.within;
  quiet = λ none. absurd (never c.args.self.now.schedule.failing.items c.count.new.self.failing.items _ (c.count.ensures.due.0 c.if-count.true) c.count.ensures.counted.failing none);
}

pub invariant_of-self-2 : goal.invariant_of-self-2
invariant_of-self-2 c = record {
  within = moved_within c.args.self.now.given c.move_front-count.result (length c.args.into.now) c.args.self.now.bytes.items c.args.self.now.within (c.move_front-count.ensures.most ∙ ap (λ (xs : List ℕ). min (length c.args.into.now) (length xs)) c.bytes_left.ensures);
  quiet = λ none. c.args.self.now.quiet (sym c.count.ensures.counted.failing ∙ none);
}
