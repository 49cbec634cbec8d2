-- What there is room for stands behind what was put before.
use Rattle.std.specs.Prelude.{IsTrue, ◌↔◌, ◌⊎◌}
use Rattle.std.specs.List.{Contains}
use Rattle.std.proofs.Common.{◌≡◌, ◌<◌, ◌≤◌, ◌-◌, ℕ, Bool, true, false, inl, inr, List, [], ◌++◌, arith, length, take, refl, sym, ap, ◌∙◌}
use Rattle.std.proofs.lemmas.List.{take_all, append-nil}
use Rattle.xfs_memory.proofs.memory_sink.MemorySinkSink.put.Goals as goal

differ : false ≡ true → ⊥
differ h = cc

-- a call that is to fail is in the list
never : (xs ys : List ℕ) (n : ℕ) → Contains xs n → ys ≡ xs → ys ≡ [] → ⊥
never xs ys n due same none =
    let zero : length xs ≡ 0 = ap length (sym same ∙ none) in
    let below : due.0 < length xs = due.1 in
    omega arith

-- what was put although the call was not to fail
not_due : (Due : Type 0) (b : Bool) → b ≡ false → (IsTrue b ↔ Due) → Due → ⊥
not_due Due b is due now = differ (sym is ∙ due.1 now)

-- the call failed neither by the schedule nor for want of room
neither : (Due : Type 0) (b : Bool) (left n : ℕ) → b ≡ false → (IsTrue b ↔ Due) → n ≤ left → (false ≡ true → Due ⊎ (left < n)) × (Due ⊎ (left < n) → false ≡ true)
neither Due b left n is due most =
    (λ e. inl (due.0 (is ∙ e)), by_case)
  where
    by_case : Due ⊎ (left < n) → false ≡ true
    by_case (inl now) = sym is ∙ due.1 now
    by_case (inr less) = absurd (omega (arith, most, less))

pub returns-then-count-clause-fails : goal.returns-then-count-clause-fails
returns-then-count-clause-fails c = (λ _. inl (c.count.ensures.due.0 c.if-count.true), λ _. refl)

pub returns-then-count-clause-whole : goal.returns-then-count-clause-whole
returns-then-count-clause-whole c = tt

pub returns-then-count-clause-part : goal.returns-then-count-clause-part
returns-then-count-clause-part c = λ not. absurd (not (c.count.ensures.due.0 c.if-count.true))

pub returns-then-count-clause-prefix : goal.returns-then-count-clause-prefix
returns-then-count-clause-prefix c = (0, omega arith, sym (append-nil c.args.self.now.bytes.items))

pub returns-then-count-clause-nothing : goal.returns-then-count-clause-nothing
returns-then-count-clause-nothing c = λ _. refl

pub returns-then-count-clause-room : goal.returns-then-count-clause-room
returns-then-count-clause-room c = refl

pub returns-then-count-clause-counted : goal.returns-then-count-clause-counted
returns-then-count-clause-counted c = c.count.ensures.counted

pub returns-then-put_front-clause-fails : goal.returns-then-put_front-clause-fails
returns-then-put_front-clause-fails c = neither _ c.count.result _ _ c.if-count.false c.count.ensures.due (c.put_front.ensures.all c.if-put_front.true)

pub returns-then-put_front-clause-whole : goal.returns-then-put_front-clause-whole
returns-then-put_front-clause-whole c =
    c.put_front.ensures.items ∙ ap (λ (xs : List ℕ). c.args.self.now.bytes.items ++ xs) (take_all (c.args.self.now.room - length c.args.self.now.bytes.items) c.args.from.now (c.put_front.ensures.all c.if-put_front.true))

pub returns-then-put_front-clause-part : goal.returns-then-put_front-clause-part
returns-then-put_front-clause-part c = λ _. c.put_front.ensures.items

pub returns-then-put_front-clause-prefix : goal.returns-then-put_front-clause-prefix
returns-then-put_front-clause-prefix c = tt

pub returns-then-put_front-clause-nothing : goal.returns-then-put_front-clause-nothing
returns-then-put_front-clause-nothing c = λ now. absurd (not_due _ c.count.result c.if-count.false c.count.ensures.due now)

pub returns-then-put_front-clause-room : goal.returns-then-put_front-clause-room
returns-then-put_front-clause-room c = refl

pub returns-then-put_front-clause-faults : goal.returns-then-put_front-clause-faults
returns-then-put_front-clause-faults c = refl

pub returns-then-put_front-clause-counted : goal.returns-then-put_front-clause-counted
returns-then-put_front-clause-counted c = c.count.ensures.counted

pub returns-else-put_front-clause-fails : goal.returns-else-put_front-clause-fails
returns-else-put_front-clause-fails c = (λ _. inr (c.put_front.ensures.part c.if-put_front.false), λ _. refl)

pub returns-else-put_front-clause-whole : goal.returns-else-put_front-clause-whole
returns-else-put_front-clause-whole c = tt

pub returns-else-put_front-clause-part : goal.returns-else-put_front-clause-part
returns-else-put_front-clause-part c = λ _. c.put_front.ensures.items

less_most : (a b : ℕ) → a < b → a ≤ b
less_most a b less = omega (arith, less)

pub returns-else-put_front-clause-prefix : goal.returns-else-put_front-clause-prefix
returns-else-put_front-clause-prefix c =
    (c.args.self.now.room - length c.args.self.now.bytes.items, less_most _ _ (c.put_front.ensures.part c.if-put_front.false), c.put_front.ensures.items)

pub returns-else-put_front-clause-nothing : goal.returns-else-put_front-clause-nothing
returns-else-put_front-clause-nothing c = λ now. absurd (not_due _ c.count.result c.if-count.false c.count.ensures.due now)

pub returns-else-put_front-clause-room : goal.returns-else-put_front-clause-room
returns-else-put_front-clause-room c = refl

pub returns-else-put_front-clause-counted : goal.returns-else-put_front-clause-counted
returns-else-put_front-clause-counted c = c.count.ensures.counted

pub invariant_of-self : goal.invariant_of-self
invariant_of-self c = record {
  within = c.args.self.now.within;
  taken = c.args.self.now.taken;
  quiet = λ none. absurd (never c.args.self.now.schedule.failing.items c.count.new.self.failing.items _ (c.count.ensures.due.0 c.if-count.true) c.count.ensures.counted.failing none);
}
