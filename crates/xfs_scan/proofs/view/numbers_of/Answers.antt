use Rattle.std.proofs.Common.{◌≡◌, ℕ, ◌+◌, ◌<◌, List, [], ◌∷◌, ◌++◌, length, map, take, get_or, refl, sym, ap, ap₂, ◌∙◌}
use Rattle.std.proofs.lemmas.List.{map-append, take_all, take_more}
use Rattle.std.proofs.lemmas.Result.{IfOk-from_err}
use Rattle.xfs_rounds.specs.declared.facts.SlotFact.{SlotFact}
use Rattle.xfs_rounds.specs.declared.facts.SlotReading.TheVariants.{Free}
use Rattle.xfs_scan.proofs.view.numbers_of.Goals as goal

-- what is made of each, with one more
made_next : {X Y : Type 0} (f : X → Y) (xs : List X) (i : ℕ) (d : X) (made new : List Y) (y : Y) → i < length xs → made ≡ map f (take i xs) → new ≡ made ++ y ∷ [] → y ≡ f (get_or xs i d)
    → new ≡ map f (take (i + 1) xs)
made_next f xs i d made new y inside so_far put is =
    put ∙ ap₂ (λ ys z. ys ++ z ∷ []) so_far is ∙ sym (ap (map f) (take_more xs i d inside) ∙ map-append f (take i xs) (get_or xs i d ∷ []))

pub loop-fact-init : goal.loop-fact-init
loop-fact-init c = c.in_ok-numbers.ensures.items

pub loop-fact-preserved : goal.loop-fact-preserved
loop-fact-preserved c =
    let none : SlotFact = record { reading = Free; lsn = 0 } in
    made_next (λ (fact : SlotFact). fact.lsn) c.args.facts.now c.loop-fact.fact-index none c.loop-fact.numbers.items c.push.new.self.items (get_or c.args.facts.now c.loop-fact.fact-index none).lsn
    c.loop-fact-test.true c.loop-fact.invariant c.in_ok-push.ensures.items refl

pub returns-in_err-push : goal.returns-in_err-push
returns-in_err-push c = IfOk-from_err c.from_residual-in_err-push.result _ c.from_residual-in_err-push.ensures.0

pub returns : goal.returns
returns c = c.loop-fact.invariant ∙ ap (map (λ (fact : SlotFact). fact.lsn)) (take_all c.loop-fact.fact-index c.args.facts.now c.loop-fact-test.false)
