use Rattle.std.proofs.Common.{◌≡◌, ◌≤◌, ◌<◌, ℕ, List, length, take, inr, refl, ◌∙◌, ap, arith}
use Rattle.std.proofs.lemmas.List.{length-take}
use Rattle.xfs_place.specs.Chunks.{asked_rooms}
use Rattle.std.proofs.lemmas.Result.{IfOk-from_err}
use Rattle.xfs_place.proofs.chunk_search.chunks.Goals as goal

all_found : (n : ℕ) (rooms starts : List ℕ) → starts ≡ take n rooms → n ≤ length starts → length starts ≡ n
all_found n rooms starts is many = omega (arith, ap (λ (xs : List ℕ). length xs) is ∙ length-take n rooms, many)

too_few : (n : ℕ) (rooms starts : List ℕ) → starts ≡ take n rooms → length starts < n → length rooms < n
too_few n rooms starts is few = omega (arith, ap (λ (xs : List ℕ). length xs) is ∙ length-take n rooms, few)

pub returns-then-len-ask-clause-cause : goal.returns-then-len-ask-clause-cause
returns-then-len-ask-clause-cause c =
    let ask = c.args.ask.now in
    let starts = c.in_ok-starts.starts in
    inr (refl, too_few ask.count (asked_rooms ask) starts.items c.in_ok-starts.ensures (omega (arith, c.len.ensures, starts.ok.0, c.if-len-ask.true)))

pub returns-clause-lowest : goal.returns-clause-lowest
returns-clause-lowest c = c.from_vec.ensures ∙ c.in_ok-starts.ensures

pub returns-clause-all : goal.returns-clause-all
returns-clause-all c =
    let ask = c.args.ask.now in
    let starts = c.in_ok-starts.starts in
    ap (λ (xs : List ℕ). length xs) c.from_vec.ensures
    ∙ all_found ask.count (asked_rooms ask) starts.items c.in_ok-starts.ensures (omega (arith, c.len.ensures, starts.ok.0, c.if-len-ask.false))

pub returns-in_err-starts-clause-lowest : goal.returns-in_err-starts-clause-lowest
returns-in_err-starts-clause-lowest c = IfOk-from_err c.from_residual.result _ c.from_residual.ensures.0

pub returns-in_err-starts-clause-all : goal.returns-in_err-starts-clause-all
returns-in_err-starts-clause-all c = IfOk-from_err c.from_residual.result _ c.from_residual.ensures.0

pub returns-then-len-ask-clause-lowest : goal.returns-then-len-ask-clause-lowest
returns-then-len-ask-clause-lowest c = tt

pub returns-then-len-ask-clause-all : goal.returns-then-len-ask-clause-all
returns-then-len-ask-clause-all c = tt

pub returns-clause-cause : goal.returns-clause-cause
returns-clause-cause c = tt

pub find_chunks-requires-clause-size : goal.find_chunks-requires-clause-size
find_chunks-requires-clause-size c = c.requires.size

pub find_chunks-requires-clause-taken : goal.find_chunks-requires-clause-taken
find_chunks-requires-clause-taken c = c.requires.taken
