use Rattle.std.proofs.Common.{◌≡◌, ◌∙◌, ◌+◌, ◌<◌, ℕ, List, Vec, Global, suc, ◌∷◌, ap, length, take}
use Rattle.xfs_empty.proofs.Results.{ok_as}
use Rattle.xfs_place.specs.Chunks.{asked_rooms}
use Rattle.xfs_place.specs.declared.faults.PlaceFault.{PlaceFault}
use Rattle.xfs_filled.proofs.Asked.{err_or, longer}
use Rattle.xfs_filled.proofs.chunks.list_starts.Goals as goal

pub returns-in-Ok-clause-starts : goal.returns-in-Ok-clause-starts
returns-in-Ok-clause-starts c =
    let ask = c.args.ask.now in
    ok_as (λ (s : Vec ℕ Global). s.items ≡ 16 ∷ c.as_slice.result.now) (λ (s : Vec ℕ Global). s.items ≡ 16 ∷ take ask.count (asked_rooms ask)) c.starts_with.result
    (λ s is. is ∙ ap (λ (xs : List ℕ). 16 ∷ xs) (c.as_slice.ensures ∙ c.in-Ok.ensures.lowest))
    c.starts_with.ensures.starts

pub returns-in-Ok-clause-all : goal.returns-in-Ok-clause-all
returns-in-Ok-clause-all c =
    let ask = c.args.ask.now in
    ok_as (λ (s : Vec ℕ Global). s.items ≡ 16 ∷ c.as_slice.result.now) (λ (s : Vec ℕ Global). length s.items ≡ ask.count + 1) c.starts_with.result
    (λ s is. longer s.items c.as_slice.result.now ask.count is (ap length c.as_slice.ensures ∙ c.in-Ok.ensures.all))
    c.starts_with.ensures.starts

pub returns-in-Ok-clause-cause : goal.returns-in-Ok-clause-cause
returns-in-Ok-clause-cause c =
    let ask = c.args.ask.now in
    err_or (λ (f : PlaceFault). (f ≡ PlaceFault.NoRoom ask.what) × (length (asked_rooms ask) < ask.count)) c.starts_with.result c.starts_with.ensures.cause
