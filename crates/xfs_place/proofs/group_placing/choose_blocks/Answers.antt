use Rattle.std.proofs.Common.{◌≡◌, ◌≤◌, ℕ, length, refl, ap, arith, Option, Some, None, Result, Ok, Err}
use Rattle.std.specs.Option.{MatchOption}
use Rattle.std.specs.Result.{IfOk}
use Rattle.std.proofs.lemmas.Result.{IfOk-from_err, IfOk-weaker}
use Rattle.xfs_kinds.specs.MergedRuns.{held_at}
use Rattle.xfs_place.specs.Choice.{IsChosenCount, IsPlacingGroup, Stands, claim_count, group, group_claimed, rank}
use Rattle.xfs_place.proofs.Found.{claims_small, found_there}
use Rattle.xfs_place.proofs.group_placing.choose_blocks.Goals as goal

pub choose_count-requires-clause-header : goal.choose_count-requires-clause-header
choose_count-requires-clause-header c = c.requires.group.header

pub choose_count-requires-clause-records : goal.choose_count-requires-clause-records
choose_count-requires-clause-records c =
    let counted : claim_count (group_claimed c.args.uses.now c.args.claims.now 0) ≡ c.in_ok-records.records = c.in_ok-records.ensures c.args.uses.now 0 refl in
    omega (arith, counted, claims_small (group_claimed c.args.uses.now c.args.claims.now 0), c.requires.few)

-- two clauses on one result
both_ok : {X Y : Type 0} (r : Result X Y) (P Q R : X → Type 0) → ((x : X) → P x → Q x → R x) → IfOk r P → IfOk r Q → IfOk r R
both_ok (Ok x) P Q R f p q = f x p q
both_ok (Err e) P Q R f p q = tt

no_more : (o : Option ℕ) (n m : ℕ) → n ≤ m → MatchOption o (Unit {0}) (λ k. k ≤ n) → MatchOption o (Unit {0}) (λ k. k ≤ m)
no_more (Some k) n m few low = omega (arith, few, low)
no_more None n m few low = tt

pub returns-clause-there : goal.returns-clause-there
returns-clause-there c =
    let uses = c.args.uses.now in
    let l = c.choose_count.new.lowest in
    both_ok c.choose_count.result (λ o. Stands uses l) (λ o. MatchOption o (Unit {0}) (λ n. n ≤ length l.blocks.items)) (λ o. MatchOption o (Unit {0}) (λ n. n ≤ rank uses (length uses)))
    (λ o stands low. no_more o (length l.blocks.items) (rank uses (length uses)) (found_there uses l.blocks.items l.space.items l.inodes.items l.next l.free stands) low)
    c.choose_count.ensures.stands c.choose_count.ensures.there

pub returns-clause-chosen : goal.returns-clause-chosen
returns-clause-chosen c =
    let uses = c.args.uses.now in
    let claims = c.args.claims.now in
    let inner = c.args.inner in
    IfOk-weaker c.choose_count.result
    (λ o. (claim : ℕ → Option (ℕ × ℕ)) → IsPlacingGroup (group uses claim inner) → claim_count (group uses claim inner) ≡ c.in_ok-records.records → IsChosenCount (group uses claim inner) o)
    (IsChosenCount (group_claimed uses claims inner))
    (λ o chosen. chosen (held_at claims) c.requires.group (c.in_ok-records.ensures uses inner refl)) c.choose_count.ensures.chosen

pub count_records-requires-clause-claims : goal.count_records-requires-clause-claims
count_records-requires-clause-claims c = c.requires.claims

pub returns-in_err-records-clause-there : goal.returns-in_err-records-clause-there
returns-in_err-records-clause-there c = IfOk-from_err c.from_residual.result _ c.from_residual.ensures.0

pub returns-in_err-records-clause-chosen : goal.returns-in_err-records-clause-chosen
returns-in_err-records-clause-chosen c = IfOk-from_err c.from_residual.result _ c.from_residual.ensures.0

pub returns-in_err-lowest-clause-there : goal.returns-in_err-lowest-clause-there
returns-in_err-lowest-clause-there c = IfOk-from_err c.from_residual-in_err-lowest.result _ c.from_residual-in_err-lowest.ensures.0

pub returns-in_err-lowest-clause-chosen : goal.returns-in_err-lowest-clause-chosen
returns-in_err-lowest-clause-chosen c = IfOk-from_err c.from_residual-in_err-lowest.result _ c.from_residual-in_err-lowest.ensures.0

pub choose_count-requires-clause-inner : goal.choose_count-requires-clause-inner
choose_count-requires-clause-inner c = c.requires.inner

pub choose_count-requires-clause-stands : goal.choose_count-requires-clause-stands
choose_count-requires-clause-stands c = c.in_ok-lowest.ensures.stands

pub choose_count-requires-clause-none : goal.choose_count-requires-clause-none
choose_count-requires-clause-none c = ap length c.in_ok-lowest.ensures.none
