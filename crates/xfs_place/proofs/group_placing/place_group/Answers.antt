use Rattle.std.proofs.Common.{◌≡◌, ◌≤◌, ℕ, List, length, sym, subst, arith, Option, Some, None, ◌∙◌}
use Rattle.std.proofs.lemmas.Result.{IfOk-from_err}
use Rattle.std.specs.Option.{MatchOption}
use Rattle.xfs_geom.specs.declared.records.Run.{Run}
use Rattle.xfs_place.specs.declared.uses.Use.{Use}
use Rattle.xfs_place.specs.Choice.{IsChosenCount, IsPlacingGroup, group_claimed, rank}
use Rattle.xfs_place.specs.Placing.{inner_blocks}
use Rattle.xfs_place.proofs.group_placing.place_group.Goals as goal

pub choose_blocks-requires-clause-inner : goal.choose_blocks-requires-clause-inner
choose_blocks-requires-clause-inner c = (c.inner_size-inner.ensures.some, omega (arith, c.inner_size-inner.ensures.small))

pub choose_blocks-requires-clause-group : goal.choose_blocks-requires-clause-group
choose_blocks-requires-clause-group c =
    subst (λ (i : ℕ). IsPlacingGroup (group_claimed c.args.uses.now c.args.claims.now i)) (sym c.inner_size-inner.ensures.value) c.requires.group

-- what is chosen, by the numbers that the code has
chosen_is : (uses : List Use) (claims : List Run) (inner due : ℕ) (o p : Option ℕ) → inner ≡ due → o ≡ p → IsChosenCount (group_claimed uses claims inner) o
    → IsChosenCount (group_claimed uses claims due) p
chosen_is uses claims inner due o p same at chosen =
    subst (λ (i : ℕ). IsChosenCount (group_claimed uses claims i) p) same (subst (IsChosenCount (group_claimed uses claims inner)) at chosen)

pub returns-in_default : goal.returns-in_default
returns-in_default c =
    chosen_is c.args.uses.now c.args.claims.now c.inner_size-inner.result (inner_blocks c.args.inodes.now) c.in_ok-blocks.field-0 None c.inner_size-inner.ensures.value c.in_default.is
    c.in_ok-blocks.ensures.chosen

low_at : (o : Option ℕ) (n m : ℕ) → o ≡ Some n → MatchOption o (Unit {0}) (λ k. k ≤ m) → n ≤ m
low_at o n m at low = subst (λ (p : Option ℕ). MatchOption p (Unit {0}) (λ k. k ≤ m)) at low

pub first-requires-clause-header : goal.first-requires-clause-header
first-requires-clause-header c = c.requires.group.header

pub first-requires-clause-there : goal.first-requires-clause-there
first-requires-clause-there c =
    low_at c.in_ok-blocks.field-0 c.in-Some.blocks (rank c.args.uses.now (length c.args.uses.now)) c.in-Some.is c.in_ok-blocks.ensures.there

pub fill_group-requires-clause-free : goal.fill_group-requires-clause-free
fill_group-requires-clause-free c = c.in_ok-fino.ensures

pub returns : goal.returns
returns c =
    let uses = c.args.uses.now in
    let claims = c.args.claims.now in
    let due = inner_blocks c.args.inodes.now in
    let some = chosen_is uses claims c.inner_size-inner.result due c.in_ok-blocks.field-0 (Some c.in-Some.blocks) c.inner_size-inner.ensures.value c.in-Some.is c.in_ok-blocks.ensures.chosen in
    c.in_ok-placed.ensures (subst (λ (n : ℕ). IsChosenCount (group_claimed uses claims due) (Some n)) (sym c.in_ok-taken.ensures.all) some)

pub returns-in_err-fino : goal.returns-in_err-fino
returns-in_err-fino c = IfOk-from_err c.from_residual.result _ c.from_residual.ensures.0

pub returns-in_err-blocks : goal.returns-in_err-blocks
returns-in_err-blocks c = IfOk-from_err c.from_residual-in_err-blocks.result _ c.from_residual-in_err-blocks.ensures.0

pub returns-in_err-taken : goal.returns-in_err-taken
returns-in_err-taken c = IfOk-from_err c.from_residual-in_err-taken.result _ c.from_residual-in_err-taken.ensures.0

pub returns-in_err-placed : goal.returns-in_err-placed
returns-in_err-placed c = IfOk-from_err c.from_residual-in_err-placed.result _ c.from_residual-in_err-placed.ensures.0

pub inner_size-inner-requires-clause-few : goal.inner_size-inner-requires-clause-few
inner_size-inner-requires-clause-few c = c.requires.few.1

pub inner_size-inner-requires-clause-free : goal.inner_size-inner-requires-clause-free
inner_size-inner-requires-clause-free c = c.deref.ensures.value ∙ c.in_ok-fino.ensures

pub choose_blocks-requires-clause-few : goal.choose_blocks-requires-clause-few
choose_blocks-requires-clause-few c = c.requires.few.0

pub choose_blocks-requires-clause-claims : goal.choose_blocks-requires-clause-claims
choose_blocks-requires-clause-claims c = c.requires.claims

pub first-requires-clause-few : goal.first-requires-clause-few
first-requires-clause-few c = omega (arith, c.requires.few.0)

pub fill_group-requires-clause-few : goal.fill_group-requires-clause-few
fill_group-requires-clause-few c = c.requires.few

pub fill_group-requires-clause-base : goal.fill_group-requires-clause-base
fill_group-requires-clause-base c = c.requires.base

pub fill_group-requires-clause-group : goal.fill_group-requires-clause-group
fill_group-requires-clause-group c = c.requires.group

pub fill_group-requires-clause-claims : goal.fill_group-requires-clause-claims
fill_group-requires-clause-claims c = c.requires.claims

pub fill_group-requires-clause-taken : goal.fill_group-requires-clause-taken
fill_group-requires-clause-taken c = c.in_ok-taken.ensures.stands
