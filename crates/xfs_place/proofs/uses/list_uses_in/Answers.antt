use Rattle.std.proofs.Common.{◌≡◌, ◌+◌, ◌≤◌, ◌<◌, ℕ, List, length, get_or, replicate, sym, ◌∙◌, ap, subst, arith}
use Rattle.std.proofs.lemmas.List.{get_or-replicate, length-replicate}
use Rattle.xfs_geom.specs.Volumes.{volume_of}
use Rattle.xfs_place.specs.declared.uses.Use.{Use}
use Rattle.xfs_place.specs.declared.uses.Use.TheVariants.{Claimed, Pool}
use Rattle.xfs_place.specs.Pool.{Shows, use_at, use_of}
use Rattle.xfs_place.proofs.HeldRuns.{written}
use Rattle.xfs_place.proofs.uses.list_uses_in.Goals as goal

-- blocks that are all of the pool
pool_count : (n : ℕ) (uses : List Use) → uses ≡ replicate n Pool → length uses ≡ n
pool_count n uses is = ap (λ (us : List Use). length us) is ∙ length-replicate n Pool

pool_inside : (from n top : ℕ) (uses : List Use) → uses ≡ replicate n Pool → from + n ≤ top → from + length uses ≤ top
pool_inside from n top uses is inside = omega (arith, pool_count n uses is, inside)

pool_at : (n : ℕ) (uses : List Use) → uses ≡ replicate n Pool → (b : ℕ) → b < length uses → use_at uses b ≡ Pool
pool_at n uses is b low = ap (λ (us : List Use). get_or us b Claimed) is ∙ get_or-replicate n b Pool Claimed (omega (arith, low, pool_count n uses is))

pub set_uses-requires-clause-runs : goal.set_uses-requires-clause-runs
set_uses-requires-clause-runs c = c.requires.runs

pub set_uses-requires-clause-inside : goal.set_uses-requires-clause-inside
set_uses-requires-clause-inside c =
    pool_inside c.args.from c.args.count c.args.g.now.dblocks _ (c.deref_mut.ensures.value ∙ c.in_ok-uses.ensures.items_if_clones_equal (λ y same. same)) c.requires.inside

pub set_uses-requires-clause-all : goal.set_uses-requires-clause-all
set_uses-requires-clause-all c = pool_at c.args.count _ (c.deref_mut.ensures.value ∙ c.in_ok-uses.ensures.items_if_clones_equal (λ y same. same))

pub returns : goal.returns
returns c =
    let uses = c.in_ok-uses.uses in
    let new = c.set_uses.new.uses in
    let pool = c.in_ok-uses.ensures.items_if_clones_equal (λ y same. same) in
    let due : ℕ → Use = λ b. use_of (volume_of c.args.g.now) c.args.runs.now c.args.reserved.now (c.args.from + b) in
    let shows : Shows new c.args.count due = subst (λ (n : ℕ). Shows new n due) (pool_count c.args.count _ (c.deref_mut.ensures.value ∙ pool)) c.set_uses.ensures in
    let whole = written uses.len new _ (omega (arith, uses.ok.0, shows.all, pool_count c.args.count uses.items pool)) in
    subst (λ (us : List Use). Shows us c.args.count due) (sym whole) shows
