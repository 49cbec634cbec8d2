use Rattle.std.proofs.Common.{◌≡◌, ℕ, List, sym, subst, arith}
use Rattle.xfs_collections.specs.Blocks.{is_in, placed, RunsAscend}
use Rattle.xfs_collections.proofs.Meeting.{unmet}
use Rattle.xfs_collections.proofs.Placed.{insert_is, placed_blocks, placed_ascends}
use Rattle.xfs_collections.proofs.run_set.RunSet.add.Given.{Over}
use Rattle.xfs_collections.proofs.run_set.RunSet.add.Goals as goal

-- the map has the run at its place
added : (g : Over) (c : goal.In_ok-insert g) → c.insert.new.self.entries ≡ placed (c.args.start, c.args.count) c.args.self.now
added g c =
    let up : RunsAscend 0 c.args.self.now = subst (λ (x : List (ℕ × ℕ)). RunsAscend 0 x) c.self.view_is c.self.invariant in
    rw (← insert_is 0 c.args.start c.args.count c.args.self.now c.requires.some up (unmet (is_in c.args.self.now) c.args.start c.args.count c.requires.apart)) (
    subst (λ (x : List (ℕ × ℕ)). c.insert.new.self.entries ≡ Rattle.std.specs.BTreeMap.insert_entry Rattle.std.specs.Ordering.nat_cmp x c.args.start c.args.count) c.self.view_is c.in_ok-insert.ensures.entries)

-- src/run_set.rt:58:5
pub invariant_of-self-2 : goal.invariant_of-self-2
invariant_of-self-2 g c =
    let up : RunsAscend 0 c.args.self.now = subst (λ (x : List (ℕ × ℕ)). RunsAscend 0 x) c.self.view_is c.self.invariant in
    subst (λ (x : List (ℕ × ℕ)). RunsAscend 0 x) (sym (added g c))
    (placed_ascends 0 c.args.start c.args.count c.args.self.now (omega arith) c.requires.some up (unmet (is_in c.args.self.now) c.args.start c.args.count c.requires.apart))

-- src/run_set.rt:58:5
pub returns-clause-placed : goal.returns-clause-placed
returns-clause-placed g c = added g c

-- src/run_set.rt:58:5
pub returns-clause-blocks : goal.returns-clause-blocks
returns-clause-blocks g c = λ b. rw (added g c) (placed_blocks c.args.start c.args.count c.args.self.now b)
