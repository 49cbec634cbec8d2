use Rattle.std.proofs.Common.{◌≡◌, ℕ, length, refl, subst, arith}
use Rattle.xfs_collections.specs.Bank.{AreNeighbours}
use Rattle.xfs_collections.proofs.Runs.{neighbours_next, neighbours_one}
use Rattle.xfs_collections.proofs.bank.run_length.Goals as goal

pub loop-n-init : goal.loop-n-init
loop-n-init c = record { run = neighbours_one c.args.places.now }

pub loop-n-preserved : goal.loop-n-preserved
loop-n-preserved c = record { run = neighbours_next c.args.places.now c.loop-n.n c.loop-n.invariant.run (c.if-not-stands_behind.ensures refl) }

pub returns : goal.returns
returns c =
    let end : c.loop-n.n ≡ length c.args.places.now = omega (arith, c.loop-n-test.false, c.loop-n.auto.n-end c.requires.some) in
    record {
      some = c.requires.some;
      within = omega arith;
      run = subst (λ (n : ℕ). AreNeighbours n c.args.places.now) end c.loop-n.invariant.run;
    }

pub returns-then-not-stands_behind : goal.returns-then-not-stands_behind
returns-then-not-stands_behind c =
    record {
      some = omega (arith, c.loop-n.auto.n);
      within = omega (arith, c.loop-n-test.true);
      run = c.loop-n.invariant.run;
    }
