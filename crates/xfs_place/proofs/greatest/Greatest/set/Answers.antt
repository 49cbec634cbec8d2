use Rattle.std.proofs.Common.{◌≡◌, ◌≢◌, ◌<◌, ◌+◌, ◌++◌, ℕ, List, length, get_or, refl, sym, ◌∙◌, ap, subst, arith}
use Rattle.xfs_place.specs.Greatest.{AreGreatest, leaf_at}
use Rattle.xfs_place.proofs.HeldRuns.{written}
use Rattle.xfs_place.proofs.greatest.Greatest.set.Goals as goal

pub put-requires-clause-stands : goal.put-requires-clause-stands
put-requires-clause-stands c =
    let all = c.args.self.now in
    subst (λ (ns : List ℕ). AreGreatest ns all.leaves all.depth) (sym c.deref_mut.ensures.value) c.requires.stands

pub put-requires-clause-inside : goal.put-requires-clause-inside
put-requires-clause-inside c = c.requires.inside

pub returns : goal.returns
returns c =
    let all = c.args.self.now in
    let new = c.put.new.nodes in
    let sets = c.put.ensures in
    let whole = written all.nodes.len new _ (omega (arith, all.nodes.ok.0, c.requires.stands.all, sets.stands.all)) in
    record {
      stands = subst (λ (ns : List ℕ). AreGreatest ns all.leaves all.depth) (sym whole) sets.stands;
      leaves' = refl;
      here = ap (λ (ns : List ℕ). leaf_at ns all.leaves c.args.k) whole ∙ sets.set;
      others = λ j low other.
          ap (λ (ns : List ℕ). leaf_at ns all.leaves j) whole ∙ sets.others j low other ∙ ap (λ (ns : List ℕ). leaf_at ns all.leaves j) c.deref_mut.ensures.value;
    }
