use Rattle.std.proofs.Common.{rules, ◌≡◌, ◌==◌, ℕ, not, ◌∷◌, [], false, Some, None, sym, ◌∙◌}
use Rattle.std.specs.List.{list_any}
use Rattle.std.proofs.lemmas.Result.{IfOk-from_err}
use Rattle.xfs_geom.specs.First.{first_false}
use Rattle.xfs_geom.specs.Volumes.{volume_of}
use Rattle.xfs_tree.specs.Rules.{can_hold}
use Rattle.xfs_tree.proofs.level.admit_block.Goals as goal

some_fault : (n : ℕ) → Some n ≡ None → ⊥
some_fault n e = cc

pub returns-then-not-can_hold : goal.returns-then-not-can_hold
returns-then-not-can_hold g c =
    let s = g.K.Kind.shape c.args.kind.now in
    let v = volume_of c.args.g.now in
    let held : can_hold v s.layout s.owner c.args.place ≡ false =
    sym (c.can_hold.ensures.value ∙ (λ i. can_hold v (c.tree_layout.ensures.value i) (c.owner.ensures.value i) c.args.place)) ∙ c.if-not-can_hold.true in
    record {
      fault = sym (λ i. first_false ((1, held i) ∷ (2, not (list_any (λ block. block == c.args.place) c.args.met.now.blocks.items)) ∷ []));
      inside = λ e. absurd (some_fault 1 e);
      blocks = λ e. absurd (some_fault 1 e);
      met = λ e. absurd (some_fault 1 e);
    }

pub returns-in_err-add : goal.returns-in_err-add
returns-in_err-add g c =
    record {
      fault = IfOk-from_err c.from_residual.result _ c.from_residual.ensures.0;
      inside = IfOk-from_err c.from_residual.result _ c.from_residual.ensures.0;
      blocks = IfOk-from_err c.from_residual.result _ c.from_residual.ensures.0;
      met = IfOk-from_err c.from_residual.result _ c.from_residual.ensures.0;
    }

pub returns-else-branch : goal.returns-else-branch
returns-else-branch g c = search rules
