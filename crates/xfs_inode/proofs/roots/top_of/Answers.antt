use Rattle.std.proofs.Common.{◌≡◌, ℕ, ◌+◌, ◌*◌, ◌≤◌, ◌==◌, ◌&&◌, Bool, true, false, if◌then◌else◌, Option, Some, None, sym, ap, subst, ◌∙◌}
use Rattle.std.proofs.lemmas.Bool.{eq-eqb, ne_eqb}
use Rattle.std.proofs.lemmas.Result.{IfOk-from_err}
use Rattle.xfs_geom.specs.Volumes.{volume_of}
use Rattle.xfs_inode.specs.Forks.{Top, is_fork_root, level_under, root_capacity, root_count}
use Rattle.xfs_inode.specs.Named.{IsTop}
use Rattle.xfs_inode.proofs.roots.top_of.Goals.{then-core-ne3-via-then-core-ne3, then-core-ne3-via-else-core-ne3+then-not-is_fork_root}
use Rattle.xfs_inode.proofs.roots.top_of.Goals as goal

pub returns-then-core-ne3 : goal.returns-then-core-ne3
returns-then-core-ne3 c =
    let v = volume_of c.args.g.now in
    let core = c.args.core.now in
    let slot = c.args.slot.now in
    let top = Some (level_under v (root_capacity core.forkoff) slot) in
    elim c.then-core-ne3.branch [
      | then-core-ne3-via-then-core-ne3 w ↦ let other : (core.format == 3) ≡ false = ne_eqb core.format 3 w.if-core-ne3.true in λ i. if other i && is_fork_root v core slot then top else None
      | then-core-ne3-via-else-core-ne3+then-not-is_fork_root w ↦
          let tree : (core.format == 3) ≡ true = eq-eqb core.format 3 w.if-core-ne3.false in
          let broken : is_fork_root v core slot ≡ false = sym w.is_fork_root.ensures.value ∙ w.if-not-is_fork_root.true in
          λ i. if tree i && broken i then top else None
    ]

pub level_under-requires : goal.level_under-requires
level_under-requires c =
    let whole = c.is_fork_root.ensures in
    let stated = sym c.root_capacity.ensures.value in
    record {
      whole = c.requires;
      count = subst (λ (n : ℕ). root_count c.args.slot.now ≤ n) stated (whole.count c.if-not-is_fork_root.false);
      room = subst (λ (n : ℕ). 180 + 16 * n ≤ 512) stated (whole.room c.if-not-is_fork_root.false);
      level = whole.level c.if-not-is_fork_root.false;
    }

pub returns-in_err-top : goal.returns-in_err-top
returns-in_err-top c = IfOk-from_err c.from_residual.result _ c.from_residual.ensures.0

pub returns : goal.returns
returns c =
    let v = volume_of c.args.g.now in
    let core = c.args.core.now in
    let slot = c.args.slot.now in
    let tree : (core.format == 3) ≡ true = eq-eqb core.format 3 c.if-core-ne3.false in
    let sound : is_fork_root v core slot ≡ true = sym c.is_fork_root.ensures.value ∙ c.if-not-is_fork_root.false in
    let top : Option Top = Some (level_under v (root_capacity core.forkoff) slot) in
    subst (λ (o : Option Top). IsTop o c.in_ok-top.top)
    (ap (λ (n : ℕ). Some (level_under v n slot)) c.root_capacity.ensures.value ∙ sym (λ i. if tree i && sound i then top else None)) c.in_ok-top.ensures
