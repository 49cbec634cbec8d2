use Rattle.std.proofs.Common.{◌≡◌, Bool, ◌&&◌, IfOk, sym, ap, subst, ◌∙◌}
use Rattle.std.proofs.lemmas.Bool.{true≢false}
use Rattle.std.proofs.lemmas.Result.{IfOk-weaker}
use Rattle.xfs_geom.specs.Volumes.{volume_of}
use Rattle.xfs_inode.specs.Files.{ranges_apart, ranges_of}
use Rattle.xfs_inode.proofs.deciding.lies_apart.Goals as goal

pub returns-then-not-is_placed : goal.returns-then-not-is_placed
returns-then-not-is_placed c =
    record {
      value = ap (λ (t : Bool). t && ranges_apart (ranges_of (volume_of c.args.g.now) c.args.held.now)) (sym c.if-not-is_placed.true ∙ c.is_placed.ensures);
      placed = λ e. absurd (true≢false (sym e));
    }

pub ranges_apart-requires : goal.ranges_apart-requires
ranges_apart-requires c = sym c.is_placed.ensures ∙ c.if-not-is_placed.false

pub returns : goal.returns
returns c =
    record {
      value = subst (λ (t : Bool). IfOk c.ranges_apart.result (λ apart. apart ≡ (t && ranges_apart (ranges_of (volume_of c.args.g.now) c.args.held.now))))
          (sym c.if-not-is_placed.false ∙ c.is_placed.ensures) c.ranges_apart.ensures;
      placed = IfOk-weaker c.ranges_apart.result _ _ (λ _ _ _. sym c.is_placed.ensures ∙ c.if-not-is_placed.false) c.ranges_apart.ensures;
    }
