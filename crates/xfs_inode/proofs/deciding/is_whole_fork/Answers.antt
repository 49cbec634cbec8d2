use Rattle.std.proofs.Common.{◌≡◌, Bool, ◌&&◌, IfOk, sym, ap, subst, ◌∙◌}
use Rattle.std.proofs.lemmas.Bool.{true≢false}
use Rattle.std.proofs.lemmas.Result.{IfOk-weaker}
use Rattle.xfs_geom.specs.Volumes.{volume_of}
use Rattle.xfs_inode.specs.Files.{is_placed, ranges_apart, ranges_of}
use Rattle.xfs_inode.proofs.deciding.is_whole_fork.Goals as goal

pub has_link_target-requires : goal.has_link_target-requires
has_link_target-requires c = record { slot = c.requires.slot; link = c.requires.link }

pub returns-then-not-has_link_target : goal.returns-then-not-has_link_target
returns-then-not-has_link_target c =
    let v = volume_of c.args.g.now in
    let held = c.args.held.now in
    record {
      value = ap (λ (t : Bool). t && is_placed v held && ranges_apart (ranges_of v held)) (sym c.if-not-has_link_target.true ∙ c.has_link_target.ensures.value);
      placed = λ e. absurd (true≢false (sym e));
      short = λ e. absurd (true≢false (sym e));
    }

pub returns : goal.returns
returns c =
    let v = volume_of c.args.g.now in
    let held = c.args.held.now in
    record {
      value = subst (λ (t : Bool). IfOk c.lies_apart.result (λ whole. whole ≡ (t && is_placed v held && ranges_apart (ranges_of v held))))
          (sym c.if-not-has_link_target.false ∙ c.has_link_target.ensures.value) c.lies_apart.ensures.value;
      placed = c.lies_apart.ensures.placed;
      short = IfOk-weaker c.lies_apart.result _ _ (λ _ _ _. c.has_link_target.ensures.short c.if-not-has_link_target.false) c.lies_apart.ensures.placed;
    }
