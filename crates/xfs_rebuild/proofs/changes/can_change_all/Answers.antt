use Rattle.std.proofs.Common.{◌≡◌, ℕ, ◌<◌, [], false, get_or, length, sym, subst}
use borrow.Author.Count.{below_more, below_none}
use Rattle.xfs_geom.specs.Volumes.{volume_of}
use Rattle.xfs_render.specs.Rendering.{is_head}
use Rattle.xfs_rebuild.specs.Changes.{CanChange}
use Rattle.xfs_rebuild.proofs.Judged.{changed_at, judged}
use Rattle.xfs_rebuild.proofs.changes.can_change_all.Goals as goal

pub loop-i-init : goal.loop-i-init
loop-i-init c =
    let v = volume_of c.args.g.now in
    below_none (λ (i : ℕ). is_head v (get_or c.args.places.now i 0) ≡ false → CanChange v c.args.slots.now (get_or c.args.places.now i 0) (get_or c.args.old.now i []))

pub view-requires : goal.view-requires
view-requires c = record { inside = subst (λ (n : ℕ). c.loop-i.i < n) (sym c.requires.many) c.loop-i-test.true }

pub can_change_at-requires : goal.can_change_at-requires
can_change_at-requires c = record { inside = c.requires.inside c.loop-i.i 0 c.loop-i-test.true; whole = c.view.ensures.size; order = c.requires.order }

pub loop-i-preserved : goal.loop-i-preserved
loop-i-preserved c =
    let v = volume_of c.args.g.now in
    let i = c.loop-i.i in
    let places = c.args.places.now in
    below_more (λ (i : ℕ). is_head v (get_or places i 0) ≡ false → CanChange v c.args.slots.now (get_or places i 0) (get_or c.args.old.now i [])) i c.loop-i.invariant
    (λ inner. changed_at v c.args.slots.now (get_or places i 0) i c.args.old.now c.view.result.now c.view.ensures.block (c.can_change_at.ensures c.if-not-can_change_at.false inner))

pub returns-then-not-can_change_at : goal.returns-then-not-can_change_at
returns-then-not-can_change_at c = λ is. absurd cc

pub returns : goal.returns
returns c = λ is. record { all = λ i low. c.loop-i.invariant i (judged i (length c.args.places.now) c.loop-i.i low c.loop-i-test.false) }
