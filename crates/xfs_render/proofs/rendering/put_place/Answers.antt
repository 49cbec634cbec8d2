use Rattle.std.proofs.Common.{◌≡◌, ◌∙◌, ◌/◌, ◌%◌, ◌<◌, ℕ, List, length, sym, subst, ap, arith}
use Rattle.std.specs.List.Sorted.{IsNonDecreasingBy}
use Rattle.std.proofs.lemmas.Bool.{ne_eqb}
use Rattle.xfs_geom.specs.declared.records.InoRec.{InoRec}
use Rattle.xfs_place.specs.declared.placed.GroupPlaced.{GroupPlaced}
use Rattle.xfs_render.specs.Clusters.{CanCluster, IsClusterBlock}
use Rattle.xfs_render.specs.Groups.{IsSoundGroup}
use Rattle.xfs_render.specs.Rendering.{byte_place, old_at, wanted_inodes, volume}
use Rattle.xfs_render.specs.declared.wanted_slots.SlotWanted.{SlotWanted}
use Rattle.xfs_render.proofs.RenderSteps.{cluster_due, group_below, head_due, place_below}
use Rattle.xfs_render.proofs.rendering.put_place.Goals as goal

pub byte_place-place-requires : goal.byte_place-place-requires
byte_place-place-requires c = c.requires.inside

pub old_at-old-requires : goal.old_at-old-requires
old_at-old-requires c = subst (λ (n : ℕ). c.args.i < n) (sym c.requires.ready.old) c.requires.inside

pub wanted_inodes-requires : goal.wanted_inodes-requires
wanted_inodes-requires c =
    let w = c.args.work.now.wanted.now in
    let b = c.args.work.now.bytes.now in
    subst (λ (n : ℕ). c.byte_place-place.result / w.geometry.agblocks < n) (sym c.requires.ready.inodes)
    (place_below w c.args.work.now.placed.now b c.args.i c.byte_place-place.result c.byte_place-place.ensures c.requires.inside c.requires.ready)

pub group_placed-requires : goal.group_placed-requires
group_placed-requires c =
    let w = c.args.work.now.wanted.now in
    let b = c.args.work.now.bytes.now in
    subst (λ (n : ℕ). c.byte_place-place.result / w.geometry.agblocks < n) (sym c.requires.ready.groups)
    (place_below w c.args.work.now.placed.now b c.args.i c.byte_place-place.result c.byte_place-place.ensures c.requires.inside c.requires.ready)

pub put_headers-requires-clause-group : goal.put_headers-requires-clause-group
put_headers-requires-clause-group c =
    place_below c.args.work.now.wanted.now c.args.work.now.placed.now c.args.work.now.bytes.now c.args.i c.byte_place-place.result c.byte_place-place.ensures
    c.requires.inside c.requires.ready

pub put_headers-requires-clause-sector : goal.put_headers-requires-clause-sector
put_headers-requires-clause-sector c = c.requires.sector

pub put_headers-requires-clause-old : goal.put_headers-requires-clause-old
put_headers-requires-clause-old c = c.old_at-old.ensures.size

pub put_headers-requires-clause-block : goal.put_headers-requires-clause-block
put_headers-requires-clause-block c = c.requires.block

pub put_cluster-requires-clause-inside : goal.put_cluster-requires-clause-inside
put_cluster-requires-clause-inside c =
    let w = c.args.work.now.wanted.now in
    subst (λ (n : ℕ). n < w.geometry.dblocks) (sym c.byte_place-place.ensures) (c.requires.ready.inside c.args.i 0 c.requires.inside)

pub put_cluster-requires-clause-order : goal.put_cluster-requires-clause-order
put_cluster-requires-clause-order c =
    subst (λ (x : List SlotWanted). IsNonDecreasingBy (λ (s : SlotWanted). s.ino) x) (sym c.as_slice.ensures) c.requires.ready.order

pub put_cluster-requires-clause-old : goal.put_cluster-requires-clause-old
put_cluster-requires-clause-old c = c.old_at-old.ensures.size

pub put_cluster-requires-clause-block : goal.put_cluster-requires-clause-block
put_cluster-requires-clause-block c = c.requires.block

pub put_cluster-requires-clause-can : goal.put_cluster-requires-clause-can
put_cluster-requires-clause-can c =
    let w = c.args.work.now.wanted.now in
    let b = c.args.work.now.bytes.now in
    let at = c.byte_place-place.ensures in
    let other = ne_eqb (byte_place b c.args.i % w.geometry.agblocks) 0 (λ e. c.if-place-g-eq0.false (ap (λ (n : ℕ). n % w.geometry.agblocks) at ∙ e)) in
    let due = c.requires.ready.slots c.args.i c.requires.inside other in
    let bytes = subst (λ (x : List ℕ). CanCluster (volume w) b.slots (byte_place b c.args.i) x) (sym c.old_at-old.ensures.value) due in
    let place = subst (λ (n : ℕ). CanCluster (volume w) b.slots n c.old_at-old.result.now) (sym at) bytes in
    subst (λ (x : List SlotWanted). CanCluster (volume w) x c.byte_place-place.result c.old_at-old.result.now) (sym c.as_slice.ensures) place

pub put_headers-requires-clause-sound : goal.put_headers-requires-clause-sound
put_headers-requires-clause-sound c =
    let w = c.args.work.now.wanted.now in
    let ag = c.byte_place-place.result / w.geometry.agblocks in
    let inside : c.byte_place-place.result < w.geometry.dblocks =
    subst (λ (n : ℕ). n < w.geometry.dblocks) (sym c.byte_place-place.ensures) (c.requires.ready.inside c.args.i 0 c.requires.inside) in
    let low : ag < w.geometry.agcount = group_below (volume w) c.byte_place-place.result w.geometry.shape.groups inside in
    subst (λ (x : List InoRec). IsSoundGroup (volume w) ag x c.group_placed.result.now) (sym c.wanted_inodes.ensures)
    (subst (λ (x : GroupPlaced). IsSoundGroup (volume w) ag (wanted_inodes w ag) x) (sym c.group_placed.ensures) (c.requires.ready.sound ag low))

pub returns-then-place-g-eq0 : goal.returns-then-place-g-eq0
returns-then-place-g-eq0 c =
    let w = c.args.work.now.wanted.now in
    let at = c.byte_place-place.ensures in
    record {
      due = head_due w c.args.work.now.placed.now c.args.work.now.bytes.now c.args.work.now.sector.now c.args.i _ _ _ _ _ (omega arith)
          (subst (λ (n : ℕ). n % w.geometry.agblocks ≡ 0) at c.if-place-g-eq0.true)
          (ap (λ (n : ℕ). n / w.geometry.agblocks) at) c.old_at-old.ensures.value c.wanted_inodes.ensures c.group_placed.ensures c.put_headers.ensures;
    }

pub returns-else-place-g-eq0 : goal.returns-else-place-g-eq0
returns-else-place-g-eq0 c =
    let w = c.args.work.now.wanted.now in
    let b = c.args.work.now.bytes.now in
    let at = c.byte_place-place.ensures in
    let slots = subst (λ (x : List SlotWanted). IsClusterBlock (volume w) b.stamp.generation x c.byte_place-place.result c.old_at-old.result.now c.put_cluster.new.block)
    c.as_slice.ensures c.put_cluster.ensures in
    let here = subst (λ (n : ℕ). IsClusterBlock (volume w) b.stamp.generation b.slots n c.old_at-old.result.now c.put_cluster.new.block) at slots in
    record {
      due = cluster_due w c.args.work.now.placed.now b c.args.work.now.sector.now c.args.i _ _ (omega arith)
          (λ e. c.if-place-g-eq0.false (ap (λ (n : ℕ). n % w.geometry.agblocks) at ∙ e)) c.old_at-old.ensures.value here;
    }
