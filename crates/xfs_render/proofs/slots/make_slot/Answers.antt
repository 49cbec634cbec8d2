use Rattle.std.proofs.Common.{List, ℕ, rules}
use Rattle.std.specs.Prelude.{◌≡◌, MatchOption}
use Rattle.xfs_geom.specs.Volumes.{Volume, volume_of}
use Rattle.xfs_render.specs.Slots.{DropsAttrs, IsBased, IsMadeSlot, SetsFork, SetsLinks}
use Rattle.xfs_render.specs.declared.wanted_slots.SlotWanted.{SlotWanted}
use Rattle.xfs_render.proofs.slots.make_slot.Goals as goal

made : (v : Volume) (generation : ℕ) (w : SlotWanted) (old based bare forked new : List ℕ) → IsBased v generation w.ino w.base old based
    → MatchOption w.drop_attrs (bare ≡ based) (λ nblocks. DropsAttrs v w.ino nblocks based bare) → MatchOption w.nlink (new ≡ forked) (λ nlink. SetsLinks v w.ino nlink forked new)
    → MatchOption w.fork (forked ≡ bare) (λ fork. SetsFork v w.ino fork bare forked) → IsMadeSlot v generation w old new
made v generation w old based bare forked new base attrs links fork = record { based = based; bare = bare; forked = forked; base = base; attrs = attrs; fork = fork; links = links }

pub returns : goal.returns
returns c =
    let v = volume_of c.args.g.now in
    let w = c.args.wanted.now in
    let bare = c.put_attrs.new.slot in
    made v c.args.stamp.now.generation w c.args.slot.now c.put_base.new.slot bare _ _ c.put_base.ensures.based c.put_attrs.ensures.due c.put_links.ensures (search rules)
