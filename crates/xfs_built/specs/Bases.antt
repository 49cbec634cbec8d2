-- Which slots begin with no log sequence number.
use Rattle.std.specs.Prelude.{◌≡◌}
use Rattle.xfs_render.specs.declared.wanted_slots.SlotBase.{SlotBase}
use Rattle.xfs_render.specs.declared.wanted_slots.SlotBase.TheVariants as Base

-- a slot that is made anew or freed begins with 0
abbrev pub StartsAtZero : SlotBase → Type 0
StartsAtZero Base.Kept = ⊥
StartsAtZero Base.Free = Unit {0}
StartsAtZero (Base.Fresh core) = core.lsn ≡ 0
