use Rattle.std.proofs.Common.{◌≡◌, ℕ, ◌<◌, ◌≤◌, get_or}
use Rattle.xfs_geom.specs.Volumes.{volume_of}
use Rattle.xfs_rounds.specs.declared.judging.SlotPart.{SlotPart}
use Rattle.xfs_rounds.specs.Named.{AreWithin, IsMore, IsNamedPart}
use Rattle.xfs_rounds.proofs.naming.name_parts.Given as goal

abbrev pub invariant-loop-i : goal.invariant-loop-i
invariant-loop-i l = record {
  rest : (j : ℕ) (d : SlotPart) → l.i ≤ j → get_or l.parts j d ≡ get_or l.initial.parts j d;
  numbers : (j : ℕ) (d : SlotPart) → j < l.i → (get_or l.parts j d).slot ≡ (get_or l.initial.parts j d).slot;
  done : (j : ℕ) (d : SlotPart) → j < l.i → IsNamedPart (volume_of l.g) l.named l.place l.bytes (get_or l.parts j d);
  more : IsMore l.fn.named l.named;
  within : AreWithin l.g.dblocks l.named;
}
