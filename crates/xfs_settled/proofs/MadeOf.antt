-- What changes in a slot can be made of what stands there, where what was wanted before can.
use Rattle.std.proofs.Common.{◌≡◌, inl, inr, ℕ, Bool, true, false, ◌*◌, ◌^◌, ◌≤◌, ◌==◌, ◌&&◌, nat_le, nat_lt, if◌then◌else◌, List, [], ◌∷◌, length, Option, Some, None, MatchOption, refl, subst, arith}
use Rattle.std.proofs.lemmas.Bool.{and_from, and_parts, eqb-true, le-leb, leb-true, lt-ltb}
use Rattle.xfs_word.specs.Field.{field_of}
use Rattle.xfs_word.specs.Seal.{is_sealed}
use Rattle.xfs_geom.specs.Features.{or_else}
use Rattle.xfs_geom.specs.Volumes.{Volume}
use Rattle.xfs_inode.specs.Slots.{fork_bytes, slot_seal}
use Rattle.xfs_inodebuild.specs.declared.forks.ForkWanted.{ForkWanted}
use Rattle.xfs_views.proofs.Members.{Member}
use Rattle.xfs_render.specs.Slots.{CanBase, CanFork, CanMake, forkoff_of}
use Rattle.xfs_render.specs.declared.wanted_slots.SlotBase.{SlotBase}
use Rattle.xfs_render.specs.declared.wanted_slots.SlotBase.TheVariants as Base
use Rattle.xfs_render.specs.declared.wanted_slots.SlotWanted.{SlotWanted}
use Rattle.xfs_mend.specs.xfs_rebuild.Changes.{can_base, can_fork, can_make, is_whole_slot}
use Rattle.xfs_changes.specs.declared.changes.SlotChange.{SlotChange}
use Rattle.xfs_mend.specs.xfs_restored.Changes.{first_change, with_change}

-- what can be made of a slot passes the test
base_passes : (v : Volume) (ino : ℕ) (base : SlotBase) (old : List ℕ) → CanBase v ino base old → forkoff_of base old ≤ 41 → can_base v ino base old ≡ true
base_passes v ino Base.Kept old sealed low = and_from (is_sealed (slot_seal v ino) old) (nat_le (field_of old 82 1) 41) sealed (le-leb (field_of old 82 1) 41 low)
base_passes v ino Base.Free old sealed low = refl
base_passes v ino (Base.Fresh core) old sealed low = refl

fork_passes : (forkoff : ℕ) (fork : Option ForkWanted) → MatchOption fork (Unit {0}) (CanFork forkoff) → can_fork forkoff fork ≡ true
fork_passes forkoff None can = refl
fork_passes forkoff (Some fork) can =
    and_from (nat_lt fork.nextents (2 ^ 32)) (nat_le (length fork.bytes) (fork_bytes forkoff)) (lt-ltb fork.nextents (2 ^ 32) can.few)
    (le-leb (length fork.bytes) (fork_bytes forkoff) can.short)

pub passes : (v : Volume) (old : List ℕ) (wanted : Option SlotWanted) → MatchOption wanted (Unit {0}) (λ w. CanMake v w old) → can_make v old wanted ≡ true
passes v old None can = refl
passes v old (Some w) can =
    and_from (can_base v w.ino w.base old) (can_fork (forkoff_of w.base old) w.fork) (base_passes v w.ino w.base old can.base can.forkoff) (fork_passes (forkoff_of w.base old) w.fork can.fork)

-- the first change of an inode is one of the changes
pub change_there : (cs : List SlotChange) (ino : ℕ) (c : SlotChange) → first_change cs ino ≡ Some c → Member c cs × (c.ino ≡ ino)
change_there [] ino c is = absurd cc
change_there (x ∷ xs) ino c is = by_case (x.ino == ino) refl is (change_there xs ino c)
  where
    by_case : (t : Bool) → (x.ino == ino) ≡ t → (if t then Some x else first_change xs ino) ≡ Some c → (first_change xs ino ≡ Some c → Member c xs × (c.ino ≡ ino)) → Member c (x ∷ xs) × (c.ino ≡ ino)
    by_case true e one rest = let same : x ≡ c = cc in (inl same, subst (λ (y : SlotChange). y.ino ≡ ino) same (eqb-true x.ino ino e))
    by_case false e other rest = let later = rest other in (inr later.0, later.1)

-- an attribute fork that begins inside its slot leaves the data fork at most all the room
pub room_low : (m : ℕ) → m ≤ 41 → fork_bytes m ≤ 336
room_low m low = by_case (m == 0)
  where
    by_case : (t : Bool) → (if t then 336 else 8 * m) ≤ 336
    by_case true = omega arith
    by_case false = omega (arith, low)

-- a slot is freed, or made anew
abbrev pub IsAnew : SlotBase → Type 0
IsAnew Base.Kept = ⊥
IsAnew Base.Free = Unit {0}
IsAnew (Base.Fresh core) = Unit {0}

abbrev pub change_with : ℕ → Option SlotBase → Option ForkWanted → Option ℕ → SlotChange
change_with ino base fork nlink = record { ino = ino; base = base; fork = fork; nlink = nlink }

fork_more : (m : ℕ) (fork : Option ForkWanted) → fork_bytes m ≤ 336 → can_fork m fork ≡ true → can_fork 0 fork ≡ true
fork_more m None most can = refl
fork_more m (Some f) most can =
    let parts = and_parts (nat_lt f.nextents (2 ^ 32)) (nat_le (length f.bytes) (fork_bytes m)) can in
    let short = leb-true (length f.bytes) (fork_bytes m) parts.1 in
    and_from (nat_lt f.nextents (2 ^ 32)) (nat_le (length f.bytes) 336) parts.0 (le-leb (length f.bytes) 336 (omega (arith, short, most)))

either_fork : (m : ℕ) (fork before : Option ForkWanted) → can_fork m fork ≡ true → can_fork m before ≡ true → can_fork m (or_else fork before) ≡ true
either_fork m None before fits can = can
either_fork m (Some f) before fits can = fits

module _ (v : Volume) (slot : List ℕ) where
  -- a fork that was wanted has room where no attribute fork is
  base_fork : (ino : ℕ) (base : SlotBase) (fork : Option ForkWanted) → (can_base v ino base slot && can_fork (forkoff_of base slot) fork) ≡ true → can_fork 0 fork ≡ true
  base_fork ino Base.Kept fork can =
      let parts = and_parts (is_whole_slot v ino slot) (can_fork (field_of slot 82 1) fork) can in
      let whole = and_parts (is_sealed (slot_seal v ino) slot) (nat_le (field_of slot 82 1) 41) parts.0 in
      fork_more (field_of slot 82 1) fork (room_low (field_of slot 82 1) (leb-true (field_of slot 82 1) 41 whole.1)) parts.1
  base_fork ino Base.Free fork can = can
  base_fork ino (Base.Fresh core) fork can = can

  pub anew_can : (ino : ℕ) (base : SlotBase) (fork : Option ForkWanted) (nlink : Option ℕ) (before : Option SlotWanted) → IsAnew base → can_fork 0 fork ≡ true
      → can_make v slot before ≡ true → can_make v slot (with_change (Some (change_with ino (Some base) fork nlink)) before) ≡ true
  anew_can ino Base.Kept fork nlink before anew fits can = absurd anew
  anew_can ino Base.Free fork nlink None anew fits can = fits
  anew_can ino Base.Free fork nlink (Some w) anew fits can = either_fork 0 fork w.fork fits (base_fork w.ino w.base w.fork can)
  anew_can ino (Base.Fresh core) fork nlink None anew fits can = fits
  anew_can ino (Base.Fresh core) fork nlink (Some w) anew fits can = either_fork 0 fork w.fork fits (base_fork w.ino w.base w.fork can)

  own_fork : (ino : ℕ) (base : SlotBase) (fork before : Option ForkWanted) → can_fork (field_of slot 82 1) fork ≡ true → can_fork 0 fork ≡ true
      → (can_base v ino base slot && can_fork (forkoff_of base slot) before) ≡ true → (can_base v ino base slot && can_fork (forkoff_of base slot) (or_else fork before)) ≡ true
  own_fork ino Base.Kept fork before fits fits_all can =
      let parts = and_parts (is_whole_slot v ino slot) (can_fork (field_of slot 82 1) before) can in
      and_from (is_whole_slot v ino slot) (can_fork (field_of slot 82 1) (or_else fork before)) parts.0 (either_fork (field_of slot 82 1) fork before fits parts.1)
  own_fork ino Base.Free fork before fits fits_all can = either_fork 0 fork before fits_all can
  own_fork ino (Base.Fresh core) fork before fits fits_all can = either_fork 0 fork before fits_all can

  pub kept_can : (ino : ℕ) (fork : Option ForkWanted) (nlink : Option ℕ) (before : Option SlotWanted) → is_whole_slot v ino slot ≡ true → can_fork (field_of slot 82 1) fork ≡ true
      → can_fork 0 fork ≡ true → can_make v slot before ≡ true → can_make v slot (with_change (Some (change_with ino None fork nlink)) before) ≡ true
  kept_can ino fork nlink None whole fits fits_all can = and_from (is_whole_slot v ino slot) (can_fork (field_of slot 82 1) fork) whole fits
  kept_can ino fork nlink (Some w) whole fits fits_all can = own_fork w.ino w.base fork w.fork fits fits_all can

  anew_fork : (ino : ℕ) (base : SlotBase) (fork before : Option ForkWanted) → IsAnew base → can_fork 0 fork ≡ true
      → (can_base v ino base slot && can_fork (forkoff_of base slot) before) ≡ true → (can_base v ino base slot && can_fork (forkoff_of base slot) (or_else fork before)) ≡ true
  anew_fork ino Base.Kept fork before anew fits can = absurd anew
  anew_fork ino Base.Free fork before anew fits can = either_fork 0 fork before fits can
  anew_fork ino (Base.Fresh core) fork before anew fits can = either_fork 0 fork before fits can

  pub fresh_can : (ino : ℕ) (fork : Option ForkWanted) (nlink : Option ℕ) (w : SlotWanted) → IsAnew w.base → can_fork 0 fork ≡ true → can_make v slot (Some w) ≡ true
      → can_make v slot (with_change (Some (change_with ino None fork nlink)) (Some w)) ≡ true
  fresh_can ino fork nlink w anew fits can = anew_fork w.ino w.base fork w.fork anew fits can
