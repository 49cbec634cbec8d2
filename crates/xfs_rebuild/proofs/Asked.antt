-- What is asked of a volume is so by what a rebuild goes by, and what is planned for it is the plan of the rebuild.
use Rattle.std.proofs.Common.{◌≡◌, ℕ, false, List, Option, Result, Ok, Err, sym, ap, subst, ◌∙◌}
use Rattle.std.specs.Prelude.{IfErr, IfOk}
use Rattle.std.specs.Option.{ForSome}
use Rattle.xfs_disk.specs.Blocks.{Image}
use Rattle.xfs_disk.specs.declared.stamp.Stamp.{Stamp}
use Rattle.xfs_geom.specs.Volumes.{Volume, volume_of}
use Rattle.xfs_geom.specs.declared.geometry.Geometry.{Geometry}
use Rattle.xfs_log.specs.xfs_heads.declared.log_state.LogState.{LogState}
use Rattle.xfs_place.specs.Wanted.{FindsNoRoom}
use Rattle.xfs_place.specs.declared.wanted.Wanted.{Wanted}
use Rattle.xfs_render.specs.declared.bytes.Bytes.{Bytes}
use Rattle.xfs_render.specs.declared.wanted_slots.SlotWanted.{SlotWanted}
use Rattle.xfs_salvage.specs.declared.found.Salvaged.{Salvaged}
use Rattle.xfs_request.specs.Cycles.{kept_lsns}
use Rattle.xfs_request.specs.Requests.{cleared_count, kept_count, volume_wanted}
use Rattle.xfs_request.specs.Slots.{wanted_slots}
use Rattle.xfs_request.specs.declared.asking.Request.{Request}
use Rattle.xfs_request.specs.declared.seen.SlotSeen.{SlotSeen}
use Rattle.xfs_rebuild.specs.Bytes.{AreAtHand, AreReadOf, file_lsns}
use Rattle.xfs_rebuild.specs.Names.{needs_names}
use Rattle.xfs_rebuild.specs.Private.Asked.{IsMadeOf, IsRequestOf}
use Rattle.xfs_rebuild.specs.Rebuilds.{CanBeWritten, Ground, IsPlannedFor, IsPlannedOn, ground}
use Rattle.xfs_rebuild.specs.Refusals.{IsPlaceRefused, IsReadRefused, IsRefusedOn}
use Rattle.xfs_rebuild.specs.declared.faults.RebuildFault.{RebuildFault}
use Rattle.xfs_rebuild.specs.declared.faults.RebuildFault.TheVariants as faults
use Rattle.xfs_rebuild.specs.declared.planning.Rebuilt.{Rebuilt}
use Rattle.xfs_rebuild.proofs.Rebuilding.{cleared_of, hand_of, slots_of}

-- the reserved blocks are those that were given
pub reserved_given : (g : Geometry) (kept : Salvaged) (reserved : List ℕ) (w : Wanted) → w ≡ volume_wanted g kept reserved → w.reserved ≡ reserved
unfolding volume_wanted
reserved_given g kept reserved w is = ap (λ (x : Wanted). x.reserved) is

-- what was asked by equal facts
pub request_of : (g : Geometry) (s : Stamp) (kept : Salvaged) (view seen : List SlotSeen) (reserved : List ℕ) (log : LogState) (q : Request)
    → view ≡ seen → q.wanted ≡ volume_wanted g kept reserved → q.slots ≡ wanted_slots (volume_of g) s kept view → q.kept ≡ kept_count kept
    → q.cleared ≡ cleared_count (wanted_slots (volume_of g) s kept view) → IsRequestOf g s (ground kept seen q.wanted.reserved log) q
request_of g s kept view seen reserved log q same wanted slots many freed = record {
  wanted' = wanted ∙ ap (volume_wanted g kept) (sym (reserved_given g kept reserved q.wanted wanted));
  slots' = slots_of g s kept view seen same q.slots slots;
  count = many;
  freed = cleared_of g s kept view seen same q.cleared freed;
}

-- the numbers that stay by equal facts
pub numbers_of : (v : Volume) (kept : Salvaged) (view seen : List SlotSeen) (held later : Option Image) (numbers given : List ℕ)
    → view ≡ seen → later ≡ held → given ≡ numbers → ForSome held (λ image. numbers ≡ kept_lsns v kept view (file_lsns v image kept.files))
    → ForSome later (λ image. given ≡ kept_lsns v kept seen (file_lsns v image kept.files))
numbers_of v kept view seen held later numbers given same as_before are stay = λ image told.
    are ∙ stay image (sym as_before ∙ told) ∙ ap (λ (known : List SlotSeen). kept_lsns v kept known (file_lsns v image kept.files)) same

-- what is planned after the disk was read
pub writable_before : (result : Result Rebuilt RebuildFault) (size later : ℕ) → later ≡ size → IfOk result (CanBeWritten later) → IfOk result (CanBeWritten size)
writable_before result size later same can = subst (λ (n : ℕ). IfOk result (CanBeWritten n)) same can

pub planned_before : (g : Geometry) (sector : List ℕ) (s : Stamp) (on : Ground) (result : Result Rebuilt RebuildFault) (held later : Option Image) → later ≡ held
    → IfOk result (λ r. ForSome later (λ image. IsPlannedOn g sector s image on r)) → IfOk result (λ r. ForSome held (λ image. IsPlannedOn g sector s image on r))
planned_before g sector s on result held later same planned = subst (λ (h : Option Image). IfOk result (λ r. ForSome h (λ image. IsPlannedOn g sector s image on r))) same planned

-- what is planned of bytes is made of them
pub made_of : (g : Geometry) (sector : List ℕ) (s : Stamp) (clusters lsns : List ℕ) (q : Request) (log : LogState) (b : Bytes) (held later : Option Image) (result : Result Rebuilt RebuildFault)
    → later ≡ held → AreAtHand g sector s clusters q.slots b → ForSome held (λ image. AreReadOf image lsns log b)
    → IfOk result (λ r. ForSome later (λ image. IsPlannedFor q.wanted b image r)) → IfOk result (λ (r : Rebuilt). r.kept ≡ q.kept) → IfOk result (λ (r : Rebuilt). r.cleared ≡ q.cleared)
    → IfOk result (λ r. ForSome held (λ image. IsMadeOf g sector s image clusters q lsns log r))
made_of g sector s clusters lsns q log b held later (Ok r) as_before hand read planned many freed = λ image told.
    record { bytes = b; hand = hand; read = read image told; planned = planned image (as_before ∙ told); count = many; freed = freed }
made_of g sector s clusters lsns q log b held later (Err fault) as_before hand read planned many freed = tt

-- where blocks are read, nothing is refused
pub read_refused_on : (g : Geometry) (s : Stamp) (on : Ground) (fault : RebuildFault) → IsReadRefused fault → IsRefusedOn g s on fault
read_refused_on g s on (faults.Names due) is = absurd is
read_refused_on g s on (faults.NoRoom what) is = absurd is
read_refused_on g s on faults.ReadFault is = tt
read_refused_on g s on faults.NoMemory is = tt

-- where no name has to change, what is planned for a request is so by what it goes by, and room alone is refused
module _ (g : Geometry) (sector : List ℕ) (s : Stamp) (on : Ground) (q : Request) (view : List SlotWanted) (of : IsRequestOf g s on q) (seen : view ≡ q.slots)
    (named : needs_names g.rootino on.kept view ≡ false) where
  pub made_on : (clusters lsns : List ℕ) (held : Option Image) (result : Result Rebuilt RebuildFault) → clusters ≡ on.kept.clusters
      → ForSome held (λ image. lsns ≡ kept_lsns (volume_of g) on.kept on.seen (file_lsns (volume_of g) image on.kept.files))
      → IfOk result (λ r. ForSome held (λ image. IsMadeOf g sector s image clusters q lsns on.log r))
      → IfOk result (λ r. ForSome held (λ image. IsPlannedOn g sector s image on r))
  made_on clusters lsns held (Ok r) same numbers made = λ image told.
      let is = made image told in
      record {
        named = subst (λ (ws : List SlotWanted). needs_names g.rootino on.kept ws ≡ false) (seen ∙ of.slots') named;
        bytes = is.bytes;
        made = record {
          at_hand = subst (λ (ws : List SlotWanted). AreAtHand g sector s on.kept.clusters ws is.bytes) of.slots' (hand_of g sector s clusters on.kept.clusters q.slots is.bytes same is.hand);
          read = subst (λ (ns : List ℕ). AreReadOf image ns on.log is.bytes) (numbers image told) is.read;
        };
        planned = subst (λ (w : Wanted). IsPlannedFor w is.bytes image r) of.wanted' is.planned;
        count = is.count ∙ of.count;
        freed = is.freed ∙ of.freed;
      }
  made_on clusters lsns held (Err fault) same numbers made = made

  pub room_refused : (result : Result Rebuilt RebuildFault) → IfErr result (IsPlaceRefused q.wanted) → IfErr result (IsRefusedOn g s on)
  room_refused (Ok r) is = is
  room_refused (Err (faults.Names due)) is = absurd is
  room_refused (Err (faults.NoRoom what)) is = (
    subst (λ (ws : List SlotWanted). needs_names g.rootino on.kept ws ≡ false) (seen ∙ of.slots') named,
    subst (λ (w : Wanted). FindsNoRoom w what) of.wanted' is,
  )
  room_refused (Err faults.ReadFault) is = tt
  room_refused (Err faults.NoMemory) is = tt
