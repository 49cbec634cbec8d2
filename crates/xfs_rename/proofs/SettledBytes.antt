-- What the blocks are made of once names are settled, from what was read and the blocks of the directories.
use Rattle.std.proofs.Common.{◌≡◌, ℕ, List, [], Option, refl, sym, subst, ap, ◌∙◌}
use Rattle.std.specs.Option.{ForSome}
use Rattle.xfs_disk.specs.Blocks.{Image}
use Rattle.xfs_disk.specs.declared.stamp.Stamp.{Stamp}
use Rattle.xfs_geom.specs.Volumes.{volume_of}
use Rattle.xfs_geom.specs.declared.geometry.Geometry.{Geometry}
use Rattle.xfs_log.specs.xfs_heads.declared.log_state.LogState.{LogState}
use Rattle.xfs_render.specs.declared.bytes.Bytes.{Bytes}
use Rattle.xfs_render.specs.declared.wanted_slots.SlotWanted.{SlotWanted}
use Rattle.xfs_rebuild.specs.xfs_request.declared.seen.SlotSeen.{SlotSeen}
use Rattle.xfs_salvage.specs.declared.found.Salvaged.{Salvaged}
use Rattle.xfs_rebuild.specs.Bytes.{AreAtHand, AreReadOf}
use Rattle.xfs_rebuild.specs.Places.{old_places}
use Rattle.xfs_rename.specs.Renames.{lsns_due}

module _ (b whole : Bytes) (objects : Image) (joined : whole ≡ record b { objects = objects }) where
  -- all but the blocks of the directories was at hand
  pub hand_below : (g : Geometry) (sector : List ℕ) (s : Stamp) (view clusters : List ℕ) (slots : List SlotWanted) → view ≡ clusters
      → AreAtHand g sector s view slots b → AreAtHand g sector s clusters whole.slots (record whole { objects = [] })
  hand_below g sector s view clusters slots same hand =
      subst (λ (x : Bytes). AreAtHand g sector s clusters x.slots (record x { objects = [] })) (sym joined) (record {
        sector' = hand.sector';
        places' = hand.places' ∙ (λ i. old_places (volume_of g) (same i) (sym hand.slots' i));
        objects' = refl;
        slots' = refl;
        stamp' = hand.stamp';
        many = hand.many;
        inside = hand.inside;
        can = hand.can;
        few = hand.few;
      })

  -- and all but these was read
  pub read_below : (g : Geometry) (kept : Salvaged) (view seen : List SlotSeen) (log : LogState) (held later : Option Image) (numbers lsns : List ℕ)
      → view ≡ seen → later ≡ held → lsns ≡ numbers → ForSome held (λ image. numbers ≡ lsns_due g image kept view)
      → ForSome later (λ image. AreReadOf image lsns log b)
      → ForSome held (λ image. AreReadOf image (lsns_due g image kept seen) log (record whole { objects = [] }))
  read_below g kept view seen log held later numbers lsns same as_before are stay read = λ image told.
      let known = subst (λ (ns : List ℕ). AreReadOf image ns log b) (are ∙ stay image told ∙ ap (lsns_due g image kept) same) (read image (as_before ∙ told)) in
      subst (λ (x : Bytes). AreReadOf image (lsns_due g image kept seen) log (record x { objects = [] })) (sym joined)
      (record { old' = known.old'; cycle' = known.cycle' })

  pub slots_below : (slots : List SlotWanted) → b.slots ≡ slots → whole.slots ≡ slots
  slots_below slots is = ap (λ (x : Bytes). x.slots) joined ∙ is
