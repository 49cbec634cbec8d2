-- Old bytes that are at hand, and the bytes that are put together from them.
use Rattle.std.proofs.Common.{◌≡◌, ℕ, ◌<◌, ◌≤◌, ◌^◌, List, [], length, Option, MatchOption, refl, sym, ap, subst, ◌∙◌, arith}
use Rattle.std.specs.List.{All}
use Rattle.std.proofs.lemmas.List.Elements.{All-weaker}
use Rattle.xfs_collections.specs.Bank.{blocks_at}
use Rattle.xfs_disk.specs.Blocks.{Image}
use Rattle.xfs_disk.specs.declared.stamp.Stamp.{Stamp}
use Rattle.xfs_geom.specs.Volumes.{volume_of}
use Rattle.xfs_geom.specs.declared.geometry.Geometry.{Geometry}
use Rattle.xfs_log.specs.xfs_heads.declared.log_state.LogState.{LogState}
use Rattle.xfs_render.specs.declared.bytes.Bytes.{Bytes}
use Rattle.xfs_render.specs.declared.wanted_slots.SlotWanted.{SlotWanted}
use Rattle.xfs_request.specs.Cycles.{due_cycle}
use Rattle.xfs_rebuild.specs.Bytes.{AreAtHand, AreReadOf, joined_bytes}
use Rattle.xfs_rebuild.specs.Changes.{CanChangeAll}
use Rattle.xfs_rebuild.specs.Private.Old.{AreOldOf}
use Rattle.xfs_rebuild.specs.declared.bytes.OldBlocks.{OldBlocks}

-- numbers below one end are below a later one
below_later : (n m x : ℕ) → n ≤ m → x < n → x < m
below_later n m x le low = omega (arith, le, low)

pub all_below : (n m : ℕ) (xs ys : List ℕ) → n ≤ m → ys ≡ xs → All (λ x. x < n) xs → All (λ x. x < m) ys
all_below n m xs ys le same all =
    subst (All (λ (x : ℕ). x < m)) (sym same) (All-weaker (λ (x : ℕ). x < n) (λ (x : ℕ). x < m) (λ x low. below_later n m x le low) xs all)

-- what is at hand, and what was read, of bytes that are put together
module _ (g : Geometry) (sector : List ℕ) (s : Stamp) (clusters lsns : List ℕ) (log : LogState) (slots view : List SlotWanted) (old : OldBlocks) (cycle : Option ℕ) (b : Bytes)
    (is : b ≡ joined_bytes sector old.places.items old.blocks [] slots cycle s) where
  pub at_hand_of : view ≡ slots → AreOldOf g clusters view old → MatchOption cycle (Unit {0}) (λ n. (1 ≤ n) × (n < 2 ^ 31)) → AreAtHand g sector s clusters slots b
  at_hand_of same are few =
      let old_of : AreOldOf g clusters slots old = subst (λ (ws : List SlotWanted). AreOldOf g clusters ws old) same are in
      subst (AreAtHand g sector s clusters slots) (sym is) (record {
        sector' = refl;
        places' = old_of.places';
        objects' = refl;
        slots' = refl;
        stamp' = refl;
        many = old_of.many;
        inside = old_of.inside;
        can = old_of.can;
        few = few;
      })

  pub read_as : (image : Image) → old.blocks ≡ blocks_at image old.places.items → cycle ≡ due_cycle log lsns → AreReadOf image lsns log b
  read_as image read due = subst (AreReadOf image lsns log) (sym is) (record { old' = read; cycle' = due })
