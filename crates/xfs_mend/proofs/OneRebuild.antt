-- One outcome is due to an image that is to be rebuilt, but for how many blocks are written.
use Rattle.std.proofs.Common.{◌≡◌, ℕ, true, false, ◌⊎◌, inl, inr, refl, sym, ap, ◌∙◌, subst}
use Rattle.xfs_disk.specs.Blocks.{Image}
use Rattle.xfs_disk.specs.declared.stamp.Stamp.{Stamp}
use Rattle.xfs_geom.specs.declared.geometry.Geometry.{Geometry}
use Rattle.xfs_empty.specs.Planning.{HasRoom}
use Rattle.xfs_place.specs.Wanted.{FindsNoRoom}
use Rattle.xfs_place.specs.declared.faults.Unplaced.{Unplaced}
use Rattle.xfs_rename.specs.xfs_rebuild.Rebuilds.{Ground, asked, names_change, slots_asked}
use Rattle.xfs_rename.specs.xfs_rebuild.declared.names_due.NamesDue.{NamesDue}
use Rattle.xfs_rename.specs.xfs_request.Requests.{cleared_count, kept_count}
use Rattle.xfs_mend.proofs.OneGround.{never_both, one_ground, one_without}
use Rattle.xfs_mend.proofs.OneNames.{names_are, names_of, never_wanting, one_cleared, one_kept, one_lost, one_wanting}
use Rattle.xfs_mend.specs.Due.{uncounted}
use Rattle.xfs_mend.specs.Rebuilding.{IsAnewDue, IsDueRebuild, IsGroundOf, IsNamesDue, IsRenamedDue, IsRenamedWithoutRoom, IsWithoutRoomDue}
use Rattle.xfs_mend.specs.declared.outcome.Outcome.{Outcome}
use Rattle.xfs_mend.specs.declared.outcome.Outcome.TheVariants.{NoGeometry, Unsupported, DirtyLog, TooLarge, UnsupportedFile, Clean, Damaged, Repaired, NoRoom, ReadFault, WriteFault, NoMemory}
use Rattle.xfs_mend.specs.declared.outcome.Summary.TheVariants.{Backups, Rebuilt}

-- the outcome where names have to change, by what is known: something finds no room; or all is rebuilt
record LacksRoomRenamed (g : Geometry) (n : NamesDue) (outcome : Outcome) : Type 0 where
  pub what : Unplaced
  pub finds : IsRenamedWithoutRoom g n what
  pub is : outcome ≡ NoRoom what

record IsRenamedAnew (g : Geometry) (n : NamesDue) (outcome : Outcome) : Type 0 where
  pub kept : ℕ
  pub cleared : ℕ
  pub orphans : ℕ
  pub due : IsRenamedDue g n kept cleared orphans
  pub is : outcome ≡ Repaired (Rebuilt 0 kept cleared orphans)

abbrev IsDueRenamed : Geometry → NamesDue → Outcome → Type 0
IsDueRenamed g n outcome = LacksRoomRenamed g n outcome ⊎ IsRenamedAnew g n outcome

one_renamed : (g : Geometry) (n : NamesDue) (a b : Outcome) → IsDueRenamed g n a → IsDueRenamed g n b → a ≡ b
one_renamed g n a b (inl x) (inl y) = x.is ∙ ap (λ (what : Unplaced). NoRoom what) (one_wanting g n x.what y.what x.finds y.finds) ∙ sym y.is
one_renamed g n a b (inl x) (inr y) = absurd (never_wanting g n x.what y.kept y.cleared y.orphans x.finds y.due)
one_renamed g n a b (inr x) (inl y) = absurd (never_wanting g n y.what x.kept x.cleared x.orphans y.finds x.due)
one_renamed g n a b (inr x) (inr y) =
    let kept : x.kept ≡ y.kept = one_kept g n x.kept x.cleared x.orphans y.kept y.cleared y.orphans x.due y.due in
    let cleared : x.cleared ≡ y.cleared = one_cleared g n x.kept x.cleared x.orphans y.kept y.cleared y.orphans x.due y.due in
    let orphans : x.orphans ≡ y.orphans = one_lost g n x.kept x.cleared x.orphans y.kept y.cleared y.orphans x.due y.due in
    let same : Repaired (Rebuilt 0 x.kept x.cleared x.orphans) ≡ Repaired (Rebuilt 0 y.kept y.cleared y.orphans) =
    λ i. Repaired (Rebuilt 0 (kept i) (cleared i) (orphans i)) in
    x.is ∙ same ∙ sym y.is

-- the outcome by what is gone by: names have to change; or something finds no room; or all is rebuilt
record NeedsNames (g : Geometry) (s : Stamp) (on : Ground) (outcome : Outcome) : Type 0 where
  pub named : names_change g s on ≡ true
  pub is : IsDueRenamed g (names_of g s on) outcome

record LacksRoom (g : Geometry) (s : Stamp) (on : Ground) (outcome : Outcome) : Type 0 where
  pub named : names_change g s on ≡ false
  pub what : Unplaced
  pub finds : FindsNoRoom (asked g on) what
  pub is : outcome ≡ NoRoom what

record IsAnew (g : Geometry) (s : Stamp) (on : Ground) (outcome : Outcome) : Type 0 where
  pub named : names_change g s on ≡ false
  pub room : HasRoom (asked g on)
  pub is : outcome ≡ Repaired (Rebuilt 0 (kept_count on.kept) (cleared_count (slots_asked g s on)) 0)

abbrev IsDueOn : Geometry → Stamp → Ground → Outcome → Type 0
IsDueOn g s on outcome = NeedsNames g s on outcome ⊎ (LacksRoom g s on outcome ⊎ IsAnew g s on outcome)

-- one is due by what is gone by
one_on : (g : Geometry) (s : Stamp) (on : Ground) (a b : Outcome) → IsDueOn g s on a → IsDueOn g s on b → a ≡ b
one_on g s on a b (inl x) (inl y) = one_renamed g (names_of g s on) a b x.is y.is
one_on g s on a b (inl x) (inr (inl y)) = absurd (never_both (names_change g s on) x.named y.named)
one_on g s on a b (inl x) (inr (inr y)) = absurd (never_both (names_change g s on) x.named y.named)
one_on g s on a b (inr (inl x)) (inl y) = absurd (never_both (names_change g s on) y.named x.named)
one_on g s on a b (inr (inr x)) (inl y) = absurd (never_both (names_change g s on) y.named x.named)
one_on g s on a b (inr (inl x)) (inr (inl y)) =
    x.is ∙ ap (λ (what : Unplaced). NoRoom what) (one_without (asked g on) x.what y.what x.finds y.finds) ∙ sym y.is
one_on g s on a b (inr (inl x)) (inr (inr y)) = absurd (y.room.all x.what x.finds)
one_on g s on a b (inr (inr x)) (inr (inl y)) = absurd (x.room.all y.what y.finds)
one_on g s on a b (inr (inr x)) (inr (inr y)) = x.is ∙ sym y.is

-- what is due is so by what the image gives to go by
record IsDueBy (g : Geometry) (s : Stamp) (image : Image) (outcome : Outcome) : Type 0 where
  pub on : Ground
  pub of : IsGroundOf g image on
  pub is : IsDueOn g s on outcome

renamed_by : (g : Geometry) (s : Stamp) (image : Image) (n : NamesDue) (outcome : Outcome) → IsNamesDue g s image n → IsDueRenamed g n outcome → IsDueBy g s image outcome
renamed_by g s image n outcome names due = record {
  on = names.on;
  of = names.ground;
  is = inl (record {
    named = names.named;
    is = subst (λ (x : NamesDue). IsDueRenamed g x outcome) (names_are g s names.on n names.due) due;
  });
}

anew_by : (g : Geometry) (s : Stamp) (image : Image) (kept cleared orphans : ℕ) → IsAnewDue g s image kept cleared orphans
    → IsDueBy g s image (Repaired (Rebuilt 0 kept cleared orphans))
anew_by g s image kept cleared orphans (inl due) =
    let same : Repaired (Rebuilt 0 kept cleared orphans) ≡ Repaired (Rebuilt 0 (kept_count due.on.kept) (cleared_count (slots_asked g s due.on)) 0) =
    λ i. Repaired (Rebuilt 0 (due.kept' i) (due.cleared' i) (due.none i)) in
    record { on = due.on; of = due.ground; is = inr (inr (record { named = due.named; room = due.room; is = same })) }
anew_by g s image kept cleared orphans (inr (n, names, due)) =
    renamed_by g s image n (Repaired (Rebuilt 0 kept cleared orphans)) names
    (inr (record { kept = kept; cleared = cleared; orphans = orphans; due = due; is = refl }))

room_by : (g : Geometry) (s : Stamp) (image : Image) (what : Unplaced) → IsWithoutRoomDue g s image what → IsDueBy g s image (NoRoom what)
room_by g s image what (inl due) =
    record { on = due.on; of = due.ground; is = inr (inl (record { named = due.named; what = what; finds = due.finds; is = refl })) }
room_by g s image what (inr (n, names, finds)) = renamed_by g s image n (NoRoom what) names (inl (record { what = what; finds = finds; is = refl }))

due_by_ground : (g : Geometry) (s : Stamp) (image : Image) (outcome : Outcome) → IsDueRebuild g s image outcome → IsDueBy g s image (uncounted outcome)
due_by_ground g s image NoGeometry due = absurd due
due_by_ground g s image (Unsupported word bits) due = absurd due
due_by_ground g s image DirtyLog due = absurd due
due_by_ground g s image (TooLarge what count) due = absurd due
due_by_ground g s image (UnsupportedFile ino what) due = absurd due
due_by_ground g s image Clean due = absurd due
due_by_ground g s image (Damaged finding) due = absurd due
due_by_ground g s image (Repaired (Backups count)) due = absurd due
due_by_ground g s image (Repaired (Rebuilt blocks kept cleared orphans)) due = anew_by g s image kept cleared orphans due
due_by_ground g s image (NoRoom what) due = room_by g s image what due
due_by_ground g s image (ReadFault faults) due = absurd due
due_by_ground g s image (WriteFault blocks) due = absurd due
due_by_ground g s image NoMemory due = absurd due

pub one_rebuild : (g : Geometry) (s : Stamp) (image : Image) (a b : Outcome) → IsDueRebuild g s image a → IsDueRebuild g s image b → uncounted a ≡ uncounted b
one_rebuild g s image a b first second =
    let x : IsDueBy g s image (uncounted a) = due_by_ground g s image a first in
    let y : IsDueBy g s image (uncounted b) = due_by_ground g s image b second in
    let same : y.on ≡ x.on = one_ground g image y.on x.on y.of x.of in
    one_on g s x.on (uncounted a) (uncounted b) x.is (subst (λ (on : Ground). IsDueOn g s on (uncounted b)) same y.is)
