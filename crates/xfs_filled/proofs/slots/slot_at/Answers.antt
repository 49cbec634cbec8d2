use Rattle.std.proofs.Common.{◌≡◌, ◌+◌, ◌==◌, length, arith, refl, sym, ◌∙◌}
use Rattle.std.proofs.lemmas.Bool.{le-ltb, lt-ltb}
use Rattle.xfs_geom.specs.Volumes.{volume_of}
use Rattle.xfs_render.specs.declared.wanted_slots.SlotWanted.{SlotWanted}
use Rattle.xfs_empty.proofs.Results.{ok_as}
use Rattle.xfs_filled.specs.Forks.{owned_by}
use Rattle.xfs_filled.specs.Numbers.{number_of}
use Rattle.xfs_filled.specs.Slots.{slot_of_index, slot_of_place}
use Rattle.xfs_filled.proofs.Slotted.{neither, slot_is, system_is, unused_is}
use Rattle.xfs_filled.proofs.slots.slot_at.Goals as goal

pub returns-then-is_system : goal.returns-then-is_system
returns-then-is_system c =
    let site = c.args.site.now in
    system_is (volume_of site.geometry.now) c.args.stamp.now site.starts.now site.nodes.now site.contents.now c.args.runs.now c.args.j c.inode_at-ino.result c.system_slot.result
    (sym c.is_system.ensures ∙ c.if-is_system.true) c.inode_at-ino.ensures.value c.system_slot.ensures

pub returns : goal.returns
returns c =
    let site = c.args.site.now in
    let none = neither (c.args.j == 1) (c.args.j == 2) (sym c.is_system.ensures ∙ c.if-is_system.false) in
    let past = c.if-j-site.false in
    unused_is (volume_of site.geometry.now) c.args.stamp.now site.starts.now site.nodes.now site.contents.now c.args.runs.now c.args.j c.inode_at.result c.unused_slot.result
    none.0 none.1 (le-ltb c.args.j (length site.nodes.now + 2) (omega (arith, past))) c.inode_at.ensures.value c.unused_slot.ensures

pub returns-then-j-site : goal.returns-then-j-site
returns-then-j-site c =
    let site = c.args.site.now in
    let v = volume_of site.geometry.now in
    let starts = site.starts.now in
    let ns = site.nodes.now in
    let contents = site.contents.now in
    let runs = c.args.runs.now in
    let none = neither (c.args.j == 1) (c.args.j == 2) (sym c.is_system.ensures ∙ c.if-is_system.false) in
    let k = c.saturating_sub-k.result in
    let less = c.if-j-site.true in
    ok_as
    (λ (w : SlotWanted). w ≡ slot_of_place v c.args.stamp.now starts ns contents runs k)
    (λ (w : SlotWanted). w ≡ slot_of_index v c.args.stamp.now starts ns contents runs c.args.j) c.spanned_slot.result
    (λ w is. slot_is v c.args.stamp.now starts ns contents runs c.args.j k (owned_by (number_of v starts k) runs) w none.0 none.1
    (lt-ltb c.args.j (length ns + 2) less) c.saturating_sub-k.ensures refl is)
    c.spanned_slot.ensures

pub inode_at-ino-requires-clause-inside : goal.inode_at-ino-requires-clause-inside
inode_at-ino-requires-clause-inside c = c.requires.slot

pub inode_at-ino-requires-clause-volume : goal.inode_at-ino-requires-clause-volume
inode_at-ino-requires-clause-volume c = c.requires.site.placed.volume

pub inode_at-requires-clause-inside : goal.inode_at-requires-clause-inside
inode_at-requires-clause-inside c = c.requires.slot

pub inode_at-requires-clause-volume : goal.inode_at-requires-clause-volume
inode_at-requires-clause-volume c = c.requires.site.placed.volume

pub spanned_slot-requires-clause-site : goal.spanned_slot-requires-clause-site
spanned_slot-requires-clause-site c = c.requires.site

pub spanned_slot-requires-clause-inside : goal.spanned_slot-requires-clause-inside
spanned_slot-requires-clause-inside c = c.requires.inside

pub spanned_slot-requires-clause-offsets : goal.spanned_slot-requires-clause-offsets
spanned_slot-requires-clause-offsets c = c.requires.offsets

pub spanned_slot-requires-clause-spans : goal.spanned_slot-requires-clause-spans
spanned_slot-requires-clause-spans c = c.requires.spans
