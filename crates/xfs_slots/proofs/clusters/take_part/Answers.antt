use Rattle.std.proofs.Common.{◌≡◌, ℕ, [], ◌∷◌, ap, sym, subst, ◌∙◌}
use Rattle.std.specs.Option.{ForSome}
use Rattle.xfs_geom.specs.Conversions.{inode_of, slot_at}
use Rattle.xfs_geom.specs.Volumes.{volume_of}
use Rattle.xfs_inode.specs.Sound.{IsSound}
use Rattle.xfs_inode.specs.declared.files.FileRead.{FileRead}
use Rattle.xfs_rounds.specs.Settled.{IsReadFile, IsTold}
use Rattle.xfs_rounds.specs.Judged.{slot_of}
use Rattle.xfs_slots.specs.Facts.{AddsFacts}
use Rattle.xfs_slots.specs.Gathered.{gathered_both, held_in, of_read, of_slot}
use Rattle.xfs_slots.proofs.Gathering.{on_ok}
use Rattle.xfs_slots.proofs.Known.{fact_is, ok_anyway, read_is, slot_is}
use Rattle.xfs_slots.proofs.clusters.take_part.Goals as goal

pub inode_of_slot-ino-requires-clause-slot : goal.inode_of_slot-ino-requires-clause-slot
inode_of_slot-ino-requires-clause-slot g c = c.requires.known.few

pub take_read-requires-clause-sound : goal.take_read-requires-clause-sound
take_read-requires-clause-sound g c =
    let v = volume_of c.args.g.now in
    let known = c.args.known in
    let is : IsReadFile v (IsTold (g.D.Disk.holds c.args.disk.now)) (inode_of v c.args.block known.slot) (slot_of c.args.bytes.now known.slot) c.in-Decided.file = rw c.in-Decided.is at c.requires.known.file in
    subst (λ (n : ℕ). IsSound v n c.in-Decided.file) (sym c.inode_of_slot-ino.ensures.value) is.sound

pub take_read-requires-clause-held : goal.take_read-requires-clause-held
take_read-requires-clause-held g c = λ image told.
    slot_is (volume_of c.args.g.now) image c.args.block c.args.known.slot _ c.args.bytes.now c.inode_of_slot-ino.ensures.inverse (c.requires.held image told)
    ∙ sym c.part-held.ensures.value

pub returns-clause-facts : goal.returns-clause-facts
returns-clause-facts g c =
    let v = volume_of c.args.g.now in
    let known = c.args.known in
    let ino = inode_of v c.args.block known.slot in
    let old = c.args.facts.now.items in
    ok_anyway (AddsFacts v c.args.block c.args.bytes.now (ino ∷ []) old c.push_fact.new.facts.items) c.take_read.result (λ image is.
    fact_is v image c.args.block known.slot ino c.args.bytes.now (ap (slot_at v) (sym c.inode_of_slot-ino.ensures.value) ∙ c.inode_of_slot-ino.ensures.inverse) is known.fact
    c.requires.known.fact old c.push_fact.new.facts.items c.in-Ok.ensures)

pub returns-clause-held : goal.returns-clause-held
returns-clause-held g c =
    let v = volume_of c.args.g.now in
    let known = c.args.known in
    let ino = inode_of v c.args.block known.slot in
    let file = c.in-Decided.file in
    let old = held_in c.args.inodes.now in
    let new = held_in c.take_read.new.inodes in
    let told = g.D.Disk.holds c.args.disk.now in
    let is_file : IsReadFile v (IsTold told) ino (slot_of c.args.bytes.now c.args.known.slot) file = rw c.in-Decided.is at c.requires.known.file in
    on_ok (ForSome told (λ image. new ≡ gathered_both old (of_read v image c.inode_of_slot-ino.result file))) (ForSome told (λ image. new ≡ gathered_both old (of_slot v image ino)))
    c.take_read.result
    (λ held image is. held image is
    ∙ ap (λ (n : ℕ). gathered_both old (of_read v image n file)) c.inode_of_slot-ino.ensures.value
    ∙ ap (λ (f : FileRead). gathered_both old (of_read v image ino f)) (read_is v image c.args.block known.slot ino c.args.bytes.now
    (ap (slot_at v) (sym c.inode_of_slot-ino.ensures.value) ∙ c.inode_of_slot-ino.ensures.inverse) (c.requires.held image is) file (is_file.read image is)))
    c.take_read.ensures.held
