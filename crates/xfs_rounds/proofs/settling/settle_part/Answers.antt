use Rattle.std.proofs.Common.{ℕ, List, get_or, refl, sym, subst}
use Rattle.std.proofs.lemmas.Result.{IfOk-from_err}
use Rattle.xfs_geom.specs.Conversions.{inode_of}
use Rattle.xfs_geom.specs.Volumes.{volume_of}
use Rattle.xfs_rounds.specs.Judged.{slot_of}
use Rattle.xfs_rounds.specs.Named.{AreFoundIn, IsNamedFile, IsNaming}
use Rattle.xfs_rounds.specs.Settled.{IsReadFile}
use Rattle.xfs_rounds.proofs.Rounds.{other_part}
use Rattle.xfs_rounds.proofs.settling.settle_part.Goals as goal

pub inode_of_slot-ino-requires : goal.inode_of_slot-ino-requires
inode_of_slot-ino-requires c = record { block = c.requires.volume; slot = c.requires.part.few }

pub settle-requires-clause-found : goal.settle-requires-clause-found
settle-requires-clause-found c = c.requires.found

pub returns-in_err-file : goal.returns-in_err-file
returns-in_err-file c =
    record {
      part = IfOk-from_err c.from_residual.result _ c.from_residual.ensures.0;
      slot = IfOk-from_err c.from_residual.result _ c.from_residual.ensures.0;
    }

pub returns-in_default : goal.returns-in_default
returns-in_default c =
    let v = volume_of c.args.g.now in
    record {
      part = other_part v (AreFoundIn v c.args.named.now c.args.found.now) c.args.named.now c.args.place c.args.bytes.now c.args.known.now c.requires.part c.in_default.not-Named;
      slot = refl;
    }

pub settle-requires-clause-number : goal.settle-requires-clause-number
settle-requires-clause-number c =
    let known = c.args.known.now in
    let file = subst (IsNamedFile (volume_of c.args.g.now) c.args.named.now (inode_of (volume_of c.args.g.now) c.args.place known.slot) (slot_of c.args.bytes.now known.slot)) c.in-Named.is c.requires.part.file in
    file.0

pub settle-requires-clause-naming : goal.settle-requires-clause-naming
settle-requires-clause-naming c = λ d.
    let v = volume_of c.args.g.now in
    let known = c.args.known.now in
    let named = c.args.named.now in
    let held = slot_of c.args.bytes.now known.slot in
    let file = subst (IsNamedFile v named (inode_of v c.args.place known.slot) held) c.in-Named.is c.requires.part.file in
    let slot = get_or named.slots.items c.in-Named.number d in
    subst (λ (ino : ℕ). IsNaming v named.leaves.items named.links.items ino c.part-held.result.now slot) (sym c.inode_of_slot-ino.ensures.value)
    (subst (λ (bytes : List ℕ). IsNaming v named.leaves.items named.links.items (inode_of v c.args.place known.slot) bytes slot) (sym c.part-held.ensures.value) (file.1 d))

pub settle-requires-clause-slot : goal.settle-requires-clause-slot
settle-requires-clause-slot c = c.part-held.ensures.long

pub returns-clause-part : goal.returns-clause-part
returns-clause-part c =
    let v = volume_of c.args.g.now in
    let told = AreFoundIn v c.args.named.now c.args.found.now in
    let known = c.args.known.now in
    record {
      few = c.requires.part.few;
      fact = c.requires.part.fact;
      file = subst (λ (ino : ℕ). IsReadFile v told ino (slot_of c.args.bytes.now known.slot) c.in_ok-file.file) c.inode_of_slot-ino.ensures.value
          (subst (λ (bytes : List ℕ). IsReadFile v told c.inode_of_slot-ino.result bytes c.in_ok-file.file) c.part-held.ensures.value c.in_ok-file.ensures);
    }

pub returns-clause-slot : goal.returns-clause-slot
returns-clause-slot c = refl
