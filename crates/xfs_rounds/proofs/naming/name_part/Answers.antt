use Rattle.std.proofs.Common.{◌≡◌, ℕ, List, length, get_or, subst, arith, rules}
use Rattle.std.proofs.lemmas.Result.{IfOk-from_err}
use Rattle.xfs_geom.specs.Conversions.{inode_of}
use Rattle.xfs_geom.specs.Volumes.{volume_of}
use Rattle.xfs_rounds.specs.Judged.{slot_of}
use Rattle.xfs_rounds.specs.Named.{IsNaming}
use Rattle.xfs_rounds.proofs.Numbering.{none_more, part_alone}
use Rattle.xfs_rounds.proofs.naming.name_part.Goals as goal

pub returns-in_default : goal.returns-in_default
returns-in_default c =
    record {
      part = part_alone (volume_of c.args.g.now) c.args.named.now c.args.place c.args.bytes.now c.args.known.now c.requires.part c.in_default.not-Naming;
      slot = search rules;
      more = none_more c.args.named.now;
      within = c.requires.within;
    }

pub returns-clause-part : goal.returns-clause-part
returns-clause-part c =
    let v = volume_of c.args.g.now in
    let new = c.push_slot.new.named in
    let slot = c.args.known.now.slot in
    let held = slot_of c.args.bytes.now slot in
    let count = length c.args.named.now.slots.items in
    let last : count ≡ c.len-number.result = search rules in
    record {
      few = c.requires.part.few;
      fact = c.requires.part.fact;
      file = (
        omega (arith, last, c.in_ok-push_slot.ensures.count),
        λ d.
            subst (λ (n : ℕ). IsNaming v new.leaves.items new.links.items (inode_of v c.args.place slot) held (get_or new.slots.items n d)) last
            (subst (λ (bytes : List ℕ). IsNaming v new.leaves.items new.links.items (inode_of v c.args.place slot) bytes (get_or new.slots.items count d)) c.part-slot.ensures.value
            (subst (λ (ino : ℕ). IsNaming v new.leaves.items new.links.items ino c.part-slot.result.now (get_or new.slots.items count d)) c.inode_of_slot-ino.ensures.value
            (c.in_ok-push_slot.ensures.naming d))),
      );
    }

pub returns-in_err-push_slot : goal.returns-in_err-push_slot
returns-in_err-push_slot c = record { part = IfOk-from_err c.from_residual.result _ c.from_residual.ensures.0; slot = IfOk-from_err c.from_residual.result _ c.from_residual.ensures.0; more = IfOk-from_err c.from_residual.result _ c.from_residual.ensures.0; within = IfOk-from_err c.from_residual.result _ c.from_residual.ensures.0 }

pub push_slot-requires-clause-within : goal.push_slot-requires-clause-within
push_slot-requires-clause-within c = c.requires.within

pub returns-clause-more : goal.returns-clause-more
returns-clause-more c = c.in_ok-push_slot.ensures.more

pub returns-clause-within : goal.returns-clause-within
returns-clause-within c = c.in_ok-push_slot.ensures.within
