use Rattle.std.proofs.Common.{◌≤◌, ℕ, List, [], ◌∷◌, ◌++◌, map, map-id, length, sym, ap, subst, ◌∙◌, arith, rules}
use Rattle.std.proofs.lemmas.Iterator.Adapters.{YieldsList-from_vec}
use Rattle.std.proofs.lemmas.Iterator.Consumers.{YieldsList-end, YieldsList-turn}
use Rattle.std.proofs.lemmas.List.Elements.{All-get_or}
use Rattle.std.specs.List.{flat_map}
use Rattle.xfs_geom.specs.Conversions.{inode_of}
use Rattle.xfs_geom.specs.Volumes.{volume_of}
use Rattle.xfs_disk.proofs.Reading.{reads_none, reads_on}
use Rattle.std.proofs.Common.{Option}
use Rattle.xfs_disk.specs.Blocks.{Image}
use Rattle.xfs_rounds.specs.Settled.{IsPartIn, IsTold}
use Rattle.xfs_rounds.specs.declared.judging.SlotPart.{SlotPart}
use Rattle.xfs_slots.specs.Facts.{slot_fact}
use Rattle.xfs_slots.specs.Gathered.{gathered, gathered_both, held_in}
use Rattle.xfs_slots.proofs.Causes.{caused_on}
use Rattle.xfs_slots.proofs.Turns.{facts_start, facts_turn, gathered_one, held_start, held_turn, inodes_of_singles}
use Rattle.xfs_slots.proofs.clusters.take_block.Goals as goal

pub loop-part-init : goal.loop-part-init
loop-part-init g c =
    let D = g.D.Disk in
    let v = volume_of c.args.g.now in
    record {
      facts = λ image is. facts_start v image c.args.facts.now.items;
      held = λ image told. held_start v image (held_in c.args.inodes.now);
      later = omega arith;
      disk = reads_none D.size D.holds D.write_faults D.writes D.tells_stops D.moment D.may_leave D.left_since c.args.disk.now;
      reads = omega arith;
    }

pub take_part-requires-clause-known : goal.take_part-requires-clause-known
take_part-requires-clause-known g c =
    let v = volume_of c.args.g.now in
    let P : Option Image → SlotPart → Type 0 = λ held part. IsPartIn v (IsTold held) c.args.block c.args.bytes.now part in
    let is = P (g.D.Disk.holds c.args.disk.now) in
    let turn = YieldsList-turn (YieldsList-from_vec {s = c.into_iter-part-iterator.result} c.args.parts.items (search rules) (search rules))
    c.loop-part.yielded c.loop-part.part-iterator c.loop-part.yielded_by c.next.result c.next.new.self c.in-Some.part c.in-Some.is c.next.ensures.steps in
    subst (λ (held : Option Image). P held c.in-Some.part) (sym c.loop-part.invariant.disk.same_contents)
    (subst is (sym turn.1) (All-get_or is c.args.parts.items (length c.loop-part.yielded) c.in-Some.part turn.0 c.requires.parts.each))

pub loop-part-preserved : goal.loop-part-preserved
loop-part-preserved g c =
    let D = g.D.Disk in
    let v = volume_of c.args.g.now in
    let part = c.in-Some.part in
    let inos : SlotPart → List ℕ = λ (part : SlotPart). inode_of v c.args.block part.slot ∷ [] in
    let before = c.loop-part.invariant in
    record {
      facts = λ image is. facts_turn v image inos c.loop-part.yielded part c.args.facts.now.items c.loop-part.facts.items c.take_part.new.facts.items
          (before.facts image is) (c.in-Ok.ensures.facts image is);
      held = λ image told. held_turn v image inos c.loop-part.yielded part (held_in c.args.inodes.now) (held_in c.loop-part.inodes) (held_in c.take_part.new.inodes)
          (before.held image told)
          (c.in-Ok.ensures.held image (before.disk.same_contents ∙ told)
          ∙ ap (gathered_both (held_in c.loop-part.inodes)) (sym (gathered_one v image (inode_of v c.args.block part.slot))));
      later = let up = before.later in let cause = c.in-Ok.ensures.cause in omega (arith, up, cause);
      disk = reads_on D.size D.holds D.write_faults D.writes D.tells_stops D.moment D.may_leave D.left_since c.args.disk.now c.loop-part.disk c.take_part.new.disk before.disk c.in-Ok.ensures.disk;
      reads = let up = before.reads in let more = c.in-Ok.ensures.reads in omega (arith, up, more);
    }

pub returns-clause-held : goal.returns-clause-held
returns-clause-held g c = λ image told.
    let v = volume_of c.args.g.now in
    let inos : SlotPart → List ℕ = λ (part : SlotPart). inode_of v c.args.block part.slot ∷ [] in
    let end = YieldsList-end (YieldsList-from_vec {s = c.into_iter-part-iterator.result} c.args.parts.items (search rules) (search rules))
    c.loop-part.yielded c.loop-part.part-iterator c.loop-part.yielded_by c.next.result c.next.new.self c.in-None.is c.next.ensures.steps in
    c.loop-part.invariant.held image told
    ∙ ap (λ (inos : List ℕ). gathered_both (held_in c.args.inodes.now) (gathered v image inos))
    (ap (flat_map inos) (sym (map-id c.loop-part.yielded) ∙ end.0)
    ∙ inodes_of_singles (λ (part : SlotPart). inode_of v c.args.block part.slot) c.args.parts.items _ c.requires.parts.inodes)

pub returns-clause-facts : goal.returns-clause-facts
returns-clause-facts g c = λ image is.
    let v = volume_of c.args.g.now in
    let inos : SlotPart → List ℕ = λ (part : SlotPart). inode_of v c.args.block part.slot ∷ [] in
    let end = YieldsList-end (YieldsList-from_vec {s = c.into_iter-part-iterator.result} c.args.parts.items (search rules) (search rules))
    c.loop-part.yielded c.loop-part.part-iterator c.loop-part.yielded_by c.next.result c.next.new.self c.in-None.is c.next.ensures.steps in
    c.loop-part.invariant.facts image is
    ∙ ap (λ (inos : List ℕ). c.args.facts.now.items ++ map (slot_fact v image) inos)
    (ap (flat_map inos) (sym (map-id c.loop-part.yielded) ∙ end.0)
    ∙ inodes_of_singles (λ (part : SlotPart). inode_of v c.args.block part.slot) c.args.parts.items _ c.requires.parts.inodes)

pub returns-clause-cause : goal.returns-clause-cause
returns-clause-cause g c = c.loop-part.invariant.later

pub returns-clause-disk : goal.returns-clause-disk
returns-clause-disk g c = c.loop-part.invariant.disk

pub returns-clause-reads : goal.returns-clause-reads
returns-clause-reads g c = c.loop-part.invariant.reads

pub returns-in-Err : goal.returns-in-Err
returns-in-Err g c =
    let D = g.D.Disk in
    let before = c.loop-part.invariant in
    let failed = c.in-Err.ensures in
    record {
      facts = tt;
      held = tt;
      cause = caused_on (D.faults c.args.disk.now) (D.faults c.loop-part.disk) (D.faults c.take_part.new.disk) c.in-Err.fault before.later failed.cause;
      disk = reads_on D.size D.holds D.write_faults D.writes D.tells_stops D.moment D.may_leave D.left_since c.args.disk.now c.loop-part.disk c.take_part.new.disk before.disk failed.disk;
      reads = let up = before.reads in let more = failed.reads in omega (arith, up, more);
    }

pub take_part-requires-clause-inside : goal.take_part-requires-clause-inside
take_part-requires-clause-inside g c = subst (λ (n : ℕ). c.args.g.now.dblocks ≤ n) (sym c.loop-part.invariant.disk.same_size) c.requires.inside

pub take_part-requires-clause-held : goal.take_part-requires-clause-held
take_part-requires-clause-held g c = λ image told. c.requires.held image (sym c.loop-part.invariant.disk.same_contents ∙ told)

pub take_part-requires-clause-volume : goal.take_part-requires-clause-volume
take_part-requires-clause-volume g c = c.requires.volume

pub take_part-requires-clause-whole : goal.take_part-requires-clause-whole
take_part-requires-clause-whole g c = c.requires.whole
