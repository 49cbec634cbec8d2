use Rattle.std.proofs.Common.{◌≤◌, ℕ, List, ◌++◌, map, map-id, length, sym, ap, subst, ◌∙◌, arith, rules}
use Rattle.std.proofs.lemmas.Iterator.Adapters.{YieldsList-from_vec}
use Rattle.std.proofs.lemmas.Iterator.Consumers.{YieldsList-end, YieldsList-turn}
use Rattle.std.proofs.lemmas.List.Elements.{All-get_or}
use Rattle.std.specs.List.{flat_map}
use Rattle.xfs_geom.specs.Volumes.{volume_of}
use Rattle.xfs_disk.proofs.Reading.{reads_none, reads_on}
use Rattle.xfs_image.specs.Slots.{inodes_of_block}
use Rattle.std.proofs.Common.{Option}
use Rattle.xfs_disk.specs.Blocks.{Image}
use Rattle.xfs_rounds.specs.Settled.{IsSettled, IsTold}
use Rattle.xfs_rounds.specs.Judged.{IsListed}
use Rattle.xfs_rounds.specs.declared.pieces.BlockParts.{BlockParts}
use Rattle.xfs_slots.specs.Facts.{slot_fact}
use Rattle.xfs_slots.specs.Gathered.{gathered, gathered_both, held_in}
use Rattle.xfs_slots.proofs.Causes.{caused_on}
use Rattle.xfs_slots.proofs.Turns.{facts_start, facts_turn, held_start, held_turn, inodes_of_round}
use Rattle.xfs_slots.proofs.rounds.take_round.Goals as goal

pub loop-block-init : goal.loop-block-init
loop-block-init g c =
    let D = g.D.Disk in
    let v = volume_of c.args.g.now in
    record {
      facts = λ image told. facts_start v image c.args.facts.now.items;
      held = λ image told. held_start v image (held_in c.args.inodes.now);
      later = omega arith;
      disk = reads_none D.size D.holds D.write_faults D.writes D.tells_stops D.moment D.may_leave D.left_since c.args.disk.now;
      reads = omega arith;
    }

pub take_settled-requires-clause-listed : goal.take_settled-requires-clause-listed
take_settled-requires-clause-listed g c =
    let is = IsListed c.args.round.now in
    let turn = YieldsList-turn (YieldsList-from_vec {s = c.into_iter-block-iterator.result} c.args.settled.items (search rules) (search rules))
    c.loop-block.yielded c.loop-block.block-iterator c.loop-block.yielded_by c.next.result c.next.new.self c.in-Some.block c.in-Some.is c.next.ensures.steps in
    subst is (sym turn.1) (All-get_or is c.args.settled.items (length c.loop-block.yielded) c.in-Some.block turn.0 c.requires.settled.listed.each)

pub take_settled-requires-clause-settled : goal.take_settled-requires-clause-settled
take_settled-requires-clause-settled g c =
    let P : Option Image → BlockParts → Type 0 = λ held block. IsSettled (volume_of c.args.g.now) (IsTold held) c.args.bank.now block in
    let is = P (g.D.Disk.holds c.args.disk.now) in
    let turn = YieldsList-turn (YieldsList-from_vec {s = c.into_iter-block-iterator.result} c.args.settled.items (search rules) (search rules))
    c.loop-block.yielded c.loop-block.block-iterator c.loop-block.yielded_by c.next.result c.next.new.self c.in-Some.block c.in-Some.is c.next.ensures.steps in
    subst (λ (held : Option Image). P held c.in-Some.block) (sym c.loop-block.invariant.disk.same_contents)
    (subst is (sym turn.1) (All-get_or is c.args.settled.items (length c.loop-block.yielded) c.in-Some.block turn.0 c.requires.settled.each))

pub loop-block-preserved : goal.loop-block-preserved
loop-block-preserved g c =
    let D = g.D.Disk in
    let v = volume_of c.args.g.now in
    let block = c.in-Some.block in
    let inos : BlockParts → List ℕ = λ (block : BlockParts). inodes_of_block v block.place in
    let before = c.loop-block.invariant in
    record {
      facts = λ image told. facts_turn v image inos c.loop-block.yielded block c.args.facts.now.items c.loop-block.facts.items c.take_settled.new.facts.items
          (before.facts image told) (c.in-Ok.ensures.facts image (before.disk.same_contents ∙ told));
      held = λ image told. held_turn v image inos c.loop-block.yielded block (held_in c.args.inodes.now) (held_in c.loop-block.inodes) (held_in c.take_settled.new.inodes)
          (before.held image told) (c.in-Ok.ensures.held image (before.disk.same_contents ∙ told));
      later = let up = before.later in let cause = c.in-Ok.ensures.cause in omega (arith, up, cause);
      disk = reads_on D.size D.holds D.write_faults D.writes D.tells_stops D.moment D.may_leave D.left_since c.args.disk.now c.loop-block.disk c.take_settled.new.disk before.disk c.in-Ok.ensures.disk;
      reads = let up = before.reads in let more = c.in-Ok.ensures.reads in omega (arith, up, more);
    }

pub returns-clause-facts : goal.returns-clause-facts
returns-clause-facts g c = λ image told.
    let v = volume_of c.args.g.now in
    let inos : BlockParts → List ℕ = λ (block : BlockParts). inodes_of_block v block.place in
    let end = YieldsList-end (YieldsList-from_vec {s = c.into_iter-block-iterator.result} c.args.settled.items (search rules) (search rules))
    c.loop-block.yielded c.loop-block.block-iterator c.loop-block.yielded_by c.next.result c.next.new.self c.in-None.is c.next.ensures.steps in
    c.loop-block.invariant.facts image told
    ∙ ap (λ (inos : List ℕ). c.args.facts.now.items ++ map (slot_fact v image) inos)
    (ap (flat_map inos) (sym (map-id c.loop-block.yielded) ∙ end.0) ∙ inodes_of_round v c.args.settled.items c.args.round.now c.requires.settled.listed.places)

pub returns-clause-held : goal.returns-clause-held
returns-clause-held g c = λ image told.
    let v = volume_of c.args.g.now in
    let inos : BlockParts → List ℕ = λ (block : BlockParts). inodes_of_block v block.place in
    let end = YieldsList-end (YieldsList-from_vec {s = c.into_iter-block-iterator.result} c.args.settled.items (search rules) (search rules))
    c.loop-block.yielded c.loop-block.block-iterator c.loop-block.yielded_by c.next.result c.next.new.self c.in-None.is c.next.ensures.steps in
    c.loop-block.invariant.held image told
    ∙ ap (λ (inos : List ℕ). gathered_both (held_in c.args.inodes.now) (gathered v image inos))
    (ap (flat_map inos) (sym (map-id c.loop-block.yielded) ∙ end.0) ∙ inodes_of_round v c.args.settled.items c.args.round.now c.requires.settled.listed.places)

pub returns-clause-cause : goal.returns-clause-cause
returns-clause-cause g c = c.loop-block.invariant.later

pub returns-clause-disk : goal.returns-clause-disk
returns-clause-disk g c = c.loop-block.invariant.disk

pub returns-clause-reads : goal.returns-clause-reads
returns-clause-reads g c = c.loop-block.invariant.reads

pub returns-in-Err : goal.returns-in-Err
returns-in-Err g c =
    let D = g.D.Disk in
    let before = c.loop-block.invariant in
    let failed = c.in-Err.ensures in
    record {
      facts = tt;
      held = tt;
      cause = caused_on (D.faults c.args.disk.now) (D.faults c.loop-block.disk) (D.faults c.take_settled.new.disk) c.in-Err.fault before.later failed.cause;
      disk = reads_on D.size D.holds D.write_faults D.writes D.tells_stops D.moment D.may_leave D.left_since c.args.disk.now c.loop-block.disk c.take_settled.new.disk before.disk failed.disk;
      reads = let up = before.reads in let more = failed.reads in omega (arith, up, more);
    }

pub take_settled-requires-clause-inside : goal.take_settled-requires-clause-inside
take_settled-requires-clause-inside g c = subst (λ (n : ℕ). c.args.g.now.dblocks ≤ n) (sym c.loop-block.invariant.disk.same_size) c.requires.inside

pub take_settled-requires-clause-held : goal.take_settled-requires-clause-held
take_settled-requires-clause-held g c = λ image told. c.requires.held image (sym c.loop-block.invariant.disk.same_contents ∙ told)

pub take_settled-requires-clause-volume : goal.take_settled-requires-clause-volume
take_settled-requires-clause-volume g c = c.requires.volume

pub take_settled-requires-clause-bank : goal.take_settled-requires-clause-bank
take_settled-requires-clause-bank g c = c.requires.bank
