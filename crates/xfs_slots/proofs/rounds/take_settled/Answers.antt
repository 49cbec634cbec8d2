use Rattle.std.proofs.Common.{◌≡◌, ℕ, ◌<◌, List, [], ◌++◌, map, sym, subst}
use Rattle.std.specs.Option.{ForSome}
use Rattle.std.proofs.lemmas.List.Elements.{All-get_or}
use Rattle.std.proofs.lemmas.Option.{get_or_from_slice_get}
use Rattle.xfs_geom.specs.Volumes.{volume_of}
use Rattle.xfs_rounds.specs.Settled.{ArePartsIn, IsTold}
use Rattle.xfs_image.specs.Slots.{inodes_of_block}
use Rattle.xfs_slots.specs.Facts.{AddsFacts, slot_fact}
use Rattle.xfs_slots.proofs.Gathering.{on_ok}
use Rattle.xfs_slots.proofs.Turns.{bank_bytes}
use Rattle.xfs_slots.proofs.rounds.take_settled.Goals as goal

pub take_block-requires-clause-volume : goal.take_block-requires-clause-volume
take_block-requires-clause-volume g c =
    let block = c.args.block in
    subst (λ (n : ℕ). n < c.args.g.now.dblocks) (sym c.requires.listed.place)
    (All-get_or (λ (n : ℕ). n < c.args.g.now.dblocks) c.args.round.now block.at 0 c.requires.listed.inside c.requires.volume)

pub take_block-requires-clause-held : goal.take_block-requires-clause-held
take_block-requires-clause-held g c = λ image told.
    bank_bytes image c.args.bank.now c.args.round.now c.args.block.place c.args.block.at c.view.result.now (c.requires.held image told)
    c.requires.listed.inside c.requires.listed.place c.view.ensures.block

pub take_block-requires-clause-parts : goal.take_block-requires-clause-parts
take_block-requires-clause-parts g c =
    subst (λ (bytes : List ℕ). ArePartsIn (volume_of c.args.g.now) (IsTold (g.D.Disk.holds c.args.disk.now)) c.args.block.place bytes c.in-Ok.parts.items)
    (get_or_from_slice_get c.args.bank.now c.args.block.at c.view.result.now [] c.view.ensures.block) (rw c.in-Ok.is at c.requires.settled)

pub returns-in-Ok-clause-facts : goal.returns-in-Ok-clause-facts
returns-in-Ok-clause-facts g c =
    let v = volume_of c.args.g.now in
    let place = c.args.block.place in
    let old = c.args.facts.now.items in
    let new = c.take_block.new.facts.items in
    on_ok (AddsFacts v place c.view.result.now (inodes_of_block v place) old new)
    (ForSome (g.D.Disk.holds c.args.disk.now) (λ image. new ≡ old ++ map (slot_fact v image) (inodes_of_block v place))) c.take_block.result
    (λ adds image told. adds image (bank_bytes image c.args.bank.now c.args.round.now place c.args.block.at c.view.result.now (c.requires.held image told)
    c.requires.listed.inside c.requires.listed.place c.view.ensures.block))
    c.take_block.ensures.facts
