use Rattle.std.proofs.Common.{◌≡◌, ℕ, List, [], length, get_or, refl, sym, subst, rules}
use Rattle.std.proofs.lemmas.List.{with_items_is}
use Rattle.std.proofs.lemmas.Option.{get_or_from_slice_get}
use Rattle.xfs_geom.specs.Volumes.{volume_of}
use Rattle.xfs_rounds.specs.Judged.{ArePartsOf}
use Rattle.xfs_rounds.specs.Named.{AreNamedParts}
use Rattle.xfs_rounds.proofs.Numbering.{then_ok}
use Rattle.xfs_rounds.proofs.Rounds.{parts_held}
use Rattle.xfs_rounds.proofs.naming.name_block.Goals as goal

pub returns-in-Ok-clause-numbered : goal.returns-in-Ok-clause-numbered
returns-in-Ok-clause-numbered c =
    let v = volume_of c.args.g.now in
    let named = c.name_parts.new.named in
    let block = c.args.block.now in
    let bank = c.args.bank.now in
    let vec = c.in-Ok.parts in
    let left = c.name_parts.new.parts in
    let long : length left ≡ vec.len = search rules in
    then_ok _ _ c.name_parts.result c.name_parts.ensures.parts (λ are. record {
      placed = record { volume = c.requires.at_hand.placed.volume; bank = c.requires.at_hand.placed.bank };
      slots = subst (AreNamedParts v named block.place (get_or bank block.at [])) (sym (with_items_is vec left long))
          (subst (λ (bytes : List ℕ). AreNamedParts v named block.place bytes left)
          (sym (get_or_from_slice_get bank block.at c.view-bytes.result.now [] c.view-bytes.ensures.block)) are);
    })

pub name_parts-requires-clause-volume : goal.name_parts-requires-clause-volume
name_parts-requires-clause-volume c = c.requires.at_hand.placed.volume

pub name_parts-requires-clause-whole : goal.name_parts-requires-clause-whole
name_parts-requires-clause-whole c = c.view-bytes.ensures.size

pub name_parts-requires-clause-within : goal.name_parts-requires-clause-within
name_parts-requires-clause-within c = c.requires.within

pub returns-in-Ok-clause-placed : goal.returns-in-Ok-clause-placed
returns-in-Ok-clause-placed c = then_ok _ _ c.name_parts.result c.name_parts.ensures.within (λ _. record { place = refl; at = refl })

pub returns-in-Ok-clause-more : goal.returns-in-Ok-clause-more
returns-in-Ok-clause-more c = c.name_parts.ensures.more

pub returns-in-Ok-clause-within : goal.returns-in-Ok-clause-within
returns-in-Ok-clause-within c = c.name_parts.ensures.within

pub returns-in-Err : goal.returns-in-Err
returns-in-Err c = record { numbered = tt; placed = tt; more = tt; within = tt }

pub name_parts-requires-clause-parts : goal.name_parts-requires-clause-parts
name_parts-requires-clause-parts c =
    parts_held (ArePartsOf (volume_of c.args.g.now) c.args.block.now.place) c.args.bank.now c.args.block.now.at c.args.block.now.slots c.in-Ok.parts c.view-bytes.result.now c.deref_mut.result.now
    c.in-Ok.is c.view-bytes.ensures.block c.deref_mut.ensures.value c.requires.at_hand.known
