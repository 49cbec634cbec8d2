use Rattle.std.proofs.Common.{◌+◌, ◌*◌, ◌≤◌, ℕ, length, refl, ◌∙◌, ap, arith}
use Rattle.xfs_geom.specs.Conversions.{group_length}
use Rattle.xfs_geom.specs.Volumes.{volume_of}
use Rattle.xfs_place.specs.Chunks.{asked_pool, lies_in_chunks}
use Rattle.xfs_place.proofs.GroupIs.{length_uses}
use Rattle.xfs_place.proofs.Rooms.{room_is, no_room_is}
use Rattle.xfs_place.proofs.Windowed.{asked_blocks}
use Rattle.xfs_place.proofs.chunk_search.is_room.Goals as goal

pub are_asked-requires : goal.are_asked-requires
are_asked-requires c =
    let ask = c.args.ask.now in
    omega (arith, c.requires.inside, ap length c.requires.uses, length_uses (volume_of ask.geometry) ask.taken ask.reserved c.args.ag)

pub returns-then-lies_in_chunks : goal.returns-then-lies_in_chunks
returns-then-lies_in_chunks c =
    let ask = c.args.ask.now in
    let v = volume_of ask.geometry in
    let at = c.args.i * ask.size in
    let long = ap (λ (n : ℕ). lies_in_chunks n ask.size ask.from at) c.group_length-length.ensures.value in
    let short : group_length v c.args.ag ≤ v.agblocks = omega (arith, c.group_length-length.ensures.most, c.group_length-length.ensures.value) in
    room_is v (asked_pool ask) ask.size ask.from c.args.ag c.args.i (c.args.ag * v.agblocks + at) c.lies_in_chunks.result c.are_asked.result c.if-lies_in_chunks.true (c.lies_in_chunks.ensures ∙ long) refl
    (c.are_asked.ensures ∙ asked_blocks v ask.taken ask.reserved ask.spared_from c.args.uses.now c.args.ag at ask.size c.requires.uses short c.requires.inside c.requires.size)

pub returns-else-lies_in_chunks : goal.returns-else-lies_in_chunks
returns-else-lies_in_chunks c =
    let ask = c.args.ask.now in
    let v = volume_of ask.geometry in
    let long = ap (λ (n : ℕ). lies_in_chunks n ask.size ask.from (c.args.i * ask.size)) c.group_length-length.ensures.value in
    c.if-lies_in_chunks.false ∙ no_room_is v (asked_pool ask) ask.size ask.from c.args.ag c.args.i c.lies_in_chunks.result c.if-lies_in_chunks.false (c.lies_in_chunks.ensures ∙ long)
