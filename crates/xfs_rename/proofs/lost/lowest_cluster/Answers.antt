use Rattle.std.proofs.Common.{◌≡◌, ◌<◌, ◌∙◌, sym, ap, subst, List, ℕ, length, take, slice_get}
use Rattle.std.specs.declared.option.Option.{Option}
use Rattle.xfs_place.specs.Chunks.{asked_rooms}
use Rattle.xfs_place.specs.declared.chunk_search.ChunkAsk.{ChunkAsk}
use Rattle.xfs_rename.specs.Lost.{IsFirst, cluster_ask}
use Rattle.xfs_rename.proofs.FirstRooms.{one_room, no_room, other_cause}
use Rattle.xfs_rename.proofs.lost.lowest_cluster.Goals as goal

pub returns-in-Ok : goal.returns-in-Ok
returns-in-Ok c =
    let ask = cluster_ask c.args.g.now c.args.due.now c.args.sparing.now in
    let starts = c.in-Ok.starts in
    let lowest = subst (λ (a : ChunkAsk). starts ≡ take a.count (asked_rooms a)) c.in_ok-ask.ensures c.in-Ok.ensures.lowest in
    let long = subst (λ (a : ChunkAsk). length starts ≡ a.count) c.in_ok-ask.ensures c.in-Ok.ensures.all in
    subst (λ (r : Option ℕ). IsFirst r (asked_rooms ask)) (sym (c.first_of.ensures ∙ ap (λ (ss : List ℕ). slice_get ss 0) c.as_slice.ensures))
    (one_room (asked_rooms ask) starts lowest long)

pub returns-in-Err-NoRoom : goal.returns-in-Err-NoRoom
returns-in-Err-NoRoom c =
    let ask = cluster_ask c.args.g.now c.args.due.now c.args.sparing.now in
    no_room (asked_rooms ask)
    (subst (λ (a : ChunkAsk). length (asked_rooms a) < a.count) c.in_ok-ask.ensures (other_cause c.in-Err-NoRoom.field-0 c.in-Err-NoRoom.field-0-0 c.in_ok-ask.ask.what c.in-Err-NoRoom.field-0-is c.in-Err-NoRoom.ensures.cause))
