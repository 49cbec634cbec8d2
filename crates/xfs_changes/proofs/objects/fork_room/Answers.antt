use Rattle.std.proofs.Common.{List, ap, ◌∙◌}
use Rattle.std.specs.List.{slice_get}
use Rattle.xfs_names.specs.declared.building.ForkRoom.{ForkRoom}
use Rattle.xfs_names.proofs.OwnEntries.{room_told, first_room}
use Rattle.xfs_changes.proofs.objects.fork_room.Goals as goal

pub returns-in-Some : goal.returns-in-Some
returns-in-Some c = ap room_told c.in-Some.ensures.value ∙ ap (λ (rs : List ForkRoom). room_told (slice_get rs 0)) c.records_by_number.ensures ∙ first_room c.args.rooms.now c.args.dir

pub returns-in-None : goal.returns-in-None
returns-in-None c = ap room_told c.in-None.ensures.value ∙ ap (λ (rs : List ForkRoom). room_told (slice_get rs 0)) c.records_by_number.ensures ∙ first_room c.args.rooms.now c.args.dir
