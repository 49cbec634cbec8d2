use Rattle.std.proofs.Common.{ℕ, List, ◌∙◌, ap, subst, sym}
use Rattle.std.specs.List.{All}
use Rattle.std.specs.List.Sorted.{IsNonDecreasingBy}
use Rattle.xfs_names.specs.Built.{IsBuiltAsWanted}
use Rattle.xfs_names.specs.declared.building.ForkRoom.{ForkRoom}
use Rattle.xfs_changes.specs.Rooms.{fork_rooms}
use Rattle.xfs_rename.proofs.InTurn.{rooms_in_order}
use Rattle.xfs_rename.proofs.settling.built_of.Goals as goal

pub build_all-requires-clause-rooms : goal.build_all-requires-clause-rooms
build_all-requires-clause-rooms c =
    subst (IsNonDecreasingBy (λ (r : ForkRoom). r.ino))
    (sym (c.deref.ensures.value ∙ c.in_ok-rooms.ensures ∙ ap (λ (ns : List ℕ). fork_rooms ns c.args.files.now) c.as_slice.ensures))
    (rooms_in_order c.args.names.now.rebuilt c.args.files.now c.requires.files)

pub build_all-requires-clause-wanted : goal.build_all-requires-clause-wanted
build_all-requires-clause-wanted c = c.requires.can

pub returns : goal.returns
returns c = record {
  rooms = c.in_ok-rooms.ensures ∙ ap (λ (ns : List ℕ). fork_rooms ns c.args.files.now) c.as_slice.ensures;
  numbers = c.in_ok-built.ensures.each;
  each = subst (λ (rs : List ForkRoom). All (IsBuiltAsWanted c.args.names.now rs) c.in_ok-built.built)
      (c.deref.ensures.value ∙ c.in_ok-rooms.ensures ∙ ap (λ (ns : List ℕ). fork_rooms ns c.args.files.now) c.as_slice.ensures) c.in_ok-built.ensures.built;
}
