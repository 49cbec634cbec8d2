use Rattle.std.proofs.Common.{◌≡◌, ℕ, ◌<◌, ◌^◌, List, IfErr, OnOk, arith, sym, subst, ap₂, ◌∙◌}
use Rattle.xfs_proto.specs.declared.protofile.ProtoNode.{ProtoNode}
use Rattle.xfs_mkfs.specs.FilesAsked.{CanBePlanned}
use Rattle.xfs_mkfs.specs.Outcome.{HasRoomFor, IsPlanningCause}
use Rattle.xfs_mkfs.specs.declared.files.FilesAsked.{FilesAsked}
use Rattle.xfs_mkfs.specs.declared.files.FilesAsked.TheVariants.{Root, Listed}
use Rattle.xfs_mkfs.proofs.Planned.{planned_for, root_room}
use Rattle.xfs_mkfs.proofs.preparing.plan_volume.Goals as goal

pub put_super-requires : goal.put_super-requires
put_super-requires g c =
    let root : c.args.g.now.rootino ≡ 128 = c.requires.chunk.root in
    record { label = c.requires.label; no_sectors = c.requires.no_sectors; low = omega (arith, root) }

pub plan_empty-requires-clause-accepted : goal.plan_empty-requires-clause-accepted
plan_empty-requires-clause-accepted g c = λ κs lives. c.put_super.ensures.accepted

pub plan_empty-requires-clause-states : goal.plan_empty-requires-clause-states
plan_empty-requires-clause-states g c = λ κs lives. c.put_super.ensures.states

pub plan_empty-requires-clause-chunk : goal.plan_empty-requires-clause-chunk
plan_empty-requires-clause-chunk g c = λ κs lives. c.requires.chunk

pub plan_filled-requires-clause-accepted : goal.plan_filled-requires-clause-accepted
plan_filled-requires-clause-accepted g c = λ κs lives. c.put_super.ensures.accepted

pub plan_filled-requires-clause-states : goal.plan_filled-requires-clause-states
plan_filled-requires-clause-states g c = λ κs lives. c.put_super.ensures.states

pub plan_filled-requires-clause-chunk : goal.plan_filled-requires-clause-chunk
plan_filled-requires-clause-chunk g c = λ κs lives. c.requires.chunk

pub plan_filled-requires-clause-files : goal.plan_filled-requires-clause-files
plan_filled-requires-clause-files g c = λ κs lives.
    let asked = c.args.asked.now in
    let nodes = c.as_slice.result.now in
    let contents = c.as_slice-in-Listed.result.now in
    let is : asked ≡ Listed nodes contents =
    c.in-Listed.is ∙ ap₂ (λ (ns : List ProtoNode) (cs : List (List ℕ)). Listed ns cs) (sym c.as_slice.ensures) (sym c.as_slice-in-Listed.ensures) in
    (subst CanBePlanned is c.requires.listed).0

pub plan_filled-requires-clause-contents : goal.plan_filled-requires-clause-contents
plan_filled-requires-clause-contents g c = λ κs lives.
    let asked = c.args.asked.now in
    let nodes = c.as_slice.result.now in
    let contents = c.as_slice-in-Listed.result.now in
    let is : asked ≡ Listed nodes contents =
    c.in-Listed.is ∙ ap₂ (λ (ns : List ProtoNode) (cs : List (List ℕ)). Listed ns cs) (sym c.as_slice.ensures) (sym c.as_slice-in-Listed.ensures) in
    (subst CanBePlanned is c.requires.listed).1

pub returns-in-Root : goal.returns-in-Root
returns-in-Root g c =
    let geometry = c.args.g.now in
    let label = c.args.label.now in
    let s = c.args.stamp.now in
    let asked = c.args.asked.now in
    let sector = c.put_super.new.sector in
    let is = c.in-Root.is in
    let r = c.plan_empty.result in
    record {
      rendered = planned_for geometry label sector s asked Root r is c.put_super.ensures.fields c.plan_empty.ensures.rendered;
      inside = c.plan_empty.ensures.inside;
      held = c.plan_empty.ensures.held;
      room = subst (λ (a : FilesAsked). OnOk r (HasRoomFor geometry a)) (sym is) (root_room geometry r c.plan_empty.ensures.room);
      cause = subst (λ (a : FilesAsked). IfErr r (IsPlanningCause geometry a)) (sym is) c.plan_empty.ensures.cause;
    }

pub returns-in-Listed : goal.returns-in-Listed
returns-in-Listed g c =
    let geometry = c.args.g.now in
    let label = c.args.label.now in
    let s = c.args.stamp.now in
    let asked = c.args.asked.now in
    let sector = c.put_super.new.sector in
    let nodes = c.as_slice.result.now in
    let contents = c.as_slice-in-Listed.result.now in
    let is : asked ≡ Listed nodes contents =
    c.in-Listed.is ∙ ap₂ (λ (ns : List ProtoNode) (cs : List (List ℕ)). Listed ns cs) (sym c.as_slice.ensures) (sym c.as_slice-in-Listed.ensures) in
    let r = c.plan_filled.result in
    record {
      rendered = planned_for geometry label sector s asked (Listed nodes contents) r is c.put_super.ensures.fields c.plan_filled.ensures.rendered;
      inside = c.plan_filled.ensures.inside;
      held = c.plan_filled.ensures.held;
      room = subst (λ (a : FilesAsked). OnOk r (HasRoomFor geometry a)) (sym is) c.plan_filled.ensures.room;
      cause = subst (λ (a : FilesAsked). IfErr r (IsPlanningCause geometry a)) (sym is) c.plan_filled.ensures.cause;
    }
