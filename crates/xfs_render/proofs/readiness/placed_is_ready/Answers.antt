use Rattle.std.proofs.Common.{◌≡◌, ◌∙◌, ℕ, true, ◌++◌, sym}
use Rattle.std.proofs.lemmas.List.Elements.{All-append}
use Rattle.xfs_place.specs.Wanted.{kept_runs}
use Rattle.xfs_tree.specs.Rules.{is_of_root_cluster}
use Rattle.xfs_render.specs.Readiness.{HasOwner}
use Rattle.xfs_render.specs.Rendering.{group_placed, wanted_inodes, no_group, volume}
use Rattle.xfs_render.proofs.ReadyGroups.{group_sound}
use Rattle.xfs_render.proofs.ReadyObjects.{objects_counted, objects_owned}
use Rattle.xfs_render.proofs.ReadyWanted.{new_inside, runs_inside, taken_left}
use Rattle.xfs_render.proofs.readiness.placed_is_ready.Goals as goal

pub returns : goal.returns
returns c =
    let w = c.args._wanted.now in
    let p = c.args._placed.now in
    let all = kept_runs w ++ p.runs in
    let wanted = c.requires.wanted in
    let bytes = c.requires.bytes in
    let cuts = c.requires.cuts in
    let owned = All-append HasOwner (kept_runs w) p.runs wanted.owned (objects_owned w.objects p.cuts p.runs wanted.asks wanted.askers cuts) in
    let root = λ (block : ℕ) (h : is_of_root_cluster (volume w) block ≡ true). taken_left (kept_runs w) p.runs block (wanted.root block h) in
    record {
      cuts = cuts;
      runs = runs_inside w p.runs c.requires.apart;
      objects = bytes.objects ∙ sym (objects_counted w.objects p.cuts p.runs cuts);
      inodes = wanted.inodes;
      groups = c.requires.groups.all;
      sound = λ ag there.
          group_sound (volume w) all w.reserved ag (wanted_inodes w ag) (group_placed p ag) w.geometry.shape.groups w.geometry.shape.log_inside there c.requires.apart owned root
          (wanted.chunks ag there) (c.requires.groups.each ag no_group there) (c.requires.pool.each ag no_group there);
      accepted = bytes.accepted;
      states = bytes.states;
      new = new_inside w p.runs c.requires.apart;
      old = bytes.old;
      inside = bytes.inside;
      order = bytes.order;
      slots = bytes.slots;
      cycle = bytes.cycle;
    }
