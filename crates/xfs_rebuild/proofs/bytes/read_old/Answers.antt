use Rattle.std.proofs.Common.{◌≡◌, ℕ, ◌<◌, List, length, sym, ap, subst, ◌∙◌}
use Rattle.std.specs.List.{All}
use Rattle.xfs_collections.specs.Bank.{blocks_at}
use Rattle.xfs_disk.proofs.Reading.{reads_none}
use Rattle.xfs_geom.specs.Volumes.{volume_of}
use Rattle.xfs_rebuild.specs.Changes.{CanChangeAll}
use Rattle.xfs_rebuild.proofs.Causes.{no_later}
use Rattle.xfs_rebuild.proofs.Old.{all_below}
use Rattle.xfs_rebuild.proofs.bytes.read_old.Goals as goal

pub old_places-requires : goal.old_places-requires
old_places-requires g c = record { lie = c.requires.lie; order = c.requires.order }

pub read_blocks-requires : goal.read_blocks-requires
read_blocks-requires g c = record {
  inside = all_below c.args.g.now.dblocks (g.D.Disk.size c.args.disk.now) c.in-Ok.places.items c.as_slice.result.now c.requires.inside c.as_slice.ensures.value c.in-Ok.ensures.inside;
}

pub can_change_all-requires : goal.can_change_all-requires
can_change_all-requires g c = record {
  many = c.in-Ok-read_blocks.ensures.many ∙ ap length (c.as_slice.ensures.value ∙ sym c.as_slice-2.ensures.value);
  inside = subst (All (λ (place : ℕ). place < c.args.g.now.dblocks)) (sym c.as_slice-2.ensures.value) c.in-Ok.ensures.inside;
  order = c.requires.order;
}

pub returns-in-Err : goal.returns-in-Err
returns-in-Err g c =
    let D = g.D.Disk in
    record {
      old = tt;
      read = tt;
      refused = tt;
      cause = no_later (D.faults c.args.disk.now);
      disk = reads_none D.size D.holds D.write_faults D.writes D.tells_stops D.moment D.may_leave D.left_since c.args.disk.now;
    }

pub returns-in-Err-read_blocks : goal.returns-in-Err-read_blocks
returns-in-Err-read_blocks g c =
    let failed = c.in-Err-read_blocks.ensures in
    record { old = tt; read = tt; refused = failed.refused; cause = failed.cause; disk = failed.disk }

pub returns-then-not-can_change_all : goal.returns-then-not-can_change_all
returns-then-not-can_change_all g c =
    let read = c.in-Ok-read_blocks.ensures in
    record { old = tt; read = tt; refused = tt; cause = read.cause; disk = read.disk }

pub returns : goal.returns
returns g c =
    let D = g.D.Disk in
    let found = c.in-Ok.ensures in
    let read = c.in-Ok-read_blocks.ensures in
    record {
      old = record {
        places' = found.places;
        many = read.many ∙ ap length c.as_slice.ensures.value;
        inside = found.inside;
        can =
            subst (λ (places : List ℕ). CanChangeAll (volume_of c.args.g.now) c.args.slots.now places c.in-Ok-read_blocks.blocks) c.as_slice-2.ensures.value
            (c.can_change_all.ensures c.if-not-can_change_all.false);
      };
      read = λ image told. read.old image told ∙ ap (λ (places : List ℕ). blocks_at image places) c.as_slice.ensures.value;
      refused = tt;
      cause = read.cause;
      disk = read.disk;
    }
