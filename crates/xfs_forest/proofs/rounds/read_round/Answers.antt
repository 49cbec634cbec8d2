use Rattle.xfs_disk.proofs.Reading.{reads_none}
use Rattle.std.proofs.Common.{◌<◌, length, sym, subst, ap, ◌∙◌, arith}
use Rattle.std.proofs.lemmas.List.{length-map}
use Rattle.std.specs.List.{All}
use Rattle.xfs_collections.specs.Bank.{blocks_at}
use Rattle.xfs_geom.specs.Volumes.{volume_of}
use Rattle.xfs_forest.specs.Forest.{cell_places, spots_of, AreGrowing, AreListed}
use Rattle.xfs_forest.proofs.Forests.{places_inside}
use Rattle.xfs_forest.proofs.rounds.read_round.Goals as goal

pub load_round-requires : goal.load_round-requires
load_round-requires g c =
    let places = c.deref-2.ensures.value ∙ c.in-Ok.ensures ∙ ap (λ cells. cell_places cells) c.deref.ensures.value in
    record {
      inside = subst (All (λ block. block < g.D.Disk.size c.args.disk.now)) (sym places)
          (places_inside (length c.args.plants.now) c.args.g.now.dblocks (g.D.Disk.size c.args.disk.now) c.args.cells.now.items c.requires.inside c.requires.forest.listed);
    }

pub settle-requires-clause-bank : goal.settle-requires-clause-bank
settle-requires-clause-bank g c = λ κs lives.
    let places = c.deref-2.ensures.value ∙ c.in-Ok.ensures ∙ ap (λ cells. cell_places cells) c.deref.ensures.value in
    c.in-Ok-load_round.ensures.size ∙ ap (λ xs. length xs) places ∙ length-map c.args.cells.now.items (λ cell. cell.spot.seat.place)
    ∙ sym (ap (λ xs. length xs) c.deref_mut.ensures.value)

pub settle-requires-clause-cells : goal.settle-requires-clause-cells
settle-requires-clause-cells g c = λ κs lives.
    subst (AreListed (length c.args.plants.now) c.args.g.now.dblocks) (sym c.deref_mut.ensures.value) c.requires.forest.listed

pub returns-in-Ok-settle-clause-kept : goal.returns-in-Ok-settle-clause-kept
returns-in-Ok-settle-clause-kept g c = c.in-Ok-settle.ensures.kept

pub returns-in-Ok-settle-clause-grows : goal.returns-in-Ok-settle-clause-grows
returns-in-Ok-settle-clause-grows g c = λ image told growing.
    let places = c.deref-2.ensures.value ∙ c.in-Ok.ensures ∙ ap (λ cells. cell_places cells) c.deref.ensures.value in
    c.in-Ok-settle.ensures.grows image
    (c.in-Ok-load_round.ensures.held image told ∙ ap (blocks_at image) (places ∙ sym (ap (λ cells. cell_places cells) c.deref_mut.ensures.value)))
    (subst (λ cells. AreGrowing g.K.Kind.shape (volume_of c.args.g.now) image c.args.plants.now c.args.trees.now (spots_of cells)) (sym c.deref_mut.ensures.value) growing)

pub returns-in-Ok-settle-clause-cause : goal.returns-in-Ok-settle-clause-cause
returns-in-Ok-settle-clause-cause g c = c.in-Ok-load_round.ensures.cause

pub returns-in-Ok-settle-clause-disk : goal.returns-in-Ok-settle-clause-disk
returns-in-Ok-settle-clause-disk g c = c.load_round.ensures.disk

pub returns-in-Ok-settle-clause-reads : goal.returns-in-Ok-settle-clause-reads
returns-in-Ok-settle-clause-reads g c = c.load_round.ensures.reads

pub settle-requires-clause-trees : goal.settle-requires-clause-trees
settle-requires-clause-trees g c = λ κs lives. c.requires.forest.count

pub returns-in-Err : goal.returns-in-Err
returns-in-Err g c =
    record {
      kept = tt;
      none = tt;
      grows = tt;
      cause = omega arith;
      disk = let D = g.D.Disk in reads_none D.size D.holds D.write_faults D.writes D.tells_stops D.moment D.may_leave D.left_since c.args.disk.now;
      reads = omega arith;
    }

pub returns-in-Err-load_round : goal.returns-in-Err-load_round
returns-in-Err-load_round g c =
    record {
      kept = tt;
      none = tt;
      grows = tt;
      cause = c.in-Err-load_round.ensures.cause;
      disk = c.load_round.ensures.disk;
      reads = c.load_round.ensures.reads;
    }

pub returns : goal.returns
returns g c =
    record {
      kept = tt;
      none = tt;
      grows = tt;
      cause = c.in-Ok-load_round.ensures.cause;
      disk = c.load_round.ensures.disk;
      reads = c.load_round.ensures.reads;
    }
