use Rattle.std.proofs.Common.{◌+◌, ◌-◌, inr, length, replicate, arith, refl, ◌∙◌}
use Rattle.xfs_geom.specs.Volumes.{volume_of}
use Rattle.xfs_empty.proofs.Accepted.{HasAll, IsNew, accepted, ready, volume_stated}
use Rattle.xfs_empty.proofs.Carried.{HasParts, all_sealed, all_stand, new_super, uuid_stands}
use Rattle.xfs_empty.proofs.Numbers.{part_of_zeros}
use Rattle.xfs_empty.proofs.superblock.put_super.Goals as goal

pub put_sizes-requires-clause-blank : goal.put_sizes-requires-clause-blank
put_sizes-requires-clause-blank c =
    let n = length c.args.label.now in
    c.put_parts.ensures.keeps_parts (108 + n) (12 - n) (inr (omega arith))
    ∙ (c.put_places.ensures.keeps_parts (108 + n) (12 - n) (inr (omega arith)) ∙ part_of_zeros 512 (108 + n) (12 - n) (omega arith))

pub seal_super-requires-clause-ready : goal.seal_super-requires-clause-ready
seal_super-requires-clause-ready c =
    ready (volume_of c.args.g.now) c.put_features.new.sector
    (all_stand _ _ _ _ _ _ c.put_places.ensures.numbers c.put_parts.ensures.numbers c.put_sizes.ensures.numbers c.put_counters.ensures.numbers
    c.put_features.ensures.numbers c.put_parts.ensures.keeps c.put_sizes.ensures.keeps c.put_counters.ensures.keeps c.put_features.ensures.keeps)

pub returns : goal.returns
returns c =
    let v = volume_of c.args.g.now in
    let all : HasAll v c.seal_super.new.sector =
    all_sealed v c.put_features.new.sector _ c.seal_super.ensures.keeps
    (all_stand v c.put_places.new.sector c.put_parts.new.sector c.put_sizes.new.sector c.put_counters.new.sector c.put_features.new.sector
    c.put_places.ensures.numbers c.put_parts.ensures.numbers c.put_sizes.ensures.numbers c.put_counters.ensures.numbers
    c.put_features.ensures.numbers c.put_parts.ensures.keeps c.put_sizes.ensures.keeps c.put_counters.ensures.keeps c.put_features.ensures.keeps) in
    let parts : HasParts (replicate 512 0) c.put_places.new.sector c.put_parts.new.sector c.put_sizes.new.sector c.put_counters.new.sector
    c.put_features.new.sector c.seal_super.new.sector = record {
      zero' = refl;
      places = c.put_places.ensures.keeps_parts;
      parts = c.put_parts.ensures.keeps_parts;
      sizes = c.put_sizes.ensures.keeps_parts;
      counters = c.put_counters.ensures.keeps_parts;
      features = c.put_features.ensures.keeps_parts;
      sealed = c.seal_super.ensures.keeps_parts;
    } in
    let new : IsNew v = record { shape = c.args.g.now.shape; no_sectors = c.requires.no_sectors } in
    record {
      fields =
          new_super v _ _ _ _ _ _ _ c.args.label.now parts all c.requires.label c.put_places.ensures.uuid c.put_sizes.ensures.label
          c.put_features.ensures.no_uuid c.seal_super.ensures.sealed;
      accepted = accepted v _ new all c.seal_super.ensures.sealed;
      states = volume_stated v _ new all (uuid_stands _ _ _ _ _ _ _ v.uuid parts c.put_places.ensures.uuid);
    }
