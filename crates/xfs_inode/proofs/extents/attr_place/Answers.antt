use Rattle.std.proofs.Common.{◌≡◌, Bool, if◌then◌else◌, None, sym, ap, ◌∙◌}
use Rattle.xfs_geom.specs.Volumes.{volume_of}
use Rattle.xfs_inode.specs.Forks.{attr_extent, only_block}
use Rattle.xfs_inode.proofs.extents.attr_place.Goals as goal

pub returns-then-not-has_attr_extent : goal.returns-then-not-has_attr_extent
returns-then-not-has_attr_extent c =
    record {
      value = ap (λ (t : Bool). if t then only_block (volume_of c.args.g.now) (attr_extent c.args.core.now c.args.slot.now) else None) (sym c.if-not-has_attr_extent.true ∙ c.has_attr_extent.ensures);
      room = tt;
      inside = tt;
    }

pub returns-clause-value : goal.returns-clause-value
returns-clause-value c =
    let v = volume_of c.args.g.now in
    c.only_block.ensures.value ∙ ap (only_block v) c.attr_extent.ensures
    ∙ ap (λ (t : Bool). if t then only_block v (attr_extent c.args.core.now c.args.slot.now) else None) (sym c.if-not-has_attr_extent.false ∙ c.has_attr_extent.ensures)

pub returns-clause-inside : goal.returns-clause-inside
returns-clause-inside c = c.only_block.ensures.inside
