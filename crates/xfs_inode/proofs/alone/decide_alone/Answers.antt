use Rattle.std.proofs.Common.{◌∙◌, ap, sym, subst, None, option_map, rules}
use Rattle.xfs_geom.specs.Volumes.{volume_of}
use Rattle.xfs_disk.specs.Blocks.{bytes_of_block}
use Rattle.xfs_inode.specs.Named.{IsTopNamed, named_top}
use Rattle.xfs_inode.proofs.NamedBlocks.{all_named, named_tree}
use Rattle.xfs_inode.proofs.alone.decide_alone.Goals as goal

pub returns-clause-read : goal.returns-clause-read
returns-clause-read c = λ image.
    let v = volume_of c.args.g.now in
    let top = named_top v c.args.ino c.args.slot.now in
    all_named v image c.args.ino c.args.slot.now c.in_ok-file.file _ _ _ c.in_ok-file.ensures.read
    (named_tree v image c.args.ino top None (subst (IsTopNamed top) (c.names_none.ensures.top (search rules)) c.in_ok-needs.ensures.top))
    (ap (option_map (bytes_of_block image)) (sym (c.names_none.ensures.attr_leaf (search rules)) ∙ c.in_ok-needs.ensures.attr_leaf))
    (ap (option_map (bytes_of_block image)) (sym (c.names_none.ensures.link (search rules)) ∙ c.in_ok-needs.ensures.link))
