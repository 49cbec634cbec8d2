use Rattle.std.proofs.Common.{◌≡◌, Bool, if◌then◌else◌, Some, None, sym, ap, ◌∙◌}
use Rattle.xfs_attr.specs.Leaf.{leaf_of}
use Rattle.xfs_geom.specs.Volumes.{volume_of}
use Rattle.xfs_word.specs.Seal.{is_sealed}
use Rattle.xfs_word.specs.declared.kinds.Seal.{Seal}
use Rattle.xfs_inode.specs.Files.{index_seal, remote}
use Rattle.xfs_inode.proofs.attributes.leaf_feature.Goals as goal

pub index_seal-requires : goal.index_seal-requires
index_seal-requires c = c.requires.place

pub returns-then-sealed : goal.returns-then-sealed
returns-then-sealed c =
    let v = volume_of c.args.g.now in
    let block = c.args.block.now in
    ap (λ (t : Bool). if t then Some 2 else (if is_sealed (index_seal v c.args.ino 0x3bee c.args.place) block then remote (leaf_of block) else None))
    (sym c.if-sealed.true ∙ c.sealed.ensures ∙ ap (λ (s : Seal). is_sealed s block) c.index_seal.ensures)

pub index_seal-requires-2 : goal.index_seal-requires-2
index_seal-requires-2 c = c.requires.place

pub read_leaf-requires : goal.read_leaf-requires
read_leaf-requires c = c.requires.block
