-- What most files have nothing of.
use Rattle.std.specs.Prelude.{ℕ, List, [], Option, Some, None, Box}
use Rattle.std.specs.declared.alloc.Global.{Global}
use Rattle.xfs_word.specs.declared.extents.Extent.{Extent}
use Rattle.xfs_attr.specs.declared.attributes.Attr.{Attr}
use Rattle.xfs_volume.specs.declared.rest.Parts.{Parts}

-- the extents of the attributes, the blocks of the tree of extents, the attributes, the target of a symbolic link, and the number of
-- a device
pub record RestOf : Type 0 where
  pub attr_extents : List Extent
  pub tree : List ℕ
  pub attrs : List Attr
  pub target : List ℕ
  pub device : ℕ

-- of a file that has none of it
abbrev pub no_rest : RestOf
no_rest = record { attr_extents = []; tree = []; attrs = []; target = []; device = 0 }

-- by its parts
abbrev pub parts_of : Parts → RestOf
parts_of parts = record {
  attr_extents = parts.attr_extents.items;
  tree = parts.tree.items;
  attrs = parts.attrs.items;
  target = parts.target.items;
  device = parts.device;
}

abbrev pub rest_of : Option (Box Parts Global) → RestOf
rest_of None = no_rest
rest_of (Some parts) = parts_of parts.value
