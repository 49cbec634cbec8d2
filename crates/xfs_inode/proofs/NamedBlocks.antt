-- The blocks that a slot names, as they are read, give what it reads as.
use Rattle.std.proofs.Common.{◌≡◌, ℕ, List, Option, Some, None, IfSome, option_map, refl, sym, ap, ◌∙◌}
use Rattle.xfs_disk.specs.Blocks.{Image, bytes_of_block}
use Rattle.xfs_word.specs.declared.extents.Extent.{Extent}
use Rattle.xfs_geom.specs.Volumes.{Volume}
use Rattle.xfs_tree.specs.Reading.{Contents, reading}
use Rattle.xfs_tree.specs.Seats.{seats_of}
use Rattle.xfs_tree.specs.declared.frontier.Frontier.{Frontier}
use Rattle.xfs_kinds.specs.FileTrees.{bmbt_shape}
use Rattle.xfs_kinds.specs.declared.file_trees.Bmbt.{Bmbt}
use Rattle.xfs_inode.specs.declared.files.FileRead.{FileRead}
use Rattle.xfs_inode.specs.Forks.{Top}
use Rattle.xfs_inode.specs.Files.{file_read}
use Rattle.xfs_inode.specs.Named.{IsTopNamed, held_by, named_attr, named_link, named_top, slot_reads, tree_below, tree_under}

-- what reads from the run of blocks that is named
pub named_tree : (v : Volume) (image : Image) (ino : ℕ) (top : Option Top) (f : Option (Frontier Bmbt Extent ℕ)) → IsTopNamed top f
    → tree_below v image ino f ≡ tree_under v image ino top
named_tree v image ino top None none = sym (ap (tree_under v image ino) none)
named_tree v image ino top (Some f) named =
    ap (λ (highs : List ℕ). held_by (reading (bmbt_shape ino) v image (seats_of f.places.items f.lows.items highs) f.level)) named.no_highs
    ∙ sym (ap (tree_under v image ino) named.named)

-- the bytes of a block that is named
pub named_bytes : (image : Image) (named : Option ℕ) (block : List ℕ) → IfSome named (λ place. bytes_of_block image place ≡ block)
    → option_map (λ (place : ℕ). block) named ≡ option_map (bytes_of_block image) named
named_bytes image None block held = refl
named_bytes image (Some place) block held = ap (λ (bytes : List ℕ). Some bytes) (sym held)

pub all_named : (v : Volume) (image : Image) (ino : ℕ) (slot : List ℕ) (read : FileRead) (tree : Option (Contents Extent)) (attr_leaf link : Option (List ℕ))
    → read ≡ file_read v ino slot tree attr_leaf link
    → tree ≡ tree_under v image ino (named_top v ino slot)
    → attr_leaf ≡ option_map (bytes_of_block image) (named_attr v ino slot)
    → link ≡ option_map (bytes_of_block image) (named_link v ino slot)
    → read ≡ slot_reads v image ino slot
all_named v image ino slot read tree attr_leaf link settled one two three =
    settled
    ∙ ap (λ (t : Option (Contents Extent)). file_read v ino slot t attr_leaf link) one
    ∙ ap (λ (a : Option (List ℕ)). file_read v ino slot (tree_under v image ino (named_top v ino slot)) a link) two
    ∙ ap (λ (l : Option (List ℕ)). file_read v ino slot (tree_under v image ino (named_top v ino slot)) (option_map (bytes_of_block image) (named_attr v ino slot)) l) three
