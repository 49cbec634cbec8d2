-- What a slot reads as, from the blocks that it names as they were found.
use Rattle.std.proofs.Common.{◌≡◌, ℕ, ◌<◌, List, [], Option, Some, None, IfSome, IfOk, Result, Ok, Err, length, map, get_or, slice_get, option_map, sym, ap, subst, ◌∙◌, arith}
use Rattle.std.proofs.lemmas.List.{get_or-map}
use Rattle.xfs_collections.specs.Bank.{blocks_at}
use Rattle.xfs_disk.specs.Blocks.{Image, bytes_of_block}
use Rattle.xfs_geom.specs.Volumes.{Volume}
use Rattle.xfs_inode.specs.Files.{file_read}
use Rattle.xfs_inode.specs.Named.{named_attr, named_link, named_top, tree_below, tree_under}
use Rattle.xfs_inode.specs.Sound.{IsSound}
use Rattle.xfs_inode.specs.declared.files.FileRead.{FileRead}
use Rattle.xfs_inode.proofs.NamedBlocks.{all_named, named_tree}
use Rattle.xfs_tree.specs.Reading.{Contents}
use Rattle.xfs_word.specs.declared.extents.Extent.{Extent}
use Rattle.xfs_rounds.specs.Named.{AreFoundIn, IsNaming, StandsAt, tree_found}
use Rattle.xfs_rounds.specs.Settled.{IsReadFile}
use Rattle.xfs_rounds.specs.declared.named.NamedSlots.{NamedSlots}
use Rattle.xfs_rounds.specs.declared.named.NamingSlot.{NamingSlot}
use Rattle.xfs_rounds.specs.declared.settling.FoundBlocks.{FoundBlocks}

-- a block that is named stands in a bank that is as long as the list
pub stands_inside : (blocks : List ℕ) (bank : Image) (named at : Option ℕ) → StandsAt blocks named at → length bank ≡ length blocks → IfSome at (λ i. i < length bank)
stands_inside blocks bank None at stands long = subst (λ (o : Option ℕ). IfSome o (λ i. i < length bank)) (sym stands) tt
stands_inside blocks bank (Some block) None stands long = tt
stands_inside blocks bank (Some block) (Some at) stands long = let inside = stands.0 in omega (arith, inside, long)

-- and is the block of the image, where the bank has those of the list
found_block : (image : Image) (blocks : List ℕ) (bank : Image) (named at : Option ℕ) → StandsAt blocks named at → bank ≡ blocks_at image blocks
    → option_map (λ i. get_or bank i []) at ≡ option_map (bytes_of_block image) named
found_block image blocks bank None at stands held = ap (option_map (λ i. get_or bank i [])) stands
found_block image blocks bank (Some block) None stands held = absurd stands
found_block image blocks bank (Some block) (Some at) stands held =
    ap Some ((λ k. get_or (held k) at []) ∙ get_or-map (bytes_of_block image) blocks at 0 [] stands.0 ∙ ap (bytes_of_block image) stands.1)

read_file : (v : Volume) (named : NamedSlots) (found : FoundBlocks) (number ino : ℕ) (held : List ℕ) (slot : NamingSlot) (file : FileRead) (tree : Option (Contents Extent)) (leaf link : Option (List ℕ))
    → number < length named.slots.items → slot ≡ get_or named.slots.items number slot → IsNaming v named.leaves.items named.links.items ino held slot
    → tree ≡ tree_found slot.needs.top (slice_get found.trees.items number) → leaf ≡ option_map (λ i. get_or found.leaves i []) slot.leaf_at
    → link ≡ option_map (λ i. get_or found.links i []) slot.link_at → file ≡ file_read v ino held tree leaf link → IsSound v ino file
    → IsReadFile v (AreFoundIn v named found) ino held file
read_file v named found number ino held slot file tree leaf link inside here naming tree_is leaf_is link_is is sound = record {
  read = λ image told. all_named v image ino held file tree leaf link is
      (tree_is ∙ subst (λ (s : NamingSlot). tree_found s.needs.top (slice_get found.trees.items number) ≡ tree_below v image s.ino s.needs.top) (sym here) (told.trees number slot inside)
      ∙ ap (λ (i : ℕ). tree_below v image i slot.needs.top) naming.inode
      ∙ named_tree v image ino (named_top v ino held) slot.needs.top naming.top)
      (leaf_is ∙ found_block image named.leaves.items found.leaves slot.needs.attr_leaf slot.leaf_at naming.leaf_at told.leaves ∙ ap (option_map (bytes_of_block image)) naming.attr_leaf)
      (link_is ∙ found_block image named.links.items found.links slot.needs.link slot.link_at naming.link_at told.links ∙ ap (option_map (bytes_of_block image)) naming.link);
  sound = sound;
}

pub found_file : {E : Type 0} (v : Volume) (named : NamedSlots) (found : FoundBlocks) (number ino : ℕ) (held : List ℕ) (slot : NamingSlot) (result : Result FileRead E) (tree : Option (Contents Extent)) (leaf link : Option (List ℕ))
    → number < length named.slots.items → slot ≡ get_or named.slots.items number slot → IsNaming v named.leaves.items named.links.items ino held slot
    → tree ≡ tree_found slot.needs.top (slice_get found.trees.items number) → leaf ≡ option_map (λ i. get_or found.leaves i []) slot.leaf_at
    → link ≡ option_map (λ i. get_or found.links i []) slot.link_at → IfOk result (λ file. file ≡ file_read v ino held tree leaf link) → IfOk result (IsSound v ino)
    → IfOk result (IsReadFile v (AreFoundIn v named found) ino held)
found_file v named found number ino held slot (Ok file) tree leaf link inside here naming tree_is leaf_is link_is is sound =
    read_file v named found number ino held slot file tree leaf link inside here naming tree_is leaf_is link_is is sound
found_file v named found number ino held slot (Err error) tree leaf link inside here naming tree_is leaf_is link_is is sound = tt
