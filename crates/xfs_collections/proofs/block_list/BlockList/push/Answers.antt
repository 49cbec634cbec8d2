use Rattle.std.proofs.Common.{◌≡◌, ℕ, List, map, take, drop, length, arith, ap, subst, sym, ◌∙◌}
use Rattle.std.specs.List.{All}
use Rattle.xfs_collections.specs.Pieces.{HasBlock, block_of}
use Rattle.xfs_collections.specs.declared.piece.Piece.{Piece}
use Rattle.xfs_collections.proofs.Lists.{more_inside, one_more, whole_block}
use Rattle.xfs_collections.proofs.block_list.BlockList.push.Goals as goal

pub invariant_of-self-2 : goal.invariant_of-self-2
invariant_of-self-2 c =
    let p : Piece = record { bytes = c.in_ok-bytes.bytes; at = 0 } in
    let is : c.in_ok-bytes.bytes ≡ c.args.block.now = c.in_ok-bytes.ensures ∙ c.in_ok-from_slice.ensures.items in
    subst (λ (ps : List Piece). All HasBlock ps) (sym c.in_ok-push.ensures.items)
    (more_inside c.self.inside.pieces.items p c.self.invariant (omega (arith, ap length is, c.requires.whole)))

pub returns : goal.returns
returns c =
    let p : Piece = record { bytes = c.in_ok-bytes.bytes; at = 0 } in
    let is : c.in_ok-bytes.bytes ≡ c.args.block.now = c.in_ok-bytes.ensures ∙ c.in_ok-from_slice.ensures.items in
    ap (map block_of) c.in_ok-push.ensures.items
    ∙ one_more c.self.inside.pieces.items p c.args.self.now c.args.block.now c.self.view_is (ap (λ (b : List ℕ). take 4096 (drop 0 b)) is ∙ whole_block c.args.block.now c.requires.whole)
