use Rattle.std.proofs.Common.{◌≡◌, ℕ, List, sym, subst}
use Rattle.std.specs.Prelude.{Option, IfSome}
use Rattle.xfs_place.specs.declared.greatest.Greatest.{Greatest}
use Rattle.xfs_place.specs.declared.open_blocks.OpenBlocks.{OpenBlocks}
use Rattle.xfs_place.specs.declared.open_blocks.Piece.{Piece}
use Rattle.xfs_place.specs.Choice.{IsLeast}
use Rattle.xfs_place.specs.Finding.{AreCounts, Finds, HasRun, InRow, IsFront, counts_in, pair_of_piece}
use Rattle.xfs_place.specs.Greatest.{leaves_of}
use Rattle.xfs_place.specs.Objects.{piece_of}
use Rattle.xfs_place.proofs.open_blocks.OpenBlocks.piece.Goals as goal

-- the list of starts and the numbers, by what two calls give
both : (P : List ℕ → Greatest → Type 0) (xs ys : List ℕ) (g h : Greatest) → xs ≡ ys → g ≡ h → P xs g → P ys h
both P xs ys g h e f p = subst (λ (zs : List ℕ). P zs h) e (subst (P xs) f p)

pub piece_of-requires-clause-rows : goal.piece_of-requires-clause-rows
piece_of-requires-clause-rows c =
    let pool = c.args.self.now in
    both AreCounts pool.starts.items c.deref.result.now (counts_in c.args.all pool) c.counts_in.result.now (sym c.deref.ensures.value) (sym c.counts_in.ensures) (c.requires.rows.each c.args.all)

pub returns-clause-piece : goal.returns-clause-piece
returns-clause-piece c =
    let pool = c.args.self.now in
    both (λ xs g. (low : ℕ → Option ℕ) → Finds (InRow xs (leaves_of g)) low → piece_of low c.args.split c.args.blocks ≡ pair_of_piece c.piece_of.result)
    c.deref.result.now pool.starts.items c.counts_in.result.now (counts_in c.args.all pool) c.deref.ensures.value c.counts_in.ensures c.piece_of.ensures.piece

pub returns-clause-least : goal.returns-clause-least
returns-clause-least c =
    let pool = c.args.self.now in
    both (λ xs g. IfSome c.piece_of.result (λ (p : Piece). IsLeast (HasRun (InRow xs (leaves_of g)) p.blocks) p.start))
    c.deref.result.now pool.starts.items c.counts_in.result.now (counts_in c.args.all pool) c.deref.ensures.value c.counts_in.ensures c.piece_of.ensures.least

pub returns-clause-front : goal.returns-clause-front
returns-clause-front c =
    let pool = c.args.self.now in
    both (λ xs g. IfSome c.piece_of.result (λ (p : Piece). IsFront xs (leaves_of g) p))
    c.deref.result.now pool.starts.items c.counts_in.result.now (counts_in c.args.all pool) c.deref.ensures.value c.counts_in.ensures c.piece_of.ensures.front
