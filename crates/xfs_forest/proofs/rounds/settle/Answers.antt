use Rattle.std.proofs.Common.{◌≡◌, length, sym, subst}
use Rattle.xfs_geom.specs.Volumes.{volume_of}
use Rattle.xfs_forest.specs.Forest.{AreGrowing}
use Rattle.xfs_forest.proofs.Forests.{all_found, in_round, listed_judged, spots_judged}
use Rattle.xfs_forest.proofs.rounds.settle.Goals as goal

pub judge_pieces-requires-clause-cells : goal.judge_pieces-requires-clause-cells
judge_pieces-requires-clause-cells g c = λ κs lives.
    in_round c.args.plants.now c.args.bank.now c.args.cells.now c.args.g.now.dblocks c.requires.cells c.requires.bank

pub join_round-requires-clause-cells : goal.join_round-requires-clause-cells
join_round-requires-clause-cells g c = λ κs lives.
    let long : length c.judge_pieces.new.cells ≡ length c.args.cells.now = c.judge_pieces.auto.cells in
    listed_judged g.K.Kind.shape (volume_of c.args.g.now) c.args.plants.now c.args.bank.now c.args.cells.now c.judge_pieces.new.cells (length c.args.plants.now) c.args.g.now.dblocks
    long c.judge_pieces.ensures c.requires.cells

pub returns-clause-grows : goal.returns-clause-grows
returns-clause-grows g c = λ image held growing.
    let shape = g.K.Kind.shape in
    let v = volume_of c.args.g.now in
    let plants = c.args.plants.now in
    let bank = c.args.bank.now in
    let olds = c.args.cells.now in
    let news = c.judge_pieces.new.cells in
    let long : length news ≡ length olds = c.judge_pieces.auto.cells in
    c.in_ok-join_round.ensures.grows image (all_found shape v image plants bank olds news (length plants) c.args.g.now.dblocks c.requires.cells long held c.judge_pieces.ensures)
    (subst (AreGrowing shape v image plants c.args.trees.now) (sym (spots_judged shape v plants bank olds news long c.judge_pieces.ensures)) growing)
