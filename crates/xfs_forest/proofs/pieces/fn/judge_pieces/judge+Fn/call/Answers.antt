use Rattle.xfs_forest.proofs.pieces.fn.judge_pieces.judge+Fn.call.Goals as goal

pub judge-requires : goal.judge-requires
judge-requires g c = let r = c.requires.1.1.1.1 in (r.1.0, (r.1.1, (r.1.2, (r.1.3, (r.1.4, (r.1.5, r.0))))))
