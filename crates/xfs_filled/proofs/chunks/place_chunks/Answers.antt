use Rattle.std.proofs.Common.{◌∙◌, ap, length, take, refl}
use Rattle.std.proofs.lemmas.Result.{IfOk-from_err}
use Rattle.xfs_place.specs.Chunks.{asked_rooms}
use Rattle.xfs_place.specs.declared.chunk_search.ChunkAsk.{ChunkAsk}
use Rattle.xfs_filled.proofs.Asked.{chunks_lacking, rooms_found, starts_are}
use Rattle.xfs_filled.proofs.chunks.place_chunks.Goals as goal

pub returns-in-Ok-clause-starts : goal.returns-in-Ok-clause-starts
returns-in-Ok-clause-starts c =
    let ask = c.in_ok-ask.ask in
    c.chunks_placed.ensures.starts ∙ c.in-Ok.ensures.starts ∙ starts_are c.args.g.now c.args.files (take ask.count (asked_rooms ask)) ask c.in_ok-ask.ensures refl

pub returns-in-Ok-clause-enough : goal.returns-in-Ok-clause-enough
returns-in-Ok-clause-enough c =
    ap length c.chunks_placed.ensures.starts
    ∙ (rooms_found c.args.g.now c.args.files c.in_ok-ask.ask c.in-Ok.starts.items c.in_ok-ask.ensures c.in-Ok.ensures.starts c.in-Ok.ensures.all).0

pub returns-in-Ok-clause-room : goal.returns-in-Ok-clause-room
returns-in-Ok-clause-room c =
    (rooms_found c.args.g.now c.args.files c.in_ok-ask.ask c.in-Ok.starts.items c.in_ok-ask.ensures c.in-Ok.ensures.starts c.in-Ok.ensures.all).1

pub returns-in-Ok-clause-spared : goal.returns-in-Ok-clause-spared
returns-in-Ok-clause-spared c = c.chunks_placed.ensures.spared ∙ ap (λ (a : ChunkAsk). a.spared_from) c.in_ok-ask.ensures

pub returns-in-Err-clause-cause : goal.returns-in-Err-clause-cause
returns-in-Err-clause-cause c = chunks_lacking c.args.g.now c.args.files c.in_ok-ask.ask c.in-Err.fault c.in_ok-ask.ensures c.in-Err.ensures.cause

pub returns-in_err-ask-clause-starts : goal.returns-in_err-ask-clause-starts
returns-in_err-ask-clause-starts c = IfOk-from_err c.from_residual.result _ c.from_residual.ensures.0

pub returns-in-Err-clause-starts : goal.returns-in-Err-clause-starts
returns-in-Err-clause-starts c = tt

pub returns-in_err-ask-clause-enough : goal.returns-in_err-ask-clause-enough
returns-in_err-ask-clause-enough c = IfOk-from_err c.from_residual.result _ c.from_residual.ensures.0

pub returns-in-Err-clause-enough : goal.returns-in-Err-clause-enough
returns-in-Err-clause-enough c = tt

pub returns-in_err-ask-clause-room : goal.returns-in_err-ask-clause-room
returns-in_err-ask-clause-room c = IfOk-from_err c.from_residual.result _ c.from_residual.ensures.0

pub returns-in-Err-clause-room : goal.returns-in-Err-clause-room
returns-in-Err-clause-room c = tt

pub returns-in_err-ask-clause-spared : goal.returns-in_err-ask-clause-spared
returns-in_err-ask-clause-spared c = IfOk-from_err c.from_residual.result _ c.from_residual.ensures.0

pub returns-in-Err-clause-spared : goal.returns-in-Err-clause-spared
returns-in-Err-clause-spared c = tt

pub returns-in-Ok-clause-cause : goal.returns-in-Ok-clause-cause
returns-in-Ok-clause-cause c = tt
