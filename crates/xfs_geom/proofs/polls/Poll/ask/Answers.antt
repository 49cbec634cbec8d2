use Rattle.std.proofs.Common.{◌^◌, ◌<◌, Result, Ok, Err, OnOk, ap, ◌∙◌, arith}
use Rattle.xfs_geom.specs.Volumes.{volume_of}
use Rattle.xfs_geom.proofs.Counting.{has_room, poll_asked, poll_passed}
use Rattle.xfs_geom.proofs.polls.Poll.ask.Goals as goal

both_ok : {T E P Q R : Type 0} (r : Result T E) → (P → Q → R) → OnOk r P → OnOk r Q → OnOk r R
both_ok (Ok x) f p q = f p q
both_ok (Err e) f p q = tt

pub count-requires : goal.count-requires
count-requires c =
    let short : c.args.place < 2 ^ 64 = omega arith in
    has_room c.args.blocks c.args.place c.requires.polled.0 c.args.self.now c.new.result.geometry short c.requires.polled.1

pub returns-in-Ok : goal.returns-in-Ok
returns-in-Ok c =
    both_ok c.count.result
    (λ tallies leader votes is.
    poll_asked c.args.blocks c.args.place c.args.sector.now votes c.args.self.now c.count.new.self c.new.result c.new.ensures.from c.new.ensures.sector
    (ap volume_of c.new.ensures.geometry ∙ c.in-Ok.ensures.stated) c.in-Ok.ensures.accepted tallies leader is)
    c.count.ensures.tally c.count.ensures.leader

pub returns-in-Err : goal.returns-in-Err
returns-in-Err c = λ votes is.
    poll_passed c.args.blocks c.args.place c.args.sector.now c.in-Err.field-0 votes c.args.self.now c.in-Err.ensures.refused is
