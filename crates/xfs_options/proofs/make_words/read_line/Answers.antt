use Rattle.std.proofs.Common.{◌≡◌, sym, ap, ◌∙◌}
use Rattle.xfs_options.proofs.MakeLines.{made_as}
use Rattle.xfs_options.specs.MakeWords.{judged_making, make_of}
use Rattle.xfs_options.proofs.make_words.read_line.Goals as goal

pub returns-in-Ok-clause-line : goal.returns-in-Ok-clause-line
returns-in-Ok-clause-line c =
    let same : make_of c.args.rest.now ≡ judged_making c.deref.result.now =
    made_as c.args.rest.now c.in-Ok.given.items c.in-Ok.ensures.given ∙ ap judged_making (sym c.deref.ensures.value) in
    rw same c.judge.ensures.line

pub returns-in-Ok-clause-refusal : goal.returns-in-Ok-clause-refusal
returns-in-Ok-clause-refusal c =
    let same : make_of c.args.rest.now ≡ judged_making c.deref.result.now =
    made_as c.args.rest.now c.in-Ok.given.items c.in-Ok.ensures.given ∙ ap judged_making (sym c.deref.ensures.value) in
    rw same c.judge.ensures.refusal
