use Rattle.std.proofs.Common.{◌≡◌}
use Rattle.std.proofs.lemmas.Result.{IfErr-weaker, IfOk-weaker}
use Rattle.xfs_mkfs.specs.FilesAsked.{AreGenerated, IsAsked, IsFilesAnswer, IsProtoAnswer, IsReadByProto}
use Rattle.xfs_mkfs.specs.declared.outcome.MakeOutcome.{MakeOutcome}
use Rattle.xfs_mkfs.specs.declared.outcome.MakeOutcome.TheVariants as Out
use Rattle.xfs_mkfs.proofs.Asking.{generated_answer, generated_asked, named_answer, named_asked}
use Rattle.xfs_mkfs.proofs.files.read_files.Goals as goal

pub returns-in-Some-clause-asked : goal.returns-in-Some-clause-asked
returns-in-Some-clause-asked g c =
    let o = c.args.options.now in
    let told = g.L.Library.files c.args.files.now in
    IfOk-weaker c.generate_files.result (AreGenerated c.in-Some.count) (IsAsked o told) (λ asked are. generated_asked o told c.in-Some.count asked c.in-Some.is are)
    c.generate_files.ensures.asked

pub returns-in-Some-clause-refusal : goal.returns-in-Some-clause-refusal
returns-in-Some-clause-refusal g c =
    let o = c.args.options.now in
    let told = g.L.Library.files c.args.files.now in
    IfErr-weaker c.generate_files.result (λ (outcome : MakeOutcome). outcome ≡ Out.NoMemory) (IsFilesAnswer o told) (λ outcome is. generated_answer o told outcome is)
    c.generate_files.ensures.refusal

pub returns-in-None-clause-asked : goal.returns-in-None-clause-asked
returns-in-None-clause-asked g c =
    let o = c.args.options.now in
    let told = g.L.Library.files c.args.files.now in
    IfOk-weaker c.read_named.result (IsReadByProto o.proto told) (IsAsked o told) (λ asked read. named_asked o told asked c.in-None.is read) c.read_named.ensures.asked

pub returns-in-None-clause-refusal : goal.returns-in-None-clause-refusal
returns-in-None-clause-refusal g c =
    let o = c.args.options.now in
    let told = g.L.Library.files c.args.files.now in
    IfErr-weaker c.read_named.result (IsProtoAnswer o.proto told) (IsFilesAnswer o told) (λ outcome is. named_answer o told outcome c.in-None.is is) c.read_named.ensures.refusal
