use Rattle.std.proofs.Common.{sym, subst, ◌∙◌}
use Rattle.std.specs.List.Sorted.{IsNonDecreasingBy}
use Rattle.std.proofs.lemmas.Result.{IfOk-weaker}
use Rattle.xfs_naming.specs.declared.kinds.FileKind.{FileKind}
use Rattle.xfs_naming.specs.Ordered.{AreOrdered}
use Rattle.xfs_naming.proofs.Order.{ordered, kinds_rise}
use Rattle.xfs_naming.proofs.Worded.{lawful_names}
use Rattle.xfs_naming.proofs.Judged.{judged_names}
use Rattle.xfs_naming.proofs.checks.check_names.Goals as goal

pub walk-requires-clause-ordered : goal.walk-requires-clause-ordered
walk-requires-clause-ordered c = record {
  lists = subst (AreOrdered c.args.root c.args.files.now c.args.entries.now c.args.dirs.now) (sym c.as_slice-2.ensures.value)
      (ordered c.args.root c.args.files.now c.args.entries.now c.args.dirs.now c.in_ok-links.links.items c.requires.named c.requires.low c.in_ok-links.ensures.rise c.in_ok-links.ensures.linked);
  ascend = c.requires.named.files_ascend;
  by_kind = subst (IsNonDecreasingBy (λ (k : FileKind). k.ino)) (sym (c.as_slice.ensures.value ∙ c.in_ok-kinds.ensures)) (kinds_rise c.args.files.now c.requires.named.files_ascend);
  kinds = c.as_slice.ensures.value ∙ c.in_ok-kinds.ensures;
}

pub first_law-requires-clause-ordered : goal.first_law-requires-clause-ordered
first_law-requires-clause-ordered c = record {
  lists = subst (AreOrdered c.args.root c.args.files.now c.args.entries.now c.args.dirs.now) (sym c.as_slice-2.ensures.value)
      (ordered c.args.root c.args.files.now c.args.entries.now c.args.dirs.now c.in_ok-links.links.items c.requires.named c.requires.low c.in_ok-links.ensures.rise c.in_ok-links.ensures.linked);
  ascend = c.requires.named.files_ascend;
  by_kind = subst (IsNonDecreasingBy (λ (k : FileKind). k.ino)) (sym (c.as_slice.ensures.value ∙ c.in_ok-kinds.ensures)) (kinds_rise c.args.files.now c.requires.named.files_ascend);
  kinds = c.as_slice.ensures.value ∙ c.in_ok-kinds.ensures;
}

pub returns-in-Ok-clause-lawful : goal.returns-in-Ok-clause-lawful
returns-in-Ok-clause-lawful c =
    IfOk-weaker c.first_law.result _ _
    (λ law is. (
      (λ none. lawful_names c.args.root c.args.files.now c.args.entries.now c.args.dirs.now c.requires.named (sym is ∙ none)),
      (λ says. is ∙ judged_names c.args.root c.args.files.now c.args.entries.now c.args.dirs.now c.requires.named c.in-Ok.ensures.ways says),
    ))
    c.first_law.ensures
