use Rattle.std.proofs.Common.{◌≡◌, Bool, true, ◌&&◌, ◌+◌, List, take, get_or, sym, ap, ◌∙◌, subst, arith}
use Rattle.std.specs.List.{list_all}
use Rattle.std.proofs.lemmas.List.{take_all}
use Rattle.std.proofs.lemmas.List.Folds.{list_all_more, list_all_at}
use Rattle.xfs_dirdata.specs.declared.records.EntryRec.{EntryRec}
use Rattle.xfs_naming.specs.Naming.{has_target, has_type}
use Rattle.xfs_naming.proofs.directories.have_targets.Goals.{then-right, else-right}
use Rattle.xfs_naming.proofs.directories.have_targets.Goals as goal

pub returns-then-not-has_target-clause-targets : goal.returns-then-not-has_target-clause-targets
returns-then-not-has_target-clause-targets c =
    let p = has_target c.args.names.now.root c.args.names.now.files.now in
    sym (list_all_at p c.args.own.now c.loop-entry.entry-index c.entry-item.result c.loop-entry-test.true
    (ap p (sym c.entry-item.is) ∙ sym c.has_target.ensures ∙ c.if-not-has_target.true))

pub loop-entry-preserved : goal.loop-entry-preserved
loop-entry-preserved c =
    let own = c.args.own.now in
    let i = c.loop-entry.entry-index in
    let entry = c.entry-item.result in
    let p = has_target c.args.names.now.root c.args.names.now.files.now in
    let q = has_type c.args.names.now.files.now in
    let typed : c.if-right.right ≡ list_all q (take (i + 1) own) =
    elim c.if-right.branch [
      | then-right w ↦ w.right-is ∙ w.has_type-right.ensures ∙ ap q c.entry-item.is
          ∙ sym (list_all_more q own i entry c.loop-entry-test.true ∙ ap (λ (t : Bool). t && q (get_or own i entry)) (sym c.loop-entry.invariant.1 ∙ w.if-right.true))
      | else-right w ↦ w.right-is ∙ w.if-right.false
          ∙ sym (list_all_more q own i entry c.loop-entry-test.true ∙ ap (λ (t : Bool). t && q (get_or own i entry)) (sym c.loop-entry.invariant.1 ∙ w.if-right.false))
    ] in (
      list_all_more p own i entry c.loop-entry-test.true ∙ ap (λ (t : Bool). t && p (get_or own i entry)) c.loop-entry.invariant.0
          ∙ ap p (sym c.entry-item.is) ∙ sym c.has_target.ensures ∙ c.if-not-has_target.false,
      typed,
    )

pub returns-clause-targets : goal.returns-clause-targets
returns-clause-targets c =
    let p = has_target c.args.names.now.root c.args.names.now.files.now in
    sym (ap (list_all p) (sym (take_all c.loop-entry.entry-index c.args.own.now c.loop-entry-test.false)) ∙ c.loop-entry.invariant.0)

pub returns-clause-types : goal.returns-clause-types
returns-clause-types c = λ _.
    c.loop-entry.invariant.1 ∙ ap (list_all (has_type c.args.names.now.files.now)) (take_all c.loop-entry.entry-index c.args.own.now c.loop-entry-test.false)
