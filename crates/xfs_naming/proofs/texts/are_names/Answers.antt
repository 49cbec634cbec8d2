use Rattle.std.proofs.Common.{Bool, ◌&&◌, get_or, refl, sym, ap, ◌∙◌}
use Rattle.std.specs.List.{list_all}
use Rattle.std.proofs.lemmas.List.{take_all}
use Rattle.std.proofs.lemmas.List.Folds.{list_all_more, list_all_at}
use Rattle.xfs_dirdata.specs.declared.records.EntryRec.{EntryRec}
use Rattle.xfs_volume.specs.Names.{is_name}
use Rattle.xfs_naming.proofs.texts.are_names.Goals as goal

pub loop-entry-init : goal.loop-entry-init
loop-entry-init c = refl

pub loop-entry-preserved : goal.loop-entry-preserved
loop-entry-preserved c =
    let p = λ (e : EntryRec). is_name e.name in
    let own = c.args.own.now in
    let i = c.loop-entry.entry-index in
    let entry = c.entry-item.result in
    list_all_more p own i entry c.loop-entry-test.true ∙ ap (λ (t : Bool). t && p (get_or own i entry)) c.loop-entry.invariant
    ∙ (ap p (sym c.entry-item.is) ∙ (sym (c.is_name.ensures ∙ ap is_name c.bytes.ensures) ∙ c.if-not-is_name.false))

pub returns-then-not-is_name : goal.returns-then-not-is_name
returns-then-not-is_name c =
    let p = λ (e : EntryRec). is_name e.name in
    sym (list_all_at p c.args.own.now c.loop-entry.entry-index c.entry-item.result c.loop-entry-test.true
    (ap p (sym c.entry-item.is) ∙ (sym (c.is_name.ensures ∙ ap is_name c.bytes.ensures) ∙ c.if-not-is_name.true)))

pub returns : goal.returns
returns c =
    let p = λ (e : EntryRec). is_name e.name in
    sym (ap (list_all p) (sym (take_all c.loop-entry.entry-index c.args.own.now c.loop-entry-test.false)) ∙ c.loop-entry.invariant)
