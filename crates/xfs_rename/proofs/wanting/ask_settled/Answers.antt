-- What is known is what was set apart.
use Rattle.std.proofs.Common.{◌≡◌, IfOk, sym, subst}
use Rattle.xfs_changes.specs.xfs_built.Asks.{objects_of}
use Rattle.xfs_rebuild.specs.Rebuilds.{HasNamesDue}
use Rattle.xfs_rebuild.specs.declared.names_due.NamesDue.{NamesDue}
use Rattle.xfs_rename.specs.Objects.{wanted_with}
use Rattle.xfs_rename.specs.Renames.{IsSettling}
use Rattle.xfs_rename.specs.Settled.{settled}
use Rattle.xfs_rename.specs.declared.wanting.SettledAsk.{SettledAsk}
use Rattle.xfs_rename.proofs.wanting.ask_settled.Goals as goal

pub ask_names-requires-clause-due : goal.ask_names-requires-clause-due
ask_names-requires-clause-due c = subst (HasNamesDue c.args.g.now c.args.stamp.now) (sym c.into_names.ensures) c.requires.due

pub ask_names-requires-clause-settling : goal.ask_names-requires-clause-settling
ask_names-requires-clause-settling c = subst (λ (due : NamesDue). IsSettling c.args.g.now due c.args.settling.now) (sym c.into_names.ensures) c.requires.settling

pub returns-clause-wanted : goal.returns-clause-wanted
returns-clause-wanted c =
    let t = c.args.settling.now in
    subst (λ (due : NamesDue). IfOk c.ask_names.result (λ (asked : SettledAsk). asked.wanted ≡ wanted_with c.args.g.now due t.lost t.names (objects_of t.rooms t.built)))
    c.into_names.ensures c.ask_names.ensures.wanted

pub returns-clause-kept : goal.returns-clause-kept
returns-clause-kept c =
    subst (λ (due : NamesDue). IfOk c.ask_names.result (λ (asked : SettledAsk). asked.kept ≡ settled due c.args.settling.now.lost c.args.settling.now.names)) c.into_names.ensures
    c.ask_names.ensures.kept

pub returns-clause-slots : goal.returns-clause-slots
returns-clause-slots c = subst (λ (due : NamesDue). IfOk c.ask_names.result (λ (asked : SettledAsk). asked.slots ≡ due.slots)) c.into_names.ensures c.ask_names.ensures.slots

pub returns-clause-seen : goal.returns-clause-seen
returns-clause-seen c = subst (λ (due : NamesDue). IfOk c.ask_names.result (λ (asked : SettledAsk). asked.seen ≡ due.seen)) c.into_names.ensures c.ask_names.ensures.seen

pub returns-clause-log : goal.returns-clause-log
returns-clause-log c = subst (λ (due : NamesDue). IfOk c.ask_names.result (λ (asked : SettledAsk). asked.log ≡ due.log)) c.into_names.ensures c.ask_names.ensures.log
