use Rattle.std.proofs.Common.{List, inl, refl, subst}
use Rattle.xfs_dirdata.specs.declared.records.EntryRec.{EntryRec}
use Rattle.xfs_links.specs.Entries.{AreEntries}
use Rattle.xfs_rename.proofs.SettledNames.{decided_is}
use Rattle.xfs_rename.proofs.settling.settle_files.Goals as goal

pub connect-requires-clause-files : goal.connect-requires-clause-files
connect-requires-clause-files c = c.can_connect.ensures.files c.if-not-can_connect.false

pub connect-requires-clause-entries : goal.connect-requires-clause-entries
connect-requires-clause-entries c = c.can_connect.ensures.entries c.if-not-can_connect.false

pub connect-requires-clause-root : goal.connect-requires-clause-root
connect-requires-clause-root c = c.can_connect.ensures.root c.if-not-can_connect.false

pub settle_decided-requires-clause-due : goal.settle_decided-requires-clause-due
settle_decided-requires-clause-due c = c.requires.due

pub settle_decided-requires-clause-decided : goal.settle_decided-requires-clause-decided
settle_decided-requires-clause-decided c =
    let is = c.in-Ok.ensures in
    let can = c.can_connect.ensures in
    let nodes = c.args.nodes.now in
    record {
      nodes' = c.requires.nodes;
      files' = can.files c.if-not-can_connect.false;
      listed = subst (λ (es : List EntryRec). AreEntries nodes es) c.as_slice-entries.ensures (can.entries c.if-not-can_connect.false);
      root' = can.root c.if-not-can_connect.false;
      decided = decided_is nodes nodes c.as_slice-entries.result.now c.args.due.now.entries c.args.g.now.rootino c.in-Ok.decided
          refl c.as_slice-entries.ensures is.entries is.parents is.orphans is.lost;
    }

pub returns-then-not-can_connect : goal.returns-then-not-can_connect
returns-then-not-can_connect c = record { settled = tt; cause = inl refl }

pub returns-in-Ok : goal.returns-in-Ok
returns-in-Ok c = let is = c.settle_decided.ensures in record { settled = is.settled; cause = is.cause }

pub returns-in-Err : goal.returns-in-Err
returns-in-Err c = record { settled = tt; cause = inl refl }
