use Rattle.std.proofs.Common.{◌≤◌, sym, ap, ◌∙◌, arith, rules}
use Rattle.xfs_log.specs.BlankLog.{blank_seen}
use Rattle.xfs_log.proofs.BlankSectors.{header_says, data_says, rest_says}
use Rattle.xfs_log.proofs.blank.blank_log_sector.Goals as goal

pub returns-in-0-clause-seen : goal.returns-in-0-clause-seen
returns-in-0-clause-seen c =
    header_says c.args.cycle c.args.uuid.now c.put_header.new.sector (λ k. omega (arith, c.type_inv.sector k)) c.put_header.ensures
    ∙ ap (blank_seen c.args.cycle) (sym c.in-0.is)

pub returns-in-1-clause-seen : goal.returns-in-1-clause-seen
returns-in-1-clause-seen c =
    data_says c.args.cycle c.put_data.new.sector c.requires.few (λ k. omega (arith, c.type_inv.sector k)) c.put_data.ensures
    ∙ ap (blank_seen c.args.cycle) (sym c.in-1.is)

pub returns-in_default-clause-seen : goal.returns-in_default-clause-seen
returns-in_default-clause-seen c =
    let late : 2 ≤ c.args.index = search rules in
    rest_says c.args.cycle c.args.index c.put_rest.new.sector c.requires.few late c.put_rest.ensures
