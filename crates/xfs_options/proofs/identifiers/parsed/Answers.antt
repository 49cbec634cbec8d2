use Rattle.std.proofs.Common.{◌≡◌, Bool, true, false, sym}
use Rattle.uuid.specs.Text.{parsed}
use Rattle.xfs_options.proofs.Ascii.{none_of}
use Rattle.xfs_options.proofs.identifiers.parsed.Goals as goal

pub returns-in-Err : goal.returns-in-Err
returns-in-Err c =
    sym (none_of (parsed c.args.text.now) (λ found. let never : false ≡ true = c.in-Err.ensures.ok.1 found in cc))
