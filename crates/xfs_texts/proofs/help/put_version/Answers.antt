use Rattle.std.proofs.Common.{ap, sym, ◌++◌, codes}
use Rattle.xfs_texts.proofs.Telling.{puts_as, puts_then}
use Rattle.xfs_texts.proofs.help.put_version.Goals as goal

pub returns : goal.returns
returns g c =
    puts_as _ _ _ _ _ _ _ (sym (ap (λ name. name ++ codes " version 0.5\n") c.called_by.ensures))
    (puts_then _ _ _ _ _ _ _ _ _ _ c.in-Ok.ensures c.put_text-2.ensures)
