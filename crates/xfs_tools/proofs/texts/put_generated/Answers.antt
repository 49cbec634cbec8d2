use Rattle.std.proofs.Common.{ℕ, [], ◌∷◌, ap, codes, sym}
use Rattle.xfs_texts.proofs.Telling.{puts_as}
use Rattle.xfs_texts.specs.Lines.{line}
use Rattle.xfs_texts.specs.declared.lines.Number.TheVariants.{Decimal}
use Rattle.xfs_tools.proofs.texts.put_generated.Goals as goal

pub returns : goal.returns
returns g c =
    puts_as _ _ _ _ _ _ _
    (ap (λ (n : ℕ). line ((codes "generated: files=", Decimal c.args.files) ∷ (codes " directories=", Decimal n) ∷ []) (codes "\n")) (sym c.directory_count.ensures))
    c.put_two.ensures
