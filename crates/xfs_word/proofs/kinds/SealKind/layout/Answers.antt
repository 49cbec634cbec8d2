use Rattle.std.proofs.Common.{sym, subst}
use Rattle.xfs_word.specs.Seal.{IsInside, IsApart}
use Rattle.xfs_word.specs.declared.kinds.SealLayout.{SealLayout}
use Rattle.xfs_word.proofs.Layouts.{inside, apart}
use Rattle.xfs_word.proofs.kinds.SealKind.layout.Goals as goal

pub returns : goal.returns
returns c = record {
  table = c.table.ensures;
  inside = subst (λ (layout : SealLayout). IsInside layout) (sym c.table.ensures) (inside c.args.self.now);
  apart = subst (λ (layout : SealLayout). IsApart layout) (sym c.table.ensures) (apart c.args.self.now);
}
