use Rattle.std.proofs.Common.{◌%◌, ◌^◌, List, [], ◌∷◌, codes, ap, sym, ◌∙◌}
use Rattle.xfs_texts.specs.Explaining.{user_text}
use Rattle.xfs_texts.specs.Lines.{line}
use Rattle.xfs_texts.specs.declared.lines.Number.TheVariants.{Large}
use Rattle.xfs_texts.proofs.Telling.{puts_as}
use Rattle.xfs_texts.proofs.pieces.put_user.Goals as goal

pub returns-in-None : goal.returns-in-None
returns-in-None g c =
    puts_as _ _ _ _ _ _ _ (ap (user_text c.args.owner) (sym c.inode_in.ensures ∙ c.in-None.is) ∙ sym (ap (line []) c.owner_name.ensures)) c.put_line.ensures

pub returns-in-Some : goal.returns-in-Some
returns-in-Some g c =
    puts_as _ _ _ _ _ _ _
    (ap (user_text c.args.owner) (sym c.inode_in.ensures ∙ c.in-Some.is)
    ∙ sym (λ i. line ((codes "inode ", Large c.in-Some.ino) ∷ (c.fork_name.ensures i, Large (c.args.owner % 2 ^ 61)) ∷ []) (c.written_name.ensures i)))
    c.put_line-in-Some.ensures
