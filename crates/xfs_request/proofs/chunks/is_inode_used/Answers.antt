use Rattle.std.proofs.Common.{ℕ, Bool, ◌||◌, List, sym, ap, ◌∙◌}
use Rattle.xfs_disk.specs.Lists.{is_among}
use Rattle.xfs_naming.specs.Naming.{is_in_use}
use Rattle.xfs_request.proofs.Numbers.{used_by}
use Rattle.xfs_request.proofs.chunks.is_inode_used.Goals as goal

pub returns-then-is_in_use : goal.returns-then-is_in_use
returns-then-is_in_use c =
    let kept = c.args.kept.now in
    let same = c.is_in_use.ensures ∙ used_by kept.files c.args.used.now c.args.ino c.requires.used in
    c.if-is_in_use.true ∙ sym (ap (λ (t : Bool). t || is_among kept.fresh c.args.ino) (sym same ∙ c.if-is_in_use.true))

pub returns-else-is_in_use : goal.returns-else-is_in_use
returns-else-is_in_use c =
    let kept = c.args.kept.now in
    let same = c.is_in_use.ensures ∙ used_by kept.files c.args.used.now c.args.ino c.requires.used in
    c.is_one_of.ensures ∙ ap (λ (ns : List ℕ). is_among ns c.args.ino) c.as_slice.ensures
    ∙ sym (ap (λ (t : Bool). t || is_among kept.fresh c.args.ino) (sym same ∙ c.if-is_in_use.false))
