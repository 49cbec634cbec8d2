use Rattle.std.proofs.Common.{◌≡◌, List, ℕ, sym, ap, ◌∙◌}
use Rattle.xfs_inode.specs.Cores.{stated_core}
use Rattle.xfs_inode.specs.Private.Parts.{front_of, middle_of, back_of, joined_core}
use Rattle.xfs_inode.specs.declared.cores.Front.{Front}
use Rattle.xfs_inode.specs.declared.cores.Middle.{Middle}
use Rattle.xfs_inode.specs.declared.cores.Back.{Back}
use Rattle.xfs_inode.proofs.cores.stated.Goals as goal

pub returns : goal.returns
returns c =
    let core = stated_core c.args.slot.now in
    let front = front_of core in
    let middle = middle_of core in
    c.joined.ensures
    ∙ ap (λ (f : Front). joined_core f c.stated_middle-middle.result c.stated_back-back.result c.stated_uuid.result) c.stated_front-front.ensures
    ∙ ap (λ (m : Middle). joined_core front m c.stated_back-back.result c.stated_uuid.result) c.stated_middle-middle.ensures
    ∙ ap (λ (b : Back). joined_core front middle b c.stated_uuid.result) c.stated_back-back.ensures
    ∙ ap (joined_core front middle (back_of core)) c.stated_uuid.ensures
