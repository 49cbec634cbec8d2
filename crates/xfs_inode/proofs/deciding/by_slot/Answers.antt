use Rattle.std.proofs.Common.{◌≡◌, IfOk, option_map, sym, ap, subst, ◌∙◌}
use Rattle.std.specs.Option.{option_copied}
use Rattle.xfs_geom.specs.Volumes.{volume_of}
use Rattle.xfs_inode.specs.Files.{by_slot, contents_of, file_read}
use Rattle.xfs_inode.specs.declared.reading.SlotRead.{SlotRead}
use Rattle.xfs_inode.proofs.deciding.by_slot.Goals as goal

pub used_file-requires : goal.used_file-requires
used_file-requires c = record { slot = c.requires.slot; attr_leaf = c.requires.attr_leaf; link = c.requires.link }

pub returns-in-Unsound : goal.returns-in-Unsound
unfolding file_read
returns-in-Unsound c =
    let a = c.args in
    ap (λ (r : SlotRead). by_slot (volume_of a.g.now) a.ino r a.slot.now (option_map contents_of (option_copied a.tree)) (option_copied a.attr_leaf) (option_copied a.link))
    (sym c.in-Unsound.is ∙ c.requires.read)

pub returns-in-Free : goal.returns-in-Free
unfolding file_read
returns-in-Free c =
    let a = c.args in
    ap (λ (r : SlotRead). by_slot (volume_of a.g.now) a.ino r a.slot.now (option_map contents_of (option_copied a.tree)) (option_copied a.attr_leaf) (option_copied a.link))
    (sym c.in-Free.is ∙ c.requires.read)

pub returns-in-Unsupported : goal.returns-in-Unsupported
unfolding file_read
returns-in-Unsupported c =
    let a = c.args in
    ap (λ (r : SlotRead). by_slot (volume_of a.g.now) a.ino r a.slot.now (option_map contents_of (option_copied a.tree)) (option_copied a.attr_leaf) (option_copied a.link))
    (sym c.in-Unsupported.is ∙ c.requires.read)

pub returns-in-InUse : goal.returns-in-InUse
unfolding file_read
returns-in-InUse c =
    let a = c.args in
    subst (λ (r : SlotRead). IfOk c.used_file.result (λ file. file
    ≡ by_slot (volume_of a.g.now) a.ino r a.slot.now (option_map contents_of (option_copied a.tree)) (option_copied a.attr_leaf) (option_copied a.link)))
    (sym c.in-InUse.is ∙ c.requires.read) c.used_file.ensures
