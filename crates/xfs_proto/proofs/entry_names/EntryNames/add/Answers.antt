use Rattle.std.proofs.Common.{cond, true, ◌∙◌, ap, ◌==◌, ◌&&◌, ◌||◌, Bool, ◌≡◌, refl, false}
use Rattle.std.specs.Str.{bytes_eq}
use Rattle.xfs_proto.proofs.Names.{names_tied}
use Rattle.xfs_proto.specs.EntryNames.{is_entry_name}
use Rattle.xfs_proto.proofs.entry_names.EntryNames.add.Goals as goal

picked : (p q : Bool) → cond p true q ≡ (p || q)
picked true q = refl
picked false q = refl

pub returns : goal.returns
returns c d q = c.in_ok-insert.ensures.updates.0 (d, record { ref_ptr = (0, 0); now = q })
    ∙ ap (λ r. cond r true (is_entry_name c.args.self.now d q)) (names_tied c.args.directory d c.args.name (record { ref_ptr = (0, 0); now = q }))
    ∙ picked (c.args.directory == d && bytes_eq c.args.name.now q) (is_entry_name c.args.self.now d q)
