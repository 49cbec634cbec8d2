use Rattle.std.proofs.Common.{ℕ, List, nat_le, count_by, ◌∙◌, ap}
use Rattle.xfs_dirs.proofs.OnlyLeaf.{other_form}
use Rattle.xfs_dirs.proofs.whole_forms.is_leaf.Goals as goal

pub returns-then-beyond-ne1 : goal.returns-then-beyond-ne1
returns-then-beyond-ne1 c =
    let seen = c.args.seen.now in
    other_form seen.dir seen.size seen.offsets.items _ c.requires.mapped
    (λ one. c.if-beyond-ne1.true (c.beyond.ensures ∙ (ap (λ (os : List ℕ). count_by (nat_le 0x800000) os) c.deref.ensures.value ∙ one)))
