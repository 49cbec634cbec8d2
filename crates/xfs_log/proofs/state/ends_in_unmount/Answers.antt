use Rattle.std.proofs.Common.{◌≡◌, Bool, ◌&&◌, Some, None, sym, ap, ◌∙◌}
use Rattle.xfs_log.specs.Log.{all_sectors, nearest_header, is_last, ends_at}
use Rattle.xfs_log.proofs.Zeros.{nearest_listed}
use Rattle.xfs_log.proofs.state.ends_in_unmount.Goals as goal

pub returns-then-is_unmount : goal.returns-then-is_unmount
returns-then-is_unmount c =
    let all = all_sectors c.args.seen.now c.args.sectors in
    let nearest : nearest_header all c.args.head ≡ Some c.in-Some.start = nearest_listed c.args.seen.now c.args.sectors c.args.head c.requires.inside ∙ sym c.nearest_header.ensures.value ∙ c.in-Some.is in
    c.ends_at.ensures ∙ ap (λ (b : Bool). b && ends_at all c.in-Some.start c.args.head) (sym (sym c.is_unmount.ensures ∙ c.if-is_unmount.true)) ∙ ap (λ o. is_last all c.args.head o) (sym nearest)

pub returns-else-is_unmount : goal.returns-else-is_unmount
returns-else-is_unmount c =
    let all = all_sectors c.args.seen.now c.args.sectors in
    let nearest : nearest_header all c.args.head ≡ Some c.in-Some.start = nearest_listed c.args.seen.now c.args.sectors c.args.head c.requires.inside ∙ sym c.nearest_header.ensures.value ∙ c.in-Some.is in
    c.if-is_unmount.false ∙ ap (λ (b : Bool). b && ends_at all c.in-Some.start c.args.head) (sym (sym c.is_unmount.ensures ∙ c.if-is_unmount.false)) ∙ ap (λ o. is_last all c.args.head o) (sym nearest)

pub returns-in-None : goal.returns-in-None
returns-in-None c =
    let all = all_sectors c.args.seen.now c.args.sectors in
    let nearest : nearest_header all c.args.head ≡ None = nearest_listed c.args.seen.now c.args.sectors c.args.head c.requires.inside ∙ sym c.nearest_header.ensures.value ∙ c.in-None.is in
    ap (λ o. is_last all c.args.head o) (sym nearest)
