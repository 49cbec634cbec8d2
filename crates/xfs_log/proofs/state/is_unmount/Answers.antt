use Rattle.std.proofs.Common.{◌≡◌, ◌+◌, ◌%◌, ◌==◌, not, ◌&&◌, sym, ◌∙◌, rules}
use Rattle.xfs_log.specs.Log.{sector_at, has_unmount_flag}
use Rattle.xfs_log.proofs.Zeros.{unmount_listed}
use Rattle.xfs_log.proofs.state.is_unmount.Goals as goal

pub returns-then-header-ne0 : goal.returns-then-header-ne0
returns-then-header-ne0 c =
    let value : c.has_flag.result ≡ ((sector_at c.args.seen.now c.args.start).single && not ((sector_at c.args.seen.now c.args.start).len == 0) && has_unmount_flag (sector_at c.args.seen.now ((c.args.start + (sector_at c.args.seen.now c.args.start).header_sectors) % c.args.sectors))) = search rules in
    value ∙ sym (unmount_listed c.args.seen.now c.args.sectors c.args.start c.requires.whole)

pub returns-else-header-ne0 : goal.returns-else-header-ne0
returns-else-header-ne0 c =
    let value : _ ≡ ((sector_at c.args.seen.now c.args.start).single && not ((sector_at c.args.seen.now c.args.start).len == 0) && has_unmount_flag (sector_at c.args.seen.now ((c.args.start + (sector_at c.args.seen.now c.args.start).header_sectors) % c.args.sectors))) = search rules in
    value ∙ sym (unmount_listed c.args.seen.now c.args.sectors c.args.start c.requires.whole)
