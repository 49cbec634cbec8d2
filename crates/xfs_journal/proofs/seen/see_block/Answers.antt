use Rattle.std.proofs.Common.{List, ℕ, [], ◌∷◌, ◌++◌, ◌≤◌, ◌<◌, ap, ◌∙◌, arith}
use Rattle.xfs_log.specs.Log.{seen_of}
use Rattle.xfs_log.specs.declared.sectors.SectorSeen.{SectorSeen}
use Rattle.xfs_journal.specs.Placed.{sectors_of, seen_in}
use Rattle.xfs_journal.proofs.Listing.{pushed, pushed_all}
use Rattle.xfs_journal.proofs.seen.see_block.Goals as goal

pub loop-sector-preserved : goal.loop-sector-preserved
loop-sector-preserved c =
    record {
      seen = pushed (seen_in c.args.block.now) c.loop-sector.sector 8 (sectors_of c.loop-sector.log) (sectors_of c.add.new.log) _ (omega arith)
          (c.in_ok-add.ensures.seen ∙ ap (λ (s : SectorSeen). sectors_of c.loop-sector.log ++ s ∷ []) (c.see_sector.ensures ∙ ap (λ (bytes : List ℕ). seen_of bytes) c.part.ensures.value))
          c.loop-sector.invariant.seen;
      listed = c.in_ok-add.ensures.listed;
    }

pub returns : goal.returns
returns c =
    record {
      seen = pushed_all (seen_in c.args.block.now) c.loop-sector.sector 8 (sectors_of c.loop-sector.log) _ (omega arith) c.loop-sector.invariant.seen;
      listed = c.loop-sector.invariant.listed;
    }
