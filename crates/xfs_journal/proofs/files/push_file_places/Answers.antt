use Rattle.std.proofs.Common.{length, refl, arith}
use Rattle.std.proofs.lemmas.Result.{IfOk-from_err}
use borrow.Author.Count.{falls}
use Rattle.xfs_geom.specs.Volumes.{volume_of}
use Rattle.xfs_image.specs.Lsns.{file_places}
use Rattle.xfs_journal.specs.Placed.{listed}
use Rattle.xfs_journal.proofs.Listing.{held_all, held_more}
use Rattle.xfs_journal.proofs.files.push_file_places.Goals as goal

pub loop-file-init : goal.loop-file-init
loop-file-init c = record { listed = refl; inside = c.requires.inside }

pub push_file-requires : goal.push_file-requires
push_file-requires c = record { inside = c.loop-file.invariant.inside }

pub returns-in_err-push_file-clause-listed : goal.returns-in_err-push_file-clause-listed
returns-in_err-push_file-clause-listed c = IfOk-from_err c.from_residual.result _ c.from_residual.ensures.0

pub returns-in_err-push_file-clause-inside : goal.returns-in_err-push_file-clause-inside
returns-in_err-push_file-clause-inside c = c.push_file.ensures.inside

pub loop-file-smaller : goal.loop-file-smaller
loop-file-smaller c = falls (length c.args.files.now) c.loop-file.file-index c.loop-file-test.true

pub loop-file-preserved : goal.loop-file-preserved
loop-file-preserved c =
    record {
      listed = held_more (file_places (volume_of c.args.g.now)) c.file-item.result c.args.files.now c.loop-file.file-index (listed c.loop-file.places.items) (listed c.push_file.new.places.items) _
          c.loop-file-test.true c.file-item.is c.in_ok-push_file.ensures.listed c.loop-file.invariant.listed;
      inside = c.push_file.ensures.inside;
    }

pub returns-clause-listed : goal.returns-clause-listed
returns-clause-listed c =
    held_all (file_places (volume_of c.args.g.now)) c.args.files.now c.loop-file.file-index (listed c.loop-file.places.items) _ (omega (arith, c.loop-file-test.false)) c.loop-file.invariant.listed

pub returns-clause-inside : goal.returns-clause-inside
returns-clause-inside c = c.loop-file.invariant.inside
