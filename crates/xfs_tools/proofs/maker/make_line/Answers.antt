use Rattle.std.proofs.Common.{ℕ, refl, sym, subst}
use Rattle.std.specs.Option.{ForSome}
use Rattle.xfs_mkfs.specs.Roots.{HasInodeRoot}
use Rattle.xfs_tools.specs.Generating.{made_in}
use Rattle.xfs_tools.specs.Making.{made_answer}
use Rattle.xfs_tools.specs.declared.answer.Answer.{Answer}
use Rattle.xfs_tools.proofs.Roots.{root_on_disk}
use Rattle.xfs_tools.proofs.maker.make_line.Goals as goal

pub returns : goal.returns
returns g c =
    record {
      made =
          let made = c.make.ensures in
          record {
            outcome = c.make.result;
            answer_is = c.made_answer.ensures;
            quiet_is = refl;
            is_done = record {
              due = made.due;
              leaves = made.leaves;
              cause = made.cause;
              counts = made.counts;
              looked = made.reads;
              unwritten = made.unwritten;
              kept = made.kept;
              stops = made.stops;
              same_files = made.files;
              library_rises = made.library_faults;
            };
          };
      inside =
          let D = g.D.Disk in
          let L = g.L.Library in
          let made = c.make.ensures in
          λ image told.
          subst (λ (a : Answer). ForSome (made_in a) (λ summary. ForSome (D.holds c.make.new.disk) (HasInodeRoot (D.size c.make.new.disk)))) (sym c.made_answer.ensures)
          (subst (λ (blocks : ℕ). ForSome (made_in (made_answer c.make.result)) (λ summary. ForSome (D.holds c.make.new.disk) (HasInodeRoot blocks))) (sym made.size)
          (root_on_disk c.args.line.now.options c.args.stamp.now (L.files c.args.files.now) (D.size c.args.disk.now) image (D.holds c.make.new.disk) c.make.result
          (made.due image told) (made.leaves image told)));
      unasked = c.make.ensures.unasked;
      tells = c.make.ensures.tells;
      later = c.make.ensures.later;
      size = c.make.ensures.size;
      files = c.make.ensures.files;
    }
