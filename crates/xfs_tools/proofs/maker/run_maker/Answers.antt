use Rattle.std.proofs.Common.{◌≡◌, Option, false, refl, subst, sym, arith}
use Rattle.xfs_mkfs.specs.declared.outcome.MadeSummary.{MadeSummary}
use Rattle.xfs_tools.specs.Generating.{ShowsMade}
use Rattle.xfs_tools.specs.Making.{IsMake}
use Rattle.xfs_tools.proofs.Labels.{line_files, line_label}
use Rattle.xfs_tools.proofs.Making.{refused_is_making, refused_made, refused_none}
use Rattle.xfs_tools.proofs.maker.run_maker.Goals as goal

pub run_line-status-requires-clause-label : goal.run_line-status-requires-clause-label
run_line-status-requires-clause-label g c = λ κs lives. line_label c.args.words.now c.in-Ok.line c.in-Ok.ensures.line

pub run_line-status-requires-clause-generate : goal.run_line-status-requires-clause-generate
run_line-status-requires-clause-generate g c = λ κs lives. line_files c.args.words.now c.in-Ok.line c.in-Ok.ensures.line

pub returns-in-Ok : goal.returns-in-Ok
returns-in-Ok g c =
    record {
      made = rw (c.in-Ok.ensures.line) c.run_line-status.ensures.made;
      generated = rw (c.in-Ok.ensures.line) c.run_line-status.ensures.generated;
      size = c.run_line-status.ensures.size;
      files = c.run_line-status.ensures.files;
    }

pub returns-in-Err : goal.returns-in-Err
returns-in-Err g c =
    record {
      made =
          let D = g.D.Disk in
          let L = g.L.Library in
          let ended = c.end_with.ensures in
          λ none. (
            c.make_refusal.result,
            false,
            ended.0,
            refused_is_making ((c.args.disk.now ≡ c.args.disk.now) × (c.args.files.now ≡ c.args.files.now)) (refl, refl)
                (IsMake D.holds D.size D.faults D.write_faults D.reads D.writes D.tells_stops D.moment D.may_leave D.left_since L.files L.faults c.args.stamp.now
                c.args.disk.now c.args.disk.now c.args.files.now c.args.files.now)
                false _ c.in-Err.fault c.in-Err.ensures.refusal c.make_refusal.result c.make_refusal.ensures,
            ended.1,
            ended.2,
          );
      generated =
          let D = g.D.Disk in
          let L = g.L.Library in
          let O = g.O.Sink in
          let E = g.E.Sink in
          let none = refused_made c.in-Err.fault c.make_refusal.result c.make_refusal.ensures in
          λ n asked. record {
            made = c.args.disk.now;
            answer = c.make_refusal.result;
            quiet = false;
            making =
                refused_is_making ((c.args.disk.now ≡ c.args.disk.now) × (c.args.files.now ≡ c.args.files.now)) (refl, refl)
                (IsMake D.holds D.size D.faults D.write_faults D.reads D.writes D.tells_stops D.moment D.may_leave D.left_since L.files L.faults c.args.stamp.now
                c.args.disk.now c.args.disk.now c.args.files.now c.args.files.now)
                false _ c.in-Err.fault c.in-Err.ensures.refusal c.make_refusal.result c.make_refusal.ensures;
            inside = λ image told summary is. absurd (refused_none c.in-Err.fault c.make_refusal.result c.make_refusal.ensures summary is);
            unasked = refl;
            tells = λ t. t;
            later = λ t. omega arith;
            behind =
                subst (λ (m : Option MadeSummary). ShowsMade D.holds D.size D.faults D.write_faults D.writes D.tells_stops D.moment D.may_leave D.left_since O.took O.faults E.took E.faults c.args.stamp.now
                c.args.disk.now c.end_with.new.out c.args.err.now c.end_with.new.err c.end_with.result c.args.disk.now c.args.out.now false n c.make_refusal.result m)
                (sym none) (refl, c.end_with.ensures);
          };
      size = refl;
      files = refl;
    }
