use Rattle.std.proofs.Common.{◌≡◌, ◌∙◌, Option, refl, subst, sym}
use Rattle.xfs_mkfs.specs.declared.outcome.MadeSummary.{MadeSummary}
use Rattle.xfs_tools.specs.Generating.{ShowsMade}
use Rattle.xfs_tools.proofs.generating.show_made.Goals as goal

pub returns-in-Some : goal.returns-in-Some
returns-in-Some g c =
    record {
      shown =
          let D = g.D.Disk in
          let O = g.O.Sink in
          let E = g.E.Sink in
          subst (λ (m : Option MadeSummary). ShowsMade D.holds D.size D.faults D.write_faults D.writes D.tells_stops D.moment D.may_leave D.left_since O.took O.faults E.took E.faults c.args.stamp.now
          c.show.new.disk c.show.new.out c.args.err.now c.show.new.err c.show.result c.args.disk.now c.args.out.now c.args.quiet c.args.files c.args.answer m)
          (sym c.in-Some.is ∙ c.made_in.ensures) c.show.ensures.shown;
      size = c.show.ensures.size;
    }

pub returns-in-None : goal.returns-in-None
returns-in-None g c =
    record {
      shown =
          let D = g.D.Disk in
          let O = g.O.Sink in
          let E = g.E.Sink in
          subst (λ (m : Option MadeSummary). ShowsMade D.holds D.size D.faults D.write_faults D.writes D.tells_stops D.moment D.may_leave D.left_since O.took O.faults E.took E.faults c.args.stamp.now
          c.args.disk.now c.end_with.new.out c.args.err.now c.end_with.new.err c.end_with.result c.args.disk.now c.args.out.now c.args.quiet c.args.files c.args.answer m)
          (sym c.in-None.is ∙ c.made_in.ensures) (refl, c.end_with.ensures);
      size = refl;
    }
