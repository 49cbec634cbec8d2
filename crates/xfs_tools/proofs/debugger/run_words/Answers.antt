use Rattle.std.proofs.Common.{◌≡◌, refl}
use Rattle.xfs_options.specs.DebugWords.{said}
use Rattle.xfs_tools.specs.Debugging.{IsShelled}
use Rattle.xfs_tools.proofs.Refusing.{refused_is_debugged, session_is_debugged}
use Rattle.xfs_tools.proofs.debugger.run_words.Goals as goal

pub returns-in-Ok : goal.returns-in-Ok
returns-in-Ok g c =
    record {
      ended = session_is_debugged _ _ _ _ (said c.in-Ok.line) c.in-Ok.ensures.line _ c.options_of.ensures _ _ c.run_session.ensures.session;
      size = c.run_session.ensures.size;
    }

pub returns-in-Err : goal.returns-in-Err
returns-in-Err g c =
    record {
      ended =
          let D = g.D.Disk in
          let S = g.S.Source in
          let O = g.O.Sink in
          refused_is_debugged ((c.args.disk.now ≡ c.args.disk.now) × (c.args.input.now ≡ c.args.input.now) × (c.args.out.now ≡ c.args.out.now)) (refl, refl, refl)
          (IsShelled D.holds D.size D.faults D.write_faults D.reads D.writes D.tells_stops D.moment D.may_leave D.left_since S.left S.faults O.took O.faults c.args.disk.now c.args.disk.now c.args.input.now c.args.input.now c.args.out.now c.args.out.now) (D.faults c.args.disk.now)
          _ c.in-Err.fault c.in-Err.ensures.refusal _ c.refused.ensures;
      size = refl;
    }
