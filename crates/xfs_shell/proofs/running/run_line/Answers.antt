use Rattle.xfs_shell.proofs.Settling.{still_passes}
use Rattle.xfs_shell.specs.declared.line_parts.Cut.TheVariants.{Blanks}
use Rattle.xfs_shell.specs.Stops.{Passes}
use Rattle.xfs_shell.specs.Sessions.{IsCommandOutcome}
use Rattle.xfs_shell.specs.Running.{attempts, block_at_place, image_after, is_quit_words}
use Rattle.xfs_shell.specs.LineParts.{line_parts}
use Rattle.xfs_commands.specs.Cursors.{is_quit}
use Rattle.xfs_commands.specs.Commands.{session_of}
use Rattle.xfs_geom.specs.Volumes.{volume_of}
use Rattle.xfs_disk.proofs.Reading.{reads_none}
use Rattle.std.specs.Option.{ForSome}
use Rattle.std.proofs.Common.{◌≡◌, ◌∙◌, true, List, IfOk, ℕ, arith, inl, subst}
use Rattle.xfs_shell.proofs.running.run_line.Goals as goal

pub returns-in-Err : goal.returns-in-Err
returns-in-Err g c =
    record {
      within = c.requires.within;
      outcome = λ image told. told;
      passes = λ image told. still_passes g.D.Disk.holds g.D.Disk.tells_stops g.D.Disk.moment g.D.Disk.may_leave g.D.Disk.left_since image _ c.args.disk.now;
      disk = inl (record {
        cause = (omega arith, omega arith);
        no_write_fault = tt;
        one_read = omega arith;
        only_reads = reads_none g.D.Disk.size g.D.Disk.holds g.D.Disk.write_faults g.D.Disk.writes g.D.Disk.tells_stops g.D.Disk.moment g.D.Disk.may_leave g.D.Disk.left_since c.args.disk.now;
      });
      quits = λ is. tt;
    }

pub run_words-requires-clause-inside : goal.run_words-requires-clause-inside
run_words-requires-clause-inside g c = c.requires.inside

pub run_words-requires-clause-within : goal.run_words-requires-clause-within
run_words-requires-clause-within g c = c.requires.within

pub returns : goal.returns
returns g c =
    let v = volume_of c.args.geometry.now in
    let leave = c.args.leave in
    let s = session_of c.args.cursor.now in
    let words : c.as_slice.result.now ≡ line_parts Blanks c.args.line.now = c.as_slice.ensures.value ∙ c.in-Ok.ensures in
    record {
      within = c.run_words.ensures.within;
      outcome =
          subst
          (λ (ws : List (List ℕ)). ForSome (g.D.Disk.holds c.args.disk.now) (λ image. IsCommandOutcome (attempts v leave ws (block_at_place image s.at) s) image c.args.text.now.items
          c.run_words.new.text.items (session_of c.run_words.new.cursor) (g.D.Disk.holds c.run_words.new.disk) (g.D.Disk.writes c.args.disk.now) (g.D.Disk.writes c.run_words.new.disk) c.run_words.result))
          words c.run_words.ensures.outcome;
      passes =
          subst
          (λ (ws : List (List ℕ)). ForSome (g.D.Disk.holds c.args.disk.now) (λ image. Passes g.D.Disk.holds g.D.Disk.tells_stops g.D.Disk.moment g.D.Disk.may_leave g.D.Disk.left_since image
          (image_after (attempts v leave ws (block_at_place image s.at) s).put image) c.args.disk.now c.run_words.new.disk))
          words c.run_words.ensures.passes;
      disk = c.run_words.ensures.disk;
      quits = subst (λ (ws : List (List ℕ)). is_quit_words ws ≡ true → IfOk c.run_words.result (λ verdict. is_quit verdict ≡ true)) words c.run_words.ensures.quits;
    }
