use Rattle.xfs_shell.specs.Stops.{Passes}
use Rattle.xfs_shell.specs.Sessions.{IsCommandOutcome}
use Rattle.xfs_shell.specs.Running.{block_at_place, image_after, is_quit_words, runs_first}
use Rattle.xfs_commands.specs.Cursors.{is_quit}
use Rattle.xfs_commands.specs.Commands.{session_of}
use Rattle.xfs_geom.specs.Volumes.{volume_of}
use Rattle.std.specs.Option.{ForSome}
use Rattle.std.proofs.Common.{◌≡◌, ◌∙◌, ◌∷◌, true, List, IfOk, ℕ, ap, sym, subst}
use Rattle.xfs_shell.proofs.session.run_command.Goals as goal

pub run_named-requires-clause-inside : goal.run_named-requires-clause-inside
run_named-requires-clause-inside g c = c.requires.inside

pub run_named-requires-clause-within : goal.run_named-requires-clause-within
run_named-requires-clause-within g c = c.requires.within

pub returns : goal.returns
returns g c =
    let v = volume_of c.args.geometry.now in
    let leave = c.args.leave in
    let s = session_of c.args.cursor.now in
    let words : c.args.words.now ≡ c.bytes.result.now ∷ c.in-Some.arguments.now =
    c.in-Some.ensures.cases.0 ∙ ap (λ (name : List ℕ). name ∷ c.in-Some.arguments.now) (sym c.bytes.ensures) in
    record {
      within = c.run_named.ensures.within;
      outcome =
          subst
          (λ (ws : List (List ℕ)). ForSome (g.D.Disk.holds c.args.disk.now) (λ image. IsCommandOutcome (runs_first v leave ws (block_at_place image s.at) s) image c.args.text.now.items
          c.run_named.new.text.items (session_of c.run_named.new.cursor) (g.D.Disk.holds c.run_named.new.disk) (g.D.Disk.writes c.args.disk.now) (g.D.Disk.writes c.run_named.new.disk) c.run_named.result))
          (sym words) c.run_named.ensures.outcome;
      passes =
          subst
          (λ (ws : List (List ℕ)). ForSome (g.D.Disk.holds c.args.disk.now) (λ image. Passes g.D.Disk.holds g.D.Disk.tells_stops g.D.Disk.moment g.D.Disk.may_leave g.D.Disk.left_since image
          (image_after (runs_first v leave ws (block_at_place image s.at) s).put image) c.args.disk.now c.run_named.new.disk))
          (sym words) c.run_named.ensures.passes;
      disk = c.run_named.ensures.disk;
      quits = subst (λ (ws : List (List ℕ)). is_quit_words ws ≡ true → IfOk c.run_named.result (λ verdict. is_quit verdict ≡ true)) (sym words) c.run_named.ensures.quits;
    }
