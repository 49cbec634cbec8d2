use Rattle.std.proofs.Common.{◌≡◌, ℕ, List, ap}
use Rattle.xfs_shell.specs.declared.outcomes.ShellOptions.{ShellOptions}
use Rattle.xfs_tools.proofs.debugger.options_of.Goals as goal

pub returns : goal.returns
returns c =
    ap (λ (commands : List (List ℕ)). let options : ShellOptions = record { expert = c.args.line.expert; read_only = c.args.line.read_only; commands = commands } in options)
    c.from_vec.ensures
