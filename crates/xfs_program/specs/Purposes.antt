-- What a call does with its image, by its words.
use Rattle.std.specs.Prelude.{Bool, true, false, not, if◌then◌else◌, ℕ, drop, is_some, Result, Ok, Err}
use Rattle.xfs_options.specs.Words.{Words}
use Rattle.xfs_options.specs.DebugWords.{Debug, debug_of}
use Rattle.xfs_options.specs.MakeWords.{Refusal, make_of}
use Rattle.xfs_options.specs.declared.make_words.MakeLine.{MakeLine}
use Rattle.xfs_shell.specs.Running.{may_write}
use Rattle.xfs_shell.specs.Shells.{leave_of}
use Rattle.xfs_tools.specs.CommandLine.{is_debugger, is_maker, judged}
use Rattle.xfs_tools.specs.Debugging.{session_options}
use Rattle.xfs_tools.specs.HelpWords.{text_asked}
use Rattle.xfs_tools.specs.declared.command_line.Call.{Call}
use Rattle.xfs_tools.specs.declared.command_line.Call.TheVariants.{Repair, Refused}
use Rattle.xfs_system.specs.declared.purpose.Purpose.{Purpose}
use Rattle.xfs_system.specs.declared.purpose.Purpose.TheVariants.{Nothing, Reads, Writes}

-- that of a call that reads, and may write where this says so
abbrev pub writing_purpose : Bool → Purpose
writing_purpose true = Writes
writing_purpose false = Reads

-- a repair writes unless it only checks
abbrev pub repair_purpose : Call → Purpose
repair_purpose (Repair o) = writing_purpose (not o.check)
repair_purpose (Refused n) = Nothing

-- a session writes where its options allow that
abbrev pub debugger_purpose : Result Debug ℕ → Purpose
debugger_purpose (Ok line) = writing_purpose (may_write (leave_of (session_options line)))
debugger_purpose (Err n) = Nothing

-- a volume that is made is written
abbrev pub maker_purpose : Result MakeLine Refusal → Purpose
maker_purpose (Ok line) = Writes
maker_purpose (Err refusal) = Nothing

-- what the words of a call judge it to do: nothing where they ask for a text alone, or are refused
abbrev pub purpose_in : Words → Purpose
purpose_in words =
    if is_some (text_asked words) then Nothing
    else if is_debugger words then debugger_purpose (debug_of (drop 1 words))
    else if is_maker words then maker_purpose (make_of (drop 1 words))
    else repair_purpose (judged words)
