-- Words that ask for help or for the version, and nothing else.
use Rattle.std.specs.Prelude.{ℕ, ◌&&◌, ◌||◌, if◌then◌else◌, bytes_eq, codes, List, [], ◌∷◌, Option, Some, None, is_some}
use Rattle.xfs_options.specs.Words.{Words}
use Rattle.xfs_texts.specs.declared.help.Tool.{Tool}
use Rattle.xfs_texts.specs.declared.help.Tool.TheVariants.{Repair, Make, Debug}
use Rattle.xfs_tools.specs.declared.answer.Answer.{Answer}
use Rattle.xfs_tools.specs.declared.answer.Answer.TheVariants.{Help, Version}

-- the tool of a name
abbrev pub tool_named : List ℕ → Option Tool
tool_named name =
    if bytes_eq name (codes "xfs_repair") then Some Repair
    else if bytes_eq name (codes "mkfs.xfs") then Some Make
    else if bytes_eq name (codes "xfs_db") then Some Debug
    else None

-- what a word asks for, behind a tool or alone; -V does only behind a tool
abbrev pub text_named : Option Tool → List ℕ → Option Answer
text_named tool word =
    if bytes_eq word (codes "--help") then Some (Help tool)
    else if bytes_eq word (codes "--version") || (is_some tool && bytes_eq word (codes "-V")) then Some (Version tool)
    else None

abbrev pub text_behind : Option Tool → List ℕ → Option Answer
text_behind None word = None
text_behind (Some tool) word = text_named (Some tool) word

-- the help or the version, where the words ask for it alone: one word, or one behind a tool
abbrev pub text_asked : Words → Option Answer
text_asked [] = None
text_asked (word ∷ []) = text_named None word
text_asked (tool ∷ word ∷ []) = text_behind (tool_named tool) word
text_asked (tool ∷ word ∷ more ∷ words) = None
