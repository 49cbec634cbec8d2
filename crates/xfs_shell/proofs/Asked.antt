-- Outcomes of a session by what was asked for.
use Rattle.std.proofs.Common.{◌≡◌, ◌==◌, ℕ, zero, suc, true, false, List, [], ◌∷◌, length, Option, Some, None, Result, Ok, Err, IfOk, refl, inl, inr, sym, ◌∙◌, ap, arith}
use Rattle.std.proofs.lemmas.Bool.{eqb-true, true≢false}
use Rattle.xfs_geom.specs.Election.{Vote}
use Rattle.xfs_geom.specs.declared.election.ElectFault.{ElectFault}
use Rattle.xfs_geom.specs.declared.election.ElectFault.TheVariants as fault
use Rattle.xfs_shell.specs.Shells.{HasElected, HasInput, IsOfLines, IsPastElection, IsShort, IsUndecided, input_lines, most_of, told_lines}
use Rattle.xfs_shell.specs.Running.{until_quit}
use Rattle.xfs_shell.specs.LineParts.{line_parts}
use Rattle.xfs_shell.specs.declared.line_parts.Cut.TheVariants.{LineFeeds}
use Rattle.xfs_shell.specs.declared.outcomes.ShellOutcome.{ShellOutcome}
use Rattle.xfs_shell.specs.declared.outcomes.ShellOutcome.TheVariants.{Done, NoGeometry, Unsupported, ReadFault, WriteFault, InputFault, InputLong, OutputFault, NoMemory}

-- where there are commands they are the lines
pub commands_told : (commands : List (List ℕ)) (left : Option (List ℕ)) → (length commands == 0) ≡ false → told_lines commands left ≡ Some commands
commands_told [] left some = absurd (true≢false some)
commands_told (command ∷ commands) left some = refl

-- lines are run past the election
pub past_lines : (outcome : ShellOutcome) → IsOfLines outcome → IsPastElection outcome
past_lines Done ran = tt
past_lines NoGeometry ran = absurd ran
past_lines (Unsupported word bits) ran = absurd ran
past_lines (ReadFault k) ran = tt
past_lines (WriteFault written k) ran = tt
past_lines InputFault ran = tt
past_lines InputLong ran = tt
past_lines (OutputFault k) ran = tt
past_lines (NoMemory k) ran = tt

-- and where they are those of an input, it was not too long
pub input_lines_ran : (left : Option (List ℕ)) (outcome : ShellOutcome) → IsOfLines outcome → IsShort left → HasInput [] left outcome
input_lines_ran left Done ran short = short
input_lines_ran left NoGeometry ran short = tt
input_lines_ran left (Unsupported word bits) ran short = tt
input_lines_ran left (ReadFault zero) ran short = tt
input_lines_ran left (ReadFault (suc k)) ran short = short
input_lines_ran left (WriteFault written k) ran short = short
input_lines_ran left InputFault ran short = tt
input_lines_ran left InputLong ran short = absurd ran
input_lines_ran left (OutputFault k) ran short = short
input_lines_ran left (NoMemory zero) ran short = tt
input_lines_ran left (NoMemory (suc k)) ran short = short

-- where there are commands, the input is not read
pub commands_ran : (commands : List (List ℕ)) (left : Option (List ℕ)) (outcome : ShellOutcome) → (length commands == 0) ≡ false → IsOfLines outcome
    → HasInput commands left outcome
commands_ran [] left outcome some ran = absurd (true≢false some)
commands_ran (command ∷ commands) left Done some ran = tt
commands_ran (command ∷ commands) left NoGeometry some ran = tt
commands_ran (command ∷ commands) left (Unsupported word bits) some ran = tt
commands_ran (command ∷ commands) left (ReadFault k) some ran = tt
commands_ran (command ∷ commands) left (WriteFault written k) some ran = tt
commands_ran (command ∷ commands) left InputFault some ran = ran
commands_ran (command ∷ commands) left InputLong some ran = ran
commands_ran (command ∷ commands) left (OutputFault k) some ran = tt
commands_ran (command ∷ commands) left (NoMemory k) some ran = tt

-- past the election there was one
pub past_elected : (vote : Vote) (outcome : ShellOutcome) → IsPastElection outcome → HasElected (Ok vote) outcome
past_elected vote Done past = tt
past_elected vote NoGeometry past = past
past_elected vote (Unsupported word bits) past = past
past_elected vote (ReadFault k) past = tt
past_elected vote (WriteFault written k) past = tt
past_elected vote InputFault past = tt
past_elected vote InputLong past = tt
past_elected vote (OutputFault k) past = tt
past_elected vote (NoMemory k) past = tt

-- where there is none, the lines are those of the input
pub input_told_lines : (commands : List (List ℕ)) (left : Option (List ℕ)) → (length commands == 0) ≡ true → told_lines commands left ≡ input_lines left
input_told_lines [] left none = refl
input_told_lines (command ∷ commands) left none =
    let no : suc (length commands) ≡ 0 = eqb-true (suc (length commands)) 0 none in
    absurd (omega (arith, no))

pub input_asked : (commands : List (List ℕ)) (left : Option (List ℕ)) (outcome : ShellOutcome) → (length commands == 0) ≡ true → HasInput [] left outcome
    → HasInput commands left outcome
input_asked [] left outcome none had = had
input_asked (command ∷ commands) left outcome none had =
    let no : suc (length commands) ≡ 0 = eqb-true (suc (length commands)) 0 none in
    absurd (omega (arith, no))

-- the lines that were run are those that the input tells
pub read_lines : (left : Option (List ℕ)) (bytes : List ℕ) (ran lines : List (List ℕ)) → ran ≡ line_parts LineFeeds bytes
    → ((told : List ℕ) → left ≡ Some told → bytes ≡ told) → input_lines left ≡ Some lines → ran ≡ lines
read_lines None bytes ran lines are told is = cc
read_lines (Some told) bytes ran lines are same is =
    let due : line_parts LineFeeds told ≡ lines = cc in
    are ∙ ap (λ (b : List ℕ). line_parts LineFeeds b) (same told refl) ∙ due

-- where it could not be decided whether there was one
pub undecided : (due : Result Vote ElectFault) (outcome : ShellOutcome) → IsUndecided outcome → HasElected due outcome
undecided (Ok vote) Done is = tt
undecided (Ok vote) NoGeometry (inl is) = cc
undecided (Ok vote) NoGeometry (inr is) = cc
undecided (Ok vote) (Unsupported word bits) (inl is) = cc
undecided (Ok vote) (Unsupported word bits) (inr is) = cc
undecided (Ok vote) (ReadFault k) is = tt
undecided (Ok vote) (WriteFault written k) is = tt
undecided (Ok vote) InputFault is = tt
undecided (Ok vote) InputLong is = tt
undecided (Ok vote) (OutputFault k) is = tt
undecided (Ok vote) (NoMemory k) is = tt
undecided (Err fault.NoGeometry) outcome is = inr is
undecided (Err (fault.Unsupported word bits)) outcome is = inr is
undecided (Err fault.ReadFault) outcome is = is
undecided (Err fault.NoMemory) outcome is = is

-- the commands that were run are those that are asked for
pub asked_lines : (commands : List (List ℕ)) (left : Option (List ℕ)) (ran lines : List (List ℕ)) → ran ≡ commands → (length commands == 0) ≡ false
    → told_lines commands left ≡ Some lines → ran ≡ lines
asked_lines commands left ran lines are some told =
    let due : Some commands ≡ Some lines = sym (commands_told commands left some) ∙ told in
    let same : commands ≡ lines = cc in
    are ∙ same

pub asked_most : (commands : List (List ℕ)) (left : Option (List ℕ)) (ran : List (List ℕ)) → ran ≡ commands → (length commands == 0) ≡ false
    → until_quit ran ≡ most_of (told_lines commands left)
asked_most commands left ran are some =
    ap until_quit are ∙ ap (λ (ls : Option (List (List ℕ))). most_of ls) (sym (commands_told commands left some))

-- what holds of each vote holds of one that was elected
pub whatever_elected : (due : Result Vote ElectFault) (P : Vote → Type 0) → ((vote : Vote) → P vote) → IfOk due P
whatever_elected (Ok vote) P each = each vote
whatever_elected (Err other) P each = tt

-- words that no session was run for say nothing of an input
pub no_geometry_input : (commands : List (List ℕ)) (left : Option (List ℕ)) → HasInput commands left NoGeometry
no_geometry_input [] left = tt
no_geometry_input (command ∷ commands) left = tt

pub unsupported_input : (commands : List (List ℕ)) (left : Option (List ℕ)) (word bits : ℕ) → HasInput commands left (Unsupported word bits)
unsupported_input [] left word bits = tt
unsupported_input (command ∷ commands) left word bits = tt

pub unread_input : (commands : List (List ℕ)) (left : Option (List ℕ)) → HasInput commands left (ReadFault 0)
unread_input [] left = tt
unread_input (command ∷ commands) left = tt

pub no_memory_input : (commands : List (List ℕ)) (left : Option (List ℕ)) → HasInput commands left (NoMemory 0)
no_memory_input [] left = tt
no_memory_input (command ∷ commands) left = tt
