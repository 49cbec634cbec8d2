-- What a call of mkfs.xfs with -G does beside making the volume, and what it puts (mkfs.xfs(8)).
use Rattle.std.specs.Prelude.{◌≡◌, ℕ, ◌≤◌, Bool, true, false, codes, List, [], ◌∷◌, ◌++◌, Option, Some, None, Result, Ok, Err}
use Rattle.std.specs.Option.{ForSome}
use Rattle.xfs_disk.specs.Blocks.{Image}
use Rattle.xfs_disk.specs.Files.{Files}
use Rattle.xfs_disk.specs.declared.failed.Failed.{Failed}
use Rattle.xfs_disk.specs.declared.stamp.Stamp.{Stamp}
use Rattle.xfs_generator.specs.Files.{directory_count}
use Rattle.xfs_mend.specs.Asked.{Asked}
use Rattle.xfs_mend.specs.declared.outcome.Outcome.{Outcome}
use Rattle.xfs_mkfs.specs.declared.outcome.MadeSummary.{MadeSummary}
use Rattle.xfs_mkfs.specs.Roots.{HasInodeRoot}
use Rattle.xfs_options.specs.MakeWords.{Refusal}
use Rattle.xfs_options.specs.declared.make_words.MakeLine.{MakeLine}
use Rattle.xfs_texts.specs.Lines.{PutsText, line}
use Rattle.xfs_texts.specs.declared.lines.Number.TheVariants.{Decimal}
use Rattle.xfs_tools.specs.Answers.{IsTold, answer_of, output_fault, status_of}
use Rattle.xfs_tools.specs.Damaging.{IsDamaging, damage_answer}
use Rattle.xfs_tools.specs.Making.{IsMake, IsMaking}
use Rattle.xfs_tools.specs.Repairing.{IsRepair}
use Rattle.xfs_tools.specs.Texts.{made_text}
use Rattle.xfs_tools.specs.declared.answer.Answer.{Answer}
use Rattle.xfs_tools.specs.declared.answer.Answer.TheVariants.{Made}
use Rattle.xfs_tools.specs.declared.answer.Status.{Status}
use Rattle.xfs_tools.specs.declared.damaging.DamageFault.{DamageFault}

-- how many files words ask to be generated
abbrev pub files_asked : Result MakeLine Refusal → Option ℕ
files_asked (Ok line) = line.options.generate
files_asked (Err refusal) = None

-- the volume that an answer tells of
abbrev pub made_in : Answer → Option MadeSummary
made_in (Made made) = Some made
made_in answer = None

-- the line of files that were generated: how many, and in how many directories
abbrev pub generated_text : ℕ → List ℕ
generated_text files = line ((codes "generated: files=", Decimal files) ∷ (codes " directories=", Decimal (directory_count files)) ∷ []) (codes "\n")

-- the lines of a volume that was made with them; its own is left out under -q
abbrev pub made_lines : Bool → MadeSummary → ℕ → List ℕ
made_lines true made files = generated_text files
made_lines false made files = made_text made ++ generated_text files

-- the line of a block that was written as zeros
abbrev pub damaged_text : ℕ → List ℕ
damaged_text place = line ((codes "damaged: block=", Decimal place) ∷ []) (codes "\n")

-- nothing more was done
abbrev pub IsCutOff : {D O E : Type 0} → D → D → O → O → E → E → Status → Type 0
IsCutOff old new out out_now err err_now status = (new ≡ old) × (out_now ≡ out) × (err_now ≡ err) × (status ≡ output_fault)

-- the line of an answer was put to its stream, and the status is its own
abbrev pub IsEnded : {O E : Type 0} → (O → Option (List ℕ)) → (O → ℕ) → (E → Option (List ℕ)) → (E → ℕ) → O → O → E → E → Answer → Status → Type 0
IsEnded out_took out_faults err_took err_faults out out_now err err_now answer status =
    (put : Result (Unit {0}) Failed) × IsTold out_took out_faults err_took err_faults out out_now err err_now answer put × (status ≡ status_of false answer put)

-- a repair whose log is to be clean, as xfs_repair asks for without options
abbrev pub plain_repair : Asked
plain_repair = record { check = false; drop_log = false }

-- What the parts of a call do to a disk and its streams.
module _ {D O E : Type 0} (holds : D → Option Image) (size faults write_faults writes : D → ℕ) (tells_stops : D → Type 0) (moment : D → ℕ)
    (may_leave : D → ℕ → List ℕ → Type 0) (left_since : D → ℕ → Image → Type 0)
    (out_took : O → Option (List ℕ)) (out_faults : O → ℕ) (err_took : E → Option (List ℕ)) (err_faults : E → ℕ) (s : Stamp)
    (new : D) (out_now : O) (err err_now : E) (status : Status) where
  -- the volume was repaired, and the line of that answer was put
  pub record IsMendedEnd (old : D) (out : O) : Type 0 where
    pub outcome : Outcome
    pub repaired : IsRepair holds size faults write_faults writes tells_stops moment may_leave left_since s old new plain_repair outcome
    pub ended : IsEnded out_took out_faults err_took err_faults out out_now err err_now (answer_of outcome) status

  abbrev pub MendsBehind : D → O → Result (Unit {0}) Failed → Type 0
  MendsBehind old out (Ok done) = IsMendedEnd old out
  MendsBehind old out (Err failed) = IsCutOff old new out out_now err err_now status

  -- the line of the block that was written was put, and then the volume repaired
  pub record IsMarkedEnd (old : D) (out : O) (place : ℕ) : Type 0 where
    pub marked : O
    pub put : Result (Unit {0}) Failed
    pub line' : PutsText (out_took out) (out_took marked) (out_faults out) (out_faults marked) (damaged_text place) put
    pub behind : MendsBehind old marked put

  abbrev pub MarksBehind : D → O → Result ℕ DamageFault → Type 0
  MarksBehind old out (Ok place) = IsMarkedEnd old out place
  MarksBehind old out (Err fault) = (new ≡ old) × IsEnded out_took out_faults err_took err_faults out out_now err err_now (damage_answer fault) status

  -- a block was written as zeros, and then its line put
  pub record IsDamagedEnd (old : D) (out : O) : Type 0 where
    pub damaged : D
    pub result : Result ℕ DamageFault
    pub damaging : IsDamaging holds size faults write_faults writes tells_stops moment may_leave left_since old damaged result
    pub behind : MarksBehind damaged out result

  abbrev pub DamagesBehind : D → O → Result (Unit {0}) Failed → Type 0
  DamagesBehind old out (Ok done) = IsDamagedEnd old out
  DamagesBehind old out (Err failed) = IsCutOff old new out out_now err err_now status

  -- The lines of the volume and of its files were put; then a block was written as zeros, and its line put; then the volume was repaired, and the
  -- line of that answer put. Where one of these could not be done, or a line not put, nothing more was done but the line of an answer.
  pub record IsShown (old : D) (out : O) (quiet : Bool) (made : MadeSummary) (files : ℕ) : Type 0 where
    pub told : O
    pub put : Result (Unit {0}) Failed
    pub lines : PutsText (out_took out) (out_took told) (out_faults out) (out_faults told) (made_lines quiet made files) put
    pub behind : DamagesBehind old told put

  -- the same where a volume was made; else the line of the answer was put, and nothing more was done
  abbrev pub ShowsMade : D → O → Bool → ℕ → Answer → Option MadeSummary → Type 0
  ShowsMade old out quiet files answer (Some made) = IsShown old out quiet made files
  ShowsMade old out quiet files answer None = (new ≡ old) × IsEnded out_took out_faults err_took err_faults out out_now err err_now answer status

-- What words with -G ask for: a volume with so many files was made on a disk, or refused, as in every call; and a volume that was made was then
-- damaged and repaired, with the lines of each. Of a disk that tells what it holds, the root that is damaged lies on it. The library is not
-- asked for files.
pub record IsGenerated {D L O E : Type 0} (holds : D → Option Image) (size faults write_faults reads writes : D → ℕ) (tells_stops : D → Type 0) (moment : D → ℕ)
    (may_leave : D → ℕ → List ℕ → Type 0) (left_since : D → ℕ → Image → Type 0) (files_of : L → Option Files) (library_faults : L → ℕ)
    (out_took : O → Option (List ℕ)) (out_faults : O → ℕ) (err_took : E → Option (List ℕ)) (err_faults : E → ℕ) (s : Stamp)
    (said : Result MakeLine Refusal) (old new : D) (library library_now : L) (out out_now : O) (err err_now : E) (status : Status) (files : ℕ) : Type 0 where
  pub made : D
  pub answer : Answer
  pub quiet : Bool
  pub making : IsMaking said ((made ≡ old) × (library_now ≡ library))
      (IsMake holds size faults write_faults reads writes tells_stops moment may_leave left_since files_of library_faults s old made library library_now) answer quiet
  pub inside : ForSome (holds old) (λ image. ForSome (made_in answer) (λ summary. ForSome (holds made) (HasInodeRoot (size made))))
  pub unasked : library_now ≡ library
  pub tells : tells_stops old → tells_stops made
  pub later : tells_stops old → moment old ≤ moment made
  pub behind : ShowsMade holds size faults write_faults writes tells_stops moment may_leave left_since out_took out_faults err_took err_faults s
      new out_now err err_now status made out quiet files answer (made_in answer)
