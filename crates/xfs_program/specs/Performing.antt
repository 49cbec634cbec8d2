-- What the whole program does.
use Rattle.std.specs.Prelude.{◌≡◌, ℕ, ◌⊎◌, Bool, List, Option}
use Rattle.std.specs.declared.fs.options.OpenOptions.{OpenOptions}
use Rattle.xfs_options.specs.Words.{Words}
use Rattle.xfs_disk.specs.declared.stamp.Stamp.{Stamp}
use Rattle.xfs_program.specs.Calling.{EndsWith}
use Rattle.xfs_system.specs.Opening.{IsTaken, image_word}
use Rattle.xfs_program.specs.Purposes.{purpose_in}
use Rattle.xfs_system.specs.Stamps.{IsDrawn}
use Rattle.xfs_system.specs.declared.purpose.Purpose.{Purpose}
use Rattle.xfs_system.specs.declared.purpose.Purpose.TheVariants.{Nothing}
use Rattle.xfs_tools.specs.declared.answer.Status.{Status}

-- A call was made with the words that were given and a stamp that was drawn: the image of the last word was taken for what the words ask for,
-- or for nothing where the standard streams can't be held, and the program ends with what was done.
pub record IsPerformed {I : Type 0} (gives_words : Words → Type 0) (tells_time : ℕ → Type 0) (draws : List ℕ → Type 0) (lacks_streams : Type 0)
    (opens : List ℕ → OpenOptions → I → Type 0) (refuses : List ℕ → OpenOptions → Type 0) (says_used : List ℕ → Bool → Type 0) (is_none : I → Type 0)
    (done : Stamp → Words → I → I → Status → Type 0) (same : Type 0) (code : ℕ) : Type 0 where
  pub words : Words
  pub stamp : Stamp
  pub purpose : Purpose
  pub image : Option I
  pub given : gives_words words
  pub drawn : IsDrawn tells_time draws stamp
  pub asked : (purpose ≡ purpose_in words) ⊎ ((purpose ≡ Nothing) × lacks_streams)
  pub taken : IsTaken opens refuses says_used is_none (image_word words) purpose image
  pub ends : EndsWith (done stamp words) same image code
