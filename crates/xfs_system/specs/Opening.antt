-- How the image of a call is opened (the options of open(2)).
use Rattle.std.specs.Prelude.{ℕ, ◌-◌, ◌⊎◌, Bool, true, false, List, length, Option, Some, None, slice_get, IsUtf8}
use Rattle.std.specs.Fs.{new_options, with_read, with_write}
use Rattle.std.specs.declared.fs.options.OpenOptions.{OpenOptions}
use Rattle.xfs_system.specs.declared.purpose.Purpose.{Purpose}
use Rattle.xfs_system.specs.declared.purpose.Purpose.TheVariants.{Nothing, Reads, Writes}

-- the file is there, keeps what it holds, and is read alone: it is neither made, nor cut short, nor appended to
abbrev pub for_reading : OpenOptions
for_reading = with_read new_options true

-- the file is there, keeps what it holds until a block is written, and is read and written
abbrev pub for_writing : OpenOptions
for_writing = with_write for_reading true

-- the last of the words, which names the image
abbrev pub image_word : List (List ℕ) → Option (List ℕ)
image_word words = slice_get words (length words - 1)

-- The file of this name was opened for reading, where nothing is to be written; else for writing, or for reading where that was refused.
abbrev pub IsHad : {I : Type 0} → (List ℕ → OpenOptions → I → Type 0) → (List ℕ → OpenOptions → Type 0) → List ℕ → Bool → I → Type 0
IsHad opens refuses name false image = opens name for_reading image
IsHad opens refuses name true image = opens name for_writing image ⊎ (refuses name for_writing × opens name for_reading image)

-- the file of this name can't be opened: its name is no text, or it was refused for reading
abbrev pub IsLost : (List ℕ → OpenOptions → Type 0) → List ℕ → Type 0
IsLost refuses name = IsUtf8 name → refuses name for_reading

-- the image is the file of this name, or stands on no file, as that can't be opened
abbrev pub IsImageOf : {I : Type 0} → (List ℕ → OpenOptions → I → Type 0) → (List ℕ → OpenOptions → Type 0) → (I → Type 0) → List ℕ → Bool → I → Type 0
IsImageOf opens refuses is_none name writes image = IsHad opens refuses name writes image ⊎ (is_none image × IsLost refuses name)

-- What a call has for the image of this name: the file of that name, as the call reads or may write it; no file, where it does neither;
-- and nothing, where it may write and the file is said to be in use.
abbrev pub IsTakenBy : {I : Type 0} → (List ℕ → OpenOptions → I → Type 0) → (List ℕ → OpenOptions → Type 0) → (List ℕ → Bool → Type 0) → (I → Type 0)
    → List ℕ → Purpose → Option I → Type 0
IsTakenBy opens refuses says_used is_none name Nothing None = ⊥
IsTakenBy opens refuses says_used is_none name Nothing (Some image) = is_none image
IsTakenBy opens refuses says_used is_none name Reads None = ⊥
IsTakenBy opens refuses says_used is_none name Reads (Some image) = IsImageOf opens refuses is_none name false image
IsTakenBy opens refuses says_used is_none name Writes None = says_used name true
IsTakenBy opens refuses says_used is_none name Writes (Some image) = says_used name false × IsImageOf opens refuses is_none name true image

-- what a call has for its image: that of the last word, or no file where there is no word
abbrev pub IsTaken : {I : Type 0} → (List ℕ → OpenOptions → I → Type 0) → (List ℕ → OpenOptions → Type 0) → (List ℕ → Bool → Type 0) → (I → Type 0)
    → Option (List ℕ) → Purpose → Option I → Type 0
IsTaken opens refuses says_used is_none None purpose None = ⊥
IsTaken opens refuses says_used is_none None purpose (Some image) = is_none image
IsTaken opens refuses says_used is_none (Some name) purpose taken = IsTakenBy opens refuses says_used is_none name purpose taken
