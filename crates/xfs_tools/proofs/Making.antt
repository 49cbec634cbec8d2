-- What a call of mkfs.xfs answers whose words were refused, or asked for a volume.
use Rattle.std.proofs.Common.{◌≡◌, Bool, Option, None, Some, Result, Ok, Err, inl, inr, ap, refl, subst, sym, ◌∙◌}
use Rattle.xfs_mkfs.specs.declared.outcome.MadeSummary.{MadeSummary}
use Rattle.xfs_mkfs.specs.declared.outcome.MakeOutcome.{MakeOutcome}
use Rattle.xfs_options.specs.MakeWords.{IsMakeCause, Refusal, bad, usage}
use Rattle.xfs_options.specs.declared.make_words.MakeFault.{MakeFault}
use Rattle.xfs_options.specs.declared.make_words.MakeFault.TheVariants.{BadOption, NoMemory, Offends}
use Rattle.xfs_options.specs.declared.make_words.MakeLine.{MakeLine}
use Rattle.xfs_options.specs.declared.make_words.MakeOptions.{MakeOptions}
use Rattle.xfs_tools.specs.Generating.{made_in}
use Rattle.xfs_tools.specs.Making.{IsMaking, make_refusal}
use Rattle.xfs_tools.specs.declared.answer.Answer.{Answer}

module _ (same : Type 0) (is_same : same) (done : MakeOptions → MakeOutcome → Type 0) (quiet : Bool) where
  -- memory lacked, whatever the words say
  without_memory : (said : Result MakeLine Refusal) → IsMaking said same done (make_refusal NoMemory) quiet
  without_memory (Ok line) = inl (record { answer_is = inl refl; untouched = is_same })
  without_memory (Err (usage n)) = record { answer_is = inr refl; untouched = is_same }
  without_memory (Err (bad word item)) = record { answer_is = inr refl; untouched = is_same }

  by_fault : (said : Result MakeLine Refusal) → (fault : MakeFault) → IsMakeCause said fault → IsMaking said same done (make_refusal fault) quiet
  by_fault said (Offends n) cause =
      subst (λ (due : Result MakeLine Refusal). IsMaking due same done (make_refusal (Offends n)) quiet) (sym cause)
      (record { answer_is = inl refl; untouched = is_same })
  by_fault said (BadOption word item) cause =
      subst (λ (due : Result MakeLine Refusal). IsMaking due same done (make_refusal (BadOption word item)) quiet) (sym cause)
      (record { answer_is = inl refl; untouched = is_same })
  by_fault said NoMemory cause = without_memory said

  -- the answer to words that could not be read
  pub refused_is_making : (said : Result MakeLine Refusal) → (fault : MakeFault) → IsMakeCause said fault
      → (answer : Answer) → answer ≡ make_refusal fault → IsMaking said same done answer quiet
  refused_is_making said fault cause answer is = subst (λ (a : Answer). IsMaking said same done a quiet) (sym is) (by_fault said fault cause)

-- it tells of no volume
refusal_made : (fault : MakeFault) → made_in (make_refusal fault) ≡ None
refusal_made (Offends n) = refl
refusal_made (BadOption word item) = refl
refusal_made NoMemory = refl

pub refused_made : (fault : MakeFault) → (answer : Answer) → answer ≡ make_refusal fault → made_in answer ≡ None
refused_made fault answer is = ap made_in is ∙ refusal_made fault

no_summary : (summary : MadeSummary) → None ≡ Some summary → ⊥
no_summary summary e = cc

pub refused_none : (fault : MakeFault) → (answer : Answer) → answer ≡ make_refusal fault → (summary : MadeSummary) → made_in answer ≡ Some summary → ⊥
refused_none fault answer is summary made = no_summary summary (sym (refused_made fault answer is) ∙ made)
