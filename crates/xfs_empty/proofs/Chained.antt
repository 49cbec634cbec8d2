-- Writes of fields that stand one behind the other.
use Rattle.std.proofs.Common.{◌≡◌, ℕ, ◌+◌, ◌≤◌, List, inl, inr, ◌∙◌, arith}
use Rattle.xfs_word.specs.Field.{Beside}

-- what is read beside a run of bytes in which two places were written one after the other is as before both
pub joined : {X : Type 0} (read : List ℕ → ℕ → ℕ → X) (b0 b1 b2 : List ℕ) (at width behind rest all : ℕ)
    → width ≤ all → at ≤ behind → behind + rest ≤ at + all
    → ((a w : ℕ) → Beside at width a w → read b1 a w ≡ read b0 a w) → ((a w : ℕ) → Beside behind rest a w → read b2 a w ≡ read b1 a w)
    → (a w : ℕ) → Beside at all a w → read b2 a w ≡ read b0 a w
joined read b0 b1 b2 at width behind rest all short low high first second a w beside = second a w (later beside) ∙ first a w (sooner beside)
  where
    sooner : Beside at all a w → Beside at width a w
    sooner b = elim b [ inl front ↦ inl front | inr back ↦ inr (omega (arith, short, back)) ]

    later : Beside at all a w → Beside behind rest a w
    later b = elim b [ inl front ↦ inl (omega (arith, low, front)) | inr back ↦ inr (omega (arith, high, back)) ]
