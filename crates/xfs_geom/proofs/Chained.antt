-- Writes of fields that stand one behind the other.
use Rattle.std.proofs.Common.{◌≡◌, ℕ, ◌+◌, List, inl, inr, ◌∙◌, arith}
use Rattle.xfs_word.specs.Field.{Beside}

-- what is read beside a run of bytes and beside the run behind it, which were written one after the other, is as before both
pub next : {X : Type 0} (read : List ℕ → ℕ → ℕ → X) (b0 b1 b2 : List ℕ) (at width behind rest : ℕ) → behind ≡ at + width
    → ((a w : ℕ) → Beside at width a w → read b1 a w ≡ read b0 a w) → ((a w : ℕ) → Beside behind rest a w → read b2 a w ≡ read b1 a w)
    → (a w : ℕ) → Beside at (width + rest) a w → read b2 a w ≡ read b0 a w
next read b0 b1 b2 at width behind rest e first second a w beside = second a w (later beside) ∙ first a w (sooner beside)
  where
    sooner : Beside at (width + rest) a w → Beside at width a w
    sooner b = elim b [ inl low ↦ inl low | inr high ↦ inr (omega arith) ]

    later : Beside at (width + rest) a w → Beside behind rest a w
    later b = elim b [ inl low ↦ inl (omega arith) | inr high ↦ inr (omega arith) ]
