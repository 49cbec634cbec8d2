-- What the one or two keys of a node's child leave of a block.
use Rattle.std.proofs.Common.{◌≡◌, ℕ, ◌+◌, ◌*◌, inl, inr, Bool, false, if◌then◌else◌, List, ◌∙◌, ap, arith}
use Rattle.xfs_word.specs.Field.{Beside, KeepsBeside, KeepsParts}
use Rattle.xfs_tree.specs.declared.layout.Layout.{Layout}
use Rattle.xfs_tree.specs.Layout.{keys_len}

pub one_len : (l : Layout) → l.high ≡ false → keys_len l ≡ l.key_len
one_len l one = ap (λ (r : Bool). if r then 2 * l.key_len else l.key_len) one

beside_low : (at k a w : ℕ) → Beside at (2 * k) a w → Beside at k a w
beside_low at k a w b = elim b [ inl low ↦ inl low | inr high ↦ inr (omega (arith, high)) ]

beside_high : (at k a w : ℕ) → Beside at (2 * k) a w → Beside (at + k) k a w
beside_high at k a w b = elim b [ inl low ↦ inl (omega (arith, low)) | inr high ↦ inr (omega (arith, high)) ]

-- a low key is written, then a high one behind it
pub pair_beside : (old mid new : List ℕ) (at k : ℕ) → KeepsBeside old mid at k → KeepsBeside mid new (at + k) k → KeepsBeside old new at (2 * k)
pair_beside old mid new at k first next = λ a w b. next a w (beside_high at k a w b) ∙ first a w (beside_low at k a w b)

pub pair_parts : (old mid new : List ℕ) (at k : ℕ) → KeepsParts old mid at k → KeepsParts mid new (at + k) k → KeepsParts old new at (2 * k)
pair_parts old mid new at k first next = λ a w b. next a w (beside_high at k a w b) ∙ first a w (beside_low at k a w b)
