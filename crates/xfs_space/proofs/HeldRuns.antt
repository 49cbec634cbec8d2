-- What a map of owners gives a block, one run after the other.
use Rattle.std.proofs.Common.{◌≡◌, ℕ, true, false, ◌+◌, ◌*◌, ◌^◌, ◌<◌, nat_le, nat_lt, List, [], ◌∷◌, Option, Some, sym, ◌∙◌, ap, refl}
use Rattle.std.proofs.lemmas.Bool.{and_parts, ltb-true}
use Rattle.xfs_geom.specs.Runs.{covers}
use Rattle.xfs_disk.specs.Lists.{is_in_range}
use Rattle.xfs_geom.specs.declared.records.Run.{Run}
use Rattle.xfs_kinds.specs.MergedRuns.{held_at, offset_word_at}
use Rattle.xfs_volume.specs.Laws.{nothing}
use Rattle.xfs_space.specs.SpaceLaws.{owner_number}

pub covered : (x : Run) (b : ℕ) → covers b x ≡ true → b < x.start + x.count
covered x b has = ltb-true b (x.start + x.count) (and_parts (nat_le x.start b) (nat_lt b (x.start + x.count)) has).1

-- a run that does not have the block is passed
pub held_next : (left : List Run) (x : Run) (rest : List Run) (b : ℕ) (whole : Option (ℕ × ℕ)) → left ≡ x ∷ rest → covers b x ≡ false → held_at left b ≡ whole → held_at rest b ≡ whole
held_next left x rest b whole is off same = sym (ap (λ (rs : List Run). held_at rs b) is ∙ passed) ∙ same
  where
    passed : held_at (x ∷ rest) b ≡ held_at rest b
    passed = let not : is_in_range x.start x.count b ≡ false = off in rw not refl

-- the first run that has it says what it is given
pub held_here : (left : List Run) (x : Run) (rest : List Run) (b number : ℕ) (whole : Option (ℕ × ℕ)) → left ≡ x ∷ rest → covers b x ≡ true → held_at left b ≡ whole
    → number ≡ x.owner * 2 ^ 64 + offset_word_at x b → number ≡ owner_number whole
held_here left x rest b number whole is on same from = from ∙ ap owner_number (sym found ∙ sym (ap (λ (rs : List Run). held_at rs b) is) ∙ same)
  where
    found : held_at (x ∷ rest) b ≡ Some (x.owner, offset_word_at x b)
    found = let has : is_in_range x.start x.count b ≡ true = on in rw has refl

pub none_held : (left : List Run) (b : ℕ) (whole : Option (ℕ × ℕ)) → left ≡ [] → held_at left b ≡ whole → nothing ≡ owner_number whole
none_held left b whole none same = ap owner_number (sym (ap (λ (rs : List Run). held_at rs b) none) ∙ same)
