-- What the writes of a new superblock leave.
use Rattle.std.proofs.Common.{◌≡◌, ℕ, ◌+◌, ◌-◌, ◌≤◌, inl, inr, List, length, replicate, arith, refl, ◌∙◌, IsTrue}
use Rattle.xfs_geom.specs.Superblocks.{super_seal}
use Rattle.xfs_geom.specs.Volumes.{Volume}
use Rattle.xfs_word.specs.Field.{part_of, KeepsBeside, KeepsParts}
use Rattle.xfs_word.specs.Seal.{is_sealed}
use Rattle.xfs_empty.specs.Supers.{HasLabel, HasNumbers, IsNewSuper, place_numbers, part_numbers, size_numbers, counter_numbers, feature_numbers}
use Rattle.xfs_empty.proofs.Accepted.{HasAll}
use Rattle.xfs_empty.proofs.Numbers.{part_of_zeros, still}

-- all numbers stand once the features are written
pub all_stand : (v : Volume) (s1 s2 s3 s4 s5 : List ℕ) → HasNumbers s1 (place_numbers v) → HasNumbers s2 (part_numbers v)
    → HasNumbers s3 (size_numbers v) → HasNumbers s4 counter_numbers → HasNumbers s5 feature_numbers
    → KeepsBeside s1 s2 56 44 → KeepsBeside s2 s3 100 28 → KeepsBeside s3 s4 128 52 → KeepsBeside s4 s5 180 84 → HasAll v s5
all_stand v s1 s2 s3 s4 s5 places parts sizes counters features keeps2 keeps3 keeps4 keeps5 =
    record {
      places =
          still s4 s5 180 84 (place_numbers v) keeps5 refl
          (still s3 s4 128 52 (place_numbers v) keeps4 refl
          (still s2 s3 100 28 (place_numbers v) keeps3 refl (still s1 s2 56 44 (place_numbers v) keeps2 refl places)));
      parts =
          still s4 s5 180 84 (part_numbers v) keeps5 refl
          (still s3 s4 128 52 (part_numbers v) keeps4 refl (still s2 s3 100 28 (part_numbers v) keeps3 refl parts));
      sizes = still s4 s5 180 84 (size_numbers v) keeps5 refl (still s3 s4 128 52 (size_numbers v) keeps4 refl sizes);
      counters = still s4 s5 180 84 counter_numbers keeps5 refl counters;
      features = features;
    }

-- a seal changes none of them
pub all_sealed : (v : Volume) (s t : List ℕ) → KeepsBeside s t 224 4 → HasAll v s → HasAll v t
all_sealed v s t keeps h =
    record {
      places = still s t 224 4 (place_numbers v) keeps refl h.places;
      parts = still s t 224 4 (part_numbers v) keeps refl h.parts;
      sizes = still s t 224 4 (size_numbers v) keeps refl h.sizes;
      counters = still s t 224 4 counter_numbers keeps refl h.counters;
      features = still s t 224 4 feature_numbers keeps refl h.features;
    }

-- the parts beside the numbers, through the writes behind the places of the volume
pub record HasParts (s0 s1 s2 s3 s4 s5 s6 : List ℕ) : Type 0 where
  pub zero' : s0 ≡ replicate 512 0
  pub places : KeepsParts s0 s1 0 56
  pub parts : KeepsParts s1 s2 56 44
  pub sizes : KeepsParts s2 s3 100 28
  pub counters : KeepsParts s3 s4 128 52
  pub features : KeepsParts s4 s5 180 84
  pub sealed : KeepsParts s5 s6 224 4

pub uuid_stands : (s0 s1 s2 s3 s4 s5 s6 uuid : List ℕ) → HasParts s0 s1 s2 s3 s4 s5 s6 → part_of s1 32 16 ≡ uuid → part_of s6 32 16 ≡ uuid
uuid_stands s0 s1 s2 s3 s4 s5 s6 uuid h put =
    h.sealed 32 16 (inl (omega arith)) ∙ (h.features 32 16 (inl (omega arith)) ∙ (h.counters 32 16 (inl (omega arith))
    ∙ (h.sizes 32 16 (inl (omega arith)) ∙ (h.parts 32 16 (inl (omega arith)) ∙ put))))

label_part : (s3 s4 s5 s6 : List ℕ) (at width : ℕ) → at + width ≤ 128 → KeepsParts s3 s4 128 52 → KeepsParts s4 s5 180 84 → KeepsParts s5 s6 224 4
    → part_of s6 at width ≡ part_of s3 at width
label_part s3 s4 s5 s6 at width low counters features sealed =
    sealed at width (inl (omega arith)) ∙ (features at width (inl (omega arith)) ∙ counters at width (inl low))

pub label_stands : (s0 s1 s2 s3 s4 s5 s6 label : List ℕ) → HasParts s0 s1 s2 s3 s4 s5 s6 → length label ≤ 12 → HasLabel label s3 → HasLabel label s6
label_stands s0 s1 s2 s3 s4 s5 s6 label h short put =
    record {
      text = label_part s3 s4 s5 s6 108 (length label) (omega arith) h.counters h.features h.sealed ∙ put.text;
      zero' = label_part s3 s4 s5 s6 (108 + length label) (12 - length label) (omega arith) h.counters h.features h.sealed ∙ put.zero';
    }

pub rest_stands : (s0 s1 s2 s3 s4 s5 s6 : List ℕ) → HasParts s0 s1 s2 s3 s4 s5 s6 → part_of s6 264 248 ≡ replicate 248 0
rest_stands s0 s1 s2 s3 s4 s5 s6 h =
    h.sealed 264 248 (inr (omega arith)) ∙ (h.features 264 248 (inr (omega arith)) ∙ (h.counters 264 248 (inr (omega arith))
    ∙ (h.sizes 264 248 (inr (omega arith)) ∙ (h.parts 264 248 (inr (omega arith)) ∙ (h.places 264 248 (inr (omega arith))
    ∙ rw h.zero' (part_of_zeros 512 264 248 (omega arith)))))))

pub new_super : (v : Volume) (s0 s1 s2 s3 s4 s5 s6 label : List ℕ) → HasParts s0 s1 s2 s3 s4 s5 s6 → HasAll v s6 → length label ≤ 12
    → part_of s1 32 16 ≡ v.uuid → HasLabel label s3 → part_of s5 248 16 ≡ replicate 16 0 → IsTrue (is_sealed super_seal s6) → IsNewSuper v label s6
new_super v s0 s1 s2 s3 s4 s5 s6 label h all short uuid text none sealed =
    record {
      places = all.places;
      parts = all.parts;
      sizes = all.sizes;
      counters = all.counters;
      features = all.features;
      uuid' = uuid_stands s0 s1 s2 s3 s4 s5 s6 v.uuid h uuid;
      label' = label_stands s0 s1 s2 s3 s4 s5 s6 label h short text;
      no_uuid = h.sealed 248 16 (inr (omega arith)) ∙ none;
      rest = rest_stands s0 s1 s2 s3 s4 s5 s6 h;
      sealed = sealed;
    }
