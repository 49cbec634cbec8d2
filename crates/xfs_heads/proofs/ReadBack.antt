-- What is put is read as the same values.
use Rattle.std.proofs.Common.{◌≡◌, ℕ, Bool, true, false, cond, List, Some, refl, ap, ◌∙◌}
use Rattle.std.specs.Cmp.Derive.{both_true}
use Rattle.xfs_word.specs.Crc.{little_field_of}
use Rattle.xfs_word.specs.Seal.{is_sealed}
use Rattle.xfs_word.specs.declared.kinds.SealKind.TheVariants as Kind
use Rattle.xfs_geom.specs.Volumes.{Volume}
use Rattle.xfs_heads.specs.Heads.{head_seal}
use Rattle.xfs_heads.specs.FreeSpace.{stated_agf, is_agf_shaped, agf_of}
use Rattle.xfs_heads.specs.declared.free_space.Agf.{Agf}
use Rattle.xfs_heads.specs.Inodes.{stated_agi, is_agi_shaped, agi_of}
use Rattle.xfs_heads.specs.declared.inodes.Agi.{Agi}

pub if_true : {X : Type 0} (b : Bool) (x y : X) → b ≡ true → cond b x y ≡ x
if_true true x y h = refl
if_true false x y h = cc

pub read_back_agf : (v : Volume) (ag : ℕ) (agf : Agf) (old new : List ℕ)
    → stated_agf old ≡ record agf { crc = little_field_of old 216 4 }
    → stated_agf new ≡ record (stated_agf old) { crc = little_field_of new 216 4 }
    → is_sealed (head_seal Kind.Agf v ag) new ≡ true → is_agf_shaped v ag agf ≡ true
    → agf_of v ag new ≡ Some (record agf { crc = little_field_of new 216 4 })
unfolding agf_of
read_back_agf v ag agf old new was is sealed shape =
    let same : stated_agf new ≡ record agf { crc = little_field_of new 216 4 } =
    is ∙ ap (λ (a : Agf). record a { crc = little_field_of new 216 4 }) was in
    if_true _ _ _ (both_true sealed (ap (is_agf_shaped v ag) same ∙ shape)) ∙ ap Some same

pub if_false : {X : Type 0} (b : Bool) (x y : X) → b ≡ false → cond b x y ≡ y
if_false true x y h = cc
if_false false x y h = refl

pub read_back_agi : (v : Volume) (ag : ℕ) (agi : Agi) (old new : List ℕ)
    → stated_agi old ≡ record agi { crc = little_field_of old 312 4 }
    → stated_agi new ≡ record (stated_agi old) { crc = little_field_of new 312 4 }
    → is_sealed (head_seal Kind.Agi v ag) new ≡ true → is_agi_shaped v ag agi ≡ true
    → agi_of v ag new ≡ Some (record agi { crc = little_field_of new 312 4 })
unfolding agi_of
read_back_agi v ag agi old new was is sealed shape =
    let same : stated_agi new ≡ record agi { crc = little_field_of new 312 4 } =
    is ∙ ap (λ (a : Agi). record a { crc = little_field_of new 312 4 }) was in
    if_true _ _ _ (both_true sealed (ap (is_agi_shaped v ag) same ∙ shape)) ∙ ap Some same
