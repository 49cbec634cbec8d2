-- What stands in a block that an image does not have.
use Rattle.std.proofs.Common.{◌≡◌, ℕ, ◌≤◌, Bool, List, [], length, drop, slice_get, Option, Some, None, true, false, eqb, refl, sym, subst, ap, ◌∙◌, arith}
use Rattle.std.proofs.lemmas.Option.{get_or_from_slice_get}
use Rattle.std.proofs.lemmas.List.{drop_all, get_or_past}
use Rattle.std.proofs.lemmas.Bool.{eq-eqb, eqb-true}
use Rattle.std.specs.Option.{option_eq}
use Rattle.xfs_word.specs.Field.{field_of}
use Rattle.xfs_disk.specs.Blocks.{Image, bytes_of_block}
use Rattle.xfs_journal.specs.Placed.{HoldsBlock}

past_end : (image : Image) (block : ℕ) → length image ≤ block → bytes_of_block image block ≡ []
past_end image block past = get_or_past image block [] past

nothing_held : (at : ℕ) → field_of [] at 8 ≡ 0
unfolding field_of
nothing_held at = let none : drop {A = ℕ} at [] ≡ [] = drop_all at [] (omega arith) in rw none refl

pub no_number : (image : Image) (block at : ℕ) → length image ≤ block → field_of (bytes_of_block image block) at 8 ≡ 0
no_number image block at past = ap (λ (bytes : List ℕ). field_of bytes at 8) (past_end image block past) ∙ nothing_held at

-- a block that was read
pub read_bytes : (image : Image) (at : ℕ) (block : List ℕ) → slice_get image at ≡ Some block → bytes_of_block image at ≡ block
read_bytes image at block is = get_or_from_slice_get image at block [] is

-- the block that is held is the one that is asked
pub is_held : (image : Image) (held : Option ℕ) (block : ℕ) (bytes : List ℕ) → option_eq eqb held (Some block) ≡ true → HoldsBlock image held bytes → bytes_of_block image block ≡ bytes
is_held image None block bytes same holds = cc
is_held image (Some at) block bytes same holds = subst (λ (b : ℕ). bytes_of_block image b ≡ bytes) (eqb-true at block same) holds

-- a block that is asked is held, where the test says so
pub is_asked : (held : Option ℕ) (block : ℕ) → option_eq eqb held (Some block) ≡ true → held ≡ Some block
is_asked None block same = cc
is_asked (Some at) block same = ap Some (eqb-true at block same)

-- and else it is not
pub not_asked : (held : Option ℕ) (block a b : ℕ) → option_eq eqb held (Some block) ≡ false → held ≡ Some block → a ≡ b
not_asked held block a b other same = apart (option_eq eqb held (Some block)) (subst (λ (h : Option ℕ). option_eq eqb h (Some block) ≡ true) (sym same) (eq-eqb block block refl)) other
  where
    apart : (test : Bool) → test ≡ true → test ≡ false → a ≡ b
    apart test is other = cc
