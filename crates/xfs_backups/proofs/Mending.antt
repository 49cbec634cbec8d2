-- What an image is once the plan of its backups is written.
use Rattle.std.proofs.Common.{◌≡◌, ◌≢◌, ℕ, zero, suc, ◌+◌, ◌*◌, ◌<◌, ◌≤◌, ◌⊎◌, inl, inr, Bool, true, false, if◌then◌else◌, List, [], ◌∷◌, length, slice_set, refl, sym, ap, ◌∙◌, subst, get_or-set_same, get_or-set_other, length-set, arith}
use Rattle.std.proofs.Math.Nat.{mul-lt-mul_of_pos_right}
use Rattle.std.proofs.lemmas.Bool.{cases_eq, cases_lt}
use Rattle.xfs_disk.specs.Blocks.{Image, bytes_of_block}
use Rattle.xfs_geom.specs.Superblocks.{is_agreeing}
use Rattle.xfs_geom.specs.Volumes.{stated_volume}
use Rattle.xfs_writing.proofs.Steps.{written-append}
use Rattle.xfs_geom.specs.Election.{super_of}
use Rattle.xfs_backups.specs.Backups.{with_super, step_of, start_of, steps_from}
use Rattle.xfs_writing.specs.Writing.{Writes, written}

pub block_set_same : (image : Image) (at : ℕ) (bytes : List ℕ) → at < length image → bytes_of_block (slice_set image at bytes) at ≡ bytes
block_set_same image at bytes within =
    get_or-set_same image at bytes [] within

pub block_set_other : (image : Image) (at b : ℕ) (bytes : List ℕ) → b ≢ at → bytes_of_block (slice_set image at bytes) b ≡ bytes_of_block image b
block_set_other image at b bytes apart =
    get_or-set_other image at b bytes [] apart

-- a plan changes no number of blocks
pub length-written : (plan : Writes) (image : Image) → length (written plan image) ≡ length image
length-written [] image = refl
length-written (write ∷ plan) image = length-written plan (slice_set image write.0 write.1) ∙ length-set image write.0 write.1

-- what becomes of a backup's block
unfoldable pub mended_block : List ℕ → List ℕ → List ℕ
mended_block primary block = if is_agreeing (stated_volume primary) (super_of block) then block else with_super primary block

pub step_agreeing : (primary : List ℕ) (at : ℕ) (block : List ℕ) → is_agreeing (stated_volume primary) (super_of block) ≡ true
    → step_of primary at block ≡ []
unfolding step_of
step_agreeing primary at block agreeing = rw agreeing refl

pub step_mending : (primary : List ℕ) (at : ℕ) (block : List ℕ) → is_agreeing (stated_volume primary) (super_of block) ≡ false
    → step_of primary at block ≡ (at, with_super primary block) ∷ []
unfolding step_of
step_mending primary at block agreeing = rw agreeing refl

pub mended_agreeing : (primary block : List ℕ) → is_agreeing (stated_volume primary) (super_of block) ≡ true → mended_block primary block ≡ block
unfolding mended_block
mended_agreeing primary block agreeing = rw agreeing refl

pub mended_other : (primary block : List ℕ) → is_agreeing (stated_volume primary) (super_of block) ≡ false
    → mended_block primary block ≡ with_super primary block
unfolding mended_block
mended_other primary block agreeing = rw agreeing refl

-- a step leaves every block but its own
pub step_other : (primary : List ℕ) (at : ℕ) (block : List ℕ) (image : Image) (b : ℕ) → b ≢ at
    → bytes_of_block (written (step_of primary at block) image) b ≡ bytes_of_block image b
step_other primary at block image b apart = by_case (is_agreeing (stated_volume primary) (super_of block)) refl
  where
    by_case : (r : Bool) → is_agreeing (stated_volume primary) (super_of block) ≡ r
        → bytes_of_block (written (step_of primary at block) image) b ≡ bytes_of_block image b
    by_case true agreeing = ap (λ (p : Writes). bytes_of_block (written p image) b) (step_agreeing primary at block agreeing)
    by_case false agreeing =
        ap (λ (p : Writes). bytes_of_block (written p image) b) (step_mending primary at block agreeing)
        ∙ block_set_other image at b (with_super primary block) apart

-- a step mends its own block
pub step_same : (primary : List ℕ) (at : ℕ) (block : List ℕ) (image : Image) → at < length image → bytes_of_block image at ≡ block
    → bytes_of_block (written (step_of primary at block) image) at ≡ mended_block primary block
step_same primary at block image within held = by_case (is_agreeing (stated_volume primary) (super_of block)) refl
  where
    by_case : (r : Bool) → is_agreeing (stated_volume primary) (super_of block) ≡ r
        → bytes_of_block (written (step_of primary at block) image) at ≡ mended_block primary block
    by_case true agreeing =
        ap (λ (p : Writes). bytes_of_block (written p image) at) (step_agreeing primary at block agreeing)
        ∙ held ∙ sym (mended_agreeing primary block agreeing)
    by_case false agreeing =
        ap (λ (p : Writes). bytes_of_block (written p image) at) (step_mending primary at block agreeing)
        ∙ block_set_same image at (with_super primary block) within ∙ sym (mended_other primary block agreeing)

-- groups of some blocks begin at different blocks
pub starts_differ : (primary : List ℕ) (k m : ℕ) → 0 < (stated_volume primary).agblocks → k ≢ m → start_of primary k ≢ start_of primary m
unfolding start_of
starts_differ primary k m some apart same =
    elim (cases_lt k m) [
      | inl less ↦ absurd (let w : k * (stated_volume primary).agblocks < m * (stated_volume primary).agblocks = mul-lt-mul_of_pos_right less some in omega arith)
      | inr more ↦
          absurd (let above : m < k = omega arith in
          let w : m * (stated_volume primary).agblocks < k * (stated_volume primary).agblocks = mul-lt-mul_of_pos_right above some in omega arith)
    ]

-- the steps leave every block at which none of their groups begins
pub steps_other : (primary : List ℕ) (image : Image) (n g : ℕ) (j : Image) (b : ℕ) → ((k : ℕ) → g ≤ k → k < g + n → b ≢ start_of primary k)
    → bytes_of_block (written (steps_from primary image g n) j) b ≡ bytes_of_block j b
steps_other primary image zero g j b apart = refl
steps_other primary image (suc n) g j b apart =
    let step : Writes = step_of primary (start_of primary g) (bytes_of_block image (start_of primary g)) in
    ap (λ (i : Image). bytes_of_block i b) (written-append step (steps_from primary image (g + 1) n) j)
    ∙ steps_other primary image n (g + 1) (written step j) b (λ k low high. apart k (omega arith) (omega arith))
    ∙ step_other primary (start_of primary g) (bytes_of_block image (start_of primary g)) j b (apart g (omega arith) (omega arith))

-- the steps mend the block at which each of their groups begins
pub steps_same : (primary : List ℕ) (image : Image) (n g : ℕ) (j : Image) (k : ℕ) → 0 < (stated_volume primary).agblocks
    → g ≤ k → k < g + n → start_of primary k < length j → bytes_of_block j (start_of primary k) ≡ bytes_of_block image (start_of primary k)
    → bytes_of_block (written (steps_from primary image g n) j) (start_of primary k) ≡ mended_block primary (bytes_of_block image (start_of primary k))
steps_same primary image zero g j k some low high within held = absurd (omega arith)
steps_same primary image (suc n) g j k some low high within held =
    let step : Writes = step_of primary (start_of primary g) (bytes_of_block image (start_of primary g)) in
    ap (λ (i : Image). bytes_of_block i (start_of primary k)) (written-append step (steps_from primary image (g + 1) n) j)
    ∙ first_or_later (cases_eq k g)
    (λ later.
    steps_same primary image n (g + 1) (written step j) k some (omega arith) (omega arith)
    (subst (λ (l : ℕ). start_of primary k < l) (sym (length-written step j)) within)
    (step_other primary (start_of primary g) (bytes_of_block image (start_of primary g)) j (start_of primary k) (starts_differ primary k g some later) ∙ held))
  where
    first_or_later : (k ≡ g) ⊎ (k ≢ g)
        → (k ≢ g → bytes_of_block (written (steps_from primary image (g + 1) n) (written (step_of primary (start_of primary g) (bytes_of_block image (start_of primary g))) j)) (start_of primary k)
        ≡ mended_block primary (bytes_of_block image (start_of primary k)))
        → bytes_of_block (written (steps_from primary image (g + 1) n) (written (step_of primary (start_of primary g) (bytes_of_block image (start_of primary g))) j)) (start_of primary k)
        ≡ mended_block primary (bytes_of_block image (start_of primary k))
    first_or_later (inl same) in_rest =
        steps_other primary image n (g + 1) (written (step_of primary (start_of primary g) (bytes_of_block image (start_of primary g))) j) (start_of primary k)
        (λ m low' high'. starts_differ primary k m some (λ (e : k ≡ m). omega arith))
        ∙ subst (λ (h : ℕ). bytes_of_block (written (step_of primary (start_of primary h) (bytes_of_block image (start_of primary h))) j) (start_of primary k)
        ≡ mended_block primary (bytes_of_block image (start_of primary k))) same
        (step_same primary (start_of primary k) (bytes_of_block image (start_of primary k)) j within held)
    first_or_later (inr later) in_rest = in_rest later
