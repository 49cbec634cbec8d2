use Rattle.std.proofs.Common.{◌≡◌, ℕ, ◌+◌, ◌*◌, ◌/◌, ◌%◌, ◌^◌, ◌<◌, ◌≤◌, ◌==◌, ◌||◌, not, Bool, bit_and, Fits, w16, w64, eq-eqb, ne_eqb, sym, ap, ◌∙◌, arith}
use Rattle.std.proofs.lemmas.Nat.{and_mask}
use Rattle.xfs_geom.specs.Volumes.{volume_of}
use Rattle.xfs_geom.specs.Conversions.{is_fixed}
use Rattle.xfs_kinds.specs.InodeTrees.{is_missing}
use Rattle.xfs_kinds.proofs.chunks.is_block_free_of_use.Goals as goal

twice : (n : ℕ) → n < 8 → Fits w64 (2 * n)
twice n less = omega arith

twice_short : (n : ℕ) → n < 8 → Fits w16 (2 * n)
twice_short n less = omega arith

shift : (n : ℕ) → n < 8 → 2 * n < 16
shift n less = omega arith

sum_fits : (n most : ℕ) → n < most → most ≤ 2 ^ 26 → Fits w64 n
sum_fits n most less small = omega arith

pub overflow_mul-block : goal.overflow_mul-block
overflow_mul-block c = twice c.args.block c.requires.block

pub overflow_cast-block : goal.overflow_cast-block
overflow_cast-block c = twice_short c.args.block c.requires.block

pub overflow_shr-holemask : goal.overflow_shr-holemask
overflow_shr-holemask c = shift c.args.block c.requires.block

pub overflow_add-start : goal.overflow_add-start
overflow_add-start c = sum_fits (c.args.start + c.args.block) c.args.g.now.dblocks c.requires.inside c.args.g.now.shape.groups.small

pub is_fixed-requires : goal.is_fixed-requires
is_fixed-requires c = c.requires.inside

masked : (holemask block : ℕ) → block < 8 → bit_and (holemask / 2 ^ (2 * block)) 1 ≡ holemask / 2 ^ (8 * block / 4) % 2
masked holemask block less =
    let place : 2 * block ≡ 8 * block / 4 = omega arith in
    and_mask (holemask / 2 ^ (2 * block)) 1 ∙ ap (λ (n : ℕ). holemask / 2 ^ n % 2) place

missing : (holemask block : ℕ) (free : Bool) → block < 8 → bit_and (holemask / 2 ^ (2 * block)) 1 ≡ 1
    → (bit_and (holemask / 2 ^ (2 * block)) 1 == 1) ≡ (is_missing holemask (8 * block) || free)
missing holemask block free less is =
    eq-eqb (bit_and (holemask / 2 ^ (2 * block)) 1) 1 is
    ∙ sym (ap (λ (b : Bool). b || free) (eq-eqb (holemask / 2 ^ (8 * block / 4) % 2) 1 (sym (masked holemask block less) ∙ is)))

there : (holemask block : ℕ) (free : Bool) → block < 8 → (bit_and (holemask / 2 ^ (2 * block)) 1 ≡ 1 → ⊥) → (is_missing holemask (8 * block) || free) ≡ free
there holemask block free less other =
    ap (λ (b : Bool). b || free) (ne_eqb (holemask / 2 ^ (8 * block / 4) % 2) 1 (λ e. other (masked holemask block less ∙ e)))

pub returns-then-holemask-block-eq1 : goal.returns-then-holemask-block-eq1
returns-then-holemask-block-eq1 c = missing c.args.holemask c.args.block (not (is_fixed (volume_of c.args.g.now) (c.args.start + c.args.block))) c.requires.block c.if-holemask-block-eq1.true

pub returns-else-holemask-block-eq1 : goal.returns-else-holemask-block-eq1
returns-else-holemask-block-eq1 c =
    let free = not (is_fixed (volume_of c.args.g.now) (c.args.start + c.args.block)) in
    ap not c.is_fixed.ensures ∙ sym (there c.args.holemask c.args.block free c.requires.block c.if-holemask-block-eq1.false)
