use Rattle.std.proofs.Common.{◌≡◌, ℕ, ◌==◌, ◌&&◌, nat_le, Bool, true, false, sym, ap, ◌∙◌, arith}
use Rattle.std.proofs.lemmas.Bool.{eq-eqb, le-leb, lt-leb, ne_eqb, true≢false}
use Rattle.xfs_geom.specs.Volumes.{volume_of}
use Rattle.xfs_word.specs.Field.{field_of}
use Rattle.xfs_word.specs.Seal.{is_sealed}
use Rattle.xfs_word.specs.declared.extents.Extent.{Extent}
use Rattle.xfs_word.specs.declared.kinds.Seal.{Seal}
use Rattle.xfs_inode.specs.Files.{link_seal}
use Rattle.xfs_inode.specs.Forks.{fork_extent}
use Rattle.xfs_inode.proofs.conditions.holds_target.Goals.{then-core-lt1-via-then-core-lt1, then-core-lt1-via-else-core-lt1+then-core-gt-LONGEST_TARGET, then-core-lt1-via-else-core-lt1+else-core-gt-LONGEST_TARGET+then-fork_extent-ne0}
use Rattle.xfs_inode.proofs.conditions.holds_target.Goals as goal

abbrev all_six : Bool → Bool → Bool → Bool → Bool → Bool → Bool
all_six low high first sealed zero long = low && high && first && sealed && zero && long

pub returns-then-core-lt1 : goal.returns-then-core-lt1
returns-then-core-lt1 c =
    let a = c.args in
    let size = a.core.now.size in
    let block = a.block.now in
    let first = (fork_extent a.slot.now 0).offset == 0 in
    let sealed = is_sealed (link_seal (volume_of a.g.now) a.ino a.place) block in
    elim c.then-core-lt1.branch [
      | then-core-lt1-via-then-core-lt1 w ↦
          let none : nat_le 1 size ≡ false = lt-leb 1 size w.if-core-lt1.true in
          record {
            value = sym (λ i. all_six (none i) (nat_le size 1024) first sealed (field_of block 4 4 == 0) (field_of block 8 4 == size));
            short = λ e. absurd (true≢false (sym e));
          }
      | then-core-lt1-via-else-core-lt1+then-core-gt-LONGEST_TARGET w ↦
          let low : nat_le 1 size ≡ true = le-leb 1 size (omega (arith, w.if-core-lt1.false)) in
          let over : nat_le size 1024 ≡ false = lt-leb size 1024 w.if-core-gt-LONGEST_TARGET.true in
          record {
            value = sym (λ i. all_six (low i) (over i) first sealed (field_of block 4 4 == 0) (field_of block 8 4 == size));
            short = λ e. absurd (true≢false (sym e));
          }
      | then-core-lt1-via-else-core-lt1+else-core-gt-LONGEST_TARGET+then-fork_extent-ne0 w ↦
          let low : nat_le 1 size ≡ true = le-leb 1 size (omega (arith, w.if-core-lt1.false)) in
          let high : nat_le size 1024 ≡ true = le-leb size 1024 (omega (arith, w.if-core-gt-LONGEST_TARGET.false)) in
          let late : first ≡ false = ap (λ (e : Extent). e.offset == 0) (sym w.fork_extent.ensures) ∙ ne_eqb w.fork_extent.result.offset 0 w.if-fork_extent-ne0.true in
          record {
            value = sym (λ i. all_six (low i) (high i) (late i) sealed (field_of block 4 4 == 0) (field_of block 8 4 == size));
            short = λ e. absurd (true≢false (sym e));
          }
    ]

pub returns-then-not-sealed : goal.returns-then-not-sealed
returns-then-not-sealed c =
    let a = c.args in
    let size = a.core.now.size in
    let block = a.block.now in
    let low : nat_le 1 size ≡ true = le-leb 1 size (omega (arith, c.if-core-lt1.false)) in
    let high : nat_le size 1024 ≡ true = le-leb size 1024 (omega (arith, c.if-core-gt-LONGEST_TARGET.false)) in
    let first : ((fork_extent a.slot.now 0).offset == 0) ≡ true = ap (λ (e : Extent). e.offset == 0) (sym c.fork_extent.ensures) ∙ eq-eqb c.fork_extent.result.offset 0 c.if-fork_extent-ne0.false in
    let broken : is_sealed (link_seal (volume_of a.g.now) a.ino a.place) block ≡ false = ap (λ (s : Seal). is_sealed s block) (sym c.link_seal.ensures) ∙ sym c.sealed.ensures ∙ c.if-not-sealed.true in
    record {
      value = sym (λ i. all_six (low i) (high i) (first i) (broken i) (field_of block 4 4 == 0) (field_of block 8 4 == size));
      short = λ e. absurd (true≢false (sym e));
    }

pub returns-then-get32-eq0 : goal.returns-then-get32-eq0
returns-then-get32-eq0 c =
    let a = c.args in
    let size = a.core.now.size in
    let block = a.block.now in
    let low : nat_le 1 size ≡ true = le-leb 1 size (omega (arith, c.if-core-lt1.false)) in
    let high : nat_le size 1024 ≡ true = le-leb size 1024 (omega (arith, c.if-core-gt-LONGEST_TARGET.false)) in
    let first : ((fork_extent a.slot.now 0).offset == 0) ≡ true = ap (λ (e : Extent). e.offset == 0) (sym c.fork_extent.ensures) ∙ eq-eqb c.fork_extent.result.offset 0 c.if-fork_extent-ne0.false in
    let sound : is_sealed (link_seal (volume_of a.g.now) a.ino a.place) block ≡ true = ap (λ (s : Seal). is_sealed s block) (sym c.link_seal.ensures) ∙ sym c.sealed.ensures ∙ c.if-not-sealed.false in
    let zero : (field_of block 4 4 == 0) ≡ true = ap (λ (n : ℕ). n == 0) (sym c.get32.ensures) ∙ eq-eqb c.get32.result 0 c.if-get32-eq0.true in
    record {
      value = sym (λ i. all_six (low i) (high i) (first i) (sound i) (zero i) (sym c.get32-then-get32-eq0.ensures i == size));
      short = λ _. omega (arith, c.if-core-gt-LONGEST_TARGET.false);
    }
