use Rattle.std.proofs.Common.{◌≡◌, ℕ, ◌==◌, ◌&&◌, ◌||◌, not, Bool, true, false, Some, sym, ap, ◌∙◌}
use Rattle.std.proofs.lemmas.Bool.{eq-eqb, ne_eqb}
use Rattle.std.specs.Option.{option_copied}
use Rattle.xfs_geom.specs.Volumes.{volume_of}
use Rattle.xfs_inode.specs.Files.{is_link}
use Rattle.xfs_inode.specs.Forks.{core_type, link_place}
use Rattle.xfs_inode.proofs.conditions.has_link_target.Goals.{then-core_type-ne10-via-then-core_type-ne10, then-core_type-ne10-via-else-core_type-ne10+then-core-ne2}
use Rattle.xfs_inode.proofs.conditions.has_link_target.Goals as goal

pub returns-then-core_type-ne10 : goal.returns-then-core_type-ne10
returns-then-core_type-ne10 c =
    let a = c.args in
    let core = a.core.now in
    let v = volume_of a.g.now in
    let link = is_link v a.ino core a.slot.now (link_place v core a.slot.now) (option_copied a.link) in
    elim c.then-core_type-ne10.branch [
      | then-core_type-ne10-via-then-core_type-ne10 w ↦
          let other : (core_type core == 10) ≡ false = ap (λ (n : ℕ). n == 10) (sym c.core_type.ensures) ∙ ne_eqb c.core_type.result 10 w.if-core_type-ne10.true in
          record {
            value = sym (λ i. not (other i && core.format == 2) || link);
            short = λ _ e _. absurd (w.if-core_type-ne10.true (c.core_type.ensures ∙ e));
          }
      | then-core_type-ne10-via-else-core_type-ne10+then-core-ne2 w ↦
          let same : (core_type core == 10) ≡ true = ap (λ (n : ℕ). n == 10) (sym c.core_type.ensures) ∙ eq-eqb c.core_type.result 10 w.if-core_type-ne10.false in
          let other : (core.format == 2) ≡ false = ne_eqb core.format 2 w.if-core-ne2.true in
          record {
            value = sym (λ i. not (same i && other i) || link);
            short = λ _ _ e. absurd (w.if-core-ne2.true e);
          }
    ]

pub returns-in-Some-Some : goal.returns-in-Some-Some
returns-in-Some-Some c =
    let a = c.args in
    let core = a.core.now in
    let v = volume_of a.g.now in
    let same : (core_type core == 10) ≡ true = ap (λ (n : ℕ). n == 10) (sym c.core_type.ensures) ∙ eq-eqb c.core_type.result 10 c.if-core_type-ne10.false in
    let listed : (core.format == 2) ≡ true = eq-eqb core.format 2 c.if-core-ne2.false in
    let place : link_place v core a.slot.now ≡ Some c.in-Some-Some.place = sym c.link_place.ensures.value ∙ c.in-Some-Some.is-0 in
    record {
      value = c.holds_target.ensures.value ∙ sym (λ i. not (same i && listed i) || is_link v a.ino core a.slot.now (place i) (option_copied (c.in-Some-Some.is-1 i)));
      short = λ e _ _. c.holds_target.ensures.short e;
    }
