use Rattle.std.proofs.Common.{◌≡◌, ◌-◌, ◌==◌, Bool, true, false, if◌then◌else◌, [], Option, Some, None, IfOk, sym, ap, subst, ◌∙◌}
use Rattle.std.proofs.lemmas.Bool.{eq-eqb, ne_eqb}
use Rattle.std.specs.Option.{option_copied}
use Rattle.xfs_attr.specs.ShortForm.{short_attributes}
use Rattle.xfs_geom.specs.Volumes.{volume_of}
use Rattle.xfs_word.specs.Field.{part_of}
use Rattle.xfs_inode.specs.Files.{AttrFork, fork_with, leaf_held, no_attrs}
use Rattle.xfs_inode.specs.Forks.{attr_place}
use Rattle.xfs_inode.specs.Slots.{attribute_start}
use Rattle.xfs_inode.proofs.attributes.attr_fork.Goals as goal

abbrev by_tests : Bool → Bool → Bool → Bool → Option AttrFork → Option AttrFork → Option AttrFork
by_tests zero local listed none short leaf =
    if zero then Some no_attrs else if local then short else if listed then (if none then Some no_attrs else leaf) else None

pub returns-then-core-eq0 : goal.returns-then-core-eq0
returns-then-core-eq0 c =
    let a = c.args in
    let core = a.core.now in
    let slot = a.slot.now in
    let v = volume_of a.g.now in
    let gone : (core.forkoff == 0) ≡ true = eq-eqb core.forkoff 0 c.if-core-eq0.true in
    let short = fork_with [] [] (short_attributes (part_of slot (attribute_start core.forkoff) (512 - attribute_start core.forkoff))) in
    ap (λ (f : AttrFork). Some f) c.none.ensures
    ∙ sym (λ i. by_tests (gone i) (core.aformat == 1) (core.aformat == 2) (core.anextents == 0) short (leaf_held v a.ino core slot (attr_place v core slot) (option_copied a.attr_leaf)))

pub returns-in-1 : goal.returns-in-1
returns-in-1 c =
    let a = c.args in
    let core = a.core.now in
    let slot = a.slot.now in
    let v = volume_of a.g.now in
    let some : (core.forkoff == 0) ≡ false = ne_eqb core.forkoff 0 c.if-core-eq0.false in
    let short = fork_with [] [] (short_attributes (part_of slot (attribute_start core.forkoff) (512 - attribute_start core.forkoff))) in
    subst (λ (f : Option AttrFork). IfOk c.short_held.result (λ held. held ≡ f))
    (sym (λ i. by_tests (some i) (c.in-1.is i == 1) (core.aformat == 2) (core.anextents == 0) short (leaf_held v a.ino core slot (attr_place v core slot) (option_copied a.attr_leaf))))
    c.short_held.ensures

pub returns-in-2 : goal.returns-in-2
returns-in-2 c =
    let a = c.args in
    let core = a.core.now in
    let slot = a.slot.now in
    let v = volume_of a.g.now in
    let some : (core.forkoff == 0) ≡ false = ne_eqb core.forkoff 0 c.if-core-eq0.false in
    let none : (core.anextents == 0) ≡ true = eq-eqb core.anextents 0 c.if-core-eq0-2.true in
    let short = fork_with [] [] (short_attributes (part_of slot (attribute_start core.forkoff) (512 - attribute_start core.forkoff))) in
    ap (λ (f : AttrFork). Some f) c.none-in-2.ensures
    ∙ sym (λ i. by_tests (some i) (c.in-2.is i == 1) (c.in-2.is i == 2) (none i) short (leaf_held v a.ino core slot (attr_place v core slot) (option_copied a.attr_leaf)))

pub returns-in-2-2 : goal.returns-in-2-2
returns-in-2-2 c =
    let a = c.args in
    let core = a.core.now in
    let slot = a.slot.now in
    let v = volume_of a.g.now in
    let some : (core.forkoff == 0) ≡ false = ne_eqb core.forkoff 0 c.if-core-eq0.false in
    let full : (core.anextents == 0) ≡ false = ne_eqb core.anextents 0 c.if-core-eq0-2.false in
    let short = fork_with [] [] (short_attributes (part_of slot (attribute_start core.forkoff) (512 - attribute_start core.forkoff))) in
    subst (λ (f : Option AttrFork). IfOk c.leaf_held.result (λ held. held ≡ f))
    (sym (λ i. by_tests (some i) (c.in-2.is i == 1) (c.in-2.is i == 2) (full i) short (leaf_held v a.ino core slot (attr_place v core slot) (option_copied a.attr_leaf))))
    c.leaf_held.ensures
