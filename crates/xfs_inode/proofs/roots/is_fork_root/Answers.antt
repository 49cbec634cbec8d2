use Rattle.std.proofs.Common.{◌≡◌, ℕ, ◌+◌, ◌*◌, ◌≤◌, true, false, nat_le, sym, ap, ◌∙◌, subst, arith}
use Rattle.std.proofs.lemmas.Bool.{true≢false, le-leb, lt-leb}
use Rattle.xfs_geom.specs.Volumes.{volume_of}
use Rattle.xfs_inode.specs.Forks.{are_addresses, has_children, keys_ascend, root_capacity, root_count}
use Rattle.xfs_inode.proofs.ForkRoots.{fork_by}
use Rattle.xfs_inode.proofs.roots.is_fork_root.Goals as goal

pub keys_ascend-requires-clause-room : goal.keys_ascend-requires-clause-room
keys_ascend-requires-clause-room c =
    let count = c.has_children.ensures.count c.if-not-has_children.false in
    let room = c.root_capacity-capacity.ensures.room (omega (arith, c.if-core-gt41.false)) in
    omega (arith, count, room, c.requires)

pub keys_ascend-requires-clause-whole : goal.keys_ascend-requires-clause-whole
keys_ascend-requires-clause-whole c = c.requires

pub are_addresses-requires-clause-whole : goal.are_addresses-requires-clause-whole
are_addresses-requires-clause-whole c = c.requires

pub are_addresses-requires-clause-count : goal.are_addresses-requires-clause-count
are_addresses-requires-clause-count c = c.has_children.ensures.count c.if-not-has_children.false

pub are_addresses-requires-clause-room : goal.are_addresses-requires-clause-room
are_addresses-requires-clause-room c = c.root_capacity-capacity.ensures.room (omega (arith, c.if-core-gt41.false))

pub returns-then-core-gt41 : goal.returns-then-core-gt41
returns-then-core-gt41 c =
    let v = volume_of c.args.g.now in
    let forkoff = c.args.core.now.forkoff in
    let slot = c.args.slot.now in
    let capacity = root_capacity forkoff in
    let over : nat_le forkoff 41 ≡ false = lt-leb forkoff 41 c.if-core-gt41.true in
    record {
      value = sym (λ i. fork_by (over i) (has_children capacity slot) (keys_ascend slot) (are_addresses v capacity slot));
      count = λ e. absurd (true≢false (sym e));
      room = λ e. absurd (true≢false (sym e));
      level = λ e. absurd (true≢false (sym e));
    }

pub returns-then-not-has_children : goal.returns-then-not-has_children
returns-then-not-has_children c =
    let v = volume_of c.args.g.now in
    let forkoff = c.args.core.now.forkoff in
    let slot = c.args.slot.now in
    let capacity = root_capacity forkoff in
    let inside : nat_le forkoff 41 ≡ true = le-leb forkoff 41 (omega (arith, c.if-core-gt41.false)) in
    let none : has_children capacity slot ≡ false = sym (c.has_children.ensures.value ∙ ap (λ (n : ℕ). has_children n slot) c.root_capacity-capacity.ensures.value) ∙ c.if-not-has_children.true in
    record {
      value = sym (λ i. fork_by (inside i) (none i) (keys_ascend slot) (are_addresses v capacity slot));
      count = λ e. absurd (true≢false (sym e));
      room = λ e. absurd (true≢false (sym e));
      level = λ e. absurd (true≢false (sym e));
    }

pub returns-else-keys_ascend : goal.returns-else-keys_ascend
returns-else-keys_ascend c =
    let v = volume_of c.args.g.now in
    let forkoff = c.args.core.now.forkoff in
    let slot = c.args.slot.now in
    let capacity = root_capacity forkoff in
    let inside : nat_le forkoff 41 ≡ true = le-leb forkoff 41 (omega (arith, c.if-core-gt41.false)) in
    let some : has_children capacity slot ≡ true = sym (c.has_children.ensures.value ∙ ap (λ (n : ℕ). has_children n slot) c.root_capacity-capacity.ensures.value) ∙ c.if-not-has_children.false in
    let falls : keys_ascend slot ≡ false = sym c.keys_ascend.ensures ∙ c.if-keys_ascend.false in
    record {
      value = c.if-keys_ascend.false ∙ sym (λ i. fork_by (inside i) (some i) (falls i) (are_addresses v capacity slot));
      count = λ e. absurd (true≢false (sym e ∙ c.if-keys_ascend.false));
      room = λ e. absurd (true≢false (sym e ∙ c.if-keys_ascend.false));
      level = λ e. absurd (true≢false (sym e ∙ c.if-keys_ascend.false));
    }

pub returns-then-keys_ascend : goal.returns-then-keys_ascend
returns-then-keys_ascend c =
    let v = volume_of c.args.g.now in
    let forkoff = c.args.core.now.forkoff in
    let slot = c.args.slot.now in
    let capacity = root_capacity forkoff in
    let stated = c.root_capacity-capacity.ensures in
    let below : forkoff ≤ 41 = omega (arith, c.if-core-gt41.false) in
    let inside : nat_le forkoff 41 ≡ true = le-leb forkoff 41 below in
    let some : has_children capacity slot ≡ true = sym (c.has_children.ensures.value ∙ ap (λ (n : ℕ). has_children n slot) stated.value) ∙ c.if-not-has_children.false in
    let ascends : keys_ascend slot ≡ true = sym c.keys_ascend.ensures ∙ c.if-keys_ascend.true in
    let named : are_addresses v capacity slot ≡ c.are_addresses.result = sym (c.are_addresses.ensures ∙ ap (λ (n : ℕ). are_addresses v n slot) stated.value) in
    record {
      value = sym (λ i. fork_by (inside i) (some i) (ascends i) (named i));
      count = λ e. subst (λ (n : ℕ). root_count slot ≤ n) stated.value (c.has_children.ensures.count c.if-not-has_children.false);
      room = λ e. subst (λ (n : ℕ). 180 + 16 * n ≤ 512) stated.value (stated.room below);
      level = λ e. c.has_children.ensures.level c.if-not-has_children.false;
    }
