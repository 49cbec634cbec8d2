-- The parts of the bank are those of its bytes.
use Rattle.std.proofs.Common.{◌≡◌, ℕ, List, ◌+◌, ◌/◌, ◌-◌, ◌∷◌, Some, get_or, take, drop, length, rules, arith, refl, ap, sym, subst, ◌∙◌}
use Rattle.std.specs.List.{concat}
use Rattle.std.specs.Fork.{AcceptsAt, ChangesAt}
use Rattle.std.specs.Vec.{with_items}
use Rattle.std.proofs.lemmas.List.{with_items_is}
use Rattle.xfs_disk.specs.Blocks.{Image}
use Rattle.xfs_disk.specs.Memory.{blocks_of_bytes}
use Rattle.xfs_collections.specs.Bank.{AreCuts, parts_of}
use Rattle.xfs_collections.specs.Parts.{flat_parts, EachFrom, EachPairFrom}
use Rattle.xfs_collections.proofs.Blocks.{length-blocks_of}
use Rattle.xfs_collections.proofs.Cuts.{held_parts, part_at, concat-parts_from, length-parts_from, accepts_in_turn, changes_each}
use Rattle.xfs_collections.proofs.bank.BlockBank.each_part.Goals as goal

pub change_parts-requires-clause-cuts : goal.change_parts-requires-clause-cuts
change_parts-requires-clause-cuts g c =
    let items = c.self.inside.bytes.items in
    let count : length c.args.self.now ≡ 0 + length c.deref_mut.result.now / 4096 = omega (arith, ap length c.self.view_is, length-blocks_of (length items / 4096) items, ap length c.deref_mut.ensures.value) in
    subst (λ (n : ℕ). AreCuts 0 n c.args.cuts.now) count c.requires.cuts

pub change_parts-requires-clause-accepts : goal.change_parts-requires-clause-accepts
change_parts-requires-clause-accepts g c =
    let items = c.self.inside.bytes.items in
    let parts : parts_of c.args.cuts.now c.args.self.now ≡ flat_parts 0 c.args.cuts.now c.deref_mut.result.now =
    held_parts (length items / 4096) items c.args.self.now c.args.cuts.now c.self.view_is (omega (arith, c.self.invariant)) c.requires.cuts ∙ ap (λ (xs : List ℕ). flat_parts 0 c.args.cuts.now xs) (sym c.deref_mut.ensures.value) in
    subst (λ (xs : List (List ℕ)). EachFrom (AcceptsAt g.F.Fn c.args.f.now) 0 xs) parts (accepts_in_turn g.F.Fn c.args.f.now (parts_of c.args.cuts.now c.args.self.now) c.requires.accepts)

pub returns-clause-parts : goal.returns-clause-parts
returns-clause-parts g c =
    let vec = c.self.inside.bytes in
    let cuts = c.args.cuts.now in
    let left = c.change_parts.new.bytes in
    let long : length left ≡ vec.len = search rules in
    let now : List ℕ = (with_items vec left).items in
    let same : now ≡ left = with_items_is vec left long in
    let size : length now ≡ length vec.items = omega (arith, ap length same, vec.ok.0) in
    let new : Image = blocks_of_bytes (length now / 4096) now in
    let count : length c.args.self.now ≡ length new = omega (arith, ap length c.self.view_is, length-blocks_of (length vec.items / 4096) vec.items, length-blocks_of (length now / 4096) now) in
    let were : flat_parts 0 cuts c.deref_mut.result.now ≡ parts_of cuts c.args.self.now =
    ap (λ (xs : List ℕ). flat_parts 0 cuts xs) c.deref_mut.ensures.value ∙ sym (held_parts (length vec.items / 4096) vec.items c.args.self.now cuts c.self.view_is (omega (arith, c.self.invariant)) c.requires.cuts) in
    let are : flat_parts 0 cuts left ≡ parts_of cuts new =
    ap (λ (xs : List ℕ). flat_parts 0 cuts xs) (sym same) ∙ sym (held_parts (length now / 4096) now new cuts refl (omega (arith, c.self.invariant)) (subst (λ (n : ℕ). AreCuts 0 n cuts) count c.requires.cuts)) in
    let R = ChangesAt g.F.Fn c.args.f.now in
    changes_each g.F.Fn c.args.f.now (parts_of cuts c.args.self.now) (parts_of cuts new)
    (subst (λ (xs : List (List ℕ)). EachPairFrom R 0 xs (parts_of cuts new)) were (subst (λ (ys : List (List ℕ)). EachPairFrom R 0 (flat_parts 0 cuts c.deref_mut.result.now) ys) are c.change_parts.ensures))

pub returns-clause-len : goal.returns-clause-len
returns-clause-len g c =
    let vec = c.self.inside.bytes in
    let left = c.change_parts.new.bytes in
    let now : List ℕ = (with_items vec left).items in
    omega (arith, ap length c.self.view_is, length-blocks_of (length vec.items / 4096) vec.items, length-blocks_of (length now / 4096) now, (with_items vec left).ok.0, vec.ok.0)

pub returns-clause-joined : goal.returns-clause-joined
returns-clause-joined g c bank = concat-parts_from 0 c.args.cuts.now bank

pub returns-clause-count : goal.returns-clause-count
returns-clause-count g c bank = length-parts_from 0 c.args.cuts.now bank

pub returns-clause-blocks : goal.returns-clause-blocks
returns-clause-blocks g c bank j same within =
    let cuts = c.args.cuts.now in
    let start : ℕ = get_or (0 ∷ cuts) j 0 in
    let none : start - 0 ≡ start = omega arith in
    part_at 0 (length bank) cuts bank j (omega arith) (subst (λ (n : ℕ). AreCuts 0 n cuts) (sym same) c.requires.cuts) within
    ∙ ap (λ (n : ℕ). Some (concat (take (get_or cuts j (length bank) - start) (drop n bank)))) none
