use Rattle.std.proofs.Common.{◌≡◌, ℕ, ◌+◌, ◌-◌, ◌<◌, List, [], length, get_or, set, take, true, false, ◌==◌, ◌||◌, Bool, sym, ◌∙◌, ap, subst, arith}
use Rattle.std.proofs.lemmas.Bool.Decides.{nat_tests}
use Rattle.xfs_disk.specs.Lists.{is_in_range}
use Rattle.xfs_place.specs.declared.uses.Use.{Use}
use Rattle.xfs_place.specs.declared.uses.Use.TheVariants.{Reserved}
use Rattle.xfs_place.specs.Pool.{MarksUses, is_listed}
use Rattle.xfs_place.proofs.Marking.{marks_none, marks_set, marks_then, listed_more, listed_beyond, none_listed}
use Rattle.xfs_place.proofs.uses.reserve.Goals as goal
use Rattle.xfs_place.proofs.uses.reserve.Goals.{then-is_in_range, else-is_in_range}

pub loop-block-init : goal.loop-block-init
loop-block-init c = marks_none c.args.uses.now (λ b. is_listed [] (c.args.from + b)) Reserved (λ b. none_listed (c.args.from + b))

-- a listed block of the range is reserved
put : (from : ℕ) (old mid new : List Use) (blocks : List ℕ) (i : ℕ) → i < length blocks → is_in_range from (length mid) (get_or blocks i 0) ≡ true
    → MarksUses old mid (λ b. is_listed (take i blocks) (from + b)) Reserved → new ≡ set mid (get_or blocks i 0 - from) Reserved
    → MarksUses old new (λ b. is_listed (take (i + 1) blocks) (from + b)) Reserved
put from old mid new blocks i in' inside first is =
    let block = get_or blocks i 0 in
    let at = block - from in
    let low : at < length mid = grind (arith, nat_tests, inside) in
    let back : from + at ≡ block = grind (arith, nat_tests, inside) in
    let next : MarksUses mid new (λ b. b == at) Reserved = subst (λ (us : List Use). MarksUses mid us (λ b. b == at) Reserved) (sym is) (marks_set mid at Reserved low) in
    marks_then old mid new (λ b. is_listed (take i blocks) (from + b)) (λ b. b == at) (λ b. is_listed (take (i + 1) blocks) (from + b)) Reserved first next (λ b h.
    let same : (from + b == block) ≡ (b == at) = grind (arith, nat_tests, back) in
    listed_more blocks i 0 in' (from + b) ∙ ap (λ (t : Bool). is_listed (take i blocks) (from + b) || t) same)

-- another one is passed over
passed : (from : ℕ) (old mid new : List Use) (blocks : List ℕ) (i : ℕ) → i < length blocks → is_in_range from (length mid) (get_or blocks i 0) ≡ false
    → MarksUses old mid (λ b. is_listed (take i blocks) (from + b)) Reserved → new ≡ mid → MarksUses old new (λ b. is_listed (take (i + 1) blocks) (from + b)) Reserved
passed from old mid new blocks i in' far first is =
    let same : MarksUses old mid (λ b. is_listed (take (i + 1) blocks) (from + b)) Reserved = record {
      all = first.all;
      each = λ b h. rw (listed_beyond from blocks i 0 (length mid) in' far b (omega (arith, h, first.all))) (first.each b h);
    } in
    subst (λ (us : List Use). MarksUses old us (λ b. is_listed (take (i + 1) blocks) (from + b)) Reserved) (sym is) same

pub loop-block-preserved : goal.loop-block-preserved
loop-block-preserved c = elim c.if-is_in_range.branch [
  | then-is_in_range w ↦ put c.args.from c.args.uses.now c.loop-block.uses c.if-is_in_range.uses c.args.reserved.now c.loop-block.block-index c.loop-block-test.true
      (sym c.is_in_range.ensures ∙ w.if-is_in_range.true) c.loop-block.invariant w.uses-is
  | else-is_in_range w ↦ passed c.args.from c.args.uses.now c.loop-block.uses c.if-is_in_range.uses c.args.reserved.now c.loop-block.block-index c.loop-block-test.true
      (sym c.is_in_range.ensures ∙ w.if-is_in_range.false) c.loop-block.invariant w.uses-is
]
