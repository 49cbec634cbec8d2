-- The cuts are those before the middle one, it, and those after it; so are the parts.
use Rattle.std.proofs.Common.{◌≡◌, ◌≤◌, ℕ, List, [], ◌+◌, ◌/◌, length, rules, arith, refl, sym, subst}
use Rattle.std.specs.Fork.{AcceptsAt, ChangesAt}
use Rattle.xfs_collections.specs.Bank.{AreCuts}
use Rattle.xfs_collections.specs.Parts.{flat_parts, EachPairFrom}
use Rattle.xfs_collections.proofs.Cuts.{AreCuts-rises, halves, no_cuts, both_cuts, each_in_both, each_of_both}
use Rattle.xfs_collections.proofs.parts.+change_parts.Goals as goal

pub returns-in_default : goal.returns-in_default
returns-in_default g t c =
    let none : c.args.cuts.now ≡ [] = no_cuts c.args.cuts.now c.split_at.result.1.now c.split_at.ensures.back_len c.in_default.ensures.cases in
    let changed : ChangesAt g.F.Fn c.args.f.now c.args.first c.args.bytes.now c.f.new.arg3 = search rules in
    subst (λ (cuts : List ℕ). EachPairFrom (ChangesAt g.F.Fn c.args.f.now) c.args.first (flat_parts c.args.low cuts c.args.bytes.now) (flat_parts c.args.low cuts c.f.new.arg3)) (sym none) (changed, tt)

pub overflow_sub-cut : goal.overflow_sub-cut
overflow_sub-cut g t c =
    let joined = halves (length c.args.cuts.now / 2) c.in-Some.cut.now c.args.cuts.now c.split_at.result.0.now c.split_at.result.1.now c.in-Some.after.now c.split_at.ensures.front c.split_at.ensures.back c.in-Some.ensures.cases.0 in
    let both = both_cuts c.args.low (c.args.low + length c.args.bytes.now / 4096) c.in-Some.cut.now c.args.cuts.now c.split_at.result.0.now c.in-Some.after.now joined c.requires.cuts in
    AreCuts-rises _ _ _ both.0

pub split_at_mut-front-requires : goal.split_at_mut-front-requires
split_at_mut-front-requires g t c =
    let joined = halves (length c.args.cuts.now / 2) c.in-Some.cut.now c.args.cuts.now c.split_at.result.0.now c.split_at.result.1.now c.in-Some.after.now c.split_at.ensures.front c.split_at.ensures.back c.in-Some.ensures.cases.0 in
    let both = both_cuts c.args.low (c.args.low + length c.args.bytes.now / 4096) c.in-Some.cut.now c.args.cuts.now c.split_at.result.0.now c.in-Some.after.now joined c.requires.cuts in
    let up : c.in-Some.cut.now ≤ c.args.low + length c.args.bytes.now / 4096 = AreCuts-rises _ _ _ both.1 in
    omega arith

pub overflow_mul-cut : goal.overflow_mul-cut
overflow_mul-cut g t c =
    let joined = halves (length c.args.cuts.now / 2) c.in-Some.cut.now c.args.cuts.now c.split_at.result.0.now c.split_at.result.1.now c.in-Some.after.now c.split_at.ensures.front c.split_at.ensures.back c.in-Some.ensures.cases.0 in
    let both = both_cuts c.args.low (c.args.low + length c.args.bytes.now / 4096) c.in-Some.cut.now c.args.cuts.now c.split_at.result.0.now c.in-Some.after.now joined c.requires.cuts in
    let up : c.in-Some.cut.now ≤ c.args.low + length c.args.bytes.now / 4096 = AreCuts-rises _ _ _ both.1 in
    record { fits = omega arith }

pub change_parts-requires : goal.change_parts-requires
change_parts-requires g t c κs within =
    let cut = c.split_at_mut-front in
    let joined = halves (length c.args.cuts.now / 2) c.in-Some.cut.now c.args.cuts.now c.split_at.result.0.now c.split_at.result.1.now c.in-Some.after.now c.split_at.ensures.front c.split_at.ensures.back c.in-Some.ensures.cases.0 in
    let both = both_cuts c.args.low (c.args.low + length c.args.bytes.now / 4096) c.in-Some.cut.now c.args.cuts.now c.split_at.result.0.now c.in-Some.after.now joined c.requires.cuts in
    let each = each_in_both c.args.low (c.args.low + length c.args.bytes.now / 4096) c.in-Some.cut.now c.args.cuts.now c.split_at.result.0.now c.in-Some.after.now joined c.requires.cuts c.args.first (c.args.first + length c.split_at.result.0.now + 1) refl
    (AcceptsAt g.F.Fn c.args.f.now) c.args.bytes.now cut.result.0.now cut.result.1.now cut.ensures.front cut.ensures.back c.requires.accepts in
    let up : c.args.low ≤ c.in-Some.cut.now = AreCuts-rises _ _ _ both.0 in
    let high : c.in-Some.cut.now ≡ c.args.low + length cut.result.0.now / 4096 = omega (arith, cut.ensures.front_len) in
    (search rules, (within, (subst (λ (n : ℕ). AreCuts c.args.low n c.split_at.result.0.now) high both.0, (omega (arith, c.requires.room, c.split_at.ensures.front_len), each.0))))

pub change_parts-requires-2 : goal.change_parts-requires-2
change_parts-requires-2 g t c κs within =
    let cut = c.split_at_mut-front in
    let joined = halves (length c.args.cuts.now / 2) c.in-Some.cut.now c.args.cuts.now c.split_at.result.0.now c.split_at.result.1.now c.in-Some.after.now c.split_at.ensures.front c.split_at.ensures.back c.in-Some.ensures.cases.0 in
    let both = both_cuts c.args.low (c.args.low + length c.args.bytes.now / 4096) c.in-Some.cut.now c.args.cuts.now c.split_at.result.0.now c.in-Some.after.now joined c.requires.cuts in
    let each = each_in_both c.args.low (c.args.low + length c.args.bytes.now / 4096) c.in-Some.cut.now c.args.cuts.now c.split_at.result.0.now c.in-Some.after.now joined c.requires.cuts c.args.first (c.args.first + length c.split_at.result.0.now + 1) refl
    (AcceptsAt g.F.Fn c.args.f.now) c.args.bytes.now cut.result.0.now cut.result.1.now cut.ensures.front cut.ensures.back c.requires.accepts in
    let up : c.args.low ≤ c.in-Some.cut.now = AreCuts-rises _ _ _ both.0 in
    let down : c.in-Some.cut.now ≤ c.args.low + length c.args.bytes.now / 4096 = AreCuts-rises _ _ _ both.1 in
    let high : c.args.low + length c.args.bytes.now / 4096 ≡ c.in-Some.cut.now + length cut.result.1.now / 4096 = omega (arith, cut.ensures.back_len) in
    (search rules, (within, (subst (λ (n : ℕ). AreCuts c.in-Some.cut.now n c.in-Some.after.now) high both.1, (omega (arith, c.requires.room, c.split_at.ensures.front_len, c.split_at.ensures.back_len, c.in-Some.ensures.cases.1), each.1))))

pub returns : goal.returns
returns g t c =
    let cut = c.split_at_mut-front in
    let joined = halves (length c.args.cuts.now / 2) c.in-Some.cut.now c.args.cuts.now c.split_at.result.0.now c.split_at.result.1.now c.in-Some.after.now c.split_at.ensures.front c.split_at.ensures.back c.in-Some.ensures.cases.0 in
    each_of_both c.args.low (c.args.low + length c.args.bytes.now / 4096) c.in-Some.cut.now c.args.cuts.now c.split_at.result.0.now c.in-Some.after.now joined c.requires.cuts c.args.first (c.args.first + length c.split_at.result.0.now + 1) refl
    (ChangesAt g.F.Fn c.args.f.now) c.args.bytes.now cut.result.0.now cut.result.1.now c.change_parts.new.bytes c.change_parts-2.new.bytes cut.ensures.front cut.ensures.back (search rules) c.change_parts.ensures c.change_parts-2.ensures
