use Rattle.std.proofs.Common.{Bool, true, false, ◌<◌, length-append, zero, suc, ◌≡◌, ◌+◌, ◌++◌, ◌∷◌, [], ◌-◌, ℕ, List, length, get_or, sym, ◌∙◌, ap, subst, arith}
use Rattle.std.proofs.lemmas.Bool.{true≢false}
use Rattle.std.proofs.lemmas.Result.{IfOk-from_err}
use Rattle.xfs_place.specs.declared.uses.Use.{Use}
use Rattle.xfs_place.specs.declared.uses.Use.TheVariants.{Claimed}
use Rattle.xfs_place.specs.Pool.{is_open, use_at}
use Rattle.xfs_place.specs.Choice.{AreFound, in_pool, met_neighbours}
use Rattle.xfs_place.proofs.Found.{found_all, found_few, found_more, free_few, rank_on, sum_read, sums_small}
use Rattle.xfs_place.proofs.Ranks.{free_step}
use Rattle.xfs_place.proofs.lowest.Lowest.take_next.Goals as goal

pub returns-in_default-clause-all : goal.returns-in_default-clause-all
returns-in_default-clause-all c =
    let l = c.args.self.now in
    λ _. found_all c.args.uses.now l.blocks.items l.space.items l.inodes.items l.next l.free c.requires.stands c.in_default.ensures

pub overflow_add-space : goal.overflow_add-space
overflow_add-space c =
    let l = c.args.self.now in
    let uses = c.args.uses.now in
    let last : c.len-last.result ≡ length l.blocks.items = omega (arith, c.len-last.ensures, l.blocks.ok.0) in
    let read = sum_read l.space.items l.blocks.items c.len-last.result c.index.result.now c.index.ensures last c.requires.stands.space'.all in
    let small = sums_small uses false l.blocks.items l.space.items (length l.blocks.items) c.requires.stands.space' (omega arith) in
    let few = found_few uses l.blocks.items l.space.items l.inodes.items l.next l.free c.requires.stands in
    omega (arith, read, small, few, c.meets_space.ensures.small, c.requires.few)

pub overflow_add-inodes : goal.overflow_add-inodes
overflow_add-inodes c =
    let l = c.args.self.now in
    let uses = c.args.uses.now in
    let last : c.len-last.result ≡ length l.blocks.items = omega (arith, c.len-last.ensures, l.blocks.ok.0) in
    let read = sum_read l.inodes.items l.blocks.items c.len-last.result c.index-2.result.now c.index-2.ensures last c.requires.stands.inodes'.all in
    let small = sums_small uses true l.blocks.items l.inodes.items (length l.blocks.items) c.requires.stands.inodes' (omega arith) in
    let few = found_few uses l.blocks.items l.space.items l.inodes.items l.next l.free c.requires.stands in
    omega (arith, read, small, few, c.meets_inodes.ensures.small, c.requires.few)

pub overflow_add-free : goal.overflow_add-free
overflow_add-free c =
    let l = c.args.self.now in
    omega (arith, c.requires.stands.free', free_few c.args.uses.now (length l.blocks.items), c.free_beside.ensures.small, c.requires.few)

pub overflow_sub-free : goal.overflow_sub-free
overflow_sub-free c =
    let l = c.args.self.now in
    let uses = c.args.uses.now in
    let x = c.in-Some.block in
    let at = rank_on uses l.next x c.in-Some.ensures.0 c.in-Some.ensures.3 ∙ c.requires.stands.at in
    let step = free_step uses c.requires.header (length l.blocks.items) x c.in-Some.ensures.2 at in
    omega (arith, step, c.requires.stands.free', c.free_beside.ensures.value)

-- what was pushed, in place of what it is
put : (uses : List Use) (blocks space inodes b s i : List ℕ) (next free : ℕ) → b ≡ blocks → s ≡ space → i ≡ inodes → AreFound uses blocks space inodes next free
    → AreFound uses b s i next free
put uses blocks space inodes b s i next free hb hs hi found =
    subst (λ (xs : List ℕ). AreFound uses xs s i next free) (sym hb)
    (subst (λ (xs : List ℕ). AreFound uses blocks xs i next free) (sym hs)
    (subst (λ (xs : List ℕ). AreFound uses blocks space xs next free) (sym hi) found))

pub returns-clause-stands : goal.returns-clause-stands
returns-clause-stands c =
    let l = c.args.self.now in
    let uses = c.args.uses.now in
    let x = c.in-Some.block in
    let last : c.len-last.result ≡ length l.blocks.items = omega (arith, c.len-last.ensures, l.blocks.ok.0) in
    let s = c.index.result.now + c.meets_space.result in
    let i = c.index-2.result.now + c.meets_inodes.result in
    let f = l.free + c.free_beside.result - 1 in
    let hs : s ≡ get_or l.space.items (length l.blocks.items) 0 + met_neighbours uses false x =
    omega (arith, sum_read l.space.items l.blocks.items c.len-last.result c.index.result.now c.index.ensures last c.requires.stands.space'.all, c.meets_space.ensures.value) in
    let hi : i ≡ get_or l.inodes.items (length l.blocks.items) 0 + met_neighbours uses true x =
    omega (arith, sum_read l.inodes.items l.blocks.items c.len-last.result c.index-2.result.now c.index-2.ensures last c.requires.stands.inodes'.all, c.meets_inodes.ensures.value) in
    let more = found_more uses l.blocks.items l.space.items l.inodes.items l.next l.free x s i f c.requires.header c.requires.stands
    c.in-Some.ensures.0 c.in-Some.ensures.1 c.in-Some.ensures.2 c.in-Some.ensures.3 hs hi (ap (λ (n : ℕ). l.free + n - 1) c.free_beside.ensures.value) in
    put uses (l.blocks.items ++ x ∷ []) (l.space.items ++ s ∷ []) (l.inodes.items ++ i ∷ []) c.push.new.self.items c.push-2.new.self.items c.push-3.new.self.items (x + 1) f
    c.in_ok-push.ensures.items c.in_ok-push-2.ensures.items c.in_ok-push-3.ensures.items more

-- a block of the pool is not the first
behind_header : (uses : List Use) (block : ℕ) → use_at uses 0 ≡ Claimed → in_pool uses block ≡ true → 0 < block
behind_header uses zero header clear = absurd (true≢false (sym clear ∙ ap is_open header))
behind_header uses (suc block) header clear = omega arith

pub meets_space-requires : goal.meets_space-requires
meets_space-requires c = (behind_header c.args.uses.now c.in-Some.block c.requires.header c.in-Some.ensures.2, c.in-Some.ensures.1)

pub meets_inodes-requires : goal.meets_inodes-requires
meets_inodes-requires c = (behind_header c.args.uses.now c.in-Some.block c.requires.header c.in-Some.ensures.2, c.in-Some.ensures.1)

pub free_beside-requires : goal.free_beside-requires
free_beside-requires c = (behind_header c.args.uses.now c.in-Some.block c.requires.header c.in-Some.ensures.2, c.in-Some.ensures.1)

pub returns-clause-taken : goal.returns-clause-taken
returns-clause-taken c =
    ap (λ (xs : List ℕ). length xs) c.in_ok-push.ensures.items ∙ length-append c.args.self.now.blocks.items (c.in-Some.block ∷ [])

pub returns-clause-all : goal.returns-clause-all
returns-clause-all c = λ none. absurd (true≢false none)

pub returns-in_default-clause-stands : goal.returns-in_default-clause-stands
returns-in_default-clause-stands c = c.requires.stands

pub returns-in_err-push-clause-stands : goal.returns-in_err-push-clause-stands
returns-in_err-push-clause-stands c = IfOk-from_err c.from_residual.result _ c.from_residual.ensures.0

pub returns-in_err-push-clause-taken : goal.returns-in_err-push-clause-taken
returns-in_err-push-clause-taken c = IfOk-from_err c.from_residual.result _ c.from_residual.ensures.0

pub returns-in_err-push-clause-all : goal.returns-in_err-push-clause-all
returns-in_err-push-clause-all c = IfOk-from_err c.from_residual.result _ c.from_residual.ensures.0

pub returns-in_err-push-2-clause-stands : goal.returns-in_err-push-2-clause-stands
returns-in_err-push-2-clause-stands c = IfOk-from_err c.from_residual-in_err-push-2.result _ c.from_residual-in_err-push-2.ensures.0

pub returns-in_err-push-2-clause-taken : goal.returns-in_err-push-2-clause-taken
returns-in_err-push-2-clause-taken c = IfOk-from_err c.from_residual-in_err-push-2.result _ c.from_residual-in_err-push-2.ensures.0

pub returns-in_err-push-2-clause-all : goal.returns-in_err-push-2-clause-all
returns-in_err-push-2-clause-all c = IfOk-from_err c.from_residual-in_err-push-2.result _ c.from_residual-in_err-push-2.ensures.0

pub returns-in_err-push-3-clause-stands : goal.returns-in_err-push-3-clause-stands
returns-in_err-push-3-clause-stands c = IfOk-from_err c.from_residual-in_err-push-3.result _ c.from_residual-in_err-push-3.ensures.0

pub returns-in_err-push-3-clause-taken : goal.returns-in_err-push-3-clause-taken
returns-in_err-push-3-clause-taken c = IfOk-from_err c.from_residual-in_err-push-3.result _ c.from_residual-in_err-push-3.ensures.0

pub returns-in_err-push-3-clause-all : goal.returns-in_err-push-3-clause-all
returns-in_err-push-3-clause-all c = IfOk-from_err c.from_residual-in_err-push-3.result _ c.from_residual-in_err-push-3.ensures.0
