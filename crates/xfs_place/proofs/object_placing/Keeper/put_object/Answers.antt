use Rattle.std.proofs.Common.{◌≡◌, ◌≤◌, ◌++◌, [], ℕ, Bool, true, false, List, Some, None, if◌then◌else◌, length, take, drop, sym, ◌∙◌, ap, subst, arith}
use Rattle.std.proofs.lemmas.Bool.{true≢false}
use Rattle.std.proofs.lemmas.Result.{IfOk-from_err}
use Rattle.xfs_geom.specs.Volumes.{volume_of}
use Rattle.xfs_geom.specs.declared.records.Run.{Run}
use Rattle.xfs_place.specs.Objects.{ServeAsks, keep_asks}
use Rattle.xfs_place.specs.Wanted.{CanBeKept}
use Rattle.xfs_place.specs.declared.wanted.RunAsk.{RunAsk}
use Rattle.xfs_place.proofs.Pieces.{front_long, front_take, object_first, object_none, object_second}
use Rattle.xfs_place.proofs.object_placing.Keeper.put_object.Goals as goal

pub returns-then-branch-clause-placed : goal.returns-then-branch-clause-placed
returns-then-branch-clause-placed c =
    let s = c.args.site.now in
    let now = c.put_asks.new.self.all.items in
    object_first (volume_of s.geometry.now) s.reserved.now s.from s.spared.now s.takes c.args.self.now.all.items c.args.object.now now
    (c.in_ok-put_asks.ensures.placed ∙ ap (λ (t : Bool). if t then Some now else None) c.if-branch.true)

pub returns-then-branch-clause-long : goal.returns-then-branch-clause-long
returns-then-branch-clause-long c = front_long c.args.self.now.all.items c.put_asks.new.self.all.items c.in_ok-put_asks.ensures.front

pub returns-then-branch-clause-cuts : goal.returns-then-branch-clause-cuts
returns-then-branch-clause-cuts c = λ placed. c.in_ok-put_asks.ensures.cuts c.if-branch.true

pub returns-then-not-site-clause-placed : goal.returns-then-not-site-clause-placed
returns-then-not-site-clause-placed c =
    let s = c.args.site.now in
    let now = c.put_asks.new.self.all.items in
    object_none (volume_of s.geometry.now) s.reserved.now s.from s.spared.now s.takes c.args.self.now.all.items c.args.object.now
    (c.in_ok-put_asks.ensures.placed ∙ ap (λ (t : Bool). if t then Some now else None) c.if-branch.false) c.if-not-site.true

pub returns-then-not-site-clause-long : goal.returns-then-not-site-clause-long
returns-then-not-site-clause-long c = front_long c.args.self.now.all.items c.put_asks.new.self.all.items c.in_ok-put_asks.ensures.front

pub give_back-requires-clause-kept : goal.give_back-requires-clause-kept
give_back-requires-clause-kept c =
    let old = c.args.self.now.all in
    subst (CanBeKept (volume_of c.args.site.now.geometry.now)) (sym (front_take c.args.self.now.all.items c.put_asks.new.self.all.items c.len-kept.result c.in_ok-put_asks.ensures.front (omega (arith, c.len-kept.ensures, old.ok.0)))) c.requires.kept

pub put_asks-requires-2-clause-first : goal.put_asks-requires-2-clause-first
put_asks-requires-2-clause-first c =
    let old = c.args.self.now.all in
    let back = c.in_ok-give_back.ensures.all ∙ front_take c.args.self.now.all.items c.put_asks.new.self.all.items c.len-kept.result c.in_ok-put_asks.ensures.front (omega (arith, c.len-kept.ensures, old.ok.0)) in
    omega (arith, c.requires.first, ap length back)

pub put_asks-requires-2-clause-kept : goal.put_asks-requires-2-clause-kept
put_asks-requires-2-clause-kept c =
    let old = c.args.self.now.all in
    let back = c.in_ok-give_back.ensures.all ∙ front_take c.args.self.now.all.items c.put_asks.new.self.all.items c.len-kept.result c.in_ok-put_asks.ensures.front (omega (arith, c.len-kept.ensures, old.ok.0)) in
    subst (CanBeKept (volume_of c.args.site.now.geometry.now)) (sym back) c.requires.kept

pub returns-clause-placed : goal.returns-clause-placed
returns-clause-placed c =
    let s = c.args.site.now in
    let old = c.args.self.now.all in
    let o = c.args.object.now in
    let back = c.in_ok-give_back.ensures.all ∙ front_take c.args.self.now.all.items c.put_asks.new.self.all.items c.len-kept.result c.in_ok-put_asks.ensures.front (omega (arith, c.len-kept.ensures, old.ok.0)) in
    let now = c.put_asks.new.self.all.items in
    object_second (volume_of s.geometry.now) s.reserved.now s.from s.spared.now s.takes old.items o
    (c.in_ok-put_asks.ensures.placed ∙ ap (λ (t : Bool). if t then Some now else None) c.if-branch.false) c.if-not-site.false
    ∙ ap (λ (rs : List Run). keep_asks (volume_of s.geometry.now) s.reserved.now s.from [] o.most rs o.runs) (sym back) ∙ c.in_ok-placed.ensures.placed

pub returns-clause-long : goal.returns-clause-long
returns-clause-long c =
    let old = c.args.self.now.all in
    let back = c.in_ok-give_back.ensures.all ∙ front_take c.args.self.now.all.items c.put_asks.new.self.all.items c.len-kept.result c.in_ok-put_asks.ensures.front (omega (arith, c.len-kept.ensures, old.ok.0)) in
    omega (arith, front_long c.give_back.new.self.all.items c.put_asks-2.new.self.all.items c.in_ok-placed.ensures.front, ap length back)

pub returns-clause-cuts : goal.returns-clause-cuts
returns-clause-cuts c = λ placed asks were.
    let old = c.args.self.now.all in
    let cuts = c.args.cuts.now in
    let back = c.in_ok-give_back.ensures.all ∙ front_take c.args.self.now.all.items c.put_asks.new.self.all.items c.len-kept.result c.in_ok-put_asks.ensures.front (omega (arith, c.len-kept.ensures, old.ok.0)) in
    let back' = c.truncate.ensures.items ∙ front_take c.args.cuts.now.items c.put_asks.new.cuts.items c.len-cut.result c.in_ok-put_asks.ensures.cut (omega (arith, c.len-cut.ensures, cuts.ok.0)) in
    c.in_ok-placed.ensures.cuts placed asks
    (subst (λ (ns : List ℕ). ServeAsks asks ns (drop c.args.first c.give_back.new.self.all.items)) (sym back') (subst (λ (rs : List Run). ServeAsks asks cuts.items (drop c.args.first rs)) (sym back) were))

pub returns-in_err-put_asks-clause-kept : goal.returns-in_err-put_asks-clause-kept
returns-in_err-put_asks-clause-kept c = IfOk-from_err c.from_residual.result _ c.from_residual.ensures.0

pub returns-in_err-put_asks-clause-pool : goal.returns-in_err-put_asks-clause-pool
returns-in_err-put_asks-clause-pool c = IfOk-from_err c.from_residual.result _ c.from_residual.ensures.0

pub returns-in_err-put_asks-clause-placed : goal.returns-in_err-put_asks-clause-placed
returns-in_err-put_asks-clause-placed c = IfOk-from_err c.from_residual.result _ c.from_residual.ensures.0

pub returns-in_err-put_asks-clause-long : goal.returns-in_err-put_asks-clause-long
returns-in_err-put_asks-clause-long c = IfOk-from_err c.from_residual.result _ c.from_residual.ensures.0

pub returns-in_err-put_asks-clause-cuts : goal.returns-in_err-put_asks-clause-cuts
returns-in_err-put_asks-clause-cuts c = IfOk-from_err c.from_residual.result _ c.from_residual.ensures.0

pub returns-in_err-give_back-clause-kept : goal.returns-in_err-give_back-clause-kept
returns-in_err-give_back-clause-kept c = IfOk-from_err c.from_residual-in_err-give_back.result _ c.from_residual-in_err-give_back.ensures.0

pub returns-in_err-give_back-clause-pool : goal.returns-in_err-give_back-clause-pool
returns-in_err-give_back-clause-pool c = IfOk-from_err c.from_residual-in_err-give_back.result _ c.from_residual-in_err-give_back.ensures.0

pub returns-in_err-give_back-clause-placed : goal.returns-in_err-give_back-clause-placed
returns-in_err-give_back-clause-placed c = IfOk-from_err c.from_residual-in_err-give_back.result _ c.from_residual-in_err-give_back.ensures.0

pub returns-in_err-give_back-clause-long : goal.returns-in_err-give_back-clause-long
returns-in_err-give_back-clause-long c = IfOk-from_err c.from_residual-in_err-give_back.result _ c.from_residual-in_err-give_back.ensures.0

pub returns-in_err-give_back-clause-cuts : goal.returns-in_err-give_back-clause-cuts
returns-in_err-give_back-clause-cuts c = IfOk-from_err c.from_residual-in_err-give_back.result _ c.from_residual-in_err-give_back.ensures.0

pub returns-in_err-placed-clause-kept : goal.returns-in_err-placed-clause-kept
returns-in_err-placed-clause-kept c = IfOk-from_err c.from_residual-in_err-placed.result _ c.from_residual-in_err-placed.ensures.0

pub returns-in_err-placed-clause-pool : goal.returns-in_err-placed-clause-pool
returns-in_err-placed-clause-pool c = IfOk-from_err c.from_residual-in_err-placed.result _ c.from_residual-in_err-placed.ensures.0

pub returns-in_err-placed-clause-placed : goal.returns-in_err-placed-clause-placed
returns-in_err-placed-clause-placed c = IfOk-from_err c.from_residual-in_err-placed.result _ c.from_residual-in_err-placed.ensures.0

pub returns-in_err-placed-clause-long : goal.returns-in_err-placed-clause-long
returns-in_err-placed-clause-long c = IfOk-from_err c.from_residual-in_err-placed.result _ c.from_residual-in_err-placed.ensures.0

pub returns-in_err-placed-clause-cuts : goal.returns-in_err-placed-clause-cuts
returns-in_err-placed-clause-cuts c = IfOk-from_err c.from_residual-in_err-placed.result _ c.from_residual-in_err-placed.ensures.0

pub put_asks-requires-clause-asks : goal.put_asks-requires-clause-asks
put_asks-requires-clause-asks c = c.requires.asks

pub put_asks-requires-clause-first : goal.put_asks-requires-clause-first
put_asks-requires-clause-first c = c.requires.first

pub put_asks-requires-clause-kept : goal.put_asks-requires-clause-kept
put_asks-requires-clause-kept c = c.requires.kept

pub put_asks-requires-clause-pool : goal.put_asks-requires-clause-pool
put_asks-requires-clause-pool c = c.requires.pool

pub returns-then-branch-clause-kept : goal.returns-then-branch-clause-kept
returns-then-branch-clause-kept c = c.in_ok-put_asks.ensures.kept

pub returns-then-branch-clause-pool : goal.returns-then-branch-clause-pool
returns-then-branch-clause-pool c = c.in_ok-put_asks.ensures.pool

pub returns-then-not-site-clause-kept : goal.returns-then-not-site-clause-kept
returns-then-not-site-clause-kept c = c.in_ok-put_asks.ensures.kept

pub returns-then-not-site-clause-pool : goal.returns-then-not-site-clause-pool
returns-then-not-site-clause-pool c = c.in_ok-put_asks.ensures.pool

pub returns-then-not-site-clause-cuts : goal.returns-then-not-site-clause-cuts
returns-then-not-site-clause-cuts c = λ never. absurd (true≢false (sym never))

pub give_back-requires-clause-pool : goal.give_back-requires-clause-pool
give_back-requires-clause-pool c = c.in_ok-put_asks.ensures.pool

pub put_asks-requires-2-clause-asks : goal.put_asks-requires-2-clause-asks
put_asks-requires-2-clause-asks c = c.requires.asks

pub put_asks-requires-2-clause-pool : goal.put_asks-requires-2-clause-pool
put_asks-requires-2-clause-pool c = c.in_ok-give_back.ensures.pool

pub returns-clause-kept : goal.returns-clause-kept
returns-clause-kept c = c.in_ok-placed.ensures.kept

pub returns-clause-pool : goal.returns-clause-pool
returns-clause-pool c = c.in_ok-placed.ensures.pool
