use Rattle.std.proofs.Common.{◌≡◌, ℕ, ◌++◌, ◌∷◌, [], List, refl, sym, ◌∙◌, ap, subst}
use Rattle.std.proofs.lemmas.Result.{IfOk-from_err}
use Rattle.xfs_geom.specs.Volumes.{volume_of}
use Rattle.xfs_geom.specs.declared.records.Run.{Run}
use Rattle.xfs_place.specs.Finding.{Opens, Takes, free_in}
use Rattle.xfs_place.specs.Objects.{front_of, lowest, run_at, spared_in}
use Rattle.xfs_place.specs.Wanted.{CanBeKept}
use Rattle.xfs_place.proofs.HeldRuns.{finds_lowest, kept_more, opens_more}
use Rattle.xfs_place.proofs.Pieces.{front_is}
use Rattle.xfs_place.proofs.RowRuns.{fits_all}
use Rattle.xfs_place.proofs.object_placing.Keeper.put_piece.Goals as goal

pub returns-in_default-clause-piece : goal.returns-in_default-clause-piece
returns-in_default-clause-piece c =
    let g = c.args.site.now.geometry.now in
    let kept = c.args.self.now.all.items in (
      c.in_default.ensures.piece (lowest (volume_of g) c.args.site.now.reserved.now c.args.site.now.from (spared_in c.args.all c.args.site.now.spared.now) kept)
          (finds_lowest (volume_of g) g.shape.groups kept c.args.site.now.reserved.now c.args.site.now.from (spared_in c.args.all c.args.site.now.spared.now) (free_in c.args.all c.args.self.now.pool) (c.requires.pool.opens c.args.all)),
      refl,
    )

pub returns-clause-kept : goal.returns-clause-kept
returns-clause-kept c =
    let g = c.args.site.now.geometry.now in
    let kept = c.args.self.now.all.items in
    let p = c.in-Some.piece in
    let put : c.push.new.self.items ≡ kept ++ run_at p.start (front_of c.args.ask.now p.blocks) ∷ [] = c.in_ok-push.ensures.items ∙ ap (λ (r : Run). kept ++ r ∷ []) c.run_of.ensures in
    subst (CanBeKept (volume_of g)) (sym put)
    (kept_more (volume_of g) g.shape.groups kept c.args.site.now.reserved.now c.args.site.now.from (spared_in c.args.all c.args.site.now.spared.now) (free_in c.args.all c.args.self.now.pool) (c.requires.pool.opens c.args.all) (front_of c.args.ask.now p.blocks) p.start
    (front_is c.args.ask.now p.blocks c.requires.ask c.in-Some.ensures.front.some c.in-Some.ensures.few) c.in-Some.ensures.least.0 c.requires.kept)

pub returns-clause-pool : goal.returns-clause-pool
returns-clause-pool c =
    let g = c.args.site.now.geometry.now in
    let r = c.args.site.now.reserved.now in
    let f = c.args.site.now.from in
    let spared = c.args.site.now.spared.now in
    let kept = c.args.self.now.all.items in
    let old = c.args.self.now.pool in
    let p = c.in-Some.piece in
    let now = c.take.new.self in
    let put : c.push.new.self.items ≡ kept ++ run_at p.start (front_of c.args.ask.now p.blocks) ∷ [] = c.in_ok-push.ensures.items ∙ ap (λ (r : Run). kept ++ r ∷ []) c.run_of.ensures in
    record {
      rows' = c.take.ensures.rows;
      opens = λ all. subst (λ (rs : List Run). Opens (volume_of g) rs r f (spared_in all spared) (free_in all now)) (sym put)
          (opens_more (volume_of g) g.shape.groups kept r f (spared_in all spared) (free_in all old) (c.requires.pool.opens all) (front_of c.args.ask.now p.blocks) p.start (free_in all now)
          (subst (λ (n : ℕ). Takes (free_in all old) (free_in all now) n p.blocks) c.in-Some.ensures.front.start' (c.take.ensures.takes all)));
    }

pub returns-clause-piece : goal.returns-clause-piece
returns-clause-piece c =
    let g = c.args.site.now.geometry.now in
    let kept = c.args.self.now.all.items in
    let p = c.in-Some.piece in
    let put : c.push.new.self.items ≡ kept ++ run_at p.start (front_of c.args.ask.now p.blocks) ∷ [] = c.in_ok-push.ensures.items ∙ ap (λ (r : Run). kept ++ r ∷ []) c.run_of.ensures in (
      p.start,
      c.in-Some.ensures.piece (lowest (volume_of g) c.args.site.now.reserved.now c.args.site.now.from (spared_in c.args.all c.args.site.now.spared.now) kept)
          (finds_lowest (volume_of g) g.shape.groups kept c.args.site.now.reserved.now c.args.site.now.from (spared_in c.args.all c.args.site.now.spared.now) (free_in c.args.all c.args.self.now.pool) (c.requires.pool.opens c.args.all)),
      put,
    )

pub take-requires-clause-fits : goal.take-requires-clause-fits
take-requires-clause-fits c = fits_all c.args.self.now.pool c.args.all c.in-Some.piece c.requires.pool.rows' c.in-Some.ensures.front

pub piece-requires-clause-rows : goal.piece-requires-clause-rows
piece-requires-clause-rows c = c.requires.pool.rows'

pub returns-in_default-clause-kept : goal.returns-in_default-clause-kept
returns-in_default-clause-kept c = c.requires.kept

pub returns-in_default-clause-pool : goal.returns-in_default-clause-pool
returns-in_default-clause-pool c = c.requires.pool

pub returns-in_default-clause-few : goal.returns-in_default-clause-few
returns-in_default-clause-few c = tt

pub take-requires-clause-rows : goal.take-requires-clause-rows
take-requires-clause-rows c = c.requires.pool.rows'

pub returns-in_err-push-clause-kept : goal.returns-in_err-push-clause-kept
returns-in_err-push-clause-kept c = IfOk-from_err c.from_residual.result _ c.from_residual.ensures.0

pub returns-in_err-push-clause-pool : goal.returns-in_err-push-clause-pool
returns-in_err-push-clause-pool c = IfOk-from_err c.from_residual.result _ c.from_residual.ensures.0

pub returns-in_err-push-clause-piece : goal.returns-in_err-push-clause-piece
returns-in_err-push-clause-piece c = IfOk-from_err c.from_residual.result _ c.from_residual.ensures.0

pub returns-in_err-push-clause-few : goal.returns-in_err-push-clause-few
returns-in_err-push-clause-few c = IfOk-from_err c.from_residual.result _ c.from_residual.ensures.0
