use Rattle.std.proofs.Common.{◌≡◌, ℕ, ◌≤◌, inr, Bool, List, [], length, Some, None, Err, if◌then◌else◌, take, drop, refl, sym, ◌∙◌, ap, subst, arith}
use borrow.Author.Count.{falls}
use Rattle.std.specs.List.{All}
use Rattle.std.proofs.lemmas.Bool.{eqb-true}
use Rattle.std.proofs.lemmas.List.{drop_all, take_all}
use Rattle.std.proofs.lemmas.Result.{IfOk-from_err}
use Rattle.xfs_geom.specs.Volumes.{volume_of}
use Rattle.xfs_place.specs.declared.faults.Unplaced.{Unplaced}
use Rattle.xfs_place.specs.declared.wanted.Object.{Object}
use Rattle.xfs_place.specs.declared.wanted.RunAsk.{RunAsk}
use Rattle.xfs_geom.specs.declared.records.Run.{Run}
use Rattle.xfs_place.specs.Finding.{IsOpen}
use Rattle.xfs_place.specs.Objects.{IsAsk, ServeAsks, asks_of}
use Rattle.xfs_place.proofs.Pieces.{asks_more, first_stays, objects_end, objects_next, objects_stop, serve_none}
use Rattle.xfs_place.specs.Wanted.{CanBeKept}
use Rattle.xfs_place.proofs.object_placing.keep_with.Goals as goal

pub returns-then-not-branch-clause-cause : goal.returns-then-not-branch-clause-cause
returns-then-not-branch-clause-cause c =
    let s = c.args.site.now in
    let l = c.loop-object in
    let now = c.put_object.new.self.all.items in
    let o = c.object-item.result in
    let none = c.in_ok-put_object.ensures.placed ∙ ap (λ (t : Bool). if t then Some now else None) c.if-not-branch.true in
    inr (
      c.place_of_object.result,
      refl,
      l.invariant.same ∙ objects_stop (volume_of s.geometry.now) s.reserved.now s.from s.spared.now s.takes l.keeper.all.items c.args.objects.now l.object-index o c.loop-object-test.true c.object-item.is none
          ∙ ap (λ (p : Unplaced). Err p) (sym c.place_of_object.ensures),
    )

pub loop-object-preserved : goal.loop-object-preserved
loop-object-preserved c =
    let s = c.args.site.now in
    let l = c.loop-object in
    let now = c.put_object.new.self.all.items in
    let o = c.object-item.result in
    let some = c.in_ok-put_object.ensures.placed ∙ ap (λ (t : Bool). if t then Some now else None) c.if-not-branch.false in
    record {
      same = l.invariant.same ∙ objects_next (volume_of s.geometry.now) s.reserved.now s.from s.spared.now s.takes l.keeper.all.items now c.args.objects.now l.object-index o c.loop-object-test.true c.object-item.is some;
      long = omega (arith, l.invariant.long, c.in_ok-put_object.ensures.long);
      kept' = c.in_ok-put_object.ensures.kept;
      pool' = c.in_ok-put_object.ensures.pool;
      cuts' = subst (λ (asks : List RunAsk). ServeAsks asks c.put_object.new.cuts.items (drop c.len-first.result now)) (sym (asks_more c.args.objects.now l.object-index o c.loop-object-test.true c.object-item.is))
          (c.in_ok-put_object.ensures.cuts c.if-not-branch.false (asks_of (take l.object-index c.args.objects.now)) l.invariant.cuts');
    }

pub returns-clause-told : goal.returns-clause-told
returns-clause-told c =
    let s = c.args.site.now in
    let l = c.loop-object in
    let old = c.args.kept in
    let all = l.keeper.all.items in
    let objects = c.args.objects.now in
    let placed = l.invariant.same
    ∙ objects_end (volume_of s.geometry.now) s.reserved.now s.from s.spared.now s.takes all (drop l.object-index objects) (drop_all l.object-index objects c.loop-object-test.false) in
    let first : c.len-first.result ≡ length old.items = omega (arith, c.len-first.ensures, old.ok.0) in
    record {
      placed = placed;
      kept = l.invariant.kept';
      behind = first_stays (volume_of s.geometry.now) s.reserved.now s.from s.spared.now s.takes old.items objects all placed;
      cuts = subst (λ (n : ℕ). ServeAsks (asks_of objects) l.cuts.items (drop n all)) first
          (subst (λ (os : List Object). ServeAsks (asks_of os) l.cuts.items (drop c.len-first.result all)) (take_all l.object-index objects c.loop-object-test.false) l.invariant.cuts');
    }

pub returns-then-is_empty-clause-told : goal.returns-then-is_empty-clause-told
returns-then-is_empty-clause-told c =
    let s = c.args.site.now in
    let old = c.args.kept.items in
    let objects = c.args.objects.now in
    let none : length objects ≤ 0 = omega (arith, eqb-true (length objects) 0 (sym c.is_empty.ensures ∙ c.if-is_empty.true)) in
    record {
      placed = objects_end (volume_of s.geometry.now) s.reserved.now s.from s.spared.now s.takes old objects (drop_all 0 objects none);
      kept = c.requires.kept;
      behind = take_all (length old) old (omega arith);
      cuts = serve_none objects c.new-cuts.result.items (drop (length old) old) (drop_all 0 objects none) c.new-cuts.ensures.items (drop_all (length old) old (omega arith));
    }

pub put_object-requires-clause-asks : goal.put_object-requires-clause-asks
put_object-requires-clause-asks c =
    let o = c.object-item.result in
    subst (λ (x : Object). All IsAsk x.runs) (sym c.object-item.is) (c.requires.asks c.loop-object.object-index o c.loop-object-test.true)

pub put_object-requires-clause-first : goal.put_object-requires-clause-first
put_object-requires-clause-first c = omega (arith, c.loop-object.invariant.long, c.len-first.ensures, c.args.kept.ok.0)

pub put_object-requires-clause-kept : goal.put_object-requires-clause-kept
put_object-requires-clause-kept c = c.loop-object.invariant.kept'

pub put_object-requires-clause-pool : goal.put_object-requires-clause-pool
put_object-requires-clause-pool c = c.loop-object.invariant.pool'

pub loop-object-init : goal.loop-object-init
loop-object-init c =
    let s = c.args.site.now in
    let old = c.args.kept in
    record {
      same = refl;
      long = omega arith;
      kept' = c.requires.kept;
      pool' = subst (λ (rs : List Run). IsOpen (volume_of s.geometry.now) rs s.reserved.now s.from s.spared.now c.in_ok-pool.pool) c.deref.ensures.value c.in_ok-pool.ensures;
      cuts' = serve_none [] c.new-cuts-2.result.items (drop c.len-first.result old.items) refl c.new-cuts-2.ensures.items (drop_all c.len-first.result old.items (omega (arith, c.len-first.ensures, old.ok.0)));
    }

pub loop-object-smaller : goal.loop-object-smaller
loop-object-smaller c = falls (length c.args.objects.now) c.loop-object.object-index c.loop-object-test.true

pub returns-in_err-pool-clause-told : goal.returns-in_err-pool-clause-told
returns-in_err-pool-clause-told c = IfOk-from_err c.from_residual.result _ c.from_residual.ensures.0

pub returns-in_err-put_object-clause-told : goal.returns-in_err-put_object-clause-told
returns-in_err-put_object-clause-told c = IfOk-from_err c.from_residual-in_err-put_object.result _ c.from_residual-in_err-put_object.ensures.0

pub returns-then-is_empty-clause-cause : goal.returns-then-is_empty-clause-cause
returns-then-is_empty-clause-cause c = tt

pub new-requires : goal.new-requires
new-requires c = record { kept = subst (CanBeKept (volume_of c.args.site.now.geometry.now)) (sym c.deref.ensures.value) c.requires.kept }

pub returns-then-not-branch-clause-told : goal.returns-then-not-branch-clause-told
returns-then-not-branch-clause-told c = tt

pub returns-clause-cause : goal.returns-clause-cause
returns-clause-cause c = tt
