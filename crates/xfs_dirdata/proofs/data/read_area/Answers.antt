use Rattle.std.proofs.Common.{rules, ◌≡◌, true, false, [], ◌∷◌, ◌++◌, length, refl, sym, ◌∙◌, ap, arith}
use Rattle.std.proofs.lemmas.Bool.{cond-true, cond-false}
use Rattle.xfs_dirdata.specs.Data.{is_span, is_entry, span_at, entry_at, items, has_bests}
use Rattle.xfs_dirdata.proofs.Leading.{behind, behind-nothing, behind-all, filtered-more, mapped-more}
use Rattle.xfs_dirdata.proofs.Items.{items-more, items-end, area-unsound, area-read}
use Rattle.xfs_dirdata.proofs.Filling.{states-from, none-from}
use Rattle.xfs_dirdata.proofs.data.read_area.Goals as goal

pub loop-at-init : goal.loop-at-init
loop-at-init c = record {
  inside = omega arith;
  aligned = refl;
  done = [];
  most = length c.args.bytes.now;
  enough = omega arith;
  leads = sym (behind-nothing (items (length c.args.bytes.now) c.args.bytes.now 64));
  entries = c.in_ok-with_capacity.ensures.items;
  places = c.in_ok-with_capacity-2.ensures.items;
  free = c.new.ensures.items;
  bests = search rules;
}

pub returns-in-None-clause-unsound : goal.returns-in-None-clause-unsound
returns-in-None-clause-unsound c =
    let kept = c.loop-at.invariant in
    area-unsound c.args.dir c.args.bytes.now kept.done kept.most c.loop-at.at kept.leads c.loop-at-test.true c.in-None.ensures

pub overflow_add-at : goal.overflow_add-at
overflow_add-at c = let size = c.in-Some.ensures.2 in omega (arith, size.inside)

pub loop-at-smaller : goal.loop-at-smaller
loop-at-smaller c = let size = c.in-Some.ensures.2 in omega (arith, size.some, size.inside)

pub loop-at-preserved : goal.loop-at-preserved
loop-at-preserved c =
    let kept = c.loop-at.invariant in
    let bytes = c.args.bytes.now in
    let at = c.loop-at.at in
    let size = c.in-Some.ensures.2 in
    let more = items-more kept.done kept.most bytes at c.in-Some.size (items (length bytes) bytes 64) c.loop-at-test.true kept.enough
    c.in-Some.ensures.0 c.in-Some.ensures.1 size.some kept.leads in
    record {
      inside = size.inside;
      aligned = omega (arith, size.aligned, kept.aligned);
      done = kept.done ++ at ∷ [];
      most = more.0;
      enough = more.1;
      leads = more.2;
      entries = mapped-more (entry_at c.args.dir bytes) (is_entry bytes) kept.done c.loop-at.taken.entries.items c.take_item.new.taken.entries.items at kept.entries c.in_ok-take_item.ensures.entries;
      places = filtered-more (is_entry bytes) kept.done c.loop-at.taken.places.items c.take_item.new.taken.places.items at kept.places c.in_ok-take_item.ensures.places;
      free = mapped-more (span_at bytes) (is_span bytes) kept.done c.loop-at.taken.free.items c.take_item.new.taken.free.items at kept.free c.in_ok-take_item.ensures.free;
      bests = c.take_item.ensures.bests ∙ kept.bests;
    }

pub returns-then-has_bests-clause-read : goal.returns-then-has_bests-clause-read
returns-then-has_bests-clause-read c =
    let kept = c.loop-at.invariant in
    let bytes = c.args.bytes.now in
    let end : c.loop-at.at ≡ length bytes = omega arith in
    let taken = c.loop-at.taken in
    let read = area-read c.args.dir bytes kept.done taken.entries.items taken.places.items taken.free.items taken.bests
    (kept.leads ∙ (ap (behind kept.done) (items-end kept.most bytes c.loop-at.at end) ∙ behind-all kept.done))
    c.requires.long kept.entries kept.places kept.free kept.bests in
    let right : has_bests bytes taken.free.items ≡ true = ap (has_bests bytes) (sym c.deref.ensures.value) ∙ (sym c.has_bests.ensures ∙ c.if-has_bests.true) in
    read ∙ cond-true _ _ _ right

pub returns-else-has_bests-clause-unsound : goal.returns-else-has_bests-clause-unsound
returns-else-has_bests-clause-unsound c =
    let kept = c.loop-at.invariant in
    let bytes = c.args.bytes.now in
    let end : c.loop-at.at ≡ length bytes = omega arith in
    let taken = c.loop-at.taken in
    let read = area-read c.args.dir bytes kept.done taken.entries.items taken.places.items taken.free.items taken.bests
    (kept.leads ∙ (ap (behind kept.done) (items-end kept.most bytes c.loop-at.at end) ∙ behind-all kept.done))
    c.requires.long kept.entries kept.places kept.free kept.bests in
    let wrong : has_bests bytes taken.free.items ≡ false = ap (has_bests bytes) (sym c.deref.ensures.value) ∙ (sym c.has_bests.ensures ∙ c.if-has_bests.false) in
    read ∙ cond-false _ _ _ wrong

pub returns-then-has_bests-clause-states : goal.returns-then-has_bests-clause-states
returns-then-has_bests-clause-states c = states-from c.args.dir c.args.bytes.now _ (returns-then-has_bests-clause-read c)

pub returns-in-None-clause-none : goal.returns-in-None-clause-none
returns-in-None-clause-none c = none-from c.args.dir c.args.bytes.now (returns-in-None-clause-unsound c)

pub returns-else-has_bests-clause-none : goal.returns-else-has_bests-clause-none
returns-else-has_bests-clause-none c = none-from c.args.dir c.args.bytes.now (returns-else-has_bests-clause-unsound c)
