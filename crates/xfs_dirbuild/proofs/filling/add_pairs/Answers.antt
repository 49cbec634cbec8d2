use Rattle.std.proofs.Common.{◌≡◌, ◌+◌, ◌*◌, ◌/◌, length, take, refl, sym, ◌∙◌, ap, add-zero}
use borrow.Author.Count.{falls}
use Rattle.xfs_dirdata.specs.Written.{data_size_of, data_length}
use Rattle.xfs_dirbuild.proofs.Adding.{place-on, place-in, before-end, name-short, pairs-next, pairs-end, place-end, behind-start, place-fits, count-on, count-end}
use Rattle.xfs_dirbuild.proofs.filling.add_pairs.Goals as goal

pub loop-entry-init : goal.loop-entry-init
loop-entry-init c = record {
  at = sym (add-zero c.args.start);
  pairs = refl;
  count = sym (add-zero (length c.args.pairs.now.items));
  sound = c.requires.sound;
}

pub add_pair-requires-clause-low : goal.add_pair-requires-clause-low
add_pair-requires-clause-low c = c.requires.low

pub add_pair-requires-clause-inside : goal.add_pair-requires-clause-inside
add_pair-requires-clause-inside c =
    before-end c.loop-entry.at (length c.entry-item.result.name)
    (place-in c.args.entries.now c.loop-entry.entry-index c.args.start c.loop-entry.at c.entry-item.result c.loop-entry-test.true c.entry-item.is
    c.loop-entry.invariant.at c.requires.inside)

pub add_pair-requires-clause-behind : goal.add_pair-requires-clause-behind
add_pair-requires-clause-behind c =
    behind-start c.args.start c.loop-entry.at (data_length (take c.loop-entry.entry-index c.args.entries.now)) c.loop-entry.invariant.at c.requires.behind

pub add_pair-requires-clause-sound : goal.add_pair-requires-clause-sound
add_pair-requires-clause-sound c = c.loop-entry.invariant.sound

pub data_size-at-requires : goal.data_size-at-requires
data_size-at-requires c =
    name-short c.args.entries.now c.loop-entry.entry-index c.entry-item.result c.bytes-name.result.now c.requires.writable c.loop-entry-test.true
    c.entry-item.is c.bytes-name.ensures

pub overflow_add-at : goal.overflow_add-at
overflow_add-at c =
    let size : c.data_size-at.result ≡ data_size_of c.entry-item.result = c.data_size-at.ensures.value ∙ ap (λ n. (n + 19) / 8 * 8) (ap length c.bytes-name.ensures) in
    place-fits c.args.entries.now c.loop-entry.entry-index c.args.start c.loop-entry.at c.data_size-at.result c.entry-item.result c.loop-entry-test.true
    c.entry-item.is c.loop-entry.invariant.at c.requires.inside size

pub loop-entry-smaller : goal.loop-entry-smaller
loop-entry-smaller c = falls (length c.args.entries.now) c.loop-entry.entry-index c.loop-entry-test.true

pub loop-entry-preserved : goal.loop-entry-preserved
loop-entry-preserved c =
    let es = c.args.entries.now in
    let i = c.loop-entry.entry-index in
    let e = c.entry-item.result in
    let size : c.data_size-at.result ≡ data_size_of e = c.data_size-at.ensures.value ∙ ap (λ n. (n + 19) / 8 * 8) (ap length c.bytes-name.ensures) in
    record {
      at = place-on es i c.args.start c.loop-entry.at c.data_size-at.result e c.loop-entry-test.true c.entry-item.is c.loop-entry.invariant.at size;
      pairs = pairs-next es i c.args.number c.loop-entry.at c.data_size-at.result e c.bytes-name.result.now c.loop-entry.pairs.items c.add_pair.new.pairs.items _
          c.loop-entry-test.true c.entry-item.is c.bytes-name.ensures size c.in_ok-add_pair.ensures.pair c.loop-entry.invariant.pairs;
      count = count-on c.loop-entry.pairs.items c.add_pair.new.pairs.items _ (length c.args.pairs.now.items) i c.in_ok-add_pair.ensures.pair c.loop-entry.invariant.count;
      sound = c.in_ok-add_pair.ensures.sound;
    }

pub returns-clause-end : goal.returns-clause-end
returns-clause-end c =
    place-end c.args.entries.now c.loop-entry.entry-index c.args.start c.loop-entry.at c.loop-entry-test.false c.loop-entry.invariant.at

pub returns-clause-pairs : goal.returns-clause-pairs
returns-clause-pairs c =
    pairs-end c.args.entries.now c.loop-entry.entry-index c.args.number c.loop-entry.at c.loop-entry.pairs.items _ c.loop-entry-test.false c.loop-entry.invariant.pairs

pub returns-clause-count : goal.returns-clause-count
returns-clause-count c =
    count-end (length c.loop-entry.pairs.items) (length c.args.entries.now) c.loop-entry.entry-index (length c.args.pairs.now.items) c.loop-entry.invariant.count
    c.loop-entry.auto.entry-index-end c.loop-entry-test.false

pub returns-clause-sound : goal.returns-clause-sound
returns-clause-sound c = c.loop-entry.invariant.sound
