use Rattle.std.proofs.Common.{◌≡◌, ℕ, ◌+◌, ◌-◌, ◌<◌, ◌≤◌, inl, inr, true, false, List, [], ◌∷◌, ◌++◌, map, length, take, drop, get_or, refl, sym, ◌∙◌, ap, subst, arith}
use borrow.Author.Count.{falls}
use Rattle.std.specs.List.{All, range_with_len}
use Rattle.std.proofs.lemmas.List.{append-nil, length_push}
use Rattle.std.proofs.lemmas.List.Elements.{All-push, All-take, All-drop}
use Rattle.std.proofs.lemmas.Bool.Decides.{nat_tests}
use Rattle.xfs_disk.specs.Shares.{share_of, first_of_share}
use Rattle.xfs_dirindex.specs.declared.pairs.Pair.{Pair}
use Rattle.xfs_dirindex.specs.Mapped.{Mapped}
use Rattle.xfs_dirindex.specs.IndexTree.{pairs_of_places, are_members, pairs_below}
use Rattle.xfs_dirbuild.specs.Index.{IsPointer, IsIndexed, next_at, HoldsIndex, leaf_places}
use Rattle.xfs_dirbuild.specs.Blocks.{row_block, row_blocks, link_at, index_links, bank_part}
use Rattle.xfs_dirbuild.proofs.Banks.{put-there, put-beside, put-count}
use Rattle.xfs_disk.proofs.Shares.{share_next, share_some, share_most}
use Rattle.xfs_dirbuild.proofs.Magics.{indexed, next-small, indexed-more}
use Rattle.xfs_dirbuild.proofs.Rows.{places-more, places-none, holds-part}
use Rattle.xfs_dirbuild.proofs.RowSteps.{share-long, IsWritten, seen, row-members, row-below, share-is, link-is, block-is, links-more, row-ended, row-low, row-before, row-next, row-fits, row-place, row-front, row-room, row-some, row-more, share-inside, share-small, share-all, before-row, behind-row, from-row, share-width, share-offset}
use Rattle.xfs_dirbuild.proofs.BlockBytes.{blank-long}
use Rattle.xfs_dirbuild.proofs.Sections.{section-more}
use Rattle.xfs_dirbuild.proofs.tree.put_row.Goals as goal

pub loop-i-init : goal.loop-i-init
loop-i-init c =
    let none = c.new-links.ensures.items in
    record {
      start_is = omega arith;
      members = λ ms holds rest next is.
          subst (λ (ls : List Pair). are_members ms false c.args.level 0 (ls ++ rest) ≡ true) (sym none) is;
      below = λ ms holds. ap (pairs_below ms) none;
      places = ap pairs_of_places none ∙ sym (places-none c.args.first);
      pointers = λ k d inside. absurd (omega (arith, ap length none));
      indexed = λ k inside. absurd (omega arith);
      row = none;
      bytes_are = refl;
      links_are = ap length none;
      blocks_count = refl;
      others = λ k side. refl;
    }

pub put_index-requires-clause-most : goal.put_index-requires-clause-most
put_index-requires-clause-most c =
    let pairs = c.args.pairs.now in
    let long = share-long pairs c.args.count c.loop-i.i c.loop-i.start c.share_of-share.result c.loop-i.invariant.start_is c.share_of-share.ensures.value c.loop-i-test.true in
    omega (arith, long, share_most (length pairs) c.args.count c.loop-i.i 504 c.loop-i-test.true c.requires.fit, c.share_of-share.ensures.value)

pub link_to-requires-clause-most : goal.link_to-requires-clause-most
link_to-requires-clause-most c =
    omega (arith, share_most (length c.args.pairs.now) c.args.count c.loop-i.i 504 c.loop-i-test.true c.requires.fit, c.share_of-share.ensures.value)

pub loop-i-preserved : goal.loop-i-preserved
loop-i-preserved c =
    let pairs = c.args.pairs.now in
    let n = length pairs in
    let m = c.args.count in
    let i = c.loop-i.i in
    let start = c.loop-i.start in
    let share = c.share_of-share.result in
    let part = take (start + share - start) (drop start pairs) in
    let x : Pair = c.link_to.result in
    let block = c.put_index.new.block in
    let old = c.loop-i.blocks in
    let new = c.put_block.new.blocks in
    let at = c.args.base + c.args.first + i in
    let inside : i < m = c.loop-i-test.true in
    let start_is : start ≡ first_of_share (length c.args.pairs.now) c.args.count c.loop-i.i = c.loop-i.invariant.start_is in
    let share_is : share ≡ share_of (length c.args.pairs.now) c.args.count c.loop-i.i = c.share_of-share.ensures.value in
    let long = share-long pairs m i start share start_is share_is inside in
    let here = share-is pairs m i start share start_is share_is in
    let some = share_some n m i c.requires.some c.requires.enough in
    let most = share_most n m i 504 inside c.requires.fit in
    let room : c.args.base + c.args.first + c.loop-i.i < length c.loop-i.blocks = omega (arith, c.loop-i.invariant.blocks_count, c.requires.room, c.loop-i-test.true) in
    let is = c.put_block.ensures in
    let put : get_or new at [] ≡ block = put-there old new at block is room in
    let links : c.push.new.self.items ≡ c.loop-i.links.items ++ x ∷ [] = c.in_ok-push.ensures.items in
    let written : IsWritten c.args.level c.before_at-before.result c.next_at-next.result c.args.first i share part x block =
    record {
      pointers = All-take IsPointer (start + share - start) (drop start pairs) (All-drop IsPointer start pairs c.requires.pointers);
      some = omega (arith, long, some, share_is);
      most = omega (arith, long, most, share_is);
      long = long;
      stands = c.put_index.ensures.stands;
      hash = c.link_to.ensures.hash;
      address = c.link_to.ensures.address;
    } in
    let before_holds = λ (ms : List Mapped) (holds : HoldsIndex ms c.put_block.new.blocks c.args.base c.args.first (c.loop-i.i + 1)).
    holds-part ms old new c.args.base c.args.first i c.args.first (i + 1) holds (omega arith) (omega arith)
    (λ k less. put-beside old new at (c.args.base + c.args.first + k) block is (inl (omega arith))) in
    record {
      start_is = omega (arith, start_is, share_is, share_next n m i);
      members = λ ms holds rest next others.
          subst (λ (ls : List Pair). are_members ms false c.args.level 0 (ls ++ rest) ≡ true) (sym links)
          (row-members ms c.args.level c.before_at-before.result c.next_at-next.result c.args.first m i part c.loop-i.links.items rest x
          (seen ms new c.args.base c.args.first i c.args.level c.before_at-before.result c.next_at-next.result share part x block written put holds)
          inside c.before_at-before.ensures c.next_at-next.ensures c.link_to.ensures.address
          (c.loop-i.invariant.members ms (before_holds ms holds)) next others);
      below = λ ms holds.
          ap (pairs_below ms) links
          ∙ row-below ms c.args.level c.before_at-before.result c.next_at-next.result start share pairs c.loop-i.links.items x
          (seen ms new c.args.base c.args.first i c.args.level c.before_at-before.result c.next_at-next.result share part x block written put holds)
          (c.loop-i.invariant.below ms (before_holds ms holds));
      places = ap pairs_of_places links ∙ places-more c.loop-i.links.items x c.args.first i c.loop-i.invariant.places c.link_to.ensures.address;
      pointers = subst (λ (ls : List Pair). All IsPointer ls) (sym links)
          (All-push IsPointer c.loop-i.links.items x c.loop-i.invariant.pointers
          (record { some = omega (arith, c.link_to.ensures.address); fits = omega (arith, c.link_to.ensures.address, c.requires.low, c.loop-i-test.true) }));
      indexed = indexed-more old new (c.args.base + c.args.first) i c.loop-i.invariant.indexed
          (λ k less. put-beside old new at (c.args.base + c.args.first + k) block is (inl (omega arith)))
          (subst (λ (b : List ℕ). IsIndexed b) (sym put)
          (indexed block c.next_at-next.result written.stands.forw
          (subst (λ (n : ℕ). n ≤ 0x1000000) (sym c.next_at-next.ensures) (next-small c.args.first c.args.count (c.loop-i.i + 1) c.requires.low))));
      row = links-more c.args.first m i pairs c.loop-i.links.items c.push.new.self.items x links
          (link-is c.args.first m i share pairs part x block here (omega (arith, some, share_is)) long c.put_index.ensures.stands.pairs_is c.link_to.ensures.hash c.link_to.ensures.address)
          c.loop-i.invariant.row;
      bytes_are = section-more old new (c.args.base + c.args.first) i block (row_block c.args.level c.args.first m pairs) (put-count old new at block is) room
          (λ k less. put-beside old new at (c.args.base + c.args.first + k) block is (inl (omega arith))) put
          (block-is c.args.level c.before_at-before.result c.next_at-next.result c.args.first m i pairs part block here
          c.before_at-before.ensures c.next_at-next.ensures c.put_index.ensures.bytes)
          c.loop-i.invariant.bytes_are;
      links_are = ap length links ∙ (length_push c.loop-i.links.items x ∙ ap (λ (k : ℕ). k + 1) c.loop-i.invariant.links_are);
      blocks_count = put-count old new at block is ∙ c.loop-i.invariant.blocks_count;
      others = λ k side. elim side [
        | inl low ↦ put-beside old new at k block is (inl (omega arith)) ∙ c.loop-i.invariant.others k (inl low)
        | inr high ↦ put-beside old new at k block is (inr (omega arith)) ∙ c.loop-i.invariant.others k (inr (omega arith))
      ];
    }

pub returns-clause-members : goal.returns-clause-members
returns-clause-members c =
    λ ms holds.
    let end : c.loop-i.i ≡ c.args.count = omega arith in
    let last : 0 ≡ next_at c.args.first c.args.count c.loop-i.i = grind (arith, nat_tests) in
    let mine : HoldsIndex ms c.loop-i.blocks c.args.base c.args.first c.loop-i.i = subst (λ (n : ℕ). HoldsIndex ms c.loop-i.blocks c.args.base c.args.first n) (sym end) holds in
    subst (λ (ls : List Pair). are_members ms false c.args.level 0 ls ≡ true) (append-nil c.loop-i.links.items) (c.loop-i.invariant.members ms mine [] last refl)

pub returns-clause-row : goal.returns-clause-row
unfolding index_links
returns-clause-row c =
    let end : c.loop-i.i ≡ c.args.count = omega arith in
    subst (λ (n : ℕ). c.loop-i.links.items ≡ map (link_at c.args.first c.args.count c.args.pairs.now) (range_with_len 0 n)) end c.loop-i.invariant.row

pub returns-clause-bytes : goal.returns-clause-bytes
unfolding row_blocks
returns-clause-bytes c =
    let end : c.loop-i.i ≡ c.args.count = omega arith in
    subst (λ (n : ℕ). bank_part c.loop-i.blocks (c.args.base + c.args.first) n ≡ map (row_block c.args.level c.args.first c.args.count c.args.pairs.now) (range_with_len 0 n))
    end c.loop-i.invariant.bytes_are

pub share_of-share-requires : goal.share_of-share-requires
share_of-share-requires c = c.loop-i-test.true

pub before_at-before-requires : goal.before_at-before-requires
before_at-before-requires c = row-before c.args.first c.args.count c.loop-i.i c.loop-i-test.true c.requires.low

pub overflow_add-i : goal.overflow_add-i
overflow_add-i c = row-fits (c.loop-i.i + 1) (row-more c.args.first c.args.count c.loop-i.i c.loop-i-test.true c.requires.low)

pub next_at-next-requires : goal.next_at-next-requires
next_at-next-requires c = row-next c.args.first c.args.count c.loop-i.i c.loop-i-test.true c.requires.low

pub overflow_add-start : goal.overflow_add-start
overflow_add-start c =
    let n = length c.args.pairs.now in
    let inside = share-inside n (first_of_share n c.args.count c.loop-i.i) c.loop-i.start c.share_of-share.result c.loop-i.invariant.start_is c.share_of-share.ensures.inside in
    row-fits (c.loop-i.start + c.share_of-share.result) (share-small n (c.loop-i.start + c.share_of-share.result) inside c.requires.few)

pub offset_bounds-pairs-start : goal.offset_bounds-pairs-start
offset_bounds-pairs-start c =
    let n = length c.args.pairs.now in
    let inside = share-inside n (first_of_share n c.args.count c.loop-i.i) c.loop-i.start c.share_of-share.result c.loop-i.invariant.start_is c.share_of-share.ensures.inside in
    share-offset n c.loop-i.start c.share_of-share.result inside c.requires.few

pub slice_bounds-put_index-count : goal.slice_bounds-put_index-count
slice_bounds-put_index-count c = share-width c.loop-i.start c.share_of-share.result

pub put_index-requires-clause-pointers : goal.put_index-requires-clause-pointers
put_index-requires-clause-pointers c =
    let start = c.loop-i.start in
    All-take IsPointer (start + c.share_of-share.result - start) (drop start c.args.pairs.now) (All-drop IsPointer start c.args.pairs.now c.requires.pointers)

pub put_index-requires-clause-long : goal.put_index-requires-clause-long
put_index-requires-clause-long c = blank-long 4096 c.blank-block.result c.blank-block.ensures

pub put_index-requires-clause-blank : goal.put_index-requires-clause-blank
put_index-requires-clause-blank c = c.blank-block.ensures

pub overflow_add-base : goal.overflow_add-base
overflow_add-base c = row-fits (c.args.base + c.args.first) (row-front c.args.base c.args.first c.args.count c.loop-i.i c.loop-i-test.true c.requires.low c.requires.base)

pub overflow_add-base-in-loop-i : goal.overflow_add-base-in-loop-i
overflow_add-base-in-loop-i c =
    row-fits (c.args.base + c.args.first + c.loop-i.i) (row-place c.args.base c.args.first c.args.count c.loop-i.i c.loop-i-test.true c.requires.low c.requires.base)

pub put_block-requires-clause-inside : goal.put_block-requires-clause-inside
put_block-requires-clause-inside c =
    row-room c.args.base c.args.first c.args.count c.loop-i.i (length c.loop-i.blocks) (length c.args.blocks.now) c.loop-i.invariant.blocks_count c.requires.room c.loop-i-test.true

pub put_block-requires-clause-whole : goal.put_block-requires-clause-whole
put_block-requires-clause-whole c = c.put_index.auto.block ∙ blank-long 4096 c.blank-block.result c.blank-block.ensures

pub overflow_add-first : goal.overflow_add-first
overflow_add-first c =
    row-fits (c.args.first + c.loop-i.i) (row-some (c.args.first + c.loop-i.i) (row-low c.args.first c.args.count c.loop-i.i c.loop-i-test.true c.requires.low))

pub link_to-requires-clause-some : goal.link_to-requires-clause-some
link_to-requires-clause-some c =
    subst (λ (n : ℕ). 1 ≤ n) (sym c.share_of-share.ensures.value) (share_some (length c.args.pairs.now) c.args.count c.loop-i.i c.requires.some c.requires.enough)

pub link_to-requires-clause-long : goal.link_to-requires-clause-long
link_to-requires-clause-long c = c.put_index.auto.block ∙ blank-long 4096 c.blank-block.result c.blank-block.ensures

pub link_to-requires-clause-low : goal.link_to-requires-clause-low
link_to-requires-clause-low c = row-low c.args.first c.args.count c.loop-i.i c.loop-i-test.true c.requires.low

pub returns-in_err-push-clause-count : goal.returns-in_err-push-clause-count
returns-in_err-push-clause-count c =
    put-count c.loop-i.blocks c.put_block.new.blocks (c.args.base + c.args.first + c.loop-i.i) c.put_index.new.block c.put_block.ensures ∙ c.loop-i.invariant.blocks_count

pub returns-in_err-push-clause-others : goal.returns-in_err-push-clause-others
returns-in_err-push-clause-others c =
    let old = c.loop-i.blocks in
    let new = c.put_block.new.blocks in
    let at = c.args.base + c.args.first + c.loop-i.i in
    λ k side. elim side [
      | inl low ↦ put-beside old new at k c.put_index.new.block c.put_block.ensures (inl (before-row c.args.base c.args.first c.loop-i.i k low)) ∙ c.loop-i.invariant.others k (inl low)
      | inr high ↦ put-beside old new at k c.put_index.new.block c.put_block.ensures (inr (behind-row c.args.base c.args.first c.args.count c.loop-i.i k c.loop-i-test.true high))
          ∙ c.loop-i.invariant.others k (inr (from-row c.args.base c.args.first c.args.count c.loop-i.i k c.loop-i-test.true high))
    ]

pub overflow_add-start-in-loop-i : goal.overflow_add-start-in-loop-i
overflow_add-start-in-loop-i c =
    let n = length c.args.pairs.now in
    let inside = share-inside n (first_of_share n c.args.count c.loop-i.i) c.loop-i.start c.share_of-share.result c.loop-i.invariant.start_is c.share_of-share.ensures.inside in
    row-fits (c.loop-i.start + c.share_of-share.result) (share-small n (c.loop-i.start + c.share_of-share.result) inside c.requires.few)

pub loop-i-smaller : goal.loop-i-smaller
loop-i-smaller c = falls c.args.count c.loop-i.i c.loop-i-test.true

pub returns-clause-below : goal.returns-clause-below
returns-clause-below c =
    λ ms holds.
    let end = row-ended c.loop-i.i c.args.count c.loop-i.auto.i-end c.loop-i-test.false in
    let mine = subst (λ (n : ℕ). HoldsIndex ms c.loop-i.blocks c.args.base c.args.first n) (sym end) holds in
    c.loop-i.invariant.below ms mine ∙ share-all c.args.pairs.now c.args.count c.loop-i.i c.loop-i.start c.requires.some end c.loop-i.invariant.start_is

pub returns-clause-places : goal.returns-clause-places
returns-clause-places c =
    let end = row-ended c.loop-i.i c.args.count c.loop-i.auto.i-end c.loop-i-test.false in
    c.loop-i.invariant.places ∙ ap (leaf_places c.args.first) end

pub returns-clause-pointers : goal.returns-clause-pointers
returns-clause-pointers c = c.loop-i.invariant.pointers

pub returns-clause-indexed : goal.returns-clause-indexed
returns-clause-indexed c =
    let end = row-ended c.loop-i.i c.args.count c.loop-i.auto.i-end c.loop-i-test.false in
    λ k less. c.loop-i.invariant.indexed k (subst (λ (n : ℕ). k < n) (sym end) less)

pub returns-clause-links : goal.returns-clause-links
returns-clause-links c = c.loop-i.invariant.links_are ∙ row-ended c.loop-i.i c.args.count c.loop-i.auto.i-end c.loop-i-test.false

pub returns-clause-count : goal.returns-clause-count
returns-clause-count c = c.loop-i.invariant.blocks_count

pub returns-clause-others : goal.returns-clause-others
returns-clause-others c =
    let end = row-ended c.loop-i.i c.args.count c.loop-i.auto.i-end c.loop-i-test.false in
    λ k side. elim side [
      | inl low ↦ c.loop-i.invariant.others k (inl low)
      | inr high ↦ c.loop-i.invariant.others k (inr (subst (λ (n : ℕ). c.args.base + c.args.first + n ≤ k) (sym end) high))
    ]
