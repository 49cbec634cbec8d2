use Rattle.std.proofs.Common.{◌≡◌, ℕ, List, length, refl, arith, ap, ◌∙◌, ◌+◌, ◌<◌, [], ◌∷◌, ◌++◌, false, take, get_or}
use Rattle.std.proofs.lemmas.List.Sums.{sum_by-append, sum_by-cons}
use Rattle.std.proofs.lemmas.Result.{IfOk-from_err}
use Rattle.std.specs.List.{flat_map, sum_by}
use Rattle.std.proofs.lemmas.List.{take_all, take_more}
use borrow.Author.Count.{falls}
use Rattle.xfs_word.specs.Extent.{packed}
use Rattle.xfs_word.specs.declared.extents.Extent.{Extent}
use Rattle.xfs_inodebuild.specs.declared.forks.ForkWanted.{ForkWanted}
use Rattle.xfs_render.proofs.ObjectSteps.{flat_more}
use Rattle.xfs_filled.specs.Forks.{extent_fork}
use Rattle.xfs_filled.proofs.forks.extent_fork.Goals as goal

fork_is : (size nblocks nextents : ℕ) (bytes : List ℕ) (extents : List Extent) → nblocks ≡ sum_by (λ (e : Extent). e.count) extents → nextents ≡ length extents
    → bytes ≡ flat_map packed extents → ◌≡◌ {A = ForkWanted} (record { format = 2; size = size; nblocks = nblocks; nextents = nextents; bytes = bytes }) (extent_fork size extents)
fork_is size nblocks nextents bytes extents counts many are = rw (counts, many, are) refl

pub returns : goal.returns
returns c =
    let past = c.loop-extent-test.false in
    let whole = take_all c.loop-extent.extent-index c.args.extents.now (omega (arith, past)) in
    fork_is c.args.size c.loop-extent.nblocks (length c.args.extents.now) c.from_vec.result c.args.extents.now
    (c.loop-extent.invariant.sum' ∙ ap (sum_by (λ (e : Extent). e.count)) whole) refl (c.from_vec.ensures ∙ c.loop-extent.invariant.bytes ∙ ap (flat_map packed) whole)

pub loop-extent-init : goal.loop-extent-init
loop-extent-init c = record { bytes = c.new-bytes.ensures.items; sum' = refl; few = omega arith }

pub loop-extent-smaller : goal.loop-extent-smaller
loop-extent-smaller c = falls _ c.loop-extent.extent-index c.loop-extent-test.true

pub returns-in_err-extend_from_slice : goal.returns-in_err-extend_from_slice
returns-in_err-extend_from_slice c = IfOk-from_err c.from_residual.result _ c.from_residual.ensures.0

abbrev no_extent : Extent
no_extent = record { offset = 0; start = 0; count = 0; unwritten = false }

summed_more : (f : Extent → ℕ) (xs : List Extent) (i now : ℕ) (d : Extent) → i < length xs → now ≡ sum_by f (take i xs) → now + f (get_or xs i d) ≡ sum_by f (take (i + 1) xs)
summed_more f xs i now d inside was =
    let x = get_or xs i d in
    let more = ap (sum_by f) (take_more xs i d inside) ∙ sum_by-append f (take i xs) (x ∷ []) in
    let one = sum_by-cons f x [] in
    omega (arith, was, more, one)

pub pack_extent-requires : goal.pack_extent-requires
pack_extent-requires c = c.requires.extents c.loop-extent.extent-index no_extent c.loop-extent-test.true

pub overflow_add-nblocks : goal.overflow_add-nblocks
overflow_add-nblocks c =
    let small = (c.requires.extents c.loop-extent.extent-index no_extent c.loop-extent-test.true).count in
    omega (arith, c.loop-extent.invariant.few, small, c.loop-extent-test.true, c.requires.few)

pub loop-extent-preserved : goal.loop-extent-preserved
loop-extent-preserved c =
    let l = c.loop-extent in
    let xs = c.args.extents.now in
    let small = (c.requires.extents l.extent-index no_extent c.loop-extent-test.true).count in
    record {
      bytes = flat_more packed [] l.bytes.items c.extend_from_slice.new.self.items xs l.extent-index no_extent c.loop-extent-test.true l.invariant.bytes
          (c.in_ok-extend_from_slice.ensures.items ∙ ap (λ (p : List ℕ). l.bytes.items ++ p) c.pack_extent.ensures);
      sum' = summed_more (λ (e : Extent). e.count) xs l.extent-index l.nblocks no_extent c.loop-extent-test.true l.invariant.sum';
      few = omega (arith, l.invariant.few, small);
    }
