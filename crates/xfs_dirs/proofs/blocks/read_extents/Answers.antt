use Rattle.std.proofs.Common.{◌≡◌, ℕ, ◌+◌, ◌≤◌, true, false, None, List, [], ◌∷◌, get_or, drop, sym, ap, ◌∙◌, subst, arith}
use Rattle.std.proofs.lemmas.List.{at_drop_all, at_drop_more}
use Rattle.xfs_word.specs.declared.extents.Extent.{Extent}
use Rattle.xfs_geom.specs.Volumes.{volume_of}
use Rattle.xfs_disk.proofs.Reading.{reads_none, reads_on}
use Rattle.xfs_inode.specs.Files.{are_extents}
use Rattle.xfs_dirs.specs.Gathered.{Found, blocks_in_extents, found_of, found_nothing, with_file_blocks}
use Rattle.xfs_dirs.proofs.Causes.{caused_on, no_later}
use Rattle.xfs_dirs.proofs.Order.{AreBefore, before_all, before_next, extent_first, extents_rest}
use Rattle.xfs_dirs.proofs.Taken.{extent_next, none_next}
use Rattle.xfs_dirs.proofs.blocks.read_extents.Goals as goal

-- what stands behind the last
abbrev no_extent : Extent
no_extent = record { offset = 0; start = 0; count = 0; unwritten = false }

pub loop-extent-init : goal.loop-extent-init
loop-extent-init g c =
    let D = g.D.Disk in
    let v = volume_of c.args.g.now in
    record {
      found = λ image told. ap (λ (found : Found). with_file_blocks v c.args.dir found (blocks_in_extents v image c.args.extents.now)) c.new-gathered.ensures.found;
      lawful = c.requires.extents;
      before = before_all c.new-gathered.result.kept c.args.extents.now c.new-gathered.ensures.below;
      later = no_later (D.faults c.args.disk.now);
      disk = reads_none D.size D.holds D.write_faults D.writes D.tells_stops D.moment D.may_leave D.left_since c.args.disk.now;
      reads = omega arith;
    }

pub read_extent-requires : goal.read_extent-requires
read_extent-requires g c =
    let v = volume_of c.args.g.now in
    let es = c.args.extents.now in
    let i = c.loop-extent.extent-index in
    let before = c.loop-extent.invariant in
    let e = get_or es i no_extent in
    let split : drop i es ≡ e ∷ drop (i + 1) es = at_drop_more (λ (xs : List Extent). xs) es i no_extent (omega arith) in
    let lawful : are_extents v None (e ∷ drop (i + 1) es) ≡ true = subst (λ (xs : List Extent). are_extents v None xs ≡ true) split before.lawful in
    record {
      extent = extent_first v e (drop (i + 1) es) lawful;
      inside = subst (λ (n : ℕ). c.args.g.now.dblocks ≤ n) (sym before.disk.same_size) c.requires.inside;
      below = subst (AreBefore c.loop-extent.gathered.kept) split before.before;
    }

pub loop-extent-preserved : goal.loop-extent-preserved
loop-extent-preserved g c =
    let D = g.D.Disk in
    let v = volume_of c.args.g.now in
    let es = c.args.extents.now in
    let i = c.loop-extent.extent-index in
    let before = c.loop-extent.invariant in
    let read = c.in-Ok.ensures in
    let e = get_or es i no_extent in
    let split : drop i es ≡ e ∷ drop (i + 1) es = at_drop_more (λ (xs : List Extent). xs) es i no_extent (omega arith) in
    let lawful : are_extents v None (e ∷ drop (i + 1) es) ≡ true = subst (λ (xs : List Extent). are_extents v None xs ≡ true) split before.lawful in
    record {
      found = λ image told. extent_next v c.args.dir image e (drop i es) (drop (i + 1) es) (found_of c.loop-extent.gathered) (found_of c.read_extent.new.gathered)
          (with_file_blocks v c.args.dir found_nothing (blocks_in_extents v image es)) split
          (read.found image (before.disk.same_contents ∙ told)) (before.found image told);
      lawful = extents_rest v e (drop (i + 1) es) lawful;
      before = before_next v c.read_extent.new.gathered.kept e (drop (i + 1) es) lawful read.below;
      later = let up = before.later in let cause = read.cause in omega (arith, up, cause);
      disk = reads_on D.size D.holds D.write_faults D.writes D.tells_stops D.moment D.may_leave D.left_since c.args.disk.now c.loop-extent.disk c.read_extent.new.disk before.disk read.disk;
      reads = let up = before.reads in let more = read.reads in omega (arith, up, more);
    }

pub returns-clause-found : goal.returns-clause-found
returns-clause-found g c = λ image told.
    none_next (volume_of c.args.g.now) c.args.dir image (drop c.loop-extent.extent-index c.args.extents.now) (found_of c.loop-extent.gathered)
    (with_file_blocks (volume_of c.args.g.now) c.args.dir found_nothing (blocks_in_extents (volume_of c.args.g.now) image c.args.extents.now))
    (at_drop_all (λ (xs : List Extent). xs) c.args.extents.now c.loop-extent.extent-index (omega arith)) (c.loop-extent.invariant.found image told)

pub returns-clause-order : goal.returns-clause-order
returns-clause-order g c =
    let none : drop c.loop-extent.extent-index c.args.extents.now ≡ [] = at_drop_all (λ (xs : List Extent). xs) c.args.extents.now c.loop-extent.extent-index (omega arith) in
    subst (AreBefore c.loop-extent.gathered.kept) none c.loop-extent.invariant.before

pub returns-clause-cause : goal.returns-clause-cause
returns-clause-cause g c = c.loop-extent.invariant.later

pub returns-clause-disk : goal.returns-clause-disk
returns-clause-disk g c = c.loop-extent.invariant.disk

pub returns-clause-reads : goal.returns-clause-reads
returns-clause-reads g c = c.loop-extent.invariant.reads

pub returns-in-Err : goal.returns-in-Err
returns-in-Err g c =
    let D = g.D.Disk in
    let before = c.loop-extent.invariant in
    let failed = c.in-Err.ensures in
    record {
      found = tt;
      order = tt;
      cause = caused_on (D.faults c.args.disk.now) (D.faults c.loop-extent.disk) (D.faults c.read_extent.new.disk) c.in-Err.fault before.later failed.cause;
      disk = reads_on D.size D.holds D.write_faults D.writes D.tells_stops D.moment D.may_leave D.left_since c.args.disk.now c.loop-extent.disk c.read_extent.new.disk before.disk failed.disk;
      reads = let up = before.reads in let more = failed.reads in omega (arith, up, more);
    }
