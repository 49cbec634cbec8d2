use Rattle.std.proofs.Common.{◌≡◌, ℕ, ◌%◌, ◌≤◌, true, List, ◌∙◌, ap, ◌+◌, lit≤, arith, inl, inr}
use Rattle.std.proofs.Math.Nat.{zero-mod}
use Rattle.xfs_word.specs.Field.{field_of, part_of}
use Rattle.xfs_geom.specs.Stated.{stated}
use Rattle.xfs_geom.specs.Writing.{is_kept_field}
use Rattle.xfs_geom.proofs.Written.{apart, read_through, ready, low_root, some_blocks, accepted_anew, same_volume_stated}
use Rattle.xfs_geom.proofs.writing.write_super.Goals as goal

pub put_system_inodes-requires-clause-low : goal.put_system_inodes-requires-clause-low
put_system_inodes-requires-clause-low c =
    let low : (stated c.args.base.now).rootino % 32 ≤ 29 = low_root c.args.base.now c.requires.accepted in
    omega arith

pub seal_super-requires-clause-ready : goal.seal_super-requires-clause-ready
seal_super-requires-clause-ready c =
    let magic : field_of c.put64.new.bytes 0 4 ≡ field_of c.args.base.now 0 4 =
    c.put64.ensures.keeps 0 4 (inl (lit≤ tt)) ∙ (c.put_counters.ensures.keeps 0 4 (inl (lit≤ tt)) ∙ (c.put8.ensures.keeps 0 4 (inl (lit≤ tt))
    ∙ (c.put_system_inodes.ensures.keeps 0 4 (inl (lit≤ tt)) ∙ ap (λ (b : List ℕ). field_of b 0 4) c.copy_from_slice.ensures.after))) in
    let version : field_of c.put64.new.bytes 100 2 ≡ field_of c.args.base.now 100 2 =
    c.put64.ensures.keeps 100 2 (inl (lit≤ tt)) ∙ (c.put_counters.ensures.keeps 100 2 (inl (lit≤ tt)) ∙ (c.put8.ensures.keeps 100 2 (inl (lit≤ tt))
    ∙ (c.put_system_inodes.ensures.keeps 100 2 (inr (lit≤ tt)) ∙ ap (λ (b : List ℕ). field_of b 100 2) c.copy_from_slice.ensures.after))) in
    ready c.args.base.now c.put64.new.bytes c.requires.accepted magic version c.put64.ensures.put

pub returns-clause-written : goal.returns-clause-written
returns-clause-written c =
    let base = c.args.base.now in
    let b0 = c.copy_from_slice.new.self in
    let b1 = c.put_system_inodes.new.sector in
    let b2 = c.put8.new.bytes in
    let b3 = c.put_counters.new.sector in
    let b4 = c.put64.new.bytes in
    let number = λ (a w : ℕ) (h : is_kept_field a w ≡ true).
    read_through field_of b0 b1 b2 b3 b4 a w (apart a w h) (c.put_system_inodes.ensures.keeps a w) (c.put8.ensures.keeps a w)
    (c.put_counters.ensures.keeps a w) (c.put64.ensures.keeps a w)
    ∙ ap (λ (b : List ℕ). field_of b a w) c.copy_from_slice.ensures.after in
    let part = λ (a w : ℕ) (h : is_kept_field a w ≡ true).
    read_through part_of b0 b1 b2 b3 b4 a w (apart a w h) (c.put_system_inodes.ensures.keeps_parts a w) (c.put8.ensures.keeps_parts a w)
    (c.put_counters.ensures.keeps_parts a w) (c.put64.ensures.keeps_parts a w)
    ∙ ap (λ (b : List ℕ). part_of b a w) c.copy_from_slice.ensures.after in
    record {
      rbmino = c.seal_super.ensures.keeps 64 8 (inl (lit≤ tt)) ∙ (c.put64.ensures.keeps 64 8 (inl (lit≤ tt)) ∙ (c.put_counters.ensures.keeps 64 8 (inl (lit≤ tt)) ∙ (c.put8.ensures.keeps 64 8 (inl (lit≤ tt)) ∙ (c.put_system_inodes.ensures.rbmino ∙ ap (λ (n : ℕ). n + 1) c.get64-rootino.ensures))));
      rsumino = c.seal_super.ensures.keeps 72 8 (inl (lit≤ tt)) ∙ (c.put64.ensures.keeps 72 8 (inl (lit≤ tt)) ∙ (c.put_counters.ensures.keeps 72 8 (inl (lit≤ tt)) ∙ (c.put8.ensures.keeps 72 8 (inl (lit≤ tt)) ∙ (c.put_system_inodes.ensures.rsumino ∙ ap (λ (n : ℕ). n + 2) c.get64-rootino.ensures))));
      inprogress = c.seal_super.ensures.keeps 126 1 (inl (lit≤ tt)) ∙ (c.put64.ensures.keeps 126 1 (inl (lit≤ tt)) ∙ (c.put_counters.ensures.keeps 126 1 (inl (lit≤ tt)) ∙ c.put8.ensures.put));
      icount = c.seal_super.ensures.keeps 128 8 (inl (lit≤ tt)) ∙ (c.put64.ensures.keeps 128 8 (inl (lit≤ tt)) ∙ c.put_counters.ensures.icount);
      ifree = c.seal_super.ensures.keeps 136 8 (inl (lit≤ tt)) ∙ (c.put64.ensures.keeps 136 8 (inl (lit≤ tt)) ∙ c.put_counters.ensures.ifree);
      fdblocks = c.seal_super.ensures.keeps 144 8 (inl (lit≤ tt)) ∙ (c.put64.ensures.keeps 144 8 (inl (lit≤ tt)) ∙ c.put_counters.ensures.fdblocks);
      frextents = c.seal_super.ensures.keeps 152 8 (inl (lit≤ tt)) ∙ (c.put64.ensures.keeps 152 8 (inl (lit≤ tt)) ∙ c.put_counters.ensures.frextents);
      lsn = c.seal_super.ensures.keeps 240 8 (inr (lit≤ tt)) ∙ c.put64.ensures.put;
      numbers = λ a w h. c.seal_super.ensures.keeps a w (apart a w h).checksum ∙ number a w h;
      parts = λ a w h. c.seal_super.ensures.keeps_parts a w (apart a w h).checksum ∙ part a w h;
      sealed = c.seal_super.ensures.sealed;
    }

pub returns-clause-accepted : goal.returns-clause-accepted
returns-clause-accepted c =
    λ place blocks first inside enough.
    accepted_anew c.args.base.now c.args.counts.now c.seal_super.new.sector place blocks c.requires.accepted (returns-clause-written c) first inside enough

pub returns-clause-primary : goal.returns-clause-primary
returns-clause-primary c =
    λ blocks enough.
    accepted_anew c.args.base.now c.args.counts.now c.seal_super.new.sector 0 blocks c.requires.accepted (returns-clause-written c) (zero-mod _) (some_blocks c.args.base.now c.requires.accepted) enough

pub returns-clause-states : goal.returns-clause-states
returns-clause-states c = same_volume_stated c.args.base.now c.args.counts.now c.seal_super.new.sector (returns-clause-written c)
