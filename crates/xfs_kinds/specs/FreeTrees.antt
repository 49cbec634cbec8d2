-- The trees of free runs, by their starts and by their lengths (chapter "AG Free Space Management").
use Rattle.std.specs.Prelude.{ℕ, Bool, true, false, ◌+◌, ◌&&◌, ◌||◌, ◌==◌, nat_le, nat_lt, Option, Some, None}
use Rattle.std.specs.Ordering.{nat_cmp, on, then_cmp}
use Rattle.std.specs.declared.cmp.Ordering.{Ordering}
use Rattle.xfs_geom.specs.Volumes.{Volume}
use Rattle.xfs_geom.specs.declared.records.Span.{Span}
use Rattle.xfs_tree.specs.declared.layout.Layout.{Layout}
use Rattle.xfs_tree.specs.Shape.{Shape}
use Rattle.xfs_kinds.specs.Groups.{lies_in_group}
use Rattle.xfs_kinds.specs.Spans.{span_at_bytes, span_bytes, fits_span}

-- leaves of 505 records of eight bytes, nodes of 336 keys of eight bytes
abbrev pub free_layout : ℕ → Layout
free_layout magic = record { magic = magic; long = false; high = false; record_len = 8; key_len = 8; leaf_cap = 505; node_cap = 336 }

-- some blocks of the group, behind its first one
abbrev pub is_free_run : Volume → ℕ → Span → Bool
is_free_run v ag s = fits_span s && nat_le 1 s.count && nat_le 1 s.start && lies_in_group v ag s.start s.count

abbrev pub start_order : Span → Span → Ordering
start_order = on (λ (s : Span). s.start) nat_cmp

abbrev pub count_order : Span → Span → Ordering
count_order = on (λ (s : Span). s.count) nat_cmp

-- by length, and among equal lengths by start
abbrev pub length_order : Span → Span → Ordering
length_order = then_cmp count_order start_order

-- a run begins behind the end of the one before it, and does not touch it
abbrev pub begins_behind : Option Span → Span → Bool
begins_behind None s = true
begins_behind (Some before) s = nat_lt (before.start + before.count) s.start

-- a run is longer than the one before it, or as long and begins behind its start
abbrev pub ranks_behind : Option Span → Span → Bool
ranks_behind None s = true
ranks_behind (Some before) s = nat_lt before.count s.count || (before.count == s.count && nat_lt before.start s.start)

-- a tree of free runs of a group, given what makes it differ from the other
abbrev pub free_shape : ℕ → (Span → Span → Ordering) → (Option Span → Span → Bool) → ℕ → Shape Span Span
free_shape magic order follows ag = record {
  layout = free_layout magic;
  owner = ag;
  record_of = span_at_bytes;
  record_bytes = span_bytes;
  key_of = span_at_bytes;
  key_bytes = span_bytes;
  low = λ s. s;
  high = λ s. s;
  order = order;
  same = λ a b. a.start == b.start && a.count == b.count;
  fits = fits_span;
  fits_key = fits_span;
  lawful = λ v before s. is_free_run v ag s && follows before s;
  settled = λ s. s;
}

abbrev pub bno_shape : ℕ → Shape Span Span
bno_shape = free_shape 0x4142_3342 start_order begins_behind

abbrev pub cnt_shape : ℕ → Shape Span Span
cnt_shape = free_shape 0x4142_3343 length_order ranks_behind
