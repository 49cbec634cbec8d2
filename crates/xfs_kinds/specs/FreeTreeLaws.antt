-- The laws of the trees of free runs.
use Rattle.std.proofs.Common.{◌≡◌, ℕ, ◌≤◌, Bool, ◌&&◌, ◌==◌, true, nat_le, IsTrue, Option, Some, None, Less, refl, arith}
use Rattle.std.specs.Cmp.{IsTotalOrder}
use Rattle.std.specs.declared.cmp.Ordering.{Ordering}
use Rattle.std.proofs.lemmas.Bool.{and_parts, and_from, leb-true}
use Rattle.std.proofs.lemmas.Bool.Decides.{nat_tests}
use Rattle.std.proofs.lemmas.Cmp.{nat_cmp_total, nat_eq_equiv, on_total, then_total}
use Rattle.xfs_geom.specs.Volumes.{Volume}
use Rattle.xfs_geom.specs.declared.records.Span.{Span}
use Rattle.xfs_tree.specs.Shape.{IsKind}
use Rattle.xfs_kinds.specs.Groups.{lies_in_group}
use Rattle.xfs_kinds.specs.Spans.{fits_span}
use Rattle.xfs_kinds.specs.SpanLaws.{span_len, span_again}
use Rattle.xfs_kinds.specs.FreeTrees.{is_free_run, start_order, length_order, begins_behind, ranks_behind, free_shape, bno_shape, cnt_shape}

-- the free runs fit, and have some blocks
run_fits : (v : Volume) (ag : ℕ) (s : Span) → IsTrue (is_free_run v ag s) → IsTrue (fits_span s) × (1 ≤ s.count)
run_fits v ag s h =
    let a = and_parts (fits_span s && nat_le 1 s.count && nat_le 1 s.start) (lies_in_group v ag s.start s.count) h in
    let b = and_parts (fits_span s && nat_le 1 s.count) (nat_le 1 s.start) a.0 in
    let c = and_parts (fits_span s) (nat_le 1 s.count) b.0 in
    (c.0, leb-true 1 s.count c.1)

-- the laws of either tree
free_kind : (magic : ℕ) (order : Span → Span → Ordering) (follows : Option Span → Span → Bool) (ag : ℕ)
    → IsTotalOrder order
    → ((s : Span) → follows None s ≡ true)
    → ((r next : Span) → 1 ≤ r.count → IsTrue (follows (Some r) next) → order r next ≡ Less)
    → IsKind (free_shape magic order follows ag)
free_kind magic order follows ag total first ascends = record {
  laid_out = record {
    some_bytes = omega arith;
    some_key = omega arith;
    some_records = omega arith;
    two_children = omega arith;
    leaf_fits = omega arith;
    node_fits = omega arith;
    long_magic = λ long. cc;
  };
  total = total;
  same_as_itself = λ s. and_from (s.start == s.start) (s.count == s.count) (nat_eq_equiv.refl s.start) (nat_eq_equiv.refl s.count);
  record_len = λ s h. span_len s;
  key_len = λ s h. span_len s;
  record_again = span_again;
  key_again = span_again;
  lawful_fits = λ v before s h. (run_fits v ag s (and_parts (is_free_run v ag s) (follows before s) h).0).0;
  low_fits = λ s h. h;
  high_fits = λ s h. h;
  one_key = λ s h. refl;
  low_settled = λ s h. refl;
  high_settled = λ s h. refl;
  lawful_settled = λ v before s h. h;
  lawful_behind = λ v s next h. h;
  lawful_first = λ v s next one h.
      and_from (is_free_run v ag next) (follows None next) (and_parts (is_free_run v ag next) (follows (Some s) next) h).0 (first next);
  ascends = λ v s next one h.
      ascends s next (run_fits v ag s (and_parts (is_free_run v ag s) (follows None s) one).0).1
      (and_parts (is_free_run v ag next) (follows (Some s) next) h).1;
}

start_total : IsTotalOrder start_order
start_total = on_total (λ (s : Span). s.start) nat_cmp_total

length_total : IsTotalOrder length_order
length_total = then_total (on_total (λ (s : Span). s.count) nat_cmp_total) start_total

starts_ascend : (r next : Span) → 1 ≤ r.count → IsTrue (begins_behind (Some r) next) → start_order r next ≡ Less
starts_ascend r next some h = grind (arith, nat_tests)

lengths_ascend : (r next : Span) → 1 ≤ r.count → IsTrue (ranks_behind (Some r) next) → length_order r next ≡ Less
lengths_ascend r next some h = grind (arith, nat_tests)

pub bno_kind : (ag : ℕ) → IsKind (bno_shape ag)
bno_kind ag = free_kind 0x4142_3342 start_order begins_behind ag start_total (λ s. refl) starts_ascend

pub cnt_kind : (ag : ℕ) → IsKind (cnt_shape ag)
cnt_kind ag = free_kind 0x4142_3343 length_order ranks_behind ag length_total (λ s. refl) lengths_ascend
