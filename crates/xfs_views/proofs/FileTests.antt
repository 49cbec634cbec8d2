-- A slot reads as a file by its tests where it does in words, and the other way round.
use Rattle.std.proofs.Common.{◌≡◌, ◌≢◌, ◌⊎◌, inl, inr, ℕ, suc, ◌+◌, ◌^◌, ◌<◌, ◌≤◌, Bool, true, false, not, ◌&&◌, ◌||◌, ◌==◌, nat_le, nat_lt, List, [], ◌∷◌, Option, Some, None, refl, sym, arith}
use Rattle.std.specs.List.{All, AllPairs, list_all}
use Rattle.std.proofs.lemmas.Bool.{and_parts, and_from, eqb-false, eqb-true, eq-eqb, le-leb, leb-true, lt-ltb, ltb-true, or_cases, or_left, or_right, true≢false}
use Rattle.std.proofs.lemmas.List.Elements.{All-cons, All-head, All-nil, All-tail, All-weaker}
use Rattle.std.proofs.lemmas.List.Kept.{AllPairs-cons}
use Rattle.xfs_word.specs.declared.extents.Extent.{Extent}
use Rattle.xfs_geom.specs.Volumes.{Volume}
use Rattle.xfs_tree.specs.Reading.{Contents}
use Rattle.xfs_kinds.specs.FileTrees.{follows_offset, is_extent}
use Rattle.xfs_volume.specs.declared.cores.Core.{Core}
use Rattle.xfs_inode.specs.Files.{ranges_apart, are_blocks, are_extents, has_format, has_forkoff, is_apart, is_core, is_local_whole, is_placed, ranges_of, states_no_fork}
use Rattle.xfs_inode.specs.Forks.{core_type}
use Rattle.xfs_inode.specs.Slots.{fork_bytes}
use Rattle.xfs_inode.specs.declared.claims.BlockRange.{BlockRange}
use Rattle.xfs_views.specs.FilesInWords.{RangesApart, IsDataPlaced, IsFileCore}
use Rattle.xfs_views.proofs.Tests.{all_pass, all_say}

-- a test that is asked where another is passed
pub asked_says : (a b : Bool) → (not a || b) ≡ true → a ≡ true → b ≡ true
asked_says true b is on = is
asked_says false b is on = absurd (true≢false (sym on))

pub asked_passes : (a b : Bool) → (a ≡ true → b ≡ true) → (not a || b) ≡ true
asked_passes true b each = each refl
asked_passes false b each = refl

-- the core
either_says : (a b : ℕ) (t : ℕ) → (t == a || t == b) ≡ true → (t ≡ a) ⊎ (t ≡ b)
either_says a b t is = elim (or_cases (t == a) (t == b) is) [ inl one ↦ inl (eqb-true t a one) | inr two ↦ inr (eqb-true t b two) ]

either_passes : (a b : ℕ) (t : ℕ) → (t ≡ a) ⊎ (t ≡ b) → (t == a || t == b) ≡ true
either_passes a b t (inl one) = or_left (t == a) (t == b) (eq-eqb t a one)
either_passes a b t (inr two) = or_right (t == a) (t == b) (eq-eqb t b two)

behind_says : (type forkoff : ℕ) → (not (type == 4) || forkoff == 0 || nat_le 6 forkoff) ≡ true → type ≡ 4 → forkoff ≢ 0 → 6 ≤ forkoff
behind_says type forkoff is dir some =
    elim (or_cases (not (type == 4) || forkoff == 0) (nat_le 6 forkoff) is) [
      | inl either ↦ absurd (some (eqb-true forkoff 0 (asked_says (type == 4) (forkoff == 0) either (eq-eqb type 4 dir))))
      | inr far ↦ leb-true 6 forkoff far
    ]

behind_passes : (type forkoff : ℕ) → (type ≡ 4 → forkoff ≢ 0 → 6 ≤ forkoff) → (not (type == 4) || forkoff == 0 || nat_le 6 forkoff) ≡ true
behind_passes type forkoff each = by_both (type == 4) (forkoff == 0) refl refl
  where
    by_both : (a b : Bool) → (type == 4) ≡ a → (forkoff == 0) ≡ b → (not a || b || nat_le 6 forkoff) ≡ true
    by_both false b dir none = refl
    by_both true true dir none = refl
    by_both true false dir none = le-leb 6 forkoff (each (eqb-true type 4 dir) (eqb-false forkoff 0 none))

pub core_says : (core : Core) → is_core core ≡ true → IsFileCore core
core_says core is =
    let a = has_format (core_type core) core.format in
    let b = has_forkoff (core_type core) core.forkoff in
    let c = nat_lt core.size (2 ^ 63) in
    let d = not (core.forkoff == 0) || states_no_fork core in
    let four = and_parts (a && b && c && d) (is_local_whole core) is in
    let three = and_parts (a && b && c) d four.0 in
    let two = and_parts (a && b) c three.0 in
    let one = and_parts a b two.0 in
    let fork = and_parts (nat_le core.forkoff 41) (not (core_type core == 4) || core.forkoff == 0 || nat_le 6 core.forkoff) one.1 in
    let none = λ (no : core.forkoff ≡ 0). and_parts (core.anextents == 0) (core.aformat == 0 || core.aformat == 2) (asked_says (core.forkoff == 0) (states_no_fork core) three.1 (eq-eqb core.forkoff 0 no)) in
    let fits = nat_le core.size (fork_bytes core.forkoff) in
    let target = not (core_type core == 10) || nat_le 1 core.size in
    let own = λ (local : core.format ≡ 1). and_parts fits target (asked_says (core.format == 1) (fits && target) four.1 (eq-eqb core.format 1 local)) in
    record {
      format = one.0;
      inside = leb-true core.forkoff 41 fork.0;
      behind = behind_says (core_type core) core.forkoff fork.1;
      size = ltb-true core.size (2 ^ 63) two.1;
      no_extents = λ no. eqb-true core.anextents 0 (none no).0;
      no_format = λ no. either_says 0 2 core.aformat (none no).1;
      fits = λ local. leb-true core.size (fork_bytes core.forkoff) (own local).0;
      some = λ local link. leb-true 1 core.size (asked_says (core_type core == 10) (nat_le 1 core.size) (own local).1 (eq-eqb (core_type core) 10 link));
    }

pub core_passes : (core : Core) → IsFileCore core → is_core core ≡ true
core_passes core is =
    let a = has_format (core_type core) core.format in
    let b = has_forkoff (core_type core) core.forkoff in
    let c = nat_lt core.size (2 ^ 63) in
    let d = not (core.forkoff == 0) || states_no_fork core in
    let fits = nat_le core.size (fork_bytes core.forkoff) in
    let target = not (core_type core == 10) || nat_le 1 core.size in
    and_from (a && b && c && d) (is_local_whole core)
    (and_from (a && b && c) d
    (and_from (a && b) c
    (and_from a b is.format
    (and_from (nat_le core.forkoff 41) (not (core_type core == 4) || core.forkoff == 0 || nat_le 6 core.forkoff) (le-leb core.forkoff 41 is.inside) (behind_passes (core_type core) core.forkoff is.behind)))
    (lt-ltb core.size (2 ^ 63) is.size))
    (asked_passes (core.forkoff == 0) (states_no_fork core) (λ no.
    and_from (core.anextents == 0) (core.aformat == 0 || core.aformat == 2) (eq-eqb core.anextents 0 (is.no_extents (eqb-true core.forkoff 0 no)))
    (either_passes 0 2 core.aformat (is.no_format (eqb-true core.forkoff 0 no))))))
    (asked_passes (core.format == 1) (fits && target) (λ local.
    and_from fits target (le-leb core.size (fork_bytes core.forkoff) (is.fits (eqb-true core.format 1 local)))
    (asked_passes (core_type core == 10) (nat_le 1 core.size) (λ link. le-leb 1 core.size (is.some (eqb-true core.format 1 local) (eqb-true (core_type core) 10 link))))))

-- runs that are apart
pub apart_says : (a b : BlockRange) → is_apart a b ≡ true → RangesApart a b
apart_says a b is = elim (or_cases (nat_le a.end b.start) (nat_le b.end a.start) is) [ inl one ↦ inl (leb-true a.end b.start one) | inr two ↦ inr (leb-true b.end a.start two) ]

pub apart_passes : (a b : BlockRange) → RangesApart a b → is_apart a b ≡ true
apart_passes a b (inl one) = or_left (nat_le a.end b.start) (nat_le b.end a.start) (le-leb a.end b.start one)
apart_passes a b (inr two) = or_right (nat_le a.end b.start) (nat_le b.end a.start) (le-leb b.end a.start two)

runs_say : (runs : List BlockRange) → ranges_apart runs ≡ true → AllPairs RangesApart runs
unfolding ranges_apart
runs_say [] is = λ i j d lt within. absurd (omega (arith, within))
runs_say (run ∷ runs) is =
    let parts = and_parts (list_all (is_apart run) runs) (ranges_apart runs) is in
    AllPairs-cons RangesApart run runs (all_say (is_apart run) (RangesApart run) (apart_says run) runs parts.0) (runs_say runs parts.1)

pub runs_pass : (runs : List BlockRange) → AllPairs RangesApart runs → ranges_apart runs ≡ true
unfolding ranges_apart
runs_pass [] all = refl
runs_pass (run ∷ runs) all =
    and_from (list_all (is_apart run) runs) (ranges_apart runs)
    (all_pass (is_apart run) (RangesApart run) (apart_passes run) runs (λ k d lt. all 0 (suc k) d (omega arith) (omega (arith, lt))))
    (runs_pass runs (λ i j d lt within. all (suc i) (suc j) d (omega (arith, lt)) (omega (arith, within))))

-- extents in file order
abbrev Ends : Extent → Extent → Type 0
Ends a b = a.offset + a.count ≤ b.offset

abbrev Behind : Option Extent → Extent → Type 0
Behind None e = Unit {0}
Behind (Some before) e = Ends before e

behind_one : (v : Volume) (before : Option Extent) (e : Extent) → follows_offset before e ≡ true → Behind before e
behind_one v None e is = tt
behind_one v (Some before) e is = leb-true (before.offset + before.count) e.offset is

behind_more : (before : Option Extent) (e other : Extent) → Behind before e → Ends e other → Behind before other
behind_more None e other one more = tt
behind_more (Some before) e other one more = omega (arith, one, more)

follows : (before : Option Extent) (e : Extent) → Behind before e → follows_offset before e ≡ true
follows None e is = refl
follows (Some before) e is = le-leb (before.offset + before.count) e.offset is

extents_say : (v : Volume) (before : Option Extent) (es : List Extent) → are_extents v before es ≡ true
    → All (λ (e : Extent). is_extent v e ≡ true) es × All (Behind before) es × AllPairs Ends es
extents_say v before [] is = (All-nil (λ (e : Extent). is_extent v e ≡ true), All-nil (Behind before), λ i j d lt within. absurd (omega (arith, within)))
extents_say v before (e ∷ es) is =
    let both = and_parts (is_extent v e && follows_offset before e) (are_extents v (Some e) es) is in
    let parts = and_parts (is_extent v e) (follows_offset before e) both.0 in
    let rest = extents_say v (Some e) es both.1 in
    let here = behind_one v before e parts.1 in (
      All-cons (λ (e : Extent). is_extent v e ≡ true) e es parts.0 rest.0,
      All-cons (Behind before) e es here (All-weaker (Ends e) (Behind before) (λ other more. behind_more before e other here more) es rest.1),
      AllPairs-cons Ends e es rest.1 rest.2,
    )

extents_pass : (v : Volume) (before : Option Extent) (es : List Extent) → All (λ (e : Extent). is_extent v e ≡ true) es → All (Behind before) es → AllPairs Ends es
    → are_extents v before es ≡ true
extents_pass v before [] all behind up = refl
extents_pass v before (e ∷ es) all behind up =
    and_from (is_extent v e && follows_offset before e) (are_extents v (Some e) es)
    (and_from (is_extent v e) (follows_offset before e) (All-head (λ (e : Extent). is_extent v e ≡ true) e es all) (follows before e (All-head (Behind before) e es behind)))
    (extents_pass v (Some e) es (All-tail (λ (e : Extent). is_extent v e ≡ true) e es all) (λ k d lt. up 0 (suc k) d (omega arith) (omega (arith, lt)))
    (λ i j d lt within. up (suc i) (suc j) d (omega (arith, lt)) (omega (arith, within))))

pub placed_says : (v : Volume) (held : Contents Extent) → is_placed v held ≡ true → ranges_apart (ranges_of v held) ≡ true → IsDataPlaced v held
placed_says v held is apart =
    let parts = and_parts (are_extents v None held.records) (are_blocks v held.blocks) is in
    let extents = extents_say v None held.records parts.0 in
    record {
      extents = extents.0;
      ascend = extents.2;
      tree_blocks = all_say (λ block. nat_lt block v.dblocks) (λ block. block < v.dblocks) (λ block less. ltb-true block v.dblocks less) held.blocks parts.1;
      apart = runs_say (ranges_of v held) apart;
    }

pub placed_passes : (v : Volume) (held : Contents Extent) → IsDataPlaced v held → is_placed v held ≡ true
placed_passes v held is =
    and_from (are_extents v None held.records) (are_blocks v held.blocks) (extents_pass v None held.records is.extents (λ k d lt. tt) is.ascend)
    (all_pass (λ block. nat_lt block v.dblocks) (λ block. block < v.dblocks) (λ block less. lt-ltb block v.dblocks less) held.blocks is.tree_blocks)
