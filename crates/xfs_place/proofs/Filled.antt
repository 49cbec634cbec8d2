-- What is in a group once its trees are placed.
use Rattle.std.proofs.Common.{◌≡◌, ℕ, ◌<◌, inl, inr, Bool, true, false, ◌&&◌, nat_le, nat_lt, if◌then◌else◌, List, length, length-drop, map, drop, Option, Some, None, refl, sym, ◌∙◌, ap, subst, arith}
use Rattle.std.proofs.lemmas.Bool.{cases_Bool, cases_lt, or_cases, or_left, or_right, and_from, and_parts, lt-ltb, le-ltb, le-leb, leb-true, false_from_ne_true, true≢false}
use Rattle.std.specs.List.{filter, sum}
use Rattle.xfs_geom.specs.Sums.{has_free}
use Rattle.xfs_geom.specs.declared.records.InoRec.{InoRec}
use Rattle.xfs_geom.specs.declared.records.RmapRec.{RmapRec}
use Rattle.xfs_geom.specs.declared.records.Run.{Run}
use Rattle.xfs_geom.specs.declared.records.Span.{Span}
use Rattle.xfs_kinds.specs.FreeRuns.{AreSeparate, is_in_spans}
use Rattle.xfs_kinds.specs.MergedRuns.{NoneJoin, held_at}
use Rattle.xfs_place.specs.declared.uses.Use.{Use}
use Rattle.xfs_place.specs.declared.uses.Use.TheVariants.{Pool, Reserved, Claimed, ForSpace, ForInodes}
use Rattle.xfs_place.specs.declared.placed.GroupPlaced.{GroupPlaced}
use Rattle.xfs_place.specs.Claims.{AreClaims}
use Rattle.xfs_place.specs.Pool.{is_open, use_at}
use Rattle.xfs_place.specs.Choice.{AreLowest, Group, IsChosenCount, IsPlacingGroup, group_claimed, space_blocks, in_pool, is_free_at, is_spare, owned_at, owner_by, rank}
use Rattle.xfs_place.proofs.Counted.{chosen_fits, sizes_all}
use Rattle.xfs_place.specs.Placing.{AreByLength, AreFreeRuns, AreOwned, AreRecords, IsPlacedGroup, cut, inner_blocks, run_of_record, tree_blocks_at, tree_sizes}

open_spare : (u : Use) → is_spare u ≡ true → is_open u ≡ false
open_spare Pool h = absurd (true≢false (sym h))
open_spare Reserved h = refl
open_spare Claimed h = refl
open_spare ForSpace h = refl
open_spare ForInodes h = refl

not_none : (p : ℕ × ℕ) (q : Option (ℕ × ℕ)) → q ≡ None → q ≡ Some p → ⊥
not_none p q e f = cc

module _ (g : Group) (is : IsPlacingGroup g) (space n : ℕ) where
  -- a block that is free has no owner, and one without is free
  free_none : (b : ℕ) → is_free_at g.uses n b ≡ true → owned_at g space n b ≡ None
  free_none b free = elim (or_cases (is_spare (use_at g.uses b)) (in_pool g.uses b && nat_le n (rank g.uses b)) free) [
    | inl spare ↦
        let closed = open_spare (use_at g.uses b) spare in
        rw closed (is.spare b spare)
    | inr left ↦
        let parts = and_parts (in_pool g.uses b) (nat_le n (rank g.uses b)) left in
        let late : nat_lt (rank g.uses b) n ≡ false = le-ltb (rank g.uses b) n (leb-true n (rank g.uses b) parts.1) in
        rw (parts.0, late) (is.free b parts.0)
  ]

  none_free : (b : ℕ) → b < length g.uses → owned_at g space n b ≡ None → is_free_at g.uses n b ≡ true
  none_free b in' none = elim (cases_Bool (in_pool g.uses b)) [
    | inl open' ↦ elim (cases_lt (rank g.uses b) n) [
      | inl low ↦
          let early : nat_lt (rank g.uses b) n ≡ true = lt-ltb (rank g.uses b) n low in
          let some : owned_at g space n b ≡ Some (owner_by g space (rank g.uses b), 0) = rw (open', early) refl in
          absurd (not_none (owner_by g space (rank g.uses b), 0) (owned_at g space n b) none some)
      | inr high ↦
          or_right (is_spare (use_at g.uses b)) (in_pool g.uses b && nat_le n (rank g.uses b)) (and_from (in_pool g.uses b) (nat_le n (rank g.uses b)) open' (le-leb n (rank g.uses b) high))
    ]
    | inr closed ↦
        let claim : g.claim b ≡ None = claimed closed in
        elim (or_cases (in_pool g.uses b) (is_spare (use_at g.uses b)) (is.rest b in' claim)) [
          | inl open' ↦ absurd (true≢false (sym open' ∙ closed))
          | inr spare ↦ or_left (is_spare (use_at g.uses b)) (in_pool g.uses b && nat_le n (rank g.uses b)) spare
        ]
  ]
    where
      claimed : in_pool g.uses b ≡ false → g.claim b ≡ None
      claimed closed = sym (ap (λ (t : Bool). if t && nat_lt (rank g.uses b) n then Some (owner_by g space (rank g.uses b), 0) else g.claim b) closed) ∙ none

  pub free_are : (owned : List Run) (free : List Span) → ((b : ℕ) → b < length g.uses → held_at owned b ≡ owned_at g space n b)
      → ((b : ℕ) → b < length g.uses → held_at owned b ≡ None → is_in_spans free b ≡ true) → ((b : ℕ) → is_in_spans free b ≡ true → (b < length g.uses) × (held_at owned b ≡ None))
      → AreSeparate 0 free → AreFreeRuns g n free
  free_are owned free same held taken apart = record {
    blocks = λ b in'. elim (cases_Bool (is_free_at g.uses n b)) [
      | inl yes' ↦ held b in' (same b in' ∙ free_none b yes') ∙ sym yes'
      | inr no' ↦
          let out : is_in_spans free b ≡ false = false_from_ne_true (is_in_spans free b) (λ h. true≢false (sym (none_free b in' (sym (same b in') ∙ (taken b h).1)) ∙ no')) in
          out ∙ sym no'
    ];
    inside = λ b far. false_from_ne_true (is_in_spans free b) (λ h. let low = (taken b h).0 in omega (arith, far, low));
    separate = apart;
  }

-- all lists together
pub is_placed : (uses : List Use) (claims : List Run) (inodes : List InoRec) (base : ℕ) → IsPlacingGroup (group_claimed uses claims (inner_blocks inodes)) → (blocks : List ℕ)
    → IsChosenCount (group_claimed uses claims (inner_blocks inodes)) (Some (length blocks)) → AreLowest uses blocks → (owned : List Run)
    → AreOwned (group_claimed uses claims (inner_blocks inodes)) (space_blocks (group_claimed uses claims (inner_blocks inodes)) (length blocks)) (length blocks) owned
    → (p : GroupPlaced) (bno : List Span) → p.bno ≡ bno → (cnt : List Span) → p.cnt ≡ cnt → (fino : List InoRec) → p.fino ≡ fino → (rmap : List RmapRec) → p.rmap ≡ rmap
    → ((b : ℕ) → b < length uses → held_at owned b ≡ None → is_in_spans bno b ≡ true) → ((b : ℕ) → is_in_spans bno b ≡ true → (b < length uses) × (held_at owned b ≡ None)) → AreSeparate 0 bno
    → AreByLength bno cnt → fino ≡ filter has_free inodes
    → AreClaims (length uses) (map run_of_record rmap) → ((b : ℕ) → held_at (map run_of_record rmap) b ≡ held_at owned b) → NoneJoin (map run_of_record rmap)
    → (lb lf lr : ℕ) → lb ≡ length bno → lf ≡ length fino → lr ≡ length rmap → (sizes : List ℕ) → sizes ≡ tree_sizes lb (length inodes) lf lr
    → p.trees ≡ map (tree_blocks_at base) (cut sizes blocks) → p.agfl ≡ drop (sum sizes) blocks
    → IsPlacedGroup (group_claimed uses claims (inner_blocks inodes)) base inodes p
is_placed uses claims inodes base is blocks chosen low owned are p bno hb cnt hc fino hf rmap hr held taken apart by free whole same none lb lf lr eb ef er sizes hs trees agfl =
    let g = group_claimed uses claims (inner_blocks inodes) in
    let frees : AreFreeRuns g (length blocks) p.bno =
    subst (AreFreeRuns g (length blocks)) (sym hb) (free_are g is (space_blocks g (length blocks)) (length blocks) owned bno are.held held taken apart) in
    let owners : AreRecords g (space_blocks g (length blocks)) (length blocks) p.rmap =
    subst (AreRecords g (space_blocks g (length blocks)) (length blocks)) (sym hr) (record { owned = record { claims = whole; held = λ b in'. same b ∙ are.held b in' }; apart = none }) in
    let due : sizes ≡ tree_sizes (length p.bno) (length inodes) (length p.fino) (length p.rmap) =
    hs ∙ ap (λ (n : ℕ). tree_sizes n (length inodes) lf lr) (eb ∙ ap length (sym hb)) ∙ ap (λ (n : ℕ). tree_sizes (length p.bno) (length inodes) n lr) (ef ∙ ap length (sym hf))
    ∙ ap (λ (n : ℕ). tree_sizes (length p.bno) (length inodes) (length p.fino) n) (er ∙ ap length (sym hr)) in
    let list : p.agfl ≡ drop (sum (tree_sizes (length p.bno) (length inodes) (length p.fino) (length p.rmap))) blocks = agfl ∙ ap (λ (ss : List ℕ). drop (sum ss) blocks) due in
    let all = sizes_all g (length blocks) p.bno inodes p.fino p.rmap refl (hf ∙ free) frees owners in
    let long = ap length list ∙ length-drop (sum (tree_sizes (length p.bno) (length inodes) (length p.fino) (length p.rmap))) blocks in
    record {
      blocks = blocks;
      chosen = chosen;
      low = low;
      bno = frees;
      cnt = subst (λ (xs : List Span). AreByLength xs p.cnt) (sym hb) (subst (AreByLength bno) (sym hc) by);
      fino = hf ∙ free;
      rmap = owners;
      trees = trees ∙ ap (λ (ss : List ℕ). map (tree_blocks_at base) (cut ss blocks)) due;
      agfl = list;
      left = omega (arith, all, long, chosen_fits g (length blocks) chosen);
    }
