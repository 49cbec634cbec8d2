-- Each group of a volume keeps what placing asks of it.
use Rattle.std.proofs.Common.{◌≡◌, ◌≢◌, ℕ, zero, suc, ◌+◌, ◌-◌, ◌*◌, ◌/◌, ◌%◌, ◌^◌, ◌≤◌, ◌<◌, ◌⊎◌, inl, inr, Bool, true, false, not, ◌&&◌, ◌||◌, ◌==◌, nat_le, nat_lt, if◌then◌else◌, List, [], ◌∷◌, ◌++◌, length, map, Option, Some, None, refl, sym, ◌∙◌, ap, subst, arith}
use Rattle.std.specs.List.{All, range_with_len}
use Rattle.std.specs.Option.{unwrap_or}
use Rattle.std.proofs.lemmas.Bool.{cases_lt, or_left, or_parts, eq-eqb, ne_eqb, eqb-true, eqb-false, lt-ltb, le-ltb, true≢false}
use Rattle.std.proofs.lemmas.Bool.Decides.{nat_tests}
use Rattle.std.proofs.lemmas.List.{get_or_past}
use Rattle.std.proofs.lemmas.List.Elements.{All-head, All-tail}
use Rattle.std.proofs.lemmas.List.FromFn.{get_or-map-range_with_len, length-map-range_with_len}
use Rattle.std.proofs.lemmas.Nat.{mod-mul-add}
use Rattle.std.proofs.Math.Nat.{mul-le-mul_right, mul-mod_left}
use Rattle.xfs_kinds.specs.Owners.{headers_owner, inode_trees_owner, log_owner, group_owner}
use Rattle.xfs_geom.specs.Runs.{covers}
use Rattle.xfs_disk.specs.Lists.{is_in_range}
use Rattle.xfs_geom.specs.Conversions.{group_length, is_fixed}
use Rattle.xfs_geom.specs.Volumes.{Volume}
use Rattle.xfs_geom.specs.declared.records.Run.{Run}
use Rattle.xfs_kinds.specs.OffsetWords.{flags_of, is_file_data}
use Rattle.xfs_kinds.specs.MergedRuns.{held_at, offset_word_at}
use Rattle.xfs_place.specs.declared.uses.Use.{Use}
use Rattle.xfs_place.specs.declared.uses.Use.TheVariants.{Pool, Reserved, Claimed, ForSpace, ForInodes}
use Rattle.xfs_place.specs.Pool.{is_listed, is_open, use_at, use_held, use_of, use_of_run}
use Rattle.xfs_place.specs.Choice.{IsPlacingGroup, goes_on, is_for_inodes, is_for_space, is_spare, is_joined}
use Rattle.xfs_place.specs.Wanted.{CanBeKept, IsOffFixed, claim_in, group_in, uses_in}
use Rattle.xfs_kinds.specs.FixedRuns.{fixed_runs, header_run, log_run}
use Rattle.xfs_place.proofs.TreeRuns.{held_front, held_stays}

this : (p q : ℕ) → q ≡ p → is_in_range p 1 q ≡ true
this p q same = grind (arith, nat_tests, same)

left_of : (a b : Bool) → b ≡ false → (a || b) ≡ true → a ≡ true
left_of true b h k = refl
left_of false b h k = absurd (true≢false (sym k ∙ h))

pub headers_none : (v : Volume) (a n x : ℕ) → ((ag : ℕ) → x ≢ ag * v.agblocks) → held_at (map (header_run v) (range_with_len a n)) x ≡ None
headers_none v a zero x none = refl
headers_none v a (suc n) x none =
    let out : is_in_range (a * v.agblocks) 1 x ≡ false = not_here (a * v.agblocks) x (none a) in
    rw out (headers_none v (a + 1) n x none)
  where
    not_here : (p q : ℕ) → q ≢ p → is_in_range p 1 q ≡ false
    not_here p q other = grind (arith, nat_tests, other)

headers_some : (v : Volume) (a n x ag : ℕ) → a ≤ ag → ag < a + n → x ≡ ag * v.agblocks → held_at (map (header_run v) (range_with_len a n)) x ≡ Some (headers_owner, 0)
headers_some v a zero x ag low high at = absurd (omega (arith, low, high))
headers_some v a (suc n) x ag low high at = by_case (is_in_range (a * v.agblocks) 1 x) refl (λ differ. headers_some v (a + 1) n x ag (omega (arith, low, differ)) (omega (arith, high)) at)
  where
    by_case : (t : Bool) → is_in_range (a * v.agblocks) 1 x ≡ t → (ag ≢ a → held_at (map (header_run v) (range_with_len (a + 1) n)) x ≡ Some (headers_owner, 0))
        → (if t then Some (headers_owner, offset_word_at (header_run v a) x) else held_at (map (header_run v) (range_with_len (a + 1) n)) x) ≡ Some (headers_owner, 0)
    by_case true h next = refl
    by_case false h next = next (λ e.
        let here : is_in_range (a * v.agblocks) 1 x ≡ true = this (a * v.agblocks) x (at ∙ ap (λ (k : ℕ). k * v.agblocks) e) in
        true≢false (sym here ∙ h))

-- a block without a fixed use is in no run of those, and one with it is
pub fixed_none : (v : Volume) (x : ℕ) → is_fixed v x ≡ false → held_at (fixed_runs v) x ≡ None
fixed_none v x not_fixed =
    let parts = or_parts (x % v.agblocks == 0) (nat_le v.log x && nat_lt x (v.log + v.logblocks)) not_fixed in
    let headers = headers_none v 0 v.agcount x (λ ag at.
    let whole : x % v.agblocks ≡ 0 = ap (λ (k : ℕ). k % v.agblocks) at ∙ mul-mod_left ag v.agblocks in
    eqb-false (x % v.agblocks) 0 parts.0 whole) in
    ap (λ (t : Bool). if t then Some (log_owner, offset_word_at (log_run v) x) else held_at (map (header_run v) (range_with_len 0 v.agcount)) x) parts.1 ∙ headers

quotient_few : (x w n : ℕ) → 1 ≤ w → x < n * w → x / w < n
quotient_few x w n some inside = elim (cases_lt (x / w) n) [
  | inl low ↦ low
  | inr high ↦
      let more : n * w ≤ x / w * w = mul-le-mul_right w high in
      absurd (omega (arith, more, inside, some))
]

pub record IsFixedOwner (owner : ℕ) : Type 0 where
  pub is : (owner ≡ headers_owner) ⊎ (owner ≡ log_owner)

pub fixed_some : (v : Volume) (x : ℕ) → x < v.agcount * v.agblocks → 1 ≤ v.agblocks → is_fixed v x ≡ true → (o : ℕ) × (held_at (fixed_runs v) x ≡ Some (o, 0)) × IsFixedOwner o
fixed_some v x inside some fixed = by_case (nat_le v.log x && nat_lt x (v.log + v.logblocks)) refl
  where
    by_case : (t : Bool) → (nat_le v.log x && nat_lt x (v.log + v.logblocks)) ≡ t → (o : ℕ) × (held_at (fixed_runs v) x ≡ Some (o, 0)) × IsFixedOwner o
    by_case true h = (
      log_owner,
      ap (λ (t : Bool). if t then Some (log_owner, offset_word_at (log_run v) x) else held_at (map (header_run v) (range_with_len 0 v.agcount)) x) h,
      record { is = inr refl },
    )
    by_case false h =
        let first : (x % v.agblocks == 0) ≡ true = left_of (x % v.agblocks == 0) (nat_le v.log x && nat_lt x (v.log + v.logblocks)) h fixed in
        let whole : x ≡ x / v.agblocks * v.agblocks = omega (arith, eqb-true (x % v.agblocks) 0 first, some) in
        let few : x / v.agblocks < v.agcount = quotient_few x v.agblocks v.agcount some inside in
        let held = headers_some v 0 v.agcount x (x / v.agblocks) (omega arith) (omega (arith, few)) whole in (
          headers_owner,
          ap (λ (t : Bool). if t then Some (log_owner, offset_word_at (log_run v) x) else held_at (map (header_run v) (range_with_len 0 v.agcount)) x) h ∙ held,
          record { is = inl refl },
        )

-- the runs hold a block, or they do not; where they do, one of them tells its owner and its use
abbrev IsNot : List Run → ℕ → Type 0
IsNot kept x = (held_at kept x ≡ None) × (use_held kept x ≡ None)

pub record IsHeldBy (v : Volume) (kept : List Run) (x : ℕ) (r : Run) : Type 0 where
  pub has : covers x r ≡ true
  pub clear : IsOffFixed v r
  pub owned : held_at kept x ≡ Some (r.owner, offset_word_at r x)
  pub used : use_held kept x ≡ Some (use_of_run r)

pub held_or_not : (v : Volume) (kept : List Run) (x : ℕ) → All (IsOffFixed v) kept → IsNot kept x ⊎ ((r : Run) × IsHeldBy v kept x r)
unfolding use_held
held_or_not v [] x clear = inl (refl, refl)
held_or_not v (r ∷ rest) x clear = by_case (covers x r) refl (held_or_not v rest x (All-tail (IsOffFixed v) r rest clear))
  where
    by_case : (t : Bool) → covers x r ≡ t → IsNot rest x ⊎ ((s : Run) × IsHeldBy v rest x s) → IsNot (r ∷ rest) x ⊎ ((s : Run) × IsHeldBy v (r ∷ rest) x s)
    by_case true h others =
        inr (
          r,
          record {
            has = h;
            clear = All-head (IsOffFixed v) r rest clear;
            owned = ap (λ (t : Bool). if t then Some (r.owner, offset_word_at r x) else held_at rest x) h;
            used = ap (λ (t : Bool). if t then Some (use_of_run r) else use_held rest x) h;
          },
        )
    by_case false h (inl none) =
        inl (
          ap (λ (t : Bool). if t then Some (r.owner, offset_word_at r x) else held_at rest x) h ∙ none.0,
          ap (λ (t : Bool). if t then Some (use_of_run r) else use_held rest x) h ∙ none.1,
        )
    by_case false h (inr some) =
        inr (
          some.0,
          record {
            has = some.1.has;
            clear = some.1.clear;
            owned = ap (λ (t : Bool). if t then Some (r.owner, offset_word_at r x) else held_at rest x) h ∙ some.1.owned;
            used = ap (λ (t : Bool). if t then Some (use_of_run r) else use_held rest x) h ∙ some.1.used;
          },
        )

-- what a run says of its use, and of a new block of the trees beside it
closed_run : (r : Run) → (is_open (use_of_run r) ≡ false) × (is_spare (use_of_run r) ≡ false)
closed_run r = by_cases (nat_lt r.offset_word (2 ^ 61)) (r.owner == group_owner) (r.owner == inode_trees_owner)
  where
    by_cases : (f s i : Bool) → (is_open (if f then (if s then ForSpace else (if i then ForInodes else Claimed)) else Claimed) ≡ false)
        × (is_spare (if f then (if s then ForSpace else (if i then ForInodes else Claimed)) else Claimed) ≡ false)
    by_cases true true i = (refl, refl)
    by_cases true false true = (refl, refl)
    by_cases true false false = (refl, refl)
    by_cases false s i = (refl, refl)

no_flags : (w : ℕ) → (flags_of w == 0) ≡ nat_lt w (2 ^ 61)
no_flags w = elim (cases_lt w (2 ^ 61)) [
  | inl low ↦
      let e : (flags_of w == 0) ≡ true = eq-eqb (flags_of w) 0 (omega (arith, low)) in
      let f : nat_lt w (2 ^ 61) ≡ true = lt-ltb w (2 ^ 61) low in
      e ∙ sym f
  | inr high ↦
      let e : (flags_of w == 0) ≡ false = ne_eqb (flags_of w) 0 (λ h. omega (arith, high, h)) in
      let f : nat_lt w (2 ^ 61) ≡ false = le-ltb w (2 ^ 61) high in
      e ∙ sym f
]

no_flags_behind : (w : ℕ) → (flags_of 0 == flags_of w) ≡ nat_lt w (2 ^ 61)
no_flags_behind w = elim (cases_lt w (2 ^ 61)) [
  | inl low ↦
      let e : (flags_of 0 == flags_of w) ≡ true = eq-eqb (flags_of 0) (flags_of w) (omega (arith, low)) in
      let f : nat_lt w (2 ^ 61) ≡ true = lt-ltb w (2 ^ 61) low in
      e ∙ sym f
  | inr high ↦
      let e : (flags_of 0 == flags_of w) ≡ false = ne_eqb (flags_of 0) (flags_of w) (λ h. omega (arith, high, h)) in
      let f : nat_lt w (2 ^ 61) ≡ false = le-ltb w (2 ^ 61) high in
      e ∙ sym f
]

-- a block of a run with an owner below 0 has the word of the run
tree_owner_word : (r : Run) (x : ℕ) → nat_lt r.owner (2 ^ 63) ≡ false → offset_word_at r x ≡ r.offset_word
tree_owner_word r x high = ap (λ (t : Bool). if t && not (r.offset_word / 2 ^ 62 % 2 == 1) then r.offset_word + (x - r.start) else r.offset_word) high

both_true : (a : Bool) → (true && a && (not false || true)) ≡ a
both_true true = refl
both_true false = refl

run_space : (r : Run) (x : ℕ) → is_joined (Some (r.owner, offset_word_at r x)) (Some (group_owner, 0)) ≡ is_for_space (use_of_run r)
run_space r x = by_case (r.owner == group_owner) refl
  where
    other : (i f : Bool) → false ≡ is_for_space (if f then (if i then ForInodes else Claimed) else Claimed)
    other true true = refl
    other false true = refl
    other i false = refl

    mine : (f : Bool) → (f && true) ≡ is_for_space (if f then ForSpace else Claimed)
    mine true = refl
    mine false = refl

    by_case : (t : Bool) → (r.owner == group_owner) ≡ t → goes_on (r.owner, offset_word_at r x) (group_owner, 0) ≡ is_for_space (if nat_lt r.offset_word (2 ^ 61) then (if t then ForSpace else (if r.owner == inode_trees_owner then ForInodes else Claimed)) else Claimed)
    by_case false h = rw h (other (r.owner == inode_trees_owner) (nat_lt r.offset_word (2 ^ 61)))
    by_case true h =
        let owner : r.owner ≡ group_owner = eqb-true r.owner group_owner h in
        let high : nat_lt r.owner (2 ^ 63) ≡ false = le-ltb r.owner (2 ^ 63) (omega (arith, owner)) in
        let word = tree_owner_word r x high in
        let data' : is_file_data r.owner r.offset_word ≡ false = ap (λ (t : Bool). t && not (r.offset_word / 2 ^ 62 % 2 == 1)) high in
        rw (word, h, data', no_flags r.offset_word) (mine (nat_lt r.offset_word (2 ^ 61)))

run_space_behind : (r : Run) (x : ℕ) → is_joined (Some (group_owner, 0)) (Some (r.owner, offset_word_at r x)) ≡ is_for_space (use_of_run r)
run_space_behind r x = by_case (r.owner == group_owner) refl
  where
    other : (i f : Bool) → false ≡ is_for_space (if f then (if i then ForInodes else Claimed) else Claimed)
    other true true = refl
    other false true = refl
    other i false = refl

    mine : (f : Bool) → (f && true) ≡ is_for_space (if f then ForSpace else Claimed)
    mine true = refl
    mine false = refl

    by_case : (t : Bool) → (r.owner == group_owner) ≡ t → goes_on (group_owner, 0) (r.owner, offset_word_at r x) ≡ is_for_space (if nat_lt r.offset_word (2 ^ 61) then (if t then ForSpace else (if r.owner == inode_trees_owner then ForInodes else Claimed)) else Claimed)
    by_case false h =
        let turned : (group_owner == r.owner) ≡ false = ne_eqb group_owner r.owner (λ e. eqb-false r.owner group_owner h (sym e)) in
        rw turned (other (r.owner == inode_trees_owner) (nat_lt r.offset_word (2 ^ 61)))
    by_case true h =
        let owner : r.owner ≡ group_owner = eqb-true r.owner group_owner h in
        let turned : (group_owner == r.owner) ≡ true = eq-eqb group_owner r.owner (sym owner) in
        let high : nat_lt r.owner (2 ^ 63) ≡ false = le-ltb r.owner (2 ^ 63) (omega (arith, owner)) in
        let word = tree_owner_word r x high in
        rw (word, turned, no_flags_behind r.offset_word) (mine (nat_lt r.offset_word (2 ^ 61)))

run_inodes : (r : Run) (x : ℕ) → is_joined (Some (r.owner, offset_word_at r x)) (Some (inode_trees_owner, 0)) ≡ is_for_inodes (use_of_run r)
run_inodes r x = by_case (r.owner == inode_trees_owner) refl
  where
    other : (s f : Bool) → false ≡ is_for_inodes (if f then (if s then ForSpace else Claimed) else Claimed)
    other true true = refl
    other false true = refl
    other s false = refl

    mine : (f : Bool) → (f && true) ≡ is_for_inodes (if f then ForInodes else Claimed)
    mine true = refl
    mine false = refl

    by_case : (t : Bool) → (r.owner == inode_trees_owner) ≡ t → goes_on (r.owner, offset_word_at r x) (inode_trees_owner, 0) ≡ is_for_inodes (if nat_lt r.offset_word (2 ^ 61) then (if r.owner == group_owner then ForSpace else (if t then ForInodes else Claimed)) else Claimed)
    by_case false h = rw h (other (r.owner == group_owner) (nat_lt r.offset_word (2 ^ 61)))
    by_case true h =
        let owner : r.owner ≡ inode_trees_owner = eqb-true r.owner inode_trees_owner h in
        let apart : (r.owner == group_owner) ≡ false = ne_eqb r.owner group_owner (λ e. omega (arith, owner, e)) in
        let high : nat_lt r.owner (2 ^ 63) ≡ false = le-ltb r.owner (2 ^ 63) (omega (arith, owner)) in
        let word = tree_owner_word r x high in
        let data' : is_file_data r.owner r.offset_word ≡ false = ap (λ (t : Bool). t && not (r.offset_word / 2 ^ 62 % 2 == 1)) high in
        rw (word, h, apart, data', no_flags r.offset_word) (mine (nat_lt r.offset_word (2 ^ 61)))

run_inodes_behind : (r : Run) (x : ℕ) → is_joined (Some (inode_trees_owner, 0)) (Some (r.owner, offset_word_at r x)) ≡ is_for_inodes (use_of_run r)
run_inodes_behind r x = by_case (r.owner == inode_trees_owner) refl
  where
    other : (s f : Bool) → false ≡ is_for_inodes (if f then (if s then ForSpace else Claimed) else Claimed)
    other true true = refl
    other false true = refl
    other s false = refl

    mine : (f : Bool) → (f && true) ≡ is_for_inodes (if f then ForInodes else Claimed)
    mine true = refl
    mine false = refl

    by_case : (t : Bool) → (r.owner == inode_trees_owner) ≡ t → goes_on (inode_trees_owner, 0) (r.owner, offset_word_at r x) ≡ is_for_inodes (if nat_lt r.offset_word (2 ^ 61) then (if r.owner == group_owner then ForSpace else (if t then ForInodes else Claimed)) else Claimed)
    by_case false h =
        let turned : (inode_trees_owner == r.owner) ≡ false = ne_eqb inode_trees_owner r.owner (λ e. eqb-false r.owner inode_trees_owner h (sym e)) in
        rw turned (other (r.owner == group_owner) (nat_lt r.offset_word (2 ^ 61)))
    by_case true h =
        let owner : r.owner ≡ inode_trees_owner = eqb-true r.owner inode_trees_owner h in
        let turned : (inode_trees_owner == r.owner) ≡ true = eq-eqb inode_trees_owner r.owner (sym owner) in
        let apart : (r.owner == group_owner) ≡ false = ne_eqb r.owner group_owner (λ e. omega (arith, owner, e)) in
        let high : nat_lt r.owner (2 ^ 63) ≡ false = le-ltb r.owner (2 ^ 63) (omega (arith, owner)) in
        let word = tree_owner_word r x high in
        rw (word, turned, apart, no_flags_behind r.offset_word) (mine (nat_lt r.offset_word (2 ^ 61)))

-- what is known of a block: its use and what is claimed of it agree
pub record Agree (u : Use) (claim : Option (ℕ × ℕ)) : Type 0 where
  pub free : is_open u ≡ true → claim ≡ None
  pub spare : is_spare u ≡ true → claim ≡ None
  pub rest : claim ≡ None → (is_open u || is_spare u) ≡ true
  pub space : is_joined claim (Some (group_owner, 0)) ≡ is_for_space u
  pub space_behind : is_joined (Some (group_owner, 0)) claim ≡ is_for_space u
  pub inodes : is_joined claim (Some (inode_trees_owner, 0)) ≡ is_for_inodes u
  pub inodes_behind : is_joined (Some (inode_trees_owner, 0)) claim ≡ is_for_inodes u

none_some : (p : ℕ × ℕ) (q : Option (ℕ × ℕ)) → q ≡ None → q ≡ Some p → ⊥
none_some p q e f = cc

agree_fixed : (u : Use) (claim : Option (ℕ × ℕ)) (o : ℕ) → u ≡ Claimed → claim ≡ Some (o, 0) → IsFixedOwner o → Agree u claim
agree_fixed u claim o hu hc owner = subst (λ (w : Use). Agree w claim) (sym hu) (subst (Agree Claimed) (sym hc) (elim owner.is [
  | inl header ↦ subst (λ (p : ℕ). Agree Claimed (Some (p, 0))) (sym header) (record {
    free = λ h. absurd (true≢false (sym h));
    spare = λ h. absurd (true≢false (sym h));
    rest = λ h. absurd (none_some (headers_owner, 0) (Some (headers_owner, 0)) h refl);
    space = refl;
    space_behind = refl;
    inodes = refl;
    inodes_behind = refl;
  })
  | inr log ↦ subst (λ (p : ℕ). Agree Claimed (Some (p, 0))) (sym log) (record {
    free = λ h. absurd (true≢false (sym h));
    spare = λ h. absurd (true≢false (sym h));
    rest = λ h. absurd (none_some (log_owner, 0) (Some (log_owner, 0)) h refl);
    space = refl;
    space_behind = refl;
    inodes = refl;
    inodes_behind = refl;
  })
]))

agree_free : (listed : Bool) → Agree (if listed then Reserved else Pool) None
agree_free true = record { free = λ h. refl; spare = λ h. refl; rest = λ h. refl; space = refl; space_behind = refl; inodes = refl; inodes_behind = refl }
agree_free false = record { free = λ h. refl; spare = λ h. refl; rest = λ h. refl; space = refl; space_behind = refl; inodes = refl; inodes_behind = refl }

agree_held : (r : Run) (x : ℕ) → Agree (use_of_run r) (Some (r.owner, offset_word_at r x))
agree_held r x = record {
  free = λ h. absurd (true≢false (sym h ∙ (closed_run r).0));
  spare = λ h. absurd (true≢false (sym h ∙ (closed_run r).1));
  rest = λ h. absurd (none_some (r.owner, offset_word_at r x) (Some (r.owner, offset_word_at r x)) h refl);
  space = run_space r x;
  space_behind = run_space_behind r x;
  inodes = run_inodes r x;
  inodes_behind = run_inodes_behind r x;
}

-- the use of a block of the volume and its owner agree, and a block with a fixed use is claimed
pub agree_at : (v : Volume) (kept : List Run) (reserved : List ℕ) (x : ℕ) → CanBeKept v kept → x < v.agcount * v.agblocks → 1 ≤ v.agblocks
    → Agree (use_of v kept reserved x) (held_at (fixed_runs v ++ kept) x) × (is_fixed v x ≡ true → use_of v kept reserved x ≡ Claimed)
unfolding use_of
agree_at v kept reserved x are inside some = by_case (is_fixed v x) refl (held_or_not v kept x are.clear)
  where
    by_case : (t : Bool) → is_fixed v x ≡ t → IsNot kept x ⊎ ((r : Run) × IsHeldBy v kept x r)
        → Agree (unwrap_or (use_held kept x) (if t then Claimed else (if is_listed reserved x then Reserved else Pool))) (held_at (fixed_runs v ++ kept) x)
        × (t ≡ true → unwrap_or (use_held kept x) (if t then Claimed else (if is_listed reserved x then Reserved else Pool)) ≡ Claimed)
    by_case true h (inl none) =
        let fixed = fixed_some v x inside some h in
        let use' : unwrap_or (use_held kept x) Claimed ≡ Claimed = ap (λ (o : Option Use). unwrap_or o Claimed) none.1 in
        (agree_fixed (unwrap_or (use_held kept x) Claimed) (held_at (fixed_runs v ++ kept) x) fixed.0 use' (held_stays (fixed_runs v) kept x (fixed.0, 0) fixed.1) fixed.2, λ _. use')
    by_case true h (inr held) = absurd (true≢false (sym h ∙ held.1.clear x held.1.has))
    by_case false h (inl none) =
        let free = if is_listed reserved x then Reserved else Pool in
        let use' : unwrap_or (use_held kept x) free ≡ free = ap (λ (o : Option Use). unwrap_or o free) none.1 in
        let claim : held_at (fixed_runs v ++ kept) x ≡ None = held_front (fixed_runs v) kept x (fixed_none v x h) ∙ none.0 in (
          subst (λ (w : Use). Agree w (held_at (fixed_runs v ++ kept) x)) (sym use') (subst (Agree free) (sym claim) (agree_free (is_listed reserved x))),
          λ e. absurd (true≢false (sym e)),
        )
    by_case false h (inr held) =
        let r = held.0 in
        let free = if is_listed reserved x then Reserved else Pool in
        let use' : unwrap_or (use_held kept x) free ≡ use_of_run r = ap (λ (o : Option Use). unwrap_or o free) held.1.used in
        let claim : held_at (fixed_runs v ++ kept) x ≡ Some (r.owner, offset_word_at r x) = held_front (fixed_runs v) kept x (fixed_none v x h) ∙ held.1.owned in (
          subst (λ (w : Use). Agree w (held_at (fixed_runs v ++ kept) x)) (sym use') (subst (Agree (use_of_run r)) (sym claim) (agree_held r x)),
          λ e. absurd (true≢false (sym e)),
        )

-- each group
pub length_uses : (v : Volume) (kept : List Run) (reserved : List ℕ) (ag : ℕ) → length (uses_in v kept reserved ag) ≡ group_length v ag
unfolding uses_in
length_uses v kept reserved ag = length-map-range_with_len (λ block. use_of v kept reserved (ag * v.agblocks + block)) 0 (group_length v ag)

pub use_in : (v : Volume) (kept : List Run) (reserved : List ℕ) (ag b : ℕ) → b < group_length v ag → use_at (uses_in v kept reserved ag) b ≡ use_of v kept reserved (ag * v.agblocks + b)
unfolding uses_in
use_in v kept reserved ag b in' = get_or-map-range_with_len (λ block. use_of v kept reserved (ag * v.agblocks + block)) 0 (group_length v ag) b b Claimed in' (omega arith)

pub group_is : (v : Volume) (kept : List Run) (reserved : List ℕ) (ag inner : ℕ) → CanBeKept v kept → ag < v.agcount → 1 ≤ v.agblocks → 1 ≤ group_length v ag → group_length v ag ≤ v.agblocks
    → IsPlacingGroup (group_in v kept reserved ag inner)
unfolding uses_in claim_in
group_is v kept reserved ag inner are group' some long short = record {
  header = (use_is 0 long) ∙ (at 0 long).1 header_fixed;
  free = λ b h. elim (cases_lt b (group_length v ag)) [
    | inl in' ↦ claim_is b in' ∙ (at b in').0.free (sym (ap is_open (use_is b in')) ∙ h)
    | inr far ↦ beyond b far
  ];
  inside = λ b far. beyond b (omega (arith, far, length_uses v kept reserved ag));
  spare = λ b h. elim (cases_lt b (group_length v ag)) [
    | inl in' ↦ claim_is b in' ∙ (at b in').0.spare (sym (ap is_spare (use_is b in')) ∙ h)
    | inr far ↦ beyond b far
  ];
  rest = λ b low h.
      let in' : b < group_length v ag = omega (arith, low, length_uses v kept reserved ag) in
      ap (λ (u : Use). is_open u || is_spare u) (use_is b in') ∙ (at b in').0.rest (sym (claim_is b in') ∙ h);
  space = λ b. elim (cases_lt b (group_length v ag)) [
    | inl in' ↦ ap (λ (o : Option (ℕ × ℕ)). is_joined o (Some (group_owner, 0))) (claim_is b in') ∙ (at b in').0.space ∙ sym (ap is_for_space (use_is b in'))
    | inr far ↦ ap (λ (o : Option (ℕ × ℕ)). is_joined o (Some (group_owner, 0))) (beyond b far) ∙ sym (ap is_for_space (use_beyond b far))
  ];
  space_behind = λ b. elim (cases_lt b (group_length v ag)) [
    | inl in' ↦ ap (is_joined (Some (group_owner, 0))) (claim_is b in') ∙ (at b in').0.space_behind ∙ sym (ap is_for_space (use_is b in'))
    | inr far ↦ ap (is_joined (Some (group_owner, 0))) (beyond b far) ∙ sym (ap is_for_space (use_beyond b far))
  ];
  inodes = λ b. elim (cases_lt b (group_length v ag)) [
    | inl in' ↦ ap (λ (o : Option (ℕ × ℕ)). is_joined o (Some (inode_trees_owner, 0))) (claim_is b in') ∙ (at b in').0.inodes ∙ sym (ap is_for_inodes (use_is b in'))
    | inr far ↦ ap (λ (o : Option (ℕ × ℕ)). is_joined o (Some (inode_trees_owner, 0))) (beyond b far) ∙ sym (ap is_for_inodes (use_beyond b far))
  ];
  inodes_behind = λ b. elim (cases_lt b (group_length v ag)) [
    | inl in' ↦ ap (is_joined (Some (inode_trees_owner, 0))) (claim_is b in') ∙ (at b in').0.inodes_behind ∙ sym (ap is_for_inodes (use_is b in'))
    | inr far ↦ ap (is_joined (Some (inode_trees_owner, 0))) (beyond b far) ∙ sym (ap is_for_inodes (use_beyond b far))
  ];
}
  where
    use_is : (b : ℕ) → b < group_length v ag → use_at (uses_in v kept reserved ag) b ≡ use_of v kept reserved (ag * v.agblocks + b)
    use_is b in' = use_in v kept reserved ag b in'

    use_beyond : (b : ℕ) → group_length v ag ≤ b → use_at (uses_in v kept reserved ag) b ≡ Claimed
    use_beyond b far = get_or_past (uses_in v kept reserved ag) b Claimed (omega (arith, far, length_uses v kept reserved ag))

    claim_is : (b : ℕ) → b < group_length v ag → claim_in v kept ag b ≡ held_at (fixed_runs v ++ kept) (ag * v.agblocks + b)
    claim_is b in' = ap (λ (t : Bool). if t then held_at (fixed_runs v ++ kept) (ag * v.agblocks + b) else None) (lt-ltb b (group_length v ag) in')

    beyond : (b : ℕ) → group_length v ag ≤ b → claim_in v kept ag b ≡ None
    beyond b far = ap (λ (t : Bool). if t then held_at (fixed_runs v ++ kept) (ag * v.agblocks + b) else None) (le-ltb b (group_length v ag) far)

    at : (b : ℕ) → b < group_length v ag → Agree (use_of v kept reserved (ag * v.agblocks + b)) (held_at (fixed_runs v ++ kept) (ag * v.agblocks + b))
        × (is_fixed v (ag * v.agblocks + b) ≡ true → use_of v kept reserved (ag * v.agblocks + b) ≡ Claimed)
    at b in' =
        let more : (ag + 1) * v.agblocks ≤ v.agcount * v.agblocks = mul-le-mul_right v.agblocks (omega (arith, group')) in
        agree_at v kept reserved (ag * v.agblocks + b) are (omega (arith, in', short, more)) some

    header_fixed : is_fixed v (ag * v.agblocks + 0) ≡ true
    header_fixed =
        let rest : (ag * v.agblocks + 0) % v.agblocks ≡ 0 = mod-mul-add ag v.agblocks 0 (omega (arith, some)) in
        or_left ((ag * v.agblocks + 0) % v.agblocks == 0) (nat_le v.log (ag * v.agblocks + 0) && nat_lt (ag * v.agblocks + 0) (v.log + v.logblocks)) (eq-eqb ((ag * v.agblocks + 0) % v.agblocks) 0 rest)
