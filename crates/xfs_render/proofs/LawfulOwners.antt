-- The records of owners of a group are lawful, where what is kept has owners.
use Rattle.std.proofs.Common.{◌≡◌, ℕ, zero, suc, ◌+◌, ◌-◌, ◌*◌, ◌/◌, ◌%◌, ◌^◌, ◌<◌, ◌≤◌, Bool, true, false, not, ◌&&◌, ◌==◌, nat_le, nat_lt, if◌then◌else◌, List, [], ◌∷◌, ◌++◌, length, map, Option, Some, None, refl, sym, ap, ◌∙◌, subst, arith}
use Rattle.std.specs.Prelude.{IsTrue}
use Rattle.std.specs.List.{All, range_with_len}
use Rattle.std.proofs.lemmas.Bool.{and_from, le-leb, lt-ltb, ne_eqb, not_from_false}
use Rattle.std.proofs.lemmas.Bool.Decides.{nat_tests}
use Rattle.std.proofs.lemmas.List.Elements.{All-append, All-cons, All-head, All-nil, All-tail}
use Rattle.xfs_disk.specs.Lists.{is_in_range}
use Rattle.xfs_geom.specs.Conversions.{group_length}
use Rattle.xfs_geom.specs.Volumes.{Volume}
use Rattle.xfs_geom.specs.declared.records.RmapRec.{RmapRec}
use Rattle.xfs_geom.specs.declared.records.Run.{Run}
use Rattle.xfs_kinds.specs.MergedRuns.{AreRuns, held_at, offset_word_at}
use Rattle.xfs_kinds.specs.OffsetWords.{is_file_data, offset_in_fork}
use Rattle.xfs_kinds.specs.OwnerTrees.{follows_end, is_owned_run, rmap_shape}
use Rattle.xfs_tree.specs.Rules.{are_lawful}
use Rattle.xfs_place.specs.Choice.{Group, in_pool, is_inner, owned_at, owner_by, owner_of, rank}
use Rattle.xfs_place.specs.Claims.{IsClaimedRun}
use Rattle.xfs_place.specs.Placing.{run_of_record}
use Rattle.xfs_place.specs.Wanted.{claim_in}
use Rattle.xfs_kinds.specs.FixedRuns.{fixed_runs, header_run, log_run}
use Rattle.xfs_render.specs.Readiness.{HasOwner}

-- an owner and an offset word that a record can have
pub record IsWord (owner word : ℕ) : Type 0 where
  pub owner' : owner < 2 ^ 64 - 1
  pub word' : word < 2 ^ 64

owner_in : Option (ℕ × ℕ) → ℕ
owner_in None = 0
owner_in (Some p) = p.0

word_in : Option (ℕ × ℕ) → ℕ
word_in None = 0
word_in (Some p) = p.1

-- the words of a run do not leave their bits
word_small : (top : ℕ) (r : Run) (b : ℕ) → HasOwner r → IsClaimedRun top r → is_in_range r.start r.count b ≡ true → offset_word_at r b < 2 ^ 64
word_small top r b owned claim inside = by_case (is_file_data r.owner r.offset_word) refl
  where
    near : b < r.start + r.count
    near = grind (arith, nat_tests, inside)

    by_case : (t : Bool) → is_file_data r.owner r.offset_word ≡ t → (if t then r.offset_word + (b - r.start) else r.offset_word) < 2 ^ 64
    by_case true h =
        let fits : r.offset_word % 2 ^ 61 + r.count ≤ 2 ^ 54 = claim.fits h in
        omega (arith, fits, owned.offset, near)
    by_case false h = owned.offset

pub held_owned : (top : ℕ) (rs : List Run) (b o w : ℕ) → All HasOwner rs → All (IsClaimedRun top) rs → held_at rs b ≡ Some (o, w) → IsWord o w
unfolding owner_in word_in
held_owned top [] b o w owned each held = absurd cc
held_owned top (r ∷ rest) b o w owned each held =
    by_case (is_in_range r.start r.count b) refl held (held_owned top rest b o w (All-tail HasOwner r rest owned) (All-tail (IsClaimedRun top) r rest each))
  where
    mine : HasOwner r
    mine = All-head HasOwner r rest owned

    by_case : (t : Bool) → is_in_range r.start r.count b ≡ t → (if t then Some (r.owner, offset_word_at r b) else held_at rest b) ≡ Some (o, w)
        → (held_at rest b ≡ Some (o, w) → IsWord o w) → IsWord o w
    by_case true inside same next =
        let owner : r.owner ≡ o = ap owner_in same in
        let word : offset_word_at r b ≡ w = ap word_in same in
        let small = word_small top r b mine (All-head (IsClaimedRun top) r rest each) inside in
        record { owner' = subst (λ (n : ℕ). n < 2 ^ 64 - 1) owner mine.owner; word' = subst (λ (n : ℕ). n < 2 ^ 64) word small }
    by_case false out same next = next same

headers_owned : (v : Volume) (a n : ℕ) → All HasOwner (map (header_run v) (range_with_len a n))
headers_owned v a zero = All-nil HasOwner
headers_owned v a (suc n) =
    All-cons HasOwner (header_run v a) (map (header_run v) (range_with_len (a + 1) n)) (record { owner = omega arith; offset = omega arith }) (headers_owned v (a + 1) n)

pub fixed_owned : (v : Volume) (kept : List Run) → All HasOwner kept → All HasOwner (fixed_runs v ++ kept)
fixed_owned v kept owned =
    All-append HasOwner (fixed_runs v) kept
    (All-cons HasOwner (log_run v) (map (header_run v) (range_with_len 0 v.agcount)) (record { owner = omega arith; offset = omega arith }) (headers_owned v 0 v.agcount))
    owned

-- what the claims of a group say
pub claim_owned : (v : Volume) (kept : List Run) (ag b o w : ℕ) → All HasOwner (fixed_runs v ++ kept) → All (IsClaimedRun v.dblocks) (fixed_runs v ++ kept)
    → claim_in v kept ag b ≡ Some (o, w) → IsWord o w
unfolding claim_in
claim_owned v kept ag b o w owned each held = by_case (nat_lt b (group_length v ag)) held
  where
    by_case : (t : Bool) → (if t then held_at (fixed_runs v ++ kept) (ag * v.agblocks + b) else None) ≡ Some (o, w) → IsWord o w
    by_case true same = held_owned v.dblocks (fixed_runs v ++ kept) (ag * v.agblocks + b) o w owned each same
    by_case false same = absurd cc

tree_word : (inner : Bool) → IsWord (owner_of inner) 0
tree_word true = record { owner' = omega arith; word' = omega arith }
tree_word false = record { owner' = omega arith; word' = omega arith }

-- and what they say once its trees are placed
pub placed_owned : (g : Group) (space n b o w : ℕ) → (g.claim b ≡ Some (o, w) → IsWord o w) → owned_at g space n b ≡ Some (o, w) → IsWord o w
unfolding owner_in word_in
placed_owned g space n b o w claimed held = by_case (in_pool g.uses b && nat_lt (rank g.uses b) n) held
  where
    by_case : (t : Bool) → (if t then Some (owner_by g space (rank g.uses b), 0) else g.claim b) ≡ Some (o, w) → IsWord o w
    by_case true same =
        let is = tree_word (is_inner g space (rank g.uses b)) in
        let owner : owner_by g space (rank g.uses b) ≡ o = ap owner_in same in
        let word : 0 ≡ w = ap word_in same in
        record { owner' = subst (λ (x : ℕ). x < 2 ^ 64 - 1) owner is.owner'; word' = subst (λ (x : ℕ). x < 2 ^ 64) word is.word' }
    by_case false same = claimed same

-- the first block of a run has its owner and its word
held_first : (r : RmapRec) (rest : List Run) → 1 ≤ r.count → held_at (run_of_record r ∷ rest) r.start ≡ Some (r.owner, r.offset_word)
held_first r rest some =
    let here : is_in_range r.start r.count r.start ≡ true = grind (arith, nat_tests, some) in
    ap (λ (t : Bool). if t then Some (r.owner, offset_word_at (run_of_record r) r.start) else held_at rest r.start) here
    ∙ ap (λ (w : ℕ). Some (r.owner, w)) (by_case (is_file_data r.owner r.offset_word))
  where
    by_case : (t : Bool) → (if t then r.offset_word + (r.start - r.start) else r.offset_word) ≡ r.offset_word
    by_case true = omega arith
    by_case false = refl

held_later : (r : RmapRec) (rest : List Run) (b : ℕ) → r.start + r.count ≤ b → held_at (run_of_record r ∷ rest) b ≡ held_at rest b
held_later r rest b past =
    let out : is_in_range r.start r.count b ≡ false = grind (arith, nat_tests, past) in
    ap (λ (t : Bool). if t then Some (r.owner, offset_word_at (run_of_record r) b) else held_at rest b) out

offset_small : (top : ℕ) (r : Run) → top < 2 ^ 32 → IsClaimedRun top r → offset_in_fork r.offset_word + r.count ≤ 2 ^ 54
offset_small top r small claim = by_case (is_file_data r.owner r.offset_word) refl
  where
    by_case : (t : Bool) → is_file_data r.owner r.offset_word ≡ t → offset_in_fork r.offset_word + r.count ≤ 2 ^ 54
    by_case true h = claim.fits h
    by_case false h = omega (arith, claim.plain h, claim.inside, small)

module _ (v : Volume) (ag : ℕ) (there : ag < v.agcount) (small : group_length v ag < 2 ^ 32) where
  owned_run : (r : RmapRec) → IsClaimedRun (group_length v ag) (run_of_record r) → IsWord r.owner r.offset_word → is_owned_run v ag r ≡ true
  owned_run r claim word =
      let fits = and_from _ _
      (and_from _ _ (and_from _ _ (lt-ltb r.start (2 ^ 32) (omega (arith, claim.inside, small))) (lt-ltb r.count (2 ^ 32) (omega (arith, claim.inside, small)))) (lt-ltb r.owner (2 ^ 64) (omega (arith, word.owner'))))
      (lt-ltb r.offset_word (2 ^ 64) word.word') in
      let owner = not_from_false (r.owner == 2 ^ 64 - 1) (ne_eqb r.owner (2 ^ 64 - 1) (λ e. absurd (omega (arith, e, word.owner')))) in
      let offset = le-leb (offset_in_fork r.offset_word + r.count) (2 ^ 54) (offset_small (group_length v ag) (run_of_record r) small claim) in
      and_from _ _
      (and_from _ _ (and_from _ _ (and_from _ _ fits (le-leb 1 r.count claim.some)) owner) offset)
      (and_from _ _ (lt-ltb ag v.agcount there) (le-leb (r.start + r.count) (group_length v ag) claim.inside))

  abbrev EndsBy : Option RmapRec → ℕ → Type 0
  EndsBy None low = Unit {0}
  EndsBy (Some b) low = b.start + b.count ≤ low

  follows : (before : Option RmapRec) (low : ℕ) (r : RmapRec) → EndsBy before low → low ≤ r.start → follows_end before r ≡ true
  follows None low r end from = refl
  follows (Some b) low r end from = le-leb (b.start + b.count) r.start (omega (arith, end, from))

  pub owners_lawful : (owned : ℕ → Option (ℕ × ℕ)) (low : ℕ) (before : Option RmapRec) (rs : List RmapRec) → ((b o w : ℕ) → owned b ≡ Some (o, w) → IsWord o w)
      → EndsBy before low → AreRuns low (map run_of_record rs) → All (IsClaimedRun (group_length v ag)) (map run_of_record rs)
      → ((b : ℕ) → low ≤ b → b < group_length v ag → held_at (map run_of_record rs) b ≡ owned b) → IsTrue (are_lawful (rmap_shape ag) v before rs)
  owners_lawful owned low before [] words end runs each held = refl
  owners_lawful owned low before (r ∷ rest) words end runs each held =
      let claim = All-head (IsClaimedRun (group_length v ag)) (run_of_record r) (map run_of_record rest) each in
      let first = held_first r (map run_of_record rest) claim.some in
      let word = words r.start r.owner r.offset_word (sym (held r.start runs.0 (omega (arith, claim.inside, claim.some))) ∙ first) in
      let so = owners_lawful owned (r.start + r.count) (Some r) rest words (omega arith) runs.2 (All-tail (IsClaimedRun (group_length v ag)) (run_of_record r) (map run_of_record rest) each)
      (λ b from inside. sym (held_later r (map run_of_record rest) b from) ∙ held b (omega (arith, from, runs.0)) inside) in
      and_from _ _ (and_from _ _ (owned_run r claim word) (follows before low r end runs.0)) so
