-- Runs joined from the left are those that are joined from the right.
use Rattle.std.proofs.Common.{◌≡◌, ℕ, Bool, true, false, not, ◌+◌, ◌-◌, ◌/◌, ◌%◌, ◌^◌, ◌≤◌, ◌&&◌, ◌||◌, ◌==◌, if◌then◌else◌, nat_lt, List, [], ◌∷◌, Option, Some, refl, sym, ◌∙◌, ap, ap₂, subst, arith}
use Rattle.std.proofs.lemmas.Bool.{and_parts, eqb-true, true≢false}
use Rattle.std.proofs.lemmas.Bool.Decides.{nat_tests}
use Rattle.xfs_disk.specs.Lists.{is_in_range}
use Rattle.xfs_geom.specs.declared.records.Run.{Run}
use Rattle.xfs_kinds.specs.OffsetWords.{offset_in_fork, flags_of, is_file_data}
use Rattle.xfs_kinds.specs.MergedRuns.{NoneJoin, OffsetsAreOfData, held_at, joins, longer, merged, offsets_follow, with_run, offset_word_at}

-- what joined runs agree in
record Joined (x y : Run) : Type 0 where
  start : x.start + x.count ≡ y.start
  owner : x.owner ≡ y.owner
  flags : flags_of x.offset_word ≡ flags_of y.offset_word
  offsets : offsets_follow x y ≡ true

joined_parts : (x y : Run) → joins x y ≡ true → Joined x y
joined_parts x y h =
    let s = x.start + x.count == y.start in
    let o = x.owner == y.owner in
    let f = flags_of x.offset_word == flags_of y.offset_word in
    let a = and_parts (s && o && f) (offsets_follow x y) h in
    let b = and_parts (s && o) f a.0 in
    let c = and_parts s o b.0 in
    record {
      start = eqb-true (x.start + x.count) y.start c.0;
      owner = eqb-true x.owner y.owner c.1;
      flags = eqb-true (flags_of x.offset_word) (flags_of y.offset_word) b.1;
      offsets = a.1;
    }

-- a run that goes on begins where the one before it ends
pub joined_end : (x y : Run) → joins x y ≡ true → x.start + x.count ≡ y.start
joined_end x y h = (joined_parts x y h).start

-- runs with the same owner and flags are file data, or neither is
same_data : (x y : Run) → Joined x y → is_file_data x.owner x.offset_word ≡ is_file_data y.owner y.offset_word
same_data x y j =
    let bit : x.offset_word / 2 ^ 62 ≡ y.offset_word / 2 ^ 62 = omega (arith, j.flags) in
    ap₂ (λ (o b : ℕ). nat_lt o (2 ^ 63) && not (b % 2 == 1)) j.owner bit

-- the offsets of the grown run follow where those of the joined one do
offsets_grown : (x y z : Run) → Joined x y → offsets_follow (longer x y.count) z ≡ offsets_follow y z
offsets_grown x y z j = by_case (is_file_data x.owner x.offset_word) (is_file_data y.owner y.offset_word) (same_data x y j) j.offsets
  where
    by_case : (d e : Bool) → d ≡ e → (not d || offset_in_fork x.offset_word + x.count == offset_in_fork y.offset_word) ≡ true
        → (not d || offset_in_fork x.offset_word + (x.count + y.count) == offset_in_fork z.offset_word) ≡ (not e || offset_in_fork y.offset_word + y.count == offset_in_fork z.offset_word)
    by_case true true same follow =
        let at = eqb-true (offset_in_fork x.offset_word + x.count) (offset_in_fork y.offset_word) follow in
        let end : offset_in_fork x.offset_word + (x.count + y.count) ≡ offset_in_fork y.offset_word + y.count = omega (arith, at) in
        ap (λ (n : ℕ). n == offset_in_fork z.offset_word) end
    by_case true false same follow = cc
    by_case false true same follow = cc
    by_case false false same follow = refl

-- the grown run goes on where the joined one does
joins_grown : (x y z : Run) → joins x y ≡ true → joins (longer x y.count) z ≡ joins y z
joins_grown x y z h =
    let j = joined_parts x y h in
    let end : x.start + (x.count + y.count) ≡ y.start + y.count = omega (arith, j.start) in
    let s = ap (λ (n : ℕ). n == z.start) end in
    let o = ap (λ (n : ℕ). n == z.owner) j.owner in
    let f = ap (λ (n : ℕ). n == flags_of z.offset_word) j.flags in
    ap₂ ◌&&◌ (ap₂ ◌&&◌ (ap₂ ◌&&◌ s o) f) (offsets_grown x y z j)

-- runs joined from the left: the last run so far, and those behind it
abbrev pub swept : Run → List Run → List Run
swept last [] = last ∷ []
swept last (y ∷ rest) = if joins last y then swept (longer last y.count) rest else (last ∷ swept y rest)

grown : (x : Run) (m n : ℕ) → longer (longer x m) n ≡ longer x (m + n)
grown x m n = let sum : x.count + m + n ≡ x.count + (m + n) = omega arith in ap (λ (c : ℕ). let r : Run = record x { count = c } in r) sum

-- two runs that join, before others
with_both : (x y : Run) (zs : List Run) → joins x y ≡ true → with_run x (with_run y zs) ≡ with_run (longer x y.count) zs
with_both x y [] h = rw h refl
with_both x y (z ∷ rest) h = by_case (joins y z) refl
  where
    by_case : (t : Bool) → joins y z ≡ t → with_run x (if t then longer y z.count ∷ rest else (y ∷ z ∷ rest)) ≡ (if joins (longer x y.count) z then longer (longer x y.count) z.count ∷ rest else (longer x y.count ∷ z ∷ rest))
    by_case true g =
        let next : joins (longer x y.count) z ≡ true = joins_grown x y z h ∙ g in
        rw (next, h) (ap (λ (r : Run). r ∷ rest) (sym (grown x y.count z.count)))
    by_case false g =
        let next : joins (longer x y.count) z ≡ false = joins_grown x y z h ∙ g in
        rw (next, h) refl

-- two runs that do not join, before others
with_apart : (x y : Run) (zs : List Run) → joins x y ≡ false → with_run x (with_run y zs) ≡ x ∷ with_run y zs
with_apart x y [] h = rw h refl
with_apart x y (z ∷ rest) h = by_case (joins y z)
  where
    by_case : (t : Bool) → with_run x (if t then longer y z.count ∷ rest else (y ∷ z ∷ rest)) ≡ x ∷ (if t then longer y z.count ∷ rest else (y ∷ z ∷ rest))
    by_case true = rw h refl
    by_case false = rw h refl

-- from the left or from the right, the runs are the same
pub swept_is : (ys : List Run) (x : Run) → swept x ys ≡ merged (x ∷ ys)
unfolding merged
swept_is [] x = refl
swept_is (y ∷ rest) x = by_case (joins x y) refl (swept_is rest (longer x y.count)) (swept_is rest y)
  where
    by_case : (t : Bool) → joins x y ≡ t → swept (longer x y.count) rest ≡ merged (longer x y.count ∷ rest) → swept y rest ≡ merged (y ∷ rest)
        → (if t then swept (longer x y.count) rest else (x ∷ swept y rest)) ≡ with_run x (with_run y (merged rest))
    by_case true h more other = more ∙ sym (with_both x y (merged rest) h)
    by_case false h more other = ap (λ (rs : List Run). x ∷ rs) other ∙ sym (with_apart x y (merged rest) h)

none_with : (x : Run) (zs : List Run) → NoneJoin zs → NoneJoin (with_run x zs)
none_with x [] none = tt
none_with x (z ∷ rest) none = by_case (joins x z) refl
  where
    behind : (ws : List Run) → NoneJoin (z ∷ ws) → joins x z ≡ true → NoneJoin (longer x z.count ∷ ws)
    behind [] after h = tt
    behind (w ∷ ws) after h = (joins_grown x z w h ∙ after.0, after.1)

    by_case : (t : Bool) → joins x z ≡ t → NoneJoin (if t then longer x z.count ∷ rest else (x ∷ z ∷ rest))
    by_case true h = behind rest none h
    by_case false h = (h, none)

-- of the joined runs, no two join
pub none_join : (xs : List Run) → NoneJoin (merged xs)
unfolding merged
none_join [] = tt
none_join (x ∷ rest) = none_with x (merged rest) (none_join rest)

-- words with the same flags, of which the offsets follow
whole_word : (x z n : ℕ) → flags_of x ≡ flags_of z → offset_in_fork x + n ≡ offset_in_fork z → z ≡ x + n
whole_word x z n flags at = omega (arith, flags, at)

whole_flags : (x z : ℕ) → flags_of x ≡ flags_of z → offset_in_fork x ≡ 0 → offset_in_fork z ≡ 0 → x ≡ z
whole_flags x z flags none_x none_z = omega (arith, flags, none_x, none_z)

-- joined runs give the blocks of the second one word
same_word : (x z : Run) (b : ℕ) → Joined x z → (is_file_data x.owner x.offset_word ≡ false → offset_in_fork x.offset_word ≡ 0)
    → (is_file_data z.owner z.offset_word ≡ false → offset_in_fork z.offset_word ≡ 0) → z.start ≤ b → offset_word_at x b ≡ offset_word_at z b
same_word x z b j none_x none_z h =
    by_case (is_file_data x.owner x.offset_word) refl (is_file_data z.owner z.offset_word) refl (same_data x z j) j.offsets
  where
    by_case : (d : Bool) → is_file_data x.owner x.offset_word ≡ d → (e : Bool) → is_file_data z.owner z.offset_word ≡ e → is_file_data x.owner x.offset_word ≡ is_file_data z.owner z.offset_word
        → (not (is_file_data x.owner x.offset_word) || offset_in_fork x.offset_word + x.count == offset_in_fork z.offset_word) ≡ true
        → (if d then x.offset_word + (b - x.start) else x.offset_word) ≡ (if e then z.offset_word + (b - z.start) else z.offset_word)
    by_case true p true q same follow =
        let at = eqb-true (offset_in_fork x.offset_word + x.count) (offset_in_fork z.offset_word) (subst (λ (t : Bool). (not t || offset_in_fork x.offset_word + x.count == offset_in_fork z.offset_word) ≡ true) p follow) in
        let whole = whole_word x.offset_word z.offset_word x.count j.flags at in
        let start = j.start in
        omega (arith, whole, start, h)
    by_case true p false q same follow = absurd (true≢false (sym p ∙ same ∙ q))
    by_case false p true q same follow = absurd (true≢false (sym q ∙ sym same ∙ p))
    by_case false p false q same follow = whole_flags x.offset_word z.offset_word j.flags (none_x p) (none_z q)

both_held : (x z : Run) (rest : List Run) (b : ℕ) → Joined x z → (z.start ≤ b → offset_word_at x b ≡ offset_word_at z b)
    → held_at (longer x z.count ∷ rest) b ≡ held_at (x ∷ z ∷ rest) b
both_held x z rest b j word = by_case (is_in_range x.start x.count b) refl (is_in_range z.start z.count b) refl
  where
    by_case : (t : Bool) → is_in_range x.start x.count b ≡ t → (u : Bool) → is_in_range z.start z.count b ≡ u
        → (if is_in_range x.start (x.count + z.count) b then Some (x.owner, offset_word_at x b) else held_at rest b)
        ≡ (if t then Some (x.owner, offset_word_at x b) else (if u then Some (z.owner, offset_word_at z b) else held_at rest b))
    by_case true p u q =
        let there : is_in_range x.start (x.count + z.count) b ≡ true = grind (arith, nat_tests, p) in
        rw there refl
    by_case false p true q =
        let start = j.start in
        let there : is_in_range x.start (x.count + z.count) b ≡ true = grind (arith, nat_tests, q, start) in
        let low : z.start ≤ b = grind (arith, nat_tests, q) in
        let said = λ (o w : ℕ). let r : Option (ℕ × ℕ) = Some (o, w) in r in
        rw there (ap₂ said j.owner (word low))
    by_case false p false q =
        let start = j.start in
        let none : is_in_range x.start (x.count + z.count) b ≡ false = grind (arith, nat_tests, p, q, start) in
        rw none refl

held_with : (x : Run) (zs : List Run) (b : ℕ) → (is_file_data x.owner x.offset_word ≡ false → offset_in_fork x.offset_word ≡ 0) → OffsetsAreOfData zs
    → held_at (with_run x zs) b ≡ held_at (x ∷ zs) b
held_with x [] b none_x others = refl
held_with x (z ∷ rest) b none_x others = by_case (joins x z) refl
  where
    by_case : (t : Bool) → joins x z ≡ t → held_at (if t then longer x z.count ∷ rest else (x ∷ z ∷ rest)) b ≡ held_at (x ∷ z ∷ rest) b
    by_case true h =
        let j = joined_parts x z h in
        both_held x z rest b j (λ low. same_word x z b j none_x others.0 low)
    by_case false h = refl

offsets_with : (x : Run) (zs : List Run) → (is_file_data x.owner x.offset_word ≡ false → offset_in_fork x.offset_word ≡ 0) → OffsetsAreOfData zs → OffsetsAreOfData (with_run x zs)
offsets_with x [] none_x others = (none_x, tt)
offsets_with x (z ∷ rest) none_x others = by_case (joins x z)
  where
    by_case : (t : Bool) → OffsetsAreOfData (if t then longer x z.count ∷ rest else (x ∷ z ∷ rest))
    by_case true = (none_x, others.1)
    by_case false = (none_x, others)

offsets_merged : (xs : List Run) → OffsetsAreOfData xs → OffsetsAreOfData (merged xs)
unfolding merged
offsets_merged [] offsets = tt
offsets_merged (x ∷ rest) offsets = offsets_with x (merged rest) offsets.0 (offsets_merged rest offsets.1)

-- the joined runs give each block the owner and the word that the runs give it
pub held_merged : (xs : List Run) (b : ℕ) → OffsetsAreOfData xs → held_at (merged xs) b ≡ held_at xs b
unfolding merged
held_merged [] b offsets = refl
held_merged (x ∷ rest) b offsets =
    held_with x (merged rest) b offsets.0 (offsets_merged rest offsets.1)
    ∙ ap (λ (o : Option (ℕ × ℕ)). if is_in_range x.start x.count b then Some (x.owner, offset_word_at x b) else o) (held_merged rest b offsets.1)
