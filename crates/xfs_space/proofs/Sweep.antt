-- Two maps of owners, swept side by side.
use Rattle.std.proofs.Common.{◌≡◌, ◌≢◌, ℕ, Bool, true, false, not, max, min, ◌+◌, ◌-◌, ◌/◌, ◌%◌, ◌^◌, ◌≤◌, ◌<◌, inl, inr, ◌&&◌, ◌==◌, if◌then◌else◌, nat_lt, nat_le, List, [], ◌∷◌, map, drop, Option, Some, None, length, get_or, refl, sym, ◌∙◌, ap, ap₂, subst, arith, add-one, drop-cons}
use Rattle.std.specs.List.{All}
use Rattle.std.proofs.lemmas.Bool.{cases_lt, eq-eqb, and_from, true≢false}
use Rattle.std.proofs.lemmas.Bool.Decides.{nat_tests}
use Rattle.std.proofs.lemmas.List.{drop_all, get_or-map, length-map}
use Rattle.std.proofs.lemmas.List.Elements.{All-head, All-tail}
use Rattle.xfs_geom.specs.declared.records.Run.{Run}
use Rattle.xfs_kinds.specs.MergedRuns.{held_at, offset_word_at}
use Rattle.xfs_kinds.specs.OffsetWords.{is_file_data}
use Rattle.xfs_space.specs.Maps.{AreAlike, AreMapped, IsFirstDifference, IsMapped}
use Rattle.xfs_space.specs.Sorted.{Follow}
use Rattle.xfs_space.proofs.Splits.{all_behind, held_off, held_on, none_held_back}

-- the first of the runs that are left ends behind the block
abbrev pub EndsAfter : ℕ → List Run → Type 0
EndsAfter at [] = Unit {0}
EndsAfter at (x ∷ rest) = (at < x.start + x.count) × Follow (x.start + x.count) rest

-- what is left of a map from a block on
pub record Side (xs rest : List Run) (at : ℕ) : Type 0 where
  pub each : All IsMapped rest
  pub ends : EndsAfter at rest
  pub same : (b : ℕ) → at ≤ b → held_at xs b ≡ held_at rest b

-- two maps agree before a block
pub record Swept (xs ys left_xs left_ys : List Run) (at : ℕ) : Type 0 where
  pub agree : (b : ℕ) → b < at → held_at xs b ≡ held_at ys b
  pub left : Side xs left_xs at
  pub right : Side ys left_ys at

after_follow : (rest : List Run) (low : ℕ) → Follow low rest → EndsAfter low rest
after_follow [] low follow = tt
after_follow (x ∷ rest) low follow = (omega (arith, follow.0, follow.1), follow.2)

side_whole : (xs : List Run) → AreMapped xs → Side xs xs 0
side_whole xs mapped = record { each = mapped.each; ends = after_follow xs 0 mapped.follow; same = λ b h. refl }

pub swept_whole : (xs ys : List Run) → AreMapped xs → AreMapped ys → Swept xs ys xs ys 0
swept_whole xs ys mapped_xs mapped_ys = record { agree = λ b h. absurd (omega (arith, h)); left = side_whole xs mapped_xs; right = side_whole ys mapped_ys }

-- before the first run that is left there is none
before_head : (xs : List Run) (x : Run) (rest : List Run) (at : ℕ) → Side xs (x ∷ rest) at → (c : ℕ) → at ≤ c → c < max x.start at → held_at xs c ≡ None
before_head xs x rest at side c from to =
    let start : c < x.start = omega (arith, from, to) in
    side.same c from ∙ held_off x rest c (inl start)
    ∙ none_held_back rest (x.start + x.count) c (all_behind rest (x.start + x.count) (x.start + x.count) side.ends.1 (omega arith)) (omega (arith, start))

-- from its first block on, the first run that is left has the blocks
on_head : (xs : List Run) (x : Run) (rest : List Run) (at : ℕ) → Side xs (x ∷ rest) at → (c : ℕ) → max x.start at ≤ c → c < x.start + x.count → held_at xs c ≡ Some (x.owner, offset_word_at x c)
on_head xs x rest at side c from to = side.same c (omega (arith, from)) ∙ held_on x rest c (omega (arith, from)) to

pub head_inside : (xs : List Run) (x : Run) (rest : List Run) (at : ℕ) → Side xs (x ∷ rest) at → max x.start at < x.start + x.count
head_inside xs x rest at side = let some = (All-head IsMapped x rest side.each).some in let end = side.ends.0 in omega (arith, some, end)

first_at : (xs ys : List Run) (at h : ℕ) → ((b : ℕ) → b < at → held_at xs b ≡ held_at ys b) → held_at xs h ≢ held_at ys h
    → ((c : ℕ) → at ≤ c → c < h → held_at xs c ≡ None) → ((c : ℕ) → at ≤ c → c < h → held_at ys c ≡ None) → IsFirstDifference xs ys h
first_at xs ys at h agree differ none_xs none_ys = record {
  differs = differ;
  least = λ c before. elim (cases_lt c at) [ inl low ↦ agree c low | inr from ↦ none_xs c from before ∙ sym (none_ys c from before) ];
}

some_none : (p : Option (ℕ × ℕ)) (q : ℕ × ℕ) → p ≡ Some q → p ≢ None
some_none p q some = λ none. absurd (cc)

-- the first runs that are left begin at different blocks
pub starts_differ : (xs ys : List Run) (x y : Run) (rest_xs rest_ys : List Run) (at : ℕ) → Swept xs ys (x ∷ rest_xs) (y ∷ rest_ys) at → max x.start at ≢ max y.start at
    → IsFirstDifference xs ys (min (max x.start at) (max y.start at))
starts_differ xs ys x y rest_xs rest_ys at swept differ =
    elim (cases_lt (max x.start at) (max y.start at)) [
      | inl before ↦
          let least : min (max x.start at) (max y.start at) ≡ max x.start at = omega (arith, before) in
          let some = on_head xs x rest_xs at swept.left (max x.start at) (omega arith) (head_inside xs x rest_xs at swept.left) in
          let none = before_head ys y rest_ys at swept.right (max x.start at) (omega arith) before in
          let here = first_at xs ys at (max x.start at) swept.agree (λ e. some_none (held_at xs (max x.start at)) _ some (e ∙ none))
          (before_head xs x rest_xs at swept.left) (λ c from to. before_head ys y rest_ys at swept.right c from (omega (arith, to, before))) in
          subst (λ (n : ℕ). IsFirstDifference xs ys n) (sym least) here
      | inr behind ↦
          let least : min (max x.start at) (max y.start at) ≡ max y.start at = omega (arith, behind) in
          let less : max y.start at < max x.start at = elim (cases_lt (max y.start at) (max x.start at)) [ inl h ↦ h | inr h ↦ absurd (differ (omega (arith, behind, h))) ] in
          let some = on_head ys y rest_ys at swept.right (max y.start at) (omega arith) (head_inside ys y rest_ys at swept.right) in
          let none = before_head xs x rest_xs at swept.left (max y.start at) (omega arith) less in
          let here = first_at xs ys at (max y.start at) swept.agree (λ e. some_none (held_at ys (max y.start at)) _ some (sym e ∙ none))
          (λ c from to. before_head xs x rest_xs at swept.left c from (omega (arith, to, less))) (before_head ys y rest_ys at swept.right) in
          subst (λ (n : ℕ). IsFirstDifference xs ys n) (sym least) here
    ]

same_pair : (p q : ℕ × ℕ) → Some p ≡ Some q → p ≡ q
same_pair p q e = cc

-- they begin at one block, with different owners or words
pub words_differ : (xs ys : List Run) (x y : Run) (rest_xs rest_ys : List Run) (at : ℕ) → Swept xs ys (x ∷ rest_xs) (y ∷ rest_ys) at → max x.start at ≡ max y.start at
    → (x.owner == y.owner && offset_word_at x (max x.start at) == offset_word_at y (max x.start at)) ≡ false → IsFirstDifference xs ys (max x.start at)
words_differ xs ys x y rest_xs rest_ys at swept same unlike =
    let h = max x.start at in
    let one = on_head xs x rest_xs at swept.left h (omega arith) (head_inside xs x rest_xs at swept.left) in
    let inside = head_inside ys y rest_ys at swept.right in
    let other = on_head ys y rest_ys at swept.right h (omega (arith, same)) (omega (arith, same, inside)) in
    first_at xs ys at h swept.agree
    (λ e.
    let pair = same_pair (x.owner, offset_word_at x h) (y.owner, offset_word_at y h) (sym one ∙ e ∙ other) in
    let both = and_from (x.owner == y.owner) (offset_word_at x h == offset_word_at y h) (eq-eqb x.owner y.owner (ap (λ (p : ℕ × ℕ). p.0) pair)) (eq-eqb (offset_word_at x h) (offset_word_at y h) (ap (λ (p : ℕ × ℕ). p.1) pair)) in
    true≢false (sym both ∙ unlike))
    (before_head xs x rest_xs at swept.left) (λ c from to. before_head ys y rest_ys at swept.right c from (omega (arith, to, same)))

-- one map has no more runs
pub more_held : (xs ys : List Run) (x : Run) (rest : List Run) (at : ℕ) → Swept xs ys (x ∷ rest) [] at → IsFirstDifference xs ys (max x.start at)
more_held xs ys x rest at swept =
    let h = max x.start at in
    let some = on_head xs x rest at swept.left h (omega arith) (head_inside xs x rest at swept.left) in
    first_at xs ys at h swept.agree (λ e. some_none (held_at xs h) _ some (e ∙ swept.right.same h (omega arith))) (before_head xs x rest at swept.left) (λ c from to. swept.right.same c from)

pub more_due : (xs ys : List Run) (y : Run) (rest : List Run) (at : ℕ) → Swept xs ys [] (y ∷ rest) at → IsFirstDifference xs ys (max y.start at)
more_due xs ys y rest at swept =
    let h = max y.start at in
    let some = on_head ys y rest at swept.right h (omega arith) (head_inside ys y rest at swept.right) in
    first_at xs ys at h swept.agree (λ e. some_none (held_at ys h) _ some (sym e ∙ swept.left.same h (omega arith))) (λ c from to. swept.left.same c from) (before_head ys y rest at swept.right)

pub all_alike : (xs ys : List Run) (at : ℕ) → Swept xs ys [] [] at → AreAlike xs ys
all_alike xs ys at swept b = elim (cases_lt b at) [ inl low ↦ swept.agree b low | inr from ↦ swept.left.same b from ∙ sym (swept.right.same b from) ]

-- the word of a block has the flags of the run's word
word_bit : (x : Run) (h : ℕ) → IsMapped x → h < x.start + x.count → offset_word_at x h / 2 ^ 62 ≡ x.offset_word / 2 ^ 62
word_bit x h mapped to = by_case (is_file_data x.owner x.offset_word)
  where
    kept : (w k count : ℕ) → k < count → w % 2 ^ 61 + count ≤ 2 ^ 54 → (w + k) / 2 ^ 62 ≡ w / 2 ^ 62
    kept w k count less fork = omega arith

    by_case : (t : Bool) → (if t then x.offset_word + (h - x.start) else x.offset_word) / 2 ^ 62 ≡ x.offset_word / 2 ^ 62
    by_case true = let some = mapped.some in kept x.offset_word (h - x.start) x.count (omega (arith, to, some)) mapped.fork
    by_case false = refl

-- runs that agree at a block agree behind it
words_go_on : (x y : Run) (h b : ℕ) → IsMapped x → IsMapped y → x.start ≤ h → y.start ≤ h → h ≤ b → b < x.start + x.count → b < y.start + y.count
    → x.owner ≡ y.owner → offset_word_at x h ≡ offset_word_at y h → offset_word_at x b ≡ offset_word_at y b
words_go_on x y h b mapped_x mapped_y start_x start_y from end_x end_y owner word =
    let bit = sym (word_bit x h mapped_x (omega (arith, from, end_x))) ∙ ap (λ (w : ℕ). w / 2 ^ 62) word ∙ word_bit y h mapped_y (omega (arith, from, end_y)) in
    by_case (is_file_data x.owner x.offset_word) (is_file_data y.owner y.offset_word) (ap₂ (λ (o w : ℕ). nat_lt o (2 ^ 63) && not (w % 2 == 1)) owner bit) word
  where
    by_case : (s t : Bool) → s ≡ t → (if s then x.offset_word + (h - x.start) else x.offset_word) ≡ (if t then y.offset_word + (h - y.start) else y.offset_word)
        → (if s then x.offset_word + (b - x.start) else x.offset_word) ≡ (if t then y.offset_word + (b - y.start) else y.offset_word)
    by_case true true same e = omega (arith, e, start_x, start_y, from)
    by_case true false same e = absurd (true≢false same)
    by_case false true same e = absurd (true≢false (sym same))
    by_case false false same e = e

-- a run that ends by a block is passed
pub passed_side : (xs : List Run) (x : Run) (rest : List Run) (at end : ℕ) → Side xs (x ∷ rest) at → at ≤ end → end ≤ x.start + x.count
    → Side xs (if nat_le (x.start + x.count) end then rest else (x ∷ rest)) end
passed_side xs x rest at end side up down = by_case (nat_le (x.start + x.count) end) refl
  where
    by_case : (t : Bool) → nat_le (x.start + x.count) end ≡ t → Side xs (if t then rest else (x ∷ rest)) end
    by_case true e =
        let over : x.start + x.count ≤ end = grind (arith, nat_tests) in
        let here : x.start + x.count ≡ end = omega (arith, over, down) in
        record {
          each = All-tail IsMapped x rest side.each;
          ends = after_follow rest end (subst (λ (n : ℕ). Follow n rest) here side.ends.1);
          same = λ b h. side.same b (omega (arith, h, up)) ∙ held_off x rest b (inr (omega (arith, h, over)));
        }
    by_case false e =
        let under : end < x.start + x.count = grind (arith, nat_tests) in
        record { each = side.each; ends = (under, side.ends.1); same = λ b h. side.same b (omega (arith, h, up)) }

-- a step of the sweep
pub swept_next : (xs ys : List Run) (x y : Run) (rest_xs rest_ys : List Run) (at end : ℕ) → Swept xs ys (x ∷ rest_xs) (y ∷ rest_ys) at → max x.start at ≡ max y.start at
    → x.owner ≡ y.owner → offset_word_at x (max x.start at) ≡ offset_word_at y (max x.start at) → end ≡ min (x.start + x.count) (y.start + y.count)
    → Swept xs ys (if nat_le (x.start + x.count) end then rest_xs else (x ∷ rest_xs)) (if nat_le (y.start + y.count) end then rest_ys else (y ∷ rest_ys)) end
swept_next xs ys x y rest_xs rest_ys at end swept same owner word is =
    let h = max x.start at in
    let in_x = head_inside xs x rest_xs at swept.left in
    let in_y = head_inside ys y rest_ys at swept.right in
    let mapped_x = All-head IsMapped x rest_xs swept.left.each in
    let mapped_y = All-head IsMapped y rest_ys swept.right.each in
    record {
      agree = λ b to.
          elim (cases_lt b at) [
            | inl low ↦ swept.agree b low
            | inr from ↦
                elim (cases_lt b h) [
                  | inl before ↦ before_head xs x rest_xs at swept.left b from before ∙ sym (before_head ys y rest_ys at swept.right b from (omega (arith, before, same)))
                  | inr inside ↦
                      let words = words_go_on x y h b mapped_x mapped_y (omega arith) (omega (arith, same)) inside (omega (arith, to, is)) (omega (arith, to, is)) owner word in
                      on_head xs x rest_xs at swept.left b inside (omega (arith, to, is))
                      ∙ ap₂ (λ (o w : ℕ). Some (o, w)) owner words
                      ∙ sym (on_head ys y rest_ys at swept.right b (omega (arith, inside, same)) (omega (arith, to, is)))
                ]
          ];
      left = passed_side xs x rest_xs at end swept.left (omega (arith, is, in_x, in_y, same)) (omega (arith, is));
      right = passed_side ys y rest_ys at end swept.right (omega (arith, is, in_x, in_y, same)) (omega (arith, is));
    }

-- one of the two is passed
pub passes_one : (ex ey end i j n m i_next j_next : ℕ) → end ≡ min ex ey → i_next ≡ (if nat_le ex end then i + 1 else i) → j_next ≡ (if nat_le ey end then j + 1 else j)
    → i < n → j < m → (n - i_next) + (m - j_next) < (n - i) + (m - j)
passes_one ex ey end i j n m i_next j_next is step_i step_j less_i less_j =
    elim (cases_lt ex ey) [
      | inl first ↦
          let t : nat_le ex end ≡ true = grind (arith, nat_tests, is, first) in
          let f : nat_le ey end ≡ false = grind (arith, nat_tests, is, first) in
          let a : i_next ≡ i + 1 = step_i ∙ rw t refl in
          let b : j_next ≡ j = step_j ∙ rw f refl in
          omega (arith, a, b, less_i, less_j)
      | inr second ↦
          let t : nat_le ey end ≡ true = grind (arith, nat_tests, is, second) in
          let b : j_next ≡ j + 1 = step_j ∙ rw t refl in
          by_case (nat_le ex end) step_i b
    ]
  where
    by_case : (t : Bool) → i_next ≡ (if t then i + 1 else i) → j_next ≡ j + 1 → (n - i_next) + (m - j_next) < (n - i) + (m - j)
    by_case true a b = omega (arith, a, b, less_i, less_j)
    by_case false a b = omega (arith, a, b, less_i, less_j)

-- what is left of a list, where one is passed or not
pub passed_list : {A : Type 0} (f : A → Run) (xs : List A) (i next : ℕ) (x : Run) (t : Bool) → next ≡ (if t then i + 1 else i) → map f (drop i xs) ≡ x ∷ map f (drop (i + 1) xs)
    → map f (drop next xs) ≡ (if t then map f (drop (i + 1) xs) else (x ∷ map f (drop (i + 1) xs)))
passed_list f xs i next x true is head = ap (λ (k : ℕ). map f (drop k xs)) is
passed_list f xs i next x false is head = ap (λ (k : ℕ). map f (drop k xs)) is ∙ head

-- the runs that are left begin with those at the places of the sweep
pub head_of : {A : Type 0} (f : A → Run) (xs : List A) (i : ℕ) (d : A) (x : Run) → i < length xs → x ≡ f (get_or xs i d) → map f (drop i xs) ≡ x ∷ map f (drop (i + 1) xs)
head_of {A = A} f xs i d x h is =
    ap (map f) (drop-cons xs i d h)
    ∙ ap₂ (λ (y : Run) (ys : List A). y ∷ map f ys) (sym is) (ap (λ (k : ℕ). drop k xs) (sym (add-one i)))

pub tail_of : (runs : List Run) (j : ℕ) (d : Run) → j < length runs → drop j runs ≡ get_or runs j d ∷ drop (j + 1) runs
tail_of runs j d h = drop-cons runs j d h ∙ ap (λ (k : ℕ). get_or runs j d ∷ drop k runs) (sym (add-one j))

pub swept_heads : {A : Type 0} (f : A → Run) (xs ys : List Run) (records : List A) (runs : List Run) (i j at : ℕ) (none : A) (d x : Run) → i < length records → j < length runs
    → x ≡ f (get_or records i none) → Swept xs ys (map f (drop i records)) (drop j runs) at → Swept xs ys (x ∷ map f (drop (i + 1) records)) (get_or runs j d ∷ drop (j + 1) runs) at
swept_heads f xs ys records runs i j at none d x less_i less_j is swept =
    subst (λ (rest : List Run). Swept xs ys (x ∷ map f (drop (i + 1) records)) rest at) (tail_of runs j d less_j)
    (subst (λ (rest : List Run). Swept xs ys rest (drop j runs) at) (head_of f records i none x less_i is) swept)

-- one list has come to its end
pub held_left : {A : Type 0} (f : A → Run) (xs ys : List Run) (records : List A) (runs : List Run) (i j at place : ℕ) (none : A) → i < length records → length runs ≤ j
    → Swept xs ys (map f (drop i records)) (drop j runs) at → place ≡ max (f (get_or records i none)).start at → IsFirstDifference xs ys place
held_left f xs ys records runs i j at place none less end swept is =
    let x = f (get_or records i none) in
    let head = head_of f records i none x less refl in
    let here = subst (λ (rest : List Run). Swept xs ys (x ∷ map f (drop (i + 1) records)) rest at) (drop_all j runs end) (subst (λ (rest : List Run). Swept xs ys rest (drop j runs) at) head swept) in
    subst (λ (n : ℕ). IsFirstDifference xs ys n) (sym is) (more_held xs ys x (map f (drop (i + 1) records)) at here)

pub due_left : {A : Type 0} (f : A → Run) (xs ys : List Run) (records : List A) (runs : List Run) (i j at place : ℕ) (d : Run) → length records ≤ i → j < length runs
    → Swept xs ys (map f (drop i records)) (drop j runs) at → place ≡ max (get_or runs j d).start at → IsFirstDifference xs ys place
due_left {A = A} f xs ys records runs i j at place d end less swept is =
    let y = get_or runs j d in
    let nothing : map f (drop i records) ≡ [] = ap (λ (rest : List A). map f rest) (drop_all i records end) in
    let here = subst (λ (rest : List Run). Swept xs ys rest (y ∷ drop (j + 1) runs) at) nothing (subst (λ (rest : List Run). Swept xs ys (map f (drop i records)) rest at) (tail_of runs j d less) swept) in
    subst (λ (n : ℕ). IsFirstDifference xs ys n) (sym is) (more_due xs ys y (drop (j + 1) runs) at here)

-- both lists have come to their ends
pub both_ended : {A : Type 0} (f : A → Run) (xs ys : List Run) (records : List A) (runs : List Run) (i j at : ℕ) → length records ≤ i → length runs ≤ j
    → Swept xs ys (map f (drop i records)) (drop j runs) at → AreAlike xs ys
both_ended {A = A} f xs ys records runs i j at end_records end_runs swept =
    all_alike xs ys at
    (subst (λ (rest : List Run). Swept xs ys [] rest at) (drop_all j runs end_runs)
    (subst (λ (rest : List Run). Swept xs ys rest (drop j runs) at) (ap (λ (rest : List A). map f rest) (drop_all i records end_records)) swept))

-- the places after a step
pub swept_step : {A : Type 0} (f : A → Run) (xs ys : List Run) (records : List A) (runs : List Run) (i j at end i_next j_next : ℕ) (none : A) (d x : Run) → i < length records → j < length runs
    → x ≡ f (get_or records i none) → Swept xs ys (x ∷ map f (drop (i + 1) records)) (get_or runs j d ∷ drop (j + 1) runs) at → max x.start at ≡ max (get_or runs j d).start at
    → x.owner ≡ (get_or runs j d).owner → offset_word_at x (max x.start at) ≡ offset_word_at (get_or runs j d) (max x.start at)
    → end ≡ min (x.start + x.count) ((get_or runs j d).start + (get_or runs j d).count)
    → i_next ≡ (if nat_le (x.start + x.count) end then i + 1 else i) → j_next ≡ (if nat_le ((get_or runs j d).start + (get_or runs j d).count) end then j + 1 else j)
    → Swept xs ys (map f (drop i_next records)) (drop j_next runs) end
swept_step f xs ys records runs i j at end i_next j_next none d x less_i less_j is swept same owner word to step_i step_j =
    let y = get_or runs j d in
    let left = passed_list f records i i_next x (nat_le (x.start + x.count) end) step_i (head_of f records i none x less_i is) in
    let right = passed_runs runs j j_next y (nat_le (y.start + y.count) end) step_j (tail_of runs j d less_j) in
    subst (λ (rest : List Run). Swept xs ys rest (drop j_next runs) end) (sym left)
    (subst (λ (rest : List Run). Swept xs ys (if nat_le (x.start + x.count) end then map f (drop (i + 1) records) else (x ∷ map f (drop (i + 1) records))) rest end) (sym right)
    (swept_next xs ys x y (map f (drop (i + 1) records)) (drop (j + 1) runs) at end swept same owner word to))
  where
    passed_runs : (runs : List Run) (j next : ℕ) (y : Run) (t : Bool) → next ≡ (if t then j + 1 else j) → drop j runs ≡ y ∷ drop (j + 1) runs → drop next runs ≡ (if t then drop (j + 1) runs else (y ∷ drop (j + 1) runs))
    passed_runs runs j next y true is head = ap (λ (k : ℕ). drop k runs) is
    passed_runs runs j next y false is head = ap (λ (k : ℕ). drop k runs) is ∙ head

-- a map of which the items are asked from a place on has mapped runs
pub mapped_at : {A : Type 0} (f : A → Run) (xs : List A) (i : ℕ) (d : A) (x : Run) → i < length xs → x ≡ f (get_or xs i d) → All IsMapped (map f xs) → IsMapped x
mapped_at f xs i d x h is all =
    let size : i < length (map f xs) = simp length-map h in
    subst IsMapped (get_or-map f xs i d x h ∙ sym is) (all i x size)
