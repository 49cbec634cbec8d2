-- A sweep over records of owners that ascend.
use Rattle.std.proofs.Common.{◌≡◌, ℕ, zero, suc, Bool, true, false, ◌+◌, ◌≤◌, ◌<◌, ◌&&◌, ◌||◌, ◌==◌, nat_le, nat_lt, List, [], ◌∷◌, drop, drop-cons, length, get_or, add-one, ◌*◌, ◌/◌, ◌^◌, Fits, w32, w64, refl, sym, ap, ◌∙◌, subst, arith}
use Rattle.std.proofs.lemmas.List.{drop_all}
use Rattle.std.proofs.lemmas.Bool.{leb-false, leb-true}
use Rattle.std.proofs.lemmas.Bool.Decides.{nat_tests}
use Rattle.xfs_kinds.specs.Owners.{clusters_owner}
use Rattle.xfs_geom.specs.declared.records.RmapRec.{RmapRec}
use Rattle.xfs_image.specs.Clusters.{gives_block, is_given_block}
use Rattle.xfs_groups.specs.Named.{RecordsApart, EndBehind, GiveAlike, begins_by, ends_before}

and_none : (x y : Bool) → (x && y && false) ≡ false
and_none true true = refl
and_none true false = refl
and_none false y = refl

and_sure : (x y : Bool) → (x && y) ≡ (x && y && true)
and_sure true true = refl
and_sure true false = refl
and_sure false y = refl

or_never : (x : Bool) → x ≡ (x || false)
or_never true = refl
or_never false = refl

-- a record that ends at a block or before it gives none from there on
gives_none : (block b : ℕ) (r : RmapRec) → ends_before block r ≡ true → block ≤ b → gives_block b r ≡ false
gives_none block b r ends from =
    let end : r.start + r.count ≤ block = leb-true (r.start + r.count) block ends in
    let late : nat_lt b (r.start + r.count) ≡ false = grind (arith, nat_tests) in
    ap (λ (t : Bool). r.owner == clusters_owner && nat_le r.start b && t) late ∙ and_none (r.owner == clusters_owner) (nat_le r.start b)

-- one record more is passed
pub passed : (block i : ℕ) (rs : List RmapRec) (d : RmapRec) → i < length rs → ends_before block (get_or rs i d) ≡ true → GiveAlike block (drop i rs) (drop (i + 1) rs)
passed block i rs d inside ends = λ b from.
    let next : drop (i + 1) rs ≡ drop (suc i) rs = ap (λ (k : ℕ). drop k rs) (add-one i) in
    ap (λ (xs : List RmapRec). is_given_block xs b) next
    ∙ sym (ap (λ (xs : List RmapRec). is_given_block xs b) (drop-cons rs i d inside)
    ∙ ap (λ (t : Bool). t || is_given_block (drop (suc i) rs) b) (gives_none block b (get_or rs i d) ends from))

pub alike_on : (block : ℕ) (xs ys zs : List RmapRec) → GiveAlike block xs ys → GiveAlike block ys zs → GiveAlike block xs zs
alike_on block xs ys zs first then = λ b from. then b from ∙ first b from

pub alike_later : (block later : ℕ) (xs ys : List RmapRec) → block ≤ later → GiveAlike block xs ys → GiveAlike later xs ys
alike_later block later xs ys le alike = λ b from. alike b (omega (arith, le, from))

pub ends_at : (block i : ℕ) (rs : List RmapRec) (d : RmapRec) → i < length rs → ends_before block (get_or rs i d) ≡ false → EndBehind block (drop i rs)
ends_at block i rs d inside ends = subst (EndBehind block) (sym (drop-cons rs i d inside)) ends

pub apart_lower : (low high : ℕ) (rs : List RmapRec) → low ≤ high → RecordsApart high rs → RecordsApart low rs
apart_lower low high [] le apart = tt
apart_lower low high (r ∷ rs) le apart = (let first = apart.0 in omega (arith, le, first), apart.1)

pub apart_dropped : (n low : ℕ) (rs : List RmapRec) → RecordsApart low rs → RecordsApart 0 (drop n rs)
apart_dropped zero low rs apart = apart_lower 0 low rs (omega arith) apart
apart_dropped (suc n) low [] apart = tt
apart_dropped (suc n) low (r ∷ rs) apart = apart_dropped n (r.start + r.count) rs apart.1

-- records behind a block do not give it
none_given : (block low : ℕ) (rs : List RmapRec) → block < low → RecordsApart low rs → is_given_block rs block ≡ false
none_given block low [] lt apart = refl
none_given block low (r ∷ rs) lt apart =
    let first : low ≤ r.start = apart.0 in
    let early : nat_le r.start block ≡ false = grind (arith, nat_tests) in
    let not : gives_block block r ≡ false = ap (λ (t : Bool). r.owner == clusters_owner && t && nat_lt block (r.start + r.count)) early ∙ never (r.owner == clusters_owner) (nat_lt block (r.start + r.count)) in
    rw not (none_given block (r.start + r.count) rs (omega (arith, lt, first)) apart.1)
  where
    never : (x y : Bool) → (x && false && y) ≡ false
    never true y = refl
    never false y = refl

-- whether a block is given that the first record ends behind
pub first_gives : (low block : ℕ) (r : RmapRec) (rs : List RmapRec) → RecordsApart low (r ∷ rs) → EndBehind block (r ∷ rs)
    → (r.owner == clusters_owner && nat_le r.start block) ≡ is_given_block (r ∷ rs) block
first_gives low block r rs apart behind =
    let end : block < r.start + r.count = leb-false (r.start + r.count) block behind in
    let late : nat_lt block (r.start + r.count) ≡ true = grind (arith, nat_tests) in
    let rest : is_given_block rs block ≡ false = none_given block (r.start + r.count) rs end apart.1 in
    and_sure (r.owner == clusters_owner) (nat_le r.start block)
    ∙ (ap (λ (t : Bool). r.owner == clusters_owner && nat_le r.start block && t) (sym late)
    ∙ (or_never (gives_block block r) ∙ ap (λ (t : Bool). gives_block block r || t) (sym rest)))

pub given_at : (block i : ℕ) (rs : List RmapRec) (d : RmapRec) → i < length rs → RecordsApart 0 (drop i rs) → EndBehind block (drop i rs)
    → begins_by block (get_or rs i d) ≡ is_given_block (drop i rs) block
given_at block i rs d inside apart behind =
    let cut : drop i rs ≡ get_or rs i d ∷ drop (suc i) rs = drop-cons rs i d inside in
    first_gives 0 block (get_or rs i d) (drop (suc i) rs) (subst (RecordsApart 0) cut apart) (subst (EndBehind block) cut behind)
    ∙ ap (λ (xs : List RmapRec). is_given_block xs block) (sym cut)

pub none_at : (block i : ℕ) (rs : List RmapRec) → length rs ≤ i → is_given_block (drop i rs) block ≡ false
none_at block i rs past = ap (λ (xs : List RmapRec). is_given_block xs block) (drop_all i rs past)

pub none_low : (n : ℕ) → 0 ≤ n
none_low n = omega arith

-- the clusters of a group of n blocks, by their places
pub quarter_on : (i : ℕ) → 4 * i ≤ 4 * (i + 1)
quarter_on i = omega arith

pub quarter_place : (i n : ℕ) → i < n / 4 → n < 2 ^ 32 → 4 * i + 4 < 2 ^ 32
quarter_place i n inside small = omega (arith, inside, small)

pub quarter_short : (i n : ℕ) → i < n / 4 → n < 2 ^ 32 → Fits w32 (4 * i)
quarter_short i n inside small = omega (arith, inside, small)

pub quarter_long : (i n : ℕ) → i < n / 4 → n < 2 ^ 32 → Fits w64 (4 * i)
quarter_long i n inside small = omega (arith, inside, small)

pub quarter_fits : (i n : ℕ) → i < n / 4 → n < 2 ^ 32 → Fits w64 i
quarter_fits i n inside small = omega (arith, inside, small)

pub quarter_low : (start end i n front : ℕ) → start < end → end ≤ 2 ^ 26 → i < n / 4 → front + n ≤ end → start + 4 * i < 2 ^ 32
quarter_low start end i n front inside small under short = omega (arith, inside, small, under, short)

pub quarter_sum : (start end i n front : ℕ) → start < end → end ≤ 2 ^ 26 → i < n / 4 → front + n ≤ end → Fits w64 (start + 4 * i)
quarter_sum start end i n front inside small under short = omega (arith, inside, small, under, short)
