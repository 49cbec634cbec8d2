-- Sectors of zeros at the end of a log: they are of cycle 0, begin no record and have no flag.
use Rattle.std.proofs.Common.{◌≡◌, ℕ, zero, suc, ◌+◌, ◌-◌, ◌%◌, ◌^◌, ◌<◌, ◌≤◌, Bool, true, false, not, ◌&&◌, ◌||◌, ◌==◌, cond, List, [], ◌∷◌, ◌++◌, length, take, drop, replicate, get_or, Option, None, refl, sym, ap, ap₂, ◌∙◌, arith}
use Rattle.std.specs.Prelude.{nat_le, nat_lt}
use Rattle.std.specs.List.{list_all, prefix_len}
use Rattle.std.proofs.lemmas.Bool.{cond-true, cond-false}
use Rattle.std.proofs.lemmas.Bool.Decides.{nat_tests}
use Rattle.std.proofs.lemmas.List.{append-nil, drop-append-le, length-append, length-replicate, take-append-le}
use Rattle.std.proofs.lemmas.List.Folds.{list_all-append}
use Rattle.xfs_heads.specs.xfs_geom.Features.{or_else}
use Rattle.xfs_log.specs.Log.{is_unwritten_sector, is_of_cycle, first_cycle, front, no_sector, all_sectors, sector_at, one_further, last_header, nearest_header, has_unmount_flag, is_unmount, data_sectors, ends_at, ends_in_unmount, is_unmounted, is_record, has_cleared_cycles, is_cleared, head_number, state_of}
use Rattle.xfs_log.specs.declared.sectors.SectorSeen.{SectorSeen}
use Rattle.xfs_heads.specs.declared.log_state.LogState.{LogState}
use Rattle.xfs_heads.specs.declared.log_state.LogState.TheVariants.{Clean, Dirty}

pub whole_length : (seen : List SectorSeen) (n : ℕ) → length seen ≤ n → length (all_sectors seen n) ≡ n
unfolding all_sectors
whole_length seen n inside =
    let rest = length-replicate (n - length seen) no_sector in
    length-append seen (replicate (n - length seen) no_sector) ∙ omega (arith, inside, rest)

-- all are listed
pub all_listed : (seen : List SectorSeen) (n : ℕ) → length seen ≡ n → all_sectors seen n ≡ seen
unfolding all_sectors
all_listed seen n whole =
    let none : n - length seen ≡ 0 = omega (arith, whole) in
    ap (λ (k : ℕ). seen ++ replicate k no_sector) none ∙ append-nil seen

all_zeros : (p : SectorSeen → Bool) (k : ℕ) → p no_sector ≡ true → list_all p (replicate k no_sector) ≡ true
all_zeros p zero passes = refl
all_zeros p (suc k) passes = ap₂ (λ (a b : Bool). a && b) passes (all_zeros p k passes)

-- what zeros pass, all pass where those pass that are listed
pub all_pass : (p : SectorSeen → Bool) (seen : List SectorSeen) (n : ℕ) → p no_sector ≡ true → list_all p (all_sectors seen n) ≡ list_all p seen
unfolding all_sectors
all_pass p seen n passes =
    let rest = replicate (n - length seen) no_sector in
    list_all-append p seen rest ∙ ap (λ (b : Bool). list_all p seen && b) (all_zeros p (n - length seen) passes) ∙ whole (list_all p seen)
  where
    whole : (b : Bool) → (b && true) ≡ b
    whole true = refl
    whole false = refl

pub taken : (seen : List SectorSeen) (n head : ℕ) → head ≤ length seen → take head (all_sectors seen n) ≡ take head seen
unfolding all_sectors
taken seen n head inside = take-append-le head seen (replicate (n - length seen) no_sector) inside

-- no zeros are of this cycle, or all are
of_zeros : (cycle k : ℕ) → 1 ≤ cycle → list_all (is_of_cycle (cycle - 1)) (replicate k no_sector) ≡ (cycle == 1 || k == 0)
of_zeros cycle k later = by_case (cycle == 1) k refl
  where
    by_case : (first : Bool) (k : ℕ) → (cycle == 1) ≡ first → list_all (is_of_cycle (cycle - 1)) (replicate k no_sector) ≡ (cycle == 1 || k == 0)
    by_case true k is =
        let passes : is_of_cycle (cycle - 1) no_sector ≡ true = grind (arith, nat_tests, is, later) in
        all_zeros (is_of_cycle (cycle - 1)) k passes ∙ sym (ap (λ (b : Bool). b || k == 0) is)
    by_case false zero is = sym (ap (λ (b : Bool). b || true) is)
    by_case false (suc k) is =
        let fails : is_of_cycle (cycle - 1) no_sector ≡ false = grind (arith, nat_tests, is, later) in
        let none : (suc k == 0) ≡ false = grind (arith, nat_tests) in
        ap (λ (b : Bool). b && list_all (is_of_cycle (cycle - 1)) (replicate k no_sector)) fails ∙ sym (ap₂ (λ (a b : Bool). a || b) is none)

-- which cycle the sectors behind a head have
pub behind : (seen : List SectorSeen) (n cycle head : ℕ) → 1 ≤ cycle → head ≤ length seen → length seen ≤ n
    → list_all (is_of_cycle (cycle - 1)) (drop head (all_sectors seen n)) ≡ (list_all (is_of_cycle (cycle - 1)) (drop head seen) && (cycle == 1 || length seen == n))
unfolding all_sectors
behind seen n cycle head later inside fits =
    let rest = replicate (n - length seen) no_sector in
    let p = is_of_cycle (cycle - 1) in
    let same : (n - length seen == 0) ≡ (length seen == n) = grind (arith, nat_tests, fits) in
    ap (λ xs. list_all p xs) (drop-append-le head seen rest inside)
    ∙ list_all-append p (drop head seen) rest
    ∙ ap (λ (b : Bool). list_all p (drop head seen) && b) (of_zeros cycle (n - length seen) later ∙ ap (λ (b : Bool). cycle == 1 || b) same)

no_header : (k : ℕ) → last_header (replicate k no_sector) ≡ None
unfolding last_header
no_header zero = refl
no_header (suc k) = ap (λ (o : Option ℕ). one_further o false) (no_header k)

last_before : (xs : List SectorSeen) (k : ℕ) → last_header (xs ++ replicate k no_sector) ≡ last_header xs
unfolding last_header
last_before [] k = no_header k
last_before (x ∷ xs) k = ap (λ (o : Option ℕ). one_further o x.header) (last_before xs k)

pub last_listed : (seen : List SectorSeen) (n : ℕ) → last_header (all_sectors seen n) ≡ last_header seen
unfolding all_sectors
last_listed seen n = last_before seen (n - length seen)

pub nearest_listed : (seen : List SectorSeen) (n head : ℕ) → head ≤ length seen → nearest_header (all_sectors seen n) head ≡ nearest_header seen head
unfolding nearest_header
nearest_listed seen n head inside = ap₂ (λ (a b : Option ℕ). or_else a b) (ap last_header (taken seen n head inside)) (last_listed seen n)

at_zeros : (k i : ℕ) → get_or (replicate k no_sector) i no_sector ≡ no_sector
at_zeros zero i = refl
at_zeros (suc k) zero = refl
at_zeros (suc k) (suc i) = at_zeros k i

at_end : (xs : List SectorSeen) (k i : ℕ) → get_or (xs ++ replicate k no_sector) i no_sector ≡ get_or xs i no_sector
at_end [] k i = at_zeros k i
at_end (x ∷ xs) k zero = refl
at_end (x ∷ xs) k (suc i) = at_end xs k i

same_at : (seen : List SectorSeen) (n i : ℕ) → sector_at (all_sectors seen n) i ≡ sector_at seen i
unfolding all_sectors
same_at seen n i = at_end seen (n - length seen) i

pub first_listed : (seen : List SectorSeen) (n : ℕ) → first_cycle (all_sectors seen n) ≡ first_cycle seen
unfolding all_sectors
first_listed seen n = first_of seen (n - length seen)
  where
    first_of : (xs : List SectorSeen) (k : ℕ) → first_cycle (xs ++ replicate k no_sector) ≡ first_cycle xs
    first_of [] zero = refl
    first_of [] (suc k) = refl
    first_of (x ∷ xs) k = refl

prefix_before : (p : SectorSeen → Bool) (xs : List SectorSeen) (k : ℕ) → p no_sector ≡ false → prefix_len p (xs ++ replicate k no_sector) ≡ prefix_len p xs
prefix_before p [] zero stops = refl
prefix_before p [] (suc k) stops = ap (λ (b : Bool). cond b (1 + prefix_len p (replicate k no_sector)) 0) stops
prefix_before p (x ∷ xs) k stops = ap (λ (m : ℕ). cond (p x) (1 + m) 0) (prefix_before p xs k stops)

pub front_listed : (seen : List SectorSeen) (n cycle : ℕ) → 1 ≤ cycle → prefix_len (is_of_cycle cycle) (all_sectors seen n) ≡ prefix_len (is_of_cycle cycle) seen
unfolding all_sectors
front_listed seen n cycle later =
    let stops : is_of_cycle cycle no_sector ≡ false = grind (arith, nat_tests, later) in
    prefix_before (is_of_cycle cycle) seen (n - length seen) stops

-- the record of a header, by the sectors that are listed
pub unmount_listed : (seen : List SectorSeen) (n start : ℕ) → length seen ≤ n
    → is_unmount (all_sectors seen n) start
    ≡ ((sector_at seen start).single && not ((sector_at seen start).len == 0) && has_unmount_flag (sector_at seen ((start + (sector_at seen start).header_sectors) % n)))
unfolding is_unmount
unmount_listed seen n start inside =
    let all = all_sectors seen n in
    let here = sector_at seen start in
    ap (λ (h : SectorSeen). h.single && not (h.len == 0) && has_unmount_flag (sector_at all ((start + h.header_sectors) % length all))) (same_at seen n start)
    ∙ ap (λ (m : ℕ). here.single && not (here.len == 0) && has_unmount_flag (sector_at all ((start + here.header_sectors) % m))) (whole_length seen n inside)
    ∙ ap (λ (x : SectorSeen). here.single && not (here.len == 0) && has_unmount_flag x) (same_at seen n ((start + here.header_sectors) % n))

-- what is not listed has no flag
pub no_flag : (seen : List SectorSeen) (i : ℕ) → length seen ≤ i → has_unmount_flag (sector_at seen i) ≡ false
unfolding has_unmount_flag
no_flag [] i past = refl
no_flag (x ∷ xs) zero past = absurd (omega (arith, past))
no_flag (x ∷ xs) (suc i) past = no_flag xs i (omega (arith, past))

pub ends_listed : (seen : List SectorSeen) (n start head : ℕ) → length seen ≤ n
    → ends_at (all_sectors seen n) start head ≡ ((start + ((sector_at seen start).header_sectors + data_sectors (sector_at seen start))) % n == head % n)
unfolding ends_at
ends_listed seen n start head inside =
    let all = all_sectors seen n in
    ap (λ (h : SectorSeen). (start + (h.header_sectors + data_sectors h)) % length all == head % length all) (same_at seen n start)
    ∙ ap (λ (m : ℕ). (start + ((sector_at seen start).header_sectors + data_sectors (sector_at seen start))) % m == head % m) (whole_length seen n inside)

pub with_true : (b : Bool) → (b && true) ≡ b
with_true true = refl
with_true false = refl

pub none_behind : (a b : Bool) → b ≡ false → (a && b) ≡ false
none_behind true b is = is
none_behind false b is = refl

second_fails : (a b c d e f : Bool) → b ≡ false → (a && b && c && d && e && f) ≡ false
second_fails a b c d e f is = ap (λ (x : Bool). x && c && d && e && f) (none_behind a b is)

-- a log that ends with zeros behind the 512 sectors was not cleared
pub not_cleared : (seen : List SectorSeen) (n cycle head : ℕ) → 512 ≤ length seen → length seen < n → is_cleared (all_sectors seen n) cycle head ≡ false
unfolding is_cleared has_cleared_cycles
not_cleared seen n cycle head long more = by_case (nat_le 2 cycle) refl
  where
    by_case : (later : Bool) → nat_le 2 cycle ≡ later → is_cleared (all_sectors seen n) cycle head ≡ false
    by_case false early =
        let all = all_sectors seen n in
        second_fails (nat_le 512 (length all)) (nat_le 2 cycle) (nat_le 1 head) (nat_lt head 512) (has_cleared_cycles all cycle head) (is_record all head) early
    by_case true late =
        let all = all_sectors seen n in
        let least : 2 ≤ cycle = grind (arith, nat_tests, late) in
        let not_one : (cycle == 1) ≡ false = grind (arith, nat_tests, least) in
        let not_all : (length seen == n) ≡ false = grind (arith, nat_tests, more) in
        let none : (cycle == 1 || length seen == n) ≡ false = ap₂ (λ (a b : Bool). a || b) not_one not_all in
        let last : list_all (is_of_cycle (cycle - 1)) (drop 512 all) ≡ false =
        behind seen n cycle 512 (omega (arith, least)) long (omega (arith, more)) ∙ none_behind (list_all (is_of_cycle (cycle - 1)) (drop 512 seen)) _ none in
        let lost : has_cleared_cycles all cycle head ≡ false = none_behind _ _ last in
        ap (λ (x : Bool). x && is_record all head) (none_behind (nat_le 512 (length all) && nat_le 2 cycle && nat_le 1 head && nat_lt head 512) (has_cleared_cycles all cycle head) lost)

-- a log whose first sectors, so many, have a cycle, by the sectors that are listed
pub unmounted_listed : (seen : List SectorSeen) (n cycle head : ℕ) → length seen ≤ n → head ≤ length seen → 1 ≤ cycle
    → is_unmounted (all_sectors seen n) cycle head
    ≡ (nat_le 1 head && list_all (is_of_cycle cycle) (take head seen) && list_all (is_of_cycle (cycle - 1)) (drop head (all_sectors seen n)) && ends_in_unmount (all_sectors seen n) head)
unfolding is_unmounted
unmounted_listed seen n cycle head fits inside later =
    let all = all_sectors seen n in
    let first : nat_le 1 cycle ≡ true = grind (arith, nat_tests, later) in
    let long = whole_length seen n fits in
    let third : nat_le head (length all) ≡ true = grind (arith, nat_tests, long, inside, fits) in
    ap (λ (b : Bool). b && nat_le 1 head && nat_le head (length all) && list_all (is_of_cycle cycle) (take head all) && list_all (is_of_cycle (cycle - 1)) (drop head all) && ends_in_unmount all head) first
    ∙ ap (λ (b : Bool). nat_le 1 head && b && list_all (is_of_cycle cycle) (take head all) && list_all (is_of_cycle (cycle - 1)) (drop head all) && ends_in_unmount all head) third
    ∙ ap (λ (b : Bool). b && list_all (is_of_cycle cycle) (take head all) && list_all (is_of_cycle (cycle - 1)) (drop head all) && ends_in_unmount all head) (with_true (nat_le 1 head))
    ∙ ap (λ xs. nat_le 1 head && list_all (is_of_cycle cycle) xs && list_all (is_of_cycle (cycle - 1)) (drop head all) && ends_in_unmount all head) (taken seen n head inside)

pub first_of_four : (a b c d : Bool) → a ≡ false → false ≡ (a && b && c && d)
first_of_four a b c d is = sym (ap (λ (x : Bool). x && b && c && d) is)

pub second_of_four : (a b c d : Bool) → b ≡ false → false ≡ (a && b && c && d)
second_of_four a b c d is = sym (ap (λ (x : Bool). x && c && d) (none_behind a b is))

pub third_of_four : (a b c d : Bool) → c ≡ false → false ≡ (a && b && c && d)
third_of_four a b c d is = sym (ap (λ (x : Bool). x && d) (none_behind (a && b) c is))

pub last_of_four : (a b c d : Bool) → a ≡ true → b ≡ true → c ≡ true → d ≡ (a && b && c && d)
last_of_four a b c d first second third = sym (λ i. first i && second i && third i && d)

-- the state of a log that was never written, of one whose first sector is of cycle 0, and of any other
pub state_unwritten : (seen : List SectorSeen) (n : ℕ) → list_all is_unwritten_sector seen ≡ true → state_of (all_sectors seen n) ≡ Clean (2 ^ 32)
unfolding state_of
state_unwritten seen n unwritten = cond-true _ _ _ (all_pass is_unwritten_sector seen n refl ∙ unwritten)

no_case : (sectors : List SectorSeen) (head : ℕ) → (is_unmounted sectors 0 head || is_cleared sectors 0 head) ≡ false
unfolding is_unmounted is_cleared
no_case sectors head = second_fails (nat_le 512 (length sectors)) false (nat_le 1 head) (nat_lt head 512) (has_cleared_cycles sectors 0 head) (is_record sectors head) refl

pub state_early : (seen : List SectorSeen) (n : ℕ) → list_all is_unwritten_sector seen ≡ false → first_cycle seen ≡ 0 → state_of (all_sectors seen n) ≡ Dirty
unfolding state_of
state_early seen n written none =
    let all = all_sectors seen n in
    cond-false _ _ _ (all_pass is_unwritten_sector seen n refl ∙ written)
    ∙ cond-false _ _ _ (ap (λ (c : ℕ). is_unmounted all c (front all) || is_cleared all c (front all)) (first_listed seen n ∙ none) ∙ no_case all (front all))

pub state_written : (seen : List SectorSeen) (n cycle head : ℕ) (s : Bool) → length seen ≤ n → list_all is_unwritten_sector seen ≡ false → cycle ≡ first_cycle seen → 1 ≤ cycle
    → head ≡ prefix_len (is_of_cycle cycle) seen → (is_unmounted (all_sectors seen n) cycle head || is_cleared (all_sectors seen n) cycle head) ≡ s
    → state_of (all_sectors seen n) ≡ cond s (Clean (head_number cycle head n)) Dirty
unfolding state_of
state_written seen n cycle head s inside written cycle_is later head_is case =
    let all = all_sectors seen n in
    let c : first_cycle all ≡ cycle = first_listed seen n ∙ sym cycle_is in
    let p : front all ≡ head = ap (λ (k : ℕ). prefix_len (is_of_cycle k) all) c ∙ front_listed seen n cycle later ∙ sym head_is in
    cond-false _ _ _ (all_pass is_unwritten_sector seen n refl ∙ written)
    ∙ ap₂ (λ (k h : ℕ). cond (is_unmounted all k h || is_cleared all k h) (Clean (head_number k h (length all))) Dirty) c p
    ∙ ap (λ (m : ℕ). cond (is_unmounted all cycle head || is_cleared all cycle head) (Clean (head_number cycle head m)) Dirty) (whole_length seen n inside)
    ∙ ap (λ (b : Bool). cond b (Clean (head_number cycle head n)) Dirty) case

-- what is listed of a log of which not all is
pub long_listed : (listed n : ℕ) → (listed < 512 → listed ≡ n) → (listed ≡ n → ⊥) → 512 ≤ listed
long_listed listed n few more = by_case (nat_lt listed 512) refl
  where
    by_case : (low : Bool) → nat_lt listed 512 ≡ low → 512 ≤ listed
    by_case true is = absurd (more (few (grind (arith, nat_tests, is))))
    by_case false is = grind (arith, nat_tests, is)
