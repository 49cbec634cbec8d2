-- The log that is due is clean, and no number that stays is above its head.
use Rattle.std.proofs.Common.{◌≡◌, ℕ, Bool, true, false, max, ◌+◌, ◌-◌, ◌*◌, ◌/◌, ◌^◌, ◌≤◌, ◌⊎◌, inl, inr, ◌==◌, ◌||◌, nat_le, if◌then◌else◌, List, [], ◌∷◌, Some, None, refl, sym, ap, ◌∙◌, arith}
use Rattle.std.specs.Prelude.{MatchOption}
use Rattle.std.specs.List.{list_all}
use Rattle.std.proofs.lemmas.Bool.{and_parts, le-leb, or_right}
use Rattle.xfs_log.specs.xfs_heads.declared.log_state.LogState.{LogState}
use Rattle.xfs_log.specs.xfs_heads.declared.log_state.LogState.TheVariants.{Clean, Dirty}
use Rattle.xfs_laws.specs.Counting.{head_of, is_behind}
use Rattle.xfs_views.proofs.Members.{Member}
use Rattle.xfs_rename.specs.xfs_request.Cycles.{cycle_of, greatest_cycle, keeps_log}
use Rattle.xfs_restored.specs.Logs.{IsLogDue}

each_behind : (head lsn : ℕ) (lsns : List ℕ) → list_all (is_behind head) lsns ≡ true → Member lsn lsns → is_behind head lsn ≡ true
each_behind head lsn [] all is = absurd is
each_behind head lsn (n ∷ lsns) all is =
    let parts = and_parts (is_behind head n) (list_all (is_behind head) lsns) all in
    elim is [ inl same ↦ ap (is_behind head) (sym same) ∙ parts.0 | inr there ↦ each_behind head lsn lsns parts.1 there ]

no_greater : (lsn : ℕ) (lsns : List ℕ) → Member lsn lsns → cycle_of lsn ≤ greatest_cycle lsns
no_greater lsn [] is = absurd is
no_greater lsn (n ∷ lsns) is =
    elim is [
      | inl same ↦ let here : cycle_of n ≡ cycle_of lsn = ap cycle_of same in most (cycle_of lsn) (cycle_of n) (greatest_cycle lsns) (inl here)
      | inr there ↦ most (cycle_of lsn) (cycle_of n) (greatest_cycle lsns) (inr (no_greater lsn lsns there))
    ]
  where
    most : (a b c : ℕ) → (b ≡ a) ⊎ (a ≤ c) → a ≤ max b c
    most a b c (inl same) = omega (arith, same)
    most a b c (inr low) = omega (arith, low)

-- a number of a cycle below that of a blank log
blank_behind : (lsn greatest : ℕ) → cycle_of lsn ≤ greatest → is_behind ((1 + greatest) * 2 ^ 32 + 2) lsn ≡ true
blank_behind lsn greatest low = by_case (lsn == 2 ^ 64 - 1) low
  where
    by_case : (t : Bool) → (if t then 0 else lsn / 2 ^ 32) ≤ greatest → (t || nat_le lsn ((1 + greatest) * 2 ^ 32 + 2)) ≡ true
    by_case true least = refl
    by_case false least = le-leb lsn ((1 + greatest) * 2 ^ 32 + 2) (omega (arith, least))

pub zero_behind : (head : ℕ) → is_behind head 0 ≡ true
zero_behind head = or_right (0 == 2 ^ 64 - 1) (nat_le 0 head) (le-leb 0 head (omega arith))

-- the log is clean, and the number is not above its head
pub number_behind : (log now : LogState) (numbers : List ℕ) (lsn : ℕ) → IsLogDue log numbers now → Member lsn numbers → is_behind (head_of now) lsn ≡ true
number_behind log now numbers lsn due is = by_log (keeps_log log numbers) refl due
  where
    of_log : (l : LogState) → keeps_log l numbers ≡ true → is_behind (head_of l) lsn ≡ true
    of_log (Clean head) stays = each_behind head lsn numbers stays is
    of_log Dirty stays = absurd cc

    by_log : (t : Bool) → keeps_log log numbers ≡ t → MatchOption (if t then None else Some (1 + greatest_cycle numbers)) (now ≡ log) (λ cycle. now ≡ Clean (cycle * 2 ^ 32 + 2))
        → is_behind (head_of now) lsn ≡ true
    by_log true stays same = ap (λ (l : LogState). is_behind (head_of l) lsn) same ∙ of_log log stays
    by_log false stays blank = ap (λ (l : LogState). is_behind (head_of l) lsn) blank ∙ blank_behind lsn (greatest_cycle numbers) (no_greater lsn numbers is)

pub due_clean : (log now : LogState) (numbers : List ℕ) → IsLogDue log numbers now → now ≡ Clean (head_of now)
due_clean log now numbers due = by_log (keeps_log log numbers) refl due
  where
    of_log : (l : LogState) → keeps_log l numbers ≡ true → l ≡ Clean (head_of l)
    of_log (Clean head) stays = refl
    of_log Dirty stays = absurd cc

    by_log : (t : Bool) → keeps_log log numbers ≡ t → MatchOption (if t then None else Some (1 + greatest_cycle numbers)) (now ≡ log) (λ cycle. now ≡ Clean (cycle * 2 ^ 32 + 2))
        → now ≡ Clean (head_of now)
    by_log true stays same = same ∙ (of_log log stays ∙ ap (λ (l : LogState). Clean (head_of l)) (sym same))
    by_log false stays blank = blank ∙ ap (λ (l : LogState). Clean (head_of l)) (sym blank)
