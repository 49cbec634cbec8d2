-- What the sectors of a blank log say.
use Rattle.std.proofs.Common.{◌≡◌, ℕ, zero, suc, ◌-◌, ◌/◌, ◌%◌, ◌^◌, ◌<◌, ◌≤◌, true, false, List, get_or, ap, ◌∙◌, arith}
use Rattle.std.specs.Prelude.{nat_eq}
use Rattle.std.proofs.lemmas.Bool.{cond-true, cond-false}
use Rattle.xfs_word.specs.Field.{field_of}
use Rattle.xfs_log.specs.Log.{sectors_of_header, seen_of}
use Rattle.xfs_log.specs.BlankLog.{IsBlankHeader, IsBlankData, IsBlankRest, blank_seen}
use Rattle.xfs_log.specs.declared.sectors.SectorSeen.{SectorSeen}
use Rattle.xfs_log.proofs.Bytes.{zero_field_1, second_byte}

-- what a header says, by its numbers
said : (cycle version len ops size flag : ℕ) → SectorSeen
said cycle version len ops size flag = record {
  cycle = cycle;
  header = true;
  header_sectors = sectors_of_header version size;
  len = len;
  single = nat_eq ops 1;
  flag = flag;
}

header_is : (sector : List ℕ) (cycle version len ops size flag : ℕ) → field_of sector 0 4 ≡ 0xfeed_babe → field_of sector 4 4 ≡ cycle
    → field_of sector 8 4 ≡ version → field_of sector 12 4 ≡ len → field_of sector 40 4 ≡ ops → field_of sector 320 4 ≡ size
    → field_of sector 9 1 ≡ flag → seen_of sector ≡ said cycle version len ops size flag
unfolding seen_of said
header_is sector cycle version len ops size flag h0 h4 h8 h12 h40 h320 h9 =
    cond-true _ _ _ (ap (λ (n : ℕ). nat_eq n 0xfeed_babe) h0) ∙ (λ i. said (h4 i) (h8 i) (h12 i) (h40 i) (h320 i) (h9 i))

-- a number that is no magic number is the cycle
data_is : (sector : List ℕ) (cycle flag : ℕ) → cycle < 0xfeed_babe → field_of sector 0 4 ≡ cycle → field_of sector 9 1 ≡ flag
    → seen_of sector ≡ record { cycle = cycle; header = false; header_sectors = 0; len = 0; single = false; flag = flag }
unfolding seen_of
data_is sector cycle flag low h0 h9 =
    let no : nat_eq cycle 0xfeed_babe ≡ false = grind arith in
    cond-false _ _ _ (ap (λ (n : ℕ). nat_eq n 0xfeed_babe) h0 ∙ no)
    ∙ (λ i. record { cycle = h0 i; header = false; header_sectors = 0; len = 0; single = false; flag = h9 i })

pub header_says : (cycle : ℕ) (uuid sector : List ℕ) → ((k : ℕ) → get_or sector k 0 < 256) → IsBlankHeader cycle uuid sector
    → seen_of sector ≡ blank_seen cycle 0
unfolding said sectors_of_header
header_says cycle uuid sector small h =
    let flag : field_of sector 9 1 ≡ 0 = second_byte sector small ∙ ap (λ (n : ℕ). n / 2 ^ 16 % 2 ^ 8) h.version in
    header_is sector cycle 2 512 1 32768 0 h.magicno h.cycle h.version h.len h.num_logops h.size flag

pub data_says : (cycle : ℕ) (sector : List ℕ) → cycle < 2 ^ 31 → ((k : ℕ) → get_or sector k 0 < 256) → IsBlankData cycle sector
    → seen_of sector ≡ blank_seen cycle 1
data_says cycle sector low small h =
    let flag : field_of sector 9 1 ≡ 0x20 = second_byte sector small ∙ ap (λ (n : ℕ). n / 2 ^ 16 % 2 ^ 8) h.operation in
    data_is sector cycle 0x20 (omega arith) h.transaction flag

rest_is : (cycle place : ℕ) (sector : List ℕ) → cycle < 2 ^ 31 → IsBlankRest cycle sector → seen_of sector ≡ blank_seen cycle (suc (suc place))
rest_is cycle place sector low h =
    data_is sector (cycle - 1) 0 (omega arith) h.before (zero_field_1 sector 4 508 9 h.zero_behind (omega arith) (omega arith))

pub rest_says : (cycle place : ℕ) (sector : List ℕ) → cycle < 2 ^ 31 → 2 ≤ place → IsBlankRest cycle sector → seen_of sector ≡ blank_seen cycle place
rest_says cycle zero sector low late h = absurd (omega arith)
rest_says cycle (suc zero) sector low late h = absurd (omega arith)
rest_says cycle (suc (suc place)) sector low late h = rest_is cycle place sector low h
