use Rattle.std.proofs.Common.{◌≡◌, ◌+◌, ◌-◌, ◌%◌, ◌≤◌, ◌++◌, ℕ, arith, ◌∙◌, ap, subst, take, length, Some}
use Rattle.std.proofs.lemmas.List.Sums.{sum_by-append}
use Rattle.xfs_word.proofs.Register.{AreBytes}
use Rattle.xfs_dirdata.specs.Written.{AreDataEntries, first_entries, data_length, data_size_of, written_area}
use Rattle.xfs_dirdata.specs.Bytes.{data_bytes}
use Rattle.xfs_word.specs.Field.{part_of}
use Rattle.xfs_dirdata.proofs.Same.{same_before, same_between}
use Rattle.xfs_dirdata.proofs.Placing.{data_entries-stay, data_entries-join, area-reads_within, data_length-aligned}
use Rattle.xfs_dirdata.proofs.Bytes.{data-part}
use Rattle.xfs_dirdata.proofs.data_writing.put_data.Goals as goal

pub put_rest-requires-clause-aligned : goal.put_rest-requires-clause-aligned
put_rest-requires-clause-aligned c =
    let first = data_length-aligned (first_entries c.args.first) in
    let more = data_length-aligned (take c.count_fitting-count.result c.args.entries.now) in
    omega (arith, c.put_entries-end.ensures.end, c.put_first-start.ensures.end)

pub returns-clause-stand : goal.returns-clause-stand
returns-clause-stand c =
    let first = first_entries c.args.first in
    let more = take c.count_fitting-count.result c.args.entries.now in
    let start = c.put_first-start.result in
    let before = c.put_first-start.new.block in
    let block = c.put_entries-end.new.block in
    let same = same_before before block 64 start _ c.put_entries-end.auto.block c.put_entries-end.ensures.others in
    let bytes = sum_by-append data_size_of first more in
    let all = data_entries-join block 64 first more
    (data_entries-stay 64 start before block 64 first same (omega arith) (omega (arith, c.put_first-start.ensures.end)) c.put_first-start.ensures.stand)
    (subst (λ (a : ℕ). AreDataEntries block a more) c.put_first-start.ensures.end c.put_entries-end.ensures.stand) in
    data_entries-stay 64 c.put_entries-end.result block c.put_rest.new.block 64 (first ++ more)
    (same_between block c.put_rest.new.block 64 c.put_entries-end.result c.put_rest.auto.block c.put_rest.ensures.entries)
    (omega arith) (omega (arith, bytes, c.put_entries-end.ensures.end, c.put_first-start.ensures.end)) all

pub returns-clause-read : goal.returns-clause-read
returns-clause-read c =
    λ dir.
    let first = first_entries c.args.first in
    let more = take c.count_fitting-count.result c.args.entries.now in
    let block = c.put_rest.new.block in
    let end = length c.put_entries-end.new.block in
    let bytes = sum_by-append data_size_of first more in
    let place : 64 + data_length (first ++ more) ≡ c.put_entries-end.result = omega (arith, bytes, c.put_entries-end.ensures.end, c.put_first-start.ensures.end) in
    let long : end ≡ length c.args.block.now = omega (arith, c.put_entries-end.auto.block, c.put_first-start.auto.block) in
    let inside : c.put_entries-end.result ≤ end =
    omega (arith, c.count_fitting-count.ensures.fits, c.put_entries-end.ensures.end, c.put_first-start.ensures.end, c.requires.long, c.put_entries-end.auto.block, c.put_first-start.auto.block) in
    let first_even = data_length-aligned first in
    let more_even = data_length-aligned more in
    let aligned : c.put_entries-end.result % 8 ≡ 0 = omega (arith, c.put_entries-end.ensures.end, c.put_first-start.ensures.end) in
    let whole : end % 8 ≡ 0 = omega (arith, long, c.requires.whole) in
    area-reads_within dir block (first ++ more) c.put_entries-end.result end c.put_rest.auto.block (returns-clause-stand c) place
    inside aligned whole c.put_rest.ensures.unused c.put_rest.ensures.bests
    ∙ ap (λ (n : ℕ). Some (written_area dir (first ++ more) n)) long

pub returns-clause-bytes : goal.returns-clause-bytes
returns-clause-bytes c =
    let first = first_entries c.args.first in
    let more = take c.count_fitting-count.result c.args.entries.now in
    let block = c.put_rest.new.block in
    let end = length c.put_entries-end.new.block in
    let bytes = sum_by-append data_size_of first more in
    let place : 64 + data_length (first ++ more) ≡ c.put_entries-end.result = omega (arith, bytes, c.put_entries-end.ensures.end, c.put_first-start.ensures.end) in
    let long : end ≡ length c.args.block.now = omega (arith, c.put_entries-end.auto.block, c.put_first-start.auto.block) in
    let inside : c.put_entries-end.result ≤ end =
    omega (arith, c.count_fitting-count.ensures.fits, c.put_entries-end.ensures.end, c.put_first-start.ensures.end, c.requires.long, c.put_entries-end.auto.block, c.put_first-start.auto.block) in
    let first_even = data_length-aligned first in
    let more_even = data_length-aligned more in
    let aligned : c.put_entries-end.result % 8 ≡ 0 = omega (arith, c.put_entries-end.ensures.end, c.put_first-start.ensures.end) in
    let whole : end % 8 ≡ 0 = omega (arith, long, c.requires.whole) in
    let all : AreBytes block = record { below = λ k. omega (arith, c.type_inv.block k) } in
    subst (λ (n : ℕ). part_of block 48 (n - 48) ≡ data_bytes (first ++ more) n) long
    (data-part block (first ++ more) c.put_entries-end.result end all c.put_rest.auto.block (returns-clause-stand c) place
    inside aligned whole c.put_rest.ensures.unused c.put_rest.ensures.bests c.put_rest.ensures.padding)
