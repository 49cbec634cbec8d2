use Rattle.std.proofs.Common.{rules, ◌≡◌, ℕ, ◌+◌, ◌-◌, ◌<◌, ◌≤◌, List, [], ◌∷◌, ◌++◌, Option, Some, length, refl, inl, inr, arith, sym, ◌∙◌, ap, subst, take, replicate}
use Rattle.xfs_word.specs.Field.{field_of, part_of, zeros}
use Rattle.xfs_word.proofs.Written.{keeps, keeps_parts}
use Rattle.xfs_word.proofs.Register.{AreBytes}
use Rattle.std.proofs.lemmas.Bool.{cases_lt}
use Rattle.std.proofs.lemmas.List.{take_all}
use Rattle.std.proofs.lemmas.List.Sums.{sum_by-append, sum_by-take-le}
use Rattle.xfs_dirdata.specs.declared.records.EntryRec.{EntryRec}
use Rattle.xfs_dirdata.specs.Written.{first_entries, data_size_of, data_length}
use Rattle.xfs_dirdata.specs.Bytes.{big_endian, data_bytes}
use Rattle.xfs_dirdata.proofs.Spelling.{total, Lie, parts-join, number-part}
use Rattle.xfs_dirbuild.specs.Filling.{all_entries}
use Rattle.xfs_dirbuild.specs.Blocks.{area_bytes}
use Rattle.xfs_dirbuild.proofs.BlockBytes.{blank-part}
use Rattle.xfs_dirdata.proofs.Same.{same_in_front}
use Rattle.xfs_dirbuild.proofs.single.put_area.Goals as goal

-- a number in the front of bytes
field-front : (bytes : List ℕ) (n : ℕ) → 4 ≤ n → n ≤ length bytes → field_of (part_of bytes 0 n) 0 4 ≡ field_of bytes 0 4
unfolding part_of
field-front bytes n some short = (same_in_front bytes n short).numbers 0 4 (omega arith) some

pub returns-clause-magic : goal.returns-clause-magic
returns-clause-magic c =
    let area : length c.as_mut_slice-area.result.now ≡ c.args.end = omega (arith, c.as_mut_slice-area.ensures.len, c.in_ok-bytes.ensures.len) in
    let some : 4 ≤ length c.put_data.new.block = omega arith in
    let short : length c.put_data.new.block ≤ length c.put_part.new.bytes = omega arith in
    sym (field-front c.put_part.new.bytes (length c.put_data.new.block) some short)
    ∙ (ap (λ (xs : List ℕ). field_of xs 0 4) c.put_part.ensures.put
    ∙ (keeps _ _ _ _ c.put_data.ensures.others 0 4 (inl (omega arith)) ∙ (c.put32.ensures.put ∙ c.data_magic.ensures)))

-- all entries are taken, where they fit
all-taken : (first es : List EntryRec) (taken end : ℕ) → taken ≤ length es → (taken < length es → end < 64 + data_length (first ++ take (taken + 1) es))
    → 64 + data_length first + data_length es ≤ end → first ++ take taken es ≡ first ++ es
all-taken first es taken end within longest fit =
    elim (cases_lt taken (length es)) [
      | inl less ↦
          absurd (omega (arith, longest less, sum_by-append data_size_of first (take (taken + 1) es), sum_by-take-le data_size_of es (taken + 1), fit))
      | inr all ↦ ap (λ (xs : List EntryRec). first ++ xs) (take_all taken es all)
    ]

-- a part of the front of bytes
part-front : (bytes front : List ℕ) (n at width : ℕ) → n ≤ length bytes → part_of bytes 0 n ≡ front → at + width ≤ n → part_of bytes at width ≡ part_of front at width
unfolding part_of
part-front bytes front n at width short is inside =
    sym ((same_in_front bytes n short).parts at width (omega arith) inside) ∙ ap (λ (xs : List ℕ). part_of xs at width) is

zeros-are : (n : ℕ) → replicate n 0 ≡ zeros n
unfolding zeros
zeros-are n = refl

pub returns-clause-bytes : goal.returns-clause-bytes
unfolding area_bytes
returns-clause-bytes c =
    let end = c.args.end in
    let block = c.put_part.new.bytes in
    let before = c.put32.new.bytes in
    let area = c.put_data.new.block in
    let first : Option (ℕ × ℕ) = Some (c.args.dir, c.args.parent) in
    let es = c.args.entries.now in
    let made : length c.as_mut_slice-area.result.now ≡ c.args.end = omega (arith, c.as_mut_slice-area.ensures.len, c.in_ok-bytes.ensures.len) in
    let before_long : length c.put32.new.bytes ≡ c.args.end = omega arith in
    let area_long : length c.put_data.new.block ≡ c.args.end = omega arith in
    let long : length c.put_part.new.bytes ≡ 4096 = omega arith in
    let all : AreBytes block = record { below = λ k. omega (arith, c.type_inv.block k) } in
    let short : c.args.end ≤ length c.put_part.new.bytes = omega arith in
    let put : part_of block 0 end ≡ area = ap (part_of block 0) (sym area_long) ∙ c.put_part.ensures.put in
    let stays = keeps_parts before area 48 (length before - 48) (omega arith) c.put_data.ensures.others in
    let items : c.in_ok-bytes.bytes.items ≡ replicate c.args.end 0 = search rules in
    let blank : part_of c.as_mut_slice-area.result.now 4 44 ≡ zeros 44 =
    blank-part end c.as_mut_slice-area.result.now 4 44 (c.as_mut_slice-area.ensures.value ∙ (items ∙ zeros-are end)) (omega (arith, c.requires.fit)) in
    let taken : first_entries first ++ take c.put_data.result es ≡ all_entries c.args.dir c.args.parent es =
    all-taken (first_entries first) es c.put_data.result end c.put_data.ensures.within
    (subst (λ (n : ℕ). c.put_data.result < length es → n < 64 + data_length (first_entries first ++ take (c.put_data.result + 1) es)) before_long c.put_data.ensures.longest)
    (omega (arith, c.requires.fit)) in
    let data_is : part_of area 48 (end - 48) ≡ data_bytes (all_entries c.args.dir c.args.parent es) end =
    subst (λ (n : ℕ). part_of area 48 (n - 48) ≡ data_bytes (first_entries first ++ take c.put_data.result es) n) before_long c.put_data.ensures.bytes
    ∙ ap (λ (xs : List EntryRec). data_bytes xs end) taken in
    let parts : List (ℕ × List ℕ) =
    (4, big_endian 4 0x58444233) ∷ (44, zeros 44) ∷ (c.args.end - 48, data_bytes (all_entries c.args.dir c.args.parent c.args.entries.now) c.args.end) ∷ [] in
    let whole : c.args.end ≡ total parts = omega (arith, c.requires.fit) in
    let lie : Lie block 0 parts = (
      number-part block 0 4 0x58444233 all (omega arith) (returns-clause-magic c),
      (
        part-front block area end 4 44 short put (omega (arith, c.requires.fit)) ∙ (stays 4 44 (inl (omega arith)) ∙ (c.put32.ensures.keeps_parts 4 44 (inr (omega arith)) ∙ blank)),
        (
          part-front block area end 48 (end - 48) short put (omega (arith, c.requires.fit)) ∙ data_is,
          tt,
        ),
      ),
    ) in
    ap (part_of block 0) whole ∙ parts-join block 0 parts lie
