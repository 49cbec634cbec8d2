use Rattle.std.proofs.Common.{◌∙◌, arith}
use Rattle.xfs_word.proofs.Register.{AreBytes}
use Rattle.xfs_dirdata.proofs.Same.{same_before}
use Rattle.xfs_dirdata.proofs.Standing.{few_entries, short_form-reads}
use Rattle.xfs_dirdata.proofs.ShortBytes.{short-part}
use Rattle.xfs_dirdata.proofs.short_writing.put_short.Goals as goal

pub overflow_cast-entries : goal.overflow_cast-entries
overflow_cast-entries c = omega (arith, few_entries c.args.entries.now, c.requires.single)

pub returns-clause-read : goal.returns-clause-read
returns-clause-read c =
    λ dir.
    let same = same_before c.put_header.new.form c.put_entries.new.form 0 6 _ c.put_entries.auto.form c.put_entries.ensures.others in
    short_form-reads dir c.args.parent c.put_entries.result c.put_entries.new.form c.args.entries.now c.put_entries.ensures.size (omega (arith, c.put_entries.ensures.size, c.put_entries.auto.form, c.put_header.auto.form, c.requires.room))
    (same.numbers 0 1 (omega arith) (omega arith) ∙ c.put_header.ensures.count)
    (same.numbers 1 1 (omega arith) (omega arith) ∙ c.put_header.ensures.i8count)
    (same.numbers 2 4 (omega arith) (omega arith) ∙ c.put_header.ensures.parent)
    c.put_entries.ensures.stand c.requires.single

pub returns-clause-bytes : goal.returns-clause-bytes
returns-clause-bytes c =
    let form = c.put_entries.new.form in
    let same = same_before c.put_header.new.form c.put_entries.new.form 0 6 _ c.put_entries.auto.form c.put_entries.ensures.others in
    let all : AreBytes form = record { below = λ k. omega (arith, c.type_inv.form k) } in
    short-part form c.args.parent c.put_entries.result c.args.entries.now all c.put_entries.ensures.size
    (omega (arith, c.put_entries.ensures.size, c.put_entries.auto.form, c.put_header.auto.form, c.requires.room))
    (same.numbers 0 1 (omega arith) (omega arith) ∙ c.put_header.ensures.count)
    (same.numbers 1 1 (omega arith) (omega arith) ∙ c.put_header.ensures.i8count)
    (same.numbers 2 4 (omega arith) (omega arith) ∙ c.put_header.ensures.parent)
    c.put_entries.ensures.stand
