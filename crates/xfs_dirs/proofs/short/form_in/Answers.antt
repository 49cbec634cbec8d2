use Rattle.std.proofs.Common.{◌≡◌, ℕ, ◌+◌, ◌≤◌, List, length, drop, sym, ◌∙◌, arith}
use Rattle.std.proofs.lemmas.List.{take_all}
use Rattle.std.proofs.Common.{length-drop}
use Rattle.xfs_word.specs.Field.{part_of}
use Rattle.xfs_dirs.proofs.short.form_in.Goals as goal

-- so many bytes, or more, are all that follow
all_behind : (bytes : List ℕ) (at few many : ℕ) → length bytes ≤ at + few → few ≤ many → part_of bytes at few ≡ part_of bytes at many
unfolding part_of
all_behind bytes at few many short more =
    let left : length (drop at bytes) ≤ few = omega (arith, length-drop at bytes) in
    take_all few (drop at bytes) left ∙ sym (take_all many (drop at bytes) (omega arith))

pub returns-else-size : goal.returns-else-size
returns-else-size c = c.part-else-size.ensures.value ∙ all_behind c.args.slot.now 176 336 c.args.size (omega arith) (omega arith)
