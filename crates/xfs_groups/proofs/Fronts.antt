-- The first bytes of a block.
use Rattle.std.proofs.Common.{◌≡◌, ℕ, List, take}
use Rattle.std.proofs.lemmas.List.{get_or-take}
use Rattle.xfs_word.specs.Field.{field_of}
use Rattle.xfs_word.proofs.Written.{big_from-same}

pub first_number : (block : List ℕ) → field_of (take 4 block) 0 4 ≡ field_of block 0 4
unfolding field_of
first_number block = big_from-same 0 4 block (take 4 block) (record { agree = λ k first last. get_or-take 4 block k 0 last })
