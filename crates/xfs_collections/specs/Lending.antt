-- What a bank is after one of its blocks was lent.
use Rattle.std.specs.Prelude.{ℕ, List}
use Rattle.std.specs.Borrow.{Lends, MutBor, Fml, u8, Array}
use Rattle.xfs_collections.specs.Bank.{overwritten}
use Rattle.xfs_collections.specs.contracts.bank.BlockBank.{the_row}

-- the bank ends overwritten from block i on by the last bytes behind the loan
abbrev pub LendsBlock : MutBor (List (List ℕ)) → ℕ → MutBor (List ℕ) → Fml
LendsBlock bank i loan = Lends the_row (Array u8 0) bank loan (overwritten bank.now i)
