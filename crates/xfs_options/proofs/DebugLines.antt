-- What a command line of xfs_db says, by what is read of it.
use Rattle.std.proofs.Common.{◌≡◌, ℕ, List, Result, Ok, Err, refl, sym, ap, ◌∙◌}
use Rattle.xfs_options.proofs.Offending.{refusal_first}
use Rattle.xfs_options.specs.DebugWords.{debug_from, debug_of, debug_options}
use Rattle.xfs_options.specs.Words.{OffendsFirst, Words, options_of}
use Rattle.xfs_options.specs.declared.reading.Given.{Given}

by_options : (said : Result (List Given) ℕ) (n : ℕ) → debug_from said ≡ Err n → said ≡ Err n
by_options (Ok given) n refusal = cc
by_options (Err k) n refusal = cc

-- the number of a refusal is that of the first word that offends
pub debug_first : (rest : Words) (n : ℕ) → debug_of rest ≡ Err n → OffendsFirst debug_options rest n
unfolding debug_of
debug_first rest n refusal =
    refusal_first debug_options rest n (tt, (tt, (tt, (tt, tt)))) (by_options (options_of debug_options rest) n refusal)
