-- What is wrong with a block: with its place first, then with its bytes.
use Rattle.std.proofs.Common.{◌≡◌, ℕ, List, Option, Some, None, sym, ◌∙◌, ap}
use Rattle.xfs_geom.specs.Features.{or_else}
use Rattle.xfs_tree.specs.Reading.{at_block}

-- a rule that its place breaks is the one that is answered
pub place_judged : (place rule : ℕ) (fault due later : Option ℕ) → fault ≡ Some rule → fault ≡ due
    → at_block place (or_else due later) None ≡ Some (record { block = place; rule = rule })
place_judged place rule fault due later is value = ap (λ (o : Option ℕ). at_block place (or_else o later) None) (sym value ∙ is)

-- in a place that breaks none a block is judged by its bytes
pub bytes_judged : (judge : List ℕ → Option ℕ) (place : ℕ) (admitted first fault : Option ℕ) (bytes block : List ℕ) → admitted ≡ None → admitted ≡ first
    → fault ≡ judge block → bytes ≡ block → at_block place (or_else first (judge bytes)) None ≡ at_block place fault None
bytes_judged judge place admitted first fault bytes block none value is read =
    ap (λ (o : Option ℕ). at_block place (or_else o (judge bytes)) None) (sym value ∙ none)
    ∙ ap (λ (xs : List ℕ). at_block place (judge xs) None) read
    ∙ ap (λ (o : Option ℕ). at_block place o None) (sym is)
