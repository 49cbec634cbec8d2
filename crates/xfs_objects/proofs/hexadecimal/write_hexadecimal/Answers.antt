use Rattle.std.proofs.Common.{◌≡◌, ℕ, false, List, [], drop, ap, arith, rules}
use Rattle.std.proofs.lemmas.List.{drop_all}
use Rattle.std.specs.Fmt.{digits_onto}
use Rattle.xfs_objects.specs.Hexadecimal.{hexadecimal}
use Rattle.xfs_objects.proofs.hexadecimal.write_hexadecimal.Goals as goal

-- nothing is written yet
begun : (n : ℕ) (rest : List ℕ) → rest ≡ [] → digits_onto 16 16 false n rest ≡ hexadecimal n
unfolding hexadecimal
begun n rest none = ap (λ (after : List ℕ). digits_onto 16 16 false n after) none

pub loop-at-init : goal.loop-at-init
loop-at-init c =
    record {
      within = search rules;
      left = begun c.args.number (drop 16 c.args.buffer.now) (drop_all 16 c.args.buffer.now (omega (arith, c.told-buffer)));
      fits = search rules;
      some = search rules;
    }
