use Rattle.std.proofs.Common.{◌==◌, ◌+◌, ◌≡◌, ℕ, drop, sym, ap, ◌∙◌, arith}
use Rattle.std.specs.List.{prefix_len}
use Rattle.std.proofs.lemmas.Bool.{eq-eqb, ne_eqb}
use Rattle.std.proofs.lemmas.List.Sums.{prefix_len-drop_no, prefix_len-drop_yes}
use Rattle.xfs_naming.proofs.runs.run_length.Goals as goal

ends : (i left all : ℕ) → left ≡ 0 → i + left ≡ all → i ≡ all
ends i left all none held = omega arith

goes : (i left next all : ℕ) → left ≡ 1 + next → i + left ≡ all → (i + 1) + next ≡ all
goes i left next all one held = omega arith

pub returns-then-number : goal.returns-then-number
returns-then-number g c =
    let p = λ (x : g.row.T.Denot). g.T.Numbered.key x == c.args.number in
    let xs = c.args.records.now in
    let i = c.loop-i.i in
    ends i (prefix_len p (drop i xs)) (prefix_len p xs)
    (prefix_len-drop_no p xs i c.index-records-i.result c.loop-i-test.true
    (ap p (sym c.index-records-i.is) ∙ ap (λ (n : ℕ). n == c.args.number) (sym c.number.ensures) ∙ ne_eqb c.number.result c.args.number c.if-number.true))
    c.loop-i.invariant

pub loop-i-preserved : goal.loop-i-preserved
loop-i-preserved g c =
    let p = λ (x : g.row.T.Denot). g.T.Numbered.key x == c.args.number in
    let xs = c.args.records.now in
    let i = c.loop-i.i in
    goes i (prefix_len p (drop i xs)) (prefix_len p (drop (i + 1) xs)) (prefix_len p xs)
    (prefix_len-drop_yes p xs i c.index-records-i.result c.loop-i-test.true
    (ap p (sym c.index-records-i.is) ∙ ap (λ (n : ℕ). n == c.args.number) (sym c.number.ensures) ∙ eq-eqb c.number.result c.args.number c.if-number.false))
    c.loop-i.invariant
