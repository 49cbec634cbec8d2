use Rattle.std.proofs.Common.{◌≡◌, ◌%◌, [], sym, ap, subst, arith}
use Rattle.std.specs.List.{All}
use Rattle.std.proofs.Math.Nat.{mod-eq_of_lt}
use Rattle.std.proofs.lemmas.List.Elements.{All-cons, All-nil}
use Rattle.xfs_place.specs.declared.wanted.Object.{Object}
use Rattle.xfs_place.specs.Objects.{IsAsk}
use Rattle.xfs_volume_tests.proofs.place.objects.trees_beside.Goals as goal

pub place_beside-requires-clause-behind : goal.place_beside-requires-clause-behind
place_beside-requires-clause-behind c =
    let start = c.file-rest.result.start in
    let at = ap (λ r. r.start) c.file-rest.ensures in
    let whole : start % c.args.size.now.agblocks ≡ start = mod-eq_of_lt (omega (arith, at, c.requires.end)) in
    omega (arith, whole, at, c.requires.front)

pub place_beside-requires-clause-asks : goal.place_beside-requires-clause-asks
place_beside-requires-clause-asks c =
    subst (All (λ (o : Object). All IsAsk o.runs)) (sym c.in_ok-objects.ensures.items)
    (All-cons (λ (o : Object). All IsAsk o.runs) c.in_ok-data.data [] c.in_ok-data.ensures.asks (All-nil (λ (o : Object). All IsAsk o.runs)))
