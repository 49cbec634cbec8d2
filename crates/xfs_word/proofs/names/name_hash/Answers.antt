use Rattle.std.proofs.Common.{◌≡◌, ◌≤◌, ◌<◌, ◌^◌, [], length, drop, fold, sym, ◌∙◌, ap, arith}
use Rattle.std.proofs.lemmas.List.{drop_all}
use Rattle.xfs_word.specs.Hash.{hash_of}
use Rattle.xfs_word.proofs.Register.{AreBytes}
use Rattle.xfs_word.proofs.Rounds.{round, rounds}
use Rattle.xfs_word.proofs.names.name_hash.Goals as goal

pub returns : goal.returns
unfolding hash_of
returns c =
    let name = c.args.name.now in
    let all : AreBytes name = record { below = λ k. omega (arith, c.type_inv.name k) } in
    let over : length name ≤ c.loop-byte.byte-index = omega arith in
    let none : drop c.loop-byte.byte-index name ≡ [] = drop_all c.loop-byte.byte-index name over in
    let zero_fits : 0 < 2 ^ 32 = omega arith in
    sym (ap (fold round c.loop-byte.hash) none) ∙ c.loop-byte.invariant ∙ rounds 0 name zero_fits all
