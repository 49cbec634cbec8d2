use Rattle.std.proofs.Common.{◌≡◌, ◌+◌, ◌*◌, ◌/◌, ◌≤◌, ◌<◌, ◌^◌, ◌++◌, [], ◌∷◌, List, sym, subst, arith}
use Rattle.std.specs.List.{All}
use Rattle.std.proofs.lemmas.List.Elements.{All-push}
use Rattle.xfs_dirindex.specs.declared.pairs.Pair.{Pair}
use Rattle.xfs_dirbuild.specs.Index.{IsPointer}
use Rattle.xfs_dirbuild.proofs.filling.add_pair.Goals as goal

pub returns-clause-sound : goal.returns-clause-sound
returns-clause-sound c =
    let p : Pair = record { hash = c.name_hash.result; address = (c.args.number * 4096 + c.args.at) / 8 } in
    let is : c.push.new.self.items ≡ c.args.pairs.now.items ++ p ∷ [] = c.in_ok-push.ensures.items in
    let some : 1 ≤ (c.args.number * 4096 + c.args.at) / 8 = omega arith in
    let fits : (c.args.number * 4096 + c.args.at) / 8 < 2 ^ 32 = omega arith in
    subst (λ (ps : List Pair). All IsPointer ps) (sym is)
    (All-push IsPointer c.args.pairs.now.items p c.requires.sound (record { some = some; fits = fits }))
