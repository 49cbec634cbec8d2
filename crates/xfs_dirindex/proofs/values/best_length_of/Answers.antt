use Rattle.std.proofs.Common.{◌<◌, ◌≤◌, length, arith, get_or, inl, inr, sym}
use Rattle.std.proofs.lemmas.Bool.{cases_lt}
use Rattle.xfs_dirindex.specs.declared.data.Best.{Best}
use Rattle.xfs_dirindex.proofs.Longest.{best_at-found, best_at-none}
use Rattle.xfs_dirindex.proofs.values.best_length_of.Goals as goal

abbrev none : Best
none = record { offset = 0; length = 0 }

pub returns : goal.returns
returns c =
    sym (best_at-found c.args.bests.now c.args.block c.place_of-k.result none (λ j h. c.place_of-k.ensures.before j none (omega arith) h) (omega (arith, c.place_of-k.ensures.within)) c.if-bests-k.false)

pub returns-then-bests-k : goal.returns-then-bests-k
returns-then-bests-k c =
    let k = c.place_of-k.result in
    let inside : c.place_of-k.result < length c.args.bests.now = omega (arith, c.place_of-k.ensures.within) in
    let here : c.args.block ≤ (get_or c.args.bests.now c.place_of-k.result none).offset = c.place_of-k.ensures.after c.place_of-k.result none (omega arith) inside in
    sym (best_at-none c.args.bests.now c.args.block none
    (λ j h e. elim (cases_lt j c.place_of-k.result) [
      | inl low ↦ let before : (get_or c.args.bests.now j none).offset < c.args.block = c.place_of-k.ensures.before j none (omega arith) low in omega arith
      | inr high ↦
          let rises : (get_or c.args.bests.now c.place_of-k.result none).offset ≤ (get_or c.args.bests.now j none).offset = c.requires c.place_of-k.result j none high h in
          c.if-bests-k.true (omega arith)
    ]))

pub returns-then-k-bests : goal.returns-then-k-bests
returns-then-k-bests c =
    sym (best_at-none c.args.bests.now c.args.block none
    (λ j h e. let before : (get_or c.args.bests.now j none).offset < c.args.block = c.place_of-k.ensures.before j none (omega arith) (omega (arith, c.if-k-bests.true)) in omega arith))
