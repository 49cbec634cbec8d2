use Rattle.std.proofs.Common.{◌≡◌, ℕ, ◌+◌, ◌≤◌, ◌%◌, ◌++◌, [], ◌∷◌, List, ◌⊎◌, inl, inr, sym, ◌∙◌, ap, ap₂, subst, arith}
use Rattle.std.specs.List.{All}
use Rattle.xfs_geom.specs.Volumes.{volume_of}
use Rattle.xfs_geom.specs.declared.records.Run.{Run}
use Rattle.xfs_kinds.specs.OffsetWords.{offset_in_fork}
use Rattle.xfs_place.specs.declared.wanted.Object.{Object}
use Rattle.xfs_place.specs.Objects.{IsAsk}
use Rattle.xfs_place.specs.Wanted.{CanBeKept}
use Rattle.xfs_place.proofs.KeptRun.{kept_alone}
use Rattle.xfs_volume_tests.proofs.place.groups.place_sparing.Goals as goal

pub place-requires-clause-kept : goal.place-requires-clause-kept
place-requires-clause-kept c =
    let r = c.args.run in
    let g = c.shaped.result in
    let plain : offset_in_fork r.offset_word ≡ 0 = ap offset_in_fork c.requires.word in
    let rest : r.start % g.agblocks ≡ r.start % c.args.size.now.agblocks = ap (λ (w : ℕ). r.start % w) c.shaped.ensures.group in
    let whole : c.from_vec.result ++ c.from_vec-2.result ≡ r ∷ [] =
    ap₂ (λ (xs ys : List Run). xs ++ ys) (c.from_vec.ensures ∙ c.in_ok-vec.ensures.items) (c.from_vec-2.ensures ∙ c.new.ensures.items) in
    subst (CanBeKept (volume_of g)) (sym whole)
    (kept_alone (volume_of g) r
    (record {
      some = c.requires.some;
      inside = omega (arith, c.requires.inside, c.shaped.ensures.blocks);
      fits = λ word. omega (arith, plain, c.requires.length);
      plain = λ other. plain;
    })
    (omega (arith, rest, c.requires.behind)) (omega (arith, rest, c.requires.within, c.shaped.ensures.group)) (apart r.start r.count c.args.size.now.log g.log g.logblocks c.requires.log c.shaped.ensures.log c.shaped.ensures.logblocks))
  where
    apart : (start count log here blocks : ℕ) → (start + count ≤ log) ⊎ (log + 512 ≤ start) → here ≡ log → blocks ≡ 512 → (start + count ≤ here) ⊎ (here + blocks ≤ start)
    apart start count log here blocks (inl before) is many = inl (omega (arith, before, is))
    apart start count log here blocks (inr behind) is many = inr (omega (arith, behind, is, many))

pub place-requires-clause-asks : goal.place-requires-clause-asks
place-requires-clause-asks c = subst (All (λ (o : Object). All IsAsk o.runs)) (sym c.from_vec-4.ensures) c.requires.asks
