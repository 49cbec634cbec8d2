use Rattle.std.proofs.Common.{◌≡◌, ℕ, ◌+◌, Bool, true, false, List, get_or, set, refl, ◌∙◌, ap, arith}
use Rattle.std.proofs.lemmas.List.{get_or_default}
use Rattle.xfs_place.proofs.RowRuns.{both_counts, both_takes, both_under}
use Rattle.xfs_place.proofs.open_blocks.OpenBlocks.take.Goals as goal

pub returns-clause-takes : goal.returns-clause-takes
returns-clause-takes c =
    let old = c.args.self.now in
    let starts = old.starts.items in
    let p = c.args.piece in
    let read : c.index.result.now ≡ get_or starts p.row 0 = c.index.ensures ∙ get_or_default starts p.row c.index.result.now 0 c.requires.inside in
    both_takes starts (set starts p.row c.start_behind.result) old.counts c.shorten.new.counts old.unspared c.shorten-2.new.counts p.row p.blocks (c.requires.rows.each true) (c.requires.rows.each false)
    c.requires.rows.under c.requires.inside c.requires.fits c.shorten.ensures c.shorten-2.ensures (ap (set starts p.row) (c.start_behind.ensures ∙ ap (λ (n : ℕ). n + p.blocks) read))

pub returns-clause-rows : goal.returns-clause-rows
returns-clause-rows c =
    let old = c.args.self.now in
    let starts = old.starts.items in
    let p = c.args.piece in
    let read : c.index.result.now ≡ get_or starts p.row 0 = c.index.ensures ∙ get_or_default starts p.row c.index.result.now 0 c.requires.inside in
    let put = ap (set starts p.row) (c.start_behind.ensures ∙ ap (λ (n : ℕ). n + p.blocks) read) in
    record {
      each = both_counts starts (set starts p.row c.start_behind.result) old.counts c.shorten.new.counts old.unspared c.shorten-2.new.counts p.row p.blocks (c.requires.rows.each true) (c.requires.rows.each false)
          c.requires.rows.under c.requires.inside c.requires.fits c.shorten.ensures c.shorten-2.ensures put;
      under = both_under starts (set starts p.row c.start_behind.result) old.counts c.shorten.new.counts old.unspared c.shorten-2.new.counts p.row p.blocks (c.requires.rows.each true) (c.requires.rows.each false)
          c.requires.rows.under c.requires.inside c.requires.fits c.shorten.ensures c.shorten-2.ensures put;
    }

pub start_behind-requires : goal.start_behind-requires
start_behind-requires c =
    let starts = c.args.self.now.starts.items in
    let p = c.args.piece in
    let read : c.index.result.now ≡ get_or starts p.row 0 = c.index.ensures ∙ get_or_default starts p.row c.index.result.now 0 c.requires.inside in
    omega (arith, read, c.requires.fits, (c.requires.rows.each true).small p.row c.requires.inside)

pub shorten-requires-clause-stands : goal.shorten-requires-clause-stands
shorten-requires-clause-stands c = (c.requires.rows.each true).greatest

pub shorten-requires-clause-inside : goal.shorten-requires-clause-inside
shorten-requires-clause-inside c = omega (arith, c.requires.inside, (c.requires.rows.each true).few)

pub shorten-requires-2-clause-stands : goal.shorten-requires-2-clause-stands
shorten-requires-2-clause-stands c = (c.requires.rows.each false).greatest

pub shorten-requires-2-clause-inside : goal.shorten-requires-2-clause-inside
shorten-requires-2-clause-inside c = omega (arith, c.requires.inside, (c.requires.rows.each false).few)
