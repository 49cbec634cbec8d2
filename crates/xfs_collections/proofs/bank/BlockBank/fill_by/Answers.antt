-- One more index is named, and in the end all are.
use Rattle.std.proofs.Common.{ℕ, List, nat_eq, arith, ap, refl, ◌∙◌}
use Rattle.std.specs.List.{list_any}
use Rattle.std.proofs.lemmas.List.{take_all}
use Rattle.xfs_disk.proofs.Reading.{reads_on}
use Rattle.xfs_collections.proofs.Scattered.{placed_more, placed_all}
use Rattle.xfs_collections.proofs.bank.BlockBank.fill_by.Goals as goal

pub loop-k-preserved : goal.loop-k-preserved
loop-k-preserved g c =
    let D = g.D.Disk in
    let before = c.loop-k.invariant in
    let read = c.in-Ok.ensures in
    record {
      placed = λ image told. placed_more image c.loop-k.self c.read_named.new.self c.args.places.now c.args.order.now c.loop-k.k _ (omega arith) (omega (arith, c.requires.room, before.len))
          refl (λ low. read.held low image (before.disk.same_contents ∙ told)) read.past (before.placed image told);
      rest = read.rest ∙ before.rest;
      len = read.len ∙ before.len;
      faults = let up = before.faults in let cause = read.cause in omega (arith, up, cause);
      disk = reads_on D.size D.holds D.write_faults D.writes D.tells_stops D.moment D.may_leave D.left_since c.args.disk.now c.loop-k.disk c.read_named.new.disk before.disk read.disk;
      reads = let up = before.reads in let more = read.reads in omega (arith, up, more);
    }

pub returns-clause-filled : goal.returns-clause-filled
returns-clause-filled g c = record {
  first = λ image told. placed_all image c.loop-k.self c.args.places.now (omega (arith, c.requires.room, c.loop-k.invariant.len))
      (λ i within. c.loop-k.invariant.placed image told i within
      (ap (λ (pairs : List (ℕ × ℕ)). list_any (λ (pair : ℕ × ℕ). nat_eq pair.1 i) pairs) (take_all c.loop-k.k c.args.order.now (omega arith)) ∙ c.requires.each i within));
  rest = c.loop-k.invariant.rest;
}
