use Rattle.std.proofs.Common.{◌≡◌, ◌+◌, ◌<◌, ℕ, length, get_or, subst, rules}
use Rattle.xfs_disk.proofs.Reading.{reads_none}
use Rattle.xfs_geom.specs.Volumes.{volume_of}
use Rattle.xfs_rounds.specs.Named.{AreFoundIn}
use Rattle.xfs_rounds.specs.Settled.{IsTold}
use Rattle.xfs_rounds.proofs.Causes.{itself}
use Rattle.xfs_rounds.proofs.Rounds.{all_decided, all_settled, in_place, settled_in}
use Rattle.xfs_rounds.proofs.reading.settle_round.Goals as goal

pub returns-then-is_empty-clause-settled : goal.returns-then-is_empty-clause-settled
returns-then-is_empty-clause-settled g c = λ round listed.
    let v = volume_of c.args.g.now in
    let told = IsTold (g.D.Disk.holds c.args.disk.now) in
    let bank = c.args.bank.now in
    let old = c.args.judged.now in
    let new = c.name_slots.new.judged in
    let long : length new ≡ length old = search rules in
    let none : length c.in-Ok.named.slots.items ≡ 0 = search rules in
    all_settled v told bank round old new long c.in-Ok.ensures.placed
    (λ i d inside. all_decided v told c.in-Ok.named none c.args.g.now.dblocks bank (get_or new i d) (c.in-Ok.ensures.numbered i d inside)) listed

pub settle_pieces-requires-clause-judged : goal.settle_pieces-requires-clause-judged
settle_pieces-requires-clause-judged g c = λ κs lives i d inside.
    let long : length c.name_slots.new.judged ≡ length c.args.judged.now = search rules in
    c.in-Ok.ensures.numbered i d (subst (λ (n : ℕ). i < n) long inside)

pub returns-in-Ok-read_named-clause-settled : goal.returns-in-Ok-read_named-clause-settled
returns-in-Ok-read_named-clause-settled g c = λ round listed.
    let v = volume_of c.args.g.now in
    let told = IsTold (g.D.Disk.holds c.args.disk.now) in
    let bank = c.args.bank.now in
    let old = c.args.judged.now in
    let mid = c.name_slots.new.judged in
    let new = c.settle_pieces.new.judged in
    let first : length old ≡ length mid = search rules in
    let last : length new ≡ length old = search rules in
    let inside_mid : (i : ℕ) → i < length old → i < length mid = λ i inside. subst (λ (n : ℕ). i < n) first inside in
    all_settled v told bank round old new last
    (λ i d inside. in_place (get_or old i d) (get_or mid i d) (get_or new i d) (c.in-Ok.ensures.placed i d inside) (c.settle_pieces.ensures.placed i d (inside_mid i inside)))
    (λ i d inside. settled_in v (AreFoundIn v c.in-Ok.named c.in-Ok-read_named.found) told c.in-Ok-read_named.ensures.read bank (get_or new i d)
    (c.settle_pieces.ensures.settled i d (inside_mid i inside)))
    listed

pub returns-in-Err : goal.returns-in-Err
returns-in-Err g c =
    let D = g.D.Disk in
    record {
      settled = tt;
      cause = itself (D.faults c.args.disk.now);
      disk = reads_none D.size D.holds D.write_faults D.writes D.tells_stops D.moment D.may_leave D.left_since c.args.disk.now;
      reads = itself (D.reads c.args.disk.now + c.args.steps.now);
    }

pub returns-then-is_empty-clause-cause : goal.returns-then-is_empty-clause-cause
returns-then-is_empty-clause-cause g c = itself (g.D.Disk.faults c.args.disk.now)

pub returns-then-is_empty-clause-disk : goal.returns-then-is_empty-clause-disk
returns-then-is_empty-clause-disk g c =
    let D = g.D.Disk in
    reads_none D.size D.holds D.write_faults D.writes D.tells_stops D.moment D.may_leave D.left_since c.args.disk.now

pub returns-then-is_empty-clause-reads : goal.returns-then-is_empty-clause-reads
returns-then-is_empty-clause-reads g c = itself (g.D.Disk.reads c.args.disk.now + c.args.steps.now)

pub read_named-requires-clause-inside : goal.read_named-requires-clause-inside
read_named-requires-clause-inside g c = λ κs lives. c.requires.inside

pub read_named-requires-clause-within : goal.read_named-requires-clause-within
read_named-requires-clause-within g c = λ κs lives. c.in-Ok.ensures.within

pub settle_pieces-requires-clause-found : goal.settle_pieces-requires-clause-found
settle_pieces-requires-clause-found g c = λ κs lives. c.in-Ok-read_named.ensures.found

pub returns-in-Ok-read_named-clause-cause : goal.returns-in-Ok-read_named-clause-cause
returns-in-Ok-read_named-clause-cause g c = c.in-Ok-read_named.ensures.cause

pub returns-in-Ok-read_named-clause-disk : goal.returns-in-Ok-read_named-clause-disk
returns-in-Ok-read_named-clause-disk g c = c.in-Ok-read_named.ensures.disk

pub returns-in-Ok-read_named-clause-reads : goal.returns-in-Ok-read_named-clause-reads
returns-in-Ok-read_named-clause-reads g c = c.in-Ok-read_named.ensures.reads
