-- A volume that is not looked at, and one that is only checked.
use Rattle.std.proofs.Common.{refl, sym, ◌∙◌, true≢false, arith}
use Rattle.xfs_disk.proofs.Reading.{reads_none}
use Rattle.xfs_tools.proofs.explaining.look_before.Goals as goal

pub returns-then-not-words : goal.returns-then-not-words
returns-then-not-words g c =
    let D = g.D.Disk in
    record {
      reads = reads_none D.size D.holds D.write_faults D.writes D.tells_stops D.moment D.may_leave D.left_since c.args.disk.now;
      counted = omega arith;
      untouched = λ quiet. (refl, refl);
      groups = λ verbose. absurd (true≢false (sym verbose ∙ c.if-not-words.true));
      found = λ verbose check. absurd (true≢false (sym verbose ∙ c.if-not-words.true));
    }

pub returns-then-words : goal.returns-then-words
returns-then-words g c =
    let stated = c.stated_groups-groups.ensures in
    record {
      reads = stated.disk;
      counted = stated.faults;
      untouched = λ quiet. absurd (true≢false (sym c.if-not-words.false ∙ quiet));
      groups = λ verbose. stated.groups;
      found = λ verbose check. absurd (true≢false (sym c.if-words.true ∙ check));
    }
