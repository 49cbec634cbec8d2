-- The blocks of a run are the disk's, and the others are as they were.
use Rattle.std.proofs.Common.{◌≡◌, ◌+◌, ◌*◌, ◌/◌, ℕ, [], length, take, drop, get_or, ap, subst, ◌∙◌, arith}
use Rattle.xfs_disk.specs.Blocks.{AreBlocksFrom, Image}
use Rattle.xfs_collections.specs.Bank.{overwritten, with_run}
use Rattle.xfs_collections.proofs.Runs.{blocks_in, run_front, run_held, run_len, run_rest}
use Rattle.xfs_collections.proofs.bank.BlockBank.read_blocks.Goals as goal

pub returns-in-Ok : goal.returns-in-Ok
returns-in-Ok g c =
    let old = c.args.self.now in
    let i = c.args.i in
    let count = c.args.count in
    let bytes = c.read_run.new.into in
    let read = c.in-Ok.ensures in
    let long : length c.read_run.new.into ≡ c.args.count * 4096 = c.read_run.auto.into ∙ c.view_run_mut.ensures.size in
    let blocks : length c.view_run_mut.result.now / 4096 ≡ c.args.count = blocks_in count (length c.view_run_mut.result.now) c.view_run_mut.ensures.size in
    let over : overwritten c.args.self.now c.args.i c.read_run.new.into ≡ with_run c.args.self.now c.args.i c.args.count c.read_run.new.into = c.view_run_mut.ensures.set bytes long in
    record {
      held = λ image told k low.
          ap (λ (bank : Image). get_or bank (c.args.i + k) []) over
          ∙ run_held old i count bytes c.requires.room image c.args.place (subst (λ (n : ℕ). AreBlocksFrom image c.args.place n c.read_run.new.into) blocks (read.bytes image told)) k low;
      first = ap (λ (bank : Image). take c.args.i bank) over ∙ run_front old i count bytes c.requires.room;
      rest = ap (λ (bank : Image). drop (c.args.i + c.args.count) bank) over ∙ run_rest old i count bytes c.requires.room;
      len = ap (λ (bank : Image). length bank) over ∙ run_len old i count bytes c.requires.room;
      cause = read.cause;
      disk = record { same_size = read.size; same_contents = read.holds; same_write_faults = read.write_faults; same_writes = read.writes; tells = read.tells; leaves = read.stops; past = read.past };
      reads = let few = read.reads in omega (arith, few, blocks);
    }

pub returns-in-Err : goal.returns-in-Err
returns-in-Err g c =
    let old = c.args.self.now in
    let i = c.args.i in
    let count = c.args.count in
    let bytes = c.read_run.new.into in
    let read = c.in-Err.ensures in
    let long : length c.read_run.new.into ≡ c.args.count * 4096 = c.read_run.auto.into ∙ c.view_run_mut.ensures.size in
    let blocks : length c.view_run_mut.result.now / 4096 ≡ c.args.count = blocks_in count (length c.view_run_mut.result.now) c.view_run_mut.ensures.size in
    let over : overwritten c.args.self.now c.args.i c.read_run.new.into ≡ with_run c.args.self.now c.args.i c.args.count c.read_run.new.into = c.view_run_mut.ensures.set bytes long in
    record {
      held = tt;
      first = ap (λ (bank : Image). take c.args.i bank) over ∙ run_front old i count bytes c.requires.room;
      rest = ap (λ (bank : Image). drop (c.args.i + c.args.count) bank) over ∙ run_rest old i count bytes c.requires.room;
      len = ap (λ (bank : Image). length bank) over ∙ run_len old i count bytes c.requires.room;
      cause = read.cause;
      disk = record { same_size = read.size; same_contents = read.holds; same_write_faults = read.write_faults; same_writes = read.writes; tells = read.tells; leaves = read.stops; past = read.past };
      reads = let few = read.reads in omega (arith, few, blocks);
    }
