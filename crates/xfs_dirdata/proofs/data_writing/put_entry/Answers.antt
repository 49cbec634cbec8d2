use Rattle.std.proofs.Common.{rules, ◌≡◌, arith}
use Rattle.xfs_word.specs.Field.{field_of}
use Rattle.xfs_dirdata.proofs.Marks.{unmarked}
use Rattle.xfs_dirdata.proofs.data_writing.put_entry.Goals as goal

pub returns-clause-stands : goal.returns-clause-stands
returns-clause-stands c =
    let number : field_of c.put16.new.bytes c.args.at 8 ≡ c.args.ino = search rules in
    record {
      entry = unmarked c.put16.new.bytes c.args.at (omega (arith, number, c.requires.ino));
      ino = number;
      name_length = search rules;
      name = search rules;
      ftype = search rules;
      padding = search rules;
      tag = search rules;
    }
