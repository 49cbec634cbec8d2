use Rattle.xfs_word.proofs.Stays.{sealed_by}
use Rattle.xfs_word.proofs.sealing.seal.Goals as goal

pub returns-clause-sealed : goal.returns-clause-sealed
returns-clause-sealed c =
    let put = c.put_checksum.ensures in
    let found = c.layout-layout.ensures in
    sealed_by c.args.seal.now c.args.bytes.now c.put_checksum.new.bytes c.layout-layout.result found.table found.apart
    put.keeps put.keeps_parts put.right
