use Rattle.xfs_populated.proofs.FileBytes.{bytes_there}
use Rattle.xfs_populated.proofs.bytes.filled_files_have_their_bytes.Goals as goal

pub returns : goal.returns
returns c = λ g sector s ns contents plan blocks image crc is. record { each = bytes_there g sector s ns contents plan blocks image crc is }
