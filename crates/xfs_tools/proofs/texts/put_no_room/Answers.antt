use Rattle.std.proofs.Common.{ap}
use Rattle.xfs_tools.specs.Texts.{no_room_text}
use Rattle.xfs_texts.proofs.Telling.{puts_as}
use Rattle.xfs_tools.proofs.texts.put_no_room.Goals as goal

pub returns-in-Group : goal.returns-in-Group
returns-in-Group g c = puts_as _ _ _ _ _ _ _ (ap no_room_text c.in-Group.is) c.put_one.ensures

pub returns-in-Directory : goal.returns-in-Directory
returns-in-Directory g c = puts_as _ _ _ _ _ _ _ (ap no_room_text c.in-Directory.is) c.put_one-in-Directory.ensures

pub returns-in-File : goal.returns-in-File
returns-in-File g c = puts_as _ _ _ _ _ _ _ (ap no_room_text c.in-File.is) c.put_one-in-File.ensures

pub returns-in-Chunk : goal.returns-in-Chunk
returns-in-Chunk g c = puts_as _ _ _ _ _ _ _ (ap no_room_text c.in-Chunk.is) c.put_plain.ensures

pub returns-in-LostFound : goal.returns-in-LostFound
returns-in-LostFound g c = puts_as _ _ _ _ _ _ _ (ap no_room_text c.in-LostFound.is) c.put_plain-in-LostFound.ensures
