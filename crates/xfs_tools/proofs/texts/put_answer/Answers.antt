use Rattle.std.proofs.Common.{ap}
use Rattle.xfs_tools.specs.Texts.{text_of}
use Rattle.xfs_texts.proofs.Telling.{puts_as}
use Rattle.xfs_tools.proofs.texts.put_answer.Goals as goal

pub returns-in-Usage : goal.returns-in-Usage
returns-in-Usage g c = puts_as _ _ _ _ _ _ _ (ap text_of c.in-Usage.is) c.put_one.ensures

pub returns-in-NoGeometry : goal.returns-in-NoGeometry
returns-in-NoGeometry g c = puts_as _ _ _ _ _ _ _ (ap text_of c.in-NoGeometry.is) c.put_plain.ensures

pub returns-in-ReadFault : goal.returns-in-ReadFault
returns-in-ReadFault g c = puts_as _ _ _ _ _ _ _ (ap text_of c.in-ReadFault.is) c.put_one-in-ReadFault.ensures

pub returns-in-WriteFault : goal.returns-in-WriteFault
returns-in-WriteFault g c = puts_as _ _ _ _ _ _ _ (ap text_of c.in-WriteFault.is) c.put_write_fault.ensures

pub returns-in-NoMemory : goal.returns-in-NoMemory
returns-in-NoMemory g c = puts_as _ _ _ _ _ _ _ (ap text_of c.in-NoMemory.is) c.put_plain-in-NoMemory.ensures

pub returns-in-Unsupported : goal.returns-in-Unsupported
returns-in-Unsupported g c = puts_as _ _ _ _ _ _ _ (ap text_of c.in-Unsupported.is) c.put_unsupported.ensures

pub returns-in-TooLarge : goal.returns-in-TooLarge
returns-in-TooLarge g c = puts_as _ _ _ _ _ _ _ (ap text_of c.in-TooLarge.is) c.put_too_large.ensures

pub returns-in-UnsupportedFile : goal.returns-in-UnsupportedFile
returns-in-UnsupportedFile g c = puts_as _ _ _ _ _ _ _ (ap text_of c.in-UnsupportedFile.is) c.put_unsupported_file.ensures

pub returns-in-DirtyLog : goal.returns-in-DirtyLog
returns-in-DirtyLog g c = puts_as _ _ _ _ _ _ _ (ap text_of c.in-DirtyLog.is) c.put_plain-in-DirtyLog.ensures

pub returns-in-Damaged : goal.returns-in-Damaged
returns-in-Damaged g c = puts_as _ _ _ _ _ _ _ (ap text_of c.in-Damaged.is) c.put_finding.ensures

pub returns-in-InputFault : goal.returns-in-InputFault
returns-in-InputFault g c = puts_as _ _ _ _ _ _ _ (ap text_of c.in-InputFault.is) c.put_plain-in-InputFault.ensures

pub returns-in-InputLong : goal.returns-in-InputLong
returns-in-InputLong g c = puts_as _ _ _ _ _ _ _ (ap text_of c.in-InputLong.is) c.put_plain-in-InputLong.ensures

pub returns-in-BadOption : goal.returns-in-BadOption
returns-in-BadOption g c = puts_as _ _ _ _ _ _ _ (ap text_of c.in-BadOption.is) c.put_bad_option.ensures

pub returns-in-TooSmall : goal.returns-in-TooSmall
returns-in-TooSmall g c = puts_as _ _ _ _ _ _ _ (ap text_of c.in-TooSmall.is) c.put_one-in-TooSmall.ensures

pub returns-in-HasVolume : goal.returns-in-HasVolume
returns-in-HasVolume g c = puts_as _ _ _ _ _ _ _ (ap text_of c.in-HasVolume.is) c.put_plain-in-HasVolume.ensures

pub returns-in-BadProto : goal.returns-in-BadProto
returns-in-BadProto g c = puts_as _ _ _ _ _ _ _ (ap text_of c.in-BadProto.is) c.put_bad_proto.ensures

pub returns-in-NoFile : goal.returns-in-NoFile
returns-in-NoFile g c = puts_as _ _ _ _ _ _ _ (ap text_of c.in-NoFile.is) c.put_one-in-NoFile.ensures

pub returns-in-LibraryFault : goal.returns-in-LibraryFault
returns-in-LibraryFault g c = puts_as _ _ _ _ _ _ _ (ap text_of c.in-LibraryFault.is) c.put_plain-in-LibraryFault.ensures

pub returns-in-NoRoom : goal.returns-in-NoRoom
returns-in-NoRoom g c = puts_as _ _ _ _ _ _ _ (ap text_of c.in-NoRoom.is) c.put_no_room.ensures

pub returns-in-Made : goal.returns-in-Made
returns-in-Made g c = puts_as _ _ _ _ _ _ _ (ap text_of c.in-Made.is) c.put_made.ensures

pub returns-in-Clean : goal.returns-in-Clean
returns-in-Clean g c = puts_as _ _ _ _ _ _ _ (ap text_of c.in-Clean.is) c.put_plain-in-Clean.ensures

pub returns-in-Repaired : goal.returns-in-Repaired
returns-in-Repaired g c = puts_as _ _ _ _ _ _ _ (ap text_of c.in-Repaired.is) c.put_summary.ensures

pub returns-in-Help : goal.returns-in-Help
returns-in-Help g c = puts_as _ _ _ _ _ _ _ (ap text_of c.in-Help.is) c.put_help.ensures.text

pub returns-in-Version : goal.returns-in-Version
returns-in-Version g c = puts_as _ _ _ _ _ _ _ (ap text_of c.in-Version.is) c.put_version.ensures
