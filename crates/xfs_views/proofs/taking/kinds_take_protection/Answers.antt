use Rattle.std.proofs.Common.{refl}
use Rattle.std.proofs.lemmas.Bool.{both_ways}
use Rattle.xfs_image.specs.Claims.{is_candidate_inode}
use Rattle.xfs_views.proofs.Taken.{directory}
use Rattle.xfs_views.proofs.taking.kinds_take_protection.Goals as goal

pub returns-clause-elsewhere : goal.returns-clause-elsewhere
returns-clause-elsewhere c = λ v image ino none is. both_ways (is_candidate_inode v image ino) none is.candidate

pub returns-clause-unread : goal.returns-clause-unread
returns-clause-unread c = λ v image ino none is. none is.file is.reads

pub returns-clause-directory : goal.returns-clause-directory
returns-clause-directory c = directory

pub returns-clause-root : goal.returns-clause-root
returns-clause-root c = λ v image is. is.no_root refl

pub returns-clause-bitmap : goal.returns-clause-bitmap
returns-clause-bitmap c = λ v image is. is.no_bitmap refl

pub returns-clause-summary : goal.returns-clause-summary
returns-clause-summary c = λ v image is. is.no_summary refl
