use Rattle.xfs_views.proofs.KeptInWords.{from_words, in_words}
use Rattle.xfs_views.proofs.keeping.kept_files_in_words.Goals as goal

pub returns-clause-words : goal.returns-clause-words
returns-clause-words c = in_words

pub returns-clause-kept : goal.returns-clause-kept
returns-clause-kept c = from_words

pub returns-clause-unread : goal.returns-clause-unread
returns-clause-unread c = λ v before after ino none is. none is.file is.reads

pub returns-clause-lost : goal.returns-clause-lost
returns-clause-lost c = λ v before after ino none is. none is.kept is.reads_still
