use Rattle.xfs_restored.proofs.Staying.{bytes_stay, claims_stay, protected_claims}
use Rattle.xfs_restored.proofs.rewritten_images.kept_files_stay.Goals as goal

pub returns-clause-claims : goal.returns-clause-claims
returns-clause-claims c = claims_stay

pub returns-clause-bytes : goal.returns-clause-bytes
returns-clause-bytes c = bytes_stay

pub returns-clause-protected : goal.returns-clause-protected
returns-clause-protected c = protected_claims
