use Rattle.xfs_views.proofs.ProtectedStay.{protected_stay}
use Rattle.xfs_views.proofs.ViewsStay.{views_stay}
use Rattle.xfs_views.proofs.staying_views.views_stay.Goals as goal

pub returns-clause-view : goal.returns-clause-view
returns-clause-view c = views_stay

pub returns-clause-keeps : goal.returns-clause-keeps
returns-clause-keeps c = protected_stay
