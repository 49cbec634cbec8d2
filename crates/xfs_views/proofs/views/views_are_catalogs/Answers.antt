use Rattle.xfs_views.proofs.Catalogs.{view_has, view_is}
use Rattle.xfs_views.proofs.views.views_are_catalogs.Goals as goal

pub returns-clause-geometry : goal.returns-clause-geometry
returns-clause-geometry c = view_has

pub returns-clause-catalog : goal.returns-clause-catalog
returns-clause-catalog c = view_is
