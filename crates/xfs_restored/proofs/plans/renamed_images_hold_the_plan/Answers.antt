use Rattle.xfs_restored.proofs.HeldPlans.{others_stay, plan_inside, plan_once, renamed_holds}
use Rattle.xfs_restored.proofs.plans.renamed_images_hold_the_plan.Goals as goal

pub returns-clause-once : goal.returns-clause-once
returns-clause-once c = plan_once

pub returns-clause-inside : goal.returns-clause-inside
returns-clause-inside c = plan_inside

pub returns-clause-held : goal.returns-clause-held
returns-clause-held c = renamed_holds

pub returns-clause-others : goal.returns-clause-others
returns-clause-others c = others_stay
