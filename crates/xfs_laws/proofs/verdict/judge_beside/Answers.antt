use Rattle.xfs_laws.proofs.verdict.judge_beside.Goals as goal

pub judge_all-requires-clause-catalog : goal.judge_all-requires-clause-catalog
judge_all-requires-clause-catalog g c = c.requires

pub judge_all-requires-clause-numbers : goal.judge_all-requires-clause-numbers
judge_all-requires-clause-numbers g c = c.join-names.ensures.second.0

pub judge_all-requires-clause-space : goal.judge_all-requires-clause-space
judge_all-requires-clause-space g c = c.join-names.ensures.second.1

pub returns-clause-law : goal.returns-clause-law
returns-clause-law g c = c.judge_all.ensures.law

pub returns-clause-space : goal.returns-clause-space
returns-clause-space g c = c.judge_all.ensures.space

pub returns-clause-names : goal.returns-clause-names
returns-clause-names g c = c.judge_all.ensures.names

pub judge_all-requires-clause-law : goal.judge_all-requires-clause-law
judge_all-requires-clause-law g c = c.join-names.ensures.first.0

pub judge_all-requires-clause-names : goal.judge_all-requires-clause-names
judge_all-requires-clause-names g c = c.join-names.ensures.first.1
