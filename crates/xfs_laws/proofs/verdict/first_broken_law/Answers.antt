use Rattle.xfs_laws.proofs.verdict.first_broken_law.Goals as goal

pub returns-then-as_slice-lt-FILES_OF_A_THREAD-clause-law : goal.returns-then-as_slice-lt-FILES_OF_A_THREAD-clause-law
returns-then-as_slice-lt-FILES_OF_A_THREAD-clause-law g c = c.judge_in_turn.ensures.law

pub returns-then-as_slice-lt-FILES_OF_A_THREAD-clause-space : goal.returns-then-as_slice-lt-FILES_OF_A_THREAD-clause-space
returns-then-as_slice-lt-FILES_OF_A_THREAD-clause-space g c = c.judge_in_turn.ensures.space

pub returns-then-as_slice-lt-FILES_OF_A_THREAD-clause-names : goal.returns-then-as_slice-lt-FILES_OF_A_THREAD-clause-names
returns-then-as_slice-lt-FILES_OF_A_THREAD-clause-names g c = c.judge_in_turn.ensures.names

pub returns-else-as_slice-lt-FILES_OF_A_THREAD-clause-law : goal.returns-else-as_slice-lt-FILES_OF_A_THREAD-clause-law
returns-else-as_slice-lt-FILES_OF_A_THREAD-clause-law g c = c.judge_beside.ensures.law

pub returns-else-as_slice-lt-FILES_OF_A_THREAD-clause-space : goal.returns-else-as_slice-lt-FILES_OF_A_THREAD-clause-space
returns-else-as_slice-lt-FILES_OF_A_THREAD-clause-space g c = c.judge_beside.ensures.space

pub returns-else-as_slice-lt-FILES_OF_A_THREAD-clause-names : goal.returns-else-as_slice-lt-FILES_OF_A_THREAD-clause-names
returns-else-as_slice-lt-FILES_OF_A_THREAD-clause-names g c = c.judge_beside.ensures.names
