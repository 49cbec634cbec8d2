use Rattle.xfs_proto.proofs.reading.Reader.take_name.Goals as goal

-- behind the root's end nothing is read
pub returns-in_default-clause-held : goal.returns-in_default-clause-held
returns-in_default-clause-held c = tt

pub returns-in_default-clause-steady : goal.returns-in_default-clause-steady
returns-in_default-clause-steady c = tt

pub returns-then-not-can_have-clause-held : goal.returns-then-not-can_have-clause-held
returns-then-not-can_have-clause-held c = tt

pub returns-then-not-can_have-clause-steady : goal.returns-then-not-can_have-clause-steady
returns-then-not-can_have-clause-steady c = tt

pub close-requires : goal.close-requires
close-requires c = record { steady = c.requires.steady }

pub can_have-requires : goal.can_have-requires
can_have-requires c = record { steady = c.requires.steady }

pub returns-then-eq-clause-steady : goal.returns-then-eq-clause-steady
returns-then-eq-clause-steady c = c.close.ensures.steady

pub returns-then-eq-clause-refusal : goal.returns-then-eq-clause-refusal
returns-then-eq-clause-refusal c = tt

pub returns-clause-steady : goal.returns-clause-steady
returns-clause-steady c = record { names = c.requires.steady.names }

pub returns-clause-refusal : goal.returns-clause-refusal
returns-clause-refusal c = tt
