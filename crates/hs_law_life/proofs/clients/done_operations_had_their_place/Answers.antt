use Rattle.hs_law_life.proofs.clients.done_operations_had_their_place.Goals as goal

pub returns-clause-begin : goal.returns-clause-begin
returns-clause-begin c = λ trace old by. by.0

pub returns-clause-point : goal.returns-clause-point
returns-clause-point c = λ moment payload old new by. by.0

pub returns-clause-crumb : goal.returns-clause-crumb
returns-clause-crumb c = λ node old new by. by.0

pub returns-clause-trigger : goal.returns-clause-trigger
returns-clause-trigger c = λ trigger old new by. tt

pub returns-clause-sample : goal.returns-clause-sample
returns-clause-sample c = λ moment auto value old new by. by.0

pub returns-clause-end : goal.returns-clause-end
returns-clause-end c = λ old new by. by
