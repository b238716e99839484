use Rattle.std.proofs.Common.{arith}
use Rattle.hs_wire.proofs.Finding.{found, given_again, nothing}
use Rattle.hs_wire.proofs.reading.read.Goals as goal

pub returns-clause-some : goal.returns-clause-some
returns-clause-some c = found c.args.bytes.now _ (λ i. omega (arith, c.type_inv.bytes i)) c.find_message.ensures

pub returns-clause-message : goal.returns-clause-message
returns-clause-message c = given_again c.args.bytes.now _ c.find_message.ensures

pub returns-clause-none : goal.returns-clause-none
returns-clause-none c = nothing c.args.bytes.now _ c.find_message.ensures
