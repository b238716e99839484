use Rattle.std.proofs.Common.{sym, ◌∙◌, arith}
use Rattle.hs_wire.specs.Messages.{plain_hello, plain_reported}
use Rattle.hs_wire.proofs.Putting.{length-hello, length-told, length-ask, length-reported, length-standing}
use Rattle.hs_wire.proofs.writing.len_of.Goals as goal

pub returns-in-Hello-clause-bytes : goal.returns-in-Hello-clause-bytes
returns-in-Hello-clause-bytes c =
    let h = plain_hello c.in-Hello.hello in
    let len = length-hello h (sym c.digest_len.ensures.len ∙ c.digest_len.ensures.value) in
    rw c.in-Hello.is (omega (arith, len, c.digest_len.ensures.value))

pub returns-in-Told-clause-bytes : goal.returns-in-Told-clause-bytes
returns-in-Told-clause-bytes c = let len = length-told c.in-Told.told in rw c.in-Told.is (omega (arith, len, c.len.ensures.value))

pub returns-in-Ask-clause-bytes : goal.returns-in-Ask-clause-bytes
returns-in-Ask-clause-bytes c = let len = length-ask c.in-Ask.ask in rw c.in-Ask.is (omega (arith, len, c.len-in-Ask.ensures.value))

pub returns-in-Reported-clause-bytes : goal.returns-in-Reported-clause-bytes
returns-in-Reported-clause-bytes c = let len = length-reported (plain_reported c.in-Reported.reported) in rw c.in-Reported.is (omega (arith, len))

pub returns-in-Standing-clause-bytes : goal.returns-in-Standing-clause-bytes
returns-in-Standing-clause-bytes c = let len = length-standing c.in-Standing.field-0 in rw c.in-Standing.is (sym len)
