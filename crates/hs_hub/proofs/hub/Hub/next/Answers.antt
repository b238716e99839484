use Rattle.std.proofs.Common.{rules, ◌≡◌, ◌++◌, length, drop, Err, Some, ap, ◌∙◌}
use Rattle.hs_wire.specs.declared.message.WriteFault.TheVariants.{Short}
use Rattle.hs_wire.specs.Messages.{message_bytes}
use Rattle.hs_groups.specs.Groups.{next_ask}
use Rattle.hs_hub.specs.Hub.{PlainHub, ask_message}
use Rattle.hs_hub.proofs.hub.Hub.next.Goals as goal

pub returns-in_err-len-clause-short : goal.returns-in_err-len-clause-short
returns-in_err-len-clause-short c wanted e =
    let there : next_ask c.args.self.now.groups ≡ Some (c.in-Some.node, c.in-Some.ask) = search rules in
    let came : c.write_ask.result ≡ Err (Short wanted) = search rules in
    let short = c.write_ask.ensures.short wanted came in
    ((c.in-Some.node, c.in-Some.ask), there, short.0 ∙ ap (λ (h : PlainHub). length (message_bytes (ask_message h (c.in-Some.node, c.in-Some.ask)))) c.self.view_is, short.1)

pub returns-clause-written : goal.returns-clause-written
returns-clause-written c =
    let there : next_ask c.args.self.now.groups ≡ Some (c.in-Some.node, c.in-Some.ask) = search rules in (
      (c.in-Some.node, c.in-Some.ask),
      there,
      c.in_ok-len.ensures.len ∙ ap (λ (h : PlainHub). length (message_bytes (ask_message h (c.in-Some.node, c.in-Some.ask)))) c.self.view_is,
      c.in_ok-len.ensures.bytes ∙ ap (λ (h : PlainHub). message_bytes (ask_message h (c.in-Some.node, c.in-Some.ask)) ++ drop c.in_ok-len.len c.args.out.now) c.self.view_is,
    )
