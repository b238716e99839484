use Rattle.std.proofs.Common.{◌≡◌, ◌==◌, true, Some, ap, ◌∙◌, arith}
use Rattle.hs_outcome.proofs.Prelude.{nat_tests, TraceId, Sheet, with_trace}
use Rattle.hs_words.specs.declared.page.Header.{Header}
use Rattle.hs_outcome.proofs.pages.read_reported.Goals as goal

same_trace : (a b : TraceId) → (a.0 == b.0) ≡ true → b ≡ a
same_trace a b same =
    let number : b.0 ≡ a.0 = grind (arith, nat_tests) in
    ap (λ n. record { 0 = n }) number

pub returns : goal.returns
returns c = λ sheet spelled.
    let header = ap (λ (s : Sheet). s.header) (c.in-Ok.ensures.page sheet spelled) in
    let trace = ap (λ (h : Header). h.trace) header in
    let stored = c.in_ok-seen.ensures.stored in
    let bytes = c.args.bytes.now in
    let found = stored.1 ∙ ap (λ (t : TraceId). Some t) (same_trace c.in-Ok.page.header.trace stored.0 stored.2 ∙ trace) in
    record {
      traces = c.in_ok-seen.ensures.keys ∙ ap (with_trace c.args.traces.now.keys) trace;
      note =
          ap (λ t. record { trace = t; client = c.in-Ok.page.header.client; bytes = bytes }) found
          ∙ ap (λ (h : Header). record { trace = Some sheet.header.trace; client = h.client; bytes = bytes }) header
          ∙ ap (λ b. record { trace = Some sheet.header.trace; client = sheet.header.client; bytes = b }) spelled.bytes_are;
    }
