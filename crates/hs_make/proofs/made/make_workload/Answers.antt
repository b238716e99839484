use Rattle.std.proofs.Common.{◌≡◌, ap, ◌∙◌, sym, arith, map, subst}
use Rattle.hs_records.specs.Plain.{settings_of}
use Rattle.hs_records.specs.Views.{operations_of}
use Rattle.hs_records.specs.Validity.{IsValid}
use Rattle.hs_make.specs.Words.{Words, words_from, seeded_words, behind_parts}
use Rattle.hs_make.specs.Made.{clients_at}
use Rattle.hs_make.proofs.Clients.{clients_at-none, request_more, request_drawn}
use Rattle.hs_make.proofs.Valid.{is_made, is_valid}
use Rattle.hs_make.proofs.made.make_workload.Goals as goal

pub loop-request-init : goal.loop-request-init
unfolding behind_parts seeded_words
loop-request-init c =
    record {
      len = c.in_ok-clients.ensures.len;
      clients = c.in_ok-clients.ensures.idle ∙ sym (clients_at-none (seeded_words c.args.seed));
      words = ap words_from c.seed_from_u64-generator.ensures;
    }

pub loop-request-preserved : goal.loop-request-preserved
loop-request-preserved c =
    let words : Words = seeded_words c.args.seed in
    let now = c.loop-request.invariant in
    let drawn = c.in_ok-draw_request.ensures in
    record {
      len = drawn.len;
      clients =
          request_more c.loop-request.request words (words_from c.loop-request.generator) (map operations_of c.loop-request.clients.items) (map operations_of c.draw_request.new.clients.items) now.words
          now.clients drawn.added;
      words = request_drawn c.loop-request.request words (words_from c.loop-request.generator) (words_from c.draw_request.new.generator) now.words drawn.rest;
    }

pub returns-clause-made : goal.returns-clause-made
returns-clause-made c =
    let all : c.loop-request.request ≡ c.args.size = omega arith in
    let clients : map operations_of c.from_vec.result.items ≡ clients_at c.args.size (seeded_words c.args.seed) =
    ap (map operations_of) c.from_vec.ensures.items ∙ (c.loop-request.invariant.clients ∙ ap (λ n. clients_at n (seeded_words c.args.seed)) all) in
    is_made c.args.seed c.args.size (settings_of c.in_ok-settings.field-0) (map operations_of c.from_vec.result.items) c.in_ok-settings.ensures clients

pub returns-clause-valid : goal.returns-clause-valid
returns-clause-valid c = subst IsValid (sym (returns-clause-made c)) (is_valid c.args.seed c.args.size c.requires.most)
