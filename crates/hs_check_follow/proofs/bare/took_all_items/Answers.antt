use Rattle.std.proofs.Common.{◌≡◌, ℕ, zero, suc, ◌+◌, ◌<◌, ◌≤◌, Bool, true, false, List, [], ◌∷◌, length, drop, refl, sym, ap, ◌∙◌, arith}
use Rattle.hs_check_follow.proofs.Prelude.{zip, ◌&&◌, list_all, range_with_len, drop_all, Step, took_all, ClientSends, AreFound, IsFoundClient}
use Rattle.hs_check_follow.proofs.Knowing.{FoundAt, found_at, found_as_many}
use Rattle.hs_check_follow.proofs.bare.took_all_items.Goals as goal

abbrev took_from : List Step → ℕ → List ClientSends → Bool
took_from log number sends = list_all (λ (c : ℕ × ClientSends). took_all log c.0 c.1) (zip (range_with_len number (length sends)) sends)

next : (log : List Step) (number : ℕ) (sends : List ClientSends) (of : ClientSends) → drop number sends ≡ of ∷ drop (number + 1) sends
    → took_from log number (drop number sends) ≡ (took_all log number of && took_from log (number + 1) (drop (number + 1) sends))
next log number sends of here = ap (took_from log number) here

pub loop-number-preserved : goal.loop-number-preserved
loop-number-preserved c = λ sends all.
    let h = found_at IsFoundClient sends c.args.clients.now c.loop-number.number c.index-clients-number.result all c.loop-number-test.true c.index-clients-number.is in
    let took = sym (c.took_all.ensures h.of h.is) ∙ c.if-not-took_all.false in
    sym (ap (λ b. b && took_from c.args.log.now (c.loop-number.number + 1) (drop (c.loop-number.number + 1) sends)) took)
    ∙ sym (next c.args.log.now c.loop-number.number sends h.of h.here) ∙ c.loop-number.invariant sends all

pub returns-then-not-took_all : goal.returns-then-not-took_all
returns-then-not-took_all c = λ sends all.
    let h = found_at IsFoundClient sends c.args.clients.now c.loop-number.number c.index-clients-number.result all c.loop-number-test.true c.index-clients-number.is in
    let took = sym (c.took_all.ensures h.of h.is) ∙ c.if-not-took_all.true in
    sym (ap (λ b. b && took_from c.args.log.now (c.loop-number.number + 1) (drop (c.loop-number.number + 1) sends)) took)
    ∙ sym (next c.args.log.now c.loop-number.number sends h.of h.here) ∙ c.loop-number.invariant sends all

pub returns : goal.returns
returns c = λ sends all.
    let many = found_as_many IsFoundClient sends c.args.clients.now all in
    sym (ap (took_from c.args.log.now c.loop-number.number) (drop_all c.loop-number.number sends (omega (arith, many)))) ∙ c.loop-number.invariant sends all
