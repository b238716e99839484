use Rattle.std.proofs.Common.{◌≡◌, ℕ, ◌+◌, Bool, List, ◌∷◌, length, drop, sym, ap, ◌∙◌, arith}
use Rattle.hs_check.proofs.Prelude.{zip, ◌&&◌, list_all, range_with_len, drop_all, Step, client_in_pace, passes_of, PlainSettings, ClientSends, IsFoundClient, found_at, found_as_many}
use Rattle.hs_check.proofs.items.items_in_pace.Goals as goal

abbrev from : PlainSettings → List Step → ℕ → List ClientSends → Bool
from settings log number sends = list_all (λ (c : ℕ × ClientSends). client_in_pace settings (passes_of log) c.0 c.1) (zip (range_with_len number (length sends)) sends)

next : (settings : PlainSettings) (log : List Step) (number : ℕ) (sends : List ClientSends) (of : ClientSends) → drop number sends ≡ of ∷ drop (number + 1) sends
    → from settings log number (drop number sends) ≡ (client_in_pace settings (passes_of log) number of && from settings log (number + 1) (drop (number + 1) sends))
next settings log number sends of here = ap (from settings log number) here

pub loop-number-preserved : goal.loop-number-preserved
loop-number-preserved c = λ settings sends same all.
    let log = c.args.log.now in
    let i = c.loop-number.number in
    let h = found_at IsFoundClient sends c.args.clients.now i c.index-clients-number.result all c.loop-number-test.true c.index-clients-number.is in
    let keeps = sym (c.in_ok-client_in_pace.ensures settings h.of same h.is) ∙ c.if-not-branch.false in
    sym (ap (λ b. b && from settings log (i + 1) (drop (i + 1) sends)) keeps) ∙ sym (next settings log i sends h.of h.here) ∙ c.loop-number.invariant settings sends same all

pub returns-then-not-branch : goal.returns-then-not-branch
returns-then-not-branch c = λ settings sends same all.
    let log = c.args.log.now in
    let i = c.loop-number.number in
    let h = found_at IsFoundClient sends c.args.clients.now i c.index-clients-number.result all c.loop-number-test.true c.index-clients-number.is in
    let keeps = sym (c.in_ok-client_in_pace.ensures settings h.of same h.is) ∙ c.if-not-branch.true in
    sym (ap (λ b. b && from settings log (i + 1) (drop (i + 1) sends)) keeps) ∙ sym (next settings log i sends h.of h.here) ∙ c.loop-number.invariant settings sends same all

pub returns : goal.returns
returns c = λ settings sends same all.
    let many = found_as_many IsFoundClient sends c.args.clients.now all in
    sym (ap (from settings c.args.log.now c.loop-number.number) (drop_all c.loop-number.number sends (omega (arith, many)))) ∙ c.loop-number.invariant settings sends same all
