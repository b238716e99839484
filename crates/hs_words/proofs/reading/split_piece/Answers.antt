use Rattle.std.proofs.Common.{◌≡◌, ◌++◌, List, ℕ, length, take, sym, ap, subst, ◌∙◌, arith}
use Rattle.std.specs.Int.{w16, w64, to_be_bytes}
use Rattle.std.proofs.lemmas.List.{take-append-drop}
use Rattle.hs_words.specs.Pages.{piece_bytes}
use Rattle.hs_words.proofs.Numbers.{IsBytes, IsBytes-all, IsBytes-take, IsBytes-behind}
use Rattle.hs_words.proofs.Readings.{too_short, cut_off, fields_are_piece}
use Rattle.hs_words.proofs.reading.split_piece.Goals as goal

pub returns-in_err-len-clause-none : goal.returns-in_err-len-clause-none
returns-in_err-len-clause-none c =
    rw c.from_residual.ensures (too_short c.args.bytes.now (omega (arith, c.in_err-len.ensures.none)))

pub returns-in_err-moment-clause-none : goal.returns-in_err-moment-clause-none
returns-in_err-moment-clause-none c =
    let len = to_be_bytes w16 c.in_ok-len.len in
    rw c.from_residual-in_err-moment.ensures (too_short c.args.bytes.now (omega (arith, c.in_err-moment.ensures.none, ap length c.in_ok-len.ensures.some.0)))

pub returns-in_err-payload-clause-none : goal.returns-in_err-payload-clause-none
returns-in_err-payload-clause-none c =
    rw c.from_residual-in_err-payload.ensures (
    cut_off c.args.bytes.now c.in_ok-len.rest.now c.in_ok-moment.rest.now c.in_ok-len.len c.in_ok-moment.moment c.in_ok-len.ensures.some.1 c.in_ok-len.ensures.some.0 c.in_ok-moment.ensures.some.0
    (omega (arith, c.in_err-payload.ensures.cases, c.from.ensures))
    )

-- the fields before a payload of that length
whole : (len moment : ℕ) (bytes rest behind payload after : List ℕ) → bytes ≡ to_be_bytes w16 len ++ rest → rest ≡ to_be_bytes w64 moment ++ behind → len ≡ length payload → behind ≡ payload ++ after
    → bytes ≡ piece_bytes (record { moment = moment; payload = payload }) ++ after
whole len moment bytes rest behind payload after bytes_are rest_is len_is behind_is =
    bytes_are ∙ ap (λ n. to_be_bytes w16 n ++ rest) len_is ∙ ap (λ xs. to_be_bytes w16 (length payload) ++ xs) (rest_is ∙ ap (λ xs. to_be_bytes w64 moment ++ xs) behind_is) ∙ fields_are_piece moment payload after

-- the payload's bytes are bytes, since all are
payload_fits : (len moment : ℕ) (bytes rest behind payload : List ℕ) → bytes ≡ to_be_bytes w16 len ++ rest → rest ≡ to_be_bytes w64 moment ++ behind → payload ≡ take len behind → IsBytes bytes → IsBytes payload
payload_fits len moment bytes rest behind payload bytes_are rest_is payload_is fits =
    let rest_fits : IsBytes rest = IsBytes-behind (to_be_bytes w16 len) rest (subst IsBytes bytes_are fits) in
    let behind_fits : IsBytes behind = IsBytes-behind (to_be_bytes w64 moment) behind (subst IsBytes rest_is rest_fits) in
    subst IsBytes (sym payload_is) (IsBytes-take len behind behind_fits)

pub returns-clause-some : goal.returns-clause-some
returns-clause-some c =
    let cut = c.in_ok-payload.ensures.cases in
    let behind = c.in_ok-moment.rest.now in
    let payload = c.in_ok-payload.payload.now in
    let after = c.in_ok-payload.rest.now in
    let parts : behind ≡ payload ++ after = sym (take-append-drop c.from.result behind) ∙ (λ i. sym cut.1 i ++ sym cut.2 i) in
    let len : c.in_ok-len.len ≡ length payload = sym c.from.ensures ∙ sym cut.3 in
    whole c.in_ok-len.len c.in_ok-moment.moment c.args.bytes.now c.in_ok-len.rest.now behind payload after c.in_ok-len.ensures.some.0 c.in_ok-moment.ensures.some.0 len parts

pub returns-clause-fits : goal.returns-clause-fits
returns-clause-fits c =
    let cut = c.in_ok-payload.ensures.cases in
    let payload = c.in_ok-payload.payload.now in
    let all : IsBytes payload =
    payload_fits c.in_ok-len.len c.in_ok-moment.moment c.args.bytes.now c.in_ok-len.rest.now c.in_ok-moment.rest.now payload c.in_ok-len.ensures.some.0 c.in_ok-moment.ensures.some.0
    (cut.1 ∙ ap (λ n. take n c.in_ok-moment.rest.now) c.from.ensures) (λ i. omega (arith, c.type_inv.bytes i)) in
    record {
      moment = c.in_ok-moment.ensures.some.1;
      len = omega (arith, cut.3, c.from.ensures, c.in_ok-len.ensures.some.1);
      payload = IsBytes-all payload all;
    }
