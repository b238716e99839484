-- A client goes through its operations.
use Rattle.std.proofs.Common.{◌≡◌, ℕ, ◌+◌, ◌<◌, ◌≤◌, true, false, List, [], ◌∷◌, ◌++◌, length, map, Option, Some, None, IsSome, inl, inr, refl, sym, ap, ◌∙◌, subst, arith, append_assoc}
use Rattle.hs_replay_client.proofs.Prelude.{append-nil, length-map, slice_get-map, is_some, slice_get, option_map, is_some_false, TraceId, AutoRule, Watch, Operation, Begin, Point, End, Fire, Sample, PlainSettings, operation_pieces, client_pieces, client_more, ClientId, Working, Way, Made, Spends, Gone, HasDone, Does, MayDo, IsPlayable, made_for}
use Rattle.std.proofs.lemmas.Option.{slice_get_cases}
use Rattle.hs_base.proofs.Alls.{all_mid}
use Rattle.hs_records.specs.Plain as plain
use Rattle.hs_records.specs.Records.{AreBracketed}
use Rattle.hs_client.proofs.OneMore.{bracketed_behind}
use Rattle.hs_records.specs.Validity.{IsOperation}
use Rattle.hs_replay_client.proofs.Spending.{spends_none, spends_more}

-- ---- operations in parts

pub pieces_append : (size : ℕ) (front rest : List Operation) → client_pieces size (front ++ rest) ≡ client_pieces size front + client_pieces size rest
pieces_append size [] rest = omega arith
pieces_append size (op ∷ front) rest = let more = pieces_append size front rest in omega (arith, more)

-- ---- what the next operation needs

open_some : (trace : Option TraceId) → is_some trace ≡ true → IsSome trace
open_some trace e = e

-- the autotrigger that a sample names, with its rule
watch_of : (autos : List Watch) (rules : List AutoRule) (auto : ℕ) → map (λ (w : Watch). w.rule) autos ≡ rules → auto < length rules → (watch : Watch) × (slice_get autos auto ≡ Some watch) × (slice_get rules auto ≡ Some watch.rule)
watch_of autos rules auto same within =
    elim (slice_get_cases autos auto).1 [
      | inl there ↦
          (there.0, there.2, ap (λ (l : List AutoRule). slice_get l auto) (sym same) ∙ slice_get-map (λ (w : Watch). w.rule) autos auto ∙ ap (option_map (λ (w : Watch). w.rule)) there.2)
      | inr past ↦ absurd (omega (arith, past.0, within, ap length same, length-map autos (λ (w : Watch). w.rule)))
    ]

may_do_so : (settings : PlainSettings) (version : ℕ) (rest : List Operation) (op : Operation) (works : Working) (rules : List AutoRule) → rules ≡ settings.autos → map (λ (w : Watch). w.rule) works.autos ≡ settings.autos
    → AreBracketed (is_some works.core.trace) (op ∷ rest) → IsOperation version settings op → works.core.counted + operation_pieces works.core.size op ≤ works.core.calls → MayDo rules op works
may_do_so settings version rest (Begin trace) works rules rules_are same bracketed word left = (omega (arith, left), is_some_false works.core.trace bracketed.0)
may_do_so settings version rest (Point moment payload) works rules rules_are same bracketed word left = (open_some works.core.trace bracketed.0, left)
may_do_so settings version rest (plain.Crumb node) works rules rules_are same bracketed word left = open_some works.core.trace bracketed.0
may_do_so settings version rest End works rules rules_are same bracketed word left = (omega (arith, left), open_some works.core.trace bracketed.0)
may_do_so settings version rest (Fire trigger) works rules rules_are same bracketed word left = tt
may_do_so settings version rest (Sample moment auto value) works rules rules_are same bracketed word left =
    let within : auto < length rules = omega (arith, word.1, ap length rules_are) in
    (open_some works.core.trace bracketed.0, watch_of works.autos rules auto (same ∙ sym rules_are) within)

-- calls are left for this operation
pub calls_left : (settings : PlainSettings) (client : ClientId) (front rest : List Operation) (op : Operation) (gone : Gone) (works : Working) → HasDone (made_for settings client (front ++ op ∷ rest)) front gone works
    → works.core.counted + operation_pieces works.core.size op ≤ works.core.calls
calls_left settings client front rest op gone works h =
    let size = settings.size in
    let here = subst (λ n. works.core.counted + operation_pieces n op ≤ works.core.calls) (sym h.size) (omega (arith, h.counted, h.calls, pieces_append size front (op ∷ rest))) in
    here

pub may_do : (settings : PlainSettings) (client : ClientId) (front rest : List Operation) (op : Operation) (gone : Gone) (works : Working) (rules : List AutoRule) → IsPlayable settings (front ++ op ∷ rest) → rules ≡ settings.autos
    → HasDone (made_for settings client (front ++ op ∷ rest)) front gone works → MayDo rules op works
may_do settings client front rest op gone works rules playable rules_are h =
    let bracketed = bracketed_behind false None front (op ∷ rest) refl playable.client.bracketed in
    let word = all_mid (IsOperation playable.version settings) front rest op playable.client.words in
    may_do_so settings playable.version rest op works rules rules_are h.autos.rules_are (subst (λ (t : Option TraceId). AreBracketed (is_some t) (op ∷ rest)) (sym h.trace) bracketed) word
    (calls_left settings client front rest op gone works h)

-- ---- so many operations done

module _ {P : Type 0} (way : Way P) where
  -- Behind what was done, the client has done these operations, and only drew from the well.
  pub record HasGone (ops : List Operation) (old now : Working) (well well' : P) : Type 0 where
    pub does : (made : Made) (front : List Operation) (gone : Gone) → HasDone made front gone old → HasDone made (front ++ ops) gone now
    pub spends : Spends way (client_pieces old.core.size ops) old.core now.core well well'

  pub gone_none : (works : Working) (well : P) → HasGone [] works works well well
  gone_none works well =
      record {
        does = λ made front gone h. subst (λ (l : List Operation). HasDone made l gone works) (sym (append-nil front)) h;
        spends = spends_none way 0 works.core well;
      }

  pub gone_more : (ops : List Operation) (op : Operation) (old now new : Working) (well middle well' : P) → HasGone ops old now well middle → Does op now new
      → Spends way (operation_pieces now.core.size op) now.core new.core middle well' → HasGone (ops ++ op ∷ []) old new well well'
  gone_more ops op old now new well middle well' is does spends =
      let size = old.core.size in
      let here : Spends way (operation_pieces size op) now.core new.core middle well' = subst (λ n. Spends way (operation_pieces n op) now.core new.core middle well') is.spends.size_is spends in
      let sum : client_pieces size ops + operation_pieces size op ≡ client_pieces size (ops ++ op ∷ []) = sym (client_more size ops op) in
      record {
        does = λ made front gone h. subst (λ (l : List Operation). HasDone made l gone new) (append_assoc front ops (op ∷ [])) (does made (front ++ ops) gone (is.does made front gone h));
        spends = spends_more way (client_pieces size ops) (operation_pieces size op) (client_pieces size (ops ++ op ∷ [])) old.core now.core new.core well middle well' sum is.spends here;
      }
