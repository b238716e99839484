use Rattle.std.proofs.Common.{◌+◌, ◌∷◌, ◌++◌, [], ap, ◌∙◌, sym, map}
use Rattle.std.proofs.lemmas.List.{map-append}
use Rattle.hs_records.specs.Views.{operation_of, operations_of}
use Rattle.hs_make.specs.Words.{each_below}
use Rattle.hs_make.proofs.Sequences.{each_below-more}
use Rattle.hs_make.proofs.made.idle_clients.Goals as goal

pub idle-init : goal.idle-init
unfolding each_below
idle-init c = record { len = c.in_ok-clients.ensures.len; idle = ap (map operations_of) c.in_ok-clients.ensures.items }

pub idle-preserved : goal.idle-preserved
idle-preserved c =
    record {
      len = c.in_ok-push.ensures.len ∙ ap (λ n. n + 1) c.idle.invariant.len;
      idle =
          ap (map operations_of) c.in_ok-push.ensures.items
          ∙ (
          map-append operations_of c.idle.clients.items (c.new.result ∷ [])
          ∙ (λ i. c.idle.invariant.idle i ++ map operation_of (c.new.ensures.items i) ∷ []) ∙ sym (each_below-more c.idle.counter (λ _. []))
          );
    }
