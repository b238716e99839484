-- Hearing a message changes no node, and what was heard of a node is heard in parts.
use Rattle.std.proofs.Common.{◌≡◌, List, [], ◌∷◌, ◌++◌, sym, ap, ◌∙◌, Option, Some, None, filter, map, option_map}
use Rattle.hs_law_journal.proofs.Prelude.{filter-append, map-append, same_Some, NodeId, Message, Messages, is_from, Run, message_of, hear}

hear_case : (run next : Run) (rest : List NodeId) (o : Option Message) → option_map (λ (m : Message). record run { left = rest; heard = run.heard ++ m ∷ [] }) o ≡ Some next → next.nodes ≡ run.nodes
hear_case run next rest None h = let no : None ≡ Some next = h in absurd cc
hear_case run next rest (Some m) h = ap (λ (r : Run). r.nodes) (sym (same_Some (record run { left = rest; heard = run.heard ++ m ∷ [] }) next h))

pub hear_nodes : (run next : Run) (left : List NodeId) → hear run left ≡ Some next → next.nodes ≡ run.nodes
hear_nodes run next [] h = let no : None ≡ Some next = h in absurd cc
hear_nodes run next (node ∷ rest) h = hear_case run next rest (message_of run.nodes run.heard node) h

pub heard_both : (node : NodeId) (xs ys : Messages) → map (λ (m : Message). m.told) (filter (is_from node) (xs ++ ys)) ≡ map (λ (m : Message). m.told) (filter (is_from node) xs) ++ map (λ (m : Message). m.told) (filter (is_from node) ys)
heard_both node xs ys = ap (map (λ (m : Message). m.told)) (filter-append (is_from node) xs ys) ∙ map-append (λ (m : Message). m.told) (filter (is_from node) xs) (filter (is_from node) ys)
