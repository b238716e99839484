-- The pace of all nodes: of gives and items node by node, and of asks.
use Rattle.std.proofs.Common.{◌≡◌, Bool, true, false, List, [], ◌∷◌, refl, sym, ap, ◌∙◌}
use Rattle.hs_check.proofs.Prelude.{◌&&◌, list_all, NodeRun, Run, gives_in_pace, items_in_pace, asks_in_pace, PlainSettings}

-- gives and items
abbrev pub keeps_pace : PlainSettings → NodeRun → Bool
keeps_pace settings run = gives_in_pace settings run && items_in_pace settings run

turned : (a b d e f : Bool) → ((a && b && d) && (e && f)) ≡ (((a && b) && e) && (d && f))
turned true true true e f = refl
turned true true false true f = refl
turned true true false false f = refl
turned true false d e f = refl
turned false b d e f = refl

-- the parts of all nodes
pub parts_are : (settings : PlainSettings) (run : Run) (nodes : List NodeRun)
    → (list_all (keeps_pace settings) nodes && list_all (asks_in_pace settings run) nodes) ≡ list_all (λ (node : NodeRun). gives_in_pace settings node && items_in_pace settings node && asks_in_pace settings run node) nodes
parts_are settings run [] = refl
parts_are settings run (node ∷ nodes) =
    sym (turned (gives_in_pace settings node) (items_in_pace settings node) (asks_in_pace settings run node) (list_all (keeps_pace settings) nodes) (list_all (asks_in_pace settings run) nodes))
    ∙ ap (λ b. (gives_in_pace settings node && items_in_pace settings node && asks_in_pace settings run node) && b) (parts_are settings run nodes)
