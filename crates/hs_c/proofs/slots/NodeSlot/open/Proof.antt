-- `open` gives back what `full` kept.
use Rattle.std.proofs.Common.{◌≡◌, List, [], ◌∷◌, ◌++◌, refl, sym, ap, ◌∙◌, subst, Option, Some, IsSome}
use mir.Val.{Val, vptr}
use mir.Raw.{raw as bare}
use mir.Syntax.{impl, tnil, dnil}
use base.Logic.{SProp, ent, emp, never, id⊢, fst∗}
use base.Fml.{ftrue}
use prog.Wp.{WpFn}
use types.Logic.{sem}
use contract.Monad.{fact, fact_i}
use contract.Running.{tables}
use types.Kit.{‵, raw, ◌⊛◌, ◌$◌, ◌∵◌, !, qed, by, move, keep, drop, use0, split, suffices, fsplit, fjoin, rewrite}
use types.Part.{whole, sub, agg}
use types.Run.{stop, fld, of_opd, no_more, and_then, returns, enter}
use types.ByLocal.{alloc_all, pass_all, free_all, look_at, get, get_in, sets}
use denote.Memory.{lone}
use denote.RattleType.{owns}
use denote.RawPtr.{Ptr, block_ptr, null_ptr, in_a_block}
use denote.Signature.{types_at, plain}
use denote.Steps.{nothing, heard}
use denote.Triple.Entry.{alive}
use denote.Triple.Walked.{Stays, stay_dropped, walk_of}
use Rattle.core.proofs.alloc.Calls.{Al, Goes-blank, handle_tells}
use Rattle.std.proofs.raw_atomic.Walks.{proved_at, leaves}
use Rattle.hs_c.proofs.Values.{both, loose_good, loose_in}
use Rattle.std_heap.specs.contracts.Global as heap
use Rattle.std_heap.specs.contracts.GlobalAllocator.TheImpl.{ghosts}
use Rattle.std_heap.proofs.Global.TheLaws as heap_laws
use Rattle.hs_c.specs.Holds.{node_owns as held_owns}
use Rattle.hs_c.specs.declared.cells.NodeCell.{NodeCell}
use Rattle.hs_c.specs.contracts.cells.NodeCell as plain'
use Rattle.hs_c.specs.contracts.slots.NodeSlot as slot
use Rattle.hs_c.proofs.NodeSlotSteps.{word, slot_out, value_of}
use Rattle.hs_c.specs.contracts.slots.NodeSlot.open.{ended, clauses}
use Rattle.hs_c.specs.contracts.slots.NodeSlot.open.Key.{name as #self}
use Rattle.hs_c.proofs.slots.NodeSlot.open.Statement.{statement}
use Rattle.hs_c.proofs.slots.NodeSlot.open.Code as code

abbrev al : Al
al = record { row = heap.the_row; laws = heap_laws.the_row_laws; g = ghosts; d = impl [] tnil dnil; drops = impl [] tnil dnil }

pub open_spec : {M : Type 1} → statement M
open_spec 𝓤 𝓛 𝓜 𝓡 wired =
    let H = 𝓛.H in let 𝓣 = tables 𝓤 H 𝓜 𝓡 𝓡.env in let En = ended in let c = clauses 𝓛 𝓜.mem 𝓡.returns in let fn = code.function in
    let hs : Stays En.signature.params En.kept = (stay_dropped (plain (λ _. slot.the_row)) En.kept.0, (stay_dropped (plain (λ _. heap.the_row)) En.kept.1.0, tt)) in
    proved_at 𝓛 En hs c 𝓜 𝓡 (Goes-blank 𝓛 0 (plain (λ _. slot.the_row)) En.kept.0 (λ κs x f. tt), (Goes-blank 𝓛 0 (plain (λ _. heap.the_row)) En.kept.1.0 (λ κs x f. tt), tt)) #self fn (code.unfolded 𝓤 H 𝓜 𝓡 wired) (λ z are.
    let d = z.0.3.0 in let a = z.0.3.1.0 in let Post : Val → SProp 𝓤 = (walk_of 𝓛 En hs c).post z in let Run : List Val → SProp 𝓤 = λ ws. WpFn 𝓤 H 𝓣.C 𝓣.Λ fn ws Post in
    qed 𝓛 ((raw (alive 𝓛 En.signature z.0.0 z.0.1) ⊛ ‵ (owns (types_at En.signature.params z.0.0) z.0.3 z.0.4)) ∷ raw (fact 𝓤 (IsSome d.held)) ∷ []) ∵ move ! (1 ∷ []) $ heard ! (IsSome d.held) (λ some. let x = (value_of d.held some).0 in let held = (value_of d.held some).1 in
    split ! $ move ! (1 ∷ []) $ fsplit ! $ slot_out ! d z.0.4.0 (λ us. move ! (1 ∷ []) $ fsplit ! $ handle_tells al ! a z.0.4.1.0 (λ h eh fits.
    -- [the handle of the heap; nothing; the box; the tokens]
    move ! (2 ∷ []) $ rewrite ! 0 (λ (it : Option NodeCell). ‵ (held_owns d.at it)) held refl $
    in_a_block ! d.at (λ (p : Ptr). held_owns p (Some x)) (fst∗ 𝓤 (never 𝓤) (sem 𝓛 (ghosts.dealloc_token a (bare (lone plain'.the_row.mir)) null_ptr))) (λ b o e.
    let is : z.0.4.0 ≡ word (block_ptr b o) ∷ [] = us ∙ ap (λ (p : Ptr). word p ∷ []) e in
    let good = loose_good plain'.the_row heap.the_row heap_laws.the_row_laws ghosts b o h fits in
    suffices ! (Run (word (block_ptr b o) ∷ h ∷ [])) (subst (λ (ws : List Val). ent 𝓤 (Run (word (block_ptr b o) ∷ h ∷ [])) (Run ws)) (sym (λ i. is i ++ (eh i ++ []))) (id⊢ 𝓤 (Run (word (block_ptr b o) ∷ h ∷ [])))) $
    enter ! 𝓣.C 𝓣.Λ fn (word (block_ptr b o) ∷ h ∷ []) Post $ alloc_all ! (λ l. pass_all ! refl ((tt, (tt, tt)), (fits, tt)) $
    sets ! (of_opd ! (get_in ! (fld ! refl (stop !)) (sub ! 0 refl (whole !)))) refl (tt, tt) $
    sets ! (of_opd ! (get ! refl)) refl (tt, tt) $
    sets ! (agg ! (and_then ! (get ! refl) (and_then ! (get ! refl) (no_more !)))) refl good $
    returns ! (look_at ! 0 refl) $ free_all ! refl $ loose_in plain'.the_row heap.the_row heap_laws.the_row_laws ghosts ! b o h a x $
    use0 𝓛 (raw (fact 𝓤 (d.held ≡ Some x))) (fact_i 𝓤 (d.held ≡ Some x) (emp 𝓤) held) $ nothing ! $ nothing ! $ fjoin ! $ nothing ! $ fjoin ! $
    keep ! (4 ∷ 0 ∷ 2 ∷ 1 ∷ []) $ by ! (leaves 𝓛 En hs c z (both (vptr b o) h) (record { at = block_ptr b o; alloc = a; value = x }) (tt, (tt, tt)) (tt, (tt, tt)))))))))
