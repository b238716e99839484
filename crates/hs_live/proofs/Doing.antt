-- A client that has done some operations does one more.
use Rattle.std.proofs.Common.{◌≡◌, ℕ, ◌+◌, Bool, true, false, List, [], ◌∷◌, ◌++◌, reverse, Option, Some, None, IsSome, refl, sym, ap, ap₂, ◌∙◌, subst, append_assoc, arith, ◌<◌}
use Rattle.hs_live.proofs.Prelude.{append-nil, reverse-append, is_some, ClientId, TraceId, Crumb, Trigger, Operation, Begin, Point, End, Fire, Piece, Segment, numbered_of, record_pieces, segments_from, segments_of, Watch, HasSampled, Core, Current, CoreStep, Began, after_step, AreSteps, IsBook, May, with_all, Outgoing, sent, Leased, trigger_in, Key, PlainClient, Made, new_of, Writing, IsWriting, WritesPieces, writing_of, HasDone, AreWatching, OneMore, Does, DoesNothing, made_of, Buffer}
use Rattle.hs_base.specs.declared.ids.NodeId.{NodeId}
use Rattle.hs_records.specs.Plain as plain
use Rattle.hs_records.specs.Records.{NumberedOperation, open_behind, pieces_until_end, coming}
use Rattle.hs_client.specs.Core.{new_core, renewed_core}
use Rattle.hs_client.proofs.Bare.{book_bare}
use Rattle.hs_client.specs.SoFar.{has_open_page}
use Rattle.hs_client.specs.Sending.{crumb_in, sent_crumbs, sent_triggers}
use Rattle.hs_live.specs.Writing.{WritesEnd}
use Rattle.hs_ring.specs.Parts.{Drawing, Refills}
use Rattle.hs_live.proofs.Cuts.{draws_refilled}
use Rattle.hs_client.specs.OneMore.{next_behind, open_after, items_of}
use Rattle.hs_client.proofs.Adding.{page_more, at, unseen, begin_unseen, point_unseen, end_unseen, crumb_unseen, fire_unseen, begin_no_crumb, begin_no_trigger, point_no_crumb, point_no_trigger, end_no_crumb, end_no_trigger, coming_crumb, crumb_no_trigger, coming_fire, fire_no_crumb, trigger_of_fire}
use Rattle.hs_client.proofs.OneMore.{open_push}
use Rattle.hs_base.proofs.Options.{is_some_true, some_item}
use Rattle.hs_base.proofs.Alls.{all_each, all_everywhere}
use Rattle.hs_live.specs.declared.called.Called.{Called}
use Rattle.hs_live.specs.declared.called.Called.TheVariants as called
use Rattle.hs_live.specs.Calls.{IsNew, BeginsBy, EndsBy, RenewsBy, WritesOnly, begun, renewed, renewed_of, Renews}
use Rattle.hs_live.proofs.Steps.{began_trace, writing_kept, made_size, made_client, made_renewed}
use Rattle.hs_live.proofs.Apart.{IsMost, sent_apart}
use Rattle.hs_live.specs.Done.{HasSent}

abbrev Writes : Made → List Operation → List Operation → PlainClient → Type 0
Writes made all rest client =
    IsWriting made (coming made.size client.core.number client.core.trace rest) (segments_from made.size client.core.number rest) (segments_of made.size all) (writing_of client)

pub record DoesNow (made : Made) (ops : List Operation) (op : Operation) (old new : PlainClient) : Type 0 where
  pub writes : (rest : List Operation) → Writes made (ops ++ op ∷ rest) rest new
  pub trace : new.core.trace ≡ open_behind old.core.trace op
  pub page : is_some new.core.current ≡ has_open_page (is_some old.core.current) (op ∷ [])
  pub crumbs : sent new.crumbs ≡ sent old.crumbs ++ crumb_in old.core.trace op
  pub triggers : sent new.triggers ≡ sent old.triggers ++ trigger_in made.autos (reverse (numbered_of (made.earlier ++ ops))) old.core.trace op
  pub autos : AreWatching made.autos (at (made.earlier ++ ops) old.core.trace op ∷ reverse (numbered_of (made.earlier ++ ops))) new.autos

-- ---- operations behind others

over : (trace : Option TraceId) (first later : List Operation) → open_after trace (first ++ later) ≡ open_after (open_after trace first) later
over trace [] later = refl
over trace (op ∷ first) later = over (open_behind trace op) first later

-- where all traces are closed behind the first ones, the later ones stand for themselves
behind : (first later : List Operation) → open_after None first ≡ None → open_after None (first ++ later) ≡ open_after None later
behind first later none = over None first later ∙ ap (λ (trace : Option TraceId). open_after trace later) none

pub done_now : OneMore → (made : Made) (ops : List Operation) (op : Operation) (old new : PlainClient) → HasDone made ops old → DoesNow made ops op old new → HasDone made (ops ++ op ∷ []) new
done_now laws made ops op old new h d =
    let all = made.earlier ++ ops in
    let joined : all ++ op ∷ [] ≡ made.earlier ++ (ops ++ op ∷ []) = append_assoc made.earlier ops (op ∷ []) in
    let opened : old.core.trace ≡ open_after None all = h.trace ∙ sym (behind made.earlier ops h.before.ended) in
    let earlier : reverse (numbered_of (made.earlier ++ (ops ++ op ∷ []))) ≡ next_behind all op ∷ reverse (numbered_of all) =
    ap (λ (l : List Operation). reverse (numbered_of l)) (sym joined) ∙ ap reverse (laws.numbered all op) ∙ reverse-append (numbered_of all) (next_behind all op ∷ []) in
    record {
      writes = λ rest. subst (λ (all : List Operation). Writes made all rest new) (sym (append_assoc ops (op ∷ []) rest)) (d.writes rest);
      trace = d.trace ∙ ap (λ (trace : Option TraceId). open_behind trace op) h.trace ∙ sym (open_push None ops op);
      page = d.page ∙ ap (λ (page : Bool). has_open_page page (op ∷ [])) h.page ∙ sym (page_more false ops op);
      crumbs =
          d.crumbs ∙ ap₂ (λ (l : List Crumb) (trace : Option TraceId). l ++ crumb_in trace op) h.crumbs opened ∙ sym (laws.crumbs all op)
          ∙ ap (λ (l : List Operation). items_of (sent_crumbs l)) joined;
      triggers =
          d.triggers ∙ ap₂ (λ (l : List Trigger) (trace : Option TraceId). l ++ trigger_in made.autos (reverse (numbered_of all)) trace op) h.triggers opened ∙ sym (laws.triggers made.autos all op)
          ∙ ap (λ (l : List Operation). items_of (sent_triggers made.autos l)) joined;
      autos =
          subst (λ (earlier : List NumberedOperation). AreWatching made.autos earlier new.autos) (sym earlier)
          (subst (λ (trace : Option TraceId). AreWatching made.autos (at all trace op ∷ reverse (numbered_of all)) new.autos) opened d.autos);
      before = h.before;
    }

-- ---- begin

-- what is known of the steps of a core
abbrev pub Books : Type 0
Books = (client : ClientId) (size calls : ℕ) (steps : List (CoreStep Leased)) → AreSteps (new_core client size calls) steps → IsBook (new_core client size calls) steps

-- what the steps of a client's core make of it, whether it keeps its book or not
pub book_of : Books → (made : Made) (steps : List (CoreStep Leased)) → AreSteps (new_of made) steps → IsBook (new_of made) steps
book_of books made steps may = book_bare made.keeps made.renewed (new_core made.client made.size made.calls) steps (books made.client made.size made.calls steps) may

-- where no trace is open, the core has no page
no_page : Books → (made : Made) (pieces : List Piece) (later all : List Segment) (w : Writing) → IsWriting made pieces later all w → w.core.trace ≡ None → w.core.current ≡ None
no_page books made pieces later all w is none =
    let s = is.comes in
    let book = book_of books made is.steps s.may in
    ap (λ (c : Core Leased). c.current) s.core ∙ book.closed (sym book.trace ∙ ap (λ (c : Core Leased). c.trace) (sym s.core) ∙ none)

pub begin_done : OneMore → Books → (made : Made) (ops : List Operation) (trace : TraceId) (old new : PlainClient) → May old.core (Began trace) → new ≡ record old { core = after_step old.core (Began trace) } → HasDone made ops old → HasDone made (ops ++ Begin trace ∷ []) new
begin_done laws books made ops trace old new may is h =
    let begun : PlainClient = record old { core = after_step old.core (Began trace) } in
    let none : old.core.trace ≡ None = may.1 in
    let bare : old.core.current ≡ None = no_page books made _ _ _ (writing_of old) (h.writes []) none in
    let now : DoesNow made ops (Begin trace) old begun =
    record {
      writes = λ rest.
          let size = made.size in
          let number = old.core.number in
          let segment : Segment = record { trace = trace; pieces = pieces_until_end size number rest } in
          let first : IsWriting made (coming size number None (Begin trace ∷ rest)) (segment ∷ segments_from size number rest) (segments_of size (ops ++ Begin trace ∷ rest)) (writing_of old) =
          subst (λ (found : Option TraceId). IsWriting made (coming size number found (Begin trace ∷ rest)) (segments_from size number (Begin trace ∷ rest)) (segments_of size (ops ++ Begin trace ∷ rest)) (writing_of old)) none (h.writes (Begin trace ∷ rest)) in
          began_trace made (pieces_until_end size number rest) (segments_from size number rest) (segments_of size (ops ++ Begin trace ∷ rest)) (writing_of old) (writing_of begun) trace may refl refl refl first;
      trace = refl;
      page = ap (λ (current : Option (Current Leased)). is_some current) bare;
      crumbs = sym (ap (λ (l : List Crumb). sent old.crumbs ++ l) (begin_no_crumb trace old.core.trace) ∙ append-nil (sent old.crumbs));
      triggers = sym (ap (λ (l : List Trigger). sent old.triggers ++ l) (begin_no_trigger made.autos (reverse (numbered_of (made.earlier ++ ops))) trace old.core.trace) ∙ append-nil (sent old.triggers));
      autos = unseen made.autos (made.earlier ++ ops) (Begin trace) old.core.trace old.autos (begin_unseen trace) h.autos;
    } in
    subst (λ (client : PlainClient). HasDone made (ops ++ Begin trace ∷ []) client) (sym is) (done_now laws made ops (Begin trace) old begun h now)

pub begins : OneMore → Books → (trace : TraceId) (answer : Called) (old new : PlainClient) → BeginsBy old.core answer → new ≡ record old { core = begun trace answer old.core } → Does (Begin trace) answer old new
begins laws books trace called.Done old new may is = λ made ops h. begin_done laws books made ops trace old new may is h
begins laws books trace called.Spent old new may is = is
begins laws books trace called.AlreadyOpen old new may is = is
begins laws books trace called.NoTrace old new may is = is
begins laws books trace called.TooWide old new may is = is

-- ---- point

pub point_done : OneMore → (moment : ℕ) (payload : List ℕ) (old new : PlainClient) → IsSome old.core.trace → new.core.trace ≡ old.core.trace → new.core.number ≡ old.core.number + 1 → IsSome new.core.current
    → WritesPieces (record_pieces old.core.size old.core.number moment payload) (writing_of old) (writing_of new) → WritesOnly old new → Does (Point moment payload) called.Done old new
point_done laws moment payload old new some trace number page written only = λ made ops h.
    let size = made.size in
    let op : Operation = Point moment payload in
    let t = some_item old.core.trace some in
    let same : old.core.size ≡ size = made_size made _ _ _ (writing_of old) (h.writes []) in
    let pieces : WritesPieces (record_pieces size old.core.number moment payload) (writing_of old) (writing_of new) =
    subst (λ (n : ℕ). WritesPieces (record_pieces n old.core.number moment payload) (writing_of old) (writing_of new)) same written in
    done_now laws made ops op old new h
    (record {
      writes = λ rest.
          let all = segments_of size (ops ++ op ∷ rest) in
          let later = segments_from size (old.core.number + 1) rest in
          let first : IsWriting made (record_pieces size old.core.number moment payload ++ pieces_until_end size (old.core.number + 1) rest) later all (writing_of old) =
          subst (λ (found : Option TraceId). IsWriting made (coming size old.core.number found (op ∷ rest)) later all (writing_of old)) t.1 (h.writes (op ∷ rest)) in
          let now : IsWriting made (pieces_until_end size (old.core.number + 1) rest) later all (writing_of new) = pieces made (pieces_until_end size (old.core.number + 1) rest) later all first in
          let numbered : IsWriting made (pieces_until_end size new.core.number rest) (segments_from size new.core.number rest) all (writing_of new) =
          subst (λ (n : ℕ). IsWriting made (pieces_until_end size n rest) (segments_from size n rest) all (writing_of new)) (sym number) now in
          subst (λ (found : Option TraceId). IsWriting made (coming size new.core.number found rest) (segments_from size new.core.number rest) all (writing_of new)) (sym (trace ∙ t.1)) numbered;
      trace = trace;
      page = is_some_true new.core.current page;
      crumbs = ap (λ (s : Outgoing Crumb _). sent s) only.crumbs ∙ sym (ap (λ (l : List Crumb). sent old.crumbs ++ l) (point_no_crumb moment payload old.core.trace) ∙ append-nil (sent old.crumbs));
      triggers = ap (λ (s : Outgoing Trigger _). sent s) only.triggers ∙ sym (ap (λ (l : List Trigger). sent old.triggers ++ l) (point_no_trigger made.autos (reverse (numbered_of (made.earlier ++ ops))) moment payload old.core.trace) ∙ append-nil (sent old.triggers));
      autos =
          subst (λ (autos : List Watch). AreWatching made.autos (at (made.earlier ++ ops) old.core.trace op ∷ reverse (numbered_of (made.earlier ++ ops))) autos) (sym only.autos)
          (unseen made.autos (made.earlier ++ ops) op old.core.trace old.autos (point_unseen moment payload) h.autos);
    })

-- ---- end

pub end_done : OneMore → (old new : PlainClient) → IsSome old.core.trace → new.core.trace ≡ None → new.core.current ≡ None → new.core.number ≡ old.core.number → WritesEnd (writing_of old) (writing_of new) → WritesOnly old new → Does End called.Done old new
end_done laws old new some trace page number written only = λ made ops h.
    let size = made.size in
    let t = some_item old.core.trace some in
    done_now laws made ops End old new h
    (record {
      writes = λ rest.
          let all = segments_of size (ops ++ End ∷ rest) in
          let later = segments_from size old.core.number rest in
          let first : IsWriting made [] later all (writing_of old) =
          subst (λ (found : Option TraceId). IsWriting made (coming size old.core.number found (End ∷ rest)) later all (writing_of old)) t.1 (h.writes (End ∷ rest)) in
          let now : IsWriting made [] later all (writing_of new) = written made later all first in
          let numbered : IsWriting made [] (segments_from size new.core.number rest) all (writing_of new) = subst (λ (n : ℕ). IsWriting made [] (segments_from size n rest) all (writing_of new)) (sym number) now in
          subst (λ (found : Option TraceId). IsWriting made (coming size new.core.number found rest) (segments_from size new.core.number rest) all (writing_of new)) (sym trace) numbered;
      trace = trace;
      page = ap (λ (current : Option (Current Leased)). is_some current) page;
      crumbs = ap (λ (s : Outgoing Crumb _). sent s) only.crumbs ∙ sym (ap (λ (l : List Crumb). sent old.crumbs ++ l) (end_no_crumb old.core.trace) ∙ append-nil (sent old.crumbs));
      triggers = ap (λ (s : Outgoing Trigger _). sent s) only.triggers ∙ sym (ap (λ (l : List Trigger). sent old.triggers ++ l) (end_no_trigger made.autos (reverse (numbered_of (made.earlier ++ ops))) old.core.trace) ∙ append-nil (sent old.triggers));
      autos =
          subst (λ (autos : List Watch). AreWatching made.autos (at (made.earlier ++ ops) old.core.trace End ∷ reverse (numbered_of (made.earlier ++ ops))) autos) (sym only.autos)
          (unseen made.autos (made.earlier ++ ops) End old.core.trace old.autos end_unseen h.autos);
    })

pub ends : OneMore → (answer : Called) (old new : PlainClient) → EndsBy old.core answer → ((answer ≡ called.Done → ⊥) → new ≡ old) → (answer ≡ called.Done → new.core.trace ≡ None) → (answer ≡ called.Done → new.core.current ≡ None) → new.core.number ≡ old.core.number
    → (answer ≡ called.Done → WritesEnd (writing_of old) (writing_of new)) → WritesOnly old new → Does End answer old new
ends laws called.Done old new by refused trace page number written only = end_done laws old new by.1 (trace refl) (page refl) number (written refl) only
ends laws called.Spent old new by refused trace page number written only = refused (λ e. cc)
ends laws called.AlreadyOpen old new by refused trace page number written only = absurd by
ends laws called.NoTrace old new by refused trace page number written only = refused (λ e. cc)
ends laws called.TooWide old new by refused trace page number written only = absurd by

-- ---- crumb and trigger

pub crumb_done : OneMore → (node : NodeId) (trace : TraceId) (old : PlainClient) (crumbs : Outgoing Crumb Key) → old.core.trace ≡ Some trace → sent crumbs ≡ sent old.crumbs ++ record { trace = trace; node = node } ∷ []
    → Does (plain.Crumb node) called.Done old (record old { crumbs = crumbs })
crumb_done laws node trace old crumbs some sends = λ made ops h.
    let op : Operation = plain.Crumb node in
    done_now laws made ops op old (record old { crumbs = crumbs }) h
    (record {
      writes = λ rest.
          subst (λ (pieces : List Piece). IsWriting made pieces (segments_from made.size old.core.number rest) (segments_of made.size (ops ++ op ∷ rest)) (writing_of old))
          (coming_crumb made.size old.core.number node old.core.trace rest) (h.writes (op ∷ rest));
      trace = refl;
      page = refl;
      crumbs = sends ∙ ap (λ (found : Option TraceId). sent old.crumbs ++ crumb_in found op) (sym some);
      triggers = sym (ap (λ (l : List Trigger). sent old.triggers ++ l) (crumb_no_trigger made.autos (reverse (numbered_of (made.earlier ++ ops))) node old.core.trace) ∙ append-nil (sent old.triggers));
      autos = unseen made.autos (made.earlier ++ ops) op old.core.trace old.autos (crumb_unseen node) h.autos;
    })

pub trigger_done : OneMore → (trigger : Trigger) (old : PlainClient) (triggers : Outgoing Trigger Key) → sent triggers ≡ sent old.triggers ++ trigger ∷ [] → Does (Fire trigger) called.Done old (record old { triggers = triggers })
trigger_done laws trigger old triggers sends = λ made ops h.
    let op : Operation = Fire trigger in
    done_now laws made ops op old (record old { triggers = triggers }) h
    (record {
      writes = λ rest.
          subst (λ (pieces : List Piece). IsWriting made pieces (segments_from made.size old.core.number rest) (segments_of made.size (ops ++ op ∷ rest)) (writing_of old))
          (coming_fire made.size old.core.number trigger old.core.trace rest) (h.writes (op ∷ rest));
      trace = refl;
      page = refl;
      crumbs = sym (ap (λ (l : List Crumb). sent old.crumbs ++ l) (fire_no_crumb trigger old.core.trace) ∙ append-nil (sent old.crumbs));
      triggers = sends ∙ ap (λ (l : List Trigger). sent old.triggers ++ l) (trigger_of_fire made.autos (reverse (numbered_of (made.earlier ++ ops))) trigger old.core.trace);
      autos = unseen made.autos (made.earlier ++ ops) op old.core.trace old.autos (fire_unseen trigger) h.autos;
    })

-- ---- nothing

pub nothing_done : (old new : PlainClient) → new.core ≡ old.core → new.autos ≡ old.autos → new.drawer.answers ≡ old.drawer.answers → new.drawer.pool ≡ old.drawer.pool → new.drawer.size ≡ old.drawer.size
    → sent new.chunks ≡ sent old.chunks → sent new.crumbs ≡ sent old.crumbs → sent new.triggers ≡ sent old.triggers → DoesNothing old new
nothing_done old new core autos answers pool size chunks crumbs triggers = λ made ops h.
    record {
      writes = λ rest.
          let all = segments_of made.size (ops ++ rest) in
          let kept = writing_kept made _ _ _ (writing_of old) (writing_of new) core answers pool size chunks (h.writes rest) in
          subst (λ (c : Core Leased). IsWriting made (coming made.size c.number c.trace rest) (segments_from made.size c.number rest) all (writing_of new)) (sym core) kept;
      trace = ap (λ (c : Core Leased). c.trace) core ∙ h.trace;
      page = ap (λ (c : Core Leased). is_some c.current) core ∙ h.page;
      crumbs = crumbs ∙ h.crumbs;
      triggers = triggers ∙ h.triggers;
      autos = subst (λ (autos : List Watch). AreWatching made.autos (reverse (numbered_of (made.earlier ++ ops))) autos) (sym autos) h.autos;
      before = h.before;
    }

-- the allowance of its draws was made whole, or stayed
pub nothing_refilled : (old new : PlainClient) (is_whole : Bool) → new ≡ record old { drawer = new.drawer } → Refills old.drawer is_whole new.drawer → DoesNothing old new
nothing_refilled old new is_whole only refills =
    let draws = draws_refilled old.drawer new.drawer is_whole refills in
    nothing_done old new (ap (λ (c : PlainClient). c.core) only) (ap (λ (c : PlainClient). c.autos) only) (answers is_whole refills) draws.pool draws.size (ap (λ (c : PlainClient). sent c.chunks) only)
    (ap (λ (c : PlainClient). sent c.crumbs) only) (ap (λ (c : PlainClient). sent c.triggers) only)
  where
    answers : (is_whole : Bool) → Refills old.drawer is_whole new.drawer → new.drawer.answers ≡ old.drawer.answers
    answers true is = ap (λ (d : Drawing). d.answers) is
    answers false is = ap (λ (d : Drawing). d.answers) is

-- ---- a new client

pub new_done : (client : PlainClient) → IsNew client → HasDone (made_of client) [] client
new_done client is =
    let size = client.core.size in
    record {
      writes = λ rest.
          record {
            steps = [];
            comes =
                record {
                  may = tt;
                  core = is.core;
                  number = ap (λ (c : Core Leased). c.number) is.core;
                  chunks = is.chunks.nothing;
                  answers = [];
                  since = refl;
                  draws = refl;
                  buffers = refl;
                };
            gives =
                subst (λ (c : Core Leased). reverse (with_all (coming size c.number c.trace rest) []) ++ segments_from size c.number rest ≡ segments_of size rest) (sym is.core) refl;
          };
      trace = ap (λ (c : Core Leased). c.trace) is.core;
      page = ap (λ (c : Core Leased). is_some c.current) is.core;
      crumbs = is.crumbs.nothing;
      triggers = is.triggers.nothing;
      autos = record { rules_are = refl; each = λ auto watch found. all_everywhere (λ (w : Watch). HasSampled w []) client.autos is.autos auto watch found };
      before = record { ended = refl; older = tt; apart = tt };
    }

-- ---- a renewed core

-- what is known of the chunks that a client sent
abbrev pub Sends : Type 0
Sends = (made : Made) (ops : List Operation) (client : PlainClient) → HasDone made ops client → HasSent made ops client

-- Where no trace is open, a client goes on with a bare core. What it sent and what waits stays.
renewed_done : Sends → (old new : PlainClient) (calls : ℕ) → new ≡ record old { core = renewed_core calls old.core } → old.core.trace ≡ None
    → (made : Made) (ops : List Operation) → HasDone made ops old → HasDone (renewed_of made ops new) [] new
renewed_done sends old new calls is none = λ made ops h.
    let begun : PlainClient = record old { core = renewed_core calls old.core } in
    let size : old.core.size ≡ made.size = made_size made _ _ _ (writing_of old) (h.writes []) in
    let owner : old.core.client ≡ made.client = made_client made _ _ _ (writing_of old) (h.writes []) in
    let number : old.core.renewed ≡ made.renewed = made_renewed made _ _ _ (writing_of old) (h.writes []) in
    let told = sent_apart made ops old h (sends made ops old h) in
    let all = made.earlier ++ ops in
    let nothing : all ++ [] ≡ all = append-nil all in
    let there : HasDone (renewed_of made ops begun) [] begun =
    record {
      writes = λ rest.
          record {
            steps = [];
            comes =
                record {
                  may = tt;
                  core = λ i. record (new_core (owner i) (size i) calls) { keeps = false; renewed = old.core.renewed + 1 };
                  number = refl;
                  chunks = sym (append-nil (sent old.chunks));
                  answers = [];
                  since = refl;
                  draws = refl;
                  buffers = refl;
                };
            gives = refl;
          };
      trace = refl;
      page = refl;
      crumbs = h.crumbs ∙ ap (λ (l : List Operation). items_of (sent_crumbs l)) (sym nothing);
      triggers = h.triggers ∙ ap (λ (l : List Operation). items_of (sent_triggers made.autos l)) (sym nothing);
      autos = subst (λ (l : List Operation). AreWatching made.autos (reverse (numbered_of l)) old.autos) (sym nothing) h.autos;
      before =
          record {
            ended = behind made.earlier ops h.before.ended ∙ sym h.trace ∙ none;
            older = all_each (IsMost made.renewed) (λ (b : Buffer Leased). b.lease.mark < old.core.renewed + 1) (sent old.chunks) (λ b most. omega (arith, most, number)) told.1;
            apart = told.0;
          };
    } in
    subst (λ (client : PlainClient). HasDone (renewed_of made ops client) [] client) (sym is) there

pub renews : Sends → (calls : ℕ) (answer : Called) (old new : PlainClient) → RenewsBy old.core answer → new ≡ record old { core = renewed calls answer old.core } → Renews answer old new
renews sends calls called.Done old new may is = renewed_done sends old new calls is may.0
renews sends calls called.Spent old new may is = is
renews sends calls called.AlreadyOpen old new may is = is
renews sends calls called.NoTrace old new may is = is
renews sends calls called.TooWide old new may is = is
