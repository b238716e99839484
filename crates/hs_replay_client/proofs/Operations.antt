-- A client that has done some operations does one more.
use Rattle.std.proofs.Common.{◌≡◌, ℕ, ◌+◌, ◌≤◌, Bool, false, List, [], ◌∷◌, ◌++◌, length, reverse, Option, Some, None, IsSome, refl, sym, ap, ap₂, ◌∙◌, subst, arith, append_assoc}
use Rattle.hs_replay_client.proofs.Prelude.{append-nil, reverse-append, is_some, TraceId, Crumb, Trigger, Operation, Begin, Point, End, Fire, Piece, Segment, numbered_of, piece_count, record_pieces, segments_from, segments_of, coming, Core, Began, after_step, May, Way, AreWatching, has_open_page, trigger_in, OneMore, at, operation_pieces, client_more, Unleased, Working, Made, Writing, IsSound, IsWriting, Records, EndsTrace, Gone, HasDone, Does}
use Rattle.hs_base.proofs.Options.{is_some_true, some_item}
use Rattle.hs_base.specs.declared.ids.NodeId.{NodeId}
use Rattle.hs_records.specs.Plain as plain
use Rattle.hs_records.specs.Records.{NumberedOperation, open_behind, pieces_until_end}
use Rattle.hs_client.specs.OneMore.{next_behind}
use Rattle.hs_client.specs.Sending.{crumb_in}
use Rattle.hs_client.proofs.Adding.{page_more, unseen, begin_unseen, point_unseen, end_unseen, crumb_unseen, fire_unseen, begin_no_crumb, begin_no_trigger, point_no_crumb, point_no_trigger, end_no_crumb, end_no_trigger, coming_crumb, crumb_no_trigger, coming_fire, fire_no_crumb, trigger_of_fire}
use Rattle.hs_client.proofs.OneMore.{open_push}
use Rattle.hs_replay_client.specs.Doing.{writing_of}
use Rattle.hs_replay_client.proofs.Sound.{sound_began}
use Rattle.hs_replay_client.proofs.Steps.{began_trace}

-- ---- one more

abbrev pub Writes : Made → List Unleased → List Operation → List Operation → Working → Type 0
Writes made gone all rest works =
    IsWriting made gone (coming made.size works.core.number works.core.trace rest) (segments_from made.size works.core.number rest) (segments_of made.size all) (writing_of works)

pub record DoesNow (made : Made) (ops : List Operation) (gone : Gone) (op : Operation) (old new : Working) : Type 0 where
  pub writes : (rest : List Operation) → Writes made gone.chunks (ops ++ op ∷ rest) rest new
  pub size : new.core.size ≡ old.core.size
  pub calls : new.core.calls ≡ old.core.calls
  pub counted : new.core.counted ≤ old.core.counted + operation_pieces made.size op
  pub trace : new.core.trace ≡ open_behind old.core.trace op
  pub page : is_some new.core.current ≡ has_open_page (is_some old.core.current) (op ∷ [])
  pub sound : IsSound new.core
  pub crumbs : new.crumbs ≡ old.crumbs ++ crumb_in old.core.trace op
  pub triggers : new.triggers ≡ old.triggers ++ trigger_in made.autos (reverse (numbered_of ops)) old.core.trace op
  pub autos : AreWatching made.autos (at ops old.core.trace op ∷ reverse (numbered_of ops)) new.autos

pub done_now : OneMore → (made : Made) (ops : List Operation) (gone : Gone) (op : Operation) (old new : Working) → HasDone made ops gone old → DoesNow made ops gone op old new → HasDone made (ops ++ op ∷ []) gone new
done_now laws made ops gone op old new h d =
    let earlier : reverse (numbered_of (ops ++ op ∷ [])) ≡ next_behind ops op ∷ reverse (numbered_of ops) = ap reverse (laws.numbered ops op) ∙ reverse-append (numbered_of ops) (next_behind ops op ∷ []) in
    record {
      writes = λ rest. subst (λ (all : List Operation). Writes made gone.chunks all rest new) (sym (append_assoc ops (op ∷ []) rest)) (d.writes rest);
      size = d.size ∙ h.size;
      calls = d.calls ∙ h.calls;
      counted = omega (arith, d.counted, h.counted, client_more made.size ops op);
      trace = d.trace ∙ ap (λ (trace : Option TraceId). open_behind trace op) h.trace ∙ sym (open_push None ops op);
      page = d.page ∙ ap (λ (page : Bool). has_open_page page (op ∷ [])) h.page ∙ sym (page_more false ops op);
      sound = d.sound;
      crumbs =
          ap (λ (l : List Crumb). gone.crumbs ++ l) d.crumbs ∙ sym (append_assoc gone.crumbs old.crumbs (crumb_in old.core.trace op))
          ∙ ap₂ (λ (l : List Crumb) (trace : Option TraceId). l ++ crumb_in trace op) h.crumbs h.trace ∙ sym (laws.crumbs ops op);
      triggers =
          ap (λ (l : List Trigger). gone.triggers ++ l) d.triggers ∙ sym (append_assoc gone.triggers old.triggers (trigger_in made.autos (reverse (numbered_of ops)) old.core.trace op))
          ∙ ap₂ (λ (l : List Trigger) (trace : Option TraceId). l ++ trigger_in made.autos (reverse (numbered_of ops)) trace op) h.triggers h.trace ∙ sym (laws.triggers made.autos ops op);
      autos =
          subst (λ (earlier : List NumberedOperation). AreWatching made.autos earlier new.autos) (sym earlier)
          (subst (λ (trace : Option TraceId). AreWatching made.autos (at ops trace op ∷ reverse (numbered_of ops)) new.autos) h.trace d.autos);
    }

pub none_more : {A : Type 0} (l more : List A) → more ≡ [] → l ≡ l ++ more
none_more l more none = sym (ap (λ m. l ++ m) none ∙ append-nil l)

-- ---- begin

pub begin_done : OneMore → (trace : TraceId) (old : Working) (core : Core (Unit {0})) → IsSound old.core → May old.core (Began trace) → core ≡ after_step old.core (Began trace) → Does (Begin trace) old (record old { core = core })
begin_done laws trace old core sound may is =
    subst (λ (c : Core (Unit {0})). Does (Begin trace) old (record old { core = c })) (sym is)
    (λ made ops gone h.
    let new : Working = record old { core = after_step old.core (Began trace) } in
    let none : old.core.trace ≡ None = may.1 in
    let no_page : old.core.current ≡ None = sound.closed none in
    done_now laws made ops gone (Begin trace) old new h
    (record {
      writes = λ rest.
          let size = made.size in
          let number = old.core.number in
          let segment : Segment = record { trace = trace; pieces = pieces_until_end size number rest } in
          let first : IsWriting made gone.chunks [] (segment ∷ segments_from size number rest) (segments_of size (ops ++ Begin trace ∷ rest)) (writing_of old) =
          subst (λ (found : Option TraceId). IsWriting made gone.chunks (coming size number found (Begin trace ∷ rest)) (segments_from size number (Begin trace ∷ rest)) (segments_of size (ops ++ Begin trace ∷ rest)) (writing_of old)) none (h.writes (Begin trace ∷ rest)) in
          began_trace made gone.chunks (pieces_until_end size number rest) (segments_from size number rest) (segments_of size (ops ++ Begin trace ∷ rest)) (writing_of old) (writing_of new) trace may refl refl first;
      size = refl;
      calls = refl;
      counted = omega arith;
      trace = refl;
      page = ap (λ (c : Option _). is_some c) no_page;
      sound = sound_began old.core trace sound;
      crumbs = none_more old.crumbs _ (begin_no_crumb trace old.core.trace);
      triggers = none_more old.triggers _ (begin_no_trigger made.autos (reverse (numbered_of ops)) trace old.core.trace);
      autos = unseen made.autos ops (Begin trace) old.core.trace old.autos (begin_unseen trace) h.autos;
    }))

-- ---- point

-- the same client with another core and other chunks
abbrev pub with_writing : Working → Writing → Working
with_writing works w = record works { core = w.core; chunks = w.chunks }

pub point_done : OneMore → (moment : ℕ) (payload : List ℕ) (old : Working) (new : Writing) {P : Type 0} (way : Way P) (well well' : P) → IsSome old.core.trace
    → Records way (piece_count old.core.size (length payload)) (old.core.number + 1) (record_pieces old.core.size old.core.number moment payload) (writing_of old) new well well' → Does (Point moment payload) old (with_writing old new)
point_done laws moment payload old new way well well' some r = λ made ops gone h.
    let size = made.size in
    let op : Operation = Point moment payload in
    let t = some_item old.core.trace some in
    let same : old.core.size ≡ size = h.size in
    let now : Working = with_writing old new in
    done_now laws made ops gone op old now h
    (record {
      writes = λ rest.
          let all = segments_of size (ops ++ op ∷ rest) in
          let later = segments_from size (old.core.number + 1) rest in
          let first : IsWriting made gone.chunks (record_pieces size old.core.number moment payload ++ pieces_until_end size (old.core.number + 1) rest) later all (writing_of old) =
          subst (λ (found : Option TraceId). IsWriting made gone.chunks (coming size old.core.number found (op ∷ rest)) later all (writing_of old)) t.1 (h.writes (op ∷ rest)) in
          let there : IsWriting made gone.chunks (record_pieces old.core.size old.core.number moment payload ++ pieces_until_end size (old.core.number + 1) rest) later all (writing_of old) =
          subst (λ (n : ℕ). IsWriting made gone.chunks (record_pieces n old.core.number moment payload ++ pieces_until_end size (old.core.number + 1) rest) later all (writing_of old)) (sym same) first in
          let behind : IsWriting made gone.chunks (pieces_until_end size (old.core.number + 1) rest) later all new = r.written made gone.chunks (pieces_until_end size (old.core.number + 1) rest) later all there in
          let numbered : IsWriting made gone.chunks (pieces_until_end size new.core.number rest) (segments_from size new.core.number rest) all new =
          subst (λ (n : ℕ). IsWriting made gone.chunks (pieces_until_end size n rest) (segments_from size n rest) all new) (sym r.number_is) behind in
          subst (λ (found : Option TraceId). IsWriting made gone.chunks (coming size new.core.number found rest) (segments_from size new.core.number rest) all new) (sym (r.trace_is ∙ t.1)) numbered;
      size = r.spends.size_is;
      calls = r.spends.calls_are;
      counted = subst (λ (n : ℕ). new.core.counted ≤ old.core.counted + piece_count n (length payload)) same r.spends.counted;
      trace = r.trace_is;
      page = is_some_true new.core.current r.page;
      sound = r.sound;
      crumbs = none_more old.crumbs _ (point_no_crumb moment payload old.core.trace);
      triggers = none_more old.triggers _ (point_no_trigger made.autos (reverse (numbered_of ops)) moment payload old.core.trace);
      autos = unseen made.autos ops op old.core.trace old.autos (point_unseen moment payload) h.autos;
    })

-- ---- end

pub end_done : OneMore → (old : Working) (new : Writing) → IsSome old.core.trace → EndsTrace (writing_of old) new → Does End old (with_writing old new)
end_done laws old new some e = λ made ops gone h.
    let size = made.size in
    let t = some_item old.core.trace some in
    let now : Working = with_writing old new in
    done_now laws made ops gone End old now h
    (record {
      writes = λ rest.
          let all = segments_of size (ops ++ End ∷ rest) in
          let later = segments_from size old.core.number rest in
          let first : IsWriting made gone.chunks [] later all (writing_of old) =
          subst (λ (found : Option TraceId). IsWriting made gone.chunks (coming size old.core.number found (End ∷ rest)) later all (writing_of old)) t.1 (h.writes (End ∷ rest)) in
          let behind : IsWriting made gone.chunks [] later all new = e.written made gone.chunks later all first in
          let numbered : IsWriting made gone.chunks [] (segments_from size new.core.number rest) all new = subst (λ (n : ℕ). IsWriting made gone.chunks [] (segments_from size n rest) all new) (sym e.number_is) behind in
          subst (λ (found : Option TraceId). IsWriting made gone.chunks (coming size new.core.number found rest) (segments_from size new.core.number rest) all new) (sym e.trace_is) numbered;
      size = e.spends.size_is;
      calls = e.spends.calls_are;
      counted = omega (arith, e.spends.counted);
      trace = e.trace_is;
      page = ap (λ (c : Option _). is_some c) e.page;
      sound = e.sound;
      crumbs = none_more old.crumbs _ (end_no_crumb old.core.trace);
      triggers = none_more old.triggers _ (end_no_trigger made.autos (reverse (numbered_of ops)) old.core.trace);
      autos = unseen made.autos ops End old.core.trace old.autos end_unseen h.autos;
    })

-- ---- operations that record nothing

-- the core is the same, and nothing comes that was not coming
pub record IsApart (op : Operation) : Type 0 where
  pub comes : (size number : ℕ) (found : Option TraceId) (rest : List Operation) → coming size number found (op ∷ rest) ≡ coming size number found rest
  pub later : (size number : ℕ) (rest : List Operation) → segments_from size number (op ∷ rest) ≡ segments_from size number rest

pub apart_writes : (made : Made) (ops : List Operation) (gone : Gone) (op : Operation) (old : Working) → IsApart op → HasDone made ops gone old → (rest : List Operation)
    → IsWriting made gone.chunks (coming made.size old.core.number old.core.trace rest) (segments_from made.size old.core.number rest) (segments_of made.size (ops ++ op ∷ rest)) (writing_of old)
apart_writes made ops gone op old apart h rest =
    let all = segments_of made.size (ops ++ op ∷ rest) in
    let first = subst (λ (pieces : List Piece). IsWriting made gone.chunks pieces (segments_from made.size old.core.number (op ∷ rest)) all (writing_of old)) (apart.comes made.size old.core.number old.core.trace rest) (h.writes (op ∷ rest)) in
    subst (λ (later : List Segment). IsWriting made gone.chunks (coming made.size old.core.number old.core.trace rest) later all (writing_of old)) (apart.later made.size old.core.number rest) first

crumb_apart : (node : NodeId) → IsApart (plain.Crumb node)
crumb_apart node = record { comes = λ size number found rest. coming_crumb size number node found rest; later = λ size number rest. refl }

pub crumb_done : OneMore → (node : NodeId) (trace : TraceId) (old : Working) (crumbs : List Crumb) → old.core.trace ≡ Some trace → crumbs ≡ old.crumbs ++ record { trace = trace; node = node } ∷ []
    → Does (plain.Crumb node) old (record old { crumbs = crumbs })
crumb_done laws node trace old crumbs some sends = λ made ops gone h.
    let op : Operation = plain.Crumb node in
    done_now laws made ops gone op old (record old { crumbs = crumbs }) h
    (record {
      writes = λ rest. apart_writes made ops gone op old (crumb_apart node) h rest;
      size = refl;
      calls = refl;
      counted = omega arith;
      trace = refl;
      page = refl;
      sound = h.sound;
      crumbs = sends ∙ ap (λ (found : Option TraceId). old.crumbs ++ crumb_in found op) (sym some);
      triggers = none_more old.triggers _ (crumb_no_trigger made.autos (reverse (numbered_of ops)) node old.core.trace);
      autos = unseen made.autos ops op old.core.trace old.autos (crumb_unseen node) h.autos;
    })

fire_apart : (trigger : Trigger) → IsApart (Fire trigger)
fire_apart trigger = record { comes = λ size number found rest. coming_fire size number trigger found rest; later = λ size number rest. refl }

pub trigger_done : OneMore → (trigger : Trigger) (old : Working) (triggers : List Trigger) → triggers ≡ old.triggers ++ trigger ∷ [] → Does (Fire trigger) old (record old { triggers = triggers })
trigger_done laws trigger old triggers sends = λ made ops gone h.
    let op : Operation = Fire trigger in
    done_now laws made ops gone op old (record old { triggers = triggers }) h
    (record {
      writes = λ rest. apart_writes made ops gone op old (fire_apart trigger) h rest;
      size = refl;
      calls = refl;
      counted = omega arith;
      trace = refl;
      page = refl;
      sound = h.sound;
      crumbs = none_more old.crumbs _ (fire_no_crumb trigger old.core.trace);
      triggers = sends ∙ ap (λ (l : List Trigger). old.triggers ++ l) (trigger_of_fire made.autos (reverse (numbered_of ops)) trigger old.core.trace);
      autos = unseen made.autos ops op old.core.trace old.autos (fire_unseen trigger) h.autos;
    })
