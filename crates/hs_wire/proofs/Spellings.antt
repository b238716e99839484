-- The reader of each part of a message reads its spelling, and so does the reader of a message.
use Rattle.std.proofs.Common.{◌≡◌, ℕ, zero, suc, ◌^◌, ◌<◌, ◌≤◌, List, [], ◌∷◌, ◌++◌, length, Some, refl, sym, ap, subst, ◌∙◌, lit<, eq-eqb, arith}
use Rattle.hs_wire.proofs.Prelude.{flat_map, w16, w32, w64, w128, to_be_bytes, eqb-true, TraceId, Ask, Told, IsBytes, Standing, trace_bytes, FitTraces, PlainHello, PlainReported, PlainMessage, Said, SaysHello, SaysTold, SaysAsk, SaysReported, SaysStanding, AreBytes, IsSaid, IsMessage, head_bytes, id_bytes, group_bytes, traces_bytes, losses_bytes, hello_bytes, told_bytes, ask_bytes, reported_bytes, standing_bytes, said_bytes, message_bytes, Reader, both, making, only_if, by, all, number_at, byte_at, bytes_at, traces_at, message_at}
use Rattle.std.specs.Prelude.{nat_lt, nat_le, ◌==◌}
use Rattle.std.proofs.lemmas.Bool.{ltb-true, lt-ltb, leb-true, le-leb}
use Rattle.hs_base.specs.declared.ids.GroupId.{GroupId}
use Rattle.hs_base.specs.declared.told.Group.{Group}
use Rattle.hs_base.specs.declared.told.Why.{Why}
use Rattle.hs_base.specs.declared.told.Why.TheVariants.{Fired, Answer, Late}
use Rattle.hs_base.specs.declared.limits.TheConstants.{MOST_NODES, MAX_LATERALS}
use Rattle.hs_wire.specs.declared.message.TheConstants.{VERSION, MOST_NAME, MOST_PAGE}
use Rattle.hs_wire.specs.declared.message.Head.{Head}
use Rattle.hs_wire.specs.declared.message.Losses.{Losses}
use Rattle.hs_wire.specs.declared.message.Wholeness.{Wholeness}
use Rattle.hs_wire.specs.declared.message.Wholeness.TheVariants.{WholeSince, Lost, UnheardSince, Unknown, Open}
use Rattle.hs_wire.specs.Messages.{IsHead, IsId, IsGroup, AreTraces, AreLosses, IsHello, IsTold, IsAsk, IsReported, IsStanding, why_byte, wholeness_byte, kind_of}
use Rattle.hs_wire.specs.Reading.{node_at, head_at, id_at, group_at, laterals_at, losses_at, why_of, wholeness_of, hello_at, told_at, ask_at, reported_at, standing_at, said_at}
use Rattle.hs_wire.proofs.Readers.{Takes, Reads, ReadsAt, some_is, bind_some, bind_is, both_reads, beside_reads, making_reads, only_if_reads, by_reads, at_reads, behind_reads, refits, all_takes, all_again, byte_reads, bytes_read, u16_reads, u32_reads, u64_reads, u128_reads}

-- ---- parts

node_reads : Reads ℕ node_at (to_be_bytes w16) (λ n. (n < 2 ^ 16) × (n < MOST_NODES))
node_reads =
    only_if_reads ℕ (λ n. nat_lt n MOST_NODES) (number_at w16) (to_be_bytes w16) (λ n. n < 2 ^ 16) (λ n. n < MOST_NODES) u16_reads (λ n test. ltb-true _ _ test) (λ n below. lt-ltb _ _ below)

byte_at_most : (most : ℕ) → Reads ℕ (only_if (λ n. nat_le n most) byte_at) (λ n. n ∷ []) (λ n. (n < 256) × (n ≤ most))
byte_at_most most = only_if_reads ℕ (λ n. nat_le n most) byte_at (λ n. n ∷ []) (λ n. n < 256) (λ n. n ≤ most) byte_reads (λ n test. leb-true _ _ test) (λ n below. le-leb _ _ below)

u16_at_most : (most : ℕ) → Reads ℕ (only_if (λ n. nat_le n most) (number_at w16)) (to_be_bytes w16) (λ n. (n < 2 ^ 16) × (n ≤ most))
u16_at_most most = only_if_reads ℕ (λ n. nat_le n most) (number_at w16) (to_be_bytes w16) (λ n. n < 2 ^ 16) (λ n. n ≤ most) u16_reads (λ n test. leb-true _ _ test) (λ n below. le-leb _ _ below)

head_reads : Reads Head head_at head_bytes IsHead
unfolding head_at head_bytes
head_reads =
    making_reads (ℕ × (ℕ × ℕ)) Head (λ x. record { epoch = x.0; number = x.1.0; node = record { 0 = x.1.1 } }) (λ h. (h.epoch, (h.number, h.node.0))) _ _ _ head_bytes IsHead
    (both_reads ℕ (ℕ × ℕ) (number_at w64) _ _ _ _ _ u64_reads (both_reads ℕ ℕ (number_at w64) _ _ node_at _ _ u64_reads node_reads))
    (λ x f. record { epoch = f.0; number = f.1.0; node = f.1.1.1 }) (λ h f. (f.epoch, (f.number, (omega (arith, f.node), f.node)))) (λ x f. refl) (λ h f. refl) (λ h f. refl)

id_reads : Reads GroupId id_at id_bytes IsId
unfolding id_at id_bytes
id_reads =
    making_reads (ℕ × ℕ) GroupId (λ x. record { node = x.0; number = x.1 }) (λ id. (id.node, id.number)) _ _ _ id_bytes IsId (both_reads ℕ ℕ node_at _ _ (number_at w32) _ _ node_reads u32_reads)
    (λ x f. record { node = f.0.1; number = f.1 }) (λ id f. ((omega (arith, f.node), f.node), f.number)) (λ x f. refl) (λ id f. refl) (λ id f. refl)

group_reads : Reads Group group_at group_bytes IsGroup
unfolding group_at group_bytes id_bytes
group_reads =
    making_reads (GroupId × (ℕ × ℕ)) Group (λ x. record { id = x.0; trigger = record { 0 = x.1.0 }; lead = record { 0 = x.1.1 } }) (λ g. (g.id, (g.trigger.0, g.lead.0))) _ _ _ group_bytes IsGroup
    (both_reads GroupId (ℕ × ℕ) id_at id_bytes IsId _ _ _ id_reads (both_reads ℕ ℕ byte_at _ _ (number_at w128) _ _ byte_reads u128_reads))
    (λ x f. record { id = f.0; trigger = f.1.0; lead = f.1.1 }) (λ g f. (f.id, (f.trigger, f.lead))) (λ x f. refl) (λ g f. refl) (λ g f. refl)

abbrev first_of : List TraceId → ℕ × List TraceId
first_of [] = (0, [])
first_of (trace ∷ traces) = (trace.0, traces)

so_many_traces : (n : ℕ) → Reads (List TraceId) (traces_at n) (flat_map trace_bytes) (λ traces. FitTraces traces × (length traces ≡ n))
unfolding traces_at
so_many_traces zero =
    record {
      takes = λ bytes x fits e.
          let y : List TraceId × List ℕ = ([], bytes) in
          subst (λ (y : List TraceId × List ℕ). Takes bytes (flat_map trace_bytes y.0) y.1 × (FitTraces y.0 × (length y.0 ≡ 0))) (some_is y x e) (record { parts = refl; rest_fits = fits }, (tt, refl));
      again = none;
    }
  where
    none : (traces : List TraceId) (rest : List ℕ) → FitTraces traces × (length traces ≡ 0) → traces_at 0 (flat_map trace_bytes traces ++ rest) ≡ Some (traces, rest)
    none [] rest fits = refl
    none (trace ∷ traces) rest fits = absurd (omega (arith, fits.1))
so_many_traces (suc n) =
    making_reads (ℕ × List TraceId) (List TraceId) (λ x. record { 0 = x.0 } ∷ x.1) first_of _ _ _ (flat_map trace_bytes) (λ traces. FitTraces traces × (length traces ≡ suc n))
    (both_reads ℕ (List TraceId) (number_at w128) _ _ (traces_at n) _ _ u128_reads (so_many_traces n)) (λ x f. ((f.0, f.1.0), ap suc f.1.1)) down (λ x f. refl) spells made
  where
    down : (traces : List TraceId) → FitTraces traces × (length traces ≡ suc n) → ((first_of traces).0 < 2 ^ 128) × (FitTraces (first_of traces).1 × (length (first_of traces).1 ≡ n))
    down [] fits = absurd (omega (arith, fits.1))
    down (trace ∷ traces) fits = (fits.0.0, (fits.0.1, omega (arith, fits.1)))

    spells : (traces : List TraceId) → FitTraces traces × (length traces ≡ suc n) → flat_map trace_bytes traces ≡ to_be_bytes w128 (first_of traces).0 ++ flat_map trace_bytes (first_of traces).1
    spells [] fits = absurd (omega (arith, fits.1))
    spells (trace ∷ traces) fits = refl

    made : (traces : List TraceId) → FitTraces traces × (length traces ≡ suc n) → record { 0 = (first_of traces).0 } ∷ (first_of traces).1 ≡ traces
    made [] fits = absurd (omega (arith, fits.1))
    made (trace ∷ traces) fits = refl

traces_read : ReadsAt (List TraceId) length traces_at (flat_map trace_bytes) FitTraces
traces_read =
    record {
      takes = λ n bytes x fits e. let one = (so_many_traces n).takes bytes x fits e in (one.0, one.1.0, one.1.1);
      again = λ traces rest fits. (so_many_traces (length traces)).again traces rest (fits, refl);
    }

laterals_reads : Reads (List TraceId) laterals_at traces_bytes AreTraces
unfolding laterals_at traces_bytes
laterals_reads =
    refits (List TraceId) _ _ _ AreTraces
    (behind_reads (List TraceId) (only_if (λ n. nat_le n MAX_LATERALS) byte_at) _ _ length traces_at (flat_map trace_bytes) FitTraces (byte_at_most MAX_LATERALS) traces_read)
    (λ traces f. record { few = f.0.1; fit = f.1 }) (λ traces f. ((omega (arith, f.few), f.few), f.fit))

losses_reads : Reads Losses losses_at losses_bytes AreLosses
unfolding losses_at losses_bytes
losses_reads =
    making_reads (ℕ × (ℕ × (ℕ × (ℕ × (ℕ × (ℕ × (ℕ × (ℕ × ℕ)))))))) Losses
    (λ x. record {
      null_pages = x.0;
      full_points = x.1.0;
      dry_points = x.1.1.0;
      long_points = x.1.1.1.0;
      refused_crumbs = x.1.1.1.1.0;
      evicted_crumbs = x.1.1.1.1.1.0;
      forgotten_crumbs = x.1.1.1.1.1.1.0;
      evicted_pages = x.1.1.1.1.1.1.1.0;
      abandoned_pages = x.1.1.1.1.1.1.1.1;
    })
    (λ l. (l.null_pages, (l.full_points, (l.dry_points, (l.long_points, (l.refused_crumbs, (l.evicted_crumbs, (l.forgotten_crumbs, (l.evicted_pages, l.abandoned_pages))))))))) _ _ _ losses_bytes AreLosses
    (one_more _ _ _ _ (one_more _ _ _ _ (one_more _ _ _ _ (one_more _ _ _ _ (one_more _ _ _ _ (one_more _ _ _ _ (one_more _ _ _ _ (one_more _ _ _ _ u64_reads))))))))
    (λ x f. record {
      null_pages = f.0;
      full_points = f.1.0;
      dry_points = f.1.1.0;
      long_points = f.1.1.1.0;
      refused_crumbs = f.1.1.1.1.0;
      evicted_crumbs = f.1.1.1.1.1.0;
      forgotten_crumbs = f.1.1.1.1.1.1.0;
      evicted_pages = f.1.1.1.1.1.1.1.0;
      abandoned_pages = f.1.1.1.1.1.1.1.1;
    })
    (λ l f. (f.null_pages, (f.full_points, (f.dry_points, (f.long_points, (f.refused_crumbs, (f.evicted_crumbs, (f.forgotten_crumbs, (f.evicted_pages, f.abandoned_pages)))))))))
    (λ x f. refl) (λ l f. refl) (λ l f. refl)
  where
    one_more : (B : Type 0) (q : Reader B) (t : B → List ℕ) (G : B → Type 0) → Reads B q t G → Reads (ℕ × B) (both (number_at w64) q) (λ x. to_be_bytes w64 x.0 ++ t x.1) (λ x. (x.0 < 2 ^ 64) × G x.1)
    one_more B q t G reads = both_reads ℕ B (number_at w64) (to_be_bytes w64) (λ n. n < 2 ^ 64) q t G u64_reads reads

why_reads : Reads Why (by why_of byte_at) (λ why. why_byte why ∷ []) (λ why. Unit {0})
why_reads = by_reads Why why_of why_byte byte_at (λ n. n ∷ []) (λ n. n < 256) byte_reads means back small
  where
    means : (n : ℕ) (why : Why) → why_of n ≡ Some why → n ≡ why_byte why
    means zero why e = ap why_byte (some_is Fired why e)
    means (suc zero) why e = ap why_byte (some_is Answer why e)
    means (suc (suc zero)) why e = ap why_byte (some_is Late why e)
    means (suc (suc (suc n))) why e = absurd cc

    back : (why : Why) → why_of (why_byte why) ≡ Some why
    back Fired = refl
    back Answer = refl
    back Late = refl

    small : (why : Why) → why_byte why < 256
    small Fired = lit< tt
    small Answer = lit< tt
    small Late = lit< tt

wholeness_reads : Reads Wholeness (by wholeness_of byte_at) (λ how. wholeness_byte how ∷ []) (λ how. Unit {0})
wholeness_reads = by_reads Wholeness wholeness_of wholeness_byte byte_at (λ n. n ∷ []) (λ n. n < 256) byte_reads means back small
  where
    means : (n : ℕ) (how : Wholeness) → wholeness_of n ≡ Some how → n ≡ wholeness_byte how
    means zero how e = ap wholeness_byte (some_is WholeSince how e)
    means (suc zero) how e = ap wholeness_byte (some_is Lost how e)
    means (suc (suc zero)) how e = ap wholeness_byte (some_is UnheardSince how e)
    means (suc (suc (suc zero))) how e = ap wholeness_byte (some_is Unknown how e)
    means (suc (suc (suc (suc zero)))) how e = ap wholeness_byte (some_is Open how e)
    means (suc (suc (suc (suc (suc n))))) how e = absurd cc

    back : (how : Wholeness) → wholeness_of (wholeness_byte how) ≡ Some how
    back WholeSince = refl
    back Lost = refl
    back UnheardSince = refl
    back Unknown = refl
    back Open = refl

    small : (how : Wholeness) → wholeness_byte how < 256
    small WholeSince = lit< tt
    small Lost = lit< tt
    small UnheardSince = lit< tt
    small Unknown = lit< tt
    small Open = lit< tt

-- ---- what messages say

hello_reads : Reads PlainHello hello_at hello_bytes IsHello
unfolding hello_at hello_bytes
hello_reads =
    making_reads (List ℕ × List ℕ) PlainHello (λ x. record { digest = x.0; name = x.1 }) (λ h. (h.digest, h.name)) _ _ _ hello_bytes IsHello
    (both_reads (List ℕ) (List ℕ) (bytes_at 32) (λ xs. xs) (λ xs. AreBytes xs × (length xs ≡ 32)) _ _ _ (at_reads (List ℕ) length bytes_at (λ xs. xs) AreBytes 32 bytes_read)
    (behind_reads (List ℕ) (only_if (λ n. nat_le n MOST_NAME) byte_at) _ _ length bytes_at (λ xs. xs) AreBytes (byte_at_most MOST_NAME) bytes_read))
    (λ x f. record { whole = f.0.1; digest = f.0.0; short = f.1.0.1; name = f.1.1 }) (λ h f. ((f.digest, f.whole), ((omega (arith, f.short), f.short), f.name))) (λ x f. refl) (λ h f. refl) (λ h f. refl)

told_reads : Reads Told told_at told_bytes IsTold
unfolding told_at told_bytes group_bytes id_bytes
told_reads =
    making_reads (Group × (Why × (ℕ × List TraceId))) Told (λ x. record { group = x.0; laterals = x.1.1.1; crumbs = record { 0 = x.1.1.0 }; why = x.1.0 })
    (λ t. (t.group, (t.why, (t.crumbs.0, t.laterals)))) _ _ _ told_bytes IsTold
    (both_reads Group (Why × (ℕ × List TraceId)) group_at group_bytes IsGroup _ _ _ group_reads
    (both_reads Why (ℕ × List TraceId) (by why_of byte_at) _ _ _ _ _ why_reads (both_reads ℕ (List TraceId) (number_at w128) _ _ laterals_at traces_bytes AreTraces u128_reads laterals_reads)))
    (λ x f. record { group = f.0; crumbs = f.1.1.0; laterals = f.1.1.1 }) (λ t f. (f.group, (tt, (f.crumbs, f.laterals)))) (λ x f. refl) (λ t f. refl) (λ t f. refl)

ask_reads : Reads Ask ask_at ask_bytes IsAsk
unfolding ask_at ask_bytes
ask_reads =
    making_reads (Group × List TraceId) Ask (λ x. record { group = x.0; laterals = x.1 }) (λ a. (a.group, a.laterals)) _ _ _ ask_bytes IsAsk
    (both_reads Group (List TraceId) group_at group_bytes IsGroup laterals_at traces_bytes AreTraces group_reads laterals_reads)
    (λ x f. record { group = f.0; laterals = f.1 }) (λ a f. (f.group, f.laterals)) (λ x f. refl) (λ a f. refl) (λ a f. refl)

reported_reads : Reads PlainReported reported_at reported_bytes IsReported
unfolding reported_at reported_bytes group_bytes id_bytes
reported_reads =
    making_reads (Group × (ℕ × (ℕ × List ℕ))) PlainReported (λ x. record { group = x.0; client = x.1.0; core = x.1.1.0; page = x.1.1.1 }) (λ r. (r.group, (r.client, (r.core, r.page)))) _ _ _ reported_bytes IsReported
    (both_reads Group (ℕ × (ℕ × List ℕ)) group_at group_bytes IsGroup _ _ _ group_reads
    (both_reads ℕ (ℕ × List ℕ) (number_at w16) _ _ _ _ _ u16_reads
    (both_reads ℕ (List ℕ) (number_at w64) _ _ _ _ _ u64_reads
    (behind_reads (List ℕ) (only_if (λ n. nat_le n MOST_PAGE) (number_at w16)) _ _ length bytes_at (λ xs. xs) AreBytes (u16_at_most MOST_PAGE) bytes_read))))
    (λ x f. record { group = f.0; client = f.1.0; core = f.1.1.0; short = f.1.1.1.0.1; page = f.1.1.1.1 })
    (λ r f. (f.group, (f.client, (f.core, ((omega (arith, f.short), f.short), f.page))))) (λ x f. refl) (λ r f. refl) (λ r f. refl)

standing_reads : Reads Standing standing_at standing_bytes IsStanding
unfolding standing_at standing_bytes id_bytes
standing_reads =
    making_reads (ℕ × (GroupId × (Wholeness × (ℕ × (ℕ × (ℕ × (ℕ × Losses))))))) Standing
    (λ x. record { trace = record { 0 = x.0 }; group = x.1.0; wholeness = x.1.1.0; open_segments = x.1.1.1.0; horizon = x.1.1.1.1.0; pages = x.1.1.1.1.1.0; crumbs = record { 0 = x.1.1.1.1.1.1.0 }; losses = x.1.1.1.1.1.1.1 })
    (λ s. (s.trace.0, (s.group, (s.wholeness, (s.open_segments, (s.horizon, (s.pages, (s.crumbs.0, s.losses)))))))) _ _ _ standing_bytes IsStanding
    (both_reads ℕ (GroupId × (Wholeness × (ℕ × (ℕ × (ℕ × (ℕ × Losses)))))) (number_at w128) _ _ _ _ _ u128_reads
    (both_reads GroupId (Wholeness × (ℕ × (ℕ × (ℕ × (ℕ × Losses))))) id_at id_bytes IsId _ _ _ id_reads
    (both_reads Wholeness (ℕ × (ℕ × (ℕ × (ℕ × Losses)))) (by wholeness_of byte_at) _ _ _ _ _ wholeness_reads
    (both_reads ℕ (ℕ × (ℕ × (ℕ × Losses))) (number_at w32) _ _ _ _ _ u32_reads
    (both_reads ℕ (ℕ × (ℕ × Losses)) (number_at w64) _ _ _ _ _ u64_reads
    (both_reads ℕ (ℕ × Losses) (number_at w64) _ _ _ _ _ u64_reads
    (both_reads ℕ Losses (number_at w128) _ _ losses_at losses_bytes AreLosses u128_reads losses_reads)))))))
    (λ x f. record { trace = f.0; group = f.1.0; open_segments = f.1.1.1.0; horizon = f.1.1.1.1.0; pages = f.1.1.1.1.1.0; crumbs = f.1.1.1.1.1.1.0; losses = f.1.1.1.1.1.1.1 })
    (λ s f. (f.trace, (f.group, (tt, (f.open_segments, (f.horizon, (f.pages, (f.crumbs, f.losses)))))))) (λ x f. refl) (λ s f. refl) (λ s f. refl)

-- ---- messages

-- what a reader of one kind takes
says : (A : Type 0) (make : A → Said) (r : Reader A) (s : A → List ℕ) (F : A → Type 0) (kind : ℕ) → Reads A r s F → ((a : A) → said_bytes (make a) ≡ s a) → ((a : A) → F a → IsSaid (make a)) → ((a : A) → kind_of (make a) ≡ kind)
    → (bytes : List ℕ) (x : Said × List ℕ) → IsBytes bytes → making make r bytes ≡ Some x → Takes bytes (said_bytes x.0) x.1 × IsSaid x.0 × (kind_of x.0 ≡ kind)
says A make r s F kind reads spelled up named bytes x fits e =
    let a = bind_some (r bytes) (λ (a : A × List ℕ). Some (make a.0, a.1)) x e in
    let one = reads.takes bytes a.0 fits a.1 in
    let y : Said × List ℕ = (make a.0.0, a.0.1) in
    subst (λ (y : Said × List ℕ). Takes bytes (said_bytes y.0) y.1 × IsSaid y.0 × (kind_of y.0 ≡ kind)) (some_is y x a.2)
    (record { parts = one.0.parts ∙ ap (λ (text : List ℕ). text ++ a.0.1) (sym (spelled a.0.0)); rest_fits = one.0.rest_fits }, up a.0.0 one.1, named a.0.0)

said_takes : (kind : ℕ) (bytes : List ℕ) (x : Said × List ℕ) → IsBytes bytes → said_at kind bytes ≡ Some x → Takes bytes (said_bytes x.0) x.1 × IsSaid x.0 × (kind_of x.0 ≡ kind)
unfolding said_at
said_takes zero bytes x fits e = absurd cc
said_takes (suc zero) bytes x fits e = says PlainHello SaysHello hello_at hello_bytes IsHello 1 hello_reads (λ h. refl) (λ h f. f) (λ h. refl) bytes x fits e
said_takes (suc (suc zero)) bytes x fits e = says Told SaysTold told_at told_bytes IsTold 2 told_reads (λ t. refl) (λ t f. f) (λ t. refl) bytes x fits e
said_takes (suc (suc (suc zero))) bytes x fits e = says Ask SaysAsk ask_at ask_bytes IsAsk 3 ask_reads (λ a. refl) (λ a f. f) (λ a. refl) bytes x fits e
said_takes (suc (suc (suc (suc zero)))) bytes x fits e = says PlainReported SaysReported reported_at reported_bytes IsReported 4 reported_reads (λ r. refl) (λ r f. f) (λ r. refl) bytes x fits e
said_takes (suc (suc (suc (suc (suc zero))))) bytes x fits e = says Standing SaysStanding standing_at standing_bytes IsStanding 5 standing_reads (λ s. refl) (λ s f. f) (λ s. refl) bytes x fits e
said_takes (suc (suc (suc (suc (suc (suc n)))))) bytes x fits e = absurd cc

said_again : (said : Said) (rest : List ℕ) → IsSaid said → said_at (kind_of said) (said_bytes said ++ rest) ≡ Some (said, rest)
unfolding said_at
said_again (SaysHello h) rest fits = bind_is (hello_at (hello_bytes h ++ rest)) (λ (a : PlainHello × List ℕ). Some (SaysHello a.0, a.1)) (h, rest) (hello_reads.again h rest fits)
said_again (SaysTold t) rest fits = bind_is (told_at (told_bytes t ++ rest)) (λ (a : Told × List ℕ). Some (SaysTold a.0, a.1)) (t, rest) (told_reads.again t rest fits)
said_again (SaysAsk a) rest fits = bind_is (ask_at (ask_bytes a ++ rest)) (λ (a : Ask × List ℕ). Some (SaysAsk a.0, a.1)) (a, rest) (ask_reads.again a rest fits)
said_again (SaysReported r) rest fits = bind_is (reported_at (reported_bytes r ++ rest)) (λ (a : PlainReported × List ℕ). Some (SaysReported a.0, a.1)) (r, rest) (reported_reads.again r rest fits)
said_again (SaysStanding s) rest fits = bind_is (standing_at (standing_bytes s ++ rest)) (λ (a : Standing × List ℕ). Some (SaysStanding a.0, a.1)) (s, rest) (standing_reads.again s rest fits)

said_reads : ReadsAt Said kind_of said_at said_bytes IsSaid
said_reads = record { takes = said_takes; again = said_again }

kinds_are_small : (said : Said) → kind_of said < 256
kinds_are_small (SaysHello h) = lit< tt
kinds_are_small (SaysTold t) = lit< tt
kinds_are_small (SaysAsk a) = lit< tt
kinds_are_small (SaysReported r) = lit< tt
kinds_are_small (SaysStanding s) = lit< tt

version_reads : Reads ℕ (only_if (λ v. v == VERSION) byte_at) (λ v. v ∷ []) (λ v. (v < 256) × (v ≡ VERSION))
version_reads = only_if_reads ℕ (λ v. v == VERSION) byte_at (λ v. v ∷ []) (λ v. v < 256) (λ v. v ≡ VERSION) byte_reads (λ v test. eqb-true _ _ test) (λ v is. eq-eqb v VERSION is)

pub message_reads : Reads PlainMessage message_at message_bytes IsMessage
unfolding message_at head_bytes
message_reads =
    making_reads (ℕ × (Head × Said)) PlainMessage (λ x. record { head = x.1.0; said = x.1.1 }) (λ m. (VERSION, (m.head, m.said))) _ _ _ message_bytes IsMessage
    (both_reads ℕ (Head × Said) (only_if (λ v. v == VERSION) byte_at) (λ v. v ∷ []) (λ v. (v < 256) × (v ≡ VERSION)) _ _ _ version_reads
    (behind_reads (Head × Said) byte_at (λ n. n ∷ []) (λ n. n < 256) (λ x. kind_of x.1) (λ kind. both head_at (said_at kind)) _ _ byte_reads
    (beside_reads Head Said head_at head_bytes IsHead kind_of said_at said_bytes IsSaid head_reads said_reads)))
    (λ x f. record { head = f.1.1.0; said = f.1.1.1 }) (λ m f. ((lit< tt, refl), (kinds_are_small m.said, (f.head, f.said))))
    (λ x f. ap (λ (v : ℕ). v ∷ kind_of x.1.1 ∷ head_bytes x.1.0 ++ said_bytes x.1.1) (sym f.0.1)) (λ m f. refl) (λ m f. refl)

-- What was read is a message, spelled by the bytes.
pub what_is_read : (bytes : List ℕ) (m : PlainMessage) → IsBytes bytes → all message_at bytes ≡ Some m → IsMessage m × (bytes ≡ message_bytes m)
what_is_read bytes m fits e = all_takes PlainMessage message_at message_bytes IsMessage message_reads bytes m fits e

-- What is spelled is read.
pub what_is_spelled : (bytes : List ℕ) (m : PlainMessage) → IsMessage m → bytes ≡ message_bytes m → all message_at bytes ≡ Some m
what_is_spelled bytes m fits spelled = ap (all message_at) spelled ∙ all_again PlainMessage message_at message_bytes IsMessage message_reads m fits

-- No two messages have the same bytes, and no message's bytes begin another's.
pub spelled_once : (a b : PlainMessage) (x y : List ℕ) → IsMessage a → IsMessage b → message_bytes a ++ x ≡ message_bytes b ++ y → (a ≡ b) × (x ≡ y)
spelled_once a b x y fits fits' same =
    let e = some_is (a, x) (b, y) (sym (message_reads.again a x fits) ∙ ap message_at same ∙ message_reads.again b y fits') in
    (ap (λ (p : PlainMessage × List ℕ). p.0) e, ap (λ (p : PlainMessage × List ℕ). p.1) e)
