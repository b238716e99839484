-- One trace, as far as a node knows it: pages that its closed segments sent, pages that were handed out, what was lost, and the nodes to
-- which crumbs of it led.
use Rattle.std.specs.Prelude.{◌≡◌, ℕ, ◌+◌, ◌-◌, ◌^◌, min, Bool, true, false, not, ◌&&◌, ◌||◌, ◌==◌, nat_lt, nat_le, if◌then◌else◌, refl}
use Rattle.hs_wire.specs.declared.message.Losses.{Losses}
use Rattle.hs_wire.specs.declared.message.Wholeness.{Wholeness}
use Rattle.hs_base.specs.declared.node_set.NodeSet.{NodeSet}
use Rattle.hs_base.specs.NodeSets.{no_nodes, either}
use Rattle.hs_wire.specs.declared.message.Wholeness.TheVariants.{WholeSince, Lost, UnheardSince, Unknown, Open}
use Rattle.hs_whole.specs.declared.answers.SegmentReport.{SegmentReport}
use Rattle.hs_whole.specs.declared.answers.Loss.{Loss}
use Rattle.hs_whole.specs.declared.answers.Loss.TheVariants.{EvictedPages, AbandonedPages, EvictedCrumbs, ForgottenCrumbs}
use Rattle.hs_whole.specs.declared.kept.Kept as kept

-- a count with so many more: it stays at 2^64 - 1 once it is there
abbrev pub more : ℕ → ℕ → ℕ
more count by = min (count + by) (2 ^ 64 - 1)

abbrev pub no_losses : Losses
no_losses = record { null_pages = 0; full_points = 0; dry_points = 0; long_points = 0; refused_crumbs = 0; evicted_crumbs = 0; forgotten_crumbs = 0; evicted_pages = 0; abandoned_pages = 0 }

-- whether a segment lost something
abbrev pub reports_loss : SegmentReport → Bool
reports_loss r = not (r.null_pages == 0) || (not (r.full_points == 0) || (not (r.dry_points == 0) || (not (r.long_points == 0) || (not (r.spent_points == 0) || not (r.refused_crumbs == 0)))))

abbrev pub with_report : Losses → SegmentReport → Losses
with_report l r = record l {
  null_pages = more l.null_pages r.null_pages;
  full_points = more l.full_points r.full_points;
  dry_points = more l.dry_points r.dry_points;
  long_points = more l.long_points r.long_points;
  refused_crumbs = more l.refused_crumbs r.refused_crumbs;
}

abbrev pub with_loss : Losses → Loss → ℕ → Losses
with_loss l EvictedPages count = record l { evicted_pages = more l.evicted_pages count }
with_loss l AbandonedPages count = record l { abandoned_pages = more l.abandoned_pages count }
with_loss l EvictedCrumbs count = record l { evicted_crumbs = more l.evicted_crumbs count }
with_loss l ForgottenCrumbs count = record l { forgotten_crumbs = more l.forgotten_crumbs count }

-- ---- what becomes of a trace

-- a trace of which nothing is known, where so many segments had been heard
abbrev pub fresh : ℕ → Bool → kept.Kept
fresh latest is_missed = record { latest = latest; sent = 0; handed_out = 0; is_heard = false; is_missed = is_missed; is_lost = false; losses = no_losses; crumbs = no_nodes }

-- a note of it may have been missed
abbrev pub misses : kept.Kept → kept.Kept
misses k = record k { is_missed = true }

-- a segment of it begins, the last of so many
abbrev pub begins : ℕ → kept.Kept → kept.Kept
begins heard k = record k { latest = heard; is_heard = true }

-- the pages of a segment count where its end is the client's next note
abbrev pub counted : SegmentReport → Bool → ℕ
counted r is_missed = if is_missed then 0 else r.pages

-- a segment of it ends
abbrev pub ends : SegmentReport → Bool → kept.Kept → kept.Kept
ends r is_missed k = record k {
  sent = more k.sent (counted r is_missed);
  is_missed = k.is_missed || is_missed;
  is_lost = k.is_lost || reports_loss r;
  losses = with_report k.losses r;
  crumbs = either k.crumbs r.crumbs;
}

-- so much of it is lost
abbrev pub loses : Loss → ℕ → kept.Kept → kept.Kept
loses loss count k = record k { is_lost = k.is_lost || not (count == 0); losses = with_loss k.losses loss count }

-- a page of it is handed out; where the page was not heard of, a note of the trace may have been missed
abbrev pub goes_out : Bool → kept.Kept → kept.Kept
goes_out is_heard k = record k { handed_out = more k.handed_out 1; is_missed = k.is_missed || not is_heard }

-- a crumb of it was refused
abbrev pub refuses : kept.Kept → kept.Kept
refuses k = record k { is_lost = true; losses = record k.losses { refused_crumbs = more k.losses.refused_crumbs 1 } }

-- crumbs of it led to these nodes
abbrev pub leads : NodeSet → kept.Kept → kept.Kept
leads nodes k = record k { crumbs = either k.crumbs nodes }

-- whether as many pages left as were sent; where the count is full it says nothing
abbrev pub is_settled : kept.Kept → Bool
is_settled k = nat_lt k.sent (2 ^ 64 - 1) && nat_le k.sent (k.handed_out + k.losses.evicted_pages + k.losses.abandoned_pages)

-- how whole it is, where so many segments of it are open: an open segment comes before a loss, a loss before what is not known. It is unheard
-- where no segment of it began
abbrev pub wholeness : ℕ → kept.Kept → Wholeness
wholeness segments k =
    if nat_lt 0 segments then Open
    else if k.is_lost then Lost
    else if k.is_missed || not (k.sent == k.handed_out) then Unknown
    else if k.is_heard then WholeSince
    else UnheardSince

-- ---- worked examples: a segment that sent two pages

abbrev pub two_pages : SegmentReport
two_pages = record { pages = 2; null_pages = 0; full_points = 0; dry_points = 0; long_points = 0; spent_points = 0; refused_crumbs = 0; crumbs = no_nodes }

abbrev sent_two : kept.Kept
sent_two = ends two_pages false (begins 5 (fresh 4 false))

-- it is whole once both are handed out
both_out : (wholeness 0 sent_two ≡ Unknown) × (wholeness 0 (goes_out true sent_two) ≡ Unknown) × (wholeness 0 (goes_out true (goes_out true sent_two)) ≡ WholeSince) × (wholeness 1 (goes_out true (goes_out true sent_two)) ≡ Open)
both_out = (refl, refl, refl, refl)

-- one of them is evicted
one_evicted : (wholeness 0 (loses EvictedPages 1 (goes_out true sent_two)) ≡ Lost) × ((loses EvictedPages 1 sent_two).losses.evicted_pages ≡ 1) × (wholeness 0 (goes_out true (goes_out true (loses EvictedPages 0 sent_two))) ≡ WholeSince)
one_evicted = (refl, refl, refl)

-- it is settled once both have left, by whatever way
settles : (is_settled sent_two ≡ false) × (is_settled (goes_out true sent_two) ≡ false) × (is_settled (goes_out true (goes_out true sent_two)) ≡ true) × (is_settled (loses EvictedPages 1 (goes_out true sent_two)) ≡ true) × (is_settled (loses EvictedCrumbs 2 sent_two) ≡ false)
settles = (refl, refl, refl, refl, refl)

-- a point that was refused since numbers ended is a loss too
spent : wholeness 0 (ends (record two_pages { pages = 0; spent_points = 1 }) false (fresh 4 false)) ≡ Lost
spent = refl

-- a crumb to the nodes 0 and 2 in one segment, and to node 1 outside of any; where none began it is unheard
abbrev nodes : ℕ → NodeSet
nodes number = record { 0 = number }

crumbs_led : ((leads (nodes 2) (ends (record two_pages { crumbs = nodes 5 }) false sent_two)).crumbs ≡ nodes 7) × (wholeness 0 (leads (nodes 2) (fresh 4 false)) ≡ UnheardSince)
    × (wholeness 0 (begins 5 (leads (nodes 2) (fresh 4 false))) ≡ WholeSince)
crumbs_led = (refl, refl, refl)

-- where a note may have been missed it is never whole
not_known : wholeness 0 (misses (goes_out true (goes_out true sent_two))) ≡ Unknown
not_known = refl

-- a page that was not heard of
unheard_page : (wholeness 0 (goes_out false (goes_out true sent_two)) ≡ Unknown) × ((goes_out false (goes_out true sent_two)).handed_out ≡ 2)
unheard_page = (refl, refl)

-- a refused crumb is lost
crumb_refused : (wholeness 0 (refuses (goes_out true (goes_out true sent_two))) ≡ Lost) × ((refuses sent_two).losses.refused_crumbs ≡ 1)
crumb_refused = (refl, refl)
