-- What deeds come to: each outbox has its part of them, and what every mail keeps.
use Rattle.std.proofs.Common.{◌≡◌, ℕ, ◌+◌, Bool, true, false, List, [], ◌∷◌, ◌++◌, cond, refl, sym, ap, subst, arith, ◌∙◌, ◌⊎◌, inl, inr, ⊎_elim}
use Rattle.std.specs.List.{Contains}
use Rattle.std.proofs.lemmas.List.Elements.{Contains-append_left, Contains-append_right, Contains-append_cases}
use Rattle.std.proofs.lemmas.Bool.{cond_both, cases_eq}
use Rattle.hs_base.specs.declared.ids.NodeId.{NodeId}
use Rattle.hs_outbox.specs.Queue.{Pending, Queue, OutboxAct, Puts, pending_of, has_number, empty}
use Rattle.hs_outbox.specs.Queue as queue
use Rattle.hs_outbox.specs.Lives.{IsAccounted}
use Rattle.hs_outbox.specs.Lives as outbox
use Rattle.hs_outbox.proofs.Accounts.{stays}
use Rattle.hs_outbox.proofs.Handed.{accounted}
use Rattle.hs_mail.specs.declared.mail.Room.{Room}
use Rattle.hs_mail.specs.Letters.{Letters, MailDeed, Says, HandsOut, Acknowledges, OffersAgain, after, both, no_letters, first_offered, is_page, message_of}
use Rattle.hs_mail.specs.Lives.{life, acts_by, acts_of, waiting, IsInOrder}
use Rattle.hs_mail.proofs.Pairs.{IsGood, good_swap, good_puts, good_hands, good_less, good_again, in_order}

-- ---- each outbox has its part

life_append : (xs ys : List OutboxAct) (q : Queue) → outbox.life q (xs ++ ys) ≡ outbox.life (outbox.life q xs) ys
life_append [] ys q = refl
life_append (x ∷ xs) ys q = life_append xs ys (queue.after q x)

page_said : (m : Letters) (p : Pending) (b : Bool)
    → (cond b (record m { fresh = m.fresh + 1; pages = queue.after m.pages (Puts p) }) (record m { fresh = m.fresh + 1; words = queue.after m.words (Puts p) })).pages
    ≡ outbox.life m.pages (cond b (Puts p ∷ []) [])
page_said m p true = refl
page_said m p false = refl

word_said : (m : Letters) (p : Pending) (b : Bool)
    → (cond b (record m { fresh = m.fresh + 1; pages = queue.after m.pages (Puts p) }) (record m { fresh = m.fresh + 1; words = queue.after m.words (Puts p) })).words
    ≡ outbox.life m.words (cond b [] (Puts p ∷ []))
word_said m p true = refl
word_said m p false = refl

page_handed : (m : Letters) (n : ℕ) (b : Bool) → (cond b (both m (queue.HandsOut n)) m).pages ≡ outbox.life m.pages (cond b (queue.HandsOut n ∷ []) [])
page_handed m n true = refl
page_handed m n false = refl

word_handed : (m : Letters) (n : ℕ) (b : Bool) → (cond b (both m (queue.HandsOut n)) m).words ≡ outbox.life m.words (cond b (queue.HandsOut n ∷ []) [])
word_handed m n true = refl
word_handed m n false = refl

page_by : (m : Letters) (deed : MailDeed) → (after m deed).pages ≡ outbox.life m.pages (acts_by true m deed)
page_by m (Says said) = page_said m (pending_of (message_of m said)) (is_page said)
page_by m (HandsOut n) = page_handed m n (has_number (first_offered m) n)
page_by m (Acknowledges n) = refl
page_by m OffersAgain = refl

word_by : (m : Letters) (deed : MailDeed) → (after m deed).words ≡ outbox.life m.words (acts_by false m deed)
word_by m (Says said) = word_said m (pending_of (message_of m said)) (is_page said)
word_by m (HandsOut n) = word_handed m n (has_number (first_offered m) n)
word_by m (Acknowledges n) = refl
word_by m OffersAgain = refl

pages_after : (deeds : List MailDeed) (m : Letters) → (life m deeds).pages ≡ outbox.life m.pages (acts_of true m deeds)
pages_after [] m = refl
pages_after (deed ∷ deeds) m =
    pages_after deeds (after m deed) ∙ ap (λ (q : Queue). outbox.life q (acts_of true (after m deed) deeds)) (page_by m deed)
    ∙ sym (life_append (acts_by true m deed) (acts_of true (after m deed) deeds) m.pages)

words_after : (deeds : List MailDeed) (m : Letters) → (life m deeds).words ≡ outbox.life m.words (acts_of false m deeds)
words_after [] m = refl
words_after (deed ∷ deeds) m =
    words_after deeds (after m deed) ∙ ap (λ (q : Queue). outbox.life q (acts_of false (after m deed) deeds)) (word_by m deed)
    ∙ sym (life_append (acts_by false m deed) (acts_of false (after m deed) deeds) m.words)

-- ---- what every mail keeps

pub record IsKept (node : NodeId) (epoch : ℕ) (m : Letters) : Type 0 where
  pub good : IsGood m.fresh m.pages m.words
  pub node_is : m.node ≡ node
  pub epoch_is : m.epoch ≡ epoch

kept_said : (node : NodeId) (epoch : ℕ) (m : Letters) (p : Pending) (b : Bool) → p.number ≡ m.fresh → IsKept node epoch m
    → IsKept node epoch (cond b (record m { fresh = m.fresh + 1; pages = queue.after m.pages (Puts p) }) (record m { fresh = m.fresh + 1; words = queue.after m.words (Puts p) }))
kept_said node epoch m p true is kept = record { good = good_puts m.fresh m.pages m.words p is kept.good; node_is = kept.node_is; epoch_is = kept.epoch_is }
kept_said node epoch m p false is kept =
    record {
      good = good_swap (m.fresh + 1) (queue.after m.words (Puts p)) m.pages (good_puts m.fresh m.words m.pages p is (good_swap m.fresh m.pages m.words kept.good));
      node_is = kept.node_is;
      epoch_is = kept.epoch_is;
    }

kept_after : (node : NodeId) (epoch : ℕ) (m : Letters) (deed : MailDeed) → IsKept node epoch m → IsKept node epoch (after m deed)
kept_after node epoch m (Says said) kept = kept_said node epoch m (pending_of (message_of m said)) (is_page said) refl kept
kept_after node epoch m (HandsOut n) kept =
    cond_both (has_number (first_offered m) n) (both m (queue.HandsOut n)) m (λ (r : Letters). IsKept node epoch r)
    (λ yes. record { good = good_hands m.fresh n m.pages m.words kept.good yes; node_is = kept.node_is; epoch_is = kept.epoch_is }) (λ no. kept)
kept_after node epoch m (Acknowledges n) kept = record { good = good_less m.fresh n m.pages m.words kept.good; node_is = kept.node_is; epoch_is = kept.epoch_is }
kept_after node epoch m OffersAgain kept = record { good = good_again m.fresh m.pages m.words kept.good; node_is = kept.node_is; epoch_is = kept.epoch_is }

kept_life : (node : NodeId) (epoch : ℕ) (deeds : List MailDeed) (m : Letters) → IsKept node epoch m → IsKept node epoch (life m deeds)
kept_life node epoch [] m kept = kept
kept_life node epoch (deed ∷ deeds) m kept = kept_life node epoch deeds (after m deed) (kept_after node epoch m deed kept)

nothing_in : (p : Pending) → Contains [] p → ⊥
nothing_in p there = let within = there.1 in omega (arith, within)

pub is_in_order : (node : NodeId) (epoch : ℕ) (pages words : Room) (deeds : List MailDeed) → IsInOrder node epoch pages words deeds (life (no_letters node epoch pages words) deeds)
is_in_order node epoch pages words deeds =
    let start = no_letters node epoch pages words in
    let m = life start deeds in
    let begun : IsKept node epoch start =
    record {
      good =
          record {
            first = record { rising = omega arith; handed = omega arith };
            second = record { rising = omega arith; handed = omega arith };
            first_order = tt;
            second_order = tt;
            apart = (λ p q in_a in_b same. absurd (nothing_in p in_a));
          };
      node_is = refl;
      epoch_is = refl;
    } in
    let kept = kept_life node epoch deeds start begun in
    record {
      pages_kept =
          subst (λ (q : Queue). IsAccounted pages.places pages.bytes (acts_of true start deeds) q) (sym (pages_after deeds start)) (accounted pages.places pages.bytes (acts_of true start deeds));
      words_kept =
          subst (λ (q : Queue). IsAccounted words.places words.bytes (acts_of false start deeds) q) (sym (words_after deeds start)) (accounted words.places words.bytes (acts_of false start deeds));
      page_numbers = kept.good.first.rising;
      word_numbers = kept.good.second.rising;
      apart = kept.good.apart;
      in_order = in_order m.fresh m.pages m.words kept.good;
      node_stays = kept.node_is;
      epoch_stays = kept.epoch_is;
    }

-- ---- what waited waits on, or was acknowledged

-- in two outboxes of which each has had something else than the acknowledgement of a message

in_either : (m r : Letters) (act : OutboxAct) (p : Pending) → (act ≡ queue.Acknowledges p.number → ⊥) → r.pages ≡ queue.after m.pages act → r.words ≡ queue.after m.words act
    → Contains (waiting m) p → Contains (waiting r) p
in_either m r act p other pages words there =
    ⊎_elim
    (λ (page : Contains m.pages.pending p).
    Contains-append_left r.pages.pending r.words.pending p
    (⊎_elim (λ (is : act ≡ queue.Acknowledges p.number). absurd (other is)) (λ (waits : Contains (queue.after m.pages act).pending p). subst (λ (q : Queue). Contains q.pending p) (sym pages) waits)
    (stays m.pages act p page)))
    (λ (word : Contains m.words.pending p).
    Contains-append_right r.pages.pending r.words.pending p
    (⊎_elim (λ (is : act ≡ queue.Acknowledges p.number). absurd (other is)) (λ (waits : Contains (queue.after m.words act).pending p). subst (λ (q : Queue). Contains q.pending p) (sym words) waits)
    (stays m.words act p word)))
    (Contains-append_cases m.pages.pending m.words.pending p there)

same_number : (n k : ℕ) → queue.Acknowledges n ≡ queue.Acknowledges k → n ≡ k
same_number n k is = cc

kept_put : (q : Queue) (new p : Pending) → Contains q.pending p → Contains (queue.after q (Puts new)).pending p
kept_put q new p there = ⊎_elim (λ (is : Puts new ≡ queue.Acknowledges p.number). absurd cc) (λ (waits : Contains (queue.after q (Puts new)).pending p). waits) (stays q (Puts new) p there)

said_stays : (m : Letters) (new p : Pending) (b : Bool) → Contains (waiting m) p
    → Contains (waiting (cond b (record m { fresh = m.fresh + 1; pages = queue.after m.pages (Puts new) }) (record m { fresh = m.fresh + 1; words = queue.after m.words (Puts new) }))) p
said_stays m new p true there =
    ⊎_elim (λ (page : Contains m.pages.pending p). Contains-append_left (queue.after m.pages (Puts new)).pending m.words.pending p (kept_put m.pages new p page))
    (λ (word : Contains m.words.pending p). Contains-append_right (queue.after m.pages (Puts new)).pending m.words.pending p word)
    (Contains-append_cases m.pages.pending m.words.pending p there)
said_stays m new p false there =
    ⊎_elim (λ (page : Contains m.pages.pending p). Contains-append_left m.pages.pending (queue.after m.words (Puts new)).pending p page)
    (λ (word : Contains m.words.pending p). Contains-append_right m.pages.pending (queue.after m.words (Puts new)).pending p (kept_put m.words new p word))
    (Contains-append_cases m.pages.pending m.words.pending p there)

pub letter_stays : (m : Letters) (deed : MailDeed) (p : Pending) → Contains (waiting m) p → (deed ≡ Acknowledges p.number) ⊎ Contains (waiting (after m deed)) p
letter_stays m (Says said) p there = inr (said_stays m (pending_of (message_of m said)) p (is_page said) there)
letter_stays m (HandsOut n) p there =
    inr
    (cond_both (has_number (first_offered m) n) (both m (queue.HandsOut n)) m (λ (r : Letters). Contains (waiting r) p)
    (λ yes. in_either m (both m (queue.HandsOut n)) (queue.HandsOut n) p (λ is. absurd cc) refl refl there) (λ no. there))
letter_stays m (Acknowledges n) p there =
    ⊎_elim (λ (same : n ≡ p.number). inl (ap Acknowledges same))
    (λ (other : n ≡ p.number → ⊥). inr (in_either m (both m (queue.Acknowledges n)) (queue.Acknowledges n) p (λ is. absurd (other (same_number n p.number is))) refl refl there))
    (cases_eq n p.number)
letter_stays m OffersAgain p there = inr (in_either m (both m queue.OffersAgain) queue.OffersAgain p (λ is. absurd cc) refl refl there)
