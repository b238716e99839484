-- What one fact of a call says clause by clause, and the same clauses of words that are the same command.
use Rattle.std.proofs.Common.{◌≡◌, ◌⊎◌, ℕ, List, Option, Some, inl, inr, subst}
use Rattle.hs_base.specs.Outside.{Rose}
use Rattle.hs_cli.specs.Endings.{Ends, EndsWith, Wrote, WroteFront, Reading}
use Rattle.hs_cli.specs.declared.command.Command.{Command}
use Rattle.hs_cli.specs.declared.command.Command.TheVariants.{Watch}
use Rattle.hs_cli.proofs.EndingLemmas.{worded}
use Rattle.hs_workload.specs.declared.status.Status.{Status}
use Rattle.hs_workload.specs.declared.status.Status.TheVariants.{Done, Usage, Refused, ReadFault, WriteFault, TooLong, Unlawful}

-- ---- of words that are `run --watch`

module _ (asked : Option Command) (is : asked ≡ Some Watch) (left left' written written' : Option (List ℕ)) (source source' sink sink' : ℕ) (result : Status)
    (ends : EndsWith Watch left left' written written' source source' sink sink' result) where
  pub all_ends : Ends asked left left' written written' source source' sink sink' result
  all_ends = worded Watch left left' written written' source source' sink sink' asked is result ends

  at_status : (status : Status) → result ≡ status → Ends asked left left' written written' source source' sink sink' status
  at_status status it = subst (λ (s : Status). Ends asked left left' written written' source source' sink sink' s) it all_ends

  pub wrote_done : result ≡ Done → Wrote asked left left' written written' Done
  wrote_done it = (at_status Done it).1

  pub wrote_usage : result ≡ Usage → Wrote asked left left' written written' Usage
  wrote_usage it = (at_status Usage it).1

  pub wrote_refused : result ≡ Refused → Wrote asked left left' written written' Refused
  wrote_refused it = (at_status Refused it).1

  pub wrote_unlawful : result ≡ Unlawful → Wrote asked left left' written written' Unlawful
  wrote_unlawful it = (at_status Unlawful it).1

  pub wrote_too_long : result ≡ TooLong → Wrote asked left left' written written' TooLong
  wrote_too_long it = (at_status TooLong it).1

  pub wrote_front : result ≡ WriteFault → WroteFront asked left left' written written'
  wrote_front it = let (read, rose, front) = at_status WriteFault it in front

  pub failed_reading : result ≡ ReadFault → Reading asked × Rose source source'
  failed_reading it = let (reading, rose, still, same, front) = at_status ReadFault it in (reading, rose)

-- it is a command that reads
pub watch_reads : (asked : Option Command) → asked ≡ Some Watch → Reading asked
watch_reads asked is = (Watch, is, tt)

-- ---- of words that are the same command

module _ (asked other : Option Command) (same : asked ≡ other) (left left' written written' : Option (List ℕ)) where
  pub same_wrote : (status : Status) → Wrote asked left left' written written' status → Wrote other left left' written written' status
  same_wrote status wrote = subst (λ (it : Option Command). Wrote it left left' written written' status) same wrote

  pub same_front : WroteFront asked left left' written written' → WroteFront other left left' written written'
  same_front wrote = subst (λ (it : Option Command). WroteFront it left left' written written') same wrote

pub same_reading : (asked other : Option Command) → asked ≡ other → Reading asked → Reading other
same_reading asked other same reading = subst (λ (it : Option Command). Reading it) same reading

pub same_untouched : (asked other : Option Command) → asked ≡ other → (Rest : Type 0) → Reading asked ⊎ Rest → Reading other ⊎ Rest
same_untouched asked other same Rest (inl reading) = inl (same_reading asked other same reading)
same_untouched asked other same Rest (inr rest) = inr rest
