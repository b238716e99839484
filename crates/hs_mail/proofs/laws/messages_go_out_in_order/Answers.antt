use Rattle.hs_mail.proofs.Deeds.{is_in_order, letter_stays}
use Rattle.hs_mail.proofs.laws.messages_go_out_in_order.Goals as goal

pub returns : goal.returns
returns c = record { in_order = is_in_order; stays = letter_stays }
