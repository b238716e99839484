-- How a mail lies in memory: no outbox had a number that is still to come.
use Rattle.std.specs.Prelude.{◌≤◌}
use Rattle.hs_mail.specs.Letters.{Letters}
use Rattle.hs_mail.specs.declared.mail.Mail.TheInside.{Inside}

abbrev pub letters_in : Inside → Letters
letters_in m = record { node = m.node; epoch = m.epoch; fresh = m.fresh; pages = m.pages; words = m.words }

pub record IsMail (m : Inside) : Type 0 where
  pub pages : m.pages.fresh ≤ m.fresh
  pub words : m.words.fresh ≤ m.fresh
