use Rattle.hs_c.proofs.pages.hindcore_page_read.Goals as goal

pub returns-in-Err-Short-clause-shown : goal.returns-in-Err-Short-clause-shown
returns-in-Err-Short-clause-shown c sheet shows = cc (c.in-Err-Short.ensures.page sheet shows)

pub returns-in-Err-Empty-clause-shown : goal.returns-in-Err-Empty-clause-shown
returns-in-Err-Empty-clause-shown c sheet shows = cc (c.in-Err-Empty.ensures.page sheet shows)

pub returns-in-Err-Torn-clause-shown : goal.returns-in-Err-Torn-clause-shown
returns-in-Err-Torn-clause-shown c sheet shows = cc (c.in-Err-Torn.ensures.page sheet shows)
