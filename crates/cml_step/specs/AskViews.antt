-- The view of an ask of `src/`.
use Rattle.cml_step.specs.Asks.{PlainAsk, nothing, yield, spawn, make_chan, make_swap, make_ivar, make_mvar, make_mailbox, make_mchan, make_port}
use Rattle.cml_step.specs.Asks.{copy_port, iput, mput, mail, multicast, print, now, fresh_nack, sync, end, fault}
use Rattle.cml_step.specs.declared.ask.Ask.{Ask}
use Rattle.cml_step.specs.declared.ask.Ask.TheVariants as asks

abbrev pub plain_ask : Ask → PlainAsk
plain_ask asks.Nothing = nothing
plain_ask asks.Yield = yield
plain_ask (asks.Spawn f) = spawn f
plain_ask asks.MakeChan = make_chan
plain_ask asks.MakeSwap = make_swap
plain_ask asks.MakeIVar = make_ivar
plain_ask (asks.MakeMVar v) = make_mvar v
plain_ask asks.MakeMailbox = make_mailbox
plain_ask asks.MakeMchan = make_mchan
plain_ask (asks.MakePort x) = make_port x.0
plain_ask (asks.CopyPort p) = copy_port p.0
plain_ask (asks.IPut i v) = iput i.0 v
plain_ask (asks.MPut m v) = mput m.0 v
plain_ask (asks.Mail b v) = mail b.0 v
plain_ask (asks.Multicast x v) = multicast x.0 v
plain_ask (asks.Print v) = print v
plain_ask asks.Now = now
plain_ask asks.Nack = fresh_nack
plain_ask (asks.Sync g) = sync g
plain_ask asks.End = end
plain_ask (asks.Fault why) = fault why
