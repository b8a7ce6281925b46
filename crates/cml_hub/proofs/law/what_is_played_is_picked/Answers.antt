use Rattle.cml_hub.proofs.Picking.{plays_pick}
use Rattle.cml_hub.proofs.law.what_is_played_is_picked.Goals as goal

pub returns : goal.returns
returns g c p budget from to = plays_pick (record { picks = g.C.Chooser.picks; next = g.C.Chooser.next }) p budget from to
