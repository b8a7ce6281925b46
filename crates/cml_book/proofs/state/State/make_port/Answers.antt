use Rattle.std.proofs.Common.{refl, sym}
use Rattle.cml_book.specs.Views.{ports_of}
use Rattle.cml_book.specs.contracts.state.State.{the_view}
use Rattle.cml_book.proofs.ObjectLemmas.{stays_kept}
use Rattle.cml_book.proofs.PortSteps.{queue_count}
use Rattle.cml_book.proofs.PostedLights.{make_port_true}
use Rattle.cml_book.proofs.state.State.make_port.Goals as goal

pub returns-clause-kept : goal.returns-clause-kept
returns-clause-kept g c =
    rw (← c.self.view_is, c.in-Ok.ensures.added.ports) (stays_kept _ _ _ _ _ _ refl refl c.in-Ok.ensures.told.entries
    (make_port_true (the_view c.self.inside) _ _ (ports_of c.add_port.new.channels.items) c.new.result.items _ (sym (queue_count c.self.inside.ports.objects)) c.in-Ok.ensures.told.ok))
