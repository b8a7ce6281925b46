use Rattle.cml_book.proofs.PortLemmas.{found_there, room_made, room_there}
use Rattle.cml_book.proofs.ports.room_at.Goals as goal

pub returns-clause-ports : goal.returns-clause-ports
returns-clause-ports c = room_made _ _ c.index_mut-found.result.now _ (found_there _ _ _ c.requires c.index_mut-found.ensures.value) c.room.ensures.ports

pub returns-clause-ok : goal.returns-clause-ok
returns-clause-ok c = room_there c.args.channels.now.items _ c.room.new.self c.room.result c.requires c.room.ensures.ok
