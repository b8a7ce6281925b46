use Rattle.std.proofs.lemmas.Bool.{false≢true}
use Rattle.cml_book.proofs.PortLemmas.{found_there, each_below, room_found, port_added}
use Rattle.cml_book.proofs.ports.add_at.Goals as goal

pub add-requires : goal.add-requires
add-requires c = each_below c.args.channels.now.items c.args.channel.0 c.args.port.0 c.index_mut-found.result.now (found_there _ _ _ c.requires.there c.index_mut-found.ensures.value) c.requires.below

pub unreachable-requires : goal.unreachable-requires
unreachable-requires c =
    let there = found_there _ _ _ c.requires.there c.index_mut-found.ensures.value in
    false≢true (c.in_default.ensures.room (room_found c.args.channels.now.items c.args.channel.0 _ there c.requires.room))

pub returns-clause-ports : goal.returns-clause-ports
returns-clause-ports c = port_added c.args.channels.now.items c.args.channel.0 c.index_mut-found.result.now _
    c.args.port (found_there _ _ _ c.requires.there c.index_mut-found.ensures.value) c.in-Ok.ensures.ok
