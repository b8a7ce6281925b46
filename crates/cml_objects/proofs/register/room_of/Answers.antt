use Rattle.std.proofs.Common.{◌≡◌, map, Some}
use Rattle.std.specs.Prelude.{slice_get}
use Rattle.cml_objects.proofs.Objects.{get_there, get-map, map-slice_set, touches_one, room_after, with_same, get_set_same}
use Rattle.cml_objects.proofs.register.room_of.Goals as goal

pub returns-clause-states : goal.returns-clause-states
returns-clause-states g c =
    let objects = c.args.objects.now.items in
    let x = c.index_mut-object.result.now in
    let there : slice_get objects c.args.id ≡ Some x = get_there objects c.args.id x c.requires c.index_mut-object.ensures.value in
    rw (map-slice_set g.K.Source.state objects c.args.id c.room.new.self)
    (with_same (map g.K.Source.state objects) c.args.id (g.K.Source.state x) (g.K.Source.state c.room.new.self) (get-map g.K.Source.state objects c.args.id x there) c.room.ensures.state)

pub returns-clause-one : goal.returns-clause-one
returns-clause-one g c = touches_one c.args.objects.now.items c.args.id c.room.new.self

pub returns-clause-ok : goal.returns-clause-ok
returns-clause-ok g c = rw (get_set_same c.args.objects.now.items c.args.id c.room.new.self c.requires) c.room.ensures.ok

pub returns-clause-kept : goal.returns-clause-kept
returns-clause-kept g c =
    let objects = c.args.objects.now.items in
    let x = c.index_mut-object.result.now in
    let there : slice_get objects c.args.id ≡ Some x = get_there objects c.args.id x c.requires c.index_mut-object.ensures.value in
    room_after g.K.Source.has_room objects c.args.id x c.room.new.self there c.room.ensures.kept
