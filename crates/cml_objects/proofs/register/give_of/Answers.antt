use Rattle.std.proofs.Common.{◌≡◌, Some, refl}
use Rattle.std.specs.Prelude.{slice_get}
use Rattle.cml_objects.proofs.Objects.{get_there, get-map, map-slice_set, touches_one, room_after, lit_bound}
use Rattle.cml_objects.proofs.register.give_of.Goals as goal

pub returns-clause-one : goal.returns-clause-one
returns-clause-one g c = touches_one c.args.objects.now.items c.args.id c.give.new.self

pub returns-clause-states : goal.returns-clause-states
returns-clause-states g c =
    let objects = c.args.objects.now.items in
    let x = c.index_mut-object.result.now in
    let there : slice_get objects c.args.id ≡ Some x = get_there objects c.args.id x (lit_bound g.K.Source.state g.K.Source.is_lit objects c.args.id c.requires.lit) c.index_mut-object.ensures.value in
    rw (map-slice_set g.K.Source.state objects c.args.id c.give.new.self, get-map g.K.Source.state objects c.args.id x there, c.give.ensures.state) refl

pub returns-clause-kept : goal.returns-clause-kept
returns-clause-kept g c =
    let objects = c.args.objects.now.items in
    let x = c.index_mut-object.result.now in
    let there : slice_get objects c.args.id ≡ Some x = get_there objects c.args.id x (lit_bound g.K.Source.state g.K.Source.is_lit objects c.args.id c.requires.lit) c.index_mut-object.ensures.value in
    room_after g.K.Source.has_room objects c.args.id x c.give.new.self there c.give.ensures.kept
