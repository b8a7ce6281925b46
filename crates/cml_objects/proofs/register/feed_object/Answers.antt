use Rattle.std.proofs.Common.{◌≡◌, map, Some}
use Rattle.std.specs.Prelude.{slice_get}
use Rattle.cml_objects.proofs.Objects.{get_there, get-map, map-slice_set, touches_one, feeds_at}
use Rattle.cml_objects.proofs.register.feed_object.Goals as goal

pub returns-clause-states : goal.returns-clause-states
returns-clause-states g c =
    let objects = c.args.objects.now.items in
    let x = c.index_mut-object.result.now in
    let there : slice_get objects c.args.id ≡ Some x = get_there objects c.args.id x c.requires c.index_mut-object.ensures.value in
    rw (map-slice_set g.K.Source.state objects c.args.id c.feed.new.self)
    (feeds_at g.K.Source.fed (map g.K.Source.state objects) c.args.id (g.K.Source.state x)
    (g.K.Source.state c.feed.new.self) c.args.feed c.feed.result
    (get-map g.K.Source.state objects c.args.id x there) c.feed.ensures.state)

pub returns-clause-one : goal.returns-clause-one
returns-clause-one g c = touches_one c.args.objects.now.items c.args.id c.feed.new.self

pub returns-clause-room : goal.returns-clause-room
returns-clause-room g c = λ h.
    let objects = c.args.objects.now.items in
    let x = c.index_mut-object.result.now in
    let there : slice_get objects c.args.id ≡ Some x = get_there objects c.args.id x c.requires c.index_mut-object.ensures.value in
    c.feed.ensures.room (rw there at h)

pub returns-clause-roomy : goal.returns-clause-roomy
returns-clause-roomy g c = λ h. c.feed.ensures.room (g.met.K.Source.roomy h c.index_mut-object.result.now)
