use Rattle.std.proofs.Common.{◌<◌, length, ◌∙◌, arith, add-one, slice_index_or}
use Rattle.cml_value.specs.Group.{scopes}
use Rattle.cml_book.proofs.Scopes.{scope_at, lights_from, length_nacks, length_lit}
use Rattle.cml_book.proofs.nacks.push_lights.Goals as goal

pub push_light-requires : goal.push_light-requires
push_light-requires c =
    let fits = c.loop-i.invariant.fits in
    let all = length_nacks (scopes c.args.flat.now) c.scopes-nacks.result.now c.scopes-nacks.ensures.nacks in
    let below : c.loop-i.i < length c.scopes-nacks.result.now = c.loop-i-test.true in
    omega arith

pub loop-i-preserved : goal.loop-i-preserved
loop-i-preserved c =
    let k = slice_index_or c.scopes-nacks.result.now c.loop-i.i (record { 0 = 0 }) in
    let p = scope_at c.args.leaf c.loop-i.i (scopes c.args.flat.now) c.scopes-nacks.result.now c.loses.result (record { 0 = 0 }) c.loop-i-test.true c.scopes-nacks.ensures.nacks c.loses.ensures in
    let leads = lights_from _ _ _ k c.loses.result c.loop-i.lights.items _ p c.loop-i.invariant.leads in
    let all = length_nacks (scopes c.args.flat.now) c.scopes-nacks.result.now c.scopes-nacks.ensures.nacks in
    let below : c.loop-i.i < length c.scopes-nacks.result.now = c.loop-i-test.true in
    let longer = length_lit c.loses.result k.0 c.loop-i.lights.items c.push_light.new.lights.items c.push_light.ensures.lights in
    let room = c.push_light.ensures.room in
    let fits = c.loop-i.invariant.fits in
    record {
      leads = rw (add-one, c.push_light.ensures.lights) leads;
      room = room ∙ c.loop-i.invariant.room;
      fits = omega arith;
    }
