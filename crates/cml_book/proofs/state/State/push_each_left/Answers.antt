use Rattle.std.proofs.Common.{◌∙◌, arith}
use Rattle.cml_value.specs.Group.{bases}
use Rattle.cml_scan.specs.World.{pending}
use Rattle.cml_book.specs.Clock.{bases_awaited}
use Rattle.cml_book.specs.Leaving.{is_left, bases_of}
use Rattle.cml_book.proofs.Alarms.{left_step, left_longer}
use Rattle.cml_book.proofs.state.State.push_each_left.Goals as goal

pub push_left_tick-requires : goal.push_left_tick-requires
push_left_tick-requires c =
    let fits = c.loop-n.invariant.fits in
    let all = c.len-n-end.ensures in
    let below = c.loop-n-test.true in
    omega arith

pub loop-n-preserved : goal.loop-n-preserved
loop-n-preserved c =
    let p = is_left (bases_awaited (pending c.args.self.now)) (bases c.args.flat.now) (bases_of c.args.other) in
    let fits = c.loop-n.invariant.fits in
    let all = c.len-n-end.ensures in
    let below = c.loop-n-test.true in
    let longer = left_longer p c.leaf.result.now c.loop-n.lights.items c.push_left_tick.new.lights.items c.push_left_tick.ensures.lights in
    let same = c.push_left_tick.ensures.room in
    record {
      leads = left_step p c.args.flat.now c.loop-n.n c.leaf.result.now c.loop-n.lights.items
          c.push_left_tick.new.lights.items _ c.leaf.ensures c.loop-n.invariant.leads c.push_left_tick.ensures.lights;
      room = c.push_left_tick.ensures.room ∙ c.loop-n.invariant.room;
      fits = omega arith;
    }
