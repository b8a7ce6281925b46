use Rattle.std.proofs.Common.{not, ◌++◌, add-one, length, length-append, ap, sym, ◌∙◌, arith}
use Rattle.std.specs.List.{filter}
use Rattle.std.proofs.lemmas.List.{append-nil}
use Rattle.cml_value.specs.Group.{bases, leaves}
use Rattle.cml_scan.specs.Light.{light_of}
use Rattle.cml_book.proofs.AwaitedLights.{split_step, split_few}
use Rattle.cml_book.proofs.Quiet.{none_lit}
use Rattle.cml_book.proofs.state.State.push_awaited.Goals as goal

pub returns-then-is_lightless-clause-lit : goal.returns-then-is_lightless-clause-lit
returns-then-is_lightless-clause-lit c =
    let none = none_lit (bases c.args.flat.now) (c.is_lightless.ensures c.if-is_lightless.true) in
    sym (append-nil c.args.lit.now.items) ∙ ap (λ ls. c.args.lit.now.items ++ filter (light_of c.args.self.now) ls) (sym none)

pub returns-then-is_lightless-clause-unlit : goal.returns-then-is_lightless-clause-unlit
returns-then-is_lightless-clause-unlit c =
    let none = none_lit (bases c.args.flat.now) (c.is_lightless.ensures c.if-is_lightless.true) in
    sym (append-nil c.args.unlit.now.items) ∙ ap (λ ls. c.args.unlit.now.items ++ filter (λ l. not (light_of c.args.self.now l)) ls) (sym none)

pub loop-n-preserved : goal.loop-n-preserved
loop-n-preserved c =
    let w = c.args.self.now in
    let on = split_few (light_of w) c.leaf.result.now in
    let off = split_few (λ l. not (light_of w l)) c.leaf.result.now in
    let longer_on = ap length c.push_light.ensures.lit ∙ length-append c.loop-n.lit.items _ in
    let longer_off = ap length c.push_light.ensures.unlit ∙ length-append c.loop-n.unlit.items _ in
    let room_on = c.push_light.ensures.room.0 in
    let room_off = c.push_light.ensures.room.1 in
    let fits_on = c.loop-n.invariant.fits_on in
    let fits_off = c.loop-n.invariant.fits_off in
    record {
      leads_on = rw (add-one, c.push_light.ensures.lit) (split_step (light_of w) (leaves c.args.flat.now) c.loop-n.n c.leaf.result.now c.loop-n.lit.items _ c.leaf.ensures c.loop-n.invariant.leads_on);
      leads_off = rw (add-one, c.push_light.ensures.unlit)
          (split_step (λ l. not (light_of w l)) (leaves c.args.flat.now) c.loop-n.n c.leaf.result.now
          c.loop-n.unlit.items _ c.leaf.ensures c.loop-n.invariant.leads_off);
      room_on = room_on ∙ c.loop-n.invariant.room_on;
      room_off = room_off ∙ c.loop-n.invariant.room_off;
      fits_on = omega arith;
      fits_off = omega arith;
    }
