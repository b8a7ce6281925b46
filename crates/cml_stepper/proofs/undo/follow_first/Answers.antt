use Rattle.std.proofs.Common.{◌<◌, ◌++◌, ◌∷◌, [], length, get_or, arith, ap, ◌∙◌}
use Rattle.cml_schedule.specs.declared.item.Item.TheVariants.{Turn}
use Rattle.cml_facts.proofs.ReplayLemmas.{next_allowed, item_at, taken_more}
use Rattle.cml_stepper.proofs.undo.follow_first.Goals as goal

pub come-requires-clause-allowed : goal.come-requires-clause-allowed
come-requires-clause-allowed c =
    let items = c.schedule-items.result.now in
    let within : c.loop-i.i < length items = omega (arith, ap length c.schedule-items.ensures.items, c.requires.within) in
    next_allowed items c.args.hub.now.course c.loop-i.second.course c.loop-i.i (get_or items c.loop-i.i (Turn (record { 0 = 0 }))) within (item_at items c.loop-i.i (Turn (record { 0 = 0 })) within)
    c.schedule-items.ensures.items c.schedule-items.ensures.leads c.loop-i.invariant.program c.loop-i.invariant.items c.schedule-so_far.ensures.leads

pub loop-i-preserved : goal.loop-i-preserved
loop-i-preserved c =
    let items = c.schedule-items.result.now in
    let item = get_or items c.loop-i.i (Turn (record { 0 = 0 })) in
    let within : c.loop-i.i < length items = omega (arith, ap length c.schedule-items.ensures.items, c.requires.within) in
    let is = item_at items c.loop-i.i (Turn (record { 0 = 0 })) within in
    let inv = c.loop-i.invariant in
    record {
      upto = omega arith;
      program = c.in_ok-come.ensures.program ∙ inv.program;
      budget = c.in_ok-come.ensures.budget ∙ inv.budget;
      items = c.in_ok-come.ensures.items ∙ (ap (λ xs. xs ++ item ∷ []) inv.items ∙ taken_more items c.loop-i.i item within is);
      none_out = c.in_ok-come.ensures.none_out;
      knows = c.in_ok-come.ensures.knows;
      places = c.in_ok-come.ensures.places ∙ inv.places;
    }
