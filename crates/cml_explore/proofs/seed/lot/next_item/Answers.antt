use Rattle.std.proofs.Common.{◌+◌, length, refl, ap, sym, ◌∙◌}
use Rattle.std.proofs.lemmas.Option.{slice_get_past}
use Rattle.cml_explore.specs.Generators.{by_generator}
use Rattle.cml_explore.proofs.LotLemmas.{lot_row}
use Rattle.cml_explore.proofs.seed.lot.next_item.Goals as goal

pub returns-in-None : goal.returns-in-None
returns-in-None c =
    let ready = c.args.ready.now in
    let row = lot_row by_generator c.args.hub.now.course.world c.args.chooser.now c.pick.new.self ready (length ready)
    c.row_choices.result (length ready + c.row_choices.result) c.pick.result c.requires refl c.row_choices.ensures
    refl
    c.if-choices-eq0.false c.pick.ensures.picked c.pick.ensures.next (sym (slice_get_past ready c.pick.result c.in-None.ensures.lookup.3)) in
    record {
      item = c.row_item_by_lot.ensures.item ∙ sym (ap (λ d. d.0) row);
      state = c.row_item_by_lot.ensures.state ∙ sym (ap (λ d. d.1) row);
    }
