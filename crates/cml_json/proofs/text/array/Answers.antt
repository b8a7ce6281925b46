use Rattle.std.proofs.Common.{◌∙◌, ap, arith, codes, ◌++◌}
use Rattle.cml_json.proofs.ListLemmas.{list_next}
use Rattle.cml_json.proofs.text.array.Goals as goal

pub loop-place-preserved : goal.loop-place-preserved
loop-place-preserved c =
    list_next (λ t. t.items) (codes "[") c.loop-place.text.items c.push_comma.new.text.items c.extend_from_slice.new.self.items c.args.texts.now c.loop-place.place
    c.index-texts-place.result c.index-texts-place.result (omega arith) c.index-texts-place.is c.loop-place.invariant c.in_ok-push_comma.ensures
    (c.in_ok-extend_from_slice.ensures.items ∙ ap (λ b. c.push_comma.new.text.items ++ b) c.as_slice.ensures.value)
