use Rattle.std.proofs.Common.{◌≡◌}
use Rattle.cml_picture.proofs.TextLemmas.{attributes_more, attributes_start}
use Rattle.cml_picture.proofs.svg.xml.attributes_text.Goals as goal

pub loop-attribute-preserved : goal.loop-attribute-preserved
loop-attribute-preserved c =
    attributes_more c.args.attributes.now c.loop-attribute.attribute-index _ c.loop-attribute.text.items _ c.loop-attribute-test.true c.loop-attribute.invariant c.in_ok-push_attribute.ensures

pub loop-attribute-init : goal.loop-attribute-init
loop-attribute-init c = attributes_start c.new-text.result.items c.new-text.ensures.items
