use Rattle.std.proofs.Common.{ap, ◌∙◌, map}
use Rattle.cml_picture.specs.Views.{attribute_name}
use Rattle.cml_picture.specs.Xml.{element}
use Rattle.cml_picture.proofs.TextLemmas.{element_added}
use Rattle.cml_picture.proofs.svg.content.Content.add_element.Goals as goal

pub invariant_of-self : goal.invariant_of-self
invariant_of-self c = record {
  content = element_added c.args.self.now.text.items _ c.as_slice-3.result.now c.args.name.now c.in_ok-own.own.items c.args.inner.now.text.items
      (map attribute_name c.args.attributes.now) _ c.args.self.now.content c.args.inner.now.content c.requires c.in_ok-own.ensures
      (c.as_slice-3.ensures.value ∙ c.in_ok-text.ensures
      ∙ ap (λ own. element c.args.name.now own c.as_slice-2.result.now) c.as_slice.ensures.value
      ∙ ap (λ inner. element c.args.name.now c.in_ok-own.own.items inner) c.as_slice-2.ensures.value)
      c.extend_from_slice.ensures.items;
}
