use Rattle.std.proofs.Common.{ap, ◌∙◌, map}
use Rattle.cml_picture.specs.Views.{attribute_name}
use Rattle.cml_picture.specs.Xml.{lone_element}
use Rattle.cml_picture.proofs.TextLemmas.{lone_added}
use Rattle.cml_picture.proofs.svg.content.Content.add_lone.Goals as goal

pub invariant_of-self : goal.invariant_of-self
invariant_of-self c = record {
  content = lone_added c.args.self.now.text.items _ c.as_slice-2.result.now c.args.name.now c.in_ok-own.own.items (map attribute_name c.args.attributes.now) _
      c.args.self.now.content c.requires c.in_ok-own.ensures
      (c.as_slice-2.ensures.value ∙ c.in_ok-text.ensures ∙ ap (λ own. lone_element c.args.name.now own) c.as_slice.ensures.value)
      c.extend_from_slice.ensures.items;
}
