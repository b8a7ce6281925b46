use Rattle.std.proofs.Common.{ap, ◌∙◌, ◌++◌}
use Rattle.cml_picture.specs.Xml.{escaped_words}
use Rattle.cml_picture.proofs.TextLemmas.{words_added}
use Rattle.cml_picture.proofs.svg.content.Content.add_words.Goals as goal

pub invariant_of-self : goal.invariant_of-self
invariant_of-self c = record {
  content = words_added c.args.self.now.text.items _ c.as_slice.result.now c.args.words.now _ c.args.self.now.content
      (c.as_slice.ensures.value ∙ c.in_ok-push_escaped.ensures ∙ ap (λ x. x ++ escaped_words c.args.words.now) c.new-text.ensures.items)
      c.extend_from_slice.ensures.items;
}
