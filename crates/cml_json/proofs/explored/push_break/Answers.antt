use Rattle.std.proofs.Common.{ℕ, Option, ap, codes}
use Rattle.std.specs.Fmt.{decimal}
use Rattle.cml_json.specs.Json.{member, optional}
use Rattle.cml_json.specs.Explored.{break_json}
use Rattle.cml_json.specs.Runs.{named_json}
use Rattle.cml_facts.specs.declared.ending.awaited.Named.{Named}
use Rattle.cml_json.proofs.ListLemmas.{closed, first_member, next_as, next_member}
use Rattle.cml_json.proofs.explored.push_break.Goals as goal

pub returns : goal.returns
unfolding break_json
returns c =
    let number = first_member (codes "{") _ _ _ c.in_ok-push_number.ensures in
    let word = next_member _ _ _ _ _ _ _ number c.in_ok-push_word.ensures in
    let before = next_as _ _ _ _ _ _ _ _ word (ap (λ (n : Option ℕ). member (codes "lines_before") (optional decimal n)) c.lines_before-lines.ensures) c.in_ok-push_optional_number.ensures in
    let item = next_as _ _ _ _ _ _ _ _ before (ap (λ (n : Option ℕ). member (codes "item") (optional decimal n)) c.item_of.ensures) c.in_ok-push_optional_number-2.ensures in
    let who = next_as _ _ _ _ _ _ _ _ item
    (ap (λ (n : Option Named). member (codes "thread") (optional (named_json c.args.forms.now) n)) c.as_ref.ensures.value) c.in_ok-push_optional_named.ensures in
    closed _ _ _ _ who c.in_ok-extend_from_slice.ensures.items
