use Rattle.std.proofs.Common.{◌≡◌, None, ◌∙◌, ap, rules, sym}
use Rattle.cml_step.specs.Calls.{text_of}
use Rattle.cml_hub.specs.Runs.{stands}
use Rattle.cml_judge.proofs.stop.hub_after.Goals as goal

pub returns-in-Ok : goal.returns-in-Ok
returns-in-Ok c =
    let r = c.in-Ok.ensures in
    record {
      program = r.program ∙ (c.in_ok-again.ensures ∙ c.program.ensures);
      budget_is = r.budget_is ∙ c.budget.ensures.budget;
      watch_is = r.watch_is;
      items_are = r.items_are;
      none_out = r.none_out;
      none_due = r.none_due;
    }

pub unreachable-requires : goal.unreachable-requires
unreachable-requires c =
    let none : stands (text_of c.in_ok-again.again) c.args.items.now ≡ None = search rules in
    c.requires (ap (λ q. stands (text_of q) c.args.items.now) (sym (c.in_ok-again.ensures ∙ c.program.ensures)) ∙ none)
