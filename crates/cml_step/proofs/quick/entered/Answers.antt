use Rattle.std.proofs.Common.{◌≡◌, ◌∷◌, ◌++◌, [], ◌∙◌, length, ap, sym, subst, arith}
use Rattle.cml_step.specs.declared.call.Call.{Call}
use Rattle.cml_step.specs.Callers.{calls_on, AllCallsFit}
use Rattle.cml_step.specs.Calls.{call_at, entry_of, text_of}
use Rattle.cml_step.specs.Stacks.{CallFits}
use Rattle.cml_step.specs.Steps.{goes_on, pushed, ◌>>=◌}
use Rattle.cml_step.specs.Terms.{call_of}
use Rattle.cml_step.specs.Evaluate.{evaluate_all}
use Rattle.cml_step.specs.Variables.{bound, value_of}
use Rattle.cml_value.specs.Value.{function, values}
use Rattle.cml_check.specs.Syntax.{exprs_map, name_at}
use Rattle.cml_step.proofs.QuickLemmas.{on_pushed, fit_pushed, below_limit, entry_there, fits_there}
use Rattle.cml_step.proofs.quick.entered.Goals as goal

pub returns-clause-goes : goal.returns-clause-goes
returns-clause-goes c = λ on self below room.
    let p = c.args.program.now in
    let f = c.args.f.now in
    let old = c.args.call.now in
    let before = c.args.callers.now.items in
    let waiting = call_at f c.args.next old.slots.items c.args.wait in
    let kept : Call = record { func = old.func; at = c.args.next; slots = old.slots; wait = c.args.wait; asked = old.at } in
    let all : c.push_reserved.new.self.items ≡ before ++ kept ∷ [] = c.push_reserved.ensures.items
    ∙ ap (λ cs. cs ++ c.replace-waiting.result ∷ []) c.reserve.ensures.items
    ∙ ap (λ k. before ++ k ∷ []) c.replace-waiting.ensures.value in
    let stands : calls_on p c.push_reserved.new.self.items below ≡ waiting ∷ calls_on p before below =
    ap (λ cs. calls_on p cs below) all ∙ on_pushed p before kept below ∙ ap (λ e. e ∷ calls_on p before below) (entry_there p f kept c.requires.function.1) in
    ap (λ ws. evaluate_all (value_of (bound f.names ws)) (exprs_map (name_at f.names) c.args.es.now) >>= λ vs. pushed
    (call_of (text_of p) (function c.args.func (values vs))) (waiting ∷ calls_on p before below))
    (sym c.as_slice.ensures.value)
    ∙ c.in-Ok-begun.ensures.made self (waiting ∷ calls_on p before below)
    (below_limit p before c.args.room waiting below
    (omega (arith, ap length c.as_slice-count.ensures.value, c.if-count-room.false)) room)
    ∙ ap (λ t. goes_on (entry_of p c.in-Ok-begun.new ∷ t)) (sym stands)
    ∙ ap (λ k. goes_on (entry_of p k ∷ calls_on p c.push_reserved.new.self.items below)) (sym c.replace-waiting.ensures.after)

pub returns-clause-callers : goal.returns-clause-callers
returns-clause-callers c =
    let p = c.args.program.now in
    let old = c.args.call.now in
    let before = c.args.callers.now.items in
    let kept : Call = record { func = old.func; at = c.args.next; slots = old.slots; wait = c.args.wait; asked = old.at } in
    let all : c.push_reserved.new.self.items ≡ before ++ kept ∷ [] = c.push_reserved.ensures.items
    ∙ ap (λ cs. cs ++ c.replace-waiting.result ∷ []) c.reserve.ensures.items
    ∙ ap (λ k. before ++ k ∷ []) c.replace-waiting.ensures.value in
    subst (AllCallsFit p) (sym all) (fit_pushed p before kept c.requires.callers
    (fits_there p c.args.f.now kept c.requires.call.0.there c.requires.function.1 c.requires.call.0.agree
    c.requires.waits))

pub returns-clause-fits : goal.returns-clause-fits
returns-clause-fits c = subst (CallFits c.args.program.now) (sym c.replace-waiting.ensures.after) c.in-Ok-begun.ensures.fits
