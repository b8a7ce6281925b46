use Rattle.std.proofs.Common.{◌∙◌, ◌++◌, ◌∷◌, [], refl, ap, rules, List, Option}
use Rattle.cml_value.specs.Value.{PlainValue}
use Rattle.cml_book.specs.contracts.state.State.{the_view}
use Rattle.cml_book.proofs.ObjectLemmas.{stays_kept, make_mvar_true, same_variables}
use Rattle.cml_book.proofs.state.State.make_mvar.Goals as goal

pub returns-clause-kept : goal.returns-clause-kept
returns-clause-kept g c =
    let s = c.self.inside in
    let same = same_variables c.room.new.self.objects s.mvars.objects c.in-Ok.ensures.states in
    let pushed = c.in-Ok-make.ensures.objects ∙ ap (λ (xs : List (Option PlainValue)). xs ++ c.new.result ∷ []) same ∙ ap (λ (v : Option PlainValue). s.mvars.objects ++ v ∷ []) c.new.ensures in
    let next = c.len-2.ensures ∙ c.in-Ok.ensures.len in
    rw (← c.self.view_is, pushed) (stays_kept _ _ _ _ _ _ refl refl c.in-Ok-tell_lit.ensures.entries
    (make_mvar_true (the_view s) _ _ c.args.held c.is_none.result c.len-2.result (search rules) next c.in-Ok-tell_lit.ensures.ok))
