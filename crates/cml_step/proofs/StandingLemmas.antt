-- The statement that has a call wait, and those that are left after it.
use Rattle.std.proofs.Common.{◌≡◌, ℕ, sym, subst, ap, ◌∙◌}
use Rattle.cml_check.specs.Syntax.{PlainItem, PlainEffect, effect, let_be, just_do, stmts_and, stmts_map, effect_map, name_at}
use Rattle.cml_check.specs.Layout.{left}
use Rattle.cml_step.specs.declared.call.Wait.{Wait}
use Rattle.cml_step.specs.declared.call.Wait.TheVariants as wait
use Rattle.cml_step.specs.declared.call.Call.{Call}
use Rattle.cml_step.specs.Variables.{bound}
use Rattle.cml_step.specs.Terms.{call}
use Rattle.cml_step.specs.Calls.{statements_at, wait_of, entry_for}
use Rattle.cml_step.specs.Standing.{StandsAt}

-- a call that waits for this stands at the place
abbrev pub StandsSo : PlainItem ℕ → ℕ → Call → Wait → Type 0
StandsSo f place c w = StandsAt f place (call (statements_at f c.at) (bound f.names c.slots.items) (wait_of f.names w))

pub drops_here : (f : PlainItem ℕ) (c : Call) (place next : ℕ) (e : PlainEffect ℕ) → c.wait ≡ wait.Drops → next ≡ c.at →
    left f.body place ≡ stmts_and (just_do e) (left f.body next) → StandsAt f place (entry_for f c)
drops_here f c place next e w n h =
    let name = name_at f.names in
    subst (StandsSo f place c) (sym w) (effect_map name e, ap (stmts_map name) h ∙ ap (λ k. stmts_and (just_do (effect_map name e)) (statements_at f k)) n)

pub gives_here : (f : PlainItem ℕ) (c : Call) (place next slot given : ℕ) (e : PlainEffect ℕ) → c.wait ≡ wait.Gives given → next ≡ c.at → slot ≡ given →
    left f.body place ≡ stmts_and (let_be slot (effect e)) (left f.body next) → StandsAt f place (entry_for f c)
gives_here f c place next slot given e w n s h =
    let name = name_at f.names in
    subst (StandsSo f place c) (sym w) (
      effect_map name e,
      ap (stmts_map name) h ∙ ap (λ k. stmts_and (let_be (name slot) (effect (effect_map name e))) (statements_at f k)) n
          ∙ ap (λ x. stmts_and (let_be (name x) (effect (effect_map name e))) (statements_at f c.at)) s,
    )
