-- Lines that are answered one after another.
use Rattle.std.proofs.Common.{ℕ, Bool, true, false, List, [], ◌∷◌, ◌++◌, refl, subst, ◌∙◌}
use Rattle.cml_hub.specs.Kept.{Kept}
use Rattle.cml_phrase.specs.declared.place.Place.{Place}
use Rattle.cml_stepper.specs.declared.reply.Reply.{Reply}
use Rattle.cml_stepper.specs.Replies.{AnswersLine, is_end}
use Rattle.cml_stepper.specs.Sessions.{Session, ComesBehind}
use Rattle.cml_stepper.proofs.ReplyLemmas.{KeepsBoth, same_keeps, done_keeps}

over_now : (ends : Bool) (places : List (List Place)) (h : Kept) → ComesBehind ends h [] ends h (Session places h [] ends h)
over_now true places h = (refl, refl, refl)
over_now false places h = (refl, refl)

-- one line
pub one_line : (places : List (List Place)) (h next : Kept) (line : List ℕ) (r : Reply) → AnswersLine places h line r next → Session places h (line ∷ []) (is_end r) next
one_line places h next line r answered = (r, next, answered, over_now (is_end r) places next)

behind_both : (stops : Bool) (h last mid : Kept) (lines more : List (List ℕ)) (ends : Bool) (On Both : Type 0) → (On → Both) → ComesBehind stops h lines false mid On →
    ComesBehind stops h (lines ++ more) ends last Both
behind_both true h last mid lines more ends On Both step held = let never = held.1 in absurd cc
behind_both false h last mid lines more ends On Both step held = step held

-- these lines, and more behind them
pub session_both : (places : List (List Place)) (h mid last : Kept) (lines more : List (List ℕ)) (ends : Bool) → Session places h lines false mid → Session places mid more ends last →
    Session places h (lines ++ more) ends last
session_both places h mid last [] more ends held on = subst (λ k. Session places k more ends last) held.1 on
session_both places h mid last (l ∷ lines) more ends held on =
    let next = held.1 in (
      held.0,
      next,
      held.2,
      behind_both (is_end held.0) next last mid lines more ends (Session places next lines false mid) (Session places next (lines ++ more) ends last)
          (λ rest. session_both places next mid last lines more ends rest on) held.3,
    )

behind_keeps : (stops : Bool) (h last : Kept) (lines : List (List ℕ)) (ends : Bool) (On : Type 0) → (On → KeepsBoth h last) → ComesBehind stops h lines ends last On → KeepsBoth h last
behind_keeps true h last lines ends On step held = same_keeps h last held.2
behind_keeps false h last lines ends On step held = step held

-- the program and the budget stay
pub session_keeps : (places : List (List Place)) (h last : Kept) (lines : List (List ℕ)) (ends : Bool) → Session places h lines ends last → KeepsBoth h last
session_keeps places h last [] ends held = same_keeps h last held.1
session_keeps places h last (l ∷ lines) ends held =
    let next = held.1 in
    let own = held.2 in
    let first = done_keeps places own.0 h next held.0 own.2 in
    let rest = behind_keeps (is_end held.0) next last lines ends (Session places next lines ends last) (λ on. session_keeps places next last lines ends on) held.3 in
    (rest.0 ∙ first.0, rest.1 ∙ first.1)
