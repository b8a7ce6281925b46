-- The members of a choice that is being forced.
use Rattle.std.proofs.Common.{◌≡◌, ℕ, zero, suc, ◌+◌, ◌*◌, ◌<◌, ◌≤◌, List, [], ◌∷◌, ◌++◌, length, get_or, drop, ap, sym, ◌∙◌, arith, add-one}
use Rattle.std.proofs.Math.Seq.{drop-cons}
use Rattle.std.proofs.lemmas.List.{drop_all}
use Rattle.cml_value.specs.Value.{PlainEvent, events}
use Rattle.cml_value.specs.Heights.{event_height, events_height}
use Rattle.cml_value.specs.Group.{PlainGroup, choose, groups}
use Rattle.cml_group.specs.Force.{event_of}
use Rattle.cml_group.specs.Frames.{PlainFrame, in_choice, choice, framed, plug}
use Rattle.cml_group.proofs.Plugs.{plug_push, choice_whole}

member_height : (es : List PlainEvent) (i : ℕ) (d : PlainEvent) → i < length es → event_height (get_or es i d) < events_height (events es)
member_height [] i d h = absurd (omega arith)
member_height (e ∷ es) zero d h = omega arith
member_height (e ∷ es) (suc i) d h = omega (arith, member_height es i d (omega arith))

-- a member lies lower than the choice, so a walk through it ends
pub member_low : (es vs : List PlainEvent) (i : ℕ) (e : PlainEvent) → es ≡ vs → i < length vs → e ≡ get_or es i e → 2 * event_height e + 1 < 2 * events_height (events vs)
member_low es vs i e same h is =
    let low = member_height vs i e h in
    let f : event_height e ≡ event_height (get_or vs i e) = ap event_height (is ∙ ap (λ l. get_or l i e) same) in
    omega arith

-- the members to come begin with the member of this number
pub members_next : (es vs : List PlainEvent) (i : ℕ) (e : PlainEvent) → es ≡ vs → i < length vs → e ≡ get_or es i e → drop i vs ≡ e ∷ drop (i + 1) vs
members_next es vs i e same h is =
    rw add-one (drop-cons vs i e h ∙ ap (λ x. x ∷ drop (suc i) vs) (sym (is ∙ ap (λ l. get_or l i e) same)))

-- a choice in whose member something is unforced
pub open_choice : (fs all : List PlainFrame) (f : PlainFrame) (gs : List PlainGroup) (place e : PlainEvent) (es rest : List PlainEvent) (whole : PlainEvent) →
    all ≡ fs ++ f ∷ [] → f ≡ in_choice gs rest → plug fs place ≡ e → es ≡ e ∷ rest → choice gs es ≡ whole → plug all place ≡ whole
open_choice fs all f gs place e es rest whole a b c d w =
    ap (λ l. plug l place) a ∙ plug_push fs f place ∙ ap (λ x. framed x (plug fs place)) b ∙ ap (λ x. choice gs (x ∷ rest)) c ∙ ap (choice gs) (sym d) ∙ w

-- a choice in which nothing is left
pub whole_choice : (gs : List PlainGroup) (es : List PlainEvent) (i : ℕ) (whole : PlainEvent) → length es ≤ i → choice gs (drop i es) ≡ whole → event_of (choose (groups gs)) ≡ whole
whole_choice gs es i whole h w = sym (choice_whole gs) ∙ ap (choice gs) (sym (drop_all i es h)) ∙ w
