-- Why a schedule is not drawn.
use Rattle.std.proofs.Common.{◌≡◌, ◌∙◌, ◌+◌, ◌≤◌, ℕ, List, [], ◌∷◌, take, length, length-append, arith, ap, inl, inr}
use Rattle.std.proofs.lemmas.List.{length-take}
use Rattle.cml_check.specs.Syntax.{PlainItem}
use Rattle.cml_hub.specs.Courses.{PlainCourse}
use Rattle.cml_hub.specs.Kept.{Kept}
use Rattle.cml_schedule.specs.Plans.{PlainPlan}
use Rattle.cml_arguments.specs.declared.PartOptions.{PartOptions}
use Rattle.cml_host.specs.Drawn.{AreDrawn, AreUndrawn, IsPlanDrawn, IsPlanUndrawn}
use Rattle.cml_host.specs.Plans.{Opens}
use Rattle.cml_picture.specs.Draws.{HasUnfit}
use Rattle.cml_schedule.specs.declared.item.Item.{Item}

length_take : (n : ℕ) (xs : List Item) → length (take n xs) ≤ length xs
length_take n xs = omega (arith, length-take n xs)

-- the item that can't happen is one of the items
pub unfit_within : (start : PlainCourse) (items : List Item) (to number : ℕ) (end : PlainCourse) → start.items ≡ [] → HasUnfit start (take to items) number end →
    (1 ≤ number) × (number ≤ length items)
unfit_within start items to number end none h =
    let first : length start.items ≡ 0 = ap length none in
    let all : length (take to items) ≡ length h.done + length (h.item ∷ h.rest) = ap length h.split ∙ length-append h.done (h.item ∷ h.rest) in
    let few = length_take to items in
    let counted = h.counted in
    (omega (arith, counted), omega (arith, counted, first, all, few))

-- from the beginning of a run on
pub plan_drawn : (options : PartOptions) (p : List (PlainItem ℕ)) (plan : PlainPlan) (start : Kept) (picture : List ℕ) → Opens p plan.budget start →
    AreDrawn options start.course plan.items picture → IsPlanDrawn options p plan picture
plan_drawn options p plan start picture opens drawn = (start, opens, drawn)

pub plan_undrawn : (options : PartOptions) (p : List (PlainItem ℕ)) (plan : PlainPlan) (start : Kept) (told : List ℕ) (status : ℕ) → Opens p plan.budget start →
    AreUndrawn options start.course plan.items told status → IsPlanUndrawn options p plan told status
plan_undrawn options p plan start told status opens (inl (end, number, unfit, tells, is)) = inl ((start, opens, (end, number, unfit, tells)), is)
plan_undrawn options p plan start told status opens (inr (long, is)) = inr ((start, opens, long), is)
