-- What one command writes, another takes.
use Rattle.std.proofs.Common.{◌≡◌, ◌∙◌, ℕ, zero, suc, ◌+◌, ◌<◌, ◌≤◌, Bool, true, false, List, [], ◌∷◌, ◌++◌, length, take, drop, Option, Some, None, Ok, Err}
use Rattle.std.proofs.Common.{ap, sym, subst, refl, inl, inr, arith, append_assoc, take-append-drop}
use Rattle.std.specs.Prelude.{◌⊎◌, Result, Contains, slice_get, option_and_then}
use Rattle.std.specs.Option.{option_map_or}
use Rattle.std.specs.List.{All}
use Rattle.std.proofs.Math.Seq.{take-length}
use Rattle.std.proofs.lemmas.List.Elements.{All-head, All-tail}
use Rattle.cml_check.specs.Sizes.{size_of}
use Rattle.cml_check.specs.Syntax.{PlainItem}
use Rattle.cml_explore.specs.Classes.{PlainClass}
use Rattle.cml_explore.specs.Laws.{IsOneOfClass, KeepsItsOwn}
use Rattle.cml_hub.specs.Courses.{PlainCourse, run_of}
use Rattle.cml_hub.specs.Kept.{Kept, FitsSize, IsFirstBad}
use Rattle.cml_hub.specs.Runs.{Run, advance, opening, stands, stands_from}
use Rattle.cml_picture.specs.Draws.{HasUnfit, ItemsLead}
use Rattle.cml_judge.specs.Stops.{IsToldUpTo}
use Rattle.cml_properties.specs.declared.property.Property.{Property}
use Rattle.cml_schedule.specs.Laws.{HasOneReading, WrittenIsRead}
use Rattle.cml_schedule.specs.Plans.{PlainPlan}
use Rattle.cml_schedule.specs.Reading.{ScheduleReadsAs, schedule_limit}
use Rattle.cml_schedule.specs.Written.{schedule_text}
use Rattle.cml_schedule.specs.declared.item.Item.{Item}
use Rattle.cml_step.specs.Calls.{text_of}
use Rattle.cml_step.specs.Terms.{Program}
use Rattle.cml_host.specs.Drawn.{last_drawn}
use Rattle.cml_host.specs.Closed.{PlainAsked, schedule_file}
use Rattle.cml_host.specs.Narrated.{EndReplied, PlanTold, StoryEnds}
use Rattle.cml_host.specs.Onward.{text_for, plan_for, IsReadable, IsTakenByAll, WrittenIsTaken, ToldAgain, SavedIsOfItsClass, ShorterEndsAlike}
use Rattle.cml_host.specs.Plans.{IsNoPlan, IsNoPlanFor, IsNoSchedule, IsPlan, IsPlanFor, Opens}
use Rattle.cml_host.specs.Replaying.{IsNotFollowed, saves_nothing}
use Rattle.cml_host.specs.Replies.{File, Passage, PlainReply, broken, file}
use Rattle.cml_host.specs.Running.{EndsTold, IsPictured}
use Rattle.cml_host.specs.Stores.{bytes}
use Rattle.cml_host.specs.Told.{whole_output}
use Rattle.cml_host.proofs.PictureLemmas.{no_unfit, opens_itself, leads_again}

some_same : {X : Type 0} (x y : X) → Some x ≡ Some y → x ≡ y
some_same x y h = cc

-- ---- each of its items can happen

leads_nowhere : (p : Program) (items : List Item) → stands_from p None items ≡ None
leads_nowhere p [] = refl
leads_nowhere p (item ∷ items) = leads_nowhere p items

both : (p : Program) (r : Option Run) (xs ys : List Item) → stands_from p r (xs ++ ys) ≡ stands_from p (stands_from p r xs) ys
both p r [] ys = refl
both p r (x ∷ xs) ys = both p (option_and_then (λ now. advance p now x) r) xs ys

none_is : (r : Run) → None ≡ Some r → ⊥
none_is r h = cc

no_bad : (p : List (PlainItem ℕ)) (items : List Item) (r : Run) (n : ℕ) → stands (text_of p) items ≡ Some r → IsFirstBad p items n → ⊥
no_bad p items r n leads bad =
    let t = text_of p in
    let nowhere : stands t (bad.before ++ bad.bad ∷ bad.rest) ≡ None =
    both t (Some (opening t)) bad.before (bad.bad ∷ bad.rest)
    ∙ (ap (λ (o : Option Run). stands_from t o (bad.bad ∷ bad.rest)) bad.leads
    ∙ (ap (λ (o : Option Run). stands_from t o bad.rest) bad.refused ∙ leads_nowhere t bad.rest)) in
    none_is r (sym nowhere ∙ (ap (stands t) (sym bad.split) ∙ leads))

-- what is unfit among some of the items is so among all
unfit_of_all : (start : PlainCourse) (items : List Item) (n number : ℕ) (end : PlainCourse) → HasUnfit start (take n items) number end → HasUnfit start (take (length items) items) number end
unfit_of_all start items n number end unfit = record {
  done = unfit.done;
  item = unfit.item;
  rest = unfit.rest ++ drop n items;
  split = take-length items ∙ (sym (take-append-drop n items) ∙ (ap (λ (xs : List Item). xs ++ drop n items) unfit.split ∙ append_assoc unfit.done (unfit.item ∷ unfit.rest) (drop n items)));
  counted = unfit.counted;
  leads = unfit.leads;
  refused = unfit.refused;
}

none_unfit : (p : List (PlainItem ℕ)) (budget : ℕ) (items : List Item) (r : Run) (start : Kept) (number : ℕ) (end : PlainCourse) → stands (text_of p) items ≡ Some r → Opens p budget start
    → HasUnfit start.course (take (length items) items) number end → ⊥
none_unfit p budget items r start number end leads opens unfit =
    no_unfit start.budget start items number end (opens_itself p budget start opens) (leads_again p budget start items r opens leads) unfit

story_ends : (p : List (PlainItem ℕ)) (budget : ℕ) (items : List Item) (r : Run) (start h : Kept) (done left : List Item) (reply : PlainReply) → stands (text_of p) items ≡ Some r
    → Opens p budget start → items ≡ done ++ left → ItemsLead start.course done h.course → StoryEnds left (length done) h reply → EndReplied reply
story_ends p budget items r start h done [] reply leads opens split led ends = inl ends
story_ends p budget items r start h done (item ∷ rest) reply leads opens split led ends =
    absurd (none_unfit p budget items r start (length start.course.items + length done + 1) h.course leads opens (record {
      done = done;
      item = item;
      rest = rest;
      split = take-length items ∙ split;
      counted = refl;
      leads = led;
      refused = ends.0;
    }))

story_told : (p : List (PlainItem ℕ)) (budget : ℕ) (items : List Item) (r : Run) (start : Kept) (output : Passage) (reply : PlainReply) → stands (text_of p) items ≡ Some r
    → Opens p budget start → PlanTold items start output reply → EndReplied reply ⊎ (reply ≡ broken)
story_told p budget items r start output reply leads opens (done, left, split, (h, same, led, wrote, inl (fine, inl ends))) =
    inl (story_ends p budget items r start h done left reply leads opens split led ends)
story_told p budget items r start output reply leads opens (done, left, split, (h, same, led, wrote, inl (fine, inr out))) = inl (inr out)
story_told p budget items r start output reply leads opens (done, left, split, (h, same, led, wrote, inr (failed, is))) = inr is

none_drawn : (p : List (PlainItem ℕ)) (budget : ℕ) (items : List Item) (r : Run) (n : ℕ) → stands (text_of p) items ≡ Some r → (start : Kept) → Opens p budget start → (number : ℕ) (end : PlainCourse)
    → HasUnfit start.course (take n items) number end → ⊥
none_drawn p budget items r n leads start opens number end unfit =
    none_unfit p budget items r start number end leads opens (unfit_of_all start.course items n number end unfit)

-- ---- the text is read as the plan alone

plan_same : (plan other : PlainPlan) (found : Result PlainPlan ℕ) → Ok plan ≡ found → Ok other ≡ found → other ≡ plan
plan_same plan other found h k = cc

plan_or : (plan : PlainPlan) (n : ℕ) (found : Result PlainPlan ℕ) → Ok plan ≡ found → Err n ≡ found → ⊥
plan_or plan n found h k = cc

module _ (one : HasOneReading) (law : WrittenIsRead) (p : List (PlainItem ℕ)) (budget : ℕ) (items : List Item) (readable : IsReadable p budget items) where
  abbrev text : List ℕ
  text = text_for p budget items

  abbrev plan : PlainPlan
  plan = plan_for p budget items

  read : ScheduleReadsAs text (Ok plan)
  read = law budget (size_of p) items readable.head readable.writable

  found_plan : Ok plan ≡ (one text).0
  found_plan = (one text).1.only (Ok plan) read

  reads : IsPlanFor (bytes text) p plan
  reads = ((text, refl, (readable.short, read)), refl)

  is_plan : (other : PlainPlan) → IsPlan (bytes text) other → other ≡ plan
  is_plan other (given, same, (short, reads_as)) =
      plan_same plan other (one text).0 found_plan ((one text).1.only (Ok other) (subst (λ (t : List ℕ). ScheduleReadsAs t (Ok other)) same reads_as))

  only : (other : PlainPlan) → IsPlanFor (bytes text) p other → other ≡ plan
  only other h = is_plan other h.0

  no_schedule : (explains : Bool) (given told : List ℕ) (status : ℕ) → given ≡ text → IsNoSchedule explains given told status → ⊥
  no_schedule explains given told status same (inl (long, is), s) =
      let short : length given ≤ schedule_limit = subst (λ (t : List ℕ). length t ≤ schedule_limit) (sym same) readable.short in omega (arith, long, short)
  no_schedule explains given told status same (inr (short, (n, reads_as, is)), s) =
      plan_or plan n (one text).0 found_plan ((one text).1.only (Err n) (subst (λ (t : List ℕ). ScheduleReadsAs t (Err n)) same reads_as))

  no_plan : (explains : Bool) (name told : List ℕ) (status : ℕ) → IsNoPlan explains name (bytes text) told status → ⊥
  no_plan explains name told status (inl (given, same, is)) = no_schedule explains given told status same is
  no_plan explains name told status (inr (refused, said, s)) = refused

  no_plan_for : (explains : Bool) (name told : List ℕ) (status : ℕ) → IsNoPlanFor explains name (bytes text) p told status → ⊥
  no_plan_for explains name told status (inl is) = no_plan explains name told status is
  no_plan_for explains name told status (inr (other, is, unfit, said, s)) =
      unfit (subst (λ (x : PlainPlan). FitsSize x.size p) (sym (is_plan other is)) refl)

  not_refused : (r : Run) → stands (text_of p) items ≡ Some r → (explains : Bool) (name told : List ℕ) (status : ℕ) → IsNotFollowed explains name (bytes text) p told status → ⊥
  not_refused r leads explains name told status (inl is) = no_plan_for explains name told status is
  not_refused r leads explains name told status (inr (other, is, (bad, s))) =
      no_bad p items r bad.0 leads (subst (λ (x : PlainPlan). IsFirstBad p x.items bad.0) (only other is) bad.1)

pub is_taken : HasOneReading → WrittenIsRead → WrittenIsTaken
is_taken one law p budget items r leads readable = record {
  reads = reads one law p budget items readable;
  only = only one law p budget items readable;
  replayed = not_refused one law p budget items readable r leads;
  explained = λ start output reply opens told. story_told p budget items r start output reply leads opens told;
  drawn = λ options told undrawn. none_drawn p budget items r (last_drawn options.to items) leads undrawn.0 undrawn.1 undrawn.2.1 undrawn.2.0 undrawn.2.2;
}

-- ---- a run is told again

first_there : (f : File) (fs : List File) → Contains (f ∷ fs) f
first_there f fs = (0, omega arith, refl)

told_all : (stops : Bool) (properties : List Property) (p : Program) (items told : List Item) → stops ≡ false → IsToldUpTo stops properties p items told → told ≡ items
told_all false properties p items told none is = is
told_all true properties p items told none is = absurd (let h : true ≡ false = none in cc)

-- a picture changes nothing of the output, and its file comes behind the others
beside_picture : (explains : Bool) (wanted : Option (List ℕ)) (p : List (PlainItem ℕ)) (budget : ℕ) (items : List Item) (bare reply : PlainReply) (f : File) →
    IsPictured explains wanted p budget items bare reply → bare.files ≡ f ∷ [] → Contains reply.files f × (reply.output ≡ bare.output)
beside_picture explains None p budget items bare reply f same files =
    (subst (λ (fs : List File). Contains fs f) (sym (ap (λ (x : PlainReply). x.files) same ∙ files)) (first_there f []), ap (λ (x : PlainReply). x.output) same)
beside_picture explains (Some name) p budget items bare reply f (inl (drawn, draws, same)) files =
    let more : File = file explains name drawn in (
      subst (λ (fs : List File). Contains fs f) (sym (ap (λ (x : PlainReply). x.files) same ∙ ap (λ (fs : List File). fs ++ more ∷ []) files)) (first_there f (more ∷ [])),
      ap (λ (x : PlainReply). x.output) same,
    )
beside_picture explains (Some name) p budget items bare reply f (inr (long, (told, same))) files =
    (subst (λ (fs : List File). Contains fs f) (sym (ap (λ (x : PlainReply). x.files) same ∙ files)) (first_there f []), ap (λ (x : PlainReply). x.output) same)

-- where nothing is saved, and the run is not to stop, its whole output is told
all_told : (again : PlainAsked) (p : List (PlainItem ℕ)) (told : List Item) (budget : ℕ) (r : Run) (other : PlainReply) → again.stops ≡ false → stands (text_of p) told ≡ Some r
    → EndsTold again saves_nothing p told budget other → other.output ≡ whole_output budget r
all_told again p told budget r other none leads (own, end, upto, ends, (bare, closed, same)) =
    let all : own ≡ told = told_all again.stops again.properties (text_of p) told own none upto in
    let there : end ≡ r = some_same end r (sym ends ∙ (ap (stands (text_of p)) all ∙ leads)) in
    ap (λ (x : PlainReply). x.output) same ∙ (closed.2 ∙ ap (whole_output budget) there)

pub told_again : ToldAgain
told_again asked again saving name p items budget reply saved none (told, r, upto, leads, (bare, closed, drawn)) =
    let f = file asked.explains name (text_for p budget told) in
    let files : bare.files ≡ f ∷ [] = closed.3 ∙ ap (λ (o : Option (List ℕ)). schedule_file asked.explains o (text_for p budget told)) saved in
    let beside = beside_picture asked.explains saving.picture p budget told bare reply f drawn files in
    (told, r, leads, beside.0, λ other tells. all_told again p told budget r other none leads tells ∙ sym (beside.1 ∙ closed.2))

-- ---- a class, and a shorter schedule

class_at : (P : PlainClass → Type 0) (cs : List PlainClass) (n : ℕ) (c : PlainClass) → slice_get cs n ≡ Some c → All P cs → P c
class_at P [] n c there all = absurd (let h : None ≡ Some c = there in cc)
class_at P (x ∷ cs) zero c there all = subst P (some_same x c there) (All-head P x cs all)
class_at P (x ∷ cs) (suc n) c there all = class_at P cs n c there (All-tail P x cs all)

pub saved_is : KeepsItsOwn → SavedIsOfItsClass
saved_is own p asked made start budget place number c explored there = (
  ap (λ (o : Option PlainClass). schedule_text budget (size_of p) (option_map_or (λ (x : PlainClass). x.summary.shortest) o [])) there,
  class_at (λ (x : PlainClass). IsOneOfClass p asked made.runs x.details x.summary.shortest) made.classes number c there (own p asked made explored),
)

pub ends_alike : ShorterEndsAlike
ends_alike p asked given written (found, is, same) =
    let end = is.ends_alike.1 in
    (found.items, run_of end.hub.course, same, end.leads, (is.count, is.details, is.given_are, is.ended, is.ends_alike))
