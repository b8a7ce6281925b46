-- The picture of the run of a hub: its items lead on from the beginning, so each of them can happen.
use Rattle.std.proofs.Common.{◌≡◌, ◌∙◌, ◌++◌, ◌||◌, [], ◌∷◌, ℕ, Bool, true, false, List, Option, Some, None, length}
use Rattle.std.proofs.Common.{take, option_map, is_some, Result, Ok, Err, IfOk, ap, Bor, inl, inr, refl, subst, sym, true≢false}
use Rattle.std.proofs.Math.Seq.{take-length}
use Rattle.cml_check.specs.Syntax.{PlainItem}
use Rattle.cml_picture.specs.Draws.{HasUnfit, IsNotDrawn, IsTooLong, ItemsLead}
use Rattle.cml_picture.specs.declared.fault.DrawFault.{DrawFault}
use Rattle.cml_picture.specs.declared.fault.DrawFault.TheVariants as fault
use Rattle.cml_hub.specs.Courses.{PlainCourse, run_of}
use Rattle.cml_hub.specs.Kept.{Kept, IsAtStart}
use Rattle.cml_hub.specs.Runs.{Run, advance, is_allowed, opening, stands, stands_from}
use Rattle.cml_schedule.specs.declared.item.Item.{Item}
use Rattle.cml_step.specs.Calls.{text_of}
use Rattle.cml_step.specs.Terms.{Program}
use Rattle.cml_arguments.specs.declared.RunOptions.{RunOptions}
use Rattle.cml_host.specs.Drawn.{AllDrawn}
use Rattle.cml_host.specs.Plans.{Opens}
use Rattle.cml_host.specs.Replies.{File, PlainReply, behind, file, plain_of}
use Rattle.cml_host.specs.Running.{IsPictured, IsRunDrawn, and_saves, but_says, saving_of, wanted_of}
use Rattle.cml_host.specs.declared.reply.Reply.{Reply}
use Rattle.cml_host.proofs.ClosedLemmas.{starts_itself}

-- ---- no item is unfit

-- behind an item that is not allowed nothing leads anywhere
leads_nowhere : (p : Program) (items : List Item) → stands_from p None items ≡ None
leads_nowhere p [] = refl
leads_nowhere p (item ∷ items) = leads_nowhere p items

held_up : (p : Program) (r : Run) (item : Item) (rest : List Item) → is_allowed r.world item ≡ false → stands_from p (Some r) (item ∷ rest) ≡ None
held_up p r item rest refused = ap (λ (o : Option Run). stands_from p o rest) none ∙ leads_nowhere p rest
  where
    none : advance p r item ≡ None
    none = rw refused refl

unfit_nowhere : (p : Program) (c : PlainCourse) (done : List Item) (item : Item) (rest : List Item) (end : PlainCourse) → text_of c.program ≡ p →
    ItemsLead c done end → is_allowed end.world item ≡ false → stands_from p (Some (run_of c)) (done ++ item ∷ rest) ≡ None
unfit_nowhere p c [] item rest end same leads refused =
    held_up p (run_of c) item rest (ap (λ (d : PlainCourse). is_allowed d.world item) (sym leads) ∙ refused)
unfit_nowhere p c (first ∷ done) item rest end same (next, adds, leads) refused =
    let one : advance p (run_of c) first ≡ Some (run_of next) = subst (λ (q : Program). advance q (run_of c) first ≡ Some (run_of next)) same adds.run in
    let then : text_of next.program ≡ p = ap text_of adds.program ∙ same in
    ap (λ (o : Option Run). stands_from p o (done ++ item ∷ rest)) one ∙ unfit_nowhere p next done item rest end then leads refused

-- where the run of a program stands at its beginning
begins_at : (p : List (PlainItem ℕ)) (budget : ℕ) (h : Kept) → Opens p budget h → Some (opening (text_of p)) ≡ Some (run_of h.course)
begins_at p budget h opens =
    subst (λ (q : List (PlainItem ℕ)). stands (text_of q) [] ≡ Some (run_of h.course)) opens.start.program
    (subst (λ (items : List Item). stands (text_of h.course.program) items ≡ Some (run_of h.course)) opens.start.items opens.leads)

some_not_none : (A : Type 0) (o : Option A) → is_some o ≡ true → o ≡ None → ⊥
some_not_none A o some none = true≢false (sym some ∙ ap is_some none)

-- where all items lead somewhere, none of them is unfit
pub no_unfit : (budget : ℕ) (h : Kept) (items : List Item) (number : ℕ) (end : PlainCourse) → Opens h.course.program budget h →
    is_some (stands (text_of h.course.program) items) ≡ true → HasUnfit h.course (take (length items) items) number end → ⊥
no_unfit budget h items number end opens leads unfit =
    let p = text_of h.course.program in
    let split : items ≡ unfit.done ++ unfit.item ∷ unfit.rest = sym (take-length items) ∙ unfit.split in
    let from : stands p items ≡ stands_from p (Some (run_of h.course)) items = ap (λ (o : Option Run). stands_from p o items) (begins_at h.course.program budget h opens) in
    let nowhere = unfit_nowhere p h.course unfit.done unfit.item unfit.rest end refl unfit.leads unfit.refused in
    some_not_none Run (stands p items) leads (from ∙ ap (stands_from p (Some (run_of h.course))) split ∙ nowhere)

-- so a picture does not fail for an item
pub no_bad_item : (budget : ℕ) (h : Kept) (items : List Item) (to number : ℕ) (end : PlainCourse) (why : DrawFault) → Opens h.course.program budget h →
    is_some (stands (text_of h.course.program) items) ≡ true → to ≡ length items → why ≡ fault.BadItem number → IsNotDrawn h.course items 1 to end why → ⊥
no_bad_item budget h items to number end why opens leads all is not =
    no_unfit budget h items number end opens leads
    (subst (λ (n : ℕ). IsNotDrawn h.course items 1 n end (fault.BadItem number)) all (subst (λ (w : DrawFault). IsNotDrawn h.course items 1 to end w) is not))

-- it fails where there is too much to draw
pub too_many : (h : Kept) (items : List Item) (to : ℕ) (end : PlainCourse) (why : DrawFault) → to ≡ length items → why ≡ fault.TooMany → IsNotDrawn h.course items 1 to end why →
    AllDrawn h.course items None
too_many h items to end why all is not =
    (end, subst (λ (n : ℕ). IsTooLong h.course items 1 n end) all (subst (λ (w : DrawFault). IsNotDrawn h.course items 1 to end w) is not))

-- ---- the hub that begins again

-- it is one of its own program
pub opens_itself : (p : List (PlainItem ℕ)) (budget : ℕ) (h : Kept) → Opens p budget h → Opens h.course.program h.budget h
opens_itself p budget h opens =
    record {
      start = subst (λ (b : ℕ). IsAtStart h.course.program b None h) (sym opens.start.budget_is) (starts_itself p budget None h opens.start);
      leads = opens.leads;
    }

pub leads_again : (p : List (PlainItem ℕ)) (budget : ℕ) (h : Kept) (items : List Item) (r : Run) → Opens p budget h → stands (text_of p) items ≡ Some r →
    is_some (stands (text_of h.course.program) items) ≡ true
leads_again p budget h items r opens leads =
    ap is_some (ap (λ (q : List (PlainItem ℕ)). stands (text_of q) items) opens.start.program ∙ leads)

-- what it draws is the picture of the run
pub run_drawn : (h again : Kept) (items : List Item) (drawn : Option (List ℕ)) → items ≡ h.course.items → Opens h.course.program h.budget again →
    AllDrawn again.course items drawn → IsRunDrawn h drawn
run_drawn h again items (Some picture) same opens all = (again, opens, subst (λ (xs : List Item). AllDrawn again.course xs (Some picture)) same all)
run_drawn h again items None same opens all = (again, opens, subst (λ (xs : List Item). AllDrawn again.course xs None) same all)

-- ---- the reply with it

-- the reply with its picture is so behind the output so far too
pub pictured_behind : (output : List ℕ) (explains : Bool) (wanted : Option (List ℕ)) (p : List (PlainItem ℕ)) (budget : ℕ) (items : List Item) (bare reply : PlainReply) →
    IsPictured explains wanted p budget items bare reply → IsPictured explains wanted p budget items (behind output bare) (behind output reply)
pictured_behind output explains None p budget items bare reply is = ap (behind output) is
pictured_behind output explains (Some name) p budget items bare reply (inl (drawn, draws, is)) = inl (drawn, draws, ap (behind output) is)
pictured_behind output explains (Some name) p budget items bare reply (inr (long, (told, is))) = inr (long, (told, ap (behind output) is))

pub pictured : {E : Type 0} (r : Result Reply E) (explains : Bool) (name drawn : List ℕ) (h : Kept) (bare : PlainReply) (f : File) → IsRunDrawn h (Some drawn) →
    f ≡ file explains name drawn → IfOk r (λ reply. plain_of reply ≡ and_saves bare f) →
    IfOk r (λ reply. IsPictured explains (Some name) h.course.program h.budget h.course.items bare (plain_of reply))
pictured (Ok reply) explains name drawn h bare f draws is made = inl (drawn, draws, made ∙ ap (and_saves bare) is)
pictured (Err e) explains name drawn h bare f draws is made = tt

pub unpictured : {E : Type 0} (r : Result Reply E) (explains : Bool) (name : List ℕ) (h : Kept) (bare : PlainReply) → IsRunDrawn h None →
    IfOk r (λ reply. (told : List ℕ) × (plain_of reply ≡ but_says bare told)) →
    IfOk r (λ reply. IsPictured explains (Some name) h.course.program h.budget h.course.items bare (plain_of reply))
unpictured (Ok reply) explains name h bare long made = inr (long, (made.0, made.1))
unpictured (Err e) explains name h bare long made = tt

-- ---- what is asked for

always : (b : Bool) → b || true ≡ true
always true = refl
always false = refl

-- a picture that the arguments ask for is saved, since the script is kept for it
pub saving_asked : (options : RunOptions) (explains draws others kept : Bool) → draws ≡ is_some options.draw → kept ≡ explains || (draws || others) →
    record { schedule = option_map (λ name. name.now) options.record; picture = wanted_of (option_map (λ name. name.now) options.draw) kept } ≡ saving_of options
saving_asked options explains draws others kept asks is =
    ap (λ (w : Option (List ℕ)). record { schedule = option_map (λ name. name.now) options.record; picture = w }) (go options.draw asks kept is)
  where
    go : (o : Option (Bor (List ℕ))) → draws ≡ is_some o → (k : Bool) → k ≡ explains || (draws || others) →
        wanted_of (option_map (λ name. name.now) o) k ≡ option_map (λ name. name.now) o
    go o asks true is = refl
    go None asks false is = refl
    go (Some name) asks false is = absurd (true≢false (sym (is ∙ (ap (λ (b : Bool). explains || (b || others)) asks ∙ always explains))))
