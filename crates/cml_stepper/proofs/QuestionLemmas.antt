-- The question, part for part.
use Rattle.std.proofs.Common.{◌≡◌, ℕ, suc, nat_eq, Bool, true, false, ◌&&◌, cond, List, [], ◌∷◌, length, take, subst, refl, sym, ap, ◌∙◌, arith}
use Rattle.std.proofs.lemmas.Bool.Decides.{nat_tests}
use Rattle.cml_scan.specs.declared.meet.Meet.{Meet}
use Rattle.cml_hub.specs.declared.fault.End.TheVariants.{Quiet, Budget, Partial}
use Rattle.cml_hub.specs.Courses.{run_of}
use Rattle.cml_hub.specs.Kept.{Kept}
use Rattle.cml_hub.specs.Runs.{terminal, ending}
use Rattle.cml_phrase.specs.declared.place.Place.{Place}
use Rattle.cml_facts.specs.declared.ending.ending.Ending.{Ending}
use Rattle.cml_facts.specs.Ends.{IsEnding}
use Rattle.cml_stepper.specs.declared.question.Next.TheVariants as next
use Rattle.cml_stepper.specs.declared.question.Offers.{Offers}
use Rattle.cml_stepper.specs.Questions.{is_still, AreOffers, ComesNext}

not_none : (n : ℕ) → nat_eq (suc n) 0 ≡ false
not_none n = grind (arith, nat_tests)

-- the first rows tell whether there are any
pub still_first : (ready : List ℕ) (meets : List Meet) → is_still ready (take 21 meets) ≡ is_still ready meets
still_first ready [] = refl
still_first ready (meet ∷ meets) = ap (λ b. nat_eq (length ready) 0 && b) (not_none (length (take 20 meets)) ∙ sym (not_none (length meets)))

quiet_by : (b o : Bool) → Quiet ≡ cond b Quiet (cond o Budget Partial) → b ≡ true
quiet_by true o e = refl
quiet_by false true e = cc
quiet_by false false e = cc

budget_by : (b o : Bool) → Budget ≡ cond b Quiet (cond o Budget Partial) → b ≡ false
budget_by true o e = cc
budget_by false o e = refl

partial_by : (b o : Bool) → Partial ≡ cond b Quiet (cond o Budget Partial) → b ≡ false
partial_by true o e = cc
partial_by false o e = refl

pub ended_next : (places : List (List Place)) (h : Kept) (told : Ending) → Quiet ≡ ending h.budget (run_of h.course) → IsEnding places h told → ComesNext (terminal h.course.world) places h
    (next.Ended told)
ended_next places h told is ended = subst (λ b. ComesNext b places h (next.Ended told)) (sym (quiet_by (terminal h.course.world) _ is)) ended

pub budget_next : (places : List (List Place)) (h : Kept) (told : Offers) → Budget ≡ ending h.budget (run_of h.course) → AreOffers places h.course told → ComesNext (terminal h.course.world) places h
    (next.Offers told)
budget_next places h told is offers = subst (λ b. ComesNext b places h (next.Offers told)) (sym (budget_by (terminal h.course.world) _ is)) offers

pub partial_next : (places : List (List Place)) (h : Kept) (told : Offers) → Partial ≡ ending h.budget (run_of h.course) → AreOffers places h.course told → ComesNext (terminal h.course.world) places h
    (next.Offers told)
partial_next places h told is offers = subst (λ b. ComesNext b places h (next.Offers told)) (sym (partial_by (terminal h.course.world) _ is)) offers
