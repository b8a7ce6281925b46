-- Whether a turn ended at a fault, and what it printed then.
use Rattle.std.proofs.Common.{◌≡◌, ℕ, ◌+◌, ltb, Bool, true, false, cond, List, [], ◌∷◌, ◌++◌, length, Option, Some, None, refl, sym, ap, ◌∙◌, arith}
use Rattle.std.specs.Prelude.{slice_get, option_map, option_and_then, count_by}
use Rattle.std.proofs.lemmas.List.Sums.{sum_by-append}
use Rattle.std.proofs.lemmas.Bool.Decides.{nat_tests}
use Rattle.cml_step.specs.Slices.{sliced}
use Rattle.cml_step.specs.Terms.{Program, Term}
use Rattle.cml_schedule.specs.declared.item.Item.{Item}
use Rattle.cml_schedule.specs.declared.item.Item.TheVariants.{Turn}
use Rattle.cml_value.specs.declared.number.Tid.{Tid}
use Rattle.cml_hub.specs.Performed.{PlainDone, goes, gets, spawns, prints, waits, ends, fails, performed}
use Rattle.cml_hub.specs.Runs.{Run, opening, advance, is_allowed, turned, turned_by, stands, stands_from, output_of}
use Rattle.cml_facts.specs.Waits.{PlainAwaited}
use Rattle.cml_facts.specs.declared.narrative.deed.Came.{Came}
use Rattle.cml_facts.specs.Turns.{EndsAtFault, WentOn, IsCame}
use Rattle.cml_hub.specs.Deeds.{deed, after_deed, deeds_from, deeds, is_fault, fault_count}

after_append : (d : Option PlainDone) (xs ys : List PlainDone) → after_deed d (xs ++ ys) ≡ after_deed d xs ++ ys
after_append None xs ys = refl
after_append (Some d) xs ys = refl

deeds_push : (p : Program) (r : Option Run) (items : List Item) (item : Item)
    → deeds_from p r (items ++ item ∷ []) ≡ deeds_from p r items ++ after_deed (option_and_then (λ now. deed p now item) (stands_from p r items)) []
deeds_push p r [] item = refl
deeds_push p r (x ∷ items) item =
    let d = option_and_then (λ now. deed p now x) r in
    let next = option_and_then (λ now. advance p now x) r in
    ap (after_deed d) (deeds_push p next items item) ∙ after_append d (deeds_from p next items) (after_deed (option_and_then (λ now. deed p now item) (stands_from p next items)) [])

-- how many faults there are, one item on
abbrev pub fault_of : Option PlainDone → ℕ
fault_of None = 0
fault_of (Some d) = cond (is_fault d) 1 0

after_faults : (d : Option PlainDone) → count_by is_fault (after_deed d []) ≡ fault_of d
after_faults None = refl
after_faults (Some d) = omega arith

pub faults_on : (p : Program) (items : List Item) (item : Item) (r : Run) → stands p items ≡ Some r → fault_count p (items ++ item ∷ []) ≡ fault_count p items + fault_of (deed p r item)
faults_on p items item r leads =
    ap (count_by is_fault) (deeds_push p (Some (opening p)) items item)
    ∙ sum_by-append (λ x. cond (is_fault x) 1 0) (deeds p items) (after_deed (option_and_then (λ now. deed p now item) (stands p items)) [])
    ∙ ap (λ o. fault_count p items + count_by is_fault (after_deed (option_and_then (λ now. deed p now item) o) [])) leads
    ∙ ap (λ n. fault_count p items + n) (after_faults (deed p r item))

-- what a turn prints
abbrev pub printed_by : ℕ → Option PlainDone → List ℕ
printed_by t None = []
printed_by t (Some d) = output_of t d

printed_at : (p : Program) (r new : Run) (t : Tid) (o : Option Term) → option_map (λ term. turned_by p r t.0 (sliced p t.0 term)) o ≡ Some new →
    new.output ≡ r.output ++ printed_by t.0 (option_map (λ term. (performed r.world t.0 (sliced p t.0 term).ask).1) o)
printed_at p r new t (Some term) e =
    let same : turned_by p r t.0 (sliced p t.0 term) ≡ new = cc in
    ap (λ x. x.output) (sym same)
printed_at p r new t None e = cc

printed_if : (p : Program) (r new : Run) (t : Tid) (allowed : Bool) → cond allowed (turned p r t.0) None ≡ Some new → new.output ≡ r.output ++ printed_by t.0 (deed p r (Turn t))
printed_if p r new t true e = printed_at p r new t (slice_get r.terms t.0) e
printed_if p r new t false e = cc

pub printed_on : (p : Program) (r new : Run) (t : Tid) → advance p r (Turn t) ≡ Some new → new.output ≡ r.output ++ printed_by t.0 (deed p r (Turn t))
printed_on p r new t e = printed_if p r new t (is_allowed r.world (Turn t)) e

no_more : (n m : ℕ) → m ≡ n + 0 → ltb n m ≡ false
no_more n m e = grind (arith, nat_tests)

one_more : (n m : ℕ) → m ≡ n + 1 → ltb n m ≡ true
one_more n m e = grind (arith, nat_tests)

-- what came of an ask: a fault where there is one fault more, else it went on
pub came_is : (came : Came) (awaited : Option PlainAwaited) (number : ℕ) (d : Option PlainDone) (t n m printed : ℕ) (old output : List ℕ) (failed : Bool) →
    failed ≡ ltb n m → m ≡ n + fault_of d → length old ≡ printed → output ≡ old ++ printed_by t d →
    (failed ≡ false → WentOn awaited number came) →
    (failed ≡ true → (before name : List ℕ) → length before ≡ printed → output ≡ before ++ output_of t (fails name) → EndsAtFault name came) →
    IsCame d awaited number came
came_is came awaited number None t n m printed old output failed is more len out went fault = went (is ∙ no_more n m more)
came_is came awaited number (Some goes) t n m printed old output failed is more len out went fault = went (is ∙ no_more n m more)
came_is came awaited number (Some (gets a)) t n m printed old output failed is more len out went fault = went (is ∙ no_more n m more)
came_is came awaited number (Some (spawns k f)) t n m printed old output failed is more len out went fault = went (is ∙ no_more n m more)
came_is came awaited number (Some (prints text)) t n m printed old output failed is more len out went fault = went (is ∙ no_more n m more)
came_is came awaited number (Some waits) t n m printed old output failed is more len out went fault = went (is ∙ no_more n m more)
came_is came awaited number (Some ends) t n m printed old output failed is more len out went fault = went (is ∙ no_more n m more)
came_is came awaited number (Some (fails name)) t n m printed old output failed is more len out went fault = fault (is ∙ one_more n m more) old name len out
