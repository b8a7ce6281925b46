-- What holds of the classes of all runs.
use Rattle.std.proofs.Common.{◌≡◌, ℕ, suc, ◌+◌, ◌<◌, ◌≤◌, Bool, true, false, if◌then◌else◌, ◌&&◌, List, [], ◌∷◌, map, length, refl, sym, ap, subst, ◌∙◌, arith}
use Rattle.std.specs.Prelude.{nat_lt, nat_eq, sum_by}
use Rattle.std.specs.List.{All}
use Rattle.std.proofs.lemmas.Bool.Decides.{nat_tests}
use Rattle.std.proofs.lemmas.List.Sums.{sum_by-cons}
use Rattle.std.proofs.lemmas.List.Elements.{All-nil, All-cons, All-head, All-tail}
use Rattle.cml_check.specs.Syntax.{PlainItem}
use Rattle.cml_schedule.specs.declared.item.Item.{Item}
use Rattle.cml_facts.specs.declared.fault.detail.Detail.{Detail}
use Rattle.cml_facts.specs.declared.fault.detail.Detail.TheVariants as detail
use Rattle.cml_explore.specs.declared.explored.Asked.{Asked}
use Rattle.cml_facts.specs.Details.{same_detail, alike}
use Rattle.cml_explore.specs.Classes.{Finish, PlainSummary, PlainClass, shorter, first_run, grown, classed, classed_all}
use Rattle.cml_explore.specs.Finishes.{PlainEnded, EndsSoBy, EachEnds}
use Rattle.cml_explore.specs.Explored.{PlainExplored, IsExplored}
use Rattle.cml_explore.specs.Laws.{IsOneOfClass, KeepsItsOwn, CountsEachOnce}
use Rattle.cml_explore.proofs.PartLemmas.{counted_gathered}

-- each detail is the same as itself
eq_self : (n : ℕ) → nat_eq n n ≡ true
eq_self n = grind (arith, nat_tests)

same_self : (d : Detail) → same_detail d d ≡ true
same_self detail.Quiet = refl
same_self detail.Budget = refl
same_self detail.Partial = refl
same_self detail.Waits = refl
same_self detail.Runs = refl
same_self detail.Fell = refl
same_self detail.Always = refl
same_self detail.Send = refl
same_self detail.Recv = refl
same_self detail.Swap = refl
same_self detail.IGet = refl
same_self detail.MTake = refl
same_self detail.MGet = refl
same_self detail.MSwap = refl
same_self detail.MailRecv = refl
same_self detail.PortRecv = refl
same_self detail.Join = refl
same_self detail.Tick = refl
same_self detail.Nack = refl
same_self detail.Kind = refl
same_self detail.Overflow = refl
same_self detail.Range = refl
same_self detail.Deep = refl
same_self detail.Stack = refl
same_self detail.Put = refl
same_self detail.Group = refl
same_self detail.Full = refl
same_self (detail.Began n) = eq_self n
same_self (detail.In n) = eq_self n
same_self (detail.At n) = eq_self n
same_self (detail.Faults n) = eq_self n
same_self (detail.Breaks n) = eq_self n

alike_self : (ds : List Detail) → alike ds ds ≡ true
alike_self [] = refl
alike_self (d ∷ ds) = ap (λ b. b && alike ds ds) (same_self d) ∙ alike_self ds

module _ (p : List (PlainItem ℕ)) (asked : Asked) (runs : ℕ) where
  abbrev Own : PlainClass → Type 0
  Own c = IsOneOfClass p asked runs c.details c.summary.shortest

  -- the run is one of the class with these details
  one_of : (seed : ℕ) (e : PlainEnded) (details : List Detail) → asked.first ≤ seed → seed < asked.first + runs → EndsSoBy p asked.budget asked.orders asked.servers.now asked.wanted seed e
      → alike e.finish.details details ≡ true → IsOneOfClass p asked runs details e.finish.items
  one_of seed e details from below is same = record {
    seed = seed;
    from = from;
    below = below;
    hub = is.0;
    run = is.1;
    ended = e.finish.details;
    are = record {
      own = is.2.own;
      own_are = is.2.own_are;
      judged = is.2.judged;
      judged_so = is.2.judged_so;
      details_are = ap (λ (f : Finish). f.details) is.2.finish_is;
    };
    same = same;
    items_are = sym (ap (λ (f : Finish). f.items) is.2.finish_is);
  }

  shorter_own : (t : Bool) (details : List Detail) (old new : List Item) → IsOneOfClass p asked runs details old → IsOneOfClass p asked runs details new
      → IsOneOfClass p asked runs details (if t then new else old)
  shorter_own true details old new was is = is
  shorter_own false details old new was is = was

  own_if : (b : Bool) (seed : ℕ) (e : PlainEnded) (c : PlainClass) (cs rest : List PlainClass) → asked.first ≤ seed → seed < asked.first + runs
      → EndsSoBy p asked.budget asked.orders asked.servers.now asked.wanted seed e → alike e.finish.details c.details ≡ b → Own c → All Own cs → All Own rest
      → All Own (if b then record c { summary = grown c.summary e.finish } ∷ cs else c ∷ rest)
  own_if true seed e c cs rest from below is same here old new =
      All-cons Own (record c { summary = grown c.summary e.finish }) cs
      (shorter_own (nat_lt (length e.finish.items) (length c.summary.shortest)) c.details c.summary.shortest e.finish.items here (one_of seed e c.details from below is same)) old
  own_if false seed e c cs rest from below is same here old new = All-cons Own c rest here new

  own_more : (seed : ℕ) (e : PlainEnded) (cs : List PlainClass) → asked.first ≤ seed → seed < asked.first + runs → EndsSoBy p asked.budget asked.orders asked.servers.now asked.wanted seed e
      → All Own cs → All Own (classed seed e.finish cs)
  own_more seed e [] from below is all =
      All-cons Own (record { details = e.finish.details; summary = first_run seed e.finish }) [] (one_of seed e e.finish.details from below is (alike_self e.finish.details)) (All-nil Own)
  own_more seed e (c ∷ cs) from below is all =
      let rest = All-tail Own c cs all in
      own_if (alike e.finish.details c.details) seed e c cs (classed seed e.finish cs) from below is refl (All-head Own c cs all) rest (own_more seed e cs from below is rest)

  own_all : (seed : ℕ) (es : List PlainEnded) (cs : List PlainClass) → asked.first ≤ seed → seed + length es ≤ asked.first + runs
      → EachEnds p asked.budget asked.orders asked.servers.now asked.wanted seed es → All Own cs → All Own (classed_all seed (map (λ x. x.finish) es) cs)
  own_all seed [] cs from below each all = all
  own_all seed (e ∷ es) cs from below each all =
      let lt : seed < asked.first + runs = omega arith in
      let next : asked.first ≤ suc seed = omega arith in
      let past : suc seed + length es ≤ asked.first + runs = omega arith in
      own_all (suc seed) es (classed seed e.finish cs) next past each.1 (own_more seed e cs from lt each.0 all)

pub keeps_its_own : KeepsItsOwn
keeps_its_own p asked made is =
    let many : made.runs ≡ length is.ends = ap (λ (m : PlainExplored). m.runs) is.gathered_so in
    let Keeps : PlainClass → Type 0 = λ c. IsOneOfClass p asked made.runs c.details c.summary.shortest in
    let from : asked.first ≤ asked.first = omega arith in
    let below : asked.first + length is.ends ≤ asked.first + made.runs = omega (arith, many) in
    subst (λ (cs : List PlainClass). All Keeps cs) (sym (ap (λ (m : PlainExplored). m.classes) is.gathered_so))
    (own_all p asked made.runs asked.first is.ends [] from below is.each (All-nil Keeps))

-- the runs of all classes are all runs
pub counts_each_once : CountsEachOnce
counts_each_once p asked made is = counted_gathered asked.first is.ends made is.gathered_so
