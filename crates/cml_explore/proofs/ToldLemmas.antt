-- What is told of many runs.
use Rattle.std.proofs.Common.{◌≡◌, ℕ, ◌+◌, ◌<◌, Bool, List, [], ◌∷◌, ◌++◌, map, take, length, get_or, sym, ap, subst, ◌∙◌}
use Rattle.std.specs.Prelude.{Option, Some, Result, Ok, Err, IfOk, Vec}
use Rattle.std.specs.List.{All}
use Rattle.std.specs.declared.alloc.Global.{Global}
use Rattle.std.proofs.lemmas.List.{map_push, take_more}
use Rattle.cml_check.specs.Syntax.{PlainItem}
use Rattle.cml_step.specs.Calls.{text_of}
use Rattle.cml_hub.specs.Deeds.{origins}
use Rattle.cml_hub.specs.Kept.{Kept}
use Rattle.cml_facts.specs.Waits.{who_is}
use Rattle.cml_facts.specs.declared.ending.awaited.Named.{Named}
use Rattle.cml_judge.specs.Judgements.{IsJudgedAt, are_all_kept}
use Rattle.cml_judge.specs.Spots.{AreBreaksFrom}
use Rattle.cml_judge.specs.declared.breaks.Break.{Break}
use Rattle.cml_judge.specs.declared.spot.Spot.{Spot}
use Rattle.cml_phrase.specs.declared.place.Place.{Place}
use Rattle.cml_explore.specs.declared.explored.Asked.{Asked}
use Rattle.cml_explore.specs.declared.finish.Fate.{Fate}
use Rattle.cml_explore.specs.declared.seed.order.Order.{Order}
use Rattle.cml_explore.specs.declared.tell.SeedTold.{SeedTold}
use Rattle.cml_explore.specs.declared.told.BreakTold.{BreakTold}
use Rattle.cml_explore.specs.declared.told.ClassTold.{ClassTold}
use Rattle.cml_explore.specs.declared.told.RunsTold.{RunsTold}
use Rattle.cml_explore.specs.Classes.{PlainClass}
use Rattle.cml_explore.specs.Explored.{PlainExplored}
use Rattle.cml_explore.specs.Ranks.{AreInRank}
use Rattle.cml_explore.specs.Stops.{IsLastStop}
use Rattle.cml_explore.specs.SeedRuns.{IsSeedRun}
use Rattle.cml_explore.specs.Finishes.{fate_of, is_good}
use Rattle.cml_explore.specs.Orders.{seed_order}
use Rattle.cml_explore.specs.Told.{IsClassTold, AreClassesTold, AreEachBreakTold, IsBreakTold, IsJudgementTold, IsRunTold, IsSeedTold, IsTeller, last_seed, IsToldOfRuns}

-- the number of one class more
pub numbers_more : (numbers : List ℕ) (i : ℕ) (told : List ClassTold) (class : ClassTold) → i < length numbers → class.number ≡ get_or numbers i 0
    → map (λ (c : ClassTold). c.number) told ≡ take i numbers → map (λ (c : ClassTold). c.number) (told ++ class ∷ []) ≡ take (i + 1) numbers
numbers_more numbers i told class h is so_far =
    map_push (λ (c : ClassTold). c.number) told class
    ∙ (ap (λ l. l ++ class.number ∷ []) so_far ∙ (ap (λ n. take i numbers ++ n ∷ []) is ∙ sym (take_more numbers i 0 h)))

-- the classes are told of in rank order
pub all_so : {E : Type 0} (r : Result (Vec ClassTold Global) E) (places : List (List Place)) (p : List (PlainItem ℕ)) (asked : Asked) (classes : List PlainClass) (numbers slice : List ℕ)
    → AreInRank classes numbers → slice ≡ numbers → IfOk r (λ told. map (λ (c : ClassTold). c.number) told.items ≡ slice)
    → IfOk r (λ told. All (IsClassTold places p asked classes) told.items) → IfOk r (λ told. AreClassesTold places p asked classes told.items)
all_so (Ok told) places p asked classes numbers slice ranked same are each = record {
  ranked = subst (λ (ns : List ℕ). AreInRank classes ns) (sym (are ∙ same)) ranked;
  each = each;
}
all_so (Err e) places p asked classes numbers slice ranked same are each = tt

pub runs_so : (p : List (PlainItem ℕ)) (asked : Asked) (made : PlainExplored) (places all : List (List Place)) (classes : List PlainClass) (told : RunsTold)
    → places ≡ all → classes ≡ made.classes → told.runs ≡ made.runs → told.first ≡ asked.first → told.last ≡ last_seed asked.first told.runs → told.orders ≡ asked.orders
    → told.asked ≡ asked.runs → told.servers.items ≡ asked.servers.now → told.until.items ≡ asked.until.now → IsLastStop p asked told.runs told.stop
    → AreClassesTold places p asked classes told.classes.items → IsToldOfRuns all p asked made told
runs_so p asked made places all classes told at same runs first last orders count servers until stop are = record {
  runs_are = runs;
  asked_are = count;
  servers_are = servers;
  until_are = until;
  stop_is = subst (λ (n : ℕ). IsLastStop p asked n told.stop) runs stop;
  first_is = first;
  last_is = last ∙ ap (last_seed asked.first) runs;
  orders_are = orders;
  classes_are = subst (λ (ps : List (List Place)). AreClassesTold ps p asked made.classes told.classes.items) at
      (subst (λ (cs : List PlainClass). AreClassesTold places p asked cs told.classes.items) same are);
}

-- ---- the properties that a run breaks

-- the thread whose turn it was
pub teller_so : (h : Kept) (spot : Option Spot) (one : Spot) (named : Named) → spot ≡ Some one
    → named ≡ who_is (origins (text_of h.course.program) h.course.items) one.thread.0 → IsTeller h spot (Some named)
teller_so h spot one named is so = subst (λ (s : Option Spot). IsTeller h s (Some named)) (sym is) (ap (λ (n : Named). Some n) so)

breaks_push : (h : Kept) (ones : List Break) (tolds : List BreakTold) (one : Break) (told : BreakTold) → AreEachBreakTold h ones tolds → IsBreakTold h one told
    → AreEachBreakTold h (ones ++ one ∷ []) (tolds ++ told ∷ [])
breaks_push h [] [] one told each is = (is, tt)
breaks_push h [] (y ∷ tolds) one told each is = absurd each
breaks_push h (x ∷ ones) [] one told each is = absurd each
breaks_push h (x ∷ ones) (y ∷ tolds) one told each is = (each.0, breaks_push h ones tolds one told each.1 is)

pub breaks_next : (h : Kept) (ones : List Break) (k : ℕ) (d : Break) (old new : List BreakTold) (told : BreakTold) → k < length ones → new ≡ old ++ told ∷ []
    → told.one ≡ get_or ones k d → IsTeller h (get_or ones k d).spot told.who → AreEachBreakTold h (take k ones) old → AreEachBreakTold h (take (k + 1) ones) new
breaks_next h ones k d old new told within more same who was =
    subst (λ (bs : List Break). AreEachBreakTold h bs new) (sym (take_more ones k d within))
    (subst (AreEachBreakTold h (take k ones ++ get_or ones k d ∷ [])) (sym more)
    (breaks_push h (take k ones) old (get_or ones k d) told was (record { one_is = same; teller = who })))

-- what is told of how the run of a hub was judged
pub judgement_so : (asked : Asked) (h : Kept) (judged first second : List (Option ℕ)) (fate : Fate) (well : Bool) (breaks slice : List Break) (told : List BreakTold)
    → IsJudgedAt asked.wanted h judged → first ≡ judged → second ≡ judged → fate ≡ fate_of asked.servers.now h (are_all_kept first) → well ≡ is_good fate
    → AreBreaksFrom h 0 second breaks → slice ≡ breaks → AreEachBreakTold h slice told → IsJudgementTold asked h well told
judgement_so asked h judged first second fate well breaks slice told so one two of is are same each = record {
  judged = judged;
  judged_so = so;
  well_is = is ∙ ap is_good (of ∙ ap (λ (js : List (Option ℕ)). fate_of asked.servers.now h (are_all_kept js)) one);
  breaks = breaks;
  breaks_are = subst (λ (js : List (Option ℕ)). AreBreaksFrom h 0 js breaks) two are;
  told_are = subst (λ (bs : List Break). AreEachBreakTold h bs told) same each;
}

-- what is told of the run by a seed, which a hub has made
pub seed_so : {E : Type 0} (r : Result SeedTold E) (places : List (List Place)) (p : List (PlainItem ℕ)) (asked : Asked) (seed : ℕ) (h : Kept) (order : Order)
    → order ≡ seed_order asked.orders seed → IsSeedRun p asked.budget order seed h → IfOk r (λ t. IsJudgementTold asked h t.well t.breaks.items) → IfOk r (λ t. IsRunTold places h t.run)
    → IfOk r (λ t. IsSeedTold places p asked seed t.well t.breaks.items t.run)
seed_so (Ok told) places p asked seed h order by run judged is = (h, subst (λ (o : Order). IsSeedRun p asked.budget o seed h) by run, judged, is)
seed_so (Err e) places p asked seed h order by run judged is = tt
