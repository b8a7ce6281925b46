-- What a command did, by what it told of the hub that it had.
use Rattle.std.proofs.Common.{◌≡◌, ◌∙◌, ◌⊎◌, ℕ, Bool, List, [], ◌++◌, true, false, MatchBool, Option, Some, None, Result, Ok, Err, IfOk, IfErr, ap, inl, inr, refl, subst, sym}
use Rattle.cml_check.specs.Syntax.{PlainItem}
use Rattle.cml_hub.specs.Choices.{seeded}
use Rattle.cml_host.specs.Chosen.{by_first, by_words}
use Rattle.cml_hub.specs.Courses.{run_of}
use Rattle.cml_hub.specs.Kept.{Kept, IsAtStart, SwapsAreExchanges, TellsSwaps}
use Rattle.cml_hub.proofs.Going.{each_from}
use Rattle.cml_hub.specs.Playing.{Rules, Played, played, playing, called_back, PlaysSoFar}
use Rattle.cml_hub.proofs.Played.{begins_run}
use Rattle.cml_hub.specs.Runs.{Run, over, stands}
use Rattle.cml_judge.specs.Stops.{IsStoppedThere, IsToldUpTo}
use Rattle.cml_properties.specs.declared.property.Property.{Property}
use Rattle.cml_step.specs.Calls.{text_of}
use Rattle.cml_schedule.specs.declared.item.Item.{Item}
use Rattle.cml_stream.specs.Streams.{stream, counted_stream}
use Rattle.cml_arguments.specs.declared.RunOptions.{RunOptions}
use Rattle.cml_work.specs.Works.{IsWorked, GoesOnFrom}
use Rattle.cml_host.specs.declared.refusal.Refusal.{Refusal}
use Rattle.cml_host.specs.declared.refusal.Refusal.TheVariants.{Memory}
use Rattle.cml_host.specs.declared.reply.Reply.{Reply}
use Rattle.cml_host.specs.declared.workers.Cause.{Cause}
use Rattle.cml_host.specs.declared.workers.Cause.TheVariants as cause
use Rattle.cml_host.specs.declared.workers.Stopped.{Stopped}
use Rattle.cml_host.specs.Closed.{PlainAsked}
use Rattle.cml_host.specs.Replies.{IsCarriedOut, Moment, Passage, PlainReply, Replies, behind, plain_of, plain_refusal, plain_reply, runs_out, since, upto}
use Rattle.cml_host.specs.Running.{AreToldBy, BegunOutcome, EndsTold, HasEnded, IsChosen, IsEnded, IsEndReply, IsRunBy, IsRunReply, IsStopped, IsTold}
use Rattle.cml_host.specs.Running.{IsPartBy, IsPartChosen, MemoryRanOut, PlainSaving, Plays, PlaysChosen, PlaysPart, ProgramOutcome}
use Rattle.cml_host.specs.Running.{RunsSo, ScriptOutcome, SomehowOutcome, failed_by, run_asked, saving_of, stop_reply}
use Rattle.cml_host.specs.Orders.{order_said}
use Rattle.cml_explore.specs.declared.seed.order.Order.{Order}
use Rattle.cml_host.specs.Servers.{first_unknown, server_numbers, server_names}
use Rattle.cml_host.specs.Scripts.{PlainScript}
use Rattle.cml_host.specs.Stores.{Shelf}
use Rattle.cml_host.specs.Told.{IsRunOf, AllReported, AreTold}
use Rattle.cml_host.proofs.ClosedLemmas.{run_is}

-- each row of two swaps that the run took from its beginning on is an exchange
exchanged : (p : List (PlainItem ℕ)) (budget : ℕ) (watch : Option ℕ) (begun h : Kept) → IsAtStart p budget watch begun → GoesOnFrom begun h →
    SwapsAreExchanges p [] h.course.items
exchanged p budget watch begun h begins more =
    let same : h.course.items ≡ more.more = more.items ∙ ap (λ (ts : List Item). ts ++ more.more) begins.items in
    subst (λ (ts : List Item). SwapsAreExchanges p [] ts) (sym same)
    (each_from p begun.course.program (λ r item. TellsSwaps r.world item) [] begun.course.items more.more begins.program begins.items more.exchanges)

-- the run from its beginning on is the one that the chooser makes
played_from : {C : Type 0} (rules : Rules C) (chooser : C) (p : List (PlainItem ℕ)) (budget : ℕ) (watch : Option ℕ) (begun h : Kept) →
    IsAtStart p budget watch begun → stands (text_of begun.course.program) begun.course.items ≡ Some (run_of begun.course) → Plays rules chooser begun h →
    IsRunBy p budget rules chooser h.course.items (run_of h.course)
played_from rules chooser p budget watch begun h begins leads plays =
    let at = begins_run begun chooser p budget watch begins leads in
    let by = subst (λ (q : List (PlainItem ℕ)). playing h plays.last ≡ played (text_of q) begun.budget rules begun.budget (called_back begun chooser)) begins.program plays.plays in
    let over = subst (λ (n : ℕ). playing h plays.last ≡ played (text_of p) n rules n (called_back begun chooser)) begins.budget_is by in
    let out = subst (λ (g : Played _). playing h plays.last ≡ played (text_of p) budget rules budget g) at over in
    (ap (λ (g : Played _). g.items) out, ap (λ (g : Played _). g.run) out)

chosen_from : (p : List (PlainItem ℕ)) (budget : ℕ) (seed watch : Option ℕ) (begun h : Kept) → IsAtStart p budget watch begun →
    stands (text_of begun.course.program) begun.course.items ≡ Some (run_of begun.course) → PlaysChosen seed begun h →
    IsChosen p budget seed h.course.items (run_of h.course)
chosen_from p budget None watch begun h begins leads plays = (plays.0, played_from by_first plays.0 p budget watch begun h begins leads plays.1)
chosen_from p budget (Some seed) watch begun h begins leads plays = played_from by_words (seeded seed) p budget watch begun h begins leads plays

-- so is a part of it
part_from : {C : Type 0} (rules : Rules C) (chooser : C) (p : List (PlainItem ℕ)) (budget : ℕ) (watch : Option ℕ) (begun h : Kept) →
    IsAtStart p budget watch begun → stands (text_of begun.course.program) begun.course.items ≡ Some (run_of begun.course) → PlaysSoFar rules begun chooser h →
    IsPartBy p budget rules chooser h.course.items (run_of h.course)
part_from rules chooser p budget watch begun h begins leads (inl on) =
    let at = begins_run begun chooser p budget watch begins leads in
    let by = subst (λ (q : List (PlainItem ℕ)). playing h on.last ≡ played (text_of q) begun.budget rules on.items (called_back begun chooser)) begins.program on.plays in
    let under = subst (λ (n : ℕ). playing h on.last ≡ played (text_of p) n rules on.items (called_back begun chooser)) begins.budget_is by in
    let out = subst (λ (g : Played _). playing h on.last ≡ played (text_of p) budget rules on.items g) at under in
    (on.items, (ap (λ (g : Played _). g.items) out, ap (λ (g : Played _). g.run) out))
part_from rules chooser p budget watch begun h begins leads (inr same) =
    let at = begins_run begun chooser p budget watch begins leads in (
      0,
      (
        ap (λ (k : Kept). k.course.items) same ∙ ap (λ (g : Played _). g.items) at,
        ap (λ (k : Kept). run_of k.course) same ∙ ap (λ (g : Played _). g.run) at,
      ),
    )

part_chosen : (p : List (PlainItem ℕ)) (budget : ℕ) (seed watch : Option ℕ) (begun h : Kept) → IsAtStart p budget watch begun →
    stands (text_of begun.course.program) begun.course.items ≡ Some (run_of begun.course) → PlaysPart seed begun h →
    IsPartChosen p budget seed h.course.items (run_of h.course)
part_chosen p budget None watch begun h begins leads plays = (plays.0, part_from by_first plays.0 p budget watch begun h begins leads plays.1)
part_chosen p budget (Some seed) watch begun h begins leads plays = part_from by_words (seeded seed) p budget watch begun h begins leads plays

-- the whole run is a part of itself
whole_part : (p : List (PlainItem ℕ)) (budget : ℕ) (seed : Option ℕ) (items : List Item) (r : Run) → IsChosen p budget seed items r → IsPartChosen p budget seed items r
whole_part p budget None items r is = (is.0, (budget, is.1))
whole_part p budget (Some seed) items r is = (budget, is)

-- ---- where a run is told

-- as far as this other hub has gone, which stands where its own run leads
pub told_there : (asked : PlainAsked) (saving : PlainSaving) (h other : Kept) (reply : PlainReply)
    → IsToldUpTo asked.stops asked.properties (text_of h.course.program) h.course.items other.course.items
    → other.course.program ≡ h.course.program → other.budget ≡ h.budget → stands (text_of other.course.program) other.course.items ≡ Some (run_of other.course)
    → IsEnded asked saving other reply ⊎ (reply ≡ runs_out other.course.output) → IsTold asked saving h reply
told_there asked saving h other reply upto_there program budget leads (inl ended) =
    let r = run_of other.course in
    let ts = other.course.items in
    inl (
      ts,
      r,
      upto_there,
      subst (λ (q : List (PlainItem ℕ)). stands (text_of q) ts ≡ Some r) program leads,
      subst (λ (b : ℕ). IsEndReply asked saving h.course.program ts b r reply) budget
          (subst (λ (q : List (PlainItem ℕ)). IsEndReply asked saving q ts other.budget r reply) program ended),
    )
told_there asked saving h other reply upto_there program budget leads (inr memory) =
    let r = run_of other.course in
    let ts = other.course.items in
    inr (inr (ts, r, upto_there, subst (λ (q : List (PlainItem ℕ)). stands (text_of q) ts ≡ Some r) program leads, memory))

-- where it is to stop, and does
pub stops_there : (b : Bool) (properties : List Property) (h other : Kept) → MatchBool b (IsStoppedThere properties h (Some other)) (Some other ≡ None)
    → IsToldUpTo b properties (text_of h.course.program) h.course.items other.course.items × (other.course.program ≡ h.course.program) × (other.budget ≡ h.budget)
stops_there true properties h other is = ((Some is.0, is.1.stops, is.1.items), is.1.program, is.1.budget)
stops_there false properties h other is = cc

-- to its end
pub stops_nowhere : (b : Bool) (properties : List Property) (h : Kept) (left : Option Kept) → MatchBool b (IsStoppedThere properties h None) (left ≡ None)
    → IsToldUpTo b properties (text_of h.course.program) h.course.items h.course.items
stops_nowhere true properties h left is = (None, is, refl)
stops_nowhere false properties h left is = refl

-- where that is asked for, it is where the run stops
pub stops_so : {E : Type 0} (r : Result (Option Kept) E) (b : Bool) (given properties : List Property) (h : Kept) → given ≡ properties → b ≡ true →
    IfOk r (IsStoppedThere given h) → IfOk r (λ other. MatchBool b (IsStoppedThere properties h other) (other ≡ None))
stops_so (Ok other) b given properties h same so is =
    subst (λ (t : Bool). MatchBool t (IsStoppedThere properties h other) (other ≡ None)) (sym so)
    (subst (λ (ps : List Property). IsStoppedThere ps h other) same is)
stops_so (Err e) b given properties h same so is = tt

-- its end was told, or that memory ran out
pub whole_told : (asked : PlainAsked) (saving : PlainSaving) (h : Kept) (made : Result Reply Refusal) → IfOk made (λ r. IsEnded asked saving h (behind h.course.output (plain_of r)))
    → IfErr made (λ why. why ≡ Memory) → IsEnded asked saving h (plain_reply h.course.output made) ⊎ (plain_reply h.course.output made ≡ runs_out h.course.output)
whole_told asked saving h (Ok r) ok err = inl ok
whole_told asked saving h (Err why) ok err = inr (ap (plain_refusal h.course.output) err)

-- memory ran out before it was known where it stops
pub lost : (asked : PlainAsked) (saving : PlainSaving) (h : Kept) → IsTold asked saving h (runs_out h.course.output)
lost asked saving h = inr (inl refl)

-- the run was told behind the reports
pub ended_ran : (asked : PlainAsked) (saving : PlainSaving) (p : List (PlainItem ℕ)) (options : RunOptions) (begun h : Kept) (output errors : Passage)
    (mid : Moment) (store : Shelf) (status : ℕ) → IsAtStart p options.steps options.watch begun →
    stands (text_of begun.course.program) begun.course.items ≡ Some (run_of begun.course) → (options.workers ≡ 1 → PlaysChosen options.seed begun h) → IsWorked begun h →
    IsRunOf h.course.program h.watch h.course.items h.reports (run_of h.course) → AreTold h.reports (upto mid errors) →
    Replies (IsTold asked saving h) output (since mid errors) store status → ProgramOutcome asked saving p options output errors store status
ended_ran asked saving p options begun h output errors mid store status begins leads plays worked run told ended =
    let r = run_of h.course in
    let more = worked.goes_on in
    let program : h.course.program ≡ p = more.program ∙ begins.program in
    let budget : h.budget ≡ options.steps = more.budget ∙ begins.budget_is in
    let watch : h.watch ≡ options.watch = more.watch ∙ begins.watch_is in (
      h.course.items,
      h.reports,
      r,
      run_is p options.watch h.course.items h program watch refl run,
      exchanged p options.steps options.watch begun h begins more,
      (
        mid,
        ended.0,
        so ended.0 ended.1
            (λ reply is. (
              told,
              (
                subst (λ (b : ℕ). over b r ≡ true) budget worked.over_is,
                subst (λ (w : Option ℕ). AllReported w h.course.items h.reports) watch worked.none_due,
              ),
              subst (λ (b : ℕ). EndsTold asked saving p h.course.items b reply) budget
                  (subst (λ (q : List (PlainItem ℕ)). EndsTold asked saving q h.course.items h.budget reply) program is),
              λ one. chosen_from p options.steps options.seed options.watch begun h begins leads (plays one),
            ))
            (λ reply is. (
              told,
              subst (λ (q : List (PlainItem ℕ)). MemoryRanOut asked q h.course.items r reply) program is,
              λ one. whole_part p options.steps options.seed h.course.items r (chosen_from p options.steps options.seed options.watch begun h begins leads (plays one)),
            )),
        ended.2,
      ),
    )
  where
    so : (reply : PlainReply) → IsTold asked saving h reply →
        ((reply : PlainReply) → EndsTold asked saving h.course.program h.course.items h.budget reply →
        AreTold h.reports (upto mid errors) × HasEnded options.steps options.watch h.course.items h.reports (run_of h.course)
        × EndsTold asked saving p h.course.items options.steps reply
        × (options.workers ≡ 1 → IsChosen p options.steps options.seed h.course.items (run_of h.course))) →
        ((reply : PlainReply) → MemoryRanOut asked h.course.program h.course.items (run_of h.course) reply →
        AreTold h.reports (upto mid errors) × MemoryRanOut asked p h.course.items (run_of h.course) reply
        × (options.workers ≡ 1 → IsPartChosen p options.steps options.seed h.course.items (run_of h.course))) →
        IsRunReply asked saving p options h.course.items h.reports (run_of h.course) (upto mid errors) reply
    so reply (inl is) over ran_out = inl (over reply is)
    so reply (inr is) over ran_out = inr (inl (ran_out reply is))

-- why it was stopped was told, behind what was written of its reports
pub stopped_ran : (asked : PlainAsked) (saving : PlainSaving) (p : List (PlainItem ℕ)) (options : RunOptions) (begun : Kept) (stopped : Stopped) (output errors : Passage) (mid : Moment)
    (store : Shelf) (status : ℕ) → IsAtStart p options.steps options.watch begun →
    stands (text_of begun.course.program) begun.course.items ≡ Some (run_of begun.course) → (options.workers ≡ 1 → PlaysPart options.seed begun stopped.hub) →
    IsStopped options begun stopped (counted_stream errors.old.bytes mid.bytes mid.calls mid.failed) →
    IsRunOf stopped.hub.course.program stopped.hub.watch stopped.hub.course.items stopped.hub.reports (run_of stopped.hub.course) →
    IsCarriedOut (stop_reply stopped.hub stopped.cause) output (since mid errors) store status → ProgramOutcome asked saving p options output errors store status
stopped_ran asked saving p options begun stopped output errors mid store status begins leads plays stops run carried =
    let h = stopped.hub in
    let more = stops.0 in (
      h.course.items,
      h.reports,
      run_of h.course,
      run_is p options.watch h.course.items h (more.program ∙ begins.program) (more.watch ∙ begins.watch_is) refl run,
      exchanged p options.steps options.watch begun h begins more,
      (
        mid,
        stop_reply h stopped.cause,
        so stopped.cause stops.1 stops.2
            (λ one. part_chosen p options.steps options.seed options.watch begun h begins leads (plays one)),
        carried,
      ),
    )
  where
    so : (why : Cause) → AreToldBy options stopped.hub why (stream errors.old.bytes mid.bytes) → mid.failed ≡ failed_by why →
        (options.workers ≡ 1 → IsPartChosen p options.steps options.seed stopped.hub.course.items (run_of stopped.hub.course)) →
        IsRunReply asked saving p options stopped.hub.course.items stopped.hub.reports (run_of stopped.hub.course) (upto mid errors) (stop_reply stopped.hub why)
    so cause.Memory told failed part = inr (inl ((told, failed), inl refl, part))
    so cause.Write told failed part = inr (inr (inl ((told, failed), refl, part)))
    so cause.Foreign told failed part = inr (inr (inr (told.0, (told.1.0, told.1.1, told.1.2, (told.1.3, failed)), refl)))

-- the script was run, with the numbers of its servers
pub opened_ran : (explains : Bool) (s : PlainScript) (properties : List Property) (options : RunOptions) (servers : List ℕ) (asked : PlainAsked) (saving : PlainSaving)
    (p : List (PlainItem ℕ)) (output errors : Passage) (store : Shelf) (status : ℕ) →
    first_unknown s (server_names options.end) ≡ None → servers ≡ server_numbers s (server_names options.end) → p ≡ s.program →
    asked ≡ record { explains = explains; strict = options.end.strict; servers = servers; properties = properties; stops = options.stop } → saving ≡ saving_of options →
    SomehowOutcome asked saving p options output errors store status → ScriptOutcome explains s properties options output errors store status
opened_ran explains s properties options servers asked saving p output errors store status known numbered program same saves (inl ran) =
    let order : Option Order = order_said options.turns options.priority in
    let asks : asked ≡ run_asked options explains s properties =
    same ∙ ap (λ (ns : List ℕ). record { explains = explains; strict = options.end.strict; servers = ns; properties = properties; stops = options.stop }) numbered in
    inl (
      known,
      subst (λ (a : PlainAsked). RunsSo order a (saving_of options) s.program options output errors store status) asks
          (subst (λ (v : PlainSaving). RunsSo order asked v s.program options output errors store status) saves
          (subst (λ (q : List (PlainItem ℕ)). RunsSo order asked saving q options output errors store status) program ran)),
    )
opened_ran explains s properties options servers asked saving p output errors store status known numbered program same saves (inr (reply, memory, carried)) =
    inr (reply, inr memory, carried)

-- a run where no order is said
pub somehow_so : (asked : PlainAsked) (saving : PlainSaving) (p : List (PlainItem ℕ)) (options : RunOptions) (output errors : Passage) (store : Shelf) (status : ℕ)
    → order_said options.turns options.priority ≡ None → BegunOutcome asked saving p options output errors store status → SomehowOutcome asked saving p options output errors store status
somehow_so asked saving p options output errors store status said (inl ran) =
    inl (subst (λ (o : Option Order). RunsSo o asked saving p options output errors store status) (sym said) ran)
somehow_so asked saving p options output errors store status said (inr memory) = inr memory
