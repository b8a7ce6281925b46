-- Runs that were closed, and what a schedule led to.
use Rattle.std.proofs.Common.{◌≡◌, ◌∙◌, ◌&&◌, ◌||◌, ◌++◌, ◌∷◌, not, if◌then◌else◌, ℕ, Bool, true, false, List, [], length, Option, Some, None, Vec, is_some, map}
use Rattle.std.proofs.Common.{Result, Ok, Err, IfOk, IfErr, OnOk, ap, inl, inr, refl, subst, sym, arith}
use Rattle.std.specs.Prelude.{◌==◌}
use Rattle.std.proofs.lemmas.Bool.Decides.{nat_tests}
use Rattle.std.specs.declared.alloc.Global.{Global}
use Rattle.cml_check.specs.Sizes.{size_of}
use Rattle.cml_check.specs.Syntax.{PlainItem}
use Rattle.cml_hub.specs.Courses.{run_of}
use Rattle.cml_hub.specs.Kept.{Kept, IsAtStart}
use Rattle.cml_hub.specs.Runs.{ending}
use Rattle.cml_judge.specs.Judgements.{IsJudgedAlone, are_all_kept}
use Rattle.cml_properties.specs.declared.property.Property.{Property}
use Rattle.cml_schedule.specs.Written.{schedule_text}
use Rattle.cml_schedule.specs.declared.item.Item.{Item}
use Rattle.cml_arguments.specs.declared.ReplayOptions.{ReplayOptions}
use Rattle.cml_host.specs.Behind.{RepliesAfter}
use Rattle.cml_host.specs.Closed.{PlainAsked, IsClosed, IsClosing, IsHubAt, MaySay, closing_status, is_asked, is_unwell, schedule_file}
use Rattle.cml_host.specs.Replaying.{IsHubOf, IsReplayReply, ReplayTold, ScheduleOutcome, ScriptReplayed, replay_asked, saves_nothing}
use Rattle.cml_host.specs.Running.{IsTold}
use Rattle.cml_host.specs.Replies.{File, IsCarriedOut, Moment, Passage, Replies, behind, broken, file, plain_file, plain_of, since, upto}
use Rattle.cml_host.specs.Servers.{first_unknown, server_numbers, server_names}
use Rattle.cml_host.specs.Scripts.{PlainScript}
use Rattle.cml_host.specs.Stores.{Content, Shelf}
use Rattle.cml_host.specs.Told.{IsRunOf, AllReported, AreCut, AreTold, end_status, whole_output}
use Rattle.cml_host.specs.declared.close.Closing.{Closing}
use Rattle.cml_host.specs.declared.reply.File as code
use Rattle.cml_host.specs.declared.reply.Reply.{Reply}

-- the hub's run is one of this program
pub run_is : (p : List (PlainItem ℕ)) (watch : Option ℕ) (items : List Item) (h : Kept) → h.course.program ≡ p → h.watch ≡ watch → h.course.items ≡ items →
    IsRunOf h.course.program h.watch h.course.items h.reports (run_of h.course) → IsRunOf p watch items h.reports (run_of h.course)
run_is p watch items h program watched items_are run =
    subst (λ (ts : List Item). IsRunOf p watch ts h.reports (run_of h.course)) items_are
    (subst (λ (w : Option ℕ). IsRunOf p w h.course.items h.reports (run_of h.course)) watched
    (subst (λ (q : List (PlainItem ℕ)). IsRunOf q h.watch h.course.items h.reports (run_of h.course)) program run))

-- ---- what is asked of the end of a run

kept_for : (explains draws kept : Bool) → kept ≡ explains || draws → explains && kept ≡ explains
kept_for true draws kept is = is
kept_for false draws kept is = refl

abbrev asks_of : Bool → Bool → List ℕ → List Property → Bool → PlainAsked
asks_of explains strict servers properties stops = record { explains = explains; strict = strict; servers = servers; properties = properties; stops = stops }

-- the end is explained, since the script is kept for it
pub asked_so : (explains draws kept strict : Bool) (servers : List ℕ) (properties : List Property) (stops : Bool) → kept ≡ explains || draws
    → asks_of (explains && kept) strict servers properties stops ≡ asks_of explains strict servers properties stops
asked_so explains draws kept strict servers properties stops is = ap (λ (e : Bool). asks_of e strict servers properties stops) (kept_for explains draws kept is)

-- some are asked for where they are not none
pub asked_some : (properties : List Property) → not (length properties == 0) ≡ is_asked properties
asked_some [] = refl
asked_some (p ∷ properties) = let some : (length (p ∷ properties) == 0) ≡ false = grind (arith, nat_tests) in ap not some

may_nothing : (explains : Bool) → MaySay explains []
may_nothing true = tt
may_nothing false = refl

-- any words may be said where it is explained, and none anywhere
pub may_any : {E : Type 0} (explains : Bool) (r : Result (Vec ℕ Global) E) → explains ≡ true → IfOk r (λ words. MaySay explains words.items)
may_any explains (Ok words) so = subst (λ (b : Bool). MaySay b words.items) (sym so) tt
may_any explains (Err e) so = tt

pub may_none : (explains : Bool) (words : Vec ℕ Global) → words.items ≡ [] → MaySay explains words.items
may_none explains words none = subst (MaySay explains) (sym none) (may_nothing explains)

-- where the script is kept, that is what is explained
and_kept : (explains kept : Bool) → kept ≡ true → explains ≡ explains && kept
and_kept true kept so = sym so
and_kept false kept so = refl

pub may_kept : {E : Type 0} (r : Result (Vec ℕ Global) E) (explains kept : Bool) → kept ≡ true → IfOk r (λ words. MaySay explains words.items) →
    IfOk r (λ words. MaySay (explains && kept) words.items)
may_kept (Ok words) explains kept so say = subst (λ (b : Bool). MaySay b words.items) (and_kept explains kept so) say
may_kept (Err e) explains kept so say = tt

-- what is said of properties and of the end, one behind the other
pub said_so : (explains : Bool) (properties : List Property) (first more all : List ℕ) → (is_asked properties ≡ false → first ≡ []) → MaySay explains more → all ≡ first ++ more
    → MaySay (explains || is_asked properties) all
said_so true properties first more all none say is = tt
said_so false [] first more all none say is = is ∙ (ap (λ l. l ++ more) (none refl) ∙ say)
said_so false (p ∷ properties) first more all none say is = tt

-- nothing is said where nothing is asked for
pub none_or : {A E : Type 0} (r : Result A E) (properties : List Property) (old new : List ℕ) → (length properties == 0) ≡ false → OnOk r (is_asked properties ≡ false → new ≡ old)
none_or (Ok x) [] old new some = λ none. cc
none_or (Ok x) (p ∷ properties) old new some = λ none. cc
none_or (Err e) properties old new some = tt

-- the status is 6, or that of the end
pub status_bad : (asked : PlainAsked) (h : Kept) (kept unwell : Bool) → unwell ≡ is_unwell asked h kept → unwell ≡ true → 6 ≡ closing_status asked h kept
status_bad asked h kept unwell is so = sym (ap (λ (b : Bool). if b then 6 else end_status (ending h.budget (run_of h.course))) (sym is ∙ so))

pub status_fine : (asked : PlainAsked) (h : Kept) (kept unwell : Bool) (n : ℕ) → unwell ≡ is_unwell asked h kept → unwell ≡ false → n ≡ end_status (ending h.budget (run_of h.course))
    → n ≡ closing_status asked h kept
status_fine asked h kept unwell n is so end = end ∙ sym (ap (λ (b : Bool). if b then 6 else end_status (ending h.budget (run_of h.course))) (sym is ∙ so))

-- a run was closed, and was judged so
pub closing_so : (asked : PlainAsked) (h : Kept) (properties : List Property) (judged slice : List (Option ℕ)) (kept : Bool) (closing : Closing) → properties ≡ asked.properties
    → IsJudgedAlone properties h judged → slice ≡ judged → kept ≡ are_all_kept slice → closing.status ≡ closing_status asked h kept
    → MaySay (asked.explains || is_asked asked.properties) closing.words.items → IsClosing asked h closing
closing_so asked h properties judged slice kept closing wanted so same is status words = (
  judged,
  subst (λ (ps : List Property). IsJudgedAlone ps h judged) wanted so,
  words,
  status ∙ ap (closing_status asked h) (is ∙ ap are_all_kept same),
)

-- ---- the end of a run

-- a hub stands where its own run does
stands_itself : (h : Kept) → IsHubAt h.course.program h.budget h.course.items (run_of h.course) h
stands_itself h = record { program = refl; budget_is = refl; items_are = refl; run_is = refl }

-- its output is told with the end line, its schedule is saved, and then it is said how it ended
pub closed_as : (asked : PlainAsked) (save_as : Option (List ℕ)) (h : Kept) (closing : Closing) (reply : Reply) →
    h.course.output ++ reply.output.items ≡ whole_output h.budget (run_of h.course) →
    map plain_file reply.files.items ≡ schedule_file asked.explains save_as (schedule_text h.budget (size_of h.course.program) h.course.items) → IsClosing asked h closing →
    reply.words ≡ closing.words → reply.status ≡ closing.status →
    IsClosed asked save_as h.course.program h.course.items h.budget (run_of h.course) (behind h.course.output (plain_of reply))
closed_as asked save_as h closing reply whole files closes words status = (
  h,
  stands_itself h,
  whole,
  files,
  (
    closes.0,
    closes.1,
    subst (λ (ts : Vec ℕ Global). MaySay (asked.explains || is_asked asked.properties) ts.items) (sym words) closes.2,
    status ∙ closes.3,
  ),
)

-- the schedule is saved as the one file
pub one_scheduled : {E : Type 0} (r : Result (Vec code.File Global) E) (f : code.File) (explains : Bool) (save_as : Option (List ℕ)) (name bytes schedule : List ℕ) →
    save_as ≡ Some name → plain_file f ≡ file explains name bytes → bytes ≡ schedule → IfOk r (λ files. files.items ≡ f ∷ []) →
    IfOk r (λ files. map plain_file files.items ≡ schedule_file explains save_as schedule)
one_scheduled (Ok files) f explains save_as name bytes schedule named is same one =
    ap (map plain_file) one
    ∙ (ap (λ (x : File). x ∷ []) (is ∙ ap (file explains name) same) ∙ ap (λ (o : Option (List ℕ)). schedule_file explains o schedule) (sym named))
one_scheduled (Err e) f explains save_as name bytes schedule named is same one = tt

-- ---- replay

-- what is told of a hub is told of the run of a program where it stands
told_of : (asked : PlainAsked) (p : List (PlainItem ℕ)) (budget : ℕ) (items : List Item) (h : Kept) (output errors : Passage) (store : Shelf) (status : ℕ) →
    h.course.program ≡ p → h.budget ≡ budget → h.course.items ≡ items →
    RepliesAfter (IsReplayReply asked h.course.program h.budget h.course.items h.reports (run_of h.course)) output errors store status →
    RepliesAfter (IsReplayReply asked p budget items h.reports (run_of h.course)) output errors store status
told_of asked p budget items h output errors store status program budget_is items_are told =
    let r = run_of h.course in
    subst (λ (b : ℕ). RepliesAfter (IsReplayReply asked p b items h.reports r) output errors store status) budget_is
    (subst (λ (ts : List Item). RepliesAfter (IsReplayReply asked p h.budget ts h.reports r) output errors store status) items_are
    (subst (λ (q : List (PlainItem ℕ)). RepliesAfter (IsReplayReply asked q h.budget h.course.items h.reports r) output errors store status) program told))

pub scheduled : (asked : PlainAsked) (p : List (PlainItem ℕ)) (watch : Option ℕ) (name : List ℕ) (content : Content) (h : Kept) (output errors : Passage) (store : Shelf) (status : ℕ) →
    IsHubOf p watch content h → ReplayTold asked h output errors store status → ScheduleOutcome asked p watch name content output errors store status
scheduled asked p watch name content h output errors store status (plan, fits, made) (run, told) =
    let due : AllReported watch plan.items h.reports =
    subst (λ (ts : List Item). AllReported watch ts h.reports) made.items_are
    (subst (λ (w : Option ℕ). AllReported w h.course.items h.reports) made.watch_is made.none_due) in
    inl (
      plan,
      fits,
      (
        h.reports,
        run_of h.course,
        run_is p watch plan.items h made.program made.watch_is made.items_are run,
        due,
        told_of asked p plan.budget plan.items h output errors store status made.program made.budget_is made.items_are told,
      ),
    )

-- what is told of it was told behind the reports
pub replay_told : (asked : PlainAsked) (h : Kept) (output errors : Passage) (mid : Moment) (store : Shelf) (status : ℕ) →
    IsRunOf h.course.program h.watch h.course.items h.reports (run_of h.course) → AreTold h.reports (upto mid errors) →
    Replies (IsTold asked saves_nothing h) output (since mid errors) store status → ReplayTold asked h output errors store status
replay_told asked h output errors mid store status run told ended = (run, (mid, ended.0, inl (told, ended.1), ended.2))

-- or that a write of them failed
pub replay_cut : (asked : PlainAsked) (h : Kept) (output errors : Passage) (mid : Moment) (store : Shelf) (status : ℕ) →
    IsRunOf h.course.program h.watch h.course.items h.reports (run_of h.course) → AreCut h.reports (upto mid errors) →
    IsCarriedOut broken output (since mid errors) store status → ReplayTold asked h output errors store status
replay_cut asked h output errors mid store status run cut carried = (run, (mid, _, inr (cut, refl), carried))

-- the script was run by the schedule, with the numbers of its servers
pub replayed : (explains : Bool) (s : PlainScript) (properties : List Property) (options : ReplayOptions) (servers : List ℕ) (asked : PlainAsked) (p : List (PlainItem ℕ)) (content : Content)
    (output errors : Passage) (store : Shelf) (status : ℕ) → first_unknown s (server_names options.end) ≡ None → servers ≡ server_numbers s (server_names options.end) → p ≡ s.program →
    asked ≡ record { explains = explains; strict = options.end.strict; servers = servers; properties = properties; stops = options.stop } →
    ScheduleOutcome asked p options.watch options.schedule.now content output errors store status → ScriptReplayed explains s properties options content output errors store status
replayed explains s properties options servers asked p content output errors store status known numbered program same ran =
    let asks : asked ≡ replay_asked options explains s properties =
    same ∙ ap (λ (ns : List ℕ). record { explains = explains; strict = options.end.strict; servers = ns; properties = properties; stops = options.stop }) numbered in
    inl (
      known,
      subst (λ (a : PlainAsked). ScheduleOutcome a s.program options.watch options.schedule.now content output errors store status) asks
          (subst (λ (q : List (PlainItem ℕ)). ScheduleOutcome asked q options.watch options.schedule.now content output errors store status) program ran),
    )

-- ---- a hub at its start

pub starts_itself : (p : List (PlainItem ℕ)) (budget : ℕ) (watch : Option ℕ) (h : Kept) → IsAtStart p budget watch h → IsAtStart h.course.program budget watch h
starts_itself p budget watch h begins =
    record { program = refl; budget_is = begins.budget_is; watch_is = begins.watch_is; items = begins.items; reports = begins.reports; none_out = begins.none_out; queue = begins.queue }

-- the same, where its budget is this one
pub starts_again : (p : List (PlainItem ℕ)) (budget : ℕ) (h : Kept) → IsAtStart p budget None h → IsAtStart h.course.program h.budget None h
starts_again p budget h begins = subst (λ (b : ℕ). IsAtStart h.course.program b None h) (sym begins.budget_is) (starts_itself p budget None h begins)
