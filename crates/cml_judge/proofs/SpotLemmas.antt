-- Where a line of an output begins, by which item it was printed, and what is told of properties that break.
use Rattle.std.proofs.Common.{◌≡◌, ℕ, zero, suc, ◌+◌, ◌-◌, ◌<◌, ◌≤◌}
use Rattle.std.proofs.Common.{List, [], ◌∷◌, ◌++◌, length, get_or, take, drop, Option, Some, None, refl, sym, ap, ◌∙◌, subst, arith, add-one, inl, inr, below_more}
use Rattle.std.specs.Prelude.{slice_get, MatchOption, IsSomeAnd, Result, Ok, Err, IfOk}
use Rattle.std.proofs.lemmas.Bool.{cases_lt}
use Rattle.std.proofs.lemmas.List.{append_assoc, append-nil, drop_all, drop_more, take_all}
use Rattle.std.proofs.lemmas.Option.{slice_get-get_or}
use Rattle.cml_text.specs.Lines.{lines}
use Rattle.cml_value.specs.declared.number.Tid.{Tid}
use Rattle.cml_schedule.specs.declared.item.Item.{Item}
use Rattle.cml_schedule.specs.declared.item.Item.TheVariants.{Turn}
use Rattle.cml_step.specs.Calls.{text_of}
use Rattle.cml_step.specs.Terms.{Program}
use Rattle.cml_hub.specs.Courses.{run_of}
use Rattle.cml_hub.specs.Kept.{Kept}
use Rattle.cml_hub.specs.Runs.{Run, stands}
use Rattle.cml_facts.specs.Again.{RunsAgain, AddsAlone}
use Rattle.cml_facts.proofs.AgainLemmas.{IsNext, goes_on_again}
use Rattle.cml_judge.specs.declared.breaks.Break.{Break}
use Rattle.cml_judge.specs.declared.spot.Spot.{Spot}
use Rattle.cml_judge.proofs.GrowLemmas.{only_turns_print}
use Rattle.cml_judge.specs.Spots.{line_start, HasPrinted, IsPrintedBy, IsSpotOfLine, IsSpotOfByte, IsTurnSpot, IsBreak, AreBreaksFrom}

-- the lines that are left behind some, of which one begins at this byte
pub record Left (output : List ℕ) (number count at : ℕ) (left : List (List ℕ)) : Type 0 where
  pub counted : length left + count ≡ length (lines output)
  pub behind : count ≤ number
  pub start : at + line_start left (number - count) ≡ line_start (lines output) number

pub left_first : (output : List ℕ) (number : ℕ) (left : List (List ℕ)) → left ≡ lines output → Left output number 0 0 left
left_first output number left same = record {
  counted = omega (arith, ap length same);
  behind = omega arith;
  start = omega (arith, ap (λ ls. line_start ls number) same, ap (λ n. line_start left n) (number_less number));
}
  where
    number_less : (n : ℕ) → n - 0 ≡ n
    number_less n = omega arith

-- a line that is not the one
start_next : (line : List ℕ) (rest : List (List ℕ)) (k number count : ℕ) → number ≡ suc k + count → line_start (line ∷ rest) (number - count) ≡ length line + 1 + line_start rest (number - (count + 1))
start_next line rest k number count e =
    let more : number - count ≡ suc k = omega arith in
    let less : k ≡ number - (count + 1) = omega arith in
    ap (λ n. line_start (line ∷ rest) n) more ∙ ap (λ n. length line + 1 + line_start rest n) less

pub left_next : (output : List ℕ) (number count at at' : ℕ) (line : List ℕ) (left rest : List (List ℕ)) → left ≡ line ∷ rest → (count ≡ number → ⊥) → at' ≡ at + (length line + 1) →
    Left output number count at left → Left output number (count + 1) at' rest
left_next output number count at at' line left rest is other moved so =
    let behind : count ≤ number = so.behind in
    let long = ap length is in
    let next : count + 1 ≤ number = omega arith in
    let step : line_start left (number - count) ≡ length line + 1 + line_start rest (number - (count + 1)) =
    ap (λ ls. line_start ls (number - count)) is ∙ start_next line rest (number - (count + 1)) number count (omega arith) in
    record {
      counted = omega (arith, so.counted, long);
      behind = next;
      start = omega (arith, so.start, step);
    }

-- the line is found, or there are not so many
pub left_here : (output : List ℕ) (number count at : ℕ) (line : List ℕ) (left rest : List (List ℕ)) → left ≡ line ∷ rest → count ≡ number → Left output number count at left →
    (number < length (lines output)) × (at ≡ line_start (lines output) number)
left_here output number count at line left rest is here so =
    let long = ap length is in
    let none : number - count ≡ 0 = omega arith in
    let first : line_start left (number - count) ≡ 0 = ap (λ ls. line_start ls (number - count)) is ∙ ap (λ n. line_start (line ∷ rest) n) none in
    (omega (arith, so.counted, long), omega (arith, so.start, first))

pub left_none : (output : List ℕ) (number count at : ℕ) (left : List (List ℕ)) → left ≡ [] → Left output number count at left → length (lines output) ≤ number
left_none output number count at left is so = omega (arith, so.counted, so.behind, ap length is)

-- whether more than so many bytes were printed where the items have led
pub printed_past : (p : Program) (items : List Item) (at : ℕ) (r : Run) → stands p items ≡ Some r → HasPrinted p items at → at < length r.output
printed_past p items at r leads printed = subst (λ (o : Option Run). IsSomeAnd o (λ now. at < length now.output)) leads printed

pub has_printed : (p : Program) (items : List Item) (at : ℕ) (r : Run) → stands p items ≡ Some r → at < length r.output → HasPrinted p items at
has_printed p items at r leads past = subst (λ (o : Option Run). IsSomeAnd o (λ now. at < length now.output)) (sym leads) past

-- before the first item nothing was printed
pub none_printed : (p : Program) (items : List Item) (at k : ℕ) → k < 0 + 1 → HasPrinted p (take k items) at → ⊥
none_printed p items at zero h printed = let past : at < 0 = printed in absurd (omega arith)
none_printed p items at (suc k) h printed = absurd (omega arith)

-- where the second hub stands the first one's items have led
pub leads_so : (first second : Kept) (n : ℕ) → RunsAgain first second n → stands (text_of second.course.program) second.course.items ≡ Some (run_of second.course) →
    stands (text_of first.course.program) (take n first.course.items) ≡ Some (run_of second.course)
leads_so first second n gone leads =
    ap (λ q. stands (text_of q) (take n first.course.items)) (sym gone.program) ∙ ap (stands (text_of second.course.program)) (sym gone.items) ∙ leads

pub none_printed_more : (p : Program) (items : List Item) (at i : ℕ) (r : Run) → stands p (take (i + 1) items) ≡ Some r → length r.output ≤ at →
    ((k : ℕ) → k < i + 1 → HasPrinted p (take k items) at → ⊥) → (k : ℕ) → k < i + 1 + 1 → HasPrinted p (take k items) at → ⊥
none_printed_more p items at i r leads few none =
    below_more (λ k. HasPrinted p (take k items) at → ⊥) (i + 1) none
    (λ printed. let past : at < length r.output = printed_past p (take (i + 1) items) at r leads printed in absurd (omega arith))

pub none_printed_at_all : (p : Program) (items all : List Item) (at i : ℕ) (r : Run) → items ≡ all → length items ≤ i → stands p all ≡ Some r →
    ((k : ℕ) → k < i + 1 → HasPrinted p (take k all) at → ⊥) → length r.output ≤ at
none_printed_at_all p items all at i r same past leads none =
    let whole : take i all ≡ all = take_all i all (subst (λ xs. length xs ≤ i) same past) in
    elim (cases_lt at (length r.output)) [
      | inl more ↦ absurd (none i (omega arith) (has_printed p (take i all) at r (ap (stands p) whole ∙ leads) more))
      | inr few ↦ few
    ]

-- the spot of the next item, which is a turn
spot_at : (p : Program) (items : List Item) (at i : ℕ) (d : Item) (spot : Spot) → IsTurnSpot (get_or items i d) (i + 1) spot → i < length items →
    HasPrinted p (take (i + 1) items) at → ((k : ℕ) → k < i + 1 → HasPrinted p (take k items) at → ⊥) → IsSpotOfByte p items at spot
spot_at p items at i d spot turn within has none =
    let by_number : IsPrintedBy p items at (i + 1) = record { within = omega arith; printed = has; before = none } in
    let there : IsSomeAnd (slice_get items i) (λ item. item ≡ Turn spot.thread) =
    subst (λ (o : Option Item). IsSomeAnd o (λ item. item ≡ Turn spot.thread)) (sym (slice_get-get_or items i d within)) turn.turn in
    record {
      printed = subst (λ (n : ℕ). IsPrintedBy p items at n) (sym turn.number_is) by_number;
      turn = (i, turn.number_is ∙ add-one i, there);
    }

-- only a turn prints
pub spot_found : (p : Program) (items : List Item) (at i : ℕ) (d : Item) (spot : Option Spot) (before after : Run) (nowhere : Type 0) →
    MatchOption spot ((thread : Tid) → get_or items i d ≡ Turn thread → ⊥) (IsTurnSpot (get_or items i d) (i + 1)) → i < length items →
    stands p (take i items) ≡ Some before → stands p (take (i + 1) items) ≡ Some after →
    (((thread : Tid) → get_or items i d ≡ Turn thread → ⊥) → after.output ≡ before.output) → at < length after.output →
    ((k : ℕ) → k < i + 1 → HasPrinted p (take k items) at → ⊥) → MatchOption spot nowhere (IsSpotOfByte p items at)
spot_found p items at i d (Some spot) before after nowhere turn within led leads same past none =
    spot_at p items at i d spot turn within (has_printed p (take (i + 1) items) at after leads past) none
spot_found p items at i d None before after nowhere no_turn within led leads same past none =
    absurd (none i (omega arith) (has_printed p (take i items) at before led (subst (λ (out : List ℕ). at < length out) (same no_turn) past)))

-- where a line is told
pub spot_so : {E : Type 0} (r : Result (Option Spot) E) (h : Kept) (number at : ℕ) → number < length (lines h.course.output) → at ≡ line_start (lines h.course.output) number →
    at < length h.course.output →
    IfOk r (λ spot. MatchOption spot (length h.course.output ≤ at) (IsSpotOfByte (text_of h.course.program) h.course.items at)) → IfOk r (IsSpotOfLine h number)
spot_so (Ok (Some spot)) h number at there begins past is = record {
  printed = subst (λ (n : ℕ). IsPrintedBy (text_of h.course.program) h.course.items n spot.item) begins is.printed;
  turn = is.turn;
}
spot_so (Ok None) h number at there begins past few = let none : length h.course.output ≤ at = few in absurd (omega arith)
spot_so (Err e) h number at there begins past is = tt

-- What is told of the properties that are left, behind what was told, is told of all.
abbrev pub ToldOn : Kept → List (Option ℕ) → ℕ → List Break → Type 0
ToldOn h judged i told = (others : List Break) → AreBreaksFrom h i (drop i judged) others → AreBreaksFrom h 0 judged (told ++ others)

joined : (h : Kept) (n : ℕ) (line : Option ℕ) (rest : List (Option ℕ)) (more others : List Break) → AreBreaksFrom h n (line ∷ []) more → AreBreaksFrom h (suc n) rest others →
    AreBreaksFrom h n (line ∷ rest) (more ++ others)
joined h n None rest more others none told = subst (λ (bs : List Break). AreBreaksFrom h (suc n) rest bs) (ap (λ bs. bs ++ others) (sym none)) told
joined h n (Some line) rest more others one told =
    (one.0, others, one.2, told, ap (λ bs. bs ++ others) (one.4 ∙ ap (λ bs. one.0 ∷ bs) one.3))

pub told_more : (h : Kept) (judged : List (Option ℕ)) (i : ℕ) (d : Option ℕ) (more told new : List Break) → i < length judged →
    AreBreaksFrom h i (get_or judged i d ∷ []) more → new ≡ told ++ more → ToldOn h judged i told → ToldOn h judged (i + 1) new
told_more h judged i d more told new within one grown on = λ others rest.
    let behind : AreBreaksFrom h (suc i) (drop (i + 1) judged) others = subst (λ (n : ℕ). AreBreaksFrom h n (drop (i + 1) judged) others) (add-one i) rest in
    let here : AreBreaksFrom h i (drop i judged) (more ++ others) =
    subst (λ (js : List (Option ℕ)). AreBreaksFrom h i js (more ++ others)) (sym (drop_more judged i d within))
    (joined h i (get_or judged i d) (drop (i + 1) judged) more others one behind) in
    let same : told ++ (more ++ others) ≡ new ++ others = sym (append_assoc told more others) ∙ ap (λ bs. bs ++ others) (sym grown) in
    subst (λ (bs : List Break). AreBreaksFrom h 0 judged bs) same (on (more ++ others) here)

pub told_all : (h : Kept) (judged : List (Option ℕ)) (i : ℕ) (told : List Break) → length judged ≤ i → ToldOn h judged i told → AreBreaksFrom h 0 judged told
told_all h judged i told past on =
    let none : AreBreaksFrom h i [] [] = refl in
    subst (λ (bs : List Break). AreBreaksFrom h 0 judged bs) (append-nil told)
    (on [] (subst (λ (js : List (Option ℕ)). AreBreaksFrom h i js []) (sym (drop_all i judged past)) none))

-- of a property that is kept nothing is told
pub told_none : (h : Kept) (n : ℕ) (line : Option ℕ) (told : List Break) → line ≡ None → (more : List Break) × AreBreaksFrom h n (line ∷ []) more × (told ≡ told ++ more)
told_none h n line told kept =
    let none : AreBreaksFrom h n (None ∷ []) [] = refl in
    ([], subst (λ (l : Option ℕ). AreBreaksFrom h n (l ∷ []) []) (sym kept) none, sym (append-nil told))

pub told_one : (h : Kept) (n : ℕ) (line : Option ℕ) (at : ℕ) (one : Break) (told new : List Break) → line ≡ Some at → IsBreak h n at one → new ≡ told ++ one ∷ [] →
    (more : List Break) × AreBreaksFrom h n (line ∷ []) more × (new ≡ told ++ more)
told_one h n line at one told new broken is grown =
    let none : AreBreaksFrom h (suc n) [] [] = refl in
    let so : AreBreaksFrom h n (Some at ∷ []) (one ∷ []) = (one, [], is, none, refl) in
    (one ∷ [], subst (λ (l : Option ℕ). AreBreaksFrom h n (l ∷ []) (one ∷ [])) (sym broken) so, grown)

-- the byte is printed by the item that comes next
pub spot_next : (items : List Item) (first second new : Kept) (at i : ℕ) (d : Item) (spot : Option Spot) (nowhere : Type 0) → IsNext items first second i →
    AddsAlone second (get_or items i d) new → stands (text_of second.course.program) second.course.items ≡ Some (run_of second.course) →
    stands (text_of new.course.program) new.course.items ≡ Some (run_of new.course) →
    MatchOption spot ((thread : Tid) → get_or items i d ≡ Turn thread → ⊥) (IsTurnSpot (get_or items i d) (i + 1)) → at < length new.course.output →
    ((k : ℕ) → k < i + 1 → HasPrinted (text_of first.course.program) (take k first.course.items) at → ⊥) →
    MatchOption spot nowhere (IsSpotOfByte (text_of first.course.program) first.course.items at)
spot_next items first second new at i d spot nowhere next came led leads turn past none =
    let is_turn : MatchOption spot ((thread : Tid) → get_or first.course.items i d ≡ Turn thread → ⊥) (IsTurnSpot (get_or first.course.items i d) (i + 1)) =
    subst (λ (xs : List Item). MatchOption spot ((thread : Tid) → get_or xs i d ≡ Turn thread → ⊥) (IsTurnSpot (get_or xs i d) (i + 1))) next.items_are turn in
    let within : i < length first.course.items = subst (λ (xs : List Item). i < length xs) next.items_are next.within in
    spot_found (text_of first.course.program) first.course.items at i d spot (run_of second.course) (run_of new.course) nowhere is_turn within
    (leads_so first second i next.gone led) (leads_so first new (i + 1) (goes_on_again items first second new i d next came) leads)
    (λ no_turn. only_turns_print (text_of second.course.program) (run_of second.course) (get_or items i d) (run_of new.course) came.adds.run
    (λ thread is. no_turn thread (subst (λ (xs : List Item). get_or xs i d ≡ Turn thread) next.items_are is)))
    past none
