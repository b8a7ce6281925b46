-- One item more.
use Rattle.std.proofs.Common.{◌≡◌, ℕ, suc, ◌+◌, ◌-◌, ◌<◌, List, [], ◌∷◌, ◌++◌, length, take, drop, get_or, refl, sym, ap, subst, ◌∙◌, arith, append_assoc, length-append, take-append-drop, drop-cons}
use Rattle.std.specs.Prelude.{Result, IfErr, OnOk}
use Rattle.std.proofs.lemmas.List.{take_more}
use Rattle.std.proofs.lemmas.Result.{IfErr-weaker, on_ok_weaker}
use Rattle.cml_schedule.specs.declared.item.Item.{Item}
use Rattle.cml_hub.specs.Courses.{PlainCourse, Adds}
use Rattle.cml_hub.specs.Runs.{is_allowed}
use Rattle.cml_phrase.specs.declared.place.Place.{Place}
use Rattle.cml_facts.specs.declared.narrative.deed.Happened.{Happened}
use Rattle.cml_facts.specs.Deeds.{HasHappened}
use Rattle.cml_picture.specs.declared.fault.DrawFault.{DrawFault}
use Rattle.cml_picture.specs.declared.fault.DrawFault.TheVariants.{BadItem, TooMany, Memory}
use Rattle.cml_picture.specs.Stacks.{PlainStack, no_rows, with_happened, RefusesShown}
use Rattle.cml_picture.specs.Draws.{ItemsLead, Shows, HasUnfit, IsNotDrawn, items_before, items_within}
use Rattle.cml_picture.specs.Stops.{CantCome, Halts, HaltsOf, Stops, StopsOf}

-- what one item shows
pub shown_one : (places : List (List Place)) (c : PlainCourse) (s : PlainStack) (item : Item) (end : PlainCourse) (x : Happened) (s' : PlainStack) →
    Adds c item end → HasHappened places c item end x → s' ≡ with_happened end.world s x → Shows places c s (item ∷ []) end s'
shown_one places c s item end x s' adds did e = (end, x, adds, did, (refl, e))

-- why what it shows is not added
pub stops_one : (places : List (List Place)) (c : PlainCourse) (s : PlainStack) (item : Item) (end : PlainCourse) (x : Happened) (why : DrawFault) →
    Adds c item end → HasHappened places c item end x → RefusesShown (with_happened end.world s x) why → Stops places c s item end why
stops_one places c s item end x (BadItem number) adds did h = absurd h
stops_one places c s item end x TooMany adds did h = (with_happened end.world s x, shown_one places c s item end x (with_happened end.world s x) adds did refl, h)
stops_one places c s item end x Memory adds did h = tt

-- the same, of what adding it returns
pub shown_by : {T : Type 0} (r : Result T DrawFault) (places : List (List Place)) (c : PlainCourse) (s : PlainStack) (item : Item) (end : PlainCourse) (x : Happened) (s' : PlainStack) →
    Adds c item end → HasHappened places c item end x → OnOk r (s' ≡ with_happened end.world s x) → OnOk r (Shows places c s (item ∷ []) end s')
shown_by r places c s item end x s' adds did h = on_ok_weaker r (λ e. shown_one places c s item end x s' adds did e) h

pub stops_by : {T : Type 0} (r : Result T DrawFault) (places : List (List Place)) (c : PlainCourse) (s : PlainStack) (item : Item) (end : PlainCourse) (x : Happened) →
    Adds c item end → HasHappened places c item end x → IfErr r (λ why. RefusesShown (with_happened end.world s x) why) → IfErr r (λ why. Stops places c s item end why)
stops_by r places c s item end x adds did h =
    IfErr-weaker r (λ why. RefusesShown (with_happened end.world s x) why) (λ why. Stops places c s item end why) (λ why q. stops_one places c s item end x why adds did q) h

-- what leads on, and then these
pub leads_then : (a : PlainCourse) (items : List Item) (b : PlainCourse) (more : List Item) (c : PlainCourse) → ItemsLead a items b → ItemsLead b more c → ItemsLead a (items ++ more) c
leads_then a [] b more c x y = subst (λ p. ItemsLead p more c) x y
leads_then a (i ∷ items) b more c x y = (x.0, x.1, leads_then x.0 items b more c x.2 y)

-- one item more
pub leads_on : (a : PlainCourse) (items : List Item) (b : PlainCourse) (item : Item) (c : PlainCourse) → ItemsLead a items b → Adds b item c → ItemsLead a (items ++ item ∷ []) c
leads_on a items b item c x adds = leads_then a items b (item ∷ []) c x (c, adds, refl)

-- what these show, and then those
pub shows_then : (places : List (List Place)) (a : PlainCourse) (s : PlainStack) (items : List Item) (b : PlainCourse) (t : PlainStack) (more : List Item) (c : PlainCourse) (u : PlainStack) →
    Shows places a s items b t → Shows places b t more c u → Shows places a s (items ++ more) c u
shows_then places a s [] b t more c u x y = subst (λ p. Shows places p s more c u) x.0 (subst (λ q. Shows places b q more c u) x.1 y)
shows_then places a s (i ∷ items) b t more c u x y = (x.0, x.1, x.2, x.3, shows_then places x.0 _ items b t more c u x.4 y)

-- what is shown leads on
pub shows_leads : (places : List (List Place)) (a : PlainCourse) (s : PlainStack) (items : List Item) (b : PlainCourse) (t : PlainStack) → Shows places a s items b t → ItemsLead a items b
shows_leads places a s [] b t x = x.0
shows_leads places a s (i ∷ items) b t x = (x.0, x.2, shows_leads places x.0 _ items b t x.4)

-- each item counts
pub leads_count : (a : PlainCourse) (items : List Item) (b : PlainCourse) → ItemsLead a items b → length b.items ≡ length a.items + length items
leads_count a [] b x = let e : length b.items ≡ length a.items = ap (λ (c : PlainCourse). length c.items) x in omega (arith, e)
leads_count a (i ∷ items) b x =
    let rest = leads_count x.0 items b x.2 in
    let one : length x.0.items ≡ length a.items + 1 = ap length x.1.items ∙ length-append a.items (i ∷ []) in
    omega (arith, rest, one)

-- an item that can't come after these
pub unfit_at : (a : PlainCourse) (done : List Item) (b : PlainCourse) (item : Item) (rest : List Item) (number : ℕ) (end : PlainCourse) →
    ItemsLead a done b → CantCome b item number end → HasUnfit a (done ++ item ∷ rest) number end
unfit_at a done b item rest number end leads cant = record {
  done = done;
  item = item;
  rest = rest;
  split = refl;
  counted = let n = leads_count a done b leads in omega (arith, n, cant.counted);
  leads = subst (λ c. ItemsLead a done c) (sym cant.stays) leads;
  refused = ap (λ (c : PlainCourse). is_allowed c.world item) cant.stays ∙ cant.refused;
}

-- of those that are followed
pub halts_at : (a : PlainCourse) (done : List Item) (b : PlainCourse) (item : Item) (rest : List Item) (end : PlainCourse) (why : DrawFault) →
    ItemsLead a done b → Halts b item end why → HaltsOf a (done ++ item ∷ rest) end why
halts_at a done b item rest end (BadItem number) leads h = unfit_at a done b item rest number end leads h
halts_at a done b item rest end TooMany leads h = absurd h
halts_at a done b item rest end Memory leads h = tt

-- of those that are shown
pub stops_at : (places : List (List Place)) (a : PlainCourse) (s : PlainStack) (done : List Item) (b : PlainCourse) (t : PlainStack) (item : Item) (rest : List Item) (end : PlainCourse)
    (why : DrawFault) →
    Shows places a s done b t → Stops places b t item end why → StopsOf places a s (done ++ item ∷ rest) end why
stops_at places a s done b t item rest end (BadItem number) shows h = unfit_at a done b item rest number end (shows_leads places a s done b t shows) h
stops_at places a s done b t item rest end TooMany shows h = record {
  done = done ++ item ∷ [];
  rest = rest;
  stack = h.0;
  split = sym (append_assoc done (item ∷ []) rest);
  shows = shows_then places a s done b t (item ∷ []) end h.0 shows h.1;
  more = h.2;
}
stops_at places a s done b t item rest end Memory shows h = tt

-- what can't be shown after these
pub stops_then : (places : List (List Place)) (a : PlainCourse) (before : List Item) (b : PlainCourse) (items : List Item) (number : ℕ) (end : PlainCourse) →
    ItemsLead a before b → HasUnfit b items number end → HasUnfit a (before ++ items) number end
stops_then places a before b items number end leads h = record {
  done = before ++ h.done;
  item = h.item;
  rest = h.rest;
  split = ap (λ is. before ++ is) h.split ∙ sym (append_assoc before h.done (h.item ∷ h.rest));
  counted = let n = leads_count a before b leads in let m = length-append before h.done in omega (arith, n, m, h.counted);
  leads = leads_then a before b h.done end leads h.leads;
  refused = h.refused;
}

-- these items from the first on, the next one, and those behind it
split_at : (items : List Item) (i : ℕ) (d : Item) → i < length items → take i items ++ get_or items i d ∷ drop (suc i) items ≡ items
split_at items i d lt = ap (λ xs. take i items ++ xs) (sym (drop-cons items i d lt)) ∙ take-append-drop i items

pub halts_index : (a : PlainCourse) (items : List Item) (i : ℕ) (d : Item) (b end : PlainCourse) (why : DrawFault) → i < length items →
    ItemsLead a (take i items) b → Halts b (get_or items i d) end why → HaltsOf a items end why
halts_index a items i d b end why lt leads h =
    subst (λ xs. HaltsOf a xs end why) (split_at items i d lt) (halts_at a (take i items) b (get_or items i d) (drop (suc i) items) end why leads h)

pub leads_more : (a : PlainCourse) (items : List Item) (i : ℕ) (d : Item) (b c : PlainCourse) → i < length items → ItemsLead a (take i items) b → Adds b (get_or items i d) c →
    ItemsLead a (take (i + 1) items) c
leads_more a items i d b c lt leads adds =
    subst (λ xs. ItemsLead a xs c) (sym (take_more items i d lt)) (leads_on a (take i items) b (get_or items i d) c leads adds)

pub stops_index : (places now : List (List Place)) (a : PlainCourse) (s : PlainStack) (items : List Item) (i : ℕ) (d : Item) (b : PlainCourse) (t : PlainStack) (end : PlainCourse) (why : DrawFault) →
    now ≡ places → i < length items → Shows places a s (take i items) b t → Stops now b t (get_or items i d) end why → StopsOf places a s items end why
stops_index places now a s items i d b t end why same lt shows h =
    let ours = subst (λ (x : List (List Place)). Stops x b t (get_or items i d) end why) same h in
    subst (λ xs. StopsOf places a s xs end why) (split_at items i d lt) (stops_at places a s (take i items) b t (get_or items i d) (drop (suc i) items) end why shows ours)

pub shows_more : (places now : List (List Place)) (a : PlainCourse) (s : PlainStack) (items : List Item) (i : ℕ) (d : Item) (b : PlainCourse) (t : PlainStack) (c : PlainCourse) (u : PlainStack) →
    now ≡ places → i < length items → Shows places a s (take i items) b t → Shows now b t (get_or items i d ∷ []) c u → Shows places a s (take (i + 1) items) c u
shows_more places now a s items i d b t c u same lt shows h =
    let ours = subst (λ (x : List (List Place)). Shows x b t (get_or items i d ∷ []) c u) same h in
    subst (λ xs. Shows places a s xs c u) (sym (take_more items i d lt)) (shows_then places a s (take i items) b t (get_or items i d ∷ []) c u shows ours)

-- the part that is followed, and the part that is shown
unfit_within : (a : PlainCourse) (xs ys all : List Item) (number : ℕ) (end : PlainCourse) → xs ++ ys ≡ all → HasUnfit a xs number end → HasUnfit a all number end
unfit_within a xs ys all number end same h = record {
  done = h.done;
  item = h.item;
  rest = h.rest ++ ys;
  split = sym same ∙ ap (λ zs. zs ++ ys) h.split ∙ append_assoc h.done (h.item ∷ h.rest) ys;
  counted = h.counted;
  leads = h.leads;
  refused = h.refused;
}

pub range_halts : (start : PlainCourse) (items : List Item) (from to : ℕ) (end : PlainCourse) (why : DrawFault) →
    HaltsOf start (items_before from to items) end why → IsNotDrawn start items from to end why
range_halts start items from to end (BadItem number) h =
    unfit_within start (items_before from to items) (items_within from to items) (take to items) number end (take-append-drop (from - 1) (take to items)) h
range_halts start items from to end TooMany h = absurd h
range_halts start items from to end Memory h = tt

pub range_stops : (places : List (List Place)) (start : PlainCourse) (items : List Item) (from to : ℕ) (first end : PlainCourse) (why : DrawFault) →
    ItemsLead start (items_before from to items) first → StopsOf places first no_rows (items_within from to items) end why → IsNotDrawn start items from to end why
range_stops places start items from to first end (BadItem number) leads h =
    subst (λ xs. HasUnfit start xs number end) (take-append-drop (from - 1) (take to items))
    (stops_then places start (items_before from to items) first (items_within from to items) number end leads h)
range_stops places start items from to first end TooMany leads h = record { places = places; first = first; leads = leads; shows = h }
range_stops places start items from to first end Memory leads h = tt
