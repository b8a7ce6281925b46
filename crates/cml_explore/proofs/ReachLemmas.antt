-- Each schedule that can be followed is made by some list of words.
use Rattle.std.proofs.Common.{◌≡◌, ◌≢◌, ℕ, zero, suc, ◌+◌, ◌<◌, ◌≤◌, ◌%◌, nat_le, Bool, true, false, not, ◌&&◌, if◌then◌else◌, List, [], ◌∷◌, ◌++◌, length, map, drop}
use Rattle.std.proofs.Common.{Option, Some, None, refl, ap, sym, ◌∙◌, subst, arith, mod-eq_of_lt, append_assoc, append-nil, add-one}
use Rattle.std.specs.Prelude.{Contains, IfSome, ◌==◌, slice_get, option_map, option_and_then}
use Rattle.std.specs.List.{list_any}
use Rattle.std.proofs.lemmas.Bool.{and_parts}
use Rattle.std.proofs.lemmas.Bool.Decides.{nat_tests}
use Rattle.std.proofs.lemmas.Option.{slice_get_past}
use Rattle.cml_value.specs.declared.number.Tid.{Tid}
use Rattle.cml_scan.specs.World.{PlainThread, running, pending_on, ended, PlainWorld}
use Rattle.cml_scan.specs.Scan.{scan, has_row, place_of, heads_of, partners_of}
use Rattle.cml_scan.specs.declared.meet.Meet.{Meet}
use Rattle.cml_scan.specs.declared.meet.Place.{Place}
use Rattle.cml_scan.proofs.Enabling.{Contains-has_row}
use Rattle.cml_scan.proofs.Firsts.{heads-members, partners-members}
use Rattle.cml_schedule.specs.declared.item.Item.{Item}
use Rattle.cml_schedule.specs.declared.item.Item.TheVariants.{Turn, Meet as Commit, Exchange, Clock}
use Rattle.cml_check.specs.Syntax.{PlainItem}
use Rattle.cml_step.specs.Calls.{text_of}
use Rattle.cml_step.specs.Terms.{Program}
use Rattle.cml_book.specs.Swaps.{are_swaps, swaps}
use Rattle.cml_book.specs.Walks.{runs}
use Rattle.cml_hub.specs.Choices.{first_number}
use Rattle.cml_hub.specs.Kept.{AddedInTime}
use Rattle.cml_hub.specs.Playing.{picked, taking}
use Rattle.cml_hub.specs.Runs.{Run, opening, met, any_runs, is_empty, next_alarm, has_number, is_allowed, after_item, advance, stands_from, stands, terminal, over}
use Rattle.cml_hub.proofs.MarkLemmas.{got_is}
use Rattle.cml_hub.proofs.Standing.{map_append, leads_on}
use Rattle.cml_explore.specs.Draws.{Way, Drawn, item_added, led_by, one_drawn, more_drawn}
use Rattle.cml_explore.specs.Lots.{ready_from, row_choices, row_by_lot, item_by_lot, next_by_lot, by_lot}
use Rattle.cml_explore.specs.TurnLaws.{as_commit, by_list, TurnsReachAll}
use Rattle.cml_explore.proofs.AllowedLemmas.{plus_none, HaveTerms, item_goes, if_allowed, runs_there}
use Rattle.cml_explore.proofs.DrawLemmas.{one_on}
use Rattle.cml_explore.proofs.LotLemmas.{lot_moves}
use Rattle.cml_explore.proofs.SeedLemmas.{still_left, one_less, none_used, if_over}
use Rattle.cml_explore.proofs.WayLemmas.{taking_allowed}

-- Where the lot falls by a word that is less than the count.
apart : (k n : ℕ) → k < n → n ≢ 0
apart k n h e = absurd (omega (arith, h, e))

falls : (w : PlainWorld) (k : ℕ) (more : List ℕ) (o : Option Tid) → k < length (ready_from 0 w.threads) + row_choices (scan w) → slice_get (ready_from 0 w.threads) k ≡ o
    → next_by_lot by_list w (k ∷ more) ≡ item_by_lot by_list w more o
falls w k more o h e =
    let ready = ready_from 0 w.threads in
    let n = length ready + row_choices (scan w) in
    lot_moves by_list w (k ∷ more) ready (length ready) (row_choices (scan w)) n refl refl refl refl (apart k n h)
    ∙ (ap (λ i. item_by_lot by_list w more (slice_get ready i)) (mod-eq_of_lt h) ∙ ap (item_by_lot by_list w more) e)

-- An item that is allowed is drawn by some words: itself, or where it takes a row the item that takes the row.
record IsDrawnBy (w : PlainWorld) (item : Item) : Type 0 where
  words : List ℕ
  made : Item
  alike : as_commit made ≡ as_commit item
  may : is_allowed w made ≡ true
  same : (p : Program) (r : Run) → after_item p r made ≡ after_item p r item
  draws : (more : List ℕ) → next_by_lot by_list w (words ++ more) ≡ (Some made, more)

-- a thread that runs is among those that are ready
abbrev tid_of : ℕ → Tid
tid_of n = record { 0 = n }

zero_plus : (n : ℕ) → 0 + n ≡ n
zero_plus n = omega arith

record IsReady (n i : ℕ) (ready : List Tid) : Type 0 where
  place : ℕ
  within : place < length ready
  at : slice_get ready place ≡ Some (tid_of (n + i))

one_over : (n i : ℕ) → suc n + i ≡ n + suc i
one_over n i = omega arith

moved_on : (n i : ℕ) (ready : List Tid) → IsReady (suc n) i ready → IsReady n (suc i) ready
moved_on n i ready h = record { place = h.place; within = h.within; at = h.at ∙ ap (λ m. Some (tid_of m)) (one_over n i) }

one_later : (n i : ℕ) (t : Tid) (ready : List Tid) → IsReady n i ready → IsReady n i (t ∷ ready)
one_later n i t ready h = record { place = suc h.place; within = omega (arith, h.within); at = h.at }

is_ready : (n : ℕ) (ts : List PlainThread) (i : ℕ) → slice_get ts i ≡ Some running → IsReady n i (ready_from n ts)
is_ready n [] i e = absurd (cc)
is_ready n (running ∷ ts) zero e = record { place = 0; within = (let pos : 0 < suc (length (ready_from (suc n) ts)) = omega arith in pos); at = ap (λ m. Some (tid_of m)) (plus_none n) }
is_ready n (running ∷ ts) (suc i) e = one_later n (suc i) (tid_of n) (ready_from (suc n) ts) (moved_on n i (ready_from (suc n) ts) (is_ready (suc n) ts i e))
is_ready n (pending_on g ∷ ts) zero e = absurd (cc)
is_ready n (pending_on g ∷ ts) (suc i) e = moved_on n i (ready_from (suc n) ts) (is_ready (suc n) ts i e)
is_ready n (ended ∷ ts) zero e = absurd (cc)
is_ready n (ended ∷ ts) (suc i) e = moved_on n i (ready_from (suc n) ts) (is_ready (suc n) ts i e)

more_yet : (k a b : ℕ) → k < a → k < a + b
more_yet k a b h = omega (arith, h)

turn_drawn : (w : PlainWorld) (t : Tid) → is_allowed w (Turn t) ≡ true → IsDrawnBy w (Turn t)
turn_drawn w t ok =
    let x = is_ready 0 w.threads t.0 (runs_there (slice_get w.threads t.0) ok) in
    record {
      words = x.place ∷ [];
      made = Turn t;
      alike = refl;
      may = ok;
      same = λ p r. refl;
      draws = λ more. falls w x.place more (Some t) (more_yet x.place (length (ready_from 0 w.threads)) (row_choices (scan w)) x.within) (x.at ∙ ap (λ m. Some (tid_of m)) (zero_plus t.0));
    }

-- the words that pick a row
record IsPickedBy (rows : List Meet) (row : Meet) : Type 0 where
  first : ℕ
  second : ℕ
  picks : (more : List ℕ) → picked by_list (first ∷ second ∷ more) rows ≡ Some row

row_picked : (w : PlainWorld) (row : Meet) → Contains (scan w) row → IsPickedBy (scan w) row
row_picked w row c =
    let rows = scan w in
    let head = (heads-members w (place_of row)).1 (c.0, row, c.1, c.2, refl) in
    let partner = (partners-members w (place_of row) row).1 (c, refl) in
    let i = head.0 in
    let j = partner.0 in
    record {
      first = i;
      second = j;
      picks = λ more.
          ap (λ k. option_and_then (λ (p : Place). slice_get (partners_of rows p) (j % length (partners_of rows p))) (slice_get (heads_of rows) k)) (mod-eq_of_lt head.1)
          ∙ (ap (option_and_then (λ (p : Place). slice_get (partners_of rows p) (j % length (partners_of rows p)))) (got_is (heads_of rows) i (place_of row) (place_of row) head.1 (sym head.2))
          ∙ (ap (slice_get (partners_of rows (place_of row))) (mod-eq_of_lt partner.1) ∙ got_is (partners_of rows (place_of row)) j row row partner.1 (sym partner.2)));
    }

one_choice : (rows : List Meet) (row : Meet) → has_row rows row ≡ true → row_choices rows ≡ 1
one_choice [] row h = cc
one_choice (r ∷ rows) row h = refl

last_choice : (n m : ℕ) → m ≡ 1 → n < n + m
last_choice n m h = omega (arith, h)

no_more : (n : ℕ) → n ≤ n
no_more n = omega arith

taking_alike : (row : Meet) (b : Bool) → as_commit (if b then Exchange row else Commit row) ≡ Commit row
taking_alike row true = refl
taking_alike row false = refl

taking_met : (p : Program) (r : Run) (row : Meet) (b : Bool) → after_item p r (if b then Exchange row else Commit row) ≡ Some (met p r row)
taking_met p r row true = refl
taking_met p r row false = refl

row_drawn : (w : PlainWorld) (item : Item) (row : Meet) → as_commit item ≡ Commit row
    → ((p : Program) (r : Run) → after_item p r item ≡ Some (met p r row)) → has_row (scan w) row ≡ true → IsDrawnBy w item
row_drawn w item row alike takes has =
    let ready = ready_from 0 w.threads in
    let x = row_picked w row (Contains-has_row (scan w) row has) in
    record {
      words = length ready ∷ x.first ∷ x.second ∷ [];
      made = taking w row;
      alike = taking_alike row (swaps w row) ∙ sym alike;
      may = taking_allowed w row has;
      same = λ p r. taking_met p r row (swaps w row) ∙ sym (takes p r);
      draws = λ more.
          falls w (length ready) (x.first ∷ x.second ∷ more) None (last_choice (length ready) (row_choices (scan w)) (one_choice (scan w) row has))
          (slice_get_past ready (length ready) (no_more (length ready)))
          ∙ ap (row_by_lot by_list w (x.first ∷ x.second ∷ more)) (x.picks more);
    }

-- the time moves
alarm_is : (o : Option ℕ) (tick : ℕ) → has_number o tick ≡ true → o ≡ Some tick
alarm_is None tick h = cc
alarm_is (Some m) tick h = (let same : m ≡ tick = grind (arith, nat_tests) in ap (λ k. Some k) same)

no_ready : (n : ℕ) (ts : List PlainThread) → list_any runs ts ≡ false → length (ready_from n ts) ≡ 0
no_ready n [] h = refl
no_ready n (running ∷ ts) h = cc
no_ready n (pending_on g ∷ ts) h = no_ready (suc n) ts h
no_ready n (ended ∷ ts) h = no_ready (suc n) ts h

not_true : (b : Bool) → not b ≡ true → b ≡ false
not_true true h = cc
not_true false h = refl

no_choices : (a b : ℕ) → a ≡ 0 → b ≡ 0 → a + b ≡ 0
no_choices a b h g = omega (arith, h, g)

tick_drawn : (w : PlainWorld) (tick : ℕ) → is_allowed w (Clock tick) ≡ true → IsDrawnBy w (Clock tick)
tick_drawn w tick ok =
    let ready = ready_from 0 w.threads in
    let a = and_parts (has_number (next_alarm w) tick && not (any_runs w)) (is_empty (scan w)) ok in
    let b = and_parts (has_number (next_alarm w) tick) (not (any_runs w)) a.0 in
    let none : row_choices (scan w) ≡ 0 = ap (λ c. if c then 0 else 1) a.1 in
    let count = no_choices (length ready) (row_choices (scan w)) (no_ready 0 w.threads (not_true (any_runs w) b.1)) none in
    record {
      words = [];
      made = Clock tick;
      alike = refl;
      may = ok;
      same = λ p r. refl;
      draws = λ more.
          ap (λ k. if k == 0 then (option_map Clock (next_alarm w), more) else item_by_lot by_list w (drop 1 more) (slice_get ready (first_number more % k))) count
          ∙ ap (λ o. (option_map Clock o, more)) (alarm_is (next_alarm w) tick b.0);
    }

item_drawn : (w : PlainWorld) (item : Item) → is_allowed w item ≡ true → IsDrawnBy w item
item_drawn w (Turn t) ok = turn_drawn w t ok
item_drawn w (Commit row) ok = row_drawn w (Commit row) row refl (λ p r. refl) ok
item_drawn w (Exchange row) ok = row_drawn w (Exchange row) row refl (λ p r. refl) (and_parts (has_row (scan w) row) (are_swaps w row) ok).0
item_drawn w (Clock tick) ok = tick_drawn w tick ok

-- Each item of a schedule that can be followed is allowed.
stands_none : (p : Program) (items : List Item) → stands_from p None items ≡ None
stands_none p [] = refl
stands_none p (item ∷ items) = stands_none p items

followed : (p : Program) (r end : Run) (item : Item) (items : List Item) (b : Bool) → stands_from p (if b then after_item p r item else None) items ≡ Some end → b ≡ true
followed p r end item items true e = refl
followed p r end item items false e = absurd (differ (sym (stands_none p items) ∙ e))
  where
    differ : None ≡ Some end → ⊥
    differ e = cc

not_used : (budget used n : ℕ) → nat_le budget used ≡ false → budget ≤ used + n → 0 < n
not_used budget used n e few = (let less : used < budget = grind (arith, nat_tests) in omega (arith, few, less))

-- so many items at most lead on from a run, the first of them by some words
record Reaches (p : Program) (budget n : ℕ) (items made : List Item) (r end : Run) : Type 0 where
  words : List ℕ
  drawn : List Item
  left : ℕ
  alike : map as_commit drawn ≡ map as_commit items
  is : more_drawn (by_lot by_list) p budget n (record { items = made; run = r; state = words })
      ≡ more_drawn (by_lot by_list) p budget left (record { items = made ++ drawn; run = end; state = [] })

-- one item more
reach_more : (q : Program) (budget m left : ℕ) (made drawn : List Item) (r next end : Run) (item : Item) (words more : List ℕ) → over budget r ≡ false
    → next_by_lot by_list r.world words ≡ (Some item, more) → advance q r item ≡ Some next
    → more_drawn (by_lot by_list) q budget m (record { items = made ++ item ∷ []; run = next; state = more })
    ≡ more_drawn (by_lot by_list) q budget left (record { items = (made ++ item ∷ []) ++ drawn; run = end; state = [] })
    → more_drawn (by_lot by_list) q budget (suc m) (record { items = made; run = r; state = words })
    ≡ more_drawn (by_lot by_list) q budget left (record { items = made ++ item ∷ drawn; run = end; state = [] })
reach_more q budget m left made drawn r next end item words more open_ draws leads is =
    let g : Drawn (List ℕ) = record { items = made; run = r; state = words } in
    one_on (by_lot by_list) q budget (suc m) m g (sym (add-one m)) open_
    ∙ (ap (λ (y : Option Item × List ℕ). more_drawn (by_lot by_list) q budget m (one_drawn q g y)) draws
    ∙ (ap (λ (o : Option Run). more_drawn (by_lot by_list) q budget m (item_added g more (Some item) o)) leads
    ∙ (is
    ∙ ap (λ (l : List Item). more_drawn (by_lot by_list) q budget left (record { items = l; run = end; state = [] })) (append_assoc made (item ∷ []) drawn))))

some_same : (r end : Run) → Some r ≡ Some end → r ≡ end
some_same r end e = cc

reach : (p : List (PlainItem ℕ)) (budget n : ℕ) (items before made : List Item) (r end : Run) → HaveTerms r → stands (text_of p) before ≡ Some r
    → stands_from (text_of p) (Some r) items ≡ Some end → AddedInTime p budget before items → budget ≤ r.used + n → Reaches (text_of p) budget n items made r end
reach p budget n [] before made r end h leads e in_time few = record {
  words = [];
  drawn = [];
  left = n;
  alike = refl;
  is = ap (λ (l : List Item). more_drawn (by_lot by_list) (text_of p) budget n (record { items = l; run = r; state = [] })) (sym (append-nil made))
      ∙ ap (λ (x : Run). more_drawn (by_lot by_list) (text_of p) budget n (record { items = made ++ []; run = x; state = [] })) (some_same r end e);
}
reach p budget zero (item ∷ items) before made r end h leads e in_time few =
    let open_ = subst (λ (o : Option Run). IfSome o (λ x. over budget x ≡ false)) leads in_time.0 in
    absurd (none (not_used budget r.used 0 (still_left (terminal r.world) (nat_le budget r.used) open_).1 few))
  where
    none : 0 < 0 → ⊥
    none h = absurd (omega (arith, h))
reach p budget (suc m) (item ∷ items) before made r end h leads e in_time few =
    let q = text_of p in
    let open_ = subst (λ (o : Option Run). IfSome o (λ x. over budget x ≡ false)) leads in_time.0 in
    let ok = followed q r end item items (is_allowed r.world item) e in
    let to = item_goes q r item h ok in
    let d = item_drawn r.world item ok in
    let made_leads = if_allowed q r d.made d.may ∙ (d.same q r ∙ (sym (if_allowed q r item ok) ∙ to.leads)) in
    let x =
    reach p budget m items (before ++ item ∷ []) (made ++ d.made ∷ []) to.next end to.terms (leads_on q before item r (Some to.next) leads to.leads)
    (sym (ap (λ o. stands_from q o items) to.leads) ∙ e) in_time.1 (one_less budget r.used to.next.used m few to.uses) in
    record {
      words = d.words ++ x.words;
      drawn = d.made ∷ x.drawn;
      left = x.left;
      alike = ap (λ y. y ∷ map as_commit x.drawn) d.alike ∙ ap (λ l. as_commit item ∷ l) x.alike;
      is = reach_more q budget m x.left made x.drawn r to.next end d.made (d.words ++ x.words) x.words open_ (d.draws x.words) made_leads x.is;
    }

-- What is drawn begins with what was there, and is no more where that is over.
record IsLonger {S : Type 0} (budget : ℕ) (g end : Drawn S) : Type 0 where
  rest : List Item
  is : end.items ≡ g.items ++ rest
  whole : over budget g.run ≡ true → rest ≡ []

no_longer : {S : Type 0} (budget : ℕ) (g : Drawn S) → IsLonger budget g g
no_longer budget g = record { rest = []; is = sym (append-nil g.items); whole = λ done. refl }

added_rest : {S : Type 0} (g : Drawn S) (state : S) (o : Option Item) (m : Option Run) → (one : List Item) × ((item_added g state o m).items ≡ g.items ++ one)
added_rest g state None m = ([], sym (append-nil g.items))
added_rest g state (Some item) None = ([], sym (append-nil g.items))
added_rest g state (Some item) (Some r) = (item ∷ [], refl)

differs : false ≡ true → ⊥
differs e = cc

more_longer : {S : Type 0} (way : Way S) (p : Program) (budget n : ℕ) (g : Drawn S) → IsLonger budget g (more_drawn way p budget n g)
more_longer way p budget zero g = no_longer budget g
more_longer {S = S} way p budget (suc n) g =
    let d = way (length g.items) g.run.world g.state in
    if_over (IsLonger budget g) (over budget g.run) g (more_drawn way p budget n (one_drawn p g d)) (λ e. no_longer budget g)
    (λ e.
    let one = added_rest g d.1 d.0 (led_by p g.run d.0) in
    let x = more_longer way p budget n (one_drawn p g d) in
    record {
      rest = one.0 ++ x.rest;
      is = x.is ∙ (ap (λ (l : List Item). l ++ x.rest) one.1 ∙ append_assoc g.items one.0 x.rest);
      whole = λ done. absurd (differs (sym e ∙ done));
    })

pub turns_reach_all : TurnsReachAll
turns_reach_all p budget items end leads in_time =
    let x = reach p budget budget items [] [] (opening (text_of p)) end refl refl leads in_time (none_used budget) in
    let y = more_longer (by_lot by_list) (text_of p) budget x.left (record { items = x.drawn; run = end; state = [] }) in (
      x.words,
      record {
        rest = map as_commit y.rest;
        begins = ap (λ (g : Drawn (List ℕ)). map as_commit g.items) x.is
            ∙ (ap (map as_commit) y.is ∙ (map_append as_commit x.drawn y.rest ∙ ap (λ l. l ++ map as_commit y.rest) x.alike));
        whole = λ done. ap (map as_commit) (y.whole done);
      },
    )
