-- What a run has used makes no difference to any step, and what it has printed none but to what it has printed.
use Rattle.std.proofs.Common.{◌≡◌, ℕ, ◌+◌, Bool, true, false, cond, if◌then◌else◌, List, [], ◌∷◌, ◌++◌, Option, Some, None, refl, ap, sym, ◌∙◌, arith, append_assoc, append-nil}
use Rattle.std.specs.Prelude.{option_map, option_and_then, slice_get, count_by, filter, is_some}
use Rattle.std.specs.List.{filter_map}
use Rattle.std.proofs.lemmas.List.Elements.{filter_map-append}
use Rattle.std.proofs.lemmas.List.Sums.{sum_by-append}
use Rattle.std.proofs.lemmas.Option.{same_Some}
use Rattle.cml_value.specs.Value.{PlainFunction}
use Rattle.cml_schedule.specs.declared.item.Item.{Item}
use Rattle.cml_schedule.specs.declared.item.Item.TheVariants.{Turn, Meet as Commit, Exchange, Clock}
use Rattle.cml_step.specs.Terms.{Program, Term}
use Rattle.cml_step.specs.Slices.{sliced}
use Rattle.cml_hub.specs.Runs.{Run, opening, is_allowed, after_item, advance, turned_by, stands, stands_from}
use Rattle.cml_hub.specs.Performed.{PlainDone}
use Rattle.cml_hub.specs.Deeds.{deed, after_deed, deeds_from, deeds, begotten, is_fault, origins}
use Rattle.cml_verify.specs.Systems.{run}
use Rattle.cml_verify.specs.Cores.{Past, past, more, Core, core_of, run_at, core_step, done_by, can, candidates, allowed, program_system}

-- the core of a turn, whatever was used
turn_core : (p : Program) (s : Bool) (a b : Past) (r : Run) (t : ℕ) (o : Option Term)
    → option_map (core_of s b) (option_map (λ term. turned_by p (run_at (core_of s a r)) t (sliced p t term)) o) ≡ option_map (core_of s b) (option_map (λ term. turned_by p r t (sliced p t term)) o)
turn_core p s a b r t None = refl
turn_core p true a b r t (Some term) = refl
turn_core p false a b r t (Some term) = refl

after_core : (p : Program) (s : Bool) (a b : Past) (r : Run) (i : Item) → option_map (core_of s b) (after_item p (run_at (core_of s a r)) i) ≡ option_map (core_of s b) (after_item p r i)
after_core p s a b r (Turn t) = turn_core p s a b r t.0 (slice_get r.terms t.0)
after_core p true a b r (Commit row) = refl
after_core p false a b r (Commit row) = refl
after_core p true a b r (Exchange row) = refl
after_core p false a b r (Exchange row) = refl
after_core p true a b r (Clock tick) = refl
after_core p false a b r (Clock tick) = refl

where_allowed : (s : Bool) (a : Past) (b : Bool) (o q : Option Run) → option_map (core_of s a) o ≡ option_map (core_of s a) q
    → option_map (core_of s a) (if b then o else None) ≡ option_map (core_of s a) (if b then q else None)
where_allowed s a true o q e = e
where_allowed s a false o q e = refl

done_core : (p : Program) (s : Bool) (a : Past) (r : Run) (i : Item) → done_by p (run_at (core_of s a r)) i ≡ done_by p r i
done_core p s a r (Turn t) = refl
done_core p s a r (Commit row) = refl
done_core p s a r (Exchange row) = refl
done_core p s a r (Clock tick) = refl

pub step_core : (p : Program) (s : Bool) (a : Past) (r : Run) (i : Item) → core_step p s (core_of s a r) i ≡ option_map (core_of s (more a (done_by p r i))) (advance p r i)
step_core p s a r i =
    ap (λ ds. option_map (core_of s (more a ds)) (advance p (run_at (core_of s a r)) i)) (done_core p s a r i)
    ∙ where_allowed s (more a (done_by p r i)) (is_allowed r.world i) (after_item p (run_at (core_of s a r)) i) (after_item p r i) (after_core p s a (more a (done_by p r i)) r i)

-- the same items can come
can_turn : (p : Program) (q r : Run) (t : ℕ) (o : Option Term)
    → is_some (option_map (λ term. turned_by p q t (sliced p t term)) o) ≡ is_some (option_map (λ term. turned_by p r t (sliced p t term)) o)
can_turn p q r t None = refl
can_turn p q r t (Some term) = refl

can_after : (p : Program) (s : Bool) (a : Past) (r : Run) (i : Item) → is_some (after_item p (run_at (core_of s a r)) i) ≡ is_some (after_item p r i)
can_after p s a r (Turn t) = can_turn p (run_at (core_of s a r)) r t.0 (slice_get r.terms t.0)
can_after p s a r (Commit row) = refl
can_after p s a r (Exchange row) = refl
can_after p s a r (Clock tick) = refl

can_where : (b : Bool) (o q : Option Run) → is_some o ≡ is_some q → is_some (if b then o else None) ≡ is_some (if b then q else None)
can_where true o q e = e
can_where false o q e = refl

same_filter : (f g : Item → Bool) (items : List Item) → ((i : Item) → f i ≡ g i) → filter f items ≡ filter g items
same_filter f g [] h = refl
same_filter f g (i ∷ items) h = ap (λ b. cond b (i ∷ filter f items) (filter f items)) (h i) ∙ ap (λ l. cond (g i) (i ∷ l) l) (same_filter f g items h)

pub same_allowed : (p : Program) (s : Bool) (a : Past) (r : Run) → allowed p (run_at (core_of s a r)) ≡ allowed p r
same_allowed p s a r =
    same_filter (can p (run_at (core_of s a r))) (can p r) (candidates r.world)
    (λ i. can_where (is_allowed r.world i) (after_item p (run_at (core_of s a r)) i) (after_item p r i) (can_after p s a r i))

pub none_from : (p : Program) (items : List Item) → stands_from p None items ≡ None
none_from p [] = refl
none_from p (i ∷ items) = none_from p items

abbrev past_with : List PlainFunction → ℕ → Past
past_with f n = record { began = f; faults = n }

past_is : (f g : List PlainFunction) (m n : ℕ) → f ≡ g → m ≡ n → past_with f m ≡ past_with g n
past_is f g m n d e = rw (d, e) refl

more_none : (a : Past) → more a [] ≡ a
more_none a = past_is (a.began ++ []) a.began (a.faults + 0) a.faults (append-nil a.began) (omega arith)

more_twice : (a : Past) (ds es : List PlainDone) → more (more a ds) es ≡ more a (ds ++ es)
more_twice a ds es =
    let began : (a.began ++ filter_map begotten ds) ++ filter_map begotten es ≡ a.began ++ filter_map begotten (ds ++ es) =
    append_assoc a.began (filter_map begotten ds) (filter_map begotten es) ∙ ap (λ l. a.began ++ l) (sym (filter_map-append begotten ds es)) in
    let count : count_by is_fault (ds ++ es) ≡ count_by is_fault ds + count_by is_fault es = sum_by-append (λ x. cond (is_fault x) 1 0) ds es in
    past_is ((a.began ++ filter_map begotten ds) ++ filter_map begotten es) (a.began ++ filter_map begotten (ds ++ es)) (a.faults + count_by is_fault ds + count_by is_fault es)
    (a.faults + count_by is_fault (ds ++ es)) began (omega (arith, count))

pub after_split : (o : Option PlainDone) (ds : List PlainDone) → after_deed o ds ≡ after_deed o [] ++ ds
after_split None ds = refl
after_split (Some d) ds = refl

-- the schedules of the items behind the first, from whatever core
abbrev RunsOn : Program → Bool → List Item → Type 0
RunsOn p s items = (a : Past) (r : Run) → run (program_system p s) (core_of s a r) items ≡ option_map (core_of s (more a (deeds_from p (Some r) items))) (stands_from p (Some r) items)

on_from : (p : Program) (s : Bool) (items : List Item) (a b : Past) (o : Option Run) → more a (deeds_from p o items) ≡ b → RunsOn p s items
    → option_and_then (λ c. run (program_system p s) c items) (option_map (core_of s a) o) ≡ option_map (core_of s b) (stands_from p o items)
on_from p s items a b None e rest = ap (option_map (core_of s b)) (sym (none_from p items))
on_from p s items a b (Some r) e rest = rest a r ∙ ap (λ k. option_map (core_of s k) (stands_from p (Some r) items)) e

run_core : (p : Program) (s : Bool) (items : List Item) → RunsOn p s items
run_core p s [] a r = ap (λ b. Some (core_of s b r)) (sym (more_none a))
run_core p s (i ∷ items) a r =
    let behind = deeds_from p (advance p r i) items in
    ap (option_and_then (λ c. run (program_system p s) c items)) (step_core p s a r i)
    ∙ on_from p s items (more a (done_by p r i)) (more a (deeds_from p (Some r) (i ∷ items))) (advance p r i)
    (more_twice a (done_by p r i) behind ∙ ap (more a) (sym (after_split (deed p r i) behind))) (run_core p s items)

-- a schedule leads in the system to the core of where it leads
pub runs_core : (p : Program) (s : Bool) (items : List Item) → run (program_system p s) (core_of s (past p []) (opening p)) items ≡ option_map (core_of s (past p items)) (stands p items)
runs_core p s items =
    run_core p s items (past p []) (opening p)
    ∙ ap (λ a. option_map (core_of s a) (stands p items)) (past_is (origins p items) (origins p items) (0 + count_by is_fault (deeds p items)) (count_by is_fault (deeds p items)) refl (omega arith))

-- what a schedule leads to, from the core to which it leads
pub run_behind : (s : Bool) (a : Past) (o : Option Run) (c : Core) → option_map (core_of s a) o ≡ Some c → (r : Run) × (o ≡ Some r) × (core_of s a r ≡ c)
run_behind s a None c h = absurd (cc)
run_behind s a (Some r) c h = (r, refl, same_Some (core_of s a r) c h)
