-- Schedules that are kept by what they give, one noted after another.
use Rattle.std.proofs.Common.{Bor, ◌≡◌, ◌≢◌, ◌∙◌, ◌⊎◌, inl, inr, ℕ, zero, suc, ◌+◌, ◌<◌, ◌≤◌, true, false, cond, List, [], ◌∷◌, ◌++◌, length, map, take, get_or, refl, sym, ap, subst, arith}
use Rattle.std.specs.Prelude.{Option, Some, None, IfSome, option_map, Vec, Contains, slice_get}
use Rattle.std.specs.BTreeMap.{IsOrdered, get_by, insert_entry, is_at}
use Rattle.std.specs.Cmp.Lexicographic.{slice_cmp, nat_list_cmp_total}
use Rattle.std.specs.List.{AllByRecursion}
use Rattle.std.specs.List.Sorted.{IsStrictlySortedBy}
use Rattle.std.specs.Map.{keys_of, lookup}
use Rattle.std.specs.Option.{option_copied}
use Rattle.std.specs.Ordering.{is_eq, match_ordering, nat_cmp}
use Rattle.std.specs.declared.alloc.Global.{Global}
use Rattle.std.specs.declared.cmp.Ordering.{Ordering}
use Rattle.std.specs.declared.cmp.Ordering.TheVariants.{Less, Equal, Greater}
use Rattle.std.proofs.lemmas.Bool.{false≢true, leb-false}
use Rattle.std.proofs.lemmas.Cmp.{on_total, tied_itself}
use Rattle.std.proofs.lemmas.List.{map_push, take_more}
use Rattle.std.proofs.lemmas.List.Elements.{All-contains_itself, All-map, All-nil, All-push, All-weaker, Contains-append_left, Contains-push}
use Rattle.std.proofs.lemmas.Map.Entries.{btree_map_get_place, place_from_lookup}
use Rattle.std.proofs.lemmas.Map.Lookups.{exact_bytes}
use Rattle.std.proofs.lemmas.Option.{slice_get-get_or}
use Rattle.cml_check.specs.Syntax.{PlainItem}
use Rattle.cml_schedule.specs.declared.item.Item.{Item}
use Rattle.cml_host.specs.Outcomes.{AreFound, AreOutcomes, TextMap, GivesText, Notes, PlainOutcomeTold, is_as_short, kept_by, entry_told}

-- ---- texts

abbrev Text : Type 0
Text = Vec ℕ Global

abbrev Kept : Type 0
Kept = Vec Item Global

abbrev by_bytes : Text → Text → Ordering
by_bytes x y = slice_cmp nat_cmp x.items y.items

-- a query by bytes
abbrev at_bytes : List ℕ → Text → Ordering
at_bytes bytes key = slice_cmp nat_cmp bytes key.items

less_is_none : Less ≡ Equal → ⊥
less_is_none e = cc

greater_is_none : Greater ≡ Equal → ⊥
greater_is_none e = cc

same_itself : (xs ys : List ℕ) → xs ≡ ys → slice_cmp nat_cmp xs ys ≡ Equal
same_itself xs ys e = subst (λ (zs : List ℕ). slice_cmp nat_cmp xs zs ≡ Equal) e (tied_itself nat_list_cmp_total xs)

decided : (xs ys : List ℕ) (o : Ordering) → slice_cmp nat_cmp xs ys ≡ o → (xs ≡ ys) ⊎ (xs ≢ ys)
decided xs ys Less e = inr (λ same. less_is_none (sym e ∙ same_itself xs ys same))
decided xs ys Equal e = inl (exact_bytes xs ys e)
decided xs ys Greater e = inr (λ same. greater_is_none (sym e ∙ same_itself xs ys same))

same_or_apart : (xs ys : List ℕ) → (xs ≡ ys) ⊎ (xs ≢ ys)
same_or_apart xs ys = decided xs ys (slice_cmp nat_cmp xs ys) refl

apart_so : (xs ys : List ℕ) (o : Ordering) → xs ≢ ys → slice_cmp nat_cmp xs ys ≡ o → is_eq o ≡ false
apart_so xs ys Less apart e = refl
apart_so xs ys Equal apart e = absurd (apart (exact_bytes xs ys e))
apart_so xs ys Greater apart e = refl

apart_at : (xs : List ℕ) (key : Text) → xs ≢ key.items → is_at (at_bytes xs) key ≡ false
apart_at xs key apart = apart_so xs key.items (slice_cmp nat_cmp xs key.items) apart refl

is_there : (o : Ordering) → is_eq o ≡ true → o ≡ Equal
is_there Less e = absurd (false≢true e)
is_there Equal e = refl
is_there Greater e = absurd (false≢true e)

-- ---- one entry more

module _ (key : Text) (value : Kept) (other : List ℕ) (apart : other ≢ key.items) where
  abbrev finds : List (Text × Kept) → Option Kept
  finds entries = lookup (is_at (at_bytes other)) entries

  new_passed : (rest : List (Text × Kept)) → finds ((key, value) ∷ rest) ≡ finds rest
  new_passed rest = ap (λ b. cond b (Some value) (finds rest)) (apart_at other key apart)

  mutual_step : (e : Text × Kept) (rest more : List (Text × Kept)) (o : Ordering) → by_bytes key e.0 ≡ o → finds more ≡ finds rest
      → finds (match_ordering o ((key, value) ∷ e ∷ rest) ((e.0, value) ∷ rest) (e ∷ more)) ≡ finds (e ∷ rest)
  mutual_step e rest more Less is same = new_passed (e ∷ rest)
  mutual_step e rest more Equal is same =
      let here : key.items ≡ e.0.items = exact_bytes key.items e.0.items is in
      let passed : is_at (at_bytes other) e.0 ≡ false = apart_at other e.0 (λ p. apart (p ∙ sym here)) in
      ap (λ b. cond b (Some value) (finds rest)) passed ∙ sym (ap (λ b. cond b (Some e.1) (finds rest)) passed)
  mutual_step e rest more Greater is same = ap (λ found. cond (is_at (at_bytes other) e.0) (Some e.1) found) same

  others_stay : (entries : List (Text × Kept)) → finds (insert_entry by_bytes entries key value) ≡ finds entries
  others_stay [] = new_passed []
  others_stay (e ∷ rest) = mutual_step e rest (insert_entry by_bytes rest key value) (by_bytes key e.0) refl (others_stay rest)

-- ---- a schedule is noted

no_longer : (schedule : List Item) → length schedule ≤ length schedule
no_longer schedule = omega arith

not_shorter : (o : Option (List Item)) (schedule : List Item) → is_as_short o (length schedule) ≡ false → IfSome o (λ before. length schedule ≤ length before)
not_shorter None schedule long = tt
not_shorter (Some before) schedule long = let less = leb-false (length before) (length schedule) long in omega (arith, less)

-- this one is kept
pub newly_noted : (old new : TextMap) (key : Text) (value : Kept) (schedule : List Item) → value.items ≡ schedule → is_as_short (kept_by old key.items) (length schedule) ≡ false
    → get_by (at_bytes key.items) new ≡ Some value → new.entries ≡ insert_entry by_bytes old.entries key value → Notes old key.items schedule new
newly_noted old new key value schedule same long here entries = record {
  kept = schedule;
  here = ap (option_map (λ (s : Kept). s.items)) here ∙ ap Some same;
  one = inl refl;
  short = no_longer schedule;
  shorter = not_shorter (kept_by old key.items) schedule long;
  others = λ other apart. ap (option_map (λ (s : Kept). s.items)) (ap (lookup (is_at (at_bytes other))) entries ∙ others_stay key value other apart old.entries);
}

pub kept_is : (o : Option (Bor Kept)) (p : Option Kept) → option_copied o ≡ p → option_map (λ schedule. schedule.now.items) o ≡ option_map (λ (s : Kept). s.items) p
kept_is None p is = ap (option_map (λ (s : Kept). s.items)) is
kept_is (Some s) p is = ap (option_map (λ (s : Kept). s.items)) is

-- ---- one schedule more

some_same : {X : Type 0} (x y : X) → Some x ≡ Some y → x ≡ y
some_same x y h = cc

-- none yet
pub none_found : (p : List (PlainItem ℕ)) (found : TextMap) → found.entries ≡ [] → AreFound p [] found
none_found p found none = record {
  each = λ text schedule is. absurd (none_there (sym (ap (λ (es : List (Text × Kept)). option_map (λ (s : Kept). s.items) (lookup (is_at (at_bytes text)) es)) none) ∙ is));
  all = All-nil _;
}
  where
    none_there : {X : Type 0} {x : X} → None ≡ Some x → ⊥
    none_there e = cc

module _ (p : List (PlainItem ℕ)) (schedules : List (List Item)) (one : List Item) (text : List ℕ) (old new : TextMap)
    (was : AreFound p schedules old) (gives : GivesText p one text) (noted : Notes old text one new) where
  abbrev IsSo : List ℕ → List Item → Type 0
  IsSo t s = Contains (schedules ++ one ∷ []) s × GivesText p s t

  old_so : (t : List ℕ) (s : List Item) → kept_by old t ≡ Some s → IsSo t s
  old_so t s is = let before = was.each t s is in (Contains-append_left schedules (one ∷ []) s before.0, before.1)

  kept_fits : (noted.kept ≡ one) ⊎ (kept_by old text ≡ Some noted.kept) → IsSo text noted.kept
  kept_fits (inl same) = subst (λ (s : List Item). IsSo text s) (sym same) (Contains-push schedules one, gives)
  kept_fits (inr is) = old_so text noted.kept is

  each_so : (t : List ℕ) (s : List Item) → (t ≡ text) ⊎ (t ≢ text) → kept_by new t ≡ Some s → IsSo t s
  each_so t s (inl same) is =
      let at : kept_by new text ≡ Some s = sym (ap (kept_by new) same) ∙ is in
      let mine : noted.kept ≡ s = some_same noted.kept s (sym noted.here ∙ at) in
      subst (λ (r : List Item). IsSo t r) mine (subst (λ (u : List ℕ). IsSo u noted.kept) (sym same) (kept_fits noted.one))
  each_so t s (inr apart) is = old_so t s (sym (noted.others t apart) ∙ is)

  abbrev IsMet : TextMap → List Item → Type 0
  IsMet found s = (t : List ℕ) × (kept : List Item) × (kept_by found t ≡ Some kept) × GivesText p s t × (length kept ≤ length s)

  met_so : (s : List Item) (met : IsMet old s) → (met.0 ≡ text) ⊎ (met.0 ≢ text) → IsMet new s
  met_so s met (inl same) =
      let before : kept_by old text ≡ Some met.1 = sym (ap (kept_by old) same) ∙ met.2 in
      let less : length noted.kept ≤ length met.1 = subst (λ (o : Option (List Item)). IfSome o (λ b. length noted.kept ≤ length b)) before noted.shorter in
      (text, noted.kept, noted.here, subst (λ (t : List ℕ). GivesText p s t) same met.3, omega (arith, less, met.4))
  met_so s met (inr apart) = (met.0, met.1, noted.others met.0 apart ∙ met.2, met.3, met.4)

  pub found_more : AreFound p (schedules ++ one ∷ []) new
  found_more = record {
    each = λ t s is. each_so t s (same_or_apart t text) is;
    all = All-push (IsMet new) schedules one (All-weaker (IsMet old) (IsMet new) (λ s met. met_so s met (same_or_apart met.0 text)) schedules was.all)
        (text, noted.kept, noted.here, gives, noted.short);
  }

pub found_next : {X : Type 0} (f : X → List Item) (p : List (PlainItem ℕ)) (xs : List X) (i : ℕ) (d : X) (items : List Item) (old new : TextMap) → i < length xs → items ≡ f (get_or xs i d)
    → AreFound p (map f (take i xs)) old → (text : List ℕ) × GivesText p items text × Notes old text items new → AreFound p (map f (take (i + 1) xs)) new
found_next f p xs i d items old new within is was added =
    let split : map f (take (i + 1) xs) ≡ map f (take i xs) ++ items ∷ [] =
    ap (map f) (take_more xs i d within) ∙ (map_push f (take i xs) (get_or xs i d) ∙ ap (λ s. map f (take i xs) ++ s ∷ []) (sym is)) in
    subst (λ (l : List (List Item)). AreFound p l new) (sym split) (found_more p (map f (take i xs)) items added.0 old new was added.1 added.2)

-- ---- all of them, as a list

kept_at : (o : Option Kept) (schedule : List Item) → option_map (λ (s : Kept). s.items) o ≡ Some schedule → (s : Kept) × (o ≡ Some s) × (s.items ≡ schedule)
kept_at None schedule is = absurd (cc)
kept_at (Some s) schedule is = (s, refl, some_same s.items schedule is)

mapped_has : {X Y : Type 0} (f : X → Y) (xs : List X) (i : ℕ) (x : X) → slice_get xs i ≡ Some x → Contains (map f xs) (f x)
mapped_has f [] i x is = absurd (cc)
mapped_has f (y ∷ xs) zero x is = (0, omega arith, ap f (some_same y x is))
mapped_has f (y ∷ xs) (suc i) x is = let rest = mapped_has f xs i x is in (suc rest.0, omega (arith, rest.1), rest.2)

below : (key : Text) (entries : List (Text × Kept)) → AllByRecursion (λ other. by_bytes key other ≡ Less) (keys_of entries)
    → AllByRecursion (λ other. slice_cmp nat_cmp key.items other ≡ Less) (map (λ t. t.text) (map entry_told entries))
below key [] all = tt
below key (e ∷ entries) all = (all.0, below key entries all.1)

in_order : (entries : List (Text × Kept)) → IsStrictlySortedBy by_bytes (keys_of entries) → IsStrictlySortedBy (slice_cmp nat_cmp) (map (λ t. t.text) (map entry_told entries))
unfolding IsStrictlySortedBy
in_order [] ordered = tt
in_order (e ∷ entries) ordered = (below e.0 entries ordered.0, in_order entries ordered.1)

module _ (p : List (PlainItem ℕ)) (schedules : List (List Item)) (found : TextMap) (are : AreFound p schedules found) (ordered : IsOrdered by_bytes found) where
  abbrev IsOne : Text × Kept → Type 0
  IsOne e = Contains schedules e.1.items × GivesText p e.1.items e.0.items

  entry_is : (e : Text × Kept) → Contains found.entries e → IsOne e
  entry_is e has =
      let at : slice_get found.entries has.0 ≡ Some e = slice_get-get_or found.entries has.0 e has.1 ∙ ap Some has.2 in
      are.each e.0.items e.1.items
      (ap (option_map (λ (s : Kept). s.items)) (btree_map_get_place (on_total (λ (t : Text). t.items) nat_list_cmp_total) found has.0 e.0 e.1 ordered at))

  abbrev IsTold : List Item → Type 0
  IsTold s = (t : PlainOutcomeTold) × Contains (map entry_told found.entries) t × GivesText p s t.text × (length t.schedule ≤ length s)

  told_one : (s : List Item) → (text : List ℕ) × (kept : List Item) × (kept_by found text ≡ Some kept) × GivesText p s text × (length kept ≤ length s) → IsTold s
  told_one s met =
      let value = kept_at (get_by (at_bytes met.0) found) met.1 met.2 in
      let place = place_from_lookup (is_at (at_bytes met.0)) found.entries value.0 value.1 in
      let same : met.0 ≡ place.1.items = exact_bytes met.0 place.1.items (is_there (slice_cmp nat_cmp met.0 place.1.items) place.3) in (
        entry_told (place.1, value.0),
        mapped_has entry_told found.entries place.0 (place.1, value.0) place.2,
        subst (λ (t : List ℕ). GivesText p s t) same met.3,
        subst (λ (k : List Item). length k ≤ length s) (sym value.2) met.4,
      )

  outcomes_are : AreOutcomes p schedules (map entry_told found.entries)
  outcomes_are = record {
    each = All-map (λ (t : PlainOutcomeTold). Contains schedules t.schedule × GivesText p t.schedule t.text) entry_told found.entries
        (All-weaker (Contains found.entries) IsOne entry_is found.entries (All-contains_itself found.entries));
    all = All-weaker (λ s. (text : List ℕ) × (kept : List Item) × (kept_by found text ≡ Some kept) × GivesText p s text × (length kept ≤ length s)) IsTold told_one schedules are.all;
    ordered = in_order found.entries ordered;
  }

  pub outcomes_of : (told : List PlainOutcomeTold) → told ≡ map entry_told found.entries → AreOutcomes p schedules told
  outcomes_of told is = subst (λ (ts : List PlainOutcomeTold). AreOutcomes p schedules ts) (sym is) outcomes_are
