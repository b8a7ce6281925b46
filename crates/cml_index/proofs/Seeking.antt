-- A search among the leaves of one thread after another.
use Rattle.std.proofs.Common.{◌≡◌, ℕ, zero, suc, ◌+◌, ◌-◌, ◌<◌, ◌≤◌, Bool, true, false, cond, List, [], ◌∷◌, ◌++◌, map, length, nat_lt, Option, Some, None, refl, ap, sym, ◌∙◌, arith}
use Rattle.std.specs.Prelude.{slice_get}
use Rattle.std.specs.List.{filter}
use Rattle.std.proofs.lemmas.Bool.Decides.{nat_tests}
use Rattle.std.proofs.lemmas.List.{length-append, length-map, map-append}
use Rattle.std.proofs.lemmas.List.Elements.{filter-append}
use Rattle.cml_value.specs.Value.{PlainBase}
use Rattle.cml_value.specs.Group.{bases}
use Rattle.cml_scan.specs.World.{PlainEntry}
use Rattle.cml_scan.specs.Scan.{PlainOffer, leaves_from, offers_of, scan_of, heads_of}
use Rattle.cml_scan.specs.Order.{IsSorted, Every, place, before, before_numbers}
use Rattle.cml_scan.specs.declared.meet.Meet.{Meet}
use Rattle.cml_scan.specs.declared.meet.Place.{Place}
use Rattle.cml_scan.proofs.Partners.{scan_of-heads}
use Rattle.cml_index.specs.declared.slot.Slot.{Slot}
use Rattle.cml_index.specs.declared.heads.HeadKind.TheVariants.{Alone, Met}
use Rattle.cml_scan.specs.Light.{lit_by}
use Rattle.cml_index.specs.Heads.{is_sought}
use Rattle.cml_objects.specs.declared.lane.PartnerThreads.{PartnerThreads}
use Rattle.cml_index.specs.Slot.{met_by}
use Rattle.cml_index.specs.Posts.{told}
use Rattle.cml_index.proofs.Parted.{leaves_all, filter_fewer}
use Rattle.cml_index.proofs.Pairs.{any_by, partner_met}
use Rattle.cml_index.proofs.Receivers.{met_dark}

-- what is found in the first of two lists is found in both
pub found_first : {X : Type 0} (xs ys : List X) (k : ℕ) (x : X) → slice_get xs k ≡ Some x → slice_get (xs ++ ys) k ≡ Some x
found_first [] ys k x e = cc
found_first (y ∷ xs) ys zero x e = e
found_first (y ∷ xs) ys (suc k) x e = found_first xs ys k x e

-- what stands after the first of two lists is found in the second
pub found_behind : {X : Type 0} (xs ys : List X) (k more : ℕ) → k ≡ length xs + more → slice_get (xs ++ ys) k ≡ slice_get ys more
found_behind [] ys k more e = let same : k ≡ more = omega (arith, e) in ap (slice_get ys) same
found_behind (x ∷ xs) ys zero more e = absurd (omega (arith, e))
found_behind (x ∷ xs) ys (suc k) more e = found_behind xs ys k more (omega (arith, e))

-- what stands after one that is passed by
pub passed_by : {X : Type 0} (x : X) (xs : List X) (k : ℕ) → 0 < k → slice_get (x ∷ xs) k ≡ slice_get xs (k - 1)
passed_by x xs zero some = absurd (omega (arith, some))
passed_by x xs (suc k) some = let less : k ≡ suc k - 1 = omega arith in ap (slice_get xs) less

-- the leaf of a thread
abbrev pub leaf_at : ℕ → ℕ → PlainBase → PlainOffer
leaf_at t i b = record { thread = t; leaf = i; base = b }

-- the leaves of some threads are those of the first and those of the later ones
pub offers_more : (e : PlainEntry) (es : List PlainEntry) → length (offers_of (e ∷ es)) ≡ length (bases e.group) + length (offers_of es)
offers_more e es = length-append (leaves_from e.thread 0 (bases e.group)) (offers_of es) ∙ ap (λ n. n + length (offers_of es)) (leaves_all e.thread 0 (bases e.group))

pub sought_step : (f : PlainOffer → Bool) (e : PlainEntry) (es : List PlainEntry) → filter f (offers_of (e ∷ es)) ≡ filter f (leaves_from e.thread 0 (bases e.group)) ++ filter f (offers_of es)
sought_step f e es = filter-append f (leaves_from e.thread 0 (bases e.group)) (offers_of es)

pub sought_more : (f : PlainOffer → Bool) (e : PlainEntry) (es : List PlainEntry)
    → length (filter f (offers_of (e ∷ es)))
    ≡ length (filter f (leaves_from e.thread 0 (bases e.group))) + length (filter f (offers_of es))
sought_more f e es = ap length (sought_step f e es) ∙ length-append (filter f (leaves_from e.thread 0 (bases e.group))) (filter f (offers_of es))

pub sought_places : (f : PlainOffer → Bool) (e : PlainEntry) (es : List PlainEntry)
    → map place (filter f (offers_of (e ∷ es))) ≡ map place (filter f (leaves_from e.thread 0 (bases e.group))) ++ map place (filter f (offers_of es))
sought_places f e es = ap (map place) (sought_step f e es) ∙ map-append place (filter f (leaves_from e.thread 0 (bases e.group))) (filter f (offers_of es))

-- those that pass one of two tests, of which no one passes both, are no more than all
pub both_fewer : {X : Type 0} (f g : X → Bool) → ((x : X) → f x ≡ true → g x ≡ false) → (xs : List X) → length (filter f xs) + length (filter g xs) ≤ length xs
both_fewer f g apart [] = omega arith
both_fewer f g apart (x ∷ xs) = at (f x) (g x) (apart x) (both_fewer f g apart xs)
  where
    at : (a b : Bool) → (a ≡ true → b ≡ false) → length (filter f xs) + length (filter g xs) ≤ length xs
        → length (cond a (x ∷ filter f xs) (filter f xs)) + length (cond b (x ∷ filter g xs) (filter g xs)) ≤ length (x ∷ xs)
    at true true never h = let off : true ≡ false = never refl in cc
    at true false never h = omega (arith, h)
    at false true never h = omega (arith, h)
    at false false never h = omega (arith, h)

-- no leaf can be taken alone and has a partner
pub never_both : (flags : List (Slot × Bool)) (os : List PlainOffer) (o : PlainOffer) → is_sought Alone flags os o ≡ true → is_sought Met flags os o ≡ false
never_both flags os o e = partner_met os (record { 0 = o.thread }) o.leaf o.base ∙ at (met_by o.base (record { 0 = o.thread })) refl
  where
    at : (m : Option (Slot × PartnerThreads)) → met_by o.base (record { 0 = o.thread }) ≡ m → any_by os m ≡ false
    at (Some m) f = let dark : lit_by (told flags) o.base ≡ false = met_dark (told flags) o.base (record { 0 = o.thread }) m f in cc
    at None f = refl

-- the heads are those that can be taken alone, and then those that have a partner
pub heads_are : (flags : List (Slot × Bool)) (es : List PlainEntry) → IsSorted es
    → heads_of (scan_of es (told flags)) ≡ map place (filter (is_sought Alone flags (offers_of es)) (offers_of es)) ++ map place (filter (is_sought Met flags (offers_of es)) (offers_of es))
heads_are flags es up = scan_of-heads es (told flags) up

pub heads_many : (flags : List (Slot × Bool)) (es : List PlainEntry) → IsSorted es
    → length (heads_of (scan_of es (told flags))) ≡ length (filter (is_sought Alone flags (offers_of es)) (offers_of es)) + length (filter (is_sought Met flags (offers_of es)) (offers_of es))
heads_many flags es up =
    let alone = filter (is_sought Alone flags (offers_of es)) (offers_of es) in
    let met = filter (is_sought Met flags (offers_of es)) (offers_of es) in
    ap length (heads_are flags es up) ∙ length-append (map place alone) (map place met)
    ∙ ap (λ n. n + length (map place met)) (length-map alone place)
    ∙ ap (λ n. length alone + n) (length-map met place)

-- how many of a thread's leaves, from one on, stand after one of them
own_behind : (p : Place) (leaf : ℕ) (bs : List PlainBase) → leaf ≤ p.leaf → p.leaf < leaf + length bs
    → length (filter (λ o. before p (place o)) (leaves_from p.tid.0 leaf bs)) + p.leaf + 1 ≤ leaf + length bs
own_behind p leaf [] low high = absurd (omega (arith, low, high))
own_behind p leaf (b ∷ bs) low high = rw (not_behind p.tid.0 p.leaf leaf low) (at (nat_lt leaf p.leaf) refl (own_behind p (leaf + 1) bs))
  where
    not_behind : (t m n : ℕ) → n ≤ m → before_numbers t m t n ≡ false
    not_behind t m n low = grind (arith, nat_tests)

    above : (m n : ℕ) → nat_lt n m ≡ true → n + 1 ≤ m
    above m n e = grind (arith, nat_tests)

    same : (m n : ℕ) → n ≤ m → nat_lt n m ≡ false → m ≡ n
    same m n low e = grind (arith, nat_tests)

    long : length (b ∷ bs) ≡ length bs + 1
    long = omega arith

    at : (s : Bool) → nat_lt leaf p.leaf ≡ s
        → (leaf + 1 ≤ p.leaf → p.leaf < leaf + 1 + length bs → length (filter (λ o. before p (place o)) (leaves_from p.tid.0 (leaf + 1) bs)) + p.leaf + 1 ≤ leaf + 1 + length bs)
        → length (filter (λ o. before p (place o)) (leaves_from p.tid.0 (leaf + 1) bs)) + p.leaf + 1 ≤ leaf + length (b ∷ bs)
    at true e later =
        let up = above p.leaf leaf e in
        let rest = later up (omega (arith, high, long)) in
        omega (arith, rest, long)
    at false e later =
        let is = same p.leaf leaf low e in
        let few : length (filter (λ o. before p (place o)) (leaves_from p.tid.0 (leaf + 1) bs)) ≤ length
        (leaves_from p.tid.0 (leaf + 1) bs) = filter_fewer (λ o. before p (place o))
        (leaves_from p.tid.0 (leaf + 1) bs) in
        let all : length (leaves_from p.tid.0 (leaf + 1) bs) ≡ length bs = leaves_all p.tid.0 (leaf + 1) bs in
        omega (arith, is, few, all, long)

-- no leaf of a thread stands after one of a higher thread
none_behind : (p : Place) (t leaf : ℕ) (bs : List PlainBase) → nat_lt t p.tid.0 ≡ true → filter (λ o. before p (place o)) (leaves_from t leaf bs) ≡ []
none_behind p t leaf [] low = refl
none_behind p t leaf (b ∷ bs) low = rw (off p.tid.0 p.leaf t leaf low) (none_behind p t (leaf + 1) bs low)
  where
    off : (a m c n : ℕ) → nat_lt c a ≡ true → before_numbers a m c n ≡ false
    off a m c n e = grind (arith, nat_tests)

every_mid : {X : Type 0} (p : X → Bool) (xs ys : List X) (x : X) → Every p (xs ++ x ∷ ys) → p x ≡ true
every_mid p [] ys x each = each.0
every_mid p (y ∷ xs) ys x each = every_mid p xs ys x each.1

-- The leaves after one of a thread are fewer than those of this thread and of the later ones, by that leaf and those before it.
pub few_behind : (p : Place) (low : List PlainEntry) (e : PlainEntry) (high : List PlainEntry) → IsSorted (low ++ e ∷ high) → p.tid.0 ≡ e.thread → p.leaf < length (bases e.group)
    → length (filter (λ o. before p (place o)) (offers_of (low ++ e ∷ high))) + p.leaf + 1 ≤ length (offers_of (e ∷ high))
few_behind p [] e high up own within =
    let f : PlainOffer → Bool = λ o. before p (place o) in
    let mine = leaves_from e.thread 0 (bases e.group) in
    let here : mine ≡ leaves_from p.tid.0 0 (bases e.group) = ap (λ t. leaves_from t 0 (bases e.group)) (sym own) in
    let parts : length (filter f (mine ++ offers_of high))
    ≡ length (filter f mine) + length (filter f (offers_of high)) = ap length
    (filter-append f mine (offers_of high)) ∙ length-append (filter f mine) (filter f (offers_of high)) in
    let whole : length (mine ++ offers_of high) ≡ length mine + length (offers_of high) = length-append mine (offers_of high) in
    let later : length (filter f (offers_of high)) ≤ length (offers_of high) = filter_fewer f (offers_of high) in
    let counted : length (filter f mine) ≡ length (filter f (leaves_from p.tid.0 0 (bases e.group))) = ap (λ os. length (filter f os)) here in
    let many : length mine ≡ length (bases e.group) = ap length here ∙ leaves_all p.tid.0 0 (bases e.group) in
    let few : length (filter f (leaves_from p.tid.0 0 (bases e.group))) + p.leaf + 1 ≤ 0 + length (bases e.group) = own_behind p 0 (bases e.group) (omega arith) (omega (arith, within)) in
    omega (arith, parts, whole, later, counted, many, few)
few_behind p (x ∷ low) e high up own within =
    let f : PlainOffer → Bool = λ o. before p (place o) in
    let mine = leaves_from x.thread 0 (bases x.group) in
    let os = offers_of (low ++ e ∷ high) in
    let under : nat_lt x.thread e.thread ≡ true = every_mid (λ (y : PlainEntry). nat_lt x.thread y.thread) low high e up.0 in
    let none : filter f mine ≡ [] = none_behind p x.thread 0 (bases x.group) (ap (nat_lt x.thread) own ∙ under) in
    let rest : filter f (mine ++ os) ≡ filter f os = filter-append f mine os ∙ ap (λ ys. ys ++ filter f os) none in
    let counted : length (filter f (mine ++ os)) ≡ length (filter f os) = ap length rest in
    let k = few_behind p low e high up.1 own within in
    omega (arith, counted, k)

-- where there is no head there is no row
pub no_rows : (rows : List Meet) → length (heads_of rows) ≡ 0 → rows ≡ []
no_rows [] e = refl
no_rows (row ∷ rows) e = absurd (omega (arith, e))
