-- What was told of a light is found by the number of its object.
use Rattle.std.proofs.Common.{◌≡◌, ℕ, zero, suc, ◌+◌, Bool, true, false, nat_eq, cond, List, [], ◌∷◌, ◌++◌, Some, None, is_some, slice_get, refl, ap, sym, ◌∙◌, arith}
use Rattle.std.proofs.lemmas.Bool.Decides.{nat_tests}
use Rattle.std.specs.Map.{lookup}
use Rattle.cml_scan.specs.declared.object.Light.{Light}
use Rattle.cml_scan.specs.declared.object.Light.TheVariants as of
use Rattle.cml_scan.specs.Table.{same_light}
use Rattle.cml_scan.proofs.Telling.{light_eq}
use Rattle.cml_objects.specs.declared.pairing.PairedId.{PairedId}
use Rattle.cml_index.specs.declared.slot.Slot.{Slot}
use Rattle.cml_index.specs.declared.slot.Slot.TheVariants.{Side, Waiters}
use Rattle.cml_index.specs.Slot.{same_slot}
use Rattle.cml_index.specs.declared.told.Told.{Told}
use Rattle.cml_index.specs.Told.{flag_of, lit_in, flags_from, ticking, all_told, IsReserved}
use Rattle.cml_index.specs.Posts.{told, is_named, OnlyReserves, KeepsPlaces}

-- a list in which there is none before one that is sought, and one after it
skip : {K X : Type 0} (test : K → Bool) (xs ys : List (K × X)) → lookup test xs ≡ None → lookup test (xs ++ ys) ≡ lookup test ys
skip test [] ys none = refl
skip test (x ∷ xs) ys none = at (test x.0) none (skip test xs ys)
  where
    at : (b : Bool) → cond b (Some x.1) (lookup test xs) ≡ None → (lookup test xs ≡ None → lookup test (xs ++ ys) ≡ lookup test ys) → cond b (Some x.1) (lookup test (xs ++ ys)) ≡ lookup test ys
    at true e rest = cc
    at false e rest = rest e

stop : {K X : Type 0} (test : K → Bool) (xs ys : List (K × X)) → lookup test ys ≡ None → lookup test (xs ++ ys) ≡ lookup test xs
stop test [] ys none = none
stop test (x ∷ xs) ys none = ap (cond (test x.0) (Some x.1)) (stop test xs ys none)

neither : {K X : Type 0} (test : K → Bool) (xs ys : List (K × X)) → lookup test xs ≡ None → lookup test ys ≡ None → lookup test (xs ++ ys) ≡ None
neither test xs ys one two = skip test xs ys one ∙ two

-- among the lights of another kind there is none
foreign : (k : Slot) (light : ℕ → Light) → ((n : ℕ) → same_slot k (Waiters (light n)) ≡ false) → (n : ℕ) (bs : List Bool) → lookup (same_slot k) (flags_from light n bs) ≡ None
foreign k light off n [] = refl
foreign k light off n (b ∷ bs) = ap (λ t. cond t (Some b) (lookup (same_slot k) (flags_from light (n + 1) bs))) (off n) ∙ foreign k light off (n + 1) bs

no_tick : (k : Slot) → ((n : ℕ) → same_slot k (Waiters (of.Alarm n)) ≡ false) → (es : List (ℕ × Bool)) → lookup (same_slot k) (ticking es) ≡ None
no_tick k off [] = refl
no_tick k off (e ∷ es) = ap (λ t. cond t (Some e.1) (lookup (same_slot k) (ticking es))) (off e.0) ∙ no_tick k off es

is_here : (i n j : ℕ) → i ≡ n + j → j ≡ zero → nat_eq i n ≡ true
is_here i n j e z = grind (arith, nat_tests)

is_later : (i n j : ℕ) → i ≡ n + suc j → nat_eq i n ≡ false
is_later i n j e = grind (arith, nat_tests)

-- among those of its own kind it is at its number
own : (k : Slot) (light : ℕ → Light) (i : ℕ) → ((n : ℕ) → same_slot k (Waiters (light n)) ≡ nat_eq i n)
    → (n : ℕ) (bs : List Bool) (j : ℕ) → i ≡ n + j → lookup (same_slot k) (flags_from light n bs) ≡ slice_get bs j
own k light i on n [] j e = refl
own k light i on n (b ∷ bs) zero e = ap (λ t. cond t (Some b) (lookup (same_slot k) (flags_from light (n + 1) bs))) (on n ∙ is_here i n zero e refl)
own k light i on n (b ∷ bs) (suc j) e =
    ap (λ t. cond t (Some b) (lookup (same_slot k) (flags_from light (n + 1) bs))) (on n ∙ is_later i n j e)
    ∙ own k light i on (n + 1) bs j (omega (arith, e))

own_tick : (k : Slot) (t : ℕ) → ((n : ℕ) → same_slot k (Waiters (of.Alarm n)) ≡ nat_eq t n) → (es : List (ℕ × Bool)) → lookup (same_slot k) (ticking es) ≡ lookup (nat_eq t) es
own_tick k t on [] = refl
own_tick k t on (e ∷ es) = ap (λ b. cond b (Some e.1) (lookup (same_slot k) (ticking es))) (on e.0) ∙ ap (cond (nat_eq t e.0) (Some e.1)) (own_tick k t on es)

abbrev ivar : ℕ → Light
ivar n = of.IVar (record { 0 = n })

abbrev mvar : ℕ → Light
mvar n = of.MVar (record { 0 = n })

abbrev mailbox : ℕ → Light
mailbox n = of.Mbox (record { 0 = n })

abbrev port : ℕ → Light
port n = of.Port (record { 0 = n })

abbrev joined : ℕ → Light
joined n = of.Joined (record { 0 = n })

abbrev nack : ℕ → Light
nack n = of.Nack (record { 0 = n })

-- what is kept of a light is what the whole list has of it
pub found : (x : Told) (l : Light) → lookup (same_slot (Waiters l)) (all_told x) ≡ flag_of x l
found x l = at l
  where
    a : List (Slot × Bool)
    a = flags_from ivar 0 x.ivars.items

    b : List (Slot × Bool)
    b = flags_from mvar 0 x.mvars.items

    c : List (Slot × Bool)
    c = flags_from mailbox 0 x.mailboxes.items

    d : List (Slot × Bool)
    d = flags_from port 0 x.ports.items

    e : List (Slot × Bool)
    e = flags_from joined 0 x.joins.items

    f : List (Slot × Bool)
    f = flags_from nack 0 x.nacks.items

    g : List (Slot × Bool)
    g = ticking x.ticks.entries

    at : (l : Light) → lookup (same_slot (Waiters l)) (a ++ (b ++ (c ++ (d ++ (e ++ (f ++ g)))))) ≡ flag_of x l
    at (of.IVar i) =
        let k = Waiters (of.IVar i) in
        let t = same_slot k in
        stop t a (b ++ (c ++ (d ++ (e ++ (f ++ g)))))
        (neither t b (c ++ (d ++ (e ++ (f ++ g)))) (foreign k mvar (λ n. refl) 0 x.mvars.items)
        (neither t c (d ++ (e ++ (f ++ g))) (foreign k mailbox (λ n. refl) 0 x.mailboxes.items)
        (neither t d (e ++ (f ++ g)) (foreign k port (λ n. refl) 0 x.ports.items)
        (neither t e (f ++ g) (foreign k joined (λ n. refl) 0 x.joins.items)
        (neither t f g (foreign k nack (λ n. refl) 0 x.nacks.items) (no_tick k (λ n. refl) x.ticks.entries))))))
        ∙ own k ivar i.0 (λ n. refl) 0 x.ivars.items i.0 (omega arith)
    at (of.MVar m) =
        let k = Waiters (of.MVar m) in
        let t = same_slot k in
        skip t a (b ++ (c ++ (d ++ (e ++ (f ++ g))))) (foreign k ivar (λ n. refl) 0 x.ivars.items)
        ∙ stop t b (c ++ (d ++ (e ++ (f ++ g))))
        (neither t c (d ++ (e ++ (f ++ g))) (foreign k mailbox (λ n. refl) 0 x.mailboxes.items)
        (neither t d (e ++ (f ++ g)) (foreign k port (λ n. refl) 0 x.ports.items)
        (neither t e (f ++ g) (foreign k joined (λ n. refl) 0 x.joins.items)
        (neither t f g (foreign k nack (λ n. refl) 0 x.nacks.items) (no_tick k (λ n. refl) x.ticks.entries)))))
        ∙ own k mvar m.0 (λ n. refl) 0 x.mvars.items m.0 (omega arith)
    at (of.Mbox m) =
        let k = Waiters (of.Mbox m) in
        let t = same_slot k in
        skip t a (b ++ (c ++ (d ++ (e ++ (f ++ g))))) (foreign k ivar (λ n. refl) 0 x.ivars.items)
        ∙ skip t b (c ++ (d ++ (e ++ (f ++ g)))) (foreign k mvar (λ n. refl) 0 x.mvars.items)
        ∙ stop t c (d ++ (e ++ (f ++ g)))
        (neither t d (e ++ (f ++ g)) (foreign k port (λ n. refl) 0 x.ports.items)
        (neither t e (f ++ g) (foreign k joined (λ n. refl) 0 x.joins.items)
        (neither t f g (foreign k nack (λ n. refl) 0 x.nacks.items) (no_tick k (λ n. refl) x.ticks.entries))))
        ∙ own k mailbox m.0 (λ n. refl) 0 x.mailboxes.items m.0 (omega arith)
    at (of.Port p) =
        let k = Waiters (of.Port p) in
        let t = same_slot k in
        skip t a (b ++ (c ++ (d ++ (e ++ (f ++ g))))) (foreign k ivar (λ n. refl) 0 x.ivars.items)
        ∙ skip t b (c ++ (d ++ (e ++ (f ++ g)))) (foreign k mvar (λ n. refl) 0 x.mvars.items)
        ∙ skip t c (d ++ (e ++ (f ++ g))) (foreign k mailbox (λ n. refl) 0 x.mailboxes.items)
        ∙ stop t d (e ++ (f ++ g))
        (neither t e (f ++ g) (foreign k joined (λ n. refl) 0 x.joins.items)
        (neither t f g (foreign k nack (λ n. refl) 0 x.nacks.items) (no_tick k (λ n. refl) x.ticks.entries)))
        ∙ own k port p.0 (λ n. refl) 0 x.ports.items p.0 (omega arith)
    at (of.Joined j) =
        let k = Waiters (of.Joined j) in
        let t = same_slot k in
        skip t a (b ++ (c ++ (d ++ (e ++ (f ++ g))))) (foreign k ivar (λ n. refl) 0 x.ivars.items)
        ∙ skip t b (c ++ (d ++ (e ++ (f ++ g)))) (foreign k mvar (λ n. refl) 0 x.mvars.items)
        ∙ skip t c (d ++ (e ++ (f ++ g))) (foreign k mailbox (λ n. refl) 0 x.mailboxes.items)
        ∙ skip t d (e ++ (f ++ g)) (foreign k port (λ n. refl) 0 x.ports.items)
        ∙ stop t e (f ++ g) (neither t f g (foreign k nack (λ n. refl) 0 x.nacks.items) (no_tick k (λ n. refl) x.ticks.entries))
        ∙ own k joined j.0 (λ n. refl) 0 x.joins.items j.0 (omega arith)
    at (of.Nack n) =
        let k = Waiters (of.Nack n) in
        let t = same_slot k in
        skip t a (b ++ (c ++ (d ++ (e ++ (f ++ g))))) (foreign k ivar (λ n. refl) 0 x.ivars.items)
        ∙ skip t b (c ++ (d ++ (e ++ (f ++ g)))) (foreign k mvar (λ n. refl) 0 x.mvars.items)
        ∙ skip t c (d ++ (e ++ (f ++ g))) (foreign k mailbox (λ n. refl) 0 x.mailboxes.items)
        ∙ skip t d (e ++ (f ++ g)) (foreign k port (λ n. refl) 0 x.ports.items)
        ∙ skip t e (f ++ g) (foreign k joined (λ n. refl) 0 x.joins.items)
        ∙ stop t f g (no_tick k (λ n. refl) x.ticks.entries)
        ∙ own k nack n.0 (λ n. refl) 0 x.nacks.items n.0 (omega arith)
    at (of.Alarm u) =
        let k = Waiters (of.Alarm u) in
        let t = same_slot k in
        skip t a (b ++ (c ++ (d ++ (e ++ (f ++ g))))) (foreign k ivar (λ n. refl) 0 x.ivars.items)
        ∙ skip t b (c ++ (d ++ (e ++ (f ++ g)))) (foreign k mvar (λ n. refl) 0 x.mvars.items)
        ∙ skip t c (d ++ (e ++ (f ++ g))) (foreign k mailbox (λ n. refl) 0 x.mailboxes.items)
        ∙ skip t d (e ++ (f ++ g)) (foreign k port (λ n. refl) 0 x.ports.items)
        ∙ skip t e (f ++ g) (foreign k joined (λ n. refl) 0 x.joins.items)
        ∙ skip t f g (foreign k nack (λ n. refl) 0 x.nacks.items)
        ∙ own_tick k u (λ n. refl) x.ticks.entries

-- a side of an object is no light
no_side : (x : Told) (heads : Bool) (object : PairedId) → lookup (same_slot (Side heads object)) (all_told x) ≡ None
no_side x heads object =
    let k = Side heads object in
    let t = same_slot k in
    let f = flags_from nack 0 x.nacks.items in
    let g = ticking x.ticks.entries in
    let e = flags_from joined 0 x.joins.items in
    let d = flags_from port 0 x.ports.items in
    let c = flags_from mailbox 0 x.mailboxes.items in
    let b = flags_from mvar 0 x.mvars.items in
    neither t (flags_from ivar 0 x.ivars.items) (b ++ (c ++ (d ++ (e ++ (f ++ g))))) (foreign k ivar (λ n. refl) 0 x.ivars.items)
    (neither t b (c ++ (d ++ (e ++ (f ++ g)))) (foreign k mvar (λ n. refl) 0 x.mvars.items)
    (neither t c (d ++ (e ++ (f ++ g))) (foreign k mailbox (λ n. refl) 0 x.mailboxes.items)
    (neither t d (e ++ (f ++ g)) (foreign k port (λ n. refl) 0 x.ports.items)
    (neither t e (f ++ g) (foreign k joined (λ n. refl) 0 x.joins.items)
    (neither t f g (foreign k nack (λ n. refl) 0 x.nacks.items) (no_tick k (λ n. refl) x.ticks.entries))))))

-- the whole list, from what is kept
pub told_is : (x : Told) (l : Light) → told (all_told x) l ≡ lit_in (flag_of x l)
told_is x l = ap lit_in (found x l)

pub named_is : (x : Told) (l : Light) → is_named (all_told x) (Waiters l) ≡ is_some (flag_of x l)
named_is x l = ap is_some (found x l)

-- no light loses its place
pub keeps : (x y : Told) → ((l : Light) → is_some (flag_of x l) ≡ true → is_some (flag_of y l) ≡ true) → KeepsPlaces (all_told x) (all_told y)
keeps x y kept (Waiters l) there = named_is y l ∙ kept l (sym (named_is x l) ∙ there)
keeps x y kept (Side heads object) there = let no_ : is_named (all_told x) (Side heads object) ≡ false = ap is_some (no_side x heads object) in cc

pub only_reserves : (x y : Told) → IsReserved x y → OnlyReserves (all_told x) (all_told y)
only_reserves x y kept = record {
  same = λ l. told_is y l ∙ kept.same l ∙ sym (told_is x l);
  named = keeps x y kept.named;
}

-- one tick is forgotten, and each other light has its place as before
pub forgets : (x y : Told) (l : Light) → ((m : Light) → same_light l m ≡ false → flag_of y m ≡ flag_of x m) → (k : Slot)
    → same_slot (Waiters l) k ≡ false → is_named (all_told y) k ≡ is_named (all_told x) k
forgets x y l same (Waiters m) off = named_is y m ∙ ap is_some (same m (sym (light_eq l m) ∙ off)) ∙ sym (named_is x m)
forgets x y l same (Side heads object) off = ap is_some (no_side y heads object) ∙ sym (ap is_some (no_side x heads object))
