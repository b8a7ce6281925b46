-- What commands on objects do to what a book keeps.
use Rattle.std.proofs.Common.{◌≡◌, ◌≢◌, ℕ, ◌<◌, Bool, true, false, nat_eq, nat_lt, cond, ◌||◌, List, [], ◌∷◌, ◌++◌}
use Rattle.std.proofs.Common.{length, length-set, map, refl, ap, sym, ◌∙◌, subst, arith, zero, suc, Option, Some}
use Rattle.std.proofs.Common.{None, Result, Ok, Err, slice_set}
use Rattle.std.specs.Prelude.{OnOk, OnErr, slice_get, is_some, is_none, unwrap_or}
use Rattle.std.specs.Option.{option_map_or}
use Rattle.std.proofs.lemmas.List.{map-id, length-map}
use Rattle.std.proofs.lemmas.Bool.Decides.{nat_tests}
use Rattle.cml_value.specs.Value.{PlainValue}
use Rattle.cml_value.specs.declared.number.IVarId.{IVarId}
use Rattle.cml_value.specs.declared.number.MVarId.{MVarId}
use Rattle.cml_value.specs.declared.number.MboxId.{MboxId}
use Rattle.cml_scan.specs.World.{PlainWorld, PlainEntry, pending_from}
use Rattle.cml_scan.specs.Light.{is_full, has_item, light_of}
use Rattle.cml_scan.specs.Table.{without, lit_after, AgreeFor}
use Rattle.cml_scan.specs.declared.object.Light.{Light}
use Rattle.cml_scan.specs.declared.object.Light.TheVariants as of
use Rattle.cml_objects.specs.Feeds.{PlainRefusal, IsAccepted}
use Rattle.cml_objects.specs.Feeds as of_feed
use Rattle.cml_objects.specs.PlainQueue.{PlainQueue}
use Rattle.cml_objects.specs.Queues.{queued, is_at_limit, is_filled, is_full_at, added_at}
use Rattle.cml_objects.specs.Registered.{fed_at, lit_at, put_back}
use Rattle.cml_objects.specs.Variables.{put_into}
use Rattle.cml_value.specs.Limits.{value_fits}
use Rattle.cml_book.specs.Put.{iput, mput}
use Rattle.cml_book.specs.Mail.{mail}
use Rattle.cml_book.specs.Views.{queues_of}
use Rattle.cml_book.specs.Telling.{newly_lit, StaysTrue, StaysKept}
use Rattle.cml_book.proofs.Pendings.{without_none}
use Rattle.cml_book.proofs.LightLemmas.{agree_still}
use Rattle.cml_book.proofs.NackLemmas.{get-set_other}

-- a change in which nobody goes or comes
pub same_entries : {X E : Type 0} (r : Result X E) (old new : List PlainEntry) → OnOk r (new ≡ without [] old) → OnErr r (new ≡ old) → new ≡ old
same_entries (Ok x) old new ok err = ok ∙ without_none old
same_entries (Err e) old new ok err = err

-- where threads and nacks are as they were, it is enough that what was told of the lights is still true
pub stays_kept : (w w' : PlainWorld) (es es' : List PlainEntry) (told told' : Light → Bool) → w'.threads ≡ w.threads → w'.nacks ≡ w.nacks → es' ≡ es
    → StaysTrue w told w' told' → StaysKept w es told w' es' told'
stays_kept w w' es es' told told' threads nacks same lights room k = record {
  told_groups = same ∙ k.told_groups ∙ sym (ap (pending_from 0) threads);
  told_lights = subst (λ ts. AgreeFor (pending_from 0 ts) told' (light_of w')) (sym threads) (agree_still (pending_from 0 w.threads) told told' (light_of w) (light_of w') lights k.told_lights);
  nacks_live = λ j. rw (threads, nacks) (k.nacks_live j);
  roomy = rw same k.roomy;
}

pub there_set : {X : Type 0} (xs : List X) (i : ℕ) (x : X) → i < length xs → slice_get (slice_set xs i x) i ≡ Some x
there_set [] i x h = absurd (omega arith)
there_set (y ∷ xs) zero x h = refl
there_set (y ∷ xs) (suc i) x h = there_set xs i x (omega arith)

pub there_push : {X : Type 0} (xs : List X) (x : X) → slice_get (xs ++ x ∷ []) (length xs) ≡ Some x
there_push [] x = refl
there_push (y ∷ xs) x = there_push xs x

pub other_push : {X : Type 0} (xs : List X) (j : ℕ) (x : X) → j ≢ length xs → slice_get (xs ++ x ∷ []) j ≡ slice_get xs j
other_push [] zero x h = absurd (h refl)
other_push [] (suc j) x h = refl
other_push (y ∷ xs) zero x h = refl
other_push (y ∷ xs) (suc j) x h = other_push xs j x (λ e. h (ap suc e))

-- a test of what stands at a place, after something was put there that passes it
test_set : {X : Type 0} (f : Option X → Bool) (xs : List X) (i j : ℕ) (x : X) → i < length xs → f (Some x) ≡ true
    → f (slice_get (slice_set xs i x) j) ≡ cond (nat_eq j i || false) true (f (slice_get xs j))
test_set f xs i j x h p = at (nat_eq j i) refl
  where
    at : (b : Bool) → nat_eq j i ≡ b → f (slice_get (slice_set xs i x) j) ≡ cond (b || false) true (f (slice_get xs j))
    at true e = let same : j ≡ i = grind (arith, nat_tests) in rw same (ap f (there_set xs i x h) ∙ p)
    at false e = let differ : i ≢ j = grind (arith, nat_tests) in ap f (get-set_other xs i j x differ)

test_same : {X : Type 0} (f : Option X → Bool) (xs : List X) (i j : ℕ) (x : X) → i < length xs → f (Some x) ≡ true → f (slice_get xs i) ≡ true
    → f (slice_get (slice_set xs i x) j) ≡ f (slice_get xs j)
test_same f [] i j x h p q = absurd (omega arith)
test_same f (y ∷ xs) zero zero x h p q = p ∙ sym q
test_same f (y ∷ xs) zero (suc j) x h p q = refl
test_same f (y ∷ xs) (suc i) zero x h p q = refl
test_same f (y ∷ xs) (suc i) (suc j) x h p q = test_same f xs i j x (omega arith) p q

-- the same, after something was put after all
pub test_push : {X : Type 0} (f : Option X → Bool) (xs : List X) (j : ℕ) (x : X) → f (Some x) ≡ true
    → f (slice_get (xs ++ x ∷ []) j) ≡ cond (nat_eq j (length xs) || false) true (f (slice_get xs j))
test_push f xs j x p = at (nat_eq j (length xs)) refl
  where
    at : (b : Bool) → nat_eq j (length xs) ≡ b → f (slice_get (xs ++ x ∷ []) j) ≡ cond (b || false) true (f (slice_get xs j))
    at true e = let same : j ≡ length xs = grind (arith, nat_tests) in rw same (ap f (there_push xs x) ∙ p)
    at false e = let differ : j ≢ length xs = grind (arith, nat_tests) in ap f (other_push xs j x differ)

pub quiet_push : {X B : Type 0} (f : Option X → B) (xs : List X) (j : ℕ) (x : X) → f (Some x) ≡ f None → f (slice_get (xs ++ x ∷ []) j) ≡ f (slice_get xs j)
quiet_push f [] zero x p = p
quiet_push f [] (suc j) x p = refl
quiet_push f (y ∷ xs) zero x p = refl
quiet_push f (y ∷ xs) (suc j) x p = quiet_push f xs j x p

-- an object that was not lit takes a value
pub empty_there : (xs : List (Option PlainValue)) (i : ℕ) → i < length xs → is_full (slice_get xs i) ≡ false → slice_get xs i ≡ Some None
empty_there [] i h e = absurd (omega arith)
empty_there (None ∷ xs) zero h e = refl
empty_there (Some v ∷ xs) zero h e = cc
empty_there (x ∷ xs) (suc i) h e = empty_there xs i (omega arith) e

pub fed_there : {S F : Type 0} (fed : S → F → Result S PlainRefusal) (xs : List S) (i : ℕ) (s t : S) (x : F) → slice_get xs i ≡ Some s → fed s x ≡ Ok t
    → fed_at fed xs i x ≡ Ok (slice_set xs i t)
fed_there fed xs i s t x e h = rw (e, h) refl

pub accepted_ok : {S : Type 0} (r : Result S PlainRefusal) (s : S) → r ≡ Ok s → IsAccepted r
accepted_ok (Ok s) t e = tt
accepted_ok (Err why) t e = cc

-- a register of variables in which nothing changed
pub same_variables : (xs ys : List (Option PlainValue)) → map (λ s. s) xs ≡ map (λ s. s) ys → xs ≡ ys
same_variables xs ys e = sym (map-id xs) ∙ e ∙ map-id ys

-- a put into an empty variable
pub put_there : (xs : List (Option PlainValue)) (i : ℕ) (v : PlainValue) → i < length xs → is_full (slice_get xs i) ≡ false
    → fed_at put_into (map (λ s. s) xs) i v ≡ Ok (slice_set xs i (Some v))
put_there xs i v h e = rw (map-id xs) (fed_there put_into xs i None (Some v) v (empty_there xs i h e) refl)

pub put_done : (xs ys : List (Option PlainValue)) (i : ℕ) (v : PlainValue) → i < length xs → is_full (slice_get xs i) ≡ false
    → fed_at put_into (map (λ s. s) xs) i v ≡ Ok (map (λ s. s) ys) → ys ≡ slice_set xs i (Some v)
put_done xs ys i v h e fed =
    let e1 = put_there xs i v h e in
    let out : map (λ (s : Option PlainValue). s) ys ≡ slice_set xs i (Some v) = cc in
    sym (map-id ys) ∙ out

lit_full : (xs : List (Option PlainValue)) (i : ℕ) → lit_at is_some (map (λ s. s) xs) i ≡ is_full (slice_get xs i)
lit_full xs i = rw (map-id xs) (at (slice_get xs i))
  where
    at : (o : Option (Option PlainValue)) → option_map_or is_some o false ≡ is_full o
    at None = refl
    at (Some None) = refl
    at (Some (Some v)) = refl

module _ (w : PlainWorld) (told told' : Light → Bool) where
  pub iput_true : (i : IVarId) (v : PlainValue) → i.0 < length w.ivars → is_full (slice_get w.ivars i.0) ≡ false
      → ((l : Light) → told' l ≡ lit_after (newly_lit (lit_at is_some (map (λ s. s) w.ivars) i.0) (of.IVar i)) [] l (told l))
      → StaysTrue w told (record w { ivars = slice_set w.ivars i.0 (Some v) }) told'
  iput_true i v h e lit l t = lit l ∙ (rw (lit_full w.ivars i.0, e) (at l t))
    where
      at : (l : Light) → told l ≡ light_of w l → lit_after (of.IVar i ∷ []) [] l (told l) ≡ light_of (record w { ivars = slice_set w.ivars i.0 (Some v) }) l
      at (of.IVar j) t = rw t (sym (test_set is_full w.ivars i.0 j.0 (Some v) h refl))
      at l t = t

  pub mput_true : (m : MVarId) (v : PlainValue) → m.0 < length w.mvars → is_full (slice_get w.mvars m.0) ≡ false
      → ((l : Light) → told' l ≡ lit_after (newly_lit (lit_at is_some (map (λ s. s) w.mvars) m.0) (of.MVar m)) [] l (told l))
      → StaysTrue w told (record w { mvars = slice_set w.mvars m.0 (Some v) }) told'
  mput_true m v h e lit l t = lit l ∙ (rw (lit_full w.mvars m.0, e) (at l t))
    where
      at : (l : Light) → told l ≡ light_of w l → lit_after (of.MVar m ∷ []) [] l (told l) ≡ light_of (record w { mvars = slice_set w.mvars m.0 (Some v) }) l
      at (of.MVar j) t = rw t (sym (test_set is_full w.mvars m.0 j.0 (Some v) h refl))
      at l t = t

-- what is accepted
pub iput_does : (w : PlainWorld) (i : ℕ) (v : PlainValue) → i < length w.ivars → is_full (slice_get w.ivars i) ≡ false → value_fits v ≡ true
    → iput w i v ≡ Ok (record w { ivars = slice_set w.ivars i (Some v) }, tt)
iput_does w i v h e f = let there : nat_lt i (length w.ivars) ≡ true = grind (arith, nat_tests) in rw (there, e, f) refl

pub mput_does : (w : PlainWorld) (m : ℕ) (v : PlainValue) → m < length w.mvars → is_full (slice_get w.mvars m) ≡ false → value_fits v ≡ true
    → mput w m v ≡ Ok (record w { mvars = slice_set w.mvars m (Some v) }, tt)
mput_does w m v h e f = let there : nat_lt m (length w.mvars) ≡ true = grind (arith, nat_tests) in rw (there, e, f) refl

-- there are as many queues as mailboxes or ports
pub long_enough : (qs : List PlainQueue) (i : ℕ) → i < length qs → i < length (queues_of qs)
long_enough qs i h = let e = length-map qs (λ (q : PlainQueue). q.items) in omega (arith, e)

pub queues_push : (qs : List PlainQueue) (q : PlainQueue) (s : List PlainValue) → q.items ≡ s → queues_of (qs ++ q ∷ []) ≡ queues_of qs ++ s ∷ []
queues_push [] q s e = ap (λ (items : List PlainValue). items ∷ []) e
queues_push (x ∷ qs) q s e = ap (λ (rest : List (List PlainValue)). x.items ∷ rest) (queues_push qs q s e)

-- a value that is put after the items of a queue which takes it
pub mail_there : (qs : List (List PlainValue)) (b : ℕ) (v : PlainValue) → is_full_at qs b ≡ false → fed_at queued qs b v ≡ Ok (added_at qs b v)
mail_there qs b v h = at (slice_get qs b) h
  where
    taken : (s : List PlainValue) (full : Bool) → full ≡ false → put_back qs b (cond full (Err of_feed.full) (Ok (s ++ v ∷ []))) ≡ Ok (slice_set qs b (s ++ v ∷ []))
    taken s true e = cc
    taken s false e = refl

    at : (o : Option (List PlainValue)) → option_map_or is_at_limit o false ≡ false
        → option_map_or (λ s. put_back qs b (queued s v)) o (Ok qs) ≡ Ok (option_map_or (λ s. slice_set qs b (s ++ v ∷ [])) o qs)
    at None e = refl
    at (Some s) e = taken s (is_at_limit s) e

pub mail_done : (qs rs : List (List PlainValue)) (b : ℕ) (v : PlainValue) → is_full_at qs b ≡ false → fed_at queued qs b v ≡ Ok rs → rs ≡ added_at qs b v
mail_done qs rs b v h fed = let e = mail_there qs b v h in cc

pub mail_does : (w : PlainWorld) (b : ℕ) (v : PlainValue) → b < length w.mailboxes → is_full_at w.mailboxes b ≡ false → value_fits v ≡ true
    → mail w b v ≡ Ok (record w { mailboxes = added_at w.mailboxes b v }, tt)
mail_does w b v h e f = let there : nat_lt b (length w.mailboxes) ≡ true = grind (arith, nat_tests) in rw (there, e, f) refl

lit_filled : (o : Option (List PlainValue)) → option_map_or is_filled o false ≡ has_item o
lit_filled None = refl
lit_filled (Some []) = refl
lit_filled (Some (v ∷ vs)) = refl

-- a queue with one more value has an item
item_added : (items : List PlainValue) (v : PlainValue) → has_item (Some (items ++ v ∷ [])) ≡ true
item_added [] v = refl
item_added (x ∷ items) v = refl

queue_there : (qs : List (List PlainValue)) (b : ℕ) → b < length qs → slice_get qs b ≡ Some (unwrap_or (slice_get qs b) [])
queue_there [] b h = absurd (omega arith)
queue_there (q ∷ qs) zero h = refl
queue_there (q ∷ qs) (suc b) h = queue_there qs b (omega arith)

added_is : (qs : List (List PlainValue)) (b : ℕ) (v : PlainValue) → b < length qs → added_at qs b v ≡ slice_set qs b (unwrap_or (slice_get qs b) [] ++ v ∷ [])
added_is qs b v h = at (slice_get qs b) (queue_there qs b h)
  where
    at : (o : Option (List PlainValue)) → o ≡ Some (unwrap_or o []) → option_map_or (λ s. slice_set qs b (s ++ v ∷ [])) o qs ≡ slice_set qs b (unwrap_or o [] ++ v ∷ [])
    at None e = cc
    at (Some s) e = refl

-- which queues have an item once a value was added to one
pub added_fills : (qs : List (List PlainValue)) (b j : ℕ) (v : PlainValue) → b < length qs → has_item (slice_get (added_at qs b v) j) ≡ cond (nat_eq j b || false) true (has_item (slice_get qs j))
added_fills qs b j v h = ap (λ (rs : List (List PlainValue)). has_item (slice_get rs j)) (added_is qs b v h) ∙ test_set has_item qs b j _ h (item_added (unwrap_or (slice_get qs b) []) v)

pub added_same : (qs : List (List PlainValue)) (b j : ℕ) (v : PlainValue) → b < length qs → has_item (slice_get qs b) ≡ true → has_item (slice_get (added_at qs b v) j) ≡ has_item (slice_get qs j)
added_same qs b j v h was = ap (λ (rs : List (List PlainValue)). has_item (slice_get rs j)) (added_is qs b v h) ∙ test_same has_item qs b j _ h (item_added (unwrap_or (slice_get qs b) []) v) was

pub length_added : (qs : List (List PlainValue)) (b : ℕ) (v : PlainValue) → length (added_at qs b v) ≡ length qs
length_added qs b v = at (slice_get qs b)
  where
    at : (o : Option (List PlainValue)) → length (option_map_or (λ s. slice_set qs b (s ++ v ∷ [])) o qs) ≡ length qs
    at None = refl
    at (Some s) = length-set qs b (s ++ v ∷ [])

module _ (w : PlainWorld) (told told' : Light → Bool) where
  pub mail_true : (b : MboxId) (v : PlainValue) → b.0 < length w.mailboxes
      → ((l : Light) → told' l ≡ lit_after (newly_lit (lit_at is_filled w.mailboxes b.0) (of.Mbox b)) [] l (told l))
      → StaysTrue w told (record w { mailboxes = added_at w.mailboxes b.0 v }) told'
  mail_true b v h lit l t = lit l ∙ (rw (lit_filled (slice_get w.mailboxes b.0)) (at (has_item (slice_get w.mailboxes b.0)) refl l t))
    where
      at : (was : Bool) → has_item (slice_get w.mailboxes b.0) ≡ was → (l : Light) → told l ≡ light_of w l
          → lit_after (newly_lit was (of.Mbox b)) [] l (told l)
          ≡ light_of (record w { mailboxes = added_at w.mailboxes b.0 v }) l
      at true e (of.Mbox j) t = t ∙ sym (added_same w.mailboxes b.0 j.0 v h e)
      at true e l t = t
      at false e (of.Mbox j) t = rw t (sym (added_fills w.mailboxes b.0 j.0 v h))
      at false e l t = t

  pub make_mvar_true : (held : Option PlainValue) (empty : Bool) (n : ℕ) → empty ≡ is_none held → n ≡ length w.mvars
      → ((l : Light) → told' l ≡ lit_after (newly_lit empty (of.MVar (record { 0 = n }))) [] l (told l))
      → StaysTrue w told (record w { mvars = w.mvars ++ held ∷ [] }) told'
  make_mvar_true None empty n f e lit l t = lit l ∙ (rw f (at l t))
    where
      at : (l : Light) → told l ≡ light_of w l → told l ≡ light_of (record w { mvars = w.mvars ++ None ∷ [] }) l
      at (of.MVar j) t = t ∙ sym (quiet_push is_full w.mvars j.0 None refl)
      at l t = t
  make_mvar_true (Some v) empty n f e lit l t = lit l ∙ (rw (f, e) (at l t))
    where
      at : (l : Light) → told l ≡ light_of w l → lit_after (of.MVar (record { 0 = length w.mvars }) ∷ []) [] l (told l) ≡ light_of (record w { mvars = w.mvars ++ Some v ∷ [] }) l
      at (of.MVar j) t = rw t (sym (test_push is_full w.mvars j.0 (Some v) refl))
      at l t = t

module _ (w : PlainWorld) (told : Light → Bool) where
  -- a new object that holds nothing lights nothing
  pub make_ivar_true : StaysTrue w told (record w { ivars = w.ivars ++ None ∷ [] }) told
  make_ivar_true (of.IVar j) t = t ∙ sym (quiet_push is_full w.ivars j.0 None refl)
  make_ivar_true l t = t

  pub make_mailbox_true : StaysTrue w told (record w { mailboxes = w.mailboxes ++ [] ∷ [] }) told
  make_mailbox_true (of.Mbox j) t = t ∙ sym (quiet_push has_item w.mailboxes j.0 [] refl)
  make_mailbox_true l t = t
