-- A digest, one part on.
use Rattle.std.proofs.Common.{◌≡◌, ℕ, suc, ◌+◌, ◌<◌, ◌≤◌, List, [], ◌∷◌, ◌++◌, length, map, drop, get_or, reverse, refl, ap, sym, ◌∙◌, drop-cons, arith}
use Rattle.std.specs.Prelude.{fold, Vec}
use Rattle.std.specs.declared.alloc.Global.{Global}
use Rattle.std.proofs.lemmas.List.{drop_all, reverse-append}
use Rattle.cml_value.specs.Value.{PlainValue}
use Rattle.cml_scan.specs.World.{PlainWorld}
use Rattle.cml_scan.specs.Views.{thread_of, lists_of}
use Rattle.cml_scan.specs.declared.world.ThreadState.{ThreadState}
use Rattle.cml_step.specs.Machines.{PlainHeld, PlainMachine}
use Rattle.cml_verify.specs.Digests.{mix, variable_mixed, thread_mixed, queue_mixed, entry_mixed, stack_mixed, digest_at}

module _ {A B : Type 0} (f : B → A → B) where
  -- one element more was looked at
  pub fold_next : (xs : List A) (i : ℕ) (x : A) (a b total : B) → i < length xs → x ≡ get_or xs i x → b ≡ f a x → fold f a (drop i xs) ≡ total → fold f b (drop (i + 1) xs) ≡ total
  fold_next xs i x a b total lt e n h =
      let one : suc i ≡ i + 1 = omega arith in
      let first : drop i xs ≡ x ∷ drop (i + 1) xs = drop-cons xs i x lt ∙ (ap (λ v. v ∷ drop (suc i) xs) (sym e) ∙ ap (λ k. x ∷ drop k xs) one) in
      ap (λ c. fold f c (drop (i + 1) xs)) n ∙ (sym (ap (fold f a) first) ∙ h)

  pub fold_done : (xs : List A) (i : ℕ) (a total : B) → length xs ≤ i → fold f a (drop i xs) ≡ total → a ≡ total
  fold_done xs i a total le h = sym (ap (fold f a) (drop_all i xs le)) ∙ h

pub fold_map : {A B C : Type 0} (f : B → A → B) (g : C → A) (xs : List C) (a : B) → fold (λ b x. f b (g x)) a xs ≡ fold f a (map g xs)
fold_map f g [] a = refl
fold_map f g (x ∷ xs) a = fold_map f g xs (f a (g x))

-- the entry on top was looked at
pub stack_next : (hs rest : List PlainHeld) (e : PlainHeld) (a b total : ℕ) → hs ≡ rest ++ e ∷ [] → b ≡ entry_mixed a e → stack_mixed a hs ≡ total → stack_mixed b rest ≡ total
unfolding stack_mixed
stack_next hs rest e a b total is n h =
    let first : reverse hs ≡ e ∷ reverse rest = ap reverse is ∙ reverse-append rest (e ∷ []) in
    ap (λ c. fold entry_mixed c (reverse rest)) n ∙ (sym (ap (fold entry_mixed a) first) ∙ h)

pub stack_done : (hs : List PlainHeld) (a total : ℕ) → hs ≡ [] → stack_mixed a hs ≡ total → a ≡ total
unfolding stack_mixed
stack_done hs a total is h = sym (ap (λ l. fold entry_mixed a (reverse l)) is) ∙ h

-- the digest of the parts of a world, one after another
pub digest_is : (w : PlainWorld) (machines : List PlainMachine) (threads : List ThreadState) (queues messages : List (Vec PlainValue Global)) (a b c d e f r : ℕ) → a ≡ mix w.tick w.channels
    → map thread_of threads ≡ w.threads → b ≡ fold (λ x t. thread_mixed x (thread_of t)) a threads → c ≡ fold variable_mixed b w.ivars → d ≡ fold variable_mixed c w.mvars
    → lists_of queues ≡ w.mailboxes → e ≡ fold (λ x q. queue_mixed x q.items) d queues → lists_of messages ≡ w.ports → f ≡ fold (λ x q. queue_mixed x q.items) e messages
    → r ≡ fold (λ x m. stack_mixed x m.stack) f machines → r ≡ digest_at w machines
unfolding digest_at
digest_is w machines threads queues messages a b c d e f r counts ts threads_are ivars_are mvars_are qs queues_are ms messages_are all =
    let over_threads : b ≡ fold thread_mixed (mix w.tick w.channels) w.threads =
    threads_are ∙ fold_map thread_mixed thread_of threads a ∙ ap (fold thread_mixed a) ts ∙ ap (λ x. fold thread_mixed x w.threads) counts in
    let over_ivars = ivars_are ∙ ap (λ x. fold variable_mixed x w.ivars) over_threads in
    let over_mvars = mvars_are ∙ ap (λ x. fold variable_mixed x w.mvars) over_ivars in
    let over_queues = queues_are ∙ fold_map queue_mixed (λ q. q.items) queues d ∙ ap (fold queue_mixed d) qs ∙ ap (λ x. fold queue_mixed x w.mailboxes) over_mvars in
    let over_messages = messages_are ∙ fold_map queue_mixed (λ q. q.items) messages e ∙ ap (fold queue_mixed e) ms ∙ ap (λ x. fold queue_mixed x w.ports) over_queues in
    all ∙ ap (λ x. fold (λ y m. stack_mixed y m.stack) x machines) over_messages
